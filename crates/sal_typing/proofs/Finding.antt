-- What is found in a list, and where.
use Rattle.std.proofs.Common.{◌≡◌, ℕ, zero, suc, ◌+◌, ◌<◌, Bool, true, false, cond, List, [], ◌∷◌, ◌++◌, length, map, Some, None, option_map, refl, sym, ap, subst, ◌∙◌, arith}
use Rattle.std.specs.Prelude.{slice_get}
use Rattle.std.specs.List.{find, position, position_or_len}
use Rattle.std.specs.Str.{bytes_eq}
use Rattle.std.proofs.lemmas.Bool.{lt-ltb, le-ltb}
use Rattle.std.proofs.lemmas.Slice.Eq.{bytes_eq-Decides}
use Rattle.sal_typing.specs.Known.{Each}

one_more : (n : ℕ) → 1 + n ≡ suc n
one_more n = omega arith

-- the first that passes, and where it stands
pub record StandsFirst {X : Type 0} (p : X → Bool) (xs : List X) (x : X) : Type 0 where
  pub within : position_or_len p xs < length xs
  pub there : slice_get xs (position_or_len p xs) ≡ Some x
  pub passes : p x ≡ true

pub stands_first : {X : Type 0} (p : X → Bool) (xs : List X) (x : X) → find p xs ≡ Some x → StandsFirst p xs x
stands_first p [] x e = absurd cc
stands_first {X} p (y ∷ xs) x e = by (p y) refl e (λ f. stands_first p xs x f)
  where
    by : (b : Bool) → p y ≡ b → cond b (Some y) (find p xs) ≡ Some x → (find p xs ≡ Some x → StandsFirst p xs x) → StandsFirst p (y ∷ xs) x
    by true is e more = let same : y ≡ x = cc in record { within = rw is (omega arith); there = rw is e; passes = ap p (sym same) ∙ is }
    by false is e more =
        let m = more e in
        let l : position_or_len p xs < length xs = m.within in
        let t = m.there in
        record { within = rw is (omega (arith, l)); there = rw is (ap (slice_get (y ∷ xs)) (one_more (position_or_len p xs)) ∙ t); passes = m.passes }

pub position_of : {X : Type 0} (p : X → Bool) (xs : List X) (x : X) → find p xs ≡ Some x → position p xs ≡ Some (position_or_len p xs)
position_of p xs x e = let l = (stands_first p xs x e).within in rw (lt-ltb (position_or_len p xs) (length xs) l) refl

pub none_stands : {X : Type 0} (p : X → Bool) (xs : List X) → find p xs ≡ None → position_or_len p xs ≡ length xs
none_stands p [] e = refl
none_stands {X} p (y ∷ xs) e = by (p y) refl e (λ f. none_stands p xs f)
  where
    by : (b : Bool) → p y ≡ b → cond b (Some y) (find p xs) ≡ None → (find p xs ≡ None → position_or_len p xs ≡ length xs) → position_or_len p (y ∷ xs) ≡ length (y ∷ xs)
    by true is e more = absurd cc
    by false is e more = let m = more e in rw is (one_more (position_or_len p xs) ∙ ap suc m)

pub no_position : {X : Type 0} (p : X → Bool) (xs : List X) → find p xs ≡ None → position p xs ≡ None
no_position p xs e = let l = none_stands p xs e in rw (le-ltb (position_or_len p xs) (length xs) (omega (arith, l))) refl

pub find_in_map : {X Y : Type 0} (f : X → Y) (p : Y → Bool) (xs : List X) → find p (map f xs) ≡ option_map f (find (λ x. p (f x)) xs)
find_in_map f p [] = refl
find_in_map {X} {Y} f p (x ∷ xs) = by (p (f x)) (find_in_map f p xs)
  where
    by : (b : Bool) → find p (map f xs) ≡ option_map f (find (λ x. p (f x)) xs) → cond b (Some (f x)) (find p (map f xs)) ≡ option_map f (cond b (Some x) (find (λ x. p (f x)) xs))
    by true e = refl
    by false e = e

pub each_found : {X : Type 0} (P : X → Type 0) (p : X → Bool) (xs : List X) (x : X) → Each P xs → find p xs ≡ Some x → P x
each_found P p [] x h e = absurd cc
each_found {X} P p (y ∷ xs) x h e = by (p y) e (λ f. each_found P p xs x h.1 f)
  where
    by : (b : Bool) → cond b (Some y) (find p xs) ≡ Some x → (find p xs ≡ Some x → P x) → P x
    by true e more = let same : y ≡ x = cc in subst P same h.0
    by false e more = more e

pub each_at : {X : Type 0} (P : X → Type 0) (xs : List X) (n : ℕ) (x : X) → Each P xs → slice_get xs n ≡ Some x → P x
each_at P [] n x h e = absurd cc
each_at P (y ∷ xs) zero x h e = let same : y ≡ x = cc in subst P same h.0
each_at P (y ∷ xs) (suc n) x h e = each_at P xs n x h.1 e

pub each_join : {X : Type 0} (P : X → Type 0) (xs ys : List X) → Each P xs → Each P ys → Each P (xs ++ ys)
each_join P [] ys h k = k
each_join P (x ∷ xs) ys h k = (h.0, each_join P xs ys h.1 k)

pub same_bytes : (a b : List ℕ) → bytes_eq a b ≡ true → a ≡ b
same_bytes a b h = (bytes_eq-Decides a b).0 h

pub bytes_are : (a b : List ℕ) → a ≡ b → bytes_eq a b ≡ true
bytes_are a b e = (bytes_eq-Decides a b).1 e

pub bytes_turn : (a b : List ℕ) → bytes_eq a b ≡ false → bytes_eq b a ≡ false
bytes_turn a b h = by (bytes_eq b a) refl
  where
    by : (c : Bool) → bytes_eq b a ≡ c → c ≡ false
    by false e = refl
    by true e = let t : bytes_eq a b ≡ true = bytes_are a b (sym (same_bytes b a e)) in absurd (let f : true ≡ false = sym t ∙ h in cc)
