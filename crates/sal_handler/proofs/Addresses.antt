-- Sums over lists, numbers, and addresses that differ.
use Rattle.std.proofs.Common.{◌≡◌, ◌≢◌, ℕ, ◌+◌, ◌≤◌, ◌⊎◌, inl, inr, Bool, true, false, if◌then◌else◌, nat_eq, List, [], ◌∷◌, ◌++◌, refl, sym, ap, arith}
use Rattle.std.specs.Str.{bytes_eq}
use Rattle.std.proofs.lemmas.Slice.Eq.{bytes_eq-Decides}
use Rattle.std.proofs.lemmas.Bool.{ne_eqb, eqb-true}
use Rattle.sal_value.specs.declared.name.Name.{Name}
use Rattle.sal_value.proofs.Keys.{same_names}
use Rattle.sal_mail.specs.declared.message.Reply.{Reply}
use Rattle.sal_mail.specs.declared.message.Reply.TheVariants.{Nobody, Tok, Place, Outside}
use Rattle.sal_mail.specs.ReplyKeys.{reply_key}
use Rattle.sal_handler.specs.WellFormed.{EachOf, total, one_if_same, owes, IsOldReply}

-- ---- lists

pub total_append : {X : Type 0} (f : X → ℕ) (xs ys : List X) → total f (xs ++ ys) ≡ total f xs + total f ys
total_append f [] ys = omega arith
total_append f (x ∷ xs) ys = omega (arith, total_append f xs ys)

pub each_append : {X : Type 0} (P : X → Type 0) (xs ys : List X) → EachOf P xs → EachOf P ys → EachOf P (xs ++ ys)
each_append P [] ys p q = q
each_append P (x ∷ xs) ys p q = (p.0, each_append P xs ys p.1 q)

pub each_front : {X : Type 0} (P : X → Type 0) (xs ys : List X) → EachOf P (xs ++ ys) → EachOf P xs
each_front P [] ys p = tt
each_front P (x ∷ xs) ys p = (p.0, each_front P xs ys p.1)

pub each_back : {X : Type 0} (P : X → Type 0) (xs ys : List X) → EachOf P (xs ++ ys) → EachOf P ys
each_back P [] ys p = p
each_back P (x ∷ xs) ys p = each_back P xs ys p.1

pub each_more : {X : Type 0} (P Q : X → Type 0) (xs : List X) → ((x : X) → P x → Q x) → EachOf P xs → EachOf Q xs
each_more P Q [] f p = tt
each_more P Q (x ∷ xs) f p = (f x p.0, each_more P Q xs f p.1)

-- ---- numbers

pub number_most : (k n : ℕ) → one_if_same k n ≤ 1
number_most k n = at (nat_eq k n)
  where
    at : (b : Bool) → (if b then 1 else 0) ≤ 1
    at true = omega arith
    at false = omega arith

pub number_apart : (k n : ℕ) → (k ≡ n → ⊥) → one_if_same k n ≡ 0
number_apart k n e = rw (ne_eqb k n e) refl

-- it is the number, or it isn't
pub by_number : (k n : ℕ) → (k ≡ n) ⊎ (one_if_same k n ≡ 0)
by_number k n = at (nat_eq k n) refl
  where
    at : (b : Bool) → nat_eq k n ≡ b → (k ≡ n) ⊎ (one_if_same k n ≡ 0)
    at true e = inl (eqb-true k n e)
    at false e = inr (rw e refl)

-- ---- addresses

pub owes_most : (a : List ℕ) (r : Reply) → owes a r ≤ 1
owes_most a r = at (bytes_eq a (reply_key r))
  where
    at : (b : Bool) → (if b then 1 else 0) ≤ 1
    at true = omega arith
    at false = omega arith

pub owes_by : (a : List ℕ) (r : Reply) → (a ≡ reply_key r) ⊎ (owes a r ≡ 0)
owes_by a r = at (bytes_eq a (reply_key r)) refl
  where
    at : (b : Bool) → bytes_eq a (reply_key r) ≡ b → (a ≡ reply_key r) ⊎ (owes a r ≡ 0)
    at true e = inl ((bytes_eq-Decides a (reply_key r)).0 e)
    at false e = inr (rw e refl)

pub owes_apart : (a : List ℕ) (r : Reply) → (a ≡ reply_key r → ⊥) → owes a r ≡ 0
owes_apart a r f = elim (owes_by a r) [ inl e ↦ absurd (f e) | inr z ↦ z ]

-- only `Nobody` has no address
pub some_address : (r : Reply) → r ≢ Nobody → reply_key r ≡ [] → ⊥
some_address Nobody n e = n refl
some_address (Tok o k) n e = absurd cc
some_address (Place o j i) n e = absurd cc
some_address (Outside k) n e = absurd cc

abbrev tail_of : List ℕ → List ℕ
tail_of [] = []
tail_of (x ∷ xs) = xs

abbrev head_of : List ℕ → ℕ
head_of [] = 0
head_of (x ∷ xs) = x

-- two tokens of one number and maker, two places of one join and number
pub token_token : (o p : Name) (k n : ℕ) → reply_key (Tok o k) ≡ reply_key (Tok p n) → (k ≡ n) × (o ≡ p)
token_token o p k n e = (ap (λ l. head_of (tail_of l)) e, same_names o p (ap (λ l. tail_of (tail_of l)) e))

pub token_place : (o p : Name) (k n i : ℕ) → reply_key (Tok o k) ≡ reply_key (Place p n i) → ⊥
token_place o p k n i e = let f : 0 ≡ 1 = ap head_of e in absurd (omega (arith, f))

pub place_place : (o p : Name) (k i n j : ℕ) → reply_key (Place o k i) ≡ reply_key (Place p n j) → (i ≡ j) × (k ≡ n) × (o ≡ p)
place_place o p k i n j e = (ap (λ l. head_of (tail_of l)) e, ap (λ l. head_of (tail_of (tail_of l))) e, same_names o p (ap (λ l. tail_of (tail_of (tail_of l))) e))

-- an old reply is none of the new addresses
pub old_token : (me : Name) (from k : ℕ) (r : Reply) → IsOldReply me from r → from ≤ k → reply_key (Tok me k) ≡ reply_key r → ⊥
old_token me from k Nobody old le e = absurd cc
old_token me from k (Tok o n) old le e = let p = token_token me o k n e in let lt = old (sym p.1) in absurd (omega (arith, p.0, lt))
old_token me from k (Place o j i) old le e = token_place me o k j i e
old_token me from k (Outside n) old le e = let f : 0 ≡ 2 = ap head_of e in absurd (omega (arith, f))

pub old_place : (me : Name) (from k i : ℕ) (r : Reply) → IsOldReply me from r → from ≤ k → reply_key (Place me k i) ≡ reply_key r → ⊥
old_place me from k i Nobody old le e = absurd cc
old_place me from k i (Tok o n) old le e = token_place o me n k i (sym e)
old_place me from k i (Place o j n) old le e = let p = place_place me o k i j n e in let lt = old (sym p.2) in absurd (omega (arith, p.1, lt))
old_place me from k i (Outside n) old le e = let f : 1 ≡ 2 = ap head_of e in absurd (omega (arith, f))
