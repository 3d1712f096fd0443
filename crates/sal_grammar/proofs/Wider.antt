-- With two constructs more allowed only refusals for depth change: they come later or not at all.
use Rattle.std.proofs.Common.{◌≡◌, ℕ, zero, suc, ◌≤◌, ◌<◌, Bool, true, false, ◌||◌, if◌then◌else◌, List, [], ◌∷◌, length, refl, sym, ◌∙◌, ap, subst, length-append, arith}
use Rattle.std.specs.Prelude.{Ok, Err}
use Rattle.sal_grammar.specs.declared.class.Class.TheVariants as k
use Rattle.sal_grammar.specs.declared.reason.Reason.{Reason}
use Rattle.sal_grammar.specs.declared.reason.Reason.TheVariants.{Form, Depth}
use Rattle.sal_grammar.specs.Tokens.{Token, Set, next, class_of, none, both}
use Rattle.sal_grammar.specs.Parsers.{Outcome, Parser, and_then, ◌>>=◌, pure, refuse, token_at, where_sees, opened, many_from, many, rest_of}
use Rattle.sal_grammar.specs.Expressions.{unless_sees}
use Rattle.sal_grammar.proofs.Exactness.{Within, differ, Judged, Good}
use Rattle.sal_grammar.proofs.Choices.{Positive}

-- ---- what is left

pub record Fits {A : Type 0} (p : Parser A) : Type 0 where
  pub fits : (i : List Token) → length (rest_of (p i)) ≤ length i

-- a token of the set is taken, if not more
pub record Strict {A : Type 0} (is : Set) (p : Parser A) : Type 0 where
  pub fits : Fits p
  pub takes : (i : List Token) → is (next i) ≡ true → length (rest_of (p i)) < length i

judged_fits : {A : Type 0} (W : A → List Token → Type 0) (more : A → Set) (i : List Token) (o : Outcome A) → Judged W more i o → length (rest_of o) ≤ length i
judged_fits W more i (Ok p) h = omega (arith, length-append h.word p.1, ap length h.rest)
judged_fits W more i (Err e) h = omega (arith, length-append h.before e.1, ap length h.rest)

pub good_fits : {A : Type 0} {first : Set} {e : Bool} {W : A → List Token → Type 0} {more : A → Set} {p : Parser A} → Good none first e W more p → Fits p
good_fits {W = W} {more = more} {p = p} g = record { fits = λ i. judged_fits W more i (p i) (g.judged i refl) }

then_fits : {A C : Type 0} (q : A → Parser C) → ((a : A) → Fits (q a)) → (n : ℕ) (o : Outcome A) → length (rest_of o) ≤ n → length (rest_of (and_then o q)) ≤ n
then_fits q h n (Ok p) e = let f = (h p.0).fits p.1 in omega (arith, e, f)
then_fits q h n (Err x) e = e

pub seq_fits : {A C : Type 0} {p : Parser A} {q : A → Parser C} → Fits p → ((a : A) → Fits (q a)) → Fits (p >>= q)
seq_fits {p = p} {q = q} hp hq = record { fits = λ i. then_fits q hq (length i) (p i) (hp.fits i) }

then_less : {A C : Type 0} (q : A → Parser C) → ((a : A) → Fits (q a)) → (n : ℕ) (o : Outcome A) → length (rest_of o) < n → length (rest_of (and_then o q)) < n
then_less q h n (Ok p) e = let f = (h p.0).fits p.1 in omega (arith, e, f)
then_less q h n (Err x) e = e

pub strict_seq : {A C : Type 0} {is : Set} {p : Parser A} {q : A → Parser C} → Strict is p → ((a : A) → Fits (q a)) → Strict is (p >>= q)
strict_seq {p = p} {q = q} hp hq = record { fits = seq_fits hp.fits hq; takes = λ i e. then_less q hq (length i) (p i) (hp.takes i e) }

token_fits : (is : Set) (i : List Token) → length (rest_of (token_at is i)) ≤ length i
token_fits is [] = omega arith
token_fits is (t ∷ ts) = elim (is (class_of t)) as (λ b. length (rest_of (if b then Ok (t, ts) else Err (Form, t ∷ ts))) ≤ length (t ∷ ts)) [ true ↦ omega arith | false ↦ omega arith ]

token_takes : (is : Set) (i : List Token) → is k.End ≡ false → is (next i) ≡ true → length (rest_of (token_at is i)) < length i
token_takes is [] last e = absurd (differ (sym e ∙ last))
token_takes is (t ∷ ts) last e = subst (λ b. length (rest_of (if b then Ok (t, ts) else Err (Form, t ∷ ts))) < length (t ∷ ts)) (sym e) (omega arith)

pub strict_token : {is : Set} → is k.End ≡ false → Strict is (token_at is)
strict_token {is = is} last = record { fits = record { fits = token_fits is }; takes = λ i e. token_takes is i last e }

pub pure_fits : {A : Type 0} (a : A) → Fits (pure a)
pure_fits a = record { fits = λ i. omega arith }

pub one_fits : (is : Set) → Fits (token_at is)
one_fits is = record { fits = token_fits is }

-- a part and a closing token
pub closed_fits : {A C : Type 0} (close : Set) (f : A → C) {p : Parser A} → Fits p → Fits (p >>= (λ x. token_at close >>= (λ _. pure (f x))))
closed_fits close f h = seq_fits h (λ x. seq_fits (one_fits close) (λ _. pure_fits (f x)))

-- a token and then more
pub strict_then : {C : Type 0} {is : Set} {q : Token → Parser C} → is k.End ≡ false → ((t : Token) → Fits (q t)) → Strict is (token_at is >>= q)
strict_then last h = strict_seq (strict_token last) h

where_less : {A : Type 0} (x y : Outcome A) (n : ℕ) (b : Bool) → (b ≡ true → length (rest_of x) < n) → (b ≡ false → length (rest_of y) < n) → length (rest_of (if b then x else y)) < n
where_less x y n true h g = h refl
where_less x y n false h g = g refl

where_at_most : {A : Type 0} (x y : Outcome A) (n : ℕ) (b : Bool) → length (rest_of x) ≤ n → length (rest_of y) ≤ n → length (rest_of (if b then x else y)) ≤ n
where_at_most x y n true h g = h
where_at_most x y n false h g = g

pub where_fits : {A : Type 0} (is : Set) {p q : Parser A} → Fits p → Fits q → Fits (where_sees is p q)
where_fits is {p = p} {q = q} hp hq = record { fits = λ i. where_at_most (p i) (q i) (length i) (is (next i)) (hp.fits i) (hq.fits i) }

or_case : (a b : Bool) → a || b ≡ true → a ≡ false → b ≡ true
or_case false b e h = e
or_case true b e h = absurd (differ h)

-- in the second part the other tokens are taken
pub strict_where : {A : Type 0} {is f : Set} {p q : Parser A} → Strict is p → Strict f q → Strict (both is f) (where_sees is p q)
strict_where {is = is} {f = f} {p = p} {q = q} hp hq = record {
  fits = record { fits = λ i. where_at_most (p i) (q i) (length i) (is (next i)) (hp.fits.fits i) (hq.fits.fits i) };
  takes = λ i e. where_less (p i) (q i) (length i) (is (next i)) (λ x. hp.takes i x) (λ x. hq.takes i (or_case (is (next i)) (f (next i)) e x));
}

pub strict_less : {A : Type 0} {f g : Set} {p : Parser A} → Within f g → Strict g p → Strict f p
strict_less w h = record { fits = h.fits; takes = λ i e. h.takes i (w.at (next i) e) }

abbrev more_of : {A : Type 0} → ℕ → Set → Parser A → Parser (List A)
more_of n go item = item >>= (λ a. many_from n go item >>= (λ others. pure (a ∷ others)))

from_fits : {A : Type 0} (n : ℕ) (go : Set) (item : Parser A) → Fits item → Fits (many_from n go item)
from_fits zero go item h = record { fits = λ i. omega arith }
from_fits {A = A} (suc n) go item h = record {
  fits = λ i. where_at_most (more_of n go item i) (Ok ([], i)) (length i) (go (next i))
      ((seq_fits h (λ a. seq_fits (from_fits n go item h) (λ others. pure_fits (a ∷ others)))).fits i) (omega arith);
}

pub many_fits : {A : Type 0} (go : Set) {item : Parser A} → Fits item → Fits (many go item)
many_fits go {item = item} h = record { fits = λ i. (from_fits (length i) go item h).fits i }

-- ---- wider

abbrev pub WiderErr : {A : Type 0} → Reason → List Token → Outcome A → Type 0
WiderErr Form r o = o ≡ Err (Form, r)
WiderErr Depth r o = length (rest_of o) < length r

-- what more depth may change: only a refusal for depth
abbrev pub WiderOut : {A : Type 0} → Outcome A → Outcome A → Type 0
WiderOut (Ok p) o = o ≡ Ok p
WiderOut (Err e) o = WiderErr e.0 e.1 o

pub record Wider {A : Type 0} (p p' : Parser A) : Type 0 where
  pub at : (i : List Token) → WiderOut (p i) (p' i)
  pub fits : Fits p'

then_wider : {A C : Type 0} (q q' : A → Parser C) → ((a : A) → Wider (q a) (q' a)) → (o o' : Outcome A) → WiderOut o o' → WiderOut (and_then o q) (and_then o' q')
then_wider q q' h (Ok p) o' e = subst (λ z. WiderOut (q p.0 p.1) (and_then z q')) (sym e) ((h p.0).at p.1)
then_wider q q' h (Err (Form, r)) o' e = ap (λ z. and_then z q') e
then_wider q q' h (Err (Depth, r)) (Ok p) e = let f = (h p.0).fits.fits p.1 in omega (arith, e, f)
then_wider q q' h (Err (Depth, r)) (Err x) e = e

pub wider_seq : {A C : Type 0} {p p' : Parser A} {q q' : A → Parser C} → Wider p p' → ((a : A) → Wider (q a) (q' a)) → Wider (p >>= q) (p' >>= q')
wider_seq {p = p} {p' = p'} {q = q} {q' = q'} hp hq = record { at = λ i. then_wider q q' hq (p i) (p' i) (hp.at i); fits = seq_fits hp.fits (λ a. (hq a).fits) }

pub wider_pure : {A : Type 0} {a : A} → Wider (pure a) (pure a)
wider_pure = record { at = λ i. refl; fits = record { fits = λ i. omega arith } }

pub wider_refuse : {A : Type 0} → Wider (refuse {A = A}) (refuse {A = A})
wider_refuse = record { at = λ i. refl; fits = record { fits = λ i. omega arith } }

if_wider : {A : Type 0} (x x' y y' : Outcome A) (b : Bool) → WiderOut x x' → WiderOut y y' → WiderOut (if b then x else y) (if b then x' else y')
if_wider x x' y y' true h g = h
if_wider x x' y y' false h g = g

pub wider_where : {A : Type 0} (is : Set) {p p' q q' : Parser A} → Wider p p' → Wider q q' → Wider (where_sees is p q) (where_sees is p' q')
wider_where is {p = p} {p' = p'} {q = q} {q' = q'} hp hq = record {
  at = λ i. if_wider (p i) (p' i) (q i) (q' i) (is (next i)) (hp.at i) (hq.at i);
  fits = record { fits = λ i. where_at_most (p' i) (q' i) (length i) (is (next i)) (hp.fits.fits i) (hq.fits.fits i) };
}

pub wider_unless : {A : Type 0} (set : Set) (a : A) → Wider (unless_sees set a) (unless_sees set a)
wider_unless set a = wider_where set wider_refuse wider_pure

token_same : (is : Set) (i : List Token) → WiderOut (token_at is i) (token_at is i)
token_same is [] = refl
token_same is (t ∷ ts) = if_wider (Ok (t, ts)) (Ok (t, ts)) (Err (Form, t ∷ ts)) (Err (Form, t ∷ ts)) (is (class_of t)) refl refl

pub wider_token : (is : Set) → Wider (token_at is) (token_at is)
wider_token is = record { at = token_same is; fits = record { fits = token_fits is } }

pub wider_then : {C : Type 0} (is : Set) {q q' : Token → Parser C} → ((t : Token) → Wider (q t) (q' t)) → Wider (token_at is >>= q) (token_at is >>= q')
wider_then is h = wider_seq (wider_token is) h

pub wider_map : {A C : Type 0} (f : A → C) {p p' : Parser A} → Wider p p' → Wider (p >>= (λ x. pure (f x))) (p' >>= (λ x. pure (f x)))
wider_map f h = wider_seq h (λ x. wider_pure)

pub wider_closed : {A C : Type 0} (close : Set) (f : A → C) {p p' : Parser A} → Wider p p'
    → Wider (p >>= (λ x. token_at close >>= (λ _. pure (f x)))) (p' >>= (λ x. token_at close >>= (λ _. pure (f x))))
wider_closed close f h = wider_seq h (λ x. wider_then close (λ _. wider_pure))

-- ---- constructs that count

shut_if : {A : Type 0} (x y y' : Outcome A) (i : List Token) (b : Bool) → (b ≡ true → length (rest_of x) < length i) → WiderOut y y' → WiderOut (if b then Err (Depth, i) else y) (if b then x else y')
shut_if x y y' i true h g = h refl
shut_if x y y' i false h g = g

pub wider_counted : {A : Type 0} {is : Set} {p p' q q' : Parser A} (d : ℕ) → Strict is p' → (Positive d → Wider p p') → Wider q q'
    → Wider (where_sees is (opened d p) q) (where_sees is (opened (suc (suc d)) p') q')
wider_counted {is = is} {p = p} {p' = p'} {q = q} {q' = q'} zero s hp hq = record {
  at = λ i. shut_if (p' i) (q i) (q' i) i (is (next i)) (λ e. s.takes i e) (hq.at i);
  fits = record { fits = λ i. where_at_most (p' i) (q' i) (length i) (is (next i)) (s.fits.fits i) (hq.fits.fits i) };
}
wider_counted {is = is} (suc d) s hp hq = wider_where is (hp tt) hq

-- ---- lists

from_wider : {A : Type 0} (n : ℕ) (go : Set) (item item' : Parser A) → Wider item item' → Wider (many_from n go item) (many_from n go item')
from_wider zero go item item' h = wider_pure
from_wider (suc n) go item item' h = wider_where go (wider_seq h (λ a. wider_map (λ others. a ∷ others) (from_wider n go item item' h))) wider_pure

pub wider_many : {A : Type 0} {go : Set} {item item' : Parser A} → Wider item item' → Wider (many go item) (many go item')
wider_many {go = go} {item = item} {item' = item'} h = record {
  at = λ i. (from_wider (length i) go item item' h).at i;
  fits = record { fits = λ i. (from_wider (length i) go item item' h).fits.fits i };
}

shut_from : {A : Type 0} (n : ℕ) (go : Set) (p p' : Parser A) → Strict go p' → (i : List Token) → WiderOut (many_from n go (opened zero p) i) (many_from n go p' i)
shut_from zero go p p' s i = refl
shut_from (suc n) go p p' s i =
    shut_if (more_of n go p' i) (Ok ([], i)) (Ok ([], i)) i (go (next i))
    (λ e. then_less (λ a. many_from n go p' >>= (λ others. pure (a ∷ others))) (λ a. seq_fits (from_fits n go p' s.fits) (λ others. pure_fits (a ∷ others))) (length i) (p' i) (s.takes i e)) refl

pub wider_many_counted : {A : Type 0} {go : Set} {p p' : Parser A} (d : ℕ) → Strict go p' → (Positive d → Wider p p') → Wider (many go (opened d p)) (many go (opened (suc (suc d)) p'))
wider_many_counted {go = go} {p = p} {p' = p'} zero s h = record {
  at = λ i. shut_from (length i) go p p' s i;
  fits = record { fits = λ i. (from_fits (length i) go p' s.fits).fits i };
}
wider_many_counted (suc d) s h = wider_many (h tt)
