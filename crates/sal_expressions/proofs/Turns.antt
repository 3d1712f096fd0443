-- A list of items, beside a loop that counts its turns up.
use Rattle.std.proofs.Common.{◌≡◌, ℕ, zero, suc, ◌+◌, ◌-◌, ◌<◌, ◌≤◌, Bool, true, false, if◌then◌else◌, List, [], ◌∷◌, ◌++◌, length, refl, sym, ap, ◌∙◌, append_assoc, append-nil, arith}
use Rattle.std.specs.Prelude.{Ok, Err}
use Rattle.sal_grammar.specs.declared.class.Class.{Class}
use Rattle.sal_grammar.specs.declared.reason.Reason.{Reason}
use Rattle.sal_grammar.specs.Expressions.{pair, pairs}
use Rattle.sal_grammar.specs.Parsers.{Outcome, Parser, and_then, ◌>>=◌, pure, many_from, prepend}
use Rattle.sal_grammar.specs.Sets as is
use Rattle.sal_grammar.specs.Tokens.{Token, Set, next}
use Rattle.sal_reader.specs.declared.stop.Stop.{Stop}
use Rattle.sal_reader.specs.declared.stop.Stop.TheVariants.{Memory, Refused}
use Rattle.sal_reader.specs.Reads.{Reads}

-- what one turn does, given what the item read
abbrev after : {A : Type 0} → ℕ → Set → Parser A → Outcome A → Outcome (List A)
after n go item o = and_then o (λ a. many_from n go item >>= (λ others. pure (a ∷ others)))

prepend_one : {A : Type 0} (found : List A) (a : A) (o : Outcome (List A)) → prepend found (and_then o (λ others. pure (a ∷ others))) ≡ prepend (found ++ a ∷ []) o
prepend_one found a (Ok p) = ap (λ z. Ok (z, p.1)) (sym (append_assoc found (a ∷ []) p.0))
prepend_one found a (Err e) = refl

if_true : {X : Type 0} (x y : X) (b : Bool) → b ≡ true → (if b then x else y) ≡ x
if_true x y true e = refl
if_true x y false e = absurd (let f : false ≡ true = e in cc)

pub if_false : {X : Type 0} (x y : X) (b : Bool) → b ≡ false → (if b then x else y) ≡ y
if_false x y false e = refl
if_false x y true e = absurd (let f : true ≡ false = e in cc)

one_turn : {A : Type 0} (n : ℕ) (go : Set) (item : Parser A) (i : List Token) → go (next i) ≡ true → many_from (suc n) go item i ≡ after n go item (item i)
one_turn n go item i e = if_true (after n go item (item i)) (Ok ([], i)) (go (next i)) e

left_turns : (n at : ℕ) → at < n → n - at ≡ suc (n - (at + 1))
left_turns n at h = omega arith

pub turn_ok : {A : Type 0} (t : Outcome (List A)) (n at : ℕ) (go : Set) (item : Parser A) (found : List A) (i r : List Token) (a : A) → at < n
    → t ≡ prepend found (many_from (n - at) go item i) → go (next i) ≡ true → item i ≡ Ok (a, r) → t ≡ prepend (found ++ a ∷ []) (many_from (n - (at + 1)) go item r)
turn_ok t n at go item found i r a h e g x =
    e ∙ (ap (λ z. prepend found (many_from z go item i)) (left_turns n at h) ∙ (ap (prepend found) (one_turn (n - (at + 1)) go item i g ∙ ap (after (n - (at + 1)) go item) x)
    ∙ prepend_one found a (many_from (n - (at + 1)) go item r)))

pub turn_err : {A : Type 0} (t : Outcome (List A)) (n at : ℕ) (go : Set) (item : Parser A) (found : List A) (i r : List Token) (x : Reason) → at < n
    → t ≡ prepend found (many_from (n - at) go item i) → go (next i) ≡ true → item i ≡ Err (x, r) → t ≡ Err (x, r)
turn_err t n at go item found i r x h e g y =
    e ∙ (ap (λ z. prepend found (many_from z go item i)) (left_turns n at h) ∙ ap (prepend found) (one_turn (n - (at + 1)) go item i g ∙ ap (after (n - (at + 1)) go item) y))

pub turn_stop : {A : Type 0} (t : Outcome (List A)) (n at : ℕ) (go : Set) (item : Parser A) (found : List A) (i : List Token) → at < n
    → t ≡ prepend found (many_from (n - at) go item i) → go (next i) ≡ false → t ≡ Ok (found, i)
turn_stop t n at go item found i h e g =
    e ∙ (ap (λ z. prepend found (many_from z go item i)) (left_turns n at h) ∙ (ap (prepend found) (if_false (after (n - (at + 1)) go item (item i)) (Ok ([], i)) (go (next i)) g) ∙ ap (λ z. Ok (z, i)) (append-nil found)))

pub turn_none : {A : Type 0} (t : Outcome (List A)) (n at : ℕ) (go : Set) (item : Parser A) (found : List A) (i : List Token) → n ≤ at
    → t ≡ prepend found (many_from (n - at) go item i) → t ≡ Ok (found, i)
turn_none t n at go item found i h e =
    let none : n - at ≡ 0 = omega arith in
    e ∙ (ap (λ z. prepend found (many_from z go item i)) none ∙ ap (λ z. Ok (z, i)) (append-nil found))

pub start : {A : Type 0} (o : Outcome (List A)) → o ≡ prepend [] o
start (Ok p) = refl
start (Err e) = refl

-- ---- items that are only counted

pub units : ℕ → List (Unit {0})
units zero = []
units (suc n) = tt ∷ units n

pub length-units : (n : ℕ) → length (units n) ≡ n
unfolding units
length-units zero = refl
length-units (suc n) = ap suc (length-units n)

units-suc : (n : ℕ) → units n ++ tt ∷ [] ≡ units (suc n)
unfolding units
units-suc zero = refl
units-suc (suc n) = ap (λ z. tt ∷ z) (units-suc n)

pub units-next : (n m : ℕ) → m ≡ n + 1 → units n ++ tt ∷ [] ≡ units m
units-next n m e = units-suc n ∙ ap units (omega arith)

pub pairs_start : (n : ℕ) (i : List Token) → n ≡ length i → many_from (length i) is.open_bracket pair i ≡ prepend (units 0) (many_from (n - 0) is.open_bracket pair i)
unfolding units
pairs_start n i e =
    let f : n - 0 ≡ length i = omega arith in
    start (many_from (length i) is.open_bracket pair i) ∙ ap (λ z. prepend [] (many_from z is.open_bracket pair i)) (sym f)

pub pairs_done : (i r : List Token) (n : ℕ) → many_from (length i) is.open_bracket pair i ≡ Ok (units n, r) → pairs i ≡ Ok (n, r)
pairs_done i r n e = ap (λ z. and_then z (λ found. pure (length found))) e ∙ ap (λ k. Ok (k, r)) (length-units n)

pub pairs_err : (i r : List Token) (why : Reason) → many_from (length i) is.open_bracket pair i ≡ Err (why, r) → pairs i ≡ Err (why, r)
pairs_err i r why e = ap (λ z. and_then z (λ found. pure (length found))) e

-- what a test of a set by another name says
pub seen : (f g : Set) (k : Class) (b v : Bool) → f ≡ g → b ≡ f k → b ≡ v → g k ≡ v
seen f g k b v e s h = sym (ap (λ (z : Set). z k) e) ∙ (sym s ∙ h)

pub pairs_stop : (n at count : ℕ) (i here r : List Token) (stop : Stop) → at < n
    → many_from (length i) is.open_bracket pair i ≡ prepend (units count) (many_from (n - at) is.open_bracket pair here)
    → is.open_bracket (next here) ≡ true → Reads (pair here) (Err stop) r → Reads (pairs i) (Err stop) r
pairs_stop n at count i here r Memory h e g x = tt
pairs_stop n at count i here r (Refused why) h e g x =
    pairs_err i r why (turn_err _ n at is.open_bracket pair (units count) here r why h e g x)
