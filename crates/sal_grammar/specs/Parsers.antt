-- Parsers as functions on lists of tokens, and what they are built from.
use Rattle.std.specs.Prelude.{ℕ, zero, suc, if◌then◌else◌, List, [], ◌∷◌, ◌++◌, length, Result, Ok, Err}
use Rattle.sal_grammar.specs.declared.reason.Reason.{Reason}
use Rattle.sal_grammar.specs.declared.reason.Reason.TheVariants.{Form, Depth}
use Rattle.sal_grammar.specs.Tokens.{Token, Set, class_of, next}

-- a value and the rest, or why the first token of the rest is refused
abbrev pub Outcome : Type 0 → Type 0
Outcome A = Result (A × List Token) (Reason × List Token)

abbrev pub Parser : Type 0 → Type 0
Parser A = List Token → Outcome A

abbrev pub and_then : {A B : Type 0} → Outcome A → (A → Parser B) → Outcome B
and_then (Ok p) f = f p.0 p.1
and_then (Err e) f = Err e

infixl 10 ◌>>=◌
abbrev pub ◌>>=◌ : {A B : Type 0} → Parser A → (A → Parser B) → Parser B
p >>= f = λ i. and_then (p i) f

abbrev pub pure : {A : Type 0} → A → Parser A
pure a = λ i. Ok (a, i)

abbrev pub refuse : {A : Type 0} → Parser A
refuse = λ i. Err (Form, i)

abbrev pub too_deep : {A : Type 0} → Parser A
too_deep = λ i. Err (Depth, i)

abbrev pub token_at : Set → Parser Token
token_at is [] = Err (Form, [])
token_at is (t ∷ ts) = if is (class_of t) then Ok (t, ts) else Err (Form, t ∷ ts)

abbrev pub where_sees : {A : Type 0} → Set → Parser A → Parser A → Parser A
where_sees is p q = λ i. if is (next i) then p i else q i

-- a construct that counts, where one more may still be opened
abbrev pub allowed : ℕ → Parser (Unit {0})
allowed zero = too_deep
allowed (suc d) = pure tt

abbrev pub opened : {A : Type 0} → ℕ → Parser A → Parser A
opened d p = allowed d >>= (λ _. p)

-- while a token of the set comes, an item; the number bounds the turns, each of which takes a token
abbrev pub many_from : {A : Type 0} → ℕ → Set → Parser A → Parser (List A)
many_from zero go item = pure []
many_from (suc n) go item = where_sees go (item >>= (λ a. many_from n go item >>= (λ others. pure (a ∷ others)))) (pure [])

abbrev pub many : {A : Type 0} → Set → Parser A → Parser (List A)
many go item = λ i. many_from (length i) go item i

-- the items so far, before those that come
abbrev pub prepend : {A : Type 0} → List A → Outcome (List A) → Outcome (List A)
prepend found o = and_then o (λ others. pure (found ++ others))

-- what is left from the refused token on, or after the value
abbrev pub rest_of : {A : Type 0} → Outcome A → List Token
rest_of (Ok p) = p.1
rest_of (Err e) = e.1
