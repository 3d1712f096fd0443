-- Steps that recur in the grammar.
use Rattle.std.proofs.Common.{◌≡◌, ◌⊎◌, inl, inr, Bool, true, false, ◌||◌, List, refl, sym}
use Rattle.sal_grammar.specs.declared.class.Class.{Class}
use Rattle.sal_grammar.specs.declared.class.Class.TheVariants as k
use Rattle.sal_grammar.specs.Tokens.{Token, Set, none, both, within}
use Rattle.sal_grammar.specs.Parsers.{Parser, ◌>>=◌, pure, token_at}
use Rattle.sal_grammar.proofs.Languages.{Seq, One, Just}
use Rattle.sal_grammar.proofs.Exactness.{Apart, Within, differ, When, Ends, Good, seq_good, seq_good_empty}
use Rattle.sal_grammar.proofs.Classes.{sub}
use Rattle.sal_grammar.proofs.Choices.{nothing, token_good, pure_good, first_good, or_neither}

pub self : {f : Set} → Within f f
self = record { at = λ c e. e }

never : {P : Type 0} → false ≡ true → P
never e = absurd (differ (sym e))

pub no : {g : Set} → Apart none g
no = record { at = λ c e. never e }

pub free : {f : Set} → Apart f none
free = record { at = λ c e. refl }

pub least : {f : Set} → Within none f
least = record { at = λ c e. never e }

or_none : (b : Bool) → b || false ≡ true → b ≡ true
or_none true e = refl
or_none false e = e

or_second : (a b : Bool) → b ≡ true → a || b ≡ true
or_second true b e = refl
or_second false b e = e

pub with_none : {f g : Set} → Apart f g → Apart (both f none) g
with_none {f = f} a = record { at = λ c e. a.at c (or_none (f c) e) }

pub drop_none : {f : Set} → Within (both f none) f
drop_none {f = f} = record { at = λ c e. or_none (f c) e }

pub second_in : (f : Set) {g : Set} → Within g (both f g)
second_in f {g = g} = record { at = λ c e. or_second (f c) (g c) e }

or_case : (a b : Bool) → a || b ≡ true → (a ≡ true) ⊎ (b ≡ true)
or_case true b e = inl refl
or_case false b e = inr e

pub both_apart : {f g h : Set} → Apart f h → Apart g h → Apart (both f g) h
both_apart {f = f} {g = g} {h = h} a b = record { at = λ c e. elim (or_case (f c) (g c) e) as (λ _. h c ≡ false) [ inl x ↦ a.at c x | inr x ↦ b.at c x ] }

pub apart_both : {f g h : Set} → Apart f g → Apart f h → Apart f (both g h)
apart_both {g = g} {h = h} a b = record { at = λ c e. or_neither (g c) (h c) (a.at c e) (b.at c e) }

bools : (a b : Bool) → (a ≡ true → b ≡ true) → (b ≡ true → a ≡ true) → a ≡ b
bools true b f g = sym (f refl)
bools false true f g = g refl
bools false false f g = refl

-- the same set, in other words
pub agree : (f g : Set) → within f g ≡ true → within g f ≡ true → (c : Class) → f c ≡ g c
agree f g h h' c =
    let x : Within f g = sub h in
    let y : Within g f = sub h' in
    bools (f c) (g c) (x.at c) (y.at c)

when_nothing : {C : Type 0} (e : Bool) (V : Token → C → List Token → Type 0) (more' : C → Set) → When e (Ends nothing V more')
when_nothing true V more' = λ a c v. record { at = λ k e. never e }
when_nothing false V more' = tt

-- nothing but a value, where anything may follow
pub done : {A : Type 0} {pre : Set} (a : A) → Good pre none true (Just a) nothing (pure a)
done a = pure_good a (record { at = λ c e. never e })

-- a token, one of whose classes is told, and then more
pub then_good : {C : Type 0} {pre is : Set} {g : Token → Set} {e : Bool} {more' : C → Set} {V : Token → C → List Token → Type 0} {q : Token → Parser C}
    (c : Class) → is c ≡ true → is k.End ≡ false → ((t : Token) → Good none (g t) e (V t) more' (q t)) → Good pre is false (Seq (One is) V) more' (token_at is >>= q)
then_good {e = e} {more' = more'} {V = V} c sure never' gq = seq_good (token_good c sure never') gq (λ t. record { at = λ k e. refl }) (when_nothing e V more')

-- a function of what is read
pub map_good : {A C : Type 0} {pre first m : Set} {W : A → List Token → Type 0} {p : Parser A} (f : A → C)
    → Good pre first false W (λ _. m) p → Good pre first false (Seq W (λ x. Just (f x))) (λ _. m) (p >>= (λ x. pure (f x)))
map_good f g = seq_good g (λ a. pure_good (f a) self) (λ a. no) (λ a c v. self)

pub map_good_empty : {A C : Type 0} {pre first m : Set} {W : A → List Token → Type 0} {p : Parser A} (f : A → C)
    → Good pre first true W (λ _. m) p → Good pre first true (Seq W (λ x. Just (f x))) (λ _. m) (p >>= (λ x. pure (f x)))
map_good_empty f g = first_good (seq_good_empty g (λ a. pure_good (f a) self) (λ a. no) (λ a c v. self)) drop_none

-- what is read, and then a closing token
pub closed_good : {A C : Type 0} {pre first m close : Set} {W : A → List Token → Type 0} {p : Parser A} (c : Class) → close c ≡ true → close k.End ≡ false → Apart close m
    → (f : A → C) → Good pre first false W (λ _. m) p
    → Good pre first false (Seq W (λ x. Seq (One close) (λ _. Just (f x)))) nothing (p >>= (λ x. token_at close >>= (λ _. pure (f x))))
closed_good c sure never' ap' f g = seq_good g (λ x. then_good c sure never' (λ _. done (f x))) (λ x. ap') tt
