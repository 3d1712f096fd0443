-- The first violation alone, as a checker finds it that stops there.
use Rattle.std.specs.Prelude.{◌≡◌, ℕ, Bool, true, false, List, [], ◌∷◌, Result, Ok, Err}
use Rattle.sal_sorts.specs.declared.fault.TypeFault.{TypeFault}
use Rattle.sal_sorts.specs.declared.fault.TypeFault.TheVariants as fault
use Rattle.sal_sorts.specs.Verdicts.{Violation, Verdict, Good, Bad}

-- what a node is, or the first violation in it
abbrev pub first : {A : Type 0} → Verdict A → Result A Violation
first (Good a) = Ok a
first (Bad v vs) = Err v

-- the first of these violations, if there is one
abbrev pub fine : List Violation → Result (Unit {0}) Violation
fine [] = Ok tt
fine (v ∷ vs) = Err v

-- the test of a rule
abbrev pub check_rule : ℕ → ℕ → Bool → Result (Unit {0}) Violation
check_rule number at true = Ok tt
check_rule number at false = Err (number, at)

-- goes on where nothing is violated
abbrev pub and_then : {A B : Type 0} → Result A Violation → (A → Result B Violation) → Result B Violation
and_then (Ok a) f = f a
and_then (Err e) f = Err e

-- a checker's answer is this one, unless memory ran out
abbrev pub Yields : {A : Type 0} → Result A Violation → Result A TypeFault → Type 0
Yields outcome (Ok a) = outcome ≡ Ok a
Yields outcome (Err (fault.Refused number at)) = outcome ≡ Err (number, at)
Yields outcome (Err fault.Memory) = Unit {0}
