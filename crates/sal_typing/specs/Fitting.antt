-- Which types fit where: values and what they are assigned to, arguments and parameters, operands and operators.
use Rattle.std.specs.Prelude.{◌≡◌, ◌≤◌, ◌⊎◌, ℕ, true, List, length, slice_get, Some}
use Rattle.sal_ast.specs.declared.program.Behavior.{Behavior}
use Rattle.sal_ast.specs.declared.expression.Op.{Op}
use Rattle.sal_ast.specs.declared.expression.Op.TheVariants as op
use Rattle.sal_ast.specs.Members.{constructor_of, behavior_by_name}
use Rattle.sal_sorts.specs.declared.sort.Base.TheVariants.{Int, Boolean, Str, Actor, Null}
use Rattle.sal_sorts.specs.declared.sort.Sort.{Sort}
use Rattle.sal_sorts.specs.Sorts.{plain}
use Rattle.sal_sorts.specs.Environments.{Environment, is_assignable, are_assignable, behavior_with_name, constructor_params, constructor_accepts}
use Rattle.sal_sorts.specs.Expressions.{operands_fit, operator_sort}
use Rattle.sal_typing.specs.Parts.{Pairwise}

-- the type of actors of a behaviour that has a number
abbrev pub IsActor : Environment → Sort → Type 0
IsActor env s = (name : List ℕ) × (n : ℕ) × (s ≡ plain (Actor name)) × (behavior_by_name name env.behaviors ≡ Some n)

-- ---- values

-- `null` fits actors, and each type itself
abbrev pub Fits : Environment → Sort → Sort → Type 0
Fits env s to = ((s ≡ plain Null) × IsActor env to) ⊎ (s ≡ to)

-- what is assignable fits
abbrev pub AssignableTypesFit : Type 0
AssignableTypesFit = (env : Environment) → length env.behaviors ≤ 64 → (s to : Sort) → is_assignable env s to ≡ true → Fits env s to

-- so do arguments, one for one
abbrev pub ArgumentsFit : Type 0
ArgumentsFit = (env : Environment) → length env.behaviors ≤ 64 → (ss ts : List Sort) → are_assignable env ss ts ≡ true → Pairwise (Fits env) ss ts

-- a behaviour with its number, whose constructor takes arguments of these types
pub record MakesOf (env : Environment) (name : List ℕ) (args : List Sort) : Type 0 where
  pub number : ℕ
  pub numbered : behavior_by_name name env.behaviors ≡ Some number
  pub behavior : Behavior
  pub is_there : slice_get env.behaviors number ≡ Some behavior
  pub fit : Pairwise (Fits env) args (constructor_params (constructor_of behavior))

-- what a constructor accepts fits its parameters
abbrev pub ConstructorsTakeArguments : Type 0
ConstructorsTakeArguments =
    (env : Environment) → length env.behaviors ≤ 64 → (name : List ℕ) (args : List Sort) → constructor_accepts (behavior_with_name name env) args env ≡ true → MakesOf env name args

-- ---- operators

-- two of one type
abbrev pub BothAre : Sort → Sort → Sort → Type 0
BothAre t a b = (a ≡ t) × (b ≡ t)

-- what can be joined to a text
abbrev pub IsPrintable : Sort → Type 0
IsPrintable a = (a ≡ plain Str) ⊎ ((a ≡ plain Int) ⊎ (a ≡ plain Boolean))

-- two operands, of which one is a text
abbrev pub JoinTexts : Sort → Sort → Type 0
JoinTexts a b = ((a ≡ plain Str) ⊎ (b ≡ plain Str)) × IsPrintable a × IsPrintable b

-- two that can be compared
abbrev pub AreComparable : Environment → Sort → Sort → Type 0
AreComparable env a b = ((a ≡ b) × (IsPrintable a ⊎ IsActor env a)) ⊎ (((a ≡ plain Null) × IsActor env b) ⊎ ((b ≡ plain Null) × IsActor env a))

-- the operands of an operator, and what it gives
abbrev pub OperandsOf : Environment → Op → Sort → Sort → Sort → Type 0
OperandsOf env op.Or a b s = BothAre (plain Boolean) a b × (plain Boolean ≡ s)
OperandsOf env op.And a b s = BothAre (plain Boolean) a b × (plain Boolean ≡ s)
OperandsOf env op.Same a b s = AreComparable env a b × (plain Boolean ≡ s)
OperandsOf env op.Other a b s = AreComparable env a b × (plain Boolean ≡ s)
OperandsOf env op.Less a b s = BothAre (plain Int) a b × (plain Boolean ≡ s)
OperandsOf env op.LessEq a b s = BothAre (plain Int) a b × (plain Boolean ≡ s)
OperandsOf env op.Greater a b s = BothAre (plain Int) a b × (plain Boolean ≡ s)
OperandsOf env op.GreaterEq a b s = BothAre (plain Int) a b × (plain Boolean ≡ s)
OperandsOf env op.Add a b s = (BothAre (plain Int) a b × (plain Int ≡ s)) ⊎ (JoinTexts a b × (plain Str ≡ s))
OperandsOf env op.Sub a b s = BothAre (plain Int) a b × (plain Int ≡ s)
OperandsOf env op.Mul a b s = BothAre (plain Int) a b × (plain Int ≡ s)
OperandsOf env op.Div a b s = BothAre (plain Int) a b × (plain Int ≡ s)
OperandsOf env op.Rem a b s = BothAre (plain Int) a b × (plain Int ≡ s)

-- operands that fit have these types
abbrev pub OperandsHaveSorts : Type 0
OperandsHaveSorts =
    (env : Environment) → length env.behaviors ≤ 64 → (o : Op) (a b : Sort) → operands_fit env o a b ≡ true → OperandsOf env o a b (operator_sort o a b)
