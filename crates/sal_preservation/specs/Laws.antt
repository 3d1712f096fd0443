-- Typed expressions keep types.
use Rattle.std.specs.Prelude.{◌≡◌, ℕ, true, Ok}
use Rattle.sal_value.specs.declared.value.Value.{Value}
use Rattle.sal_ast.specs.declared.expression.Expr.{Expr}
use Rattle.sal_ast.specs.Regular.{expr_is_regular}
use Rattle.sal_sorts.specs.declared.sort.Sort.{Sort}
use Rattle.sal_sorts.specs.Environments.{Environment}
use Rattle.sal_typing.specs.Numbers.{number_sort}
use Rattle.sal_typing.specs.Known.{IsKnown}
use Rattle.sal_typing.specs.Parts.{HasSort}
use Rattle.sal_handler.specs.declared.state.State.{State}
use Rattle.sal_handler.specs.Expressions.{eval}
use Rattle.sal_handler.specs.Scopes.{Context}
use Rattle.sal_preservation.specs.States.{IsOf, IsTypedAt}

-- The value is of the type, the state is typed as before, and locals, fields, messages and joins are the same.
pub record KeepsTypes (env : Environment) (mine : ℕ) (s : Sort) (r : Context) (old : State) (v : Value) (new : State) : Type 0 where
  pub value : IsOf (number_sort s env.behaviors) v
  pub typed : IsTypedAt env mine r new
  pub locals : new.locals ≡ old.locals
  pub fields : new.fields ≡ old.fields
  pub messages : new.messages ≡ old.messages
  pub joins : new.joins ≡ old.joins

-- Where what a place is known of is known, and the state is typed there, each typed expression that doesn't trap gives a value
-- of its type and keeps the state typed.
abbrev pub ExpressionsKeepTypes : Type 0
ExpressionsKeepTypes =
    (env : Environment) (mine : ℕ) → IsKnown env mine → (e : Expr) (s : Sort) → expr_is_regular e ≡ true → HasSort env e s
    → (r : Context) (old : State) → IsTypedAt env mine r old
    → (v : Value) (new : State) → eval e r old ≡ Ok (v, new) → KeepsTypes env mine s r old v new
