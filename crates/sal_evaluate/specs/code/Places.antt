-- Parts of expressions, as the code has them.
use Rattle.std.specs.Prelude.{ℕ, Bool, List, if◌then◌else◌}
use Rattle.sal_value.specs.declared.value.Value.{Value}
use Rattle.sal_ast.specs.Members.{behavior_by_name}
use Rattle.sal_handler.specs.declared.state.State.{State}
use Rattle.sal_handler.specs.Evaluation.{◌>>=◌}
use Rattle.sal_handler.specs.Scopes.{Context, read_variable, read_field}
use Rattle.sal_handler.specs.Expressions.{Denotation, LocationDenotation, eval_option, create_at_by}

-- the value of the actor's field where `own` says so, and else of the variable
abbrev pub place_value : Bool → List ℕ → Context → State → Value
place_value own name r s = if own then read_field name r s else read_variable name r s

-- `new .. at`, where the arguments have these values
abbrev pub new_at : List ℕ → List Value → LocationDenotation → Denotation
new_at behavior args texts r =
    texts.0 r >>= (λ uan. eval_option texts.1 r >>= (λ ual.
    create_at_by r.make (behavior_by_name behavior r.behaviors) args uan ual))
