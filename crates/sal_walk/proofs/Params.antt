-- The next parameter of a loop.
use Rattle.std.proofs.Common.{◌≡◌, List, [], ◌∷◌, drop, refl}
use Rattle.sal_value.specs.declared.value.Value.{Value}
use Rattle.sal_ast.specs.declared.program.Param.{Param}
use Rattle.sal_ast.specs.declared.program.Behavior.{Behavior}
use Rattle.sal_handler.specs.Values.{item_at}
use Rattle.sal_handler.specs.Handler.{parameter, parameters}

pub parameters_next : (behaviors : List Behavior) (p : Param) (ps : List Param) (args : List Value) → parameters behaviors (p ∷ ps) args ≡ parameter behaviors p (item_at args 0) ∷ parameters behaviors ps (drop 1 args)
parameters_next behaviors p ps [] = refl
parameters_next behaviors p ps (v ∷ vs) = refl
