use Rattle.std.proofs.Common.{◌≡◌, ◌++◌, drop}
use Rattle.sal_handler.specs.Handler as spec
use Rattle.sal_walk.proofs.start.parameters.Given as goal

abbrev pub invariant-loop-param : goal.invariant-loop-param
invariant-loop-param l = l.locals ++ spec.parameters l.behaviors (drop l.param-index l.params) l.rest ≡ spec.parameters l.behaviors l.params l.args
