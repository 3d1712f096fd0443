use Rattle.std.proofs.Common.{◌≡◌, drop}
use Rattle.sal_sorts.specs.Environments.{are_assignable}
use Rattle.sal_sorts.specs.code.Callees.{param_sorts}
use Rattle.sal_sorts.proofs.expression.each_fits.Given as goal

abbrev pub invariant-loop-i : goal.invariant-loop-i
invariant-loop-i l = are_assignable l.env (drop l.i l.args) (param_sorts (drop l.i l.params)) ≡ are_assignable l.env l.args (param_sorts l.params)
