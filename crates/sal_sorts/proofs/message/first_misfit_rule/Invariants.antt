use Rattle.std.proofs.Common.{◌≡◌, drop}
use Rattle.sal_sorts.specs.Messages.{first_misfit_rules}
use Rattle.sal_sorts.specs.code.Callees.{param_sorts}
use Rattle.sal_sorts.proofs.message.first_misfit_rule.Given as goal

abbrev pub invariant-loop-i : goal.invariant-loop-i
invariant-loop-i l = first_misfit_rules l.env (drop l.i l.args) (drop l.i l.sorts) (param_sorts (drop l.i l.params)) ≡ first_misfit_rules l.env l.args l.sorts (param_sorts l.params)
