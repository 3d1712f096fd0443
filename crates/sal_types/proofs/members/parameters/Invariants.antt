use Rattle.std.proofs.Common.{◌≡◌, drop}
use Rattle.sal_types.specs.code.Checks as checks
use Rattle.sal_types.proofs.members.parameters.Given as goal

abbrev pub invariant-loop-p : goal.invariant-loop-p
invariant-loop-p l = record {
  judged : checks.check_params (drop l.p-index l.params) l.env ≡ checks.check_params l.fn.params l.fn.env;
  scope : checks.after_params (drop l.p-index l.params) l.env ≡ checks.after_params l.fn.params l.fn.env;
}
