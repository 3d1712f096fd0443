use Rattle.std.proofs.Common.{◌≡◌, [], drop, None}
use Rattle.sal_types.specs.code.Checks as checks
use Rattle.sal_types.proofs.statement.+statement.Given as goal

abbrev pub invariant-sequence-loop-stmt : goal.invariant-sequence-loop-stmt
invariant-sequence-loop-stmt l = record {
  judged : checks.check_stmts l.done (drop l.stmt-index l.list) l.env ≡ checks.check_stmts [] l.fn.list l.fn.env;
  scope : checks.after_stmts (drop l.stmt-index l.list) l.env ≡ checks.after_stmts l.fn.list l.fn.env;
}

abbrev pub invariant-stages-loop-stage : goal.invariant-stages-loop-stage
invariant-stages-loop-stage l = record {
  judged : checks.check_stages l.before (drop l.stage-index l.list) l.env ≡ checks.check_stages None l.fn.list l.fn.env;
  scope : l.env ≡ l.fn.env;
}
