use Rattle.std.proofs.Common.{◌≡◌, [], drop}
use Rattle.sal_sorts.specs.code.Judging as code
use Rattle.sal_sorts.proofs.expression.+judge.Given as goal

abbrev pub invariant-judge_level-loop-operand : goal.invariant-judge_level-loop-operand
invariant-judge_level-loop-operand l = code.level_result l.left (drop l.operand-index l.rest) l.env ≡ code.level_result l.fn.first l.fn.rest l.env

abbrev pub invariant-judge_suffixes-loop-suffix : goal.invariant-judge_suffixes-loop-suffix
invariant-judge_suffixes-loop-suffix l = code.suffixes_result l.left (drop l.suffix-index l.rest) l.env ≡ code.suffixes_result l.fn.first l.fn.rest l.env

abbrev pub invariant-judge_all-loop-e : goal.invariant-judge_all-loop-e
invariant-judge_all-loop-e l = code.exprs_result l.done (drop l.e-index l.items) l.env ≡ code.exprs_result [] l.fn.items l.env
