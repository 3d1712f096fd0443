use Rattle.std.proofs.Common.{arith}
use Rattle.std.proofs.lemmas.Grind.{common_steps}
use Rattle.sal_types.proofs.StatementChecks.{stmts_at, after_at, stages_at, check-If}
use Rattle.sal_types.proofs.statement.+statement.Goals as goal

pub sequence-returns-in_err-results-clause-judged : goal.sequence-returns-in_err-results-clause-judged
sequence-returns-in_err-results-clause-judged t c = grind (arith, common_steps, stmts_at c.loop-stmt.done c.args.list.now c.loop-stmt.stmt-index c.stmt-item.result c.loop-stmt.env c.loop-stmt-test.true c.stmt-item.is)

pub sequence-loop-stmt-preserved : goal.sequence-loop-stmt-preserved
sequence-loop-stmt-preserved t c = record {
  judged = grind (arith, common_steps, stmts_at c.loop-stmt.done c.args.list.now c.loop-stmt.stmt-index c.stmt-item.result c.loop-stmt.env c.loop-stmt-test.true c.stmt-item.is);
  scope = grind (arith, common_steps, after_at c.args.list.now c.loop-stmt.stmt-index c.stmt-item.result c.loop-stmt.env c.loop-stmt-test.true c.stmt-item.is);
}

pub stages-returns-in_err-judge_stage-clause-judged : goal.stages-returns-in_err-judge_stage-clause-judged
stages-returns-in_err-judge_stage-clause-judged t c = grind (arith, common_steps, stages_at c.loop-stage.before c.args.list.now c.loop-stage.stage-index c.stage-item.result c.loop-stage.env c.loop-stage-test.true c.stage-item.is)

pub stages-loop-stage-preserved : goal.stages-loop-stage-preserved
stages-loop-stage-preserved t c = record {
  judged = grind (arith, common_steps, stages_at c.loop-stage.before c.args.list.now c.loop-stage.stage-index c.stage-item.result c.loop-stage.env c.loop-stage-test.true c.stage-item.is);
  scope = grind (arith, common_steps);
}

pub judge_statement-returns-in_err-condition_rules-in-If-clause-judged : goal.judge_statement-returns-in_err-condition_rules-in-If-clause-judged
judge_statement-returns-in_err-condition_rules-in-If-clause-judged t c = grind (arith, common_steps, check-If c.in-If.at c.in-If.test c.in-If.yes c.in-If.no c.args.env.now)

pub judge_statement-returns-in_ok-condition_rules-in-If-clause-judged : goal.judge_statement-returns-in_ok-condition_rules-in-If-clause-judged
judge_statement-returns-in_ok-condition_rules-in-If-clause-judged t c = grind (arith, common_steps, check-If c.in-If.at c.in-If.test c.in-If.yes c.in-If.no c.args.env.now)
