use Rattle.std.proofs.Common.{arith}
use Rattle.std.proofs.lemmas.Grind.{common_steps}
use Rattle.sal_sorts.proofs.ExpressionRefusals.{first-New, exprs_at, level_at, suffixes_at}
use Rattle.sal_sorts.proofs.expression.+judge.Goals as goal

pub judge-returns-in_err-judge_location-in-New : goal.judge-returns-in_err-judge_location-in-New
judge-returns-in_err-judge_location-in-New t c = grind (arith, common_steps, first-New c.in-New.at c.in-New.behavior c.in-New.args c.in-New.place c.args.env.now c.args.minus)

pub judge-returns-in_ok-judge_location-in-New : goal.judge-returns-in_ok-judge_location-in-New
judge-returns-in_ok-judge_location-in-New t c = grind (arith, common_steps, first-New c.in-New.at c.in-New.behavior c.in-New.args c.in-New.place c.args.env.now c.args.minus)

pub judge_all-returns-in_err-judge : goal.judge_all-returns-in_err-judge
judge_all-returns-in_err-judge t c = grind (arith, common_steps, exprs_at c.loop-e.done c.args.items.now c.loop-e.e-index c.e-item.result c.args.env.now c.loop-e-test.true c.e-item.is)

pub judge_all-loop-e-preserved : goal.judge_all-loop-e-preserved
judge_all-loop-e-preserved t c = grind (arith, common_steps, exprs_at c.loop-e.done c.args.items.now c.loop-e.e-index c.e-item.result c.args.env.now c.loop-e-test.true c.e-item.is)

pub judge_level-returns-in_err-left : goal.judge_level-returns-in_err-left
judge_level-returns-in_err-left t c = grind (arith, common_steps, level_at c.loop-operand.left c.args.rest.now c.loop-operand.operand-index c.operand-item.result c.args.env.now c.loop-operand-test.true c.operand-item.is)

pub judge_level-loop-operand-preserved : goal.judge_level-loop-operand-preserved
judge_level-loop-operand-preserved t c = grind (arith, common_steps, level_at c.loop-operand.left c.args.rest.now c.loop-operand.operand-index c.operand-item.result c.args.env.now c.loop-operand-test.true c.operand-item.is)

pub judge_suffixes-returns-in_err-left : goal.judge_suffixes-returns-in_err-left
judge_suffixes-returns-in_err-left t c = grind (arith, common_steps, suffixes_at c.loop-suffix.left c.args.rest.now c.loop-suffix.suffix-index c.suffix-item.result c.args.env.now c.loop-suffix-test.true c.suffix-item.is)

pub judge_suffixes-loop-suffix-preserved : goal.judge_suffixes-loop-suffix-preserved
judge_suffixes-loop-suffix-preserved t c = grind (arith, common_steps, suffixes_at c.loop-suffix.left c.args.rest.now c.loop-suffix.suffix-index c.suffix-item.result c.args.env.now c.loop-suffix-test.true c.suffix-item.is)
