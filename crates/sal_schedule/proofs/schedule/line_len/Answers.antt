use Rattle.std.proofs.Common.{arith}
use Rattle.std.proofs.lemmas.Bool.Decides.{nat_tests}
use Rattle.sal_value.proofs.Cuts.{none_more}
use Rattle.sal_schedule.specs.Lines.{is_line_feed}
use Rattle.sal_schedule.proofs.schedule.line_len.Goals as goal

pub loop-at-preserved : goal.loop-at-preserved
loop-at-preserved c = none_more is_line_feed c.args.text.now c.loop-at.at c.loop-at-test.true c.loop-at.invariant (grind (arith, nat_tests))
