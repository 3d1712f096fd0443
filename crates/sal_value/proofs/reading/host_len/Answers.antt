use Rattle.std.proofs.Common.{arith}
use Rattle.std.proofs.lemmas.Bool.Decides.{nat_tests}
use Rattle.sal_value.specs.Names.{ends_host}
use Rattle.sal_value.proofs.Cuts.{none_more}
use Rattle.sal_value.proofs.reading.host_len.Goals as goal

pub loop-at-preserved : goal.loop-at-preserved
loop-at-preserved c = none_more ends_host c.args.text.now c.loop-at.at c.loop-at-test.true c.loop-at.invariant (grind (arith, nat_tests))
