use Rattle.std.proofs.Common.{length}
use Rattle.sal_sorts.proofs.message.+repetition.Given as goal

abbrev pub decreases-repetition : goal.decreases-repetition
decreases-repetition l = length l.properties.now
