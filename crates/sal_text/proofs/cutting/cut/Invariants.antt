use Rattle.std.proofs.Common.{◌-◌, length}
use Rattle.sal_text.proofs.Steps.{Reached}
use Rattle.sal_text.proofs.cutting.cut.Given as goal

abbrev pub invariant-parts : goal.invariant-parts
invariant-parts l = Reached l.source l.at l.items

abbrev pub decreases-parts : goal.decreases-parts
decreases-parts l = length l.source - l.at
