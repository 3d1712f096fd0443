use Rattle.std.proofs.Common.{◌≡◌, ◌≤◌, ◌++◌, length}
use Rattle.sal_carriage.specs.Fragments.{AllFit}
use Rattle.sal_carriage.specs.Link as spec
use Rattle.sal_carriage.proofs.link.fragments.Given as goal

abbrev pub invariant-loop-rest : goal.invariant-loop-rest
invariant-loop-rest l =
    (l.fragments ++ spec.fragments l.rest ≡ spec.fragments l.fn.envelope)
    × AllFit l.fragments
    × (1 ≤ length l.rest)

abbrev pub decreases-loop-rest : goal.decreases-loop-rest
decreases-loop-rest l = length l.rest
