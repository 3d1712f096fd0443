use Rattle.std.proofs.Common.{◌≡◌}
use Rattle.std.specs.FinMap as fm
use Rattle.sal_entries.specs.Entries.{values, overlaid, HasRoomFor}
use Rattle.sal_entries.proofs.entries.Entries.absorb.Given as goal

abbrev pub invariant-loop-key : goal.invariant-loop-key
invariant-loop-key g l = HasRoomFor l.left l.self × (overlaid l.left (values l.self) ≡ overlaid l.fn.more (values l.fn.self))

abbrev pub decreases-loop-key : goal.decreases-loop-key
decreases-loop-key g l = fm.len l.left
