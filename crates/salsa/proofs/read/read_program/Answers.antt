use Rattle.salsa.proofs.Sizes.{readable}
use Rattle.salsa.proofs.read.read_program.Goals as goal

pub check-requires : goal.check-requires
check-requires c = readable _ _ c.in_ok-program.ensures
