use Rattle.sal_unseen.proofs.Handlers.{leave_pieces}
use Rattle.sal_unseen.proofs.law.handlers_leave_pieces.Goals as goal

pub returns : goal.returns
returns c = leave_pieces
