use Rattle.std.proofs.Common.{◌≡◌, drop}
use Rattle.std.specs.List.{list_all}
use Rattle.sal_mail.specs.Message.{is_known}
use Rattle.sal_mail.proofs.message.Piece.are_known.Given as goal

abbrev pub invariant-loop-piece : goal.invariant-loop-piece
invariant-loop-piece l = list_all is_known l.pieces ≡ list_all is_known (drop l.piece-index l.pieces)
