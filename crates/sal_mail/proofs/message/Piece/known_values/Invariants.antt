use Rattle.std.proofs.Common.{◌≡◌, take}
use Rattle.sal_mail.specs.Message.{known_values}
use Rattle.sal_mail.proofs.message.Piece.known_values.Given as goal

abbrev pub invariant-loop-piece : goal.invariant-loop-piece
invariant-loop-piece l = l.values ≡ known_values (take l.piece-index l.pieces)
