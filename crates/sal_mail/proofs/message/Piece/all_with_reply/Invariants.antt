use Rattle.std.proofs.Common.{◌≡◌, map}
use Rattle.sal_mail.specs.Message.{piece_with_reply}
use Rattle.sal_mail.proofs.message.Piece.all_with_reply.Given as goal

abbrev pub invariant-loop-piece : goal.invariant-loop-piece
invariant-loop-piece l = l.all ≡ map (piece_with_reply l.number l.value) l.yielded
