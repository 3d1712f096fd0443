use Rattle.std.proofs.Common.{◌≡◌, map}
use Rattle.sal_mail.specs.declared.message.Piece.TheVariants.{Known}
use Rattle.sal_envelope.proofs.reading.pieces.Given as goal

abbrev pub invariant-loop-value : goal.invariant-loop-value
invariant-loop-value l = l.pieces ≡ map Known l.yielded
