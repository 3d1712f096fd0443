use Rattle.std.proofs.Common.{◌≡◌, map, take}
use Rattle.sal_mail.specs.declared.message.Piece.TheVariants.{Known}
use Rattle.sal_theatre.proofs.outside.known.Given as goal

abbrev pub invariant-loop-arg : goal.invariant-loop-arg
invariant-loop-arg l = l.pieces ≡ map Known (take l.arg-index l.args)
