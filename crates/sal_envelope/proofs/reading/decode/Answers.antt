use Rattle.std.proofs.Common.{ap, arith}
use Rattle.sal_envelope.specs.Decoding.{with_offset, decoded_envelope}
use Rattle.sal_envelope.proofs.EnvelopesFound.{decoded_spelled}
use Rattle.sal_envelope.proofs.reading.decode.Goals as goal

pub returns-in-Ok-clause-spelled : goal.returns-in-Ok-clause-spelled
unfolding decoded_envelope
returns-in-Ok-clause-spelled c =
    decoded_spelled c.args.bytes.now c.in-Ok.envelope (λ i. omega (arith, c.type_inv.bytes i)) (ap (with_offset c.args.bytes.now) c.in-Ok.ensures)
