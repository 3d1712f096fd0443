use Rattle.std.proofs.Common.{ap, arith}
use Rattle.sal_envelope.specs.Decoding.{with_offset}
use Rattle.sal_resident.specs.Unpacking.{unpacked_actor}
use Rattle.sal_resident.proofs.Found.{unpacked_packed}
use Rattle.sal_resident.proofs.reading.unpack.Goals as goal

pub returns-in-Ok-clause-packed : goal.returns-in-Ok-clause-packed
unfolding unpacked_actor
returns-in-Ok-clause-packed c =
    unpacked_packed c.args.bytes.now c.in-Ok.actor (λ i. omega (arith, c.type_inv.bytes i)) (ap (with_offset c.args.bytes.now) c.in-Ok.ensures)
