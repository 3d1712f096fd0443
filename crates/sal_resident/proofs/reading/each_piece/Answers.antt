use Rattle.sal_resident.specs.Unpacking.{each_at, piece_at}
use Rattle.sal_resident.proofs.Rows.{goes_on}
use Rattle.sal_resident.proofs.reading.each_piece.Goals as goal

pub loop-preserved : goal.loop-preserved
loop-preserved c =
    rw c.in_ok-push.ensures.ok (goes_on {S = Unit {0}} (λ x. tt) (λ before. piece_at) tt c.loop.pieces c.args.count c.loop.counter c.loop.rest.now c.in_ok-piece.piece c.in_ok-piece.after.now
    (each_at piece_at c.args.count c.args.bytes.now) c.loop-test.true c.in_ok-piece.ensures c.loop.invariant)
