use Rattle.std.proofs.Common.{◌<◌, Some, arith}
use Rattle.sal_theatre.proofs.Few.{theatre_low}
use Rattle.sal_theatre.proofs.nodes.theatre_at.Goals as goal

pub overflow_cast-result : goal.overflow_cast-result
overflow_cast-result c =
    let low : c.in-Some.theatre < 8 = theatre_low c.args.plan.now c.args.place.now (Some c.in-Some.theatre) c.requires c.in-Some.ensures in
    omega (arith, low)
