use Rattle.std.proofs.Common.{◌<◌, Some, arith}
use Rattle.sal_theatre.proofs.Few.{service_low}
use Rattle.sal_theatre.proofs.nodes.service_for.Goals as goal

pub overflow_cast-result : goal.overflow_cast-result
overflow_cast-result c =
    let low : c.in-Some.service < 4 = service_low c.args.plan.now c.args.name.now (Some c.in-Some.service) c.requires c.in-Some.ensures in
    omega (arith, low)

pub returns-in-Some-clause-low : goal.returns-in-Some-clause-low
returns-in-Some-clause-low c = service_low c.args.plan.now c.args.name.now (Some c.in-Some.service) c.requires c.in-Some.ensures
