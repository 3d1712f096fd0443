use Rattle.std.proofs.Common.{◌<◌, length, Some, arith}
use Rattle.sal_directory.proofs.Positions.{theatre_within}
use Rattle.sal_service.proofs.site.Site.theatre_of.Goals as goal

pub overflow_cast-result : goal.overflow_cast-result
overflow_cast-result c =
    let within : c.in-Some.theatre < length c.args.self.now.plan.theatres = theatre_within c.args.self.now.plan c.args.place.now (Some c.in-Some.theatre) c.in-Some.ensures in
    omega (arith, within, c.args.self.now.few)
