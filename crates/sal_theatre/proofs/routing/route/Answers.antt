use Rattle.sal_desk.specs.code.Desks.{on_desk}
use Rattle.sal_routing.specs.Routing as routing
use Rattle.sal_theatre.proofs.Looping.{emptied}
use Rattle.sal_theatre.proofs.routing.route.Goals as goal

pub returns : goal.returns
returns g c =
    emptied (g.R.Runner.meaning c.args.runner.now) c.loop-item.desk c.take_work.new.self (on_desk (routing.route (g.R.Runner.meaning c.args.runner.now)) c.args.desk.now) c.in_default.ensures.none c.in_default.ensures.work c.in_default.ensures.rest c.loop-item.invariant.routed
