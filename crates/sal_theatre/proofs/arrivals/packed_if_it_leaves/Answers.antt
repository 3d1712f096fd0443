use Rattle.std.proofs.Common.{sym, ◌∙◌}
use Rattle.sal_spelled.specs.Sending.{bytes_to_move}
use Rattle.sal_routing.specs.Arrivals.{leaving}
use Rattle.sal_theatre.proofs.Leaving.{packed_if, leaves_by, if_ok}
use Rattle.sal_theatre.proofs.arrivals.packed_if_it_leaves.Goals as goal

pub returns : goal.returns
returns c =
    let r = c.args.actor.now in
    let t = c.args.desk.now.desk.theatre in
    if_ok c.packed_with_calls.result (bytes_to_move (leaving r t)) (packed_if r c.args.to t) (leaves_by r c.args.to t (sym c.may_count_move.ensures ∙ c.if-not-may_count_move.false)) c.packed_with_calls.ensures
