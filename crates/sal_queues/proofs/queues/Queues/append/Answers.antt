use Rattle.std.proofs.Common.{◌∙◌}
use Rattle.sal_value.specs.Order.{key}
use Rattle.sal_queues.specs.Queues.{filled, joined}
use Rattle.sal_queues.proofs.Rooms.{room_first, append_step, joined_none}
use Rattle.sal_queues.proofs.queues.Queues.append.Goals as goal

pub append_at-requires : goal.append_at-requires
append_at-requires g c =
    room_first c.loop-name.self c.loop-name.more c.pop_first.new.self (key c.in-Some.name) c.in-Some.list c.loop-name.invariant.0 c.in-Some.ensures.first

pub loop-name-preserved-in-Some : goal.loop-name-preserved-in-Some
loop-name-preserved-in-Some g c =
    append_step c.loop-name.self c.append_at.new.self c.loop-name.more c.pop_first.new.self (joined c.args.more (filled c.args.self.now)) (key c.in-Some.name) c.in-Some.list
    c.loop-name.invariant.0 c.loop-name.invariant.1 c.in-Some.ensures.first c.append_at.ensures

pub loop-name-preserved : goal.loop-name-preserved
loop-name-preserved g c =
    append_step c.loop-name.self c.append_at.new.self c.loop-name.more c.pop_first.new.self (joined c.args.more (filled c.args.self.now)) (key c.in-Some.name) c.in-Some.list
    c.loop-name.invariant.0 c.loop-name.invariant.1 c.in-Some.ensures.first c.append_at.ensures

pub returns : goal.returns
returns g c = joined_none c.loop-name.more (filled c.loop-name.self) c.in_default.ensures.none ∙ c.loop-name.invariant.1
