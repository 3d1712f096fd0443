use Rattle.std.proofs.Common.{refl, arith, rules}
use Rattle.sal_queues.specs.Queues.{filled}
use Rattle.sal_queues.proofs.Rooms.{keeps_itself}
use Rattle.sal_desk.specs.code.Drafts.{without_held}
use Rattle.sal_desk.proofs.Committing.{keeps_through, held_step, held_end}
use Rattle.sal_desk.proofs.lists.empty_queues.Goals as goal

pub loop-name-init : goal.loop-name-init
loop-name-init c = record { held = refl; room = keeps_itself c.args.held.now }

pub loop-name-preserved : goal.loop-name-preserved
loop-name-preserved c = record {
  held =
      held_step c.args.names.now c.loop-name.name-index c.name-item.result (filled c.loop-name.held) (filled c.empty.new.self) (without_held c.args.names.now (filled c.args.held.now))
      c.loop-name-test.true c.name-item.is c.empty.ensures.queues c.loop-name.invariant.held;
  room = keeps_through c.args.held.now c.loop-name.held c.empty.new.self c.loop-name.invariant.room c.empty.ensures.room;
}

pub returns-clause-held : goal.returns-clause-held
returns-clause-held c =
    held_end c.args.names.now c.loop-name.name-index (filled c.loop-name.held) (without_held c.args.names.now (filled c.args.held.now)) (omega (arith, c.loop-name-test.false)) c.loop-name.invariant.held
