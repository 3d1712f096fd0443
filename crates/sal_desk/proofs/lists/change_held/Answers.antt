use Rattle.sal_desk.proofs.Committing.{room_after}
use Rattle.sal_desk.proofs.lists.change_held.Goals as goal

pub append-requires : goal.append-requires
append-requires c = room_after c.args.held.now c.empty_queues.new.held c.args.more c.empty_queues.ensures.room c.requires
