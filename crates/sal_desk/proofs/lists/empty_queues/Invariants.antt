use Rattle.std.proofs.Common.{◌≡◌, drop}
use Rattle.sal_queues.specs.Queues.{filled, KeepsRoom}
use Rattle.sal_desk.specs.code.Drafts.{without_held}
use Rattle.sal_desk.proofs.lists.empty_queues.Given as goal

abbrev pub invariant-loop-name : goal.invariant-loop-name
invariant-loop-name l = record {
  held : without_held (drop l.name-index l.names) (filled l.held) ≡ without_held l.names (filled l.fn.held);
  room : KeepsRoom l.fn.held l.held;
}
