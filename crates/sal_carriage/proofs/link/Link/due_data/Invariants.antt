use Rattle.std.proofs.Common.{◌≡◌, ◌+◌, ◌++◌, map, take, drop}
use Rattle.sal_carriage.specs.Link as spec
use Rattle.sal_carriage.proofs.link.Link.due_data.Given as goal

abbrev pub invariant-loop-at : goal.invariant-loop-at
invariant-loop-at l =
    l.datagrams ++ map spec.datagram_of (spec.due_data l.now l.self (l.self.acknowledged + l.at) (drop l.at (take spec.window l.self.unacknowledged)))
    ≡ map spec.datagram_of (spec.due_data l.now l.self l.self.acknowledged (take spec.window l.self.unacknowledged))
