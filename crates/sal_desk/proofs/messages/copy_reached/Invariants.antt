use Rattle.std.proofs.Common.{◌≡◌, ◌++◌, drop, filter}
use Rattle.sal_routing.specs.Turns.{is_reached}
use Rattle.sal_desk.proofs.messages.copy_reached.Given as goal

abbrev pub invariant-loop-delayed : goal.invariant-loop-delayed
invariant-loop-delayed l = l.copies.items ++ filter (is_reached l.now) (drop l.delayed-index l.delayed) ≡ filter (is_reached l.now) l.delayed
