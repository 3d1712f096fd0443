use Rattle.std.proofs.Common.{◌≡◌, drop}
use Rattle.sal_carriage.proofs.fragment.Fragments.drop_first.Given as goal

abbrev pub invariant-loop : goal.invariant-loop
invariant-loop l = l.self-inside.items.items ≡ drop l.counter l.fn.self
