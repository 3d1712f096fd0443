use Rattle.std.proofs.Common.{◌≡◌, ◌-◌, take, length}
use Rattle.sal_carriage.proofs.fragment.Fragments.keep_first.Given as goal

abbrev pub invariant-loop : goal.invariant-loop
invariant-loop l = l.self-inside.items.items ≡ take (length l.fn.self - l.counter) l.fn.self
