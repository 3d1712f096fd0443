use Rattle.std.proofs.Common.{◌≡◌, ◌++◌, drop}
use Rattle.std.specs.List.{flat_map}
use Rattle.sal_resident.specs.Packing.{join_spelling}
use Rattle.sal_resident.proofs.writing.put_each_join.Given as goal

abbrev pub invariant-loop-join : goal.invariant-loop-join
invariant-loop-join l = l.out ++ flat_map join_spelling (drop l.join-index l.joins) ≡ l.fn.out ++ flat_map join_spelling l.fn.joins
