use Rattle.std.proofs.Common.{◌≡◌, drop}
use Rattle.std.specs.List.{list_all}
use Rattle.sal_sorts.specs.Sorts.{is_same_sort}
use Rattle.sal_types.proofs.rules.are_same.Given as goal

abbrev pub invariant-loop-other : goal.invariant-loop-other
invariant-loop-other l = list_all (is_same_sort l.sort) (drop l.other-index l.sorts) ≡ list_all (is_same_sort l.sort) l.sorts
