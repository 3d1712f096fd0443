use Rattle.std.proofs.Common.{◌≡◌, drop}
use Rattle.std.specs.List.{list_all}
use Rattle.sal_sorts.specs.Sorts.{is_int_sort}
use Rattle.sal_types.proofs.rules.are_ints.Given as goal

abbrev pub invariant-loop-sort : goal.invariant-loop-sort
invariant-loop-sort l = list_all is_int_sort (drop l.sort-index l.sorts) ≡ list_all is_int_sort l.sorts
