use Rattle.std.proofs.Common.{◌≡◌, ◌-◌, drop}
use Rattle.std.specs.List.{list_all}
use Rattle.sal_value.specs.Spelling.{fits}
use Rattle.sal_spelled.proofs.values.+fits.Given as goal

abbrev pub invariant-loop-item : goal.invariant-loop-item
invariant-loop-item l = list_all (λ item. fits item (l.fn.depth - 1)) (drop l.item-index l.item-items) ≡ list_all (λ item. fits item (l.fn.depth - 1)) l.item-items
