use Rattle.std.proofs.Common.{◌≡◌, drop}
use Rattle.std.specs.List.{list_all}
use Rattle.sal_value.specs.Membership.{belongs}
use Rattle.sal_value.proofs.value.Value.+belongs.Given as goal

abbrev pub invariant-loop-item : goal.invariant-loop-item
invariant-loop-item l = list_all (λ item. belongs item l.inner) (drop l.item-index l.item-items) ≡ list_all (λ item. belongs item l.inner) l.item-items
