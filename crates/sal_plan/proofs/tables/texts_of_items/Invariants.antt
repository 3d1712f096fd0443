use Rattle.std.proofs.Common.{◌≡◌, drop}
use Rattle.toml.specs.View.{items_view}
use Rattle.sal_plan.specs.Rules.{texts_of_items}
use Rattle.sal_plan.proofs.Each.{after}
use Rattle.sal_plan.proofs.tables.texts_of_items.Given as goal

abbrev pub invariant-loop-item : goal.invariant-loop-item
invariant-loop-item l = after l.texts (texts_of_items (items_view (drop l.item-index l.items))) ≡ texts_of_items (items_view l.items)
