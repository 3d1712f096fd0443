use Rattle.std.proofs.Common.{◌≡◌, ◌++◌, drop}
use Rattle.sal_literals.specs.Texts.{value_text}
use Rattle.sal_literals.specs.code.Leads.{lead_of}
use Rattle.sal_literals.proofs.Appending.{with_items}
use Rattle.sal_literals.proofs.printing.+put_value.Given as goal

abbrev pub invariant-loop-item : goal.invariant-loop-item
invariant-loop-item l = with_items l.out (lead_of l.first) (drop l.item-index l.item-items) ≡ l.fn.out ++ value_text l.fn.value
