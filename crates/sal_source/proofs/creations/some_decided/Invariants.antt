use Rattle.std.proofs.Common.{◌≡◌, drop}
use Rattle.std.specs.List.{list_any}
use Rattle.sal_source.specs.code.Possible.{is_decided}
use Rattle.sal_source.proofs.creations.some_decided.Given as goal

abbrev pub invariant-loop-item : goal.invariant-loop-item
invariant-loop-item l = list_any (is_decided l.authorities l.actors) l.items ≡ list_any (is_decided l.authorities l.actors) (drop l.item-index l.items)
