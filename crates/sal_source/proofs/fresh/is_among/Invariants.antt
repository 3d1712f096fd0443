use Rattle.std.proofs.Common.{◌≡◌, drop}
use Rattle.std.specs.List.{list_any}
use Rattle.sal_value.specs.declared.name.Name.{Name}
use Rattle.sal_source.specs.Table.{key_eq}
use Rattle.sal_source.specs.Keys.{name_key}
use Rattle.sal_source.proofs.fresh.is_among.Given as goal

abbrev pub invariant-loop-other : goal.invariant-loop-other
invariant-loop-other l = list_any (λ (m : Name). key_eq (name_key l.name) (name_key m)) l.names ≡ list_any (λ (m : Name). key_eq (name_key l.name) (name_key m)) (drop l.other-index l.names)
