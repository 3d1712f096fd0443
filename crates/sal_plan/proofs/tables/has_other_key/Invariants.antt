use Rattle.std.proofs.Common.{◌≡◌}
use Rattle.toml.specs.View.{members_view}
use Rattle.sal_plan.specs.Rules.{has_other_key}
use Rattle.sal_plan.proofs.tables.has_other_key.Given as goal

abbrev pub invariant-loop-key : goal.invariant-loop-key
invariant-loop-key l = has_other_key (members_view l.key-iterator) ≡ has_other_key (members_view l.table.entries)
