use Rattle.std.proofs.Common.{◌≡◌, drop}
use Rattle.std.specs.List.{list_all}
use Rattle.sal_source.specs.Table.{keys_of}
use Rattle.sal_source.specs.Step.{is_new}
use Rattle.sal_source.proofs.fresh.are_new.Given as goal

abbrev pub invariant-loop-name : goal.invariant-loop-name
invariant-loop-name l = list_all (is_new (keys_of l.actors)) l.names ≡ list_all (is_new (keys_of l.actors)) (drop l.name-index l.names)
