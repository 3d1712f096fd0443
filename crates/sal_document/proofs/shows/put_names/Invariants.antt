use Rattle.std.proofs.Common.{◌≡◌, ◌++◌, drop, map}
use Rattle.sal_value.specs.Names.{name_text}
use Rattle.sal_document.specs.code.Adding.{after_spaces}
use Rattle.sal_document.proofs.shows.put_names.Given as goal

abbrev pub invariant-loop-name : goal.invariant-loop-name
invariant-loop-name l = l.out ++ after_spaces (map name_text (drop l.name-index l.names)) ≡ l.fn.out ++ after_spaces (map name_text l.names)
