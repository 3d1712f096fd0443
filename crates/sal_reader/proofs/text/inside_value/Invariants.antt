use Rattle.std.proofs.Common.{◌≡◌, ◌++◌, false, drop}
use Rattle.sal_text.specs.Values.{inside_value}
use Rattle.sal_reader.proofs.text.inside_value.Given as goal

abbrev pub invariant-bytes : goal.invariant-bytes
invariant-bytes l = inside_value false l.inside ≡ l.value.items ++ inside_value l.escaped (drop l.i l.inside)
