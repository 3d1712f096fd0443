use Rattle.std.proofs.Common.{◌≡◌, drop, false}
use Rattle.sal_text.specs.Values.{bad_escape_from}
use Rattle.sal_text.proofs.strings.bad_escape.Given as goal

abbrev pub invariant-bytes : goal.invariant-bytes
invariant-bytes l = bad_escape_from 0 false l.text ≡ bad_escape_from l.i l.escaped (drop l.i l.text)
