use Rattle.std.proofs.Common.{◌≡◌, take}
use Rattle.std.specs.Str.Parse.{digits_value}
use Rattle.sal_reader.proofs.text.number_value.Given as goal

abbrev pub invariant-bytes : goal.invariant-bytes
invariant-bytes l = l.value ≡ digits_value 10 (take l.i l.digits)
