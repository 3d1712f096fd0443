use Rattle.std.proofs.Common.{◌≡◌, ◌≤◌, take}
use Rattle.std.specs.Str.Parse.{digits_value}
use Rattle.sal_text.proofs.numbers.is_in_range.Given as goal

abbrev pub invariant-bytes : goal.invariant-bytes
invariant-bytes l = (l.value ≡ digits_value 10 (take l.i l.digits)) × (l.value ≤ 2147483648)
