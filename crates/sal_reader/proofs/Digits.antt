-- The number that digits spell, digit by digit.
use Rattle.std.proofs.Common.{◌≡◌, ℕ, ◌+◌, ◌-◌, ◌*◌, ◌<◌, ◌≤◌, true, List, length, take, get_or, arith}
use Rattle.std.specs.Char.{digit_value}
use Rattle.std.specs.List.{list_all}
use Rattle.std.specs.Str.Parse.{digits_value}
use Rattle.std.proofs.lemmas.Str.Parse.{digits_value-take-le}
use Rattle.sal_ast.specs.Lexemes.{is_digit}
use Rattle.sal_text.proofs.NumberTests.{digit_at, digit_worth, value_more}

pub record Step (value : ℕ) (digits : List ℕ) (i : ℕ) : Type 0 where
  pub digit : 48 ≤ get_or digits i 0
  pub next : value * 10 + (get_or digits i 0 - 48) ≡ digits_value 10 (take (i + 1) digits)
  pub fits : value * 10 + (get_or digits i 0 - 48) ≤ 2147483648

pub value_step : (value : ℕ) (digits : List ℕ) (i : ℕ) → list_all is_digit digits ≡ true → i < length digits → digits_value 10 digits ≤ 2147483648
    → value ≡ digits_value 10 (take i digits) → Step value digits i
value_step value digits i h lt most e =
    let w = digit_worth (get_or digits i 0) (digit_at digits i h lt) in
    let m : digits_value 10 (take (i + 1) digits) ≤ digits_value 10 digits = digits_value-take-le 10 digits (i + 1) (omega arith) in
    let k : digits_value 10 (take (i + 1) digits) ≡ digits_value 10 (take i digits) * 10 + digit_value (get_or digits i 0) = value_more digits i lt in
    record { digit = w.1; next = omega (arith, w.0, w.1, w.2); fits = omega (arith, w.0, w.1, w.2) }
