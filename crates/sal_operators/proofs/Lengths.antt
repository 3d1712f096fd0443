-- The length of an array as an int.
use Rattle.std.proofs.Common.{◌≡◌, ℕ, ◌%◌, pos, refl}
use Rattle.std.specs.Int.{w32, int_wrap, cast_signed}

pub length_wraps : (n : ℕ) → int_wrap w32 (pos n) ≡ cast_signed w32 (n % 4294967296)
unfolding int_wrap
length_wraps n = refl
