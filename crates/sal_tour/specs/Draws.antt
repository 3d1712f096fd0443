-- Numbers that look drawn. A state is a number below 2^64; the first one is the tour's number.
use Rattle.std.specs.Prelude.{ℕ, ◌+◌, ◌*◌, ◌/◌, ◌%◌, ◌^◌}
use Rattle.sal_tour.specs.declared.constants.TheConstants.{FACTOR, ADDEND}

-- the state after one draw
unfoldable pub next_state : ℕ → ℕ
next_state x = (x * FACTOR + ADDEND) % 2 ^ 64

-- the number below n that a draw gives, by the state after it
unfoldable pub below : ℕ → ℕ → ℕ
below n x = (x / 2 ^ 33) % n
