-- The first bytes of a text, one more than a limit, tell whether it keeps the limit.
use Rattle.std.proofs.Common.{◌≡◌, ℕ, ◌+◌, ◌<◌, ◌≤◌, ◌^◌, ◌-◌, Bool, true, false, List, length, take, nat_lt, min, refl, arith}
use Rattle.std.proofs.lemmas.List.{length-take-le, take_all}
use Rattle.std.proofs.lemmas.Bool.{ltb-true, ltb-false}

-- a text that is too long is so by its first bytes, and another one is its first bytes
pub data Front (limit read : ℕ) (whole : List ℕ) : Type 0 where
  short : length whole ≤ limit → take read whole ≡ whole → Front limit read whole
  long : limit < length whole → limit < length (take read whole) → Front limit read whole

pub front : (limit read : ℕ) (whole : List ℕ) → read ≡ limit + 1 → Front limit read whole
front limit read whole one = case (nat_lt limit (length whole)) refl
  where
    case : (b : Bool) → nat_lt limit (length whole) ≡ b → Front limit read whole
    case true e =
        let more : limit < length whole = ltb-true _ _ e in
        let n : length (take read whole) ≡ read = length-take-le read whole (omega arith) in
        long more (omega arith)
    case false e =
        let few : length whole ≤ limit = ltb-false _ _ e in
        short few (take_all read whole (omega arith))

-- a count that rose after it may have risen before
pub rose_since : (before between after : ℕ) → before ≤ between → min (between + 1) (2 ^ 64 - 1) ≤ after → min (before + 1) (2 ^ 64 - 1) ≤ after
rose_since before between after late rose = capped (2 ^ 64 - 1) before between after late rose
  where
    capped : (cap before between after : ℕ) → before ≤ between → min (between + 1) cap ≤ after → min (before + 1) cap ≤ after
    capped cap before between after late rose = omega arith
