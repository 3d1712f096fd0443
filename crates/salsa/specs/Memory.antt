-- What files in memory hold, and which calls of a form in memory are to fail.
use Rattle.std.specs.Prelude.{ℕ, ◌+◌, ◌-◌, ◌^◌, min, nat_eq, Bool, true, false, if◌then◌else◌, List, [], ◌∷◌, Some, None, Result, Ok, Err}
use Rattle.std.specs.List.{list_any}
use Rattle.std.specs.Str.{bytes_eq}
use Rattle.salsa.specs.declared.memory.Calls.{Calls}
use Rattle.salsa.specs.declared.memory.Entry.{Entry}
use Rattle.salsa.specs.declared.outside.OutsideFault.{OutsideFault}
use Rattle.salsa.specs.declared.outside.OutsideFault.TheVariants.{Failed, Memory}
use Rattle.salsa.specs.Outside.{Held}

-- the bytes of the first entry under a name
abbrev pub held_of : List Entry → Held
held_of [] name = None
held_of (e ∷ es) name = if bytes_eq e.name name then Some e.bytes else held_of es name

-- a count after one more, which stands still at its end
abbrev pub one_more : ℕ → ℕ
one_more count = min (count + 1) (2 ^ 64 - 1)

-- these calls are to fail, and none was made yet
abbrev pub calls_from : List ℕ → Calls
calls_from failing = record { failing = failing; next = 0 }

-- whether the number of the next call is listed
abbrev pub is_listed : Calls → Bool
is_listed calls = list_any (λ number. nat_eq number calls.next) calls.failing

-- one call later
abbrev pub after_one : Calls → Calls
after_one calls = record { failing = calls.failing; next = one_more calls.next }

-- whether a call failed, and not for being out of memory
abbrev pub is_failed : Result (List ℕ) OutsideFault → Bool
is_failed (Ok bytes) = false
is_failed (Err Failed) = true
is_failed (Err Memory) = false
