-- How the code looks at the slots of a join.
use Rattle.std.specs.Prelude.{ℕ, Bool, ◌||◌, nat_eq, List, Option, is_some}
use Rattle.std.specs.List.{list_all, enumerate_from}
use Rattle.sal_value.specs.declared.value.Value.{Value}

-- no slot but this one is empty
abbrev pub are_full_but : ℕ → List (Option Value) → Bool
are_full_but at slots = list_all (λ e. nat_eq e.0 at || is_some e.1) (enumerate_from 0 slots)
