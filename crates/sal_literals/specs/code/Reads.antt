-- What a function that reads bytes answers: what reading gives, unless memory ran out.
use Rattle.std.specs.Prelude.{◌≡◌, ℕ, ◌==◌, Bool, ◌||◌, List, drop, Result, Ok, Err, Option, Some, None}
use Rattle.std.specs.Option.{option_map}
use Rattle.sal_value.specs.declared.name.Name.{Name}
use Rattle.sal_value.specs.declared.name.Name.TheVariants as name
use Rattle.sal_value.specs.Names.{until, from_first, is_colon}
use Rattle.sal_literals.specs.declared.fault.Fault.{Fault}
use Rattle.sal_literals.specs.declared.fault.Fault.TheVariants.{Wrong, Memory}
use Rattle.sal_literals.specs.declared.names.Names.{Names}
use Rattle.sal_literals.specs.declared.names.Names.TheVariants.{Own, Universal}
use Rattle.sal_literals.specs.Reading.{number_of, anon_of, name_of, schedule_name_of}

abbrev pub Misses : {Y : Type 0} → Fault → Option Y → Type 0
Misses Wrong read = read ≡ None
Misses Memory read = Unit {0}

abbrev pub ReadsAs : {X Y : Type 0} → (X → Y) → Result X Fault → Option Y → Type 0
ReadsAs view (Ok x) read = read ≡ Some (view x)
ReadsAs view (Err e) read = Misses e read

-- one of two bytes
abbrev pub is_either : ℕ → ℕ → ℕ → Bool
is_either first second b = b == first || b == second

abbrev pub names_by : Names → List ℕ → Option Name
names_by Own = name_of
names_by Universal = schedule_name_of

-- what stands after `anon:` and after `outside:`
abbrev pub anon_in : List ℕ → Option Name
anon_in rest = anon_of (number_of (until is_colon rest)) (number_of (drop 1 (from_first is_colon rest)))

abbrev pub outside_in : List ℕ → Option Name
outside_in digits = option_map name.Outside (number_of digits)
