-- What a function that reads bytes answers: what reading gives, unless memory ran out.
use Rattle.std.specs.Prelude.{◌≡◌, Result, Ok, Err}
use Rattle.sal_value.specs.declared.value.DecodeFault.{DecodeFault}
use Rattle.sal_value.specs.declared.value.DecodeFault.TheVariants as fault
use Rattle.sal_value.specs.declared.fields.Fault.{Fault}
use Rattle.sal_value.specs.declared.fields.Fault.TheVariants.{Cut, Bad, Memory}

abbrev pub Fails : {Y : Type 0} → Fault → Result Y Fault → Type 0
Fails Cut read = read ≡ Err Cut
Fails (Bad left) read = read ≡ Err (Bad left)
Fails Memory read = Unit {0}

abbrev pub ReadsAs : {X Y : Type 0} → (X → Y) → Result X Fault → Result Y Fault → Type 0
ReadsAs view (Ok x) read = read ≡ Ok (view x)
ReadsAs view (Err e) read = Fails e read

-- the same of a call whose faults have their places
abbrev pub Decodes : {A : Type 0} → Result A DecodeFault → Result A DecodeFault → Type 0
Decodes (Err fault.Memory) read = Unit {0}
Decodes (Err fault.Cut) read = read ≡ Err fault.Cut
Decodes (Err (fault.Bad place)) read = read ≡ Err (fault.Bad place)
Decodes (Ok x) read = read ≡ Ok x
