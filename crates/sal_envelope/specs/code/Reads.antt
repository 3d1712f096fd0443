-- What a function that reads bytes answers: what reading gives, unless memory ran out.
use Rattle.std.specs.Prelude.{◌≡◌, Result, Ok, Err}
use Rattle.sal_envelope.specs.declared.fault.Fault.{Fault}
use Rattle.sal_envelope.specs.declared.fault.Fault.TheVariants.{Cut, Bad, Memory}

abbrev pub Fails : {Y : Type 0} → Fault → Result Y Fault → Type 0
Fails Cut read = read ≡ Err Cut
Fails (Bad left) read = read ≡ Err (Bad left)
Fails Memory read = Unit {0}

abbrev pub ReadsAs : {X Y : Type 0} → (X → Y) → Result X Fault → Result Y Fault → Type 0
ReadsAs view (Ok x) read = read ≡ Ok (view x)
ReadsAs view (Err e) read = Fails e read
