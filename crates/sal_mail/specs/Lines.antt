-- Lines that tell a fault.
use Rattle.std.specs.Prelude.{ℕ, List, [], ◌∷◌, ◌++◌, codes}
use Rattle.std.specs.Fmt.{decimal}
use Rattle.sal_value.specs.Names.{name_text}
use Rattle.sal_mail.specs.declared.fault.Trap.{Trap}
use Rattle.sal_mail.specs.declared.fault.Trap.TheVariants as trap
use Rattle.sal_mail.specs.declared.fault.FaultKind.{FaultKind}
use Rattle.sal_mail.specs.declared.fault.FaultKind.TheVariants as kind
use Rattle.sal_mail.specs.declared.fault.Fault.{Fault}

-- the names of the traps
abbrev pub trap_text : Trap → List ℕ
trap_text trap.ZeroDivisor = codes "zero-divisor"
trap_text trap.Index = codes "index-out-of-range"
trap_text trap.NegativeLength = codes "negative-length"
trap_text trap.NullTarget = codes "null-target"
trap_text trap.BadName = codes "bad-name"
trap_text trap.BadLocator = codes "bad-locator"
trap_text trap.BadDelay = codes "bad-delay"
trap_text trap.TooLarge = codes "too-large"
trap_text trap.TooManyTurns = codes "too-many-turns"
trap_text trap.TooManyMessages = codes "too-many-messages"

-- the names of the kinds
unfoldable pub kind_text : FaultKind → List ℕ
kind_text (kind.Trap t) = trap_text t
kind_text kind.NoHandler = codes "no-handler"
kind_text kind.NameTaken = codes "name-taken"

-- `fault maker number kind` and a newline
abbrev pub fault_line : Fault → List ℕ
fault_line f = codes "fault " ++ (name_text f.maker ++ 32 ∷ (decimal f.serial ++ 32 ∷ (kind_text f.kind ++ 10 ∷ [])))
