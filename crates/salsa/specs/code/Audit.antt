-- What the functions answer that audit what is given.
use Rattle.std.specs.Prelude.{◌≡◌, ◌⊎◌, ℕ, List, length, Ok}
use Rattle.sal_document.specs.declared.shown.Replay.{Replay}
use Rattle.sal_document.specs.Refusals.{Reads, IsRefusedAt}
use Rattle.sal_audit.specs.Audits.{IsAudit}
use Rattle.salsa.specs.declared.inputs.Halt.TheVariants as halt
use Rattle.salsa.specs.declared.inputs.Inputs.{Inputs}
use Rattle.salsa.specs.declared.audit.Audited.{Audited}
use Rattle.salsa.specs.declared.audit.Audited.TheVariants.{Halted, Refused, Found}
use Rattle.salsa.specs.Outside.{SinkState}
use Rattle.salsa.specs.Top.{status_line}
use Rattle.salsa.specs.Audit.{audited_status, audited_line, Tells}

-- the verdict on a document, unless memory ran out
abbrev pub IsVerdictOn : Inputs → Replay → Audited → Type 0
IsVerdictOn inputs replay (Found verdict steps) = IsAudit inputs.program inputs.plan inputs.hash replay verdict × (steps ≡ length replay.trace)
IsVerdictOn inputs replay (Halted halt.Memory) = Unit {0}
IsVerdictOn inputs replay (Halted halt.File) = ⊥
IsVerdictOn inputs replay (Halted (halt.Program refusal)) = ⊥
IsVerdictOn inputs replay (Halted (halt.Plan rule)) = ⊥
IsVerdictOn inputs replay (Refused line) = ⊥

-- what the third file's text comes to, whose first bytes are given
abbrev pub IsFinding : Inputs → List ℕ → Audited → Type 0
IsFinding inputs text (Found verdict steps) =
    (replay : Replay) × (Reads inputs.program text (Ok replay) × (IsAudit inputs.program inputs.plan inputs.hash replay verdict × (steps ≡ length replay.trace)))
IsFinding inputs text (Refused line) = IsRefusedAt inputs.program text line
IsFinding inputs text (Halted halt.Memory) = Unit {0}
IsFinding inputs text (Halted halt.File) = ⊥
IsFinding inputs text (Halted (halt.Program refusal)) = ⊥
IsFinding inputs text (Halted (halt.Plan rule)) = ⊥

-- its line was put, or that memory ran out
abbrev pub IsAnswered : Audited → ℕ → SinkState → SinkState → SinkState → SinkState → Type 0
IsAnswered audited status out err out_after err_after =
    Tells (audited_status audited) (audited_line audited) status out err out_after err_after ⊎ Tells 7 (status_line 7) status out err out_after err_after
