-- The command `audit P PLAN T`: which answers it may give.
use Rattle.std.specs.Prelude.{◌≡◌, ℕ, List, codes, length, Option, Ok}
use Rattle.sal_ast.specs.declared.program.Program.{Program}
use Rattle.sal_mail.specs.declared.plan.Plan.{Plan}
use Rattle.sal_document.specs.declared.shown.Replay.{Replay}
use Rattle.sal_document.specs.Refusals.{Reads, IsRefusedAt}
use Rattle.sal_audit.specs.declared.verdict.Verdict.{Verdict}
use Rattle.sal_audit.specs.declared.verdict.Verdict.TheVariants.{Agrees, Differs, BadStep, OtherProgram}
use Rattle.sal_audit.specs.Audits.{IsAudit}
use Rattle.salsa.specs.declared.audit.Audited.{Audited}
use Rattle.salsa.specs.declared.audit.Audited.TheVariants.{Halted, Refused, Found}
use Rattle.salsa.specs.Outside.{Held, FilesState, SinkState, Outside, OnFile}
use Rattle.salsa.specs.Inputs.{FileNames, three_names, AreGiven, IsHalt, halt_status, halt_line, number_line}
use Rattle.salsa.specs.Top.{Puts}

-- the files that `audit P PLAN T` names
abbrev pub audit_call : List (List ℕ) → Option FileNames
audit_call words = three_names (codes "audit") words

-- ---- what an audit comes to

-- a program and a plan are given, and this line of the third file's text is refused
pub record IsRefusedDocument (held : Option Held) (names : FileNames) (line : ℕ) : Type 0 where
  pub program : Program
  pub hash : List ℕ
  pub plan : Plan
  pub given : AreGiven held names program hash plan
  pub refused : OnFile held names.third (λ text. IsRefusedAt program text line)

-- a program and a plan are given and a document of so many steps, on which this is the verdict
pub record IsJudged (held : Option Held) (names : FileNames) (verdict : Verdict) (steps : ℕ) : Type 0 where
  pub program : Program
  pub hash : List ℕ
  pub plan : Plan
  pub replay : Replay
  pub given : AreGiven held names program hash plan
  pub document : OnFile held names.third (λ text. Reads program text (Ok replay))
  pub verdict_is : IsAudit program plan hash replay verdict
  pub count : steps ≡ length replay.trace

abbrev pub IsAudited : FileNames → FilesState → FilesState → Audited → Type 0
IsAudited names before after (Halted halt) = IsHalt names before after halt
IsAudited names before after (Refused line) = IsRefusedDocument before.held names line
IsAudited names before after (Found verdict steps) = IsJudged before.held names verdict steps

-- ---- its status and its line

abbrev pub verdict_status : Verdict → ℕ
verdict_status Agrees = 0
verdict_status Differs = 10
verdict_status (BadStep i) = 10
verdict_status OtherProgram = 10

abbrev pub audited_status : Audited → ℕ
audited_status (Halted halt) = halt_status halt
audited_status (Refused line) = 4
audited_status (Found verdict steps) = verdict_status verdict

abbrev pub verdict_line : Verdict → ℕ → List ℕ
verdict_line Agrees steps = number_line (codes "audit ok ") steps
verdict_line Differs steps = codes "audit refused result\n"
verdict_line (BadStep i) steps = number_line (codes "audit refused step ") i
verdict_line OtherProgram steps = codes "audit refused program\n"

abbrev pub audited_line : Audited → List ℕ
audited_line (Halted halt) = halt_line halt
audited_line (Refused line) = number_line (codes "trace refused line ") line
audited_line (Found verdict steps) = verdict_line verdict steps

-- The line of a status was put: with 0 into `out` and nothing into `err`, and else into `err` and nothing into `out`.
pub record Tells (wanted : ℕ) (line : List ℕ) (status : ℕ) (out err out_after err_after : SinkState) : Type 0 where
  pub accepted : wanted ≡ 0 → Puts wanted line status out out_after × (err_after ≡ err)
  pub other : (wanted ≡ 0 → ⊥) → Puts wanted line status err err_after × (out_after ≡ out)

-- What an audit of the files came to, and its line was put.
pub record AuditCause (status : ℕ) (names : FileNames) (before after : Outside) : Type 0 where
  pub audited : Audited
  pub is : IsAudited names before.files after.files audited
  pub told : Tells (audited_status audited) (audited_line audited) status before.out before.err after.out after.err
