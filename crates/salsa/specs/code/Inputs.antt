-- What the functions answer that read the files of a command.
use Rattle.std.specs.Prelude.{◌≡◌, ◌≤◌, ℕ, List, take, Some, Result, Ok, Err}
use Rattle.sha2.specs.Sha256.{sha256}
use Rattle.sal_ast.specs.declared.program.Program.{Program}
use Rattle.sal_mail.specs.declared.plan.Plan.{Plan as ReadPlan}
use Rattle.sal_plan.specs.Plans.{lowest_rule}
use Rattle.salsa.specs.declared.inputs.Halt.{Halt}
use Rattle.salsa.specs.declared.inputs.Halt.TheVariants.{Program as BadProgram, Plan as BadPlan, File, Memory}
use Rattle.salsa.specs.declared.inputs.Inputs.{Inputs}
use Rattle.salsa.specs.Outside.{FilesState, OnFile, Rose}
use Rattle.salsa.specs.Programs.{IsTypedTextOf, IsRefused}
use Rattle.salsa.specs.Inputs.{FileNames, IsPlanText, AreGiven, IsHalt}

-- the files hold what they held, and no count of faults fell
pub record IsLater (before after : FilesState) : Type 0 where
  pub held : after.held ≡ before.held
  pub faults : (any : List ℕ) → before.faults any ≤ after.faults any

-- why a file wasn't read
abbrev pub IsUnread : FilesState → FilesState → List ℕ → Halt → Type 0
IsUnread before after name File = Rose (before.faults name) (after.faults name)
IsUnread before after name Memory = Unit {0}
IsUnread before after name (BadProgram refusal) = ⊥
IsUnread before after name (BadPlan rule) = ⊥

-- the program of a text and the text's hash, or why it has none
abbrev pub IsProgramJudgement : List ℕ → Result (Program × List ℕ) Halt → Type 0
IsProgramJudgement text (Ok read) = IsTypedTextOf text read.0 × (read.1 ≡ sha256 text)
IsProgramJudgement text (Err (BadProgram refusal)) = IsRefused text refusal
IsProgramJudgement text (Err Memory) = Unit {0}
IsProgramJudgement text (Err File) = ⊥
IsProgramJudgement text (Err (BadPlan rule)) = ⊥

-- the same of a plan
abbrev pub IsPlanJudgement : List ℕ → Result ReadPlan Halt → Type 0
IsPlanJudgement text (Ok plan) = IsPlanText text plan
IsPlanJudgement text (Err (BadPlan rule)) = lowest_rule text ≡ Some rule
IsPlanJudgement text (Err Memory) = Unit {0}
IsPlanJudgement text (Err File) = ⊥
IsPlanJudgement text (Err (BadProgram refusal)) = ⊥

-- the program of a file, or why there is none
abbrev pub ReadsProgram : FilesState → FilesState → List ℕ → Result (Program × List ℕ) Halt → Type 0
ReadsProgram before after name (Ok read) = OnFile before.held name (λ text. IsTypedTextOf text read.0 × (read.1 ≡ sha256 text))
ReadsProgram before after name (Err (BadProgram refusal)) = OnFile before.held name (λ text. IsRefused text refusal)
ReadsProgram before after name (Err File) = Rose (before.faults name) (after.faults name)
ReadsProgram before after name (Err Memory) = Unit {0}
ReadsProgram before after name (Err (BadPlan rule)) = ⊥

-- the same of a plan
abbrev pub ReadsPlan : FilesState → FilesState → List ℕ → Result ReadPlan Halt → Type 0
ReadsPlan before after name (Ok plan) = OnFile before.held name (λ text. IsPlanText text plan)
ReadsPlan before after name (Err (BadPlan rule)) = OnFile before.held name (λ text. lowest_rule text ≡ Some rule)
ReadsPlan before after name (Err File) = Rose (before.faults name) (after.faults name)
ReadsPlan before after name (Err Memory) = Unit {0}
ReadsPlan before after name (Err (BadProgram refusal)) = ⊥

-- the program, the plan, and so many bytes of the third file
pub record AreInputs (names : FileNames) (most : ℕ) (before : FilesState) (inputs : Inputs) : Type 0 where
  pub given : AreGiven before.held names inputs.program inputs.hash inputs.plan
  pub bytes : OnFile before.held names.third (λ whole. inputs.bytes ≡ take most whole)

-- they are given, or why not
abbrev pub ReadsInputs : FileNames → ℕ → FilesState → FilesState → Result Inputs Halt → Type 0
ReadsInputs names most before after (Ok inputs) = AreInputs names most before inputs
ReadsInputs names most before after (Err halt) = IsHalt names before after halt
