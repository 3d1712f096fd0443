-- What a command is given in three files, a program, a plan and a third one, and why it ends before the third is judged.
use Rattle.std.specs.Prelude.{◌≡◌, ℕ, ◌⊎◌, List, [], ◌∷◌, ◌++◌, codes, cond, Option, Some, None}
use Rattle.std.specs.Fmt.{decimal}
use Rattle.std.specs.Str.{bytes_eq}
use Rattle.sha2.specs.Sha256.{sha256}
use Rattle.sal_ast.specs.declared.program.Program.{Program}
use Rattle.sal_mail.specs.declared.plan.Plan.{Plan as ReadPlan}
use Rattle.sal_plan.specs.Plans.{lowest_rule, plan_written}
use Rattle.salsa.specs.declared.inputs.Halt.{Halt}
use Rattle.salsa.specs.declared.inputs.Halt.TheVariants.{Program as BadProgram, Plan as BadPlan, File, Memory}
use Rattle.salsa.specs.Outside.{Held, FilesState, OnFile, Rose}
use Rattle.salsa.specs.Programs.{IsTypedTextOf, IsRefused, refusal_line}
use Rattle.salsa.specs.Top.{status_line}

-- the names of the three files
pub record FileNames : Type 0 where
  pub program : List ℕ
  pub plan : List ℕ
  pub third : List ℕ

abbrev pub file_names : List ℕ → List ℕ → List ℕ → FileNames
file_names program plan third = record { program = program; plan = plan; third = third }

-- what the words name, where they are this command and three names
abbrev pub three_names : List ℕ → List (List ℕ) → Option FileNames
three_names command (word ∷ program ∷ plan ∷ third ∷ []) = cond (bytes_eq word command) (Some (file_names program plan third)) None
three_names command _ = None

-- ---- what is given

-- the text is the plan's, which breaks no rule
abbrev pub IsPlanText : List ℕ → ReadPlan → Type 0
IsPlanText text plan = (lowest_rule text ≡ None) × (plan ≡ plan_written text)

-- the first two files have the texts of this program, with this hash, and of this plan
pub record AreGiven (held : Option Held) (names : FileNames) (program : Program) (hash : List ℕ) (plan : ReadPlan) : Type 0 where
  pub program_text : OnFile held names.program (λ text. IsTypedTextOf text program × (hash ≡ sha256 text))
  pub plan_text : OnFile held names.plan (λ text. IsPlanText text plan)

-- ---- why a command ends before its third file is judged

-- the first file has the text of a typed program
abbrev pub HasProgram : Option Held → FileNames → Type 0
HasProgram held names = OnFile held names.program (λ text. (program : Program) × IsTypedTextOf text program)

-- the second has that of a plan
abbrev pub HasPlan : Option Held → FileNames → Type 0
HasPlan held names = OnFile held names.plan (λ text. (plan : ReadPlan) × IsPlanText text plan)

-- the count of faults of a file rose, and those before it were accepted
abbrev pub IsFileFault : FileNames → FilesState → FilesState → Type 0
IsFileFault names before after =
    Rose (before.faults names.program) (after.faults names.program)
    ⊎ ((HasProgram before.held names × Rose (before.faults names.plan) (after.faults names.plan))
    ⊎ (HasProgram before.held names × HasPlan before.held names × Rose (before.faults names.third) (after.faults names.third)))

-- the program is refused, or the plan after a program that isn't, or a file can't be read; or memory ran out
abbrev pub IsHalt : FileNames → FilesState → FilesState → Halt → Type 0
IsHalt names before after (BadProgram refusal) = OnFile before.held names.program (λ text. IsRefused text refusal)
IsHalt names before after (BadPlan rule) =
    HasProgram before.held names × OnFile before.held names.plan (λ text. lowest_rule text ≡ Some rule)
IsHalt names before after File = IsFileFault names before after
IsHalt names before after Memory = Unit {0}

-- ---- its status and its line

abbrev pub halt_status : Halt → ℕ
halt_status (BadProgram refusal) = 2
halt_status (BadPlan rule) = 9
halt_status File = 5
halt_status Memory = 7

-- the words, a number and a newline
abbrev pub number_line : List ℕ → ℕ → List ℕ
number_line words number = words ++ (decimal number ++ 10 ∷ [])

abbrev pub halt_line : Halt → List ℕ
halt_line (BadProgram refusal) = refusal_line refusal
halt_line (BadPlan rule) = number_line (codes "plan refused Q") rule
halt_line File = status_line 5
halt_line Memory = status_line 7
