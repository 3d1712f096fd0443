-- What holds of every configuration that a run of a program comes to.
use Rattle.std.specs.Prelude.{◌≡◌, ℕ, false, List, ◌++◌, Some}
use Rattle.std.specs.FinMap as fm
use Rattle.sal_value.specs.declared.name.Name.{Name}
use Rattle.sal_value.specs.declared.value.Value.{Value}
use Rattle.sal_ast.specs.declared.program.Program.{Program}
use Rattle.sal_mail.specs.declared.message.Join.{Join}
use Rattle.sal_mail.specs.declared.fault.Fault.{Fault}
use Rattle.sal_mail.specs.Message.{is_full}
use Rattle.sal_handler.specs.Calls.{Meaning}
use Rattle.sal_source.specs.declared.state.Setup.{Setup}
use Rattle.sal_source.specs.declared.state.Step.{Step}
use Rattle.sal_source.specs.Table.{TableKey}
use Rattle.sal_source.specs.Configuration.{Configuration}
use Rattle.sal_source.specs.Step.{step}
use Rattle.sal_source.specs.Run.{play}

-- no open join is full: each lacks a value
abbrev pub JoinsLackValues : Configuration → Type 0
JoinsLackValues c = (key : TableKey) (j : Name × Join) → fm.get c.waiting.joins key ≡ Some j
    → is_full j.1 ≡ false

-- In every configuration that a run of a program comes to, each open join lacks a value.
abbrev pub OpenJoinsLackValues : Type 0
OpenJoinsLackValues = (p : Program) (setup : Setup) (ss : List Step) (c : Configuration)
    → play p setup ss ≡ Some c → JoinsLackValues c

-- The later configuration has all texts, faults and answers of the earlier one, and perhaps more
-- behind them.
pub record TellsMore (c d : Configuration) : Type 0 where
  pub texts : List (List ℕ)
  pub output : d.output ≡ c.output ++ texts
  pub failures : List Fault
  pub faults : d.faults ≡ c.faults ++ failures
  pub replies : List (ℕ × Value)
  pub answers : d.answers ≡ c.answers ++ replies

-- Whatever a step tells stands behind what was told before, which stays.
abbrev pub StepsTellMore : Type 0
StepsTellMore = (p : Meaning) (setup : Setup) (s : Step) (c d : Configuration)
    → step p setup c s ≡ Some d → TellsMore c d
