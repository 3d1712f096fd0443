-- What an audit finds: a replay document held against the meaning of its program.
use Rattle.std.specs.Prelude.{◌≡◌, ◌≢◌, ℕ, List, Some}
use Rattle.std.specs.FinMap as fm
use Rattle.sal_ast.specs.declared.program.Program.{Program}
use Rattle.sal_mail.specs.declared.plan.Plan.{Plan}
use Rattle.sal_document.specs.declared.shown.Replay.{Replay}
use Rattle.sal_source.specs.declared.state.Setup.{Setup}
use Rattle.sal_source.specs.Configuration.{Configuration}
use Rattle.sal_source.specs.Run.{play, IsFirstBad}
use Rattle.sal_audit.specs.declared.verdict.Verdict.{Verdict}
use Rattle.sal_audit.specs.declared.verdict.Verdict.TheVariants.{Agrees, Differs, BadStep, OtherProgram}

-- the plan's naming services and words; where its theatres are the meaning doesn't know
abbrev pub setup_of : Plan → Setup
setup_of plan = record { authorities = plan.names; words = plan.words }

-- how many messages, creations and joins are pending
abbrev pub pending_of : Configuration → ℕ × ℕ × ℕ
pending_of c = (fm.len c.waiting.messages, fm.len c.creations, fm.len c.waiting.joins)

-- The document says what is there: the printed texts, the faults, the answers, the actors in the order of their names
-- with their next numbers, and how much is pending.
pub record AgreesWith (replay : Replay) (c : Configuration) : Type 0 where
  pub output : replay.output ≡ c.output
  pub faults : replay.faults ≡ c.faults
  pub answers : replay.answers ≡ c.answers
  pub actors : replay.actors ≡ fm.values c.actors
  pub pending : replay.pending ≡ pending_of c

-- the document's steps are a run of the program, which ends with this
abbrev pub EndsWith : Program → Plan → Replay → Configuration → Type 0
EndsWith program plan replay c = play program (setup_of plan) replay.trace ≡ Some c

-- What is found, where this is the hash of the program's text. First the document's hash is another; or else a step is
-- the first that isn't possible; or else what the steps end with isn't what the document says, or it is.
abbrev pub IsAudit : Program → Plan → List ℕ → Replay → Verdict → Type 0
IsAudit program plan hash replay OtherProgram = replay.hash ≢ hash
IsAudit program plan hash replay (BadStep i) = (replay.hash ≡ hash) × IsFirstBad program (setup_of plan) replay.trace i
IsAudit program plan hash replay Differs =
    (replay.hash ≡ hash) × ((c : Configuration) × (EndsWith program plan replay c × (AgreesWith replay c → ⊥)))
IsAudit program plan hash replay Agrees = (replay.hash ≡ hash) × ((c : Configuration) × (EndsWith program plan replay c × AgreesWith replay c))
