-- Where handlers keep types, everything fits in every run.
use Rattle.std.specs.Prelude.{◌≡◌, ℕ, ◌≤◌, ◌⊎◌, true, List, [], ◌∷◌, length, Option, Some, None}
use Rattle.std.specs.FinMap as fm
use Rattle.sal_value.specs.declared.name.Name.{Name}
use Rattle.sal_value.specs.declared.value.Sort.{Sort}
use Rattle.sal_value.specs.declared.value.Value.{Value}
use Rattle.sal_value.specs.declared.value.Value.TheVariants.{Array}
use Rattle.sal_value.specs.Spelling.{name_is_spelled}
use Rattle.sal_mail.specs.declared.message.Target.{Target}
use Rattle.sal_mail.specs.declared.message.Target.TheVariants as target
use Rattle.sal_mail.specs.declared.message.Message.{Message}
use Rattle.sal_mail.specs.declared.effects.Actor.{Actor}
use Rattle.sal_mail.specs.declared.effects.Creation.{Creation}
use Rattle.sal_mail.specs.declared.effects.Effects.{Effects}
use Rattle.sal_mail.specs.Message.{is_ready, known_values}
use Rattle.sal_types.specs.declared.signature.Signature.{Signature}
use Rattle.sal_handler.specs.declared.turn.Outcome.TheVariants.{Done}
use Rattle.sal_handler.specs.declared.turn.Began.{Began}
use Rattle.sal_handler.specs.declared.turn.Began.TheVariants as began
use Rattle.sal_handler.specs.Calls.{Call, Meaning}
use Rattle.sal_handler.specs.Fits.{fits_sort}
use Rattle.sal_handler.specs.WellFormed.{EachOf, IsLegalPiece, IsOldReply, IsOrderly}
use Rattle.sal_source.specs.declared.state.Setup.{Setup}
use Rattle.sal_source.specs.declared.state.Step.{Step}
use Rattle.sal_source.specs.declared.state.Step.TheVariants.{Handle, Print, Bind, Refuse, Post}
use Rattle.sal_source.specs.Table.{TableKey}
use Rattle.sal_source.specs.Configuration.{Configuration}
use Rattle.sal_source.specs.Run.{run}
use Rattle.sal_fitting.specs.Signatures.{Signatures, signature_at, Agrees}
use Rattle.sal_fitting.specs.Messages.{fits_print}
use Rattle.sal_fitting.specs.Handlers.{HandlersKeepTypes}

-- the state of the start actor fits, and `act` with these words
abbrev pub BeginsTyped : Meaning → List Value → Began → Type 0
BeginsTyped p words (began.Actor behavior handler fields) =
    (p.fits_state behavior fields ≡ true) × (p.fits_call behavior handler (Array words ∷ []) ≡ true)
BeginsTyped p words (began.Trap kind) = Unit {0}

-- a call fits the program, and what is printed can be printed
abbrev pub FitsTo : Meaning → Target → Message → Type 0
FitsTo p (target.Actor n) m = p.fits_call m.behavior m.handler (known_values m.args) ≡ true
FitsTo p target.Output m = fits_print m.behavior m.handler (known_values m.args) ≡ true

-- a message to an actor goes to a handler that there is, and has as many arguments as it takes; what is printed is at most one
abbrev pub HasArguments : Signatures → Target → Message → Type 0
HasArguments sigs (target.Actor n) m = (g : Signature) × ((signature_at sigs m.behavior m.handler ≡ Some g) × (length m.args ≡ length g.params))
HasArguments sigs target.Output m = length m.args ≤ 1

-- ---- answers

-- a result of this type
abbrev pub IsResult : Option Signature → Sort → Type 0
IsResult None t = ⊥
IsResult (Some g) t = g.result ≡ t

-- the step is the post with this number, of a handler with this result
abbrev pub IsPost : Signatures → Step → ℕ → Sort → Type 0
IsPost sigs (Post number to behavior handler args) n t =
    (n ≡ number) × IsResult (signature_at sigs behavior handler) t
IsPost sigs (Handle maker serial fresh) n t = ⊥
IsPost sigs (Print maker serial) n t = ⊥
IsPost sigs (Bind maker serial) n t = ⊥
IsPost sigs (Refuse maker serial) n t = ⊥

-- one of the steps is
abbrev pub HasPost : Signatures → List Step → ℕ → Sort → Type 0
HasPost sigs [] n t = ⊥
HasPost sigs (x ∷ ss) n t = IsPost sigs x n t ⊎ HasPost sigs ss n t

-- The answer to a post is a legal value of its handler's result.
pub record IsAnswerToPost (sigs : Signatures) (ss : List Step) (x : ℕ × Value) : Type 0 where
  pub sort : Sort
  pub posted : HasPost sigs ss x.0 sort
  pub fits : fits_sort (Some sort) x.1 ≡ true

-- ---- the law

-- After these steps each ready message fits, and each state. Each pending message has as many arguments as its handler takes, and
-- the known ones are legal. Actors' names have spellings, and answers are of the results of the posts' handlers.
pub record AllFits (p : Meaning) (sigs : Signatures) (ss : List Step) (c : Configuration) : Type 0 where
  pub messages : (key : TableKey) (m : Message) → fm.get c.waiting.messages key ≡ Some m
      → is_ready m ≡ true → FitsTo p m.target m
  pub legal : (key : TableKey) (m : Message) → fm.get c.waiting.messages key ≡ Some m
      → EachOf IsLegalPiece m.args
  pub arguments : (key : TableKey) (m : Message) → fm.get c.waiting.messages key ≡ Some m
      → HasArguments sigs m.target m
  pub states : (key : TableKey) (a : Actor × ℕ) → fm.get c.actors key ≡ Some a
      → p.fits_state a.0.behavior a.0.fields ≡ true
  pub names : (key : TableKey) (a : Actor × ℕ) → fm.get c.actors key ≡ Some a
      → name_is_spelled a.0.name ≡ true
  pub creations : (key : TableKey) (x : Name × Creation) → fm.get c.creations key ≡ Some x
      → p.fits_state x.1.behavior x.1.fields ≡ true
  pub answers : EachOf (IsAnswerToPost sigs ss) c.answers

-- Where handlers are orderly and keep types, and the start fits, everything fits after every run.
abbrev pub RunsKeepTypes : Type 0
RunsKeepTypes =
    (p : Meaning) (sigs : Signatures) (sizes : List ℕ) (setup : Setup) → Agrees sigs p
    → ((c : Call) (e : Effects) → IsOldReply c.me c.serial c.reply → p.outcome c ≡ Done e → IsOrderly sizes c e)
    → HandlersKeepTypes sigs p.outcome → BeginsTyped p setup.words p.begin
    → (ss : List Step) (end : Configuration) → run p setup ss ≡ Some end → AllFits p sigs ss end
