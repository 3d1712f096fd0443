-- What holds of accepted programs: their handlers, constructors and starts keep types, and so do their runs.
use Rattle.std.specs.Prelude.{◌≡◌, ◌≢◌, ◌≤◌, true, List, [], length, Ok, Some}
use Rattle.std.specs.FinMap as fm
use Rattle.std.specs.List.{list_any}
use Rattle.sal_value.specs.declared.value.Base.TheVariants as base
use Rattle.sal_value.specs.declared.value.Value.{Value}
use Rattle.sal_value.specs.declared.value.Value.TheVariants.{Array}
use Rattle.sal_ast.specs.declared.program.Program.{Program}
use Rattle.sal_ast.specs.declared.statement.Stmt.{Stmt}
use Rattle.sal_mail.specs.declared.message.Message.{Message}
use Rattle.sal_types.specs.Endings.{surely_ends}
use Rattle.sal_types.specs.Programs.{IsAccepted}
use Rattle.sal_handler.specs.declared.state.Flow.{Flow}
use Rattle.sal_handler.specs.declared.state.Flow.TheVariants.{Next}
use Rattle.sal_handler.specs.declared.state.State.{State}
use Rattle.sal_handler.specs.Scopes.{Context}
use Rattle.sal_handler.specs.Statements.{exec_block}
use Rattle.sal_handler.specs.Handler.{new_fields, handle, begin}
use Rattle.sal_handler.specs.Fits.{fits_sort, meaning_of}
use Rattle.sal_source.specs.declared.state.Setup.{Setup}
use Rattle.sal_source.specs.declared.state.Step.{Step}
use Rattle.sal_source.specs.Table.{TableKey}
use Rattle.sal_source.specs.Configuration.{Configuration}
use Rattle.sal_source.specs.Run.{play}
use Rattle.sal_fitting.specs.Handlers.{HandlersKeepTypes}
use Rattle.sal_fitting.specs.Programs.{signatures}
use Rattle.sal_fitting.specs.Runs.{BeginsTyped, AllFits}
use Rattle.sal_preservation.specs.States.{MakesFields}

-- ---- bodies

-- Outside of joins a body with a statement that surely ends doesn't fall off its end: it returns, or its reply was passed on.
abbrev pub BodiesThatEndReturn : Type 0
BodiesThatEndReturn =
    (body : List Stmt) → list_any surely_ends body ≡ true → (r : Context) → r.within ≡ [] → (old new : State) (f : Flow)
    → exec_block body r old ≡ Ok (f, new) → f ≢ Next

-- ---- accepted programs

-- Of arguments of a constructor's parameters, its behaviour's initialisers and the constructor make fields of their types.
abbrev pub ConstructorsMakeFields : Type 0
ConstructorsMakeFields = (p : Program) → IsAccepted p → MakesFields p.behaviors (new_fields p.behaviors)

-- Where a call fits, what its handler leaves is typed.
abbrev pub HandlersOfAcceptedKeepTypes : Type 0
HandlersOfAcceptedKeepTypes = (p : Program) → IsAccepted p → HandlersKeepTypes (signatures p) (handle p)

-- texts, whose array is legal
abbrev pub AreWords : List Value → Type 0
AreWords words = fits_sort (Some (record { base = base.Str; dims = 1 })) (Array words) ≡ true

-- The start actor's fields are of their types, and its `act` takes the words.
abbrev pub AcceptedBeginTyped : Type 0
AcceptedBeginTyped = (p : Program) → IsAccepted p → (words : List Value) → AreWords words → BeginsTyped (meaning_of p) words (begin p)

-- After every run each ready message fits its handler or can be printed, the fields of each actor and creation are of their types,
-- and each answer is a legal value of the result of the handler that its post called.
abbrev pub RunsOfAcceptedFit : Type 0
RunsOfAcceptedFit =
    (p : Program) (setup : Setup) → IsAccepted p → AreWords setup.words → (ss : List Step) (end : Configuration) → play p setup ss ≡ Some end
    → AllFits (meaning_of p) (signatures p) ss end

-- Each pending message has at most 16 arguments.
abbrev pub MessagesStayShort : Type 0
MessagesStayShort =
    (p : Program) (setup : Setup) → IsAccepted p → AreWords setup.words → (ss : List Step) (end : Configuration) → play p setup ss ≡ Some end
    → (key : TableKey) (m : Message) → fm.get end.waiting.messages key ≡ Some m → length m.args ≤ 16
