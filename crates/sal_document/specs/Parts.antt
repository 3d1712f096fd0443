-- Which parts a document may have: those that can be read again.
use Rattle.std.specs.Prelude.{◌≡◌, ℕ, ◌<◌, ◌^◌, ◌==◌, Bool, ◌&&◌, ◌||◌, not, if◌then◌else◌, IsTrue, List, length, Option, Some, None}
use Rattle.std.specs.List.{list_all, AllByRecursion}
use Rattle.std.specs.Str.{is_utf8}
use Rattle.sal_value.specs.declared.name.Name.{Name}
use Rattle.sal_value.specs.declared.value.Value.{Value}
use Rattle.sal_value.specs.Names.{is_uan}
use Rattle.sal_value.specs.Coding.{name_in_range, IsBytes}
use Rattle.sal_value.specs.Spelling.{name_is_spelled}
use Rattle.sal_mail.specs.declared.effects.Actor.{Actor}
use Rattle.sal_mail.specs.declared.fault.Fault.{Fault}
use Rattle.sal_ast.specs.declared.program.Program.{Program}
use Rattle.sal_ast.specs.Members.{behavior_by_name}
use Rattle.sal_types.specs.Signatures.{numbers_by_name}
use Rattle.sal_source.specs.declared.state.Step.{Step}
use Rattle.sal_source.specs.declared.state.Step.TheVariants as step
use Rattle.sal_literals.specs.Texts.{is_literal}
use Rattle.sal_document.specs.declared.constants.TheConstants.{MOST_THEATRES}
use Rattle.sal_document.specs.Documents.{Document, behavior_name, handler_name}

-- a number of 64 bits
abbrev pub IsNumber : ℕ → Type 0
IsNumber n = n < 2 ^ 64

abbrev pub IsTheatre : ℕ → Type 0
IsTheatre n = n < MOST_THEATRES

-- its numbers are in range, and its text is read again
abbrev pub IsName : Name → Type 0
IsName n = IsTrue (name_in_range n) × IsTrue (name_is_spelled n)

abbrev pub IsLiteral : Value → Type 0
IsLiteral v = IsTrue (is_literal v)

-- no space, line feed or quote
abbrev pub is_plain_byte : ℕ → Bool
is_plain_byte b = not (b == 32 || (b == 10 || b == 34))

abbrev pub is_plain : List ℕ → Bool
is_plain word = list_all is_plain_byte word

-- the number of the program's behaviour of this name
unfoldable pub named_behavior : Program → List ℕ → Option ℕ
named_behavior p name = if is_plain name then behavior_by_name name p.behaviors else None

-- the numbers of the program's behaviour and handler of these names
unfoldable pub named_handler : Program → List ℕ → List ℕ → Option (ℕ × ℕ)
named_handler p behavior handler = if is_plain behavior && is_plain handler then numbers_by_name behavior handler p else None

-- the program has this behaviour, and its name is no other's
abbrev pub IsBehavior : Program → ℕ → Type 0
IsBehavior p behavior = named_behavior p (behavior_name p behavior) ≡ Some behavior

-- the same of a handler of a behaviour
abbrev pub IsHandler : Program → ℕ → ℕ → Type 0
IsHandler p behavior handler = named_handler p (behavior_name p behavior) (handler_name p behavior handler) ≡ Some (behavior, handler)

-- ---- what a line may tell

abbrev pub IsMade : Name → ℕ → Type 0
IsMade maker serial = IsName maker × IsNumber serial

abbrev pub IsStep : Program → Step → Type 0
IsStep p (step.Handle maker serial fresh) = IsMade maker serial × AllByRecursion IsName fresh
IsStep p (step.Print maker serial) = IsMade maker serial
IsStep p (step.Bind maker serial) = IsMade maker serial
IsStep p (step.Refuse maker serial) = IsMade maker serial
IsStep p (step.Post number target behavior handler args) =
    IsNumber number × IsTrue (is_uan target) × IsHandler p behavior handler × AllByRecursion IsLiteral args

abbrev pub IsPrinted : ℕ × List ℕ → Type 0
IsPrinted printed = IsTheatre printed.0 × IsTrue (is_utf8 printed.1)

abbrev pub IsFault : Fault → Type 0
IsFault f = IsMade f.maker f.serial

abbrev pub IsAnswer : ℕ × Value → Type 0
IsAnswer answer = IsNumber answer.0 × IsLiteral answer.1

-- an actor with its next number and its theatre
abbrev pub IsShownActor : Program → Actor × ℕ × ℕ → Type 0
IsShownActor p shown =
    IsName shown.0.name × IsTheatre shown.2 × IsBehavior p shown.0.behavior × IsNumber shown.1 × AllByRecursion IsLiteral shown.0.fields

-- 32 bytes
abbrev pub IsHash : List ℕ → Type 0
IsHash hash = (length hash ≡ 32) × IsBytes hash

abbrev pub ArePending : ℕ × ℕ × ℕ → Type 0
ArePending pending = IsNumber pending.0 × IsNumber pending.1 × IsNumber pending.2

-- ---- documents

-- fewer than 2^64 of these
abbrev pub AreParts : {A : Type 0} → (A → Type 0) → List A → Type 0
AreParts Is items = IsNumber (length items) × AllByRecursion Is items

-- each part of a document may stand there
pub record IsDocument (p : Program) (d : Document) : Type 0 where
  pub hash : IsHash d.hash
  pub trace : AreParts (IsStep p) d.trace
  pub output : AreParts IsPrinted d.output
  pub faults : AreParts IsFault d.faults
  pub answers : AreParts IsAnswer d.answers
  pub actors : AreParts (IsShownActor p) d.actors
  pub pending : ArePending d.pending
  pub packets : IsNumber d.packets
