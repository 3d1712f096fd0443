-- The first line of a text that isn't of the form that is wanted there, and what reading answers.
use Rattle.std.specs.Prelude.{◌≡◌, ◌⊎◌, ℕ, zero, suc, ◌<◌, ◌≤◌, ◌==◌, if◌then◌else◌, List, [], ◌∷◌, ◌++◌, length, map, codes, replicate, Result, Ok, Err}
use Rattle.sal_ast.specs.declared.program.Program.{Program}
use Rattle.sal_schedule.specs.Lines.{before_first}
use Rattle.sal_document.specs.declared.constants.TheConstants.{LONGEST_DOCUMENT}
use Rattle.sal_document.specs.declared.shown.End.{End}
use Rattle.sal_document.specs.declared.shown.Replay.{Replay}
use Rattle.sal_document.specs.declared.shown.ReplayFault.{ReplayFault}
use Rattle.sal_document.specs.declared.shown.ReplayFault.TheVariants as replay
use Rattle.sal_document.specs.Documents as spec
use Rattle.sal_document.specs.Documents.{Document, Words, line_text, document_text}
use Rattle.sal_document.specs.Parts as parts

-- ---- lines

-- A text cut into lines: after each line feed, which belongs to the line before it. What follows the last line feed is
-- a line that has none.
abbrev pub lines_of : List ℕ → List (List ℕ)
lines_of [] = []
lines_of (b ∷ bytes) = if b == 10 then (10 ∷ []) ∷ lines_of bytes else before_first b (lines_of bytes)

-- ---- forms of lines

pub data Form : Type 0 where
  heading : Form
  hash : Form
  step : Form
  output : Form
  fault : Form
  answer : Form
  actor : Form
  pending : Form
  packets : Form
  end : Form

-- the line tells something of this kind
abbrev pub Tells : {A : Type 0} → (A → Type 0) → (A → Words) → List ℕ → Type 0
Tells {A} Is words line = (x : A) × Is x × (line ≡ line_text (words x))

-- the line is of this form
abbrev pub IsOf : Program → Form → List ℕ → Type 0
IsOf p heading line = line ≡ line_text spec.heading_words
IsOf p hash line = Tells parts.IsHash spec.hash_words line
IsOf p step line = Tells (parts.IsStep p) (spec.step_words p) line
IsOf p output line = Tells parts.IsPrinted spec.output_words line
IsOf p fault line = Tells parts.IsFault spec.fault_words line
IsOf p answer line = Tells parts.IsAnswer spec.answer_words line
IsOf p actor line = Tells (parts.IsShownActor p) (spec.actor_words p) line
IsOf p pending line = Tells parts.ArePending spec.pending_words line
IsOf p packets line = Tells parts.IsNumber spec.packets_words line
IsOf p end line = Tells {A = End} (λ e. Unit {0}) spec.end_words line

-- ---- what is wanted

-- A line of a form, or the line that tells how many lines of a form follow it.
pub data Wanted : Type 0 where
  one : Form → Wanted
  counted : (name : List ℕ) → Form → Wanted

-- the lines of a document
abbrev pub whole : List Wanted
whole =
    one heading ∷ one hash ∷ counted (codes "trace") step ∷ counted (codes "output") output ∷ counted (codes "faults") fault
    ∷ counted (codes "answers") answer ∷ counted (codes "actors") actor ∷ one pending ∷ one packets ∷ one end ∷ []

-- The first n lines are as wanted, where a count that is read says how many lines are wanted after it. Where there are
-- fewer lines, no more is wanted.
abbrev pub Agree : Program → ℕ → List Wanted → List (List ℕ) → Type 0
Agree p zero wanted lines = Unit {0}
Agree p (suc n) [] [] = Unit {0}
Agree p (suc n) [] (line ∷ lines) = ⊥
Agree p (suc n) (w ∷ wanted) [] = ⊥
Agree p (suc n) (one form ∷ wanted) (line ∷ lines) = IsOf p form line × Agree p n wanted lines
Agree p (suc n) (counted name form ∷ wanted) (line ∷ lines) =
    (count : ℕ) × parts.IsNumber count × (line ≡ line_text (spec.count_words name count)) × Agree p n (replicate count (one form) ++ wanted) lines

-- The lines before the one with this number are as wanted, and with it they aren't. So it is the first that is wrong, or
-- the first that is missing.
abbrev pub IsFirstWrong : Program → List (List ℕ) → ℕ → Type 0
IsFirstWrong p lines number = (before : ℕ) × (number ≡ suc before) × Agree p before whole lines × (Agree p (suc before) whole lines → ⊥)

-- ---- what reading answers

-- what is kept of a document
abbrev pub kept : Document → Replay
kept d = record {
  hash = d.hash;
  trace = d.trace;
  output = map (λ printed. printed.1) d.output;
  faults = d.faults;
  answers = d.answers;
  actors = map (λ shown. (shown.0, shown.1)) d.actors;
  pending = d.pending;
}

-- the text of a document that isn't too long
abbrev pub IsTextOf : Program → List ℕ → Document → Type 0
IsTextOf p text d = parts.IsDocument p d × (text ≡ document_text p d) × (length text ≤ LONGEST_DOCUMENT)

-- a text that is too long is refused at its first line, and each other at the first that is wrong
abbrev pub IsRefusedAt : Program → List ℕ → ℕ → Type 0
IsRefusedAt p text number = ((LONGEST_DOCUMENT < length text) × (number ≡ 1)) ⊎ ((length text ≤ LONGEST_DOCUMENT) × IsFirstWrong p (lines_of text) number)

-- the parts of the document whose text it is, or the line that is refused, unless memory ran out
abbrev pub Reads : Program → List ℕ → Result Replay ReplayFault → Type 0
Reads p text (Ok r) = (d : Document) × IsTextOf p text d × (r ≡ kept d)
Reads p text (Err (replay.Refused number)) = IsRefusedAt p text number
Reads p text (Err replay.Memory) = Unit {0}
