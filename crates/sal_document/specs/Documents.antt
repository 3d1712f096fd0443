-- Replay documents: lines that tell how a world was played, and what became of it.
use Rattle.std.specs.Prelude.{ℕ, List, [], ◌∷◌, ◌++◌, length, map, codes, slice_get, Option, Some, None}
use Rattle.hex.specs.Hex.{encode_lower}
use Rattle.std.specs.Fmt.{decimal}
use Rattle.std.specs.List.{flat_map}
use Rattle.sal_value.specs.declared.value.Value.{Value}
use Rattle.sal_value.specs.Names.{name_text, uan_text}
use Rattle.sal_mail.specs.declared.effects.Actor.{Actor}
use Rattle.sal_mail.specs.declared.fault.Fault.{Fault}
use Rattle.sal_mail.specs.Lines.{kind_text}
use Rattle.sal_ast.specs.declared.program.Behavior.{Behavior}
use Rattle.sal_ast.specs.declared.program.Program.{Program}
use Rattle.sal_ast.specs.Members.{Handler, handlers_at}
use Rattle.sal_source.specs.declared.state.Step.{Step}
use Rattle.sal_source.specs.declared.state.Step.TheVariants as step
use Rattle.sal_literals.specs.Texts.{quoted_text, value_text}
use Rattle.sal_document.specs.declared.shown.End.{End}
use Rattle.sal_document.specs.declared.shown.End.TheVariants as ending

-- What a document tells: the hash of the program's text; the steps; the printed texts, each with its theatre; the
-- faults; the answers to calls from outside; the actors, each with its next number and its theatre; how many
-- messages, creations and joins are pending; how many packets were sent; and how the world ended.
pub record Document : Type 0 where
  pub hash : List ℕ
  pub trace : List Step
  pub output : List (ℕ × List ℕ)
  pub faults : List Fault
  pub answers : List (ℕ × Value)
  pub actors : List (Actor × ℕ × ℕ)
  pub pending : ℕ × ℕ × ℕ
  pub packets : ℕ
  pub ending : End

-- ---- words

abbrev pub Words : Type 0
Words = List (List ℕ)

-- the name of the behaviour with this number
abbrev pub name_in : Option Behavior → List ℕ
name_in None = []
name_in (Some b) = b.name.text

abbrev pub behavior_name : Program → ℕ → List ℕ
behavior_name p behavior = name_in (slice_get p.behaviors behavior)

-- the name of its handler with this number
abbrev pub handler_name_in : Option Handler → List ℕ
handler_name_in None = []
handler_name_in (Some h) = h.name

abbrev pub handler_name : Program → ℕ → ℕ → List ℕ
handler_name p behavior handler = handler_name_in (slice_get (handlers_at p.behaviors (Some behavior)) handler)

unfoldable pub end_text : End → List ℕ
end_text ending.AtRest = codes "at-rest"
end_text ending.NotAtRest = codes "not-at-rest"
end_text ending.PacketsFull = codes "packets-full"

-- ---- the words of the lines

unfoldable pub step_words : Program → Step → Words
step_words p (step.Handle maker serial fresh) = codes "handle" ∷ name_text maker ∷ decimal serial ∷ map name_text fresh
step_words p (step.Print maker serial) = codes "print" ∷ name_text maker ∷ decimal serial ∷ []
step_words p (step.Bind maker serial) = codes "bind" ∷ name_text maker ∷ decimal serial ∷ []
step_words p (step.Refuse maker serial) = codes "refuse" ∷ name_text maker ∷ decimal serial ∷ []
step_words p (step.Post number target behavior handler args) =
    codes "post" ∷ decimal number ∷ uan_text target ∷ behavior_name p behavior ∷ handler_name p behavior handler ∷ map value_text args

unfoldable pub output_words : ℕ × List ℕ → Words
output_words printed = decimal printed.0 ∷ quoted_text printed.1 ∷ []

unfoldable pub fault_words : Fault → Words
fault_words f = name_text f.maker ∷ decimal f.serial ∷ kind_text f.kind ∷ []

unfoldable pub answer_words : ℕ × Value → Words
answer_words answer = decimal answer.0 ∷ value_text answer.1 ∷ []

unfoldable pub actor_words : Program → Actor × ℕ × ℕ → Words
actor_words p shown =
    name_text shown.0.name ∷ decimal shown.2 ∷ behavior_name p shown.0.behavior ∷ decimal shown.1 ∷ map value_text shown.0.fields

-- `salsa-replay 1`
abbrev pub heading_words : Words
heading_words = codes "salsa-replay" ∷ codes "1" ∷ []

-- two digits in lower case for each byte
abbrev pub hash_words : List ℕ → Words
hash_words hash = codes "program" ∷ encode_lower hash ∷ []

-- how many lines a section has
abbrev pub count_words : List ℕ → ℕ → Words
count_words name count = name ∷ decimal count ∷ []

abbrev pub pending_words : ℕ × ℕ × ℕ → Words
pending_words pending = codes "pending" ∷ decimal pending.0 ∷ decimal pending.1 ∷ decimal pending.2 ∷ []

abbrev pub packets_words : ℕ → Words
packets_words packets = codes "packets" ∷ decimal packets ∷ []

abbrev pub end_words : End → Words
end_words how = codes "end" ∷ end_text how ∷ []

-- ---- the text

-- the words with a space between two of them, and a line feed
unfoldable pub line_text : Words → List ℕ
line_text [] = 10 ∷ []
line_text (word ∷ words) = word ++ (flat_map (λ w. 32 ∷ w) words ++ 10 ∷ [])

-- how many lines there are, and these lines
unfoldable pub section_text : {A : Type 0} → List ℕ → (A → Words) → List A → List ℕ
section_text name words items = line_text (count_words name (length items)) ++ flat_map (λ x. line_text (words x)) items

-- the first two lines
unfoldable pub head_text : List ℕ → List ℕ
head_text hash = line_text heading_words ++ line_text (hash_words hash)

-- the last three
unfoldable pub tail_text : ℕ × ℕ × ℕ → ℕ → End → List ℕ
tail_text pending packets how = line_text (pending_words pending) ++ (line_text (packets_words packets) ++ line_text (end_words how))

-- what came of the steps, but for what was printed
unfoldable pub results_text : Program → Document → List ℕ
results_text p d =
    section_text (codes "faults") fault_words d.faults
    ++ (section_text (codes "answers") answer_words d.answers
    ++ (section_text (codes "actors") (actor_words p) d.actors ++ tail_text d.pending d.packets d.ending))

-- the whole document
unfoldable pub document_text : Program → Document → List ℕ
document_text p d =
    head_text d.hash
    ++ (section_text (codes "trace") (step_words p) d.trace ++ (section_text (codes "output") output_words d.output ++ results_text p d))
