-- What the code that prints adds, and what it is given.
use Rattle.std.specs.Prelude.{ℕ, List, ◌∷◌, filter_map, slice_get}
use Rattle.std.specs.List.{flat_map}
use Rattle.sal_ast.specs.declared.program.Member.{Member}
use Rattle.sal_ast.specs.Members.{as_handler}
use Rattle.sal_document.specs.declared.shown.Shown.{Shown}
use Rattle.sal_document.specs.Documents.{Document, Words, handler_name_in}

-- each word after a space
abbrev pub after_spaces : Words → List ℕ
after_spaces words = flat_map (λ w. 32 ∷ w) words

-- the name of the handler with this number among these members
abbrev pub handler_name_among : List Member → ℕ → List ℕ
handler_name_among members handler = handler_name_in (slice_get (filter_map as_handler members) handler)

-- what is shown
abbrev pub shown_document : Shown → Document
shown_document shown = record {
  hash = shown.hash.now;
  trace = shown.trace.now;
  output = shown.output.now;
  faults = shown.faults.now;
  answers = shown.answers.now;
  actors = shown.report.now.actors;
  pending = shown.report.now.pending;
  packets = shown.packets;
  ending = shown.end;
}
