-- Laws of replay documents.
use Rattle.std.specs.Prelude.{◌≡◌, ◌⊎◌, ℕ, List, Result, Ok, Err}
use Rattle.sal_ast.specs.declared.program.Program.{Program}
use Rattle.sal_document.specs.declared.shown.Replay.{Replay}
use Rattle.sal_document.specs.declared.shown.ReplayFault.{ReplayFault}
use Rattle.sal_document.specs.declared.shown.ReplayFault.TheVariants.{Memory}
use Rattle.sal_document.specs.Documents.{Document}
use Rattle.sal_document.specs.Refusals.{kept, IsTextOf, Reads}

-- What is printed of a document is read as what is kept of it, unless memory runs out.
abbrev pub PrintedDocumentsAreRead : Type 0
PrintedDocumentsAreRead = (p : Program) (text : List ℕ) (d : Document) (result : Result Replay ReplayFault) → IsTextOf p text d → Reads p text result → (result ≡ Ok (kept d)) ⊎ (result ≡ Err Memory)

-- A text is read in one way, unless memory runs out: as these parts, or as refused at this line.
abbrev pub TextsAreReadOneWay : Type 0
TextsAreReadOneWay = (p : Program) (text : List ℕ) (first second : Result Replay ReplayFault) → Reads p text first → Reads p text second
    → (first ≡ second) ⊎ ((first ≡ Err Memory) ⊎ (second ≡ Err Memory))
