-- What the parts of a run's judgement say.
use Rattle.std.specs.Prelude.{◌≡◌, ℕ, true, false, List, codes}
use Rattle.sal_ast.specs.declared.program.Program.{Program}
use Rattle.sal_order.specs.declared.rounds.Rest.{Rest}
use Rattle.sal_order.specs.declared.rounds.Rest.TheVariants.{AtRest, Busy, Lost}
use Rattle.sal_forms.specs.Places.{names_places}
use Rattle.salsa.specs.declared.run.Judgement.{Judgement}
use Rattle.salsa.specs.declared.run.Judgement.TheVariants.{Refused, Ran}
use Rattle.salsa.specs.Top.{IsRunStatus, RunsTo}

-- the status of a run that ended so
abbrev pub IsStatusOf : Rest → ℕ → Type 0
IsStatusOf AtRest status = status ≡ 0
IsStatusOf Busy status = status ≡ 3
IsStatusOf Lost status = ⊥

-- what a program comes to
abbrev pub IsProgramJudgement : Program → List (List ℕ) → Judgement → Type 0
IsProgramJudgement program words (Refused line) = (line ≡ codes "refused form\n") × (names_places program ≡ true)
IsProgramJudgement program words (Ran told) = (names_places program ≡ false) × (IsRunStatus told.status × RunsTo program words told.status told.output told.errors)
