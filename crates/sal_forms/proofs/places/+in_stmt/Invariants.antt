use Rattle.std.proofs.Common.{◌≡◌, drop}
use Rattle.std.specs.List.{list_any}
use Rattle.sal_forms.specs.Places as spec
use Rattle.sal_forms.proofs.places.+in_stmt.Given as goal

abbrev pub invariant-in_body-loop-stmt : goal.invariant-in_body-loop-stmt
invariant-in_body-loop-stmt l = list_any spec.stmt_names_places (drop l.stmt-index l.body) ≡ list_any spec.stmt_names_places l.body

abbrev pub invariant-in_stages-loop-stage : goal.invariant-in_stages-loop-stage
invariant-in_stages-loop-stage l = list_any spec.stage_names_places (drop l.stage-index l.stages) ≡ list_any spec.stage_names_places l.stages
