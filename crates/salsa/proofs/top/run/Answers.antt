use Rattle.std.proofs.Common.{refl, sym, ◌∙◌}
use Rattle.salsa.proofs.Causes.{usage_cause, memory_cause}
use Rattle.salsa.proofs.top.run.Goals as goal

pub returns-in-Ok-false-clause-cause : goal.returns-in-Ok-false-clause-cause
returns-in-Ok-false-clause-cause g c = usage_cause _ _ _ _ _ (sym c.in-Ok-false.ensures ∙ c.in-Ok-false.field-0-test) c.put.ensures refl

pub returns-in-Err-clause-cause : goal.returns-in-Err-clause-cause
returns-in-Err-clause-cause g c = memory_cause _ _ _ _ _ c.put-in-Err.ensures refl
