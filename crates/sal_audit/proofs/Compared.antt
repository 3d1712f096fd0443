-- The verdict on a document whose steps are a run.
use Rattle.std.proofs.Common.{◌≡◌, List, Some, Ok, refl, subst}
use Rattle.sal_ast.specs.declared.program.Program.{Program}
use Rattle.sal_mail.specs.declared.plan.Plan.{Plan}
use Rattle.sal_document.specs.declared.shown.Replay.{Replay}
use Rattle.sal_source.specs.declared.state.Setup.{Setup}
use Rattle.sal_source.specs.declared.state.Step.{Step}
use Rattle.sal_source.specs.Configuration.{End}
use Rattle.sal_source.specs.Run.{play, Plays}
use Rattle.sal_audit.specs.declared.verdict.Verdict.{Verdict}
use Rattle.sal_audit.specs.declared.verdict.Verdict.TheVariants.{Agrees, Differs, BadStep, OtherProgram}
use Rattle.sal_audit.specs.Audits.{setup_of, EndsWith, IsAudit}
use Rattle.sal_audit.specs.code.Comparing.{IsComparison}

module _ (program : Program) (plan : Plan) (replay : Replay) (setup : Setup) (steps : List Step) (end : End) where
  ends : setup ≡ setup_of plan → steps ≡ replay.trace → Plays program setup steps (Ok end) → EndsWith program plan replay end.configuration
  ends same_setup same_steps played =
      let P : Setup → Type 0 = λ s. play program s replay.trace ≡ Some end.configuration in
      let Q : List Step → Type 0 = λ ss. play program setup ss ≡ Some end.configuration in
      subst P same_setup (subst Q same_steps played.0)

  pub compared : (verdict : Verdict) → setup ≡ setup_of plan → steps ≡ replay.trace → Plays program setup steps (Ok end) → IsComparison replay end.configuration verdict → IsAudit program plan replay.hash replay verdict
  compared Agrees same_setup same_steps played it = (refl, (end.configuration, (ends same_setup same_steps played, it)))
  compared Differs same_setup same_steps played it = (refl, (end.configuration, (ends same_setup same_steps played, it)))
  compared (BadStep i) same_setup same_steps played it = absurd it
  compared OtherProgram same_setup same_steps played it = absurd it
