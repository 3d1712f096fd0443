-- What comparing a document with what its steps have come to answers.
use Rattle.sal_document.specs.declared.shown.Replay.{Replay}
use Rattle.sal_source.specs.Configuration.{Configuration}
use Rattle.sal_audit.specs.declared.verdict.Verdict.{Verdict}
use Rattle.sal_audit.specs.declared.verdict.Verdict.TheVariants.{Agrees, Differs, BadStep, OtherProgram}
use Rattle.sal_audit.specs.Audits.{AgreesWith}

abbrev pub IsComparison : Replay → Configuration → Verdict → Type 0
IsComparison replay c Agrees = AgreesWith replay c
IsComparison replay c Differs = AgreesWith replay c → ⊥
IsComparison replay c (BadStep i) = ⊥
IsComparison replay c OtherProgram = ⊥
