use Rattle.std.proofs.Common.{subst}
use Rattle.sal_document.specs.Refusals.{Reads}
use Rattle.sal_document.proofs.Whole.{reads}
use Rattle.sal_document.proofs.reading.read_replay.Goals as goal

pub returns : goal.returns
returns c = subst (λ p. Reads p c.args.bytes.now c.read_text.result) c.program.ensures.same (reads _ _ _ c.read_text.ensures)
