use Rattle.sal_source.proofs.Never.{answer_once}
use Rattle.sal_source.proofs.law.steps_answer_once.Goals as goal

pub returns : goal.returns
returns c = answer_once
