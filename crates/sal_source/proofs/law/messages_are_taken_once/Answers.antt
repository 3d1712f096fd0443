use Rattle.sal_source.proofs.Never.{taken_once}
use Rattle.sal_source.proofs.law.messages_are_taken_once.Goals as goal

pub returns : goal.returns
returns c = taken_once
