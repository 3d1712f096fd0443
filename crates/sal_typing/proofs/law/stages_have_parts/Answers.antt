use Rattle.sal_typing.proofs.StatementParts.{stages_have_parts}
use Rattle.sal_typing.proofs.law.stages_have_parts.Goals as goal

pub returns : goal.returns
returns c = stages_have_parts
