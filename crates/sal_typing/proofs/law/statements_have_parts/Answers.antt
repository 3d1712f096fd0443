use Rattle.sal_typing.proofs.StatementParts.{statements_have_parts}
use Rattle.sal_typing.proofs.law.statements_have_parts.Goals as goal

pub returns : goal.returns
returns c = statements_have_parts
