use Rattle.sal_typing.proofs.ExpressionParts.{have_parts}
use Rattle.sal_typing.proofs.law.expressions_have_parts.Goals as goal

pub returns : goal.returns
returns c = have_parts
