use Rattle.sal_preservation.proofs.Keeping.{expressions_keep_types}
use Rattle.sal_preservation.proofs.law.expressions_keep_types.Goals as goal

pub returns : goal.returns
returns c = expressions_keep_types
