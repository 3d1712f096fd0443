use Rattle.sal_ast.proofs.ClosingStatements.{bounded}
use Rattle.sal_ast.proofs.law.prefix_signs_are_bounded.Goals as goal

pub returns : goal.returns
returns c = bounded
