use Rattle.sal_ast.proofs.ClosingStatements.{closed}
use Rattle.sal_ast.proofs.law.brackets_are_closed.Goals as goal

pub returns : goal.returns
returns c = closed
