use Rattle.sal_ast.proofs.ClosingStatements.{spelled}
use Rattle.sal_ast.proofs.law.spellings_are_not_empty.Goals as goal

pub returns : goal.returns
returns c = spelled
