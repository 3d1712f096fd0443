use Rattle.sal_typing.proofs.Statements.{keep_scopes}
use Rattle.sal_typing.proofs.law.statements_keep_scopes.Goals as goal

pub returns : goal.returns
returns c = keep_scopes
