use Rattle.sal_typing.proofs.Statements.{void_joins}
use Rattle.sal_typing.proofs.law.void_joins_are_void.Goals as goal

pub returns : goal.returns
returns c = void_joins
