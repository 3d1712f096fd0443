use Rattle.sal_typing.proofs.Places.{typed_there}
use Rattle.sal_typing.proofs.law.statements_are_typed_there.Goals as goal

pub returns : goal.returns
returns c = typed_there
