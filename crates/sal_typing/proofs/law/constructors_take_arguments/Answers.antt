use Rattle.sal_typing.proofs.Fitting.{constructors_take}
use Rattle.sal_typing.proofs.law.constructors_take_arguments.Goals as goal

pub returns : goal.returns
returns c = constructors_take
