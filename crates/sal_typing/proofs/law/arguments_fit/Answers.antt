use Rattle.sal_typing.proofs.Fitting.{arguments_fit}
use Rattle.sal_typing.proofs.law.arguments_fit.Goals as goal

pub returns : goal.returns
returns c = arguments_fit
