use Rattle.sal_typing.proofs.Fitting.{assignable_fits}
use Rattle.sal_typing.proofs.law.assignable_types_fit.Goals as goal

pub returns : goal.returns
returns c = assignable_fits
