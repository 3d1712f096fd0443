use Rattle.sal_types.proofs.Ends.{handlers_end}
use Rattle.sal_types.proofs.law.handlers_with_results_end.Goals as goal

pub returns : goal.returns
returns c = handlers_end
