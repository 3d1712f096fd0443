use Rattle.sal_tidy.proofs.Keeping.{after_handlers}
use Rattle.sal_tidy.proofs.law.handlers_leave_actors_tidy.Goals as goal

pub returns : goal.returns
returns c = after_handlers
