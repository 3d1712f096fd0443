use Rattle.sal_tidy.proofs.Keeping.{after_replies}
use Rattle.sal_tidy.proofs.law.replies_leave_actors_tidy.Goals as goal

pub returns : goal.returns
returns c = after_replies
