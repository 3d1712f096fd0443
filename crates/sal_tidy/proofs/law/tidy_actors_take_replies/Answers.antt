use Rattle.sal_tidy.proofs.Keeping.{take_replies}
use Rattle.sal_tidy.proofs.law.tidy_actors_take_replies.Goals as goal

pub returns : goal.returns
returns c = take_replies
