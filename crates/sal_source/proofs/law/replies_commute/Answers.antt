use Rattle.sal_source.proofs.Fuel.{two_replies}
use Rattle.sal_source.proofs.law.replies_commute.Goals as goal

pub returns : goal.returns
returns c = two_replies
