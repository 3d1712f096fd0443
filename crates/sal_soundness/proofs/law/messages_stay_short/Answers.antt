use Rattle.sal_soundness.proofs.Counting.{messages_short}
use Rattle.sal_soundness.proofs.law.messages_stay_short.Goals as goal

pub returns : goal.returns
returns c = messages_short
