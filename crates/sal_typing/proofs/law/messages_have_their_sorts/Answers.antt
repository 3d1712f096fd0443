use Rattle.sal_typing.proofs.Messages.{messages_have_sorts}
use Rattle.sal_typing.proofs.law.messages_have_their_sorts.Goals as goal

pub returns : goal.returns
returns c = messages_have_sorts
