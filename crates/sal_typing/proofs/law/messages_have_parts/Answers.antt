use Rattle.sal_typing.proofs.Messages.{message_parts}
use Rattle.sal_typing.proofs.law.messages_have_parts.Goals as goal

pub returns : goal.returns
returns c = message_parts
