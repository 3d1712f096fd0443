use Rattle.sal_typing.proofs.Members.{programs_have_parts}
use Rattle.sal_typing.proofs.law.programs_have_parts.Goals as goal

pub returns : goal.returns
returns c = programs_have_parts
