use Rattle.sal_effects.proofs.Rising.{numbers_in_order}
use Rattle.sal_effects.proofs.law.handlers_number_in_order.Goals as goal

pub returns : goal.returns
returns c = numbers_in_order
