use Rattle.sal_handler.specs.Calls.{names_from}
use Rattle.sal_order.proofs.outcome.taken_names.Goals as goal

pub loop-i-init : goal.loop-i-init
unfolding names_from
loop-i-init c = c.new-names.ensures
