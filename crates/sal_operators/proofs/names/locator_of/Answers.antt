use Rattle.std.proofs.Common.{ap}
use Rattle.sal_handler.specs.Expressions.{good_locator}
use Rattle.sal_operators.proofs.names.locator_of.Goals as goal

pub returns-in-Ok : goal.returns-in-Ok
returns-in-Ok c = rw (← c.text_of.ensures) (ap good_locator (c.names_are_given.ensures.ual c.text_of.result.now c.in-Ok.locator c.in-Ok.ensures))
