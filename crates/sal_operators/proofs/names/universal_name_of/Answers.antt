use Rattle.std.proofs.Common.{ap}
use Rattle.sal_handler.specs.Expressions.{good_name}
use Rattle.sal_operators.proofs.names.universal_name_of.Goals as goal

pub returns-in-Ok : goal.returns-in-Ok
returns-in-Ok c = rw (← c.text_of.ensures) (ap good_name (c.names_are_given.ensures.uan c.text_of.result.now c.in-Ok.name c.in-Ok.ensures))
