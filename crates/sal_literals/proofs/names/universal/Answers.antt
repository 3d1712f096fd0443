use Rattle.sal_literals.proofs.UniversalNames.{given_is}
use Rattle.sal_literals.proofs.names.universal.Goals as goal

pub returns-in-Ok : goal.returns-in-Ok
returns-in-Ok c = given_is c.args.text.now c.in-Ok.uan c.in-Ok.ensures
