use Rattle.sal_schedule.proofs.Universal.{given}
use Rattle.sal_schedule.proofs.arguments.universal.Goals as goal

pub returns-in-Ok : goal.returns-in-Ok
returns-in-Ok c = given c.args.word.now c.in-Ok.uan c.in-Ok.ensures
