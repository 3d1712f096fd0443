use Rattle.sal_schedule.specs.code.Words.{rest_words}
use Rattle.sal_schedule.proofs.KindRules.{clock_bad_1}
use Rattle.sal_schedule.proofs.events.clock.Goals as goal

pub returns-in_default-read_number : goal.returns-in_default-read_number
returns-in_default-read_number c =
    clock_bad_1 c.args.plan.now (rest_words c.args.rest) c.in-Some.place.now c.in-Some.time.now c.in-Some.ensures c.in_default-read_number.ensures
