use Rattle.sal_schedule.specs.code.Words.{rest_words}
use Rattle.sal_schedule.proofs.KindRules.{move_bad_1, move_bad_2, move_bad_3, move_bad_4}
use Rattle.sal_schedule.proofs.events.move_actor.Goals as goal

pub returns-in_default-read_number : goal.returns-in_default-read_number
returns-in_default-read_number c =
    move_bad_1 c.args.plan.now (rest_words c.args.rest) c.in-Some.from.now c.in-Some.name.now c.in-Some.to.now c.in-Some.ensures c.in_default-read_number.ensures

pub returns-in_default-read_number-2 : goal.returns-in_default-read_number-2
returns-in_default-read_number-2 c =
    move_bad_2 c.args.plan.now (rest_words c.args.rest) c.in-Some.from.now c.in-Some.name.now c.in-Some.to.now c.in-Some-read_number.first c.in-Some.ensures c.in-Some-read_number.ensures
    c.in_default-read_number-2.ensures

pub returns-in_default-theatre : goal.returns-in_default-theatre
returns-in_default-theatre c =
    move_bad_3 c.args.plan.now (rest_words c.args.rest) c.in-Some.from.now c.in-Some.name.now c.in-Some.to.now c.in-Some-read_number.first c.in-Some-read_number-2.second c.in-Some.ensures
    c.in-Some-read_number.ensures c.in-Some-read_number-2.ensures c.in_default-theatre.ensures

pub returns-in_default-theatre-2 : goal.returns-in_default-theatre-2
returns-in_default-theatre-2 c =
    move_bad_4 c.args.plan.now (rest_words c.args.rest) c.in-Some.from.now c.in-Some.name.now c.in-Some.to.now c.in-Some-read_number.first c.in-Some-read_number-2.second c.in-Some.ensures
    c.in-Some-read_number.ensures c.in-Some-read_number-2.ensures c.in-Some-theatre.ensures.0 c.in_default-theatre-2.ensures
