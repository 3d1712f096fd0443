use Rattle.std.proofs.Common.{arith}
use Rattle.std.proofs.lemmas.Bool.Decides.{nat_tests}
use Rattle.sal_schedule.specs.code.Words.{rest_words}
use Rattle.sal_schedule.proofs.KindRules.{settle_bad_2, settle_good, settle_is}
use Rattle.sal_schedule.proofs.events.settle.Goals as goal

pub returns-then-rounds-gt-MOST_ROUNDS : goal.returns-then-rounds-gt-MOST_ROUNDS
returns-then-rounds-gt-MOST_ROUNDS c =
    settle_bad_2 c.args.plan.now (rest_words c.args.rest) c.in-Some.rounds.now c.in-Some-read_number.rounds c.in-Some.ensures c.in-Some-read_number.ensures (grind (arith, nat_tests))

pub returns : goal.returns
returns c = (
  settle_good c.args.plan.now (rest_words c.args.rest) c.in-Some.rounds.now c.in-Some-read_number.rounds c.in-Some.ensures c.in-Some-read_number.ensures (grind (arith, nat_tests)),
  settle_is (rest_words c.args.rest) c.in-Some.rounds.now c.in-Some-read_number.rounds c.in-Some.ensures c.in-Some-read_number.ensures,
)
