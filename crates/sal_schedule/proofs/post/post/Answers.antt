use Rattle.std.proofs.Common.{ℕ, Some, sym, ap, ◌∙◌, arith}
use Rattle.std.proofs.lemmas.Bool.Decides.{nat_tests}
use Rattle.sal_events.specs.declared.event.Event.TheVariants as event
use Rattle.sal_schedule.specs.Events.{call_of}
use Rattle.sal_schedule.specs.code.Words.{rest_words}
use Rattle.sal_schedule.proofs.KindRules.{post_bad_1, post_bad_2, post_bad_3, post_bad_4, post_bad_5, post_bad_6, post_bad_7, post_good, post_is}
use Rattle.sal_schedule.proofs.post.post.Goals as goal

pub returns-in_default-read_number : goal.returns-in_default-read_number
returns-in_default-read_number c = post_bad_1 c.args.program.now c.args.plan.now c.args.last (rest_words c.args.rest) (rest_words c.in-Some.words.values) c.in-Some.words.theatre.now c.in-Some.words.number.now c.in-Some.words.target.now c.in-Some.words.behavior.now c.in-Some.words.handler.now c.in-Some.ensures c.in_default-read_number.ensures

pub returns-in_default-read_number-2 : goal.returns-in_default-read_number-2
returns-in_default-read_number-2 c = post_bad_2 c.args.program.now c.args.plan.now c.args.last (rest_words c.args.rest) (rest_words c.in-Some.words.values) c.in-Some.words.theatre.now c.in-Some.words.number.now c.in-Some.words.target.now c.in-Some.words.behavior.now c.in-Some.words.handler.now c.in-Some-read_number.place c.in-Some.ensures c.in-Some-read_number.ensures c.in_default-read_number-2.ensures

pub returns-in_default-theatre : goal.returns-in_default-theatre
returns-in_default-theatre c = post_bad_3 c.args.program.now c.args.plan.now c.args.last (rest_words c.args.rest) (rest_words c.in-Some.words.values) c.in-Some.words.theatre.now c.in-Some.words.number.now c.in-Some.words.target.now c.in-Some.words.behavior.now c.in-Some.words.handler.now c.in-Some-read_number.place c.in-Some-read_number-2.number c.in-Some.ensures c.in-Some-read_number.ensures c.in-Some-read_number-2.ensures c.in_default-theatre.ensures

pub returns-in_default-2 : goal.returns-in_default-2
returns-in_default-2 c = post_bad_4 c.args.program.now c.args.plan.now c.args.last (rest_words c.args.rest) (rest_words c.in-Some.words.values) c.in-Some.words.theatre.now c.in-Some.words.number.now c.in-Some.words.target.now c.in-Some.words.behavior.now c.in-Some.words.handler.now c.in-Some-read_number.place c.in-Some-read_number-2.number c.in-Some.ensures c.in-Some-read_number.ensures c.in-Some-read_number-2.ensures c.in-Some-theatre.ensures.0 (sym c.in_default-2.is ∙ c.in_ok-target.ensures)

pub returns-then-number-last : goal.returns-then-number-last
returns-then-number-last c = post_bad_5 c.args.program.now c.args.plan.now c.args.last (rest_words c.args.rest) (rest_words c.in-Some.words.values) c.in-Some.words.theatre.now c.in-Some.words.number.now c.in-Some.words.target.now c.in-Some.words.behavior.now c.in-Some.words.handler.now c.in-Some-read_number.place c.in-Some-read_number-2.number c.in-Some-2.target c.in-Some.ensures c.in-Some-read_number.ensures c.in-Some-read_number-2.ensures c.in-Some-theatre.ensures.0 (sym c.in-Some-2.is ∙ c.in_ok-target.ensures) (grind (arith, nat_tests))

pub returns-in_default-3 : goal.returns-in_default-3
returns-in_default-3 c = post_bad_6 c.args.program.now c.args.plan.now c.args.last (rest_words c.args.rest) (rest_words c.in-Some.words.values) c.in-Some.words.theatre.now c.in-Some.words.number.now c.in-Some.words.target.now c.in-Some.words.behavior.now c.in-Some.words.handler.now c.in-Some-read_number.place c.in-Some-read_number-2.number c.in-Some-2.target c.in-Some.ensures c.in-Some-read_number.ensures c.in-Some-read_number-2.ensures c.in-Some-theatre.ensures.0 (sym c.in-Some-2.is ∙ c.in_ok-target.ensures) (grind (arith, nat_tests)) (sym c.in_default-3.is ∙ c.in_ok-args.ensures)

pub returns-in-Some-4 : goal.returns-in-Some-4
returns-in-Some-4 c = (
  post_good c.args.program.now c.args.plan.now c.args.last (rest_words c.args.rest) (rest_words c.in-Some.words.values) c.in-Some.words.theatre.now c.in-Some.words.number.now c.in-Some.words.target.now c.in-Some.words.behavior.now c.in-Some.words.handler.now c.in-Some-read_number.place c.in-Some-read_number-2.number c.in-Some-2.target c.in-Some-3.args (c.in-Some-4.behavior, c.in-Some-4.handler) c.in-Some.ensures c.in-Some-read_number.ensures c.in-Some-read_number-2.ensures c.in-Some-theatre.ensures.0 (sym c.in-Some-2.is ∙ c.in_ok-target.ensures) (grind (arith, nat_tests)) (sym c.in-Some-3.is ∙ c.in_ok-args.ensures) (sym c.in-Some-4.is ∙ c.in_ok-behavior.ensures ∙ ap (call_of c.args.program.now c.in-Some.words.behavior.now c.in-Some.words.handler.now) c.as_slice.ensures),
  post_is c.args.program.now c.args.plan.now c.args.last (rest_words c.args.rest) (rest_words c.in-Some.words.values) c.in-Some.words.theatre.now c.in-Some.words.number.now c.in-Some.words.target.now c.in-Some.words.behavior.now c.in-Some.words.handler.now c.in-Some-read_number.place c.in-Some-read_number-2.number c.in-Some-2.target c.in-Some-3.args (c.in-Some-4.behavior, c.in-Some-4.handler) c.in-Some.ensures c.in-Some-read_number.ensures c.in-Some-read_number-2.ensures (sym c.in-Some-2.is ∙ c.in_ok-target.ensures) (sym c.in-Some-3.is ∙ c.in_ok-args.ensures) (sym c.in-Some-4.is ∙ c.in_ok-behavior.ensures ∙ ap (call_of c.args.program.now c.in-Some.words.behavior.now c.in-Some.words.handler.now) c.as_slice.ensures)
      ∙ ap (λ (k : ℕ). Some (event.Post k c.in-Some-read_number-2.number c.in-Some-2.target c.in-Some-4.behavior c.in-Some-4.handler c.in-Some-3.args)) (sym c.in-Some-theatre.ensures.1),
)

pub returns-in-None : goal.returns-in-None
returns-in-None c = post_bad_7 c.args.program.now c.args.plan.now c.args.last (rest_words c.args.rest) (rest_words c.in-Some.words.values) c.in-Some.words.theatre.now c.in-Some.words.number.now c.in-Some.words.target.now c.in-Some.words.behavior.now c.in-Some.words.handler.now c.in-Some-read_number.place c.in-Some-read_number-2.number c.in-Some-2.target c.in-Some-3.args c.in-Some.ensures c.in-Some-read_number.ensures c.in-Some-read_number-2.ensures c.in-Some-theatre.ensures.0 (sym c.in-Some-2.is ∙ c.in_ok-target.ensures) (grind (arith, nat_tests)) (sym c.in-Some-3.is ∙ c.in_ok-args.ensures) (sym c.in-None.is ∙ c.in_ok-behavior.ensures ∙ ap (call_of c.args.program.now c.in-Some.words.behavior.now c.in-Some.words.handler.now) c.as_slice.ensures)
