use Rattle.std.proofs.Common.{ap, ◌∙◌}
use Rattle.sal_value.specs.Order.{uan_key}
use Rattle.sal_entries.specs.Entries.{word_entries}
use Rattle.sal_desk.specs.code.Asking.{again_in}
use Rattle.sal_desk.proofs.Readings.{again_are, again_step, again_end}
use Rattle.sal_desk.proofs.questions.again_due.Goals as goal

pub loop-question-preserved : goal.loop-question-preserved
loop-question-preserved c =
    again_step c.args.now c.loop-question.names c.push_if_again.new.names (c.in-Some.field-0-0.now, c.in-Some.question.now) c.loop-question.question-iterator c.next.new.self
    (again_in c.args.now c.into_iter-question-iterator.result) c.in_ok-push_if_again.ensures c.in-Some.ensures.steps c.loop-question.invariant

pub returns : goal.returns
returns c =
    again_end c.args.now c.loop-question.names c.loop-question.question-iterator (again_in c.args.now c.into_iter-question-iterator.result) c.in-None.ensures.steps.0 c.loop-question.invariant
    ∙ again_are c.args.now uan_key c.into_iter-question-iterator.result c.args.questions.now
    (ap (word_entries uan_key) c.into_iter-question-iterator.ensures.into_iter_gives ∙ c.iter-question-items.ensures.in_order)
