use Rattle.std.proofs.Common.{List, sym, ap, ◌∙◌}
use Rattle.std.specs.Prelude.{not}
use Rattle.sal_value.specs.declared.name.Uan.{Uan}
use Rattle.sal_value.specs.Order.{uan_key}
use Rattle.sal_entries.specs.Entries.{word_entries}
use Rattle.sal_routing.specs.Turns.{is_none}
use Rattle.sal_desk.specs.code.Asking.{again_in}
use Rattle.sal_desk.proofs.Readings.{again_are, again_skip, again_some, again_none}
use Rattle.sal_desk.proofs.questions.is_any_asked_again.Goals as goal

pub returns-then-is_question_again : goal.returns-then-is_question_again
returns-then-is_question_again c =
    again_some c.args.now (c.in-Some.field-0-0.now, c.in-Some.question.now) c.loop-question.question-iterator c.next.new.self (again_in c.args.now c.into_iter-question-iterator.result)
    (sym c.is_question_again.ensures ∙ c.if-is_question_again.true) c.in-Some.ensures.steps c.loop-question.invariant
    ∙ ap (λ (us : List Uan). not (is_none us)) (
    again_are c.args.now uan_key c.into_iter-question-iterator.result c.args.questions.now
    (ap (word_entries uan_key) c.into_iter-question-iterator.ensures.into_iter_gives ∙ c.iter-question-items.ensures.in_order))

pub loop-question-preserved : goal.loop-question-preserved
loop-question-preserved c =
    again_skip c.args.now (c.in-Some.field-0-0.now, c.in-Some.question.now) c.loop-question.question-iterator c.next.new.self (again_in c.args.now c.into_iter-question-iterator.result)
    (sym c.is_question_again.ensures ∙ c.if-is_question_again.false) c.in-Some.ensures.steps c.loop-question.invariant

pub returns : goal.returns
returns c =
    again_none c.args.now c.loop-question.question-iterator (again_in c.args.now c.into_iter-question-iterator.result) c.in-None.ensures.steps.0 c.loop-question.invariant
    ∙ ap (λ (us : List Uan). not (is_none us)) (
    again_are c.args.now uan_key c.into_iter-question-iterator.result c.args.questions.now
    (ap (word_entries uan_key) c.into_iter-question-iterator.ensures.into_iter_gives ∙ c.iter-question-items.ensures.in_order))
