use Rattle.std.proofs.Common.{◌≡◌, Some, None, Err, sym, ◌∙◌, rules}
use Rattle.sal_schedule.specs.Events.{event_of}
use Rattle.sal_schedule.specs.Rules.{line_event}
use Rattle.sal_schedule.specs.code.Words.{rest_words}
use Rattle.sal_schedule.proofs.Reading.{not_text, skips, told_rule, told_is, told_refused}
use Rattle.sal_schedule.proofs.line.read_line.Goals as goal

pub returns-in_default : goal.returns-in_default
returns-in_default c = not_text c.args.program.now c.args.plan.now c.args.last c.args.line.now c.in_default.ensures.cases.0

pub returns-then-is_skipped : goal.returns-then-is_skipped
returns-then-is_skipped c = skips c.args.program.now c.args.plan.now c.args.last c.args.line.now c.in-Ok.ensures.cases.1 (sym c.is_skipped.ensures ∙ c.if-is_skipped.true)

pub returns-in_err-event : goal.returns-in_err-event
returns-in_err-event c =
    let e : c.from_residual.result ≡ Err c.in_err-event.field-0.0 = search rules in
    told_refused c.args.program.now c.args.plan.now c.args.last c.args.line.now c.split_word.result.0.now (rest_words c.split_word.result.1) c.in-Some.kind (event_of c.args.program.now c.in-Some.kind (rest_words c.split_word.result.1)) (line_event c.args.program.now c.args.line.now) c.in_err-event.field-0.0 c.from_residual.result
    c.in-Ok.ensures.cases.1 (sym c.is_skipped.ensures ∙ c.if-is_skipped.false) c.split_word.ensures c.in-Some.ensures c.in_err-event.ensures e

pub returns : goal.returns
returns c = (
  told_rule c.args.program.now c.args.plan.now c.args.last c.args.line.now c.split_word.result.0.now (rest_words c.split_word.result.1) c.in-Some.kind None c.in-Ok.ensures.cases.1 (sym c.is_skipped.ensures ∙ c.if-is_skipped.false) c.split_word.ensures c.in-Some.ensures c.in_ok-event.ensures.0,
  told_is c.args.program.now c.args.line.now c.split_word.result.0.now (rest_words c.split_word.result.1) c.in-Some.kind (Some c.in_ok-event.event) (sym c.is_skipped.ensures ∙ c.if-is_skipped.false) c.split_word.ensures c.in-Some.ensures c.in_ok-event.ensures.1,
)
