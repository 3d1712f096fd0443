use Rattle.std.proofs.Common.{arith, sym, ap, ◌∙◌, [], Ok}
use Rattle.std.proofs.lemmas.Grind.{common_steps}
use Rattle.std.proofs.Common.{List, Err}
use Rattle.sal_ast.specs.declared.statement.Property.{Property}
use Rattle.sal_sorts.specs.Refusals.{Yields, first, fine, and_then}
use Rattle.sal_sorts.specs.Messages.{property_verdict, message_verdict, reply_sort}
use Rattle.sal_sorts.specs.code.Messaging.{args_result, units_result, message_rules}
use Rattle.sal_sorts.proofs.MessageRefusals.{message_first, message_at_args, message_at_properties, message_at_rules, message_at_end, refused_then}
use Rattle.sal_sorts.proofs.message.judge_message.Goals as goal

pub returns-in_err-target : goal.returns-in_err-target
returns-in_err-target c = grind (arith, common_steps, message_first c.args.m.now c.args.env.now c.args.before.now)

pub returns-in_err-sorts : goal.returns-in_err-sorts
returns-in_err-sorts c = grind (arith, common_steps, message_at_args c.args.m.now c.args.env.now c.args.before.now c.in_ok-target.target [] c.in_ok-target.ensures)

pub returns-in_err-judge_properties : goal.returns-in_err-judge_properties
returns-in_err-judge_properties c =
    let t : Yields (first (message_verdict c.args.m.now c.args.env.now c.args.before.now)) (Err c.in_err-judge_properties.field-0.0) =
    refused_then _ _ _ c.in_err-judge_properties.field-0.0
    (message_at_properties c.args.m.now c.args.env.now c.args.before.now c.in_ok-target.target c.in_ok-sorts.sorts c.in_ok-target.ensures (ap (λ l. args_result [] l c.args.before.now c.args.env.now) (sym c.as_slice.ensures) ∙ c.in_ok-sorts.ensures.judged)
    ∙ ap (λ (ps : List Property). and_then (units_result (property_verdict c.args.env.now) ps) (λ u. and_then (fine (message_rules c.args.m.now c.in_ok-target.target c.in_ok-sorts.sorts c.args.env.now)) (λ w. Ok (reply_sort c.args.m.now c.in_ok-target.target c.args.env.now)))) (sym c.as_slice-2.ensures))
    c.in_err-judge_properties.ensures in
    grind (arith, common_steps, t)

pub returns-in_err-message_rule : goal.returns-in_err-message_rule
returns-in_err-message_rule c = grind (arith, common_steps, message_at_rules c.args.m.now c.args.env.now c.args.before.now c.in_ok-target.target c.in_ok-sorts.sorts c.in_ok-target.ensures (ap (λ l. args_result [] l c.args.before.now c.args.env.now) (sym c.as_slice.ensures) ∙ c.in_ok-sorts.ensures.judged) (ap (units_result (property_verdict c.args.env.now)) (sym c.as_slice-2.ensures) ∙ c.in_ok-judge_properties.ensures))

pub returns : goal.returns
returns c = message_at_end c.args.m.now c.args.env.now c.args.before.now c.in_ok-target.target c.in_ok-sorts.sorts c.in_ok-target.ensures (ap (λ l. args_result [] l c.args.before.now c.args.env.now) (sym c.as_slice.ensures) ∙ c.in_ok-sorts.ensures.judged) (ap (units_result (property_verdict c.args.env.now)) (sym c.as_slice-2.ensures) ∙ c.in_ok-judge_properties.ensures) c.in_ok-message_rule.ensures ∙ ap Ok (sym c.reply_sort.ensures)
