use Rattle.std.proofs.Common.{sym, ap, ◌∙◌}
use Rattle.sal_ast.specs.declared.statement.Property.{Property}
use Rattle.sal_sorts.specs.Refusals.{first}
use Rattle.sal_sorts.specs.Messages.{property_verdict, waitfor_verdict}
use Rattle.sal_sorts.specs.code.Messaging.{units_result}
use Rattle.sal_sorts.proofs.MessageRefusals.{property_wait, yields_by}
use Rattle.sal_sorts.proofs.message.judge_property.Goals as goal

pub returns-in-WaitFor : goal.returns-in-WaitFor
returns-in-WaitFor c =
    yields_by _ _ _
    (ap (λ (p : Property). first (property_verdict c.args.env.now p)) c.in-WaitFor.is
    ∙ property_wait c.in-WaitFor.at c.in-WaitFor.names c.args.env.now
    ∙ ap (units_result (waitfor_verdict c.args.env.now)) (sym c.as_slice.ensures))
    c.judge_waitfors.ensures
