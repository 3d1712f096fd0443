use Rattle.std.proofs.Common.{ap, ◌∙◌, take}
use Rattle.sal_handler.specs.Calls.{fresh_names}
use Rattle.sal_order.proofs.Naming.{taken_outcome}
use Rattle.sal_order.proofs.outcome.outcome_and_names.Goals as goal

pub returns-in_ok-names-in-Done : goal.returns-in_ok-names-in-Done
returns-in_ok-names-in-Done c =
    taken_outcome c.names_not_taken_dont_count.ensures c.args.program.now c.args.turn.now (fresh_names 0 c.args.first) c.in_ok-names-in-Done.names c.in_ok-effects.field-0 c.in-Done.effects c.in-Done.is c.in_ok-effects.ensures
    (c.in_ok-names-in-Done.ensures ∙ ap (λ n. take n (fresh_names 0 c.args.first)) c.len.ensures)
