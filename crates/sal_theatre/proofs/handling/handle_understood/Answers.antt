use Rattle.std.proofs.Common.{Some, sym, ap, ◌∙◌}
use Rattle.sal_handler.specs.declared.turn.Outcome.{Outcome}
use Rattle.sal_theatre.proofs.Handled.{may_take}
use Rattle.sal_theatre.proofs.handling.handle_understood.Goals as goal

pub take_done-requires-clause-takes : goal.take_done-requires-clause-takes
take_done-requires-clause-takes g c =
    may_take (g.R.Runner.meaning c.args.runner.now) c.in-Some-Done.effects c.args.message.now c.args.actor c.args.desk.now.desk.theatre c.requires.runner c.in_ok-outcome_of.ensures.tidy
    (sym (c.in-Some-Done.is ∙ ap (λ (o : Outcome). Some o) c.in-Some-Done.field-0-is) ∙ c.in_ok-outcome_of.ensures.outcome)
