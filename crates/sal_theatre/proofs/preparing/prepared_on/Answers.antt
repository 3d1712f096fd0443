use Rattle.std.proofs.Common.{◌∙◌}
use Rattle.sal_theatre.proofs.Finishing.{begun}
use Rattle.sal_theatre.proofs.preparing.prepared_on.Goals as goal

pub returns-clause-can : goal.returns-clause-can
returns-clause-can c =
    begun c.into_draft.result.arrived c.args.peer c.args.acknowledges c.args.state.now.links (c.into_draft.ensures.arrived ∙ c.requires.begun) c.requires.can
