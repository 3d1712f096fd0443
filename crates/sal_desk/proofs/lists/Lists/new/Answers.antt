use Rattle.std.proofs.Common.{ap, ◌∙◌}
use Rattle.sal_entries.specs.Entries.{values}
use Rattle.sal_entries.proofs.Laws.{values-empty}
use Rattle.sal_queues.specs.Queues.{filled}
use Rattle.sal_queues.proofs.Laws.{filled-empty}
use Rattle.sal_desk.proofs.lists.Lists.new.Goals as goal

pub returns-clause-residents : goal.returns-clause-residents
returns-clause-residents c = ap values c.new.ensures ∙ values-empty

pub returns-clause-held : goal.returns-clause-held
returns-clause-held c = ap filled c.new-4.ensures ∙ filled-empty

pub returns-clause-pending : goal.returns-clause-pending
returns-clause-pending c = ap values c.new-5.ensures ∙ values-empty

pub returns-clause-places : goal.returns-clause-places
returns-clause-places c = ap values c.new-6.ensures ∙ values-empty

pub returns-clause-questions : goal.returns-clause-questions
returns-clause-questions c = ap values c.new-7.ensures ∙ values-empty
