use Rattle.std.proofs.Common.{ap, ◌∙◌}
use Rattle.sal_entries.specs.Entries.{values}
use Rattle.sal_entries.proofs.Laws.{values-empty}
use Rattle.sal_lists.proofs.lists.Lists.new.Goals as goal

pub returns : goal.returns
returns c =
    λ i. record {
      trace = c.new.ensures.items i;
      output = c.new-2.ensures.items i;
      faults = c.new-3.ensures.items i;
      answers = c.new-4.ensures.items i;
      posted = 0;
      places = (ap values c.new-5.ensures ∙ values-empty) i;
      moves = 0;
      open_joins = (ap values c.new-6.ensures ∙ values-empty) i;
    }
