use Rattle.std.proofs.Common.{sym, ◌∙◌}
use Rattle.sal_source.specs.Keys.{name_key}
use Rattle.sal_entries.proofs.Laws.{get-values}
use Rattle.sal_lists.proofs.lists.Lists.theatre_of.Goals as goal

pub returns : goal.returns
returns c = c.copied.ensures ∙ c.get.ensures ∙ sym (get-values c.args.self.now.places (name_key c.args.name.now))
