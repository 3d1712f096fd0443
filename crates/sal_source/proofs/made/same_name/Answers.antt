use Rattle.std.proofs.Common.{◌∙◌}
use Rattle.std.specs.Cmp.Lexicographic.{texts_ties}
use Rattle.sal_source.specs.Keys.{name_key}
use Rattle.sal_source.proofs.made.same_name.Goals as goal

pub returns : goal.returns
returns c = c.eq.ensures ∙ texts_ties (name_key c.args.a.now) (name_key c.args.b.now)
