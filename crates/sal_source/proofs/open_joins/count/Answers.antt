use Rattle.std.proofs.Common.{refl, sym, ◌∙◌, map}
use Rattle.std.proofs.lemmas.List.{length-map}
use Rattle.sal_source.specs.Keys.{join_key}
use Rattle.sal_source.specs.code.Maps.{join_of, join_entry_key}
use Rattle.sal_source.proofs.Tables.{len-table_of}
use Rattle.sal_source.proofs.Mapping.{distinct_is}
use Rattle.sal_source.proofs.open_joins.count.Goals as goal

pub returns : goal.returns
returns c =
    c.len.ensures.len ∙ sym (length-map c.args.joins.now.entries join_of)
    ∙ sym (len-table_of join_key (map join_of c.args.joins.now.entries) (distinct_is join_entry_key join_key join_of (λ e. refl) c.args.joins.now.entries c.len.ensures.ordered))
