use Rattle.std.proofs.Common.{ap, sym, ◌∙◌}
use Rattle.std.specs.FinMap as fm
use Rattle.sal_source.specs.Configuration.{Waiting}
use Rattle.sal_source.specs.Keys.{message_key}
use Rattle.sal_source.proofs.Tables.{len-table_of}
use Rattle.sal_source.proofs.waiting.Waiting.counts.Goals as goal

pub returns : goal.returns
returns c =
    λ i. (
      (c.len.ensures ∙ sym (len-table_of message_key c.self.inside.messages c.self.invariant) ∙ ap (λ (d : Waiting). fm.len d.messages) c.self.view_is) i,
      (c.len-2.ensures ∙ ap (λ (d : Waiting). fm.len d.joins) c.self.view_is) i,
    )
