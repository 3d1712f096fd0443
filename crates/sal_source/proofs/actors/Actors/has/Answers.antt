use Rattle.std.proofs.Common.{ℕ, List, is_some, sym, ap, ◌∙◌}
use Rattle.std.specs.FinMap as fm
use Rattle.sal_mail.specs.declared.effects.Actor.{Actor}
use Rattle.sal_source.specs.Table.{Table}
use Rattle.sal_source.specs.Keys.{actor_key}
use Rattle.sal_source.specs.code.Lists.{first_at_key}
use Rattle.sal_source.specs.code.Maps.{query_key}
use Rattle.sal_source.proofs.Tables.{get-table_of}
use Rattle.sal_source.proofs.actors.Actors.has.Goals as goal

pub returns : goal.returns
returns c =
    let q = query_key c.args.sought in
    c.is_there.ensures
    ∙ ap (λ (l : List (Actor × ℕ)). is_some (first_at_key actor_key q l)) c.as_slice.ensures
    ∙ ap is_some (sym (get-table_of actor_key c.self.inside.items q))
    ∙ ap (λ (t : Table (Actor × ℕ)). fm.contains_key t q) c.self.view_is
