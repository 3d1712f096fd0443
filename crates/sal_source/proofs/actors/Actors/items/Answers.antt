-- proofs/actors/Actors/items/Answers.antt
use Rattle.std.proofs.Common.{sym, ap, ◌∙◌}
use Rattle.std.specs.FinMap as fm
use Rattle.sal_mail.specs.declared.effects.Actor.{Actor}
use Rattle.std.proofs.Common.{ℕ}
use Rattle.sal_source.specs.Table.{Table}
use Rattle.sal_source.specs.Keys.{actor_key}
use Rattle.sal_source.proofs.Tables.{values-table_of}
use Rattle.sal_source.proofs.actors.Actors.items.Goals as goal

pub returns : goal.returns
returns c = sym (values-table_of actor_key c.self.inside.items c.self.invariant) ∙ ap (λ (t : Table (Actor × ℕ)). fm.values t) c.self.view_is
