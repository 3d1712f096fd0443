use Rattle.std.proofs.Common.{ℕ, Some, ap, ◌∙◌}
use Rattle.sal_mail.specs.declared.effects.Actor.{Actor}
use Rattle.sal_source.specs.Table.{Table, write}
use Rattle.sal_source.specs.Keys.{actor_key}
use Rattle.sal_source.specs.code.Maps.{actors_in}
use Rattle.sal_source.proofs.Adding.{added}
use Rattle.sal_source.proofs.actor_map.add_all.Goals as goal

pub loop-actor-preserved : goal.loop-actor-preserved
loop-actor-preserved c =
    let old : Table (Actor × ℕ) = actors_in c.loop-actor.states.entries in
    added c.loop-actor.left c.pop.new.self c.in-Some.actor old (actors_in c.put.new.states.entries) c.in-Some.ensures
    (c.in_ok-put.ensures.ok ∙ ap (λ (a : Actor × ℕ). write old (actor_key a) (Some a)) c.parts-name.ensures)
    ∙ c.loop-actor.invariant
