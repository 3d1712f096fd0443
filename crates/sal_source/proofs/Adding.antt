-- Actors that are added, the last one first.
use Rattle.std.proofs.Common.{◌≡◌, ℕ, List, [], ◌∷◌, ◌++◌, Some, sym, ap, refl, ◌∙◌}
use Rattle.sal_mail.specs.declared.effects.Actor.{Actor}
use Rattle.sal_source.specs.Table.{Table, write}
use Rattle.sal_source.specs.Keys.{name_key}
use Rattle.sal_source.specs.Step.{put_actors}

put_actors_push : (actors : List Actor) (a : Actor) (t : Table (Actor × ℕ)) → put_actors (actors ++ a ∷ []) t ≡ put_actors actors (write t (name_key a.name) (Some (a, 0)))
put_actors_push [] a t = refl
put_actors_push (b ∷ actors) a t = ap (λ u. write u (name_key b.name) (Some (b, 0))) (put_actors_push actors a t)

-- one more of the actors is added
pub added : (more left : List Actor) (a : Actor) (old new : Table (Actor × ℕ)) → more ≡ left ++ a ∷ [] → new ≡ write old (name_key a.name) (Some (a, 0)) → put_actors left new ≡ put_actors more old
added more left a old new e n = ap (put_actors left) n ∙ sym (put_actors_push left a old) ∙ ap (λ l. put_actors l old) (sym e)
