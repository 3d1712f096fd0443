use Rattle.std.proofs.Common.{◌≡◌, ℕ, ◌++◌, [], map, List, sym, ap, subst, ◌∙◌, append-nil, refl}
use Rattle.std.proofs.lemmas.Map.Iter.{rest_all}
use Rattle.sal_mail.specs.declared.effects.Actor.{Actor}
use Rattle.sal_value.specs.declared.name.Name.{Name}
use Rattle.sal_source.specs.declared.actor_map.ActorState.{ActorState}
use Rattle.sal_source.specs.Keys.{name_key, actor_key}
use Rattle.sal_source.specs.code.Lists.{IsSorted}
use Rattle.sal_source.specs.code.Maps.{actor_of}
use Rattle.sal_source.proofs.Mapping.{sorted_is}
use Rattle.sal_source.proofs.actor_map.into_actors.Goals as goal

pub returns-clause-sorted : goal.returns-clause-sorted
returns-clause-sorted c =
    let none : c.loop-name.name-iterator ≡ [] = rest_all (λ (e : Name × ActorState). e) c.loop-name.name-iterator c.next.new.self c.next.result c.in-None.is c.next.ensures.steps in
    let all : c.loop-name.items ≡ map actor_of c.args.states.entries =
    sym (append-nil c.loop-name.items) ∙ ap (λ (es : List (Name × ActorState)). c.loop-name.items ++ map actor_of es) (sym none) ∙ c.loop-name.invariant in
    let P : List (Actor × ℕ) → Type 0 = λ items. IsSorted actor_key items in
    subst P (sym all) (sorted_is name_key actor_key actor_of (λ e. refl) c.args.states.entries c.into_iter-name-iterator.ensures.into_iter_gives.5)
