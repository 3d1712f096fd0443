use Rattle.std.proofs.Common.{refl, ap, ◌∙◌}
use Rattle.std.specs.FinMap as fm
use Rattle.sal_source.specs.Keys.{name_key, actor_key}
use Rattle.sal_source.specs.code.Maps.{actor_of}
use Rattle.sal_source.proofs.Mapping.{got, same_key}
use Rattle.sal_source.proofs.actor_map.ActorMap.get.Goals as goal

pub returns-clause-value : goal.returns-clause-value
returns-clause-value c =
    got name_key actor_key actor_of (λ e. refl) (λ e. e.0.now) (λ e. e.1.now) c.args.name.now c.get_key_value.result c.self.inside.states.entries c.get_key_value.ensures.key c.get_key_value.ensures.value
    ∙ ap (λ t. fm.get t (name_key c.args.name.now)) c.self.view_is

pub returns-clause-keyed : goal.returns-clause-keyed
returns-clause-keyed c = same_key name_key actor_key actor_of (λ e. refl) (λ e. e.0.now) (λ e. e.1.now) c.args.name.now c.get_key_value.result c.get_key_value.ensures.same_key
