use Rattle.std.proofs.Common.{None, sym, refl}
use Rattle.sal_source.specs.Keys.{name_key, actor_key}
use Rattle.sal_source.specs.code.Maps.{actor_of}
use Rattle.sal_source.proofs.Mapping.{inserted, value_is}
use Rattle.sal_source.proofs.actor_map.put.Goals as goal

pub returns-in-Ok-clause-ok : goal.returns-in-Ok-clause-ok
returns-in-Ok-clause-ok c = inserted name_key actor_key actor_of (λ e. refl) c.keys_are_injective.ensures c.args.name c.args.state c.args.states.now.entries c.insert.new.self.entries c.in-Ok.ensures.entries

pub returns-clause-absent : goal.returns-clause-absent
returns-clause-absent c = value_is name_key actor_key actor_of (λ e. refl) c.keys_are_injective.ensures c.args.name c.args.states.now.entries None (sym c.in-Err.ensures.absent)
