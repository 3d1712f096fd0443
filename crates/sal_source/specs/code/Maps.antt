-- How the ordered maps of a run stand for its tables of actors and of open joins: what the code that keeps a run
-- finds in its maps.
use Rattle.std.specs.Prelude.{ℕ, List, map}
use Rattle.sal_value.specs.declared.name.Name.{Name}
use Rattle.sal_value.specs.declared.name.Name.TheVariants as name
use Rattle.sal_mail.specs.declared.effects.Actor.{Actor}
use Rattle.sal_mail.specs.declared.message.Join.{Join}
use Rattle.sal_source.specs.Table.{TableKey, Table, table_of}
use Rattle.sal_source.specs.Keys.{name_key, actor_key, made_key, join_key}
use Rattle.sal_source.specs.declared.actor_map.ActorState.{ActorState}
use Rattle.sal_source.specs.declared.open_joins.OpenJoin.{OpenJoin}
use Rattle.sal_source.specs.declared.actors.NameQuery.{NameQuery}
use Rattle.sal_source.specs.declared.actors.NameQuery.TheVariants as sought

-- the actor of an entry, with its next number
abbrev pub actor_of : Name × ActorState → Actor × ℕ
actor_of e = (record { name = e.0; behavior = e.1.behavior; fields = e.1.fields }, e.1.serial)

-- the actors of these entries
abbrev pub actors_in : List (Name × ActorState) → Table (Actor × ℕ)
actors_in es = table_of actor_key (map actor_of es)

-- the key of the name that is looked for
abbrev pub query_key : NameQuery → TableKey
query_key (sought.Any name) = name_key name.now
query_key (sought.Universal u) = name_key (name.Uan u.now)

-- the join of an entry, with its maker
abbrev pub join_of : (ℕ × Name) × OpenJoin → Name × Join
join_of e = (e.0.1, record { number = e.0.0; places = e.1.places; void = e.1.void; reply = e.1.reply })

-- the key of a join's number and maker
abbrev pub join_entry_key : ℕ × Name → TableKey
join_entry_key k = made_key k.1 k.0

-- the joins of these entries
abbrev pub joins_in : List ((ℕ × Name) × OpenJoin) → Table (Name × Join)
joins_in es = table_of join_key (map join_of es)
