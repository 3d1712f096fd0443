-- The keys of names, messages, joins and creations in tables.
use Rattle.std.specs.Prelude.{ℕ, ◌∷◌}
use Rattle.sal_value.specs.declared.name.Name.{Name}
use Rattle.sal_value.specs.Order.{key}
use Rattle.sal_mail.specs.declared.message.Message.{Message}
use Rattle.sal_mail.specs.declared.message.Join.{Join}
use Rattle.sal_mail.specs.declared.effects.Actor.{Actor}
use Rattle.sal_mail.specs.declared.effects.Creation.{Creation}
use Rattle.sal_source.specs.Table.{TableKey}

abbrev pub name_key : Name → TableKey
name_key = key

-- the key of what an actor made: its number and its maker
abbrev pub made_key : Name → ℕ → TableKey
made_key maker serial = serial ∷ name_key maker

abbrev pub message_key : Message → TableKey
message_key m = made_key m.maker m.serial

-- a join with its maker
abbrev pub join_key : Name × Join → TableKey
join_key j = made_key j.0 j.1.number

-- a creation with its maker
abbrev pub creation_key : Name × Creation → TableKey
creation_key c = made_key c.0 c.1.serial

-- an actor with its next number
abbrev pub actor_key : Actor × ℕ → TableKey
actor_key a = name_key a.0.name
