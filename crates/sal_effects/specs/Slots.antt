-- To whom a handler's new messages and joins owe their replies: each slot of a new join is served once.
use Rattle.std.specs.Prelude.{◌≡◌, ◌≢◌, ℕ, ◌≤◌, nat_lt, true, if◌then◌else◌, map, List, length, Option, None}
use Rattle.sal_value.specs.declared.name.Name.{Name}
use Rattle.sal_value.specs.declared.value.Value.{Value}
use Rattle.sal_ast.specs.declared.program.Program.{Program}
use Rattle.sal_ast.specs.Regular.{is_regular}
use Rattle.sal_mail.specs.declared.message.Reply.TheVariants.{Nobody, Place}
use Rattle.sal_mail.specs.declared.message.Message.{Message}
use Rattle.sal_mail.specs.declared.message.Join.{Join}
use Rattle.sal_mail.specs.declared.effects.Effects.{Effects}
use Rattle.sal_mail.specs.ReplyKeys.{reply_key}
use Rattle.sal_handler.specs.declared.turn.Outcome.TheVariants.{Done}
use Rattle.sal_handler.specs.Calls.{Call}
use Rattle.sal_handler.specs.Handler.{handle}
use Rattle.sal_handler.specs.WellFormed.{EachOf, IsAmong, IsOldReply, times_owed_by, passes}

-- how often this slot of the actor's join with this number is owed by these messages and joins
abbrev pub times_served : Name → ℕ → ℕ → List Message → List Join → ℕ
times_served me join slot messages joins = times_owed_by (reply_key (Place me join slot)) messages joins

-- no slot has a value yet
abbrev pub IsEmpty : Join → Type 0
IsEmpty j = EachOf (λ (slot : Option Value). slot ≡ None) j.places

-- once for each slot that the join has, and never for another one
abbrev pub once_if_there : ℕ → Join → ℕ
once_if_there slot j = if nat_lt slot (length j.places) then 1 else 0

pub record ServesSlots (p : Program) (c : Call) (e : Effects) : Type 0 where
  -- new joins are empty, and each slot of theirs is owed exactly once by the same effects, and none out of range
  pub empty : EachOf IsEmpty e.joins
  pub once : EachOf (λ j. (slot : ℕ) → times_served c.me j.number slot e.messages e.joins ≡ once_if_there slot j) e.joins
  -- no slot of another number from the actor's next one on is owed
  pub others : (join slot : ℕ) → c.serial ≤ join → (IsAmong join (map (λ (j : Join). j.number) e.joins) → ⊥) → times_served c.me join slot e.messages e.joins ≡ 0
  -- where the reply was passed on it is owed exactly once: that wants a stage in each chain, as regular programs have
  pub passed : is_regular p ≡ true → c.reply ≢ Nobody → times_owed_by (reply_key c.reply) e.messages e.joins ≡ passes e.answer

-- The effects of every handler do, where the reply is owed to no number from the next one on.
abbrev pub HandlersServeSlots : Type 0
HandlersServeSlots = (p : Program) (c : Call) (e : Effects) → IsOldReply c.me c.serial c.reply → handle p c ≡ Done e → ServesSlots p c e
