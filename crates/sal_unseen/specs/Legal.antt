-- What is legal and in range is sent whole: it is short enough.
use Rattle.std.specs.Prelude.{◌≡◌, ℕ, ◌≤◌, true, length}
use Rattle.std.specs.List.{list_all}
use Rattle.sal_value.specs.declared.name.Name.{Name}
use Rattle.sal_value.specs.declared.name.Uan.{Uan}
use Rattle.sal_value.specs.declared.name.Ual.{Ual}
use Rattle.sal_value.specs.Names.{is_uan, is_ual}
use Rattle.sal_value.specs.Spelling.{name_is_spelled}
use Rattle.sal_value.specs.Coding.{name_in_range, in_range}
use Rattle.sal_mail.specs.declared.message.Message.{Message}
use Rattle.sal_mail.specs.declared.effects.Actor.{Actor}
use Rattle.sal_mail.specs.declared.envelope.Envelope.TheVariants as envelope
use Rattle.sal_mail.specs.Message.{is_ready, without_delay}
use Rattle.sal_envelope.specs.Spelling.{is_universal, callee_is_spelled, reply_is_spelled}
use Rattle.sal_envelope.specs.Coding.{is_u16, is_u64, message_in_range}
use Rattle.sal_handler.specs.WellFormed.{EachOf, Legal, IsLegalPiece}
use Rattle.sal_unseen.specs.Desks.{IsSentWhole}

-- A ready call to an actor, with at most 16 legal arguments: its names have spellings, and its numbers are in range.
pub record IsLegalCall (m : Message) : Type 0 where
  pub maker : name_is_spelled m.maker ≡ true
  pub callee : callee_is_spelled m.target ≡ true
  pub ready : is_ready m ≡ true
  pub few : length m.args ≤ 16
  pub args : EachOf IsLegalPiece m.args
  pub reply : reply_is_spelled m.reply ≡ true
  pub range : message_in_range m ≡ true

-- A new actor with at most 255 legal fields.
pub record IsLegalActor (a : Actor) : Type 0 where
  pub universal : is_universal a.name ≡ true
  pub name : name_is_spelled a.name ≡ true
  pub few : length a.fields ≤ 255
  pub fields : EachOf Legal a.fields
  pub behavior : is_u16 a.behavior ≡ true
  pub range : list_all in_range a.fields ≡ true

-- The question for a name, by a maker and for a locator that have spellings.
pub record IsLegalPut (maker : Name) (serial : ℕ) (u : Uan) (place : Ual) : Type 0 where
  pub made : name_is_spelled maker ≡ true
  pub name : is_uan u ≡ true
  pub locator : is_ual place ≡ true
  pub range : name_in_range maker ≡ true
  pub number : is_u64 serial ≡ true

-- All these are sent whole, a call once it has no delay.
pub record WhatIsLegalIsSentWhole : Type 0 where
  pub calls : (hops : ℕ) (m : Message) → IsLegalCall m → IsSentWhole (envelope.Call hops (without_delay m))
  pub actors : (a : Actor) → IsLegalActor a → IsSentWhole (envelope.Create a)
  pub puts : (maker : Name) (serial : ℕ) (u : Uan) (place : Ual) → IsLegalPut maker serial u place
      → IsSentWhole (envelope.Put maker serial u place)
