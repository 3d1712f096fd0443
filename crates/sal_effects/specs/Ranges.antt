-- Numbers, texts and names stay in the ranges of their types. Else an envelope would not be read again as it was.
use Rattle.std.specs.Prelude.{◌≡◌, ℕ, ◌^◌, ◌<◌, true, List}
use Rattle.std.specs.Str.{is_utf8}
use Rattle.sal_value.specs.declared.value.Value.{Value}
use Rattle.sal_value.specs.Coding.{name_in_range, in_range}
use Rattle.sal_ast.specs.declared.program.Program.{Program}
use Rattle.sal_mail.specs.declared.message.Message.{Message}
use Rattle.sal_mail.specs.declared.message.Join.{Join}
use Rattle.sal_mail.specs.declared.effects.Actor.{Actor}
use Rattle.sal_mail.specs.declared.effects.Creation.{Creation}
use Rattle.sal_mail.specs.declared.effects.Answer.{Answer}
use Rattle.sal_mail.specs.declared.effects.Answer.TheVariants as answer
use Rattle.sal_mail.specs.declared.effects.Effects.{Effects}
use Rattle.sal_envelope.specs.Coding.{reply_in_range, message_in_range}
use Rattle.sal_handler.specs.declared.turn.Outcome.TheVariants.{Done}
use Rattle.sal_handler.specs.declared.turn.Began.TheVariants.{Actor as Begun}
use Rattle.sal_handler.specs.Calls.{Call}
use Rattle.sal_handler.specs.Handler.{handle, begin}
use Rattle.sal_handler.specs.WellFormed.{EachOf, IsOldReply}
use Rattle.sal_effects.specs.Texts.{program_texts}

-- whole numbers of 32 bits, texts that are UTF-8, names whose numbers have their types
abbrev pub InRange : Value → Type 0
InRange v = in_range v ≡ true

-- each string literal of the program is UTF-8, as in all programs that texts spell
abbrev pub TextsAreUtf8 : Program → Type 0
TextsAreUtf8 p = EachOf (λ text. is_utf8 text ≡ true) (program_texts p)

pub record IsCallInRange (c : Call) : Type 0 where
  pub me : name_in_range c.me ≡ true
  pub behavior : c.behavior < 2 ^ 16
  pub fields : EachOf InRange c.fields
  pub args : EachOf InRange c.args
  pub reply : reply_in_range c.reply ≡ true
  pub serial : c.serial < 2 ^ 64
  pub names : EachOf (λ n. name_in_range n ≡ true) c.names

-- a message as envelopes see it, and the numbers that it waits for
pub record IsMessageInRange (m : Message) : Type 0 where
  pub sent : message_in_range m ≡ true
  pub after : EachOf (λ n. n < 2 ^ 64) m.after

pub record IsJoinInRange (j : Join) : Type 0 where
  pub number : j.number < 2 ^ 64
  pub reply : reply_in_range j.reply ≡ true

pub record IsActorInRange (a : Actor) : Type 0 where
  pub name : name_in_range a.name ≡ true
  pub behavior : a.behavior < 2 ^ 16
  pub fields : EachOf InRange a.fields

pub record IsCreationInRange (x : Creation) : Type 0 where
  pub serial : x.serial < 2 ^ 64
  pub behavior : x.behavior < 2 ^ 16
  pub fields : EachOf InRange x.fields

abbrev pub IsAnswerInRange : Answer → Type 0
IsAnswerInRange (answer.Value v) = InRange v
IsAnswerInRange answer.Passed = Unit {0}

pub record AreInRange (e : Effects) : Type 0 where
  pub fields : EachOf InRange e.fields
  pub serial : e.serial < 2 ^ 64
  pub messages : EachOf IsMessageInRange e.messages
  pub joins : EachOf IsJoinInRange e.joins
  pub actors : EachOf IsActorInRange e.actors
  pub creations : EachOf IsCreationInRange e.creations
  pub answer : IsAnswerInRange e.answer

-- Where the program's texts and the call are in range, so is what the handler leaves.
abbrev pub HandlersKeepRanges : Type 0
HandlersKeepRanges = (p : Program) (c : Call) (e : Effects) → TextsAreUtf8 p → IsOldReply c.me c.serial c.reply → IsCallInRange c → handle p c ≡ Done e → AreInRange e

-- what a program begins with: the numbers of its behaviour and handler, and its fields
abbrev pub BeginsInRange : ℕ → ℕ → List Value → Type 0
BeginsInRange behavior handler fields = (behavior < 2 ^ 16) × ((handler < 2 ^ 16) × EachOf InRange fields)

abbrev pub ProgramsBeginInRange : Type 0
ProgramsBeginInRange = (p : Program) (behavior handler : ℕ) (fields : List Value) → TextsAreUtf8 p → begin p ≡ Begun behavior handler fields → BeginsInRange behavior handler fields
