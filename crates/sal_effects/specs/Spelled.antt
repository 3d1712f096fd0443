-- What a handler leaves has a spelling on bytes, and how a program begins.
use Rattle.std.specs.Prelude.{◌≡◌, ℕ, true, List, Option, Some, None}
use Rattle.sal_value.specs.declared.name.Ual.{Ual}
use Rattle.sal_value.specs.declared.value.Value.{Value}
use Rattle.sal_value.specs.Names.{is_uan, is_ual}
use Rattle.sal_value.specs.Spelling.{name_is_spelled}
use Rattle.sal_ast.specs.declared.program.Program.{Program}
use Rattle.sal_mail.specs.declared.message.Target.{Target}
use Rattle.sal_mail.specs.declared.message.Target.TheVariants as target
use Rattle.sal_mail.specs.declared.message.Message.{Message}
use Rattle.sal_mail.specs.declared.effects.Answer.{Answer}
use Rattle.sal_mail.specs.declared.effects.Answer.TheVariants as answer
use Rattle.sal_mail.specs.declared.effects.Effects.{Effects}
use Rattle.sal_envelope.specs.Spelling.{reply_is_spelled}
use Rattle.sal_handler.specs.declared.turn.Outcome.TheVariants.{Done}
use Rattle.sal_handler.specs.declared.turn.Began.TheVariants.{Actor as Begun}
use Rattle.sal_handler.specs.Calls.{Call}
use Rattle.sal_handler.specs.Handler.{handle, begin}
use Rattle.sal_handler.specs.WellFormed.{EachOf, Legal, IsSoundCall}

-- the output needs no name
abbrev pub TargetIsSpelled : Target → Type 0
TargetIsSpelled (target.Actor n) = name_is_spelled n ≡ true
TargetIsSpelled target.Output = Unit {0}

-- where a place is known it is a locator that has a text
abbrev pub IsLocator : Option Ual → Type 0
IsLocator None = Unit {0}
IsLocator (Some l) = is_ual l ≡ true

-- a reply that was passed on is no answer
abbrev pub IsLegalAnswer : Answer → Type 0
IsLegalAnswer (answer.Value v) = Legal v
IsLegalAnswer answer.Passed = Unit {0}

pub record MessageIsSpelled (m : Message) : Type 0 where
  pub maker : name_is_spelled m.maker ≡ true
  pub target : TargetIsSpelled m.target
  pub reply : reply_is_spelled m.reply ≡ true

pub record IsSpelled (e : Effects) : Type 0 where
  pub messages : EachOf MessageIsSpelled e.messages
  pub joins : EachOf (λ j. reply_is_spelled j.reply ≡ true) e.joins
  pub actors : EachOf (λ a. name_is_spelled a.name ≡ true) e.actors
  pub creations : EachOf (λ x. is_uan x.name ≡ true) e.creations
  pub places : EachOf (λ x. IsLocator x.place) e.creations
  pub answer : IsLegalAnswer e.answer

-- Whatever a handler of any program leaves does, where its call is sound and the reply has a spelling.
abbrev pub HandlersSpellAll : Type 0
HandlersSpellAll = (p : Program) (c : Call) (e : Effects) → IsSoundCall c → reply_is_spelled c.reply ≡ true → handle p c ≡ Done e → IsSpelled e

-- The fields with which any program begins are legal.
abbrev pub ProgramsBeginLegally : Type 0
ProgramsBeginLegally = (p : Program) (behavior handler : ℕ) (fields : List Value) → begin p ≡ Begun behavior handler fields → EachOf Legal fields
