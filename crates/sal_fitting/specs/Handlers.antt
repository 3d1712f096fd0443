-- What the handlers of a program must keep, so that in its runs all calls, prints and states fit.
use Rattle.std.specs.Prelude.{◌≡◌, ℕ, ◌⊎◌, true, Option, Some}
use Rattle.sal_value.specs.declared.name.Name.TheVariants as name
use Rattle.sal_value.specs.declared.value.Sort.{Sort}
use Rattle.sal_value.specs.Membership.{belongs}
use Rattle.sal_value.specs.Spelling.{name_is_spelled}
use Rattle.sal_mail.specs.declared.constants.TheConstants.{MIGRATE}
use Rattle.sal_mail.specs.declared.message.Reply.{Reply}
use Rattle.sal_mail.specs.declared.message.Reply.TheVariants.{Nobody, Tok, Place}
use Rattle.sal_mail.specs.declared.effects.Actor.{Actor}
use Rattle.sal_mail.specs.declared.effects.Creation.{Creation}
use Rattle.sal_mail.specs.declared.effects.Answer.{Answer}
use Rattle.sal_mail.specs.declared.effects.Answer.TheVariants as answer
use Rattle.sal_mail.specs.declared.effects.Effects.{Effects}
use Rattle.sal_types.specs.declared.signature.Signature.{Signature}
use Rattle.sal_handler.specs.declared.turn.Outcome.{Outcome}
use Rattle.sal_handler.specs.declared.turn.Outcome.TheVariants.{Done}
use Rattle.sal_handler.specs.Calls.{Call}
use Rattle.sal_handler.specs.WellFormed.{EachOf, IsNewReply, IsOldReply}
use Rattle.sal_fitting.specs.Signatures.{Signatures, migrate_signature, are_of_sorts, fits_sorts}
use Rattle.sal_fitting.specs.Messages.{IsTypedMessage, IsTypedJoin}

-- ---- calls

-- a handler of the actor's behaviour, or `migrate`
abbrev pub IsCalled : Signatures → Signature → ℕ → ℕ → Type 0
IsCalled sigs g behavior handler =
    ((handler ≡ MIGRATE) × (migrate_signature ≡ g)) ⊎ (sigs.handler behavior handler ≡ Some g)

-- A call that fits. Names have spellings, so that references to them are legal.
pub record IsTypedCall (sigs : Signatures) (g : Signature) (c : Call) : Type 0 where
  pub signature : IsCalled sigs g c.behavior c.handler
  pub args : are_of_sorts g.params c.args ≡ true
  pub fields : fits_sorts (sigs.fields c.behavior) c.fields ≡ true
  pub reply : IsOldReply c.me c.serial c.reply
  pub me : name_is_spelled c.me ≡ true
  pub names : EachOf (λ n. name_is_spelled n ≡ true) c.names

-- ---- effects

-- What a handler owes a reply of this type to: nobody, its own caller with its own result, or a new address
-- to which this type was assigned.
abbrev pub OwesNew : (Reply → Option Sort) → Reply → Sort → Reply → Sort → Type 0
OwesNew sorts caller result r s = (r ≡ Nobody) ⊎ (((r ≡ caller) × (s ≡ result)) ⊎ (sorts r ≡ Some s))

-- the answer is of the result's type
abbrev pub IsAnswer : Sort → Answer → Type 0
IsAnswer result (answer.Value v) = belongs v result ≡ true
IsAnswer result answer.Passed = Unit {0}

-- a new actor with fields of their types
abbrev pub IsTypedActor : Signatures → Actor → Type 0
IsTypedActor sigs a = fits_sorts (sigs.fields a.behavior) a.fields ≡ true

-- a creation with fields of their types, and a name that has a spelling
abbrev pub IsTypedCreation : Signatures → Creation → Type 0
IsTypedCreation sigs x =
    (fits_sorts (sigs.fields x.behavior) x.fields ≡ true) × (name_is_spelled (name.Uan x.name) ≡ true)

-- There is a type for each of the actor's new tokens and slots, and with these types everything is typed.
pub record AreTyped (sigs : Signatures) (g : Signature) (c : Call) (e : Effects) : Type 0 where
  pub sorts : Reply → Option Sort
  pub new : (r : Reply) (s : Sort) → sorts r ≡ Some s → IsNewReply c.me c.serial e.serial r
  pub answer : IsAnswer g.result e.answer
  pub messages : EachOf (IsTypedMessage sigs (OwesNew sorts c.reply g.result) (λ n s. sorts (Tok c.me n) ≡ Some s)) e.messages
  pub joins : EachOf
      (λ j. IsTypedJoin (OwesNew sorts c.reply g.result) (λ s. (at : ℕ) → sorts (Place c.me j.number at) ≡ Some s) j)
      e.joins
  pub fields : fits_sorts (sigs.fields c.behavior) e.fields ≡ true
  pub actors : EachOf (IsTypedActor sigs) e.actors
  pub creations : EachOf (IsTypedCreation sigs) e.creations

-- What a handler leaves of a call that fits is typed.
abbrev pub HandlersKeepTypes : Signatures → (Call → Outcome) → Type 0
HandlersKeepTypes sigs outcome =
    (g : Signature) (c : Call) (e : Effects) → IsTypedCall sigs g c → outcome c ≡ Done e → AreTyped sigs g c e
