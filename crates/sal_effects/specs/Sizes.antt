-- How large the parts of a handler's effects are, and to which handlers its messages go.
use Rattle.std.specs.Prelude.{◌≡◌, ℕ, ◌≤◌, ◌<◌, ◌⊎◌, List, [], ◌∷◌, length, Some}
use Rattle.sal_ast.specs.declared.program.Behavior.{Behavior}
use Rattle.sal_ast.specs.declared.program.Program.{Program}
use Rattle.sal_ast.specs.Members.{handlers_at}
use Rattle.sal_mail.specs.declared.constants.TheConstants.{OUTPUT, PRINT, PRINTLN, MIGRATE}
use Rattle.sal_mail.specs.declared.message.Target.{Target}
use Rattle.sal_mail.specs.declared.message.Target.TheVariants.{Actor, Output}
use Rattle.sal_mail.specs.declared.message.Message.{Message}
use Rattle.sal_mail.specs.declared.effects.Effects.{Effects}
use Rattle.sal_handler.specs.declared.turn.Outcome.TheVariants.{Done}
use Rattle.sal_handler.specs.declared.constants.TheConstants.{LONGEST_DELAY, NO_NUMBER}
use Rattle.sal_handler.specs.Calls.{Call}
use Rattle.sal_handler.specs.Handler.{handle}
use Rattle.sal_handler.specs.WellFormed.{EachOf, IsAmong, IsOldReply}

-- no number stands twice
abbrev pub IsDistinct : List ℕ → Type 0
IsDistinct [] = Unit {0}
IsDistinct (n ∷ ns) = (IsAmong n ns → ⊥) × IsDistinct ns

-- the number of a handler of this behaviour, or the one that stands for none
abbrev pub IsHandler : List Behavior → ℕ → ℕ → Type 0
IsHandler behaviors behavior handler = (handler < length (handlers_at behaviors (Some behavior))) ⊎ (handler ≡ NO_NUMBER)

-- `migrate`; or a handler of one of the program's behaviours; or none, where the target's type is no behaviour
abbrev pub IsForActor : List Behavior → ℕ → ℕ → Type 0
IsForActor behaviors behavior handler =
    ((behavior ≡ OUTPUT) × (handler ≡ MIGRATE))
    ⊎ (((behavior < length behaviors) × IsHandler behaviors behavior handler) ⊎ ((behavior ≡ NO_NUMBER) × (handler ≡ NO_NUMBER)))

-- to which handlers messages to this target go: to those of the output, or to an actor's
abbrev pub IsFor : List Behavior → Target → ℕ → ℕ → Type 0
IsFor behaviors Output behavior handler = (behavior ≡ OUTPUT) × ((handler ≡ PRINT) ⊎ (handler ≡ PRINTLN))
IsFor behaviors (Actor name) behavior handler = IsForActor behaviors behavior handler

-- a message whose parts keep their bounds
pub record IsBounded (behaviors : List Behavior) (m : Message) : Type 0 where
  pub after : IsDistinct m.after
  pub delay : m.delay ≤ LONGEST_DELAY
  pub handler : IsFor behaviors m.target m.behavior m.handler

-- the most slots that a join can have: one for each message and join of its handler
abbrev pub MOST_SLOTS : ℕ
MOST_SLOTS = 2048

-- the most numbers that a handler takes, and so the most that a message can wait for
abbrev pub MOST_NUMBERS : ℕ
MOST_NUMBERS = 3072

pub record IsSmall (p : Program) (c : Call) (e : Effects) : Type 0 where
  pub messages : EachOf (IsBounded p.behaviors) e.messages
  pub joins : EachOf (λ j. length j.places ≤ MOST_SLOTS) e.joins
  -- a message waits for numbers that the handler took
  pub waits : IsOldReply c.me c.serial c.reply → EachOf (λ m. length m.after ≤ MOST_NUMBERS) e.messages

-- The effects of every handler of every program are small.
abbrev pub HandlersStaySmall : Type 0
HandlersStaySmall = (p : Program) (c : Call) (e : Effects) → handle p c ≡ Done e → IsSmall p c e
