-- How much a handler makes, and how many numbers that takes.
use Rattle.std.specs.Prelude.{◌≡◌, ◌+◌, ◌≤◌, List, length}
use Rattle.sal_ast.specs.declared.program.Program.{Program}
use Rattle.sal_mail.specs.declared.message.Message.{Message}
use Rattle.sal_mail.specs.declared.message.Join.{Join}
use Rattle.sal_mail.specs.declared.effects.Actor.{Actor}
use Rattle.sal_mail.specs.declared.effects.Creation.{Creation}
use Rattle.sal_mail.specs.declared.effects.Effects.{Effects}
use Rattle.sal_handler.specs.declared.turn.Outcome.TheVariants.{Done}
use Rattle.sal_handler.specs.Calls.{Call}
use Rattle.sal_handler.specs.Handler.{handle}
use Rattle.sal_handler.specs.declared.constants.TheConstants.{MOST_MADE}

-- at most 1,024 messages, 1,024 joins and 1,024 new actors, with a universal name or without
abbrev pub AreFew : List Message → List Join → List Actor → List Creation → Type 0
AreFew messages joins actors creations = (length messages ≤ MOST_MADE) × (length joins ≤ MOST_MADE) × (length actors + length creations ≤ MOST_MADE)

-- A handler makes few things, and takes one number for each message, join and creation, and no other.
pub record MakesFew (c : Call) (e : Effects) : Type 0 where
  pub few : AreFew e.messages e.joins e.actors e.creations
  pub serial : e.serial ≡ c.serial + (length e.messages + (length e.joins + length e.creations))

-- every handler of every program does
abbrev pub HandlersMakeFew : Type 0
HandlersMakeFew = (p : Program) (c : Call) (e : Effects) → handle p c ≡ Done e → MakesFew c e
