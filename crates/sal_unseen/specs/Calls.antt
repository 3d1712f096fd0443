-- The call that a theatre makes of a handler, and the call of the step: other names, of which a handler takes the first.
use Rattle.std.specs.Prelude.{◌≡◌, ℕ, ◌+◌, ◌≤◌, true, List, [], map, length}
use Rattle.sal_ast.specs.declared.program.Program.{Program}
use Rattle.sal_mail.specs.declared.message.Message.{Message}
use Rattle.sal_mail.specs.declared.effects.Effects.{Effects}
use Rattle.sal_mail.specs.declared.fault.Trap.{Trap}
use Rattle.sal_handler.specs.Calls.{Call, Meaning}
use Rattle.sal_handler.specs.WellFormed.{IsOldReply, IsOrderly, program_sizes}
use Rattle.sal_handler.specs.Renaming.{HasNew}
use Rattle.sal_handler.specs.declared.constants.TheConstants.{MOST_MADE}
use Rattle.sal_handler.specs.declared.turn.Outcome.TheVariants as outcome
use Rattle.sal_source.specs.Runners.{CallFits, StandsFor}
use Rattle.sal_source.specs.Step.{call_of}
use Rattle.sal_resident.specs.declared.resident.Resident.{Resident}
use Rattle.sal_routing.specs.State.{Theatre, actor_of}
use Rattle.sal_routing.specs.Handling.{call_at, may_be_called, names_of}
use Rattle.sal_unseen.specs.Steps.{with_fresh}

-- What a call that fits does depends on the names that its new actors take, and on no others; its next number of an anonymous
-- actor is counted on, and no more.
pub record TakesNamesOnly (sizes : List ℕ) (p : Meaning) : Type 0 where
  pub few : (c : Call) (e : Effects) → CallFits p c → p.outcome c ≡ outcome.Done e → length e.actors ≤ MOST_MADE
  pub counts : (c : Call) (e : Effects) → CallFits p c → p.outcome c ≡ outcome.Done e → e.fresh ≡ c.fresh + length e.actors
  pub done :
      (c : Call) (e : Effects) → CallFits p c → IsOldReply c.me c.serial c.reply → length e.actors ≤ length c.names
      → p.outcome c ≡ outcome.Done e
      → p.outcome (record c { names = map (λ a. a.name) e.actors; fresh = 0 }) ≡ outcome.Done (with_fresh (length e.actors) e)
  pub trap :
      (c : Call) (kind : Trap) → CallFits p c → HasNew c → p.outcome c ≡ outcome.Trap kind
      → p.outcome (record c { names = []; fresh = 0 }) ≡ outcome.Trap kind
  pub orderly :
      (c : Call) (e : Effects) → CallFits p c → IsOldReply c.me c.serial c.reply → p.outcome c ≡ outcome.Done e
      → IsOrderly sizes c e

-- Whatever stands for a program does so.
abbrev pub ProgramsTakeNamesOnly : Type 0
ProgramsTakeNamesOnly = (m : Meaning) (p : Program) → StandsFor m p → TakesNamesOnly (program_sizes p) m

-- What the theatre's call does is what the step's call does, with the names of the new actors alone; the theatre's next
-- number is that after them.
pub record TheatresCallAsSteps : Type 0 where
  pub done :
      (sizes : List ℕ) (p : Meaning) (m : Message) (r : Resident) (t : Theatre) (e : Effects) → TakesNamesOnly sizes p
      → may_be_called p (call_at m r t) ≡ true → IsOldReply r.name r.serial m.reply
      → p.outcome (call_at m r t) ≡ outcome.Done e
      → p.outcome (call_of m (actor_of r, r.serial) (names_of e.actors)) ≡ outcome.Done (with_fresh (length e.actors) e)
  pub orderly :
      (sizes : List ℕ) (p : Meaning) (m : Message) (r : Resident) (t : Theatre) (e : Effects) → TakesNamesOnly sizes p
      → may_be_called p (call_at m r t) ≡ true → IsOldReply r.name r.serial m.reply
      → p.outcome (call_at m r t) ≡ outcome.Done e
      → IsOrderly sizes (call_of m (actor_of r, r.serial) (names_of e.actors)) (with_fresh (length e.actors) e)
  pub next :
      (sizes : List ℕ) (p : Meaning) (m : Message) (r : Resident) (t : Theatre) (e : Effects) → TakesNamesOnly sizes p
      → may_be_called p (call_at m r t) ≡ true → p.outcome (call_at m r t) ≡ outcome.Done e
      → e.fresh ≡ t.next_anon + length e.actors
  pub trap :
      (sizes : List ℕ) (p : Meaning) (m : Message) (r : Resident) (t : Theatre) (kind : Trap) → TakesNamesOnly sizes p
      → may_be_called p (call_at m r t) ≡ true → HasNew (call_at m r t) → p.outcome (call_at m r t) ≡ outcome.Trap kind
      → p.outcome (call_of m (actor_of r, r.serial) []) ≡ outcome.Trap kind
