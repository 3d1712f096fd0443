-- What the code that takes steps finds and leaves on its way.
use Rattle.std.specs.Prelude.{◌≡◌, ℕ, Bool, true, false, ◌&&◌, List, ◌++◌, Option, Some, None, Result, IfOk}
use Rattle.std.specs.FinMap as fm
use Rattle.std.specs.FinSet as fs
use Rattle.sal_value.specs.declared.name.Name.{Name}
use Rattle.sal_value.specs.declared.value.Value.{Value}
use Rattle.sal_value.specs.declared.no_memory.NoMemory.{NoMemory}
use Rattle.sal_mail.specs.declared.message.Message.{Message}
use Rattle.sal_mail.specs.declared.message.Join.{Join}
use Rattle.sal_mail.specs.declared.message.Reply.{Reply}
use Rattle.sal_mail.specs.declared.message.Target.{Target}
use Rattle.sal_mail.specs.declared.message.Target.TheVariants as target
use Rattle.sal_mail.specs.declared.effects.Actor.{Actor}
use Rattle.sal_mail.specs.declared.effects.Answer.{Answer}
use Rattle.sal_mail.specs.declared.effects.Effects.{Effects}
use Rattle.sal_mail.specs.Message.{is_ready}
use Rattle.sal_handler.specs.Calls.{Call}
use Rattle.sal_handler.specs.declared.turn.Outcome.{Outcome}
use Rattle.sal_source.specs.Table.{write}
use Rattle.sal_source.specs.Keys.{name_key, made_key}
use Rattle.sal_source.specs.Configuration.{Waiting, Configuration}
use Rattle.sal_source.specs.Give.{settle_all, settle_all_answers, give_all}
use Rattle.sal_source.specs.Step as s
use Rattle.sal_source.specs.code.Changes.{TakesStep}
use Rattle.sal_source.specs.code.Maps.{actor_of}
use Rattle.sal_source.specs.declared.run.Receiver.{Receiver}
use Rattle.sal_source.specs.declared.run.Receiver.TheVariants as met
use Rattle.sal_source.specs.declared.run.Called.{Called}

-- this message is to be handled, by this actor
pub record CalledBy (maker : Name) (serial : ℕ) (c : Configuration) (m : Message) (a : Actor × ℕ) : Type 0 where
  pub pending : s.pending maker serial c ≡ Some m
  pub ready : is_ready m ≡ true
  pub there : s.actor_at m.target c ≡ Some a
  pub understands : s.understands a.0 m ≡ true

-- who receives a message
abbrev pub IsReceiver : Name → ℕ → Configuration → Receiver → Type 0
IsReceiver maker serial c met.Nobody = (outcomes : Call → Outcome) (fresh : List Name) → s.handle_step outcomes maker serial fresh c ≡ None
IsReceiver maker serial c met.NoHandler = (outcomes : Call → Outcome) (fresh : List Name) → s.handle_step outcomes maker serial fresh c ≡ s.fault_no_handler maker serial fresh c
IsReceiver maker serial c (met.Handler m name state) = CalledBy maker serial c m.now (actor_of (name.now, state.now))

-- what the handler's outcome leaves
abbrev pub AfterOutcome : Name → ℕ → List Name → Outcome → Configuration → Result Bool NoMemory → Configuration → Type 0
AfterOutcome maker serial fresh outcome old result new =
    (m : Message) (a : Actor × ℕ) → CalledBy maker serial old m a →
    IfOk result (λ taken. TakesStep (s.after_outcome outcome maker serial fresh m a.0 (s.drop_message maker serial old)) old (new, taken))

-- the handler's messages and joins wait, and its replies were given
pub record Enters (maker : Name) (messages : List Message) (joins : List Join) (answer : Answer) (reply : Reply) (old new : Waiting) (outside : List (ℕ × Value)) : Type 0 where
  pub waiting : new ≡ settle_all (s.full_join_replies joins ++ s.answer_replies answer reply) (record { messages = s.put_messages messages old.messages; joins = s.put_joins maker joins old.joins })
  pub answers : outside ≡ settle_all_answers (s.full_join_replies joins ++ s.answer_replies answer reply) (record { messages = s.put_messages messages old.messages; joins = s.put_joins maker joins old.joins })

-- the call is of this actor by this message
pub record IsCallOf (m : Message) (a : Actor × ℕ) (called : Called) : Type 0 where
  pub me : called.me ≡ a.0.name
  pub behavior : called.behavior ≡ a.0.behavior
  pub reply : called.reply ≡ m.reply

-- the message went, and its actor is the one that is called
pub record TookCall (maker : Name) (serial : ℕ) (c : Configuration) (called : Called) (new : Configuration) : Type 0 where
  pub rest : new ≡ s.drop_message maker serial c
  pub there : fm.contains_key new.actors (name_key called.me) ≡ true
  pub call : (m : Message) (a : Actor × ℕ) → CalledBy maker serial c m a → IsCallOf m a called

-- a call is taken, unless no actor is called
abbrev pub TakesCall : Name → ℕ → Configuration → Option Called → Configuration → Type 0
TakesCall maker serial c None new = (m : Message) (a : Actor × ℕ) → CalledBy maker serial c m a → ⊥
TakesCall maker serial c (Some called) new = TookCall maker serial c called new

-- the actor that is called, with these fields
abbrev pub called_actor : Called → List Value → Actor
called_actor called fields = record { name = called.me; behavior = called.behavior; fields = fields }

-- what the handler of the called actor made is there, and its replies were given
abbrev pub with_handler_effects : Effects → Called → Configuration → Configuration
with_handler_effects e called c = give_all (s.step_replies e called.reply) (s.with_effects e (called_actor called e.fields) c)

-- the target is `standardOutput`
abbrev pub is_output : Target → Bool
is_output target.Output = true
is_output (target.Actor n) = false

-- the message is pending and ready, and goes to the output
abbrev pub can_print : Option Message → Bool
can_print None = false
can_print (Some m) = is_ready m && is_output m.target

-- the actor of a creation came to its name
abbrev pub after_bind : Actor → Name → ℕ → Configuration → Configuration
after_bind a maker serial c = record c {
  actors = write c.actors (name_key a.name) (Some (a, 0));
  given = fs.insert c.given (name_key a.name);
  creations = write c.creations (made_key maker serial) None;
}
