-- A step of a theatre: a ready message is printed or handled.
use Rattle.std.specs.Prelude.{ℕ, ◌+◌, Bool, true, ◌&&◌, if◌then◌else◌, nat_lt, List, [], ◌∷◌, ◌++◌, map, filter, remove, slice_get, Option, Some, None, unwrap_or, option_and_then}
use Rattle.std.specs.FinMap as fm
use Rattle.sal_value.specs.declared.name.Name.{Name}
use Rattle.sal_value.specs.declared.name.Ual.{Ual}
use Rattle.sal_value.specs.declared.value.Value.{Value}
use Rattle.sal_value.specs.declared.value.Value.TheVariants.{Null}
use Rattle.sal_value.specs.Names.{ual_of}
use Rattle.sal_value.specs.Table.{write}
use Rattle.sal_mail.specs.declared.message.Target.{Target}
use Rattle.sal_mail.specs.declared.message.Target.TheVariants as target
use Rattle.sal_mail.specs.declared.message.Reply.{Reply}
use Rattle.sal_mail.specs.declared.message.Message.{Message}
use Rattle.sal_mail.specs.declared.message.Join.{Join}
use Rattle.sal_mail.specs.declared.effects.Actor.{Actor}
use Rattle.sal_mail.specs.declared.effects.Creation.{Creation}
use Rattle.sal_mail.specs.declared.effects.Effects.{Effects}
use Rattle.sal_mail.specs.declared.envelope.Envelope.TheVariants as envelope
use Rattle.sal_mail.specs.declared.fault.FaultKind.{FaultKind}
use Rattle.sal_mail.specs.declared.fault.FaultKind.TheVariants.{Trap as Trapped, NoHandler}
use Rattle.sal_mail.specs.declared.plan.Plan.{Plan}
use Rattle.sal_mail.specs.Message.{known_values}
use Rattle.sal_handler.specs.Calls.{Call, Meaning, fresh_names}
use Rattle.sal_handler.specs.Handler.{first_text}
use Rattle.sal_handler.specs.declared.turn.Outcome.{Outcome}
use Rattle.sal_handler.specs.declared.turn.Outcome.TheVariants as outcome
use Rattle.sal_source.specs.declared.state.Step.TheVariants.{Handle, Print}
use Rattle.sal_source.specs.Keys.{name_key}
use Rattle.sal_source.specs.Runners.{behavior_or_migrate}
use Rattle.sal_source.specs.Step.{is_migrate_message, understands, message_text, answer_replies}
use Rattle.sal_book.specs.Book.{is_open, full_replies, book_after_entry, released_by_entry}
use Rattle.sal_carriage.specs.Link.{Link}
use Rattle.sal_resident.specs.declared.resident.Resident.{Resident}
use Rattle.sal_node.specs.declared.constants.TheConstants.{FIRST_SERVICE}
use Rattle.sal_node.specs.Links.{offer_all}
use Rattle.sal_directory.specs.Nodes.{theatre_of, service_of}
use Rattle.sal_routing.specs.declared.item.Item.{Item}
use Rattle.sal_routing.specs.declared.pending.Pending.{Pending}
use Rattle.sal_routing.specs.State.{Theatre, Desk, Turned, pending_key, desk, nothing, newcomer, actor_of, send, log, tell_fault, tell_given, print, with_work}
use Rattle.sal_routing.specs.Routing.{released_items, answer_made, put_resident, route}
use Rattle.sal_routing.specs.Arrivals.{move_to}

-- ---- the end of a turn

-- what the turn sent is offered; where a link is spent, there was nothing to do
abbrev pub offered_or : Option (List Link) → Theatre → Bool → Desk → Turned
offered_or None old took d = nothing old
offered_or (Some links) old took d = record { theatre = record d.theatre { links = links }; told = d.told; took = took }

-- the turn of the old theatre that this desk makes, and whether it found something to do
unfoldable pub finished : Theatre → Bool → Desk → Turned
finished old took d = offered_or (offer_all d.sent d.theatre.links) old took d

-- ---- creations

-- where the new actor is to stand: at the locator's theatre, or here
abbrev pub destination : Creation → Theatre → ℕ
destination x t = unwrap_or (option_and_then (theatre_of t.plan) x.place) t.me

abbrev pub pending_of : Name → Theatre → Creation → Pending
pending_of maker t x = record { maker = maker; creation = x; theatre = destination x t }

-- the name is to be bound to the locator of this theatre
abbrev pub ask_to_bind : Option ℕ → Option Ual → Pending → Desk → Desk
ask_to_bind (Some service) (Some place) x d = send (FIRST_SERVICE + service) (envelope.Put x.maker x.creation.serial x.creation.name place) d
ask_to_bind _ _ x d = d

abbrev pub put_pending : Pending → Desk → Desk
put_pending x d = record d { theatre = record d.theatre { pending = write d.theatre.pending (pending_key x) (Some x) } }

-- it waits here, and its name's service is asked to bind it; where there is no such service it waits for ever
unfoldable pub create : Pending → Desk → Desk
create x d = ask_to_bind (service_of d.theatre.plan x.creation.name) (slice_get d.theatre.plan.theatres x.theatre) x (put_pending x d)

unfoldable pub create_all : Name → List Creation → Desk → Desk
create_all maker [] d = d
create_all maker (x ∷ xs) d = create_all maker xs (create (pending_of maker d.theatre x) d)

-- ---- a handler's effects

unfoldable pub put_newcomers : List Actor → Theatre → Theatre
put_newcomers [] t = t
put_newcomers (a ∷ actors) t = put_newcomers actors (put_resident (newcomer a) t)

-- the actor after its handler: what waits is in its book
abbrev pub after_handler : Effects → Resident → Resident
after_handler e r = record r { fields = e.fields; serial = e.serial; book = book_after_entry e.messages e.joins r.book }

abbrev pub names_of : List Actor → List Name
names_of actors = map (λ a. a.name) actors

-- each with this theatre
abbrev pub made_here : ℕ → List Actor → List (Name × ℕ)
made_here me actors = map (λ a. (a.name, me)) actors

-- the joins that are open, each with its owner
abbrev pub opened_by : Name → List Join → List (Name × Join)
opened_by owner joins = map (λ j. (owner, j)) (filter is_open joins)

-- the actor and the new ones stand here, and the step is told
unfoldable pub installed : Effects → Message → Resident → Desk → Desk
installed e m r d = log (Handle m.maker m.serial (names_of e.actors)) (record d {
  theatre = record (put_newcomers e.actors (put_resident (after_handler e r) d.theatre)) { next_anon = e.fresh };
  told = record d.told { made = d.told.made ++ made_here d.theatre.me e.actors; opened = d.told.opened ++ opened_by r.name e.joins };
})

-- the replies that the step gives: the arrays of full joins, by number, and then the answer
abbrev pub replies_of : Effects → Reply → List (Reply × Value)
replies_of e reply = full_replies e.joins ++ answer_replies e.answer reply

-- what is to be routed: the messages that wait for nothing, the arrays of full joins, and the answer
unfoldable pub handler_work : Effects → Reply → List Item
handler_work e reply = released_items (released_by_entry e.messages e.joins) ++ map answer_made (answer_replies e.answer reply)

-- the new actors are installed, then the names are put, then the list is routed
unfoldable pub take_effect : Meaning → Effects → Message → Resident → Desk → Desk
take_effect p e m r d =
    route p (with_work (handler_work e m.reply) (create_all r.name e.creations (tell_given (replies_of e m.reply) (installed e m r d))))

-- ---- `migrate`

abbrev pub migrate_to : Option ℕ → Name → Desk → Desk
migrate_to None n d = d
migrate_to (Some to) n d = move_to n to d

-- the theatre that the message names, where it is one of the plan
unfoldable pub named_theatre : Plan → Message → Option ℕ
named_theatre plan m = option_and_then (theatre_of plan) (ual_of (first_text (known_values m.args)))

-- after all that its reply released, the actor moves
unfoldable pub migrate_after : Message → Resident → Desk → Desk
migrate_after m r d = if is_migrate_message m then migrate_to (named_theatre d.theatre.plan m) r.name d else d

-- ---- handling

-- the message was handled, and nothing but the fault is left of it
unfoldable pub fail : FaultKind → Message → Desk → Desk
fail kind m d = tell_fault (record { maker = m.maker; serial = m.serial; kind = kind }) (log (Handle m.maker m.serial []) d)

abbrev pub by_outcome : Meaning → Outcome → Message → Resident → Desk → Desk
by_outcome p (outcome.Done e) m r d = migrate_after m r (take_effect p e m r d)
by_outcome p (outcome.Trap kind) m r d = fail (Trapped kind) m d

-- new actors take the names of this theatre, from the next number on
abbrev pub call_at : Message → Resident → Theatre → Call
call_at m r t = record {
  me = r.name;
  behavior = r.behavior;
  fields = r.fields;
  handler = m.handler;
  args = known_values m.args;
  reply = m.reply;
  serial = r.serial;
  names = fresh_names t.me t.next_anon;
  fresh = t.next_anon;
}

-- Calls that are ready fit, and so do the states of residents: one that doesn't is dropped.
unfoldable pub may_be_called : Meaning → Call → Bool
may_be_called p c = p.fits_state c.behavior c.fields && p.fits_call (behavior_or_migrate c.behavior c.handler) c.handler c.args

abbrev pub handle_understood : Meaning → Message → Resident → Desk → Desk
handle_understood p m r d =
    if may_be_called p (call_at m r d.theatre) then by_outcome p (p.outcome (call_at m r d.theatre)) m r d else d

unfoldable pub handle : Meaning → Message → Resident → Desk → Desk
handle p m r d = if understands (actor_of r) m then handle_understood p m r d else fail NoHandler m d

-- the text is told, and null is its reply
unfoldable pub print_message : Meaning → Message → Desk → Desk
print_message p m d =
    route p (with_work (answer_made (m.reply, Null) ∷ []) (tell_given ((m.reply, Null) ∷ []) (print (message_text m) (log (Print m.maker m.serial) d))))

-- ---- the step

abbrev pub without_ready : ℕ → Theatre → Theatre
without_ready i t = record t { ready = remove t.ready i }

abbrev pub step_by : Meaning → Option Resident → ℕ → Message → Theatre → Turned
step_by p None i m t = nothing t
step_by p (Some r) i m t = finished t true (handle p m r (desk (without_ready i t)))

abbrev pub step_to : Meaning → Target → ℕ → Message → Theatre → Turned
step_to p target.Output i m t = finished t true (print_message p m (desk (without_ready i t)))
step_to p (target.Actor n) i m t = step_by p (fm.get t.residents (name_key n)) i m t

abbrev pub step_at : Meaning → Option Message → ℕ → Theatre → Turned
step_at p None i t = nothing t
step_at p (Some m) i t = step_to p m.target i m t

-- fewer than 1,025 numbers are left for anonymous actors
abbrev pub is_used_up : Theatre → Bool
is_used_up t = nat_lt 18446744073709550591 t.next_anon

-- the ready message at this place is printed or handled
unfoldable pub step : Meaning → ℕ → Theatre → Turned
step p i t = if is_used_up t then nothing t else step_at p (slice_get t.ready i) i t
