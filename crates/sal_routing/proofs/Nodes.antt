-- What a turn keeps of its node: the theatre's number, the plan, the links, the clock.
use Rattle.std.proofs.Common.{◌≡◌, ℕ, zero, suc, ◌+◌, Bool, true, false, List, [], ◌∷◌, ◌++◌, Option, Some, None, refl, ap, ◌∙◌}
use Rattle.std.specs.Prelude.{if◌then◌else◌, nat_eq, nat_lt, slice_get, Result, Ok, Err}
use Rattle.std.specs.FinMap as fm
use Rattle.sal_value.specs.declared.name.Name.{Name}
use Rattle.sal_value.specs.declared.name.Name.TheVariants as name
use Rattle.sal_value.specs.declared.name.Uan.{Uan}
use Rattle.sal_value.specs.declared.name.Ual.{Ual}
use Rattle.sal_value.specs.declared.value.Value.{Value}
use Rattle.sal_value.specs.declared.value.DecodeFault.{DecodeFault}
use Rattle.sal_value.specs.Order.{uan_key}
use Rattle.sal_value.specs.Spelling.{is_legal}
use Rattle.sal_mail.specs.declared.message.Reply.{Reply}
use Rattle.sal_mail.specs.declared.message.Reply.TheVariants.{Nobody, Tok, Place, Outside}
use Rattle.sal_mail.specs.declared.message.Target.{Target}
use Rattle.sal_mail.specs.declared.message.Target.TheVariants as target
use Rattle.sal_mail.specs.declared.message.Message.{Message}
use Rattle.sal_mail.specs.declared.effects.Actor.{Actor}
use Rattle.sal_mail.specs.declared.effects.Creation.{Creation}
use Rattle.sal_mail.specs.declared.effects.Effects.{Effects}
use Rattle.sal_mail.specs.declared.envelope.Envelope.{Envelope}
use Rattle.sal_mail.specs.declared.envelope.Envelope.TheVariants as envelope
use Rattle.sal_handler.specs.Calls.{Meaning}
use Rattle.sal_source.specs.Keys.{name_key, made_key}
use Rattle.sal_source.specs.Step.{bound_actor, is_migrate_message}
use Rattle.sal_resident.specs.declared.resident.Resident.{Resident}
use Rattle.sal_resident.specs.Packing.{packed_actor}
use Rattle.sal_resident.specs.Unpacking.{unpacked_actor}
use Rattle.sal_move.specs.declared.places.Known.{Known}
use Rattle.sal_move.specs.Places.{is_news}
use Rattle.sal_spelled.specs.Sending.{may_be_sent}
use Rattle.sal_node.specs.declared.constants.TheConstants.{FIRST_SERVICE}
use Rattle.sal_directory.specs.Nodes.{theatre_of, service_of}
use Rattle.sal_routing.specs.declared.item.Item.{Item}
use Rattle.sal_routing.specs.declared.item.Item.TheVariants.{Call, Answer}
use Rattle.sal_routing.specs.declared.pending.Pending.{Pending}
use Rattle.sal_routing.specs.declared.pending.Question.{Question}
use Rattle.sal_routing.specs.declared.pending.Asking.{Asking}
use Rattle.sal_routing.specs.State.{Theatre, Desk, raised, envelope_of, newcomer, parcel_to, send, tell_given, with_work, tell_answer}
use Rattle.sal_routing.specs.Fits.{fits_call, fits_print, fits_arrival, fits_move, is_served}
use Rattle.sal_routing.specs.Routing.{next_hop, was_asked, awaited, put_question, put_resident, ask, ask_if_new, ask_first, put_held, hold, send_by, send_on, put_delayed, ready_if, call_to, route_to, route_call, answer_to, give_owner, route_answer, route_item, route_front, route_one, route_many, items_left, route, release_held}
use Rattle.sal_routing.specs.Arrivals.{stand, arrive, tell_service, put_place, learn, leaving, without_resident, depart_as, goes, tell_moved, depart_by, depart, move_to}
use Rattle.sal_routing.specs.Handling.{ask_to_bind, put_pending, pending_of, create, create_all, put_newcomers, after_handler, installed, replies_of, handler_work, take_effect, migrate_to, named_theatre, migrate_after}
use Rattle.sal_routing.specs.Turns.{take_create, tell_named, tell_move, take_resident, take_move, place_new, name_taken, drop_pending, decide, decide_pending, take_put_reply, is_left_open, asking_after, learn_elsewhere, answer_question, answer_at, answer_by, take_get_reply, receive, ask_by, ask_all}
use Rattle.sal_routing.specs.Laws.{TheatreNode, node_of, PartsKeepTheNode}

-- the node is as it was
abbrev pub Keeps : Desk → Desk → Type 0
Keeps old new = node_of new.theatre ≡ node_of old.theatre

-- ---- routing

pub send-node : (node : ℕ) (e : Envelope) (d : Desk) → Keeps d (send node e d)
unfolding send
send-node node e d = at (may_be_sent e)
  where
    at : (b : Bool) → Keeps d (if b then record d { sent = d.sent ++ parcel_to node e ∷ [] } else d)
    at true = refl
    at false = refl

ready-node : (b : Bool) (m : Message) (d : Desk) → Keeps d (ready_if b m d)
ready-node true m d = refl
ready-node false m d = refl

pub ask-node : (service : ℕ) (u : Uan) (d : Desk) → Keeps d (ask service u d)
unfolding ask
ask-node service u d = send-node (FIRST_SERVICE + service) (envelope.Get u) (record d { theatre = put_question (awaited u) d.theatre })

new-node : (o : Option ℕ) (u : Uan) (d : Desk) → Keeps d (ask_if_new o u d)
new-node None u d = refl
new-node (Some service) u d = at (was_asked u d.theatre)
  where
    at : (b : Bool) → Keeps d (if b then d else ask service u d)
    at true = refl
    at false = ask-node service u d

first-node : (n : Name) (d : Desk) → Keeps d (ask_first n d)
unfolding ask_first
first-node (name.Uan u) d = new-node (service_of d.theatre.plan u) u d
first-node (name.Anon theatre number) d = refl
first-node (name.Outside number) d = refl

pub put_held-node : (n : Name) (i : Item) (d : Desk) → Keeps d (put_held n i d)
unfolding put_held
put_held-node n i d = refl

pub hold-node : (n : Name) (i : Item) (d : Desk) → Keeps d (hold n i d)
unfolding hold put_held
hold-node n i d = first-node n (put_held n i d)

by-node : (o : Option ℕ) (n : Name) (i : Item) (d : Desk) → Keeps d (send_by o n i d)
by-node None n i d = hold-node n i d
by-node (Some node) n i d = send-node node (envelope_of i) d

pub send_on-node : (n : Name) (i : Item) (d : Desk) → Keeps d (send_on n i d)
unfolding send_on
send_on-node n i d = by-node (next_hop n d.theatre) n i d

call_to-node : (p : Meaning) (o : Option Resident) (n : Name) (hops : ℕ) (m : Message) (d : Desk) → Keeps d (call_to p o n hops m d)
call_to-node p (Some r) n hops m d = ready-node (fits_call p m) m d
call_to-node p None n hops m d = send_on-node n (Call hops m) d

to-node : (p : Meaning) (t : Target) (hops : ℕ) (m : Message) (d : Desk) → Keeps d (route_to p t hops m d)
to-node p target.Output hops m d = ready-node (fits_print m) m d
to-node p (target.Actor n) hops m d = call_to-node p (fm.get d.theatre.residents (name_key n)) n hops m d

pub route_call-node : (p : Meaning) (hops : ℕ) (m : Message) (d : Desk) → Keeps d (route_call p hops m d)
unfolding route_call put_delayed
route_call-node p hops m d = at (nat_lt 0 m.delay)
  where
    at : (b : Bool) → Keeps d (if b then put_delayed m d else route_to p m.target hops m d)
    at true = refl
    at false = to-node p m.target hops m d

answer_to-node : (o : Option Resident) (n : Name) (hops : ℕ) (reply : Reply) (v : Value) (d : Desk) → Keeps d (answer_to o n hops reply v d)
answer_to-node None n hops reply v d = send_on-node n (Answer hops reply v) d
answer_to-node (Some r) n hops reply v d = refl

owner-node : (n : Name) (hops : ℕ) (reply : Reply) (v : Value) (d : Desk) → Keeps d (give_owner n hops reply v d)
unfolding give_owner
owner-node n hops reply v d = answer_to-node (fm.get d.theatre.residents (name_key n)) n hops reply v d

pub route_answer-node : (hops : ℕ) (reply : Reply) (v : Value) (d : Desk) → Keeps d (route_answer hops reply v d)
unfolding route_answer
route_answer-node hops Nobody v d = refl
route_answer-node hops (Outside number) v d = at (is_legal v)
  where
    at : (b : Bool) → Keeps d (if b then tell_answer number v d else d)
    at true = refl
    at false = refl
route_answer-node hops (Tok owner number) v d = owner-node owner hops (Tok owner number) v d
route_answer-node hops (Place owner join at) v d = owner-node owner hops (Place owner join at) v d

pub route_item-node : (p : Meaning) (i : Item) (d : Desk) → Keeps d (route_item p i d)
unfolding route_item
route_item-node p (Call hops m) d = route_call-node p hops m d
route_item-node p (Answer hops reply v) d = route_answer-node hops reply v d

one-node : (p : Meaning) (d : Desk) → Keeps d (route_one p d)
unfolding route_one
one-node p d = by d.work
  where
    by : (items : List Item) → Keeps d (route_front p items d)
    by [] = refl
    by (i ∷ items) = route_item-node p i (record d { work = items })

many-node : (p : Meaning) (n : ℕ) (d : Desk) → Keeps d (route_many p n d)
unfolding route_many
many-node p zero d = refl
many-node p (suc n) d = many-node p n (route_one p d) ∙ one-node p d

pub route-node : (p : Meaning) (d : Desk) → Keeps d (route p d)
unfolding route
route-node p d = many-node p (items_left d) d

-- ---- arrivals

pub stand-node : (r : Resident) (t : Theatre) → node_of (stand r t) ≡ node_of t
unfolding stand
stand-node r t = refl

pub release_held-node : (n : Name) (d : Desk) → Keeps d (release_held n d)
unfolding release_held
release_held-node n d = refl

pub arrive-node : (p : Meaning) (r : Resident) (d : Desk) → Keeps d (arrive p r d)
unfolding arrive
arrive-node p r d =
    let there : Desk = record d { theatre = stand r d.theatre } in
    route-node p (release_held r.name there) ∙ (release_held-node r.name there ∙ stand-node r d.theatre)

pub put_place-node : (u : Uan) (to moves : ℕ) (d : Desk) → Keeps d (put_place u to moves d)
unfolding put_place
put_place-node u to moves d = refl

pub learn-node : (p : Meaning) (u : Uan) (to moves : ℕ) (d : Desk) → Keeps d (learn p u to moves d)
unfolding learn
learn-node p u to moves d = at (is_news u moves d.theatre.places)
  where
    at : (b : Bool) → Keeps d (if b then route p (release_held (name.Uan u) (put_place u to moves d)) else d)
    at true =
        let known : Desk = put_place u to moves d in
        route-node p (release_held (name.Uan u) known) ∙ (release_held-node (name.Uan u) known ∙ put_place-node u to moves d)
    at false = refl

pub tell_service-node : (o : Option ℕ) (place : Option Ual) (u : Uan) (moves : ℕ) (d : Desk) → Keeps d (tell_service o place u moves d)
tell_service-node None None u moves d = refl
tell_service-node None (Some place) u moves d = refl
tell_service-node (Some service) None u moves d = refl
tell_service-node (Some service) (Some place) u moves d = send-node (FIRST_SERVICE + service) (envelope.Update u place moves) d

without-node : (r : Resident) (t : Theatre) → node_of (without_resident r t) ≡ node_of t
unfolding without_resident
without-node r t = refl

depart_as-node : (u : Uan) (r : Resident) (to : ℕ) (d : Desk) → Keeps d (depart_as u r to d)
unfolding depart_as
depart_as-node u r to d =
    let gone : Desk = record d { theatre = without_resident r d.theatre } in
    let e : Envelope = envelope.Move (packed_actor (leaving r d.theatre)) in
    put_place-node u to (r.moves + 1) (send to e gone) ∙ (send-node to e gone ∙ without-node r d.theatre)

depart_by-node : (o : Option Resident) (u : Uan) (to : ℕ) (d : Desk) → Keeps d (depart_by o u to d)
depart_by-node None u to d = refl
depart_by-node (Some r) u to d = depart_as-node u r to (tell_moved (name.Uan u) to d)

pub depart-node : (n : Name) (to : ℕ) (d : Desk) → Keeps d (depart n to d)
unfolding depart
depart-node (name.Uan u) to d = depart_by-node (fm.get d.theatre.residents (name_key (name.Uan u))) u to d
depart-node (name.Anon theatre number) to d = refl
depart-node (name.Outside number) to d = refl

pub move_to-node : (n : Name) (to : ℕ) (d : Desk) → Keeps d (move_to n to d)
unfolding move_to
move_to-node n to d = at (goes n to d.theatre)
  where
    at : (b : Bool) → Keeps d (if b then depart n to d else d)
    at true = depart-node n to d
    at false = refl

-- ---- creations and effects

bind-node : (o : Option ℕ) (place : Option Ual) (x : Pending) (d : Desk) → Keeps d (ask_to_bind o place x d)
bind-node None None x d = refl
bind-node None (Some place) x d = refl
bind-node (Some service) None x d = refl
bind-node (Some service) (Some place) x d = send-node (FIRST_SERVICE + service) (envelope.Put x.maker x.creation.serial x.creation.name place) d

pub create-node : (x : Pending) (d : Desk) → Keeps d (create x d)
unfolding create
create-node x d = bind-node (service_of d.theatre.plan x.creation.name) (slice_get d.theatre.plan.theatres x.theatre) x (put_pending x d)

pub create_all-node : (maker : Name) (xs : List Creation) (d : Desk) → Keeps d (create_all maker xs d)
unfolding create_all
create_all-node maker [] d = refl
create_all-node maker (x ∷ xs) d = create_all-node maker xs (create (pending_of maker d.theatre x) d) ∙ create-node (pending_of maker d.theatre x) d

pub put_newcomers-node : (actors : List Actor) (t : Theatre) → node_of (put_newcomers actors t) ≡ node_of t
unfolding put_newcomers
put_newcomers-node [] t = refl
put_newcomers-node (a ∷ actors) t = put_newcomers-node actors (put_resident (newcomer a) t)

-- but the next number of an anonymous actor
abbrev with_next : ℕ → TheatreNode → TheatreNode
with_next fresh n = record n { next_anon = fresh }

pub installed-node : (e : Effects) (m : Message) (r : Resident) (d : Desk) → node_of (installed e m r d).theatre ≡ record (node_of d.theatre) { next_anon = e.fresh }
unfolding installed
installed-node e m r d = ap (with_next e.fresh) (put_newcomers-node e.actors (put_resident (after_handler e r) d.theatre))

pub take_effect-node : (p : Meaning) (e : Effects) (m : Message) (r : Resident) (d : Desk) → node_of (take_effect p e m r d).theatre ≡ record (node_of d.theatre) { next_anon = e.fresh }
unfolding take_effect
take_effect-node p e m r d =
    let told : Desk = tell_given (replies_of e m.reply) (installed e m r d) in
    let made : Desk = create_all r.name e.creations told in
    route-node p (with_work (handler_work e m.reply) made) ∙ (create_all-node r.name e.creations told ∙ installed-node e m r d)

migrate_to-node : (o : Option ℕ) (n : Name) (d : Desk) → Keeps d (migrate_to o n d)
migrate_to-node None n d = refl
migrate_to-node (Some to) n d = move_to-node n to d

pub migrate_after-node : (m : Message) (r : Resident) (d : Desk) → Keeps d (migrate_after m r d)
unfolding migrate_after
migrate_after-node m r d = at (is_migrate_message m)
  where
    at : (b : Bool) → Keeps d (if b then migrate_to (named_theatre d.theatre.plan m) r.name d else d)
    at true = migrate_to-node (named_theatre d.theatre.plan m) r.name d
    at false = refl

-- ---- an envelope arrived

pub take_create-node : (p : Meaning) (r : Resident) (d : Desk) → Keeps d (take_create p r d)
unfolding take_create
take_create-node p r d = at (fits_arrival p d.theatre r)
  where
    at : (b : Bool) → Keeps d (if b then arrive p r d else d)
    at true = arrive-node p r d
    at false = refl

tell_named-node : (n : Name) (place : Option Ual) (moves : ℕ) (d : Desk) → Keeps d (tell_named n place moves d)
tell_named-node (name.Uan u) place moves d = tell_service-node (service_of d.theatre.plan u) place u moves d
tell_named-node (name.Anon theatre number) place moves d = refl
tell_named-node (name.Outside number) place moves d = refl

pub take_resident-node : (p : Meaning) (r : Resident) (d : Desk) → Keeps d (take_resident p r d)
unfolding take_resident
take_resident-node p r d = at (fits_move p d.theatre r)
  where
    at : (b : Bool) → Keeps d (if b then tell_move r.name r.moves (arrive p r d) else d)
    at true =
        let there : Desk = arrive p r d in
        tell_named-node r.name (slice_get there.theatre.plan.theatres there.theatre.me) r.moves there ∙ arrive-node p r d
    at false = refl

take_move-node : (p : Meaning) (r : Result Resident DecodeFault) (d : Desk) → Keeps d (take_move p r d)
take_move-node p (Ok r) d = take_resident-node p r d
take_move-node p (Err fault) d = refl

pub place_new-node : (p : Meaning) (x : Pending) (d : Desk) → Keeps d (place_new p x d)
unfolding place_new
place_new-node p x d = at (nat_eq x.theatre d.theatre.me)
  where
    at : (b : Bool) → Keeps d (if b then arrive p (newcomer (bound_actor x.creation)) d else learn p x.creation.name x.theatre 0 (send x.theatre (envelope.Create (bound_actor x.creation)) d))
    at true = arrive-node p (newcomer (bound_actor x.creation)) d
    at false =
        let e : Envelope = envelope.Create (bound_actor x.creation) in
        learn-node p x.creation.name x.theatre 0 (send x.theatre e d) ∙ send-node x.theatre e d

name_taken-node : (x : Pending) (d : Desk) → Keeps d (name_taken x d)
unfolding name_taken
name_taken-node x d = refl

pub drop_pending-node : (maker : Name) (serial : ℕ) (d : Desk) → Keeps d (drop_pending maker serial d)
unfolding drop_pending
drop_pending-node maker serial d = refl

decide-node : (p : Meaning) (x : Pending) (bound : Bool) (d : Desk) → Keeps d (decide p x bound d)
decide-node p x true d = place_new-node p x d
decide-node p x false d = name_taken-node x d

decide_pending-node : (p : Meaning) (o : Option Pending) (maker : Name) (serial : ℕ) (bound : Bool) (d : Desk) → Keeps d (decide_pending p o maker serial bound d)
decide_pending-node p None maker serial bound d = refl
decide_pending-node p (Some x) maker serial bound d = at (is_served d.theatre.plan x.creation.name)
  where
    at : (b : Bool) → Keeps d (if b then decide p x bound (drop_pending maker serial d) else d)
    at true = decide-node p x bound (drop_pending maker serial d) ∙ drop_pending-node maker serial d
    at false = refl

pub take_put_reply-node : (p : Meaning) (maker : Name) (serial : ℕ) (bound : Bool) (d : Desk) → Keeps d (take_put_reply p maker serial bound d)
unfolding take_put_reply
take_put_reply-node p maker serial bound d = decide_pending-node p (fm.get d.theatre.pending (made_key maker serial)) maker serial bound d

learn_elsewhere-node : (p : Meaning) (u : Uan) (o : Option Known) (d : Desk) → Keeps d (learn_elsewhere p u o d)
learn_elsewhere-node p u None d = refl
learn_elsewhere-node p u (Some known) d = at (nat_eq known.theatre d.theatre.me)
  where
    at : (b : Bool) → Keeps d (if b then d else learn p u known.theatre known.moves d)
    at true = refl
    at false = learn-node p u known.theatre known.moves d

pub answer_question-node : (p : Meaning) (u : Uan) (asking : Asking) (o : Option Known) (d : Desk) → Keeps d (answer_question p u asking o d)
unfolding answer_question
answer_question-node p u asking o d =
    learn_elsewhere-node p u o (record d {
      theatre = put_question (record { name = u; asking = asking_after asking (is_left_open u o d.theatre) d.theatre.clock }) d.theatre;
    })

answer_at-node : (p : Meaning) (u : Uan) (asking : Asking) (o : Option ℕ) (moves : ℕ) (d : Desk) → Keeps d (answer_at p u asking o moves d)
answer_at-node p u asking None moves d = refl
answer_at-node p u asking (Some theatre) moves d = answer_question-node p u asking (Some (record { theatre = theatre; moves = moves })) d

answer_by-node : (p : Meaning) (u : Uan) (o : Option Question) (found : Option (Ual × ℕ)) (d : Desk) → Keeps d (answer_by p u o found d)
answer_by-node p u None found d = refl
answer_by-node p u (Some q) None d = answer_question-node p u q.asking None d
answer_by-node p u (Some q) (Some found) d = answer_at-node p u q.asking (theatre_of d.theatre.plan found.0) found.1 d

pub take_get_reply-node : (p : Meaning) (u : Uan) (found : Option (Ual × ℕ)) (d : Desk) → Keeps d (take_get_reply p u found d)
unfolding take_get_reply
take_get_reply-node p u found d = answer_by-node p u (fm.get d.theatre.questions (uan_key u)) found d

pub receive-node : (p : Meaning) (e : Envelope) (d : Desk) → Keeps d (receive p e d)
unfolding receive
receive-node p (envelope.Call hops m) d = route-node p (with_work (Call (raised hops) m ∷ []) d)
receive-node p (envelope.Reply hops r v) d = route-node p (with_work (Answer (raised hops) r v ∷ []) d)
receive-node p (envelope.Create a) d = take_create-node p (newcomer a) d
receive-node p (envelope.Move packed) d = take_move-node p (unpacked_actor packed) d
receive-node p (envelope.PutReply maker serial bound) d = take_put_reply-node p maker serial bound d
receive-node p (envelope.GetReply u found) d = take_get_reply-node p u found d
receive-node p (envelope.Put maker serial u place) d = refl
receive-node p (envelope.Get u) d = refl
receive-node p (envelope.Update u place moves) d = refl

-- ---- the clock

ask_by-node : (o : Option ℕ) (u : Uan) (d : Desk) → Keeps d (ask_by o u d)
ask_by-node None u d = refl
ask_by-node (Some service) u d = ask-node service u d

pub ask_all-node : (us : List Uan) (d : Desk) → Keeps d (ask_all us d)
unfolding ask_all
ask_all-node [] d = refl
ask_all-node (u ∷ us) d = ask_all-node us (ask_by (service_of d.theatre.plan u) u d) ∙ ask_by-node (service_of d.theatre.plan u) u d

pub parts_keep : PartsKeepTheNode
parts_keep = record {
  route = route-node;
  arrive = arrive-node;
  learn = learn-node;
  depart = depart-node;
  create_all = create_all-node;
  take_effect = take_effect-node;
  receive = receive-node;
}
