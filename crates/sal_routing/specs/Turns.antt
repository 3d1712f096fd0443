-- The turns of a theatre. Each is all or nothing.
use Rattle.std.specs.Prelude.{ℕ, ◌+◌, max, Bool, true, false, ◌&&◌, ◌||◌, not, if◌then◌else◌, nat_eq, nat_le, nat_lt, List, [], ◌∷◌, map, filter, slice_get, Option, Some, None, Result, Ok, Err}
use Rattle.std.specs.FinMap as fm
use Rattle.sal_value.specs.declared.name.Name.{Name}
use Rattle.sal_value.specs.declared.name.Name.TheVariants as name
use Rattle.sal_value.specs.declared.name.Uan.{Uan}
use Rattle.sal_value.specs.declared.name.Ual.{Ual}
use Rattle.sal_value.specs.declared.value.Value.{Value}
use Rattle.sal_value.specs.declared.value.DecodeFault.{DecodeFault}
use Rattle.sal_value.specs.Order.{uan_key}
use Rattle.sal_value.specs.Table.{write}
use Rattle.sal_mail.specs.declared.message.Message.{Message}
use Rattle.sal_mail.specs.declared.envelope.Envelope.{Envelope}
use Rattle.sal_mail.specs.declared.envelope.Envelope.TheVariants as envelope
use Rattle.sal_mail.specs.declared.fault.FaultKind.TheVariants.{Trap as Trapped, NameTaken}
use Rattle.sal_envelope.specs.Decoding.{decoded_envelope}
use Rattle.sal_handler.specs.declared.turn.Began.{Began}
use Rattle.sal_handler.specs.declared.turn.Began.TheVariants as began
use Rattle.sal_handler.specs.Calls.{Meaning}
use Rattle.sal_source.specs.declared.state.Step.TheVariants.{Post}
use Rattle.sal_source.specs.Keys.{made_key}
use Rattle.sal_source.specs.Configuration.{start_name, act_message}
use Rattle.sal_source.specs.Posts.{post_message}
use Rattle.sal_source.specs.Step.{bound_actor}
use Rattle.sal_carriage.specs.declared.datagram.Datagram.{Datagram}
use Rattle.sal_carriage.specs.declared.datagram.Taken.{Taken}
use Rattle.sal_carriage.specs.declared.datagram.Taken.TheVariants as taken
use Rattle.sal_resident.specs.declared.resident.Resident.{Resident}
use Rattle.sal_resident.specs.Unpacking.{unpacked_actor}
use Rattle.sal_move.specs.declared.places.Known.{Known}
use Rattle.sal_node.specs.Links.{Taking, due_on, push_all, take_datagram, are_idle}
use Rattle.sal_directory.specs.Nodes.{theatre_of, service_of}
use Rattle.sal_routing.specs.declared.item.Item.TheVariants.{Call, Answer}
use Rattle.sal_routing.specs.declared.pending.Pending.{Pending}
use Rattle.sal_routing.specs.declared.pending.Question.{Question}
use Rattle.sal_routing.specs.declared.pending.Asking.{Asking}
use Rattle.sal_routing.specs.declared.pending.Asking.TheVariants.{Awaited, Again, Settled}
use Rattle.sal_routing.specs.State.{Theatre, Desk, Turned, raised, moment, newcomer, desk, nothing, send, log, tell_fault, with_work, make_ready}
use Rattle.sal_routing.specs.Fits.{fits_arrival, fits_move, is_here, is_served}
use Rattle.sal_routing.specs.Routing.{ask, put_question, put_resident, call_made, route}
use Rattle.sal_routing.specs.Arrivals.{arrive, learn, tell_service, goes, depart}
pub use Rattle.sal_routing.specs.Handling.{step, finished}

-- ---- begin

-- the start actor stands here, and the message `act` is ready; or there is only the fault of the start
abbrev pub begin_by : Began → Desk → Desk
begin_by (began.Actor behavior handler fields) d =
    make_ready (act_message d.theatre.plan.words behavior handler) (record d {
      theatre = record (put_resident (newcomer (record { name = start_name; behavior = behavior; fields = fields })) d.theatre) { next_anon = 1 };
      told = record d.told { made = (start_name, d.theatre.me) ∷ [] };
    })
begin_by (began.Trap kind) d = tell_fault (record { maker = name.Outside 0; serial = 0; kind = Trapped kind }) d

-- theatre 0 begins
unfoldable pub begin : Meaning → Theatre → Turned
begin p t = finished t true (begin_by p.begin (desk t))

-- ---- an envelope arrived

-- an actor that was made for this theatre
unfoldable pub take_create : Meaning → Resident → Desk → Desk
take_create p r d = if fits_arrival p d.theatre r then arrive p r d else d

-- the naming service of a name that moved here is told
abbrev pub tell_named : Name → Option Ual → ℕ → Desk → Desk
tell_named (name.Uan u) place moves d = tell_service (service_of d.theatre.plan u) place u moves d
tell_named (name.Anon theatre number) place moves d = d
tell_named (name.Outside number) place moves d = d

abbrev pub tell_move : Name → ℕ → Desk → Desk
tell_move n moves d = tell_named n (slice_get d.theatre.plan.theatres d.theatre.me) moves d

-- an actor that moved here: then its naming service is told
unfoldable pub take_resident : Meaning → Resident → Desk → Desk
take_resident p r d = if fits_move p d.theatre r then tell_move r.name r.moves (arrive p r d) else d

-- what doesn't unpack is dropped
abbrev pub take_move : Meaning → Result Resident DecodeFault → Desk → Desk
take_move p (Ok r) d = take_resident p r d
take_move p (Err fault) d = d

-- the new actor stands here, or goes to its theatre, whose place becomes known
unfoldable pub place_new : Meaning → Pending → Desk → Desk
place_new p x d =
    if nat_eq x.theatre d.theatre.me
    then arrive p (newcomer (bound_actor x.creation)) d
    else learn p x.creation.name x.theatre 0 (send x.theatre (envelope.Create (bound_actor x.creation)) d)

unfoldable pub name_taken : Pending → Desk → Desk
name_taken x d = tell_fault (record { maker = x.maker; serial = x.creation.serial; kind = NameTaken }) d

-- it waits no more
unfoldable pub drop_pending : Name → ℕ → Desk → Desk
drop_pending maker serial d = record d { theatre = record d.theatre { pending = write d.theatre.pending (made_key maker serial) None } }

abbrev pub decide : Meaning → Pending → Bool → Desk → Desk
decide p x bound d = if bound then place_new p x d else name_taken x d

-- The answer to a creation that was put and waits here. One whose naming service isn't in the plan was never put.
abbrev pub decide_pending : Meaning → Option Pending → Name → ℕ → Bool → Desk → Desk
decide_pending p None maker serial bound d = d
decide_pending p (Some x) maker serial bound d =
    if is_served d.theatre.plan x.creation.name then decide p x bound (drop_pending maker serial d) else d

unfoldable pub take_put_reply : Meaning → Name → ℕ → Bool → Desk → Desk
take_put_reply p maker serial bound d = decide_pending p (fm.get d.theatre.pending (made_key maker serial)) maker serial bound d

-- the question is asked again after so long, in milliseconds
abbrev pub ask_again : ℕ
ask_again = 1000

-- the answer leaves the question open: the name wasn't found, or it is said to be here and isn't
abbrev pub is_left_open : Uan → Option Known → Theatre → Bool
is_left_open u None t = true
is_left_open u (Some at) t = nat_eq at.theatre t.me && not (is_here (name.Uan u) t)

-- what is settled stays so; what is left open is asked again later
abbrev pub asking_after : Asking → Bool → ℕ → Asking
asking_after Settled left clock = Settled
asking_after Awaited left clock = if left then Again (moment (clock + ask_again)) else Settled
asking_after (Again m) left clock = if left then Again (moment (clock + ask_again)) else Settled

-- a place becomes known where it is elsewhere; that a name is here tells no place
abbrev pub learn_elsewhere : Meaning → Uan → Option Known → Desk → Desk
learn_elsewhere p u None d = d
learn_elsewhere p u (Some at) d = if nat_eq at.theatre d.theatre.me then d else learn p u at.theatre at.moves d

-- The question for the name came so far. The name wasn't found, or was found at this theatre of the plan.
unfoldable pub answer_question : Meaning → Uan → Asking → Option Known → Desk → Desk
answer_question p u asking at d =
    learn_elsewhere p u at (record d {
      theatre = put_question (record { name = u; asking = asking_after asking (is_left_open u at d.theatre) d.theatre.clock }) d.theatre;
    })

-- a locator that isn't in the plan doesn't fit
abbrev pub answer_at : Meaning → Uan → Asking → Option ℕ → ℕ → Desk → Desk
answer_at p u asking None moves d = d
answer_at p u asking (Some theatre) moves d = answer_question p u asking (Some (record { theatre = theatre; moves = moves })) d

abbrev pub answer_by : Meaning → Uan → Option Question → Option (Ual × ℕ) → Desk → Desk
answer_by p u None found d = d
answer_by p u (Some q) None d = answer_question p u q.asking None d
answer_by p u (Some q) (Some found) d = answer_at p u q.asking (theatre_of d.theatre.plan found.0) found.1 d

-- the answer to a question that was asked here, if it was
unfoldable pub take_get_reply : Meaning → Uan → Option (Ual × ℕ) → Desk → Desk
take_get_reply p u found d = answer_by p u (fm.get d.theatre.questions (uan_key u)) found d

-- an envelope that doesn't fit a theatre is dropped
unfoldable pub receive : Meaning → Envelope → Desk → Desk
receive p (envelope.Call hops m) d = route p (with_work (Call (raised hops) m ∷ []) d)
receive p (envelope.Reply hops r v) d = route p (with_work (Answer (raised hops) r v ∷ []) d)
receive p (envelope.Create a) d = take_create p (newcomer a) d
receive p (envelope.Move packed) d = take_move p (unpacked_actor packed) d
receive p (envelope.PutReply maker serial bound) d = take_put_reply p maker serial bound d
receive p (envelope.GetReply u found) d = take_get_reply p u found d
receive p (envelope.Put maker serial u place) d = d
receive p (envelope.Get u) d = d
receive p (envelope.Update u place moves) d = d

-- what doesn't decode is dropped
abbrev pub receive_decoded : Meaning → Result Envelope DecodeFault → Desk → Desk
receive_decoded p (Ok e) d = receive p e d
receive_decoded p (Err fault) d = d

abbrev pub receive_taken : Meaning → Taken → Desk → Desk
receive_taken p (taken.Envelope bytes) d = receive_decoded p (decoded_envelope bytes) d
receive_taken p taken.Part d = d
receive_taken p taken.Old d = d
receive_taken p taken.Ahead d = d
receive_taken p taken.Acknowledged d = d
receive_taken p taken.Noise d = d

-- what a link took changes the theatre, and so does what a whole envelope brings
abbrev pub datagram_by : Meaning → Taking → Theatre → Turned
datagram_by p x t = finished t x.changed (receive_taken p x.taken (desk (record t { links = x.links })))

-- a datagram arrived
unfoldable pub datagram : Meaning → List ℕ → Theatre → Turned
datagram p bytes t = datagram_by p (take_datagram bytes t.links) t

-- ---- the clock

abbrev pub is_reached : ℕ → ℕ × Message → Bool
is_reached now x = nat_le x.0 now

abbrev pub is_not_reached : ℕ → ℕ × Message → Bool
is_not_reached now x = not (is_reached now x)

-- after those of an earlier moment, before those of the same one
abbrev pub put_by_moment : ℕ × Message → List (ℕ × Message) → List (ℕ × Message)
put_by_moment x [] = x ∷ []
put_by_moment x (y ∷ ys) = if nat_le x.0 y.0 then x ∷ y ∷ ys else y ∷ put_by_moment x ys

-- by moment, and of one moment in the order in which they joined
unfoldable pub by_moment : List (ℕ × Message) → List (ℕ × Message)
by_moment [] = []
by_moment (x ∷ xs) = put_by_moment x (by_moment xs)

-- the delayed messages that are due
unfoldable pub reached : Theatre → List (ℕ × Message)
reached t = by_moment (filter (is_reached t.clock) t.delayed)

-- they join the list
unfoldable pub release_delayed : Desk → Desk
release_delayed d =
    with_work (map (λ x. call_made x.1) (reached d.theatre)) (record d {
      theatre = record d.theatre { delayed = filter (is_not_reached d.theatre.clock) d.theatre.delayed };
    })

abbrev pub is_asked_again : ℕ → Asking → Bool
is_asked_again now Awaited = false
is_asked_again now (Again m) = nat_le m now
is_asked_again now Settled = false

-- the names that are asked for again, in the order of names
unfoldable pub again_due : Theatre → List Uan
again_due t = map (λ q. q.name) (filter (λ q. is_asked_again t.clock q.asking) (fm.values t.questions))

abbrev pub ask_by : Option ℕ → Uan → Desk → Desk
ask_by None u d = d
ask_by (Some service) u d = ask service u d

unfoldable pub ask_all : List Uan → Desk → Desk
ask_all [] d = d
ask_all (u ∷ us) d = ask_all us (ask_by (service_of d.theatre.plan u) u d)

-- a reading below the last one counts as the last
abbrev pub at_reading : ℕ → Theatre → Theatre
at_reading ms t = record t { clock = max t.clock (moment ms) }

abbrev pub is_none : {A : Type 0} → List A → Bool
is_none [] = true
is_none (x ∷ xs) = false

-- whether a clock turn finds something to do
unfoldable pub is_time : ℕ → Theatre → Bool
is_time ms t = nat_lt t.clock (moment ms) || (not (is_none (reached t)) || not (is_none (again_due t)))

-- First the delayed messages that are due are routed, then names are asked for again. A name that is first asked for in
-- this turn isn't due.
unfoldable pub clock : Meaning → ℕ → Theatre → Turned
clock p ms t = finished t (is_time ms t) (ask_all (again_due (at_reading ms t)) (route p (release_delayed (desk (at_reading ms t)))))

-- ---- sending

-- the datagrams that are due, in the order of the nodes to which they go
unfoldable pub due_datagrams : Theatre → List Datagram
due_datagrams t = due_on t.clock t.links

unfoldable pub push : Theatre → Theatre
push t = record t { links = push_all t.clock t.links }

-- ---- from outside

-- an actor is moved, where it may be
unfoldable pub move_actor : Uan → ℕ → Theatre → Turned
move_actor u to t = if goes (name.Uan u) to t then finished t true (depart (name.Uan u) to (desk t)) else nothing t

-- a call from outside, which fits
unfoldable pub post : Meaning → ℕ → Uan → ℕ → ℕ → List Value → Theatre → Turned
post p number to behavior handler args t =
    finished t true (route p (with_work (call_made (post_message number to behavior handler args) ∷ []) (log (Post number to behavior handler args) (desk t))))

-- ---- at rest

-- nothing is ready, delayed, held or creating, and all links are idle
unfoldable pub is_quiet : Theatre → Bool
is_quiet t =
    is_none t.ready && (is_none t.delayed && (is_none (fm.entries t.held) && (is_none (fm.entries t.pending) && are_idle t.links)))
