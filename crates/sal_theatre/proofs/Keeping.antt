-- All turns keep the theatre's number and the plan.
use Rattle.std.proofs.Common.{◌≡◌, ℕ, Bool, true, false, List, [], ◌∷◌, Option, Some, None, refl, ap, ◌∙◌}
use Rattle.std.specs.Prelude.{if◌then◌else◌, slice_get, Result, Ok, Err}
use Rattle.std.specs.FinMap as fm
use Rattle.sal_value.specs.declared.name.Name.TheVariants as name
use Rattle.sal_value.specs.declared.name.Uan.{Uan}
use Rattle.sal_value.specs.declared.value.Value.{Value}
use Rattle.sal_value.specs.declared.value.Value.TheVariants.{Null}
use Rattle.sal_value.specs.declared.value.DecodeFault.{DecodeFault}
use Rattle.sal_mail.specs.declared.message.Message.{Message}
use Rattle.sal_mail.specs.declared.message.Target.{Target}
use Rattle.sal_mail.specs.declared.message.Target.TheVariants as target
use Rattle.sal_mail.specs.declared.envelope.Envelope.{Envelope}
use Rattle.sal_mail.specs.declared.fault.FaultKind.{FaultKind}
use Rattle.sal_mail.specs.declared.fault.FaultKind.TheVariants.{Trap as Trapped, NoHandler}
use Rattle.sal_envelope.specs.Decoding.{decoded_envelope}
use Rattle.sal_handler.specs.Calls.{Meaning}
use Rattle.sal_handler.specs.declared.turn.Outcome.{Outcome}
use Rattle.sal_handler.specs.declared.turn.Outcome.TheVariants as outcome
use Rattle.sal_handler.specs.declared.turn.Began.{Began}
use Rattle.sal_handler.specs.declared.turn.Began.TheVariants as began
use Rattle.sal_source.specs.Keys.{name_key}
use Rattle.sal_source.specs.Posts.{post_message}
use Rattle.sal_source.specs.declared.state.Step.TheVariants.{Print, Post}
use Rattle.sal_source.specs.Step.{understands, message_text}
use Rattle.sal_carriage.specs.declared.datagram.Taken.{Taken}
use Rattle.sal_carriage.specs.declared.datagram.Taken.TheVariants as taken
use Rattle.sal_carriage.specs.Link.{Link}
use Rattle.sal_node.specs.Links.{Taking, take_datagram, offer_all}
use Rattle.sal_resident.specs.declared.resident.Resident.{Resident}
use Rattle.sal_routing.specs.State.{Theatre, Desk, desk, nothing, actor_of, log, tell_given, print, with_work}
use Rattle.sal_routing.specs.Routing.{answer_made, call_made, route}
use Rattle.sal_routing.specs.Arrivals.{goes, depart}
use Rattle.sal_routing.specs.Handling.{offered_or, finished, fail, take_effect, migrate_after, by_outcome, call_at, may_be_called, handle_understood, handle, print_message, without_ready, step_by, step_to, step_at, is_used_up, step}
use Rattle.sal_routing.specs.Laws.{TheatreNode, node_of}
use Rattle.sal_routing.specs.Turns as turns
use Rattle.sal_routing.proofs.Nodes.{route-node, take_effect-node, migrate_after-node, receive-node, depart-node, ask_all-node}
use Rattle.sal_theatre.specs.Laws.{IsSameNode, TurnsKeepTheNode}

-- ---- one after another

same : (t : Theatre) → IsSameNode t t
same t = record { me = refl; plan = refl }

then_same : (a b c : Theatre) → IsSameNode a b → IsSameNode b c → IsSameNode a c
then_same a b c first second = record { me = second.me ∙ first.me; plan = second.plan ∙ first.plan }

by_node : (a b : Theatre) → node_of b ≡ node_of a → IsSameNode a b
by_node a b e = record { me = ap (λ (n : TheatreNode). n.me) e; plan = ap (λ (n : TheatreNode). n.plan) e }

-- ---- the end of a turn

offered : (o : Option (List Link)) (t : Theatre) (took : Bool) (d : Desk) → IsSameNode t d.theatre → IsSameNode t (offered_or o t took d).theatre
offered None t took d e = same t
offered (Some links) t took d e = record { me = e.me; plan = e.plan }

ends : (t : Theatre) (took : Bool) (d : Desk) → IsSameNode t d.theatre → IsSameNode t (finished t took d).theatre
unfolding finished
ends t took d e = offered (offer_all d.sent d.theatre.links) t took d e

-- ---- the start

begun_by : (b : Began) (t : Theatre) → IsSameNode t (turns.begin_by b (desk t)).theatre
begun_by (began.Actor behavior handler fields) t = record { me = refl; plan = refl }
begun_by (began.Trap kind) t = same t

begun : (p : Meaning) (t : Theatre) → IsSameNode t (turns.begin p t).theatre
unfolding turns.begin
begun p t = ends t true (turns.begin_by p.begin (desk t)) (begun_by p.begin t)

-- ---- a step

failed : (kind : FaultKind) (m : Message) (d : Desk) → IsSameNode d.theatre (fail kind m d).theatre
unfolding fail
failed kind m d = same d.theatre

done_by : (p : Meaning) (o : Outcome) (m : Message) (r : Resident) (d : Desk) → IsSameNode d.theatre (by_outcome p o m r d).theatre
done_by p (outcome.Done e) m r d =
    let taken : Desk = take_effect p e m r d in
    let first : node_of taken.theatre ≡ record (node_of d.theatre) { next_anon = e.fresh } = take_effect-node p e m r d in
    then_same d.theatre taken.theatre (migrate_after m r taken).theatre
    (record { me = ap (λ (n : TheatreNode). n.me) first; plan = ap (λ (n : TheatreNode). n.plan) first })
    (by_node taken.theatre (migrate_after m r taken).theatre (migrate_after-node m r taken))
done_by p (outcome.Trap kind) m r d = failed (Trapped kind) m d

understood : (p : Meaning) (m : Message) (r : Resident) (d : Desk) → IsSameNode d.theatre (handle_understood p m r d).theatre
understood p m r d = at (may_be_called p (call_at m r d.theatre))
  where
    at : (b : Bool) → IsSameNode d.theatre (if b then by_outcome p (p.outcome (call_at m r d.theatre)) m r d else d).theatre
    at true = done_by p (p.outcome (call_at m r d.theatre)) m r d
    at false = same d.theatre

handled : (p : Meaning) (m : Message) (r : Resident) (d : Desk) → IsSameNode d.theatre (handle p m r d).theatre
unfolding handle
handled p m r d = at (understands (actor_of r) m)
  where
    at : (b : Bool) → IsSameNode d.theatre (if b then handle_understood p m r d else fail NoHandler m d).theatre
    at true = understood p m r d
    at false = failed NoHandler m d

routed : (p : Meaning) (d : Desk) → IsSameNode d.theatre (route p d).theatre
routed p d = by_node d.theatre (route p d).theatre (route-node p d)

printed : (p : Meaning) (m : Message) (d : Desk) → IsSameNode d.theatre (print_message p m d).theatre
unfolding print_message
printed p m d =
    routed p (with_work (answer_made (m.reply, Null) ∷ []) (tell_given ((m.reply, Null) ∷ []) (print (message_text m) (log (Print m.maker m.serial) d))))

step_by-node : (p : Meaning) (o : Option Resident) (i : ℕ) (m : Message) (t : Theatre) → IsSameNode t (step_by p o i m t).theatre
step_by-node p None i m t = same t
step_by-node p (Some r) i m t =
    let d : Desk = desk (without_ready i t) in
    let kept : IsSameNode d.theatre (handle p m r d).theatre = handled p m r d in
    ends t true (handle p m r d) (record { me = kept.me; plan = kept.plan })

step_to-node : (p : Meaning) (x : Target) (i : ℕ) (m : Message) (t : Theatre) → IsSameNode t (step_to p x i m t).theatre
step_to-node p target.Output i m t =
    let d : Desk = desk (without_ready i t) in
    let kept : IsSameNode d.theatre (print_message p m d).theatre = printed p m d in
    ends t true (print_message p m d) (record { me = kept.me; plan = kept.plan })
step_to-node p (target.Actor n) i m t = step_by-node p (fm.get t.residents (name_key n)) i m t

step_at-node : (p : Meaning) (o : Option Message) (i : ℕ) (t : Theatre) → IsSameNode t (step_at p o i t).theatre
step_at-node p None i t = same t
step_at-node p (Some m) i t = step_to-node p m.target i m t

stepped : (p : Meaning) (i : ℕ) (t : Theatre) → IsSameNode t (step p i t).theatre
unfolding step
stepped p i t = at (is_used_up t)
  where
    at : (b : Bool) → IsSameNode t (if b then nothing t else step_at p (slice_get t.ready i) i t).theatre
    at true = same t
    at false = step_at-node p (slice_get t.ready i) i t

-- ---- datagrams

decoded-node : (p : Meaning) (x : Result Envelope DecodeFault) (d : Desk) → IsSameNode d.theatre (turns.receive_decoded p x d).theatre
decoded-node p (Ok e) d = by_node d.theatre (turns.receive p e d).theatre (receive-node p e d)
decoded-node p (Err fault) d = same d.theatre

taken-node : (p : Meaning) (k : Taken) (d : Desk) → IsSameNode d.theatre (turns.receive_taken p k d).theatre
taken-node p (taken.Envelope bytes) d = decoded-node p (decoded_envelope bytes) d
taken-node p taken.Part d = same d.theatre
taken-node p taken.Old d = same d.theatre
taken-node p taken.Ahead d = same d.theatre
taken-node p taken.Acknowledged d = same d.theatre
taken-node p taken.Noise d = same d.theatre

taking-node : (p : Meaning) (x : Taking) (t : Theatre) → IsSameNode t (turns.datagram_by p x t).theatre
taking-node p x t =
    let d : Desk = desk (record t { links = x.links }) in
    let kept : IsSameNode d.theatre (turns.receive_taken p x.taken d).theatre = taken-node p x.taken d in
    ends t x.changed (turns.receive_taken p x.taken d) (record { me = kept.me; plan = kept.plan })

datagram-node : (p : Meaning) (bytes : List ℕ) (t : Theatre) → IsSameNode t (turns.datagram p bytes t).theatre
unfolding turns.datagram
datagram-node p bytes t = taking-node p (take_datagram bytes t.links) t

-- ---- the clock

released-node : (d : Desk) → IsSameNode d.theatre (turns.release_delayed d).theatre
unfolding turns.release_delayed
released-node d = record { me = refl; plan = refl }

clock-node : (p : Meaning) (ms : ℕ) (t : Theatre) → IsSameNode t (turns.clock p ms t).theatre
unfolding turns.clock
clock-node p ms t =
    let began : Desk = desk (turns.at_reading ms t) in
    let released : Desk = turns.release_delayed began in
    let end : Desk = turns.ask_all (turns.again_due (turns.at_reading ms t)) (route p released) in
    let first : IsSameNode began.theatre released.theatre = released-node began in
    let start : IsSameNode t released.theatre = record { me = first.me; plan = first.plan } in
    let rest : IsSameNode (route p released).theatre end.theatre = by_node (route p released).theatre end.theatre (ask_all-node (turns.again_due (turns.at_reading ms t)) (route p released)) in
    ends t (turns.is_time ms t) end (then_same t released.theatre end.theatre start (then_same released.theatre (route p released).theatre end.theatre (routed p released) rest))

-- ---- sending

push-node : (t : Theatre) → IsSameNode t (turns.push t)
unfolding turns.push
push-node t = record { me = refl; plan = refl }

-- ---- from outside

move_actor-node : (u : Uan) (to : ℕ) (t : Theatre) → IsSameNode t (turns.move_actor u to t).theatre
unfolding turns.move_actor
move_actor-node u to t = at (goes (name.Uan u) to t)
  where
    at : (b : Bool) → IsSameNode t (if b then finished t true (depart (name.Uan u) to (desk t)) else nothing t).theatre
    at true = ends t true (depart (name.Uan u) to (desk t)) (by_node t (depart (name.Uan u) to (desk t)).theatre (depart-node (name.Uan u) to (desk t)))
    at false = same t

post-node : (p : Meaning) (number : ℕ) (to : Uan) (behavior handler : ℕ) (args : List Value) (t : Theatre) → IsSameNode t (turns.post p number to behavior handler args t).theatre
unfolding turns.post
post-node p number to behavior handler args t =
    let posted : Desk = with_work (call_made (post_message number to behavior handler args) ∷ []) (log (Post number to behavior handler args) (desk t)) in
    ends t true (route p posted) (routed p posted)

pub turns_keep : TurnsKeepTheNode
turns_keep = record {
  begin = begun;
  step = stepped;
  datagram = datagram-node;
  clock = clock-node;
  push = push-node;
  move_actor = move_actor-node;
  post = post-node;
}
