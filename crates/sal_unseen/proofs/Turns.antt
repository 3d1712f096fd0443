-- The whole turn.
use Rattle.std.proofs.Common.{◌≡◌, ℕ, Bool, true, false, ◌⊎◌, inl, inr, List, [], ◌++◌, Option, Some, None, refl, sym, ap, ◌∙◌}
use Rattle.std.specs.Prelude.{if◌then◌else◌, slice_get, length}
use Rattle.std.specs.FinMap as fm
use Rattle.sal_value.specs.declared.name.Name.{Name}
use Rattle.sal_mail.specs.declared.message.Message.{Message}
use Rattle.sal_mail.specs.declared.message.Target.{Target}
use Rattle.sal_mail.specs.declared.message.Target.TheVariants as target
use Rattle.sal_mail.specs.declared.effects.Effects.{Effects}
use Rattle.sal_mail.specs.declared.fault.FaultKind.TheVariants.{NoHandler}
use Rattle.sal_handler.specs.Calls.{Meaning}
use Rattle.sal_handler.specs.declared.turn.Outcome.{Outcome}
use Rattle.sal_handler.specs.declared.turn.Outcome.TheVariants as outcome
use Rattle.sal_source.specs.declared.state.Step.{Step}
use Rattle.sal_source.specs.declared.state.Step.TheVariants.{Handle, Print}
use Rattle.sal_source.specs.declared.state.Setup.{Setup}
use Rattle.sal_source.specs.Table.{TableKey}
use Rattle.sal_source.specs.Keys.{name_key}
use Rattle.sal_source.specs.Configuration.{Configuration}
use Rattle.sal_source.specs.Step.{understands, is_migrate_message, step as step_of}
use Rattle.sal_resident.specs.declared.resident.Resident.{Resident}
use Rattle.sal_pieces.specs.Pieces.{Piece}
use Rattle.sal_pieces.specs.Image.{History}
use Rattle.sal_routing.specs.State.{Theatre, Desk, actor_of, desk, nothing}
use Rattle.sal_routing.specs.Handling.{call_at, may_be_called, names_of, take_effect, fail, migrate_to, migrate_after, named_theatre, by_outcome, handle_understood, handle, print_message, step_by, step_to, step_at, is_used_up, without_ready, step, finished}
use Rattle.sal_value.specs.declared.name.Name.TheVariants as name
use Rattle.sal_world.specs.Pieces.{theatre_pieces}
use Rattle.sal_routing.specs.Routing.{route}
use Rattle.sal_routing.specs.Arrivals.{goes, depart, move_to}
use Rattle.sal_routing.specs.Turns.{clock, move_actor, at_reading, again_due, ask_all, release_delayed}
use Rattle.sal_unseen.specs.Desks.{desk_pieces}
use Rattle.sal_unseen.specs.Unseen.{IsInOrder, StaysInOrder}
use Rattle.sal_unseen.specs.Steps.{IsStepTurn, IsCallTo, with_fresh}
use Rattle.sal_unseen.specs.Calls.{TakesNamesOnly}
use Rattle.sal_unseen.specs.Turns.{EndsWell, OutcomeIsWell, HandlesWell, TargetIsWell, IsStepMade, StepTurnsAreSteps, ClockTurnsAreUnseen, MoveTurnsAreUnseen}
use Rattle.sal_unseen.proofs.Unseen.{unseen_then, stays}
use Rattle.sal_unseen.proofs.Parts.{migrations_unseen, due_unseen}
use Rattle.sal_unseen.proofs.Steps.{taken_leads, is_called, also_new, prints_are_steps, failures_are_steps, handlers_are_steps}
use Rattle.sal_unseen.proofs.Calls.{call_as_steps}

-- a step, and then what isn't seen
then_unseen : (p : Meaning) (step : Configuration → Option Configuration) (bound : List TableKey) (before stepped : List Piece) (w v : History) (d e : Desk) (rest : List Piece) → IsStepTurn p step bound before stepped w v d rest → StaysInOrder p d rest e rest
    → IsStepTurn p step bound before stepped w v e rest
then_unseen p step bound before stepped w v d e rest s next = record { steps = s.steps; unseen = unseen_then stepped (desk_pieces d ++ rest) (desk_pieces e ++ rest) s.unseen next.unseen; order = next.order }

module _ (sizes : List ℕ) (p : Meaning) (setup : Setup) (m : Message) (i : ℕ) (r : Resident) (t : Theatre) (rest : List Piece) (bound : List TableKey) (w v : History) (takes : TakesNamesOnly sizes p) (goes : IsCallTo m i r t) (h : IsInOrder p (desk t) rest) where
  -- what the handling makes of the desk
  record IsMade (d : Desk) : Type 0 where
    taken : Step
    stepped : List Piece
    is : IsStepTurn p (λ c. step_of p setup c taken) bound (desk_pieces (desk t) ++ rest) stepped w v d rest

  moved : (e : Effects) → EndsWell p m i t rest bound w v r e → (d : Desk) → d ≡ take_effect p e m r (desk (without_ready i t)) → IsInOrder p d rest → StaysInOrder p d rest (migrate_after m r d) rest
  unfolding migrate_after
  moved e well d is order = by (is_migrate_message m) (named_theatre d.theatre.plan m)
    where
      by : (b : Bool) (to : Option ℕ) → StaysInOrder p d rest (if b then migrate_to to r.name d else d) rest
      by false to = stays p d rest order
      by true None = stays p d rest order
      by true (Some to) = migrations_unseen p r.name to d rest (well.range d is) order

  done : (e : Effects) → HandlesWell p m i t rest bound w v r → understands (actor_of r) m ≡ true → p.outcome (call_at m r t) ≡ outcome.Done e → EndsWell p m i t rest bound w v r e
      → IsMade (migrate_after m r (take_effect p e m r (desk (without_ready i t))))
  unfolding step_of
  done e all it is well =
      let small : Effects = with_fresh (length e.actors) e in
      let first = (taken_leads p m i r t rest goes h).1 in
      let turn = handlers_are_steps p sizes (with_fresh (length e.actors) e) e.fresh m i r t rest bound w v goes
      (record {
        ready = is_called p m i r t rest goes h;
        target = goes.target;
        understood = it;
        done = call_as_steps.done sizes p m r t e takes all.may all.old is;
        orderly = call_as_steps.orderly sizes p m r t e takes all.may all.old is;
        fresh = well.fresh;
        below = well.below;
        undecided = well.undecided;
        stands = first.once;
      })
      (also_new e (length e.actors) r t well.new) (record { joins = well.sends.joins; answer = well.sends.answer }) h well.fit well.told in
      record {
        taken = Handle m.maker m.serial (names_of e.actors);
        stepped = _;
        is = then_unseen p (λ c. step_of p setup c (Handle m.maker m.serial (names_of e.actors))) bound (desk_pieces (desk t) ++ rest) _ w v (take_effect p e m r (desk (without_ready i t))) (migrate_after m r (take_effect p e m r (desk (without_ready i t)))) rest turn
            (moved e well (take_effect p e m r (desk (without_ready i t))) refl turn.order);
      }

  by_end : (o : Outcome) → HandlesWell p m i t rest bound w v r → understands (actor_of r) m ≡ true → p.outcome (call_at m r t) ≡ o → OutcomeIsWell p m i t rest bound w v r o
      → IsMade (by_outcome p o m r (desk (without_ready i t)))
  unfolding step_of
  by_end (outcome.Done e) all it is well = done e all it is well
  by_end (outcome.Trap kind) all it is well = record {
    taken = Handle m.maker m.serial [];
    stepped = _;
    is = failures_are_steps.trap p kind m i r t rest bound w v goes it (call_as_steps.trap sizes p m r t kind takes all.may all.new is) h well.fit well.told;
  }

  handled : HandlesWell p m i t rest bound w v r → IsMade (handle p m r (desk (without_ready i t)))
  unfolding handle step_of
  handled all = by (understands (actor_of r) m) refl
    where
      called : (b : Bool) → understands (actor_of r) m ≡ true → may_be_called p (call_at m r t) ≡ b → IsMade (if b then by_outcome p (p.outcome (call_at m r t)) m r (desk (without_ready i t)) else desk (without_ready i t))
      called true it e = by_end (p.outcome (call_at m r t)) all it refl (all.known it)
      called false it e = let may = all.may in absurd cc

      by : (b : Bool) → understands (actor_of r) m ≡ b → IsMade (if b then handle_understood p m r (desk (without_ready i t)) else fail NoHandler m (desk (without_ready i t)))
      by true it = called (may_be_called p (call_at m r t)) it refl
      by false it = let well = all.unknown it in record {
        taken = Handle m.maker m.serial [];
        stepped = _;
        is = failures_are_steps.no_handler p m i r t rest bound w v goes it h well.fit well.told;
      }

module _ (sizes : List ℕ) (p : Meaning) (setup : Setup) (i : ℕ) (t : Theatre) (rest : List Piece) (bound : List TableKey) (w v : History) (takes : TakesNamesOnly sizes p) (h : IsInOrder p (desk t) rest) where
  abbrev Ends : Type 0
  Ends = (step p i t ≡ nothing t) ⊎ IsStepMade p setup i t rest bound w v

  by_resident : (m : Message) (n : Name) (o : Option Resident) → slice_get t.ready i ≡ Some m → m.target ≡ target.Actor n → fm.get t.residents (name_key n) ≡ o
      → TargetIsWell p m i t rest bound w v (target.Actor n) → step p i t ≡ step_by p o i m t → Ends
  by_resident m n None at to here well is = inl is
  by_resident m n (Some r) at to here well is =
      let named = h.keyed n r here in
      let goes : IsCallTo m i r t = record { ready = at; target = to ∙ ap (λ x. target.Actor x) (sym named); here = ap (λ x. fm.get t.residents (name_key x)) named ∙ here } in
      let all = handled sizes p setup m i r t rest bound w v takes goes h (well r here) in
      inr (record { made = handle p m r (desk (without_ready i t)); taken = all.taken; turn = is; stepped = all.stepped; is = all.is })

  by_target : (m : Message) (to : Target) → slice_get t.ready i ≡ Some m → m.target ≡ to → TargetIsWell p m i t rest bound w v to → step p i t ≡ step_to p to i m t → Ends
  unfolding step_of
  by_target m target.Output at to well is =
      inr (record {
        made = print_message p m (desk (without_ready i t));
        taken = Print m.maker m.serial;
        turn = is;
        stepped = _;
        is = prints_are_steps p m i t rest bound w v at to well.sendable h well.fit well.told;
      })
  by_target m (target.Actor n) at to well is = by_resident m n (fm.get t.residents (name_key n)) at to refl well is

  by_message : (o : Option Message) → slice_get t.ready i ≡ o → ((m : Message) → slice_get t.ready i ≡ Some m → TargetIsWell p m i t rest bound w v m.target) → step p i t ≡ step_at p o i t → Ends
  by_message None at well is = inl is
  by_message (Some m) at well is = by_target m m.target at refl (well m at) is

  by_use : (b : Bool) → ((m : Message) → slice_get t.ready i ≡ Some m → TargetIsWell p m i t rest bound w v m.target) → step p i t ≡ (if b then nothing t else step_at p (slice_get t.ready i) i t) → Ends
  by_use true well is = inl is
  by_use false well is = by_message (slice_get t.ready i) refl well is

step_is : (p : Meaning) (i : ℕ) (t : Theatre) → step p i t ≡ (if is_used_up t then nothing t else step_at p (slice_get t.ready i) i t)
unfolding step
step_is p i t = refl

pub turns_are_steps : StepTurnsAreSteps
turns_are_steps sizes p setup i t rest bound w v takes h well = by_use sizes p setup i t rest bound w v takes h (is_used_up t) well (step_is p i t)

-- ---- turns that are no steps

pub clock_turns : ClockTurnsAreUnseen
unfolding clock theatre_pieces
clock_turns p ms t rest h =
    let ready : IsInOrder p (desk (at_reading ms t)) rest = record { keyed = h.keyed; once = h.once; tidy = h.tidy; sendable = h.sendable; fit = h.fit } in
    let out = due_unseen p (again_due (at_reading ms t)) (desk (at_reading ms t)) rest ready in
    (ask_all (again_due (at_reading ms t)) (route p (release_delayed (desk (at_reading ms t)))), refl, record { unseen = record { image = out.unseen.image; below = out.unseen.below; rest = out.unseen.rest }; order = out.order })

pub move_turns : MoveTurnsAreUnseen
unfolding move_actor move_to
move_turns p u to t rest range h = by (goes (name.Uan u) to t) (migrations_unseen p (name.Uan u) to (desk t) rest range h) refl
  where
    by : (b : Bool) → StaysInOrder p (desk t) rest (if b then depart (name.Uan u) to (desk t) else desk t) rest
        → move_actor u to t ≡ (if b then finished t true (depart (name.Uan u) to (desk t)) else nothing t)
        → (move_actor u to t ≡ nothing t) ⊎ ((d : Desk) × (move_actor u to t ≡ finished t true d) × StaysInOrder p (desk t) rest d rest)
    by false stay is = inl is
    by true stay is = inr (depart (name.Uan u) to (desk t), is, stay)
