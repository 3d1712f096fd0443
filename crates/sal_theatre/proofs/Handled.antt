-- Calls that fit, and what their handlers leave.
use Rattle.std.proofs.Common.{◌≡◌, ℕ, Bool, true, false, cond, List, [], ◌∷◌, ◌++◌, map, Option, Some, None, refl, sym, ap, append_assoc, ◌∙◌}
use Rattle.std.specs.Prelude.{IsTrue, if◌then◌else◌, filter}
use Rattle.std.proofs.lemmas.Option.{none-some, cond_some}
use Rattle.std.proofs.lemmas.Bool.{and_parts}
use Rattle.std.proofs.lemmas.List.{map-append}
use Rattle.sal_value.specs.declared.name.Name.{Name}
use Rattle.sal_mail.specs.declared.message.Message.{Message}
use Rattle.sal_mail.specs.declared.message.Reply.{Reply}
use Rattle.sal_mail.specs.declared.message.Join.{Join}
use Rattle.sal_mail.specs.declared.effects.Actor.{Actor}
use Rattle.sal_mail.specs.declared.effects.Effects.{Effects}
use Rattle.sal_mail.specs.Message.{is_ready}
use Rattle.sal_handler.specs.Calls.{Call, Meaning}
use Rattle.sal_handler.specs.declared.turn.Outcome.{Outcome}
use Rattle.sal_handler.specs.declared.turn.Outcome.TheVariants.{Done}
use Rattle.sal_source.specs.declared.state.Step.TheVariants.{Handle}
use Rattle.sal_source.specs.Runners.{CallFits, behavior_or_migrate}
use Rattle.sal_source.specs.Step.{answer_replies}
use Rattle.sal_book.specs.declared.released.Released.{Released}
use Rattle.sal_book.specs.Book.{is_open, full_replies}
use Rattle.sal_resident.specs.declared.resident.Resident.{Resident}
use Rattle.sal_tidy.specs.Tidy.{IsTidy}
use Rattle.sal_tidy.proofs.Keeping.{after_handlers}
use Rattle.sal_node.specs.Links.{has_few_nodes}
use Rattle.sal_desk.specs.code.Desks.{Turning, on_desk, on_theatre}
use Rattle.sal_desk.specs.code.Effects.{MayTake, after_entry}
use Rattle.sal_routing.specs.declared.item.Item.{Item}
use Rattle.sal_routing.specs.State.{Theatre, Desk, log, tell_given, with_work}
use Rattle.sal_routing.specs.Routing.{released_items, call_made, answer_made, put_resident, route}
use Rattle.sal_routing.specs.Handling.{names_of, made_here, opened_by, put_newcomers, installed, create_all, replies_of, handler_work, take_effect, may_be_called, call_at, handle_understood, by_outcome}
use Rattle.sal_routing.proofs.Kept.{put_newcomers-plan, create_all-plan}
use Rattle.sal_theatre.specs.code.Programs.{IsRunner}

-- ---- what fits

pub fits : (p : Meaning) (c : Call) → may_be_called p c ≡ true → CallFits p c
unfolding may_be_called
fits p c e =
    let both = and_parts (p.fits_state c.behavior c.fields) (p.fits_call (behavior_or_migrate c.behavior c.handler) c.handler c.args) e in
    record { state = both.0; call = both.1 }

-- ---- outcomes

abbrev outcome_at : Meaning → Message → Resident → Theatre → Option Outcome
outcome_at p m r t = if may_be_called p (call_at m r t) then Some (p.outcome (call_at m r t)) else None

pub not_called : (p : Meaning) (m : Message) (r : Resident) (d : Desk) → None ≡ outcome_at p m r d.theatre → d ≡ handle_understood p m r d
not_called p m r d e = at (may_be_called p (call_at m r d.theatre)) e
  where
    at : (b : Bool) → None ≡ (if b then Some (p.outcome (call_at m r d.theatre)) else None) → d ≡ (if b then by_outcome p (p.outcome (call_at m r d.theatre)) m r d else d)
    at true e = absurd (none-some (p.outcome (call_at m r d.theatre)) e)
    at false e = refl

pub called : (p : Meaning) (o : Outcome) (m : Message) (r : Resident) (d : Desk) → Some o ≡ outcome_at p m r d.theatre → by_outcome p o m r d ≡ handle_understood p m r d
called p o m r d e =
    let c : Call = call_at m r d.theatre in
    let done = cond_some (may_be_called p c) (p.outcome c) o (sym e) in
    ap (λ x. by_outcome p x m r d) (sym done.1) ∙ ap (λ b. if b then by_outcome p (p.outcome c) m r d else d) (sym done.0)

pub may_take : (p : Meaning) (e : Effects) (m : Message) (r : Resident) (t : Theatre) → IsRunner p → IsTidy r → Some (Done e) ≡ outcome_at p m r t → MayTake e.fields e.serial e.messages e.joins r
may_take p e m r t runner tidy is =
    let c : Call = call_at m r t in
    let done = cond_some (may_be_called p c) (p.outcome c) (Done e) (sym is) in
    let enters = after_handlers p runner.program c e r runner.stands (fits p c done.0) done.1 refl refl tidy in
    record { messages_follow = enters.messages; joins_follow = enters.joins; tidy = enters.tidy }

pub state_fits : (p : Meaning) (c : Call) → may_be_called p c ≡ true → IsTrue (p.fits_state c.behavior c.fields)
state_fits p c e = (fits p c e).state

pub call_fits : (p : Meaning) (c : Call) → may_be_called p c ≡ true → IsTrue (p.fits_call (behavior_or_migrate c.behavior c.handler) c.handler c.args)
call_fits p c e = (fits p c e).call

-- ---- open joins

pub one_opened : (owner : Name) (js : List Join) (j : Join) → opened_by owner (js ++ j ∷ []) ≡ opened_by owner js ++ opened_by owner (j ∷ [])
one_opened owner [] j = refl
one_opened owner (k ∷ js) j = at (is_open k) (one_opened owner js j)
  where
    at : (b : Bool) → opened_by owner (js ++ j ∷ []) ≡ opened_by owner js ++ opened_by owner (j ∷ [])
        → map (λ x. (owner, x)) (cond b (k ∷ filter is_open (js ++ j ∷ [])) (filter is_open (js ++ j ∷ []))) ≡ map (λ x. (owner, x)) (cond b (k ∷ filter is_open js) (filter is_open js)) ++ opened_by owner (j ∷ [])
    at true e = ap (λ xs. (owner, k) ∷ xs) e
    at false e = e

-- ---- what is released

-- what waits for nothing, and the answer as the last reply
pub work_is : (e : Effects) (reply : Reply) → released_items (record { messages = filter is_ready e.messages; replies = full_replies e.joins ++ answer_replies e.answer reply }) ≡ handler_work e reply
unfolding released_items handler_work
work_is e reply =
    let calls : List Item = map call_made (filter is_ready e.messages) in
    ap (λ items. calls ++ items) (map-append answer_made (full_replies e.joins) (answer_replies e.answer reply)) ∙ sym (append_assoc calls (map answer_made (full_replies e.joins)) (map answer_made (answer_replies e.answer reply)))

-- ---- a handler's effects, step by step

-- the step is told
abbrev pub told_by : Message → Name → Effects → Desk → Desk
told_by m n e d = log (Handle m.maker m.serial (names_of e.actors)) (record d { told = record d.told { made = d.told.made ++ made_here d.theatre.me e.actors; opened = d.told.opened ++ opened_by n e.joins } })

-- the actor and the new ones stand here
abbrev pub stood_by : List Actor → Resident → ℕ → Theatre → Theatre
stood_by actors a fresh t = record (put_newcomers actors (put_resident a t)) { next_anon = fresh }

abbrev pub released_by : Effects → Reply → Released
released_by e reply = record { messages = filter is_ready e.messages; replies = full_replies e.joins ++ answer_replies e.answer reply }

-- all of it, but for the creations
abbrev standing_by : Name → Released → Resident → Effects → Message → Desk → Desk
standing_by n x a e m d = on_theatre (stood_by e.actors a e.fresh) (tell_given x.replies (told_by m n e d))

abbrev made_by : Name → Released → Resident → Effects → Message → Desk → Desk
made_by n x a e m d = with_work (released_items x) (create_all n e.creations (standing_by n x a e m d))

installed_all : (e : Effects) (m : Message) (r : Resident) (d : Desk) → made_by r.name (released_by e m.reply) (after_entry e.fields e.serial e.messages e.joins r) e m d ≡ with_work (released_items (released_by e m.reply)) (create_all r.name e.creations (tell_given (replies_of e m.reply) (installed e m r d)))
unfolding installed
installed_all e m r d = refl

effect_is : (p : Meaning) (n : Name) (x : Released) (a r : Resident) (e : Effects) (m : Message) (d : Desk) → n ≡ r.name → a ≡ after_entry e.fields e.serial e.messages e.joins r → x ≡ released_by e m.reply
    → route p (made_by n x a e m d) ≡ take_effect p e m r d
unfolding take_effect
effect_is p n x a r e m d name stands released =
    (λ i. route p (made_by (name i) (released i) (stands i) e m d))
    ∙ (ap (route p) (installed_all e m r d)
    ∙ ap (λ items. route p (with_work items (create_all r.name e.creations (tell_given (replies_of e m.reply) (installed e m r d))))) (work_is e m.reply))

module _ (n : Name) (x : Released) (a : Resident) (e : Effects) (m : Message) (d0 d1 d2 d3 : Turning) (told : d1 ≡ on_desk (told_by m n e) d0) (given : d2 ≡ on_desk (tell_given x.replies) d1) (stood : d3 ≡ on_desk (on_theatre (stood_by e.actors a e.fresh)) d2) where
  stands_all : d3 ≡ on_desk (standing_by n x a e m) d0
  stands_all = stood ∙ ap (on_desk (on_theatre (stood_by e.actors a e.fresh))) (given ∙ ap (on_desk (tell_given x.replies)) told)

  pub few_standing : has_few_nodes d0.desk.theatre.plan ≡ true → has_few_nodes d3.desk.theatre.plan ≡ true
  few_standing few =
      ap (λ (y : Turning). has_few_nodes y.desk.theatre.plan) stands_all ∙ (ap has_few_nodes (put_newcomers-plan e.actors (put_resident a d0.desk.theatre)) ∙ few)

  made_all : (d4 d5 : Turning) → d4 ≡ on_desk (create_all n e.creations) d3 → d5 ≡ on_desk (with_work (released_items x)) d4 → d5 ≡ on_desk (made_by n x a e m) d0
  made_all d4 d5 created worked = worked ∙ ap (on_desk (with_work (released_items x))) (created ∙ ap (on_desk (create_all n e.creations)) stands_all)

  pub few_made : (d4 d5 : Turning) → d4 ≡ on_desk (create_all n e.creations) d3 → d5 ≡ on_desk (with_work (released_items x)) d4 → has_few_nodes d0.desk.theatre.plan ≡ true → has_few_nodes d5.desk.theatre.plan ≡ true
  few_made d4 d5 created worked few =
      ap (λ (y : Turning). has_few_nodes y.desk.theatre.plan) (worked ∙ ap (on_desk (with_work (released_items x))) created) ∙ (ap has_few_nodes (create_all-plan n e.creations d3.desk) ∙ few_standing few)

  pub effects_taken : (p : Meaning) (r : Resident) (d4 d5 : Turning) → d4 ≡ on_desk (create_all n e.creations) d3 → d5 ≡ on_desk (with_work (released_items x)) d4
      → n ≡ r.name → a ≡ after_entry e.fields e.serial e.messages e.joins r → x ≡ released_by e m.reply → on_desk (route p) d5 ≡ on_desk (take_effect p e m r) d0
  effects_taken p r d4 d5 created worked name stands released =
      ap (on_desk (route p)) (made_all d4 d5 created worked) ∙ ap (λ (d : Desk). on_desk (λ _. d) d0) (effect_is p n x a r e m d0.desk name stands released)
