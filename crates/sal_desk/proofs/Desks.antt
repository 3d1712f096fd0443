-- What a draft makes of a theatre.
use Rattle.std.proofs.Common.{◌≡◌, ℕ, Bool, true, false, if◌then◌else◌, List, [], ◌∷◌, ◌++◌, Option, Some, None, refl, sym, ap, ◌∙◌, append-nil, append_assoc, map, filter}
use Rattle.std.specs.Prelude.{max}
use Rattle.std.specs.FinMap as fm
use Rattle.sal_value.specs.Order.{uan_key}
use Rattle.sal_value.specs.Table.{Table, write}
use Rattle.sal_value.specs.declared.name.Name.{Name}
use Rattle.sal_value.specs.declared.name.Uan.{Uan}
use Rattle.sal_value.proofs.Tables.{some_is}
use Rattle.sal_mail.specs.declared.message.Message.{Message}
use Rattle.sal_mail.specs.Message.{is_not_for}
use Rattle.sal_mail.specs.declared.envelope.Envelope.{Envelope}
use Rattle.sal_source.specs.Keys.{name_key, made_key}
use Rattle.sal_resident.specs.declared.resident.Resident.{Resident}
use Rattle.sal_move.specs.declared.places.Known.{Known}
use Rattle.sal_move.specs.Places.{is_news, with_place}
use Rattle.sal_entries.specs.Entries.{Entries, overlaid}
use Rattle.sal_entries.proofs.Laws.{overlaid-none}
use Rattle.sal_queues.specs.Queues.{Queues, queue_of, filled, joined}
use Rattle.sal_queues.proofs.Laws.{filled-filled, queue_of-joined}
use Rattle.sal_queues.proofs.Rooms.{joined_none}
use Rattle.sal_spelled.specs.Sending.{may_be_sent, bytes_to_send}
use Rattle.sal_routing.specs.declared.item.Item.{Item}
use Rattle.sal_routing.specs.declared.pending.Pending.{Pending}
use Rattle.sal_routing.specs.declared.pending.Question.{Question}
use Rattle.sal_routing.specs.State.{Theatre, Desk, desk, moment, silence, parcel_to, send}
use Rattle.sal_routing.specs.Routing.{call_made, put_resident, put_question, put_held, release_held}
use Rattle.sal_routing.specs.Arrivals.{put_place, without_resident}
use Rattle.sal_routing.specs.Handling.{put_pending}
use Rattle.sal_routing.specs.Turns.{is_reached, by_moment, reached, release_delayed, at_reading, drop_pending}
use Rattle.sal_desk.specs.declared.draft.Draft.{Draft}
use Rattle.sal_desk.specs.code.Desks.{Turning, turning_by, on_desk, on_theatre}
use Rattle.sal_desk.specs.code.Drafts.{without_taken, without_reached, without_calls, without_held, links_after, theatre_at, theatre_with, desk_with}
use Rattle.sal_desk.proofs.Holding.{filled_without, one_more, none_held, without_last}
use Rattle.sal_desk.proofs.Overlays.{changed}
use Rattle.sal_desk.proofs.Ready.{leaves}

-- where nothing is changed but what the draft begins with
pub fresh : (t : Theatre) (d : Draft) → d.residents ≡ fm.empty → d.left ≡ [] → d.ready ≡ [] → d.delayed ≡ [] → d.released ≡ [] → d.held ≡ fm.empty → d.pending ≡ fm.empty → d.places ≡ fm.empty → d.questions ≡ fm.empty → d.work.items ≡ [] → d.sent ≡ [] → d.told ≡ silence →
    desk_with t d ≡ desk (theatre_at d.clock d.next_anon d.taken d.reached d.arrived t)
unfolding without_calls without_held
fresh t d residents left ready delayed released held pending places questions work sent told =
    let ready_is : without_calls d.left (without_taken d.taken t.ready) ++ d.ready ≡ without_taken d.taken t.ready =
    ap (λ xs. without_calls d.left (without_taken d.taken t.ready) ++ xs) ready ∙ append-nil (without_calls d.left (without_taken d.taken t.ready)) ∙ ap (λ xs. without_calls xs (without_taken d.taken t.ready)) left in
    let delayed_is : without_reached d.reached t.delayed ++ d.delayed ≡ without_reached d.reached t.delayed =
    ap (λ xs. without_reached d.reached t.delayed ++ xs) delayed ∙ append-nil (without_reached d.reached t.delayed) in
    let held_is = sym (joined_none d.held (without_held d.released t.held) held) ∙ ap (λ xs. without_held xs t.held) released in
    λ i. record {
      theatre = record t {
        residents = overlaid-none d.residents t.residents residents i;
        ready = ready_is i;
        delayed = delayed_is i;
        held = held_is i;
        pending = overlaid-none d.pending t.pending pending i;
        places = overlaid-none d.places t.places places i;
        questions = overlaid-none d.questions t.questions questions i;
        links = links_after d.arrived t.links;
        clock = d.clock;
        next_anon = d.next_anon;
      };
      work = work i;
      sent = sent i;
      told = told i;
    }

-- the turn that this draft begins
pub begins : (t : Theatre) (d : Draft) (arrived : Option (ℕ × ℕ)) (x : Desk) → d.arrived ≡ arrived → desk_with t d ≡ x → turning_by d.arrived t (desk_with t d) ≡ turning_by arrived t x
begins t d arrived x from is = λ i. turning_by (from i) t (is i)

-- the turn at a reading of the clock
pub reads :
    (t : Theatre) (d : Draft) (now next ms : ℕ) (work : List Item) → d.arrived ≡ None → desk_with t d ≡ desk (theatre_at now next None (Some now) None t) → now ≡ max t.clock (moment ms) → next ≡ t.next_anon →
    work ≡ map (λ x. call_made x.1) (by_moment (filter (is_reached now) t.delayed)) →
    turning_by d.arrived t (record (desk_with t d) { work = work }) ≡ turning_by None t (release_delayed (desk (at_reading ms t)))
unfolding release_delayed reached
reads t d now next ms work from is now_is next_is work_is =
    let calls : ℕ → List Item = λ n. map (λ x. call_made x.1) (by_moment (filter (is_reached n) t.delayed)) in
    (λ i. turning_by (from i) t (record (is i) { work = work_is i }))
    ∙ ap (λ n. turning_by None t (record (desk (theatre_at n next None (Some n) None t)) { work = calls n })) now_is
    ∙ ap (λ n. turning_by None t (record (desk (theatre_at (max t.clock (moment ms)) n None (Some (max t.clock (moment ms))) None t)) { work = calls (max t.clock (moment ms)) })) next_is

-- what is held shows no empty list
pub held_filled : {X : Type 0} (t : Queues X) (u : Queues X) → filled t ≡ u → filled u ≡ u
held_filled t u is = ap filled (sym is) ∙ filled-filled t ∙ is

-- ---- small changes

module _ (t : Theatre) (d : Draft) where
  pub residents_put : (r : Resident) (e : Entries Resident) → e ≡ write d.residents (name_key r.name) (Some (Some r)) →
      turning_by d.arrived t (desk_with t (record d { residents = e })) ≡ on_desk (on_theatre (put_resident r)) (turning_by d.arrived t (desk_with t d))
  residents_put r e is = ap (λ (x : Table Resident). turning_by d.arrived t (record (desk_with t d) { theatre = record (theatre_with t d) { residents = x } })) (changed d.residents t.residents (name_key r.name) (Some r) e is)

  pub questions_put : (q : Question) (e : Entries Question) (n : Uan) → n ≡ q.name → e ≡ write d.questions (uan_key n) (Some (Some q)) →
      turning_by d.arrived t (desk_with t (record d { questions = e })) ≡ on_desk (on_theatre (put_question q)) (turning_by d.arrived t (desk_with t d))
  questions_put q e n same is =
      ap (λ (x : Table Question). turning_by d.arrived t (record (desk_with t d) { theatre = record (theatre_with t d) { questions = x } })) (
      changed d.questions t.questions (uan_key n) (Some q) e is ∙ ap (λ m. write (overlaid d.questions t.questions) (uan_key m) (Some q)) same)

  pub pending_put : (x : Pending) (e : Entries Pending) (n : Name) → n ≡ x.maker → e ≡ write d.pending (made_key n x.creation.serial) (Some (Some x)) →
      turning_by d.arrived t (desk_with t (record d { pending = e })) ≡ on_desk (put_pending x) (turning_by d.arrived t (desk_with t d))
  pending_put x e n same is =
      ap (λ (y : Table Pending). turning_by d.arrived t (record (desk_with t d) { theatre = record (theatre_with t d) { pending = y } })) (
      changed d.pending t.pending (made_key n x.creation.serial) (Some x) e is ∙ ap (λ m. write (overlaid d.pending t.pending) (made_key m x.creation.serial) (Some x)) same)

  pub pending_dropped : (maker : Name) (serial : ℕ) (e : Entries Pending) → e ≡ write d.pending (made_key maker serial) (Some None) →
      turning_by d.arrived t (desk_with t (record d { pending = e })) ≡ on_desk (drop_pending maker serial) (turning_by d.arrived t (desk_with t d))
  unfolding drop_pending
  pending_dropped maker serial e is =
      ap (λ (y : Table Pending). turning_by d.arrived t (record (desk_with t d) { theatre = record (theatre_with t d) { pending = y } })) (changed d.pending t.pending (made_key maker serial) None e is)

  -- one more is held
  pub held_put : (n : Name) (x : Item) (q : Queues Item) → filled t.held ≡ t.held → filled q ≡ write (filled d.held) (name_key n) (Some (queue_of (name_key n) (filled d.held) ++ x ∷ [])) →
      turning_by d.arrived t (desk_with t (record d { held = q })) ≡ on_desk (put_held n x) (turning_by d.arrived t (desk_with t d))
  unfolding put_held
  held_put n x q h is =
      ap (λ (y : Queues Item). turning_by d.arrived t (record (desk_with t d) { theatre = record (theatre_with t d) { held = y } })) (
      one_more d.held q (without_held d.released t.held) (name_key n) x (filled_without d.released t.held h) is)

  -- a place that is news
  pub place_put : (u : Uan) (theatre moves : ℕ) (e : Entries Known) (x : Turning) (news : Bool) → turning_by d.arrived t (desk_with t d) ≡ x → news ≡ is_news u moves x.desk.theatre.places → news ≡ true →
      e ≡ write d.places (uan_key u) (Some (Some (record { theatre = theatre; moves = moves }))) → turning_by d.arrived t (desk_with t (record d { places = e })) ≡ on_desk (put_place u theatre moves) x
  unfolding put_place with_place
  place_put u theatre moves e x news view says is_true is =
      let k : Known = record { theatre = theatre; moves = moves } in
      ap (λ (y : Table Known). turning_by d.arrived t (record (desk_with t d) { theatre = record (theatre_with t d) { places = y } })) (
      changed d.places t.places (uan_key u) (Some k) e is
      ∙ ap (λ (b : Bool). if b then write (overlaid d.places t.places) (uan_key u) (Some k) else overlaid d.places t.places) (
      sym is_true ∙ says ∙ ap (λ (y : Turning). is_news u moves y.desk.theatre.places) (sym view)))
      ∙ ap (on_desk (put_place u theatre moves)) view

-- a place that isn't
pub place_kept : (u : Uan) (theatre moves : ℕ) (x : Turning) (news : Bool) → news ≡ is_news u moves x.desk.theatre.places → news ≡ false → x ≡ on_desk (put_place u theatre moves) x
unfolding put_place with_place
place_kept u theatre moves x news says is_false =
    ap (λ (b : Bool). turning_by x.arrived x.before (record x.desk {
      theatre = record x.desk.theatre {
        places = if b then write x.desk.theatre.places (uan_key u) (Some (record { theatre = theatre; moves = moves })) else x.desk.theatre.places;
      };
    })) (sym is_false ∙ says)

-- ---- what is sent

pub unsent : (x : Turning) (node : ℕ) (e : Envelope) → None ≡ bytes_to_send e → x ≡ on_desk (send node e) x
unfolding send bytes_to_send
unsent x node e = at (may_be_sent e)
  where
    at : (b : Bool) → None ≡ (if b then Some (parcel_to node e).bytes else None) → x ≡ turning_by x.arrived x.before (if b then record x.desk { sent = x.desk.sent ++ parcel_to node e ∷ [] } else x.desk)
    at true h = absurd (let f : None ≡ Some (parcel_to node e).bytes = h in cc)
    at false h = refl

pub sent_on : (x : Turning) (node : ℕ) (e : Envelope) (bytes : List ℕ) → Some bytes ≡ bytes_to_send e →
    turning_by x.arrived x.before (record x.desk { sent = x.desk.sent ++ record { to = node; bytes = bytes } ∷ [] }) ≡ on_desk (send node e) x
unfolding send bytes_to_send
sent_on x node e bytes = at (may_be_sent e)
  where
    at : (b : Bool) → Some bytes ≡ (if b then Some (parcel_to node e).bytes else None) →
        turning_by x.arrived x.before (record x.desk { sent = x.desk.sent ++ record { to = node; bytes = bytes } ∷ [] }) ≡ turning_by x.arrived x.before (if b then record x.desk { sent = x.desk.sent ++ parcel_to node e ∷ [] } else x.desk)
    at true h = ap (λ (bs : List ℕ). turning_by x.arrived x.before (record x.desk { sent = x.desk.sent ++ record { to = node; bytes = bs } ∷ [] })) (some_is h)
    at false h = absurd (let f : Some bytes ≡ None = h in cc)

-- ---- what is held is released, and actors leave

module _ (t : Theatre) (d : Draft) where
  pub released : (n : Name) (e : Draft) (xs ys : List Item) → filled t.held ≡ t.held → xs ≡ queue_of (name_key n) (without_held d.released t.held) → ys ≡ queue_of (name_key n) d.held →
      e.work.items ≡ (d.work.items ++ xs) ++ ys → e.released ≡ d.released ++ n ∷ [] → e.held ≡ write d.held (name_key n) None →
      turning_by d.arrived t (desk_with t (record d { released = e.released; held = e.held; work = e.work })) ≡ on_desk (release_held n) (turning_by d.arrived t (desk_with t d))
  unfolding release_held
  released n e xs ys h xs_are ys_are work names held =
      let k = name_key n in
      let b = without_held d.released t.held in
      let held_is : joined e.held (without_held e.released t.held) ≡ write (joined d.held b) k None =
      ap (λ q. joined q (without_held e.released t.held)) held
      ∙ ap (λ r. joined (write d.held k None) (without_held r t.held)) names
      ∙ ap (joined (write d.held k None)) (without_last d.released n t.held)
      ∙ none_held d.held b k (filled_without d.released t.held h) in
      let work_is : e.work.items ≡ d.work.items ++ queue_of k (joined d.held b) =
      work ∙ append_assoc d.work.items xs ys
      ∙ ap (λ zs. d.work.items ++ zs) (ap (λ zs. zs ++ ys) xs_are ∙ ap (λ zs. queue_of k b ++ zs) ys_are ∙ sym (queue_of-joined d.held b k)) in
      λ i. turning_by d.arrived t (record { theatre = record (theatre_with t d) { held = held_is i }; work = work_is i; sent = d.sent; told = d.told })

  pub left_here : (r : Resident) (n m : Name) (residents : Entries Resident) (left : List Name) (ready : List Message) → n ≡ r.name → m ≡ r.name →
      ready ≡ filter (is_not_for r.name) d.ready → left ≡ d.left ++ n ∷ [] → residents ≡ write d.residents (name_key m) (Some None) →
      turning_by d.arrived t (desk_with t (record d { residents = residents; left = left; ready = ready })) ≡ on_desk (on_theatre (without_resident r)) (turning_by d.arrived t (desk_with t d))
  unfolding without_resident
  left_here r n m residents left ready n_is m_is ready_is left_is is =
      let ms = without_taken d.taken t.ready in
      let residents_are : overlaid residents t.residents ≡ write (overlaid d.residents t.residents) (name_key r.name) None =
      changed d.residents t.residents (name_key m) None residents is ∙ ap (λ k. write (overlaid d.residents t.residents) (name_key k) None) m_is in
      let calls_are : without_calls left ms ++ ready ≡ filter (is_not_for r.name) (without_calls d.left ms ++ d.ready) =
      ap (λ xs. without_calls left ms ++ xs) ready_is
      ∙ ap (λ ns. without_calls ns ms ++ filter (is_not_for r.name) d.ready) (left_is ∙ ap (λ k. d.left ++ k ∷ []) n_is)
      ∙ leaves d.left r.name ms d.ready in
      λ i. turning_by d.arrived t (record (desk_with t d) { theatre = record (theatre_with t d) { residents = residents_are i; ready = calls_are i } })
