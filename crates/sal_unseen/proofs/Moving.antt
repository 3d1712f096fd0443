-- What only moves things keeps each sum over pieces.
use Rattle.std.proofs.Common.{◌≡◌, ℕ, zero, suc, ◌+◌, Bool, true, false, List, [], ◌∷◌, ◌++◌, map, Option, Some, None, refl, sym, ap, subst, ◌∙◌, arith, true≢false}
use Rattle.std.specs.Prelude.{Ok, if◌then◌else◌, filter, nat_lt, nat_le, is_some, unwrap_or}
use Rattle.std.proofs.lemmas.Bool.{lt-ltb}
use Rattle.std.specs.FinMap as fm
use Rattle.sal_value.specs.declared.name.Name.{Name}
use Rattle.sal_value.specs.declared.name.Name.TheVariants as name
use Rattle.sal_value.specs.declared.name.Uan.{Uan}
use Rattle.sal_mail.specs.declared.message.Target.{Target}
use Rattle.sal_mail.specs.declared.message.Target.TheVariants as target
use Rattle.sal_mail.specs.declared.message.Message.{Message}
use Rattle.sal_mail.specs.declared.envelope.Envelope.TheVariants as envelope
use Rattle.sal_mail.specs.Message.{without_delay, is_for}
use Rattle.sal_handler.specs.Calls.{Meaning}
use Rattle.sal_source.specs.Table.{total, HasSameItems}
use Rattle.sal_source.specs.Keys.{name_key}
use Rattle.sal_source.proofs.Same.{total-append, total-map}
use Rattle.sal_source.proofs.Weights.{weight_of, weigh-write}
use Rattle.sal_source.proofs.Keeping.{split}
use Rattle.sal_resident.specs.declared.resident.Resident.{Resident}
use Rattle.sal_resident.specs.Packing.{packed_actor, is_light, is_packable}
use Rattle.sal_resident.specs.Unpacking.{unpacked_actor}
use Rattle.sal_resident.proofs.Again.{packed_unpacked}
use Rattle.sal_spelled.specs.Sending.{may_move}
use Rattle.sal_spelled.proofs.Parcels.{light_is_sent}
use Rattle.sal_node.specs.declared.constants.TheConstants.{FIRST_SERVICE}
use Rattle.sal_directory.specs.Nodes.{service_of}
use Rattle.sal_pieces.specs.Pieces.{Piece, loose_call}
use Rattle.sal_pieces.proofs.Entering.{total_parted}
use Rattle.sal_routing.specs.declared.item.Item.{Item}
use Rattle.sal_routing.specs.declared.item.Item.TheVariants.{Call, Answer}
use Rattle.sal_routing.specs.State.{Theatre, Desk, envelope_of, moment, raised, with_work}
use Rattle.sal_routing.specs.Fits.{fits_call, fits_print}
use Rattle.sal_routing.specs.Routing.{next_hop, was_asked, awaited, put_question, ask, ask_if_new, ask_first, held_for, put_held, hold, send_by, send_on, put_delayed, ready_if, call_to, route_to, route_call, call_made, release_held}
use Rattle.sal_routing.specs.Arrivals.{stand, leaving, without_resident, depart_as}
use Rattle.sal_routing.specs.Turns.{is_reached, put_by_moment, by_moment, reached, release_delayed}
use Rattle.sal_world.specs.Pieces.{item_piece, resident_pieces, envelope_pieces, unpacked_pieces}
use Rattle.sal_unseen.specs.Desks.{desk_pieces, IsSentWhole}
use Rattle.sal_unseen.specs.Moving.{FitsThere, CallsAreOnlyMoved, ItemsAreOnlyMoved, ActorsComeWhole, ActorsLeaveWhole, LettersBecomeWork}
use Rattle.sal_unseen.proofs.Sums.{of_calls, of_items, of_resident, of_theatre, of_desk, desk_total}
use Rattle.sal_unseen.proofs.Sending.{sent_whole, one_sent, none_sent}

-- ---- tables of lists

held_weight : (f : Piece → ℕ) (o : Option (List Item)) → weight_of (of_items f) o ≡ of_items f (unwrap_or o [])
held_weight f None = refl
held_weight f (Some items) = refl

-- ---- moments

sorted_one : (f : ℕ × Message → ℕ) (x : ℕ × Message) (xs : List (ℕ × Message)) → total f (put_by_moment x xs) ≡ f x + total f xs
sorted_one f x [] = refl
sorted_one f x (y ∷ ys) = at (nat_le x.0 y.0) (sorted_one f x ys)
  where
    at : (b : Bool) → total f (put_by_moment x ys) ≡ f x + total f ys → total f (if b then x ∷ y ∷ ys else y ∷ put_by_moment x ys) ≡ f x + (f y + total f ys)
    at true e = refl
    at false e = omega (arith, e)

sorted : (f : ℕ × Message → ℕ) (xs : List (ℕ × Message)) → total f (by_moment xs) ≡ total f xs
unfolding by_moment
sorted f [] = refl
sorted f (x ∷ xs) = omega (arith, sorted_one f x (by_moment xs), sorted f xs)

module _ (f : Piece → ℕ) where
  -- ---- asking, holding and sending

  item_weight : (i : Item) → total f (envelope_pieces (envelope_of i)) ≡ f (item_piece i)
  unfolding envelope_pieces
  item_weight (Call hops m) = omega arith
  item_weight (Answer hops r v) = omega arith

  pub asks : (service : ℕ) (u : Uan) (d : Desk) → of_desk f (ask service u d) ≡ of_desk f d
  unfolding ask envelope_pieces
  asks service u d = none_sent f (FIRST_SERVICE + service) (envelope.Get u) (record d { theatre = put_question (awaited u) d.theatre }) refl refl

  asks_new : (o : Option ℕ) (u : Uan) (d : Desk) → of_desk f (ask_if_new o u d) ≡ of_desk f d
  asks_new None u d = refl
  asks_new (Some service) u d = at (was_asked u d.theatre)
    where
      at : (b : Bool) → of_desk f (if b then d else ask service u d) ≡ of_desk f d
      at true = refl
      at false = asks service u d

  asks_first : (n : Name) (d : Desk) → of_desk f (ask_first n d) ≡ of_desk f d
  unfolding ask_first
  asks_first (name.Uan u) d = asks_new (service_of d.theatre.plan u) u d
  asks_first (name.Anon theatre number) d = refl
  asks_first (name.Outside number) d = refl

  puts_held : (n : Name) (i : Item) (d : Desk) → of_desk f (put_held n i d) ≡ f (item_piece i) + of_desk f d
  unfolding put_held
  puts_held n i d =
      let items : List Item = held_for (name_key n) d.theatre.held in
      let e = weigh-write (of_items f) d.theatre.held (name_key n) (Some (items ++ i ∷ [])) in
      let old : weight_of (of_items f) (fm.get d.theatre.held (name_key n)) ≡ of_items f items = held_weight f (fm.get d.theatre.held (name_key n)) in
      let more = total-append (λ (j : Item). f (item_piece j)) items (i ∷ []) in
      omega (arith, e, old, more)

  pub holds : (n : Name) (i : Item) (d : Desk) → of_desk f (hold n i d) ≡ f (item_piece i) + of_desk f d
  unfolding hold
  holds n i d = asks_first n (put_held n i d) ∙ puts_held n i d

  by : (o : Option ℕ) (n : Name) (i : Item) (d : Desk) → IsSentWhole (envelope_of i) → of_desk f (send_by o n i d) ≡ f (item_piece i) + of_desk f d
  by None n i d whole = holds n i d
  by (Some node) n i d whole = one_sent f node (envelope_of i) d whole ∙ ap (λ k. k + of_desk f d) (item_weight i)

  pub sends_on : (n : Name) (i : Item) (d : Desk) → IsSentWhole (envelope_of i) → of_desk f (send_on n i d) ≡ f (item_piece i) + of_desk f d
  unfolding send_on
  sends_on n i d whole = by (next_hop n d.theatre) n i d whole

  -- ---- calls

  readies : (b : Bool) (m : Message) (d : Desk) → b ≡ true → of_desk f (ready_if b m d) ≡ f (loose_call m) + of_desk f d
  readies true m d e = let a = total-append (λ (x : Message). f (loose_call x)) d.theatre.ready (m ∷ []) in omega (arith, a)
  readies false m d e = absurd (true≢false (sym e))

  calls_to : (p : Meaning) (o : Option Resident) (n : Name) (hops : ℕ) (m : Message) (d : Desk) → (fits_call p m ≡ true) × IsSentWhole (envelope.Call hops m) → of_desk f (call_to p o n hops m d) ≡ f (loose_call m) + of_desk f d
  calls_to p (Some r) n hops m d fits = readies (fits_call p m) m d fits.0
  calls_to p None n hops m d fits = sends_on n (Call hops m) d fits.1

  routes_to : (p : Meaning) (t : Target) (hops : ℕ) (m : Message) (d : Desk) → without_delay m ≡ m → FitsThere p m t → of_desk f (route_to p t hops m d) ≡ f (loose_call m) + of_desk f d
  routes_to p target.Output hops m d same fits = readies (fits_print m) m d fits
  routes_to p (target.Actor n) hops m d same fits =
      calls_to p (fm.get d.theatre.residents (name_key n)) n hops m d (fits.0, subst (λ (x : Message). IsSentWhole (envelope.Call hops x)) same (fits.1 hops))

  delays : (m : Message) (d : Desk) → of_desk f (put_delayed m d) ≡ f (loose_call m) + of_desk f d
  unfolding put_delayed
  delays m d = let a = total-append (λ (x : ℕ × Message). f (loose_call x.1)) d.theatre.delayed ((moment (d.theatre.clock + m.delay), without_delay m) ∷ []) in omega (arith, a)

  routes : (p : Meaning) (hops : ℕ) (m : Message) (d : Desk) → FitsThere p m m.target → of_desk f (route_call p hops m d) ≡ f (loose_call m) + of_desk f d
  unfolding route_call
  routes p hops m d fits = at (nat_lt 0 m.delay) refl
    where
      none : (n : ℕ) → nat_lt 0 n ≡ false → 0 ≡ n
      none zero e = refl
      none (suc n) e = absurd (true≢false (sym (lt-ltb 0 (suc n) (omega arith)) ∙ e))

      at : (b : Bool) → nat_lt 0 m.delay ≡ b → of_desk f (if b then put_delayed m d else route_to p m.target hops m d) ≡ f (loose_call m) + of_desk f d
      at true e = delays m d
      at false e = routes_to p m.target hops m d (ap (λ (n : ℕ). record m { delay = n }) (none m.delay e)) fits

  -- ---- what was held or delayed

  pub releases : (n : Name) (d : Desk) → of_desk f (release_held n d) ≡ of_desk f d
  unfolding release_held
  releases n d =
      let items : List Item = held_for (name_key n) d.theatre.held in
      let e = weigh-write (of_items f) d.theatre.held (name_key n) None in
      let old : weight_of (of_items f) (fm.get d.theatre.held (name_key n)) ≡ of_items f items = held_weight f (fm.get d.theatre.held (name_key n)) in
      let more = total-append (λ (j : Item). f (item_piece j)) d.work items in
      omega (arith, e, old, more)

  pub takes_due : (d : Desk) → of_desk f (release_delayed d) ≡ of_desk f d
  unfolding release_delayed reached
  takes_due d =
      let W : ℕ × Message → ℕ = λ (x : ℕ × Message). f (loose_call x.1) in
      let due : List (ℕ × Message) = filter (is_reached d.theatre.clock) d.theatre.delayed in
      let parts = total_parted W (is_reached d.theatre.clock) d.theatre.delayed in
      let items : List Item = map (λ x. call_made x.1) (by_moment due) in
      let one : of_items f items ≡ total W (by_moment due) = total-map (λ (j : Item). f (item_piece j)) (λ x. call_made x.1) (by_moment due) in
      let two = sorted W due in
      let more = total-append (λ (j : Item). f (item_piece j)) d.work items in
      omega (arith, parts, one, two, more)

  -- ---- an actor comes

  comes : (r : Resident) (t : Theatre) → fm.get t.residents (name_key r.name) ≡ None → of_theatre f (stand r t) ≡ of_resident f r + of_theatre f t
  unfolding stand
  comes r t away =
      let e = weigh-write (of_resident f) t.residents (name_key r.name) (Some (record r { mailbox = [] })) in
      let none : weight_of (of_resident f) (fm.get t.residents (name_key r.name)) ≡ 0 = ap (weight_of (of_resident f)) away in
      let m = total-append (λ (x : Message). f (loose_call x)) t.ready r.mailbox in
      let calls : total f (map loose_call r.mailbox) ≡ of_calls f r.mailbox = total-map f loose_call r.mailbox in
      omega (arith, e, none, m, calls)

  -- ---- an actor leaves

  taken_along : (r : Resident) (t : Theatre) → unpacked_actor (packed_actor (leaving r t)) ≡ Ok (leaving r t)
      → total f (envelope_pieces (envelope.Move (packed_actor (leaving r t)))) ≡ of_resident f r + total (λ x. f (loose_call x)) (filter (is_for r.name) t.ready)
  unfolding envelope_pieces leaving
  taken_along r t same =
      let whole : total f (unpacked_pieces (unpacked_actor (packed_actor (leaving r t)))) ≡ of_resident f (leaving r t) = ap (λ o. total f (unpacked_pieces o)) same in
      let box = total-map f loose_call r.mailbox in
      let boxes = total-map f loose_call (r.mailbox ++ filter (is_for r.name) t.ready) in
      let both = total-append (λ (x : Message). f (loose_call x)) r.mailbox (filter (is_for r.name) t.ready) in
      omega (arith, whole, box, boxes, both)

  leaves : (u : Uan) (r : Resident) (to : ℕ) (d : Desk) → fm.get d.theatre.residents (name_key r.name) ≡ Some r → IsSentWhole (envelope.Move (packed_actor (leaving r d.theatre)))
      → unpacked_actor (packed_actor (leaving r d.theatre)) ≡ Ok (leaving r d.theatre) → of_desk f (depart_as u r to d) ≡ of_desk f d
  unfolding depart_as without_resident Rattle.sal_routing.specs.Arrivals.put_place
  leaves u r to d there whole same =
      let rest : Desk = record d { theatre = without_resident r d.theatre } in
      let sent = one_sent f to (envelope.Move (packed_actor (leaving r d.theatre))) rest whole in
      let e = weigh-write (of_resident f) d.theatre.residents (name_key r.name) None in
      let old : weight_of (of_resident f) (fm.get d.theatre.residents (name_key r.name)) ≡ of_resident f r = ap (weight_of (of_resident f)) there in
      let ready = total_parted (λ (x : Message). f (loose_call x)) (is_for r.name) d.theatre.ready in
      omega (arith, sent, e, old, ready, taken_along r d.theatre same)

  works : (i : Item) (d : Desk) → of_desk f (with_work (i ∷ []) d) ≡ f (item_piece i) + of_desk f d
  works i d = let e = total-append (λ (j : Item). f (item_piece j)) d.work (i ∷ []) in omega (arith, e)

-- ---- the laws

same_as : (d e : Desk) → ((f : Piece → ℕ) → of_desk f e ≡ of_desk f d) → HasSameItems (desk_pieces e) (desk_pieces d)
same_as d e same = record { weighs = λ f. desk_total f e ∙ same f ∙ sym (desk_total f d) }

one_more : (x : Piece) (d e : Desk) → ((f : Piece → ℕ) → of_desk f e ≡ f x + of_desk f d) → HasSameItems (desk_pieces e) (x ∷ desk_pieces d)
one_more x d e same = record { weighs = λ f. desk_total f e ∙ same f ∙ ap (λ n. f x + n) (sym (desk_total f d)) }

pub calls_moved : CallsAreOnlyMoved
calls_moved p hops m d fits = one_more (loose_call m) d (route_call p hops m d) (λ f. routes f p hops m d fits)

pub items_moved : ItemsAreOnlyMoved
items_moved = record {
  asked = λ service u d. same_as d (ask service u d) (λ f. asks f service u d);
  held = λ n i d. one_more (item_piece i) d (hold n i d) (λ f. holds f n i d);
  sent = λ n i d whole. one_more (item_piece i) d (send_on n i d) (λ f. sends_on f n i d whole);
  released = λ n d. same_as d (release_held n d) (λ f. releases f n d);
  due = λ d. same_as d (release_delayed d) (λ f. takes_due f d);
}

pub none_there : {A : Type 0} (o : Option A) → is_some o ≡ false → o ≡ None
none_there None e = refl
none_there (Some x) e = absurd (true≢false e)

pub come_whole : ActorsComeWhole
come_whole r d away = record {
  weighs = λ f.
      let stood : Desk = record d { theatre = stand r d.theatre } in
      let here = comes f r d.theatre (none_there (fm.get d.theatre.residents (name_key r.name)) away) in
      omega (
        arith,
        desk_total f (release_held r.name stood),
        releases f r.name stood,
        here,
        desk_total f d,
        total-append f (resident_pieces r) (desk_pieces d),
      );
}

pub leave_whole : ActorsLeaveWhole
unfolding may_move
leave_whole u r to d there may range =
    let parts = split (is_packable (leaving r d.theatre)) (is_light (leaving r d.theatre)) may in
    same_as d (depart_as u r to d)
    (λ f.
    leaves f u r to d there (sent_whole (envelope.Move (packed_actor (leaving r d.theatre))) (light_is_sent (leaving r d.theatre) parts.1) refl)
    (packed_unpacked (leaving r d.theatre) range parts.0))

pub become_work : LettersBecomeWork
unfolding envelope_pieces
become_work = record {
  call = λ hops m d. one_more (loose_call m) d (with_work (Call (raised hops) m ∷ []) d) (λ f. works f (Call (raised hops) m) d);
  reply = λ hops r v d. one_more (item_piece (Answer (raised hops) r v)) d (with_work (Answer (raised hops) r v ∷ []) d) (λ f. works f (Answer (raised hops) r v) d);
  create = λ a. refl;
  move = λ packed r e. ap unpacked_pieces (sym e);
}
