-- What a theatre's handler turn makes of its pieces.
use Rattle.std.proofs.Common.{◌≡◌, ◌≢◌, inl, inr, ℕ, zero, suc, ◌+◌, ◌≤◌, Bool, true, false, not, ◌&&◌, ◌||◌, List, [], ◌∷◌, ◌++◌, map, Option, Some, None, is_some, refl, sym, ap, subst, ◌∙◌, arith, true≢false}
use Rattle.std.specs.Prelude.{if◌then◌else◌, remove, slice_get, unwrap_or, option_and_then}
use Rattle.std.specs.List.{list_any}
use Rattle.std.specs.FinMap as fm
use Rattle.sal_value.specs.declared.name.Name.{Name}
use Rattle.sal_value.specs.declared.name.Ual.{Ual}
use Rattle.sal_value.specs.Table.{TableKey, key_eq, Table, write}
use Rattle.sal_mail.specs.declared.message.Message.{Message}
use Rattle.sal_mail.specs.declared.effects.Actor.{Actor}
use Rattle.sal_mail.specs.declared.effects.Creation.{Creation}
use Rattle.sal_mail.specs.declared.effects.Effects.{Effects}
use Rattle.sal_mail.specs.declared.envelope.Envelope.{Envelope}
use Rattle.sal_mail.specs.declared.envelope.Envelope.TheVariants as envelope
use Rattle.sal_mail.specs.declared.plan.Plan.{Plan}
use Rattle.sal_handler.specs.WellFormed.{EachOf, one_if_same}
use Rattle.sal_handler.proofs.Addresses.{each_more}
use Rattle.sal_source.specs.Table.{total, HasSameItems}
use Rattle.sal_source.specs.Keys.{name_key, made_key}
use Rattle.sal_source.specs.Give.{DueReply}
use Rattle.sal_source.specs.Step.{are_different, answer_replies}
use Rattle.sal_source.proofs.Same.{total-append, total-map}
use Rattle.sal_source.proofs.Tables.{words_refl, words_tells}
use Rattle.sal_source.proofs.Weights.{weight_of, weigh-write}
use Rattle.sal_source.proofs.Commute.{get-write_other}
use Rattle.sal_source.proofs.Keeping.{same_made, split, flipped, number_same}
use Rattle.sal_book.specs.declared.released.Released.{Released}
use Rattle.sal_book.specs.Book.{released_by_entry}
use Rattle.sal_resident.specs.declared.resident.Resident.{Resident}
use Rattle.sal_spelled.specs.Sending.{may_be_sent}
use Rattle.sal_node.specs.declared.constants.TheConstants.{FIRST_SERVICE}
use Rattle.sal_directory.specs.Nodes.{theatre_of, service_of}
use Rattle.sal_pieces.specs.Pieces.{Piece, Put, OwedReply, loose_call}
use Rattle.sal_pieces.specs.Steps.{new_actor_piece, creation_pieces, pieces_after, handler_pieces}
use Rattle.sal_pieces.proofs.Handling.{parts_total}
use Rattle.sal_routing.specs.declared.item.Item.{Item}
use Rattle.sal_routing.specs.declared.pending.Pending.{Pending}
use Rattle.sal_routing.specs.State.{Theatre, Desk, pending_key, newcomer, actor_of, desk, tell_given, parcel_to, send, with_work}
use Rattle.sal_routing.specs.Fits.{is_here}
use Rattle.sal_routing.specs.Routing.{call_made, answer_made, released_items, put_resident}
use Rattle.sal_routing.specs.Handling.{pending_of, ask_to_bind, put_pending, create, create_all, put_newcomers, after_handler, installed, handler_work, names_of, without_ready}
use Rattle.sal_world.specs.Pieces.{item_piece, pending_piece, body_of, envelope_pieces, theatre_pieces}
use Rattle.sal_unseen.specs.Desks.{desk_pieces}
use Rattle.sal_unseen.specs.Handlers.{place_of, asks_in, PutIsWhole, without_both, others_of, AreNewHere, HandlersLeavePieces}
use Rattle.sal_unseen.proofs.Sums.{of_items, of_resident, of_residents, of_theatre, of_desk, theatre_total, desk_total}
use Rattle.sal_unseen.proofs.Sending.{one_sent}
use Rattle.sal_unseen.proofs.Moving.{none_there}

-- a ready call that is taken out
pub removed : (f : Message → ℕ) (ms : List Message) (i : ℕ) (m : Message) → slice_get ms i ≡ Some m → total f (remove ms i) + f m ≡ total f ms
removed f [] i m e = absurd (let f : None ≡ Some m = e in cc)
removed f (x ∷ ms) zero m e = let same : x ≡ m = cc in let w = ap f same in omega (arith, w)
removed f (x ∷ ms) (suc i) m e = omega (arith, removed f ms i m e)

neither : (a b : Bool) → (a || b) ≡ false → (a ≡ false) × (b ≡ false)
neither true b e = absurd (true≢false e)
neither false b e = (refl, e)

apart_of : (a b : TableKey) → key_eq a b ≡ false → a ≢ b
apart_of a b e same = true≢false (sym (words_refl a) ∙ ap (key_eq a) same ∙ e)

-- ---- new actors

abbrev Away : Table Resident → List Actor → Type 0
Away t actors = EachOf (λ x. fm.get t (name_key x.name) ≡ None) actors

abbrev is_among : Name → List Actor → Bool
is_among n actors = list_any (λ m. key_eq (name_key n) (name_key m)) (names_of actors)

still_away : (t : Table Resident) (n : Name) (r : Option Resident) (actors : List Actor) → is_among n actors ≡ false → Away t actors → Away (write t (name_key n) r) actors
still_away t n r [] differ away = tt
still_away t n r (a ∷ actors) differ away =
    let p = neither (key_eq (name_key n) (name_key a.name)) (is_among n actors) differ in
    (get-write_other t (name_key n) (name_key a.name) r (λ e. apart_of (name_key n) (name_key a.name) p.0 (sym e)) ∙ away.0, still_away t n r actors p.1 away.1)

module _ (f : Piece → ℕ) where
  newcomers_total : (actors : List Actor) (t : Theatre) → Away t.residents actors → are_different (names_of actors) ≡ true
      → of_residents f (put_newcomers actors t).residents ≡ total (λ x. f (new_actor_piece x)) actors + of_residents f t.residents
  unfolding put_newcomers
  newcomers_total [] t away differ = omega arith
  newcomers_total (a ∷ actors) t away differ =
      let p = split (not (is_among a.name actors)) (are_different (names_of actors)) differ in
      let other = flipped (is_among a.name actors) p.0 in
      let put = weigh-write (of_resident f) t.residents (name_key a.name) (Some (newcomer a)) in
      let none : weight_of (of_resident f) (fm.get t.residents (name_key a.name)) ≡ 0 = ap (weight_of (of_resident f)) away.0 in
      let rest = newcomers_total actors (put_resident (newcomer a) t) (still_away t.residents a.name (Some (newcomer a)) actors other away.1) p.1 in
      omega (arith, put, none, rest)

-- nothing but residents changes
same_but : (actors : List Actor) (t : Theatre) → put_newcomers actors t ≡ record t { residents = (put_newcomers actors t).residents }
unfolding put_newcomers
same_but [] t = refl
same_but (a ∷ actors) t = same_but actors (put_resident (newcomer a) t)

-- ---- creations

sent_theatre : (node : ℕ) (e : Envelope) (d : Desk) → (send node e d).theatre ≡ d.theatre
unfolding send
sent_theatre node e d = at (may_be_sent e)
  where
    at : (b : Bool) → (if b then record d { sent = d.sent ++ parcel_to node e ∷ [] } else d).theatre ≡ d.theatre
    at true = refl
    at false = refl

pub asked_theatre : (o : Option ℕ) (p : Option Ual) (x : Pending) (d : Desk) → (ask_to_bind o p x d).theatre ≡ d.theatre
asked_theatre None None x d = refl
asked_theatre None (Some p) x d = refl
asked_theatre (Some n) None x d = refl
asked_theatre (Some n) (Some p) x d = sent_theatre (FIRST_SERVICE + n) (envelope.Put x.maker x.creation.serial x.creation.name p) d

module _ (f : Piece → ℕ) where
  asked_total : (o : Option ℕ) (p : Option Ual) (x : Pending) (d : Desk) → PutIsWhole x.maker x.creation o p
      → of_desk f (ask_to_bind o p x d) ≡ total f (if is_some o && is_some p then Put (pending_key x) x.creation.name ∷ [] else []) + of_desk f d
  unfolding envelope_pieces
  asked_total None None x d whole = omega arith
  asked_total None (Some p) x d whole = omega arith
  asked_total (Some n) None x d whole = omega arith
  asked_total (Some n) (Some p) x d whole = one_sent f (FIRST_SERVICE + n) (envelope.Put x.maker x.creation.serial x.creation.name p) d whole

  put_total : (x : Pending) (d : Desk) → fm.get d.theatre.pending (pending_key x) ≡ None → of_desk f (put_pending x d) ≡ f (pending_piece x) + of_desk f d
  put_total x d none =
      let weight : Pending → ℕ = λ (y : Pending). f (pending_piece y) in
      let e = weigh-write weight d.theatre.pending (pending_key x) (Some x) in
      let old : weight_of weight (fm.get d.theatre.pending (pending_key x)) ≡ 0 = ap (weight_of weight) none in
      omega (arith, e, old)

abbrev Absent : Name → Table Pending → List Creation → Type 0
Absent me t xs = EachOf (λ x. fm.get t (made_key me x.serial) ≡ None) xs

-- how often the number is one of these
abbrev counts : ℕ → List Creation → ℕ
counts k xs = total (λ x. one_if_same k x.serial) xs

still_absent : (me : Name) (t : Table Pending) (k : ℕ) (o : Option Pending) (xs : List Creation) → counts k xs ≡ 0 → Absent me t xs → Absent me (write t (made_key me k) o) xs
still_absent me t k o [] none h = tt
still_absent me t k o (x ∷ xs) none h = (
  get-write_other t (made_key me k) (made_key me x.serial) o
      (λ e. let same : k ≡ x.serial = sym (same_made me me x.serial k e).1 in
      let one : one_if_same k x.serial ≡ 1 = ap (one_if_same k) (sym same) ∙ number_same k in omega (arith, none, one))
      ∙ h.0,
  still_absent me t k o xs (omega (arith, none)) h.1,
)

-- names are asked for as by the theatre at first: by its plan and its number
record AsksAs (t u : Theatre) : Type 0 where
  plan : u.plan ≡ t.plan
  me : u.me ≡ t.me

abbrev Whole : Name → Theatre → Creation → Type 0
Whole maker t x = PutIsWhole maker x (service_of t.plan x.name) (place_of t x)

module _ (f : Piece → ℕ) (maker : Name) (t : Theatre) where
  asks_same : (u : Theatre) (x : Creation) → AsksAs t u → asks_in u x ≡ asks_in t x
  asks_same u x s = λ i. is_some (service_of (s.plan i) x.name) && is_some (slice_get (s.plan i).theatres (unwrap_or (option_and_then (theatre_of (s.plan i)) x.place) (s.me i)))

  whole_same : (u : Theatre) (x : Creation) → AsksAs t u → Whole maker t x → Whole maker u x
  whole_same u x s w = subst (λ (q : Plan × ℕ). PutIsWhole maker x (service_of q.0 x.name) (slice_get q.0.theatres (unwrap_or (option_and_then (theatre_of q.0) x.place) q.1))) (sym (λ i. (s.plan i, s.me i))) w

  one_total : (x : Creation) (d : Desk) → AsksAs t d.theatre → Whole maker t x → fm.get d.theatre.pending (made_key maker x.serial) ≡ None
      → of_desk f (create (pending_of maker d.theatre x) d) ≡ total f (creation_pieces (asks_in t) maker x) + of_desk f d
  unfolding create
  one_total x d s whole none =
      let y : Pending = pending_of maker d.theatre x in
      let ask = asked_total f (service_of d.theatre.plan x.name) (place_of d.theatre x) y (put_pending y d) (whole_same d.theatre x s whole) in
      let put = put_total f y d none in
      let asking : total f (if asks_in d.theatre x then Put (made_key maker x.serial) x.name ∷ [] else []) ≡ total f (if asks_in t x then Put (made_key maker x.serial) x.name ∷ [] else []) =
      ap (λ b. total f (if b then Put (made_key maker x.serial) x.name ∷ [] else [])) (asks_same d.theatre x s) in
      omega (arith, ask, put, asking)

  all_total : (xs : List Creation) (d : Desk) → AsksAs t d.theatre → EachOf (Whole maker t) xs → Absent maker d.theatre.pending xs → ((k : ℕ) → counts k xs ≤ 1)
      → of_desk f (create_all maker xs d) ≡ total (λ x. total f (creation_pieces (asks_in t) maker x)) xs + of_desk f d
  unfolding create_all create
  all_total [] d s whole none once = omega arith
  all_total (x ∷ xs) d s whole none once =
      let y : Pending = pending_of maker d.theatre x in
      let there : (create y d).theatre ≡ record d.theatre { pending = write d.theatre.pending (made_key maker x.serial) (Some y) } = asked_theatre (service_of d.theatre.plan x.name) (place_of d.theatre x) y (put_pending y d) in
      let asks : AsksAs t (record d.theatre { pending = write d.theatre.pending (made_key maker x.serial) (Some y) }) = record { plan = s.plan; me = s.me } in
      let u = once x.serial in
      let others : Absent maker (write d.theatre.pending (made_key maker x.serial) (Some y)) xs = still_absent maker d.theatre.pending x.serial (Some y) xs (omega (arith, u, number_same x.serial)) none.1 in
      let rest = all_total xs (create y d) (subst (λ (t1 : Theatre). AsksAs t t1) (sym there) asks) whole.1 (subst (λ (t1 : Theatre). Absent maker t1.pending xs) (sym there) others) (λ k. let v = once k in omega (arith, v)) in
      omega (arith, rest, one_total x d s whole.0 none.0)

-- ---- the law

taken_apart : (m : Message) (i : ℕ) (r : Resident) (t : Theatre) → slice_get t.ready i ≡ Some m → fm.get t.residents (name_key r.name) ≡ Some r
    → HasSameItems (desk_pieces (desk t)) (loose_call m ∷ body_of r ∷ others_of i r t)
taken_apart m i r t at there = record {
  weighs = λ f.
      let gone = weigh-write (of_resident f) t.residents (name_key r.name) None in
      let old : weight_of (of_resident f) (fm.get t.residents (name_key r.name)) ≡ of_resident f r = ap (weight_of (of_resident f)) there in
      let ready = removed (λ (x : Message). f (loose_call x)) t.ready i m at in
      omega (
        arith,
        gone,
        old,
        ready,
        desk_total f (desk t),
        theatre_total f (without_both i r t),
        total-append f (map loose_call r.mailbox) (theatre_pieces (λ x. true) (without_both i r t)),
      );
}

away_here : (t : Theatre) (actors : List Actor) → EachOf (λ x. is_here x.name t ≡ false) actors → Away t.residents actors
away_here t actors h = each_more (λ x. is_here x.name t ≡ false) (λ x. fm.get t.residents (name_key x.name) ≡ None) actors (λ x e. none_there (fm.get t.residents (name_key x.name)) e) h

not_resident : (r : Resident) (t : Theatre) → fm.get t.residents (name_key r.name) ≡ Some r → (actors : List Actor) → Away t.residents actors → is_among r.name actors ≡ false
not_resident r t there [] away = refl
not_resident r t there (a ∷ actors) away = elim (words_tells (name_key r.name) (name_key a.name)) [
  | inl e ↦ absurd (let both : None ≡ Some r = sym away.0 ∙ ap (fm.get t.residents) (sym e.1) ∙ there in cc)
  | inr e ↦ ap (λ b. b || is_among r.name actors) e.0 ∙ not_resident r t there actors away.1
]

-- the work of a handler is its pieces
work_same : (f : Piece → ℕ) (e : Effects) (m : Message) → of_items f (handler_work e m.reply) ≡ total f (handler_pieces e m.reply)
unfolding handler_work released_items
work_same f e m = of_work (released_by_entry e.messages e.joins) (answer_replies e.answer m.reply)
  where
    of_work : (x : Released) (gs : List DueReply)
        → of_items f ((map call_made x.messages ++ map answer_made x.replies) ++ map answer_made gs) ≡ total f ((map loose_call x.messages ++ map OwedReply x.replies) ++ map OwedReply gs)
    of_work x gs =
        let I : Item → ℕ = λ (i : Item). f (item_piece i) in
        omega (
          arith,
          total-append I (map call_made x.messages ++ map answer_made x.replies) (map answer_made gs),
          total-append I (map call_made x.messages) (map answer_made x.replies),
          total-map I call_made x.messages,
          total-map I answer_made x.replies,
          total-map I answer_made gs,
          total-append f (map loose_call x.messages ++ map OwedReply x.replies) (map OwedReply gs),
          total-append f (map loose_call x.messages) (map OwedReply x.replies),
          total-map f loose_call x.messages,
          total-map f OwedReply x.replies,
          total-map f OwedReply gs,
        )

leaves_pieces : (e : Effects) (m : Message) (i : ℕ) (r : Resident) (t : Theatre) (gs : List DueReply) → fm.get t.residents (name_key r.name) ≡ Some r → AreNewHere e r t
    → HasSameItems (desk_pieces (with_work (handler_work e m.reply) (create_all r.name e.creations (tell_given gs (installed e m r (desk (without_ready i t)))))))
    (pieces_after (asks_in t) e m (actor_of r, r.serial) r.book ++ others_of i r t)
unfolding installed
leaves_pieces e m i r t gs there new = record {
  weighs = λ f.
      let start : Theatre = put_resident (after_handler e r) (without_ready i t) in
      let now : Theatre = put_newcomers e.actors start in
      let d : Desk = tell_given gs (installed e m r (desk (without_ready i t))) in
      let done : Desk = create_all r.name e.creations d in
      let gone = weigh-write (of_resident f) t.residents (name_key r.name) None in
      let back = weigh-write (of_resident f) t.residents (name_key r.name) (Some (after_handler e r)) in
      let away = away_here t e.actors new.actors in
      let newcomers = newcomers_total f e.actors start (still_away t.residents r.name (Some (after_handler e r)) e.actors (not_resident r t there e.actors away) away) new.different in
      let same : now ≡ record start { residents = now.residents } = same_but e.actors start in
      let theatre : d.theatre ≡ record start { residents = now.residents; next_anon = e.fresh } = (λ j. record (same j) { next_anon = e.fresh }) in
      let asks : AsksAs t d.theatre = subst (λ (u : Theatre). AsksAs t u) (sym theatre) (record { plan = refl; me = refl }) in
      let absent : Absent r.name d.theatre.pending e.creations = subst (λ (u : Theatre). Absent r.name u.pending e.creations) (sym theatre) new.creations in
      let creations = all_total f r.name t e.creations d asks new.puts absent new.once in
      let of_now : of_theatre f d.theatre ≡ of_theatre f (record start { residents = now.residents; next_anon = e.fresh }) = ap (of_theatre f) theatre in
      let work = total-append (λ (x : Item). f (item_piece x)) done.work (handler_work e m.reply) in
      omega (
        arith,
        gone,
        back,
        newcomers,
        creations,
        of_now,
        work,
        work_same f e m,
        desk_total f (with_work (handler_work e m.reply) done),
        parts_total (asks_in t) e m (actor_of r, r.serial) r.book (others_of i r t) f,
        theatre_total f (without_both i r t),
        total-append f (map loose_call r.mailbox) (theatre_pieces (λ x. true) (without_both i r t)),
      );
}

pub leave_pieces : HandlersLeavePieces
leave_pieces = record { before = taken_apart; after = leaves_pieces }
