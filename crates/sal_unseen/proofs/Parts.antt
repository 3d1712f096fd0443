-- Parts of turns that route.
use Rattle.std.proofs.Common.{◌≡◌, inl, inr, ℕ, ◌+◌, Bool, true, false, not, cond, ◌&&◌, List, [], ◌∷◌, ◌++◌, map, Option, Some, None, is_some, refl, sym, ap, subst, ◌∙◌, arith}
use Rattle.std.specs.Prelude.{Result, Ok, Err, if◌then◌else◌, nat_eq, nat_lt, slice_get}
use Rattle.std.specs.FinMap as fm
use Rattle.sal_value.specs.declared.name.Name.{Name}
use Rattle.sal_value.specs.declared.name.Name.TheVariants as name
use Rattle.sal_value.specs.declared.name.Uan.{Uan}
use Rattle.sal_value.specs.declared.name.Ual.{Ual}
use Rattle.sal_value.specs.declared.value.DecodeFault.{DecodeFault}
use Rattle.sal_value.specs.Order.{uan_key}
use Rattle.sal_value.specs.Table.{TableKey, write}
use Rattle.sal_value.proofs.Keys.{same_names}
use Rattle.sal_mail.specs.declared.effects.Actor.{Actor}
use Rattle.sal_mail.specs.declared.envelope.Envelope.TheVariants as envelope
use Rattle.sal_handler.specs.Calls.{Meaning}
use Rattle.sal_source.specs.Table.{Table, total, HasSameItems}
use Rattle.sal_source.specs.Keys.{name_key, actor_key, made_key}
use Rattle.sal_source.specs.Step.{bound_actor}
use Rattle.sal_source.proofs.Same.{total-append}
use Rattle.sal_source.proofs.Tables.{some_is, words_refl, words_tells, get-write}
use Rattle.sal_source.proofs.Weights.{weight_of, weigh-write}
use Rattle.sal_source.proofs.Keeping.{split}
use Rattle.sal_book.specs.Book.{Book}
use Rattle.sal_resident.specs.declared.resident.Resident.{Resident}
use Rattle.sal_resident.specs.Packing.{packed_actor}
use Rattle.sal_resident.specs.Unpacking.{unpacked_actor}
use Rattle.sal_resident.specs.Coding.{resident_in_range}
use Rattle.sal_spelled.specs.Sending.{may_move}
use Rattle.sal_move.specs.declared.places.Known.{Known}
use Rattle.sal_move.specs.Places.{is_news}
use Rattle.sal_node.specs.declared.constants.TheConstants.{FIRST_SERVICE}
use Rattle.sal_directory.specs.Nodes.{theatre_of, service_of}
use Rattle.sal_pieces.specs.Pieces.{Piece, Body, Thing, JoinThing, loose_call, message_thing, things}
use Rattle.sal_pieces.specs.Once.{one_if_key, actor_key_in, StandOnce}
use Rattle.sal_pieces.proofs.Order.{forget_where}
use Rattle.sal_pieces.proofs.Stepping.{first_body}
use Rattle.sal_routing.specs.declared.item.Item.TheVariants.{Call, Answer}
use Rattle.sal_routing.specs.declared.pending.Pending.{Pending}
use Rattle.sal_routing.specs.declared.pending.Question.{Question}
use Rattle.sal_routing.specs.declared.pending.Asking.{Asking}
use Rattle.sal_routing.specs.State.{Desk, actor_of, raised, newcomer, send, with_work}
use Rattle.sal_routing.specs.Fits.{is_here, fits_arrival, fits_move}
use Rattle.sal_routing.specs.Routing.{ask, put_question, release_held, route}
use Rattle.sal_routing.specs.Arrivals.{stand, arrive, tell_service, put_place, learn, leaving, without_resident, depart_as, may_leave, goes_as, goes, tell_moved, depart_by, depart, move_to}
use Rattle.sal_routing.specs.Turns.{tell_move, take_create, take_resident, take_move, place_new, drop_pending, ask_by, ask_all, release_delayed, asking_after, is_left_open, learn_elsewhere, answer_question, answer_at, answer_by, take_get_reply, receive}
use Rattle.sal_world.specs.Pieces.{body_of, pending_piece, resident_pieces, envelope_pieces, unpacked_pieces}
use Rattle.sal_unseen.specs.Desks.{desk_pieces, IsSentWhole}
use Rattle.sal_unseen.specs.Unseen.{AreKeyed, IsInOrder, StaysInOrder}
use Rattle.sal_unseen.specs.Parts.{ArrivalsAreUnseen, MigrationsAreUnseen, PendingAreDropped, NewActorsArePlacedUnseen, PlacesAreUnseen, DueItemsAreUnseen, MoveFits, LettersAreUnseen}
use Rattle.sal_unseen.proofs.Sums.{of_desk, of_resident, desk_total}
use Rattle.sal_unseen.proofs.Sending.{none_sent, adds_pieces}
use Rattle.sal_unseen.proofs.Moving.{asks, releases, takes_due, come_whole, leave_whole, become_work}
use Rattle.sal_unseen.proofs.Unseen.{apart_from, moves_unseen, routes_unseen, stays, stays_then, sent_residents, asked_residents}

-- ---- changes that keep all pieces

same_beside : (d e : Desk) (rest : List Piece) → ((f : Piece → ℕ) → of_desk f e ≡ of_desk f d) → HasSameItems (desk_pieces d ++ rest) (desk_pieces e ++ rest)
same_beside d e rest same = record {
  weighs = λ f. (let s = same f in omega (arith, s, desk_total f d, desk_total f e, total-append f (desk_pieces d) rest, total-append f (desk_pieces e) rest));
}

from_others : (d e : Desk) (ps rest : List Piece) → HasSameItems (desk_pieces e) (ps ++ desk_pieces d) → HasSameItems (desk_pieces d ++ (ps ++ rest)) (desk_pieces e ++ rest)
from_others d e ps rest s = record {
  weighs = λ f.
      let w = s.weighs f in
      omega (
        arith,
        w,
        total-append f ps (desk_pieces d),
        total-append f (desk_pieces d) (ps ++ rest),
        total-append f ps rest,
        total-append f (desk_pieces e) rest,
      );
}

keyed_as : (t u : Table Resident) → u ≡ t → AreKeyed t → AreKeyed u
keyed_as t u same keyed = subst (λ (s : Table Resident). AreKeyed s) (sym same) keyed

same_stays : (p : Meaning) (d e : Desk) (rest : List Piece) → ((f : Piece → ℕ) → of_desk f e ≡ of_desk f d) → e.theatre.residents ≡ d.theatre.residents → IsInOrder p d rest → StaysInOrder p d rest e rest
same_stays p d e rest same residents h = moves_unseen p d e rest rest (same_beside d e rest same) (keyed_as d.theatre.residents e.theatre.residents residents h.keyed) h

-- ---- residents under their own names

module _ (t : Table Resident) (keyed : AreKeyed t) where
  pub put_keyed : (x : Resident) → AreKeyed (write t (name_key x.name) (Some x))
  put_keyed x q y there =
      let got = get-write t (name_key x.name) (Some x) (name_key q) in
      elim (words_tells (name_key q) (name_key x.name)) [
        | inl e ↦
            let same : Some x ≡ Some y = sym (got ∙ ap (λ b. cond b (Some x) (fm.get t (name_key q))) e.0) ∙ there in
            ap (λ (z : Resident). z.name) (sym (some_is same)) ∙ sym (same_names q x.name e.1)
        | inr e ↦ keyed q y (sym (got ∙ ap (λ b. cond b (Some x) (fm.get t (name_key q))) e.0) ∙ there)
      ]

  removed_keyed : (k : TableKey) → AreKeyed (write t k None)
  removed_keyed k q y there =
      let got = get-write t k None (name_key q) in
      elim (words_tells (name_key q) k) [
        | inl e ↦ absurd (let no : None ≡ Some y = sym (got ∙ ap (λ b. cond b None (fm.get t (name_key q))) e.0) ∙ there in cc)
        | inr e ↦ keyed q y (sym (got ∙ ap (λ b. cond b None (fm.get t (name_key q))) e.0) ∙ there)
      ]

-- ---- no actor stands twice

two_bodies : (a c : Actor × ℕ) (b e : Book) (others : List Piece) → actor_key c ≡ actor_key a → StandOnce (things (Body a b ∷ Body c e ∷ others)) → ⊥
two_bodies a c b e others same once =
    let F : Thing → ℕ = λ (t : Thing). one_if_key (actor_key a) (actor_key_in t) in
    let few = once.actors (actor_key a) in
    let one : one_if_key (actor_key a) (Some (actor_key a)) ≡ 1 = ap (λ (x : Bool). if◌then◌else◌ {A = ℕ} x 1 0) (words_refl (actor_key a)) in
    let two : one_if_key (actor_key a) (Some (actor_key c)) ≡ 1 = ap (λ (q : TableKey). one_if_key (actor_key a) (Some q)) same ∙ one in
    let mine : List Thing = map message_thing b.messages ++ map (λ j. JoinThing (a.0.name, j)) b.joins in
    let theirs : List Thing = map message_thing e.messages ++ map (λ j. JoinThing (c.0.name, j)) e.joins in
    let first = ap (total F) (first_body a b (Body c e ∷ others)) in
    let second = ap (total F) (first_body c e others) in
    omega (arith, few, one, two, first, second, total-append F mine (things (Body c e ∷ others)), total-append F theirs (things others))

stands_once : (p : Meaning) (r x : Resident) (d : Desk) (rest : List Piece) → IsInOrder p d (resident_pieces r ++ rest) → fm.get d.theatre.residents (name_key r.name) ≡ Some x → ⊥
stands_once p r x d rest h there =
    let others : List Piece = map loose_call x.mailbox ++ (desk_pieces (apart_from r.name d) ++ (map loose_call r.mailbox ++ rest)) in
    let same : HasSameItems (desk_pieces d ++ (resident_pieces r ++ rest)) (body_of x ∷ body_of r ∷ others) = record {
      weighs = λ f.
          let e = weigh-write (of_resident f) d.theatre.residents (name_key r.name) None in
          let old : weight_of (of_resident f) (fm.get d.theatre.residents (name_key r.name)) ≡ of_resident f x = ap (weight_of (of_resident f)) there in
          omega (
            arith,
            e,
            old,
            desk_total f d,
            desk_total f (apart_from r.name d),
            total-append f (desk_pieces d) (resident_pieces r ++ rest),
            total-append f (map loose_call r.mailbox) rest,
            total-append f (map loose_call x.mailbox) (desk_pieces (apart_from r.name d) ++ (map loose_call r.mailbox ++ rest)),
            total-append f (desk_pieces (apart_from r.name d)) (map loose_call r.mailbox ++ rest),
          );
    } in
    let once = forget_where.once (desk_pieces d ++ (resident_pieces r ++ rest)) (body_of x ∷ body_of r ∷ others) same h.once in
    two_bodies (actor_of x, x.serial) (actor_of r, r.serial) x.book r.book others (ap name_key (sym (h.keyed r.name x there))) once

not_here : (p : Meaning) (r : Resident) (d : Desk) (rest : List Piece) → IsInOrder p d (resident_pieces r ++ rest) → is_here r.name d.theatre ≡ false
not_here p r d rest h = at (fm.get d.theatre.residents (name_key r.name)) refl
  where
    at : (o : Option Resident) → fm.get d.theatre.residents (name_key r.name) ≡ o → is_some o ≡ false
    at None e = refl
    at (Some x) e = absurd (stands_once p r x d rest h e)

-- ---- actors that come

stood_keyed : (r : Resident) (d : Desk) → AreKeyed d.theatre.residents → AreKeyed (release_held r.name (record d { theatre = stand r d.theatre })).theatre.residents
unfolding release_held stand
stood_keyed r d keyed = put_keyed d.theatre.residents keyed (record r { mailbox = [] })

pub arrivals_unseen : ArrivalsAreUnseen
unfolding arrive
arrivals_unseen p r d rest h =
    let stood : Desk = release_held r.name (record d { theatre = stand r d.theatre }) in
    let same = from_others d stood (resident_pieces r) rest (come_whole r d (not_here p r d rest h)) in
    let first = moves_unseen p d stood (resident_pieces r ++ rest) rest same (stood_keyed r d h.keyed) h in
    stays_then p d stood (route p stood) (resident_pieces r ++ rest) rest rest first (routes_unseen p stood rest first.order)

-- ---- actors that go

left_keyed : (u : Uan) (r : Resident) (to : ℕ) (d : Desk) → AreKeyed d.theatre.residents → AreKeyed (depart_as u r to d).theatre.residents
unfolding depart_as put_place without_resident
left_keyed u r to d keyed =
    keyed_as (write d.theatre.residents (name_key r.name) None) (depart_as u r to d).theatre.residents
    (sent_residents to (envelope.Move (packed_actor (leaving r d.theatre))) (record d { theatre = without_resident r d.theatre }))
    (removed_keyed d.theatre.residents keyed (name_key r.name))

leaves_unseen : (p : Meaning) (u : Uan) (r : Resident) (to : ℕ) (d : Desk) (rest : List Piece) → fm.get d.theatre.residents (name_key (name.Uan u)) ≡ Some r → may_move (leaving r d.theatre) ≡ true
    → resident_in_range (leaving r d.theatre) ≡ true → IsInOrder p d rest → StaysInOrder p d rest (depart_as u r to (tell_moved (name.Uan u) to d)) rest
leaves_unseen p u r to d rest there may range h =
    let told : Desk = tell_moved (name.Uan u) to d in
    let named : name.Uan u ≡ r.name = sym (h.keyed (name.Uan u) r there) in
    let here : fm.get d.theatre.residents (name_key r.name) ≡ Some r = subst (λ (n : Name). fm.get d.theatre.residents (name_key n) ≡ Some r) named there in
    let gone = leave_whole u r to told here may range in
    moves_unseen p d (depart_as u r to told) rest rest
    (record {
      weighs = λ f. (let w = gone.weighs f in omega (arith, w, total-append f (desk_pieces d) rest, total-append f (desk_pieces (depart_as u r to told)) rest));
    })
    (left_keyed u r to told h.keyed) h

pub migrations_unseen : MigrationsAreUnseen
unfolding move_to goes depart may_leave
migrations_unseen p (name.Anon theatre number) to d rest range h = stays p d rest h
migrations_unseen p (name.Outside number) to d rest range h = stays p d rest h
migrations_unseen p (name.Uan u) to d rest range h = by (fm.get d.theatre.residents (name_key (name.Uan u))) refl
  where
    leave : (r : Resident) (b : Bool) → fm.get d.theatre.residents (name_key (name.Uan u)) ≡ Some r → may_leave r to d.theatre ≡ b
        → StaysInOrder p d rest (if b then depart_as u r to (tell_moved (name.Uan u) to d) else d) rest
    leave r false there may = stays p d rest h
    leave r true there may =
        let first = split (not (nat_eq to d.theatre.me)) (nat_lt r.moves 18446744073709551615 && may_move (leaving r d.theatre)) may in
        let second = split (nat_lt r.moves 18446744073709551615) (may_move (leaving r d.theatre)) first.1 in
        leaves_unseen p u r to d rest there second.1 (range r there) h

    by : (o : Option Resident) → fm.get d.theatre.residents (name_key (name.Uan u)) ≡ o → StaysInOrder p d rest (if goes_as o to d.theatre then depart_by o u to d else d) rest
    by None there = stays p d rest h
    by (Some r) there = leave r (may_leave r to d.theatre) there refl

-- ---- places

placed_same : (u : Uan) (theatre moves : ℕ) (d : Desk) (f : Piece → ℕ) → of_desk f (release_held (name.Uan u) (put_place u theatre moves d)) ≡ of_desk f d
unfolding put_place
placed_same u theatre moves d f = releases f (name.Uan u) (put_place u theatre moves d)

placed_residents : (u : Uan) (theatre moves : ℕ) (d : Desk) → (release_held (name.Uan u) (put_place u theatre moves d)).theatre.residents ≡ d.theatre.residents
unfolding release_held put_place
placed_residents u theatre moves d = refl

pub places_unseen : PlacesAreUnseen
unfolding learn
places_unseen p u theatre moves d rest h = at (is_news u moves d.theatre.places)
  where
    first : StaysInOrder p d rest (release_held (name.Uan u) (put_place u theatre moves d)) rest
    first = same_stays p d (release_held (name.Uan u) (put_place u theatre moves d)) rest (placed_same u theatre moves d) (placed_residents u theatre moves d) h

    at : (b : Bool) → StaysInOrder p d rest (if b then route p (release_held (name.Uan u) (put_place u theatre moves d)) else d) rest
    at false = stays p d rest h
    at true =
        stays_then p d (release_held (name.Uan u) (put_place u theatre moves d)) (route p (release_held (name.Uan u) (put_place u theatre moves d))) rest rest rest first
        (routes_unseen p (release_held (name.Uan u) (put_place u theatre moves d)) rest first.order)

-- ---- creations

pub pending_dropped : PendingAreDropped
unfolding drop_pending
pending_dropped maker serial x d there = record {
  weighs = λ f.
      let weight : Pending → ℕ = λ (y : Pending). f (pending_piece y) in
      let e = weigh-write weight d.theatre.pending (made_key maker serial) None in
      let old : weight_of weight (fm.get d.theatre.pending (made_key maker serial)) ≡ f (pending_piece x) = ap (weight_of weight) there in
      omega (arith, e, old, desk_total f d, desk_total f (drop_pending maker serial d));
}

created_goes : (p : Meaning) (node : ℕ) (a : Actor) (d : Desk) (rest : List Piece) → IsSentWhole (envelope.Create a) → IsInOrder p d (resident_pieces (newcomer a) ++ rest)
    → StaysInOrder p d (resident_pieces (newcomer a) ++ rest) (send node (envelope.Create a) d) rest
unfolding envelope_pieces
created_goes p node a d rest whole h =
    moves_unseen p d (send node (envelope.Create a) d) (resident_pieces (newcomer a) ++ rest) rest
    (from_others d (send node (envelope.Create a) d) (resident_pieces (newcomer a)) rest (adds_pieces node (envelope.Create a) d whole))
    (keyed_as d.theatre.residents (send node (envelope.Create a) d).theatre.residents (sent_residents node (envelope.Create a) d) h.keyed) h

pub placed_unseen : NewActorsArePlacedUnseen
unfolding place_new
placed_unseen p x d rest whole h = at (nat_eq x.theatre d.theatre.me)
  where
    at : (b : Bool) → StaysInOrder p d (resident_pieces (newcomer (bound_actor x.creation)) ++ rest)
        (if b then arrive p (newcomer (bound_actor x.creation)) d else learn p x.creation.name x.theatre 0 (send x.theatre (envelope.Create (bound_actor x.creation)) d)) rest
    at true = arrivals_unseen p (newcomer (bound_actor x.creation)) d rest h
    at false =
        let first = created_goes p x.theatre (bound_actor x.creation) d rest whole h in
        stays_then p d (send x.theatre (envelope.Create (bound_actor x.creation)) d) (learn p x.creation.name x.theatre 0 (send x.theatre (envelope.Create (bound_actor x.creation)) d))
        (resident_pieces (newcomer (bound_actor x.creation)) ++ rest) rest rest first
        (places_unseen p x.creation.name x.theatre 0 (send x.theatre (envelope.Create (bound_actor x.creation)) d) rest first.order)

-- ---- what is due

ask_stays : (p : Meaning) (o : Option ℕ) (u : Uan) (d : Desk) (rest : List Piece) → IsInOrder p d rest → StaysInOrder p d rest (ask_by o u d) rest
ask_stays p None u d rest h = stays p d rest h
ask_stays p (Some service) u d rest h = same_stays p d (ask service u d) rest (λ f. asks f service u d) (asked_residents service u d) h

asks_stay : (p : Meaning) (us : List Uan) (d : Desk) (rest : List Piece) → IsInOrder p d rest → StaysInOrder p d rest (ask_all us d) rest
unfolding ask_all
asks_stay p [] d rest h = stays p d rest h
asks_stay p (u ∷ us) d rest h =
    let first = ask_stays p (service_of d.theatre.plan u) u d rest h in
    stays_then p d (ask_by (service_of d.theatre.plan u) u d) (ask_all us (ask_by (service_of d.theatre.plan u) u d)) rest rest rest first
    (asks_stay p us (ask_by (service_of d.theatre.plan u) u d) rest first.order)

due_residents : (d : Desk) → (release_delayed d).theatre.residents ≡ d.theatre.residents
unfolding release_delayed
due_residents d = refl

pub due_unseen : DueItemsAreUnseen
due_unseen p us d rest h =
    let due : Desk = release_delayed d in
    let first = same_stays p d due rest (λ f. takes_due f d) (due_residents d) h in
    let second = routes_unseen p due rest first.order in
    let third = asks_stay p us (route p due) rest second.order in
    stays_then p d due (ask_all us (route p due)) rest rest rest first (stays_then p due (route p due) (ask_all us (route p due)) rest rest rest second third)

-- ---- letters

told_service : (p : Meaning) (o : Option ℕ) (place : Option Ual) (u : Uan) (moves : ℕ) (d : Desk) (rest : List Piece) → IsInOrder p d rest → StaysInOrder p d rest (tell_service o place u moves d) rest
unfolding envelope_pieces
told_service p None None u moves d rest h = stays p d rest h
told_service p None (Some place) u moves d rest h = stays p d rest h
told_service p (Some service) None u moves d rest h = stays p d rest h
told_service p (Some service) (Some place) u moves d rest h =
    same_stays p d (send (FIRST_SERVICE + service) (envelope.Update u place moves) d) rest (λ f. none_sent f (FIRST_SERVICE + service) (envelope.Update u place moves) d refl refl)
    (sent_residents (FIRST_SERVICE + service) (envelope.Update u place moves) d) h

told_move : (p : Meaning) (n : Name) (moves : ℕ) (d : Desk) (rest : List Piece) → IsInOrder p d rest → StaysInOrder p d rest (tell_move n moves d) rest
told_move p (name.Uan u) moves d rest h = told_service p (service_of d.theatre.plan u) (slice_get d.theatre.plan.theatres d.theatre.me) u moves d rest h
told_move p (name.Anon theatre number) moves d rest h = stays p d rest h
told_move p (name.Outside number) moves d rest h = stays p d rest h

work_arrives : (p : Meaning) (d e : Desk) (ps rest : List Piece) → HasSameItems (desk_pieces e) (ps ++ desk_pieces d) → e.theatre.residents ≡ d.theatre.residents → IsInOrder p d (ps ++ rest)
    → StaysInOrder p d (ps ++ rest) (route p e) rest
work_arrives p d e ps rest same residents h =
    let first = moves_unseen p d e (ps ++ rest) rest (from_others d e ps rest same) (keyed_as d.theatre.residents e.theatre.residents residents h.keyed) h in
    stays_then p d e (route p e) (ps ++ rest) rest rest first (routes_unseen p e rest first.order)

moved_here : (p : Meaning) (r : Resident) (d : Desk) (rest : List Piece) → fits_move p d.theatre r ≡ true → IsInOrder p d (resident_pieces r ++ rest) → StaysInOrder p d (resident_pieces r ++ rest) (take_resident p r d) rest
unfolding take_resident
moved_here p r d rest fits h =
    let first = arrivals_unseen p r d rest h in
    let second = told_move p r.name r.moves (arrive p r d) rest first.order in
    subst (λ (b : Bool). StaysInOrder p d (resident_pieces r ++ rest) (if b then tell_move r.name r.moves (arrive p r d) else d) rest) (sym fits)
    (stays_then p d (arrive p r d) (tell_move r.name r.moves (arrive p r d)) (resident_pieces r ++ rest) rest rest first second)

moved_by : (p : Meaning) (o : Result Resident DecodeFault) (d : Desk) (rest : List Piece) → MoveFits p d.theatre o → IsInOrder p d (unpacked_pieces o ++ rest) → StaysInOrder p d (unpacked_pieces o ++ rest) (take_move p o d) rest
moved_by p (Ok r) d rest fits h = moved_here p r d rest fits h
moved_by p (Err fault) d rest fits h = absurd fits

created_here : (p : Meaning) (a : Actor) (d : Desk) (rest : List Piece) → fits_arrival p d.theatre (newcomer a) ≡ true → IsInOrder p d (resident_pieces (newcomer a) ++ rest)
    → StaysInOrder p d (resident_pieces (newcomer a) ++ rest) (take_create p (newcomer a) d) rest
unfolding take_create
created_here p a d rest fits h =
    subst (λ (b : Bool). StaysInOrder p d (resident_pieces (newcomer a) ++ rest) (if b then arrive p (newcomer a) d else d) rest) (sym fits) (arrivals_unseen p (newcomer a) d rest h)

-- the question is another one, and what was held for the name may be routed
questioned : (p : Meaning) (u : Uan) (q : Question) (o : Option Known) (d : Desk) (rest : List Piece) → IsInOrder p d rest → StaysInOrder p d rest (learn_elsewhere p u o (record d { theatre = put_question q d.theatre })) rest
questioned p u q o d rest h = by o
  where
    first : StaysInOrder p d rest (record d { theatre = put_question q d.theatre }) rest
    first = same_stays p d (record d { theatre = put_question q d.theatre }) rest (λ f. refl) refl h

    elsewhere : (b : Bool) (k : Known) → StaysInOrder p d rest (if b then record d { theatre = put_question q d.theatre } else learn p u k.theatre k.moves (record d { theatre = put_question q d.theatre })) rest
    elsewhere true k = first
    elsewhere false k =
        stays_then p d (record d { theatre = put_question q d.theatre }) (learn p u k.theatre k.moves (record d { theatre = put_question q d.theatre })) rest rest rest first
        (places_unseen p u k.theatre k.moves (record d { theatre = put_question q d.theatre }) rest first.order)

    by : (k : Option Known) → StaysInOrder p d rest (learn_elsewhere p u k (record d { theatre = put_question q d.theatre })) rest
    by None = first
    by (Some k) = elsewhere (nat_eq k.theatre d.theatre.me) k

found_unseen : (p : Meaning) (u : Uan) (found : Option (Ual × ℕ)) (d : Desk) (rest : List Piece) → IsInOrder p d rest → StaysInOrder p d rest (take_get_reply p u found d) rest
unfolding take_get_reply answer_question
found_unseen p u found d rest h = by (fm.get d.theatre.questions (uan_key u)) found
  where
    answers : (asking : Asking) (k : Option Known) → StaysInOrder p d rest (answer_question p u asking k d) rest
    answers asking k = questioned p u (record { name = u; asking = asking_after asking (is_left_open u k d.theatre) d.theatre.clock }) k d rest h

    there : (asking : Asking) (o : Option ℕ) (moves : ℕ) → StaysInOrder p d rest (answer_at p u asking o moves d) rest
    there asking None moves = stays p d rest h
    there asking (Some theatre) moves = answers asking (Some (record { theatre = theatre; moves = moves }))

    by : (o : Option Question) (k : Option (Ual × ℕ)) → StaysInOrder p d rest (answer_by p u o k d) rest
    by None k = stays p d rest h
    by (Some q) None = answers q.asking None
    by (Some q) (Some k) = there q.asking (theatre_of d.theatre.plan k.0) k.1

pub letters_unseen : LettersAreUnseen
unfolding receive envelope_pieces
letters_unseen p (envelope.Call hops m) d rest fits h = work_arrives p d (with_work (Call (raised hops) m ∷ []) d) (loose_call m ∷ []) rest (become_work.call hops m d) refl h
letters_unseen p (envelope.Reply hops r v) d rest fits h =
    work_arrives p d (with_work (Answer (raised hops) r v ∷ []) d) (envelope_pieces (envelope.Reply hops r v)) rest (become_work.reply hops r v d) refl h
letters_unseen p (envelope.Create a) d rest fits h = created_here p a d rest fits h
letters_unseen p (envelope.Move packed) d rest fits h = moved_by p (unpacked_actor packed) d rest fits h
letters_unseen p (envelope.Put maker serial u place) d rest fits h = absurd fits
letters_unseen p (envelope.PutReply maker serial bound) d rest fits h = absurd fits
letters_unseen p (envelope.Get u) d rest fits h = stays p d rest h
letters_unseen p (envelope.GetReply u found) d rest fits h = found_unseen p u found d rest h
letters_unseen p (envelope.Update u place moves) d rest fits h = stays p d rest h
