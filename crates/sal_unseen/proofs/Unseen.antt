-- Lists that are routed.
use Rattle.std.proofs.Common.{◌≡◌, inl, inr, ℕ, zero, suc, ◌+◌, Bool, true, false, not, cond, ◌||◌, ◌&&◌, List, [], ◌∷◌, ◌++◌, map, Option, Some, None, refl, sym, ap, subst, ◌∙◌, arith, true≢false}
use Rattle.std.specs.Prelude.{if◌then◌else◌, nat_lt}
use Rattle.std.specs.List.{list_all}
use Rattle.std.specs.FinMap as fm
use Rattle.sal_value.specs.declared.name.Name.{Name}
use Rattle.sal_value.specs.declared.name.Name.TheVariants as name
use Rattle.sal_value.specs.declared.name.Uan.{Uan}
use Rattle.sal_value.specs.declared.value.Value.{Value}
use Rattle.sal_value.specs.Spelling.{is_legal}
use Rattle.sal_value.specs.Coding.{in_range}
use Rattle.sal_value.specs.Table.{write}
use Rattle.sal_value.proofs.Keys.{same_names}
use Rattle.sal_mail.specs.declared.message.Reply.{Reply}
use Rattle.sal_mail.specs.declared.message.Reply.TheVariants.{Nobody, Tok, Place, Outside}
use Rattle.sal_mail.specs.declared.message.Target.{Target}
use Rattle.sal_mail.specs.declared.message.Target.TheVariants as target
use Rattle.sal_mail.specs.declared.message.Message.{Message}
use Rattle.sal_mail.specs.declared.effects.Actor.{Actor}
use Rattle.sal_mail.specs.declared.effects.Creation.{Creation}
use Rattle.sal_mail.specs.declared.envelope.Envelope.{Envelope}
use Rattle.sal_mail.specs.declared.envelope.Envelope.TheVariants as envelope
use Rattle.sal_mail.specs.ReplyKeys.{reply_key}
use Rattle.sal_mail.specs.Message.{is_ready, without_delay}
use Rattle.sal_handler.specs.Calls.{Meaning}
use Rattle.sal_envelope.specs.Spelling.{reply_is_spelled, is_inner}
use Rattle.sal_envelope.specs.Coding.{reply_in_range}
use Rattle.sal_source.specs.Table.{Table, total, HasSameItems}
use Rattle.sal_source.specs.Keys.{name_key, made_key, message_key, creation_key}
use Rattle.sal_source.specs.Configuration.{Waiting, Configuration}
use Rattle.sal_source.specs.Step.{bound_actor}
use Rattle.sal_source.proofs.Same.{total-append, total-map}
use Rattle.sal_source.proofs.Tables.{some_is, words_tells, get-write}
use Rattle.sal_source.proofs.Commute.{get-write_same}
use Rattle.sal_source.proofs.Keeping.{split}
use Rattle.sal_source.proofs.Weights.{weight_of, weigh-write}
use Rattle.sal_book.specs.declared.released.Released.{Released}
use Rattle.sal_book.specs.Book.{Book, is_open, book_after_reply, released_by_reply}
use Rattle.sal_resident.specs.declared.resident.Resident.{Resident}
use Rattle.sal_spelled.specs.Sending.{may_be_sent}
use Rattle.sal_node.specs.declared.constants.TheConstants.{FIRST_SERVICE}
use Rattle.sal_directory.specs.Nodes.{service_of}
use Rattle.sal_pieces.specs.Pieces.{Piece, Body, LooseCall, OwedReply, WaitingCreation, Put, Decision, Thing, ActorThing, CreationThing, loose_call, released_pieces, decides, creation_things, piece_things, things}
use Rattle.sal_pieces.specs.Image.{History, waiting_after_replies, image_of}
use Rattle.sal_pieces.specs.Once.{one_if_key, message_key_in, join_key_in, creation_key_in, count_owed, StandOnce}
use Rattle.sal_pieces.specs.Entering.{is_own, count_strays, count_joins, is_for_nobody_inside}
use Rattle.sal_pieces.specs.Steps.{IsBelow, count_untidy}
use Rattle.sal_pieces.proofs.Order.{total_ext, total_flat, same_before, forget_where}
use Rattle.sal_pieces.proofs.Passing.{passed_over, passed_once}
use Rattle.sal_pieces.proofs.Books.{tokens_enter, places_enter, tokens_stand, places_stand}
use Rattle.sal_pieces.proofs.Stepping.{total_zero, first_loose, ready_beside}
use Rattle.sal_pieces.proofs.Tidy.{are_tidy}
use Rattle.sal_pieces.proofs.Keeping.{replies_below, replies_tidy}
use Rattle.sal_routing.specs.declared.item.Item.{Item}
use Rattle.sal_routing.specs.declared.item.Item.TheVariants.{Call, Answer}
use Rattle.sal_routing.specs.State.{Desk, envelope_of, actor_of, parcel_to, send, tell_answer}
use Rattle.sal_routing.specs.Fits.{fits_call, fits_print}
use Rattle.sal_routing.specs.Routing.{next_hop, was_asked, awaited, put_question, ask, ask_if_new, ask_first, put_held, hold, send_by, send_on, ready_if, call_to, route_to, put_delayed, route_call, call_made, answer_made, released_items, items_left, with_book, enter_book, answer_to, give_owner, route_answer, route_item, route_front, route_one, route_many, route}
use Rattle.sal_world.specs.Pieces.{item_piece, body_of, envelope_pieces}
use Rattle.sal_unseen.specs.Desks.{desk_pieces, IsSentWhole}
use Rattle.sal_unseen.specs.Moving.{FitsThere}
use Rattle.sal_unseen.specs.Unseen.{IsOfTheRest, IsUnseen, is_sendable, count_unsendable, ReadyMessagesFit, AreKeyed, IsInOrder, StaysInOrder, MovesAreUnseen, with_first, RoutedItemsAreUnseen, RoutesAreUnseen}
use Rattle.sal_unseen.proofs.Sums.{of_resident, desk_total}
use Rattle.sal_unseen.proofs.Sending.{sent_whole, adds_pieces}
use Rattle.sal_unseen.proofs.Moving.{calls_moved, items_moved}
use Rattle.sal_unseen.proofs.Replies.{reply_is_sent, all_good, sendable_stays}

-- ---- the same pieces in another order

same_creation : (ps qs : List Piece) (x : Name × Creation) → HasSameItems ps qs → creation_things ps x ≡ creation_things qs x
same_creation ps qs x s =
    let bound = s.weighs (decides (creation_key x) true) in
    let refused = s.weighs (decides (creation_key x) false) in
    λ i. if nat_lt 0 (bound i) then ActorThing (bound_actor x.1, 0) ∷ [] else if nat_lt 0 (refused i) then [] else CreationThing x ∷ []

same_piece : (ps qs : List Piece) → HasSameItems ps qs → (p : Piece) → piece_things ps p ≡ piece_things qs p
same_piece ps qs s (Body a b) = refl
same_piece ps qs s (LooseCall m) = refl
same_piece ps qs s (OwedReply g) = refl
same_piece ps qs s (WaitingCreation x) = same_creation ps qs x s
same_piece ps qs s (Put k u) = refl
same_piece ps qs s (Decision k b) = refl

pub same_things : (ps qs : List Piece) → HasSameItems ps qs → HasSameItems (things ps) (things qs)
unfolding things
same_things ps qs s = record {
  weighs = λ f.
      total_flat f (piece_things ps) ps
      ∙ total_ext (λ p. total f (piece_things ps p)) (λ p. total f (piece_things qs p)) (λ p. ap (total f) (same_piece ps qs s p)) ps
      ∙ s.weighs (λ p. total f (piece_things qs p))
      ∙ sym (total_flat f (piece_things qs) qs);
}

below_same : (n : Name) (from : ℕ) (ts us : List Thing) → HasSameItems ts us → IsBelow n from ts → IsBelow n from us
below_same n from ts us s h = record {
  messages = λ k high. sym (s.weighs (λ t. one_if_key (made_key n k) (message_key_in t))) ∙ h.messages k high;
  joins = λ k high. sym (s.weighs (λ t. one_if_key (made_key n k) (join_key_in t))) ∙ h.joins k high;
  creations = λ k high. sym (s.weighs (λ t. one_if_key (made_key n k) (creation_key_in t))) ∙ h.creations k high;
  replies = λ r late. sym (s.weighs (count_owed (reply_key r))) ∙ h.replies r late;
}

-- what routing keeps of all pieces
pub record AreGood (ps : List Piece) : Type 0 where
  pub once : StandOnce (things ps)
  pub tidy : total count_untidy ps ≡ 0
  pub sendable : total count_unsendable ps ≡ 0

-- nothing is seen of the change, and all is good after it
abbrev pub Leads : List Piece → List Piece → Type 0
Leads ps qs = IsUnseen ps qs × AreGood qs

moved : (ps qs : List Piece) → HasSameItems ps qs → StandOnce (things ps) → IsUnseen ps qs
moved ps qs s once = record {
  image = λ bound h. forget_where.image ps qs bound h s once;
  below = λ n from b. below_same n from (things ps) (things qs) (same_things ps qs s) b;
  rest = λ f of_rest. s.weighs f;
}

pub by_same : (ps qs : List Piece) → HasSameItems ps qs → AreGood ps → Leads ps qs
by_same ps qs s good = (
  moved ps qs s good.once,
  record { once = forget_where.once ps qs s good.once; tidy = sym (s.weighs count_untidy) ∙ good.tidy; sendable = sym (s.weighs count_unsendable) ∙ good.sendable },
)

pub unseen_then : (ps qs rs : List Piece) → IsUnseen ps qs → IsUnseen qs rs → IsUnseen ps rs
unseen_then ps qs rs a b = record {
  image = λ bound h. a.image bound h ∙ b.image bound h;
  below = λ n from h. b.below n from (a.below n from h);
  rest = λ f of_rest. a.rest f of_rest ∙ b.rest f of_rest;
}

chain : (ps qs rs : List Piece) → Leads ps qs → Leads qs rs → Leads ps rs
chain ps qs rs a b = (unseen_then ps qs rs a.0 b.0, b.1)

still : (ps : List Piece) → IsUnseen ps ps
still ps = record { image = λ bound h. refl; below = λ n from h. h; rest = λ f of_rest. refl }

pub same_other : {A : Type 0} (xs ys : List A) → HasSameItems xs ys → HasSameItems ys xs
same_other xs ys s = record { weighs = λ f. sym (s.weighs f) }

-- ---- what waits in the image

no_history : History
no_history = record { output = []; faults = []; answers = []; posted = 0 }

pub alike_waiting : (ps qs : List Piece) → IsUnseen ps qs → waiting_after_replies (things ps) ≡ waiting_after_replies (things qs)
unfolding image_of
alike_waiting ps qs s = ap (λ (c : Configuration). c.waiting) (s.image [] no_history)

pub in_order : (p : Meaning) (ps : List Piece) (e : Desk) (rest : List Piece) → Leads ps (desk_pieces e ++ rest) → AreKeyed e.theatre.residents
    → ReadyMessagesFit p (waiting_after_replies (things ps)) → IsInOrder p e rest
in_order p ps e rest leads keyed fit = record {
  keyed = keyed;
  once = leads.1.once;
  tidy = leads.1.tidy;
  sendable = leads.1.sendable;
  fit = subst (λ (c : Waiting). ReadyMessagesFit p c) (alike_waiting ps (desk_pieces e ++ rest) leads.0) fit;
}

all_good_then : (p : Meaning) (d : Desk) (rest : List Piece) → IsInOrder p d rest → AreGood (desk_pieces d ++ rest)
all_good_then p d rest h = record { once = h.once; tidy = h.tidy; sendable = h.sendable }

pub moves_unseen : MovesAreUnseen
moves_unseen p d e rest others s keyed h =
    let leads = by_same (desk_pieces d ++ rest) (desk_pieces e ++ others) s (all_good_then p d rest h) in
    record { unseen = leads.0; order = in_order p (desk_pieces d ++ rest) e others leads keyed h.fit }

-- ---- the desk of an actor that stands here

-- the desk without the actor of this name
abbrev pub apart_from : Name → Desk → Desk
apart_from n d = record d { theatre = record d.theatre { residents = write d.theatre.residents (name_key n) None } }

-- what there is beside the actor's body: its mailbox, the rest of the desk, and all the others
abbrev beside : Name → Resident → Desk → List Piece → List Piece
beside n r d rest = map loose_call r.mailbox ++ (desk_pieces (apart_from n d) ++ rest)

module _ (n : Name) (r : Resident) (d : Desk) (there : fm.get d.theatre.residents (name_key n) ≡ Some r) where
  pub taken_out : (rest : List Piece) → HasSameItems (desk_pieces d ++ rest) (body_of r ∷ beside n r d rest)
  taken_out rest = record {
    weighs = λ f.
        let e = weigh-write (of_resident f) d.theatre.residents (name_key n) None in
        let old : weight_of (of_resident f) (fm.get d.theatre.residents (name_key n)) ≡ of_resident f r = ap (weight_of (of_resident f)) there in
        omega (
          arith,
          e,
          old,
          desk_total f d,
          desk_total f (apart_from n d),
          total-append f (desk_pieces d) rest,
          total-append f (map loose_call r.mailbox) (desk_pieces (apart_from n d) ++ rest),
          total-append f (desk_pieces (apart_from n d)) rest,
        );
  }

  put_back : (reply : Reply) (v : Value) (rest : List Piece)
      → HasSameItems (Body (actor_of r, r.serial) (book_after_reply reply v r.book) ∷ released_pieces (released_by_reply reply v r.book) ++ beside n r d rest) (desk_pieces (enter_book n reply v r d) ++ rest)
  unfolding released_items
  put_back reply v rest = record {
    weighs = λ f.
        let new : Resident = with_book (book_after_reply reply v r.book) r in
        let out : Released = released_by_reply reply v r.book in
        let gone = weigh-write (of_resident f) d.theatre.residents (name_key n) None in
        let back = weigh-write (of_resident f) d.theatre.residents (name_key n) (Some new) in
        let items : total f (map item_piece (released_items out)) ≡ total (λ (i : Item). f (item_piece i)) (released_items out) = total-map f item_piece (released_items out) in
        let pieces : total f (released_pieces out) ≡ total f (map item_piece (released_items out)) = released_same f out in
        let work = total-append (λ (i : Item). f (item_piece i)) d.work (released_items out) in
        omega (
          arith,
          gone,
          back,
          items,
          pieces,
          work,
          desk_total f (enter_book n reply v r d),
          desk_total f (apart_from n d),
          total-append f (desk_pieces (enter_book n reply v r d)) rest,
          total-append f (released_pieces out) (beside n r d rest),
          total-append f (map loose_call r.mailbox) (desk_pieces (apart_from n d) ++ rest),
          total-append f (desk_pieces (apart_from n d)) rest,
        );
  }
    where
      released_same : (f : Piece → ℕ) (out : Released) → total f (released_pieces out) ≡ total f (map item_piece (released_items out))
      released_same f out =
          let I : Item → ℕ = λ (i : Item). f (item_piece i) in
          let calls : List Item = map call_made out.messages in
          let answers : List Item = map answer_made out.replies in
          omega (
            arith,
            total-append f (map loose_call out.messages) (map OwedReply out.replies),
            total-map f loose_call out.messages,
            total-map f OwedReply out.replies,
            total-map f item_piece (calls ++ answers),
            total-append I calls answers,
            total-map I call_made out.messages,
            total-map I answer_made out.replies,
          )

-- ---- replies that enter a book

rest_released : (f : Piece → ℕ) → IsOfTheRest f → (x : Released) → total f (released_pieces x) ≡ 0
rest_released f of_rest x =
    let calls : total (λ m. f (loose_call m)) x.messages ≡ 0 = total_ext (λ m. f (loose_call m)) (λ m. 0) (λ m. of_rest.calls (without_delay m)) x.messages ∙ total_zero x.messages in
    let replies : total (λ g. f (OwedReply g)) x.replies ≡ 0 = total_ext (λ g. f (OwedReply g)) (λ g. 0) of_rest.replies x.replies ∙ total_zero x.replies in
    omega (
      arith,
      total-append f (map loose_call x.messages) (map OwedReply x.replies),
      total-map f loose_call x.messages,
      total-map f OwedReply x.replies,
      calls,
      replies,
    )

abbrev before_entry : Actor × ℕ → Book → Reply → Value → List Piece → List Piece
before_entry a b reply v others = OwedReply (reply, v) ∷ Body a b ∷ others

abbrev after_entry : Actor × ℕ → Book → Reply → Value → List Piece → List Piece
after_entry a b reply v others = Body a (book_after_reply reply v b) ∷ released_pieces (released_by_reply reply v b) ++ others

module _ (a : Actor × ℕ) (b : Book) (v : Value) (others : List Piece) where
  entry_rest : (reply : Reply) (f : Piece → ℕ) → IsOfTheRest f → total f (before_entry a b reply v others) ≡ total f (after_entry a b reply v others)
  entry_rest reply f of_rest =
      let owed = of_rest.replies (reply, v) in
      let body = of_rest.books a b (book_after_reply reply v b) in
      let out : Released = released_by_reply reply v b in
      omega (arith, owed, body, rest_released f of_rest out, total-append f (released_pieces out) others)

  entry_sendable : (reply : Reply) → total count_unsendable (before_entry a b reply v others) ≡ 0 → total count_unsendable (after_entry a b reply v others) ≡ 0
  entry_sendable reply e =
      let owed = all_good (is_sendable reply && in_range v) (omega (arith, e)) in
      let range = (split (is_sendable reply) (in_range v) owed).1 in
      let out : Released = released_by_reply reply v b in
      let stays = sendable_stays a b reply v range (omega (arith, e)) in
      omega (arith, e, stays, total-append count_unsendable (released_pieces out) others)

  -- nothing of the actor waits but in its book
  owner_tidy : (reply : Reply) → AreGood (before_entry a b reply v others)
      → ((list_all (is_own a.0.name) b.messages ≡ true) × (list_all is_open b.joins ≡ true))
      × ((total (count_strays a.0.name) (things others) ≡ 0) × (total (count_joins a.0.name) (things others) ≡ 0))
  owner_tidy reply good = let t = good.tidy in are_tidy.beside a b others (omega (arith, t)) (passed_once (reply, v) (Body a b ∷ others) good.once)

  token_enters : (n : ℕ) → AreGood (before_entry a b (Tok a.0.name n) v others) → Leads (before_entry a b (Tok a.0.name n) v others) (after_entry a b (Tok a.0.name n) v others)
  token_enters n good =
      let t = good.tidy in
      let mine = owner_tidy (Tok a.0.name n) good in (
        record {
          image = λ bound h. tokens_enter a b n v others bound h mine.0.0 mine.1.0 good.once;
          below = λ m from h. replies_below.tokens m from a b n v others h;
          rest = λ f of_rest. entry_rest (Tok a.0.name n) f of_rest;
        },
        record {
          once = tokens_stand a b n v others good.once;
          tidy = replies_tidy.tokens a b n v others (omega (arith, t));
          sendable = entry_sendable (Tok a.0.name n) good.sendable;
        },
      )

  slot_enters : (n i : ℕ) → AreGood (before_entry a b (Place a.0.name n i) v others) → Leads (before_entry a b (Place a.0.name n i) v others) (after_entry a b (Place a.0.name n i) v others)
  slot_enters n i good =
      let t = good.tidy in
      let mine = owner_tidy (Place a.0.name n i) good in (
        record {
          image = λ bound h. places_enter a b n i v others bound h mine.0.1 mine.1.1 good.once;
          below = λ m from h. replies_below.slots m from a b n i v others mine.0.1 h;
          rest = λ f of_rest. entry_rest (Place a.0.name n i) f of_rest;
        },
        record {
          once = places_stand a b n i v others mine.0.1 good.once;
          tidy = replies_tidy.slots a b n i v others (omega (arith, t));
          sendable = entry_sendable (Place a.0.name n i) good.sendable;
        },
      )

front : (p : Piece) (xs ys : List Piece) → HasSameItems xs ys → HasSameItems (p ∷ xs) (p ∷ ys)
front p xs ys s = record { weighs = λ f. ap (λ k. f p + k) (s.weighs f) }

-- the reply and the body come first, then what the book releases is put back
enters : (n : Name) (r : Resident) (d : Desk) (rest : List Piece) → fm.get d.theatre.residents (name_key n) ≡ Some r → (reply : Reply) (v : Value)
    → (AreGood (before_entry (actor_of r, r.serial) r.book reply v (beside n r d rest)) → Leads (before_entry (actor_of r, r.serial) r.book reply v (beside n r d rest)) (after_entry (actor_of r, r.serial) r.book reply v (beside n r d rest)))
    → AreGood (OwedReply (reply, v) ∷ (desk_pieces d ++ rest)) → Leads (OwedReply (reply, v) ∷ (desk_pieces d ++ rest)) (desk_pieces (enter_book n reply v r d) ++ rest)
enters n r d rest there reply v book good =
    let first : List Piece = OwedReply (reply, v) ∷ (desk_pieces d ++ rest) in
    let second : List Piece = before_entry (actor_of r, r.serial) r.book reply v (beside n r d rest) in
    let third : List Piece = after_entry (actor_of r, r.serial) r.book reply v (beside n r d rest) in
    let last : List Piece = desk_pieces (enter_book n reply v r d) ++ rest in
    let one = by_same first second (front (OwedReply (reply, v)) (desk_pieces d ++ rest) (body_of r ∷ beside n r d rest) (taken_out n r d there rest)) good in
    let two = book one.1 in
    let three = by_same third last (put_back n r d there reply v rest) two.1 in
    chain first third last (chain first second third one two) three

-- entering a book, of an owner with this name
abbrev EntersAs : (Name → Reply) → Value → Resident → List Piece → Name → Type 0
EntersAs reply v r others m =
    AreGood (before_entry (actor_of r, r.serial) r.book (reply m) v others)
    → Leads (before_entry (actor_of r, r.serial) r.book (reply m) v others) (after_entry (actor_of r, r.serial) r.book (reply m) v others)

token_here : (n : Name) (number : ℕ) (v : Value) (r : Resident) (d : Desk) (rest : List Piece) → r.name ≡ n → fm.get d.theatre.residents (name_key n) ≡ Some r
    → AreGood (OwedReply (Tok n number, v) ∷ (desk_pieces d ++ rest)) → Leads (OwedReply (Tok n number, v) ∷ (desk_pieces d ++ rest)) (desk_pieces (enter_book n (Tok n number) v r d) ++ rest)
token_here n number v r d rest named there good =
    enters n r d rest there (Tok n number) v
    (subst (λ (m : Name). EntersAs (λ k. Tok k number) v r (beside n r d rest) m) named (token_enters (actor_of r, r.serial) r.book v (beside n r d rest) number))
    good

slot_here : (n : Name) (join i : ℕ) (v : Value) (r : Resident) (d : Desk) (rest : List Piece) → r.name ≡ n → fm.get d.theatre.residents (name_key n) ≡ Some r
    → AreGood (OwedReply (Place n join i, v) ∷ (desk_pieces d ++ rest)) → Leads (OwedReply (Place n join i, v) ∷ (desk_pieces d ++ rest)) (desk_pieces (enter_book n (Place n join i) v r d) ++ rest)
slot_here n join i v r d rest named there good =
    enters n r d rest there (Place n join i) v
    (subst (λ (m : Name). EntersAs (λ k. Place k join i) v r (beside n r d rest) m) named (slot_enters (actor_of r, r.serial) r.book v (beside n r d rest) join i))
    good

-- ---- replies that go elsewhere

-- a reply that changes nothing inside is dropped, or was told outside
outer : (r : Reply) (v : Value) (ps : List Piece) → is_for_nobody_inside r || not (is_legal v) ≡ true → AreGood (OwedReply (r, v) ∷ ps) → Leads (OwedReply (r, v) ∷ ps) ps
outer r v ps e good =
    let t = good.tidy in
    let s = good.sendable in (
      record {
        image = λ bound h. passed_over r v ps bound h e;
        below = λ n from h. replies_below.others n from (r, v) ps h;
        rest = λ f of_rest. (let z = of_rest.replies (r, v) in omega (arith, z));
      },
      record { once = passed_once (r, v) ps good.once; tidy = omega (arith, t); sendable = omega (arith, s) },
    )

same_desk : (x : Piece) (d e : Desk) (rest : List Piece) → HasSameItems (desk_pieces e) (x ∷ desk_pieces d) → HasSameItems (x ∷ (desk_pieces d ++ rest)) (desk_pieces e ++ rest)
same_desk x d e rest s = same_other (desk_pieces e ++ rest) (x ∷ (desk_pieces d ++ rest)) (same_before (desk_pieces e) (x ∷ desk_pieces d) rest s)

reply_is_whole : (node hops : ℕ) (r : Reply) (v : Value) (d : Desk) (rest : List Piece) → IsSentWhole (envelope.Reply hops r v) → AreGood (OwedReply (r, v) ∷ (desk_pieces d ++ rest))
    → Leads (OwedReply (r, v) ∷ (desk_pieces d ++ rest)) (desk_pieces (send node (envelope.Reply hops r v) d) ++ rest)
unfolding envelope_pieces
reply_is_whole node hops r v d rest whole good =
    by_same (OwedReply (r, v) ∷ (desk_pieces d ++ rest)) (desk_pieces (send node (envelope.Reply hops r v) d) ++ rest)
    (same_desk (OwedReply (r, v)) d (send node (envelope.Reply hops r v) d) rest (adds_pieces node (envelope.Reply hops r v) d whole)) good

not_sent : (node : ℕ) (e : Envelope) (d : Desk) → may_be_sent e ≡ false → d ≡ send node e d
unfolding send
not_sent node e d h = sym (ap (λ (b : Bool). if b then record d { sent = d.sent ++ parcel_to node e ∷ [] } else d) h)

or_true : (b c : Bool) → c ≡ false → (b || not c) ≡ true
or_true true c e = refl
or_true false c e = ap not e

-- a reply that can't be sent has no legal value
reply_goes : (node hops : ℕ) (r : Reply) (v : Value) (d : Desk) (rest : List Piece) → is_inner r ≡ true → AreGood (OwedReply (r, v) ∷ (desk_pieces d ++ rest))
    → Leads (OwedReply (r, v) ∷ (desk_pieces d ++ rest)) (desk_pieces (send node (envelope.Reply hops r v) d) ++ rest)
reply_goes node hops r v d rest inner good = at (may_be_sent (envelope.Reply hops r v)) (is_legal v) refl refl
  where
    fit : (is_sendable r ≡ true) × (in_range v ≡ true)
    fit = let s = good.sendable in split (is_sendable r) (in_range v) (all_good (is_sendable r && in_range v) (omega (arith, s)))

    in_range_both : reply_in_range r && in_range v ≡ true
    in_range_both = let p = split (reply_in_range r) (reply_is_spelled r) fit.0 in λ i. p.0 i && fit.1 i

    at : (b c : Bool) → may_be_sent (envelope.Reply hops r v) ≡ b → is_legal v ≡ c → Leads (OwedReply (r, v) ∷ (desk_pieces d ++ rest)) (desk_pieces (send node (envelope.Reply hops r v) d) ++ rest)
    at true c may legal = reply_is_whole node hops r v d rest (sent_whole (envelope.Reply hops r v) may in_range_both) good
    at false true may legal = absurd (true≢false (sym (reply_is_sent hops r v inner fit.0 legal) ∙ may))
    at false false may legal =
        subst (λ (e : Desk). Leads (OwedReply (r, v) ∷ (desk_pieces d ++ rest)) (desk_pieces e ++ rest)) (not_sent node (envelope.Reply hops r v) d may)
        (outer r v (desk_pieces d ++ rest) (or_true (is_for_nobody_inside r) (is_legal v) legal) good)

reply_goes_on : (n : Name) (hops : ℕ) (r : Reply) (v : Value) (d : Desk) (rest : List Piece) → is_inner r ≡ true → AreGood (OwedReply (r, v) ∷ (desk_pieces d ++ rest))
    → Leads (OwedReply (r, v) ∷ (desk_pieces d ++ rest)) (desk_pieces (send_on n (Answer hops r v) d) ++ rest)
unfolding send_on
reply_goes_on n hops r v d rest inner good = by (next_hop n d.theatre)
  where
    by : (o : Option ℕ) → Leads (OwedReply (r, v) ∷ (desk_pieces d ++ rest)) (desk_pieces (send_by o n (Answer hops r v) d) ++ rest)
    by None =
        by_same (OwedReply (r, v) ∷ (desk_pieces d ++ rest)) (desk_pieces (hold n (Answer hops r v) d) ++ rest)
        (same_desk (OwedReply (r, v)) d (hold n (Answer hops r v) d) rest (items_moved.held n (Answer hops r v) d)) good
    by (Some node) = reply_goes node hops r v d rest inner good

-- ---- any reply

answered : (hops : ℕ) (reply : Reply) (v : Value) (d : Desk) (rest : List Piece) → AreKeyed d.theatre.residents → AreGood (OwedReply (reply, v) ∷ (desk_pieces d ++ rest))
    → Leads (OwedReply (reply, v) ∷ (desk_pieces d ++ rest)) (desk_pieces (route_answer hops reply v d) ++ rest)
unfolding route_answer give_owner
answered hops Nobody v d rest keyed good = outer Nobody v (desk_pieces d ++ rest) refl good
answered hops (Outside number) v d rest keyed good = at (is_legal v)
  where
    at : (b : Bool) → Leads (OwedReply (Outside number, v) ∷ (desk_pieces d ++ rest)) (desk_pieces (if b then tell_answer number v d else d) ++ rest)
    at true = outer (Outside number) v (desk_pieces d ++ rest) refl good
    at false = outer (Outside number) v (desk_pieces d ++ rest) refl good
answered hops (Tok n number) v d rest keyed good = at (fm.get d.theatre.residents (name_key n)) refl
  where
    at : (o : Option Resident) → fm.get d.theatre.residents (name_key n) ≡ o → Leads (OwedReply (Tok n number, v) ∷ (desk_pieces d ++ rest)) (desk_pieces (answer_to o n hops (Tok n number) v d) ++ rest)
    at None e = reply_goes_on n hops (Tok n number) v d rest refl good
    at (Some r) e = token_here n number v r d rest (keyed n r e) e good
answered hops (Place n join i) v d rest keyed good = at (fm.get d.theatre.residents (name_key n)) refl
  where
    at : (o : Option Resident) → fm.get d.theatre.residents (name_key n) ≡ o → Leads (OwedReply (Place n join i, v) ∷ (desk_pieces d ++ rest)) (desk_pieces (answer_to o n hops (Place n join i) v d) ++ rest)
    at None e = reply_goes_on n hops (Place n join i) v d rest refl good
    at (Some r) e = slot_here n join i v r d rest (keyed n r e) e good

-- ---- residents stay under their own names

pub sent_residents : (node : ℕ) (e : Envelope) (d : Desk) → (send node e d).theatre.residents ≡ d.theatre.residents
unfolding send
sent_residents node e d = at (may_be_sent e)
  where
    at : (b : Bool) → (if b then record d { sent = d.sent ++ parcel_to node e ∷ [] } else d).theatre.residents ≡ d.theatre.residents
    at true = refl
    at false = refl

pub asked_residents : (service : ℕ) (u : Uan) (d : Desk) → (ask service u d).theatre.residents ≡ d.theatre.residents
unfolding ask
asked_residents service u d = sent_residents (FIRST_SERVICE + service) (envelope.Get u) (record d { theatre = put_question (awaited u) d.theatre })

first_residents : (n : Name) (d : Desk) → (ask_first n d).theatre.residents ≡ d.theatre.residents
unfolding ask_first
first_residents (name.Uan u) d = by (service_of d.theatre.plan u)
  where
    new : (b : Bool) (service : ℕ) → (if b then d else ask service u d).theatre.residents ≡ d.theatre.residents
    new true service = refl
    new false service = asked_residents service u d

    by : (o : Option ℕ) → (ask_if_new o u d).theatre.residents ≡ d.theatre.residents
    by None = refl
    by (Some service) = new (was_asked u d.theatre) service
first_residents (name.Anon theatre number) d = refl
first_residents (name.Outside number) d = refl

held_residents : (n : Name) (i : Item) (d : Desk) → (hold n i d).theatre.residents ≡ d.theatre.residents
unfolding hold put_held
held_residents n i d = first_residents n (put_held n i d)

sent_on_residents : (n : Name) (i : Item) (d : Desk) → (send_on n i d).theatre.residents ≡ d.theatre.residents
unfolding send_on
sent_on_residents n i d = by (next_hop n d.theatre)
  where
    by : (o : Option ℕ) → (send_by o n i d).theatre.residents ≡ d.theatre.residents
    by None = held_residents n i d
    by (Some node) = sent_residents node (envelope_of i) d

call_residents : (p : Meaning) (hops : ℕ) (m : Message) (d : Desk) → (route_call p hops m d).theatre.residents ≡ d.theatre.residents
unfolding route_call put_delayed
call_residents p hops m d = at (nat_lt 0 m.delay) m.target
  where
    fitting : (b : Bool) → (ready_if b m d).theatre.residents ≡ d.theatre.residents
    fitting true = refl
    fitting false = refl

    there : (o : Option Resident) (n : Name) → (call_to p o n hops m d).theatre.residents ≡ d.theatre.residents
    there (Some r) n = fitting (fits_call p m)
    there None n = sent_on_residents n (Call hops m) d

    at : (b : Bool) (t : Target) → (if b then put_delayed m d else route_to p t hops m d).theatre.residents ≡ d.theatre.residents
    at true t = refl
    at false target.Output = fitting (fits_print m)
    at false (target.Actor n) = there (fm.get d.theatre.residents (name_key n)) n

pub entered_keyed : (n : Name) (reply : Reply) (v : Value) (r : Resident) (d : Desk) → r.name ≡ n → AreKeyed d.theatre.residents → AreKeyed (enter_book n reply v r d).theatre.residents
entered_keyed n reply v r d named keyed q x there =
    let new : Resident = with_book (book_after_reply reply v r.book) r in
    let got = get-write d.theatre.residents (name_key n) (Some new) (name_key q) in
    elim (words_tells (name_key q) (name_key n)) [
      | inl e ↦
          let same : Some new ≡ Some x = sym (got ∙ ap (λ b. cond b (Some new) (fm.get d.theatre.residents (name_key q))) e.0) ∙ there in
          ap (λ (y : Resident). y.name) (sym (some_is same)) ∙ named ∙ sym (same_names q n e.1)
      | inr e ↦ keyed q x (sym (got ∙ ap (λ b. cond b (Some new) (fm.get d.theatre.residents (name_key q))) e.0) ∙ there)
    ]

on_keyed : (n : Name) (i : Item) (d : Desk) → AreKeyed d.theatre.residents → AreKeyed (send_on n i d).theatre.residents
on_keyed n i d keyed = subst (λ (t : Table Resident). AreKeyed t) (sym (sent_on_residents n i d)) keyed

owner_keyed : (n : Name) (hops : ℕ) (reply : Reply) (v : Value) (d : Desk) → AreKeyed d.theatre.residents → AreKeyed (give_owner n hops reply v d).theatre.residents
unfolding give_owner
owner_keyed n hops reply v d keyed = at (fm.get d.theatre.residents (name_key n)) refl
  where
    at : (o : Option Resident) → fm.get d.theatre.residents (name_key n) ≡ o → AreKeyed (answer_to o n hops reply v d).theatre.residents
    at None e = on_keyed n (Answer hops reply v) d keyed
    at (Some r) e = entered_keyed n reply v r d (keyed n r e) keyed

answer_keyed : (hops : ℕ) (reply : Reply) (v : Value) (d : Desk) → AreKeyed d.theatre.residents → AreKeyed (route_answer hops reply v d).theatre.residents
unfolding route_answer
answer_keyed hops Nobody v d keyed = keyed
answer_keyed hops (Outside number) v d keyed = at (is_legal v)
  where
    at : (b : Bool) → AreKeyed (if b then tell_answer number v d else d).theatre.residents
    at true = keyed
    at false = keyed
answer_keyed hops (Tok n number) v d keyed = owner_keyed n hops (Tok n number) v d keyed
answer_keyed hops (Place n join i) v d keyed = owner_keyed n hops (Place n join i) v d keyed

-- ---- one item

fits_again : (p : Meaning) (m : Message) (t : Target) → FitsThere p (without_delay m) t → FitsThere p m t
unfolding fits_call fits_print
fits_again p m target.Output h = h
fits_again p m (target.Actor n) h = h

call_fits : (p : Meaning) (m : Message) (ps : List Piece) → count_untidy (loose_call m) ≡ 0 → ReadyMessagesFit p (waiting_after_replies (things (loose_call m ∷ ps))) → FitsThere p m m.target
call_fits p m ps tidy fit = fits_again p m m.target (fit (message_key m) (without_delay m) there ready)
  where
    ready : is_ready m ≡ true
    ready = all_good (is_ready m) tidy

    there : fm.get (waiting_after_replies (things (loose_call m ∷ ps))).messages (message_key m) ≡ Some (without_delay m)
    there =
        ap (λ ts. fm.get (waiting_after_replies ts).messages (message_key m)) (first_loose m ps)
        ∙ ap (λ (c : Waiting). fm.get c.messages (message_key m)) (ready_beside (without_delay m) (things ps) (all_good (is_ready m) tidy))
        ∙ get-write_same (waiting_after_replies (things ps)).messages (message_key m) (Some (without_delay m))

item_leads : (p : Meaning) (i : Item) (d : Desk) (rest : List Piece) → IsInOrder p (with_first i d) rest → Leads (item_piece i ∷ (desk_pieces d ++ rest)) (desk_pieces (route_item p i d) ++ rest)
unfolding route_item
item_leads p (Call hops m) d rest h =
    let tidy = h.tidy in
    let fits = call_fits p m (desk_pieces d ++ rest) (omega (arith, tidy)) h.fit in
    by_same (loose_call m ∷ (desk_pieces d ++ rest)) (desk_pieces (route_call p hops m d) ++ rest) (same_desk (loose_call m) d (route_call p hops m d) rest (calls_moved p hops m d fits)) (all_good_then p (with_first (Call hops m) d) rest h)
item_leads p (Answer hops r v) d rest h = answered hops r v d rest h.keyed (all_good_then p (with_first (Answer hops r v) d) rest h)

item_keyed : (p : Meaning) (i : Item) (d : Desk) → AreKeyed d.theatre.residents → AreKeyed (route_item p i d).theatre.residents
unfolding route_item
item_keyed p (Call hops m) d keyed = subst (λ (t : Table Resident). AreKeyed t) (sym (call_residents p hops m d)) keyed
item_keyed p (Answer hops r v) d keyed = answer_keyed hops r v d keyed

pub items_unseen : RoutedItemsAreUnseen
items_unseen p i d rest h =
    let leads = item_leads p i d rest h in
    record { unseen = leads.0; order = in_order p (item_piece i ∷ (desk_pieces d ++ rest)) (route_item p i d) rest leads (item_keyed p i d h.keyed) h.fit }

-- ---- the list

pub stays : (p : Meaning) (d : Desk) (rest : List Piece) → IsInOrder p d rest → StaysInOrder p d rest d rest
stays p d rest h = record { unseen = still (desk_pieces d ++ rest); order = h }

pub stays_then : (p : Meaning) (d e g : Desk) (ps qs rs : List Piece) → StaysInOrder p d ps e qs → StaysInOrder p e qs g rs → StaysInOrder p d ps g rs
stays_then p d e g ps qs rs a b = record { unseen = unseen_then (desk_pieces d ++ ps) (desk_pieces e ++ qs) (desk_pieces g ++ rs) a.unseen b.unseen; order = b.order }

front_stays : (p : Meaning) (items : List Item) (d : Desk) (rest : List Piece) → IsInOrder p (record d { work = items }) rest → StaysInOrder p (record d { work = items }) rest (route_front p items (record d { work = items })) rest
front_stays p [] d rest h = stays p (record d { work = [] }) rest h
front_stays p (i ∷ items) d rest h = items_unseen p i (record d { work = items }) rest h

many_stay : (p : Meaning) (n : ℕ) (d : Desk) (rest : List Piece) → IsInOrder p d rest → StaysInOrder p d rest (route_many p n d) rest
unfolding route_many route_one
many_stay p zero d rest h = stays p d rest h
many_stay p (suc n) d rest h =
    let one = front_stays p d.work d rest h in
    stays_then p d (route_one p d) (route_many p n (route_one p d)) rest rest rest one (many_stay p n (route_one p d) rest one.order)

pub routes_unseen : RoutesAreUnseen
unfolding route
routes_unseen p d rest h = many_stay p (items_left d) d rest h
