-- What becomes of creations.
use Rattle.std.proofs.Common.{◌≡◌, inl, inr, ℕ, Bool, true, false, not, ◌&&◌, List, [], ◌∷◌, ◌++◌, refl, sym, ap, ◌∙◌, arith}
use Rattle.std.specs.Prelude.{◌≢◌, if◌then◌else◌, flat_map, nat_lt}
use Rattle.sal_value.specs.declared.name.Uan.{Uan}
use Rattle.sal_value.specs.declared.name.Name.{Name}
use Rattle.sal_mail.specs.declared.effects.Creation.{Creation}
use Rattle.sal_source.specs.Keys.{creation_key}
use Rattle.sal_source.specs.Table.{TableKey, total}
use Rattle.sal_source.specs.Step.{bound_actor}
use Rattle.sal_source.proofs.Tables.{words_refl, words_tells, words_apart}
use Rattle.sal_book.specs.Book.{new_book}
use Rattle.sal_pieces.specs.Pieces.{Piece, Body, LooseCall, OwedReply, WaitingCreation, Put, Decision, Thing, ActorThing, CreationThing, decides, creation_things, piece_things, things}
use Rattle.sal_pieces.specs.Order.{count_waiting, IsAlone, CreationsAreDecided}

-- two lists of pieces decide all creations alike but for those with one key
Agree : TableKey → List Piece → List Piece → Type 0
Agree k ps qs = (key : TableKey) (b : Bool) → key ≢ k → total (decides key b) ps ≡ total (decides key b) qs

same_pending : (k : TableKey) (ps qs : List Piece) (y : Name × Creation) → Agree k ps qs → creation_key y ≢ k → creation_things ps y ≡ creation_things qs y
unfolding Agree
same_pending k ps qs y agree apart =
    let yes = agree (creation_key y) true apart in
    let never = agree (creation_key y) false apart in
    λ i. if nat_lt 0 (yes i) then ActorThing (bound_actor y.1, 0) ∷ [] else if nat_lt 0 (never i) then [] else CreationThing y ∷ []

same_piece : (k : TableKey) (ps qs : List Piece) → Agree k ps qs → (p : Piece) → count_waiting k p ≡ 0 → piece_things ps p ≡ piece_things qs p
same_piece k ps qs agree (Body a b) e = refl
same_piece k ps qs agree (LooseCall m) e = refl
same_piece k ps qs agree (OwedReply g) e = refl
same_piece k ps qs agree (WaitingCreation y) e = elim (words_tells k (creation_key y)) [
  | inl s ↦ let one : count_waiting k (WaitingCreation y) ≡ 1 = ap (λ (b : Bool). if◌then◌else◌ {A = ℕ} b 1 0) s.0 in absurd (omega (arith, e, one))
  | inr s ↦ same_pending k ps qs y agree (λ z. s.1 (sym z))
]
same_piece k ps qs agree (Put j u) e = refl
same_piece k ps qs agree (Decision j b) e = refl

same_rest : (k : TableKey) (ps qs : List Piece) → Agree k ps qs → (rest : List Piece) → total (count_waiting k) rest ≡ 0 → flat_map (piece_things ps) rest ≡ flat_map (piece_things qs) rest
same_rest k ps qs agree [] e = refl
same_rest k ps qs agree (p ∷ rest) e =
    let here : count_waiting k p ≡ 0 = omega (arith, e) in
    let there : total (count_waiting k) rest ≡ 0 = omega (arith, e) in
    λ i. same_piece k ps qs agree p here i ++ same_rest k ps qs agree rest there i

-- ---- with the creation and its answer in front

apart_one : (key k : TableKey) (b c : Bool) → key ≢ k → decides key b (Decision k c) ≡ 0
apart_one key k b c apart = ap (λ (t : Bool). if◌then◌else◌ {A = ℕ} (t && (if c then b else not b)) 1 0) (words_apart key k apart)

decided_agree : (x : Name × Creation) (c : Bool) (rest : List Piece) → Agree (creation_key x) (WaitingCreation x ∷ Decision (creation_key x) c ∷ rest) rest
unfolding Agree
decided_agree x c rest key b apart = omega (arith, apart_one key (creation_key x) b c apart)

asked_agree : (x : Name × Creation) (u : Uan) (rest : List Piece) → Agree (creation_key x) (WaitingCreation x ∷ Put (creation_key x) u ∷ rest) rest
unfolding Agree
asked_agree x u rest key b apart = omega arith

-- what the numbers of answers say
verdict : (m n : ℕ) (x : Name × Creation) → List Thing
verdict m n x = if nat_lt 0 m then ActorThing (bound_actor x.1, 0) ∷ [] else if nat_lt 0 n then [] else CreationThing x ∷ []

own : (k : TableKey) (b : Bool) → decides k b (Decision k b) ≡ 1
own k true = ap (λ (t : Bool). if◌then◌else◌ {A = ℕ} (t && true) 1 0) (words_refl k)
own k false = ap (λ (t : Bool). if◌then◌else◌ {A = ℕ} (t && true) 1 0) (words_refl k)

other : (k : TableKey) → decides k true (Decision k false) ≡ 0
other k = ap (λ (t : Bool). if◌then◌else◌ {A = ℕ} (t && false) 1 0) (words_refl k)

counter : (k : TableKey) → decides k false (Decision k true) ≡ 0
counter k = ap (λ (t : Bool). if◌then◌else◌ {A = ℕ} (t && false) 1 0) (words_refl k)

pending : (x : Name × Creation) (u : Uan) (rest : List Piece) → IsAlone (creation_key x) rest → things (WaitingCreation x ∷ Put (creation_key x) u ∷ rest) ≡ CreationThing x ∷ things rest
unfolding things verdict
pending x u rest h =
    let k = creation_key x in
    let yes : total (decides k true) (WaitingCreation x ∷ Put k u ∷ rest) ≡ 0 = let e = h.bound in omega (arith, e) in
    let never : total (decides k false) (WaitingCreation x ∷ Put k u ∷ rest) ≡ 0 = let e = h.refused in omega (arith, e) in
    λ i. verdict (yes i) (never i) x ++ same_rest k (WaitingCreation x ∷ Put k u ∷ rest) rest (asked_agree x u rest) rest h.count_waiting i

bound : (x : Name × Creation) (rest : List Piece) → IsAlone (creation_key x) rest → things (WaitingCreation x ∷ Decision (creation_key x) true ∷ rest) ≡ ActorThing (bound_actor x.1, 0) ∷ things rest
unfolding things verdict
bound x rest h =
    let k = creation_key x in
    let yes : total (decides k true) (WaitingCreation x ∷ Decision k true ∷ rest) ≡ 1 = let e = h.bound in omega (arith, e, own k true) in
    let never : total (decides k false) (WaitingCreation x ∷ Decision k true ∷ rest) ≡ 0 = let e = h.refused in omega (arith, e, counter k) in
    λ i. verdict (yes i) (never i) x ++ same_rest k (WaitingCreation x ∷ Decision k true ∷ rest) rest (decided_agree x true rest) rest h.count_waiting i

refused : (x : Name × Creation) (rest : List Piece) → IsAlone (creation_key x) rest → things (WaitingCreation x ∷ Decision (creation_key x) false ∷ rest) ≡ things rest
unfolding things verdict
refused x rest h =
    let k = creation_key x in
    let yes : total (decides k true) (WaitingCreation x ∷ Decision k false ∷ rest) ≡ 0 = let e = h.bound in omega (arith, e, other k) in
    let never : total (decides k false) (WaitingCreation x ∷ Decision k false ∷ rest) ≡ 1 = let e = h.refused in omega (arith, e, own k false) in
    λ i. verdict (yes i) (never i) x ++ same_rest k (WaitingCreation x ∷ Decision k false ∷ rest) rest (decided_agree x false rest) rest h.count_waiting i

-- an actor with an empty book decides nothing
body_agree : (x : Name × Creation) (rest : List Piece) → Agree (creation_key x) (Body (bound_actor x.1, 0) new_book ∷ rest) rest
unfolding Agree
body_agree x rest key b apart = omega arith

installed : (x : Name × Creation) (rest : List Piece) → IsAlone (creation_key x) rest → things (WaitingCreation x ∷ Decision (creation_key x) true ∷ rest) ≡ things (Body (bound_actor x.1, 0) new_book ∷ rest)
unfolding things
installed x rest h =
    bound x rest h
    ∙ ap (λ ts. ActorThing (bound_actor x.1, 0) ∷ ts) (sym (same_rest (creation_key x) (Body (bound_actor x.1, 0) new_book ∷ rest) rest (body_agree x rest) rest h.count_waiting))

pub are_decided : CreationsAreDecided
are_decided = record { pending = pending; bound = bound; installed = installed; refused = refused }
