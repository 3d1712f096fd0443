-- Tidy pieces.
use Rattle.std.proofs.Common.{◌≡◌, ℕ, ◌+◌, Bool, true, false, not, cond, ◌&&◌, List, [], ◌∷◌, ◌++◌, map, filter, refl, sym, ap, ◌∙◌, arith}
use Rattle.std.specs.Prelude.{if◌then◌else◌, flat_map}
use Rattle.std.specs.List.{list_all}
use Rattle.sal_value.specs.declared.name.Name.{Name}
use Rattle.sal_mail.specs.declared.message.Message.{Message}
use Rattle.sal_mail.specs.declared.message.Join.{Join}
use Rattle.sal_mail.specs.declared.message.Reply.{Reply}
use Rattle.sal_mail.specs.declared.effects.Actor.{Actor}
use Rattle.sal_mail.specs.declared.effects.Creation.{Creation}
use Rattle.sal_mail.specs.declared.effects.Effects.{Effects}
use Rattle.sal_mail.specs.Message.{is_ready, without_delay}
use Rattle.sal_handler.specs.WellFormed.{EachOf, IsGoodMessage}
use Rattle.sal_source.specs.Table.{key_eq, total}
use Rattle.sal_source.specs.Keys.{creation_key, name_key, actor_key}
use Rattle.sal_source.specs.Step as s
use Rattle.sal_source.proofs.Same.{total-append, total-map}
use Rattle.sal_source.proofs.Tables.{words_refl, same_words}
use Rattle.sal_source.proofs.Keeping.{split}
use Rattle.sal_book.specs.Book.{Book, is_open, is_waiting, full_replies, book_after_entry}
use Rattle.sal_pieces.specs.Pieces.{Piece, Body, LooseCall, OwedReply, WaitingCreation, Put, Decision, Thing, ActorThing, JoinThing, CreationThing, message_thing, is_decided, piece_things, things}
use Rattle.sal_pieces.specs.Once.{one_if_key, actor_key_in, count_at_key, StandOnce}
use Rattle.sal_pieces.specs.Entering.{is_own, count_strays, count_joins}
use Rattle.sal_pieces.specs.Steps.{handler_pieces, actor_names, creation_pieces, actor_after, count_untidy, PiecesAreTidy}
use Rattle.sal_pieces.proofs.Order.{total_ext}
use Rattle.sal_pieces.proofs.Stepping.{total_zero, first_body}
use Rattle.sal_pieces.proofs.Handling.{parts_total, work_total}

pub tidy_book : (b c : Bool) → ◌≡◌ {A = ℕ} (if b && c then 0 else 1) 0 → (b ≡ true) × (c ≡ true)
tidy_book true true e = (refl, refl)
tidy_book true false e = absurd (omega (arith, e))
tidy_book false c e = absurd (omega (arith, e))

unlike : (b : Bool) → ◌≡◌ {A = ℕ} (if b then 1 else 0) 0 → b ≡ false
unlike true e = absurd (omega (arith, e))
unlike false e = refl

-- ---- what another actor's book and loose pieces have

module _ (n : Name) where
  other_messages : (o : Name) (ms : List Message) → key_eq (name_key n) (name_key o) ≡ false → list_all (is_own o) ms ≡ true → total (λ m. count_strays n (message_thing m)) ms ≡ 0
  other_messages o [] apart own = refl
  other_messages o (m ∷ ms) apart own =
      let p = split (is_own o m) (list_all (is_own o) ms) own in
      let maker : name_key o ≡ name_key m.maker = same_words (name_key o) (name_key m.maker) p.0 in
      let no : is_own n m ≡ false = ap (key_eq (name_key n)) (sym maker) ∙ apart in
      let none : count_strays n (message_thing m) ≡ 0 = ap (λ (b : Bool). if◌then◌else◌ {A = ℕ} (b && not (is_ready m)) 1 0) no in
      omega (arith, none, other_messages o ms apart p.1)

  other_joins : (o : Name) (js : List Join) → key_eq (name_key n) (name_key o) ≡ false → total (λ j. count_joins n (JoinThing (o, j))) js ≡ 0
  other_joins o [] apart = refl
  other_joins o (j ∷ js) apart =
      let none : count_joins n (JoinThing (o, j)) ≡ 0 = ap (λ (b : Bool). if◌then◌else◌ {A = ℕ} b 1 0) apart in
      omega (arith, none, other_joins o js apart)

  ready_stray : (m : Message) → ◌≡◌ {A = ℕ} (if is_ready m then 0 else 1) 0 → count_strays n (message_thing m) ≡ 0
  ready_stray m e = at (is_own n m) (is_ready m) e
    where
      at : (b c : Bool) → ◌≡◌ {A = ℕ} (if c then 0 else 1) 0 → ◌≡◌ {A = ℕ} (if b && not c then 1 else 0) 0
      at true true e = refl
      at true false e = absurd (omega (arith, e))
      at false c e = refl

  abbrev Clean : List Thing → Type 0
  Clean ts = (total (count_strays n) ts ≡ 0) × (total (count_joins n) ts ≡ 0)

  clean_pending : (b c : Bool) (x : Name × Creation) → Clean (if b then ActorThing (s.bound_actor x.1, 0) ∷ [] else if c then [] else CreationThing x ∷ [])
  clean_pending true c x = (refl, refl)
  clean_pending false true x = (refl, refl)
  clean_pending false false x = (refl, refl)

  clean_piece : (ps : List Piece) (p : Piece) → count_untidy p ≡ 0 → count_at_key actor_key_in (name_key n) (piece_things ps p) ≡ 0 → Clean (piece_things ps p)
  clean_piece ps (Body a b) e none =
      let t = tidy_book (list_all (is_own a.0.name) b.messages) (list_all is_open b.joins) e in
      let apart : key_eq (name_key n) (name_key a.0.name) ≡ false = unlike (key_eq (name_key n) (name_key a.0.name)) (omega (arith, none)) in
      let pends : List Thing = map message_thing b.messages in
      let opens : List Thing = map (λ j. JoinThing (a.0.name, j)) b.joins in (
        omega (
          arith,
          total-append (count_strays n) pends opens,
          total-map (count_strays n) message_thing b.messages,
          total-map (count_strays n) (λ j. JoinThing (a.0.name, j)) b.joins,
          other_messages a.0.name b.messages apart t.0,
          total_zero b.joins,
        ),
        omega (
          arith,
          total-append (count_joins n) pends opens,
          total-map (count_joins n) message_thing b.messages,
          total-map (count_joins n) (λ j. JoinThing (a.0.name, j)) b.joins,
          other_joins a.0.name b.joins apart,
          total_zero b.messages,
        ),
      )
  clean_piece ps (LooseCall m) e none = let z = ready_stray m e in (omega (arith, z), refl)
  clean_piece ps (OwedReply g) e none = (refl, refl)
  clean_piece ps (WaitingCreation x) e none = clean_pending (is_decided (creation_key x) true ps) (is_decided (creation_key x) false ps) x
  clean_piece ps (Put k u) e none = (refl, refl)
  clean_piece ps (Decision k b) e none = (refl, refl)

  clean_all : (ps qs : List Piece) → total count_untidy qs ≡ 0 → count_at_key actor_key_in (name_key n) (flat_map (piece_things ps) qs) ≡ 0 → Clean (flat_map (piece_things ps) qs)
  clean_all ps [] e none = (refl, refl)
  clean_all ps (p ∷ qs) e none =
      let counts = total-append (λ t. one_if_key (name_key n) (actor_key_in t)) (piece_things ps p) (flat_map (piece_things ps) qs) in
      let here = clean_piece ps p (omega (arith, e)) (omega (arith, none, counts)) in
      let there = clean_all ps qs (omega (arith, e)) (omega (arith, none, counts)) in
      let h0 = here.0 in
      let h1 = here.1 in
      let t0 = there.0 in
      let t1 = there.1 in (
        omega (arith, h0, t0, total-append (count_strays n) (piece_things ps p) (flat_map (piece_things ps) qs)),
        omega (arith, h1, t1, total-append (count_joins n) (piece_things ps p) (flat_map (piece_things ps) qs)),
      )

nothing_else : (a : Actor × ℕ) (b : Book) (others : List Piece) → StandOnce (things (Body a b ∷ others)) → count_at_key actor_key_in (actor_key a) (things others) ≡ 0
nothing_else a b others once =
    let few = once.actors (actor_key a) in
    let one : one_if_key (actor_key a) (actor_key_in (ActorThing a)) ≡ 1 = ap (λ (c : Bool). if◌then◌else◌ {A = ℕ} c 1 0) (words_refl (actor_key a)) in
    let split_up = ap (count_at_key actor_key_in (actor_key a)) (first_body a b others) in
    omega (arith, few, one, split_up, total-append (λ t. one_if_key (actor_key a) (actor_key_in t)) (map message_thing b.messages ++ map (λ j. JoinThing (a.0.name, j)) b.joins) (things others))

pub clean_things : (n : Name) (others : List Piece) → total count_untidy others ≡ 0 → count_at_key actor_key_in (name_key n) (things others) ≡ 0 → (total (count_strays n) (things others) ≡ 0) × (total (count_joins n) (things others) ≡ 0)
unfolding things
clean_things n others e none = clean_all n others others e none

-- ---- what a handler leaves

all_append : {A : Type 0} (p : A → Bool) (xs ys : List A) → list_all p xs ≡ true → list_all p ys ≡ true → list_all p (xs ++ ys) ≡ true
all_append p [] ys a b = b
all_append p (x ∷ xs) ys a b = let q = split (p x) (list_all p xs) a in λ i. q.0 i && all_append p xs ys q.1 b i

all_own : (me : Name) (caller : Reply) (from to : ℕ) (sizes : List ℕ) (ms : List Message) → EachOf (IsGoodMessage me caller from to sizes) ms → list_all (is_own me) (filter is_waiting ms) ≡ true
all_own me caller from to sizes [] h = refl
all_own me caller from to sizes (m ∷ ms) h = at (is_waiting m) (all_own me caller from to sizes ms h.1)
  where
    own : is_own me m ≡ true
    own = ap (λ k. key_eq (name_key me) (name_key k)) h.0.maker ∙ words_refl (name_key me)

    at : (b : Bool) → list_all (is_own me) (filter is_waiting ms) ≡ true → list_all (is_own me) (cond b (m ∷ filter is_waiting ms) (filter is_waiting ms)) ≡ true
    at true e = λ i. own i && e i
    at false e = e

pub all_open : (js : List Join) → list_all is_open (filter is_open js) ≡ true
all_open [] = refl
all_open (j ∷ js) = at (is_open j) refl (all_open js)
  where
    at : (b : Bool) → is_open j ≡ b → list_all is_open (filter is_open js) ≡ true → list_all is_open (cond b (j ∷ filter is_open js) (filter is_open js)) ≡ true
    at true o e = λ i. o i && e i
    at false o e = e

pub ready_tidy : (ms : List Message) → total (λ m. count_untidy (LooseCall (without_delay m))) (filter is_ready ms) ≡ 0
ready_tidy [] = refl
ready_tidy (m ∷ ms) = at (is_ready m) refl (ready_tidy ms)
  where
    at : (b : Bool) → is_ready m ≡ b → total (λ x. count_untidy (LooseCall (without_delay x))) (filter is_ready ms) ≡ 0 → total (λ x. count_untidy (LooseCall (without_delay x))) (cond b (m ∷ filter is_ready ms) (filter is_ready ms)) ≡ 0
    at true r e = let z : count_untidy (LooseCall (without_delay m)) ≡ 0 = ap (λ (c : Bool). if◌then◌else◌ {A = ℕ} c 0 1) r in omega (arith, z, e)
    at false r e = e

created_tidy : (asks : Creation → Bool) (me : Name) (x : Creation) → total count_untidy (creation_pieces asks me x) ≡ 0
created_tidy asks me x = at (asks x)
  where
    at : (t : Bool) → 0 + total count_untidy (if t then Put (Rattle.sal_source.specs.Keys.made_key me x.serial) x.name ∷ [] else []) ≡ 0
    at true = omega arith
    at false = omega arith

entered_tidy : (a : Actor × ℕ) (e : Effects) (b : Book) (caller : Reply) (sizes : List ℕ) → EachOf (IsGoodMessage a.0.name caller a.1 e.serial sizes) e.messages → count_untidy (Body a b) ≡ 0
    → count_untidy (Body (actor_after e a) (book_after_entry e.messages e.joins b)) ≡ 0
entered_tidy a e b caller sizes good tidy =
    let t = tidy_book (list_all (is_own a.0.name) b.messages) (list_all is_open b.joins) tidy in
    let own = all_append (is_own a.0.name) b.messages (filter is_waiting e.messages) t.0 (all_own a.0.name caller a.1 e.serial sizes e.messages good) in
    let opens = all_append is_open b.joins (filter is_open e.joins) t.1 (all_open e.joins) in
    λ i. if own i && opens i then 0 else 1

pub are_tidy : PiecesAreTidy
are_tidy = record {
  beside = λ a b others e once.
      let t = tidy_book (list_all (is_own a.0.name) b.messages) (list_all is_open b.joins) (omega (arith, e)) in
      ((t.0, t.1), clean_things a.0.name others (omega (arith, e)) (nothing_else a b others once));
  handled = λ outcomes sizes e m a b asks rest bound h tidy.
      let body : count_untidy (Body (actor_after e a) (book_after_entry e.messages e.joins b)) ≡ 0 = entered_tidy a e b m.reply sizes h.orderly.messages (omega (arith, tidy)) in
      let made : total (λ x. total count_untidy (creation_pieces asks a.0.name x)) e.creations ≡ 0 = total_ext (λ x. total count_untidy (creation_pieces asks a.0.name x)) (λ x. 0) (created_tidy asks a.0.name) e.creations ∙ total_zero e.creations in
      omega (
        arith,
        tidy,
        body,
        made,
        parts_total asks e m a b rest count_untidy,
        work_total asks e m a b rest count_untidy,
        ready_tidy e.messages,
        total_zero e.actors,
        total_zero (full_replies e.joins),
        total_zero (s.answer_replies e.answer m.reply),
      );
}
