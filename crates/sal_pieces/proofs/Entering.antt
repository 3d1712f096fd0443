-- A token's reply enters its owner's book.
use Rattle.std.proofs.Common.{◌≡◌, ℕ, ◌+◌, ◌≤◌, Bool, true, false, not, cond, ◌&&◌, List, [], ◌∷◌, ◌++◌, map, Option, Some, None, refl, sym, ap, subst, ◌∙◌, arith, true≢false, append_assoc}
use Rattle.std.specs.Prelude.{if◌then◌else◌, filter, filter_map, flat_map, nat_lt, option_map}
use Rattle.std.specs.List.{cons_option, list_all}
use Rattle.std.proofs.lemmas.Bool.{and_parts}
use Rattle.std.proofs.lemmas.List.{map-append}
use Rattle.std.specs.FinMap as fm
use Rattle.sal_value.specs.declared.name.Name.{Name}
use Rattle.sal_value.specs.declared.value.Value.{Value}
use Rattle.sal_value.specs.Spelling.{is_legal}
use Rattle.sal_mail.specs.declared.effects.Creation.{Creation}
use Rattle.sal_mail.specs.declared.message.Piece.{Piece as Argument}
use Rattle.sal_mail.specs.declared.message.Piece.TheVariants.{Known, Token}
use Rattle.sal_mail.specs.declared.message.Reply.TheVariants.{Tok}
use Rattle.sal_mail.specs.declared.message.Message.{Message}
use Rattle.sal_mail.specs.declared.message.Join.{Join}
use Rattle.sal_mail.specs.declared.effects.Actor.{Actor}
use Rattle.sal_mail.specs.ReplyKeys.{reply_key}
use Rattle.sal_mail.specs.Message.{is_known, is_none_left, is_ready, piece_with_reply, is_other, with_reply, without_delay}
use Rattle.sal_source.specs.Table.{TableKey, key_eq, table_of, table_map, total, HasSameItems}
use Rattle.sal_source.specs.Keys.{made_key, creation_key, name_key, message_key, actor_key}
use Rattle.sal_source.specs.code.Lists.{first_at_key}
use Rattle.sal_source.specs.Configuration.{Waiting}
use Rattle.sal_source.specs.Give.{DueReply, resolve, give_one, settle_all}
use Rattle.sal_source.proofs.Same.{total-append, total-map}
use Rattle.sal_source.proofs.Tables.{same_table, get-map, get-table_of}
use Rattle.sal_source.proofs.Fuel.{give_first}
use Rattle.sal_book.specs.Book.{Book, is_waiting, book_after_legal, released_by_legal}
use Rattle.sal_pieces.specs.Pieces.{Piece, Body, LooseCall, OwedReply, WaitingCreation, Put, Decision, Thing, ActorThing, MessageThing, JoinThing, CreationThing, ReplyThing, message_thing, loose_call, decides, creation_things, piece_things, things, released_pieces}
use Rattle.sal_pieces.specs.Image.{History, message_in, reply_in, actor_in, join_in, creation_in, anonymous_in, waiting_before_replies, waiting_after_replies, image_of}
use Rattle.sal_pieces.specs.Once.{one_if_key, actor_key_in, message_key_in, join_key_in, creation_key_in, count_owed, StandOnce}
use Rattle.sal_pieces.specs.Steps.{IsBelow}
use Rattle.sal_pieces.specs.Entering.{is_own, count_strays}
use Rattle.sal_pieces.proofs.Order.{total_ext, same_made}

-- ---- what a with_reply reply does to messages

both : (a b : Bool) → (a && b) ≡ true → (a ≡ true) × (b ≡ true)
both a b e = and_parts a b e

args_same : (n : ℕ) (v : Value) (args : List Argument) → list_all is_known args ≡ true → map (piece_with_reply n v) args ≡ args
args_same n v [] e = refl
args_same n v (Known x ∷ args) e = ap (λ zs. Known x ∷ zs) (args_same n v args e)
args_same n v (Token k ∷ args) e = absurd (true≢false (sym e))

after_same : (n : ℕ) (ks : List ℕ) → is_none_left ks ≡ true → filter (is_other n) ks ≡ ks
after_same n [] e = refl
after_same n (k ∷ ks) e = absurd (true≢false (sym e))

-- what is ready stays as it is
pub ready_same : (n : ℕ) (v : Value) (m : Message) → is_ready m ≡ true → with_reply n v m ≡ m
ready_same n v m e =
    let p = both (list_all is_known m.args) (is_none_left m.after) e in
    let args = args_same n v m.args p.0 in
    let after = after_same n m.after p.1 in
    λ i. record m { args = args i; after = after i }

-- a message that is no stray isn't resolved
no_stray : (o : Name) (n : ℕ) (v : Value) (m : Message) → count_strays o (MessageThing m) ≡ 0 → resolve o n v m ≡ m
no_stray o n v m e = at (is_own o m) (is_ready m) refl e
  where
    at : (b c : Bool) → is_ready m ≡ c → ◌≡◌ {A = ℕ} (if b && not c then 1 else 0) 0 → cond b (with_reply n v m) m ≡ m
    at true true r e = ready_same n v m r
    at true false r e = absurd (omega (arith, e))
    at false c r e = refl

pub none_strays : (o : Name) (n : ℕ) (v : Value) (ts : List Thing) → total (count_strays o) ts ≡ 0 → map (resolve o n v) (filter_map message_in ts) ≡ filter_map message_in ts
none_strays o n v [] e = refl
none_strays o n v (ActorThing a ∷ ts) e = none_strays o n v ts (omega (arith, e))
none_strays o n v (JoinThing j ∷ ts) e = none_strays o n v ts (omega (arith, e))
none_strays o n v (CreationThing x ∷ ts) e = none_strays o n v ts (omega (arith, e))
none_strays o n v (ReplyThing g ∷ ts) e = none_strays o n v ts (omega (arith, e))
none_strays o n v (MessageThing m ∷ ts) e =
    let here : count_strays o (MessageThing m) ≡ 0 = omega (arith, e) in
    let there : total (count_strays o) ts ≡ 0 = omega (arith, e) in
    λ i. no_stray o n v m here i ∷ none_strays o n v ts there i

own_told : (o : Name) (n : ℕ) (v : Value) (ms : List Message) → list_all (is_own o) ms ≡ true → map (resolve o n v) (map without_delay ms) ≡ map without_delay (map (with_reply n v) ms)
own_told o n v [] e = refl
own_told o n v (m ∷ ms) e =
    let p = both (is_own o m) (list_all (is_own o) ms) e in
    λ i. cond (p.0 i) (without_delay (with_reply n v m)) (without_delay m) ∷ own_told o n v ms p.1 i

-- ---- tables

found_map : (f : Message → Message) → ((m : Message) → message_key (f m) ≡ message_key m) → (q : TableKey) (ms : List Message) → option_map f (first_at_key message_key q ms) ≡ first_at_key message_key q (map f ms)
found_map f same q [] = refl
found_map f same q (m ∷ ms) =
    at (key_eq q (message_key m)) (found_map f same q ms) ∙ ap (λ (k : TableKey). cond (key_eq q k) (Some (f m)) (first_at_key message_key q (map f ms))) (sym (same m))
  where
    at : (b : Bool) → option_map f (first_at_key message_key q ms) ≡ first_at_key message_key q (map f ms) → option_map f (cond b (Some m) (first_at_key message_key q ms)) ≡ cond b (Some (f m)) (first_at_key message_key q (map f ms))
    at true e = refl
    at false e = e

pub map_table : (f : Message → Message) → ((m : Message) → message_key (f m) ≡ message_key m) → (ms : List Message) → table_map f (table_of message_key ms) ≡ table_of message_key (map f ms)
map_table f same ms =
    same_table _ _ (λ q. get-map f (table_of message_key ms) q ∙ ap (option_map f) (get-table_of message_key ms q) ∙ found_map f same q ms ∙ sym (get-table_of message_key (map f ms) q))

pub resolved_key : (o : Name) (n : ℕ) (v : Value) (m : Message) → message_key (resolve o n v m) ≡ message_key m
resolved_key o n v m = at (key_eq (name_key o) (name_key m.maker))
  where
    at : (b : Bool) → message_key (cond b (with_reply n v m) m) ≡ message_key m
    at true = refl
    at false = refl

-- ---- sums

pub total_parted : {A : Type 0} (f : A → ℕ) (p : A → Bool) (xs : List A) → total f (filter (λ x. not (p x)) xs) + total f (filter p xs) ≡ total f xs
total_parted f p [] = omega arith
total_parted {A} f p (x ∷ xs) = at (p x) (total_parted f p xs)
  where
    at : (b : Bool) → total f (filter (λ y. not (p y)) xs) + total f (filter p xs) ≡ total f xs
        → total f (cond (not b) (x ∷ filter (λ y. not (p y)) xs) (filter (λ y. not (p y)) xs)) + total f (cond b (x ∷ filter p xs) (filter p xs)) ≡ f x + total f xs
    at true e = omega (arith, e)
    at false e = omega (arith, e)

total_nought : {A : Type 0} (xs : List A) → total (λ x. 0) xs ≡ 0
total_nought [] = refl
total_nought (x ∷ xs) = omega (arith, total_nought xs)

-- ---- the things of a book and the others

module _ {X : Type 0} (h : Thing → Option X) (none : (m : Message) → h (MessageThing m) ≡ None) where
  past_messages : (ms : List Message) (ks : List Thing) → filter_map h (map message_thing ms ++ ks) ≡ filter_map h ks
  past_messages [] ks = refl
  past_messages (m ∷ ms) ks = ap (λ (o : Option X). cons_option o (filter_map h (map message_thing ms ++ ks))) (none (without_delay m)) ∙ past_messages ms ks

pub the_messages : (ms : List Message) (ks : List Thing) → filter_map message_in (map message_thing ms ++ ks) ≡ map without_delay ms ++ filter_map message_in ks
the_messages [] ks = refl
the_messages (m ∷ ms) ks = ap (λ zs. without_delay m ∷ zs) (the_messages ms ks)

module _ (a : Actor × ℕ) (ms : List Message) (n : ℕ) (v : Value) (ks : List Thing) where
  o : Name
  o = a.0.name

  -- before the reply is given, and after
  abbrev before : List Thing
  before = ReplyThing (Tok a.0.name n, v) ∷ ActorThing a ∷ (map message_thing ms ++ ks)

  abbrev after : List Thing
  after = ActorThing a ∷ (map message_thing (map (with_reply n v) ms) ++ ks)

  tables : list_all (is_own a.0.name) ms ≡ true → total (count_strays a.0.name) ks ≡ 0
      → table_map (resolve a.0.name n v) (table_of message_key (filter_map message_in before)) ≡ table_of message_key (filter_map message_in after)
  tables own stray =
      map_table (resolve a.0.name n v) (resolved_key a.0.name n v) (filter_map message_in before)
      ∙ ap (λ zs. table_of message_key (map (resolve a.0.name n v) zs)) (the_messages ms ks)
      ∙ ap (table_of message_key) (map-append (resolve a.0.name n v) (map without_delay ms) (filter_map message_in ks) ∙ (λ i. own_told a.0.name n v ms own i ++ none_strays a.0.name n v ks stray i) ∙ sym (the_messages (map (with_reply n v) ms) ks))

  count_waiting : is_legal v ≡ true → list_all (is_own a.0.name) ms ≡ true → total (count_strays a.0.name) ks ≡ 0 → waiting_after_replies before ≡ waiting_after_replies after
  unfolding waiting_before_replies
  count_waiting legal own stray =
      let replies : filter_map reply_in before ≡ (Tok a.0.name n, v) ∷ filter_map reply_in ks = ap (λ zs. (Tok a.0.name n, v) ∷ zs) (past_messages reply_in (λ m. refl) ms ks) in
      let others : filter_map reply_in after ≡ filter_map reply_in ks = past_messages reply_in (λ m. refl) (map (with_reply n v) ms) ks in
      let joins : filter_map join_in before ≡ filter_map join_in after = past_messages join_in (λ m. refl) ms ks ∙ sym (past_messages join_in (λ m. refl) (map (with_reply n v) ms) ks) in
      let old : Waiting = waiting_before_replies before in
      let given_now : give_one (Tok a.0.name n, v) old ≡ waiting_before_replies after =
      ap (λ (b : Bool). cond b (record old { messages = table_map (resolve a.0.name n v) old.messages }) old) legal
      ∙ (λ i. record { messages = tables own stray i; joins = table_of Rattle.sal_source.specs.Keys.join_key (joins i) }) in
      let nothing : (b : Bool) → cond {A = List DueReply} b [] [] ++ filter_map reply_in ks ≡ filter_map reply_in ks = λ b. elim b as (λ (c : Bool). cond {A = List DueReply} c [] [] ++ filter_map reply_in ks ≡ filter_map reply_in ks) [ true ↦ refl | false ↦ refl ] in
      ap (λ gs. settle_all gs old) replies ∙ give_first (Tok a.0.name n, v) (filter_map reply_in ks) old
      ∙ (λ i. settle_all (nothing (is_legal v) i) (given_now i)) ∙ ap (λ gs. settle_all gs (waiting_before_replies after)) (sym others)

  made : (bound : List TableKey) (w : History) → is_legal v ≡ true → list_all (is_own a.0.name) ms ≡ true → total (count_strays a.0.name) ks ≡ 0 → image_of bound before w ≡ image_of bound after w
  unfolding image_of
  made bound w legal own stray =
      let told_ms : List Message = map (with_reply n v) ms in
      let actors : filter_map actor_in before ≡ filter_map actor_in after = ap (λ zs. a ∷ zs) (past_messages actor_in (λ m. refl) ms ks ∙ sym (past_messages actor_in (λ m. refl) told_ms ks)) in
      let creations : filter_map creation_in before ≡ filter_map creation_in after = past_messages creation_in (λ m. refl) ms ks ∙ sym (past_messages creation_in (λ m. refl) told_ms ks) in
      let names : filter_map anonymous_in before ≡ filter_map anonymous_in after =
      ap (λ zs. cons_option (anonymous_in (ActorThing a)) zs) (past_messages anonymous_in (λ m. refl) ms ks ∙ sym (past_messages anonymous_in (λ m. refl) told_ms ks)) in
      λ i. record {
        actors = table_of actor_key (actors i);
        given = Rattle.std.specs.FinSet.from_list (names i ++ bound);
        creations = table_of Rattle.sal_source.specs.Keys.creation_key (creations i);
        waiting = count_waiting legal own stray i;
        output = w.output;
        faults = w.faults;
        answers = w.answers;
        posted = w.posted;
      }

  -- no thing comes more often than before
  fewer : (f : Thing → ℕ) → ((m : Message) → f (message_thing (with_reply n v m)) ≡ f (message_thing m)) → total f after ≤ total f before
  fewer f same =
      let told_ones : total f (map message_thing (map (with_reply n v) ms)) ≡ total f (map message_thing ms) =
      total-map f message_thing (map (with_reply n v) ms) ∙ total-map (λ (m : Message). f (message_thing m)) (with_reply n v) ms ∙ total_ext (λ (m : Message). f (message_thing (with_reply n v m))) (λ (m : Message). f (message_thing m)) same ms ∙ sym (total-map f message_thing ms) in
      omega (arith, told_ones, total-append f (map message_thing (map (with_reply n v) ms)) ks, total-append f (map message_thing ms) ks)

  stands : StandOnce before → StandOnce after
  stands h = record {
    actors = λ k. (let e = fewer (λ t. one_if_key k (actor_key_in t)) (λ m. refl) in let u = h.actors k in omega arith);
    messages = λ k. (let e = fewer (λ t. one_if_key k (message_key_in t)) (λ m. refl) in let u = h.messages k in omega arith);
    joins = λ k. (let e = fewer (λ t. one_if_key k (join_key_in t)) (λ m. refl) in let u = h.joins k in omega arith);
    creations = λ k. (let e = fewer (λ t. one_if_key k (creation_key_in t)) (λ m. refl) in let u = h.creations k in omega arith);
    replies = λ r some. (let e = fewer (count_owed (reply_key r)) (λ m. refl) in let u = h.replies r some in omega arith);
  }

  -- nothing more stands from a number on
  below : (me : Name) (from : ℕ) → IsBelow me from (before) → IsBelow me from (after)
  below me from h = record {
    messages = λ k high. (let e = fewer (λ t. one_if_key (made_key me k) (message_key_in t)) (λ m. refl) in let u = h.messages k high in omega arith);
    joins = λ k high. (let e = fewer (λ t. one_if_key (made_key me k) (join_key_in t)) (λ m. refl) in let u = h.joins k high in omega arith);
    creations = λ k high. (let e = fewer (λ t. one_if_key (made_key me k) (creation_key_in t)) (λ m. refl) in let u = h.creations k high in omega arith);
    replies = λ r late. (let e = fewer (count_owed (reply_key r)) (λ m. refl) in let u = h.replies r late in omega arith);
  }

-- ---- the pieces beside

like_pending : (ps qs : List Piece) (y : Name × Creation) → ((key : TableKey) (b : Bool) → total (decides key b) ps ≡ total (decides key b) qs) → creation_things ps y ≡ creation_things qs y
like_pending ps qs y agree =
    let yes = agree (creation_key y) true in
    let never = agree (creation_key y) false in
    λ i. if nat_lt 0 (yes i) then ActorThing (Rattle.sal_source.specs.Step.bound_actor y.1, 0) ∷ [] else if nat_lt 0 (never i) then [] else CreationThing y ∷ []

like_piece : (ps qs : List Piece) → ((key : TableKey) (b : Bool) → total (decides key b) ps ≡ total (decides key b) qs) → (p : Piece) → piece_things ps p ≡ piece_things qs p
like_piece ps qs agree (Body a b) = refl
like_piece ps qs agree (LooseCall m) = refl
like_piece ps qs agree (OwedReply g) = refl
like_piece ps qs agree (WaitingCreation y) = like_pending ps qs y agree
like_piece ps qs agree (Put k u) = refl
like_piece ps qs agree (Decision k b) = refl

pub like_rest : (ps qs : List Piece) → ((key : TableKey) (b : Bool) → total (decides key b) ps ≡ total (decides key b) qs) → (rest : List Piece) → flat_map (piece_things ps) rest ≡ flat_map (piece_things qs) rest
like_rest ps qs agree [] = refl
like_rest ps qs agree (p ∷ rest) = λ i. like_piece ps qs agree p i ++ like_rest ps qs agree rest i

-- ---- what is loose

loose_things : (qs : List Piece) (xs : List Message) (rest : List Piece) → flat_map (piece_things qs) ((map loose_call xs ++ []) ++ rest) ≡ map message_thing xs ++ flat_map (piece_things qs) rest
loose_things qs [] rest = refl
loose_things qs (x ∷ xs) rest = ap (λ zs. message_thing x ∷ zs) (loose_things qs xs rest)

loose_decide : (key : TableKey) (c : Bool) (xs : List Message) → total (decides key c) (map loose_call xs ++ []) ≡ 0
loose_decide key c [] = refl
loose_decide key c (x ∷ xs) = omega (arith, loose_decide key c xs)

-- ---- the law

open_things : Actor × ℕ → Book → List Thing
open_things a b = map (λ j. JoinThing (a.0.name, j)) b.joins

no_strays : (a : Actor × ℕ) (js : List Join) → total (count_strays a.0.name) (map (λ j. JoinThing (a.0.name, j)) js) ≡ 0
no_strays a [] = refl
no_strays a (j ∷ js) = omega (arith, no_strays a js)

first_things : (a : Actor × ℕ) (b : Book) (n : ℕ) (v : Value) (rest : List Piece)
    → things (OwedReply (Tok a.0.name n, v) ∷ Body a b ∷ rest) ≡ before a b.messages n v (open_things a b ++ things rest)
unfolding things open_things
first_things a b n v rest =
    let ps : List Piece = OwedReply (Tok a.0.name n, v) ∷ Body a b ∷ rest in
    let same : flat_map (piece_things ps) rest ≡ flat_map (piece_things rest) rest = like_rest ps rest (λ key c. omega arith) rest in
    ap (λ zs. ReplyThing (Tok a.0.name n, v) ∷ ActorThing a ∷ ((map message_thing b.messages ++ map (λ j. JoinThing (a.0.name, j)) b.joins) ++ zs)) same
    ∙ ap (λ zs. ReplyThing (Tok a.0.name n, v) ∷ ActorThing a ∷ zs) (append_assoc (map message_thing b.messages) (map (λ j. JoinThing (a.0.name, j)) b.joins) (flat_map (piece_things rest) rest))

last_things : (a : Actor × ℕ) (b : Book) (n : ℕ) (v : Value) (rest : List Piece)
    → HasSameItems (after a b.messages n v (open_things a b ++ things rest)) (things (Body a (book_after_legal (Tok a.0.name n) v b) ∷ released_pieces (released_by_legal (Tok a.0.name n) v b) ++ rest))
unfolding things open_things
last_things a b n v rest = record {
  weighs = λ f.
      let told_ms : List Message = map (with_reply n v) b.messages in
      let waiting_ms : List Message = filter is_waiting told_ms in
      let ready_ms : List Message = filter is_ready told_ms in
      let js : List Thing = map (λ j. JoinThing (a.0.name, j)) b.joins in
      let qs : List Piece = Body a (book_after_legal (Tok a.0.name n) v b) ∷ released_pieces (released_by_legal (Tok a.0.name n) v b) ++ rest in
      let same : flat_map (piece_things qs) rest ≡ flat_map (piece_things rest) rest =
      like_rest qs rest (λ key c. omega (arith, total-append (decides key c) (released_pieces (released_by_legal (Tok a.0.name n) v b)) rest, loose_decide key c ready_ms)) rest in
      let rs : List Thing = flat_map (piece_things rest) rest in
      let loose_ones : flat_map (piece_things qs) (released_pieces (released_by_legal (Tok a.0.name n) v b) ++ rest) ≡ map message_thing ready_ms ++ rs = loose_things qs ready_ms rest ∙ ap (λ zs. map message_thing ready_ms ++ zs) same in
      let parts = total_parted (λ (m : Message). f (message_thing m)) is_ready told_ms in
      let all : total f (map message_thing told_ms) ≡ total (λ m. f (message_thing m)) told_ms = total-map f message_thing told_ms in
      let some : total f (map message_thing waiting_ms) ≡ total (λ m. f (message_thing m)) waiting_ms = total-map f message_thing waiting_ms in
      let ready : total f (map message_thing ready_ms) ≡ total (λ m. f (message_thing m)) ready_ms = total-map f message_thing ready_ms in
      let tail : total f (flat_map (piece_things qs) (released_pieces (released_by_legal (Tok a.0.name n) v b) ++ rest)) ≡ total f (map message_thing ready_ms) + total f rs = ap (total f) loose_ones ∙ total-append f (map message_thing ready_ms) rs in
      omega (
        arith,
        parts,
        all,
        some,
        ready,
        tail,
        total-append f (map message_thing told_ms) (js ++ rs),
        total-append f js rs,
        total-append f (map message_thing waiting_ms) js,
        total-append f (map message_thing waiting_ms ++ js) (flat_map (piece_things qs) (released_pieces (released_by_legal (Tok a.0.name n) v b) ++ rest)),
      );
}

few_strays : (a : Actor × ℕ) (b : Book) (rest : List Piece) → total (count_strays a.0.name) (things rest) ≡ 0 → total (count_strays a.0.name) (open_things a b ++ things rest) ≡ 0
unfolding open_things
few_strays a b rest stray = omega (arith, total-append (count_strays a.0.name) (map (λ j. JoinThing (a.0.name, j)) b.joins) (things rest), no_strays a b.joins, stray)

pub legal_tokens :
    (a : Actor × ℕ) (b : Book) (n : ℕ) (v : Value) (rest : List Piece) (bound : List TableKey) (w : History) → is_legal v ≡ true
    → list_all (is_own a.0.name) b.messages ≡ true → total (count_strays a.0.name) (things rest) ≡ 0
    → StandOnce (things (OwedReply (Tok a.0.name n, v) ∷ Body a b ∷ rest))
    → image_of bound (things (OwedReply (Tok a.0.name n, v) ∷ Body a b ∷ rest)) w
    ≡ image_of bound (things (Body a (book_after_legal (Tok a.0.name n) v b) ∷ released_pieces (released_by_legal (Tok a.0.name n) v b) ++ rest)) w
legal_tokens a b n v rest bound w legal own stray once =
    let ks : List Thing = open_things a b ++ things rest in
    let first = first_things a b n v rest in
    let few : total (count_strays a.0.name) ks ≡ 0 = few_strays a b rest stray in
    let now : StandOnce (before a b.messages n v ks) = subst (λ (ts : List Thing). StandOnce ts) first once in
    ap (λ ts. image_of bound ts w) first ∙ made a b.messages n v ks bound w legal own few
    ∙ same_made (after a b.messages n v ks) (things (Body a (book_after_legal (Tok a.0.name n) v b) ∷ released_pieces (released_by_legal (Tok a.0.name n) v b) ++ rest)) bound w (last_things a b n v rest) (stands a b.messages n v ks now)

-- the same things in another order stand once too
pub once_same : (ts us : List Thing) → HasSameItems ts us → StandOnce ts → StandOnce us
once_same ts us t h = record {
  actors = λ k. (let e = t.weighs (λ x. one_if_key k (actor_key_in x)) in let o = h.actors k in omega arith);
  messages = λ k. (let e = t.weighs (λ x. one_if_key k (message_key_in x)) in let o = h.messages k in omega arith);
  joins = λ k. (let e = t.weighs (λ x. one_if_key k (join_key_in x)) in let o = h.joins k in omega arith);
  creations = λ k. (let e = t.weighs (λ x. one_if_key k (creation_key_in x)) in let o = h.creations k in omega arith);
  replies = λ r n. (let e = t.weighs (count_owed (reply_key r)) in let o = h.replies r n in omega arith);
}

pub tokens_once : (a : Actor × ℕ) (b : Book) (n : ℕ) (v : Value) (rest : List Piece) → StandOnce (things (OwedReply (Tok a.0.name n, v) ∷ Body a b ∷ rest))
    → StandOnce (things (Body a (book_after_legal (Tok a.0.name n) v b) ∷ released_pieces (released_by_legal (Tok a.0.name n) v b) ++ rest))
tokens_once a b n v rest once =
    let ks : List Thing = open_things a b ++ things rest in
    let now : StandOnce (before a b.messages n v ks) = subst (λ (ts : List Thing). StandOnce ts) (first_things a b n v rest) once in
    once_same (after a b.messages n v ks) (things (Body a (book_after_legal (Tok a.0.name n) v b) ∷ released_pieces (released_by_legal (Tok a.0.name n) v b) ++ rest)) (last_things a b n v rest) (stands a b.messages n v ks now)

below_same : (me : Name) (from : ℕ) (ts us : List Thing) → HasSameItems ts us → IsBelow me from ts → IsBelow me from us
below_same me from ts us t h = record {
  messages = λ k high. (let e = t.weighs (λ x. one_if_key (made_key me k) (message_key_in x)) in let o = h.messages k high in omega arith);
  joins = λ k high. (let e = t.weighs (λ x. one_if_key (made_key me k) (join_key_in x)) in let o = h.joins k high in omega arith);
  creations = λ k high. (let e = t.weighs (λ x. one_if_key (made_key me k) (creation_key_in x)) in let o = h.creations k high in omega arith);
  replies = λ r late. (let e = t.weighs (count_owed (reply_key r)) in let o = h.replies r late in omega arith);
}

pub tokens_below : (me : Name) (from : ℕ) (a : Actor × ℕ) (b : Book) (n : ℕ) (v : Value) (rest : List Piece) → IsBelow me from (things (OwedReply (Tok a.0.name n, v) ∷ Body a b ∷ rest))
    → IsBelow me from (things (Body a (book_after_legal (Tok a.0.name n) v b) ∷ released_pieces (released_by_legal (Tok a.0.name n) v b) ++ rest))
tokens_below me from a b n v rest old =
    let ks : List Thing = open_things a b ++ things rest in
    let now : IsBelow me from (before a b.messages n v ks) = subst (λ (ts : List Thing). IsBelow me from ts) (first_things a b n v rest) old in
    below_same me from (after a b.messages n v ks) (things (Body a (book_after_legal (Tok a.0.name n) v b) ∷ released_pieces (released_by_legal (Tok a.0.name n) v b) ++ rest)) (last_things a b n v rest) (below a b.messages n v ks me from now)
