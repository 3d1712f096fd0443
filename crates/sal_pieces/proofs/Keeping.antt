-- What holds of pieces is kept.
use Rattle.std.proofs.Common.{◌≡◌, ◌≢◌, inl, inr, ℕ, ◌+◌, ◌≤◌, Bool, true, false, cond, ◌&&◌, List, [], ◌∷◌, ◌++◌, map, filter, Option, refl, sym, ap, subst, ◌∙◌, arith}
use Rattle.std.specs.Prelude.{if◌then◌else◌, filter_map}
use Rattle.std.specs.List.{list_all}
use Rattle.sal_value.specs.declared.name.Name.{Name}
use Rattle.sal_value.specs.declared.name.Name.TheVariants as name
use Rattle.sal_value.specs.declared.value.Value.{Value}
use Rattle.sal_value.specs.declared.value.Value.TheVariants.{Null}
use Rattle.sal_value.specs.Spelling.{is_legal}
use Rattle.sal_mail.specs.declared.message.Reply.{Reply}
use Rattle.sal_mail.specs.declared.message.Reply.TheVariants.{Nobody, Tok, Place, Outside}
use Rattle.sal_mail.specs.declared.message.Message.{Message}
use Rattle.sal_mail.specs.declared.message.Join.{Join}
use Rattle.sal_mail.specs.declared.effects.Actor.{Actor}
use Rattle.sal_mail.specs.declared.effects.Creation.{Creation}
use Rattle.sal_mail.specs.ReplyKeys.{reply_key, owes}
use Rattle.sal_mail.specs.Message.{is_ready, with_reply, without_delay}
use Rattle.sal_source.specs.Table.{TableKey, key_eq, total}
use Rattle.sal_source.specs.Keys.{name_key, made_key, message_key, creation_key}
use Rattle.sal_source.specs.Give.{DueReply}
use Rattle.sal_source.specs.Posts.{post_message}
use Rattle.sal_source.proofs.Tables.{words_apart}
use Rattle.sal_source.proofs.Same.{total-append, total-map}
use Rattle.sal_source.proofs.Keeping.{split, same_made}
use Rattle.sal_book.specs.Book.{Book, is_open, is_waiting, full_replies, join_after, filled_joins, none_released, book_after_legal, released_by_legal}
use Rattle.sal_pieces.specs.Pieces.{Piece, Body, LooseCall, OwedReply, WaitingCreation, Put, Decision, Thing, ActorThing, MessageThing, CreationThing, ReplyThing, loose_call, released_pieces, things}
use Rattle.sal_pieces.specs.Once.{one_if_key, message_key_in, join_key_in, creation_key_in, count_at_key, count_owed}
use Rattle.sal_pieces.specs.Entering.{is_own}
use Rattle.sal_pieces.specs.Steps.{IsLate, IsBelow, count_untidy}
use Rattle.sal_pieces.specs.Keeping.{RepliesKeepBelow, RepliesKeepTidy, StepsKeepBelow}
use Rattle.sal_pieces.proofs.Entering.{tokens_below, like_rest}
use Rattle.sal_pieces.proofs.Placing.{placed, places_below, left_is}
use Rattle.sal_pieces.proofs.Stepping.{total_zero, first_loose, first_owed}
use Rattle.sal_pieces.proofs.Creations.{are_decided}
use Rattle.sal_pieces.proofs.Tidy.{tidy_book, all_open, ready_tidy}

-- ---- fewer things

less_below : (me : Name) (from : ℕ) (ts us : List Thing) → ((f : Thing → ℕ) → total f us ≤ total f ts) → IsBelow me from ts → IsBelow me from us
less_below me from ts us less h = record {
  messages = λ k high. (let l = less (λ t. one_if_key (made_key me k) (message_key_in t)) in let z = h.messages k high in omega (arith, l, z));
  joins = λ k high. (let l = less (λ t. one_if_key (made_key me k) (join_key_in t)) in let z = h.joins k high in omega (arith, l, z));
  creations = λ k high. (let l = less (λ t. one_if_key (made_key me k) (creation_key_in t)) in let z = h.creations k high in omega (arith, l, z));
  replies = λ r late. (let l = less (count_owed (reply_key r)) in let z = h.replies r late in omega (arith, l, z));
}

tail_below : (me : Name) (from : ℕ) (t : Thing) (ts : List Thing) → IsBelow me from (t ∷ ts) → IsBelow me from ts
tail_below me from t ts h = less_below me from (t ∷ ts) ts (λ f. omega arith) h

others_below : (me : Name) (from : ℕ) (g : DueReply) (rest : List Piece) → IsBelow me from (things (OwedReply g ∷ rest)) → IsBelow me from (things rest)
others_below me from g rest h = tail_below me from (ReplyThing g) (things rest) (subst (λ (ts : List Thing). IsBelow me from ts) (first_owed g rest) h)

calls_below : (me : Name) (from : ℕ) (m : Message) (rest : List Piece) → IsBelow me from (things (loose_call m ∷ rest)) → IsBelow me from (MessageThing (without_delay m) ∷ things rest)
calls_below me from m rest h = subst (λ (ts : List Thing). IsBelow me from ts) (first_loose m rest) h

pub replies_below : RepliesKeepBelow
replies_below = record {
  tokens = λ me from a b n v rest h. tokens me from a b n v rest h (is_legal v);
  slots = λ me from a b n i v rest every h. slots me from a b n i v rest every h (is_legal v);
  others = others_below;
}
  where
    tokens : (me : Name) (from : ℕ) (a : Actor × ℕ) (b : Book) (n : ℕ) (v : Value) (rest : List Piece) → IsBelow me from (things (OwedReply (Tok a.0.name n, v) ∷ Body a b ∷ rest)) → (c : Bool)
        → IsBelow me from (things (Body a (if c then book_after_legal (Tok a.0.name n) v b else b) ∷ released_pieces (if c then released_by_legal (Tok a.0.name n) v b else none_released) ++ rest))
    tokens me from a b n v rest h true = tokens_below me from a b n v rest h
    tokens me from a b n v rest h false = others_below me from (Tok a.0.name n, v) (Body a b ∷ rest) h

    slots : (me : Name) (from : ℕ) (a : Actor × ℕ) (b : Book) (n i : ℕ) (v : Value) (rest : List Piece) → list_all is_open b.joins ≡ true → IsBelow me from (things (OwedReply (Place a.0.name n i, v) ∷ Body a b ∷ rest)) → (c : Bool)
        → IsBelow me from (things (Body a (if c then book_after_legal (Place a.0.name n i) v b else b) ∷ released_pieces (if c then released_by_legal (Place a.0.name n i) v b else none_released) ++ rest))
    slots me from a b n i v rest every h true = places_below me from a b n i v rest every h
    slots me from a b n i v rest every h false = others_below me from (Place a.0.name n i, v) (Body a b ∷ rest) h

-- ---- tidy pieces

own_still : (o : Name) (n : ℕ) (v : Value) (ms : List Message) → list_all (is_own o) ms ≡ true → list_all (is_own o) (filter is_waiting (map (with_reply n v) ms)) ≡ true
own_still o n v [] e = refl
own_still o n v (m ∷ ms) e =
    let p = split (is_own o m) (list_all (is_own o) ms) e in
    at (is_waiting (with_reply n v m)) p.0 (own_still o n v ms p.1)
  where
    at : (b : Bool) → is_own o m ≡ true → list_all (is_own o) (filter is_waiting (map (with_reply n v) ms)) ≡ true
        → list_all (is_own o) (cond b (with_reply n v m ∷ filter is_waiting (map (with_reply n v) ms)) (filter is_waiting (map (with_reply n v) ms))) ≡ true
    at true own rest = λ i. own i && rest i
    at false own rest = rest

owed_tidy : (gs : List DueReply) → total count_untidy (map OwedReply gs) ≡ 0
owed_tidy [] = refl
owed_tidy (g ∷ gs) = omega (arith, owed_tidy gs)

tidy_is : (b c : Bool) → b ≡ true → c ≡ true → ◌≡◌ {A = ℕ} (if b && c then 0 else 1) 0
tidy_is b c e f = λ i. if e i && f i then 0 else 1

pub replies_tidy : RepliesKeepTidy
replies_tidy = record {
  tokens = λ a b n v rest tidy. tokens a b n v rest tidy (is_legal v);
  slots = λ a b n i v rest tidy. slots a b n i v rest tidy (is_legal v);
}
  where
    tokens : (a : Actor × ℕ) (b : Book) (n : ℕ) (v : Value) (rest : List Piece) → total count_untidy (Body a b ∷ rest) ≡ 0 → (c : Bool)
        → total count_untidy (Body a (if c then book_after_legal (Tok a.0.name n) v b else b) ∷ released_pieces (if c then released_by_legal (Tok a.0.name n) v b else none_released) ++ rest) ≡ 0
    tokens a b n v rest tidy false = tidy
    tokens a b n v rest tidy true =
        let t = tidy_book (list_all (is_own a.0.name) b.messages) (list_all is_open b.joins) (omega (arith, tidy)) in
        let ms : List Message = map (with_reply n v) b.messages in
        let body : count_untidy (Body a (book_after_legal (Tok a.0.name n) v b)) ≡ 0 = tidy_is (list_all (is_own a.0.name) (filter is_waiting ms)) (list_all is_open b.joins) (own_still a.0.name n v b.messages t.0) t.1 in
        omega (
          arith,
          tidy,
          body,
          total-append count_untidy (map loose_call (filter is_ready ms) ++ []) rest,
          total-append count_untidy (map loose_call (filter is_ready ms)) [],
          total-map count_untidy loose_call (filter is_ready ms),
          ready_tidy ms,
        )

    slots : (a : Actor × ℕ) (b : Book) (n i : ℕ) (v : Value) (rest : List Piece) → total count_untidy (Body a b ∷ rest) ≡ 0 → (c : Bool)
        → total count_untidy (Body a (if c then book_after_legal (Place a.0.name n i) v b else b) ∷ released_pieces (if c then released_by_legal (Place a.0.name n i) v b else none_released) ++ rest) ≡ 0
    slots a b n i v rest tidy false = tidy
    slots a b n i v rest tidy true =
        let t = tidy_book (list_all (is_own a.0.name) b.messages) (list_all is_open b.joins) (omega (arith, tidy)) in
        let opens : list_all is_open (filter_map (join_after n i v) b.joins) ≡ true = ap (list_all is_open) (left_is n i v b.joins t.1) ∙ all_open (placed n i v b.joins) in
        let body : count_untidy (Body a (book_after_legal (Place a.0.name n i) v b)) ≡ 0 = tidy_is (list_all (is_own a.0.name) b.messages) (list_all is_open (filter_map (join_after n i v) b.joins)) t.0 opens in
        let gs : List DueReply = full_replies (filled_joins n i v b.joins) in
        omega (arith, tidy, body, total-append count_untidy (map OwedReply gs) rest, owed_tidy gs)

-- ---- steps

print_below : (me : Name) (from : ℕ) (m : Message) (ts : List Thing) → IsBelow me from (MessageThing m ∷ ts) → IsBelow me from (ReplyThing (m.reply, Null) ∷ ts)
print_below me from m ts h = record {
  messages = λ k high. (let z = h.messages k high in omega (arith, z));
  joins = λ k high. h.joins k high;
  creations = λ k high. h.creations k high;
  replies = λ r late. h.replies r late;
}

post_below : (me : Name) (from number : ℕ) (m : Message) (ts : List Thing) → me ≢ name.Outside number → m.maker ≡ name.Outside number → m.reply ≡ Outside number → IsBelow me from ts → IsBelow me from (MessageThing m ∷ ts)
post_below me from number m ts other maker reply h = record {
  messages = λ k high. (let z = h.messages k high in let n = not_mine k in omega (arith, z, n));
  joins = λ k high. (let z = h.joins k high in omega (arith, z));
  creations = λ k high. (let z = h.creations k high in omega (arith, z));
  replies = λ r late. (let z = h.replies r late in let n = not_late r late in omega (arith, z, n));
}
  where
    not_mine : (k : ℕ) → one_if_key (made_key me k) (message_key_in (MessageThing m)) ≡ 0
    not_mine k = ap (λ (b : Bool). if◌then◌else◌ {A = ℕ} b 1 0) (words_apart (made_key me k) (message_key m) (λ same. other ((same_made me m.maker k m.serial same).0 ∙ maker)))

    not_late : (r : Reply) → IsLate me from r → owes (reply_key r) m.reply ≡ 0
    not_late Nobody l = absurd l
    not_late (Outside n) l = absurd l
    not_late (Tok o n) l = ap (owes (reply_key (Tok o n))) reply ∙ refl
    not_late (Place o j i) l = ap (owes (reply_key (Place o j i))) reply ∙ refl

pub steps_below : StepsKeepBelow
steps_below = record {
  prints = λ me from m rest h. subst (λ (ts : List Thing). IsBelow me from ts) (sym (first_owed (m.reply, Null) rest)) (print_below me from (without_delay m) (things rest) (calls_below me from m rest h));
  failures = λ me from m rest h. tail_below me from (MessageThing (without_delay m)) (things rest) (calls_below me from m rest h);
  posts = λ me from number to behavior handler args rest other h.
      subst (λ (ts : List Thing). IsBelow me from ts) (sym (first_loose (post_message number to behavior handler args) rest))
      (post_below me from number (without_delay (post_message number to behavior handler args)) (things rest) other refl refl h);
  bindings = λ me from x u rest alone h.
      let now : IsBelow me from (CreationThing x ∷ things rest) = subst (λ (ts : List Thing). IsBelow me from ts) (are_decided.pending x u rest alone) h in
      subst (λ (ts : List Thing). IsBelow me from ts) (sym (are_decided.bound x rest alone)) (bound_below me from x (things rest) now);
  refusals = λ me from x u rest alone h.
      let now : IsBelow me from (CreationThing x ∷ things rest) = subst (λ (ts : List Thing). IsBelow me from ts) (are_decided.pending x u rest alone) h in
      subst (λ (ts : List Thing). IsBelow me from ts) (sym (are_decided.refused x rest alone)) (tail_below me from (CreationThing x) (things rest) now);
}
  where
    bound_below : (me : Name) (from : ℕ) (x : Name × Creation) (ts : List Thing) → IsBelow me from (CreationThing x ∷ ts) → IsBelow me from (ActorThing (Rattle.sal_source.specs.Step.bound_actor x.1, 0) ∷ ts)
    bound_below me from x ts h = record {
      messages = λ k high. h.messages k high;
      joins = λ k high. h.joins k high;
      creations = λ k high. (let z = h.creations k high in omega (arith, z));
      replies = λ r late. h.replies r late;
    }
