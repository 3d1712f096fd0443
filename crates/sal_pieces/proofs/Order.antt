-- The same pieces make the same configuration.
use Rattle.std.proofs.Common.{◌≡◌, ℕ, ◌+◌, ◌≤◌, Bool, true, false, cond, ◌||◌, List, [], ◌∷◌, ◌++◌, map, Option, Some, None, refl, sym, ap, subst, ◌∙◌, arith, true≢false}
use Rattle.std.specs.Prelude.{if◌then◌else◌, filter_map, flat_map, nat_lt}
use Rattle.std.specs.List.{cons_option, list_any}
use Rattle.std.proofs.lemmas.Bool.{lt-ltb}
use Rattle.std.proofs.lemmas.Cmp.{nat_list_cmp_total}
use Rattle.std.specs.Coded.{Coded, coded×, coded_ℕ}
use Rattle.std.specs.FinMap as fm
use Rattle.std.specs.FinSet as fs
use Rattle.sal_value.specs.contracts.name.Name.{the_row as name_row}
use Rattle.sal_mail.specs.contracts.message.Message.{the_row as message_row}
use Rattle.sal_mail.specs.contracts.message.Join.{the_row as join_row}
use Rattle.sal_mail.specs.contracts.effects.Actor.{the_row as actor_row}
use Rattle.sal_mail.specs.contracts.effects.Creation.{the_row as creation_row}
use Rattle.sal_value.specs.declared.name.Name.{Name}
use Rattle.sal_mail.specs.declared.message.Message.{Message}
use Rattle.sal_mail.specs.declared.message.Join.{Join}
use Rattle.sal_mail.specs.declared.effects.Creation.{Creation}
use Rattle.sal_mail.specs.ReplyKeys.{reply_key, owes}
use Rattle.sal_source.specs.Table.{TableKey, key_cmp, key_eq, table_of, total, sum_values, HasSameItems}
use Rattle.sal_source.specs.Keys.{actor_key, message_key, join_key, creation_key}
use Rattle.sal_source.specs.code.Lists.{first_at_key}
use Rattle.sal_source.specs.Give.{DueReply, settle_all}
use Rattle.sal_source.specs.Laws.{times_owed, IsOwedOnce}
use Rattle.sal_source.proofs.Same.{total-append, Test, test_of}
use Rattle.sal_source.proofs.Tables.{some_is, words_anti, same_table, get-table_of}
use Rattle.sal_source.proofs.Weights.{weight_of, weigh-write}
use Rattle.sal_source.proofs.Commute.{commute}
use Rattle.sal_pieces.specs.Pieces.{Piece, Body, LooseCall, OwedReply, WaitingCreation, Put, Decision, Thing, ActorThing, MessageThing, JoinThing, CreationThing, ReplyThing, decides, creation_things, piece_things, things}
use Rattle.sal_pieces.specs.Image.{History, actor_in, message_in, join_in, creation_in, reply_in, anonymous_in, waiting_before_replies, waiting_after_replies, image_of}
use Rattle.sal_pieces.specs.Once.{one_if_key, actor_key_in, message_key_in, join_key_in, creation_key_in, count_at_key, count_owed, StandOnce}
use Rattle.sal_pieces.specs.Order.{ImagesForgetOrder}

pub some_apart : {A : Type 0} {x : A} {B : Type 0} → ◌≡◌ {A = Option A} None (Some x) → B
some_apart {A} {x} {B} e = subst (λ (o : Option A). is o) e tt
  where
    is : Option A → Type 0
    is None = Unit {0}
    is (Some y) = B

-- ---- sums

pub total_ext : {A : Type 0} (f g : A → ℕ) → ((x : A) → f x ≡ g x) → (xs : List A) → total f xs ≡ total g xs
total_ext f g e [] = refl
total_ext f g e (x ∷ xs) = λ i. e x i + total_ext f g e xs i

pub total_flat : {A B : Type 0} (f : B → ℕ) (g : A → List B) (xs : List A) → total f (flat_map g xs) ≡ total (λ x. total f (g x)) xs
total_flat f g [] = refl
total_flat f g (x ∷ xs) = total-append f (g x) (flat_map g xs) ∙ ap (λ n. total f (g x) + n) (total_flat f g xs)

total_option : {B : Type 0} (f : B → ℕ) (o : Option B) (ys : List B) → total f (cons_option o ys) ≡ weight_of f o + total f ys
total_option f None ys = omega arith
total_option f (Some y) ys = refl

pub total_filter : {A B : Type 0} (f : B → ℕ) (h : A → Option B) (xs : List A) → total f (filter_map h xs) ≡ total (λ x. weight_of f (h x)) xs
total_filter f h [] = refl
total_filter f h (x ∷ xs) = total_option f (h x) (filter_map h xs) ∙ ap (λ n. weight_of f (h x) + n) (total_filter f h xs)

pub same_filter : {A B : Type 0} (h : A → Option B) (xs ys : List A) → HasSameItems xs ys → HasSameItems (filter_map h xs) (filter_map h ys)
same_filter h xs ys s = record { weighs = λ f. total_filter f h xs ∙ s.weighs (λ x. weight_of f (h x)) ∙ sym (total_filter f h ys) }

pub same_before : {A : Type 0} (xs ys zs : List A) → HasSameItems xs ys → HasSameItems (xs ++ zs) (ys ++ zs)
same_before xs ys zs s = record { weighs = λ f. total-append f xs zs ∙ ap (λ n. n + total f zs) (s.weighs f) ∙ sym (total-append f ys zs) }

-- ---- things

same_pending : (ps qs : List Piece) (x : Name × Creation) → HasSameItems ps qs → creation_things ps x ≡ creation_things qs x
same_pending ps qs x s =
    let yes = s.weighs (decides (creation_key x) true) in
    let never = s.weighs (decides (creation_key x) false) in
    λ i. if nat_lt 0 (yes i) then ActorThing (Rattle.sal_source.specs.Step.bound_actor x.1, 0) ∷ [] else if nat_lt 0 (never i) then [] else CreationThing x ∷ []

same_piece : (ps qs : List Piece) → HasSameItems ps qs → (p : Piece) → piece_things ps p ≡ piece_things qs p
same_piece ps qs s (Body a b) = refl
same_piece ps qs s (LooseCall m) = refl
same_piece ps qs s (OwedReply g) = refl
same_piece ps qs s (WaitingCreation x) = same_pending ps qs x s
same_piece ps qs s (Put k u) = refl
same_piece ps qs s (Decision k b) = refl

same_things : (ps qs : List Piece) → HasSameItems ps qs → HasSameItems (things ps) (things qs)
unfolding things
same_things ps qs s = record {
  weighs = λ f.
      total_flat f (piece_things ps) ps ∙ total_ext (λ p. total f (piece_things ps p)) (λ p. total f (piece_things qs p)) (λ p. ap (total f) (same_piece ps qs s p)) ps
      ∙ s.weighs (λ p. total f (piece_things qs p)) ∙ sym (total_flat f (piece_things qs) qs);
}

-- ---- tables of the same items

empty_entries : {X : Type 0} → fm.entries (fm.empty {X = X} {R = key_cmp}) ≡ []
empty_entries {X} =
    let same : fm.empty {X = X} {R = key_cmp} ≡ fm.from_sorted [] = same_table _ _ (λ q. fm.get-empty {X = X} key_cmp q ∙ sym (fm.get-from_sorted key_cmp [] q tt)) in
    ap fm.entries same ∙ fm.entries-from_sorted key_cmp [] tt

abbrev pub one : TableKey → TableKey → ℕ
one q k = if key_eq q k then 1 else 0

module _ {X : Type 0} (key : X → TableKey) (t : Test X) where
  abbrev pub ones : TableKey → List X → ℕ
  ones q xs = total (λ x. one q (key x)) xs

  abbrev pub both : TableKey → X → X → ℕ
  both q x y = if key_eq q (key y) then (if t.eq x y then 1 else 0) else 0

  boths_few : (q : TableKey) (x : X) (ys : List X) → total (both q x) ys ≤ ones q ys
  boths_few q x [] = omega arith
  boths_few q x (y ∷ ys) = at (key_eq q (key y)) (t.eq x y) (boths_few q x ys)
    where
      at : (b c : Bool) → total (both q x) ys ≤ ones q ys → (if b then (if c then 1 else 0) else 0) + total (both q x) ys ≤ (if b then 1 else 0) + ones q ys
      at true true e = omega (arith, e)
      at true false e = omega (arith, e)
      at false c e = omega (arith, e)

  only : (q : TableKey) (x : X) (ys : List X) → ones q ys ≤ 1 → 1 ≤ total (both q x) ys → first_at_key key q ys ≡ Some x
  only q x [] few some = absurd (omega arith)
  only q x (y ∷ ys) few some = at (key_eq q (key y)) (t.eq x y) refl few some (only q x ys)
    where
      at : (b c : Bool) → t.eq x y ≡ c → (if b then 1 else 0) + ones q ys ≤ 1 → 1 ≤ (if b then (if c then 1 else 0) else 0) + total (both q x) ys
          → (ones q ys ≤ 1 → 1 ≤ total (both q x) ys → first_at_key key q ys ≡ Some x) → cond b (Some y) (first_at_key key q ys) ≡ Some x
      at true true e few some rest = ap Some (sym (t.same x y e))
      at true false e few some rest = absurd (omega (arith, few, some, boths_few q x ys))
      at false c e few some rest = rest (omega (arith, few)) (omega (arith, some))

  is_there : (q : TableKey) (x : X) (xs : List X) → first_at_key key q xs ≡ Some x → 1 ≤ total (both q x) xs
  is_there q x [] e = some_apart e
  is_there q x (y ∷ ys) e = at (key_eq q (key y)) (t.eq x y) refl e (is_there q x ys)
    where
      at : (b c : Bool) → t.eq x y ≡ c → cond b (Some y) (first_at_key key q ys) ≡ Some x → (first_at_key key q ys ≡ Some x → 1 ≤ total (both q x) ys)
          → 1 ≤ (if b then (if c then 1 else 0) else 0) + total (both q x) ys
      at true true s e rest = omega arith
      at true false s e rest = absurd (true≢false (sym (t.itself x) ∙ ap (t.eq x) (sym (some_is e)) ∙ s))
      at false c s e rest = let r = rest e in omega (arith, r)

  is_absent : (q : TableKey) (xs : List X) → first_at_key key q xs ≡ None → ones q xs ≡ 0
  is_absent q [] e = refl
  is_absent q (y ∷ ys) e = at (key_eq q (key y)) e (is_absent q ys)
    where
      at : (b : Bool) → cond b (Some y) (first_at_key key q ys) ≡ None → (first_at_key key q ys ≡ None → ones q ys ≡ 0) → (if b then 1 else 0) + ones q ys ≡ 0
      at true e rest = some_apart (sym e)
      at false e rest = let r = rest e in omega (arith, r)

  pub absent : (q : TableKey) (ys : List X) → ones q ys ≡ 0 → first_at_key key q ys ≡ None
  absent q [] e = refl
  absent q (y ∷ ys) e = at (key_eq q (key y)) e (absent q ys)
    where
      at : (b : Bool) → (if b then 1 else 0) + ones q ys ≡ 0 → (ones q ys ≡ 0 → first_at_key key q ys ≡ None) → cond b (Some y) (first_at_key key q ys) ≡ None
      at true e rest = absurd (omega (arith, e))
      at false e rest = rest (omega (arith, e))

  same_found : (xs ys : List X) → HasSameItems xs ys → ((q : TableKey) → ones q xs ≤ 1) → (q : TableKey) → first_at_key key q xs ≡ first_at_key key q ys
  same_found xs ys s few q = at (first_at_key key q xs) refl
    where
      at : (o : Option X) → first_at_key key q xs ≡ o → o ≡ first_at_key key q ys
      at None e = sym (absent q ys (sym (s.weighs (λ x. one q (key x))) ∙ is_absent q xs e))
      at (Some x) e =
          let there = is_there q x xs e in
          let same = s.weighs (both q x) in
          let count = s.weighs (λ y. one q (key y)) in
          let f = few q in
          sym (only q x ys (omega (arith, f, count)) (omega (arith, there, same)))

  pub same_table_of : (xs ys : List X) → HasSameItems xs ys → ((q : TableKey) → ones q xs ≤ 1) → table_of key xs ≡ table_of key ys
  same_table_of xs ys s few = same_table (table_of key xs) (table_of key ys) (λ q. get-table_of key xs q ∙ same_found xs ys s few q ∙ sym (get-table_of key ys q))

  pub weigh_table : (f : X → ℕ) (xs : List X) → sum_values f (table_of key xs) ≤ total f xs
  weigh_table f [] = let e : sum_values f (table_of key []) ≡ 0 = ap (total (λ (e : TableKey × X). f e.1)) empty_entries in omega (arith, e)
  weigh_table f (x ∷ xs) = omega (arith, weigh-write f (table_of key xs) (key x) (Some x), weigh_table f xs)

-- ---- sets of the same names

any_is : (p : TableKey → Bool) (ks : List TableKey) → list_any p ks ≡ nat_lt 0 (total (λ k. if p k then 1 else 0) ks)
any_is p [] = refl
any_is p (k ∷ ks) = at (p k) (any_is p ks)
  where
    at : (b : Bool) → list_any p ks ≡ nat_lt 0 (total (λ j. if p j then 1 else 0) ks) → (b || list_any p ks) ≡ nat_lt 0 ((if b then 1 else 0) + total (λ j. if p j then 1 else 0) ks)
    at true e = sym (lt-ltb 0 (1 + total (λ j. if p j then 1 else 0) ks) (omega arith))
    at false e = e ∙ ap (nat_lt 0) (omega arith)

pub same_set : (ks ls : List TableKey) → HasSameItems ks ls → fs.from_list {R = key_cmp} ks ≡ fs.from_list {R = key_cmp} ls
same_set ks ls s =
    fs.same_set nat_list_cmp_total words_anti (fs.from_list ks) (fs.from_list ls)
    (λ q. fs.contains-from_list nat_list_cmp_total ks q ∙ any_is (key_eq q) ks ∙ ap (nat_lt 0) (s.weighs (λ k. if key_eq q k then 1 else 0)) ∙ sym (any_is (key_eq q) ls) ∙ sym (fs.contains-from_list nat_list_cmp_total ls q))

-- ---- each kind of thing comes at most once

pub few_of : {X : Type 0} (key : X → TableKey) (in_ : Thing → Option X) (words : Thing → Option TableKey) → ((t : Thing) (q : TableKey) → weight_of (λ x. one q (key x)) (in_ t) ≡ one_if_key q (words t))
    → (ts : List Thing) (q : TableKey) → total (λ x. one q (key x)) (filter_map in_ ts) ≡ count_at_key words q ts
few_of key in_ words e ts q = total_filter (λ x. one q (key x)) in_ ts ∙ total_ext (λ t. weight_of (λ x. one q (key x)) (in_ t)) (λ t. one_if_key q (words t)) (λ t. e t q) ts

pub actor_one : (t : Thing) (q : TableKey) → weight_of (λ x. one q (actor_key x)) (actor_in t) ≡ one_if_key q (actor_key_in t)
actor_one (ActorThing a) q = refl
actor_one (MessageThing m) q = refl
actor_one (JoinThing j) q = refl
actor_one (CreationThing x) q = refl
actor_one (ReplyThing g) q = refl

pub message_one : (t : Thing) (q : TableKey) → weight_of (λ x. one q (message_key x)) (message_in t) ≡ one_if_key q (message_key_in t)
message_one (ActorThing a) q = refl
message_one (MessageThing m) q = refl
message_one (JoinThing j) q = refl
message_one (CreationThing x) q = refl
message_one (ReplyThing g) q = refl

pub join_one : (t : Thing) (q : TableKey) → weight_of (λ x. one q (join_key x)) (join_in t) ≡ one_if_key q (join_key_in t)
join_one (ActorThing a) q = refl
join_one (MessageThing m) q = refl
join_one (JoinThing j) q = refl
join_one (CreationThing x) q = refl
join_one (ReplyThing g) q = refl

pub creation_one : (t : Thing) (q : TableKey) → weight_of (λ x. one q (creation_key x)) (creation_in t) ≡ one_if_key q (creation_key_in t)
creation_one (ActorThing a) q = refl
creation_one (MessageThing m) q = refl
creation_one (JoinThing j) q = refl
creation_one (CreationThing x) q = refl
creation_one (ReplyThing g) q = refl

pub same_kind : {X : Type 0} (key : X → TableKey) (c : Coded X) (in_ : Thing → Option X) (words : Thing → Option TableKey)
    → ((t : Thing) (q : TableKey) → weight_of (λ x. one q (key x)) (in_ t) ≡ one_if_key q (words t)) → (ts us : List Thing) → HasSameItems ts us → ((q : TableKey) → count_at_key words q ts ≤ 1)
    → table_of key (filter_map in_ ts) ≡ table_of key (filter_map in_ us)
same_kind key c in_ words e ts us s once =
    same_table_of key (test_of c) (filter_map in_ ts) (filter_map in_ us) (same_filter in_ ts us s) (λ q. let f = few_of key in_ words e ts q in let o = once q in omega (arith, f, o))

-- ---- times_owed once

pub three : {A : Type 0} (f g h k : A → ℕ) → ((x : A) → k x ≡ f x + (g x + h x)) → (xs : List A) → total k xs ≡ total f xs + (total g xs + total h xs)
three f g h k e [] = refl
three f g h k e (x ∷ xs) = omega (arith, e x, three f g h k e xs)

owes_reply : TableKey → Thing → ℕ
owes_reply a t = weight_of (λ g. owes a g.0) (reply_in t)

owes_message : TableKey → Thing → ℕ
owes_message a t = weight_of (λ m. owes a m.reply) (message_in t)

owes_join : TableKey → Thing → ℕ
owes_join a t = weight_of (λ j. owes a j.1.reply) (join_in t)

owed_parts : (a : TableKey) (t : Thing) → count_owed a t ≡ owes_reply a t + (owes_message a t + owes_join a t)
unfolding owes_reply owes_message owes_join
owed_parts a (ActorThing x) = refl
owed_parts a (MessageThing m) = omega arith
owed_parts a (JoinThing j) = omega arith
owed_parts a (CreationThing x) = refl
owed_parts a (ReplyThing g) = omega arith

pub message_test : Test Message
message_test = test_of message_row.coded

pub join_test : Test (Name × Join)
join_test = test_of (coded× name_row.coded join_row.coded)

owed_few : (a : TableKey) (ts : List Thing) → times_owed a (filter_map reply_in ts) (waiting_before_replies ts) ≤ total (count_owed a) ts
unfolding waiting_before_replies owes_reply owes_message owes_join
owed_few a ts =
    let replies = total_filter (λ (g : DueReply). owes a g.0) reply_in ts in
    let messages = total_filter (λ (m : Message). owes a m.reply) message_in ts in
    let joins = total_filter (λ (j : Name × Join). owes a j.1.reply) join_in ts in
    let weighs_messages = weigh_table message_key message_test (λ (m : Message). owes a m.reply) (filter_map message_in ts) in
    let weighs_joins = weigh_table join_key join_test (λ (j : Name × Join). owes a j.1.reply) (filter_map join_in ts) in
    let parts = three (owes_reply a) (owes_message a) (owes_join a) (count_owed a) (owed_parts a) ts in
    omega (arith, replies, messages, joins, weighs_messages, weighs_joins, parts)

pub owed_once : (ts : List Thing) → StandOnce ts → IsOwedOnce (filter_map reply_in ts) (waiting_before_replies ts)
owed_once ts h r n = let few = owed_few (reply_key r) ts in let once = h.replies r n in omega arith

-- ---- the law

keeps_once : (ps qs : List Piece) → HasSameItems ps qs → StandOnce (things ps) → StandOnce (things qs)
keeps_once ps qs s h =
    let t = same_things ps qs s in
    record {
      actors = λ k. (let e = t.weighs (λ x. one_if_key k (actor_key_in x)) in let o = h.actors k in omega arith);
      messages = λ k. (let e = t.weighs (λ x. one_if_key k (message_key_in x)) in let o = h.messages k in omega arith);
      joins = λ k. (let e = t.weighs (λ x. one_if_key k (join_key_in x)) in let o = h.joins k in omega arith);
      creations = λ k. (let e = t.weighs (λ x. one_if_key k (creation_key_in x)) in let o = h.creations k in omega arith);
      replies = λ r n. (let e = t.weighs (count_owed (reply_key r)) in let o = h.replies r n in omega arith);
    }

pub same_made : (ts us : List Thing) (bound : List TableKey) (w : History) → HasSameItems ts us → StandOnce ts → image_of bound ts w ≡ image_of bound us w
unfolding image_of waiting_before_replies
same_made ts us bound w t h =
    let actors = same_kind actor_key (coded× actor_row.coded coded_ℕ) actor_in actor_key_in actor_one ts us t h.actors in
    let creations = same_kind creation_key (coded× name_row.coded creation_row.coded) creation_in creation_key_in creation_one ts us t h.creations in
    let messages = same_kind message_key message_row.coded message_in message_key_in message_one ts us t h.messages in
    let joins = same_kind join_key (coded× name_row.coded join_row.coded) join_in join_key_in join_one ts us t h.joins in
    let given = same_set (filter_map anonymous_in ts ++ bound) (filter_map anonymous_in us ++ bound) (same_before (filter_map anonymous_in ts) (filter_map anonymous_in us) bound (same_filter anonymous_in ts us t)) in
    let count_waiting : waiting_before_replies ts ≡ waiting_before_replies us = λ i. record { messages = messages i; joins = joins i } in
    let waiting : waiting_after_replies ts ≡ waiting_after_replies us = (commute (filter_map reply_in ts) (filter_map reply_in us) (waiting_before_replies ts) (owed_once ts h) (same_filter reply_in ts us t)).0 ∙ ap (settle_all (filter_map reply_in us)) count_waiting in
    λ i. record {
      actors = actors i;
      given = given i;
      creations = creations i;
      waiting = waiting i;
      output = w.output;
      faults = w.faults;
      answers = w.answers;
      posted = w.posted;
    }

pub forget_where : ImagesForgetOrder
forget_where = record { image = λ ps qs bound w s h. same_made (things ps) (things qs) bound w (same_things ps qs s) h; once = keeps_once }
