-- Replies may be given in any order.
use Rattle.std.proofs.Common.{◌≡◌, ◌≢◌, inl, inr, ℕ, zero, suc, ◌+◌, ◌≤◌, Bool, true, false, cond, List, [], ◌∷◌, ◌++◌, map, filter, length, Option, Some, None, is_some, refl, sym, ap, subst, ◌∙◌, arith, true≢false, append-nil}
use Rattle.std.specs.List.{list_all}
use Rattle.std.specs.Option.{option_map}
use Rattle.std.proofs.lemmas.Bool.Decides.{eqb_tells}
use Rattle.std.specs.FinMap as fm
use base.Stored.{coded×}
use Rattle.sal_value.specs.declared.name.Name.{Name}
use Rattle.sal_value.specs.declared.value.Value.{Value}
use Rattle.sal_value.specs.Spelling.{is_legal}
use Rattle.sal_mail.specs.declared.message.Piece.{Piece}
use Rattle.sal_mail.specs.declared.message.Piece.TheVariants.{Known, Token}
use Rattle.sal_mail.specs.declared.message.Reply.{Reply}
use Rattle.sal_mail.specs.declared.message.Reply.TheVariants.{Nobody, Tok, Place, Outside}
use Rattle.sal_mail.specs.declared.message.Message.{Message}
use Rattle.sal_mail.specs.declared.message.Join.{Join}
use Rattle.sal_mail.specs.Message.{piece_with_reply, with_reply, is_other, fill_slot, with_slot, is_full, join_value}
use Rattle.sal_source.specs.Table.{TableKey, key_eq, Table, write, table_map, total, sum_values, HasSameItems}
use Rattle.sal_source.specs.Keys.{name_key, made_key}
use Rattle.sal_mail.specs.ReplyKeys.{reply_key, owes}
use Rattle.std.specs.Str.{bytes_eq}
use Rattle.std.proofs.lemmas.Slice.Eq.{bytes_eq-Decides}
use Rattle.std.specs.Prelude.{if◌then◌else◌}
use Rattle.sal_source.specs.Configuration.{Waiting}
use Rattle.sal_source.specs.Give.{DueReply, resolve, if_still_open, full_join_reply, owned_join_with_slot, join_after_value, join_replies, give_to, replies_from, give_one, replies_if_legal, answers_if_legal, settle, settle_answers, settle_bound, settle_all, settle_all_answers}
use Rattle.sal_source.specs.Laws.{times_owed, IsOwedOnce}
use Rattle.sal_source.proofs.Tables.{words_refl, words_tells, words_apart, same_table, get-write, get-map}
use Rattle.sal_source.proofs.Weights.{weigh-write, weigh-map, weight_of}
use Rattle.sal_source.proofs.Same.{bool_cases, Test, test_of, copies, found, copy_first, same_refl, same_sym, same_trans, same_eq, same_length, total-append, total_none}
use Rattle.sal_value.specs.contracts.value.Value.{the_row as value_row}
use Rattle.sal_mail.specs.contracts.message.Reply.{the_row as reply_row}

pub given_test : Test DueReply
given_test = test_of (coded× reply_row.coded value_row.coded)

-- ---- places of a join

fill_twice : (i k : ℕ) (v w : Value) (ps : List (Option Value)) → i ≢ k → fill_slot i v (fill_slot k w ps) ≡ fill_slot k w (fill_slot i v ps)
fill_twice i k v w [] n = refl
fill_twice zero zero v w (p ∷ ps) n = absurd (n refl)
fill_twice zero (suc k) v w (None ∷ ps) n = refl
fill_twice zero (suc k) v w (Some x ∷ ps) n = refl
fill_twice (suc i) zero v w (None ∷ ps) n = refl
fill_twice (suc i) zero v w (Some x ∷ ps) n = refl
fill_twice (suc i) (suc k) v w (p ∷ ps) n = ap (λ l. p ∷ l) (fill_twice i k v w ps (λ e. n (ap suc e)))

full_none : (i : ℕ) (v : Value) (ps : List (Option Value)) → list_all is_some ps ≡ true → fill_slot i v ps ≡ ps
full_none i v [] h = refl
full_none zero v (None ∷ ps) h = absurd (true≢false (sym h))
full_none zero v (Some x ∷ ps) h = refl
full_none (suc i) v (None ∷ ps) h = absurd (true≢false (sym h))
full_none (suc i) v (Some x ∷ ps) h = ap (λ l. Some x ∷ l) (full_none i v ps h)

-- where all is full but for place k, no other place is filled
fill_none : (i k : ℕ) (v w : Value) (ps : List (Option Value)) → i ≢ k → list_all is_some (fill_slot k w ps) ≡ true → fill_slot i v ps ≡ ps
fill_none i k v w [] n h = refl
fill_none zero zero v w (p ∷ ps) n h = absurd (n refl)
fill_none zero (suc k) v w (None ∷ ps) n h = absurd (true≢false (sym h))
fill_none zero (suc k) v w (Some x ∷ ps) n h = refl
fill_none (suc i) zero v w (None ∷ ps) n h = ap (λ l. None ∷ l) (full_none i v ps h)
fill_none (suc i) zero v w (Some x ∷ ps) n h = ap (λ l. Some x ∷ l) (full_none i v ps h)
fill_none (suc i) (suc k) v w (None ∷ ps) n h = absurd (true≢false (sym h))
fill_none (suc i) (suc k) v w (Some x ∷ ps) n h = ap (λ l. Some x ∷ l) (fill_none i k v w ps (λ e. n (ap suc e)) h)

-- ---- one join

open_full : (j : Name × Join) → is_full j.1 ≡ true → if_still_open j ≡ None
open_full j e = ap (λ b. cond b None (Some j)) e

open_not : (j : Name × Join) → is_full j.1 ≡ false → if_still_open j ≡ Some j
open_not j e = ap (λ b. cond b None (Some j)) e

array_full : (j : Join) → is_full j ≡ true → full_join_reply j ≡ (j.reply, join_value j) ∷ []
array_full j e = ap (λ (b : Bool). cond b ((j.reply, join_value j) ∷ []) []) e

array_not : (j : Join) → is_full j ≡ false → full_join_reply j ≡ []
array_not j e = ap (λ (b : Bool). cond b ((j.reply, join_value j) ∷ []) []) e

record JoinSwap (i k : ℕ) (v w : Value) (o : Option (Name × Join)) : Type 0 where
  after : join_after_value i v (join_after_value k w o) ≡ join_after_value k w (join_after_value i v o)
  gives : join_replies k w o ++ join_replies i v (join_after_value k w o) ≡ join_replies i v o ++ join_replies k w (join_after_value i v o)

swap_back : (i k : ℕ) (v w : Value) (o : Option (Name × Join)) → JoinSwap i k v w o → JoinSwap k i w v o
swap_back i k v w o s = record { after = sym s.after; gives = sym s.gives }

abbrev with_places : Name × Join → List (Option Value) → Name × Join
with_places j ps = (j.0, record j.1 { places = ps })

-- the second reply makes it full
swap_full : (i k : ℕ) (v w : Value) (j : Name × Join) → i ≢ k → is_full (with_slot k w j.1) ≡ true → JoinSwap i k v w (Some j)
swap_full i k v w j n f =
    let same : owned_join_with_slot i v j ≡ j = ap (with_places j) (fill_none i k v w j.1.places n f) in
    elim (bool_cases (is_full j.1)) [
      | inl full ↦
          let again : owned_join_with_slot k w j ≡ j = ap (with_places j) (full_none k w j.1.places full) in
          record {
            after = ap (join_after_value i v) (open_full (owned_join_with_slot k w j) f) ∙ sym (ap (λ (a : Name × Join). join_after_value k w (if_still_open a)) same ∙ ap (join_after_value k w) (open_full j full));
            gives = ap (λ a. full_join_reply (with_slot k w j.1) ++ join_replies i v a) (open_full (owned_join_with_slot k w j) f) ∙ ap (λ (a : Name × Join). full_join_reply a.1 ++ []) again
                ∙ sym (ap (λ (a : Name × Join). full_join_reply a.1 ++ join_replies k w (if_still_open a)) same ∙ ap (λ a. full_join_reply j.1 ++ join_replies k w a) (open_full j full));
          }
      | inr not_full ↦
          record {
            after = ap (join_after_value i v) (open_full (owned_join_with_slot k w j) f) ∙ sym (ap (λ (a : Name × Join). join_after_value k w (if_still_open a)) same ∙ ap (join_after_value k w) (open_not j not_full) ∙ open_full (owned_join_with_slot k w j) f);
            gives = ap (λ a. full_join_reply (with_slot k w j.1) ++ join_replies i v a) (open_full (owned_join_with_slot k w j) f) ∙ append-nil (full_join_reply (with_slot k w j.1))
                ∙ sym (ap (λ (a : Name × Join). full_join_reply a.1 ++ join_replies k w (if_still_open a)) same ∙ ap (λ a. a ++ join_replies k w (if_still_open j)) (array_not j.1 not_full) ∙ ap (join_replies k w) (open_not j not_full));
          }
    ]

swap_places : (i k : ℕ) (v w : Value) (o : Option (Name × Join)) → i ≢ k → JoinSwap i k v w o
swap_places i k v w None n = record { after = refl; gives = refl }
swap_places i k v w (Some j) n = elim (bool_cases (is_full (with_slot k w j.1))) [
  | inl f ↦ swap_full i k v w j n f
  | inr f ↦ elim (bool_cases (is_full (with_slot i v j.1))) [
    | inl g ↦ swap_back k i w v (Some j) (swap_full k i w v j (λ e. n (sym e)) g)
    | inr g ↦
        let same : owned_join_with_slot i v (owned_join_with_slot k w j) ≡ owned_join_with_slot k w (owned_join_with_slot i v j) = ap (with_places j) (fill_twice i k v w j.1.places n) in
        record {
          after = ap (join_after_value i v) (open_not (owned_join_with_slot k w j) f) ∙ ap if_still_open same ∙ sym (ap (join_after_value k w) (open_not (owned_join_with_slot i v j) g));
          gives = ap (λ a. a ++ join_replies i v (if_still_open (owned_join_with_slot k w j))) (array_not (with_slot k w j.1) f) ∙ ap (join_replies i v) (open_not (owned_join_with_slot k w j) f) ∙ ap (λ (a : Name × Join). full_join_reply a.1) same
              ∙ sym (ap (λ a. a ++ join_replies k w (if_still_open (owned_join_with_slot i v j))) (array_not (with_slot i v j.1) g) ∙ ap (join_replies k w) (open_not (owned_join_with_slot i v j) g));
        }
  ]
]

-- ---- one message

known_twice : (n k : ℕ) (v w : Value) (p : Piece) → n ≢ k → piece_with_reply n v (piece_with_reply k w p) ≡ piece_with_reply k w (piece_with_reply n v p)
known_twice n k v w (Known x) d = refl
known_twice n k v w (Token t) d = elim (eqb_tells t k) [
  | inl a ↦ elim (eqb_tells t n) [
    | inl b ↦ absurd (d (sym b.1 ∙ a.1))
    | inr b ↦ ap (λ (c : Bool). piece_with_reply n v (cond c (Known w) (Token t))) a.0 ∙ sym (ap (λ (c : Bool). piece_with_reply k w (cond c (Known v) (Token t))) b.0 ∙ ap (λ (c : Bool). cond c (Known w) (Token t)) a.0)
  ]
  | inr a ↦ ap (λ (c : Bool). piece_with_reply n v (cond c (Known w) (Token t))) a.0 ∙ elim (eqb_tells t n) [
    | inl b ↦ ap (λ (c : Bool). cond c (Known v) (Token t)) b.0 ∙ sym (ap (λ (c : Bool). piece_with_reply k w (cond c (Known v) (Token t))) b.0)
    | inr b ↦ ap (λ (c : Bool). cond c (Known v) (Token t)) b.0 ∙ sym (ap (λ (c : Bool). piece_with_reply k w (cond c (Known v) (Token t))) b.0 ∙ ap (λ (c : Bool). cond c (Known w) (Token t)) a.0)
  ]
]

map_twice : {A : Type 0} (f g : A → A) → ((x : A) → f (g x) ≡ g (f x)) → (xs : List A) → map f (map g xs) ≡ map g (map f xs)
map_twice f g e [] = refl
map_twice f g e (x ∷ xs) = λ i. e x i ∷ map_twice f g e xs i

filter_twice : {A : Type 0} (p q : A → Bool) (xs : List A) → filter p (filter q xs) ≡ filter q (filter p xs)
filter_twice p q [] = refl
filter_twice p q (x ∷ xs) = elim (bool_cases (p x)) [
  | inl a ↦ elim (bool_cases (q x)) [
    | inl b ↦ ap (λ (c : Bool). filter p (cond c (x ∷ filter q xs) (filter q xs))) b ∙ ap (λ (c : Bool). cond c (x ∷ filter p (filter q xs)) (filter p (filter q xs))) a ∙ ap (λ l. x ∷ l) (filter_twice p q xs)
        ∙ sym (ap (λ (c : Bool). filter q (cond c (x ∷ filter p xs) (filter p xs))) a ∙ ap (λ (c : Bool). cond c (x ∷ filter q (filter p xs)) (filter q (filter p xs))) b)
    | inr b ↦ ap (λ (c : Bool). filter p (cond c (x ∷ filter q xs) (filter q xs))) b ∙ filter_twice p q xs
        ∙ sym (ap (λ (c : Bool). filter q (cond c (x ∷ filter p xs) (filter p xs))) a ∙ ap (λ (c : Bool). cond c (x ∷ filter q (filter p xs)) (filter q (filter p xs))) b)
  ]
  | inr a ↦ elim (bool_cases (q x)) [
    | inl b ↦ ap (λ (c : Bool). filter p (cond c (x ∷ filter q xs) (filter q xs))) b ∙ ap (λ (c : Bool). cond c (x ∷ filter p (filter q xs)) (filter p (filter q xs))) a ∙ filter_twice p q xs
        ∙ sym (ap (λ (c : Bool). filter q (cond c (x ∷ filter p xs) (filter p xs))) a)
    | inr b ↦ ap (λ (c : Bool). filter p (cond c (x ∷ filter q xs) (filter q xs))) b ∙ filter_twice p q xs
        ∙ sym (ap (λ (c : Bool). filter q (cond c (x ∷ filter p xs) (filter p xs))) a)
  ]
]

told_twice : (n k : ℕ) (v w : Value) (m : Message) → n ≢ k → with_reply n v (with_reply k w m) ≡ with_reply k w (with_reply n v m)
told_twice n k v w m d =
    let args = map_twice (piece_with_reply n v) (piece_with_reply k w) (λ p. known_twice n k v w p d) m.args in
    let after = filter_twice (is_other n) (is_other k) m.after in
    λ i. record m { args = args i; after = after i }

resolve_twice : (o r : Name) (n k : ℕ) (v w : Value) (m : Message) → reply_key (Tok o n) ≢ reply_key (Tok r k) → resolve o n v (resolve r k w m) ≡ resolve r k w (resolve o n v m)
resolve_twice o r n k v w m d = elim (words_tells (name_key o) (name_key m.maker)) [
  | inl a ↦ elim (words_tells (name_key r) (name_key m.maker)) [
    | inl b ↦
        ap (λ (c : Bool). resolve o n v (cond c (with_reply k w m) m)) b.0 ∙ ap (λ (c : Bool). cond c (with_reply n v (with_reply k w m)) (with_reply k w m)) a.0
        ∙ told_twice n k v w m (λ e. d (λ i. 0 ∷ e i ∷ (a.1 ∙ sym b.1) i))
        ∙ sym (ap (λ (c : Bool). resolve r k w (cond c (with_reply n v m) m)) a.0 ∙ ap (λ (c : Bool). cond c (with_reply k w (with_reply n v m)) (with_reply n v m)) b.0)
    | inr b ↦
        ap (λ (c : Bool). resolve o n v (cond c (with_reply k w m) m)) b.0 ∙ ap (λ (c : Bool). cond c (with_reply n v m) m) a.0
        ∙ sym (ap (λ (c : Bool). resolve r k w (cond c (with_reply n v m) m)) a.0 ∙ ap (λ (c : Bool). cond c (with_reply k w (with_reply n v m)) (with_reply n v m)) b.0)
  ]
  | inr a ↦ elim (words_tells (name_key r) (name_key m.maker)) [
    | inl b ↦
        ap (λ (c : Bool). resolve o n v (cond c (with_reply k w m) m)) b.0 ∙ ap (λ (c : Bool). cond c (with_reply n v (with_reply k w m)) (with_reply k w m)) a.0
        ∙ sym (ap (λ (c : Bool). resolve r k w (cond c (with_reply n v m) m)) a.0 ∙ ap (λ (c : Bool). cond c (with_reply k w m) m) b.0)
    | inr b ↦
        ap (λ (c : Bool). resolve o n v (cond c (with_reply k w m) m)) b.0 ∙ ap (λ (c : Bool). cond c (with_reply n v m) m) a.0
        ∙ sym (ap (λ (c : Bool). resolve r k w (cond c (with_reply n v m) m)) a.0 ∙ ap (λ (c : Bool). cond c (with_reply k w m) m) b.0)
  ]
]

-- ---- tables

module _ {X : Type 0} (t : Table X) where
  pub map_table_twice : (f g : X → X) → ((x : X) → f (g x) ≡ g (f x)) → table_map f (table_map g t) ≡ table_map g (table_map f t)
  map_table_twice f g e = same_table _ _ (λ q. get-map f (table_map g t) q ∙ ap (option_map f) (get-map g t q) ∙ both (fm.get t q) ∙ sym (get-map g (table_map f t) q ∙ ap (option_map g) (get-map f t q)))
    where
      both : (o : Option X) → option_map f (option_map g o) ≡ option_map g (option_map f o)
      both None = refl
      both (Some x) = ap Some (e x)

  pub get-write_same : (k : TableKey) (o : Option X) → fm.get (write t k o) k ≡ o
  get-write_same k o = get-write t k o k ∙ ap (λ (b : Bool). cond b o (fm.get t k)) (words_refl k)

  pub get-write_other : (k q : TableKey) (o : Option X) → q ≢ k → fm.get (write t k o) q ≡ fm.get t q
  get-write_other k q o n = get-write t k o q ∙ ap (λ (b : Bool). cond b o (fm.get t q)) (words_apart q k n)

  pub write_again : (k : TableKey) (o p : Option X) → write (write t k o) k p ≡ write t k p
  write_again k o p = same_table _ _ (λ q. get-write (write t k o) k p q ∙ ap (cond (key_eq q k) p) (get-write t k o q) ∙ shadow (key_eq q k) p o (fm.get t q) ∙ sym (get-write t k p q))
    where
      shadow : (b : Bool) (x y z : Option X) → cond b x (cond b y z) ≡ cond b x z
      shadow true x y z = refl
      shadow false x y z = refl

  pub write_apart : (k l : TableKey) (o p : Option X) → k ≢ l → write (write t k o) l p ≡ write (write t l p) k o
  write_apart k l o p n = same_table _ _ (λ q. get-write (write t k o) l p q ∙ ap (cond (key_eq q l) p) (get-write t k o q) ∙ swap q ∙ sym (get-write (write t l p) k o q ∙ ap (cond (key_eq q k) o) (get-write t l p q)))
    where
      swap : (q : TableKey) → cond (key_eq q l) p (cond (key_eq q k) o (fm.get t q)) ≡ cond (key_eq q k) o (cond (key_eq q l) p (fm.get t q))
      swap q = elim (words_tells q l) [
        | inl a ↦
            let other : key_eq q k ≡ false = words_apart q k (λ e. n (sym e ∙ a.1)) in
            ap (λ (b : Bool). cond b p (cond (key_eq q k) o (fm.get t q))) a.0 ∙ sym (ap (λ (b : Bool). cond b o (cond (key_eq q l) p (fm.get t q))) other ∙ ap (λ (b : Bool). cond b p (fm.get t q)) a.0)
        | inr a ↦
            ap (λ (b : Bool). cond b p (cond (key_eq q k) o (fm.get t q))) a.0 ∙ sym (ap (λ (b : Bool). cond (key_eq q k) o (cond b p (fm.get t q))) a.0)
      ]

-- ---- two replies

record Swaps (r s : Reply) (v w : Value) (c : Waiting) : Type 0 where
  after : give_to r v (give_to s w c) ≡ give_to s w (give_to r v c)
  gives : HasSameItems (replies_from s w c ++ replies_from r v (give_to s w c)) (replies_from r v c ++ replies_from s w (give_to r v c))

back : (r s : Reply) (v w : Value) (c : Waiting) → Swaps r s v w c → Swaps s r w v c
back r s v w c h = record { after = sym h.after; gives = same_sym h.gives }

-- one that changes nothing and gives nothing on
idle : (r s : Reply) (v w : Value) (c : Waiting) → ((d : Waiting) → give_to r v d ≡ d) → ((d : Waiting) → replies_from r v d ≡ []) → Swaps r s v w c
idle r s v w c still none = record {
  after = still (give_to s w c) ∙ sym (ap (give_to s w) (still c));
  gives = same_eq (ap (λ l. replies_from s w c ++ l) (none (give_to s w c)) ∙ append-nil (replies_from s w c) ∙ sym (ap (λ l. l ++ replies_from s w (give_to r v c)) (none c) ∙ ap (replies_from s w) (still c)));
}

same_swap : {A : Type 0} (xs ys : List A) → HasSameItems (xs ++ ys) (ys ++ xs)
same_swap xs ys = record { weighs = λ f. total-append f xs ys ∙ omega (arith, total-append f ys xs) }

one_join : (t : Table (Name × Join)) (b : TableKey) (i k : ℕ) (v w : Value) → i ≢ k
    → (write (write t b (join_after_value k w (fm.get t b))) b (join_after_value i v (fm.get (write t b (join_after_value k w (fm.get t b))) b)) ≡ write (write t b (join_after_value i v (fm.get t b))) b (join_after_value k w (fm.get (write t b (join_after_value i v (fm.get t b))) b)))
    × (join_replies k w (fm.get t b) ++ join_replies i v (fm.get (write t b (join_after_value k w (fm.get t b))) b) ≡ join_replies i v (fm.get t b) ++ join_replies k w (fm.get (write t b (join_after_value i v (fm.get t b))) b))
one_join t b i k v w n =
    let s = swap_places i k v w (fm.get t b) n in
    let first = join_after_value k w (fm.get t b) in
    let second = join_after_value i v (fm.get t b) in (
      write_again t b first _ ∙ ap (λ x. write t b (join_after_value i v x)) (get-write_same t b first) ∙ ap (write t b) s.after ∙ sym (write_again t b second _ ∙ ap (λ x. write t b (join_after_value k w x)) (get-write_same t b second)),
      ap (λ x. join_replies k w (fm.get t b) ++ join_replies i v x) (get-write_same t b first) ∙ s.gives ∙ sym (ap (λ x. join_replies i v (fm.get t b) ++ join_replies k w x) (get-write_same t b second)),
    )

swaps : (r s : Reply) (v w : Value) (c : Waiting) → (r ≢ Nobody → reply_key r ≢ reply_key s) → Swaps r s v w c
swaps Nobody s v w c n = idle Nobody s v w c (λ d. refl) (λ d. refl)
swaps (Outside x) s v w c n = idle (Outside x) s v w c (λ d. refl) (λ d. refl)
swaps (Tok o x) Nobody v w c n = back _ _ w v c (idle Nobody (Tok o x) w v c (λ d. refl) (λ d. refl))
swaps (Tok o x) (Outside y) v w c n = back _ _ w v c (idle (Outside y) (Tok o x) w v c (λ d. refl) (λ d. refl))
swaps (Tok o x) (Tok p y) v w c n = record {
  after = ap (λ (t : Table Message). record c { messages = t }) (map_table_twice c.messages (resolve o x v) (resolve p y w) (λ m. resolve_twice o p x y v w m (n (λ e. cc))));
  gives = same_refl [];
}
swaps (Tok o x) (Place p j i) v w c n = record { after = refl; gives = same_eq (append-nil _) }
swaps (Place o j i) Nobody v w c n = back _ _ w v c (idle Nobody (Place o j i) w v c (λ d. refl) (λ d. refl))
swaps (Place o j i) (Outside y) v w c n = back _ _ w v c (idle (Outside y) (Place o j i) w v c (λ d. refl) (λ d. refl))
swaps (Place o j i) (Tok p y) v w c n = record { after = refl; gives = same_eq (sym (append-nil _)) }
swaps (Place o j i) (Place p l k) v w c n = elim (words_tells (made_key o j) (made_key p l)) [
  | inl e ↦ one e.1
  | inr e ↦
      let a : fm.get (write c.joins b (join_after_value k w (fm.get c.joins b))) a' ≡ fm.get c.joins a' = get-write_other c.joins b a' _ e.1 in
      let d : fm.get (write c.joins a' (join_after_value i v (fm.get c.joins a'))) b ≡ fm.get c.joins b = get-write_other c.joins a' b _ (λ h. e.1 (sym h)) in
      record {
        after = ap (λ (t : Table (Name × Join)). record c { joins = t })
            (ap (λ x. write (write c.joins b (join_after_value k w (fm.get c.joins b))) a' (join_after_value i v x)) a
            ∙ write_apart c.joins b a' _ _ (λ h. e.1 (sym h))
            ∙ sym (ap (λ x. write (write c.joins a' (join_after_value i v (fm.get c.joins a'))) b (join_after_value k w x)) d));
        gives = same_trans (same_eq (ap (λ x. join_replies k w (fm.get c.joins b) ++ join_replies i v x) a))
            (same_trans (same_swap (join_replies k w (fm.get c.joins b)) (join_replies i v (fm.get c.joins a')))
            (same_eq (sym (ap (λ x. join_replies i v (fm.get c.joins a') ++ join_replies k w x) d))));
      }
]
  where
    a' : TableKey
    a' = made_key o j

    b : TableKey
    b = made_key p l

    one : a' ≡ b → Swaps (Place o j i) (Place p l k) v w c
    one e =
        let apart : i ≢ k = λ h. n (λ e. cc) (λ z. 1 ∷ h z ∷ e z) in
        let f = one_join c.joins b i k v w apart in
        record {
          after = subst (λ (x : TableKey). record c { joins = write (write c.joins b (join_after_value k w (fm.get c.joins b))) x (join_after_value i v (fm.get (write c.joins b (join_after_value k w (fm.get c.joins b))) x)) } ≡ record c { joins = write (write c.joins x (join_after_value i v (fm.get c.joins x))) b (join_after_value k w (fm.get (write c.joins x (join_after_value i v (fm.get c.joins x))) b)) }) (sym e) (ap (λ (t : Table (Name × Join)). record c { joins = t }) f.0);
          gives = same_eq (subst (λ (x : TableKey). join_replies k w (fm.get c.joins b) ++ join_replies i v (fm.get (write c.joins b (join_after_value k w (fm.get c.joins b))) x) ≡ join_replies i v (fm.get c.joins x) ++ join_replies k w (fm.get (write c.joins x (join_after_value i v (fm.get c.joins x))) b)) (sym e) f.1);
        }

record GivenSwap (g h : DueReply) (c : Waiting) : Type 0 where
  after : give_one g (give_one h c) ≡ give_one h (give_one g c)
  gives : HasSameItems (replies_if_legal h c ++ replies_if_legal g (give_one h c)) (replies_if_legal g c ++ replies_if_legal h (give_one g c))

abbrev pub one_if : Bool → DueReply → Waiting → Waiting
one_if b g c = cond b (give_to g.0 g.1 c) c

abbrev pub on_if : Bool → DueReply → Waiting → List DueReply
on_if b g c = cond b (replies_from g.0 g.1 c) []

swap_if : (a b : Bool) (g h : DueReply) (c : Waiting) → (g.0 ≢ Nobody → reply_key g.0 ≢ reply_key h.0)
    → (one_if a g (one_if b h c) ≡ one_if b h (one_if a g c)) × HasSameItems (on_if b h c ++ on_if a g (one_if b h c)) (on_if a g c ++ on_if b h (one_if a g c))
swap_if true true g h c n = let s = swaps g.0 h.0 g.1 h.1 c n in (s.after, s.gives)
swap_if true false g h c n = (refl, same_eq (sym (append-nil _)))
swap_if false true g h c n = (refl, same_eq (append-nil _))
swap_if false false g h c n = (refl, same_refl [])

swap_given : (g h : DueReply) (c : Waiting) → (g.0 ≢ Nobody → reply_key g.0 ≢ reply_key h.0) → GivenSwap g h c
swap_given g h c n = let s = swap_if (is_legal g.1) (is_legal h.1) g h c n in record { after = s.0; gives = s.1 }

-- ---- what stays below its bound

pub len-weigh : {X : Type 0} (t : Table X) → fm.len t ≡ sum_values (λ x. 1) t
len-weigh t = fm.len-entries t ∙ sym (total_none (fm.entries t))

-- at the join that a place belongs to
pub join_falls : (t : Table (Name × Join)) (b : TableKey) (i : ℕ) (v : Value) (f : Name × Join → ℕ) (h : DueReply → ℕ)
    → ((j : Name × Join) → f (owned_join_with_slot i v j) ≡ f j) → ((j : Name × Join) → h (j.1.reply, join_value j.1) ≤ f j)
    → total h (join_replies i v (fm.get t b)) + sum_values f (write t b (join_after_value i v (fm.get t b))) ≤ sum_values f t
join_falls t b i v f h kept less =
    let w = weigh-write f t b (join_after_value i v (fm.get t b)) in
    let g = gives (fm.get t b) in
    omega arith
  where
    gives : (o : Option (Name × Join)) → total h (join_replies i v o) + weight_of f (join_after_value i v o) ≤ weight_of f o
    gives None = omega arith
    gives (Some j) =
        let e = kept j in
        let l = less (owned_join_with_slot i v j) in
        elim (is_full (with_slot i v j.1)) as (λ (b : Bool). total h (cond b (((with_slot i v j.1).reply, join_value (with_slot i v j.1)) ∷ []) []) + weight_of f (cond b None (Some (owned_join_with_slot i v j))) ≤ f j) [
          | true ↦ omega arith
          | false ↦ omega arith
        ]

given_falls : (r : Reply) (v : Value) (c : Waiting) → length (replies_from r v c) + fm.len (give_to r v c).joins ≤ fm.len c.joins
given_falls Nobody v c = omega arith
given_falls (Outside x) v c = omega arith
given_falls (Tok o x) v c = omega arith
given_falls (Place o j i) v c =
    let f = join_falls c.joins (made_key o j) i v (λ j. 1) (λ g. 1) (λ j. refl) (λ j. omega arith) in
    omega (arith, total_none (replies_from (Place o j i) v c), len-weigh (give_to (Place o j i) v c).joins, len-weigh c.joins)

pub one_falls : (g : DueReply) (c : Waiting) → length (replies_if_legal g c) + fm.len (give_one g c).joins ≤ fm.len c.joins
one_falls g c = elim (is_legal g.1) as (λ (b : Bool). length (on_if b g c) + fm.len (one_if b g c).joins ≤ fm.len c.joins) [ true ↦ given_falls g.0 g.1 c | false ↦ omega arith ]

reply_resolve : (a : TableKey) (o : Name) (n : ℕ) (v : Value) (m : Message) → owes a (resolve o n v m).reply ≡ owes a m.reply
reply_resolve a o n v m = elim (key_eq (name_key o) (name_key m.maker)) as (λ (b : Bool). owes a (cond b (with_reply n v m) m).reply ≡ owes a m.reply) [ true ↦ refl | false ↦ refl ]

abbrev pub owed_given : TableKey → List DueReply → ℕ
owed_given a gs = total (λ g. owes a g.0) gs

owed_falls : (a : TableKey) (r : Reply) (v : Value) (c : Waiting) → times_owed a (replies_from r v c) (give_to r v c) ≤ times_owed a [] c
owed_falls a Nobody v c = omega arith
owed_falls a (Outside x) v c = omega arith
owed_falls a (Tok o x) v c =
    let e : sum_values (λ (m : Message). owes a m.reply) (table_map (resolve o x v) c.messages) ≡ sum_values (λ (m : Message). owes a m.reply) c.messages =
    weigh-map (resolve o x v) (λ (m : Message). owes a m.reply) c.messages ∙ ap (λ (f : Message → ℕ). sum_values f c.messages) (λ i m. reply_resolve a o x v m i) in
    omega arith
owed_falls a (Place o j i) v c =
    let f = join_falls c.joins (made_key o j) i v (λ j. owes a j.1.reply) (λ g. owes a g.0) (λ j. refl) (λ j. omega arith) in
    omega arith

pub owed_one : (a : TableKey) (g : DueReply) (gs : List DueReply) (c : Waiting) → times_owed a (replies_if_legal g c ++ gs) (give_one g c) ≤ times_owed a (g ∷ gs) c
owed_one a g gs c =
    let f : times_owed a (replies_if_legal g c) (give_one g c) ≤ times_owed a [] c = elim (is_legal g.1) as (λ (b : Bool). times_owed a (on_if b g c) (one_if b g c) ≤ times_owed a [] c) [ true ↦ owed_falls a g.0 g.1 c | false ↦ omega arith ] in
    omega (arith, total-append (λ (g : DueReply). owes a g.0) (replies_if_legal g c) gs)

-- ---- any order

pub owes_own : (r : Reply) → owes (reply_key r) r ≡ 1
owes_own r = ap (λ (b : Bool). if b then 1 else 0) ((bytes_eq-Decides (reply_key r) (reply_key r)).1 refl)

pub once_same : (gs hs : List DueReply) (c : Waiting) → HasSameItems gs hs → IsOwedOnce gs c → IsOwedOnce hs c
once_same gs hs c s once r n = let e = s.weighs (λ g. owes (reply_key r) g.0) in let o = once r n in omega arith

pub once_after : (g : DueReply) (gs : List DueReply) (c : Waiting) → IsOwedOnce (g ∷ gs) c → IsOwedOnce (replies_if_legal g c ++ gs) (give_one g c)
once_after g gs c once r n = let o = once r n in omega (arith, owed_one (reply_key r) g gs c)

pub most_after : (n : ℕ) (g : DueReply) (gs : List DueReply) (c : Waiting) → settle_bound (g ∷ gs) c ≤ suc n → settle_bound (replies_if_legal g c ++ gs) (give_one g c) ≤ n
most_after n g gs c h =
    let e = total-append (λ (x : DueReply). 1) (replies_if_legal g c) gs in
    omega (arith, one_falls g c, total_none (replies_if_legal g c ++ gs), total_none (replies_if_legal g c), total_none gs)

swap_once : (g h : DueReply) (gs : List DueReply) (c : Waiting) → IsOwedOnce (g ∷ h ∷ gs) c → GivenSwap g h c
swap_once g h gs c once = swap_given g h c (λ n e.
    let o = once g.0 n in
    let a : owes (reply_key g.0) g.0 ≡ 1 = owes_own g.0 in
    let b : owes (reply_key g.0) h.0 ≡ 1 = ap (λ (w : TableKey). if bytes_eq (reply_key g.0) w then 1 else 0) (sym e) ∙ a in
    omega arith)

same_nil : (hs : List DueReply) → HasSameItems [] hs → hs ≡ []
same_nil [] s = refl
same_nil (h ∷ hs) s = let e = same_length [] (h ∷ hs) s in absurd (omega arith)

-- what waits is the same, and so are the answers but for their order
abbrev pub Agree : ℕ → List DueReply → List DueReply → Waiting → Type 0
Agree n gs hs c = (settle n gs c ≡ settle n hs c) × HasSameItems (settle_answers n gs c) (settle_answers n hs c)

pub AnyOrder : ℕ → Type 0
AnyOrder n = (gs hs : List DueReply) (c : Waiting) → settle_bound gs c ≤ n → IsOwedOnce gs c → HasSameItems gs hs → Agree n gs hs c

any_zero : AnyOrder 0
unfolding AnyOrder settle settle_answers
any_zero gs hs c m once s = (refl, same_refl [])

same_after : {A : Type 0} (xs ys zs : List A) → HasSameItems ys zs → HasSameItems (xs ++ ys) (xs ++ zs)
same_after xs ys zs s = record { weighs = λ f. let e = s.weighs f in total-append f xs ys ∙ omega (arith, total-append f xs zs) }

agree_trans : (n : ℕ) (gs hs ks : List DueReply) (c : Waiting) → Agree n gs hs c → Agree n hs ks c → Agree n gs ks c
agree_trans n gs hs ks c a b = (a.0 ∙ b.0, same_trans a.1 b.1)

agree_eq : (n : ℕ) (gs hs : List DueReply) (c : Waiting) → gs ≡ hs → Agree n gs hs c
agree_eq n gs hs c e = (ap (λ l. settle n l c) e, same_eq (ap (λ l. settle_answers n l c) e))

-- the same first reply
any_head : (n : ℕ) → AnyOrder n → (g : DueReply) (gs hs : List DueReply) (c : Waiting) → settle_bound (g ∷ gs) c ≤ suc n → IsOwedOnce (g ∷ gs) c → HasSameItems gs hs → Agree (suc n) (g ∷ gs) (g ∷ hs) c
unfolding AnyOrder settle settle_answers
any_head n rest g gs hs c m once s =
    let r : Agree n (replies_if_legal g c ++ gs) (replies_if_legal g c ++ hs) (give_one g c) = rest (replies_if_legal g c ++ gs) (replies_if_legal g c ++ hs) (give_one g c) (most_after n g gs c m) (once_after g gs c once)
    (record { weighs = λ f. let e = s.weighs f in total-append f (replies_if_legal g c) gs ∙ omega (arith, total-append f (replies_if_legal g c) hs) }) in
    (r.0, same_after (answers_if_legal g) (settle_answers n (replies_if_legal g c ++ gs) (give_one g c)) (settle_answers n (replies_if_legal g c ++ hs) (give_one g c)) r.1)

-- the first two, exchanged
any_two : (n : ℕ) → AnyOrder n → (g h : DueReply) (gs : List DueReply) (c : Waiting) → settle_bound (g ∷ h ∷ gs) c ≤ suc (suc n) → IsOwedOnce (g ∷ h ∷ gs) c → AnyOrder (suc n) → Agree (suc (suc n)) (g ∷ h ∷ gs) (h ∷ g ∷ gs) c
unfolding AnyOrder settle settle_answers
any_two n less g h gs c m once next =
    let turn = swap_once g h gs c once in
    let left : Agree (suc n) (replies_if_legal g c ++ h ∷ gs) (h ∷ (replies_if_legal g c ++ gs)) (give_one g c) = next (replies_if_legal g c ++ h ∷ gs) (h ∷ (replies_if_legal g c ++ gs)) (give_one g c) (most_after (suc n) g (h ∷ gs) c m) (once_after g (h ∷ gs) c once) (to_front (replies_if_legal g c) h gs) in
    let swapped : HasSameItems (h ∷ g ∷ gs) (g ∷ h ∷ gs) = record { weighs = λ f. omega arith } in
    let once' = once_same _ _ c (same_sym swapped) once in
    let right : Agree (suc n) (replies_if_legal h c ++ g ∷ gs) (g ∷ (replies_if_legal h c ++ gs)) (give_one h c) = next (replies_if_legal h c ++ g ∷ gs) (g ∷ (replies_if_legal h c ++ gs)) (give_one h c) (most_after (suc n) h (g ∷ gs) c m) (once_after h (g ∷ gs) c once') (to_front (replies_if_legal h c) g gs) in
    let m' = most_after n h (replies_if_legal g c ++ gs) (give_one g c) (most_same (replies_if_legal g c ++ h ∷ gs) (h ∷ (replies_if_legal g c ++ gs)) (give_one g c) (suc n) (to_front (replies_if_legal g c) h gs) (most_after (suc n) g (h ∷ gs) c m)) in
    let o' = once_after h (replies_if_legal g c ++ gs) (give_one g c) (once_same (replies_if_legal g c ++ h ∷ gs) (h ∷ (replies_if_legal g c ++ gs)) (give_one g c) (to_front (replies_if_legal g c) h gs) (once_after g (h ∷ gs) c once)) in
    let lists : HasSameItems (replies_if_legal h (give_one g c) ++ (replies_if_legal g c ++ gs)) (replies_if_legal g (give_one h c) ++ (replies_if_legal h c ++ gs)) = record {
      weighs = λ f.
          let e = turn.gives.weighs f in
          omega (arith, total-append f (replies_if_legal h (give_one g c)) (replies_if_legal g c ++ gs), total-append f (replies_if_legal g c) gs, total-append f (replies_if_legal g (give_one h c)) (replies_if_legal h c ++ gs), total-append f (replies_if_legal h c) gs, total-append f (replies_if_legal h c) (replies_if_legal g (give_one h c)), total-append f (replies_if_legal g c) (replies_if_legal h (give_one g c)));
    } in
    let mid : Agree n (replies_if_legal h (give_one g c) ++ (replies_if_legal g c ++ gs)) (replies_if_legal g (give_one h c) ++ (replies_if_legal h c ++ gs)) (give_one h (give_one g c)) = less (replies_if_legal h (give_one g c) ++ (replies_if_legal g c ++ gs)) (replies_if_legal g (give_one h c) ++ (replies_if_legal h c ++ gs)) (give_one h (give_one g c)) m' o' lists in
    let after : settle_answers n (replies_if_legal g (give_one h c) ++ (replies_if_legal h c ++ gs)) (give_one h (give_one g c)) ≡ settle_answers n (replies_if_legal g (give_one h c) ++ (replies_if_legal h c ++ gs)) (give_one g (give_one h c)) = ap (settle_answers n (replies_if_legal g (give_one h c) ++ (replies_if_legal h c ++ gs))) (sym turn.after) in (
      left.0 ∙ mid.0 ∙ ap (settle n (replies_if_legal g (give_one h c) ++ (replies_if_legal h c ++ gs))) (sym turn.after) ∙ sym right.0,
      answers_swap (answers_if_legal g) (answers_if_legal h)
          (settle_answers (suc n) (replies_if_legal g c ++ h ∷ gs) (give_one g c)) (settle_answers n (replies_if_legal h (give_one g c) ++ (replies_if_legal g c ++ gs)) (give_one h (give_one g c)))
          (settle_answers (suc n) (replies_if_legal h c ++ g ∷ gs) (give_one h c)) (settle_answers n (replies_if_legal g (give_one h c) ++ (replies_if_legal h c ++ gs)) (give_one g (give_one h c)))
          left.1 right.1 (same_trans mid.1 (same_eq after)),
    )
  where
    to_front : (a : List DueReply) (h : DueReply) (gs : List DueReply) → HasSameItems (a ++ h ∷ gs) (h ∷ a ++ gs)
    to_front a h gs = record { weighs = λ f. omega (arith, total-append f a (h ∷ gs), total-append f a gs) }

    most_same : (a b : List DueReply) (c : Waiting) (n : ℕ) → HasSameItems a b → settle_bound a c ≤ n → settle_bound b c ≤ n
    most_same a b c n s m = let e = same_length a b s in omega arith

    answers_swap : {A : Type 0} (x y a b c d : List A) → HasSameItems a (y ++ b) → HasSameItems c (x ++ d) → HasSameItems b d → HasSameItems (x ++ a) (y ++ c)
    answers_swap x y a b c d s t u = record {
      weighs = λ f. let e = s.weighs f in let k = t.weighs f in let l = u.weighs f in
          omega (arith, total-append f x a, total-append f y c, total-append f y b, total-append f x d);
    }

-- lists with a first item each
any_pair : (n : ℕ) → AnyOrder n → AnyOrder (suc n) → (g x : DueReply) (gs hs : List DueReply) (c : Waiting) → settle_bound (g ∷ gs) c ≤ suc (suc n) → IsOwedOnce (g ∷ gs) c → HasSameItems (g ∷ gs) (x ∷ hs) → Agree (suc (suc n)) (g ∷ gs) (x ∷ hs) c
unfolding AnyOrder
any_pair n less next g x gs hs c m once s = elim (bool_cases (given_test.eq g x)) [
  | inl e ↦
      let same = given_test.same g x e in
      let rest : HasSameItems gs hs = record { weighs = λ f. let w = s.weighs f in let k = ap f same in omega arith } in
      agree_trans (suc (suc n)) (g ∷ gs) (g ∷ hs) (x ∷ hs) c (any_head (suc n) next g gs hs c m once rest) (agree_eq (suc (suc n)) (g ∷ hs) (x ∷ hs) c (ap (λ y. y ∷ hs) same))
  | inr e ↦
      let one : 1 ≤ 0 + copies given_test g hs = subst (λ (b : Bool). 1 ≤ cond {A = ℕ} b 1 0 + copies given_test g hs) e (copy_first given_test g gs (x ∷ hs) s) in
      let r = found given_test g hs (omega arith) in
      let zs = r.0 ++ r.1 in
      let gs_are : HasSameItems gs (x ∷ zs) = record { weighs = λ f. let w = s.weighs f in let k = ap (total f) r.2 in omega (arith, total-append f r.0 (g ∷ r.1), total-append f r.0 r.1) } in
      let hs_are : HasSameItems (g ∷ zs) hs = record { weighs = λ f. let k = ap (total f) r.2 in omega (arith, total-append f r.0 (g ∷ r.1), total-append f r.0 r.1) } in
      let all : HasSameItems (g ∷ gs) (g ∷ x ∷ zs) = record { weighs = λ f. let w = gs_are.weighs f in omega arith } in
      let once' = once_same _ _ c all once in
      let m' : settle_bound (g ∷ x ∷ zs) c ≤ suc (suc n) = let l = same_length _ _ all in omega arith in
      let swapped : HasSameItems (g ∷ x ∷ zs) (x ∷ g ∷ zs) = record { weighs = λ f. omega arith } in
      agree_trans (suc (suc n)) (g ∷ gs) (g ∷ x ∷ zs) (x ∷ hs) c (any_head (suc n) next g gs (x ∷ zs) c m once gs_are)
      (agree_trans (suc (suc n)) (g ∷ x ∷ zs) (x ∷ g ∷ zs) (x ∷ hs) c (any_two n less g x zs c m' once' next)
      (any_head (suc n) next x (g ∷ zs) hs c m' (once_same _ _ c swapped once') hs_are))
]

any_suc : (n : ℕ) → AnyOrder n → AnyOrder (suc n) → AnyOrder (suc (suc n))
unfolding AnyOrder
any_suc n less next [] hs c m once s = agree_eq (suc (suc n)) [] hs c (sym (same_nil hs s))
any_suc n less next (g ∷ gs) [] c m once s = let e = same_length (g ∷ gs) [] s in absurd (omega arith)
any_suc n less next (g ∷ gs) (x ∷ hs) c m once s = any_pair n less next g x gs hs c m once s

any_first : AnyOrder 1
unfolding AnyOrder
any_first [] hs c m once s = agree_eq 1 [] hs c (sym (same_nil hs s))
any_first (g ∷ []) [] c m once s = let e = same_length (g ∷ []) [] s in absurd (omega arith)
any_first (g ∷ []) (x ∷ []) c m once s = elim (bool_cases (given_test.eq g x)) [
  | inl e ↦ agree_eq 1 (g ∷ []) (x ∷ []) c (ap (λ y. y ∷ []) (given_test.same g x e))
  | inr e ↦ let one : 1 ≤ 0 + 0 = subst (λ (b : Bool). 1 ≤ cond {A = ℕ} b 1 0 + 0) e (copy_first given_test g [] (x ∷ []) s) in absurd (omega arith)
]
any_first (g ∷ []) (x ∷ y ∷ hs) c m once s = let e = same_length (g ∷ []) (x ∷ y ∷ hs) s in absurd (omega arith)
any_first (g ∷ h ∷ gs) hs c m once s = absurd (omega arith)

pub any_order : (n : ℕ) → AnyOrder n × AnyOrder (suc n)
any_order zero = (any_zero, any_first)
any_order (suc n) = let r = any_order n in (r.1, any_suc n r.0 r.1)

-- two lists of the same replies leave the same, and tell the same answers
pub commute : (gs hs : List DueReply) (c : Waiting) → IsOwedOnce gs c → HasSameItems gs hs → (settle_all gs c ≡ settle_all hs c) × HasSameItems (settle_all_answers gs c) (settle_all_answers hs c)
unfolding AnyOrder
commute gs hs c once s =
    let r : Agree (settle_bound gs c) gs hs c = (any_order (settle_bound gs c)).0 gs hs c (omega arith) once s in
    let k : settle_bound gs c ≡ settle_bound hs c = ap (λ n. n + fm.len c.joins) (same_length gs hs s) in
    (r.0 ∙ ap (λ n. settle n hs c) k, same_trans r.1 (same_eq (ap (λ n. settle_answers n hs c) k)))
