-- A place's reply enters its owner's book.
use Rattle.std.proofs.Common.{◌≡◌, ◌⊎◌, inl, inr, ℕ, ◌+◌, ◌≤◌, Bool, true, false, not, cond, List, [], ◌∷◌, ◌++◌, map, Option, Some, None, refl, sym, ap, subst, ◌∙◌, arith, append_assoc}
use Rattle.std.specs.Prelude.{◌≢◌, if◌then◌else◌, filter, filter_map, flat_map, nat_eq}
use Rattle.std.specs.List.{cons_option, list_all}
use Rattle.std.proofs.lemmas.Bool.{and_parts, eqb-true, eqb-false, not-true}
use Rattle.std.specs.FinMap as fm
use Rattle.sal_value.specs.declared.name.Name.{Name}
use Rattle.sal_value.specs.declared.value.Value.{Value}
use Rattle.sal_value.specs.Spelling.{is_legal}
use Rattle.sal_mail.specs.declared.message.Reply.TheVariants.{Place}
use Rattle.sal_mail.specs.declared.message.Message.{Message}
use Rattle.sal_mail.specs.declared.message.Join.{Join}
use Rattle.sal_mail.specs.declared.effects.Actor.{Actor}
use Rattle.sal_mail.specs.Message.{is_full, with_slot, join_value}
use Rattle.sal_source.specs.Table.{TableKey, key_eq, table_of, write, total}
use Rattle.sal_source.specs.Keys.{name_key, made_key, join_key, message_key, actor_key}
use Rattle.sal_source.specs.code.Lists.{first_at_key}
use Rattle.sal_source.specs.Configuration.{Waiting}
use Rattle.sal_source.specs.Give as give
use Rattle.sal_source.proofs.Same.{total-append, total-map}
use Rattle.sal_source.proofs.Tables.{words_refl, words_tells, words_apart, same_table, get-write, get-table_of}
use Rattle.sal_source.proofs.Fuel.{give_first, give_both}
use Rattle.sal_book.specs.Book.{Book, is_open, join_reply, full_replies, is_legal_reply, has_number, if_open, join_after, filled_joins, book_after_legal, released_by_legal}
use Rattle.sal_book.specs.declared.released.Released.{Released}
use Rattle.sal_pieces.specs.Pieces.{Piece, Body, OwedReply, Thing, ActorThing, MessageThing, JoinThing, CreationThing, ReplyThing, message_thing, decides, piece_things, things, released_pieces}
use Rattle.sal_pieces.specs.Image.{History, message_in, reply_in, actor_in, join_in, creation_in, anonymous_in, waiting_before_replies, waiting_after_replies, image_of}
use Rattle.sal_mail.specs.ReplyKeys.{reply_key}
use Rattle.sal_pieces.specs.Once.{one_if_key, actor_key_in, message_key_in, join_key_in, creation_key_in, count_owed, StandOnce}
use Rattle.sal_pieces.proofs.Entering.{total_parted}
use Rattle.sal_pieces.specs.Steps.{IsBelow}
use Rattle.sal_pieces.specs.Entering.{count_joins}

-- a join with its owner
abbrev with_owner : Name → Join → Name × Join
with_owner o j = (o, j)

-- ---- keys

head_same : (m n : ℕ) (ks ls : TableKey) → m ∷ ks ≡ n ∷ ls → m ≡ n
head_same m n ks ls e = ap (first m) e
  where
    first : ℕ → TableKey → ℕ
    first d [] = d
    first d (x ∷ xs) = x

tail_same : (m n : ℕ) (ks ls : TableKey) → m ∷ ks ≡ n ∷ ls → ks ≡ ls
tail_same m n ks ls e = ap others e
  where
    others : TableKey → TableKey
    others [] = []
    others (x ∷ xs) = xs

-- ---- joins that are open

open_only : (js : List Join) → list_all is_open js ≡ true → filter is_open js ≡ js
open_only [] e = refl
open_only (j ∷ js) e = let p = and_parts (is_open j) (list_all is_open js) e in λ i. cond (p.0 i) (j ∷ open_only js p.1 i) (filter is_open js)

none_full : (js : List Join) → list_all is_open js ≡ true → filter is_full js ≡ []
none_full [] e = refl
none_full (j ∷ js) e =
    let p = and_parts (is_open j) (list_all is_open js) e in
    ap (λ (b : Bool). cond b (j ∷ filter is_full js) (filter is_full js)) (not-true (is_full j) p.0) ∙ none_full js p.1

-- the arrays of all full joins
abbrev full_arrays : List Join → List give.DueReply
full_arrays js = map join_reply (filter is_full js)

-- giving passes over those that aren't legal
pub legal_only : (gs rs : List give.DueReply) (c : Waiting) → give.settle_all (gs ++ rs) c ≡ give.settle_all (filter is_legal_reply gs ++ rs) c
legal_only [] rs c = refl
legal_only (g ∷ gs) rs c = at (is_legal g.1) refl (λ d. legal_only gs rs d)
  where
    at : (b : Bool) → is_legal g.1 ≡ b → ((d : Waiting) → give.settle_all (gs ++ rs) d ≡ give.settle_all (filter is_legal_reply gs ++ rs) d)
        → give.settle_all (g ∷ gs ++ rs) c ≡ give.settle_all (cond b (g ∷ filter is_legal_reply gs) (filter is_legal_reply gs) ++ rs) c
    at true e rest = give_both (g ∷ []) (gs ++ rs) c ∙ rest (give.settle_all (g ∷ []) c) ∙ sym (give_both (g ∷ []) (filter is_legal_reply gs ++ rs) c)
    at false e rest =
        let none : give.replies_if_legal g c ≡ [] = ap (λ (b : Bool). cond b (give.replies_from g.0 g.1 c) []) e in
        let same : give.give_one g c ≡ c = ap (λ (b : Bool). cond b (give.give_to g.0 g.1 c) c) e in
        give_first g (gs ++ rs) c ∙ (λ k. give.settle_all (none k ++ (gs ++ rs)) (same k)) ∙ rest c

-- each join, the one with the number with the value in its slot
abbrev pub placed : ℕ → ℕ → Value → List Join → List Join
placed n i v js = map (λ j. cond (nat_eq j.number n) (with_slot i v j) j) js

-- where all are open, those that stay in the book are the open ones among these
pub left_is : (n i : ℕ) (v : Value) (js : List Join) → list_all is_open js ≡ true → filter_map (join_after n i v) js ≡ filter is_open (placed n i v js)
left_is n i v [] e = refl
left_is n i v (j ∷ js) e =
    let p = and_parts (is_open j) (list_all is_open js) e in
    at (nat_eq j.number n) p.0 ∙ ap (λ zs. cond (is_open (cond (nat_eq j.number n) (with_slot i v j) j)) (cond (nat_eq j.number n) (with_slot i v j) j ∷ zs) zs) (left_is n i v js p.1)
  where
    stay : (b : Bool) (k : Join) (zs : List Join) → cons_option (cond b None (Some k)) zs ≡ cond (not b) (k ∷ zs) zs
    stay true k zs = refl
    stay false k zs = refl

    at : (b : Bool) → is_open j ≡ true → cons_option (cond b (if_open (with_slot i v j)) (Some j)) (filter_map (join_after n i v) js)
        ≡ cond (is_open (cond b (with_slot i v j) j)) (cond b (with_slot i v j) j ∷ filter_map (join_after n i v) js) (filter_map (join_after n i v) js)
    at true open_ = stay (is_full (with_slot i v j)) (with_slot i v j) (filter_map (join_after n i v) js)
    at false open_ = sym (ap (λ (c : Bool). cond c (j ∷ filter_map (join_after n i v) js) (filter_map (join_after n i v) js)) open_)

-- and those that leave it are the full ones
full_is : (n i : ℕ) (v : Value) (js : List Join) → list_all is_open js ≡ true → filter is_full (filled_joins n i v js) ≡ filter is_full (placed n i v js)
full_is n i v [] e = refl
full_is n i v (j ∷ js) e =
    let p = and_parts (is_open j) (list_all is_open js) e in
    at (nat_eq j.number n) (not-true (is_full j) p.0) ∙ ap (λ zs. cond (is_full (cond (nat_eq j.number n) (with_slot i v j) j)) (cond (nat_eq j.number n) (with_slot i v j) j ∷ zs) zs) (full_is n i v js p.1)
  where
    at : (b : Bool) → is_full j ≡ false → filter is_full (map (with_slot i v) (cond b (j ∷ filter (has_number n) js) (filter (has_number n) js)))
        ≡ cond (is_full (cond b (with_slot i v j) j)) (cond b (with_slot i v j) j ∷ filter is_full (filled_joins n i v js)) (filter is_full (filled_joins n i v js))
    at true open_ = refl
    at false open_ = sym (ap (λ (c : Bool). cond c (j ∷ filter is_full (filled_joins n i v js)) (filter is_full (filled_joins n i v js))) open_)

-- how many of the joins have the number
numbered : ℕ → List Join → ℕ
numbered n js = total (λ j. if nat_eq j.number n then 1 else 0) js

placed_none : (n i : ℕ) (v : Value) (js : List Join) → numbered n js ≡ 0 → placed n i v js ≡ js
unfolding numbered
placed_none n i v [] e = refl
placed_none n i v (j ∷ js) e = at (nat_eq j.number n) e (placed_none n i v js)
  where
    at : (b : Bool) → (if b then 1 else 0) + total (λ k. if nat_eq k.number n then 1 else 0) js ≡ 0 → (total (λ k. if nat_eq k.number n then 1 else 0) js ≡ 0 → placed n i v js ≡ js)
        → cond b (with_slot i v j) j ∷ placed n i v js ≡ j ∷ js
    at true e rest = absurd (omega (arith, e))
    at false e rest = ap (λ zs. j ∷ zs) (rest (omega (arith, e)))

-- ---- the joins of an owner, before others that aren't

module _ (o : Name) (n i : ℕ) (v : Value) (others : List (Name × Join)) (apart : first_at_key join_key (made_key o n) others ≡ None) where
  abbrev key : TableKey
  key = made_key o n

  abbrev table : List Join → List (Name × Join)
  table js = map (with_owner o) js ++ others

  not_there : (js : List Join) → numbered n js ≡ 0 → first_at_key join_key key (table js) ≡ None
  unfolding numbered
  not_there [] e = apart
  not_there (j ∷ js) e = at (nat_eq j.number n) refl e (not_there js)
    where
      at : (b : Bool) → nat_eq j.number n ≡ b → (if b then 1 else 0) + total (λ k. if nat_eq k.number n then 1 else 0) js ≡ 0
          → (total (λ k. if nat_eq k.number n then 1 else 0) js ≡ 0 → first_at_key join_key key (table js) ≡ None)
          → cond (key_eq key (join_key (o, j))) (Some (o, j)) (first_at_key join_key key (table js)) ≡ None
      at true t e rest = absurd (omega (arith, e))
      at false t e rest =
          ap (λ (b : Bool). cond b (Some (o, j)) (first_at_key join_key key (table js))) (words_apart key (join_key (o, j)) (λ same. eqb-false j.number n t (sym (head_same n j.number (name_key o) (name_key o) same))))
          ∙ rest (omega (arith, e))

  -- what is first_at_key at a key once the value came to its place
  Found : List Join → TableKey → Type 0
  Found js q = first_at_key join_key q (table (filter is_open (placed n i v js))) ≡ cond (key_eq q key) (give.join_after_value i v (first_at_key join_key key (table js))) (first_at_key join_key q (table js))

  found_none : (q : TableKey) → Found [] q
  unfolding Found
  found_none q = elim (words_tells q key) [
    | inl s ↦ ap (λ k. first_at_key join_key k others) s.1 ∙ apart ∙ sym (ap (λ (b : Bool). cond b (give.join_after_value i v (first_at_key join_key key others)) (first_at_key join_key q others)) s.0 ∙ ap (give.join_after_value i v) apart)
    | inr s ↦ sym (ap (λ (b : Bool). cond b (give.join_after_value i v (first_at_key join_key key others)) (first_at_key join_key q others)) s.0)
  ]

  -- the join is the one
  found_here : (j : Join) (js : List Join) (q : TableKey) → j.number ≡ n → numbered n js ≡ 0 → list_all is_open js ≡ true
      → first_at_key join_key q (table (cond (is_open (with_slot i v j)) (with_slot i v j ∷ js) js))
      ≡ cond (key_eq q key) (give.if_still_open (o, with_slot i v j)) (cond (key_eq q (join_key (o, j))) (Some (o, j)) (first_at_key join_key q (table js)))
  found_here j js q same none every = at (is_full (with_slot i v j)) (words_tells q key)
    where
      keys : join_key (o, j) ≡ key
      keys = ap (λ m. m ∷ name_key o) same

      at : (b : Bool) → ((key_eq q key ≡ true) × (q ≡ key)) ⊎ ((key_eq q key ≡ false) × (q ≢ key))
          → first_at_key join_key q (table (cond (not b) (with_slot i v j ∷ js) js))
          ≡ cond (key_eq q key) (cond b None (Some (o, with_slot i v j))) (cond (key_eq q (join_key (o, j))) (Some (o, j)) (first_at_key join_key q (table js)))
      at true (inl s) = ap (λ k. first_at_key join_key k (table js)) s.1 ∙ not_there js none ∙ sym (ap (λ (c : Bool). cond c None (cond (key_eq q (join_key (o, j))) (Some (o, j)) (first_at_key join_key q (table js)))) s.0)
      at true (inr s) =
          sym (ap (λ (c : Bool). cond c None (cond (key_eq q (join_key (o, j))) (Some (o, j)) (first_at_key join_key q (table js)))) s.0
          ∙ ap (λ k. cond (key_eq q k) (Some (o, j)) (first_at_key join_key q (table js))) keys ∙ ap (λ (c : Bool). cond c (Some (o, j)) (first_at_key join_key q (table js))) s.0)
      at false (inl s) =
          ap (λ k. cond (key_eq q k) (Some (o, with_slot i v j)) (first_at_key join_key q (table js))) keys ∙ ap (λ (c : Bool). cond c (Some (o, with_slot i v j)) (first_at_key join_key q (table js))) s.0
          ∙ sym (ap (λ (c : Bool). cond c (Some (o, with_slot i v j)) (cond (key_eq q (join_key (o, j))) (Some (o, j)) (first_at_key join_key q (table js)))) s.0)
      at false (inr s) =
          ap (λ k. cond (key_eq q k) (Some (o, with_slot i v j)) (first_at_key join_key q (table js))) keys ∙ ap (λ (c : Bool). cond c (Some (o, with_slot i v j)) (first_at_key join_key q (table js))) s.0
          ∙ sym (ap (λ (c : Bool). cond c (Some (o, with_slot i v j)) (cond (key_eq q (join_key (o, j))) (Some (o, j)) (first_at_key join_key q (table js)))) s.0
          ∙ ap (λ k. cond (key_eq q k) (Some (o, j)) (first_at_key join_key q (table js))) keys ∙ ap (λ (c : Bool). cond c (Some (o, j)) (first_at_key join_key q (table js))) s.0)

  -- the join is another one
  found_there : (j : Join) (js : List Join) (q : TableKey) → key_eq key (join_key (o, j)) ≡ false → Found js q
      → cond (key_eq q (join_key (o, j))) (Some (o, j)) (first_at_key join_key q (table (filter is_open (placed n i v js))))
      ≡ cond (key_eq q key) (give.join_after_value i v (first_at_key join_key key (table js))) (cond (key_eq q (join_key (o, j))) (Some (o, j)) (first_at_key join_key q (table js)))
  unfolding Found
  found_there j js q other rest = elim (words_tells q key) [
    | inl s ↦
        ap (λ (c : Bool). cond c (Some (o, j)) (first_at_key join_key q (table (filter is_open (placed n i v js))))) (ap (λ k. key_eq k (join_key (o, j))) s.1 ∙ other)
        ∙ rest ∙ ap (λ (c : Bool). cond c (give.join_after_value i v (first_at_key join_key key (table js))) (first_at_key join_key q (table js))) s.0
        ∙ sym (ap (λ (c : Bool). cond c (give.join_after_value i v (first_at_key join_key key (table js))) (cond (key_eq q (join_key (o, j))) (Some (o, j)) (first_at_key join_key q (table js)))) s.0)
    | inr s ↦
        ap (λ x. cond (key_eq q (join_key (o, j))) (Some (o, j)) x) (rest ∙ ap (λ (c : Bool). cond c (give.join_after_value i v (first_at_key join_key key (table js))) (first_at_key join_key q (table js))) s.0)
        ∙ sym (ap (λ (c : Bool). cond c (give.join_after_value i v (first_at_key join_key key (table js))) (cond (key_eq q (join_key (o, j))) (Some (o, j)) (first_at_key join_key q (table js)))) s.0)
  ]

  found_placed : (js : List Join) (q : TableKey) → numbered n js ≤ 1 → list_all is_open js ≡ true → Found js q
  unfolding Found numbered
  found_placed [] q few every = found_none q
  found_placed (j ∷ js) q few every = at (nat_eq j.number n) refl few (found_placed js q)
    where
      parts : (is_open j ≡ true) × (list_all is_open js ≡ true)
      parts = and_parts (is_open j) (list_all is_open js) every

      at : (b : Bool) → nat_eq j.number n ≡ b → (if b then 1 else 0) + total (λ k. if nat_eq k.number n then 1 else 0) js ≤ 1
          → (total (λ k. if nat_eq k.number n then 1 else 0) js ≤ 1 → list_all is_open js ≡ true → Found js q)
          → first_at_key join_key q (table (filter is_open (cond b (with_slot i v j) j ∷ placed n i v js)))
          ≡ cond (key_eq q key) (give.join_after_value i v (cond (key_eq key (join_key (o, j))) (Some (o, j)) (first_at_key join_key key (table js)))) (cond (key_eq q (join_key (o, j))) (Some (o, j)) (first_at_key join_key q (table js)))
      at true t few rest =
          let same : j.number ≡ n = eqb-true j.number n t in
          let none : numbered n js ≡ 0 = omega (arith, few) in
          let mine : key_eq key (join_key (o, j)) ≡ true = ap (λ m. key_eq key (m ∷ name_key o)) same ∙ words_refl key in
          let left : filter is_open (placed n i v js) ≡ js = ap (filter is_open) (placed_none n i v js none) ∙ open_only js parts.1 in
          ap (λ zs. first_at_key join_key q (table (cond (is_open (with_slot i v j)) (with_slot i v j ∷ zs) zs))) left ∙ found_here j js q same none parts.1
          ∙ sym (ap (λ (c : Bool). cond (key_eq q key) (give.join_after_value i v (cond c (Some (o, j)) (first_at_key join_key key (table js)))) (cond (key_eq q (join_key (o, j))) (Some (o, j)) (first_at_key join_key q (table js)))) mine)
      at false t few rest =
          let other : key_eq key (join_key (o, j)) ≡ false = words_apart key (join_key (o, j)) (λ same. eqb-false j.number n t (sym (head_same n j.number (name_key o) (name_key o) same))) in
          ap (λ (c : Bool). first_at_key join_key q (table (cond c (j ∷ filter is_open (placed n i v js)) (filter is_open (placed n i v js))))) parts.0
          ∙ found_there j js q other (rest (omega (arith, few)) parts.1)
          ∙ sym (ap (λ (c : Bool). cond (key_eq q key) (give.join_after_value i v (cond c (Some (o, j)) (first_at_key join_key key (table js)))) (cond (key_eq q (join_key (o, j))) (Some (o, j)) (first_at_key join_key q (table js)))) other)

  -- the array that it gives on
  gives_placed : (js : List Join) → numbered n js ≤ 1 → list_all is_open js ≡ true → give.join_replies i v (first_at_key join_key key (table js)) ≡ full_arrays (placed n i v js)
  unfolding numbered
  gives_placed [] few every = ap (give.join_replies i v) apart
  gives_placed (j ∷ js) few every = at (nat_eq j.number n) refl few (gives_placed js)
    where
      parts : (is_open j ≡ true) × (list_all is_open js ≡ true)
      parts = and_parts (is_open j) (list_all is_open js) every

      at : (b : Bool) → nat_eq j.number n ≡ b → (if b then 1 else 0) + total (λ k. if nat_eq k.number n then 1 else 0) js ≤ 1
          → (total (λ k. if nat_eq k.number n then 1 else 0) js ≤ 1 → list_all is_open js ≡ true → give.join_replies i v (first_at_key join_key key (table js)) ≡ full_arrays (placed n i v js))
          → give.join_replies i v (cond (key_eq key (join_key (o, j))) (Some (o, j)) (first_at_key join_key key (table js))) ≡ full_arrays (cond b (with_slot i v j) j ∷ placed n i v js)
      at true t few rest =
          let same : j.number ≡ n = eqb-true j.number n t in
          let none : numbered n js ≡ 0 = omega (arith, few) in
          let mine : key_eq key (join_key (o, j)) ≡ true = ap (λ m. key_eq key (m ∷ name_key o)) same ∙ words_refl key in
          let left : filter is_full (placed n i v js) ≡ [] = ap (filter is_full) (placed_none n i v js none) ∙ none_full js parts.1 in
          ap (λ (c : Bool). give.join_replies i v (cond c (Some (o, j)) (first_at_key join_key key (table js)))) mine ∙ one_array (is_full (with_slot i v j))
          ∙ sym (ap (λ zs. map join_reply (cond (is_full (with_slot i v j)) (with_slot i v j ∷ zs) zs)) left)
        where
          one_array : (c : Bool) → cond c ((j.reply, join_value (with_slot i v j)) ∷ []) [] ≡ map join_reply (cond c (with_slot i v j ∷ []) [])
          one_array true = refl
          one_array false = refl
      at false t few rest =
          let other : key_eq key (join_key (o, j)) ≡ false = words_apart key (join_key (o, j)) (λ same. eqb-false j.number n t (sym (head_same n j.number (name_key o) (name_key o) same))) in
          ap (λ (c : Bool). give.join_replies i v (cond c (Some (o, j)) (first_at_key join_key key (table js)))) other ∙ rest (omega (arith, few)) parts.1
          ∙ sym (ap (λ (c : Bool). map join_reply (cond c (j ∷ filter is_full (placed n i v js)) (filter is_full (placed n i v js)))) (not-true (is_full j) parts.0))

  -- the table of joins once the value came
  table_placed : (js : List Join) → numbered n js ≤ 1 → list_all is_open js ≡ true
      → write (table_of join_key (table js)) key (give.join_after_value i v (fm.get (table_of join_key (table js)) key)) ≡ table_of join_key (table (filter is_open (placed n i v js)))
  unfolding Found
  table_placed js few every =
      same_table _ _ (λ q.
      get-write (table_of join_key (table js)) key (give.join_after_value i v (fm.get (table_of join_key (table js)) key)) q
      ∙ (λ k. cond (key_eq q key) (give.join_after_value i v (get-table_of join_key (table js) key k)) (get-table_of join_key (table js) q k))
      ∙ sym (found_placed js q few every) ∙ sym (get-table_of join_key (table (filter is_open (placed n i v js))) q))

-- ---- the things of a book and the others

past : {X A : Type 0} (h : Thing → Option X) (c : A → Thing) → ((x : A) → h (c x) ≡ None) → (xs : List A) (ks : List Thing) → filter_map h (map c xs ++ ks) ≡ filter_map h ks
past h c none [] ks = refl
past {X} h c none (x ∷ xs) ks = ap (λ (u : Option X). cons_option u (filter_map h (map c xs ++ ks))) (none x) ∙ past h c none xs ks

the_joins : (o : Name) (js : List Join) (ks : List Thing) → filter_map join_in (map (λ j. JoinThing (o, j)) js ++ ks) ≡ map (with_owner o) js ++ filter_map join_in ks
the_joins o [] ks = refl
the_joins o (j ∷ js) ks = ap (λ zs. (o, j) ∷ zs) (the_joins o js ks)

the_replies : (gs : List give.DueReply) (ks : List Thing) → filter_map reply_in (map ReplyThing gs ++ ks) ≡ gs ++ filter_map reply_in ks
the_replies [] ks = refl
the_replies (g ∷ gs) ks = ap (λ zs. g ∷ zs) (the_replies gs ks)

-- no join of the owner is among these
pub none_found : (o : Name) (n : ℕ) (ks : List Thing) → total (count_joins o) ks ≡ 0 → first_at_key join_key (made_key o n) (filter_map join_in ks) ≡ None
none_found o n [] e = refl
none_found o n (ActorThing a ∷ ks) e = none_found o n ks (omega (arith, e))
none_found o n (MessageThing m ∷ ks) e = none_found o n ks (omega (arith, e))
none_found o n (CreationThing x ∷ ks) e = none_found o n ks (omega (arith, e))
none_found o n (ReplyThing g ∷ ks) e = none_found o n ks (omega (arith, e))
none_found o n (JoinThing j ∷ ks) e =
    ap (λ (c : Bool). cond c (Some j) (first_at_key join_key (made_key o n) (filter_map join_in ks))) (words_apart (made_key o n) (join_key j) apart) ∙ none_found o n ks (omega (arith, e))
  where
    apart : made_key o n ≢ join_key j
    apart same =
        let names : name_key o ≡ name_key j.0 = tail_same n j.1.number (name_key o) (name_key j.0) same in
        let mine : count_joins o (JoinThing j) ≡ 1 = ap (λ k. if◌then◌else◌ {A = ℕ} (key_eq (name_key o) k) 1 0) (sym names) ∙ ap (λ (c : Bool). if◌then◌else◌ {A = ℕ} c 1 0) (words_refl (name_key o)) in
        omega (arith, e, mine)

numbered_few : (o : Name) (n : ℕ) (js : List Join) → numbered n js ≤ total (λ t. one_if_key (made_key o n) (join_key_in t)) (map (λ j. JoinThing (o, j)) js)
unfolding numbered
numbered_few o n [] = omega arith
numbered_few o n (j ∷ js) = at (nat_eq j.number n) refl (numbered_few o n js)
  where
    ones : ℕ
    ones = total (λ t. one_if_key (made_key o n) (join_key_in t)) (map (λ k. JoinThing (o, k)) js)

    at : (b : Bool) → nat_eq j.number n ≡ b → total (λ k. if nat_eq k.number n then 1 else 0) js ≤ ones
        → (if b then 1 else 0) + total (λ k. if nat_eq k.number n then 1 else 0) js ≤ one_if_key (made_key o n) (join_key_in (JoinThing (o, j))) + ones
    at true t rest =
        let one : one_if_key (made_key o n) (join_key_in (JoinThing (o, j))) ≡ 1 =
        ap (λ m. if◌then◌else◌ {A = ℕ} (key_eq (made_key o n) (m ∷ name_key o)) 1 0) (eqb-true j.number n t) ∙ ap (λ (c : Bool). if◌then◌else◌ {A = ℕ} c 1 0) (words_refl (made_key o n)) in
        omega (arith, one, rest)
    at false t rest = omega (arith, rest)

module _ (a : Actor × ℕ) (ms : List Message) (js : List Join) (n i : ℕ) (v : Value) (ks : List Thing) where
  abbrev opened : Join → Thing
  opened j = JoinThing (a.0.name, j)

  abbrev left : List Join
  left = filter is_open (placed n i v js)

  abbrev arrays : List give.DueReply
  arrays = full_replies (placed n i v js)

  abbrev g : give.DueReply
  g = (Place a.0.name n i, v)

  abbrev before : List Thing
  before = ReplyThing (Place a.0.name n i, v) ∷ ActorThing a ∷ (map message_thing ms ++ (map opened js ++ ks))

  abbrev after : List Thing
  after = ActorThing a ∷ (map message_thing ms ++ (map opened left ++ (map ReplyThing arrays ++ ks)))

  -- what nothing but the others have is the same
  unseen : {X : Type 0} (h : Thing → Option X) → ((m : Message) → h (MessageThing m) ≡ None) → ((j : Name × Join) → h (JoinThing j) ≡ None) → ((r : give.DueReply) → h (ReplyThing r) ≡ None)
      → filter_map h (map message_thing ms ++ (map opened js ++ ks)) ≡ filter_map h (map message_thing ms ++ (map opened left ++ (map ReplyThing arrays ++ ks)))
  unseen h m j r =
      past h message_thing (λ x. m _) ms (map opened js ++ ks) ∙ past h opened (λ x. j _) js ks
      ∙ sym (past h message_thing (λ x. m _) ms (map opened left ++ (map ReplyThing arrays ++ ks)) ∙ past h opened (λ x. j _) left (map ReplyThing arrays ++ ks) ∙ past h ReplyThing (λ x. r _) arrays ks)

  messages : filter_map message_in before ≡ filter_map message_in after
  messages =
      Rattle.sal_pieces.proofs.Entering.the_messages ms (map opened js ++ ks)
      ∙ ap (λ zs. map Rattle.sal_mail.specs.Message.without_delay ms ++ zs) (past message_in opened (λ x. refl) js ks ∙ sym (past message_in opened (λ x. refl) left (map ReplyThing arrays ++ ks) ∙ past message_in ReplyThing (λ x. refl) arrays ks))
      ∙ sym (Rattle.sal_pieces.proofs.Entering.the_messages ms (map opened left ++ (map ReplyThing arrays ++ ks)))

  count_waiting : is_legal v ≡ true → list_all is_open js ≡ true → total (count_joins a.0.name) ks ≡ 0 → numbered n js ≤ 1 → waiting_after_replies before ≡ waiting_after_replies after
  unfolding waiting_before_replies
  count_waiting legal every none few =
      let o : Name = a.0.name in
      let others : List (Name × Join) = filter_map join_in ks in
      let rs : List give.DueReply = filter_map reply_in ks in
      let apart = none_found o n ks none in
      let joins_before : filter_map join_in before ≡ map (with_owner o) js ++ others = past join_in message_thing (λ x. refl) ms (map opened js ++ ks) ∙ the_joins o js ks in
      let joins_after : filter_map join_in after ≡ map (with_owner o) left ++ others =
      past join_in message_thing (λ x. refl) ms (map opened left ++ (map ReplyThing arrays ++ ks)) ∙ the_joins o left (map ReplyThing arrays ++ ks) ∙ ap (λ zs. map (with_owner o) left ++ zs) (past join_in ReplyThing (λ x. refl) arrays ks) in
      let replies_before : filter_map reply_in before ≡ g ∷ rs = ap (λ zs. g ∷ zs) (past reply_in message_thing (λ x. refl) ms (map opened js ++ ks) ∙ past reply_in opened (λ x. refl) js ks) in
      let replies_after : filter_map reply_in after ≡ arrays ++ rs =
      past reply_in message_thing (λ x. refl) ms (map opened left ++ (map ReplyThing arrays ++ ks)) ∙ past reply_in opened (λ x. refl) left (map ReplyThing arrays ++ ks) ∙ the_replies arrays ks in
      let old : Waiting = record { messages = table_of message_key (filter_map message_in before); joins = table_of join_key (map (with_owner o) js ++ others) } in
      let is_old : waiting_before_replies before ≡ old = λ k. record { messages = table_of message_key (filter_map message_in before); joins = table_of join_key (joins_before k) } in
      let gives : give.replies_if_legal g old ≡ full_arrays (placed n i v js) =
      ap (λ (c : Bool). cond c (give.join_replies i v (fm.get old.joins (made_key o n))) []) legal
      ∙ ap (give.join_replies i v) (get-table_of join_key (map (with_owner o) js ++ others) (made_key o n)) ∙ gives_placed o n i v others apart js few every in
      let now : give.give_one g old ≡ waiting_before_replies after =
      ap (λ (c : Bool). cond c (record old { joins = write old.joins (made_key o n) (give.join_after_value i v (fm.get old.joins (made_key o n))) }) old) legal
      ∙ (λ k. record { messages = table_of message_key (messages k); joins = (table_placed o n i v others apart js few every ∙ ap (table_of join_key) (sym joins_after)) k }) in
      (λ k. give.settle_all (replies_before k) (is_old k)) ∙ give_first g rs old ∙ (λ k. give.settle_all (gives k ++ rs) (now k)) ∙ legal_only (full_arrays (placed n i v js)) rs (waiting_before_replies after) ∙ ap (λ gs. give.settle_all gs (waiting_before_replies after)) (sym replies_after)

  made : (bound : List TableKey) (w : History) → is_legal v ≡ true → list_all is_open js ≡ true → total (count_joins a.0.name) ks ≡ 0 → numbered n js ≤ 1 → image_of bound before w ≡ image_of bound after w
  unfolding image_of
  made bound w legal every none few =
      let actors : filter_map actor_in before ≡ filter_map actor_in after = ap (λ zs. a ∷ zs) (unseen actor_in (λ m. refl) (λ j. refl) (λ r. refl)) in
      let creations : filter_map creation_in before ≡ filter_map creation_in after = unseen creation_in (λ m. refl) (λ j. refl) (λ r. refl) in
      let names : filter_map anonymous_in before ≡ filter_map anonymous_in after = ap (λ zs. cons_option (anonymous_in (ActorThing a)) zs) (unseen anonymous_in (λ m. refl) (λ j. refl) (λ r. refl)) in
      λ k. record {
        actors = table_of actor_key (actors k);
        given = Rattle.std.specs.FinSet.from_list (names k ++ bound);
        creations = table_of Rattle.sal_source.specs.Keys.creation_key (creations k);
        waiting = count_waiting legal every none few k;
        output = w.output;
        faults = w.faults;
        answers = w.answers;
        posted = w.posted;
      }

-- ---- the law

owed_things : (qs : List Piece) (gs : List give.DueReply) (rest : List Piece)
    → flat_map (piece_things qs) (map OwedReply gs ++ rest) ≡ map ReplyThing gs ++ flat_map (piece_things qs) rest
owed_things qs [] rest = refl
owed_things qs (g ∷ gs) rest = ap (λ zs. ReplyThing g ∷ zs) (owed_things qs gs rest)

owed_decide : (key : TableKey) (c : Bool) (gs : List give.DueReply) → total (decides key c) (map OwedReply gs) ≡ 0
owed_decide key c [] = refl
owed_decide key c (g ∷ gs) = omega (arith, owed_decide key c gs)

first_things : (a : Actor × ℕ) (b : Book) (n i : ℕ) (v : Value) (rest : List Piece)
    → things (OwedReply (Place a.0.name n i, v) ∷ Body a b ∷ rest) ≡ before a b.messages b.joins n i v (things rest)
unfolding things
first_things a b n i v rest =
    let ps : List Piece = OwedReply (Place a.0.name n i, v) ∷ Body a b ∷ rest in
    let js : List Thing = map (λ j. JoinThing (a.0.name, j)) b.joins in
    let same : flat_map (piece_things ps) rest ≡ flat_map (piece_things rest) rest = Rattle.sal_pieces.proofs.Entering.like_rest ps rest (λ key c. omega arith) rest in
    ap (λ zs. ReplyThing (Place a.0.name n i, v) ∷ ActorThing a ∷ ((map message_thing b.messages ++ js) ++ zs)) same
    ∙ ap (λ zs. ReplyThing (Place a.0.name n i, v) ∷ ActorThing a ∷ zs) (append_assoc (map message_thing b.messages) js (flat_map (piece_things rest) rest))

-- the book once the value came, and what it releases, where all its joins are open
abbrev book_then : ℕ → ℕ → Value → Book → Book
book_then n i v b = record b { joins = filter is_open (placed n i v b.joins) }

abbrev released_then : ℕ → ℕ → Value → Book → Released
released_then n i v b = record { messages = []; replies = full_replies (placed n i v b.joins) }

things_then : (a : Actor × ℕ) (b : Book) (n i : ℕ) (v : Value) (rest : List Piece)
    → things (Body a (book_then n i v b) ∷ released_pieces (released_then n i v b) ++ rest) ≡ after a b.messages b.joins n i v (things rest)
unfolding things
things_then a b n i v rest =
    let qs : List Piece = Body a (book_then n i v b) ∷ released_pieces (released_then n i v b) ++ rest in
    let gs : List give.DueReply = full_replies (placed n i v b.joins) in
    let js : List Thing = map (λ j. JoinThing (a.0.name, j)) (filter is_open (placed n i v b.joins)) in
    let same : flat_map (piece_things qs) rest ≡ flat_map (piece_things rest) rest =
    Rattle.sal_pieces.proofs.Entering.like_rest qs rest (λ key c. omega (arith, total-append (decides key c) (released_pieces (released_then n i v b)) rest, owed_decide key c gs)) rest in
    ap (λ zs. ActorThing a ∷ ((map message_thing b.messages ++ js) ++ zs)) (owed_things qs gs rest ∙ ap (λ zs. map ReplyThing gs ++ zs) same)
    ∙ ap (λ zs. ActorThing a ∷ zs) (append_assoc (map message_thing b.messages) js (map ReplyThing gs ++ flat_map (piece_things rest) rest))

last_things : (a : Actor × ℕ) (b : Book) (n i : ℕ) (v : Value) (rest : List Piece) → list_all is_open b.joins ≡ true
    → things (Body a (book_after_legal (Place a.0.name n i) v b) ∷ released_pieces (released_by_legal (Place a.0.name n i) v b) ++ rest) ≡ after a b.messages b.joins n i v (things rest)
last_things a b n i v rest every =
    let left = left_is n i v b.joins every in
    let full = full_is n i v b.joins every in
    (λ k. things (Body a (record b { joins = left k }) ∷ released_pieces (record { messages = []; replies = filter is_legal_reply (map join_reply (full k)) }) ++ rest))
    ∙ things_then a b n i v rest

pub legal_places :
    (a : Actor × ℕ) (b : Book) (n i : ℕ) (v : Value) (rest : List Piece) (bound : List TableKey) (w : History) → is_legal v ≡ true
    → list_all is_open b.joins ≡ true → total (count_joins a.0.name) (things rest) ≡ 0
    → StandOnce (things (OwedReply (Place a.0.name n i, v) ∷ Body a b ∷ rest))
    → image_of bound (things (OwedReply (Place a.0.name n i, v) ∷ Body a b ∷ rest)) w
    ≡ image_of bound (things (Body a (book_after_legal (Place a.0.name n i) v b) ∷ released_pieces (released_by_legal (Place a.0.name n i) v b) ++ rest)) w
legal_places a b n i v rest bound w legal every none once =
    let first = first_things a b n i v rest in
    let now : StandOnce (before a b.messages b.joins n i v (things rest)) = subst (λ (ts : List Thing). StandOnce ts) first once in
    let f : Thing → ℕ = λ (t : Thing). one_if_key (made_key a.0.name n) (join_key_in t) in
    let js : List Thing = map (λ j. JoinThing (a.0.name, j)) b.joins in
    let one = now.joins (made_key a.0.name n) in
    let few : numbered n b.joins ≤ 1 = omega (arith, one, numbered_few a.0.name n b.joins, total-append f (map message_thing b.messages) (js ++ things rest), total-append f js (things rest)) in
    ap (λ ts. image_of bound ts w) first ∙ made a b.messages b.joins n i v (things rest) bound w legal every none few ∙ ap (λ ts. image_of bound ts w) (sym (last_things a b n i v rest every))

-- ---- each thing stands once

total_le : {A : Type 0} (f g : A → ℕ) → ((x : A) → f x ≤ g x) → (xs : List A) → total f xs ≤ total g xs
total_le f g e [] = omega arith
total_le f g e (x ∷ xs) = let rest = total_le f g e xs in omega (arith, e x, rest)

placed_total : (h : Join → ℕ) (n i : ℕ) (v : Value) → ((j : Join) → h (with_slot i v j) ≡ h j) → (js : List Join) → total h (placed n i v js) ≡ total h js
placed_total h n i v same [] = refl
placed_total h n i v same (j ∷ js) = λ k. at (nat_eq j.number n) k + placed_total h n i v same js k
  where
    at : (b : Bool) → h (cond b (with_slot i v j) j) ≡ h j
    at true = same j
    at false = refl

module _ (a : Actor × ℕ) (ms : List Message) (js : List Join) (n i : ℕ) (v : Value) (ks : List Thing) where
  -- no thing comes more often than before
  fewer : (f : Thing → ℕ) → ((j : Join) → f (JoinThing (a.0.name, with_slot i v j)) ≡ f (JoinThing (a.0.name, j))) → ((j : Join) → f (ReplyThing (join_reply j)) ≤ f (JoinThing (a.0.name, j)))
      → total f (after a ms js n i v ks) ≤ total f (before a ms js n i v ks)
  fewer f same less =
      let h : Join → ℕ = λ (j : Join). f (JoinThing (a.0.name, j)) in
      let now : List Join = placed n i v js in
      let full : List Join = filter is_full now in
      let left : List Join = filter is_open now in
      let owing : List give.DueReply = full_replies now in
      let opened : Join → Thing = λ (j : Join). JoinThing (a.0.name, j) in
      let all = placed_total h n i v same js in
      let parts = total_parted h is_full now in
      let legal = total_parted (λ (g : give.DueReply). f (ReplyThing g)) is_legal_reply (map join_reply full) in
      let gives : total (λ (g : give.DueReply). f (ReplyThing g)) (map join_reply full) ≡ total (λ (j : Join). f (ReplyThing (join_reply j))) full = total-map (λ (g : give.DueReply). f (ReplyThing g)) join_reply full in
      let few = total_le (λ (j : Join). f (ReplyThing (join_reply j))) h less full in
      let one : total f (map opened left) ≡ total h left = total-map f opened left in
      let two : total f (map ReplyThing owing) ≡ total (λ (g : give.DueReply). f (ReplyThing g)) owing = total-map f ReplyThing owing in
      let old : total f (map opened js) ≡ total h js = total-map f opened js in
      omega (
        arith,
        all,
        parts,
        legal,
        gives,
        few,
        one,
        two,
        old,
        total-append f (map message_thing ms) (map opened js ++ ks),
        total-append f (map opened js) ks,
        total-append f (map message_thing ms) (map opened left ++ (map ReplyThing owing ++ ks)),
        total-append f (map opened left) (map ReplyThing owing ++ ks),
        total-append f (map ReplyThing owing) ks,
      )

  stands : StandOnce (before a ms js n i v ks) → StandOnce (after a ms js n i v ks)
  stands h = record {
    actors = λ k. (let e = fewer (λ t. one_if_key k (actor_key_in t)) (λ j. refl) (λ j. omega arith) in let u = h.actors k in omega arith);
    messages = λ k. (let e = fewer (λ t. one_if_key k (message_key_in t)) (λ j. refl) (λ j. omega arith) in let u = h.messages k in omega arith);
    joins = λ k. (let e = fewer (λ t. one_if_key k (join_key_in t)) (λ j. refl) (λ j. omega arith) in let u = h.joins k in omega arith);
    creations = λ k. (let e = fewer (λ t. one_if_key k (creation_key_in t)) (λ j. refl) (λ j. omega arith) in let u = h.creations k in omega arith);
    replies = λ r some. (let e = fewer (count_owed (reply_key r)) (λ j. refl) (λ j. omega arith) in let u = h.replies r some in omega arith);
  }

  -- nothing more stands from a number on
  below : (me : Name) (from : ℕ) → IsBelow me from (before a ms js n i v ks) → IsBelow me from (after a ms js n i v ks)
  below me from h = record {
    messages = λ k high. (let e = fewer (λ t. one_if_key (made_key me k) (message_key_in t)) (λ j. refl) (λ j. omega arith) in let u = h.messages k high in omega arith);
    joins = λ k high. (let e = fewer (λ t. one_if_key (made_key me k) (join_key_in t)) (λ j. refl) (λ j. omega arith) in let u = h.joins k high in omega arith);
    creations = λ k high. (let e = fewer (λ t. one_if_key (made_key me k) (creation_key_in t)) (λ j. refl) (λ j. omega arith) in let u = h.creations k high in omega arith);
    replies = λ r late. (let e = fewer (count_owed (reply_key r)) (λ j. refl) (λ j. omega arith) in let u = h.replies r late in omega arith);
  }

pub places_once : (a : Actor × ℕ) (b : Book) (n i : ℕ) (v : Value) (rest : List Piece) → list_all is_open b.joins ≡ true → StandOnce (things (OwedReply (Place a.0.name n i, v) ∷ Body a b ∷ rest))
    → StandOnce (things (Body a (book_after_legal (Place a.0.name n i) v b) ∷ released_pieces (released_by_legal (Place a.0.name n i) v b) ++ rest))
places_once a b n i v rest every once =
    let now : StandOnce (before a b.messages b.joins n i v (things rest)) = subst (λ (ts : List Thing). StandOnce ts) (first_things a b n i v rest) once in
    subst (λ (ts : List Thing). StandOnce ts) (sym (last_things a b n i v rest every)) (stands a b.messages b.joins n i v (things rest) now)

pub places_below : (me : Name) (from : ℕ) (a : Actor × ℕ) (b : Book) (n i : ℕ) (v : Value) (rest : List Piece) → list_all is_open b.joins ≡ true → IsBelow me from (things (OwedReply (Place a.0.name n i, v) ∷ Body a b ∷ rest))
    → IsBelow me from (things (Body a (book_after_legal (Place a.0.name n i) v b) ∷ released_pieces (released_by_legal (Place a.0.name n i) v b) ++ rest))
places_below me from a b n i v rest every old =
    let now : IsBelow me from (before a b.messages b.joins n i v (things rest)) = subst (λ (ts : List Thing). IsBelow me from ts) (first_things a b n i v rest) old in
    subst (λ (ts : List Thing). IsBelow me from ts) (sym (last_things a b n i v rest every)) (below a b.messages b.joins n i v (things rest) me from now)
