-- How many answers come of replies: no more than there are replies that aren't the actor's own.
use Rattle.std.proofs.Common.{◌≡◌, ◌⊎◌, inl, inr, ℕ, zero, suc, ◌+◌, ◌≤◌, Bool, true, false, cond, ◌&&◌, if◌then◌else◌, List, [], ◌∷◌, ◌++◌, length, Option, Some, None, is_some, refl, sym, ap, ◌∙◌, arith, length-append}
use Rattle.std.specs.Prelude.{nat_le}
use Rattle.std.proofs.lemmas.Bool.{leb-true}
use Rattle.std.specs.FinMap as fm
use Rattle.sal_value.specs.declared.name.Name.{Name}
use Rattle.sal_value.specs.declared.value.Value.{Value}
use Rattle.sal_value.specs.Spelling.{is_legal}
use Rattle.sal_mail.specs.declared.message.Reply.{Reply}
use Rattle.sal_mail.specs.declared.message.Reply.TheVariants.{Nobody, Tok, Place, Outside}
use Rattle.sal_mail.specs.declared.message.Join.{Join}
use Rattle.sal_mail.specs.Message.{with_slot, is_full, join_value}
use Rattle.sal_source.specs.Table.{TableKey, key_eq, Table, write, total}
use Rattle.sal_source.specs.Keys.{name_key, made_key}
use Rattle.sal_source.specs.Configuration.{Waiting}
use Rattle.sal_source.specs.Give.{DueReply, join_after_value, join_replies, give_to, replies_from, outside_answers, give_one, replies_if_legal, answers_if_legal, settle_answers}
use Rattle.sal_source.specs.Once.{one_if}
use Rattle.sal_source.proofs.Tables.{words_tells, words_refl, same_words, get-write}
use Rattle.sal_source.proofs.Same.{total-append}
use Rattle.sal_source.proofs.Once.{Waits, waits_one}
use Rattle.sal_source.proofs.Keeping.{split, is_there}

module _ (me : Name) (from : ℕ) where
  -- an address of this actor with a number from here on
  abbrev pub is_mine : Name → ℕ → Bool
  is_mine maker n = key_eq (name_key me) (name_key maker) && nat_le from n

  abbrev pub is_own : Reply → Bool
  is_own Nobody = true
  is_own (Outside n) = false
  is_own (Tok maker n) = is_mine maker n
  is_own (Place maker join at) = is_mine maker join

  abbrev pub foreign : Reply → ℕ
  foreign r = if is_own r then 0 else 1

  pub foreign_most : (r : Reply) → foreign r ≤ 1
  foreign_most r = at (is_own r)
    where
      at : (b : Bool) → (if b then 0 else 1) ≤ 1
      at true = omega arith
      at false = omega arith

  pub own_not : (r : Reply) → is_own r ≡ true → foreign r ≡ 0
  own_not r e = ap (λ b. if b then 0 else 1) e

  module _ (special : TableKey) where
    -- the actor's own joins with numbers from here on owe own replies, but for this one
    pub record Own (key : TableKey) (r : Reply) : Type 0 where
      pub at : (n : ℕ) → key ≡ made_key me n → from ≤ n → (is_own r ≡ true) ⊎ (key ≡ special)

    abbrev pub Any : TableKey → Reply → Type 0
    Any key r = Unit {0}

    abbrev pub OwnIn : Waiting → Type 0
    OwnIn = Waits Any Own

    abbrev pub opens : Waiting → ℕ
    opens w = one_if (fm.contains_key w.joins special)

    abbrev pub foreigns : List DueReply → ℕ
    foreigns gs = total (λ g. foreign g.0) gs

    -- ---- one reply

    fewer : (b : Bool) (x : Name × Join) (o : Option (Name × Join)) → o ≡ Some x → one_if b ≤ one_if (is_some o)
    fewer true x o e = let there = ap is_some e in omega (arith, ap one_if there)
    fewer false x o e = omega arith

    -- a join that is filled or goes isn't opened
    open_falls : (t : Table (Name × Join)) (key : TableKey) (o : Option (Name × Join)) → one_if (is_some o) ≤ one_if (fm.contains_key t key) → one_if (fm.contains_key (write t key o) special) ≤ one_if (fm.contains_key t special)
    open_falls t key o l =
        elim (words_tells special key) [
          | inl a ↦
              let now : one_if (fm.contains_key (write t key o) special) ≡ one_if (is_some o) = ap (λ z. one_if (is_some z)) (get-write t key o special ∙ ap (λ b. cond b o (fm.get t special)) a.0) in
              let was : one_if (fm.contains_key t key) ≡ one_if (fm.contains_key t special) = ap (λ z. one_if (fm.contains_key t z)) (sym a.1) in
              omega (arith, now, was, l)
          | inr a ↦ let now : one_if (fm.contains_key (write t key o) special) ≡ one_if (fm.contains_key t special) = ap (λ z. one_if (is_some z)) (get-write t key o special ∙ ap (λ b. cond b o (fm.get t special)) a.0) in omega (arith, now)
        ]

    gone_now : (t : Table (Name × Join)) (key : TableKey) → key ≡ special → one_if (fm.contains_key (write t key None) special) ≡ 0
    gone_now t key e = ap (λ z. one_if (is_some z)) (get-write t key None special ∙ ap (λ b. cond b None (fm.get t special)) (ap (key_eq special) e ∙ words_refl special))

    mine_key : (maker : Name) (n : ℕ) → is_mine maker n ≡ true → (made_key maker n ≡ made_key me n) × (from ≤ n)
    mine_key maker n e =
        let p = split (key_eq (name_key me) (name_key maker)) (nat_le from n) e in
        (ap (λ k. n ∷ k) (sym (same_words (name_key me) (name_key maker) p.0)), leb-true from n p.1)

    full_falls : (maker : Name) (join at : ℕ) (w : Waiting) (x : Name × Join) (r : Reply) → r ≡ x.1.reply → fm.get w.joins (made_key maker join) ≡ Some x → OwnIn w → foreign r + one_if (fm.contains_key (write w.joins (made_key maker join) None) special) ≤ foreign (Place maker join at) + opens w
    full_falls maker join at w x r same found own = by (is_mine maker join) refl
      where
        key : TableKey
        key = made_key maker join

        falls : one_if (fm.contains_key (write w.joins key None) special) ≤ opens w
        falls = open_falls w.joins key None (omega arith)

        by : (b : Bool) → is_mine maker join ≡ b → foreign r + one_if (fm.contains_key (write w.joins key None) special) ≤ foreign (Place maker join at) + opens w
        by false e = let one : foreign (Place maker join at) ≡ 1 = ap (λ b. if b then 0 else 1) e in omega (arith, one, falls, foreign_most r)
        by true e =
            let m = mine_key maker join e in
            elim ((own.joins.at key x found).at join m.0 m.1) [
              | inl o ↦ let none : foreign r ≡ 0 = ap foreign same ∙ own_not x.1.reply o in omega (arith, none, falls)
              | inr s ↦
                  let now = gone_now w.joins key s in
                  let was : opens w ≡ 1 = ap (λ z. one_if (fm.contains_key w.joins z)) (sym s) ∙ ap one_if (is_there w.joins key x found) in
                  omega (arith, now, was, foreign_most r)
            ]

    place_falls : (maker : Name) (join at : ℕ) (value : Value) (w : Waiting) → OwnIn w → (o : Option (Name × Join)) → fm.get w.joins (made_key maker join) ≡ o →
        foreigns (join_replies at value o) + one_if (fm.contains_key (write w.joins (made_key maker join) (join_after_value at value o)) special) ≤ foreign (Place maker join at) + opens w
    place_falls maker join at value w own None e = let falls = open_falls w.joins (made_key maker join) None (omega arith) in omega (arith, falls)
    place_falls maker join at value w own (Some x) e = by (is_full (with_slot at value x.1)) refl
      where
        by : (b : Bool) → is_full (with_slot at value x.1) ≡ b →
            foreigns (cond b ((x.1.reply, join_value (with_slot at value x.1)) ∷ []) []) + one_if (fm.contains_key (write w.joins (made_key maker join) (cond b None (Some (x.0, with_slot at value x.1)))) special) ≤ foreign (Place maker join at) + opens w
        by true full = let falls = full_falls maker join at w x x.1.reply refl e own in omega (arith, falls)
        by false full =
            let falls = open_falls w.joins (made_key maker join) (Some (x.0, with_slot at value x.1)) (let there = ap one_if (is_there w.joins (made_key maker join) x e) in omega (arith, there)) in
            omega (arith, falls)

    to_falls : (r : Reply) (value : Value) (w : Waiting) → OwnIn w → length (outside_answers r value) + (foreigns (replies_from r value w) + opens (give_to r value w)) ≤ foreign r + opens w
    to_falls Nobody value w own = omega arith
    to_falls (Outside n) value w own = omega arith
    to_falls (Tok maker n) value w own = omega arith
    to_falls (Place maker join at) value w own = let falls = place_falls maker join at value w own (fm.get w.joins (made_key maker join)) refl in omega (arith, falls)

    one_falls : (g : DueReply) (w : Waiting) → OwnIn w → length (answers_if_legal g) + (foreigns (replies_if_legal g w) + opens (give_one g w)) ≤ foreign g.0 + opens w
    one_falls g w own = by (is_legal g.1)
      where
        by : (b : Bool) → length (cond b (outside_answers g.0 g.1) []) + (foreigns (cond b (replies_from g.0 g.1 w) []) + opens (cond b (give_to g.0 g.1 w) w)) ≤ foreign g.0 + opens w
        by true = to_falls g.0 g.1 w own
        by false = omega arith

    -- ---- all of them

    pub few_answers : (n : ℕ) (gs : List DueReply) (w : Waiting) → OwnIn w → length (settle_answers n gs w) ≤ foreigns gs + opens w
    unfolding settle_answers
    few_answers zero gs w own = omega arith
    few_answers (suc n) [] w own = omega arith
    few_answers (suc n) (g ∷ gs) w own =
        let more = few_answers n (replies_if_legal g w ++ gs) (give_one g w) (waits_one Any Own g w own) in
        omega (arith, more, one_falls g w own, length-append (answers_if_legal g) (settle_answers n (replies_if_legal g w ++ gs) (give_one g w)), total-append (λ g. foreign g.0) (replies_if_legal g w) gs)
