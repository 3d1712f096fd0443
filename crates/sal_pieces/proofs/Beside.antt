-- A change of what waits, beside replies that are still to be given.
use Rattle.std.proofs.Common.{◌≡◌, ◌≢◌, ℕ, zero, suc, ◌+◌, ◌≤◌, Bool, true, false, cond, List, [], ◌∷◌, ◌++◌, Option, refl, sym, ap, ◌∙◌, arith}
use Rattle.std.specs.Option.{option_map}
use Rattle.std.specs.FinMap as fm
use Rattle.sal_value.specs.declared.name.Name.{Name}
use Rattle.sal_value.specs.declared.value.Value.{Value}
use Rattle.sal_value.specs.Spelling.{is_legal}
use Rattle.sal_mail.specs.declared.message.Reply.{Reply}
use Rattle.sal_mail.specs.declared.message.Reply.TheVariants.{Nobody, Tok, Place, Outside}
use Rattle.sal_mail.specs.declared.message.Message.{Message}
use Rattle.sal_mail.specs.declared.message.Join.{Join}
use Rattle.sal_source.specs.Table.{TableKey, key_eq, Table, write, table_map, total, sum_values}
use Rattle.sal_source.specs.Keys.{made_key}
use Rattle.sal_source.specs.Configuration.{Waiting}
use Rattle.sal_source.specs.Give.{DueReply, resolve, join_after_value, join_replies, give_to, replies_from, give_one, replies_if_legal, settle, settle_all, settle_bound}
use Rattle.sal_source.proofs.Tables.{same_table, get-write, get-map}
use Rattle.sal_source.proofs.Same.{total-append}
use Rattle.sal_source.proofs.Commute.{join_falls, get-write_other, write_apart}
use Rattle.sal_source.proofs.Fuel.{enough}

pub map-write : {X Y : Type 0} (f : X → Y) (t : Table X) (k : TableKey) (o : Option X) → table_map f (write t k o) ≡ write (table_map f t) k (option_map f o)
map-write f t k o = same_table _ _ (λ q. get-map f (write t k o) q ∙ ap (option_map f) (get-write t k o q) ∙ inside (key_eq q k) o (fm.get t q) ∙ sym (get-write (table_map f t) k (option_map f o) q ∙ ap (cond (key_eq q k) (option_map f o)) (get-map f t q)))
  where
    inside : (b : Bool) (x y : Option _) → option_map f (cond b x y) ≡ cond b (option_map f x) (option_map f y)
    inside true x y = refl
    inside false x y = refl

-- how many of these replies, and of those of the open joins, are new
abbrev pub new_in : (Reply → ℕ) → List DueReply → Waiting → ℕ
new_in new gs c = total (λ g. new g.0) gs + sum_values (λ j. new j.1.reply) c.joins

-- each reply that isn't new passes by the change
pub record Apart (new : Reply → ℕ) (e : Waiting → Waiting) : Type 0 where
  pub gives : (g : DueReply) (c : Waiting) → new g.0 ≡ 0 → give_one g (e c) ≡ e (give_one g c)
  pub releases : (g : DueReply) (c : Waiting) → new g.0 ≡ 0 → replies_if_legal g (e c) ≡ replies_if_legal g c

new_falls : (new : Reply → ℕ) (r : Reply) (v : Value) (c : Waiting) → new_in new (replies_from r v c) (give_to r v c) ≤ new_in new [] c
new_falls new Nobody v c = omega arith
new_falls new (Outside x) v c = omega arith
new_falls new (Tok o x) v c = omega arith
new_falls new (Place o j i) v c =
    let f = join_falls c.joins (made_key o j) i v (λ j. new j.1.reply) (λ g. new g.0) (λ j. refl) (λ j. omega arith) in
    omega arith

new_one : (new : Reply → ℕ) (g : DueReply) (gs : List DueReply) (c : Waiting) → new_in new (replies_if_legal g c ++ gs) (give_one g c) ≤ new_in new (g ∷ gs) c
new_one new g gs c =
    let f : new_in new (replies_if_legal g c) (give_one g c) ≤ new_in new [] c = at (is_legal g.1) in
    omega (arith, total-append (λ (g : DueReply). new g.0) (replies_if_legal g c) gs)
  where
    at : (b : Bool) → new_in new (cond b (replies_from g.0 g.1 c) []) (cond b (give_to g.0 g.1 c) c) ≤ new_in new [] c
    at true = new_falls new g.0 g.1 c
    at false = omega arith

settle_apart : (new : Reply → ℕ) (e : Waiting → Waiting) → Apart new e → (n : ℕ) (gs : List DueReply) (c : Waiting) → new_in new gs c ≡ 0 → settle n gs (e c) ≡ e (settle n gs c)
unfolding settle
settle_apart new e a zero gs c none = refl
settle_apart new e a (suc n) [] c none = refl
settle_apart new e a (suc n) (g ∷ gs) c none =
    ap (λ l. settle n (l ++ gs) (give_one g (e c))) (a.releases g c (omega (arith, none)))
    ∙ ap (settle n (replies_if_legal g c ++ gs)) (a.gives g c (omega (arith, none)))
    ∙ settle_apart new e a n (replies_if_legal g c ++ gs) (give_one g c) (let f = new_one new g gs c in omega (arith, f, none))

pub give_apart : (new : Reply → ℕ) (e : Waiting → Waiting) → Apart new e → (gs : List DueReply) (c : Waiting) → new_in new gs c ≡ 0 → settle_all gs (e c) ≡ e (settle_all gs c)
give_apart new e a gs c none =
    let n = settle_bound gs (e c) + settle_bound gs c in
    enough (settle_bound gs (e c)) n gs (e c) (omega arith) (omega arith)
    ∙ settle_apart new e a n gs c none
    ∙ ap e (enough n (settle_bound gs c) gs c (omega arith) (omega arith))

-- ---- changes

abbrev pub with_message : TableKey → Option Message → Waiting → Waiting
with_message k o c = record c { messages = write c.messages k o }

abbrev pub with_join : TableKey → Option (Name × Join) → Waiting → Waiting
with_join k o c = record c { joins = write c.joins k o }

module _ (new : Reply → ℕ) where
  -- each reply that isn't new passes by, whether its value is legal or not
  record Passes (e : Waiting → Waiting) : Type 0 where
    gives : (r : Reply) (v : Value) (c : Waiting) → new r ≡ 0 → give_to r v (e c) ≡ e (give_to r v c)
    releases : (r : Reply) (v : Value) (c : Waiting) → new r ≡ 0 → replies_from r v (e c) ≡ replies_from r v c

  apart : (e : Waiting → Waiting) → Passes e → Apart new e
  apart e p = record {
    gives = λ g c n. elim (is_legal g.1) as (λ (b : Bool). cond b (give_to g.0 g.1 (e c)) (e c) ≡ e (cond b (give_to g.0 g.1 c) c)) [ true ↦ p.gives g.0 g.1 c n | false ↦ refl ];
    releases = λ g c n. elim (is_legal g.1) as (λ (b : Bool). cond b (replies_from g.0 g.1 (e c)) [] ≡ cond b (replies_from g.0 g.1 c) []) [ true ↦ p.releases g.0 g.1 c n | false ↦ refl ];
  }

  pub apart_then : (e f : Waiting → Waiting) → Apart new e → Apart new f → Apart new (λ c. e (f c))
  apart_then e f a b = record {
    gives = λ g c n. a.gives g (f c) n ∙ ap e (b.gives g c n);
    releases = λ g c n. a.releases g (f c) n ∙ b.releases g c n;
  }

  pub apart_none : Apart new (λ c. c)
  apart_none = record { gives = λ g c n. refl; releases = λ g c n. refl }

  -- what is written among the messages waits for nothing but what is new

  pub apart_message : (k : TableKey) (x : Option Message) → ((o : Name) (n : ℕ) (v : Value) → new (Tok o n) ≡ 0 → option_map (resolve o n v) x ≡ x) → Apart new (with_message k x)
  apart_message k x w = apart (with_message k x) (record { gives = go; releases = on })
    where
      go : (r : Reply) (v : Value) (c : Waiting) → new r ≡ 0 → give_to r v (with_message k x c) ≡ with_message k x (give_to r v c)
      go Nobody v c n = refl
      go (Outside y) v c n = refl
      go (Tok o y) v c n = ap (λ (t : Table Message). record c { messages = t }) (map-write (resolve o y v) c.messages k x ∙ ap (λ z. write (table_map (resolve o y v) c.messages) k z) (w o y v n))
      go (Place o j i) v c n = refl

      on : (r : Reply) (v : Value) (c : Waiting) → new r ≡ 0 → replies_from r v (with_message k x c) ≡ replies_from r v c
      on Nobody v c n = refl
      on (Outside y) v c n = refl
      on (Tok o y) v c n = refl
      on (Place o j i) v c n = refl

  -- a join whose places are new
  pub apart_join : (k : TableKey) (x : Option (Name × Join)) → ((o : Name) (n i : ℕ) → new (Place o n i) ≡ 0 → made_key o n ≢ k) → Apart new (with_join k x)
  apart_join k x w = apart (with_join k x) (record { gives = go; releases = on })
    where
      go : (r : Reply) (v : Value) (c : Waiting) → new r ≡ 0 → give_to r v (with_join k x c) ≡ with_join k x (give_to r v c)
      go Nobody v c n = refl
      go (Outside y) v c n = refl
      go (Tok o y) v c n = refl
      go (Place o l i) v c n =
          ap (λ (t : Table (Name × Join)). record c { joins = t })
          (ap (λ z. write (write c.joins k x) (made_key o l) (join_after_value i v z)) (get-write_other c.joins k (made_key o l) x (w o l i n))
          ∙ write_apart c.joins k (made_key o l) x (join_after_value i v (fm.get c.joins (made_key o l))) (λ e. w o l i n (sym e)))

      on : (r : Reply) (v : Value) (c : Waiting) → new r ≡ 0 → replies_from r v (with_join k x c) ≡ replies_from r v c
      on Nobody v c n = refl
      on (Outside y) v c n = refl
      on (Tok o y) v c n = refl
      on (Place o l i) v c n = ap (join_replies i v) (get-write_other c.joins k (made_key o l) x (w o l i n))
