-- What a handler makes, put among things.
use Rattle.std.proofs.Common.{◌≡◌, ◌≢◌, ◌⊎◌, inl, inr, ℕ, ◌≤◌, ◌<◌, Bool, true, false, not, cond, ◌&&◌, List, [], ◌∷◌, map, filter, Some, refl, sym, ap, ◌∙◌, arith}
use Rattle.std.specs.Prelude.{if◌then◌else◌, filter_map, nat_le}
use Rattle.std.specs.Option.{option_map}
use Rattle.std.proofs.lemmas.Bool.{leb-true, leb-false}
use Rattle.std.proofs.lemmas.Bool.Decides.{eqb_tells}
use Rattle.sal_value.specs.declared.name.Name.{Name}
use Rattle.sal_value.specs.declared.value.Value.{Value}
use Rattle.sal_value.proofs.Keys.{same_names}
use Rattle.sal_mail.specs.declared.message.Piece.{Piece as Argument}
use Rattle.sal_mail.specs.declared.message.Piece.TheVariants.{Known, Token}
use Rattle.sal_mail.specs.declared.message.Reply.{Reply}
use Rattle.sal_mail.specs.declared.message.Reply.TheVariants.{Nobody, Tok, Place, Outside}
use Rattle.sal_mail.specs.declared.message.Message.{Message}
use Rattle.sal_mail.specs.declared.message.Join.{Join}
use Rattle.sal_mail.specs.ReplyKeys.{reply_key, owes}
use Rattle.sal_mail.specs.Message.{piece_with_reply, is_other, with_reply, without_delay, is_full}
use Rattle.sal_handler.specs.WellFormed.{EachOf, IsWithin, WaitsWithin, IsGoodMessage}
use Rattle.sal_source.specs.Table.{TableKey, key_eq, total}
use Rattle.sal_source.specs.Keys.{name_key, made_key, message_key, join_key}
use Rattle.sal_source.specs.Configuration.{Waiting}
use Rattle.sal_source.specs.Give.{resolve, settle_all}
use Rattle.sal_source.specs.Step as s
use Rattle.sal_source.proofs.Tables.{words_refl, words_tells}
use Rattle.sal_source.proofs.Commute.{owes_own}
use Rattle.sal_source.proofs.Keeping.{same_made}
use Rattle.sal_pieces.specs.Pieces.{Thing, ActorThing, MessageThing, JoinThing, CreationThing, ReplyThing}
use Rattle.sal_pieces.specs.Image.{join_in, reply_in, waiting_before_replies}
use Rattle.sal_pieces.specs.Once.{count_owed}
use Rattle.sal_pieces.specs.Steps.{IsLate}
use Rattle.sal_pieces.proofs.Order.{weigh_table, join_test}
use Rattle.sal_pieces.proofs.Beside.{new_in, Apart, give_apart, with_message, with_join, apart_then, apart_none, apart_message, apart_join}

-- ---- late replies

-- 1 where it is a token or place of the actor from this number on, else 0
abbrev pub late : Name → ℕ → Reply → ℕ
late me from Nobody = 0
late me from (Tok owner n) = if key_eq (name_key owner) (name_key me) && nat_le from n then 1 else 0
late me from (Place owner join at) = if key_eq (name_key owner) (name_key me) && nat_le from join then 1 else 0
late me from (Outside n) = 0

by_number : (me owner : Name) (from n : ℕ) → (◌≡◌ {A = ℕ} (if key_eq (name_key owner) (name_key me) && nat_le from n then 1 else 0) 0) ⊎ ((owner ≡ me) × (from ≤ n))
by_number me owner from n = elim (words_tells (name_key owner) (name_key me)) [
  | inl e ↦ at (nat_le from n) refl e.0 (same_names owner me e.1)
  | inr e ↦ inl (ap (λ (b : Bool). if◌then◌else◌ {A = ℕ} (b && nat_le from n) 1 0) e.0)
]
  where
    at : (b : Bool) → nat_le from n ≡ b → key_eq (name_key owner) (name_key me) ≡ true → owner ≡ me → (◌≡◌ {A = ℕ} (if key_eq (name_key owner) (name_key me) && nat_le from n then 1 else 0) 0) ⊎ ((owner ≡ me) × (from ≤ n))
    at true e w same = inr (same, leb-true from n e)
    at false e w same = inl (λ i. if w i && e i then 1 else 0)

pub late_is : (me : Name) (from : ℕ) (r : Reply) → (late me from r ≡ 0) ⊎ IsLate me from r
late_is me from Nobody = inl refl
late_is me from (Tok owner n) = by_number me owner from n
late_is me from (Place owner join at) = by_number me owner from join
late_is me from (Outside n) = inl refl

-- what isn't late is below
earlier : (me owner : Name) (from n : ℕ) → ◌≡◌ {A = ℕ} (if key_eq (name_key owner) (name_key me) && nat_le from n then 1 else 0) 0 → owner ≡ me → n < from
earlier me owner from n zero same = at (nat_le from n) refl
  where
    at : (b : Bool) → nat_le from n ≡ b → n < from
    at false e = leb-false from n e
    at true e =
        let own : key_eq (name_key owner) (name_key me) ≡ true = ap (λ o. key_eq (name_key o) (name_key me)) same ∙ words_refl (name_key me) in
        let one : ◌≡◌ {A = ℕ} (if key_eq (name_key owner) (name_key me) && nat_le from n then 1 else 0) 1 = (λ i. if own i && e i then 1 else 0) in
        absurd (let e : ◌≡◌ {A = ℕ} 0 1 = sym zero ∙ one in omega (arith, e))

-- ---- none of these replies is late

module _ (me : Name) (from : ℕ) where
  abbrev pub NoneLate : List Thing → Type 0
  NoneLate ts = (r : Reply) → IsLate me from r → total (count_owed (reply_key r)) ts ≡ 0

  not_late : (r : Reply) → (IsLate me from r → owes (reply_key r) r ≡ 0) → late me from r ≡ 0
  not_late r h = elim (late_is me from r) [
    | inl e ↦ e
    | inr l ↦ absurd (let e = h l in omega (arith, e, owes_own r))
  ]

  late_replies : (ts : List Thing) → NoneLate ts → total (λ g. late me from g.0) (filter_map reply_in ts) ≡ 0
  late_replies [] h = refl
  late_replies (ActorThing a ∷ ts) h = late_replies ts (λ r l. let e = h r l in omega (arith, e))
  late_replies (CreationThing x ∷ ts) h = late_replies ts (λ r l. let e = h r l in omega (arith, e))
  late_replies (MessageThing m ∷ ts) h = late_replies ts (λ r l. let e = h r l in omega (arith, e))
  late_replies (JoinThing j ∷ ts) h = late_replies ts (λ r l. let e = h r l in omega (arith, e))
  late_replies (ReplyThing g ∷ ts) h =
      let here = not_late g.0 (λ l. let e = h g.0 l in omega (arith, e)) in
      omega (arith, here, late_replies ts (λ r l. let e = h r l in omega (arith, e)))

  late_joins : (ts : List Thing) → NoneLate ts → total (λ j. late me from j.1.reply) (filter_map join_in ts) ≡ 0
  late_joins [] h = refl
  late_joins (ActorThing a ∷ ts) h = late_joins ts (λ r l. let e = h r l in omega (arith, e))
  late_joins (CreationThing x ∷ ts) h = late_joins ts (λ r l. let e = h r l in omega (arith, e))
  late_joins (MessageThing m ∷ ts) h = late_joins ts (λ r l. let e = h r l in omega (arith, e))
  late_joins (ReplyThing g ∷ ts) h = late_joins ts (λ r l. let e = h r l in omega (arith, e))
  late_joins (JoinThing j ∷ ts) h =
      let here = not_late j.1.reply (λ l. let e = h j.1.reply l in omega (arith, e)) in
      omega (arith, here, late_joins ts (λ r l. let e = h r l in omega (arith, e)))

  pub none_new : (ts : List Thing) → NoneLate ts → new_in (late me from) (filter_map reply_in ts) (waiting_before_replies ts) ≡ 0
  unfolding waiting_before_replies
  none_new ts h =
      let joins = weigh_table join_key join_test (λ (j : Name × Join). late me from j.1.reply) (filter_map join_in ts) in
      omega (arith, late_replies ts h, late_joins ts h, joins)

-- ---- what a handler's messages and joins wait for

module _ (me : Name) (from to : ℕ) where
  args_kept : (n : ℕ) (v : Value) → n < from → (args : List Argument) → EachOf (WaitsWithin from to) args → map (piece_with_reply n v) args ≡ args
  args_kept n v low [] h = refl
  args_kept n v low (Known x ∷ args) h = ap (λ zs. Known x ∷ zs) (args_kept n v low args h.1)
  args_kept n v low (Token k ∷ args) h = elim (eqb_tells k n) [
    | inl e ↦ absurd (let q = e.1 in omega (arith, q, low, h.0.0))
    | inr e ↦ λ i. cond (e.0 i) (Known v) (Token k) ∷ args_kept n v low args h.1 i
  ]

  after_kept : (n : ℕ) → n < from → (ks : List ℕ) → EachOf (IsWithin from to) ks → filter (is_other n) ks ≡ ks
  after_kept n low [] h = refl
  after_kept n low (k ∷ ks) h = elim (eqb_tells k n) [
    | inl e ↦ absurd (let q = e.1 in omega (arith, q, low, h.0.0))
    | inr e ↦ λ i. cond (not (e.0 i)) (k ∷ after_kept n low ks h.1 i) (filter (is_other n) ks)
  ]

  waits_for_new : (caller : Reply) (sizes : List ℕ) (m : Message) → IsGoodMessage me caller from to sizes m → (o : Name) (n : ℕ) (v : Value) → late me from (Tok o n) ≡ 0
      → option_map (resolve o n v) (Some (without_delay m)) ≡ Some (without_delay m)
  waits_for_new caller sizes m good o n v old = elim (words_tells (name_key o) (name_key m.maker)) [
    | inl e ↦
        let low : n < from = earlier me o from n old (same_names o m.maker e.1 ∙ good.maker) in
        let args = args_kept n v low m.args good.args in
        let after = after_kept n low m.after good.after in
        ap (λ b. Some (cond b (with_reply n v (without_delay m)) (without_delay m))) e.0 ∙ (λ i. Some (record (without_delay m) { args = args i; after = after i }))
    | inr e ↦ ap (λ b. Some (cond b (with_reply n v (without_delay m)) (without_delay m))) e.0
  ]

  -- ---- put in beside replies

  abbrev pub messages_put : List Message → Waiting → Waiting
  messages_put ms c = record c { messages = s.put_messages ms c.messages }

  abbrev pub joins_put : List Join → Waiting → Waiting
  joins_put js c = record c { joins = s.put_joins me js c.joins }

  apart_messages : (caller : Reply) (sizes : List ℕ) (ms : List Message) → EachOf (IsGoodMessage me caller from to sizes) ms → Apart (late me from) (messages_put ms)
  apart_messages caller sizes [] h = apart_none (late me from)
  apart_messages caller sizes (m ∷ ms) h =
      apart_then (late me from) (with_message (message_key m) (Some (without_delay m))) (messages_put ms)
      (apart_message (late me from) (message_key m) (Some (without_delay m)) (waits_for_new caller sizes m h.0)) (apart_messages caller sizes ms h.1)

  apart_joins : (js : List Join) → EachOf (λ j. from ≤ j.number) js → Apart (late me from) (joins_put js)
  apart_joins [] h = apart_none (late me from)
  apart_joins (j ∷ js) h = at (is_full j) (apart_joins js h.1)
    where
      k : TableKey
      k = made_key me j.number

      away : (o : Name) (n i : ℕ) → late me from (Place o n i) ≡ 0 → made_key o n ≢ made_key me j.number
      away o n i old e =
          let p = same_made o me n j.number e in
          let low = earlier me o from n old p.0 in
          let q = p.1 in
          omega (arith, low, q, h.0)

      at : (b : Bool) → Apart (late me from) (joins_put js) → Apart (late me from) (λ c. record c { joins = if b then s.put_joins me js c.joins else s.put_join me j (s.put_joins me js c.joins) })
      at true rest = rest
      at false rest = apart_then (late me from) (with_join (made_key me j.number) (Some (me, j))) (joins_put js) (apart_join (late me from) (made_key me j.number) (Some (me, j)) away) rest

  abbrev pub both_put : List Message → List Join → Waiting → Waiting
  both_put ms js c = messages_put ms (joins_put js c)

  -- what a handler made waits beside the replies that were to be given
  pub put_beside : (caller : Reply) (sizes : List ℕ) (ms : List Message) (js : List Join) (ts : List Thing) → EachOf (IsGoodMessage me caller from to sizes) ms → EachOf (λ j. from ≤ j.number) js → NoneLate me from ts
      → settle_all (filter_map reply_in ts) (both_put ms js (waiting_before_replies ts)) ≡ both_put ms js (settle_all (filter_map reply_in ts) (waiting_before_replies ts))
  put_beside caller sizes ms js ts good high none =
      give_apart (late me from) (both_put ms js)
      (apart_then (late me from) (messages_put ms) (joins_put js) (apart_messages caller sizes ms good) (apart_joins js high))
      (filter_map reply_in ts) (waiting_before_replies ts) (none_new me from ts none)
