-- What was below an actor's next number stays so as a handler's effects come in.
use Rattle.std.proofs.Common.{◌≡◌, ◌≢◌, inl, inr, ℕ, ◌≤◌, Bool, true, List, [], ◌∷◌, ◌++◌, map, filter, Some, refl, sym, ap, subst, ◌∙◌, arith}
use Rattle.std.specs.Prelude.{if◌then◌else◌, filter_map}
use Rattle.std.specs.FinSet as fs
use Rattle.sal_value.specs.declared.name.Name.{Name}
use Rattle.sal_value.proofs.Keys.{same_names}
use Rattle.sal_mail.specs.declared.message.Reply.{Reply}
use Rattle.sal_mail.specs.declared.message.Reply.TheVariants.{Nobody, Tok, Place, Outside}
use Rattle.sal_mail.specs.declared.message.Message.{Message}
use Rattle.sal_mail.specs.declared.message.Join.{Join}
use Rattle.sal_mail.specs.declared.effects.Actor.{Actor}
use Rattle.sal_mail.specs.declared.effects.Effects.{Effects}
use Rattle.sal_mail.specs.ReplyKeys.{reply_key, owes}
use Rattle.sal_mail.specs.Message.{is_full, without_delay}
use Rattle.sal_handler.specs.WellFormed.{EachOf, IsWithin, IsNewReply, IsAllowedReply, IsGoodMessage, IsOrderly}
use Rattle.sal_handler.proofs.Addresses.{each_more}
use Rattle.sal_source.specs.Table.{TableKey, key_cmp, total}
use Rattle.sal_source.specs.Keys.{name_key, made_key, message_key}
use Rattle.sal_source.specs.Step as s
use Rattle.sal_source.proofs.Tables.{words_tells}
use Rattle.sal_source.proofs.Keeping.{same_made, each_both}
use Rattle.sal_book.specs.Book.{is_open, join_reply, is_legal_reply}
use Rattle.sal_pieces.specs.Pieces.{Thing, ActorThing, MessageThing, ReplyThing, things}
use Rattle.sal_pieces.specs.Image.{anonymous_in}
use Rattle.sal_pieces.specs.Once.{one_if_key, message_key_in, join_key_in, creation_key_in, count_at_key, count_owed, StandOnce}
use Rattle.sal_pieces.specs.Steps.{actor_names, legal_step_replies, IsLate, IsBelow, pieces_after, HandlersKeepBelow}
use Rattle.sal_pieces.proofs.Entering.{total_parted}
use Rattle.sal_pieces.proofs.Stepping.{total_zero, beside_actor, call_and_body}
use Rattle.sal_pieces.proofs.Standing.{made_things, answered_total, whose_new, joins_within, messages_high, creations_high, creations_within, all_total, owed_then, given_total}
use Rattle.sal_pieces.proofs.Handling.{gives_arrays, left_same}
use Rattle.sal_source.proofs.Same.{total-append}

-- none has this key: it would be another actor's, or below
module _ {X : Type 0} (me n : Name) (from to low : ℕ) (num : X → ℕ) (words : X → TableKey) (apart : n ≡ me → to ≤ low) where
  none_mine : (k : ℕ) → low ≤ k → (xs : List X) → EachOf (λ x. (words x ≡ made_key me (num x)) × IsWithin from to (num x)) xs → total (λ x. one_if_key (made_key n k) (Some (words x))) xs ≡ 0
  none_mine k high [] h = refl
  none_mine k high (x ∷ xs) h = elim (words_tells (made_key n k) (words x)) [
    | inl e ↦
        let p = same_made n me k (num x) (e.1 ∙ h.0.0) in
        let a = apart p.0 in
        let q = p.1 in
        absurd (omega (arith, a, q, high, h.0.1.1))
    | inr e ↦
        let no : one_if_key (made_key n k) (Some (words x)) ≡ 0 = ap (λ (b : Bool). if◌then◌else◌ {A = ℕ} b 1 0) e.0 in
        omega (arith, no, none_mine k high xs h.1)
  ]

-- a late reply_key isn't a new one below
not_new : (me n : Name) (from to low : ℕ) (r q : Reply) → (n ≡ me → to ≤ low) → IsLate n low r → IsNewReply me from to q → reply_key r ≢ reply_key q
not_new me n from to low Nobody q apart l new e = absurd l
not_new me n from to low (Outside x) q apart l new e = absurd l
not_new me n from to low (Tok o x) Nobody apart l new e = absurd new
not_new me n from to low (Tok o x) (Outside y) apart l new e = absurd new
not_new me n from to low (Tok o x) (Place p y i) apart l new e = absurd (let f : ◌≡◌ {A = ℕ} 0 1 = cc in omega (arith, f))
not_new me n from to low (Tok o x) (Tok p y) apart l new e =
    let number : x ≡ y = cc in
    let key : name_key o ≡ name_key p = cc in
    let a = apart (sym l.0 ∙ same_names o p key ∙ new.0) in
    omega (arith, a, number, l.1, new.1.1)
not_new me n from to low (Place o x j) Nobody apart l new e = absurd new
not_new me n from to low (Place o x j) (Outside y) apart l new e = absurd new
not_new me n from to low (Place o x j) (Tok p y) apart l new e = absurd (let f : ◌≡◌ {A = ℕ} 1 0 = cc in omega (arith, f))
not_new me n from to low (Place o x j) (Place p y i) apart l new e =
    let number : x ≡ y = cc in
    let key : name_key o ≡ name_key p = cc in
    let a = apart (sym l.0 ∙ same_names o p key ∙ new.0) in
    omega (arith, a, number, l.1, new.1.1)

somebody : (n : Name) (low : ℕ) (r : Reply) → IsLate n low r → r ≢ Nobody
somebody n low r l e = absurd (subst (λ (q : Reply). IsLate n low q) e l)

module _ (e : Effects) (m : Message) (a : Actor × ℕ) (bound : List TableKey) (ts : List Thing) (sizes : List ℕ) (order : IsOrderly sizes (s.call_of m a (actor_names e.actors)) e)
    (names : s.are_fresh (actor_names e.actors) (fs.from_list (filter_map anonymous_in (MessageThing m ∷ ActorThing a ∷ ts) ++ bound)) ≡ true)
    (below : IsBelow a.0.name a.1 (MessageThing m ∷ ActorThing a ∷ ts)) (once : StandOnce (MessageThing m ∷ ActorThing a ∷ ts)) where
  module _ (n : Name) (low : ℕ) (old : IsBelow n low (MessageThing m ∷ ActorThing a ∷ ts)) (apart : n ≡ a.0.name → e.serial ≤ low) where
    none_messages : (k : ℕ) → low ≤ k → count_at_key message_key_in (made_key n k) (map ReplyThing (s.step_replies e m.reply) ++ made_things e a ts) ≡ 0
    none_messages k high =
        let z = old.messages k high in
        let mine : EachOf (λ x. (message_key x ≡ made_key a.0.name x.serial) × IsWithin a.1 e.serial x.serial) e.messages =
        each_more (λ x. IsGoodMessage a.0.name m.reply a.1 e.serial sizes x × IsWithin a.1 e.serial x.serial) (λ x. (message_key x ≡ made_key a.0.name x.serial) × IsWithin a.1 e.serial x.serial) e.messages (λ x h. (ap (λ q. made_key q x.serial) h.0.maker, h.1))
        (each_both (IsGoodMessage a.0.name m.reply a.1 e.serial sizes) (λ x. IsWithin a.1 e.serial x.serial) e.messages order.messages (messages_high e m a bound ts sizes (actor_names e.actors) order names below once)) in
        let none = none_mine a.0.name n a.1 e.serial low (λ x. x.serial) (λ x. message_key x) apart k high e.messages mine in
        omega (arith, z, none, all_total e m a bound ts sizes (actor_names e.actors) order names below once (λ t. one_if_key (made_key n k) (message_key_in t)), total_zero (s.step_replies e m.reply), total_zero e.actors, total_zero (filter is_open e.joins), total_zero e.creations)

    none_joins : (k : ℕ) → low ≤ k → count_at_key join_key_in (made_key n k) (map ReplyThing (s.step_replies e m.reply) ++ made_things e a ts) ≡ 0
    none_joins k high =
        let z = old.joins k high in
        let mine : EachOf (λ x. (made_key a.0.name x.number ≡ made_key a.0.name x.number) × IsWithin a.1 e.serial x.number) e.joins =
        each_more (λ x. IsWithin a.1 e.serial x.number) (λ x. (made_key a.0.name x.number ≡ made_key a.0.name x.number) × IsWithin a.1 e.serial x.number) e.joins (λ x h. (refl, h)) (joins_within e m a bound ts sizes (actor_names e.actors) order names below once) in
        let none = none_mine a.0.name n a.1 e.serial low (λ x. x.number) (λ x. made_key a.0.name x.number) apart k high e.joins mine in
        let part = total_parted (λ (j : Join). one_if_key (made_key n k) (Some (made_key a.0.name j.number))) is_open e.joins in
        omega (arith, z, none, part, all_total e m a bound ts sizes (actor_names e.actors) order names below once (λ t. one_if_key (made_key n k) (join_key_in t)), total_zero (s.step_replies e m.reply), total_zero e.actors, total_zero e.messages, total_zero e.creations)

    none_creations : (k : ℕ) → low ≤ k → count_at_key creation_key_in (made_key n k) (map ReplyThing (s.step_replies e m.reply) ++ made_things e a ts) ≡ 0
    none_creations k high =
        let z = old.creations k high in
        let mine : EachOf (λ x. (made_key a.0.name x.serial ≡ made_key a.0.name x.serial) × IsWithin a.1 e.serial x.serial) e.creations =
        each_more (λ x. IsWithin a.1 e.serial x.serial) (λ x. (made_key a.0.name x.serial ≡ made_key a.0.name x.serial) × IsWithin a.1 e.serial x.serial) e.creations (λ x h. (refl, h)) (creations_within e m a bound ts sizes (actor_names e.actors) order names below once) in
        let none = none_mine a.0.name n a.1 e.serial low (λ x. x.serial) (λ x. made_key a.0.name x.serial) apart k high e.creations mine in
        omega (arith, z, none, all_total e m a bound ts sizes (actor_names e.actors) order names below once (λ t. one_if_key (made_key n k) (creation_key_in t)), total_zero (s.step_replies e m.reply), total_zero e.actors, total_zero e.messages, total_zero (filter is_open e.joins))

    none_owed : (r : Reply) → IsLate n low r → total (count_owed (reply_key r)) (map ReplyThing (s.step_replies e m.reply) ++ made_things e a ts) ≡ 0
    none_owed r l =
        let z = old.replies r l in
        let no : owes (reply_key r) m.reply ≡ 0 = omega (arith, z) in
        let answer = (answered_total (reply_key r) e.answer m.reply).1 in
        let owing = owed_then e m a bound ts sizes (actor_names e.actors) order names below once r in
        let some = somebody n low r l in
        let replies : EachOf (λ (x : Message). IsAllowedReply a.0.name m.reply a.1 e.serial x.reply) e.messages = each_more (IsGoodMessage a.0.name m.reply a.1 e.serial sizes) (λ x. IsAllowedReply a.0.name m.reply a.1 e.serial x.reply) e.messages (λ x g. g.reply) order.messages in
        elim (whose_new a.0.name m.reply a.1 e.serial (λ (x : Message). x.reply) r some no e.messages replies) [
          | inl x ↦ elim (whose_new a.0.name m.reply a.1 e.serial (λ (j : Join). j.reply) r some no e.joins order.joins) [
            | inl y ↦ omega (arith, owing, no, z, answer, x, y)
            | inr y ↦ absurd (not_new a.0.name n a.1 e.serial low r y.0 apart l y.1.0 y.1.1)
          ]
          | inr x ↦ absurd (not_new a.0.name n a.1 e.serial low r x.0 apart l x.1.0 x.1.1)
        ]

    pub made_below : IsBelow n low (map ReplyThing (s.step_replies e m.reply) ++ made_things e a ts)
    made_below = record { messages = none_messages; joins = none_joins; creations = none_creations; replies = none_owed }

-- fewer replies, the same things
less_below : (n : Name) (low : ℕ) (ts us : List Thing) → ((f : Thing → ℕ) → total f us ≤ total f ts) → IsBelow n low ts → IsBelow n low us
less_below n low ts us less h = record {
  messages = λ k high. (let l = less (λ t. one_if_key (made_key n k) (message_key_in t)) in let z = h.messages k high in omega (arith, l, z));
  joins = λ k high. (let l = less (λ t. one_if_key (made_key n k) (join_key_in t)) in let z = h.joins k high in omega (arith, l, z));
  creations = λ k high. (let l = less (λ t. one_if_key (made_key n k) (creation_key_in t)) in let z = h.creations k high in omega (arith, l, z));
  replies = λ r late. (let l = less (count_owed (reply_key r)) in let z = h.replies r late in omega (arith, l, z));
}

pub keep_below : HandlersKeepBelow
keep_below outcomes sizes e m a b asks rest bound h n low old apart =
    let ts : List Thing = beside_actor a b rest in
    let first = call_and_body m a b rest in
    let once : StandOnce (MessageThing (without_delay m) ∷ ActorThing a ∷ ts) = subst (λ (zs : List Thing). StandOnce zs) first h.stands in
    let below : IsBelow a.0.name a.1 (MessageThing (without_delay m) ∷ ActorThing a ∷ ts) = subst (λ (zs : List Thing). IsBelow a.0.name a.1 zs) first h.below in
    let before : IsBelow n low (MessageThing (without_delay m) ∷ ActorThing a ∷ ts) = subst (λ (zs : List Thing). IsBelow n low zs) first old in
    let names : s.are_fresh (actor_names e.actors) (fs.from_list {R = key_cmp} (filter_map anonymous_in (MessageThing (without_delay m) ∷ ActorThing a ∷ ts) ++ bound)) ≡ true =
    subst (λ (zs : List Thing). s.are_fresh (actor_names e.actors) (fs.from_list {R = key_cmp} (filter_map anonymous_in zs ++ bound)) ≡ true) first h.fresh in
    let high = creations_high e (without_delay m) a bound ts sizes (actor_names e.actors) h.orderly names below once in
    let left = left_same asks e m a b rest h.undecided high in
    let made = made_below e (without_delay m) a bound ts sizes h.orderly names below once n low before apart in
    let arrays = gives_arrays e (without_delay m) a bound ts sizes h.orderly names below once in
    less_below n low (map ReplyThing (s.step_replies e m.reply) ++ made_things e a ts) (things (pieces_after asks e m a b ++ rest))
    (λ f.
    let same = left.weighs f in
    let all = given_total f (s.step_replies e m.reply) (made_things e a ts) in
    let some = given_total f (legal_step_replies e m.reply) (made_things e a ts) in
    let G : Rattle.sal_source.specs.Give.DueReply → ℕ = λ (g : Rattle.sal_source.specs.Give.DueReply). f (ReplyThing g) in
    let listed = ap (total G) arrays in
    let one = total-append G (map join_reply (filter is_full e.joins)) (s.answer_replies e.answer m.reply) in
    let two = total-append G (filter is_legal_reply (map join_reply (filter is_full e.joins))) (s.answer_replies e.answer m.reply) in
    let part = total_parted G is_legal_reply (map join_reply (filter is_full e.joins)) in
    omega (arith, same, all, some, listed, one, two, part))
    made
