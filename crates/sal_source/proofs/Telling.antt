-- A handled message and a printed one give one answer at most.
use Rattle.std.proofs.Common.{◌≡◌, ◌⊎◌, inl, inr, ℕ, zero, suc, ◌+◌, ◌≤◌, Bool, true, false, cond, ◌&&◌, if◌then◌else◌, List, [], ◌∷◌, ◌++◌, length, Some, refl, sym, ap, ◌∙◌, arith}
use Rattle.std.specs.Prelude.{nat_le}
use Rattle.std.proofs.lemmas.Bool.{le-leb}
use Rattle.sal_source.proofs.Commute.{owes_own}
use Rattle.std.specs.FinMap as fm
use Rattle.sal_value.specs.declared.name.Name.{Name}
use Rattle.sal_mail.specs.declared.message.Reply.{Reply}
use Rattle.sal_mail.specs.declared.message.Reply.TheVariants.{Nobody, Tok, Place, Outside}
use Rattle.sal_mail.specs.declared.message.Message.{Message}
use Rattle.sal_mail.specs.declared.message.Join.{Join}
use Rattle.sal_mail.specs.declared.effects.Actor.{Actor}
use Rattle.sal_mail.specs.declared.effects.Effects.{Effects}
use Rattle.sal_mail.specs.declared.effects.Answer.{Answer}
use Rattle.sal_mail.specs.declared.effects.Answer.TheVariants as answer
use Rattle.sal_mail.specs.ReplyKeys.{reply_key}
use Rattle.sal_mail.specs.Message.{is_full, join_value}
use Rattle.sal_handler.specs.WellFormed.{EachOf, IsNewReply, IsAllowedReply, IsWithin, IsOrderly, passes, owes}
use Rattle.sal_handler.specs.WellFormed as f
use Rattle.sal_handler.proofs.Addresses.{each_more}
use Rattle.sal_source.specs.Table.{TableKey, key_eq, total}
use Rattle.sal_source.specs.Keys.{name_key, made_key}
use Rattle.sal_source.specs.Configuration.{Configuration, start_name}
use Rattle.sal_source.specs.Give.{DueReply, full_join_reply, settle_all_answers, settle_bound}
use Rattle.sal_source.specs.Step.{fits_fresh, call_of, with_effects, full_join_replies, answer_replies, step_replies}
use Rattle.sal_source.specs.Once.{one_if, next_serial}
use Rattle.sal_source.proofs.Tables.{words_refl}
use Rattle.sal_source.proofs.Same.{total-append}
use Rattle.sal_source.proofs.Once.{each_opened}
use Rattle.sal_source.proofs.Keeping.{IsActor, IsOwedOld, Fits, KeptIn, there_is}
use Rattle.sal_source.proofs.Installing.{kept_installed, before_me, after_me}
use Rattle.sal_source.proofs.Answering.{is_own, foreign, foreign_most, own_not, Own, Any, OwnIn, few_answers}

-- no join with this maker's next number is open
closed_at : (c : Configuration) → KeptIn c → (me : Name) (n : ℕ) → next_serial c.actors c.posted me ≤ n → one_if (fm.contains_key c.waiting.joins (made_key me n)) ≡ 0
closed_at c kept me n l = by (fm.contains_key c.waiting.joins (made_key me n)) refl
  where
    by : (b : Bool) → fm.contains_key c.waiting.joins (made_key me n) ≡ b → one_if b ≡ 0
    by false e = refl
    by true e =
        let x = there_is c.waiting.joins (made_key me n) e in
        absurd (omega (arith, l, (kept.waits.joins.at (made_key me n) x.0 x.1).number me n refl))

-- none of the joins that were there has a number from here on
old_own : (c : Configuration) → KeptIn c → (me : Name) (from : ℕ) (special : TableKey) → next_serial c.actors c.posted me ≤ from → (key : TableKey) (r : Reply) → Fits c.actors c.posted key r → Own me from special key r
old_own c kept me from special l key r h = record { at = λ n same low. absurd (omega (arith, l, low, h.number me n same)) }

-- ---- one reply

pub one_given : (c : Configuration) → KeptIn c → (g : DueReply) → length (settle_all_answers (g ∷ []) c.waiting) ≤ 1
one_given c kept g =
    let me = start_name in
    let from : ℕ = next_serial c.actors c.posted start_name in
    let special : TableKey = made_key start_name from in
    let own : OwnIn start_name from special c.waiting = record {
      messages = record { at = λ key m is. tt };
      joins = record { at = λ key j is. old_own c kept start_name from special (omega arith) key j.1.reply (kept.waits.joins.at key j is) };
    } in
    omega (arith, few_answers start_name from special (settle_bound (g ∷ []) c.waiting) (g ∷ []) c.waiting own, foreign_most start_name from g.0, closed_at c kept start_name from (omega arith))

-- ---- those of a handler

total_less : {X : Type 0} (P : X → Type 0) (g h : X → ℕ) (xs : List X) → EachOf P xs → ((x : X) → P x → g x ≤ h x) → f.total g xs ≤ f.total h xs
total_less P g h [] p l = omega arith
total_less P g h (x ∷ xs) p l = omega (arith, l x p.0, total_less P g h xs p.1 l)

module _ (c : Configuration) (kept : KeptIn c) (m : Message) (a : Actor × ℕ) (fresh : List Name) (e : Effects) (sizes : List ℕ) (at : fm.get c.actors (name_key a.0.name) ≡ Some a) (actor : IsActor a.0.name) (owed : IsOwedOld c.actors c.posted m.reply)
    (order : IsOrderly sizes (call_of m a fresh) e) (fits : fits_fresh fresh e c ≡ true) where
  abbrev me : Name
  me = a.0.name

  abbrev far : Reply → ℕ
  far = foreign me a.1

  abbrev own : Reply → Bool
  own = is_own me a.1

  new_own : (r : Reply) → IsNewReply me a.1 e.serial r → own r ≡ true
  new_own Nobody h = absurd h
  new_own (Outside n) h = absurd h
  new_own (Tok maker n) h = mine maker n h.0 h.1.0
    where
      mine : (maker : Name) (n : ℕ) → maker ≡ me → a.1 ≤ n → key_eq (name_key me) (name_key maker) && nat_le a.1 n ≡ true
      mine maker n same l = rw (ap (λ z. key_eq (name_key me) (name_key z)) same ∙ words_refl (name_key me), le-leb a.1 n l) refl
  new_own (Place maker n i) h = mine maker n h.0 h.1.0
    where
      mine : (maker : Name) (n : ℕ) → maker ≡ me → a.1 ≤ n → key_eq (name_key me) (name_key maker) && nat_le a.1 n ≡ true
      mine maker n same l = rw (ap (λ z. key_eq (name_key me) (name_key z)) same ∙ words_refl (name_key me), le-leb a.1 n l) refl

  -- a new reply isn't the actor's own only where it is owed to whom the handled one is
  well_owes : (r : Reply) → IsAllowedReply me m.reply a.1 e.serial r → far r ≤ owes (reply_key m.reply) r
  well_owes r (inl same) = let none : far r ≡ 0 = ap far same in omega (arith, none)
  well_owes r (inr (inl same)) = let one : owes (reply_key m.reply) r ≡ 1 = ap (owes (reply_key m.reply)) same ∙ owes_own m.reply in omega (arith, one, foreign_most me a.1 r)
  well_owes r (inr (inr h)) = let none = own_not me a.1 r (new_own r h) in omega (arith, none)

  well_none : m.reply ≡ Nobody → (r : Reply) → IsAllowedReply me m.reply a.1 e.serial r → far r ≤ 0
  well_none nobody r (inl same) = let none : far r ≡ 0 = ap far same in omega (arith, none)
  well_none nobody r (inr (inl same)) = let none : far r ≡ 0 = ap far (same ∙ nobody) in omega (arith, none)
  well_none nobody r (inr (inr h)) = let none = own_not me a.1 r (new_own r h) in omega (arith, none)

  abbrev farther : List Join → ℕ
  farther = f.total (λ j. far j.reply)

  no_total : (js : List Join) → f.total (λ j. 0) js ≡ 0
  no_total [] = refl
  no_total (j ∷ js) = omega (arith, no_total js)

  passed_on : (r : Reply) → m.reply ≡ r → farther e.joins ≤ passes e.answer
  passed_on Nobody same = omega (arith, no_total e.joins, total_less (λ j. IsAllowedReply me m.reply a.1 e.serial j.reply) (λ j. far j.reply) (λ j. 0) e.joins order.joins (λ j w. well_none same j.reply w))
  passed_on (Tok o n) same = by (order.passed (λ nobody. let z : Tok o n ≡ Nobody = sym same ∙ nobody in absurd cc))
    where
      by : f.times_owed_by (reply_key m.reply) e.messages e.joins ≤ passes e.answer → farther e.joins ≤ passes e.answer
      by l = omega (arith, l, total_less (λ j. IsAllowedReply me m.reply a.1 e.serial j.reply) (λ j. far j.reply) (λ j. owes (reply_key m.reply) j.reply) e.joins order.joins (λ j w. well_owes j.reply w))
  passed_on (Place o n i) same = by (order.passed (λ nobody. let z : Place o n i ≡ Nobody = sym same ∙ nobody in absurd cc))
    where
      by : f.times_owed_by (reply_key m.reply) e.messages e.joins ≤ passes e.answer → farther e.joins ≤ passes e.answer
      by l = omega (arith, l, total_less (λ j. IsAllowedReply me m.reply a.1 e.serial j.reply) (λ j. far j.reply) (λ j. owes (reply_key m.reply) j.reply) e.joins order.joins (λ j w. well_owes j.reply w))
  passed_on (Outside n) same = by (order.passed (λ nobody. let z : Outside n ≡ Nobody = sym same ∙ nobody in absurd cc))
    where
      by : f.times_owed_by (reply_key m.reply) e.messages e.joins ≤ passes e.answer → farther e.joins ≤ passes e.answer
      by l = omega (arith, l, total_less (λ j. IsAllowedReply me m.reply a.1 e.serial j.reply) (λ j. far j.reply) (λ j. owes (reply_key m.reply) j.reply) e.joins order.joins (λ j w. well_owes j.reply w))

  -- ---- the one open join that owes no own reply

  abbrev choose : List Join → ℕ
  choose [] = e.serial
  choose (j ∷ js) = cond (is_full j) (choose js) (cond (own j.reply) (choose js) j.number)

  abbrev Chosen : ℕ → Join → Type 0
  Chosen n j = is_full j ≡ false → (own j.reply ≡ true) ⊎ (j.number ≡ n)

  all_own : (n : ℕ) (js : List Join) → farther js ≤ 0 → EachOf (Chosen n) js
  all_own n [] l = tt
  all_own n (j ∷ js) l = (λ shut. inl (by (own j.reply) refl (omega (arith, l))), all_own n js (omega (arith, l)))
    where
      by : (b : Bool) → own j.reply ≡ b → far j.reply ≤ 0 → own j.reply ≡ true
      by true e l = e
      by false e l = let one : far j.reply ≡ 1 = ap (λ b. if b then 0 else 1) e in absurd (omega (arith, one, l))

  chosen : (js : List Join) → farther js ≤ 1 → EachOf (Chosen (choose js)) js
  chosen [] l = tt
  chosen (j ∷ js) l = by (is_full j) (own j.reply) refl refl (chosen js (omega (arith, l)))
    where
      by : (x y : Bool) → is_full j ≡ x → own j.reply ≡ y → EachOf (Chosen (choose js)) js → EachOf (Chosen (cond x (choose js) (cond y (choose js) j.number))) (j ∷ js)
      by true y full e rest = (λ shut. let z : true ≡ false = sym full ∙ shut in absurd cc, rest)
      by false true full e rest = (λ shut. inl e, rest)
      by false false full e rest = let one : far j.reply ≡ 1 = ap (λ b. if b then 0 else 1) e in (λ shut. inr refl, all_own j.number js (omega (arith, l, one)))

  -- how many of the full ones, and of the open ones, owe no own reply
  abbrev full_far : List Join → ℕ
  full_far = f.total (λ j. cond (is_full j) (far j.reply) 0)

  abbrev open_far : List Join → ℕ
  open_far = f.total (λ j. cond (is_full j) 0 (far j.reply))

  both_far : (js : List Join) → farther js ≡ full_far js + open_far js
  both_far [] = refl
  both_far (j ∷ js) = omega (arith, both_far js, by (is_full j))
    where
      by : (b : Bool) → far j.reply ≡ cond b (far j.reply) 0 + cond b 0 (far j.reply)
      by true = omega arith
      by false = omega arith

  arrays_far : (js : List Join) → total (λ (g : DueReply). far g.0) (full_join_replies js) ≡ full_far js
  arrays_far [] = refl
  arrays_far (j ∷ js) = omega (arith, total-append (λ (g : DueReply). far g.0) (full_join_reply j) (full_join_replies js), arrays_far js, by (is_full j))
    where
      by : (b : Bool) → total (λ (g : DueReply). far g.0) (cond b ((j.reply, join_value j) ∷ []) []) ≡ cond b (far j.reply) 0
      by true = omega arith
      by false = refl

  none_chosen : (js : List Join) → open_far js ≡ 0 → choose js ≡ e.serial
  none_chosen [] z = refl
  none_chosen (j ∷ js) z = by (is_full j) (own j.reply) refl (none_chosen js (omega (arith, z))) (omega (arith, z))
    where
      by : (x y : Bool) → own j.reply ≡ y → choose js ≡ e.serial → cond x 0 (far j.reply) ≡ 0 → cond x (choose js) (cond y (choose js) j.number) ≡ e.serial
      by true y e rest z = rest
      by false true e rest z = rest
      by false false e rest z = let one : far j.reply ≡ 1 = ap (λ b. if b then 0 else 1) e in absurd (omega (arith, one, z))

  abbrev after : Configuration
  after = with_effects e a.0 c

  abbrev special : TableKey
  special = made_key me (choose e.joins)

  abbrev AnyHere : TableKey → Reply → Type 0
  AnyHere = Any me a.1 special

  abbrev OwnHere : TableKey → Reply → Type 0
  OwnHere = Own me a.1 special

  own_after : farther e.joins ≤ 1 → OwnIn me a.1 special after.waiting
  own_after l = record {
    messages = record { at = λ key x is. tt };
    joins = each_opened AnyHere OwnHere me e.joins c.waiting.joins (each_more (Chosen (choose e.joins)) (λ j. is_full j ≡ false → OwnHere (made_key me j.number) j.reply) e.joins (λ j h shut. new j (h shut)) (chosen e.joins l))
        (record { at = λ key j is. old_own c kept me a.1 special (omega (arith, before_me c kept m a fresh e sizes at actor owed order fits)) key j.1.reply (kept.waits.joins.at key j is) });
  }
    where
      new : (j : Join) → (own j.reply ≡ true) ⊎ (j.number ≡ choose e.joins) → Own me a.1 special (made_key me j.number) j.reply
      new j (inl o) = record { at = λ n same low. inl o }
      new j (inr n) = record { at = λ k same low. inr (ap (λ z. z ∷ name_key me) n) }

  answered_far : (y : Answer) → total (λ (g : DueReply). far g.0) (answer_replies y m.reply) + passes y ≤ 1
  answered_far (answer.Value v) = omega (arith, foreign_most me a.1 m.reply)
  answered_far answer.Passed = omega arith

  opens_most : (b : Bool) → one_if b ≤ 1
  opens_most true = omega arith
  opens_most false = omega arith

  none_open : open_far e.joins ≡ 0 → one_if (fm.contains_key after.waiting.joins special) ≡ 0
  none_open z =
      ap (λ n. one_if (fm.contains_key after.waiting.joins (made_key me n))) (none_chosen e.joins z)
      ∙ closed_at after (kept_installed c kept m a fresh e sizes at actor owed order fits) me e.serial (omega (arith, after_me c kept m a fresh e sizes at actor owed order fits))

  pub few_given : length (settle_all_answers (step_replies e m.reply) after.waiting) ≤ 1
  few_given =
      let on = passed_on m.reply refl in
      let one : farther e.joins ≤ 1 = omega (arith, on, answered_far e.answer) in
      let told = few_answers me a.1 special (settle_bound (step_replies e m.reply) after.waiting) (step_replies e m.reply) after.waiting (own_after one) in
      let parts = total-append (λ (g : DueReply). far g.0) (full_join_replies e.joins) (answer_replies e.answer m.reply) in
      by (open_far e.joins) refl on told parts
    where
      by : (n : ℕ) → open_far e.joins ≡ n → farther e.joins ≤ passes e.answer →
          length (settle_all_answers (step_replies e m.reply) after.waiting) ≤ total (λ (g : DueReply). far g.0) (step_replies e m.reply) + one_if (fm.contains_key after.waiting.joins special) →
          total (λ (g : DueReply). far g.0) (full_join_replies e.joins ++ answer_replies e.answer m.reply) ≡ total (λ (g : DueReply). far g.0) (full_join_replies e.joins) + total (λ (g : DueReply). far g.0) (answer_replies e.answer m.reply) →
          length (settle_all_answers (step_replies e m.reply) after.waiting) ≤ 1
      by zero z on told parts = omega (arith, told, parts, none_open z, arrays_far e.joins, both_far e.joins, on, answered_far e.answer)
      by (suc n) z on told parts = omega (arith, told, parts, z, opens_most (fm.contains_key after.waiting.joins special), arrays_far e.joins, both_far e.joins, on, answered_far e.answer)
