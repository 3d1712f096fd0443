-- Joins give once.
use Rattle.std.proofs.Common.{◌≡◌, ◌⊎◌, inl, inr, ℕ, zero, suc, ◌+◌, ◌≤◌, ◌<◌, Bool, true, false, cond, not, ◌&&◌, List, [], ◌∷◌, ◌++◌, length, Option, Some, None, is_some, refl, sym, ap, subst, ◌∙◌, arith}
use Rattle.std.specs.Prelude.{if◌then◌else◌, nat_lt, option_and_then}
use Rattle.std.specs.FinMap as fm
use Rattle.std.proofs.lemmas.Bool.{ltb-true, ltb-false}
use Rattle.sal_value.specs.declared.name.Name.{Name}
use Rattle.sal_value.specs.declared.value.Value.{Value}
use Rattle.sal_value.specs.declared.value.Value.TheVariants.{Null}
use Rattle.sal_value.specs.Spelling.{is_legal}
use Rattle.sal_ast.specs.declared.program.Program.{Program}
use Rattle.sal_mail.specs.declared.message.Reply.{Reply}
use Rattle.sal_mail.specs.declared.message.Reply.TheVariants.{Nobody, Tok, Place, Outside}
use Rattle.sal_mail.specs.declared.message.Target.{Target}
use Rattle.sal_mail.specs.declared.message.Target.TheVariants as target
use Rattle.sal_mail.specs.declared.message.Message.{Message}
use Rattle.sal_mail.specs.declared.message.Join.{Join}
use Rattle.sal_mail.specs.declared.effects.Actor.{Actor}
use Rattle.sal_mail.specs.declared.effects.Effects.{Effects}
use Rattle.sal_mail.specs.declared.effects.Creation.{Creation}
use Rattle.sal_mail.specs.declared.fault.FaultKind.TheVariants.{Trap as Trapped, NoHandler, NameTaken}
use Rattle.sal_mail.specs.Message.{is_full, is_ready, with_slot, join_value}
use Rattle.sal_mail.specs.Sums.{total}
use Rattle.sal_handler.specs.Fits.{meaning_of}
use Rattle.sal_handler.specs.Handler.{handle}
use Rattle.sal_handler.specs.WellFormed.{IsOrderly, one_if_same, program_sizes}
use Rattle.sal_handler.specs.declared.turn.Outcome.{Outcome}
use Rattle.sal_handler.specs.declared.turn.Outcome.TheVariants as outcome
use Rattle.sal_handler.proofs.FairCalls.{handlers_orderly}
use Rattle.sal_source.specs.declared.state.Setup.{Setup}
use Rattle.sal_source.specs.declared.state.Step.{Step}
use Rattle.sal_source.specs.declared.state.Step.TheVariants.{Handle, Print, Bind, Refuse, Post}
use Rattle.sal_source.specs.Table.{TableKey, key_eq, Table, write}
use Rattle.sal_source.specs.Keys.{name_key, made_key}
use Rattle.sal_source.specs.Configuration.{Waiting, Configuration, first_configuration}
use Rattle.sal_source.specs.Give.{DueReply, join_replies, join_after_value, owned_join_with_slot, give_to, give_one, replies_if_legal, settle, settle_bound, give_all}
use Rattle.sal_source.specs.Once.{one_if, next_serial}
use Rattle.sal_source.specs.Run.{steps}
use Rattle.sal_source.specs.Step as s
use Rattle.sal_source.proofs.Installing.{before_me, after_me}
use Rattle.sal_source.proofs.Keeping.{KeptIn, IsKeyed, same_made, kept_without, number_same, there_is}
use Rattle.sal_source.proofs.Stepping.{one_step}
use Rattle.sal_source.proofs.Tables.{get-write, words_tells}
use Rattle.sal_runs.specs.Gives.{join_gives, gives_if_legal, settle_gives, all_give, opened_gives, outcome_gives, actor_gives, handled_gives, printed_gives, step_gives, run_gives, JoinsGiveOnce, JoinsGiveAsTheyLeave}
use Rattle.sal_runs.proofs.Invariants.{IsHandled, kept_first, plays}
use Rattle.sal_runs.proofs.Sound.{no_invariant, order}
use Rattle.sal_runs.proofs.Steps.{some_is}

abbrev Joins : Type 0
Joins = Table (Name × Join)

-- 1 where a join is open at the key
abbrev open_at : TableKey → Joins → ℕ
open_at k t = one_if (fm.contains_key t k)

open_written : (k b : TableKey) (o : Option (Name × Join)) (t : Joins) → open_at k (write t b o) ≡ one_if (is_some (cond (key_eq k b) o (fm.get t k)))
open_written k b o t = ap (λ x. one_if (is_some x)) (get-write t b o k)

-- ---- giving

module _ (k : TableKey) where
  -- at the join that a slot belongs to: what is given leaves
  slot_same : (b : TableKey) (i : ℕ) (v : Value) (t : Joins)
      → (if key_eq k b then length (join_replies i v (fm.get t b)) else 0) + open_at k (write t b (join_after_value i v (fm.get t b))) ≡ open_at k t
  slot_same b i v t = elim (words_tells k b) [ inl a ↦ same a.0 a.1 | inr a ↦ other a.0 ]
    where
      filled : (o : Option (Name × Join)) → length (join_replies i v o) + one_if (is_some (join_after_value i v o)) ≡ one_if (is_some o)
      filled None = omega arith
      filled (Some j) = at (is_full (with_slot i v j.1))
        where
          at : (c : Bool) → length {A = Reply × Value} (cond c (((with_slot i v j.1).reply, join_value (with_slot i v j.1)) ∷ []) []) + one_if (is_some (cond c None (Some (owned_join_with_slot i v j)))) ≡ 1
          at true = omega arith
          at false = omega arith

      same : key_eq k b ≡ true → k ≡ b → (if key_eq k b then length (join_replies i v (fm.get t b)) else 0) + open_at k (write t b (join_after_value i v (fm.get t b))) ≡ open_at k t
      same e is =
          let first : (if key_eq k b then length (join_replies i v (fm.get t b)) else 0) ≡ length (join_replies i v (fm.get t b)) = ap (λ c. if c then length (join_replies i v (fm.get t b)) else 0) e in
          let second : open_at k (write t b (join_after_value i v (fm.get t b))) ≡ one_if (is_some (join_after_value i v (fm.get t b))) = open_written k b (join_after_value i v (fm.get t b)) t ∙ ap (λ c. one_if (is_some (cond c (join_after_value i v (fm.get t b)) (fm.get t k)))) e in
          let third : open_at k t ≡ one_if (is_some (fm.get t b)) = ap (λ q. one_if (is_some (fm.get t q))) is in
          omega (arith, first, second, third, filled (fm.get t b))

      other : key_eq k b ≡ false → (if key_eq k b then length (join_replies i v (fm.get t b)) else 0) + open_at k (write t b (join_after_value i v (fm.get t b))) ≡ open_at k t
      other e =
          let first : ◌≡◌ {A = ℕ} (if key_eq k b then length (join_replies i v (fm.get t b)) else 0) 0 = ap (λ c. if c then length (join_replies i v (fm.get t b)) else 0) e in
          let second : open_at k (write t b (join_after_value i v (fm.get t b))) ≡ open_at k t = open_written k b (join_after_value i v (fm.get t b)) t ∙ ap (λ c. one_if (is_some (cond c (join_after_value i v (fm.get t b)) (fm.get t k)))) e in
          omega (arith, first, second)

  given_same : (r : Reply) (v : Value) (w : Waiting) → join_gives k r v w + open_at k (give_to r v w).joins ≡ open_at k w.joins
  given_same Nobody v w = omega arith
  given_same (Outside n) v w = omega arith
  given_same (Tok o n) v w = omega arith
  given_same (Place o j i) v w = slot_same (made_key o j) i v w.joins

  one_same : (g : DueReply) (w : Waiting) → gives_if_legal k g w + open_at k (give_one g w).joins ≡ open_at k w.joins
  one_same g w = at (is_legal g.1)
    where
      at : (b : Bool) → cond b (join_gives k g.0 g.1 w) 0 + open_at k (cond b (give_to g.0 g.1 w) w).joins ≡ open_at k w.joins
      at true = given_same g.0 g.1 w
      at false = omega arith

  settle_same : (n : ℕ) (gs : List DueReply) (w : Waiting) → settle_gives k n gs w + open_at k (settle n gs w).joins ≡ open_at k w.joins
  unfolding settle settle_gives
  settle_same zero gs w = omega arith
  settle_same (suc n) [] w = omega arith
  settle_same (suc n) (g ∷ gs) w = omega (arith, settle_same n (replies_if_legal g w ++ gs) (give_one g w), one_same g w)

  -- ---- opening

  -- how many of the joins have this key
  abbrev made : Name → List Join → ℕ
  made maker js = total (λ (j : Join). one_if (key_eq k (made_key maker j.number))) js

  opened_least : (maker : Name) (js : List Join) (t : Joins) → opened_gives k maker js + open_at k (s.put_joins maker js t) ≤ open_at k t + made maker js
  opened_least maker [] t = omega arith
  opened_least maker (j ∷ js) t = at (is_full j) (opened_least maker js t)
    where
      more : (c : Bool) (o : Option (Name × Join)) → one_if (is_some (cond c (Some (maker, j)) o)) ≤ one_if (is_some o) + one_if c
      more true o = omega arith
      more false o = omega arith

      at : (b : Bool) → opened_gives k maker js + open_at k (s.put_joins maker js t) ≤ open_at k t + made maker js
          → (one_if (b && key_eq k (made_key maker j.number)) + opened_gives k maker js) + open_at k (if b then s.put_joins maker js t else s.put_join maker j (s.put_joins maker js t)) ≤ open_at k t + (one_if (key_eq k (made_key maker j.number)) + made maker js)
      at true rest = omega (arith, rest)
      at false rest = omega (arith, rest, open_written k (made_key maker j.number) (Some (maker, j)) (s.put_joins maker js t), more (key_eq k (made_key maker j.number)) (fm.get (s.put_joins maker js t) k))

  -- where none of them has it, none gives and none is open there
  opened_same : (maker : Name) (js : List Join) (t : Joins) → made maker js ≡ 0 → opened_gives k maker js + open_at k (s.put_joins maker js t) ≡ open_at k t
  opened_same maker [] t z = omega arith
  opened_same maker (j ∷ js) t z = at (is_full j) (key_eq k (made_key maker j.number)) refl (opened_same maker js t (omega (arith, z)))
    where
      at : (b c : Bool) → key_eq k (made_key maker j.number) ≡ c → opened_gives k maker js + open_at k (s.put_joins maker js t) ≡ open_at k t
          → (one_if (b && c) + opened_gives k maker js) + open_at k (if b then s.put_joins maker js t else s.put_join maker j (s.put_joins maker js t)) ≡ open_at k t
      at b true e rest = let bit : one_if (key_eq k (made_key maker j.number)) ≡ 1 = ap one_if e in absurd (omega (arith, bit, z))
      at true false e rest = omega (arith, rest)
      at false false e rest =
          let there : open_at k (s.put_join maker j (s.put_joins maker js t)) ≡ open_at k (s.put_joins maker js t) = open_written k (made_key maker j.number) (Some (maker, j)) (s.put_joins maker js t) ∙ ap (λ c. one_if (is_some (cond c (Some (maker, j)) (fm.get (s.put_joins maker js t) k)))) e in
          omega (arith, rest, there)

-- ---- the numbers of new joins

made_counts : (maker me : Name) (number : ℕ) (js : List Join) → made (made_key maker number) me js ≤ total (λ (j : Join). one_if_same number j.number) js
made_counts maker me number [] = omega arith
made_counts maker me number (j ∷ js) = omega (arith, made_counts maker me number js, one)
  where
    one : one_if (key_eq (made_key maker number) (made_key me j.number)) ≤ one_if_same number j.number
    one =
        elim (words_tells (made_key maker number) (made_key me j.number)) [
          | inl a ↦
              let same = (same_made maker me number j.number a.1).1 in
              let bit : one_if (key_eq (made_key maker number) (made_key me j.number)) ≡ 1 = ap one_if a.0 in
              let count : one_if_same number j.number ≡ 1 = subst (λ z. one_if_same number z ≡ 1) same (number_same number) in
              omega (arith, bit, count)
          | inr a ↦ let bit : one_if (key_eq (made_key maker number) (made_key me j.number)) ≡ 0 = ap one_if a.0 in omega (arith, bit)
        ]

made_mine : (maker me : Name) (number : ℕ) (js : List Join) → (made (made_key maker number) me js ≡ 0) ⊎ (maker ≡ me)
made_mine maker me number [] = inl refl
made_mine maker me number (j ∷ js) = at (made_mine maker me number js)
  where
    at : (made (made_key maker number) me js ≡ 0) ⊎ (maker ≡ me) → (made (made_key maker number) me (j ∷ js) ≡ 0) ⊎ (maker ≡ me)
    at (inr same) = inr same
    at (inl z) =
        elim (words_tells (made_key maker number) (made_key me j.number)) [
          | inl a ↦ inr (same_made maker me number j.number a.1).0
          | inr a ↦ let bit : one_if (key_eq (made_key maker number) (made_key me j.number)) ≡ 0 = ap one_if a.0 in inl (omega (arith, bit, z))
        ]

-- ---- a step

module _ (p : Program) (setup : Setup) (maker : Name) (number : ℕ) where
  abbrev k : TableKey
  k = made_key maker number

  abbrev next : Configuration → ℕ
  next c = next_serial c.actors c.posted maker

  abbrev open_in : Configuration → ℕ
  open_in c = open_at k c.waiting.joins

  -- so many joins with this key are new in a step; then their number wasn't taken before, and is taken then
  pub record Gives (c d : Configuration) (n : ℕ) : Type 0 where
    pub new : ℕ
    pub least : n + open_in d ≤ open_in c + new
    pub most : new ≤ 1
    pub old : number < next c → new ≡ 0
    pub taken : next d ≤ number → new ≡ 0
    -- what is given leaves
    pub exact : number < next c → n + open_in d ≡ open_in c

  none_given : (c d : Configuration) → d.waiting.joins ≡ c.waiting.joins → Gives c d 0
  none_given c d e =
      let same : open_in d ≡ open_in c = ap (open_at k) e in
      record { new = 0; least = omega (arith, same); most = omega arith; old = λ l. refl; taken = λ l. refl; exact = λ l. omega (arith, same) }

  -- where nothing is new
  settled : (c d : Configuration) (gs : List DueReply) → give_all gs c ≡ d → Gives c d (all_give k gs c.waiting)
  settled c d gs is = subst (λ z. Gives c z (all_give k gs c.waiting)) is (record { new = 0; least = omega (arith, settle_same k (settle_bound gs c.waiting) gs c.waiting); most = omega arith; old = λ l. refl; taken = λ l. refl; exact = λ l. omega (arith, settle_same k (settle_bound gs c.waiting) gs c.waiting) })

  module _ (c : Configuration) (kept : KeptIn c) (m_maker : Name) (serial : ℕ) (m : Message) (found : fm.get c.waiting.messages (made_key m_maker serial) ≡ Some m) where
    abbrev left : Configuration
    left = s.drop_message m_maker serial c

    kept_left : KeptIn left
    kept_left = kept_without c.actors c.given c.posted c.waiting (made_key m_maker serial) kept

    worked : (a : Actor × ℕ) (fresh : List Name) (e : Effects) → IsHandled p c m_maker serial m a fresh e → (d : Configuration) → give_all (s.step_replies e m.reply) (s.with_effects e a.0 left) ≡ d
        → Gives c d (opened_gives k a.0.name e.joins + all_give k (s.step_replies e m.reply) (s.with_effects e a.0 left).waiting)
    worked a fresh e it d is = subst (λ z. Gives c z (opened_gives k a.0.name e.joins + all_give k (s.step_replies e m.reply) after.waiting)) is (record { new = new; least = least; most = most; old = not_old; taken = not_late; exact = exact })
      where
        after : Configuration
        after = s.with_effects e a.0 left

        good : IsOrderly (program_sizes p) (s.call_of m a fresh) e
        good = order p c m_maker serial m a fresh e it

        now : next_serial c.actors c.posted a.0.name ≡ a.1
        now = before_me left kept_left m a fresh e (program_sizes p) it.actor it.keyed.actor (kept.waits.messages.at (made_key m_maker serial) m found).owed good it.fits

        later : next_serial after.actors after.posted a.0.name ≡ e.serial
        later = after_me left kept_left m a fresh e (program_sizes p) it.actor it.keyed.actor (kept.waits.messages.at (made_key m_maker serial) m found).owed good it.fits

        new : ℕ
        new = made k a.0.name e.joins

        least : (opened_gives k a.0.name e.joins + all_give k (s.step_replies e m.reply) after.waiting) + open_in (give_all (s.step_replies e m.reply) after) ≤ open_in c + new
        least = omega (arith, opened_least k a.0.name e.joins left.waiting.joins, settle_same k (settle_bound (s.step_replies e m.reply) after.waiting) (s.step_replies e m.reply) after.waiting)

        most : new ≤ 1
        most = omega (arith, made_counts maker a.0.name number e.joins, good.once number)

        not_old : number < next c → new ≡ 0
        not_old l =
            elim (made_mine maker a.0.name number e.joins) [
              | inl z ↦ z
              | inr same ↦ let low : next c ≡ a.1 = ap (next_serial c.actors c.posted) same ∙ now in omega (arith, made_counts maker a.0.name number e.joins, good.low number (omega (arith, l, low)))
            ]

        exact : number < next c → (opened_gives k a.0.name e.joins + all_give k (s.step_replies e m.reply) after.waiting) + open_in (give_all (s.step_replies e m.reply) after) ≡ open_in c
        exact l = omega (arith, opened_same k a.0.name e.joins left.waiting.joins (not_old l), settle_same k (settle_bound (s.step_replies e m.reply) after.waiting) (s.step_replies e m.reply) after.waiting)

        not_late : next (give_all (s.step_replies e m.reply) after) ≤ number → new ≡ 0
        not_late l =
            elim (made_mine maker a.0.name number e.joins) [
              | inl z ↦ z
              | inr same ↦ let high : next after ≡ e.serial = ap (next_serial after.actors after.posted) same ∙ later in omega (arith, made_counts maker a.0.name number e.joins, good.high number (omega (arith, l, high)))
            ]

    no_names : (fresh : List Name) (x d : Configuration) → x.waiting.joins ≡ c.waiting.joins → s.if_no_names fresh x ≡ Some d → Gives c d 0
    no_names [] x d h e = subst (λ z. Gives c z 0) (some_is e) (none_given c x h)
    no_names (n ∷ ns) x d h e = absurd cc

    after_outcome : (fresh : List Name) (a : Actor × ℕ) → fm.get c.actors (name_key a.0.name) ≡ Some a → IsKeyed (name_key a.0.name) a → (o : Outcome) → handle p (s.call_of m a fresh) ≡ o → (d : Configuration)
        → s.after_outcome o m_maker serial fresh m a.0 left ≡ Some d → Gives c d (outcome_gives k o m a.0 left)
    after_outcome fresh a at it (outcome.Trap kind) is d e = no_names fresh (s.add_fault (Trapped kind) m_maker serial left) d refl e
    after_outcome fresh a at it (outcome.Done y) is d e = by (s.fits_fresh fresh y left) refl e
      where
        by : (b : Bool) → s.fits_fresh fresh y left ≡ b → (if b then Some (give_all (s.step_replies y m.reply) (s.with_effects y a.0 left)) else None) ≡ Some d
            → Gives c d (opened_gives k a.0.name y.joins + all_give k (s.step_replies y m.reply) (s.with_effects y a.0 left).waiting)
        by false fits e = absurd cc
        by true fits e = worked a fresh y (record { kept = kept; pending = found; actor = at; keyed = it; did = is; fits = fits }) d (some_is e)

    met : (fresh : List Name) (n : Name) (o : Option (Actor × ℕ)) → fm.get c.actors (name_key n) ≡ o → (d : Configuration) → s.handle_if_actor (handle p) m_maker serial fresh m o left ≡ Some d → Gives c d (actor_gives k (handle p) fresh m o left)
    met fresh n None is d e = absurd cc
    met fresh n (Some a) is d e = by (s.understands a.0 m) e
      where
        it : IsKeyed (name_key n) a
        it = kept.keyed.at (name_key n) a is

        by : (b : Bool) → (if b then s.after_outcome (handle p (s.call_of m a fresh)) m_maker serial fresh m a.0 left else s.if_no_names fresh (s.add_fault NoHandler m_maker serial left)) ≡ Some d
            → Gives c d (if b then outcome_gives k (handle p (s.call_of m a fresh)) m a.0 left else 0)
        by true e = after_outcome fresh a (ap (fm.get c.actors) it.keyed ∙ is) (record { keyed = refl; actor = it.actor }) (handle p (s.call_of m a fresh)) refl d e
        by false e = no_names fresh (s.add_fault NoHandler m_maker serial left) d refl e

    aimed : (fresh : List Name) (t : Target) (d : Configuration) → s.handle_if_actor (handle p) m_maker serial fresh m (s.actor_at t c) left ≡ Some d → Gives c d (actor_gives k (handle p) fresh m (s.actor_at t c) left)
    aimed fresh (target.Actor n) d e = met fresh n (fm.get c.actors (name_key n)) refl d e
    aimed fresh target.Output d e = absurd cc

    print_to : (t : Target) (d : Configuration) → s.print_to t m left ≡ Some d → Gives c d (all_give k ((m.reply, Null) ∷ []) left.waiting)
    print_to target.Output d e =
        let g = settled (s.add_output (s.message_text m) left) d ((m.reply, Null) ∷ []) (some_is e) in
        record { new = g.new; least = g.least; most = g.most; old = g.old; taken = g.taken; exact = g.exact }
    print_to (target.Actor n) d e = absurd cc

  module _ (c : Configuration) (kept : KeptIn c) where
    handled : (m_maker : Name) (serial : ℕ) (fresh : List Name) (o : Option Message) → fm.get c.waiting.messages (made_key m_maker serial) ≡ o → (d : Configuration) → s.if_ready o (λ m. s.handle_message (handle p) m_maker serial fresh m c) ≡ Some d
        → Gives c d (handled_gives k (handle p) m_maker serial fresh o c)
    handled m_maker serial fresh None is d e = absurd cc
    handled m_maker serial fresh (Some m) is d e = by (is_ready m) e
      where
        by : (b : Bool) → (if b then s.handle_message (handle p) m_maker serial fresh m c else None) ≡ Some d → Gives c d (actor_gives k (handle p) fresh m (s.actor_at m.target c) (s.drop_message m_maker serial c))
        by true e = aimed c kept m_maker serial m is fresh m.target d e
        by false e = absurd cc

    printed : (m_maker : Name) (serial : ℕ) (o : Option Message) → fm.get c.waiting.messages (made_key m_maker serial) ≡ o → (d : Configuration) → s.if_ready o (λ m. s.print_message m_maker serial m c) ≡ Some d → Gives c d (printed_gives k m_maker serial o c)
    printed m_maker serial None is d e = absurd cc
    printed m_maker serial (Some m) is d e = by (is_ready m) e
      where
        by : (b : Bool) → (if b then s.print_message m_maker serial m c else None) ≡ Some d → Gives c d (all_give k ((m.reply, Null) ∷ []) (s.drop_message m_maker serial c).waiting)
        by true e = print_to c kept m_maker serial m is m.target d e
        by false e = absurd cc

    bind : (m_maker : Name) (serial : ℕ) (o : Option (Name × Creation)) (d : Configuration) → s.bind setup.authorities m_maker serial o c ≡ Some d → Gives c d 0
    bind m_maker serial None d e = absurd cc
    bind m_maker serial (Some x) d e = by (s.is_served setup.authorities x.1.name && not (s.is_given x.1 c)) e
      where
        by : (b : Bool) → (if b then Some (s.bind_creation x.1 (s.drop_creation m_maker serial c)) else None) ≡ Some d → Gives c d 0
        by true e = subst (λ z. Gives c z 0) (some_is e) (none_given c (s.bind_creation x.1 (s.drop_creation m_maker serial c)) refl)
        by false e = absurd cc

    refuse : (m_maker : Name) (serial : ℕ) (o : Option (Name × Creation)) (d : Configuration) → s.refuse m_maker serial o c ≡ Some d → Gives c d 0
    refuse m_maker serial None d e = absurd cc
    refuse m_maker serial (Some x) d e = by (s.is_given x.1 c) e
      where
        by : (b : Bool) → (if b then Some (s.add_fault NameTaken m_maker serial (s.drop_creation m_maker serial c)) else None) ≡ Some d → Gives c d 0
        by true e = subst (λ z. Gives c z 0) (some_is e) (none_given c (s.add_fault NameTaken m_maker serial (s.drop_creation m_maker serial c)) refl)
        by false e = absurd cc

    one_gives : (one : Step) (d : Configuration) → s.step (meaning_of p) setup c one ≡ Some d → Gives c d (step_gives k (meaning_of p) c one)
    unfolding s.step
    one_gives (Handle m_maker serial fresh) d e = handled m_maker serial fresh (s.pending m_maker serial c) refl d e
    one_gives (Print m_maker serial) d e = printed m_maker serial (s.pending m_maker serial c) refl d e
    one_gives (Bind m_maker serial) d e = bind m_maker serial (fm.get c.creations (made_key m_maker serial)) d e
    one_gives (Refuse m_maker serial) d e = refuse m_maker serial (fm.get c.creations (made_key m_maker serial)) d e
    one_gives (Post n to behavior handler args) d e = by ((meaning_of p).fits_call behavior handler args && _) e
      where
        by : (b : Bool) → (if b then Some (s.after_post n to behavior handler args c) else None) ≡ Some d → Gives c d 0
        by true e = subst (λ z. Gives c z 0) (some_is e) (none_given c (s.after_post n to behavior handler args c) refl)
        by false e = absurd cc

  -- ---- runs

  -- what a join may still give: once, until its number is taken; then once while it is open
  abbrev may_give : Configuration → ℕ
  may_give c = if nat_lt number (next c) then open_in c else 1

  closed_before : (c : Configuration) → KeptIn c → next c ≤ number → open_in c ≡ 0
  closed_before c kept l = at (fm.contains_key c.waiting.joins k) refl
    where
      at : (b : Bool) → fm.contains_key c.waiting.joins k ≡ b → one_if b ≡ 0
      at false e = refl
      at true e =
          let x = there_is c.waiting.joins k e in
          let low = (kept.waits.joins.at k x.0 x.1).number maker number refl in
          absurd (omega (arith, low, l))

  falls : (c d : Configuration) (n : ℕ) → KeptIn c → KeptIn d → next c ≤ next d → Gives c d n → n + may_give d ≤ may_give c
  falls c d n kept kept' grows g = at (nat_lt number (next c)) refl (nat_lt number (next d)) refl
    where
      at : (x : Bool) → nat_lt number (next c) ≡ x → (y : Bool) → nat_lt number (next d) ≡ y → n + (if y then open_in d else 1) ≤ (if x then open_in c else 1)
      at true e true q = omega (arith, g.least, g.old (ltb-true number (next c) e))
      at true e false q = absurd (omega (arith, ltb-true number (next c) e, ltb-false number (next d) q, grows))
      at false e true q = omega (arith, g.least, g.most, closed_before c kept (ltb-false number (next c) e))
      at false e false q = omega (arith, g.least, g.taken (ltb-false number (next d) q), closed_before c kept (ltb-false number (next c) e), closed_before d kept' (ltb-false number (next d) q))

  run_least : (ss : List Step) (c end : Configuration) → KeptIn c → steps (meaning_of p) setup c ss ≡ Some end → run_gives k (meaning_of p) setup (Some c) ss ≤ may_give c
  unfolding steps
  run_least [] c end kept is = omega arith
  run_least (one ∷ ss) c end kept is = at (s.step (meaning_of p) setup c one) refl is (λ d. run_least ss d end)
    where
      at : (o : Option Configuration) → s.step (meaning_of p) setup c one ≡ o → option_and_then (λ d. steps (meaning_of p) setup d ss) o ≡ Some end
          → ((d : Configuration) → KeptIn d → steps (meaning_of p) setup d ss ≡ Some end → run_gives k (meaning_of p) setup (Some d) ss ≤ may_give d)
          → step_gives k (meaning_of p) c one + run_gives k (meaning_of p) setup o ss ≤ may_give c
      at None e f later = absurd cc
      at (Some d) e f later =
          let keeps = (one_step c kept (meaning_of p) (program_sizes p) (handlers_orderly p) setup one d e).keeps in
          omega (arith, falls c d (step_gives k (meaning_of p) c one) kept keeps.kept (keeps.goes.grows maker) (one_gives c kept one d e), later d keeps.kept f)

  -- of a number that is taken: it was open, and is so or has given
  run_exact : (ss : List Step) (c end : Configuration) → KeptIn c → number < next c → steps (meaning_of p) setup c ss ≡ Some end → run_gives k (meaning_of p) setup (Some c) ss + open_in end ≡ open_in c
  unfolding steps
  run_exact [] c end kept low is = let same : open_in end ≡ open_in c = ap open_in (sym (some_is is)) in omega (arith, same)
  run_exact (one ∷ ss) c end kept low is = at (s.step (meaning_of p) setup c one) refl is (λ d. run_exact ss d end)
    where
      at : (o : Option Configuration) → s.step (meaning_of p) setup c one ≡ o → option_and_then (λ d. steps (meaning_of p) setup d ss) o ≡ Some end
          → ((d : Configuration) → KeptIn d → number < next d → steps (meaning_of p) setup d ss ≡ Some end → run_gives k (meaning_of p) setup (Some d) ss + open_in end ≡ open_in d)
          → (step_gives k (meaning_of p) c one + run_gives k (meaning_of p) setup o ss) + open_in end ≡ open_in c
      at None e f later = absurd cc
      at (Some d) e f later =
          let keeps = (one_step c kept (meaning_of p) (program_sizes p) (handlers_orderly p) setup one d e).keeps in
          omega (arith, (one_gives c kept one d e).exact low, later d keeps.kept (omega (arith, low, keeps.goes.grows maker)) f)

  open_low : (c : Configuration) → KeptIn c → fm.contains_key c.waiting.joins k ≡ true → number < next c
  open_low c kept e = let x = there_is c.waiting.joins k e in (kept.waits.joins.at k x.0 x.1).number maker number refl

  may_most : (c : Configuration) → may_give c ≤ 1
  may_most c = at (nat_lt number (next c)) (fm.contains_key c.waiting.joins k)
    where
      at : (x y : Bool) → (if x then one_if y else 1) ≤ 1
      at true true = omega arith
      at true false = omega arith
      at false y = omega arith

pub give_once : JoinsGiveOnce
give_once p setup ss end is maker number =
    let first : Configuration = first_configuration (meaning_of p) setup in
    omega (arith, run_least p setup maker number ss first end (kept_first setup.words (meaning_of p).begin) is, may_most p setup maker number first)

pub give_as_they_leave : JoinsGiveAsTheyLeave
give_as_they_leave p setup ss more c d is later maker number open_before =
    let kept = (plays p setup (λ c. Unit {0}) (no_invariant p setup) ss c tt is).kept in
    let bit : one_if (fm.contains_key c.waiting.joins (made_key maker number)) ≡ 1 = ap one_if open_before in
    omega (arith, bit, run_exact p setup maker number more c d kept (open_low p setup maker number c kept open_before) later)
