-- Each step of a run keeps what runs keep, and takes the message that it handles or prints.
use Rattle.std.proofs.Common.{◌≡◌, ◌⊎◌, inl, inr, ℕ, ◌+◌, ◌≤◌, ◌<◌, Bool, true, false, ◌&&◌, not, if◌then◌else◌, List, [], ◌∷◌, length, Option, Some, None, refl, sym, ap, subst, ◌∙◌, arith, length-append}
use Rattle.std.specs.Prelude.{nat_le, nat_lt, nat_eq}
use Rattle.std.proofs.lemmas.Bool.{le-leb, leb-true, ltb-true, lt-leb}
use Rattle.std.specs.List.{list_all}
use Rattle.std.specs.FinMap as fm
use Rattle.std.specs.FinSet as fs
use Rattle.sal_value.specs.declared.name.Name.{Name}
use Rattle.sal_value.specs.declared.name.Name.TheVariants as name
use Rattle.sal_value.specs.declared.name.Uan.{Uan}
use Rattle.sal_value.specs.declared.name.Authority.{Authority}
use Rattle.sal_value.specs.declared.value.Value.{Value}
use Rattle.sal_value.specs.declared.value.Value.TheVariants as v
use Rattle.sal_value.specs.Names.{is_uan}
use Rattle.sal_mail.specs.declared.message.Target.{Target}
use Rattle.sal_mail.specs.declared.message.Target.TheVariants as target
use Rattle.sal_mail.specs.declared.message.Message.{Message}
use Rattle.sal_mail.specs.declared.effects.Actor.{Actor}
use Rattle.sal_mail.specs.declared.effects.Creation.{Creation}
use Rattle.sal_mail.specs.declared.effects.Effects.{Effects}
use Rattle.sal_mail.specs.declared.fault.FaultKind.{FaultKind}
use Rattle.sal_mail.specs.declared.fault.FaultKind.TheVariants.{Trap as Trapped, NoHandler, NameTaken}
use Rattle.sal_mail.specs.Message.{is_ready}
use Rattle.sal_handler.specs.declared.turn.Outcome.{Outcome}
use Rattle.sal_handler.specs.declared.turn.Outcome.TheVariants.{Done, Trap}
use Rattle.sal_handler.specs.Calls.{Call, Meaning}
use Rattle.sal_handler.specs.WellFormed.{IsOldReply, IsOrderly}
use Rattle.sal_source.specs.declared.state.Setup.{Setup}
use Rattle.sal_source.specs.declared.state.Step.{Step}
use Rattle.sal_source.specs.declared.state.Step.TheVariants.{Handle, Print, Bind, Refuse, Post}
use Rattle.sal_source.specs.Table.{TableKey, key_eq}
use Rattle.sal_source.specs.Keys.{name_key, made_key}
use Rattle.sal_source.specs.Configuration.{Configuration}
use Rattle.sal_source.specs.Give.{DueReply, give_all, settle_all_answers}
use Rattle.sal_source.specs.Posts.{fits_post, may_be_posted, post_message}
use Rattle.sal_source.specs.Step as s
use Rattle.sal_source.specs.Once.{one_if, next_serial_of, next_serial, takes}
use Rattle.sal_source.proofs.Tables.{words_tells}
use Rattle.sal_source.proofs.Given.{contains_keys, keys_write}
use Rattle.sal_source.proofs.Once.{each_written, each_put}
use Rattle.sal_source.proofs.Keeping.{IsActor, same_made, Fits, WasThere, IsKeyed, KeptIn, Grows, GoesTo, goes_then, goes_same, grown, waits_more, kept_settled, goes_settled, kept_without, goes_without, gone, there_is, is_there, split, flipped, number_there, none_number}
use Rattle.sal_source.proofs.Installing.{old_reply, kept_installed, goes_installed}
use Rattle.sal_source.proofs.Telling.{one_given, few_given}

-- a step that keeps what runs keep, and gives one answer at most
pub record Keeps (c d : Configuration) : Type 0 where
  pub kept : KeptIn d
  pub goes : GoesTo c d
  pub few : length d.answers ≤ length c.answers + 1

abbrev pub is_pending : Configuration → Name → ℕ → Bool
is_pending c maker serial = fm.contains_key c.waiting.messages (made_key maker serial)

-- and takes this message
pub record Took (maker : Name) (serial : ℕ) (c d : Configuration) : Type 0 where
  pub keeps : Keeps c d
  pub there : is_pending c maker serial ≡ true
  pub gone : is_pending d maker serial ≡ false

pub record OneStep (one : Step) (c d : Configuration) : Type 0 where
  pub keeps : Keeps c d
  pub takes : (maker : Name) (serial : ℕ) → (takes maker serial one ≡ 0) ⊎ ((is_pending c maker serial ≡ true) × (is_pending d maker serial ≡ false))

module _ (c : Configuration) (kept : KeptIn c) where
  -- ---- a message goes

  module _ (maker : Name) (serial : ℕ) (m : Message) (found : fm.get c.waiting.messages (made_key maker serial) ≡ Some m) where
    abbrev left : Configuration
    left = s.drop_message maker serial c

    kept_left : KeptIn left
    kept_left = kept_without c.actors c.given c.posted c.waiting (made_key maker serial) kept

    goes_left : GoesTo c left
    goes_left = goes_without c.actors c.posted c.waiting (made_key maker serial)

    fit : Fits c.actors c.posted (made_key maker serial) m.reply
    fit = kept.waits.messages.at (made_key maker serial) m found

    stays_gone : (d : Configuration) → GoesTo left d → is_pending d maker serial ≡ false
    stays_gone d goes = at (is_pending d maker serial) refl
      where
        at : (b : Bool) → is_pending d maker serial ≡ b → is_pending d maker serial ≡ false
        at false e = e
        at true e =
            let x = there_is d.waiting.messages (made_key maker serial) e in
            let there : is_pending left maker serial ≡ true = (goes.waits.messages.at (made_key maker serial) x.0 x.1).there maker serial refl (fit.number maker serial refl) in
            let none : is_pending left maker serial ≡ false = gone c.waiting (made_key maker serial) in
            absurd cc

    took : (d : Configuration) → KeptIn d → GoesTo left d → length d.answers ≤ length c.answers + 1 → Took maker serial c d
    took d kept' goes few = record {
      keeps = record { kept = kept'; goes = goes_then c.actors left.actors d.actors c.posted left.posted d.posted c.waiting left.waiting d.waiting goes_left goes; few = few };
      there = is_there c.waiting.messages (made_key maker serial) m found;
      gone = stays_gone d goes;
    }

    same_left : GoesTo left left
    same_left = record { grows = grown c.actors c.posted; waits = goes_same c.actors c.posted left.waiting }

    -- with a fault
    faulted : (fresh : List Name) (kind : FaultKind) (d : Configuration) → s.if_no_names fresh (s.add_fault kind maker serial left) ≡ Some d → Took maker serial c d
    faulted [] kind d e = let same : s.add_fault kind maker serial left ≡ d = cc in subst (Took maker serial c) same (took (s.add_fault kind maker serial left) (record { named = kept_left.named; keyed = kept_left.keyed; waits = kept_left.waits }) (record { grows = same_left.grows; waits = same_left.waits }) (omega arith))
    faulted (n ∷ ns) kind d e = absurd cc

    -- with replies
    gave : (gs : List DueReply) (mid d : Configuration) → KeptIn mid → GoesTo left mid → mid.answers ≡ c.answers → length (settle_all_answers gs mid.waiting) ≤ 1 → Some (give_all gs mid) ≡ Some d → Took maker serial c d
    gave gs mid d kept' goes old few e =
        let same : give_all gs mid ≡ d = cc in
        subst (Took maker serial c) same (took (give_all gs mid) (kept_settled mid.actors mid.given mid.posted mid.waiting gs kept') (goes_settled left.actors mid.actors left.posted mid.posted left.waiting mid.waiting gs goes) (omega (arith, length-append mid.answers (settle_all_answers gs mid.waiting), ap length old, few)))

    printed : (t : Target) (d : Configuration) → s.print_to t m left ≡ Some d → Took maker serial c d
    printed (target.Actor n) d e = absurd cc
    printed target.Output d e = gave ((m.reply, v.Null) ∷ []) (s.add_output (s.message_text m) left) d (record { named = kept_left.named; keyed = kept_left.keyed; waits = kept_left.waits }) (record { grows = same_left.grows; waits = same_left.waits }) refl (one_given left kept_left (m.reply, v.Null)) e

    module _ (p : Meaning) (sizes : List ℕ) (orderly : (call : Call) (e : Effects) → IsOldReply call.me call.serial call.reply → p.outcome call ≡ Done e → IsOrderly sizes call e) (fresh : List Name) where
      came : (a : Actor × ℕ) → fm.get c.actors (name_key a.0.name) ≡ Some a → IsActor a.0.name → (o : Outcome) → p.outcome (s.call_of m a fresh) ≡ o → (d : Configuration) → s.after_outcome o maker serial fresh m a.0 left ≡ Some d → Took maker serial c d
      came a at actor (Trap kind) is d e = faulted fresh (Trapped kind) d e
      came a at actor (Done y) is d e = by (s.fits_fresh fresh y left) refl e
        where
          by : (b : Bool) → s.fits_fresh fresh y left ≡ b → (if b then Some (give_all (s.step_replies y m.reply) (s.with_effects y a.0 left)) else None) ≡ Some d → Took maker serial c d
          by false fits e = absurd cc
          by true fits e =
              let order = orderly (s.call_of m a fresh) y (old_reply c.actors c.posted a at actor m.reply fit.owed) is in
              gave (s.step_replies y m.reply) (s.with_effects y a.0 left) d (kept_installed left kept_left m a fresh y sizes at actor fit.owed order fits) (goes_installed left kept_left m a fresh y sizes at actor fit.owed order fits) refl (few_given left kept_left m a fresh y sizes at actor fit.owed order fits) e

      met : (n : Name) (o : Option (Actor × ℕ)) → fm.get c.actors (name_key n) ≡ o → (d : Configuration) → s.handle_if_actor p.outcome maker serial fresh m o left ≡ Some d → Took maker serial c d
      met n None is d e = absurd cc
      met n (Some a) is d e = by (s.understands a.0 m) e
        where
          it : IsKeyed (name_key n) a
          it = kept.keyed.at (name_key n) a is

          by : (b : Bool) → (if b then s.after_outcome (p.outcome (s.call_of m a fresh)) maker serial fresh m a.0 left else s.if_no_names fresh (s.add_fault NoHandler maker serial left)) ≡ Some d → Took maker serial c d
          by true e = came a (ap (fm.get c.actors) it.keyed ∙ is) it.actor (p.outcome (s.call_of m a fresh)) refl d e
          by false e = faulted fresh NoHandler d e

      aimed : (t : Target) (d : Configuration) → s.handle_if_actor p.outcome maker serial fresh m (s.actor_at t c) left ≡ Some d → Took maker serial c d
      aimed (target.Actor n) d e = met n (fm.get c.actors (name_key n)) refl d e
      aimed target.Output d e = absurd cc

  -- ---- the five steps

  record Readied (o : Option Message) (g : Message → Option Configuration) (d : Configuration) : Type 0 where
    message : Message
    is : o ≡ Some message
    leads : g message ≡ Some d

  ready : (o : Option Message) (g : Message → Option Configuration) (d : Configuration) → s.if_ready o g ≡ Some d → Readied o g d
  ready None g d e = absurd cc
  ready (Some m) g d e = record { message = m; is = refl; leads = by (is_ready m) e }
    where
      by : (b : Bool) → (if b then g m else None) ≡ Some d → g m ≡ Some d
      by true e = e
      by false e = absurd cc

  printed_took : (maker : Name) (serial : ℕ) (d : Configuration) → s.print_step maker serial c ≡ Some d → Took maker serial c d
  printed_took maker serial d e =
      let r = ready (s.pending maker serial c) (λ m. s.print_message maker serial m c) d e in
      printed maker serial r.message r.is r.message.target d r.leads

  handled_took : (p : Meaning) (sizes : List ℕ) → ((call : Call) (e : Effects) → IsOldReply call.me call.serial call.reply → p.outcome call ≡ Done e → IsOrderly sizes call e) →
      (maker : Name) (serial : ℕ) (fresh : List Name) (d : Configuration) → s.handle_step p.outcome maker serial fresh c ≡ Some d → Took maker serial c d
  handled_took p sizes orderly maker serial fresh d e =
      let r = ready (s.pending maker serial c) (λ m. s.handle_message p.outcome maker serial fresh m c) d e in
      aimed maker serial r.message r.is p sizes orderly fresh r.message.target d r.leads

  -- ---- creations and posts

  refused_keeps : (maker : Name) (serial : ℕ) (o : Option (Name × Creation)) (d : Configuration) → s.refuse maker serial o c ≡ Some d → Keeps c d
  refused_keeps maker serial None d e = absurd cc
  refused_keeps maker serial (Some x) d e = by (s.is_given x.1 c) e
    where
      there : Configuration
      there = s.add_fault NameTaken maker serial (s.drop_creation maker serial c)

      by : (b : Bool) → (if b then Some there else None) ≡ Some d → Keeps c d
      by false e = absurd cc
      by true e = let same : there ≡ d = cc in subst (Keeps c) same (record { kept = record { named = kept.named; keyed = kept.keyed; waits = kept.waits }; goes = record { grows = grown c.actors c.posted; waits = goes_same c.actors c.posted c.waiting }; few = omega arith })

  bound_by : (authorities : List Authority) (maker : Name) (serial : ℕ) (o : Option (Name × Creation)) (d : Configuration) → s.bind authorities maker serial o c ≡ Some d → Keeps c d
  bound_by authorities maker serial None d e = absurd cc
  bound_by authorities maker serial (Some x) d e = by (s.is_served authorities x.1.name && not (s.is_given x.1 c)) refl e
    where
      there : Configuration
      there = s.bind_creation x.1 (s.drop_creation maker serial c)

      who : Name
      who = name.Uan x.1.name

      new : Actor × ℕ
      new = (s.bound_actor x.1, 0)

      grew : fs.contains c.given (name_key who) ≡ false → (q : TableKey) → next_serial_of (fm.get c.actors q) ≤ next_serial_of (fm.get there.actors q)
      grew free q =
          let absent : fm.contains_key c.actors (name_key who) ≡ false = sym (contains_keys c.actors (name_key who)) ∙ ap (λ g. fs.contains g (name_key who)) (sym kept.named) ∙ free in
          elim (words_tells q (name_key who)) [
            | inl a ↦ let none = none_number c.actors q (ap (fm.contains_key c.actors) a.1 ∙ absent) in omega (arith, none)
            | inr a ↦ omega (arith, number_there c.actors (name_key who) q new a.0)
          ]

      grows : fs.contains c.given (name_key who) ≡ false → Grows c.actors c.posted there.actors there.posted
      grows free (name.Anon theatre n) = grew free (name_key (name.Anon theatre n))
      grows free (name.Uan u) = grew free (name_key (name.Uan u))
      grows free (name.Outside n) = omega arith

      keeps : fs.contains c.given (name_key who) ≡ false → Keeps c there
      keeps free = record {
        kept = record {
          named = ap (λ g. fs.insert g (name_key who)) kept.named ∙ sym (keys_write c.actors (name_key who) new);
          keyed = each_written IsKeyed c.actors (name_key who) (Some new) kept.keyed (λ y is. let same : new ≡ y = cc in subst (IsKeyed (name_key who)) same (record { keyed = refl; actor = tt }));
          waits = waits_more c.actors there.actors c.posted there.posted (grows free) c.waiting kept.waits;
        };
        goes = record { grows = grows free; waits = goes_same c.actors c.posted c.waiting };
        few = omega arith;
      }

      by : (b : Bool) → s.is_served authorities x.1.name && not (s.is_given x.1 c) ≡ b → (if b then Some there else None) ≡ Some d → Keeps c d
      by false is e = absurd cc
      by true is e = let same : there ≡ d = cc in subst (Keeps c) same (keeps (flipped (s.is_given x.1 c) (split (s.is_served authorities x.1.name) (not (s.is_given x.1 c)) is).1))

  -- a call comes from outside
  posted_keeps : (fits : Bool) (number : ℕ) (to : Uan) (behavior handler : ℕ) (args : List Value) (d : Configuration) → s.post_step fits number to behavior handler args c ≡ Some d → Keeps c d
  posted_keeps fits number to behavior handler args d e = by (fits && fits_post c.posted number to behavior args) refl e
    where
      there : Configuration
      there = s.after_post number to behavior handler args c

      maker : Name
      maker = name.Outside number

      grows : c.posted < number → Grows c.actors c.posted there.actors number
      grows less (name.Anon theatre n) = omega arith
      grows less (name.Uan u) = omega arith
      grows less (name.Outside n) = at (nat_le n c.posted) refl
        where
          at : (b : Bool) → nat_le n c.posted ≡ b → one_if b ≤ one_if (nat_le n number)
          at false e = omega arith
          at true e = let later : nat_le n number ≡ true = le-leb n number (omega (arith, leb-true n c.posted e, less)) in omega (arith, ap one_if later)

      now : next_serial there.actors number maker ≡ 1
      now = ap one_if (le-leb number number (omega arith))

      before : c.posted < number → next_serial c.actors c.posted maker ≡ 0
      before less = ap one_if (lt-leb number c.posted less)

      fit : c.posted < number → Fits there.actors number (made_key maker 0) (post_message number to behavior handler args).reply
      fit less = record {
        owed = tt;
        number = λ n k same. let p = same_made maker n 0 k same in let next : next_serial there.actors number n ≡ 1 = ap (next_serial there.actors number) (sym p.0) ∙ now in omega (arith, next, p.1);
      }

      was : c.posted < number → WasThere c.actors c.posted (fm.contains_key c.waiting.messages) (made_key maker 0) (post_message number to behavior handler args).reply
      was less = record {
        there = λ n k same l. let p = same_made maker n 0 k same in let next : next_serial c.actors c.posted n ≡ 0 = ap (next_serial c.actors c.posted) (sym p.0) ∙ before less in absurd (omega (arith, next, l));
      }

      keeps : c.posted < number → Keeps c there
      keeps less =
          let old = waits_more c.actors there.actors c.posted number (grows less) c.waiting kept.waits in
          let same = goes_same c.actors c.posted c.waiting in
          let one = post_message number to behavior handler args in
          record {
            kept = record {
              named = kept.named;
              keyed = kept.keyed;
              waits = record { messages = each_put (Fits there.actors number) (Fits there.actors number) (one ∷ []) c.waiting.messages (fit less, tt) old.messages; joins = old.joins };
            };
            goes = record {
              grows = grows less;
              waits = record {
                messages = each_put (WasThere c.actors c.posted (fm.contains_key c.waiting.messages)) (WasThere c.actors c.posted (fm.contains_key c.waiting.joins)) (one ∷ []) c.waiting.messages (was less, tt) same.messages;
                joins = same.joins;
              };
            };
            few = omega arith;
          }

      by : (b : Bool) → fits && fits_post c.posted number to behavior args ≡ b → (if b then Some there else None) ≡ Some d → Keeps c d
      by false is e = absurd cc
      by true is e =
          let later = (split (nat_lt c.posted number) (is_uan to && (not (nat_eq behavior 65535) && list_all may_be_posted args)) (split fits (fits_post c.posted number to behavior args) is).1).0 in
          let same : there ≡ d = cc in
          subst (Keeps c) same (keeps (ltb-true c.posted number later))

  -- ---- any of them

  none_taken : (one : Step) (d : Configuration) → Keeps c d → ((maker : Name) (serial : ℕ) → takes maker serial one ≡ 0) → OneStep one c d
  none_taken one d k none = record { keeps = k; takes = λ maker serial. inl (none maker serial) }

  one_taken : (one : Step) (m : Name) (n : ℕ) (d : Configuration) → Took m n c d → ((maker : Name) (serial : ℕ) → takes maker serial one ≡ one_if (key_eq (made_key maker serial) (made_key m n))) → OneStep one c d
  one_taken one m n d t is = record {
    keeps = t.keeps;
    takes = λ maker serial.
        elim (words_tells (made_key maker serial) (made_key m n)) [
          | inl a ↦ inr (ap (fm.contains_key c.waiting.messages) a.1 ∙ t.there, ap (fm.contains_key d.waiting.messages) a.1 ∙ t.gone)
          | inr a ↦ inl (is maker serial ∙ ap one_if a.0)
        ];
  }

  pub one_step : (p : Meaning) (sizes : List ℕ) → ((call : Call) (e : Effects) → IsOldReply call.me call.serial call.reply → p.outcome call ≡ Done e → IsOrderly sizes call e) → (setup : Setup) (one : Step) (d : Configuration) → s.step p setup c one ≡ Some d → OneStep one c d
  unfolding s.step
  one_step p sizes orderly setup (Handle m n fresh) d e = one_taken (Handle m n fresh) m n d (handled_took p sizes orderly m n fresh d e) (λ maker serial. refl)
  one_step p sizes orderly setup (Print m n) d e = one_taken (Print m n) m n d (printed_took m n d e) (λ maker serial. refl)
  one_step p sizes orderly setup (Bind m n) d e = none_taken (Bind m n) d (bound_by setup.authorities m n (fm.get c.creations (made_key m n)) d e) (λ maker serial. refl)
  one_step p sizes orderly setup (Refuse m n) d e = none_taken (Refuse m n) d (refused_keeps m n (fm.get c.creations (made_key m n)) d e) (λ maker serial. refl)
  one_step p sizes orderly setup (Post number to behavior handler args) d e = none_taken (Post number to behavior handler args) d (posted_keeps (p.fits_call behavior handler args) number to behavior handler args d e) (λ maker serial. refl)
