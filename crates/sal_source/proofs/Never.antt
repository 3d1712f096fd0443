-- Along a run no message is taken twice, and no join opens again.
use Rattle.std.proofs.Common.{◌≡◌, inl, inr, ℕ, ◌≤◌, ◌<◌, Bool, true, false, cond, ◌||◌, List, [], ◌∷◌, ◌++◌, Option, Some, None, is_some, refl, sym, ap, subst, ◌∙◌, arith}
use Rattle.std.specs.Prelude.{option_and_then}
use Rattle.std.proofs.lemmas.Cmp.{nat_list_cmp_total}
use Rattle.std.specs.FinMap as fm
use Rattle.std.specs.FinSet as fs
use Rattle.sal_value.specs.declared.name.Name.{Name}
use Rattle.sal_value.specs.declared.value.Value.{Value}
use Rattle.sal_mail.specs.declared.effects.Actor.{Actor}
use Rattle.sal_mail.specs.declared.effects.Effects.{Effects}
use Rattle.sal_handler.specs.declared.turn.Outcome.TheVariants.{Done}
use Rattle.sal_handler.specs.declared.turn.Began.{Began}
use Rattle.sal_handler.specs.declared.turn.Began.TheVariants as began
use Rattle.sal_handler.specs.Calls.{Call, Meaning}
use Rattle.sal_handler.specs.Fits.{meaning_of}
use Rattle.sal_handler.specs.WellFormed.{IsOldReply, IsOrderly, program_sizes}
use Rattle.sal_handler.proofs.FairCalls.{handlers_orderly}
use Rattle.sal_source.specs.declared.state.Setup.{Setup}
use Rattle.sal_source.specs.declared.state.Step.{Step}
use Rattle.sal_source.specs.declared.state.Step.TheVariants.{Handle, Print, Bind, Refuse, Post}
use Rattle.sal_source.specs.Table.{TableKey, key_eq, table_of, keys_of, total}
use Rattle.sal_source.specs.Keys.{made_key, message_key, actor_key}
use Rattle.sal_source.specs.Configuration.{Configuration, start_actor, act_message, first_by, first_configuration}
use Rattle.sal_source.specs.Step.{step}
use Rattle.sal_source.specs.Run.{steps}
use Rattle.sal_source.specs.Once.{one_if, next_serial, takes, is_open_join, HasResolved, MessagesAreTakenOnce, JoinsResolveOnce, StepsAnswerOnce}
use Rattle.sal_source.proofs.Tables.{words_anti, words_tells, get-table_of}
use Rattle.sal_source.proofs.Given.{contains_keys, keys_none}
use Rattle.sal_source.proofs.Once.{Each, each_none}
use Rattle.sal_source.proofs.Keeping.{Actors, same_made, Fits, IsKeyed, KeptIn, there_is}
use Rattle.sal_source.proofs.Stepping.{Keeps, is_pending, one_step}

-- ---- the first configuration

each_of_one : {X : Type 0} (Q : TableKey → X → Type 0) (key : X → TableKey) (x : X) → Q (key x) x → Each Q (table_of key (x ∷ []))
each_of_one Q key x h = record { at = λ q y is. by q y (sym (get-table_of key (x ∷ []) q) ∙ is) }
  where
    by : (q : TableKey) (y : _) → cond (key_eq q (key x)) (Some x) None ≡ Some y → Q q y
    by q y is =
        elim (words_tells q (key x)) [
          | inl a ↦ let same : x ≡ y = let e : Some x ≡ Some y = sym (ap (λ b. cond b (Some x) None) a.0) ∙ is in cc in subst (Q q) same (subst (λ z. Q z x) (sym a.1) h)
          | inr a ↦ let e : None ≡ Some y = sym (ap (λ b. cond b (Some x) None) a.0) ∙ is in absurd cc
        ]

name_of_one : {X : Type 0} (key : X → TableKey) (x : X) → fs.from_list (key x ∷ []) ≡ keys_of (table_of key (x ∷ []))
name_of_one key x = fs.same_set nat_list_cmp_total words_anti _ _ (λ q. fs.contains-from_list nat_list_cmp_total (key x ∷ []) q ∙ by (key_eq q (key x)) ∙ sym (contains_keys (table_of key (x ∷ [])) q ∙ ap is_some (get-table_of key (x ∷ []) q)))
  where
    by : (b : Bool) → (b || false) ≡ is_some (cond b (Some x) None)
    by true = refl
    by false = refl

kept_first : (words : List Value) (b : Began) → KeptIn (first_by words b)
kept_first words (began.Trap kind) = record {
  named = sym (keys_none (Actor × ℕ));
  keyed = each_none IsKeyed;
  waits = record { messages = each_none (λ key m. Fits fm.empty 0 key m.reply); joins = each_none (λ key j. Fits fm.empty 0 key j.1.reply) };
}
kept_first words (began.Actor behavior handler fields) =
    let actors : Actors = table_of actor_key (start_actor behavior fields ∷ []) in
    record {
      named = name_of_one actor_key (start_actor behavior fields);
      keyed = each_of_one IsKeyed actor_key (start_actor behavior fields) (record { keyed = refl; actor = tt });
      waits = record {
        messages = each_of_one (λ key m. Fits actors 0 key m.reply) message_key (act_message words behavior handler) (record {
          owed = tt;
          number = λ m s same.
              let p = same_made (act_message words behavior handler).maker m 0 s same in
              let next : next_serial actors 0 m ≡ 1 = ap (next_serial actors 0) (sym p.0) in
              omega (arith, p.1, next);
        });
        joins = each_none (λ key j. Fits actors 0 key j.1.reply);
      };
    }

-- ---- runs

if_most : (b : Bool) → one_if b ≤ 1
if_most true = omega arith
if_most false = omega arith

takes_most : (maker : Name) (serial : ℕ) (s : Step) → takes maker serial s ≤ 1
takes_most maker serial (Handle m n fresh) = if_most (key_eq (made_key maker serial) (made_key m n))
takes_most maker serial (Print m n) = if_most (key_eq (made_key maker serial) (made_key m n))
takes_most maker serial (Bind m n) = omega arith
takes_most maker serial (Refuse m n) = omega arith
takes_most maker serial (Post number to behavior handler args) = omega arith

module _ (p : Meaning) (setup : Setup) (sizes : List ℕ) (orderly : (call : Call) (e : Effects) → IsOldReply call.me call.serial call.reply → p.outcome call ≡ Done e → IsOrderly sizes call e) where
  record Led (s : Step) (ss : List Step) (c end : Configuration) : Type 0 where
    next : Configuration
    is : step p setup c s ≡ Some next
    rest : steps p setup next ss ≡ Some end

  led : (s : Step) (ss : List Step) (c end : Configuration) → steps p setup c (s ∷ ss) ≡ Some end → Led s ss c end
  unfolding steps
  led s ss c end e = by (step p setup c s) refl e
    where
      by : (o : Option Configuration) → step p setup c s ≡ o → option_and_then (λ d. steps p setup d ss) o ≡ Some end → Led s ss c end
      by None is e = absurd cc
      by (Some d) is e = record { next = d; is = is; rest = e }

  abbrev pend : Configuration → Name → ℕ → ℕ
  pend c maker serial = one_if (is_pending c maker serial)

  abbrev next : Configuration → Name → ℕ
  next c maker = next_serial c.actors c.posted maker

  number_taken : (c : Configuration) → KeptIn c → (maker : Name) (serial : ℕ) → is_pending c maker serial ≡ true → serial < next c maker
  number_taken c k maker serial e = let x = there_is c.waiting.messages (made_key maker serial) e in (k.waits.messages.at (made_key maker serial) x.0 x.1).number maker serial refl

  -- of a number that was taken, only what was pending can be taken
  pend_falls : (c d : Configuration) → Keeps c d → (maker : Name) (serial : ℕ) → serial < next c maker → pend d maker serial ≤ pend c maker serial
  pend_falls c d k maker serial l = by (is_pending d maker serial) refl
    where
      by : (b : Bool) → is_pending d maker serial ≡ b → one_if b ≤ pend c maker serial
      by false e = omega arith
      by true e =
          let x = there_is d.waiting.messages (made_key maker serial) e in
          let was : is_pending c maker serial ≡ true = (k.goes.waits.messages.at (made_key maker serial) x.0 x.1).there maker serial refl l in
          omega (arith, ap one_if was)

  record Counted (ss : List Step) (c : Configuration) (maker : Name) (serial : ℕ) : Type 0 where
    once : total (takes maker serial) ss ≤ 1
    old : serial < next c maker → total (takes maker serial) ss ≤ pend c maker serial

  counted : (ss : List Step) (c end : Configuration) → KeptIn c → steps p setup c ss ≡ Some end → (maker : Name) (serial : ℕ) → Counted ss c maker serial
  counted [] c end k e maker serial = record { once = omega arith; old = λ l. omega arith }
  counted (s ∷ ss) c end k e maker serial =
      let l = led s ss c end e in
      let one = one_step c k p sizes orderly setup s l.next l.is in
      let rest = counted ss l.next end one.keeps.kept l.rest maker serial in
      elim (one.takes maker serial) [
        | inl none ↦ record { once = omega (arith, none, rest.once); old = λ low. omega (arith, none, rest.old (omega (arith, low, one.keeps.goes.grows maker)), pend_falls c l.next one.keeps maker serial low) }
        | inr took ↦
            let low = number_taken c k maker serial took.0 in
            let more = rest.old (omega (arith, low, one.keeps.goes.grows maker)) in
            let all : total (takes maker serial) (s ∷ ss) ≤ 1 = omega (arith, more, ap one_if took.1, takes_most maker serial s) in
            record { once = all; old = λ low. omega (arith, all, ap one_if took.0) }
      ]

  -- ---- joins

  along : (ss : List Step) (c end : Configuration) → KeptIn c → steps p setup c ss ≡ Some end → KeptIn end
  unfolding steps
  along [] c end k e = let same : c ≡ end = cc in subst KeptIn same k
  along (s ∷ ss) c end k e = let l = led s ss c end e in along ss l.next end (one_step c k p sizes orderly setup s l.next l.is).keeps.kept l.rest

  closed_once : (c d : Configuration) → Keeps c d → (maker : Name) (number : ℕ) → number < next c maker → is_open_join maker number c ≡ false → is_open_join maker number d ≡ false
  closed_once c d k maker number l closed = by (is_open_join maker number d) refl
    where
      by : (b : Bool) → is_open_join maker number d ≡ b → is_open_join maker number d ≡ false
      by false e = e
      by true e =
          let x = there_is d.waiting.joins (made_key maker number) e in
          let was : is_open_join maker number c ≡ true = (k.goes.waits.joins.at (made_key maker number) x.0 x.1).there maker number refl l in
          absurd cc

  closed : (ss : List Step) (c end : Configuration) → KeptIn c → steps p setup c ss ≡ Some end → (maker : Name) (number : ℕ) → HasResolved maker number c → HasResolved maker number end
  unfolding steps
  closed [] c end k e maker number h = let same : c ≡ end = cc in subst (HasResolved maker number) same h
  closed (s ∷ ss) c end k e maker number h =
      let z = led s ss c end e in
      let one = one_step c k p sizes orderly setup s z.next z.is in
      let l = h.0 in
      closed ss z.next end one.keeps.kept z.rest maker number (omega (arith, l, one.keeps.goes.grows maker), closed_once c z.next one.keeps maker number h.0 h.1)

  -- a run goes on from where its front ends
  parted : (ss more : List Step) (c mid end : Configuration) → steps p setup c ss ≡ Some mid → steps p setup c (ss ++ more) ≡ Some end → steps p setup mid more ≡ Some end
  unfolding steps
  parted [] more c mid end e f = let same : c ≡ mid = cc in subst (λ z. steps p setup z more ≡ Some end) same f
  parted (s ∷ ss) more c mid end e f =
      let a = led s ss c mid e in
      let b = led s (ss ++ more) c end f in
      let same : a.next ≡ b.next = let g : Some a.next ≡ Some b.next = sym a.is ∙ b.is in cc in
      parted ss more a.next mid end a.rest (subst (λ z. steps p setup z (ss ++ more) ≡ Some end) (sym same) b.rest)

-- ---- the laws

pub taken_once : MessagesAreTakenOnce
taken_once q setup ss end e maker serial = (counted (meaning_of q) setup (program_sizes q) (handlers_orderly q) ss (first_configuration (meaning_of q) setup) end (kept_first setup.words (meaning_of q).begin) e maker serial).once

pub resolve_once : JoinsResolveOnce
resolve_once q setup ss more c d e f maker number h =
    let p = meaning_of q in
    let start = kept_first setup.words p.begin in
    let here = along p setup (program_sizes q) (handlers_orderly q) ss (first_configuration p setup) c start e in
    closed p setup (program_sizes q) (handlers_orderly q) more c d here (parted p setup (program_sizes q) (handlers_orderly q) ss more (first_configuration p setup) c d e f) maker number h

pub answer_once : StepsAnswerOnce
answer_once q setup ss one c d e is =
    let p = meaning_of q in
    let here = along p setup (program_sizes q) (handlers_orderly q) ss (first_configuration p setup) c (kept_first setup.words p.begin) e in
    (one_step c here p (program_sizes q) (handlers_orderly q) setup one d is).keeps.few
