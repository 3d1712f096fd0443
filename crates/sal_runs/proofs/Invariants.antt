-- What each change that a step of a program's run makes keeps, all configurations of its runs keep.
use Rattle.std.proofs.Common.{◌≡◌, inl, inr, ℕ, Bool, true, false, cond, not, ◌&&◌, ◌||◌, List, [], ◌∷◌, Option, Some, None, is_some, refl, sym, ap, subst, ◌∙◌, arith}
use Rattle.std.specs.Prelude.{if◌then◌else◌, option_and_then}
use Rattle.std.specs.FinMap as fm
use Rattle.std.specs.FinSet as fs
use Rattle.std.proofs.lemmas.Cmp.{nat_list_cmp_total}
use Rattle.sal_value.specs.declared.name.Name.{Name}
use Rattle.sal_value.specs.declared.name.Uan.{Uan}
use Rattle.sal_value.specs.declared.value.Value.{Value}
use Rattle.sal_value.specs.declared.value.Value.TheVariants.{Null}
use Rattle.sal_ast.specs.declared.program.Program.{Program}
use Rattle.sal_mail.specs.declared.message.Message.{Message}
use Rattle.sal_mail.specs.declared.message.Target.{Target}
use Rattle.sal_mail.specs.declared.message.Target.TheVariants as target
use Rattle.sal_mail.specs.declared.effects.Actor.{Actor}
use Rattle.sal_mail.specs.declared.effects.Creation.{Creation}
use Rattle.sal_mail.specs.declared.effects.Effects.{Effects}
use Rattle.sal_mail.specs.declared.fault.FaultKind.{FaultKind}
use Rattle.sal_mail.specs.declared.fault.FaultKind.TheVariants.{Trap as Trapped, NoHandler, NameTaken}
use Rattle.sal_mail.specs.Message.{is_ready}
use Rattle.sal_handler.specs.Fits.{meaning_of}
use Rattle.sal_handler.specs.Handler.{handle}
use Rattle.sal_handler.specs.WellFormed.{program_sizes}
use Rattle.sal_handler.specs.declared.turn.Began.{Began}
use Rattle.sal_handler.specs.declared.turn.Began.TheVariants as began
use Rattle.sal_handler.specs.declared.turn.Outcome.{Outcome}
use Rattle.sal_handler.specs.declared.turn.Outcome.TheVariants as outcome
use Rattle.sal_handler.proofs.FairCalls.{handlers_orderly}
use Rattle.sal_source.specs.declared.state.Setup.{Setup}
use Rattle.sal_source.specs.declared.state.Step.{Step}
use Rattle.sal_source.specs.declared.state.Step.TheVariants.{Handle, Print, Bind, Refuse, Post}
use Rattle.sal_source.specs.Table.{TableKey, key_eq, table_of, keys_of}
use Rattle.sal_source.specs.Keys.{name_key, made_key, message_key, actor_key}
use Rattle.sal_source.specs.Configuration.{Configuration, first_by, first_configuration, start_actor, act_message}
use Rattle.sal_source.specs.Give.{DueReply, give_all}
use Rattle.sal_source.specs.Once.{next_serial}
use Rattle.sal_source.specs.Posts.{fits_post}
use Rattle.sal_source.specs.Run.{steps, play}
use Rattle.sal_source.specs.Step as s
use Rattle.sal_source.proofs.Given.{contains_keys, keys_none}
use Rattle.sal_source.proofs.Keeping.{Actors, Fits, IsKeyed, KeptIn, same_made, split, flipped}
use Rattle.sal_source.proofs.Once.{Each, each_none}
use Rattle.sal_source.proofs.Stepping.{one_step}
use Rattle.sal_source.proofs.Tables.{get-table_of, words_tells, words_anti}
use Rattle.sal_runs.proofs.Steps.{some_is}

-- ---- the first configuration

pub each_of_one : {X : Type 0} (Q : TableKey → X → Type 0) (key : X → TableKey) (x : X) → Q (key x) x → Each Q (table_of key (x ∷ []))
each_of_one {X} Q key x h = record { at = λ q y is. by q y (sym (get-table_of key (x ∷ []) q) ∙ is) }
  where
    by : (q : TableKey) (y : X) → cond (key_eq q (key x)) (Some x) None ≡ Some y → Q q y
    by q y is =
        elim (words_tells q (key x)) [
          | inl a ↦ let same : x ≡ y = let e : Some x ≡ Some y = sym (ap (λ b. cond b (Some x) None) a.0) ∙ is in cc in subst (Q q) same (subst (λ z. Q z x) (sym a.1) h)
          | inr a ↦ let e : None ≡ Some y = sym (ap (λ b. cond b (Some x) None) a.0) ∙ is in absurd cc
        ]

name_of_one : {X : Type 0} (key : X → TableKey) (x : X) → fs.from_list (key x ∷ []) ≡ keys_of (table_of key (x ∷ []))
name_of_one key x = fs.same_set nat_list_cmp_total words_anti _ _ (λ q. fs.contains-from_list nat_list_cmp_total (key x ∷ []) q ∙ by (key_eq q (key x)) ∙ sym (contains_keys (table_of key (x ∷ [])) q ∙ ap is_some (get-table_of key (x ∷ []) q)))
  where
    by : (b : Bool) → (b || false) ≡ is_some (cond b (Some x) None)
    by true = refl
    by false = refl

pub kept_first : (words : List Value) (b : Began) → KeptIn (first_by words b)
kept_first words (began.Trap kind) = record {
  named = sym (keys_none (Actor × ℕ));
  keyed = each_none IsKeyed;
  waits = record { messages = each_none (λ key m. Fits fm.empty 0 key m.reply); joins = each_none (λ key j. Fits fm.empty 0 key j.1.reply) };
}
kept_first words (began.Actor behavior handler fields) =
    let actors : Actors = table_of actor_key (start_actor behavior fields ∷ []) in
    record {
      named = name_of_one actor_key (start_actor behavior fields);
      keyed = each_of_one IsKeyed actor_key (start_actor behavior fields) (record { keyed = refl; actor = tt });
      waits = record {
        messages = each_of_one (λ key m. Fits actors 0 key m.reply) message_key (act_message words behavior handler) (record {
          owed = tt;
          number = λ m n same.
              let p = same_made (act_message words behavior handler).maker m 0 n same in
              let next : next_serial actors 0 m ≡ 1 = ap (next_serial actors 0) (sym p.0) in
              omega (arith, p.1, next);
        });
        joins = each_none (λ key j. Fits actors 0 key j.1.reply);
      };
    }

-- ---- what a step changes

-- a message that was pending was handled by its actor, which did this
pub record IsHandled (p : Program) (c : Configuration) (maker : Name) (serial : ℕ) (m : Message) (a : Actor × ℕ) (fresh : List Name) (e : Effects) : Type 0 where
  pub kept : KeptIn c
  pub pending : fm.get c.waiting.messages (made_key maker serial) ≡ Some m
  pub actor : fm.get c.actors (name_key a.0.name) ≡ Some a
  pub keyed : IsKeyed (name_key a.0.name) a
  pub did : handle p (s.call_of m a fresh) ≡ outcome.Done e
  pub fits : s.fits_fresh fresh e (s.drop_message maker serial c) ≡ true

-- what all changes keep
pub record Invariant (p : Program) (setup : Setup) (P : Configuration → Type 0) : Type 0 where
  pub dropped : (maker : Name) (serial : ℕ) (c : Configuration) → P c → P (s.drop_message maker serial c)
  pub failed : (kind : FaultKind) (maker : Name) (serial : ℕ) (c : Configuration) → P c → P (s.add_fault kind maker serial c)
  pub worked : (c : Configuration) (maker : Name) (serial : ℕ) (m : Message) (a : Actor × ℕ) (fresh : List Name) (e : Effects) → IsHandled p c maker serial m a fresh e → P c → P (s.with_effects e a.0 (s.drop_message maker serial c))
  pub given : (gs : List DueReply) (c : Configuration) → P c → P (give_all gs c)
  pub printed : (text : List ℕ) (c : Configuration) → P c → P (s.add_output text c)
  pub unmade : (maker : Name) (serial : ℕ) (c : Configuration) → P c → P (s.drop_creation maker serial c)
  pub bound : (maker : Name) (serial : ℕ) (x : Name × Creation) (c : Configuration) → KeptIn c → fm.get c.creations (made_key maker serial) ≡ Some x → s.is_served setup.authorities x.1.name ≡ true → s.is_given x.1 c ≡ false → P c → P (s.bind_creation x.1 (s.drop_creation maker serial c))
  pub posted : (number : ℕ) (to : Uan) (behavior handler : ℕ) (args : List Value) (c : Configuration) → fits_post c.posted number to behavior args ≡ true → P c → P (s.after_post number to behavior handler args c)

module _ (p : Program) (setup : Setup) (P : Configuration → Type 0) (r : Invariant p setup P) where
  module _ (c : Configuration) (kept : KeptIn c) (here : P c) where
    no_names : (fresh : List Name) (x d : Configuration) → P x → s.if_no_names fresh x ≡ Some d → P d
    no_names [] x d h e = subst P (some_is e) h
    no_names (n ∷ ns) x d h e = absurd cc

    module _ (maker : Name) (serial : ℕ) (m : Message) (found : fm.get c.waiting.messages (made_key maker serial) ≡ Some m) where
      after : (fresh : List Name) (a : Actor × ℕ) → fm.get c.actors (name_key a.0.name) ≡ Some a → IsKeyed (name_key a.0.name) a → (o : Outcome) → handle p (s.call_of m a fresh) ≡ o → (d : Configuration)
          → s.after_outcome o maker serial fresh m a.0 (s.drop_message maker serial c) ≡ Some d → P d
      after fresh a at it (outcome.Trap kind) is d e = no_names fresh (s.add_fault (Trapped kind) maker serial (s.drop_message maker serial c)) d (r.failed (Trapped kind) maker serial (s.drop_message maker serial c) (r.dropped maker serial c here)) e
      after fresh a at it (outcome.Done y) is d e = by (s.fits_fresh fresh y (s.drop_message maker serial c)) refl e
        where
          by : (b : Bool) → s.fits_fresh fresh y (s.drop_message maker serial c) ≡ b → (if b then Some (give_all (s.step_replies y m.reply) (s.with_effects y a.0 (s.drop_message maker serial c))) else None) ≡ Some d → P d
          by false fits e = absurd cc
          by true fits e = subst P (some_is e) (r.given (s.step_replies y m.reply) (s.with_effects y a.0 (s.drop_message maker serial c)) (r.worked c maker serial m a fresh y (record { kept = kept; pending = found; actor = at; keyed = it; did = is; fits = fits }) here))

      met : (fresh : List Name) (n : Name) (o : Option (Actor × ℕ)) → fm.get c.actors (name_key n) ≡ o → (d : Configuration) → s.handle_if_actor (handle p) maker serial fresh m o (s.drop_message maker serial c) ≡ Some d → P d
      met fresh n None is d e = absurd cc
      met fresh n (Some a) is d e = by (s.understands a.0 m) e
        where
          it : IsKeyed (name_key n) a
          it = kept.keyed.at (name_key n) a is

          by : (b : Bool) → (if b then s.after_outcome (handle p (s.call_of m a fresh)) maker serial fresh m a.0 (s.drop_message maker serial c) else s.if_no_names fresh (s.add_fault NoHandler maker serial (s.drop_message maker serial c))) ≡ Some d → P d
          by true e = after fresh a (ap (fm.get c.actors) it.keyed ∙ is) (record { keyed = refl; actor = it.actor }) (handle p (s.call_of m a fresh)) refl d e
          by false e = no_names fresh (s.add_fault NoHandler maker serial (s.drop_message maker serial c)) d (r.failed NoHandler maker serial (s.drop_message maker serial c) (r.dropped maker serial c here)) e

      aimed : (fresh : List Name) (t : Target) (d : Configuration) → s.handle_if_actor (handle p) maker serial fresh m (s.actor_at t c) (s.drop_message maker serial c) ≡ Some d → P d
      aimed fresh (target.Actor n) d e = met fresh n (fm.get c.actors (name_key n)) refl d e
      aimed fresh target.Output d e = absurd cc

      print_to : (t : Target) (d : Configuration) → s.print_to t m (s.drop_message maker serial c) ≡ Some d → P d
      print_to target.Output d e =
          subst P (some_is e) (r.given ((m.reply, Null) ∷ []) (s.add_output (s.message_text m) (s.drop_message maker serial c)) (r.printed (s.message_text m) (s.drop_message maker serial c) (r.dropped maker serial c here)))
      print_to (target.Actor n) d e = absurd cc

    if_ready : (o : Option Message) (f : Message → Option Configuration) (d : Configuration) → ((m : Message) → o ≡ Some m → f m ≡ Some d → P d) → s.if_ready o f ≡ Some d → P d
    if_ready None f d g e = absurd cc
    if_ready (Some m) f d g e = by (is_ready m) e
      where
        by : (b : Bool) → (if b then f m else None) ≡ Some d → P d
        by true e = g m refl e
        by false e = absurd cc

    bind : (maker : Name) (serial : ℕ) (o : Option (Name × Creation)) → fm.get c.creations (made_key maker serial) ≡ o → (d : Configuration) → s.bind setup.authorities maker serial o c ≡ Some d → P d
    bind maker serial None is d e = absurd cc
    bind maker serial (Some x) is d e = by (s.is_served setup.authorities x.1.name && not (s.is_given x.1 c)) refl e
      where
        by : (b : Bool) → s.is_served setup.authorities x.1.name && not (s.is_given x.1 c) ≡ b → (if b then Some (s.bind_creation x.1 (s.drop_creation maker serial c)) else None) ≡ Some d → P d
        by true q e = subst P (some_is e) (r.bound maker serial x c kept is (split (s.is_served setup.authorities x.1.name) (not (s.is_given x.1 c)) q).0 (flipped (s.is_given x.1 c) (split (s.is_served setup.authorities x.1.name) (not (s.is_given x.1 c)) q).1) here)
        by false q e = absurd cc

    refuse : (maker : Name) (serial : ℕ) (o : Option (Name × Creation)) (d : Configuration) → s.refuse maker serial o c ≡ Some d → P d
    refuse maker serial None d e = absurd cc
    refuse maker serial (Some x) d e = by (s.is_given x.1 c) e
      where
        by : (b : Bool) → (if b then Some (s.add_fault NameTaken maker serial (s.drop_creation maker serial c)) else None) ≡ Some d → P d
        by true e = subst P (some_is e) (r.failed NameTaken maker serial (s.drop_creation maker serial c) (r.unmade maker serial c here))
        by false e = absurd cc

    step_keeps : (one : Step) (d : Configuration) → s.step (meaning_of p) setup c one ≡ Some d → P d
    unfolding s.step
    step_keeps (Handle maker serial fresh) d e =
        if_ready (s.pending maker serial c) (λ m. s.handle_message (handle p) maker serial fresh m c) d (λ m found e. aimed maker serial m found fresh m.target d e) e
    step_keeps (Print maker serial) d e = if_ready (s.pending maker serial c) (λ m. s.print_message maker serial m c) d (λ m found e. print_to maker serial m found m.target d e) e
    step_keeps (Bind maker serial) d e = bind maker serial (fm.get c.creations (made_key maker serial)) refl d e
    step_keeps (Refuse maker serial) d e = refuse maker serial (fm.get c.creations (made_key maker serial)) d e
    step_keeps (Post number to behavior handler args) d e = by ((meaning_of p).fits_call behavior handler args) (fits_post c.posted number to behavior args) refl e
      where
        by : (x y : Bool) → fits_post c.posted number to behavior args ≡ y → (if x && y then Some (s.after_post number to behavior handler args c) else None) ≡ Some d → P d
        by true true q e = subst P (some_is e) (r.posted number to behavior handler args c q here)
        by true false q e = absurd cc
        by false y q e = absurd cc

  -- what runs keep, and this
  pub record Holds (c : Configuration) : Type 0 where
    pub kept : KeptIn c
    pub here : P c

  run_keeps : (ss : List Step) (c end : Configuration) → Holds c → steps (meaning_of p) setup c ss ≡ Some end → Holds end
  unfolding steps
  run_keeps [] c end h is = subst Holds (some_is is) h
  run_keeps (one ∷ ss) c end h is = at (s.step (meaning_of p) setup c one) refl is (λ d. run_keeps ss d end)
    where
      at : (o : Option Configuration) → s.step (meaning_of p) setup c one ≡ o → option_and_then (λ d. steps (meaning_of p) setup d ss) o ≡ Some end
          → ((d : Configuration) → Holds d → steps (meaning_of p) setup d ss ≡ Some end → Holds end) → Holds end
      at None e f later = absurd cc
      at (Some d) e f later =
          later d (record { kept = (one_step c h.kept (meaning_of p) (program_sizes p) (handlers_orderly p) setup one d e).keeps.kept; here = step_keeps c h.kept h.here one d e }) f

  pub plays : (ss : List Step) (end : Configuration) → P (first_configuration (meaning_of p) setup) → play p setup ss ≡ Some end → Holds end
  plays ss end first is = run_keeps ss (first_configuration (meaning_of p) setup) end (record { kept = kept_first setup.words (meaning_of p).begin; here = first }) is
