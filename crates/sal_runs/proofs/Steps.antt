-- What all changes of which steps consist keep, steps keep.
use Rattle.std.proofs.Common.{◌≡◌, ℕ, Bool, true, false, not, ◌&&◌, List, [], ◌∷◌, Option, Some, None, refl, subst}
use Rattle.std.specs.Prelude.{if◌then◌else◌}
use Rattle.std.specs.FinMap as fm
use Rattle.sal_value.specs.declared.name.Name.{Name}
use Rattle.sal_value.specs.declared.name.Uan.{Uan}
use Rattle.sal_value.specs.declared.value.Value.{Value}
use Rattle.sal_value.specs.declared.value.Value.TheVariants.{Null}
use Rattle.sal_mail.specs.declared.message.Message.{Message}
use Rattle.sal_mail.specs.declared.message.Target.{Target}
use Rattle.sal_mail.specs.declared.message.Target.TheVariants as target
use Rattle.sal_mail.specs.declared.effects.Actor.{Actor}
use Rattle.sal_mail.specs.declared.effects.Creation.{Creation}
use Rattle.sal_mail.specs.declared.effects.Effects.{Effects}
use Rattle.sal_mail.specs.declared.fault.FaultKind.{FaultKind}
use Rattle.sal_mail.specs.declared.fault.FaultKind.TheVariants.{Trap as Trapped, NoHandler, NameTaken}
use Rattle.sal_mail.specs.Message.{is_ready}
use Rattle.sal_handler.specs.Calls.{Call, Meaning}
use Rattle.sal_handler.specs.declared.turn.Outcome.{Outcome}
use Rattle.sal_handler.specs.declared.turn.Outcome.TheVariants as outcome
use Rattle.sal_source.specs.declared.state.Setup.{Setup}
use Rattle.sal_source.specs.declared.state.Step.{Step}
use Rattle.sal_source.specs.declared.state.Step.TheVariants.{Handle, Print, Bind, Refuse, Post}
use Rattle.sal_source.specs.Keys.{made_key}
use Rattle.sal_source.specs.Configuration.{Configuration}
use Rattle.sal_source.specs.Give.{DueReply, give_all}
use Rattle.sal_source.specs.Posts.{fits_post}
use Rattle.sal_source.specs.Step as s

pub some_is : {A : Type 0} {a b : A} → Some a ≡ Some b → a ≡ b
some_is e = cc

-- one configuration leads to another by changes of these kinds
pub record Relates (setup : Setup) (R : Configuration → Configuration → Type 0) : Type 0 where
  pub compose : (c d e : Configuration) → R c d → R d e → R c e
  pub dropped : (maker : Name) (serial : ℕ) (c : Configuration) → R c (s.drop_message maker serial c)
  pub failed : (kind : FaultKind) (maker : Name) (serial : ℕ) (c : Configuration) → R c (s.add_fault kind maker serial c)
  pub worked : (e : Effects) (a : Actor) (fresh : List Name) (c : Configuration) → s.fits_fresh fresh e c ≡ true → R c (s.with_effects e a c)
  pub given : (gs : List DueReply) (c : Configuration) → R c (give_all gs c)
  pub printed : (text : List ℕ) (c : Configuration) → R c (s.add_output text c)
  pub unmade : (maker : Name) (serial : ℕ) (c : Configuration) → R c (s.drop_creation maker serial c)
  pub bound : (x : Creation) (c : Configuration) → s.is_served setup.authorities x.name ≡ true → R c (s.bind_creation x c)
  pub posted : (number : ℕ) (to : Uan) (behavior handler : ℕ) (args : List Value) (c : Configuration) → R c (s.after_post number to behavior handler args c)

both : (a b : Bool) → a && b ≡ true → (a ≡ true) × (b ≡ true)
both true true e = (refl, refl)
both true false e = absurd cc
both false b e = absurd cc

module _ (setup : Setup) (R : Configuration → Configuration → Type 0) (r : Relates setup R) where
  -- a choice that gives something
  chosen : (b : Bool) (x d : Configuration) (c : Configuration) → (b ≡ true → R c x) → (if b then Some x else None) ≡ Some d → R c d
  chosen true x d c f e = subst (R c) (some_is e) (f refl)
  chosen false x d c f e = absurd cc

  no_names : (fresh : List Name) (c x d : Configuration) → R c x → s.if_no_names fresh x ≡ Some d → R c d
  no_names [] c x d h e = subst (R c) (some_is e) h
  no_names (n ∷ names) c x d h e = absurd cc

  after : (o : Outcome) (maker : Name) (serial : ℕ) (fresh : List Name) (m : Message) (a : Actor) (c d : Configuration) → s.after_outcome o maker serial fresh m a c ≡ Some d → R c d
  after (outcome.Done e) maker serial fresh m a c d is =
      chosen (s.fits_fresh fresh e c) (give_all (s.step_replies e m.reply) (s.with_effects e a c)) d c
      (λ fits. r.compose c (s.with_effects e a c) (give_all (s.step_replies e m.reply) (s.with_effects e a c)) (r.worked e a fresh c fits) (r.given (s.step_replies e m.reply) (s.with_effects e a c))) is
  after (outcome.Trap kind) maker serial fresh m a c d is = no_names fresh c (s.add_fault (Trapped kind) maker serial c) d (r.failed (Trapped kind) maker serial c) is

  by_actor : (outcomes : Call → Outcome) (maker : Name) (serial : ℕ) (fresh : List Name) (m : Message) (a : Actor × ℕ) (c d : Configuration) → s.handle_by_actor outcomes maker serial fresh m a c ≡ Some d → R c d
  by_actor outcomes maker serial fresh m a c d = at (s.understands a.0 m)
    where
      at : (b : Bool) → (if b then s.after_outcome (outcomes (s.call_of m a fresh)) maker serial fresh m a.0 c else s.if_no_names fresh (s.add_fault NoHandler maker serial c)) ≡ Some d → R c d
      at true is = after (outcomes (s.call_of m a fresh)) maker serial fresh m a.0 c d is
      at false is = no_names fresh c (s.add_fault NoHandler maker serial c) d (r.failed NoHandler maker serial c) is

  if_actor : (outcomes : Call → Outcome) (maker : Name) (serial : ℕ) (fresh : List Name) (m : Message) (o : Option (Actor × ℕ)) (c d : Configuration) → s.handle_if_actor outcomes maker serial fresh m o c ≡ Some d → R c d
  if_actor outcomes maker serial fresh m None c d is = absurd cc
  if_actor outcomes maker serial fresh m (Some a) c d is = by_actor outcomes maker serial fresh m a c d is

  print_to : (t : Target) (m : Message) (c d : Configuration) → s.print_to t m c ≡ Some d → R c d
  print_to target.Output m c d is =
      subst (R c) (some_is is) (r.compose c (s.add_output (s.message_text m) c) (give_all ((m.reply, Null) ∷ []) (s.add_output (s.message_text m) c)) (r.printed (s.message_text m) c) (r.given ((m.reply, Null) ∷ []) (s.add_output (s.message_text m) c)))
  print_to (target.Actor n) m c d is = absurd cc

  if_ready : (o : Option Message) (f : Message → Option Configuration) (c d : Configuration) → ((m : Message) → f m ≡ Some d → R c d) → s.if_ready o f ≡ Some d → R c d
  if_ready None f c d g is = absurd cc
  if_ready (Some m) f c d g is = at (is_ready m) is
    where
      at : (b : Bool) → (if b then f m else None) ≡ Some d → R c d
      at true is = g m is
      at false is = absurd cc

  bind : (maker : Name) (serial : ℕ) (o : Option (Name × Creation)) (c d : Configuration) → s.bind setup.authorities maker serial o c ≡ Some d → R c d
  bind maker serial None c d is = absurd cc
  bind maker serial (Some x) c d is =
      chosen (s.is_served setup.authorities x.1.name && not (s.is_given x.1 c)) (s.bind_creation x.1 (s.drop_creation maker serial c)) d c
      (λ e. r.compose c (s.drop_creation maker serial c) (s.bind_creation x.1 (s.drop_creation maker serial c)) (r.unmade maker serial c) (r.bound x.1 (s.drop_creation maker serial c) (both (s.is_served setup.authorities x.1.name) (not (s.is_given x.1 c)) e).0)) is

  refuse : (maker : Name) (serial : ℕ) (o : Option (Name × Creation)) (c d : Configuration) → s.refuse maker serial o c ≡ Some d → R c d
  refuse maker serial None c d is = absurd cc
  refuse maker serial (Some x) c d is =
      chosen (s.is_given x.1 c) (s.add_fault NameTaken maker serial (s.drop_creation maker serial c)) d c
      (λ e. r.compose c (s.drop_creation maker serial c) (s.add_fault NameTaken maker serial (s.drop_creation maker serial c)) (r.unmade maker serial c) (r.failed NameTaken maker serial (s.drop_creation maker serial c))) is

  pub related : (p : Meaning) (step : Step) (c d : Configuration) → s.step p setup c step ≡ Some d → R c d
  unfolding s.step
  related p (Handle maker serial fresh) c d is =
      let dropped : Configuration = s.drop_message maker serial c in
      if_ready (s.pending maker serial c) (λ m. s.handle_message p.outcome maker serial fresh m c) c d
      (λ m e. r.compose c dropped d (r.dropped maker serial c) (if_actor p.outcome maker serial fresh m (s.actor_at m.target c) dropped d e)) is
  related p (Print maker serial) c d is =
      let dropped : Configuration = s.drop_message maker serial c in
      if_ready (s.pending maker serial c) (λ m. s.print_message maker serial m c) c d
      (λ m e. r.compose c dropped d (r.dropped maker serial c) (print_to m.target m dropped d e)) is
  related p (Bind maker serial) c d is = bind maker serial (fm.get c.creations (made_key maker serial)) c d is
  related p (Refuse maker serial) c d is = refuse maker serial (fm.get c.creations (made_key maker serial)) c d is
  related p (Post number to behavior handler args) c d is =
      chosen (p.fits_call behavior handler args && fits_post c.posted number to behavior args) (s.after_post number to behavior handler args c) d c (λ e. r.posted number to behavior handler args c) is
