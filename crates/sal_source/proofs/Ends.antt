-- When no step but a post is possible.
use Rattle.std.proofs.Common.{◌≡◌, ℕ, Bool, true, false, cond, ◌&&◌, ◌||◌, not, List, [], ◌∷◌, Option, Some, None, is_some, refl, ap, sym, ◌∙◌, subst, true≢false}
use Rattle.std.specs.Prelude.{IsTrue, ◌↔◌, IfSome, if◌then◌else◌}
use Rattle.std.specs.List.{list_any}
use Rattle.std.specs.FinMap as fm
use Rattle.std.specs.FinSet as fs
use Rattle.sal_value.specs.declared.name.Name.{Name}
use Rattle.sal_value.specs.declared.name.Name.TheVariants as name
use Rattle.sal_value.specs.declared.name.Authority.{Authority}
use Rattle.sal_value.specs.declared.value.Value.TheVariants.{Null}
use Rattle.sal_mail.specs.declared.message.Message.{Message}
use Rattle.sal_mail.specs.declared.message.Target.{Target}
use Rattle.sal_mail.specs.declared.message.Target.TheVariants as target
use Rattle.sal_mail.specs.declared.effects.Actor.{Actor}
use Rattle.sal_mail.specs.declared.effects.Creation.{Creation}
use Rattle.sal_mail.specs.declared.fault.Trap.TheVariants.{ZeroDivisor}
use Rattle.sal_mail.specs.declared.fault.FaultKind.TheVariants.{NameTaken}
use Rattle.sal_mail.specs.Message.{is_ready}
use Rattle.sal_handler.specs.Calls.{Call, Meaning}
use Rattle.sal_handler.specs.declared.turn.Outcome.{Outcome}
use Rattle.sal_handler.specs.declared.turn.Outcome.TheVariants as outcome
use Rattle.sal_handler.specs.declared.turn.Began.TheVariants as began
use Rattle.sal_source.specs.declared.state.Setup.{Setup}
use Rattle.sal_source.specs.declared.state.Step.TheVariants as step
use Rattle.sal_source.specs.Table.{TableKey, key_eq, Table, table_of, keys_of}
use Rattle.sal_source.specs.Keys.{name_key, made_key, message_key, creation_key}
use Rattle.sal_source.specs.code.Lists.{first_at_key, AreDistinct, AnyOf}
use Rattle.sal_source.specs.Configuration.{Configuration}
use Rattle.sal_source.specs.Give.{give}
use Rattle.sal_source.specs.Step as s
use Rattle.sal_source.specs.code.Possible.{has_receiver, is_possible, is_decided}
use Rattle.sal_source.proofs.Tables.{words_refl, words_apart, get-table_of}
use Rattle.sal_source.proofs.Given.{contains_keys}
use Rattle.sal_source.proofs.Played.{ready}
use Rattle.sal_source.proofs.Handled.{bind_done, refuse_done}

-- ---- lists and tables

or_first : (a b : Bool) → (a || b) ≡ false → a ≡ false
or_first true b e = e
or_first false b e = refl

or_second : (a b : Bool) → (a || b) ≡ false → b ≡ false
or_second true b e = absurd (true≢false e)
or_second false b e = e

module _ {X : Type 0} (key : X → TableKey) (t : X → Bool) where
  found_at : (q : TableKey) (x : X) (xs : List X) (b : Bool) → t x ≡ false → IfSome (first_at_key key q xs) (λ m. t m ≡ false) → IfSome (cond b (Some x) (first_at_key key q xs)) (λ m. t m ≡ false)
  found_at q x xs true e more = e
  found_at q x xs false e more = more

  found_false : (q : TableKey) (xs : List X) → list_any t xs ≡ false → IfSome (first_at_key key q xs) (λ m. t m ≡ false)
  found_false q [] e = tt
  found_false q (x ∷ xs) e = found_at q x xs (key_eq q (key x)) (or_first (t x) (list_any t xs) e) (found_false q xs (or_second (t x) (list_any t xs) e))

  record Passes (xs : List X) : Type 0 where
    m : X
    there : first_at_key key (key m) xs ≡ Some m
    passes : t m ≡ true

  passes_at : (x : X) (xs : List X) (b : Bool) → t x ≡ b → AreDistinct key (x ∷ xs) → (list_any t xs ≡ true → Passes xs) → (b || list_any t xs) ≡ true → Passes (x ∷ xs)
  passes_at x xs true e d more h = record { m = x; there = ap (λ b. cond b (Some x) (first_at_key key (key x) xs)) (words_refl (key x)); passes = e }
  passes_at x xs false e d more h =
      let p : Passes xs = more h in
      record { m = p.m; there = ap (λ b. cond b (Some x) (first_at_key key (key p.m) xs)) (words_apart (key p.m) (key x) (λ same. differ p same)) ∙ p.there; passes = p.passes }
    where
      differ : (p : Passes xs) → key p.m ≡ key x → ⊥
      differ p same = absurd (let f : None ≡ Some p.m = sym d.0 ∙ ap (λ k. first_at_key key k xs) (sym same) ∙ p.there in cc)

  found_true : (xs : List X) → AreDistinct key xs → list_any t xs ≡ true → Passes xs
  found_true [] d h = absurd (true≢false (sym h))
  found_true (x ∷ xs) d h = passes_at x xs (t x) refl d (found_true xs d.1) h

  pub any_of : (xs : List X) (table : Table X) (b : Bool) → AreDistinct key xs → table_of key xs ≡ table → b ≡ list_any t xs → AnyOf key t table b
  any_of xs table true d e h =
      let p : Passes xs = found_true xs d (sym h) in
      (p.m, (ap (λ u. fm.get u (key p.m)) (sym e) ∙ get-table_of key xs (key p.m) ∙ p.there, p.passes))
  any_of xs table false d e h = λ q. let P : Option X → Type 0 = λ o. IfSome o (λ m. t m ≡ false) in subst P (sym (get-table_of key xs q) ∙ ap (λ u. fm.get u q) e) (found_false q xs (sym h))

-- ---- no step is possible

module _ (c : Configuration) where
  no_taker : (outcomes : Call → Outcome) (maker : Name) (serial : ℕ) (fresh : List Name) (m : Message) (to : Target) → m.target ≡ to → has_receiver c.actors to ≡ false → s.handle_message outcomes maker serial fresh m c ≡ None
  no_taker outcomes maker serial fresh m target.Output e f = absurd (true≢false f)
  no_taker outcomes maker serial fresh m (target.Actor n) e f = rw (e, none (fm.get c.actors (name_key n)) f) refl
    where
      none : (o : Option (Actor × ℕ)) → is_some o ≡ false → o ≡ None
      none None f = refl
      none (Some a) f = absurd (true≢false f)

  no_output : (maker : Name) (serial : ℕ) (m : Message) (to : Target) → m.target ≡ to → has_receiver c.actors to ≡ false → s.print_message maker serial m c ≡ None
  no_output maker serial m target.Output e f = absurd (true≢false f)
  no_output maker serial m (target.Actor n) e f = rw e refl

  none_handled : (outcomes : Call → Outcome) (maker : Name) (serial : ℕ) (fresh : List Name) (o : Option Message) → IfSome o (λ m. is_possible c.actors m ≡ false) → s.if_ready o (λ m. s.handle_message outcomes maker serial fresh m c) ≡ None
  none_handled outcomes maker serial fresh None h = refl
  none_handled outcomes maker serial fresh (Some m) h = at (is_ready m) refl h
    where
      at : (b : Bool) → is_ready m ≡ b → (b && has_receiver c.actors m.target) ≡ false → s.if_ready (Some m) (λ m. s.handle_message outcomes maker serial fresh m c) ≡ None
      at true r e = rw r (no_taker outcomes maker serial fresh m m.target refl e)
      at false r e = rw r refl

  none_printed : (maker : Name) (serial : ℕ) (o : Option Message) → IfSome o (λ m. is_possible c.actors m ≡ false) → s.if_ready o (λ m. s.print_message maker serial m c) ≡ None
  none_printed maker serial None h = refl
  none_printed maker serial (Some m) h = at (is_ready m) refl h
    where
      at : (b : Bool) → is_ready m ≡ b → (b && has_receiver c.actors m.target) ≡ false → s.if_ready (Some m) (λ m. s.print_message maker serial m c) ≡ None
      at true r e = rw r (no_output maker serial m m.target refl e)
      at false r e = rw r refl

  module _ (given : c.given ≡ keys_of c.actors) where
    given_is : (x : Name × Creation) → s.is_given x.1 c ≡ fm.contains_key c.actors (name_key (name.Uan x.1.name))
    given_is x = ap (λ g. fs.contains g (name_key (name.Uan x.1.name))) given ∙ contains_keys c.actors (name_key (name.Uan x.1.name))

    none_bound : (authorities : List Authority) (maker : Name) (serial : ℕ) (o : Option (Name × Creation)) → IfSome o (λ x. is_decided authorities c.actors x ≡ false) → s.bind authorities maker serial o c ≡ None
    none_bound authorities maker serial None h = refl
    none_bound authorities maker serial (Some x) h =
        ap (λ b. if b && not (s.is_given x.1 c) then Some (s.bind_creation x.1 (s.drop_creation maker serial c)) else None) (or_second (fm.contains_key c.actors (name_key (name.Uan x.1.name))) _ h)

    none_refused : (authorities : List Authority) (maker : Name) (serial : ℕ) (o : Option (Name × Creation)) → IfSome o (λ x. is_decided authorities c.actors x ≡ false) → s.refuse maker serial o c ≡ None
    none_refused authorities maker serial None h = refl
    none_refused authorities maker serial (Some x) h =
        ap (λ b. if b then Some (s.add_fault NameTaken maker serial (s.drop_creation maker serial c)) else None) (given_is x ∙ or_first (fm.contains_key c.actors (name_key (name.Uan x.1.name))) _ h)

    pub at_end : (authorities : List Authority) → AnyOf message_key (is_possible c.actors) c.waiting.messages false → AnyOf creation_key (is_decided authorities c.actors) c.creations false → s.IsAtEnd authorities c
    unfolding s.step
    at_end authorities ms xs p setup same (step.Handle maker serial fresh) e = none_handled p.outcome maker serial fresh (fm.get c.waiting.messages (made_key maker serial)) (ms (made_key maker serial))
    at_end authorities ms xs p setup same (step.Print maker serial) e = none_printed maker serial (fm.get c.waiting.messages (made_key maker serial)) (ms (made_key maker serial))
    at_end authorities ms xs p setup same (step.Bind maker serial) e =
        let P : List Authority → Type 0 = λ l. IfSome (fm.get c.creations (made_key maker serial)) (λ x. is_decided l c.actors x ≡ false) in
        none_bound setup.authorities maker serial (fm.get c.creations (made_key maker serial)) (subst P (sym same) (xs (made_key maker serial)))
    at_end authorities ms xs p setup same (step.Refuse maker serial) e = none_refused authorities maker serial (fm.get c.creations (made_key maker serial)) (xs (made_key maker serial))
    at_end authorities ms xs p setup same (step.Post number to behavior handler args) e = absurd (true≢false e)

  -- ---- some step is possible

  and_first : (a b : Bool) → (a && b) ≡ true → a ≡ true
  and_first true b e = refl
  and_first false b e = e

  and_second : (a b : Bool) → (a && b) ≡ true → b ≡ true
  and_second true b e = e
  and_second false b e = absurd (true≢false (sym e))

  -- these naming services, and no words
  abbrev silent : List Authority → Setup
  silent authorities = record { authorities = authorities; words = [] }

  -- a program whose handlers trap
  abbrev trapping : Meaning
  trapping = record { outcome = λ call. outcome.Trap ZeroDivisor; begin = began.Trap ZeroDivisor; fits_call = λ behavior handler args. false; fits_state = λ behavior fields. false }

  some_none : {A : Type 0} (o : Option A) (a : A) → o ≡ Some a → o ≡ None → ⊥
  some_none o a e f = absurd (let g : Some a ≡ None = sym e ∙ f in cc)

  handled_none : (maker : Name) (serial : ℕ) (m : Message) (a : Actor × ℕ) → s.handle_by_actor trapping.outcome maker serial [] m a (s.drop_message maker serial c) ≡ None → ⊥
  handled_none maker serial m a e = at (s.understands a.0 m) e
    where
      at : (b : Bool) → (if b then s.after_outcome (outcome.Trap ZeroDivisor) maker serial [] m a.0 (s.drop_message maker serial c) else s.fault_no_handler maker serial [] c) ≡ None → ⊥
      at true e = absurd (cc)
      at false e = absurd (cc)

  takes_on : (authorities : List Authority) (m : Message) (to : Target) → m.target ≡ to → fm.get c.waiting.messages (message_key m) ≡ Some m → is_ready m ≡ true → has_receiver c.actors to ≡ true → s.IsAtEnd authorities c → ⊥
  unfolding s.step
  takes_on authorities m target.Output e got r h end =
      some_none _ (give m.reply Null (s.add_output (s.message_text m) (s.drop_message m.maker m.serial c)))
      (ready (fm.get c.waiting.messages (message_key m)) m (λ m'. s.print_message m.maker m.serial m' c) got r ∙ rw e refl) (end trapping (silent authorities) refl (step.Print m.maker m.serial) refl)
  takes_on authorities m (target.Actor n) e got r h end = there (fm.get c.actors (name_key n)) refl h
    where
      there : (o : Option (Actor × ℕ)) → fm.get c.actors (name_key n) ≡ o → is_some o ≡ true → ⊥
      there None g h = true≢false (sym h)
      there (Some a) g h =
          handled_none m.maker m.serial m a
          (sym (ready (fm.get c.waiting.messages (message_key m)) m (λ m'. s.handle_message trapping.outcome m.maker m.serial [] m' c) got r ∙ rw (e, g) refl) ∙ end trapping (silent authorities) refl (step.Handle m.maker m.serial []) refl)

  pub message_goes : (authorities : List Authority) → AnyOf message_key (is_possible c.actors) c.waiting.messages true → s.IsAtEnd authorities c → ⊥
  message_goes authorities p end = takes_on authorities p.0 p.0.target refl p.1.0 (and_first (is_ready p.0) _ p.1.1) (and_second (is_ready p.0) _ p.1.1) end

  module _ (given : c.given ≡ keys_of c.actors) where
    pub creation_goes : (authorities : List Authority) → AnyOf creation_key (is_decided authorities c.actors) c.creations true → s.IsAtEnd authorities c → ⊥
    unfolding s.step
    creation_goes authorities p end = at (fm.contains_key c.actors (name_key (name.Uan p.0.1.name))) refl p.1.1
      where
        at : (b : Bool) → fm.contains_key c.actors (name_key (name.Uan p.0.1.name)) ≡ b → (b || s.is_served authorities p.0.1.name) ≡ true → ⊥
        at true g h = some_none _ _ (refuse_done p.0.0 p.0.1.serial c p.0 (sym p.1.0) (given_is given p.0 ∙ g)) (end trapping (silent authorities) refl (step.Refuse p.0.0 p.0.1.serial) refl)
        at false g h = some_none _ _ (bind_done authorities p.0.0 p.0.1.serial c p.0 (sym p.1.0) h (given_is given p.0 ∙ g)) (end trapping (silent authorities) refl (step.Bind p.0.0 p.0.1.serial) refl)

-- ---- what the code finds

pub not_final : (c : Configuration) (authorities : List Authority) → AnyOf message_key (is_possible c.actors) c.waiting.messages true → IsTrue false ↔ s.IsAtEnd authorities c
not_final c authorities p = (λ f. absurd (true≢false (sym f)), λ end. absurd (message_goes c authorities p end))

pub final_is : (c : Configuration) (authorities : List Authority) (b : Bool) → c.given ≡ keys_of c.actors → AnyOf message_key (is_possible c.actors) c.waiting.messages false → AnyOf creation_key (is_decided authorities c.actors) c.creations b → IsTrue (not b) ↔ s.IsAtEnd authorities c
final_is c authorities true given ms xs = (λ f. absurd (true≢false (sym f)), λ end. absurd (creation_goes c given authorities xs end))
final_is c authorities false given ms xs = (λ _. at_end c given authorities ms xs, λ _. refl)
