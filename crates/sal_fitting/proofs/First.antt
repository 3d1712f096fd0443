-- The first configuration is kept, and a run goes step by step.
use Rattle.std.proofs.Common.{◌≡◌, inl, inr, ℕ, Bool, true, false, cond, ◌||◌, List, [], ◌∷◌, Option, Some, None, is_some, refl, sym, ap, subst, ◌∙◌, arith}
use Rattle.std.specs.Prelude.{option_and_then}
use Rattle.std.proofs.lemmas.Cmp.{nat_list_cmp_total}
use Rattle.std.specs.FinMap as fm
use Rattle.std.specs.FinSet as fs
use Rattle.sal_value.specs.declared.value.Value.{Value}
use Rattle.sal_mail.specs.declared.effects.Actor.{Actor}
use Rattle.sal_handler.specs.declared.turn.Began.{Began}
use Rattle.sal_handler.specs.declared.turn.Began.TheVariants as began
use Rattle.sal_handler.specs.Calls.{Meaning}
use Rattle.sal_source.specs.declared.state.Setup.{Setup}
use Rattle.sal_source.specs.declared.state.Step.{Step}
use Rattle.sal_source.specs.Table.{TableKey, key_eq, table_of, keys_of}
use Rattle.sal_source.specs.Keys.{message_key, actor_key}
use Rattle.sal_source.specs.Configuration.{Configuration, start_actor, act_message, first_by}
use Rattle.sal_source.specs.Step.{step}
use Rattle.sal_source.specs.Run.{steps}
use Rattle.sal_source.specs.Once.{next_serial}
use Rattle.sal_source.proofs.Tables.{words_anti, words_tells, get-table_of}
use Rattle.sal_source.proofs.Given.{contains_keys, keys_none}
use Rattle.sal_source.proofs.Once.{Each, each_none}
use Rattle.sal_source.proofs.Keeping.{Actors, same_made, Fits, IsKeyed, KeptIn}

-- ---- the first configuration

pub each_of_one : {X : Type 0} (Q : TableKey → X → Type 0) (key : X → TableKey) (x : X) → Q (key x) x → Each Q (table_of key (x ∷ []))
each_of_one Q key x h = record { at = λ q y is. by q y (sym (get-table_of key (x ∷ []) q) ∙ is) }
  where
    by : (q : TableKey) (y : _) → cond (key_eq q (key x)) (Some x) None ≡ Some y → Q q y
    by q y is =
        elim (words_tells q (key x)) [
          | inl a ↦ let same : x ≡ y = let e : Some x ≡ Some y = sym (ap (λ b. cond b (Some x) None) a.0) ∙ is in cc in subst (Q q) same (subst (λ z. Q z x) (sym a.1) h)
          | inr a ↦ let e : None ≡ Some y = sym (ap (λ b. cond b (Some x) None) a.0) ∙ is in absurd cc
        ]

name_of_one : {X : Type 0} (key : X → TableKey) (x : X) → fs.from_list (key x ∷ []) ≡ keys_of (table_of key (x ∷ []))
name_of_one key x = fs.same_set nat_list_cmp_total words_anti _ _ (λ q. fs.contains-from_list nat_list_cmp_total (key x ∷ []) q ∙ by (key_eq q (key x)) ∙ sym (contains_keys (table_of key (x ∷ [])) q ∙ ap is_some (get-table_of key (x ∷ []) q)))
  where
    by : (b : Bool) → (b || false) ≡ is_some (cond b (Some x) None)
    by true = refl
    by false = refl

pub kept_first : (words : List Value) (b : Began) → KeptIn (first_by words b)
kept_first words (began.Trap kind) = record {
  named = sym (keys_none (Actor × ℕ));
  keyed = each_none IsKeyed;
  waits = record { messages = each_none (λ key m. Fits fm.empty 0 key m.reply); joins = each_none (λ key j. Fits fm.empty 0 key j.1.reply) };
}
kept_first words (began.Actor behavior handler fields) =
    let actors : Actors = table_of actor_key (start_actor behavior fields ∷ []) in
    record {
      named = name_of_one actor_key (start_actor behavior fields);
      keyed = each_of_one IsKeyed actor_key (start_actor behavior fields) (record { keyed = refl; actor = tt });
      waits = record {
        messages = each_of_one (λ key m. Fits actors 0 key m.reply) message_key (act_message words behavior handler) (record {
          owed = tt;
          number = λ m s same.
              let p = same_made (act_message words behavior handler).maker m 0 s same in
              let next : next_serial actors 0 m ≡ 1 = ap (next_serial actors 0) (sym p.0) in
              omega (arith, p.1, next);
        });
        joins = each_none (λ key j. Fits actors 0 key j.1.reply);
      };
    }

-- ---- runs

module _ (p : Meaning) (setup : Setup) where
  pub record Led (s : Step) (ss : List Step) (c end : Configuration) : Type 0 where
    pub next : Configuration
    pub is : step p setup c s ≡ Some next
    pub rest : steps p setup next ss ≡ Some end

  pub led : (s : Step) (ss : List Step) (c end : Configuration) → steps p setup c (s ∷ ss) ≡ Some end → Led s ss c end
  unfolding steps
  led s ss c end e = by (step p setup c s) refl e
    where
      by : (o : Option Configuration) → step p setup c s ≡ o → option_and_then (λ d. steps p setup d ss) o ≡ Some end → Led s ss c end
      by None is e = absurd cc
      by (Some d) is e = record { next = d; is = is; rest = e }
