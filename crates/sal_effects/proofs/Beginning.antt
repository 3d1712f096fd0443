-- How programs begin.
use Rattle.std.proofs.Common.{◌≡◌, ℕ, ◌+◌, ◌<◌, Bool, true, false, if◌then◌else◌, List, [], ◌∷◌, Option, Some, None, Ok, Err, refl, subst, arith}
use Rattle.std.specs.Prelude.{slice_get, nat_lt}
use Rattle.std.specs.List.{position}
use Rattle.std.proofs.lemmas.Bool.{ltb-true}
use Rattle.sal_value.specs.declared.value.Value.{Value}
use Rattle.sal_ast.specs.declared.program.Behavior.{Behavior}
use Rattle.sal_ast.specs.declared.program.Program.{Program}
use Rattle.sal_ast.specs.Members.{handlers_of, valid_number}
use Rattle.sal_handler.specs.declared.turn.Began.TheVariants as began
use Rattle.sal_handler.specs.Evaluation.{OrTrap}
use Rattle.sal_handler.specs.Handler as h
use Rattle.sal_handler.specs.Handler.{begin}
use Rattle.sal_handler.specs.WellFormed.{EachOf}
use Rattle.sal_handler.proofs.Induction.{IfAny}
use Rattle.sal_effects.proofs.Changes.{Law}
use Rattle.sal_effects.proofs.Values.{Able}
use Rattle.sal_effects.proofs.Handlers.{ProgramOk, BehaviorOk, behaviors_of, start_kept, each_got}

-- both numbers are below the reserved one
abbrev AreLow : ℕ × ℕ → Type 0
AreLow at = (at.0 < 65535) × (at.1 < 65535)

valid_low : (o : Option ℕ) → IfAny (λ n. n < 65535) (valid_number o)
valid_low None = tt
valid_low (Some n) = at (nat_lt n 65535) refl
  where
    at : (b : Bool) → nat_lt n 65535 ≡ b → IfAny (λ n. n < 65535) (if b then Some n else None)
    at true e = ltb-true n 65535 e
    at false e = tt

at_low : (n : ℕ) (o : Option ℕ) (later : Option (ℕ × ℕ)) → n < 65535 → IfAny (λ k. k < 65535) o → IfAny AreLow later → IfAny AreLow (h.start_at n o later)
at_low n None later low o l = l
at_low n (Some k) later low o l = (low, o)

from_low : (n : ℕ) (bs : List Behavior) → IfAny AreLow (h.start_from n bs)
from_low n [] = tt
from_low n (b ∷ bs) = at (nat_lt n 65535) refl (from_low (n + 1) bs)
  where
    at : (c : Bool) → nat_lt n 65535 ≡ c → IfAny AreLow (h.start_from (n + 1) bs) → IfAny AreLow (if c then h.start_at n (h.act_in b) (h.start_from (n + 1) bs) else None)
    at true e later = at_low n (h.act_in b) (h.start_from (n + 1) bs) (ltb-true n 65535 e) (valid_low (position h.is_act (handlers_of b))) later
    at false e later = tt

-- what is known of the start
pub record Starts (V : Value → Type 0) (behavior handler : ℕ) (fields : List Value) : Type 0 where
  pub behavior_low : behavior < 65535
  pub handler_low : handler < 65535
  pub held : EachOf V fields

module _ (law : Law) (alone : (behaviors : List Behavior) (n : ℕ) → Able law (h.constructor_context behaviors n)) (p : Program) (ok : ProgramOk law.values.Literal law.Whole p) where
  abbrev V : Value → Type 0
  V = law.values.Holds

  fields_kept : (o : Option Behavior) → IfAny (BehaviorOk law.values.Literal law.Whole) o → (n : ℕ) (fields : List Value) → h.start_fields o (h.constructor_context p.behaviors n) ≡ Ok fields → EachOf V fields
  fields_kept None k n fields e = let same : [] ≡ fields = cc in subst (EachOf V) same tt
  fields_kept (Some b) k n fields e = start_kept law alone b k p.behaviors n fields e

  with_start : (at : ℕ × ℕ) → AreLow at → (o : OrTrap (List Value)) → ((fields : List Value) → o ≡ Ok fields → EachOf V fields) → (behavior handler : ℕ) (fields : List Value) → h.begin_with at.0 at.1 o ≡ began.Actor behavior handler fields → Starts V behavior handler fields
  with_start at low (Ok vs) good behavior handler fields e =
      let b : at.0 ≡ behavior = cc in
      let n : at.1 ≡ handler = cc in
      let f : vs ≡ fields = cc in
      record { behavior_low = omega (arith, b, low.0); handler_low = omega (arith, n, low.1); held = subst (EachOf V) f (good vs refl) }
  with_start at low (Err k) good behavior handler fields e = absurd cc

  begun : (o : Option (ℕ × ℕ)) → IfAny AreLow o → (behavior handler : ℕ) (fields : List Value) → h.begin_at o p ≡ began.Actor behavior handler fields → Starts V behavior handler fields
  begun None low behavior handler fields e = absurd cc
  begun (Some at) low behavior handler fields e =
      with_start at low (h.start_fields (slice_get p.behaviors at.0) (h.constructor_context p.behaviors at.0))
      (λ vs is. fields_kept (slice_get p.behaviors at.0) (each_got (BehaviorOk law.values.Literal law.Whole) p.behaviors at.0 (behaviors_of law.values.Literal law.Whole p ok)) at.0 vs is) behavior handler fields e

  pub begins : (behavior handler : ℕ) (fields : List Value) → begin p ≡ began.Actor behavior handler fields → Starts V behavior handler fields
  unfolding begin h.start_of
  begins behavior handler fields e = begun (h.start_of p) (from_low 0 p.behaviors) behavior handler fields e
