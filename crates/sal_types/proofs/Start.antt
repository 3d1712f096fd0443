-- A typed program has a start, whose numbers are small.
use Rattle.std.proofs.Common.{◌≡◌, ℕ, ◌+◌, ◌<◌, Bool, true, false, not, ◌||◌, cond, suc, List, [], ◌∷◌, length, filter_map, slice_get, Option, Some, None, sym, ap, ◌∙◌, refl, arith}
use Rattle.std.specs.List.{list_any, position, position_or_len}
use Rattle.std.proofs.lemmas.Bool.{lt-ltb}
use Rattle.std.proofs.lemmas.List.{length-map}
use Rattle.sal_ast.specs.declared.program.Behavior.{Behavior}
use Rattle.sal_ast.specs.declared.program.Program.{Program}
use Rattle.sal_ast.specs.Members.{Handler, as_handler, handlers_of, handlers_at}
use Rattle.sal_sorts.specs.Refusals.{fine}
use Rattle.sal_types.specs.Members.{handler_names}
use Rattle.sal_types.specs.Programs.{IsTyped, start_rules}
use Rattle.sal_types.specs.Signatures.{is_act, has_act, start_numbers}
use Rattle.sal_types.specs.code.Checks.{check_behaviors}
use Rattle.sal_types.proofs.Accepted.{checked, came, holds, behaviors_few, behavior_checked, handlers_few}
use Rattle.sal_types.proofs.MemberChecks.{check-program}

-- an item at this place passes the test
pub record PassesAt {X : Type 0} (p : X → Bool) (xs : List X) (n : ℕ) : Type 0 where
  pub item : X
  pub there : slice_get xs n ≡ Some item
  pub passes : p item ≡ true
  pub within : n < length xs

at_first : {X : Type 0} (p : X → Bool) (x : X) (xs : List X) (n : ℕ) → p x ≡ true → n ≡ 0 → PassesAt p (x ∷ xs) n
at_first p x xs n e z = record { item = x; there = ap (slice_get (x ∷ xs)) z; passes = e; within = omega arith }

at_next : {X : Type 0} (p : X → Bool) (x : X) (xs : List X) (n k : ℕ) → PassesAt p xs k → n ≡ suc k → PassesAt p (x ∷ xs) n
at_next p x xs n k h z = record { item = h.item; there = ap (slice_get (x ∷ xs)) z ∙ h.there; passes = h.passes; within = let w : k < length xs = h.within in omega arith }

place_now : (b : Bool) (k : ℕ) → b ≡ true → cond (not b) (1 + k) 0 ≡ 0
place_now true k e = refl
place_now false k e = absurd cc

place_later : (b : Bool) (k : ℕ) → b ≡ false → cond (not b) (1 + k) 0 ≡ suc k
place_later true k e = absurd cc
place_later false k e = omega arith

rest_of : (b c : Bool) → (b || c) ≡ true → b ≡ false → c ≡ true
rest_of true c h e = absurd cc
rest_of false c h e = h

pub first_place : {X : Type 0} (p : X → Bool) (xs : List X) → list_any p xs ≡ true → PassesAt p xs (position_or_len p xs)
first_place p [] h = absurd cc
first_place {X} p (x ∷ xs) h = here (p x) refl (λ k. first_place p xs k)
  where
    here : (b : Bool) → p x ≡ b → (list_any p xs ≡ true → PassesAt p xs (position_or_len p xs)) → PassesAt p (x ∷ xs) (position_or_len p (x ∷ xs))
    here true e later = at_first p x xs (position_or_len p (x ∷ xs)) e (place_now (p x) (position_or_len p xs) e)
    here false e later = at_next p x xs (position_or_len p (x ∷ xs)) (position_or_len p xs) (later (rest_of (p x) (list_any p xs) h e)) (place_later (p x) (position_or_len p xs) e)

pub found : {X : Type 0} (p : X → Bool) (xs : List X) → position_or_len p xs < length xs → position p xs ≡ Some (position_or_len p xs)
found {X} p xs h = ap (λ b. cond b (Some (position_or_len p xs)) None) (lt-ltb (position_or_len p xs) (length xs) h)

-- the start's numbers
pub record HasStart (p : Program) : Type 0 where
  pub behavior : ℕ
  pub handler : ℕ
  pub is : start_numbers p ≡ Some (behavior, handler)
  pub behavior_small : behavior < 64
  pub handler_small : handler < 64

pub at_behavior : (behaviors : List Behavior) (n : ℕ) (b : Behavior) → slice_get behaviors n ≡ Some b → handlers_at behaviors (Some n) ≡ filter_map as_handler b.members
unfolding handlers_of
at_behavior behaviors n b h = rw h refl

pub has_start : (p : Program) → IsTyped p → HasStart p
unfolding start_numbers has_act handlers_of
has_start p h =
    let parts = came (check_behaviors p.behaviors [] p.behaviors) (λ u. fine (start_rules p.behaviors)) tt (sym (check-program p) ∙ checked p h) in
    let any : list_any has_act p.behaviors ≡ true = holds 12 0 (list_any has_act p.behaviors) parts.2 in
    let n : ℕ = position_or_len has_act p.behaviors in
    let b = first_place has_act p.behaviors any in
    let k : ℕ = position_or_len is_act (filter_map as_handler b.item.members) in
    let act = first_place is_act (filter_map as_handler b.item.members) b.passes in
    let few = behaviors_few p.behaviors [] p.behaviors (omega arith) parts.1 in
    let few_handlers = handlers_few p.behaviors b.item.name.text [] b.item.members (omega arith) (behavior_checked p.behaviors [] p.behaviors n b.item parts.1 b.there) in
    let names : length (handler_names b.item.members) ≡ length (filter_map as_handler b.item.members) = length-map (filter_map as_handler b.item.members) (λ (x : Handler). x.name) in
    let in_behaviors : n < length p.behaviors = b.within in
    let in_handlers : k < length (filter_map as_handler b.item.members) = act.within in
    record {
      behavior = n;
      handler = k;
      is = rw (found has_act p.behaviors b.within) (rw (at_behavior p.behaviors n b.item b.there) (rw (found is_act (filter_map as_handler b.item.members) act.within) refl));
      behavior_small = omega (arith, few);
      handler_small = omega (arith, few_handlers, names);
    }

first_number : Option (ℕ × ℕ) → ℕ
first_number None = 0
first_number (Some n) = n.0

second_number : Option (ℕ × ℕ) → ℕ
second_number None = 0
second_number (Some n) = n.1

pub start_is_there : (p : Program) → IsTyped p → start_numbers p ≡ None → ⊥
start_is_there p h e = let s = has_start p h in let both : Some (s.behavior, s.handler) ≡ None = sym s.is ∙ e in absurd cc

pub behavior_is_small : (p : Program) (b h : ℕ) → IsTyped p → start_numbers p ≡ Some (b, h) → b < 65536
unfolding first_number
behavior_is_small p b h t e = let s = has_start p t in let same : s.behavior ≡ b = ap first_number (sym s.is ∙ e) in omega (arith, s.behavior_small)

pub handler_is_small : (p : Program) (b h : ℕ) → IsTyped p → start_numbers p ≡ Some (b, h) → h < 65536
unfolding second_number
handler_is_small p b h t e = let s = has_start p t in let same : s.handler ≡ h = ap second_number (sym s.is ∙ e) in omega (arith, s.handler_small)

pub ruleset small = (start_is_there, behavior_is_small, handler_is_small)
