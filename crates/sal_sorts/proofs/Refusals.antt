-- The first violation of several nodes, from those of each.
use Rattle.std.proofs.Common.{◌≡◌, ℕ, Bool, true, false, List, [], ◌∷◌, ◌++◌, Ok, Err, refl, ap, ◌∙◌}
use Rattle.sal_sorts.specs.Verdicts.{Violation, Verdict, Good, Bad, ◌also◌, good_unless, node, map_verdict, fold_nodes, bind_verdict, rule}
use Rattle.sal_sorts.specs.Refusals.{first, fine, check_rule, and_then}

pub fine_rule : (number at : ℕ) (holds : Bool) → fine (rule number at holds) ≡ check_rule number at holds
fine_rule number at true = refl
fine_rule number at false = refl

pub fine_more : (rs qs : List Violation) → fine (rs ++ qs) ≡ and_then (fine rs) (λ u. fine qs)
fine_more [] qs = refl
fine_more (v ∷ vs) qs = refl

pub first_good_unless : {A : Type 0} (rs : List Violation) (a : A) → first (good_unless rs a) ≡ and_then (fine rs) (λ u. Ok a)
first_good_unless [] a = refl
first_good_unless (v ∷ vs) a = refl

pub first_also : {A B : Type 0} (v : Verdict A) (w : Verdict B) → first (v also w) ≡ and_then (first v) (λ a. and_then (first w) (λ b. Ok (a, b)))
first_also (Good a) (Good b) = refl
first_also (Good a) (Bad w ws) = refl
first_also (Bad v vs) (Good b) = refl
first_also (Bad v vs) (Bad w ws) = refl

pub first_bind_verdict : {A B : Type 0} (v : Verdict A) (f : A → Verdict B) → first (bind_verdict v f) ≡ and_then (first v) (λ a. first (f a))
first_bind_verdict (Good a) f = refl
first_bind_verdict (Bad v vs) f = refl

pub first_map_verdict : {A B : Type 0} (v : Verdict A) (g : A → B) → first (map_verdict g v) ≡ and_then (first v) (λ a. Ok (g a))
first_map_verdict (Good a) g = refl
first_map_verdict (Bad v vs) g = refl

pub node1 : {A B : Type 0} (v : Verdict A) (rs : A → List Violation) (g : A → B) → first (node v rs g) ≡ and_then (first v) (λ a. and_then (fine (rs a)) (λ u. Ok (g a)))
node1 (Good a) rs g = first_good_unless (rs a) (g a)
node1 (Bad v vs) rs g = refl

pub node2 : {A B C : Type 0} (v : Verdict A) (w : Verdict B) (rs : A × B → List Violation) (g : A × B → C)
    → first (node (v also w) rs g) ≡ and_then (first v) (λ a. and_then (first w) (λ b. and_then (fine (rs (a, b))) (λ u. Ok (g (a, b)))))
node2 (Good a) (Good b) rs g = first_good_unless (rs (a, b)) (g (a, b))
node2 (Good a) (Bad w ws) rs g = refl
node2 (Bad v vs) (Good b) rs g = refl
node2 (Bad v vs) (Bad w ws) rs g = refl

pub node3 : {A B C D : Type 0} (v : Verdict A) (w : Verdict B) (x : Verdict C) (rs : (A × B) × C → List Violation) (g : (A × B) × C → D)
    → first (node (v also w also x) rs g) ≡ and_then (first v) (λ a. and_then (first w) (λ b. and_then (first x) (λ c. and_then (fine (rs ((a, b), c))) (λ u. Ok (g ((a, b), c))))))
node3 (Good a) (Good b) x rs g = node2 (Good (a, b)) x rs g
node3 (Good a) (Bad w ws) (Good c) rs g = refl
node3 (Good a) (Bad w ws) (Bad x xs) rs g = refl
node3 (Bad v vs) (Good b) (Good c) rs g = refl
node3 (Bad v vs) (Good b) (Bad x xs) rs g = refl
node3 (Bad v vs) (Bad w ws) (Good c) rs g = refl
node3 (Bad v vs) (Bad w ws) (Bad x xs) rs g = refl

module _ {A B P : Type 0} (part : P → Verdict B) (rules : P → A × B → List Violation) (next : P → A × B → A) where
  bad_also : (v : Violation) (vs : List Violation) (w : Verdict B) (p : P) → (more : List Violation) × (node (Bad v vs also w) (rules p) (next p) ≡ Bad v more)
  bad_also v vs (Good b) p = (vs, refl)
  bad_also v vs (Bad w ws) p = (vs ++ w ∷ ws, refl)

  fold_bad : (v : Violation) (vs : List Violation) (ps : List P) → first (fold_nodes part rules next (Bad v vs) ps) ≡ Err v
  fold_bad v vs [] = refl
  fold_bad v vs (p ∷ ps) =
      let r = bad_also v vs (part p) p in
      ap (λ x. first (fold_nodes part rules next x ps)) r.1 ∙ fold_bad v r.0 ps

  pub fold_first : (v : Verdict A) (ps : List P) → first (fold_nodes part rules next v ps) ≡ and_then (first v) (λ a. first (fold_nodes part rules next (Good a) ps))
  fold_first (Good a) ps = refl
  fold_first (Bad v vs) ps = fold_bad v vs ps

  fold_at : (a : A) (w : Verdict B) (p : P) (ps : List P)
      → first (fold_nodes part rules next (node (Good a also w) (rules p) (next p)) ps)
      ≡ and_then (first w) (λ b. and_then (fine (rules p (a, b))) (λ u. first (fold_nodes part rules next (Good (next p (a, b))) ps)))
  fold_at a (Good b) p ps = fold_first (good_unless (rules p (a, b)) (next p (a, b))) ps ∙ then_good (rules p (a, b)) (next p (a, b)) ps
    where
      then_good : (rs : List Violation) (c : A) (ps : List P)
          → and_then (first (good_unless rs c)) (λ a. first (fold_nodes part rules next (Good a) ps))
          ≡ and_then (fine rs) (λ u. first (fold_nodes part rules next (Good c) ps))
      then_good [] c ps = refl
      then_good (v ∷ vs) c ps = refl
  fold_at a (Bad v vs) p ps = fold_bad v vs ps

  pub fold_next : (a : A) (p : P) (ps : List P)
      → first (fold_nodes part rules next (Good a) (p ∷ ps))
      ≡ and_then (first (part p)) (λ b. and_then (fine (rules p (a, b))) (λ u. first (fold_nodes part rules next (Good (next p (a, b))) ps)))
  fold_next a p ps = fold_at a (part p) p ps

-- nothing but the rules
pub fine_unit : (rs : List Violation) → and_then (fine rs) (λ u. Ok tt) ≡ fine rs
fine_unit [] = refl
fine_unit (v ∷ vs) = refl

pub ruleset refusals = (first_good_unless, fine_more, fine_unit)
