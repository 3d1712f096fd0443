-- What a verdict that violates nothing says of the verdicts on the parts.
use Rattle.std.proofs.Common.{◌≡◌, ℕ, Bool, true, false, List, [], ◌∷◌, ◌++◌, Some, refl, ap}
use Rattle.sal_sorts.specs.Verdicts.{Violation, Verdict, Good, Bad, ◌also◌, good_unless, node, no_rules, map_verdict, fold_nodes, bind_verdict, rule, violations}

pub good_is : {A : Type 0} (a b : A) → Good a ≡ Good b → a ≡ b
good_is a b h = cc

pub good_not_bad : {A : Type 0} {B : Type 0} (a : A) (v : Violation) (vs : List Violation) → Bad v vs ≡ Good a → B
good_not_bad a v vs h = absurd cc

pub some_is : {A : Type 0} (a b : A) → Some a ≡ Some b → a ≡ b
some_is a b h = cc

-- both parts
pub record BothParts {A B : Type 0} (v : Verdict A) (w : Verdict B) (p : A × B) : Type 0 where
  pub left : v ≡ Good p.0
  pub right : w ≡ Good p.1

pub also_parts : {A B : Type 0} (v : Verdict A) (w : Verdict B) (p : A × B) → (v also w) ≡ Good p → BothParts v w p
also_parts (Good a) (Good b) p h = let e : (a, b) ≡ p = good_is (a, b) p h in record { left = ap (λ x. Good x.0) e; right = ap (λ x. Good x.1) e }
also_parts (Good a) (Bad w ws) p h = good_not_bad p w ws h
also_parts (Bad v vs) (Good b) p h = good_not_bad p v vs h
also_parts (Bad v vs) (Bad w ws) p h = good_not_bad p v (vs ++ w ∷ ws) h

-- the parts of a node that violates nothing
pub record NodeParts {A B : Type 0} (v : Verdict A) (rules : A → List Violation) (sort : A → B) (b : B) : Type 0 where
  pub part : A
  pub typed : v ≡ Good part
  pub keeps : rules part ≡ []
  pub is : sort part ≡ b

pub unless_parts : {A : Type 0} (rs : List Violation) (a b : A) → good_unless rs a ≡ Good b → (rs ≡ []) × (a ≡ b)
unless_parts [] a b h = (refl, good_is a b h)
unless_parts (v ∷ vs) a b h = good_not_bad b v vs h

pub node_parts : {A B : Type 0} (v : Verdict A) (rules : A → List Violation) (sort : A → B) (b : B) → node v rules sort ≡ Good b → NodeParts v rules sort b
node_parts (Good a) rules sort b h = let r = unless_parts (rules a) (sort a) b h in record { part = a; typed = refl; keeps = r.0; is = r.1 }
node_parts (Bad v vs) rules sort b h = good_not_bad b v vs h

-- the part of what is taken as something else
pub map_parts : {A B : Type 0} (f : A → B) (v : Verdict A) (b : B) → map_verdict f v ≡ Good b → (a : A) × (v ≡ Good a) × (f a ≡ b)
map_parts f v b h = let r = node_parts v no_rules f b h in (r.part, r.typed, r.is)

pub bind_parts : {A B : Type 0} (v : Verdict A) (f : A → Verdict B) (b : B) → bind_verdict v f ≡ Good b → (a : A) × (v ≡ Good a) × (f a ≡ Good b)
bind_parts (Good a) f b h = (a, refl, h)
bind_parts (Bad v vs) f b h = good_not_bad b v vs h

-- ---- rules

pub rule_holds : (number at : ℕ) (b : Bool) → rule number at b ≡ [] → b ≡ true
rule_holds number at true h = refl
rule_holds number at false h = absurd cc

pub none_left : (rs qs : List Violation) → rs ++ qs ≡ [] → rs ≡ []
none_left [] qs h = refl
none_left (v ∷ vs) qs h = absurd cc

pub none_right : (rs qs : List Violation) → rs ++ qs ≡ [] → qs ≡ []
none_right [] qs h = h
none_right (v ∷ vs) qs h = absurd cc

-- all violations of a node are none
pub none_in : {A : Type 0} (v : Verdict A) → violations v ≡ [] → (a : A) × (v ≡ Good a)
none_in (Good a) h = (a, refl)
none_in (Bad v vs) h = absurd cc

-- ---- nodes from left to right

-- what they begin with
pub fold_started : {A B P : Type 0} (part : P → Verdict B) (rules : P → A × B → List Violation) (next : P → A × B → A) (v : Verdict A) (ps : List P) (a : A) → fold_nodes part rules next v ps ≡ Good a → (b : A) × (v ≡ Good b)
fold_started part rules next v [] a h = (a, h)
fold_started part rules next v (p ∷ ps) a h =
    let r = fold_started part rules next (node (v also part p) (rules p) (next p)) ps a h in
    let n = node_parts (v also part p) (rules p) (next p) r.0 r.1 in
    (n.part.0, (also_parts v (part p) n.part n.typed).left)
