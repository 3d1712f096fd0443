-- The verdict on a node of a tree: what the node is, or all violations in it, in postorder.
use Rattle.std.specs.Prelude.{ℕ, Bool, true, false, List, [], ◌∷◌, ◌++◌}

-- the number of a rule, and the offset at which it is violated
abbrev pub Violation : Type 0
Violation = ℕ × ℕ

-- what a node is, or what is violated in it
pub data Verdict (A : Type 0) : Type 0 where
  Good : A → Verdict A
  -- the first violation, and those after it
  Bad : Violation → List Violation → Verdict A

-- one part, and then the next: all violations of both
infixl 10 ◌also◌
abbrev pub ◌also◌ : {A B : Type 0} → Verdict A → Verdict B → Verdict (A × B)
Good a also Good b = Good (a, b)
Good a also Bad v vs = Bad v vs
Bad v vs also Good b = Bad v vs
Bad v vs also Bad w ws = Bad v (vs ++ w ∷ ws)

-- this, unless something is violated
abbrev pub good_unless : {A : Type 0} → List Violation → A → Verdict A
good_unless [] a = Good a
good_unless (v ∷ vs) a = Bad v vs

-- A node is judged where its parts are typed, by its own rules, which stand in the order of their numbers.
abbrev pub node : {A B : Type 0} → Verdict A → (A → List Violation) → (A → B) → Verdict B
node (Good a) rules sort = good_unless (rules a) (sort a)
node (Bad v vs) rules sort = Bad v vs

-- what has no rule of its own
abbrev pub no_rules : {A : Type 0} → A → List Violation
no_rules a = []

-- the same, taken as something else
abbrev pub map_verdict : {A B : Type 0} → (A → B) → Verdict A → Verdict B
map_verdict sort v = node v no_rules sort

-- nodes from left to right, each with the one before it as its first part
abbrev pub fold_nodes : {A B P : Type 0} → (P → Verdict B) → (P → A × B → List Violation) → (P → A × B → A) → Verdict A → List P → Verdict A
fold_nodes part rules next v [] = v
fold_nodes part rules next v (p ∷ ps) = fold_nodes part rules next (node (v also part p) (rules p) (next p)) ps

-- parts from left to right
abbrev pub verdict_of_all : {A P : Type 0} → (P → Verdict A) → List P → Verdict (List A)
verdict_of_all part ps = fold_nodes part (λ p s. no_rules s) (λ p s. s.0 ++ s.1 ∷ []) (Good []) ps

-- what can be judged only where it is known what the part before it is
abbrev pub bind_verdict : {A B : Type 0} → Verdict A → (A → Verdict B) → Verdict B
bind_verdict (Good a) f = f a
bind_verdict (Bad v vs) f = Bad v vs

-- this rule is violated at this offset, unless it holds
abbrev pub rule : ℕ → ℕ → Bool → List Violation
rule number at true = []
rule number at false = (number, at) ∷ []

-- all violations in a node
abbrev pub violations : {A : Type 0} → Verdict A → List Violation
violations (Good a) = []
violations (Bad v vs) = v ∷ vs
