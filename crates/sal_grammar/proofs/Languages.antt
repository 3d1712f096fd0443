-- What the parsers read: values with the lists of tokens that stand for them.
use Rattle.std.specs.Prelude.{◌≡◌, ◌⊎◌, ℕ, zero, suc, true, false, List, [], ◌∷◌, ◌++◌}
use Rattle.sal_grammar.specs.Tokens.{Token, Set, class_of, next}

abbrev pub Lang : Type 0 → Type 1
Lang A = A → List Token → Type 0

-- one word and then another, which may depend on the first one's value
pub record Seq {A C : Type 0} (W : A → List Token → Type 0) (V : A → C → List Token → Type 0) (c : C) (u : List Token) : Type 0 where
  pub item : A
  pub left : List Token
  pub right : List Token
  pub first : W item left
  pub second : V item c right
  pub joined : left ++ right ≡ u

pub record One (is : Set) (t : Token) (u : List Token) : Type 0 where
  pub fits : is (class_of t) ≡ true
  pub alone : t ∷ [] ≡ u

pub record Just {A : Type 0} (a : A) (b : A) (u : List Token) : Type 0 where
  pub same : a ≡ b
  pub empty : [] ≡ u

abbrev pub Either : {A : Type 0} → (A → List Token → Type 0) → (A → List Token → Type 0) → A → List Token → Type 0
Either W V a u = W a u ⊎ V a u

abbrev pub Empty : {A : Type 0} → A → List Token → Type 0
Empty a u = ⊥

-- where one more construct that counts may still be opened
abbrev pub Deep : {A : Type 0} → ℕ → (A → List Token → Type 0) → A → List Token → Type 0
Deep zero W a u = ⊥
Deep (suc d) W a u = W a u

-- a word of an item, and then words of the others
pub record Twice {A : Type 0} (W : A → List Token → Type 0) (V : List Token → Type 0) (a : A) (u : List Token) : Type 0 where
  pub left : List Token
  pub right : List Token
  pub first : W a left
  pub second : V right
  pub joined : left ++ right ≡ u

abbrev pub Star : {A : Type 0} → (A → List Token → Type 0) → List A → List Token → Type 0
Star W [] u = [] ≡ u
Star W (a ∷ others) u = Twice W (Star W others) a u

-- the words that don't begin with a token of the set
pub record Unless {A : Type 0} (is : Set) (W : A → List Token → Type 0) (a : A) (u : List Token) : Type 0 where
  pub word : W a u
  pub other : is (next u) ≡ false

pub record Guarded {A : Type 0} (P : Type 0) (W : A → List Token → Type 0) (a : A) (u : List Token) : Type 0 where
  pub fact : P
  pub word : W a u
