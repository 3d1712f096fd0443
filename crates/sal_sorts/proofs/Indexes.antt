-- What an index has after a variable came or went.
use Rattle.std.proofs.Common.{◌≡◌, ℕ, ◌+◌, ◌<◌, ◌≤◌, Bool, true, false, cond, nat_lt, eqb, List, [], ◌∷◌, ◌++◌, length, Option, Some, None, sym, ap, ◌∙◌, refl, arith}
use Rattle.std.specs.Prelude.{slice_get}
use Rattle.std.specs.List.{find, position, position_or_len}
use Rattle.std.specs.Map.{update}
use Rattle.std.specs.Str.{bytes_eq}
use Rattle.std.proofs.lemmas.Bool.Decides.{nat_tests}
use Rattle.std.proofs.lemmas.List.{length-append}
use Rattle.std.proofs.lemmas.List.Folds.{find_at, position_or_len_push}
use Rattle.std.proofs.lemmas.List.Sums.{prefix_len-le-length}
use Rattle.std.proofs.lemmas.Option.{slice_get_past}
use Rattle.std.proofs.lemmas.Slice.Eq.{bytes_eq-Decides}
use Rattle.sal_sorts.specs.declared.variable.Variable.{Variable}
use Rattle.sal_sorts.specs.code.Indexes.{first_position, is_position}
use Rattle.sal_sorts.proofs.Lookups.{first_some}

-- a position among so many, if it is one
abbrev within : ℕ → ℕ → Option ℕ
within n l = cond (nat_lt n l) (Some n) None

within_push : (n l : ℕ) (b : Bool) → n ≤ l → within (cond (eqb n l) (l + cond b 0 1) n) (l + 1) ≡ first_some (within n l) (cond b (Some l) None)
within_push n l true h = grind (arith, nat_tests)
within_push n l false h = grind (arith, nat_tests)

within_is : (n l i : ℕ) → within n l ≡ Some i → (n ≡ i) × (n < l)
within_is n l i h = grind (arith, nat_tests)

within_none : (n l : ℕ) → within n l ≡ None → l ≤ n
within_none n l h = grind (arith, nat_tests)

module _ {X : Type 0} (p : X → Bool) where
  -- with one more at the end
  pub position_push : (xs : List X) (y : X) → position p (xs ++ y ∷ []) ≡ first_some (position p xs) (cond (p y) (Some (length xs)) None)
  position_push xs y =
      let few : position_or_len p xs ≤ length xs = prefix_len-le-length _ xs in
      let longer : length (xs ++ y ∷ []) ≡ length xs + 1 = length-append xs (y ∷ []) in
      ap (within (position_or_len p (xs ++ y ∷ []))) longer
      ∙ ap (λ n. within n (length xs + 1)) (position_or_len_push p xs y)
      ∙ within_push (position_or_len p xs) (length xs) (p y) few

  -- what is found stands there
  pub find_at_position : (xs : List X) (i : ℕ) → position p xs ≡ Some i → find p xs ≡ slice_get xs i
  find_at_position xs i h = find_at p xs ∙ ap (slice_get xs) (within_is (position_or_len p xs) (length xs) i h).0

  pub find_without_position : (xs : List X) → position p xs ≡ None → find p xs ≡ None
  find_without_position xs h = find_at p xs ∙ slice_get_past xs (position_or_len p xs) (within_none (position_or_len p xs) (length xs) h)

  pub position_small : (xs : List X) (i : ℕ) → position p xs ≡ Some i → i < length xs
  position_small xs i h = let w = within_is (position_or_len p xs) (length xs) i h in omega (arith, w.0, w.1)

-- ---- variables by names

-- what f finds where v was added, whose name had no position before
pub added : (vs : List Variable) (v : Variable) (f g : List ℕ → Option ℕ) → ((q : List ℕ) → f q ≡ first_position q vs) → f v.name ≡ None
    → ((q : List ℕ) → g q ≡ update bytes_eq f v.name (Some (length vs)) q) → (q : List ℕ) → g q ≡ first_position q (vs ++ v ∷ [])
added vs v f g old none new q = new q ∙ at (bytes_eq v.name q) refl ∙ sym (position_push (λ (w : Variable). bytes_eq w.name q) vs v)
  where
    at : (b : Bool) → bytes_eq v.name q ≡ b → cond b (Some (length vs)) (f q) ≡ first_some (first_position q vs) (cond b (Some (length vs)) None)
    at true e =
        let same : v.name ≡ q = (bytes_eq-Decides v.name q).0 e in
        let nothing : first_position q vs ≡ None = sym (old q) ∙ ap f (sym same) ∙ none in
        ap (λ o. first_some o (Some (length vs))) (sym nothing)
    at false e = old q ∙ either (first_position q vs)
      where
        either : (o : Option ℕ) → o ≡ first_some o None
        either None = refl
        either (Some i) = refl

-- what f finds where a variable was added whose name has a position
pub kept : (vs : List Variable) (v : Variable) (f : List ℕ → Option ℕ) (i : ℕ) → ((q : List ℕ) → f q ≡ first_position q vs) → f v.name ≡ Some i
    → (q : List ℕ) → f q ≡ first_position q (vs ++ v ∷ [])
kept vs v f i old there q = old q ∙ at (bytes_eq v.name q) refl ∙ sym (position_push (λ (w : Variable). bytes_eq w.name q) vs v)
  where
    at : (b : Bool) → bytes_eq v.name q ≡ b → first_position q vs ≡ first_some (first_position q vs) (cond b (Some (length vs)) None)
    at true e =
        let same : v.name ≡ q = (bytes_eq-Decides v.name q).0 e in
        let here : first_position q vs ≡ Some i = sym (old q) ∙ ap f (sym same) ∙ there in
        here ∙ ap (λ o. first_some o (Some (length vs))) (sym here)
    at false e = either (first_position q vs)
      where
        either : (o : Option ℕ) → o ≡ first_some o None
        either None = refl
        either (Some i) = refl

-- what f finds without the newest variable
before_push : (vs : List Variable) (v : Variable) (f : List ℕ → Option ℕ) → ((q : List ℕ) → f q ≡ first_position q (vs ++ v ∷ [])) → (q : List ℕ)
    → f q ≡ first_some (first_position q vs) (cond (bytes_eq v.name q) (Some (length vs)) None)
before_push vs v f old q = old q ∙ position_push (λ (w : Variable). bytes_eq w.name q) vs v

-- the newest variable is away, at whose name it was found
pub removed : (vs : List Variable) (v : Variable) (f g : List ℕ → Option ℕ) → ((q : List ℕ) → f q ≡ first_position q (vs ++ v ∷ [])) → is_position (length vs) (f v.name) ≡ true
    → ((q : List ℕ) → g q ≡ update bytes_eq f v.name None q) → (q : List ℕ) → g q ≡ first_position q vs
removed vs v f g old here new q = new q ∙ at (bytes_eq v.name q) refl
  where
    nothing : (o : Option ℕ) → first_position q vs ≡ o → is_position (length vs) (first_some o (Some (length vs))) ≡ true → None ≡ o
    nothing None e h = refl
    nothing (Some i) e h =
        let small : i < length vs = position_small (λ (w : Variable). bytes_eq w.name q) vs i e in
        absurd (grind (arith, nat_tests))

    at : (b : Bool) → bytes_eq v.name q ≡ b → cond b None (f q) ≡ first_position q vs
    at true e =
        let same : v.name ≡ q = (bytes_eq-Decides v.name q).0 e in
        let found : f q ≡ first_some (first_position q vs) (Some (length vs)) = before_push vs v f old q ∙ ap (λ b. first_some (first_position q vs) (cond b (Some (length vs)) None)) e in
        nothing (first_position q vs) refl (ap (is_position (length vs)) (sym found ∙ ap f (sym same)) ∙ here)
    at false e = before_push vs v f old q ∙ ap (λ b. first_some (first_position q vs) (cond b (Some (length vs)) None)) e ∙ either (first_position q vs)
      where
        either : (o : Option ℕ) → first_some o None ≡ o
        either None = refl
        either (Some i) = refl

-- the newest variable is away, of whose name there is an older one
pub older : (vs : List Variable) (v : Variable) (f : List ℕ → Option ℕ) → ((q : List ℕ) → f q ≡ first_position q (vs ++ v ∷ [])) → is_position (length vs) (f v.name) ≡ false
    → (q : List ℕ) → f q ≡ first_position q vs
older vs v f old other q = before_push vs v f old q ∙ at (bytes_eq v.name q) refl
  where
    there : (o : Option ℕ) → is_position (length vs) (first_some o (Some (length vs))) ≡ false → first_some o (Some (length vs)) ≡ o
    there None h = absurd (grind (arith, nat_tests))
    there (Some i) h = refl

    either : (o : Option ℕ) → first_some o None ≡ o
    either None = refl
    either (Some i) = refl

    at : (b : Bool) → bytes_eq v.name q ≡ b → first_some (first_position q vs) (cond b (Some (length vs)) None) ≡ first_position q vs
    at true e =
        let same : v.name ≡ q = (bytes_eq-Decides v.name q).0 e in
        let found : f q ≡ first_some (first_position q vs) (Some (length vs)) = before_push vs v f old q ∙ ap (λ b. first_some (first_position q vs) (cond b (Some (length vs)) None)) e in
        there (first_position q vs) (ap (is_position (length vs)) (sym found ∙ ap f (sym same)) ∙ other)
    at false e = either (first_position q vs)
