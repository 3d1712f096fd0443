-- Arguments and their parameters, one for one.
use Rattle.std.proofs.Common.{◌≡◌, ℕ, ◌+◌, suc, Bool, true, false, ◌&&◌, ◌<◌, ◌≤◌, length, get_or, drop, drop-cons, add-one, List, [], ◌∷◌, Some, None, sym, ap, ◌∙◌, refl}
use Rattle.std.proofs.lemmas.List.{drop_all}
use Rattle.sal_ast.specs.declared.program.Param.{Param}
use Rattle.sal_ast.specs.declared.program.Behavior.{Behavior}
use Rattle.sal_ast.specs.Members.{constructor_of}
use Rattle.sal_sorts.specs.declared.sort.Sort.{Sort}
use Rattle.sal_sorts.specs.Sorts.{sort_of_type}
use Rattle.sal_sorts.specs.Environments.{Environment, is_assignable, are_assignable, constructor_accepts}
use Rattle.sal_sorts.specs.code.Callees.{param_sorts, first_constructor}

pub other_length : (env : Environment) (ss : List Sort) (ps : List Param) → (length ss ≡ length ps → ⊥) → are_assignable env ss (param_sorts ps) ≡ false
other_length env [] [] h = absurd (h refl)
other_length env [] (p ∷ ps) h = refl
other_length env (s ∷ ss) [] h = refl
other_length env (s ∷ ss) (p ∷ ps) h = ap (λ b. is_assignable env s (sort_of_type p.sort) && b) (other_length env ss ps (λ e. h (ap suc e))) ∙ and_false (is_assignable env s (sort_of_type p.sort))
  where
    and_false : (b : Bool) → b && false ≡ false
    and_false true = refl
    and_false false = refl

pub fits_at : (env : Environment) (ss : List Sort) (ps : List Param) (i : ℕ) (s : Sort) (p : Param) → i < length ss → i < length ps → s ≡ get_or ss i s → p ≡ get_or ps i p
    → are_assignable env (drop i ss) (param_sorts (drop i ps)) ≡ is_assignable env s (sort_of_type p.sort) && are_assignable env (drop (i + 1) ss) (param_sorts (drop (i + 1) ps))
fits_at env ss ps i s p h k e f =
    ap (λ l. are_assignable env l (param_sorts (drop i ps))) (drop-cons ss i s h ∙ ap (λ x. x ∷ drop (suc i) ss) (sym e))
    ∙ ap (λ l. are_assignable env (s ∷ drop (suc i) ss) (param_sorts l)) (drop-cons ps i p k ∙ ap (λ x. x ∷ drop (suc i) ps) (sym f))
    ∙ ap (λ n. is_assignable env s (sort_of_type p.sort) && are_assignable env (drop n ss) (param_sorts (drop n ps))) (sym (add-one i))

pub fits_end : (env : Environment) (ss : List Sort) (ps : List Param) (i : ℕ) → length ss ≤ i → length ps ≤ i → are_assignable env (drop i ss) (param_sorts (drop i ps)) ≡ true
fits_end env ss ps i h k =
    ap (λ l. are_assignable env l (param_sorts (drop i ps))) (drop_all i ss h)
    ∙ ap (λ l. are_assignable env [] (param_sorts l)) (drop_all i ps k)

pub accepts_none : (args : List Sort) (env : Environment) → constructor_accepts None args env ≡ false
unfolding constructor_accepts
accepts_none args env = refl

pub accepts_some : (b : Behavior) (args : List Sort) (env : Environment) → constructor_accepts (Some b) args env ≡ are_assignable env args (first_constructor b.members)
unfolding constructor_accepts first_constructor constructor_of
accepts_some b args env = refl

pub ruleset fitting = (other_length, accepts_none, accepts_some)
