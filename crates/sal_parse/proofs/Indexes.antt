-- The indexes among suffixes, one after another.
use Rattle.std.proofs.Common.{◌≡◌, ℕ, zero, suc, ◌+◌, ◌<◌, ◌≤◌, Bool, true, false, ◌&&◌, List, [], ◌∷◌, ◌++◌, length, drop, get_or, refl, sym, ap, ◌∙◌, append_assoc, append-nil, add-one, arith}
use Rattle.std.proofs.Math.Seq.{drop-cons}
use Rattle.std.proofs.lemmas.List.{drop_all}
use Rattle.sal_ast.specs.declared.expression.Expr.{Expr}
use Rattle.sal_ast.specs.declared.expression.Suffix.{Suffix, out-Suffix}
use Rattle.sal_grammar.specs.Statements.{index_in, indexes_of, has_index, all_indexes}

pub indexes_snoc : (xs : List Suffix) (x : Suffix) → indexes_of (xs ++ x ∷ []) ≡ indexes_of xs ++ index_in (out-Suffix x)
indexes_snoc [] x = append-nil (index_in (out-Suffix x))
indexes_snoc (y ∷ ys) x = ap (λ t. index_in (out-Suffix y) ++ t) (indexes_snoc ys x) ∙ sym (append_assoc (index_in (out-Suffix y)) (indexes_of ys) (index_in (out-Suffix x)))

at : (found : List Suffix) (i : ℕ) (o : Suffix) → i < length found → o ≡ get_or found i o
    → all_indexes (drop i found) ≡ (has_index (index_in (out-Suffix o)) && all_indexes (drop (i + 1) found))
at found i o lt e =
    ap all_indexes (drop-cons found i o lt ∙ ap (λ x. x ∷ drop (suc i) found) (sym e))
    ∙ ap (λ k. has_index (index_in (out-Suffix o)) && all_indexes (drop k found)) (sym (add-one i))

pub other_suffix : (t : Bool) (found : List Suffix) (i : ℕ) (o : Suffix) → i < length found → o ≡ get_or found i o → has_index (index_in (out-Suffix o)) ≡ false
    → t ≡ all_indexes (drop i found) → false ≡ t
other_suffix t found i o lt e f h = sym (h ∙ at found i o lt e ∙ ap (λ b. b && all_indexes (drop (i + 1) found)) f)

pub one_index : (t : Bool) (found : List Suffix) (i : ℕ) (o : Suffix) → i < length found → o ≡ get_or found i o → has_index (index_in (out-Suffix o)) ≡ true
    → t ≡ all_indexes (drop i found) → t ≡ all_indexes (drop (i + 1) found)
one_index t found i o lt e f h = h ∙ at found i o lt e ∙ ap (λ b. b && all_indexes (drop (i + 1) found)) f

pub no_suffix : (t : Bool) (found : List Suffix) (i : ℕ) → length found ≤ i → t ≡ all_indexes (drop i found) → true ≡ t
no_suffix t found i le h = sym (h ∙ ap all_indexes (drop_all i found le))
