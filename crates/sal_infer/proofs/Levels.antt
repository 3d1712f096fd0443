-- One more operand of a level.
use Rattle.std.proofs.Common.{◌≡◌, ℕ, suc, ◌+◌, ◌<◌, List, ◌∷◌, length, get_or, drop, map, Option, sym, ap, ◌∙◌, drop-cons, add-one}
use Rattle.sal_value.specs.declared.value.Sort.{Sort}
use Rattle.sal_ast.specs.declared.expression.Operand.{Operand}
use Rattle.sal_ast.specs.Sorts.{Scope, sort_of, operator_sort, level_sort}
use Rattle.sal_infer.specs.code.Parts.{operand_sort}
use Rattle.sal_infer.proofs.SortEquations.{operand_sort_is}

pub level_at : (a : Option Sort) (rest : List Operand) (i : ℕ) (o : Operand) (s : Scope) → i < length rest → o ≡ get_or rest i o → level_sort a (map operand_sort (drop i rest)) s ≡ level_sort (operator_sort o.op a (sort_of o.value s)) (map operand_sort (drop (i + 1) rest)) s
level_at a rest i o s h e =
    ap (λ l. level_sort a (map operand_sort l) s) (drop-cons rest i o h ∙ ap (λ x. x ∷ drop (suc i) rest) (sym e))
    ∙ ap (λ p. level_sort (operator_sort p.0 a (p.1 s)) (map operand_sort (drop (suc i) rest)) s) (operand_sort_is o)
    ∙ ap (λ n. level_sort (operator_sort o.op a (sort_of o.value s)) (map operand_sort (drop n rest)) s) (sym (add-one i))
