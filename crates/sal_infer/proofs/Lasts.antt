-- The result of a chain is that of its last stage.
use Rattle.std.proofs.Common.{◌≡◌, ◌-◌, ◌<◌, List, [], ◌∷◌, length, get_or, map, Option, None, refl, ap, ◌∙◌, arith}
use Rattle.sal_value.specs.declared.value.Sort.{Sort}
use Rattle.sal_ast.specs.declared.statement.Stage.{Stage}
use Rattle.sal_ast.specs.Sorts.{Scope, last_result}
use Rattle.sal_infer.specs.code.Parts.{stage_result}

pub none_is : (xs : List Stage) (s : Scope) → length xs ≡ 0 → last_result None (map stage_result xs) s ≡ None
none_is [] s h = refl
none_is (x ∷ xs) s h = absurd (omega arith)

last_of : (before : Option Sort) (x : Stage) (xs : List Stage) (d : Stage) (s : Scope) → last_result before (map stage_result (x ∷ xs)) s ≡ stage_result (get_or (x ∷ xs) (length xs) d) s
last_of before x [] d s = refl
last_of before x (y ∷ ys) d s = last_of (stage_result x s) y ys d s

pub last_is : (xs : List Stage) (d : Stage) (s : Scope) → 0 < length xs → last_result None (map stage_result xs) s ≡ stage_result (get_or xs (length xs - 1) d) s
last_is [] d s h = absurd (omega arith)
last_is (x ∷ xs) d s h =
    let k : length xs ≡ length (x ∷ xs) - 1 = omega arith in
    last_of None x xs d s ∙ ap (λ n. stage_result (get_or (x ∷ xs) n d) s) k
