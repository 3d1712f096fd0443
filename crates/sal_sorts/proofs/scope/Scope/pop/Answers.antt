use Rattle.std.proofs.Common.{◌≡◌, ℕ, true, false, List, [], ◌∷◌, ◌++◌, length, Option, None, sym, ap, subst, ◌∙◌}
use Rattle.std.specs.Map.{update}
use Rattle.std.specs.Str.{bytes_eq}
use Rattle.std.proofs.lemmas.Map.Text.{btree_map_updates_str}
use Rattle.sal_sorts.specs.code.Indexes.{position_in, first_position, is_position}
use Rattle.sal_sorts.proofs.Indexes.{removed, older}
use Rattle.sal_sorts.proofs.scope.Scope.pop.Goals as goal

pub invariant_of-self-then-is_at : goal.invariant_of-self-then-is_at
invariant_of-self-then-is_at c =
    let f : List ℕ → Option ℕ = λ n. position_in n c.self.inside.index in
    let g : List ℕ → Option ℕ = λ n. position_in n c.remove.new.self in
    let old : (q : List ℕ) → f q ≡ first_position q (c.pop.new.self ++ c.in-Some.v ∷ []) = λ q. c.self.invariant q ∙ ap (first_position q) c.in-Some.ensures in
    let here : is_position (length c.pop.new.self) (f c.in-Some.v.name) ≡ true =
    ap (λ n. is_position n (f c.in-Some.v.name)) (sym c.len.ensures) ∙ ap (λ n. is_position c.len.result (f n)) (sym c.as_bytes-name.ensures) ∙ sym c.is_at.ensures ∙ c.if-is_at.true in
    let away : (q : List ℕ) → g q ≡ update bytes_eq f c.as_bytes-name.result.now None q =
    btree_map_updates_str c.as_bytes-name.result.now c.self.inside.index c.remove.new.self None c.remove.ensures.updates in
    let P : List ℕ → Type 0 = λ n. (q : List ℕ) → g q ≡ update bytes_eq f n None q in
    removed c.pop.new.self c.in-Some.v f g old here (subst P c.as_bytes-name.ensures away)

pub invariant_of-self-else-is_at : goal.invariant_of-self-else-is_at
invariant_of-self-else-is_at c =
    let f : List ℕ → Option ℕ = λ n. position_in n c.self.inside.index in
    let old : (q : List ℕ) → f q ≡ first_position q (c.pop.new.self ++ c.in-Some.v ∷ []) = λ q. c.self.invariant q ∙ ap (first_position q) c.in-Some.ensures in
    let other : is_position (length c.pop.new.self) (f c.in-Some.v.name) ≡ false =
    ap (λ n. is_position n (f c.in-Some.v.name)) (sym c.len.ensures) ∙ ap (λ n. is_position c.len.result (f n)) (sym c.as_bytes-name.ensures) ∙ sym c.is_at.ensures ∙ c.if-is_at.false in
    older c.pop.new.self c.in-Some.v f old other
