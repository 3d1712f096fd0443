use Rattle.std.proofs.Common.{◌≡◌, ℕ, true, false, is_some, List, Option, Some, None, sym, ap, subst, ◌∙◌, refl}
use Rattle.std.specs.Map.{update}
use Rattle.std.specs.Str.{bytes_eq}
use Rattle.std.proofs.lemmas.Map.Text.{btree_map_updates_str}
use Rattle.sal_sorts.specs.code.Indexes.{position_in, first_position}
use Rattle.sal_sorts.proofs.Indexes.{added, kept}
use Rattle.sal_sorts.proofs.scope.Scope.push.Goals as goal

there : (o : Option ℕ) → is_some o ≡ true → (i : ℕ) × (o ≡ Some i)
there None h = absurd cc
there (Some i) h = (i, refl)

nowhere : (o : Option ℕ) → is_some o ≡ false → o ≡ None
nowhere None h = refl
nowhere (Some i) h = absurd cc

pub invariant_of-self-then-contains_key : goal.invariant_of-self-then-contains_key
invariant_of-self-then-contains_key c =
    let f : List ℕ → Option ℕ = λ n. position_in n c.self.inside.index in
    let some : is_some (f c.args.v.name) ≡ true = ap (λ n. is_some (f n)) (sym c.as_bytes-name.ensures) ∙ sym c.contains_key.ensures ∙ c.if-contains_key.true in
    let at = there (f c.args.v.name) some in
    λ q. kept c.self.inside.variables c.args.v f at.0 c.self.invariant at.1 q ∙ ap (first_position q) (sym c.in_ok-push.ensures.ok)

pub invariant_of-self-in-Ok : goal.invariant_of-self-in-Ok
invariant_of-self-in-Ok c =
    let f : List ℕ → Option ℕ = λ n. position_in n c.self.inside.index in
    let g : List ℕ → Option ℕ = λ n. position_in n c.insert.new.self in
    let none : f c.args.v.name ≡ None = nowhere (f c.args.v.name) (ap (λ n. is_some (f n)) (sym c.as_bytes-name.ensures) ∙ sym c.contains_key.ensures ∙ c.if-contains_key.false) in
    let put : (q : List ℕ) → g q ≡ update bytes_eq f c.as_bytes-name.result.now (Some c.len-position.result) q =
    btree_map_updates_str c.as_bytes-name.result.now c.self.inside.index c.insert.new.self (Some c.len-position.result) c.in-Ok.ensures.updates in
    let P : List ℕ → Type 0 = λ n. (q : List ℕ) → g q ≡ update bytes_eq f n (Some c.len-position.result) q in
    let Q : ℕ → Type 0 = λ i. (q : List ℕ) → g q ≡ update bytes_eq f c.args.v.name (Some i) q in
    let new = subst Q c.len-position.ensures (subst P c.as_bytes-name.ensures put) in
    λ q. added c.self.inside.variables c.args.v f g c.self.invariant none new q ∙ ap (first_position q) (sym c.in_ok-push.ensures.ok)
