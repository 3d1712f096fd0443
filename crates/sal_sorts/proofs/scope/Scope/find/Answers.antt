use Rattle.std.proofs.Common.{◌≡◌, Some, None, sym, ap, ◌∙◌}
use Rattle.std.specs.Str.{bytes_eq}
use Rattle.sal_sorts.specs.declared.variable.Variable.{Variable}
use Rattle.sal_sorts.specs.code.Indexes.{position_in}
use Rattle.sal_sorts.proofs.Indexes.{find_at_position, find_without_position}
use Rattle.sal_sorts.proofs.scope.Scope.find.Goals as goal

pub returns-in-None : goal.returns-in-None
returns-in-None c =
    let none : position_in c.args.name.now c.self.inside.index ≡ None = ap (λ n. position_in n c.self.inside.index) (sym c.as_bytes.ensures) ∙ sym c.in-None.ensures.value in
    let found = find_without_position (λ (v : Variable). bytes_eq v.name c.args.name.now) c.self.inside.variables (sym (c.self.invariant c.args.name.now) ∙ none) in
    cc

pub returns-in-Some : goal.returns-in-Some
returns-in-Some c =
    let there : position_in c.args.name.now c.self.inside.index ≡ Some c.in-Some.position.now = ap (λ n. position_in n c.self.inside.index) (sym c.as_bytes.ensures) ∙ sym c.in-Some.ensures.value in
    let found = find_at_position (λ (v : Variable). bytes_eq v.name c.args.name.now) c.self.inside.variables c.in-Some.position.now (sym (c.self.invariant c.args.name.now) ∙ there) in
    let got = c.get-in-Some.ensures.value in
    cc
