use Rattle.std.proofs.Common.{Some, ap, ◌∙◌}
use Rattle.sal_value.specs.declared.name.Ual.{Ual}
use Rattle.sal_envelope.specs.Spelling.{found_is_spelled}
use Rattle.sal_service.proofs.Places.{found_good}
use Rattle.sal_service.proofs.register.Register.find.Goals as goal

pub returns-in_ok-clone_in-in-At-clause-spelled : goal.returns-in_ok-clone_in-in-At-clause-spelled
returns-in_ok-clone_in-in-At-clause-spelled c =
    ap (λ (l : Ual). found_is_spelled (Some (l, c.in-At.moves))) c.in_ok-clone_in-in-At.ensures
    ∙ ap found_is_spelled c.in-At.ensures
    ∙ found_good c.args.name.now c.self.inside.names c.self.invariant

pub returns-in-NotFound-clause-spelled : goal.returns-in-NotFound-clause-spelled
returns-in-NotFound-clause-spelled c = ap found_is_spelled c.in-NotFound.ensures ∙ found_good c.args.name.now c.self.inside.names c.self.invariant
