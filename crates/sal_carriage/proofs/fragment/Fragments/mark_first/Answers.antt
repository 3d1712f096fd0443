use Rattle.std.proofs.Common.{sym, subst, ap, ◌∙◌, rules, arith}
use Rattle.std.specs.Prelude.{set}
use Rattle.sal_carriage.specs.Fragments.{AllFit}
use Rattle.sal_carriage.proofs.Marking.{marks_fit, marks_one}
use Rattle.sal_carriage.proofs.fragment.Fragments.mark_first.Goals as goal

pub invariant_of-self : goal.invariant_of-self
invariant_of-self c = subst AllFit (sym c.loop-at.invariant) (marks_fit c.loop-at.at c.args.now c.args.self.now (subst AllFit c.self.view_is c.self.invariant))

pub loop-at-preserved : goal.loop-at-preserved
loop-at-preserved c =
    ap (λ fs. set fs c.loop-at.at c.mark.new.fragment) c.loop-at.invariant
    ∙ marks_one c.loop-at.at c.args.now c.args.self.now c.index_mut.result.now c.mark.new.fragment (search (rules, arith)) (search (rules, arith)) c.mark.ensures
