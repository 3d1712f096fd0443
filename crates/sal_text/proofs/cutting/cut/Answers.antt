use Rattle.std.proofs.Common.{◌+◌, arith, sym, subst}
use Rattle.sal_text.proofs.Steps.{Reached, reached_between, reached_token, refusal_within}
use Rattle.sal_text.proofs.cutting.cut.Goals as goal

pub parts-preserved-in-Between : goal.parts-preserved-in-Between
parts-preserved-in-Between c =
    reached_between c.args.source.now c.parts.at c.in-Between.count c.parts.items c.parts.invariant c.in-Between.ensures

pub parts-preserved : goal.parts-preserved
parts-preserved c =
    subst (Reached c.args.source.now (c.parts.at + c.in-Token.count)) (sym c.in_ok-push-in-Token.ensures.ok)
    (reached_token c.args.source.now c.parts.at c.in-Token.count c.parts.items c.in-Token.kind c.parts.invariant c.in-Token.ensures)

pub overflow_add-at-in-Refused : goal.overflow_add-at-in-Refused
overflow_add-at-in-Refused c =
    let w = refusal_within c.in-Refused.rule c.args.source.now c.parts.at c.in-Refused.place c.parts.invariant.within c.in-Refused.ensures in
    let s = c.requires.short in omega arith

pub overflow_cast-at-in-Refused : goal.overflow_cast-at-in-Refused
overflow_cast-at-in-Refused c =
    let w = refusal_within c.in-Refused.rule c.args.source.now c.parts.at c.in-Refused.place c.parts.invariant.within c.in-Refused.ensures in
    let s = c.requires.short in omega arith
