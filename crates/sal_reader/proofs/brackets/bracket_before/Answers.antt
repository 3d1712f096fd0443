use Rattle.std.proofs.Common.{◌<◌, ◌≤◌, length, ap, sym, ◌∙◌, Some, arith}
use Rattle.sal_reader.proofs.Open.{opens_found, opens_step, closes_step, keeps_step}
use Rattle.sal_reader.proofs.brackets.bracket_before.Goals as goal

pub returns-then-closed-eq0 : goal.returns-then-closed-eq0
returns-then-closed-eq0 c =
    ap Some c.at.ensures
    ∙ opens_found c.args.symbols.now c.args.count c.tokens.closed c.tokens.i c.index-symbols-i.result c.tokens-test.true (omega arith) c.index-symbols-i.is
    (sym c.effect.ensures ∙ c.in-Opens.is) c.if-closed-eq0.true c.tokens.invariant.same

pub tokens-preserved-in-Opens : goal.tokens-preserved-in-Opens
tokens-preserved-in-Opens c =
    let some : 0 < c.tokens.closed = omega arith in
    record {
      few = omega arith;
      same =
          opens_step c.args.symbols.now c.args.count c.tokens.closed c.tokens.i c.index-symbols-i.result c.tokens-test.true (omega arith) c.index-symbols-i.is
          (sym c.effect.ensures ∙ c.in-Opens.is) some c.tokens.invariant.same;
    }

pub tokens-preserved-in-Closes : goal.tokens-preserved-in-Closes
tokens-preserved-in-Closes c = record {
  few = omega arith;
  same =
      closes_step c.args.symbols.now c.args.count c.tokens.closed c.tokens.i c.index-symbols-i.result c.tokens-test.true (omega arith) c.index-symbols-i.is
      (sym c.effect.ensures ∙ c.in-Closes.is) c.tokens.invariant.same;
}

pub tokens-preserved : goal.tokens-preserved
tokens-preserved c = record {
  few = omega arith;
  same =
      keeps_step c.args.symbols.now c.args.count c.tokens.closed c.tokens.i c.index-symbols-i.result c.tokens-test.true (omega arith) c.index-symbols-i.is
      (sym c.effect.ensures ∙ c.in-Keeps.is) c.tokens.invariant.same;
}
