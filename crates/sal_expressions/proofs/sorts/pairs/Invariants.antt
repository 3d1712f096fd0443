use Rattle.std.proofs.Common.{◌≡◌, ◌<◌, ◌-◌, length}
use Rattle.sal_grammar.specs.Expressions.{pair}
use Rattle.sal_grammar.specs.Parsers.{many_from, prepend}
use Rattle.sal_grammar.specs.Sets as is
use Rattle.sal_expressions.proofs.Turns.{units}
use Rattle.sal_expressions.proofs.sorts.pairs.Given as goal

abbrev pub invariant-loop-turn : goal.invariant-loop-turn
invariant-loop-turn l = record {
  small : l.count < 4294967295;
  reads : many_from (length l.fn.cursor) is.open_bracket pair l.fn.cursor
      ≡ prepend (units l.count) (many_from (l._turn-end - l._turn) is.open_bracket pair l.cursor);
}
