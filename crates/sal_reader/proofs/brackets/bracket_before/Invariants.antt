use Rattle.std.proofs.Common.{◌≡◌, ◌+◌, ◌≤◌, [], take, drop}
use Rattle.sal_grammar.specs.Refusals.{bracket_before, open_after, first_place}
use Rattle.sal_reader.proofs.brackets.bracket_before.Given as goal

abbrev pub invariant-tokens : goal.invariant-tokens
invariant-tokens l = record {
  few : l.closed + l.i ≤ l.count;
  same : bracket_before l.symbols l.count ≡ first_place (drop l.closed (open_after [] (take l.i l.symbols)));
}
