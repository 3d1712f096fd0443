use Rattle.std.proofs.Common.{rules, arith, ◌≡◌, ◌+◌, refl}
use Rattle.std.specs.Prelude.{Err}
use Rattle.sal_grammar.specs.Expressions.{pair}
use Rattle.sal_grammar.specs.Sets as is
use Rattle.sal_expressions.proofs.Turns.{units, units-next, turn_ok, turn_stop, turn_none, pairs_start, pairs_done, pairs_stop}
use Rattle.sal_expressions.proofs.sorts.pairs.Goals as goal

pub loop-turn-init : goal.loop-turn-init
loop-turn-init c = record { small = omega arith; reads = pairs_start _ c.args.cursor.now c.len-turn-end.ensures }

pub returns-then-not-sees-clause-reads : goal.returns-then-not-sees-clause-reads
returns-then-not-sees-clause-reads c =
    pairs_done c.args.cursor.now c.loop-turn.cursor c.loop-turn.count
    (turn_stop _ _ c.loop-turn._turn is.open_bracket pair (units c.loop-turn.count) c.loop-turn.cursor c.loop-turn-test.true c.loop-turn.invariant.reads (search rules))

pub loop-turn-preserved : goal.loop-turn-preserved
loop-turn-preserved c =
    let e = turn_ok _ _ c.loop-turn._turn is.open_bracket pair (units c.loop-turn.count) c.loop-turn.cursor c.pair.new.cursor c.in_ok-pair.field-0
    c.loop-turn-test.true c.loop-turn.invariant.reads (search rules) c.in_ok-pair.ensures in
    record { small = omega arith; reads = rw (units-next c.loop-turn.count (c.loop-turn.count + 1) refl) at e }

pub returns-clause-reads : goal.returns-clause-reads
returns-clause-reads c =
    pairs_done c.args.cursor.now c.loop-turn.cursor c.loop-turn.count
    (turn_none _ _ c.loop-turn._turn is.open_bracket pair (units c.loop-turn.count) c.loop-turn.cursor c.loop-turn-test.false c.loop-turn.invariant.reads)

pub returns-in_err-pair-clause-reads : goal.returns-in_err-pair-clause-reads
returns-in_err-pair-clause-reads c =
    let e : c.from_residual.result ≡ Err c.in_err-pair.field-0.0 = search rules in
    rw e (pairs_stop _ c.loop-turn._turn c.loop-turn.count c.args.cursor.now c.loop-turn.cursor c.pair.new.cursor c.in_err-pair.field-0.0
    c.loop-turn-test.true c.loop-turn.invariant.reads (search rules) c.in_err-pair.ensures)
