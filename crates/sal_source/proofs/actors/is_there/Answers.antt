use Rattle.std.proofs.Common.{ℕ, ◌≡◌, ◌+◌, ◌-◌, ◌/◌, ◌<◌, Some, is_some, sym, ap, arith}
use Rattle.std.specs.Prelude.{slice_get}
use Rattle.sal_source.specs.Keys.{actor_key}
use Rattle.sal_source.specs.code.Maps.{query_key}
use Rattle.sal_source.proofs.Tables.{slice_get_is, IsFirst-found}
use Rattle.sal_source.proofs.Sorted.{below_more, above_more, splits, only, none_at}
use Rattle.sal_source.proofs.actors.is_there.Goals as goal

halfway : (low high : ℕ) → low < high → low + (high - low) / 2 < high
halfway low high lt = omega arith

pub returns-in-Equal : goal.returns-in-Equal
returns-in-Equal c =
    let m = c.loop-low.low + (c.loop-low.high - c.loop-low.low) / 2 in
    let h : m < c.loop-low.high = halfway c.loop-low.low c.loop-low.high c.loop-low-test.true in
    let got : slice_get c.args.actors.now m ≡ Some c.index-actors-middle.result = slice_get_is c.args.actors.now m c.index-actors-middle.result (omega (arith, c.loop-low.invariant.top)) c.index-actors-middle.is in
    sym (ap is_some (IsFirst-found actor_key (query_key c.args.sought) c.args.actors.now m c.index-actors-middle.result
    (only actor_key (query_key c.args.sought) c.args.actors.now m c.index-actors-middle.result c.requires got (sym c.in-Equal.ensures))))

pub loop-low-preserved-in-Less : goal.loop-low-preserved-in-Less
loop-low-preserved-in-Less c =
    let m = c.loop-low.low + (c.loop-low.high - c.loop-low.low) / 2 in
    let h : m < c.loop-low.high = halfway c.loop-low.low c.loop-low.high c.loop-low-test.true in
    let got : slice_get c.args.actors.now m ≡ Some c.index-actors-middle.result = slice_get_is c.args.actors.now m c.index-actors-middle.result (omega (arith, c.loop-low.invariant.top)) c.index-actors-middle.is in
    record {
      order = omega arith;
      top = c.loop-low.invariant.top;
      below = below_more actor_key (query_key c.args.sought) c.args.actors.now m c.index-actors-middle.result c.requires got (sym c.in-Less.ensures);
      above = c.loop-low.invariant.above;
    }

pub loop-low-preserved : goal.loop-low-preserved
loop-low-preserved c =
    let m = c.loop-low.low + (c.loop-low.high - c.loop-low.low) / 2 in
    let h : m < c.loop-low.high = halfway c.loop-low.low c.loop-low.high c.loop-low-test.true in
    let got : slice_get c.args.actors.now m ≡ Some c.index-actors-middle.result = slice_get_is c.args.actors.now m c.index-actors-middle.result (omega (arith, c.loop-low.invariant.top)) c.index-actors-middle.is in
    record {
      order = omega arith;
      top = omega (arith, c.loop-low.invariant.top);
      below = c.loop-low.invariant.below;
      above = above_more actor_key (query_key c.args.sought) c.args.actors.now m c.index-actors-middle.result c.requires got (sym c.in-Greater.ensures);
    }

pub returns : goal.returns
returns c =
    sym (ap is_some (none_at actor_key (query_key c.args.sought) c.args.actors.now c.loop-low.low c.requires
    (splits actor_key (query_key c.args.sought) c.args.actors.now c.loop-low.low c.loop-low.high c.loop-low-test.false c.loop-low.invariant.below c.loop-low.invariant.above)))
