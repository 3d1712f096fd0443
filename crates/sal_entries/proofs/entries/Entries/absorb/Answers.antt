use Rattle.std.proofs.Common.{is_some, sym, ap, ◌∙◌}
use Rattle.std.specs.FinMap as fm
use Rattle.sal_entries.specs.Entries.{values}
use Rattle.sal_entries.proofs.Laws.{room-at, has-first, shorter-popped, absorb-turn, overlaid-none}
use Rattle.sal_entries.proofs.entries.Entries.absorb.Goals as goal

pub change-requires : goal.change-requires
change-requires g c =
    let k = g.K.Keyed.words c.in-Some.key in
    room-at c.loop-key.left c.loop-key.self c.loop-key.invariant.0 k (ap is_some (has-first c.loop-key.left k c.in-Some.value (fm.entries c.pop_first.new.self) c.in-Some.ensures.first))

pub loop-key-smaller : goal.loop-key-smaller
loop-key-smaller g c = shorter-popped c.loop-key.left c.pop_first.new.self (g.K.Keyed.words c.in-Some.key, c.in-Some.value) c.in-Some.ensures.first

pub loop-key-preserved : goal.loop-key-preserved
loop-key-preserved g c =
    absorb-turn c.loop-key.left c.pop_first.new.self c.loop-key.self c.change.new.self (g.K.Keyed.words c.in-Some.key) c.in-Some.value _
    c.in-Some.ensures.first c.change.ensures c.loop-key.invariant.0 c.loop-key.invariant.1

pub returns : goal.returns
returns g c = sym (overlaid-none c.loop-key.left (values c.loop-key.self) c.in_default.ensures.none.0) ∙ c.loop-key.invariant.1
