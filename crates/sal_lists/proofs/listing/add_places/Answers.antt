use Rattle.std.proofs.Common.{arith}
use Rattle.sal_entries.specs.Entries.{overlaid}
use Rattle.sal_world.specs.Lists.{put_places}
use Rattle.sal_lists.proofs.Telling.{places_step, places_end}
use Rattle.sal_lists.proofs.listing.add_places.Goals as goal

pub loop-name-preserved : goal.loop-name-preserved
loop-name-preserved c =
    λ b. places_step c.args.stands.now b c.loop-name.name-index c.loop-name-item.result c.in_ok-clone_in.field-0 c.loop-name.changes c.set.new.self (put_places c.args.stands.now (overlaid c.args.changes.now b))
    c.loop-name-test.true c.loop-name-item.is c.in_ok-clone_in.ensures c.in_ok-set.ensures.ok (c.loop-name.invariant b)

pub returns : goal.returns
returns c =
    λ b. places_end c.args.stands.now b c.loop-name.name-index c.loop-name.changes (put_places c.args.stands.now (overlaid c.args.changes.now b)) (omega (arith, c.loop-name-test.false)) (c.loop-name.invariant b)
