use Rattle.std.proofs.Common.{sym, ◌∙◌, add-one}
use Rattle.sal_source.specs.Keys.{made_key}
use Rattle.sal_source.specs.code.Lists.{key_by}
use Rattle.sal_source.proofs.Tables.{first_here, found-more, slice_get_is}
use Rattle.sal_source.proofs.made.place_in.Goals as goal

pub returns-then-is_made_by-clause-place : goal.returns-then-is_made_by-clause-place
returns-then-is_made_by-clause-place g c = (
  c.index-items-at.result,
  first_here (key_by g.T.Made.made_by g.T.Made.number) (made_key c.args.maker.now c.args.serial) c.args.items.now c.loop-at.at c.index-items-at.result
      (slice_get_is c.args.items.now c.loop-at.at c.index-items-at.result c.loop-at-test.true c.index-items-at.is)
      (sym c.is_made_by.ensures ∙ c.if-is_made_by.true) c.loop-at.invariant,
)

pub loop-at-preserved : goal.loop-at-preserved
loop-at-preserved g c =
    rw add-one (found-more (key_by g.T.Made.made_by g.T.Made.number) (made_key c.args.maker.now c.args.serial) c.args.items.now c.loop-at.at c.index-items-at.result
    (slice_get_is c.args.items.now c.loop-at.at c.index-items-at.result c.loop-at-test.true c.index-items-at.is)
    (sym c.is_made_by.ensures ∙ c.if-is_made_by.false) c.loop-at.invariant)
