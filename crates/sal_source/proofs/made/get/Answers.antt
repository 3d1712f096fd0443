use Rattle.std.proofs.Common.{◌∙◌}
use Rattle.sal_source.specs.Keys.{made_key}
use Rattle.sal_source.specs.code.Lists.{key_by}
use Rattle.sal_source.proofs.Listing.{got_at, none_taken}
use Rattle.sal_source.proofs.made.get.Goals as goal

pub returns-in-Some : goal.returns-in-Some
returns-in-Some g c = c.get.ensures.value ∙ got_at (key_by g.T.Made.made_by g.T.Made.number) (made_key c.args.maker.now c.args.serial) c.args.items.now c.in-Some.at c.in-Some.ensures.place

pub returns-in-None : goal.returns-in-None
returns-in-None g c = none_taken (key_by g.T.Made.made_by g.T.Made.number) (made_key c.args.maker.now c.args.serial) c.args.items.now c.in-None.ensures.place
