use Rattle.sal_source.specs.Keys.{made_key}
use Rattle.sal_source.specs.code.Lists.{key_by}
use Rattle.sal_source.proofs.Listing.{took, none_taken, none_lost}
use Rattle.sal_source.proofs.made.take.Goals as goal

pub returns-in-Some-clause-distinct : goal.returns-in-Some-clause-distinct
returns-in-Some-clause-distinct g c =
    (took (key_by g.T.Made.made_by g.T.Made.number) (made_key c.args.maker.now c.args.serial) c.args.items.now c.in-Some.at c.remove.result c.remove.new.self
    c.in-Some.ensures.place c.remove.ensures.item c.requires c.remove.ensures.rest).distinct

pub returns-in-Some-clause-taken : goal.returns-in-Some-clause-taken
returns-in-Some-clause-taken g c =
    (took (key_by g.T.Made.made_by g.T.Made.number) (made_key c.args.maker.now c.args.serial) c.args.items.now c.in-Some.at c.remove.result c.remove.new.self
    c.in-Some.ensures.place c.remove.ensures.item c.requires c.remove.ensures.rest).taken

pub returns-in-Some-clause-keyed : goal.returns-in-Some-clause-keyed
returns-in-Some-clause-keyed g c =
    (took (key_by g.T.Made.made_by g.T.Made.number) (made_key c.args.maker.now c.args.serial) c.args.items.now c.in-Some.at c.remove.result c.remove.new.self
    c.in-Some.ensures.place c.remove.ensures.item c.requires c.remove.ensures.rest).keyed

pub returns-in-Some-clause-rest : goal.returns-in-Some-clause-rest
returns-in-Some-clause-rest g c =
    (took (key_by g.T.Made.made_by g.T.Made.number) (made_key c.args.maker.now c.args.serial) c.args.items.now c.in-Some.at c.remove.result c.remove.new.self
    c.in-Some.ensures.place c.remove.ensures.item c.requires c.remove.ensures.rest).rest

pub returns-in-None-clause-taken : goal.returns-in-None-clause-taken
returns-in-None-clause-taken g c = none_taken (key_by g.T.Made.made_by g.T.Made.number) (made_key c.args.maker.now c.args.serial) c.args.items.now c.in-None.ensures.place

pub returns-in-None-clause-rest : goal.returns-in-None-clause-rest
returns-in-None-clause-rest g c = none_lost (key_by g.T.Made.made_by g.T.Made.number) (made_key c.args.maker.now c.args.serial) c.args.items.now c.in-None.ensures.place
