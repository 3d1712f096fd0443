use Rattle.sal_source.specs.Keys.{made_key}
use Rattle.sal_source.specs.code.Lists.{key_by}
use Rattle.sal_source.proofs.Listing.{put_at, put_last}
use Rattle.sal_source.proofs.made.put.Goals as goal

pub returns-in-Some-clause-distinct : goal.returns-in-Some-clause-distinct
returns-in-Some-clause-distinct g c =
    (put_at (key_by g.T.Made.made_by g.T.Made.number) (made_key c.maker.result.now c.serial.result) c.args.items.now c.in-Some.at c.args.item c.set.new.self
    (λ i. made_key (c.maker.ensures i) (c.serial.ensures i)) c.in-Some.ensures.place c.requires c.set.ensures).distinct

pub returns-in-Some-clause-ok : goal.returns-in-Some-clause-ok
returns-in-Some-clause-ok g c =
    (put_at (key_by g.T.Made.made_by g.T.Made.number) (made_key c.maker.result.now c.serial.result) c.args.items.now c.in-Some.at c.args.item c.set.new.self
    (λ i. made_key (c.maker.ensures i) (c.serial.ensures i)) c.in-Some.ensures.place c.requires c.set.ensures).table

pub returns-in_ok-push-in-None-clause-distinct : goal.returns-in_ok-push-in-None-clause-distinct
returns-in_ok-push-in-None-clause-distinct g c =
    (put_last (key_by g.T.Made.made_by g.T.Made.number) (made_key c.maker.result.now c.serial.result) c.args.items.now c.args.item c.push.new.self
    (λ i. made_key (c.maker.ensures i) (c.serial.ensures i)) c.in-None.ensures.place c.requires c.in_ok-push-in-None.ensures.ok).distinct

pub returns-in_ok-push-in-None-clause-ok : goal.returns-in_ok-push-in-None-clause-ok
returns-in_ok-push-in-None-clause-ok g c =
    (put_last (key_by g.T.Made.made_by g.T.Made.number) (made_key c.maker.result.now c.serial.result) c.args.items.now c.args.item c.push.new.self
    (λ i. made_key (c.maker.ensures i) (c.serial.ensures i)) c.in-None.ensures.place c.requires c.in_ok-push-in-None.ensures.ok).table
