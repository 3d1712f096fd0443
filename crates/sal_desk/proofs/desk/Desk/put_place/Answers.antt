use Rattle.std.proofs.lemmas.Result.{on_ok_weaker}
use Rattle.sal_desk.proofs.Desks.{place_put, place_kept}
use Rattle.sal_desk.proofs.desk.Desk.put_place.Goals as goal

pub returns-then-not-is_news : goal.returns-then-not-is_news
returns-then-not-is_news c = place_kept c.args.name c.args.theatre c.args.moves c.args.self.now c.is_news.result c.is_news.ensures c.if-not-is_news.true

pub returns : goal.returns
returns c =
    on_ok_weaker c.set.result (λ h.
    place_put c.self.inside.state.now c.self.inside.draft c.args.name c.args.theatre c.args.moves c.set.new.self c.args.self.now c.is_news.result c.self.view_is
    c.is_news.ensures c.if-not-is_news.false h) c.set.ensures.ok
