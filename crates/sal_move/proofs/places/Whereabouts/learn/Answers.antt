use Rattle.std.proofs.Common.{sym, ap, ◌∙◌}
use Rattle.sal_value.specs.Order.{uan_key}
use Rattle.sal_value.specs.Table.{table_by, write}
use Rattle.sal_value.proofs.Entries.{got, inserted, changed}
use Rattle.std.specs.Prelude.{Some}
use Rattle.sal_move.specs.Places.{Places, place_of}
use Rattle.sal_move.proofs.Keeping.{place, tells_news, keeps_newer, is_first, keeps_first}
use Rattle.sal_move.proofs.places.Whereabouts.learn.Goals as goal

pub returns-in-Some-clause-news : goal.returns-in-Some-clause-news
returns-in-Some-clause-news c =
    tells_news c.args.name c.args.theatre c.args.moves c.args.self.now c.in-Some.known.now c.learn.new.self
    (c.in-Some.ensures.value ∙ got uan_key c.args.name c.self.inside.places.entries ∙ ap (λ (t : Places). place_of c.args.name t) c.self.view_is)
    c.learn.result c.learn.ensures

pub returns-in-Some-clause-ok : goal.returns-in-Some-clause-ok
returns-in-Some-clause-ok c =
    keeps_newer c.args.name c.args.theatre c.args.moves c.args.self.now c.in-Some.known.now c.learn.new.self
    (c.in-Some.ensures.value ∙ got uan_key c.args.name c.self.inside.places.entries ∙ ap (λ (t : Places). place_of c.args.name t) c.self.view_is)
    c.learn.result c.learn.ensures _
    (changed uan_key c.args.name c.learn.new.self c.in-Some.known.now c.self.inside.places.entries (c.get_mut.follows.lender c.learn.new.self).entries (sym c.in-Some.ensures.value) (c.get_mut.follows.holds c.learn.new.self).0
    ∙ ap (λ (t : Places). write t (uan_key c.args.name) (Some c.learn.new.self)) c.self.view_is)

pub returns-clause-news : goal.returns-clause-news
returns-clause-news c =
    is_first c.args.name c.args.theatre c.args.moves c.args.self.now
    (c.in_default.ensures.value ∙ got uan_key c.args.name c.self.inside.places.entries ∙ ap (λ (t : Places). place_of c.args.name t) c.self.view_is)

pub returns-clause-ok : goal.returns-clause-ok
returns-clause-ok c =
    keeps_first c.args.name c.args.theatre c.args.moves c.args.self.now
    (c.in_default.ensures.value ∙ got uan_key c.args.name c.self.inside.places.entries ∙ ap (λ (t : Places). place_of c.args.name t) c.self.view_is) _
    (inserted uan_key c.args.name (place c.args.theatre c.args.moves) c.get_mut.follows.lender-at-none.entries c.insert.new.self.entries c.in_ok-insert.ensures.entries
    ∙ ap (λ (t : Places). write t (uan_key c.args.name) (Some (place c.args.theatre c.args.moves))) (ap (λ m. table_by uan_key m.entries) c.get_mut.follows.holds-at-none ∙ c.self.view_is))
