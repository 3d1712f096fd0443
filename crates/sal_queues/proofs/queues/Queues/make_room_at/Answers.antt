use Rattle.std.proofs.Common.{[], length, ◌+◌, ◌^◌, ◌<◌, Some, ap, subst, ◌∙◌, arith}
use Rattle.std.specs.Option.{unwrap_or}
use Rattle.std.specs.FinMap as fm
use Rattle.sal_value.specs.Order.{key}
use Rattle.sal_value.specs.Table.{write}
use Rattle.sal_value.proofs.Entries.{got, inserted}
use Rattle.sal_queues.proofs.Rooms.{room_there, room_made}
use Rattle.sal_queues.proofs.queues.Queues.make_room_at.Goals as goal

pub returns-in-Some-clause-room : goal.returns-in-Some-clause-room
returns-in-Some-clause-room g c =
    let k = key c.args.name.now in
    let there = c.in-Some.ensures.value ∙ got key c.args.name.now c.self.inside.lists.entries ∙ ap (λ t. fm.get t k) c.self.view_is in
    room_there c.args.self.now k c.in-Some.list.now there

pub returns-in-Some-clause-fits : goal.returns-in-Some-clause-fits
returns-in-Some-clause-fits g c =
    let k = key c.args.name.now in
    let there = c.in-Some.ensures.value ∙ got key c.args.name.now c.self.inside.lists.entries ∙ ap (λ t. fm.get t k) c.self.view_is in
    subst (λ o. length (unwrap_or o []) + c.args.count < 2 ^ 63) there (c.fits.ensures.0 c.if-not-fits.false)

pub returns-clause-room : goal.returns-clause-room
returns-clause-room g c =
    let k = key c.args.name.now in
    let none = c.in_default.ensures.value ∙ got key c.args.name.now c.self.inside.lists.entries ∙ ap (λ t. fm.get t k) c.self.view_is in
    inserted key c.in_ok-name.name c.new.result c.self.inside.lists.entries c.insert.new.self.entries c.in_ok-insert.ensures.entries
    ∙ ap (λ t. write t (key c.in_ok-name.name) (Some c.new.result)) c.self.view_is
    ∙ ap (λ n. write c.args.self.now (key n) (Some c.new.result)) c.in_ok-name.ensures
    ∙ ap (λ l. write c.args.self.now k (Some l)) c.new.ensures
    ∙ room_made c.args.self.now k none

pub returns-clause-fits : goal.returns-clause-fits
returns-clause-fits g c =
    let k = key c.args.name.now in
    let none = c.in_default.ensures.value ∙ got key c.args.name.now c.self.inside.lists.entries ∙ ap (λ t. fm.get t k) c.self.view_is in
    subst (λ o. length (unwrap_or o []) + c.args.count < 2 ^ 63) none (omega (arith, c.requires))
