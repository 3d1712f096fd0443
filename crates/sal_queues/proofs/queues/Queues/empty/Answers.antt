use Rattle.std.proofs.Common.{Some, sym, ap, subst, ◌∙◌}
use Rattle.std.specs.FinMap as fm
use Rattle.sal_value.specs.Order.{key}
use Rattle.sal_value.specs.Table.{table_by, write}
use Rattle.sal_value.proofs.Entries.{got, changed}
use Rattle.sal_queues.specs.Queues.{filled, KeepsRoom}
use Rattle.sal_queues.proofs.Rooms.{emptied, emptied_none, keeps_emptied, keeps_itself}
use Rattle.sal_queues.proofs.queues.Queues.empty.Goals as goal

pub returns-in_default-clause-queues : goal.returns-in_default-clause-queues
returns-in_default-clause-queues g c =
    let k = key c.args.name.now in
    let none = c.in_default.ensures.value ∙ got key c.args.name.now c.self.inside.lists.entries ∙ ap (λ t. fm.get t k) c.self.view_is in
    ap filled (ap (λ m. table_by key m.entries) c.get_mut.follows.holds-at-none ∙ c.self.view_is) ∙ emptied_none c.args.self.now k none

pub returns-in_default-clause-room : goal.returns-in_default-clause-room
returns-in_default-clause-room g c =
    subst (KeepsRoom c.args.self.now) (sym (ap (λ m. table_by key m.entries) c.get_mut.follows.holds-at-none ∙ c.self.view_is)) (keeps_itself c.args.self.now)

pub returns-clause-queues : goal.returns-clause-queues
returns-clause-queues g c =
    let k = key c.args.name.now in
    let list = c.clear.new.self in
    let new = changed key c.args.name.now list c.in-Some.list.now c.self.inside.lists.entries (c.get_mut.follows.lender list).entries (sym c.in-Some.ensures.value) (c.get_mut.follows.holds list).0
    ∙ ap (λ t. write t k (Some list)) c.self.view_is ∙ ap (λ l. write c.args.self.now k (Some l)) c.clear.ensures in
    ap filled new ∙ emptied c.args.self.now k

pub returns-clause-room : goal.returns-clause-room
returns-clause-room g c =
    let k = key c.args.name.now in
    let list = c.clear.new.self in
    let new = changed key c.args.name.now list c.in-Some.list.now c.self.inside.lists.entries (c.get_mut.follows.lender list).entries (sym c.in-Some.ensures.value) (c.get_mut.follows.holds list).0
    ∙ ap (λ t. write t k (Some list)) c.self.view_is ∙ ap (λ l. write c.args.self.now k (Some l)) c.clear.ensures in
    subst (KeepsRoom c.args.self.now) (sym new) (keeps_emptied c.args.self.now k)
