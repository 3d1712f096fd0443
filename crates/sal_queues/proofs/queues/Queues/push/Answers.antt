use Rattle.std.proofs.Common.{[], Some, sym, ap, ◌∙◌}
use Rattle.std.specs.Option.{unwrap_or}
use Rattle.std.specs.FinMap as fm
use Rattle.std.proofs.lemmas.Result.{on_ok_weaker, on_err_weaker}
use Rattle.sal_value.specs.Order.{key}
use Rattle.sal_value.specs.Table.{key_cmp, write}
use Rattle.std.specs.BTreeMap.{insert_entry}
use Rattle.sal_value.proofs.Entries.{got, inserted, changed}
use Rattle.sal_value.proofs.Tables.{written_same}
use Rattle.sal_queues.specs.Queues.{filled}
use Rattle.sal_queues.proofs.Laws.{pushed}
use Rattle.sal_queues.proofs.queues.Queues.push.Goals as goal

pub returns-in-Some-clause-ok : goal.returns-in-Some-clause-ok
returns-in-Some-clause-ok g c =
    let k = key c.args.name in
    let there = c.in-Some.ensures.value ∙ got key c.args.name c.self.inside.lists.entries ∙ ap (λ t. fm.get t k) c.self.view_is in
    let new = changed key c.args.name c.add_item.new.list c.in-Some.list.now c.self.inside.lists.entries (c.get_mut.follows.lender c.add_item.new.list).entries (sym c.in-Some.ensures.value) (c.get_mut.follows.holds c.add_item.new.list).0
    ∙ ap (λ t. write t k (Some c.add_item.new.list)) c.self.view_is in
    on_ok_weaker c.add_item.result (λ h.
    ap filled (new ∙ ap (λ l. write c.args.self.now k (Some l)) h)
    ∙ pushed c.args.self.now k c.in-Some.list.now c.args.item (ap (λ o. unwrap_or o []) (sym there))) c.add_item.ensures.ok

pub returns-in-Some-clause-err : goal.returns-in-Some-clause-err
returns-in-Some-clause-err g c =
    let k = key c.args.name in
    let there = c.in-Some.ensures.value ∙ got key c.args.name c.self.inside.lists.entries ∙ ap (λ t. fm.get t k) c.self.view_is in
    let new = changed key c.args.name c.add_item.new.list c.in-Some.list.now c.self.inside.lists.entries (c.get_mut.follows.lender c.add_item.new.list).entries (sym c.in-Some.ensures.value) (c.get_mut.follows.holds c.add_item.new.list).0
    ∙ ap (λ t. write t k (Some c.add_item.new.list)) c.self.view_is in
    on_err_weaker c.add_item.result (λ h.
    new ∙ ap (λ l. write c.args.self.now k (Some l)) h ∙ written_same c.args.self.now k c.in-Some.list.now (sym there)) c.add_item.ensures.err

pub returns-clause-ok : goal.returns-clause-ok
returns-clause-ok g c =
    let k = key c.args.name in
    let none = c.in_default.ensures.value ∙ got key c.args.name c.self.inside.lists.entries ∙ ap (λ t. fm.get t k) c.self.view_is in
    ap filled (
    inserted key c.args.name c.in_ok-list.list c.self.inside.lists.entries c.insert.new.self.entries (c.in_ok-insert.ensures.entries ∙ ap (λ m. insert_entry (λ a b. key_cmp (key a) (key b)) m c.args.name c.in_ok-list.list) (ap (λ m. m.entries) c.get_mut.follows.holds-at-none))
    ∙ ap (λ t. write t k (Some c.in_ok-list.list)) c.self.view_is
    ∙ ap (λ l. write c.args.self.now k (Some l)) c.in_ok-list.ensures
    )
    ∙ pushed c.args.self.now k [] c.args.item (ap (λ o. unwrap_or o []) (sym none))
