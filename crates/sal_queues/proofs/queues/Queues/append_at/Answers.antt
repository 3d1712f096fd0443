use Rattle.std.proofs.Common.{◌++◌, [], Some, sym, ap, subst, ◌∙◌}
use Rattle.std.specs.Option.{unwrap_or}
use Rattle.std.specs.FinMap as fm
use Rattle.sal_value.specs.Order.{key}
use Rattle.sal_value.specs.Table.{write}
use Rattle.sal_value.proofs.Entries.{got, changed}
use Rattle.sal_queues.specs.Queues.{HasRoomAt}
use Rattle.sal_queues.proofs.queues.Queues.append_at.Goals as goal

pub returns-in_default : goal.returns-in_default
returns-in_default g c =
    let k = key c.args.name.now in
    let none = c.in_default.ensures.value ∙ got key c.args.name.now c.self.inside.lists.entries ∙ ap (λ t. fm.get t k) c.self.view_is in
    absurd (subst (HasRoomAt (Some c.args.more)) (sym none) c.requires)

pub join_lists-requires : goal.join_lists-requires
join_lists-requires g c =
    let k = key c.args.name.now in
    let there = c.in-Some.ensures.value ∙ got key c.args.name.now c.self.inside.lists.entries ∙ ap (λ t. fm.get t k) c.self.view_is in
    subst (HasRoomAt (Some c.args.more)) (sym there) c.requires

pub returns : goal.returns
returns g c =
    let k = key c.args.name.now in
    let there = c.in-Some.ensures.value ∙ got key c.args.name.now c.self.inside.lists.entries ∙ ap (λ t. fm.get t k) c.self.view_is in
    changed key c.args.name.now c.join_lists.new.list c.in-Some.list.now c.self.inside.lists.entries (c.get_mut.follows.lender c.join_lists.new.list).entries (sym c.in-Some.ensures.value) (c.get_mut.follows.holds c.join_lists.new.list).0
    ∙ ap (λ t. write t k (Some c.join_lists.new.list)) c.self.view_is
    ∙ ap (λ l. write c.args.self.now k (Some l)) (c.join_lists.ensures ∙ ap (λ o. unwrap_or o [] ++ c.args.more) there)
