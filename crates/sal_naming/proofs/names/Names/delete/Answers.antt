use Rattle.std.proofs.Common.{sym, ap, ◌∙◌}
use Rattle.sal_value.specs.Order.{uan_key}
use Rattle.sal_value.specs.Table.{table_by}
use Rattle.sal_value.proofs.Entries.{got, changed}
use Rattle.sal_naming.specs.declared.entry.Deleted.TheVariants as deleted
use Rattle.sal_naming.specs.Table.{Names, entry_of, keep}
use Rattle.sal_naming.proofs.Changes.{deletes, deletes_none}
use Rattle.sal_naming.proofs.names.Names.delete.Goals as goal

pub returns-in_default : goal.returns-in_default
returns-in_default c =
    ap (λ (t : Names). (deleted.NotFound, t)) (ap (λ m. table_by uan_key m.entries) c.get_mut.follows.holds-at-none ∙ c.self.view_is)
    ∙ deletes_none c.args.name.now c.args.self.now
    (c.in_default.ensures.value ∙ got uan_key c.args.name.now c.self.inside.entries.entries ∙ ap (λ (t : Names). entry_of c.args.name.now t) c.self.view_is)

pub returns : goal.returns
returns c =
    deletes c.args.name.now c.in-Some.entry.now c.delete.new.self c.delete.result c.args.self.now _
    (c.in-Some.ensures.value ∙ got uan_key c.args.name.now c.self.inside.entries.entries ∙ ap (λ (t : Names). entry_of c.args.name.now t) c.self.view_is)
    c.delete.ensures
    (changed uan_key c.args.name.now c.delete.new.self c.in-Some.entry.now c.self.inside.entries.entries (c.get_mut.follows.lender c.delete.new.self).entries (sym c.in-Some.ensures.value) (c.get_mut.follows.holds c.delete.new.self).0
    ∙ ap (λ (t : Names). keep c.args.name.now c.delete.new.self t) c.self.view_is)
