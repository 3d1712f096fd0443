use Rattle.std.proofs.Common.{sym, ap, ◌∙◌}
use Rattle.sal_value.specs.Order.{uan_key}
use Rattle.sal_value.specs.Table.{table_by}
use Rattle.sal_value.proofs.Entries.{got, changed}
use Rattle.sal_naming.specs.declared.entry.Updated.TheVariants as updated
use Rattle.sal_naming.specs.Table.{Names, entry_of, keep}
use Rattle.sal_naming.proofs.Changes.{updates, updates_none}
use Rattle.sal_naming.proofs.names.Names.update.Goals as goal

pub returns-in_default : goal.returns-in_default
returns-in_default c =
    ap (λ (t : Names). (updated.NotFound, t)) (ap (λ m. table_by uan_key m.entries) c.get_mut.follows.holds-at-none ∙ c.self.view_is)
    ∙ updates_none c.args.name.now c.args.place c.args.moves c.args.self.now
    (c.in_default.ensures.value ∙ got uan_key c.args.name.now c.self.inside.entries.entries ∙ ap (λ (t : Names). entry_of c.args.name.now t) c.self.view_is)

pub returns : goal.returns
returns c =
    updates c.args.name.now c.args.place c.args.moves c.in-Some.entry.now c.update.new.self c.update.result c.args.self.now _
    (c.in-Some.ensures.value ∙ got uan_key c.args.name.now c.self.inside.entries.entries ∙ ap (λ (t : Names). entry_of c.args.name.now t) c.self.view_is)
    c.update.ensures
    (changed uan_key c.args.name.now c.update.new.self c.in-Some.entry.now c.self.inside.entries.entries (c.get_mut.follows.lender c.update.new.self).entries (sym c.in-Some.ensures.value) (c.get_mut.follows.holds c.update.new.self).0
    ∙ ap (λ (t : Names). keep c.args.name.now c.update.new.self t) c.self.view_is)
