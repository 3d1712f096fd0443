use Rattle.std.proofs.Common.{Some, sym, ap, ◌∙◌}
use Rattle.sal_source.specs.Keys.{name_key}
use Rattle.sal_resident.specs.declared.resident.Resident.{Resident}
use Rattle.sal_desk.proofs.Keeping.{set_keyed}
use Rattle.sal_desk.proofs.residents.Residents.put.Goals as goal

pub invariant_of-self : goal.invariant_of-self
invariant_of-self c =
    set_keyed c.self.inside.entries c.set.new.self (name_key c.in_ok-name.name) (Some c.args.actor) c.set.result c.set.ensures.ok c.set.ensures.err
    (ap (λ (r : Resident). name_key r.name) (sym c.resident.ensures.resident) ∙ ap name_key (sym c.in_ok-name.ensures)) c.self.invariant
