use Rattle.std.proofs.Common.{ℕ, refl, ap, sym, ◌∙◌, Some, None}
use Rattle.sal_value.specs.declared.name.Name.{Name}
use Rattle.sal_mail.specs.declared.message.Join.{Join}
use Rattle.sal_source.specs.Keys.{join_key}
use Rattle.sal_source.specs.code.Maps.{join_of, join_entry_key}
use Rattle.sal_source.specs.declared.open_joins.OpenJoin.{OpenJoin}
use Rattle.sal_source.proofs.Mapping.{got, same_key, removed}
use Rattle.sal_source.proofs.open_joins.take.Goals as goal

pub returns-in-Some-clause-taken : goal.returns-in-Some-clause-taken
returns-in-Some-clause-taken c =
    ap (λ (j : Name × Join). Some j) c.join_at.ensures
    ∙ got join_entry_key join_key join_of (λ e. refl) (λ (e : (ℕ × Name) × OpenJoin). e.0) (λ (e : (ℕ × Name) × OpenJoin). e.1) c.args.key.now (Some (c.in-Some.key, c.in-Some.rest)) c.args.joins.now.entries c.in-Some.ensures.key c.in-Some.ensures.value

pub returns-in-Some-clause-keyed : goal.returns-in-Some-clause-keyed
returns-in-Some-clause-keyed c =
    same_key join_entry_key join_key join_of (λ e. refl) (λ (e : (ℕ × Name) × OpenJoin). e.0) (λ (e : (ℕ × Name) × OpenJoin). e.1) c.args.key.now (Some (c.in-Some.key, c.in-Some.rest)) c.in-Some.ensures.same_key
    ∙ ap join_key (sym c.join_at.ensures)

pub returns-in-Some-clause-rest : goal.returns-in-Some-clause-rest
returns-in-Some-clause-rest c = removed join_entry_key join_key join_of (λ e. refl) c.args.key.now c.args.joins.now.entries c.remove_entry.new.self.entries c.in-Some.ensures.entries c.in-Some.ensures.updates.1

pub returns-in-None-clause-taken : goal.returns-in-None-clause-taken
returns-in-None-clause-taken c = got join_entry_key join_key join_of (λ e. refl) (λ (e : (ℕ × Name) × OpenJoin). e.0) (λ (e : (ℕ × Name) × OpenJoin). e.1) c.args.key.now None c.args.joins.now.entries c.in-None.ensures.key c.in-None.ensures.value

pub returns-in-None-clause-rest : goal.returns-in-None-clause-rest
returns-in-None-clause-rest c = removed join_entry_key join_key join_of (λ e. refl) c.args.key.now c.args.joins.now.entries c.remove_entry.new.self.entries c.in-None.ensures.entries c.in-None.ensures.updates.1
