-- Tables in which actors stand under their names.
use Rattle.std.specs.Prelude.{◌≡◌, Some}
use Rattle.sal_value.specs.Table.{TableKey}
use Rattle.sal_source.specs.Keys.{name_key}
use Rattle.sal_resident.specs.declared.resident.Resident.{Resident}
use Rattle.sal_entries.specs.Entries.{Entries, value_at}

pub record AreKeyed (t : Entries Resident) : Type 0 where
  pub keyed : (k : TableKey) (r : Resident) → value_at t k ≡ Some r → name_key r.name ≡ k
