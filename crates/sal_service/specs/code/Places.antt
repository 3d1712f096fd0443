-- The locators in a table of names.
use Rattle.std.specs.Prelude.{◌≡◌, true, Some}
use Rattle.std.specs.FinMap as fm
use Rattle.sal_value.specs.Names.{is_ual}
use Rattle.sal_value.specs.Table.{TableKey}
use Rattle.sal_naming.specs.declared.entry.Entry.{Entry}
use Rattle.sal_naming.specs.Table.{Names}

-- each has a canonical text that reading gives
pub record PlacesAreGood (t : Names) : Type 0 where
  pub good : (k : TableKey) (e : Entry) → fm.get t k ≡ Some e → is_ual e.place ≡ true
