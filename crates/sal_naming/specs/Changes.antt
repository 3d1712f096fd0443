-- What the operations do to one entry, which only the code's own proofs speak of.
use Rattle.std.specs.Prelude.{ℕ, true, if◌then◌else◌, nat_lt}
use Rattle.sal_value.specs.declared.name.Ual.{Ual}
use Rattle.sal_naming.specs.declared.entry.Entry.{Entry}
use Rattle.sal_naming.specs.declared.entry.Updated.{Updated}
use Rattle.sal_naming.specs.declared.entry.Updated.TheVariants as updated
use Rattle.sal_naming.specs.declared.entry.Deleted.{Deleted}
use Rattle.sal_naming.specs.declared.entry.Deleted.TheVariants as deleted

-- what updating answers, and the entry after it
abbrev pub update_entry : Ual → ℕ → Entry → Updated × Entry
update_entry place moves e =
    if e.withdrawn then (updated.NotFound, e) else
    if nat_lt e.moves moves then (updated.Done, record e { place = place; moves = moves }) else (updated.Stale, e)

-- what deleting answers, and the entry after it
abbrev pub delete_entry : Entry → Deleted × Entry
delete_entry e = if e.withdrawn then (deleted.NotFound, e) else (deleted.Done, record e { withdrawn = true })
