use Rattle.std.proofs.Common.{◌≡◌, ℕ, drop}
use Rattle.sal_value.specs.Table.{Table}
use Rattle.sal_entries.specs.Entries.{overlaid}
use Rattle.sal_world.specs.Lists as spec
use Rattle.sal_lists.proofs.listing.add_places.Given as goal

abbrev pub invariant-loop-name : goal.invariant-loop-name
invariant-loop-name l = (b : Table ℕ) → spec.put_places (drop l.name-index l.stands) (overlaid l.changes b) ≡ spec.put_places l.stands (overlaid l.fn.changes b)
