-- The table of a naming service, and its four operations.
use Rattle.std.specs.Prelude.{ℕ, true, false, if◌then◌else◌, nat_lt, Option, Some, None, option_and_then}
use Rattle.std.specs.Coded.{Coded, coded_ℕ, coded_list}
use Rattle.std.specs.FinMap as fm
use Rattle.sal_value.specs.declared.name.Uan.{Uan}
use Rattle.sal_value.specs.declared.name.Ual.{Ual}
use Rattle.sal_value.specs.Order.{uan_key}
use Rattle.sal_value.specs.Table.{Table, write}
use Rattle.sal_naming.specs.declared.entry.Entry.{Entry}
use Rattle.sal_naming.specs.contracts.entry.Entry.{the_row as entry_row}
use Rattle.sal_naming.specs.declared.entry.Get.{Get}
use Rattle.sal_naming.specs.declared.entry.Get.TheVariants as get
use Rattle.sal_naming.specs.declared.entry.Put.{Put}
use Rattle.sal_naming.specs.declared.entry.Put.TheVariants as put
use Rattle.sal_naming.specs.declared.entry.Updated.{Updated}
use Rattle.sal_naming.specs.declared.entry.Updated.TheVariants as updated
use Rattle.sal_naming.specs.declared.entry.Deleted.{Deleted}
use Rattle.sal_naming.specs.declared.entry.Deleted.TheVariants as deleted

-- each name ever given, with what is kept of it
abbrev pub Names : Type 0
Names = Table Entry

-- the code of these tables
abbrev pub names_code : Coded Names
names_code = fm.code (coded_list coded_ℕ) entry_row.coded

-- what is kept of a name, where it was ever given
abbrev pub entry_of : Uan → Names → Option Entry
entry_of u t = fm.get t (uan_key u)

abbrev pub if_standing : Entry → Option Entry
if_standing e = if e.withdrawn then None else Some e

-- what is kept of a name that was given and not withdrawn
abbrev pub standing_entry : Uan → Names → Option Entry
standing_entry u t = option_and_then if_standing (entry_of u t)

-- the table with this kept of the name
abbrev pub keep : Uan → Entry → Names → Names
keep u e t = write t (uan_key u) (Some e)

-- ---- put: a name is given once for ever

abbrev pub put_by : Option Entry → Uan → Ual → Names → Put × Names
put_by None u place t = (put.Bound, keep u (record { place = place; moves = 0; withdrawn = false }) t)
put_by (Some e) u place t = (put.Taken, t)

unfoldable pub put_name : Uan → Ual → Names → Put × Names
put_name u place t = put_by (entry_of u t) u place t

-- ---- get

abbrev pub place_and_moves_of : Option Entry → Option (Ual × ℕ)
place_and_moves_of None = None
place_and_moves_of (Some e) = Some (e.place, e.moves)

-- locator and moves, where the name was given and not withdrawn
unfoldable pub get_name : Uan → Names → Option (Ual × ℕ)
get_name u t = place_and_moves_of (standing_entry u t)

-- locator and moves, where an answer has them
abbrev pub place_and_moves : Get → Option (Ual × ℕ)
place_and_moves (get.At place moves) = Some (place.now, moves)
place_and_moves get.NotFound = None

-- ---- update: only by more moves

abbrev pub update_by : Option Entry → Uan → Ual → ℕ → Names → Updated × Names
update_by None u place moves t = (updated.NotFound, t)
update_by (Some e) u place moves t = if nat_lt e.moves moves then (updated.Done, keep u (record e { place = place; moves = moves }) t) else (updated.Stale, t)

unfoldable pub update_name : Uan → Ual → ℕ → Names → Updated × Names
update_name u place moves t = update_by (standing_entry u t) u place moves t

-- ---- delete: a name is withdrawn for good

abbrev pub delete_by : Option Entry → Uan → Names → Deleted × Names
delete_by None u t = (deleted.NotFound, t)
delete_by (Some e) u t = (deleted.Done, keep u (record e { withdrawn = true }) t)

unfoldable pub delete_name : Uan → Names → Deleted × Names
delete_name u t = delete_by (standing_entry u t) u t
