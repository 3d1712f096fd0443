-- Tables whose entries may be empty. An empty entry is room for a value, or, where the table lists changes of another
-- table, a value that is taken out there.
use Rattle.std.specs.Prelude.{◌≡◌, true, List, [], ◌∷◌, map, Option, Some, None}
use Rattle.std.specs.Coded.{Coded, coded_ℕ, coded_list, coded_option}
use Rattle.std.specs.List.{fold}
use Rattle.std.specs.Option.{option_flatten}
use Rattle.std.specs.FinMap as fm
use Rattle.sal_value.specs.Table.{TableKey, Table, write}

-- at each key no entry, an empty one, or a value
abbrev pub Entries : Type 0 → Type 0
Entries V = Table (Option V)

-- the code of these tables
abbrev pub entries_code : {V : Type 0} → Coded V → Coded (Entries V)
entries_code v = fm.code (coded_list coded_ℕ) (coded_option v)

-- the value at the key
abbrev pub value_at : {V : Type 0} → Entries V → TableKey → Option V
value_at t k = option_flatten (fm.get t k)

abbrev pub with_room_by : {V : Type 0} → Option (Option V) → TableKey → Entries V → Entries V
with_room_by None k t = write t k (Some None)
with_room_by (Some o) k t = t

-- the table with an entry at the key, an empty one where there was none
unfoldable pub with_room : {V : Type 0} → TableKey → Entries V → Entries V
with_room k t = with_room_by (fm.get t k) k t

-- each key of the one has an entry in the other
unfoldable pub HasRoomFor : {X Y : Type 0} → Table X → Table Y → Type 0
HasRoomFor more t = (k : TableKey) → fm.contains_key more k ≡ true → fm.contains_key t k ≡ true

-- ---- the values

abbrev pub before_values : {V : Type 0} → TableKey → Option V → List (TableKey × V) → List (TableKey × V)
before_values k None more = more
before_values k (Some v) more = (k, v) ∷ more

-- the entries that have a value
abbrev pub value_entries : {V : Type 0} → List (TableKey × Option V) → List (TableKey × V)
value_entries [] = []
value_entries (e ∷ es) = before_values e.0 e.1 (value_entries es)

-- the table of the values
unfoldable pub values : {V : Type 0} → Entries V → Table V
values t = fm.from_entries (value_entries (fm.entries t))

-- ---- changes of another table

-- the table after these changes, the first of them first
abbrev pub after_changes : {V : Type 0} → List (TableKey × Option V) → Table V → Table V
after_changes es b = fold (λ t e. write t e.0 e.1) b es

-- The table after the changes: at the key of a change its value, or nothing where it has none, and at any other key
-- what is there.
unfoldable pub overlaid : {V : Type 0} → Entries V → Table V → Table V
overlaid c b = after_changes (fm.entries c) b

-- the entries with the words of their keys
abbrev pub word_entries : {K X : Type 0} → (K → TableKey) → List (K × X) → List (TableKey × X)
word_entries words es = map (λ e. (words e.0, e.1)) es
