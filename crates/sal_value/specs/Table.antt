-- Finite tables whose keys are lists of numbers.
use Rattle.std.specs.Prelude.{ℕ, Bool, List, map, Option, Some, None}
use Rattle.std.specs.Ordering.{nat_cmp, eq_by_cmp}
use Rattle.std.specs.Cmp.Lexicographic.{slice_cmp}
use Rattle.std.specs.declared.cmp.Ordering.{Ordering}
use Rattle.std.specs.FinMap as fm
use Rattle.std.specs.FinSet as fs

-- a key: a list of numbers
abbrev pub TableKey : Type 0
TableKey = List ℕ

-- the order of keys: by the first numbers that differ, and a key before those that it begins
abbrev pub key_cmp : TableKey → TableKey → Ordering
key_cmp = slice_cmp nat_cmp

-- two keys are the same
abbrev pub key_eq : TableKey → TableKey → Bool
key_eq = eq_by_cmp key_cmp

-- a finite table, with at most one value at each key
abbrev pub Table : Type 0 → Type 0
Table X = fm.FinMap key_cmp X

-- the table with this value at the key, or with nothing there
abbrev pub write : {X : Type 0} → Table X → TableKey → Option X → Table X
write t k None = fm.remove t k
write t k (Some x) = fm.insert t k x

-- each value changed
abbrev pub table_map : {X Y : Type 0} → (X → Y) → Table X → Table Y
table_map f t = fm.from_sorted (map (λ e. (e.0, f e.1)) (fm.entries t))

-- the table of these values, each at its key
abbrev pub table_of : {X : Type 0} → (X → TableKey) → List X → Table X
table_of key xs = fm.from_entries (map (λ x. (key x, x)) xs)

-- the keys of a table
abbrev pub keys_of : {X : Type 0} → Table X → fs.FinSet key_cmp
keys_of t = fs.from_list (fm.keys t)

-- the table of these entries, whose keys have these words; of entries at one key the first counts
abbrev pub table_by : {K X : Type 0} → (K → TableKey) → List (K × X) → Table X
table_by words es = fm.from_entries (map (λ e. (words e.0, e.1)) es)
