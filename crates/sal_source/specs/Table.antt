-- Finite tables whose keys are lists of numbers, and sums over them.
use Rattle.std.specs.Prelude.{◌≡◌, ℕ, List}
use Rattle.std.specs.FinMap as fm
pub use Rattle.sal_value.specs.Table.{TableKey, key_cmp, key_eq, Table, write, table_map, table_of, keys_of}
pub use Rattle.sal_mail.specs.Sums.{total}

-- the sum of a number of each value
abbrev pub sum_values : {X : Type 0} → (X → ℕ) → Table X → ℕ
sum_values f t = total (λ e. f e.1) (fm.entries t)

-- The same items in any order: each sum over them is the same.
pub record HasSameItems {A : Type 0} (xs ys : List A) : Type 0 where
  pub weighs : (f : A → ℕ) → total f xs ≡ total f ys
