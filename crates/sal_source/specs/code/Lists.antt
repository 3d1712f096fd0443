-- How lists stand for tables: what the code that keeps a configuration finds in its lists.
use Rattle.std.specs.Prelude.{◌≡◌, ℕ, zero, suc, Bool, IfSome, true, false, cond, map, List, [], ◌∷◌, Option, Some, None, T}
use Rattle.std.specs.FinMap as fm
use Rattle.std.specs.FinMap.Entries.{is_sorted}
use Rattle.std.specs.declared.cmp.Ordering.TheVariants.{Less}
use Rattle.sal_value.specs.declared.name.Name.{Name}
use Rattle.sal_source.specs.Table.{TableKey, Table, key_cmp, key_eq}
use Rattle.sal_source.specs.Keys.{made_key}

-- the key of what an actor made, by its maker and number
abbrev pub key_by : {X : Type 0} → (X → Name) → (X → ℕ) → X → TableKey
key_by maker number x = made_key (maker x) (number x)

-- the first item at a key
abbrev pub first_at_key : {X : Type 0} → (X → TableKey) → TableKey → List X → Option X
first_at_key key q [] = None
first_at_key key q (x ∷ xs) = cond (key_eq q (key x)) (Some x) (first_at_key key q xs)

-- at this place stands this item, the first one at the key
abbrev pub IsFirst : {X : Type 0} → (X → TableKey) → TableKey → List X → ℕ → X → Type 0
IsFirst key q [] i y = ⊥
IsFirst key q (x ∷ xs) zero y = (key_eq q (key x) ≡ true) × (x ≡ y)
IsFirst key q (x ∷ xs) (suc i) y = (key_eq q (key x) ≡ false) × IsFirst key q xs i y

-- the place of the first item at the key, or none
abbrev pub Finds : {X : Type 0} → (X → TableKey) → TableKey → List X → Option ℕ → Type 0
Finds key q xs None = first_at_key key q xs ≡ None
Finds {X} key q xs (Some i) = (y : X) × IsFirst key q xs i y

-- no two items have one key
abbrev pub AreDistinct : {X : Type 0} → (X → TableKey) → List X → Type 0
AreDistinct key [] = Unit {0}
AreDistinct key (x ∷ xs) = (first_at_key key (key x) xs ≡ None) × AreDistinct key xs

-- the items stand in the order of their keys
abbrev pub IsSorted : {X : Type 0} → (X → TableKey) → List X → Type 0
IsSorted key xs = T (is_sorted key_cmp (map (λ x. (key x, x)) xs))

-- in a sorted list the key is above those of the items before the place, and below the others
abbrev pub SplitsAt : {X : Type 0} → (X → TableKey) → TableKey → List X → ℕ → Type 0
SplitsAt key q [] i = Unit {0}
SplitsAt key q (x ∷ xs) zero = key_cmp q (key x) ≡ Less
SplitsAt key q (x ∷ xs) (suc i) = (key_cmp (key x) q ≡ Less) × SplitsAt key q xs i

-- whether some value of the table passes; that there is none says so of every key
abbrev pub AnyOf : {X : Type 0} → (X → TableKey) → (X → Bool) → Table X → Bool → Type 0
AnyOf {X} key p t true = (x : X) × ((fm.get t (key x) ≡ Some x) × (p x ≡ true))
AnyOf key p t false = (q : TableKey) → IfSome (fm.get t q) (λ x. p x ≡ false)
