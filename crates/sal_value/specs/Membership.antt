-- Which values belong to a type.
use Rattle.std.specs.Prelude.{ℕ, zero, suc, Bool, true, false}
use Rattle.std.specs.List.{list_all}
use Rattle.sal_value.specs.declared.value.Base.{Base}
use Rattle.sal_value.specs.declared.value.Base.TheVariants as base
use Rattle.sal_value.specs.declared.value.Sort.{Sort}
use Rattle.sal_value.specs.declared.value.Value.{Value, fold-Value}
use Rattle.sal_value.specs.declared.value.Value.TheOpen.{Value-F}

-- A value that is no array. A reference or null belongs to every behaviour's type, and null alone to void.
abbrev pub belongs_alone : {A : Type 0} → Value-F A → Base → Bool
belongs_alone (Value-F.Int n) base.Int = true
belongs_alone (Value-F.Bool b) base.Bool = true
belongs_alone (Value-F.Str text) base.Str = true
belongs_alone (Value-F.Ref n) (base.Actor behavior) = true
belongs_alone Value-F.Null (base.Actor behavior) = true
belongs_alone Value-F.Null base.Void = true
belongs_alone v b = false

-- An array belongs to a type with brackets where its items belong to the type with one pair less.
abbrev pub belongs_step : Value-F (Base → ℕ → Bool) → Base → ℕ → Bool
belongs_step v b zero = belongs_alone v b
belongs_step (Value-F.Array items) b (suc dims) = list_all (λ belongs. belongs b dims) items
belongs_step v b (suc dims) = false

unfoldable pub belongs_to : Value → Base → ℕ → Bool
belongs_to = fold-Value (Base → ℕ → Bool) belongs_step

abbrev pub belongs : Value → Sort → Bool
belongs v sort = belongs_to v sort.base sort.dims
