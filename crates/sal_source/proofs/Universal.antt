-- The equations of `holds_universal`, one for each form.
use Rattle.std.proofs.Common.{◌≡◌, ℕ, Bool, true, List, [], ◌∷◌, map, refl, sym, ap, ◌∙◌, ◌&&◌}
use Rattle.std.specs.List.{list_all}
use Rattle.std.specs.Prelude.{ℤ}
use Rattle.sal_value.specs.declared.name.Name.{Name}
use Rattle.sal_value.specs.declared.value.Value.{Value, fold-roll-Value}
use Rattle.sal_value.specs.declared.value.Value.TheOpen.{Value-F}
use Rattle.sal_value.specs.declared.value.Value.TheVariants as v
use Rattle.sal_source.specs.Posts.{is_universal, universal_step, holds_universal}

all_mapped : (items : List Value) → list_all (λ b. b) (map holds_universal items) ≡ list_all holds_universal items
all_mapped [] = refl
all_mapped (x ∷ items) = ap (λ b. holds_universal x && b) (all_mapped items)

pub universal-Ref : (n : Name) → holds_universal (v.Ref n) ≡ is_universal n
unfolding holds_universal
universal-Ref n = ap holds_universal (sym (v.rolls-Ref n)) ∙ fold-roll-Value Bool universal_step (Value-F.Ref n)

pub universal-Array : (items : List Value) → holds_universal (v.Array items) ≡ list_all holds_universal items
unfolding holds_universal
universal-Array items = ap holds_universal (sym (v.rolls-Array items)) ∙ fold-roll-Value Bool universal_step (Value-F.Array items) ∙ all_mapped items

pub universal-Int : (n : ℤ) → holds_universal (v.Int n) ≡ true
unfolding holds_universal
universal-Int n = ap holds_universal (sym (v.rolls-Int n)) ∙ fold-roll-Value Bool universal_step (Value-F.Int n)

pub universal-Bool : (b : Bool) → holds_universal (v.Bool b) ≡ true
unfolding holds_universal
universal-Bool b = ap holds_universal (sym (v.rolls-Bool b)) ∙ fold-roll-Value Bool universal_step (Value-F.Bool b)

pub universal-Str : (text : List ℕ) → holds_universal (v.Str text) ≡ true
unfolding holds_universal
universal-Str text = ap holds_universal (sym (v.rolls-Str text)) ∙ fold-roll-Value Bool universal_step (Value-F.Str text)

pub universal-Null : holds_universal v.Null ≡ true
unfolding holds_universal
universal-Null = ap holds_universal (sym v.rolls-Null) ∙ fold-roll-Value Bool universal_step Value-F.Null

pub ruleset universals = (universal-Ref, universal-Array, universal-Int, universal-Bool, universal-Str, universal-Null)

-- what was found of an array's items answers for the array
pub array_holds : (w : Value) (items xs : List Value) (r : Bool) → w ≡ v.Array items → xs ≡ items → list_all holds_universal xs ≡ r → r ≡ holds_universal w
array_holds w items xs r is same found = sym (ap holds_universal is ∙ universal-Array items ∙ ap (list_all holds_universal) (sym same) ∙ found)
