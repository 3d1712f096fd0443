-- Values and types, one by one.
use Rattle.std.proofs.Common.{◌≡◌, ℕ, ◌<◌, Bool, false, List, [], ◌∷◌, length, drop, sym, refl, ◌∙◌, arith, length-drop}
use Rattle.sal_value.specs.declared.value.Sort.{Sort}
use Rattle.sal_value.specs.declared.value.Value.{Value}
use Rattle.sal_schedule.specs.Events.{belong}

too_few : (sorts : List Sort) (rest : List Value) → 0 < length sorts → length rest < 1 → belong sorts rest ≡ false
too_few [] rest some none = absurd (omega arith)
too_few (sort ∷ sorts) [] some none = refl
too_few (sort ∷ sorts) (v ∷ vs) some none = absurd (omega arith)

-- no value is left for a type
pub short : (sorts : List Sort) (i : ℕ) (rest : List Value) (whole : Bool) → i < length sorts → length rest < 1 → belong (drop i sorts) rest ≡ whole → false ≡ whole
short sorts i rest whole lt none h = sym (too_few (drop i sorts) rest (omega (arith, length-drop i sorts)) none) ∙ h
