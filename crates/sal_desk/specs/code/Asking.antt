-- The names that are asked for again, entry by entry.
use Rattle.std.specs.Prelude.{ℕ, Bool, false, if◌then◌else◌, List, [], ◌∷◌, ◌++◌, Option, Some, None}
use Rattle.sal_value.specs.declared.name.Uan.{Uan}
use Rattle.sal_routing.specs.declared.pending.Question.{Question}
use Rattle.sal_routing.specs.Turns.{is_asked_again}

-- the name of the question, where it is asked again
abbrev pub again_by : ℕ → Option Question → List Uan
again_by now None = []
again_by now (Some q) = if is_asked_again now q.asking then q.name ∷ [] else []

abbrev pub is_again_by : ℕ → Option Question → Bool
is_again_by now None = false
is_again_by now (Some q) = is_asked_again now q.asking

unfoldable pub again_in : {K : Type 0} → ℕ → List (K × Option Question) → List Uan
again_in now [] = []
again_in now (e ∷ es) = again_by now e.1 ++ again_in now es
