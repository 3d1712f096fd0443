-- What stands before an item of an array.
use Rattle.std.specs.Prelude.{ℕ, Bool, if◌then◌else◌, List, [], ◌∷◌}

-- a comma, but before the first
abbrev pub lead_of : Bool → List ℕ
lead_of first = if first then [] else 44 ∷ []
