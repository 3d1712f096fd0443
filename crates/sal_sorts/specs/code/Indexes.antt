-- The index beside the names in scope.
use Rattle.std.specs.Prelude.{◌≡◌, ℕ, Bool, false, nat_eq, List, Option, Some, None}
use Rattle.std.specs.Borrow.{Bor}
use Rattle.std.specs.BTreeMap.{BTreeMap, get_by}
use Rattle.std.specs.Cmp.Lexicographic.{slice_cmp}
use Rattle.std.specs.List.{position}
use Rattle.std.specs.Ordering.{nat_cmp}
use Rattle.std.specs.Str.{bytes_eq}
use Rattle.sal_sorts.specs.declared.variable.Variable.{Variable}

-- the position that an index has for this name
abbrev pub position_in : List ℕ → BTreeMap (Bor (List ℕ)) ℕ → Option ℕ
position_in name index = get_by (λ k. slice_cmp nat_cmp name k.now) index

-- the position of the first variable of this name
abbrev pub first_position : List ℕ → List Variable → Option ℕ
first_position name variables = position (λ v. bytes_eq v.name name) variables

-- the index has the position of the first variable of each name
abbrev pub IsIndexOf : BTreeMap (Bor (List ℕ)) ℕ → List Variable → Type 0
IsIndexOf index variables = (name : List ℕ) → position_in name index ≡ first_position name variables

-- whether it is this position
abbrev pub is_position : ℕ → Option ℕ → Bool
is_position n None = false
is_position n (Some m) = nat_eq m n
