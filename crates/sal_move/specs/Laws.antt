-- Which place is known after several were learned.
use Rattle.std.specs.Prelude.{◌≡◌, ◌<◌, ◌≤◌, List, [], ◌∷◌, ◌++◌, filter_map, if◌then◌else◌, Option, Some, None}
use Rattle.std.specs.List.{AllByRecursion}
use Rattle.std.specs.FinMap as fm
use Rattle.sal_value.specs.declared.name.Uan.{Uan}
use Rattle.sal_value.specs.Order.{uan_key}
use Rattle.sal_value.specs.Table.{key_eq}
use Rattle.sal_move.specs.declared.places.Known.{Known}
use Rattle.sal_move.specs.Places.{Places, place_of, with_place}

-- the table after these places were learned, one after another
abbrev pub with_places : List (Uan × Known) → Places → Places
with_places [] t = t
with_places (x ∷ xs) t = with_places xs (with_place x.0 x.1.theatre x.1.moves t)

-- the place, where it is one of this name
abbrev pub place_for : Uan → Uan × Known → Option Known
place_for u x = if key_eq (uan_key u) (uan_key x.0) then Some x.1 else None

-- Of these places it is the first with the most moves: those before it have fewer, and those after it no more.
pub record IsFirstWithMost (places : List Known) (k : Known) : Type 0 where
  pub before : List Known
  pub after : List Known
  pub stands : places ≡ before ++ k ∷ after
  pub fewer : AllByRecursion (λ x. x.moves < k.moves) before
  pub no_more : AllByRecursion (λ x. x.moves ≤ k.moves) after

-- none, where there is no place, and else the first with the most moves
abbrev pub IsBest : List Known → Option Known → Type 0
IsBest places None = places ≡ []
IsBest places (Some k) = IsFirstWithMost places k

abbrev pub FirstPlacesWithMostMovesAreKept : Type 0
FirstPlacesWithMostMovesAreKept = (xs : List (Uan × Known)) (u : Uan) → IsBest (filter_map (place_for u) xs) (place_of u (with_places xs fm.empty))
