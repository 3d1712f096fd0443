-- Where actors are known to be.
use Rattle.std.specs.Prelude.{ℕ, Bool, true, false, nat_lt, if◌then◌else◌, Option, Some, None, option_map}
use Rattle.std.specs.Coded.{Coded, coded_ℕ, coded_list}
use Rattle.std.specs.FinMap as fm
use Rattle.sal_value.specs.declared.name.Uan.{Uan}
use Rattle.sal_value.specs.Order.{uan_key}
use Rattle.sal_value.specs.Table.{Table, write}
use Rattle.sal_move.specs.declared.places.Known.{Known}
use Rattle.sal_move.specs.contracts.places.Known.{the_row as known_row}

-- by name, for each the first place with the most moves
abbrev pub Places : Type 0
Places = Table Known

-- the code of these tables
abbrev pub places_code : Coded Places
places_code = fm.code (coded_list coded_ℕ) known_row.coded

abbrev pub place_of : Uan → Places → Option Known
place_of u t = fm.get t (uan_key u)

-- a place is replaced only by one with more moves
abbrev pub is_newer : ℕ → Option Known → Bool
is_newer moves None = true
is_newer moves (Some k) = nat_lt k.moves moves

-- whether it tells a place that wasn't known
unfoldable pub is_news : Uan → ℕ → Places → Bool
is_news u moves t = is_newer moves (place_of u t)

-- the table after learning that the actor was in this theatre after so many moves
unfoldable pub with_place : Uan → ℕ → ℕ → Places → Places
with_place u theatre moves t = if is_news u moves t then write t (uan_key u) (Some (record { theatre = theatre; moves = moves })) else t

abbrev pub hop : Uan → Places → Option ℕ
hop u t = option_map (λ k. k.theatre) (place_of u t)

-- what the code does to one place: whether it is replaced, and the place that is kept then
abbrev pub newer : ℕ → ℕ → Known → Bool × Known
newer theatre moves k = if nat_lt k.moves moves then (true, record { theatre = theatre; moves = moves }) else (false, k)
