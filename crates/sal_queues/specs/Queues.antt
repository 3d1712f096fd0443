-- By name, what is held for it, the oldest first. A name whose list is empty has room, and means nothing else.
use Rattle.std.specs.Prelude.{◌+◌, ◌^◌, ◌<◌, ⊤, Bool, true, false, List, [], ◌∷◌, ◌++◌, length, Option, Some, None}
use Rattle.std.specs.Coded.{Coded, coded_ℕ, coded_list}
use Rattle.std.specs.Option.{unwrap_or}
use Rattle.std.specs.List.{filter, fold}
use Rattle.std.specs.FinMap as fm
use Rattle.sal_value.specs.Table.{TableKey, Table, write}

-- at the key of each name that has a list, the list
abbrev pub Queues : Type 0 → Type 0
Queues X = Table (List X)

-- the code of these tables
abbrev pub queues_code : {X : Type 0} → Coded X → Coded (Queues X)
queues_code x = fm.code (coded_list coded_ℕ) (coded_list x)

-- what is held for the name with this key
abbrev pub queue_of : {X : Type 0} → TableKey → Queues X → List X
queue_of k t = unwrap_or (fm.get t k) []

-- ---- what a reader sees

-- the list, unless it is empty
abbrev pub if_filled : {X : Type 0} → List X → Option (List X)
if_filled [] = None
if_filled (x ∷ xs) = Some (x ∷ xs)

abbrev pub is_filled : {X : Type 0} → List X → Bool
is_filled [] = false
is_filled (x ∷ xs) = true

-- the table without its empty lists
unfoldable pub filled : {X : Type 0} → Queues X → Queues X
filled t = fm.from_entries (filter (λ e. is_filled e.1) (fm.entries t))

-- ---- joining

-- the table with these at the end of the queue
abbrev pub with_more : {X : Type 0} → TableKey → List X → Queues X → Queues X
with_more k xs t = write t k (if_filled (queue_of k t ++ xs))

abbrev pub joined_entries : {X : Type 0} → List (TableKey × List X) → Queues X → Queues X
joined_entries es t = fold (λ t e. with_more e.0 e.1 t) t es

-- the table with each queue of `more` at the end of the queue of its name
unfoldable pub joined : {X : Type 0} → Queues X → Queues X → Queues X
joined more t = joined_entries (fm.entries more) t

-- ---- room

-- Of what is to be added at a key, if anything, and the list there, if there is one: there is a list, and the two
-- together aren't too long for one.
abbrev pub HasRoomAt : {X : Type 0} → Option (List X) → Option (List X) → Type 0
HasRoomAt None there = ⊤
HasRoomAt (Some more) None = ⊥
HasRoomAt (Some more) (Some there) = length there + length more < 2 ^ 63

-- `more` can be joined to t without memory
unfoldable pub HasRoomFor : {X : Type 0} → Queues X → Queues X → Type 0
HasRoomFor t more = (k : TableKey) → HasRoomAt (fm.get more k) (fm.get t k)

-- the table with a list at the key, an empty one where there was none
unfoldable pub with_room : {X : Type 0} → TableKey → Queues X → Queues X
with_room k t = write t k (Some (queue_of k t))

-- all that can be joined to the former without memory can be joined to the latter
unfoldable pub KeepsRoom : {X : Type 0} → Queues X → Queues X → Type 0
KeepsRoom {X} old new = (more : Queues X) → HasRoomFor old more → HasRoomFor new more
