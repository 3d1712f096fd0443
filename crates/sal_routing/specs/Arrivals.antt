-- Actors that come, actors that leave, and places that become known.
use Rattle.std.specs.Prelude.{ℕ, ◌+◌, Bool, false, ◌&&◌, not, if◌then◌else◌, nat_eq, nat_lt, [], ◌∷◌, ◌++◌, filter, Option, Some, None}
use Rattle.std.specs.FinMap as fm
use Rattle.sal_value.specs.declared.name.Name.{Name}
use Rattle.sal_value.specs.declared.name.Name.TheVariants as name
use Rattle.sal_value.specs.declared.name.Uan.{Uan}
use Rattle.sal_value.specs.declared.name.Ual.{Ual}
use Rattle.sal_value.specs.Table.{write}
use Rattle.sal_mail.specs.declared.envelope.Envelope.TheVariants as envelope
use Rattle.sal_mail.specs.Message.{is_for, is_not_for}
use Rattle.sal_handler.specs.Calls.{Meaning}
use Rattle.sal_source.specs.Keys.{name_key}
use Rattle.sal_resident.specs.declared.resident.Resident.{Resident}
use Rattle.sal_resident.specs.Packing.{packed_actor}
use Rattle.sal_spelled.specs.Sending.{may_move}
use Rattle.sal_move.specs.Places.{is_news, with_place}
use Rattle.sal_node.specs.declared.constants.TheConstants.{FIRST_SERVICE}
use Rattle.sal_routing.specs.State.{Theatre, Desk, send}
use Rattle.sal_routing.specs.Routing.{put_resident, release_held, route}

-- ---- an actor comes

-- It stands here, without its mailbox, whose calls join the end of the ready list.
unfoldable pub stand : Resident → Theatre → Theatre
stand r t = record (put_resident (record r { mailbox = [] }) t) { ready = t.ready ++ r.mailbox }

-- Then the items held here for its name are routed.
unfoldable pub arrive : Meaning → Resident → Desk → Desk
arrive p r d = route p (release_held r.name (record d { theatre = stand r d.theatre }))

-- the naming service is told the locator of this theatre
abbrev pub tell_service : Option ℕ → Option Ual → Uan → ℕ → Desk → Desk
tell_service (Some service) (Some place) u moves d = send (FIRST_SERVICE + service) (envelope.Update u place moves) d
tell_service _ _ u moves d = d

-- ---- a place becomes known

unfoldable pub put_place : Uan → ℕ → ℕ → Desk → Desk
put_place u theatre moves d = record d { theatre = record d.theatre { places = with_place u theatre moves d.theatre.places } }

-- a place that is news replaces the one that was known, and the items held for the name are routed again
unfoldable pub learn : Meaning → Uan → ℕ → ℕ → Desk → Desk
learn p u theatre moves d =
    if is_news u moves d.theatre.places then route p (release_held (name.Uan u) (put_place u theatre moves d)) else d

-- ---- an actor leaves

-- the actor with its ready calls, as it is once it moved
unfoldable pub leaving : Resident → Theatre → Resident
leaving r t = record r { moves = r.moves + 1; mailbox = r.mailbox ++ filter (is_for r.name) t.ready }

-- it isn't here any more, and neither are its ready calls
unfoldable pub without_resident : Resident → Theatre → Theatre
without_resident r t = record t { residents = write t.residents (name_key r.name) None; ready = filter (is_not_for r.name) t.ready }

-- The actor goes to another theatre, and its new place becomes known here. Nothing is held for an actor that was here.
unfoldable pub depart_as : Uan → Resident → ℕ → Desk → Desk
depart_as u r to d =
    put_place u to (r.moves + 1)
    (send to (envelope.Move (packed_actor (leaving r d.theatre))) (record d { theatre = without_resident r d.theatre }))

-- It goes to another theatre, has a move left to count, and has a spelling that is short enough.
unfoldable pub may_leave : Resident → ℕ → Theatre → Bool
may_leave r to t =
    not (nat_eq to t.me) && (nat_lt r.moves 18446744073709551615 && may_move (leaving r t))

abbrev pub goes_as : Option Resident → ℕ → Theatre → Bool
goes_as None to t = false
goes_as (Some r) to t = may_leave r to t

-- whether an actor with a universal name moves to this theatre of the plan
unfoldable pub goes : Name → ℕ → Theatre → Bool
goes (name.Uan u) to t = goes_as (fm.get t.residents (name_key (name.Uan u))) to t
goes (name.Anon theatre number) to t = false
goes (name.Outside number) to t = false

-- the world is told that it moved
abbrev pub tell_moved : Name → ℕ → Desk → Desk
tell_moved n to d = record d { told = record d.told { moved = d.told.moved ++ (n, to) ∷ [] } }

abbrev pub depart_by : Option Resident → Uan → ℕ → Desk → Desk
depart_by None u to d = d
depart_by (Some r) u to d = depart_as u r to (tell_moved (name.Uan u) to d)

unfoldable pub depart : Name → ℕ → Desk → Desk
depart (name.Uan u) to d = depart_by (fm.get d.theatre.residents (name_key (name.Uan u))) u to d
depart (name.Anon theatre number) to d = d
depart (name.Outside number) to d = d

-- it moves, where it does
unfoldable pub move_to : Name → ℕ → Desk → Desk
move_to n to d = if goes n to d.theatre then depart n to d else d
