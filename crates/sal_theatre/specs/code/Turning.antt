-- What a turn of the code gives, as the definitions have it.
use Rattle.std.specs.Prelude.{◌≡◌, ℕ, true, false, List, Option, Some, None}
use Rattle.sal_handler.specs.Calls.{Meaning}
use Rattle.sal_carriage.specs.Halves.{is_envelope}
use Rattle.sal_node.specs.Links.{take_datagram}
use Rattle.sal_desk.specs.code.Drafts.{desk_with, CanFinish}
use Rattle.sal_routing.specs.State.{Theatre, Turned, nothing, silence}
use Rattle.sal_routing.specs.Handling.{finished}
use Rattle.sal_routing.specs.Turns.{datagram}
use Rattle.sal_theatre.specs.declared.turned.Turned.{Turned as TurnedHere}
use Rattle.sal_theatre.specs.declared.turned.Prepared.{Prepared}

-- the theatre after the turn, with what the turn told
abbrev pub after : Theatre → TurnedHere → Turned
after t x = record { theatre = t; told = x.told; took = x.took }

-- ---- the first half of a turn

-- the turn that is made of the theatre by this half, or the one that found nothing to do
abbrev pub turned_by : Theatre → Option Prepared → Turned
turned_by t None = nothing t
turned_by t (Some p) = finished t true (desk_with t p.draft)

-- the turn can be made of the theatre
abbrev pub CanBeMade : Option Prepared → Theatre → Type 0
CanBeMade None t = Unit {0}
CanBeMade (Some p) t = CanFinish p.draft.arrived t.links

-- ---- datagrams

-- The bytes complete an envelope, and this is the turn that receives it; or they complete none.
abbrev pub Receives : Meaning → List ℕ → Theatre → Option Prepared → Type 0
Receives p bytes t None = is_envelope (take_datagram bytes t.links).taken ≡ false
Receives p bytes t (Some x) = turned_by t (Some x) ≡ datagram p bytes t

-- the turn of bytes that complete no envelope
abbrev pub framed : List ℕ → Theatre → Turned
framed bytes t = record {
  theatre = record t { links = (take_datagram bytes t.links).links };
  told = silence;
  took = (take_datagram bytes t.links).changed;
}
