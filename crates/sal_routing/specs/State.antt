-- What a theatre keeps between two turns, what a turn works on, and what it tells.
use Rattle.std.specs.Prelude.{ℕ, ◌+◌, Bool, false, if◌then◌else◌, min, List, [], ◌∷◌, ◌++◌, Option, Some, None}
use Rattle.std.specs.FinMap as fm
use Rattle.sal_value.specs.declared.name.Name.{Name}
use Rattle.sal_value.specs.declared.value.Value.{Value}
use Rattle.sal_value.specs.Table.{TableKey, Table}
use Rattle.sal_mail.specs.declared.message.Reply.{Reply}
use Rattle.sal_mail.specs.declared.message.Reply.TheVariants.{Nobody, Tok, Place, Outside}
use Rattle.sal_mail.specs.declared.message.Target.{Target}
use Rattle.sal_mail.specs.declared.message.Target.TheVariants as target
use Rattle.sal_mail.specs.declared.message.Message.{Message}
use Rattle.sal_mail.specs.declared.effects.Actor.{Actor}
use Rattle.sal_mail.specs.declared.envelope.Envelope.{Envelope}
use Rattle.sal_mail.specs.declared.envelope.Envelope.TheVariants as envelope
use Rattle.sal_mail.specs.declared.fault.Fault.{Fault}
use Rattle.sal_mail.specs.declared.plan.Plan.{Plan}
use Rattle.sal_envelope.specs.Spelling.{envelope_spelling}
use Rattle.sal_spelled.specs.Sending.{may_be_sent}
use Rattle.sal_source.specs.declared.state.Step.{Step}
use Rattle.sal_source.specs.Keys.{made_key}
use Rattle.sal_carriage.specs.Link.{Link}
use Rattle.sal_book.specs.Book.{new_book}
use Rattle.sal_resident.specs.declared.resident.Resident.{Resident}
use Rattle.sal_move.specs.Places.{Places}
use Rattle.sal_node.specs.declared.parcel.Parcel.{Parcel}
use Rattle.sal_node.specs.Links.{new_links}
use Rattle.sal_routing.specs.declared.item.Item.{Item}
use Rattle.sal_routing.specs.declared.item.Item.TheVariants.{Call, Answer}
use Rattle.sal_routing.specs.declared.pending.Pending.{Pending}
use Rattle.sal_routing.specs.declared.pending.Question.{Question}
use Rattle.sal_routing.specs.declared.told.Told.{Told}

-- ---- what is on its way

-- counts of hops stop at the greatest number of four bytes
abbrev pub raised : ℕ → ℕ
raised hops = min (hops + 1) 4294967295

abbrev pub actor_of_target : Target → Option Name
actor_of_target (target.Actor n) = Some n
actor_of_target target.Output = None

abbrev pub owner_of : Reply → Option Name
owner_of Nobody = None
owner_of (Tok owner number) = Some owner
owner_of (Place owner join at) = Some owner
owner_of (Outside number) = None

-- the actor to which it goes, if it goes to one
abbrev pub goal_of : Item → Option Name
goal_of (Call hops m) = actor_of_target m.target
goal_of (Answer hops r v) = owner_of r

abbrev pub envelope_of : Item → Envelope
envelope_of (Call hops m) = envelope.Call hops m
envelope_of (Answer hops r v) = envelope.Reply hops r v

-- ---- creations

abbrev pub pending_key : Pending → TableKey
pending_key x = made_key x.maker x.creation.serial

-- ---- a theatre

-- Its number and the plan. Residents by name; ready messages; delayed messages with their moments, in the order in
-- which they joined; what is held, for each name in the order in which it was held; pending creations by maker and
-- number; where actors are known to be; the names asked for; a link to each other node, by number; the clock; and
-- the next number of an anonymous actor.
pub record Theatre : Type 0 where
  pub me : ℕ
  pub plan : Plan
  pub residents : Table Resident
  pub ready : List Message
  pub delayed : List (ℕ × Message)
  pub held : Table (List Item)
  pub pending : Table Pending
  pub places : Places
  pub questions : Table Question
  pub links : List Link
  pub clock : ℕ
  pub next_anon : ℕ

abbrev pub new_theatre : ℕ → Plan → List ℕ → Theatre
new_theatre me plan program = record {
  me = me;
  plan = plan;
  residents = fm.empty;
  ready = [];
  delayed = [];
  held = fm.empty;
  pending = fm.empty;
  places = fm.empty;
  questions = fm.empty;
  links = new_links program me plan;
  clock = 0;
  next_anon = 0;
}

-- an actor that has done nothing yet
abbrev pub newcomer : Actor → Resident
newcomer a = record { name = a.name; moves = 0; behavior = a.behavior; fields = a.fields; serial = 0; book = new_book; mailbox = [] }

abbrev pub actor_of : Resident → Actor
actor_of r = record { name = r.name; behavior = r.behavior; fields = r.fields }

-- a clock, or a moment, stops at the greatest number of eight bytes
abbrev pub moment : ℕ → ℕ
moment ms = min ms 18446744073709551615

-- ---- what a turn works on

abbrev pub silence : Told
silence = record { log = []; printed = []; faults = []; answers = []; made = []; moved = []; opened = []; given = [] }

-- The theatre, what is still to be routed, the envelopes to be offered, in their order, and what is told.
pub record Desk : Type 0 where
  pub theatre : Theatre
  pub work : List Item
  pub sent : List Parcel
  pub told : Told

abbrev pub desk : Theatre → Desk
desk t = record { theatre = t; work = []; sent = []; told = silence }

-- A theatre after a turn, what it told, and whether it found something to do.
pub record Turned : Type 0 where
  pub theatre : Theatre
  pub told : Told
  pub took : Bool

-- a turn that found nothing to do
abbrev pub nothing : Theatre → Turned
nothing t = record { theatre = t; told = silence; took = false }

-- ---- small changes of a desk

abbrev pub parcel_to : ℕ → Envelope → Parcel
parcel_to node e = record { to = node; bytes = envelope_spelling e }

-- Every envelope that a turn makes may be sent; one that may not isn't.
unfoldable pub send : ℕ → Envelope → Desk → Desk
send node e d = if may_be_sent e then record d { sent = d.sent ++ parcel_to node e ∷ [] } else d

abbrev pub log : Step → Desk → Desk
log s d = record d { told = record d.told { log = d.told.log ++ s ∷ [] } }

abbrev pub tell_fault : Fault → Desk → Desk
tell_fault f d = record d { told = record d.told { faults = d.told.faults ++ f ∷ [] } }

abbrev pub tell_answer : ℕ → Value → Desk → Desk
tell_answer number value d = record d { told = record d.told { answers = d.told.answers ++ (number, value) ∷ [] } }

abbrev pub tell_given : List (Reply × Value) → Desk → Desk
tell_given gs d = record d { told = record d.told { given = d.told.given ++ gs } }

abbrev pub print : List ℕ → Desk → Desk
print text d = record d { told = record d.told { printed = d.told.printed ++ text ∷ [] } }

abbrev pub with_work : List Item → Desk → Desk
with_work items d = record d { work = d.work ++ items }

abbrev pub make_ready : Message → Desk → Desk
make_ready m d = record d { theatre = record d.theatre { ready = d.theatre.ready ++ m ∷ [] } }
