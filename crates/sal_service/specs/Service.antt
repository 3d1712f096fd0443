-- The turns of a naming service's node.
use Rattle.std.specs.Prelude.{ℕ, ◌+◌, max, Bool, true, false, if◌then◌else◌, nat_eq, nat_lt, List, [], ◌∷◌, Option, Some, None, Result, Ok, Err, refl}
use Rattle.std.specs.Coded.{Coded, code_by, coded×, coded_ℕ}
use Rattle.std.specs.FinMap as fm
use Rattle.sal_value.specs.declared.name.Name.{Name}
use Rattle.sal_value.specs.declared.name.Uan.{Uan}
use Rattle.sal_value.specs.declared.name.Ual.{Ual}
use Rattle.sal_value.specs.declared.value.DecodeFault.{DecodeFault}
use Rattle.sal_mail.specs.declared.plan.Plan.{Plan}
use Rattle.sal_mail.specs.contracts.plan.Plan.{the_row as plan_row}
use Rattle.sal_mail.specs.declared.envelope.Envelope.{Envelope}
use Rattle.sal_mail.specs.declared.envelope.Envelope.TheVariants as envelope
use Rattle.sal_envelope.specs.Spelling.{envelope_spelling}
use Rattle.sal_envelope.specs.Decoding.{decoded_envelope}
use Rattle.sal_carriage.specs.Link.{Link}
use Rattle.sal_carriage.specs.declared.datagram.Datagram.{Datagram}
use Rattle.sal_carriage.specs.declared.datagram.Taken.{Taken}
use Rattle.sal_carriage.specs.declared.datagram.Taken.TheVariants as taken
use Rattle.sal_naming.specs.declared.entry.Put.{Put}
use Rattle.sal_naming.specs.declared.entry.Put.TheVariants as put
use Rattle.sal_naming.specs.declared.entry.Deleted.{Deleted}
use Rattle.sal_naming.specs.declared.entry.Deleted.TheVariants as deleted
use Rattle.sal_naming.specs.Table.{Names, names_code, put_name, get_name, update_name, delete_name}
use Rattle.sal_directory.specs.Nodes.{theatre_of, service_of}
use Rattle.sal_node.specs.contracts.links.Links.{the_row as links_row}
use Rattle.sal_node.specs.declared.parcel.Parcel.{Parcel}
use Rattle.sal_node.specs.declared.constants.TheConstants.{FIRST_SERVICE}
use Rattle.sal_node.specs.Links.{Taking, new_links, offer_all, due_on, push_all, sender_of, take_datagram, are_idle}
use Rattle.sal_service.specs.declared.turned.Decision.{Decision}
use Rattle.sal_service.specs.declared.turned.Turned.{Turned}

-- Which of the plan's naming services it is, counted from 0; the plan; its names; its links; and its clock.
pub record Service : Type 0 where
  pub number : ℕ
  pub plan : Plan
  pub names : Names
  pub links : List Link
  pub clock : ℕ

-- the code of these nodes
abbrev pub service_code : Coded Service
service_code =
    code_by
    (ℕ × (Plan × (Names × (List Link × ℕ))))
    (coded× coded_ℕ (coded× plan_row.coded (coded× names_code (coded× links_row.coded coded_ℕ))))
    (λ s. (s.number, (s.plan, (s.names, (s.links, s.clock)))))
    (λ p. record { number = p.0; plan = p.1.0; names = p.1.1.0; links = p.1.1.1.0; clock = p.1.1.1.1 })
    (λ _. refl)

abbrev pub new_service : List ℕ → ℕ → Plan → Service
new_service program number plan =
    record { number = number; plan = plan; names = fm.empty; links = new_links program (FIRST_SERVICE + number) plan; clock = 0 }

-- ---- an envelope that arrived

-- The names after it, what is answered, and what was decided of a name.
pub record Answered : Type 0 where
  pub names : Names
  pub answer : Option Envelope
  pub decision : Option Decision

-- It doesn't fit: nothing happens.
abbrev pub no_answer : Names → Answered
no_answer names = record { names = names; answer = None; decision = None }

-- the service with this number is the name's
abbrev pub is_number : ℕ → Option ℕ → Bool
is_number number None = false
is_number number (Some j) = nat_eq j number

abbrev pub is_mine : ℕ → Plan → Uan → Bool
is_mine number plan u = is_number number (service_of plan u)

abbrev pub is_bound : Put → Bool
is_bound put.Bound = true
is_bound put.Taken = false

-- whether the name is bound, and the actor of a bound name stands, or will, at that theatre
abbrev pub decision_of : Name → ℕ → Uan → ℕ → Bool → Decision
decision_of maker serial u theatre bound = record { maker = maker; serial = serial; name = u; theatre = theatre; bound = bound }

abbrev pub answer_put : Name → ℕ → Uan → ℕ → Put × Names → Answered
answer_put maker serial u theatre x = record {
  names = x.1;
  answer = Some (envelope.PutReply maker serial (is_bound x.0));
  decision = Some (decision_of maker serial u theatre (is_bound x.0));
}

-- the locator has to be that of a theatre
abbrev pub serve_put : Option ℕ → Name → ℕ → Uan → Ual → Names → Answered
serve_put None maker serial u place names = no_answer names
serve_put (Some theatre) maker serial u place names = answer_put maker serial u theatre (put_name u place names)

abbrev pub serve_get : Uan → Names → Answered
serve_get u names = record { names = names; answer = Some (envelope.GetReply u (get_name u names)); decision = None }

abbrev pub serve_update : Option ℕ → Uan → Ual → ℕ → Names → Answered
serve_update None u place moves names = no_answer names
serve_update (Some theatre) u place moves names = record { names = (update_name u place moves names).1; answer = None; decision = None }

-- what comes of a name that is this service's; another doesn't fit
abbrev pub if_mine : Bool → Names → Answered → Answered
if_mine mine names x = if mine then x else no_answer names

-- Only these three fit a naming service.
unfoldable pub serve : ℕ → Plan → Envelope → Names → Answered
serve number plan (envelope.Put maker serial u place) names = if_mine (is_mine number plan u) names (serve_put (theatre_of plan place) maker serial u place names)
serve number plan (envelope.Get u) names = if_mine (is_mine number plan u) names (serve_get u names)
serve number plan (envelope.Update u place moves) names = if_mine (is_mine number plan u) names (serve_update (theatre_of plan place) u place moves names)
serve number plan (envelope.Call hops m) names = no_answer names
serve number plan (envelope.Reply hops r v) names = no_answer names
serve number plan (envelope.Create a) names = no_answer names
serve number plan (envelope.Move packed) names = no_answer names
serve number plan (envelope.PutReply maker serial bound) names = no_answer names
serve number plan (envelope.GetReply u found) names = no_answer names

-- bytes that are no envelope don't fit
abbrev pub serve_decoded : ℕ → Plan → Result Envelope DecodeFault → Names → Answered
serve_decoded number plan (Ok e) names = serve number plan e names
serve_decoded number plan (Err fault) names = no_answer names

-- what a fragment does that isn't the last one of an envelope
abbrev pub serve_taken : ℕ → Plan → Taken → Names → Answered
serve_taken number plan (taken.Envelope bytes) names = serve_decoded number plan (decoded_envelope bytes) names
serve_taken number plan taken.Part names = no_answer names
serve_taken number plan taken.Old names = no_answer names
serve_taken number plan taken.Ahead names = no_answer names
serve_taken number plan taken.Acknowledged names = no_answer names
serve_taken number plan taken.Noise names = no_answer names

-- ---- turns

-- The names and links after a datagram, and what the turn tells.
pub record After : Type 0 where
  pub names : Names
  pub links : List Link
  pub turned : Turned

-- nothing to do, and nothing to tell
abbrev pub idle : Turned
idle = record { took = false; decision = None }

-- the answer goes to the node that asked
abbrev pub parcels_to : ℕ → Option Envelope → List Parcel
parcels_to node None = []
parcels_to node (Some e) = record { to = node; bytes = envelope_spelling e } ∷ []

-- Where the link for the answer is spent, the turn does nothing.
abbrev pub answer_or_idle : Names → List Link → Bool → Answered → Option (List Link) → After
answer_or_idle names links changed x None = record { names = names; links = links; turned = idle }
answer_or_idle names links changed x (Some after) = record { names = x.names; links = after; turned = record { took = changed; decision = x.decision } }

abbrev pub after_taking : ℕ → Names → List Link → Taking → Answered → After
after_taking node names links t x = answer_or_idle names links t.changed x (offer_all (parcels_to node x.answer) t.links)

-- a datagram arrived
unfoldable pub after_datagram : ℕ → Plan → List ℕ → Names → List Link → After
after_datagram number plan bytes names links =
    after_taking (sender_of bytes) names links (take_datagram bytes links) (serve_taken number plan (take_datagram bytes links).taken names)

-- a service after a turn, and what that tells
abbrev pub with_after : Service → After → Service × Turned
with_after s a = (record s { names = a.names; links = a.links }, a.turned)

unfoldable pub service_datagram : List ℕ → Service → Service × Turned
service_datagram bytes s = with_after s (after_datagram s.number s.plan bytes s.names s.links)

-- a reading below the last one counts as the last
unfoldable pub service_clock : ℕ → Service → Service × Turned
service_clock ms s = (record s { clock = max s.clock ms }, record { took = nat_lt s.clock ms; decision = None })

-- what is due on its links
unfoldable pub service_due : Service → List Datagram
service_due s = due_on s.clock s.links

unfoldable pub service_push : Service → Service
service_push s = record s { links = push_all s.clock s.links }

abbrev pub is_done : Deleted → Bool
is_done deleted.Done = true
is_done deleted.NotFound = false

-- a name is withdrawn
unfoldable pub service_delete : Uan → Service → Service × Turned
service_delete u s = (record s { names = (delete_name u s.names).1 }, record { took = is_done (delete_name u s.names).0; decision = None })

unfoldable pub is_quiet : Service → Bool
is_quiet s = are_idle s.links
