-- What answering an envelope does to links, and what it gives in the end.
use Rattle.std.specs.Prelude.{◌≡◌, Bool, true, false, if◌then◌else◌, List, Some, None, Result, Ok, Err}
use Rattle.sal_value.specs.declared.no_memory.NoMemory.{NoMemory}
use Rattle.sal_value.specs.Order.{uan_key}
use Rattle.sal_value.specs.Table.{write}
use Rattle.sal_mail.specs.declared.envelope.Envelope.{Envelope}
use Rattle.sal_carriage.specs.Link.{Link}
use Rattle.sal_naming.specs.Table.{Names}
use Rattle.sal_node.specs.Halves.{CanCompleteFrom, complete_from}
use Rattle.sal_node.specs.Links.{offer_all}
use Rattle.sal_service.specs.declared.origin.Origin.{Origin}
use Rattle.sal_service.specs.declared.turned.Decision.{Decision}
use Rattle.sal_service.specs.declared.turned.Turned.{Turned}
use Rattle.sal_service.specs.Service.{Answered, After, idle, parcels_to, answer_or_idle}

-- the links once the envelope is taken that came from there
abbrev pub taken_from : Origin → List Link → List Link
taken_from o links = complete_from o.from o.acknowledges links

-- it can be taken
abbrev pub CanTake : Origin → List Link → Type 0
CanTake o links = CanCompleteFrom o.from o.acknowledges links

-- The answer is offered once the envelope that came was taken; or the link is spent, and nothing is done.
abbrev pub IsAnswered : Origin → Envelope → List Link → Bool → List Link → Type 0
IsAnswered o e old true new = offer_all (parcels_to o.from (Some e)) (taken_from o old) ≡ Some new
IsAnswered o e old false new = (offer_all (parcels_to o.from (Some e)) (taken_from o old) ≡ None) × (new ≡ old)

-- ---- turns

abbrev pub after : Names → List Link → Turned → After
after names links turned = record { names = names; links = links; turned = turned }

-- what comes of an envelope from there with this answer
unfoldable pub after_envelope : Origin → Names → List Link → Answered → After
after_envelope o names links x = answer_or_idle names links true x (offer_all (parcels_to o.from x.answer) (taken_from o links))

-- The turn of an envelope that isn't answered, whatever the names before it and after it.
abbrev pub IsUnanswered : Origin → List Link → Turned → List Link → Type 0
IsUnanswered o old turned new =
    (names names_after : Names) → after names_after new turned ≡ after_envelope o names old (record { names = names_after; answer = None; decision = None })

-- A turn comes to this; or memory ran out, and names and links are as before.
abbrev pub ComesTo : After → Names → List Link → Result Turned NoMemory → Names → List Link → Type 0
ComesTo a names links (Ok turned) new_names new_links = after new_names new_links turned ≡ a
ComesTo a names links (Err fault) new_names new_links = (new_names ≡ names) × (new_links ≡ links)

-- the turn of an envelope from there with this answer
abbrev pub Serves : Origin → Answered → Names → List Link → Result Turned NoMemory → Names → List Link → Type 0
Serves o x names links result new_names new_links = ComesTo (after_envelope o names links x) names links result new_names new_links

-- ---- puts that are undone

-- the table without the name that was bound by this decision
abbrev pub undone : Decision → Names → Names
undone d t = if d.bound then write t (uan_key d.name) None else t

-- what is told of a decision, where it was answered
abbrev pub settled : Bool → Decision → Turned
settled done d = if done then record { took = true; decision = Some d } else idle

-- and the table after it
abbrev pub names_settled : Bool → Decision → Names → Names
names_settled done d t = if done then t else undone d t
