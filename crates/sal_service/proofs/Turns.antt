-- What turns come to, by what was answered.
use Rattle.std.proofs.Common.{◌≡◌, ℕ, Bool, true, false, List, Some, None, refl, sym, ap, ◌∙◌}
use Rattle.std.specs.Prelude.{if◌then◌else◌, option_map}
use Rattle.sal_mail.specs.declared.plan.Plan.{Plan}
use Rattle.sal_mail.specs.declared.envelope.Envelope.{Envelope}
use Rattle.sal_mail.specs.declared.envelope.Envelope.TheVariants as envelope
use Rattle.sal_envelope.specs.Decoding.{decoded_envelope}
use Rattle.sal_carriage.specs.declared.arrival.Arrival.{Arrival}
use Rattle.sal_carriage.specs.declared.datagram.Taken.{Taken}
use Rattle.sal_carriage.specs.declared.datagram.Taken.TheVariants as taken
use Rattle.sal_carriage.specs.Halves.{is_envelope}
use Rattle.sal_carriage.specs.Link.{Link}
use Rattle.sal_naming.specs.declared.entry.Put.{Put}
use Rattle.sal_naming.specs.Table.{Names}
use Rattle.sal_node.specs.Halves.{Completes}
use Rattle.sal_node.specs.declared.parcel.Parcel.{Parcel}
use Rattle.sal_node.proofs.Halves.{between}
use Rattle.sal_node.specs.Links.{Taking, offer_all, sender_of, take_datagram}
use Rattle.sal_service.specs.declared.origin.Origin.{Origin}
use Rattle.sal_service.specs.declared.turned.Decision.{Decision}
use Rattle.sal_service.specs.declared.turned.Turned.{Turned}
use Rattle.sal_service.specs.Service.{Answered, After, no_answer, if_mine, is_bound, decision_of, answer_put, serve_decoded, serve_taken, parcels_to, idle, answer_or_idle, after_taking, after_datagram}
use Rattle.sal_service.specs.code.Answering.{taken_from, CanTake, IsAnswered, IsUnanswered, after, after_envelope, undone, settled, names_settled}

abbrev pub tells : Bool → Turned
tells took = record { took = took; decision = None }

-- ---- the link for the answer

pub offered : (ps : List Parcel) (o : Origin) (old mid new : List Link) → CanTake o old → offer_all ps old ≡ Some mid → new ≡ taken_from o mid → offer_all ps (taken_from o old) ≡ Some new
offered ps o old mid new can h e = between.offers ps o.from o.acknowledges old can ∙ ap (option_map (taken_from o)) h ∙ ap (λ (ls : List Link). Some ls) (sym e)

pub spent : (ps : List Parcel) (o : Origin) (old : List Link) → CanTake o old → offer_all ps old ≡ None → offer_all ps (taken_from o old) ≡ None
spent ps o old can h = between.offers ps o.from o.acknowledges old can ∙ ap (option_map (taken_from o)) h

-- ---- turns

pub unanswered : (o : Origin) (old new : List Link) (turned : Turned) → turned ≡ tells true → new ≡ taken_from o old → IsUnanswered o old turned new
unfolding offer_all after_envelope
unanswered o old new turned t e = λ names names_after. ap (λ (u : Turned). after names_after new u) t ∙ ap (λ (ls : List Link). after names_after ls (tells true)) e

-- an answer that tells nothing
pub answered : (done : Bool) (o : Origin) (e : Envelope) (names : Names) (old new : List Link) → IsAnswered o e old done new
    → after names new (tells done) ≡ after_envelope o names old (record { names = names; answer = Some e; decision = None })
unfolding after_envelope
answered true o e names old new h = sym (ap (answer_or_idle names old true (record { names = names; answer = Some e; decision = None })) h)
answered false o e names old new h =
    ap (λ (ls : List Link). after names ls idle) h.1
    ∙ sym (ap (answer_or_idle names old true (record { names = names; answer = Some e; decision = None })) h.0)

-- ---- a put

abbrev by_bound : Origin → Decision → Names → Names → List Link → Bool → After
by_bound o d names put_names old bound =
    answer_or_idle names old true (record { names = put_names; answer = Some (envelope.PutReply d.maker d.serial bound); decision = Some (decision_of d.maker d.serial d.name d.theatre bound) })
    (offer_all (parcels_to o.from (Some (envelope.PutReply d.maker d.serial bound))) (taken_from o old))

decided : (o : Origin) (d : Decision) (x : Put × Names) (names : Names) (old new : List Link) → d.bound ≡ is_bound x.0 → IsAnswered o (envelope.PutReply d.maker d.serial d.bound) old true new
    → after x.1 new (record { took = true; decision = Some d }) ≡ after_envelope o names old (answer_put d.maker d.serial d.name d.theatre x)
unfolding after_envelope
decided o d x names old new e h =
    sym (ap (answer_or_idle names old true (record { names = x.1; answer = Some (envelope.PutReply d.maker d.serial d.bound); decision = Some d })) h)
    ∙ ap (by_bound o d names x.1 old) e

undecided : (o : Origin) (d : Decision) (x : Put × Names) (names : Names) (old new : List Link) → d.bound ≡ is_bound x.0 → IsAnswered o (envelope.PutReply d.maker d.serial d.bound) old false new
    → after names new (tells false) ≡ after_envelope o names old (answer_put d.maker d.serial d.name d.theatre x)
unfolding after_envelope
undecided o d x names old new e h =
    ap (λ (ls : List Link). after names ls idle) h.1
    ∙ sym (ap (answer_or_idle names old true (record { names = x.1; answer = Some (envelope.PutReply d.maker d.serial d.bound); decision = Some d })) h.0)
    ∙ ap (by_bound o d names x.1 old) e

pub settles : (done : Bool) (o : Origin) (d : Decision) (x : Put × Names) (names : Names) (old new : List Link) → d.bound ≡ is_bound x.0 → undone d x.1 ≡ names
    → IsAnswered o (envelope.PutReply d.maker d.serial d.bound) old done new
    → after (names_settled done d x.1) new (settled done d) ≡ after_envelope o names old (answer_put d.maker d.serial d.name d.theatre x)
settles true o d x names old new e back h = decided o d x names old new e h
settles false o d x names old new e back h = ap (λ (t : Names). after t new idle) back ∙ undecided o d x names old new e h

-- ---- whose the name is

pub mine : (b : Bool) (names : Names) (x : Answered) → b ≡ true → x ≡ if_mine b names x
mine b names x e = ap (λ c. if c then x else no_answer names) (sym e)

pub not_mine : (b : Bool) (names : Names) (x : Answered) → b ≡ false → no_answer names ≡ if_mine b names x
not_mine b names x e = ap (λ c. if c then x else no_answer names) (sym e)

-- ---- a datagram

not_served : (number : ℕ) (plan : Plan) (t : Taken) (names : Names) → is_envelope t ≡ false → serve_taken number plan t names ≡ no_answer names
not_served number plan (taken.Envelope bytes) names h = absurd cc
not_served number plan taken.Part names h = refl
not_served number plan taken.Old names h = refl
not_served number plan taken.Ahead names h = refl
not_served number plan taken.Acknowledged names h = refl
not_served number plan taken.Noise names h = refl

pub only_taken : (from : ℕ) (names : Names) (old : List Link) (t : Taking) → after names t.links (tells t.changed) ≡ after_taking from names old t (no_answer names)
unfolding offer_all
only_taken from names old t = refl

pub no_arrival : (number : ℕ) (plan : Plan) (bytes : List ℕ) (names : Names) (links : List Link) → is_envelope (take_datagram bytes links).taken ≡ false
    → after_taking (sender_of bytes) names links (take_datagram bytes links) (no_answer names) ≡ after_datagram number plan bytes names links
unfolding after_datagram
no_arrival number plan bytes names links h =
    ap (after_taking (sender_of bytes) names links (take_datagram bytes links)) (sym (not_served number plan (take_datagram bytes links).taken names h))

pub arrived : (number : ℕ) (plan : Plan) (bytes : List ℕ) (names : Names) (links : List Link) (a : Arrival) → Completes bytes links a
    → after_envelope (record { from = sender_of bytes; acknowledges = a.acknowledges }) names links (serve_decoded number plan (decoded_envelope a.envelope) names) ≡ after_datagram number plan bytes names links
unfolding after_datagram after_envelope
arrived number plan bytes names links a h =
    ap (λ (t : Taking). after_taking (sender_of bytes) names links t (serve_taken number plan t.taken names)) (sym h.taking)
