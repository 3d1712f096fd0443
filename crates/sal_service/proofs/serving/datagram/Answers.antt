use Rattle.std.proofs.Common.{◌≡◌, false, List, Result, Ok, Err, refl, subst, ◌∙◌}
use Rattle.std.specs.Prelude.{IfOk, OnErr}
use Rattle.sal_value.specs.declared.no_memory.NoMemory.{NoMemory}
use Rattle.sal_carriage.specs.Halves.{is_envelope}
use Rattle.sal_carriage.specs.Link.{Link}
use Rattle.sal_envelope.specs.Decoding.{decoded_envelope}
use Rattle.sal_naming.specs.Table.{Names}
use Rattle.sal_node.specs.Halves.{Completes, IsArrival}
use Rattle.sal_node.specs.Links.{sender_of, take_datagram}
use Rattle.sal_service.specs.declared.turned.Turned.{Turned}
use Rattle.sal_service.specs.Service.{After, no_answer, serve_decoded, after_taking}
use Rattle.sal_service.specs.code.Answering.{ComesTo, after, after_envelope}
use Rattle.sal_service.proofs.Turns.{no_arrival, arrived}
use Rattle.sal_service.proofs.serving.datagram.Goals as goal

pub returns-in-Some : goal.returns-in-Some
returns-in-Some c =
    let names = c.args.register.now in
    let links = c.args.links.now in
    let bytes = c.args.bytes.now in
    let number = c.args.site.now.number in
    let plan = c.args.site.now.plan in
    let a = c.in-Some.arrival in
    let whole : Completes bytes links a = subst (IsArrival bytes links) c.in-Some.is c.in_ok-arrival.ensures in
    subst (λ (x : After). ComesTo x names links c.serve_bytes.result c.serve_bytes.new.register c.serve_bytes.new.links)
    ((λ i. after_envelope (record { from = c.sender_of.ensures i; acknowledges = a.acknowledges }) names links (serve_decoded number plan (decoded_envelope (c.as_slice-envelope.ensures i)) names))
    ∙ arrived number plan bytes names links a whole)
    c.serve_bytes.ensures

taken_comes_to : (f : Names → After) (names : Names) (old new : List Link) (r : Result Turned NoMemory) → IfOk r (λ t. (ns : Names) → after ns new t ≡ f ns) → OnErr r (new ≡ old)
    → ComesTo (f names) names old r names new
taken_comes_to f names old new (Ok t) ok err = ok names
taken_comes_to f names old new (Err fault) ok err = (refl, err)

pub returns-in-None : goal.returns-in-None
returns-in-None c =
    let names = c.args.register.now in
    let links = c.args.links.now in
    let bytes = c.args.bytes.now in
    let none : is_envelope (take_datagram bytes links).taken ≡ false = subst (IsArrival bytes links) c.in-None.is c.in_ok-arrival.ensures in
    subst (λ (x : After). ComesTo x names links c.take.result names c.take.new.links)
    (no_arrival c.args.site.now.number c.args.site.now.plan bytes names links none)
    (taken_comes_to (λ ns. after_taking (sender_of bytes) ns links (take_datagram bytes links) (no_answer ns)) names links c.take.new.links c.take.result c.take.ensures.ok c.take.ensures.err)
