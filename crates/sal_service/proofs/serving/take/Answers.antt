use Rattle.std.proofs.Common.{ap, ◌∙◌}
use Rattle.sal_node.specs.Links.{Taking, sender_of, take_datagram}
use Rattle.sal_service.specs.declared.turned.Turned.{Turned}
use Rattle.sal_service.specs.code.Answering.{after}
use Rattle.sal_service.proofs.Turns.{tells, only_taken}
use Rattle.sal_service.proofs.serving.take.Goals as goal

pub returns-clause-ok : goal.returns-clause-ok
returns-clause-ok c = λ names.
    ap (λ (u : Turned). after names c.take.new.self u) c.turn_without_decision.ensures
    ∙ ap (λ (s : Taking). after names s.links (tells s.changed)) c.in_ok-took.ensures.ok
    ∙ only_taken (sender_of c.args.bytes.now) names c.args.links.now (take_datagram c.args.bytes.now c.args.links.now)
