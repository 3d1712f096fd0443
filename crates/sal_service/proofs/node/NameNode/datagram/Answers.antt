use Rattle.std.proofs.Common.{◌≡◌, subst}
use Rattle.std.specs.Prelude.{IfOk}
use Rattle.sal_service.specs.Service.{Service, service_datagram}
use Rattle.sal_service.proofs.Views.{service_in, datagram_turn}
use Rattle.sal_service.proofs.node.NameNode.datagram.Goals as goal

pub returns-clause-ok : goal.returns-clause-ok
returns-clause-ok c =
    let s : Service = service_in c.self.inside in
    subst (λ (v : Service). IfOk c.datagram.result (λ t. (record s { names = c.datagram.new.register; links = c.datagram.new.links }, t) ≡ service_datagram c.args.bytes.now v)) c.self.view_is
    (datagram_turn c.args.bytes.now s c.datagram.new.register c.datagram.new.links c.datagram.result c.datagram.ensures)
