-- What is seen of a node.
use Rattle.std.proofs.Common.{◌≡◌, ℕ, List, Result, Ok, Err, ap}
use Rattle.std.specs.Prelude.{IfOk}
use Rattle.sal_value.specs.declared.no_memory.NoMemory.{NoMemory}
use Rattle.sal_carriage.specs.Link.{Link}
use Rattle.sal_naming.specs.Table.{Names}
use Rattle.sal_service.specs.declared.node.NameNode.TheInside.{Inside}
use Rattle.sal_service.specs.declared.turned.Turned.{Turned}
use Rattle.sal_service.specs.Service.{Service, with_after, after_datagram, service_datagram}
use Rattle.sal_service.specs.code.Answering.{ComesTo}

abbrev pub service_in : Inside → Service
service_in n = record { number = n.site.number; plan = n.site.plan; names = n.register; links = n.links; clock = n.clock }

pub datagram_turn : (bytes : List ℕ) (s : Service) (names : Names) (links : List Link) (r : Result Turned NoMemory)
    → ComesTo (after_datagram s.number s.plan bytes s.names s.links) s.names s.links r names links → IfOk r (λ t. (record s { names = names; links = links }, t) ≡ service_datagram bytes s)
unfolding service_datagram
datagram_turn bytes s names links (Ok t) h = ap (with_after s) h
datagram_turn bytes s names links (Err fault) h = tt
