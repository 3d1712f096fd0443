use Rattle.std.proofs.Common.{◌≡◌, ◌<◌, true, List, length, get_or, sym, rules, arith}
use Rattle.std.specs.Prelude.{nat_eq}
use Rattle.sal_carriage.specs.Link.{Link}
use Rattle.sal_node.proofs.Offers.{has_peer}
use Rattle.sal_node.proofs.Taking.{one_other, map_ok, arrives_at, nothing_arrives}
use Rattle.sal_node.proofs.links.Links.arrival.Goals as goal

pub returns-then-peer : goal.returns-then-peer
returns-then-peer c =
    let at = c.loop-at.at in
    let ls : List Link = c.args.self.now in
    let lt : at < length ls = search (rules, arith) in
    let first : c.index.result.now ≡ get_or ls at c.index.result.now = search (rules, arith) in
    let second : c.index-then-peer.result.now ≡ get_or ls at c.index-then-peer.result.now = search (rules, arith) in
    let same : nat_eq c.index.result.now.peer c.sender_of-peer.result ≡ true = search rules in
    map_ok c.arrival.result c.arrival.ensures (λ o a.
    arrives_at c.sender_of-peer.result c.args.bytes.now at ls c.index-then-peer.result.now o (sym c.sender_of-peer.ensures) lt second
    (has_peer at c.sender_of-peer.result ls c.index.result.now c.index-then-peer.result.now lt first second same) c.loop-at.invariant.1 a)

pub loop-at-preserved : goal.loop-at-preserved
loop-at-preserved c = (
  c.loop-at.invariant.0,
  one_other c.sender_of-peer.result c.loop-at.at c.args.self.now c.index.result.now (search (rules, arith)) (search (rules, arith)) (search rules) c.loop-at.invariant.1,
)

pub returns : goal.returns
returns c = nothing_arrives c.sender_of-peer.result c.args.bytes.now c.loop-at.at c.args.self.now (sym c.sender_of-peer.ensures) (search (rules, arith)) c.loop-at.invariant.1
