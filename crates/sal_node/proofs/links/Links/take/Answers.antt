use Rattle.std.proofs.Common.{◌≡◌, ◌<◌, true, List, length, get_or, sym, rules, arith}
use Rattle.std.specs.Prelude.{nat_eq}
use Rattle.sal_carriage.specs.Link.{Link}
use Rattle.sal_node.proofs.Offers.{has_peer}
use Rattle.sal_node.proofs.Taking.{one_other, map_ok, taken_at, taken_nowhere}
use Rattle.sal_node.proofs.links.Links.take.Goals as goal

pub returns-then-peer-clause-ok : goal.returns-then-peer-clause-ok
returns-then-peer-clause-ok c =
    let at = c.loop-at.at in
    let ls : List Link = c.args.self.now in
    let lt : at < length ls = search (rules, arith) in
    let first : c.index.result.now ≡ get_or ls at c.index.result.now = search (rules, arith) in
    let second : c.index_mut.result.now ≡ get_or ls at c.index_mut.result.now = search (rules, arith) in
    let same : nat_eq c.index.result.now.peer c.sender_of-peer.result ≡ true = search rules in
    map_ok c.take_on.result c.take_on.ensures.ok (λ t p.
    taken_at c.sender_of-peer.result c.args.bytes.now at c.loop-at.self-inside.items.items ls c.index_mut.result.now c.take_on.new.link t.taken t.changed (sym c.sender_of-peer.ensures)
    c.loop-at.invariant.0 lt second (has_peer at c.sender_of-peer.result ls c.index.result.now c.index_mut.result.now lt first second same) c.loop-at.invariant.1 p.0 p.1)

pub loop-at-preserved : goal.loop-at-preserved
loop-at-preserved c = (
  c.loop-at.invariant.0,
  one_other c.sender_of-peer.result c.loop-at.at c.args.self.now c.index.result.now (search (rules, arith)) (search (rules, arith)) (search rules) c.loop-at.invariant.1,
)

pub returns-clause-ok : goal.returns-clause-ok
returns-clause-ok c =
    taken_nowhere c.sender_of-peer.result c.args.bytes.now c.loop-at.at c.loop-at.self-inside.items.items c.args.self.now (sym c.sender_of-peer.ensures) c.loop-at.invariant.0 (search (rules, arith)) c.loop-at.invariant.1
