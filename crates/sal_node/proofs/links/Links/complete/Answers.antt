use Rattle.std.proofs.Common.{◌≡◌, ◌<◌, true, List, length, get_or, ap, ◌∙◌, rules, arith}
use Rattle.std.specs.Prelude.{nat_eq, slice_set}
use Rattle.sal_carriage.specs.Link.{Link}
use Rattle.sal_node.proofs.Offers.{has_peer}
use Rattle.sal_node.proofs.Taking.{one_other, can_at, completes_at, completes_nothing}
use Rattle.sal_node.proofs.links.Links.complete.Goals as goal

pub complete-requires : goal.complete-requires
complete-requires c =
    let at = c.loop-at.at in
    let ls : List Link = c.args.self.now in
    let lt : at < length ls = search (rules, arith) in
    let first : c.index.result.now ≡ get_or ls at c.index.result.now = search (rules, arith) in
    let second : c.index_mut.result.now ≡ get_or ls at c.index_mut.result.now = search (rules, arith) in
    let same : nat_eq c.index.result.now.peer c.args.peer ≡ true = search rules in
    can_at c.args.peer c.args.acknowledges at ls c.index_mut.result.now lt second
    (has_peer at c.args.peer ls c.index.result.now c.index_mut.result.now lt first second same) c.loop-at.invariant.1 c.requires

pub returns-then-peer : goal.returns-then-peer
returns-then-peer c =
    let at = c.loop-at.at in
    let ls : List Link = c.args.self.now in
    let lt : at < length ls = search (rules, arith) in
    let first : c.index.result.now ≡ get_or ls at c.index.result.now = search (rules, arith) in
    let second : c.index_mut.result.now ≡ get_or ls at c.index_mut.result.now = search (rules, arith) in
    let same : nat_eq c.index.result.now.peer c.args.peer ≡ true = search rules in
    ap (λ (ks : List Link). slice_set ks at c.complete.new.self) c.loop-at.invariant.0
    ∙ completes_at c.args.peer c.args.acknowledges at ls c.index_mut.result.now c.complete.new.self lt second
    (has_peer at c.args.peer ls c.index.result.now c.index_mut.result.now lt first second same) c.loop-at.invariant.1 c.complete.ensures

pub loop-at-preserved : goal.loop-at-preserved
loop-at-preserved c = (
  c.loop-at.invariant.0,
  one_other c.args.peer c.loop-at.at c.args.self.now c.index.result.now (search (rules, arith)) (search (rules, arith)) (search rules) c.loop-at.invariant.1,
)

pub returns : goal.returns
returns c = c.loop-at.invariant.0 ∙ completes_nothing c.args.peer c.args.acknowledges c.loop-at.at c.args.self.now (search (rules, arith)) c.loop-at.invariant.1
