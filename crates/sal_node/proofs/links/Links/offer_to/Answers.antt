use Rattle.std.proofs.Common.{◌≡◌, ◌<◌, true, Some, List, length, get_or, set, sym, ap, subst, ◌∙◌, rules, arith}
use Rattle.std.specs.Prelude.{nat_eq, slice_set}
use Rattle.sal_carriage.specs.Link.{Link}
use Rattle.sal_node.specs.Offers.{Offers}
use Rattle.sal_node.proofs.Offers.{goes_on, offers_at, offers_nothing, has_peer}
use Rattle.sal_node.proofs.links.Links.offer_to.Goals as goal

pub returns-then-peer-node : goal.returns-then-peer-node
returns-then-peer-node c =
    let at = c.loop-at.at in
    let ls : List Link = c.args.self.now in
    let lt : at < length ls = search (rules, arith) in
    let first : c.index.result.now ≡ get_or ls at c.index.result.now = search (rules, arith) in
    let second : c.index_mut.result.now ≡ get_or ls at c.index_mut.result.now = search (rules, arith) in
    let same : nat_eq c.index.result.now.peer c.args.node ≡ true = search rules in
    subst (λ (ks : List Link). Offers c.args.node c.args.bytes.now ls c.offer.result (slice_set ks at c.offer.new.self)) (sym c.loop-at.invariant.0)
    (offers_at c.args.node c.args.bytes.now at ls c.index_mut.result.now c.offer.new.self c.offer.result lt second
    (has_peer at c.args.node ls c.index.result.now c.index_mut.result.now lt first second same) c.loop-at.invariant.1 c.offer.ensures)

pub loop-at-preserved : goal.loop-at-preserved
loop-at-preserved c = (
  c.loop-at.invariant.0,
  goes_on c.args.node c.args.bytes.now c.loop-at.at c.args.self.now c.index.result.now (search (rules, arith)) (search (rules, arith)) (search rules) c.loop-at.invariant.1,
)

pub returns : goal.returns
returns c =
    offers_nothing c.args.node c.args.bytes.now c.loop-at.at c.args.self.now (search (rules, arith)) c.loop-at.invariant.1
    ∙ ap (λ (ls : List Link). Some ls) (sym c.loop-at.invariant.0)
