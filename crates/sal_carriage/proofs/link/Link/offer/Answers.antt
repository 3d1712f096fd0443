use Rattle.std.proofs.Common.{◌≡◌, true, sym, ap, subst, ◌∙◌, rules}
use Rattle.sal_carriage.specs.Link.{Link, has_room, offer}
use Rattle.sal_carriage.proofs.Offers.{room_kept, link_offers}
use Rattle.sal_carriage.proofs.Views.{link_in}
use Rattle.sal_carriage.proofs.link.Link.offer.Goals as goal

pub invariant_of-self-2 : goal.invariant_of-self-2
invariant_of-self-2 c =
    let envelope = c.args.envelope.now in
    let room : has_room envelope c.args.self.now ≡ true = search rules in
    room_kept (link_in c.self.inside) envelope c.in_ok-fragments.fragments c.append.new.self (subst (λ (l : Link). has_room envelope l ≡ true) (sym c.self.view_is) room) c.in_ok-fragments.ensures.0
    c.in_ok-append.ensures.ok

pub returns : goal.returns
returns c =
    let envelope = c.args.envelope.now in
    let room : has_room envelope c.args.self.now ≡ true = search rules in
    (room, link_offers (link_in c.self.inside) envelope c.in_ok-fragments.fragments c.append.new.self c.in_ok-fragments.ensures.0 c.in_ok-append.ensures.ok ∙ ap (offer envelope) c.self.view_is)
