use Rattle.std.proofs.Common.{List, Some, Err, ap, sym, subst, ◌∙◌}
use Rattle.sal_node.specs.declared.parcel.Parcel.{Parcel}
use Rattle.sal_carriage.specs.declared.datagram.OfferFault.{OfferFault}
use Rattle.sal_node.specs.Links.{offer_all}
use Rattle.sal_node.specs.Offers.{OffersAll}
use Rattle.sal_node.proofs.Halves.{between}
use Rattle.sal_service.specs.Service.{parcels_to}
use Rattle.sal_service.proofs.Turns.{offered, spent}
use Rattle.sal_service.proofs.answering.answer.Goals as goal

pub complete-requires : goal.complete-requires
complete-requires c = between.can c.in_ok-parcels.parcels c.args.origin.from c.args.origin.acknowledges c.args.links.now c.offer_all.new.self c.requires.can c.in-Ok.ensures

pub returns-in-Ok-clause-ok : goal.returns-in-Ok-clause-ok
returns-in-Ok-clause-ok c =
    offered (parcels_to c.args.origin.from (Some c.args.answer)) c.args.origin c.args.links.now c.offer_all.new.self c.complete.new.self c.requires.can
    (ap (λ (ps : List Parcel). offer_all ps c.args.links.now) (sym c.in_ok-parcels.ensures) ∙ c.in-Ok.ensures) c.complete.ensures

pub returns-in-Err-Spent-clause-ok : goal.returns-in-Err-Spent-clause-ok
returns-in-Err-Spent-clause-ok c =
    let h = subst (λ (f : OfferFault). OffersAll c.in_ok-parcels.parcels c.args.links.now (Err f) c.offer_all.new.self) c.in-Err-Spent.field-0-is c.in-Err-Spent.ensures in (
      spent (parcels_to c.args.origin.from (Some c.args.answer)) c.args.origin c.args.links.now c.requires.can
          (ap (λ (ps : List Parcel). offer_all ps c.args.links.now) (sym c.in_ok-parcels.ensures) ∙ h.0),
      h.1,
    )
