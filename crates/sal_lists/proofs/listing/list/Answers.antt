use Rattle.std.proofs.Common.{◌+◌, ◌++◌, length, ap, ◌∙◌}
use Rattle.sal_world.specs.Lists.{posted_after}
use Rattle.sal_routing.specs.State.{moment}
use Rattle.sal_lists.specs.code.Listing.{lists_of}
use Rattle.sal_lists.proofs.Telling.{listed_is}
use Rattle.sal_lists.proofs.listing.list.Goals as goal

pub returns : goal.returns
returns c =
    let l = lists_of c.args.lists.now in
    let adds = c.requires.adds in
    listed_is c.args.node c.args.told l _ _ _ _ _ _ _ _ c.append_in_room.ensures c.append_texts.ensures (c.append_in_room-2.ensures ∙ ap (λ more. l.faults ++ more) adds.faults)
    (c.append_in_room-3.ensures ∙ ap (λ more. l.answers ++ more) adds.answers) (c.posted_after-lists.ensures ∙ ap (posted_after l.posted) c.as_slice.ensures) (c.absorb.ensures ∙ adds.places)
    (c.count_moves-lists.ensures ∙ ap (λ moved. moment (l.moves + length moved)) c.as_slice-2.ensures) (c.absorb-2.ensures ∙ adds.joins)
