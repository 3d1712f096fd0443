use Rattle.std.proofs.Common.{ap, ◌∙◌}
use Rattle.sal_entries.specs.Entries.{overlaid}
use Rattle.sal_entries.proofs.Laws.{overlaid-none}
use Rattle.sal_world.specs.Lists.{put_places}
use Rattle.sal_lists.proofs.Telling.{places_both}
use Rattle.sal_lists.proofs.listing.places_of.Goals as goal

pub returns : goal.returns
returns c =
    let made = c.args.told.now.made in
    let moved = c.args.told.now.moved in
    λ b. c.in_ok-add_places-2.ensures b ∙ ap (λ xs. put_places xs (overlaid c.add_places.new.changes b)) c.as_slice-2.ensures
    ∙ ap (put_places moved) (c.in_ok-add_places.ensures b ∙ ap (λ xs. put_places xs (overlaid c.new-changes.result b)) c.as_slice.ensures
    ∙ ap (put_places made) (overlaid-none c.new-changes.result b c.new-changes.ensures)) ∙ places_both made moved b
