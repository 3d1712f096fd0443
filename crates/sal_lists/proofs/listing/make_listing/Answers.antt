use Rattle.std.proofs.Common.{sym, subst, ◌∙◌}
use Rattle.sal_entries.specs.Entries.{HasRoomFor}
use Rattle.sal_lists.specs.code.Listing.{Adds}
use Rattle.sal_lists.proofs.listing.make_listing.Goals as goal

pub returns-clause-listing : goal.returns-clause-listing
returns-clause-listing c =
    let x = c.in_ok-listing.listing in
    record {
      adds = subst (Adds x c.args.told.now) (sym (c.make_room_in_lists.ensures.same ∙ c.make_room_in_tables.ensures.same)) c.in_ok-listing.ensures;
      room = c.in_ok-make_room_in_lists.ensures.room;
      places_room = subst (HasRoomFor x.places) (sym c.make_room_in_lists.ensures.places) c.in_ok-make_room_in_tables.ensures.places;
      joins_room = subst (HasRoomFor x.joins) (sym c.make_room_in_lists.ensures.joins) c.in_ok-make_room_in_tables.ensures.joins;
    }
