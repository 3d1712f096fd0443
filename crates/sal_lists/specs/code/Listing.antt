-- Room for what a turn adds to the lists of a world.
use Rattle.std.specs.Prelude.{◌≡◌, ◌+◌, ◌++◌, ◌≤◌, length}
use Rattle.std.specs.Vec.{vec_len, vec_capacity}
use Rattle.sal_source.specs.Give.{settle_all}
use Rattle.sal_pieces.specs.Steps.{answers_of_replies}
use Rattle.sal_routing.specs.declared.told.Told.{Told}
use Rattle.sal_entries.specs.Entries.{values, overlaid, HasRoomFor}
use Rattle.sal_world.specs.World as world
use Rattle.sal_world.specs.Lists.{faults_of, put_places, waiting_at}
use Rattle.sal_lists.specs.declared.listing.Listing.{Listing}
use Rattle.sal_lists.specs.declared.lists.Lists.{Lists}

-- the world's lists that these are
abbrev pub lists_of : Lists → world.Lists
lists_of l = record {
  trace = l.trace.items;
  output = l.output.items;
  faults = l.faults.items;
  answers = l.answers.items;
  posted = l.posted;
  places = values l.places;
  moves = l.moves;
  open_joins = values l.open_joins;
}

-- This is what the turn adds to the lists, beside what it tells.
pub record Adds (x : Listing) (told : Told) (l : world.Lists) : Type 0 where
  pub faults : x.faults ≡ faults_of told
  pub answers : x.answers ≡ answers_of_replies l.open_joins told.opened told.given
  pub places : overlaid x.places l.places ≡ put_places (told.made ++ told.moved) l.places
  pub joins : overlaid x.joins l.open_joins ≡ (settle_all told.given (waiting_at told l)).joins

pub record HasRoomInLists (x : Listing) (told : Told) (l : Lists) : Type 0 where
  pub trace : vec_len l.trace + length told.log ≤ vec_capacity l.trace
  pub output : vec_len l.output + length told.printed ≤ vec_capacity l.output
  pub faults : vec_len l.faults + length x.faults ≤ vec_capacity l.faults
  pub answers : vec_len l.answers + length x.answers ≤ vec_capacity l.answers

-- It is what the turn adds, and there is room for it.
pub record IsListing (x : Listing) (told : Told) (l : Lists) : Type 0 where
  pub adds : Adds x told (lists_of l)
  pub room : HasRoomInLists x told l
  pub places_room : HasRoomFor x.places l.places
  pub joins_room : HasRoomFor x.joins l.open_joins
