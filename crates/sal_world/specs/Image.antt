-- The image of a world: the configuration that is left of it once places are forgotten.
use Rattle.std.specs.Prelude.{ℕ, Bool, false, not, List, map, flat_map, slice_get, Option, Some, None}
use Rattle.std.specs.FinMap as fm
use Rattle.sal_value.specs.declared.name.Name.{Name}
use Rattle.sal_value.specs.declared.name.Name.TheVariants as name
use Rattle.sal_value.specs.declared.name.Uan.{Uan}
use Rattle.sal_value.specs.Table.{TableKey}
use Rattle.sal_source.specs.Configuration.{Configuration}
use Rattle.sal_pieces.specs.Image.{History}
use Rattle.sal_pieces.specs.Image as of_pieces
use Rattle.sal_naming.specs.declared.entry.Entry.{Entry}
use Rattle.sal_naming.specs.Table.{Names, entry_of}
use Rattle.sal_directory.specs.Nodes.{service_of}
use Rattle.sal_service.specs.Service.{Service}
use Rattle.sal_routing.specs.declared.item.Item.{Item}
use Rattle.sal_routing.specs.State.{goal_of}
use Rattle.sal_world.specs.World.{World}
use Rattle.sal_world.specs.Pieces.{pieces, world_pieces}

-- what was told so far; which theatre printed a text is forgotten
abbrev pub history : World → History
history w = record { output = map (λ x. x.1) w.lists.output; faults = w.lists.faults; answers = w.lists.answers; posted = w.lists.posted }

-- the keys of the names that the services ever gave
abbrev pub bound_names : World → List TableKey
bound_names w = flat_map (λ s. fm.keys s.names) w.services

unfoldable pub image : World → Configuration
image w = of_pieces.image (bound_names w) (world_pieces w) (history w)

-- ---- without what withdrawn names hold back

abbrev pub names_of_service : Option Service → Names
names_of_service None = fm.empty
names_of_service (Some s) = s.names

-- the names of the service with this number, counted from 0
abbrev pub names_at : ℕ → World → Names
names_at number w = names_of_service (slice_get w.services number)

abbrev pub is_withdrawn_entry : Option Entry → Bool
is_withdrawn_entry None = false
is_withdrawn_entry (Some e) = e.withdrawn

abbrev pub is_withdrawn_at : Option ℕ → Uan → World → Bool
is_withdrawn_at None u w = false
is_withdrawn_at (Some number) u w = is_withdrawn_entry (entry_of u (names_at number w))

-- the name was withdrawn at its service
abbrev pub is_withdrawn_name : World → Name → Bool
is_withdrawn_name w (name.Uan u) = is_withdrawn_at (service_of w.plan u) u w
is_withdrawn_name w (name.Anon theatre number) = false
is_withdrawn_name w (name.Outside number) = false

abbrev pub is_withdrawn_goal : World → Option Name → Bool
is_withdrawn_goal w None = false
is_withdrawn_goal w (Some n) = is_withdrawn_name w n

-- nothing withdrawn holds it back
abbrev pub is_free : World → Item → Bool
is_free w i = not (is_withdrawn_goal w (goal_of i))

-- the image, but for calls and replies that are held for a withdrawn name
unfoldable pub image_without_withdrawn : World → Configuration
image_without_withdrawn w = of_pieces.image (bound_names w) (pieces (is_free w) w) (history w)
