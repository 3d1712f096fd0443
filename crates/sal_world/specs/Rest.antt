-- A world at rest.
use Rattle.std.specs.Prelude.{ℕ, Bool, true, false, ◌&&◌, Option, Some, None}
use Rattle.std.specs.List.{list_all}
use Rattle.std.specs.Option.{is_none}
use Rattle.std.specs.FinMap as fm
use Rattle.sal_value.specs.declared.name.Name.{Name}
use Rattle.sal_value.specs.declared.name.Name.TheVariants as name
use Rattle.sal_value.specs.declared.name.Uan.{Uan}
use Rattle.sal_carriage.specs.Link.{is_acknowledged, is_empty}
use Rattle.sal_naming.specs.Table.{get_name}
use Rattle.sal_directory.specs.Nodes.{service_of}
use Rattle.sal_routing.specs.declared.pending.Pending.{Pending}
use Rattle.sal_routing.specs.declared.pending.Asking.{Asking}
use Rattle.sal_routing.specs.declared.pending.Asking.TheVariants.{Awaited, Again, Settled}
use Rattle.sal_routing.specs.State.{Theatre, goal_of}
use Rattle.sal_world.specs.World.{World, ends}
use Rattle.sal_world.specs.Pieces.{held_items}
use Rattle.sal_world.specs.Image.{names_at}

-- every fragment that was offered was taken, and its sender knows it
abbrev pub are_acknowledged : World → Bool
are_acknowledged w = list_all (λ e. list_all is_acknowledged e.1) (ends w)

-- no answer is awaited
abbrev pub is_answered : Asking → Bool
is_answered Awaited = false
is_answered (Again m) = true
is_answered Settled = true

-- the naming service of its name isn't in the plan, so no answer will come
abbrev pub awaits_nothing : Theatre → Pending → Bool
awaits_nothing t x = is_none (service_of t.plan x.creation.name)

abbrev pub is_unknown_at : Option ℕ → Uan → World → Bool
is_unknown_at None u w = true
is_unknown_at (Some number) u w = is_none (get_name u (names_at number w))

-- the name's service doesn't find it, or isn't in the plan
abbrev pub is_held_for_good : World → Option Name → Bool
is_held_for_good w (Some (name.Uan u)) = is_unknown_at (service_of w.plan u) u w
is_held_for_good w _ = false

abbrev pub is_theatre_at_rest : World → Theatre → Bool
is_theatre_at_rest w t =
    is_empty t.ready && (is_empty t.delayed && (list_all (λ q. is_answered q.asking) (fm.values t.questions)
    && (list_all (awaits_nothing t) (fm.values t.pending) && list_all (λ i. is_held_for_good w (goal_of i)) (held_items t.held))))

-- Every fragment was taken and acknowledged, nothing is ready, delayed or asked, no creation waits for an answer, and what
-- is held is held for a name that its service doesn't find, or that has no service in the plan.
unfoldable pub is_at_rest : World → Bool
is_at_rest w = are_acknowledged w && list_all (is_theatre_at_rest w) w.theatres
