-- Actors that are moved from outside, or aren't.
use Rattle.std.proofs.Common.{◌≡◌, ℕ, true, false, sym, ap, ◌∙◌}
use Rattle.std.specs.Prelude.{if◌then◌else◌}
use Rattle.sal_value.specs.declared.name.Name.TheVariants as name
use Rattle.sal_value.specs.declared.name.Uan.{Uan}
use Rattle.sal_routing.specs.State.{Theatre, Desk, desk, nothing}
use Rattle.sal_routing.specs.Arrivals.{goes, depart, move_to}
use Rattle.sal_routing.specs.Handling.{finished}
use Rattle.sal_routing.specs.Turns.{move_actor}

pub moved : (u : Uan) (to : ℕ) (t : Theatre) (d : Desk) → d ≡ move_to (name.Uan u) to (desk t) → true ≡ goes (name.Uan u) to t → finished t true d ≡ move_actor u to t
unfolding move_to move_actor
moved u to t d is e =
    let left : Desk = depart (name.Uan u) to (desk t) in
    ap (finished t true) (is ∙ ap (λ b. if b then left else desk t) (sym e)) ∙ ap (λ b. if b then finished t true left else nothing t) e

pub stayed : (u : Uan) (to : ℕ) (t : Theatre) → false ≡ goes (name.Uan u) to t → nothing t ≡ move_actor u to t
unfolding move_actor
stayed u to t e = ap (λ b. if b then finished t true (depart (name.Uan u) to (desk t)) else nothing t) e
