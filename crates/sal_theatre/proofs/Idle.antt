-- Readings of the clock for which a theatre has nothing to do.
use Rattle.std.proofs.Common.{◌≡◌, ℕ, false, List, Option, Some, None, refl, sym, ap, ◌∙◌}
use Rattle.sal_handler.specs.Calls.{Meaning}
use Rattle.sal_carriage.specs.Link.{Link}
use Rattle.sal_node.specs.Links.{offer_all}
use Rattle.sal_routing.specs.State.{Theatre, Desk, desk, nothing}
use Rattle.sal_routing.specs.Routing.{route}
use Rattle.sal_routing.specs.Handling.{offered_or, finished}
use Rattle.sal_routing.specs.Turns.{at_reading, release_delayed, again_due, ask_all, is_time, clock}
use Rattle.sal_routing.proofs.Clocks.{clocks_idle}

took_by : (o : Option (List Link)) (t : Theatre) (d : Desk) → (offered_or o t false d).took ≡ false
took_by None t d = refl
took_by (Some links) t d = refl

untaken : (t : Theatre) (d : Desk) → (finished t false d).took ≡ false
unfolding finished
untaken t d = took_by (offer_all d.sent d.theatre.links) t d

pub idle : (p : Meaning) (ms : ℕ) (t : Theatre) → is_time ms t ≡ false → nothing t ≡ clock p ms t
unfolding clock
idle p ms t e =
    let end : Desk = ask_all (again_due (at_reading ms t)) (route p (release_delayed (desk (at_reading ms t)))) in
    let took : (clock p ms t).took ≡ false = ap (λ b. (finished t b end).took) e ∙ untaken t end in
    let same = clocks_idle p ms t took in
    λ i. record { theatre = sym same.0 i; told = sym same.1 i; took = sym took i }
