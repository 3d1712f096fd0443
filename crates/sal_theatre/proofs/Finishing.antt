-- How a turn ends: its changes are made, or a link is spent and there was nothing to do.
use Rattle.std.proofs.Common.{◌≡◌, ℕ, true, List, Option, Some, None, sym, subst}
use Rattle.std.proofs.lemmas.Option.{none-some, same_Some}
use Rattle.sal_carriage.specs.Link.{Link}
use Rattle.sal_node.specs.Links.{offer_all}
use Rattle.sal_node.specs.Halves.{CanCompleteFrom}
use Rattle.sal_desk.specs.code.Drafts.{CanFinish, CommitsTo, Commits}
use Rattle.sal_routing.specs.declared.told.Told.{Told}
use Rattle.sal_routing.specs.State.{Theatre, Desk, nothing}
use Rattle.sal_routing.specs.Handling.{offered_or, finished}

-- ---- that a turn can be made

-- no envelope begins it
pub unbegun : (arrived : Option (ℕ × ℕ)) (links : List Link) → arrived ≡ None → CanFinish arrived links
unbegun arrived links e = subst (λ o. CanFinish o links) (sym e) tt

pub begun : (arrived : Option (ℕ × ℕ)) (peer count : ℕ) (links : List Link) → arrived ≡ Some (peer, count) → CanCompleteFrom peer count links → CanFinish arrived links
begun arrived peer count links e can = subst (λ o. CanFinish o links) (sym e) can

-- ---- what it does

made_by : (o : Option (List Link)) (old : Theatre) (d : Desk) (told : Told) (new : Theatre)
    → CommitsTo o old d (Some told) new → record { theatre = new; told = told; took = true } ≡ offered_or o old true d
made_by None old d told new c = absurd (none-some told (sym c.0))
made_by (Some links) old d told new c = λ i. record { theatre = c.1 i; told = same_Some told d.told c.0 i; took = true }

pub made : (old : Theatre) (d : Desk) (told : Told) (new : Theatre) → Commits old d (Some told) new → record { theatre = new; told = told; took = true } ≡ finished old true d
unfolding finished
made old d told new c = made_by (offer_all d.sent d.theatre.links) old d told new c

spent_by : (o : Option (List Link)) (old : Theatre) (d : Desk) (new : Theatre) → CommitsTo o old d None new → nothing new ≡ offered_or o old true d
spent_by None old d new c = λ i. nothing (c.1 i)
spent_by (Some links) old d new c = absurd (none-some d.told c.0)

pub spent : (old : Theatre) (d : Desk) (new : Theatre) → Commits old d None new → nothing new ≡ finished old true d
unfolding finished
spent old d new c = spent_by (offer_all d.sent d.theatre.links) old d new c
