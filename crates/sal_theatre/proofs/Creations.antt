-- Lists of creations and of new actors, one more at the end.
use Rattle.std.proofs.Common.{◌≡◌, true, List, [], ◌∷◌, ◌++◌, refl, ap, ◌∙◌}
use Rattle.sal_value.specs.declared.name.Name.{Name}
use Rattle.sal_mail.specs.declared.effects.Actor.{Actor}
use Rattle.sal_mail.specs.declared.effects.Creation.{Creation}
use Rattle.sal_node.specs.Links.{has_few_nodes}
use Rattle.sal_routing.specs.State.{Theatre, Desk, newcomer}
use Rattle.sal_routing.specs.Routing.{put_resident}
use Rattle.sal_routing.specs.Handling.{pending_of, create, create_all, put_newcomers}
use Rattle.sal_routing.proofs.Kept.{create_all-plan}

pub one_more : (maker : Name) (xs : List Creation) (x : Creation) (d : Desk) → create_all maker (xs ++ x ∷ []) d ≡ create (pending_of maker (create_all maker xs d).theatre x) (create_all maker xs d)
unfolding create_all
one_more maker [] x d = refl
one_more maker (y ∷ xs) x d = one_more maker xs x (create (pending_of maker d.theatre y) d)

pub still_few : (maker : Name) (xs : List Creation) (d : Desk) → has_few_nodes d.theatre.plan ≡ true → has_few_nodes (create_all maker xs d).theatre.plan ≡ true
still_few maker xs d few = ap has_few_nodes (create_all-plan maker xs d) ∙ few

pub one_newcomer : (xs : List Actor) (x : Actor) (t : Theatre) → put_newcomers (xs ++ x ∷ []) t ≡ put_resident (newcomer x) (put_newcomers xs t)
unfolding put_newcomers
one_newcomer [] x t = refl
one_newcomer (y ∷ xs) x t = one_newcomer xs x (put_resident (newcomer y) t)
