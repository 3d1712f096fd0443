-- Names that are asked for again, one more at the end.
use Rattle.std.proofs.Common.{◌≡◌, ℕ, ◌+◌, ◌<◌, true, List, [], ◌∷◌, ◌++◌, length, take, get_or, refl, sym, ap, ◌∙◌}
use Rattle.std.proofs.lemmas.List.{take_more}
use Rattle.sal_value.specs.declared.name.Uan.{Uan}
use Rattle.sal_node.specs.Links.{has_few_nodes}
use Rattle.sal_directory.specs.Nodes.{service_of}
use Rattle.sal_desk.specs.code.Desks.{Turning, on_desk}
use Rattle.sal_routing.specs.State.{Desk}
use Rattle.sal_routing.specs.Turns.{ask_by, ask_all}
use Rattle.sal_routing.proofs.Kept.{ask_all-plan}

pub one_more : (us : List Uan) (u : Uan) (d : Desk) → ask_all (us ++ u ∷ []) d ≡ ask_by (service_of (ask_all us d).theatre.plan u) u (ask_all us d)
unfolding ask_all
one_more [] u d = refl
one_more (v ∷ us) u d = one_more us u (ask_by (service_of d.theatre.plan v) v d)

pub still_few : (us : List Uan) (d : Desk) → has_few_nodes d.theatre.plan ≡ true → has_few_nodes (ask_all us d).theatre.plan ≡ true
still_few us d few = ap has_few_nodes (ask_all-plan us d) ∙ few

-- the next name of a loop
pub next : (us : List Uan) (i : ℕ) (u : Uan) (first before after : Turning) → i < length us → u ≡ get_or us i u
    → before ≡ on_desk (ask_all (take i us)) first → after ≡ on_desk (λ d. ask_by (service_of d.theatre.plan u) u d) before
    → after ≡ on_desk (ask_all (take (i + 1) us)) first
next us i u first before after lt is had asked =
    let more : take (i + 1) us ≡ take i us ++ u ∷ [] = take_more us i u lt ∙ ap (λ v. take i us ++ v ∷ []) (sym is) in
    asked
    ∙ ap (on_desk (λ d. ask_by (service_of d.theatre.plan u) u d)) had
    ∙ (λ k. record first { desk = sym (one_more (take i us) u first.desk) k })
    ∙ ap (λ vs. on_desk (ask_all vs) first) (sym more)
