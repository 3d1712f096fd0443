use Rattle.std.proofs.Common.{◌≡◌, ℕ, ◌+◌, ◌<◌, List, [], ◌∷◌, ◌++◌, length, get_or, take, map, refl, sym, ap, ◌∙◌}
use Rattle.std.proofs.lemmas.List.{take_more}
use Rattle.sal_value.specs.declared.name.Authority.{Authority}
use Rattle.sal_value.specs.declared.name.Ual.{Ual}
use Rattle.sal_plan.specs.Rules.{locator_address}
use Rattle.sal_plan.proofs.addresses.locator_addresses.Goals as goal

map_last : (ls : List Ual) (l : Ual) → map locator_address (ls ++ l ∷ []) ≡ map locator_address ls ++ locator_address l ∷ []
map_last [] l = refl
map_last (x ∷ ls) l = ap (λ (zs : List Authority). locator_address x ∷ zs) (map_last ls l)

on : (ls : List Ual) (i : ℕ) (l : Ual) (done new : List Authority) → i < length ls → l ≡ get_or ls i l → done ≡ map locator_address (take i ls) → new ≡ done ++ locator_address l ∷ []
    → new ≡ map locator_address (take (i + 1) ls)
on ls i l done new lt here h is =
    is ∙ ap (λ (zs : List Authority). zs ++ locator_address l ∷ []) h ∙ sym (map_last (take i ls) l) ∙ sym (ap (λ zs. map locator_address (take i ls ++ zs ∷ [])) (sym here)) ∙ sym (ap (map locator_address) (take_more ls i l lt))

pub loop-locator-preserved : goal.loop-locator-preserved
loop-locator-preserved c =
    on c.args.theatres.now c.loop-locator.locator-index c.locator-item.result c.loop-locator.addresses c.push_address.new.addresses c.loop-locator-test.true c.locator-item.is c.loop-locator.invariant c.in_ok-push_address.ensures
