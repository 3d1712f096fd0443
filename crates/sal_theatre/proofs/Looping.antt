-- The loop that routes.
use Rattle.std.proofs.Common.{◌≡◌, ◌<◌, [], ◌∷◌, sym, ap, ◌∙◌}
use Rattle.sal_handler.specs.Calls.{Meaning}
use Rattle.sal_desk.specs.code.Desks.{Turning, on_desk}
use Rattle.sal_routing.specs.declared.item.Item.{Item}
use Rattle.sal_routing.specs.State.{Desk}
use Rattle.sal_routing.specs.Routing.{route_item, items_left, route}
use Rattle.sal_routing.proofs.Ending.{route_next, taken_falls, route_done}

-- this desk in the other's place
abbrev with_desk : Turning → Desk → Turning
with_desk x d = on_desk (λ _. d) x

module _ (p : Meaning) (i : Item) (before without after : Turning) (work : before.desk.work ≡ i ∷ without.desk.work) (rest : without ≡ on_desk (λ d. record d { work = without.desk.work }) before) (routed : after ≡ on_desk (route_item p i) without) where
  pub taken : on_desk (route p) before ≡ on_desk (route p) after
  taken =
      ap (with_desk before) (route_next p i without.desk.work before.desk work)
      ∙ sym (ap (on_desk (route p)) (routed ∙ ap (on_desk (route_item p i)) rest))

  pub falls : items_left after.desk < items_left before.desk
  falls = taken_falls p i before.desk without.desk after.desk work (ap (λ (x : Turning). x.desk) rest) (ap (λ (x : Turning). x.desk) routed)

pub emptied : (p : Meaning) (before after end : Turning) → before.desk.work ≡ [] → before.desk.work ≡ after.desk.work → after ≡ on_desk (λ d. record d { work = after.desk.work }) before → on_desk (route p) before ≡ end → after ≡ end
emptied p before after end none work rest routed =
    rest
    ∙ (ap (λ ws. on_desk (λ d. record d { work = ws }) before) (sym work)
    ∙ (sym (ap (with_desk before) (route_done p before.desk none)) ∙ routed))
