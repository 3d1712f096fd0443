use Rattle.std.proofs.Common.{◌≡◌, ℕ, List, ◌++◌, refl, ap}
use Rattle.std.specs.Ordering.{nat_cmp}
use Rattle.std.proofs.lemmas.Iterator.Search.{cmp_from_yields_List}
use Rattle.std.proofs.lemmas.Iterator.Consumers.{YieldsList-from_first}
use Rattle.sal_value.specs.Names.{lower_case}
use Rattle.sal_value.specs.declared.order.TextBytes.{TextBytes}
use Rattle.sal_value.proofs.order.compare_bytes.Goals as goal

abbrev left_of : TextBytes → List ℕ
left_of t = lower_case t.host.now ++ (t.port.now ++ t.path.now)

pub returns : goal.returns
returns c =
    cmp_from_yields_List (λ (u t : TextBytes). t ≡ u) c.args.right nat_cmp c.cmp.result c.cmp.ensures.ran
    (YieldsList-from_first (λ x. x) left_of (left_of c.args.left) refl)
    (λ it is. YieldsList-from_first (λ x. x) left_of (left_of c.args.right) (ap left_of is))
    (λ x y. refl)
