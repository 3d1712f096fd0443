-- Sums over the pairs of some numbers.
use Rattle.std.proofs.Common.{◌≡◌, ℕ, ◌+◌, Bool, true, false, ◌&&◌, List, [], ◌∷◌, refl, ap, arith}
use Rattle.std.specs.Prelude.{if◌then◌else◌, nat_eq}
use Rattle.std.proofs.lemmas.Bool.{eqb-true, and_left, and_right}
use Rattle.sal_source.specs.Table.{total}
use Rattle.sal_pieces.proofs.Order.{total_ext}
use Rattle.sal_transit.specs.Standing.{times}

module _ (f g : ℕ → ℕ) (a : ℕ) (others : (c : ℕ) → nat_eq c a ≡ false → g c ≡ f c) where
  absent : (ns : List ℕ) → times a ns ≡ 0 → total g ns ≡ total f ns
  absent [] e = refl
  absent (c ∷ ns) e = at (absent ns) (nat_eq c a) refl e
    where
      at : (times a ns ≡ 0 → total g ns ≡ total f ns) → (b : Bool) → nat_eq c a ≡ b → (if b then 1 else 0) + times a ns ≡ 0 → g c + total g ns ≡ f c + total f ns
      at more true is none = absurd (omega (arith, none))
      at more false is none = λ i. others c is i + more (omega (arith, none)) i

  pub once : (ns : List ℕ) → times a ns ≡ 1 → total g ns + f a ≡ total f ns + g a
  once [] e = absurd (omega (arith, e))
  once (c ∷ ns) e = at (once ns) (nat_eq c a) refl e
    where
      at : (times a ns ≡ 1 → total g ns + f a ≡ total f ns + g a) → (b : Bool) → nat_eq c a ≡ b → (if b then 1 else 0) + times a ns ≡ 1
          → g c + total g ns + f a ≡ f c + total f ns + g a
      at more true is one =
          let same : c ≡ a = eqb-true c a is in
          omega (arith, absent ns (omega (arith, one)), ap g same, ap f same)
      at more false is one = omega (arith, others c is, more (omega (arith, one)))

-- all pairs but one count as before
pub one_pair : (g h : ℕ → ℕ → ℕ) (a b : ℕ) (ns : List ℕ) → ((c d : ℕ) → (nat_eq c a && nat_eq d b) ≡ false → h c d ≡ g c d) → times a ns ≡ 1 → times b ns ≡ 1
    → total (λ c. total (h c) ns) ns + g a b ≡ total (λ c. total (g c) ns) ns + h a b
one_pair g h a b ns others once_a once_b =
    let outer = once (λ c. total (g c) ns) (λ c. total (h c) ns) a (λ c apart. total_ext (h c) (g c) (λ d. others c d (and_left (nat_eq c a) (nat_eq d b) apart)) ns) ns once_a in
    let inner = once (g a) (h a) b (λ d apart. others a d (and_right (nat_eq a a) (nat_eq d b) apart)) ns once_b in
    omega (arith, outer, inner)
