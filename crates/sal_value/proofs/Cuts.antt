-- Cutting a text at the first byte that passes a test.
use Rattle.std.proofs.Common.{◌≡◌, ℕ, zero, suc, ◌+◌, ◌<◌, ◌≤◌, Bool, true, false, List, [], ◌∷◌, ◌++◌, length, get_or, take, drop, refl, sym, ap, ◌∙◌, add-one, arith}
use Rattle.sal_value.specs.Names.{NonePass, FirstPasses}

none_suc : (test : ℕ → Bool) (xs : List ℕ) (i : ℕ) → i < length xs → NonePass test (take i xs) → test (get_or xs i 0) ≡ false → NonePass test (take (suc i) xs)
none_suc test [] i lt none no' = absurd (omega arith)
none_suc test (x ∷ xs) zero lt none no' = (no', tt)
none_suc test (x ∷ xs) (suc i) lt none no' = (none.0, none_suc test xs i (omega arith) none.1 no')

pub none_more : (test : ℕ → Bool) (xs : List ℕ) (i : ℕ) → i < length xs → NonePass test (take i xs) → test (get_or xs i 0) ≡ false → NonePass test (take (i + 1) xs)
none_more test xs i lt none no' = rw add-one (none_suc test xs i lt none no')

pub first_here : (test : ℕ → Bool) (xs : List ℕ) (i : ℕ) → i < length xs → test (get_or xs i 0) ≡ true → FirstPasses test (drop i xs)
first_here test [] i lt passes = absurd (omega arith)
first_here test (x ∷ xs) zero lt passes = passes
first_here test (x ∷ xs) (suc i) lt passes = first_here test xs i (omega arith) passes

pub first_end : (test : ℕ → Bool) (xs : List ℕ) (i : ℕ) → length xs ≤ i → FirstPasses test (drop i xs)
first_end test [] zero le = tt
first_end test [] (suc i) le = tt
first_end test (x ∷ xs) zero le = absurd (omega arith)
first_end test (x ∷ xs) (suc i) le = first_end test xs i (omega arith)

-- a list is cut at its first byte that passes in one way
pub cut_same : (test : ℕ → Bool) (h k x y : List ℕ) → NonePass test h → NonePass test k → FirstPasses test x → FirstPasses test y → h ++ x ≡ k ++ y → (h ≡ k) × (x ≡ y)
cut_same test [] [] x y p q f g e = (refl, e)
cut_same test [] (b ∷ k) [] y p q f g e = absurd cc
cut_same test [] (b ∷ k) (a ∷ x) y p q f g e =
    let same : a ≡ b = cc in
    let passes : test b ≡ true = ap test (sym same) ∙ f in
    let fails : test b ≡ false = q.0 in
    absurd cc
cut_same test (a ∷ h) [] x [] p q f g e = absurd cc
cut_same test (a ∷ h) [] x (b ∷ y) p q f g e =
    let same : a ≡ b = cc in
    let passes : test a ≡ true = ap test same ∙ g in
    let fails : test a ≡ false = p.0 in
    absurd cc
cut_same test (a ∷ h) (b ∷ k) x y p q f g e =
    let rest = cut_same test h k x y p.1 q.1 f g cc in
    (cc, rest.1)

-- texts whose fronts are as long agree in both parts
pub front_same : (h k x y : List ℕ) → length h ≡ length k → h ++ x ≡ k ++ y → (h ≡ k) × (x ≡ y)
front_same [] [] x y l e = (refl, e)
front_same [] (b ∷ k) x y l e = absurd (omega arith)
front_same (a ∷ h) [] x y l e = absurd (omega arith)
front_same (a ∷ h) (b ∷ k) x y l e =
    let rest = front_same h k x y (omega arith) cc in
    (cc, rest.1)
