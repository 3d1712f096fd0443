-- Lists with the same items in any order: each sum over them is the same. So `omega` proves that lists differ only in order.
use Rattle.std.proofs.Common.{◌≡◌, ◌⊎◌, inl, inr, ℕ, ◌+◌, ◌≤◌, Bool, true, false, cond, ◌&&◌, ◌==◌, List, [], ◌∷◌, ◌++◌, map, length, refl, sym, ap, subst, ◌∙◌, arith, true≢false}
use Rattle.std.proofs.lemmas.Bool.Decides.{Decides-eqb}
use base.Stored.{Gv, gnil, gnum, gcons, Coded}
use Rattle.sal_source.specs.Table.{total, HasSameItems}

pub total-append : {A : Type 0} (f : A → ℕ) (xs ys : List A) → total f (xs ++ ys) ≡ total f xs + total f ys
total-append f [] ys = omega arith
total-append f (x ∷ xs) ys = omega (arith, total-append f xs ys)

pub total-map : {A B : Type 0} (f : B → ℕ) (g : A → B) (xs : List A) → total f (map g xs) ≡ total (λ x. f (g x)) xs
total-map f g [] = refl
total-map f g (x ∷ xs) = ap (λ n. f (g x) + n) (total-map f g xs)

pub total_none : {A : Type 0} (xs : List A) → total (λ x. 1) xs ≡ length xs
total_none [] = refl
total_none (x ∷ xs) = omega (arith, total_none xs)

abbrev pub gv_eq : Gv → Gv → Bool
gv_eq gnil gnil = true
gv_eq gnil (gnum n) = false
gv_eq gnil (gcons a b) = false
gv_eq (gnum m) gnil = false
gv_eq (gnum m) (gnum n) = m == n
gv_eq (gnum m) (gcons a b) = false
gv_eq (gcons a b) gnil = false
gv_eq (gcons a b) (gnum n) = false
gv_eq (gcons a b) (gcons c d) = gv_eq a c && gv_eq b d

and_true : (a b : Bool) → (a && b) ≡ true → (a ≡ true) × (b ≡ true)
and_true true b e = (refl, e)
and_true false b e = absurd (true≢false (sym e))

gv_same : (a b : Gv) → gv_eq a b ≡ true → a ≡ b
gv_same gnil gnil e = refl
gv_same gnil (gnum n) e = absurd (true≢false (sym e))
gv_same gnil (gcons a b) e = absurd (true≢false (sym e))
gv_same (gnum m) gnil e = absurd (true≢false (sym e))
gv_same (gnum m) (gnum n) e = ap gnum ((Decides-eqb m n).0 e)
gv_same (gnum m) (gcons a b) e = absurd (true≢false (sym e))
gv_same (gcons a b) gnil e = absurd (true≢false (sym e))
gv_same (gcons a b) (gnum n) e = absurd (true≢false (sym e))
gv_same (gcons a b) (gcons c d) e = let h = and_true (gv_eq a c) (gv_eq b d) e in λ i. gcons (gv_same a c h.0 i) (gv_same b d h.1 i)

gv_refl : (a : Gv) → gv_eq a a ≡ true
gv_refl gnil = refl
gv_refl (gnum n) = (Decides-eqb n n).1 refl
gv_refl (gcons a b) = (λ i. gv_refl a i && gv_eq b b) ∙ gv_refl b

pub bool_cases : (b : Bool) → (b ≡ true) ⊎ (b ≡ false)
bool_cases true = inl refl
bool_cases false = inr refl

-- a test for equality
pub record Test (A : Type 0) : Type 0 where
  pub eq : A → A → Bool
  pub itself : (x : A) → eq x x ≡ true
  pub same : (x y : A) → eq x y ≡ true → x ≡ y

pub test_of : {A : Type 0} → Coded A → Test A
test_of c = record { eq = λ x y. gv_eq (c.code x) (c.code y); itself = λ x. gv_refl (c.code x); same = λ x y e. c.inj x y (gv_same _ _ e) }

module _ {A : Type 0} (t : Test A) where
  abbrev pub copies : A → List A → ℕ
  copies x ys = total (λ y. cond (t.eq x y) 1 0) ys

  pub found : (x : A) (ys : List A) → 1 ≤ copies x ys → (a : List A) × (b : List A) × (ys ≡ a ++ x ∷ b)
  found x [] h = absurd (omega arith)
  found x (y ∷ ys) h = elim (bool_cases (t.eq x y)) [
    | inl e ↦ ([], ys, ap (λ z. z ∷ ys) (sym (t.same x y e)))
    | inr e ↦
        let more : 1 ≤ 0 + copies x ys = subst (λ (b : Bool). 1 ≤ cond {A = ℕ} b 1 0 + copies x ys) e h in
        let r = found x ys (omega arith) in
        (y ∷ r.0, r.1, ap (λ l. y ∷ l) r.2)
  ]

  pub copy_first : (x : A) (xs ys : List A) → HasSameItems (x ∷ xs) ys → 1 ≤ copies x ys
  copy_first x xs ys s =
      let e : copies x (x ∷ xs) ≡ copies x ys = s.weighs (λ y. cond {A = ℕ} (t.eq x y) 1 0) in
      let one : cond {A = ℕ} (t.eq x x) 1 0 ≡ 1 = ap (λ (b : Bool). cond {A = ℕ} b 1 0) (t.itself x) in
      omega arith

pub same_refl : {A : Type 0} (xs : List A) → HasSameItems xs xs
same_refl xs = record { weighs = λ f. refl }

pub same_sym : {A : Type 0} {xs ys : List A} → HasSameItems xs ys → HasSameItems ys xs
same_sym s = record { weighs = λ f. sym (s.weighs f) }

pub same_trans : {A : Type 0} {xs ys zs : List A} → HasSameItems xs ys → HasSameItems ys zs → HasSameItems xs zs
same_trans s t = record { weighs = λ f. s.weighs f ∙ t.weighs f }

pub same_eq : {A : Type 0} {xs ys : List A} → xs ≡ ys → HasSameItems xs ys
same_eq e = record { weighs = λ f. ap (total f) e }

pub same_length : {A : Type 0} (xs ys : List A) → HasSameItems xs ys → length xs ≡ length ys
same_length xs ys s = sym (total_none xs) ∙ s.weighs (λ x. 1) ∙ total_none ys

pub same_map : {A B : Type 0} (g : A → B) (xs ys : List A) → HasSameItems xs ys → HasSameItems (map g xs) (map g ys)
same_map g xs ys s = record { weighs = λ f. total-map f g xs ∙ s.weighs (λ x. f (g x)) ∙ sym (total-map f g ys) }
