-- Theatres and words, one after another.
use Rattle.std.proofs.Common.{◌≡◌, ℕ, suc, ◌+◌, ◌-◌, ◌<◌, ◌≤◌, List, [], ◌∷◌, ◌++◌, map, refl, sym, ap, ◌∙◌, append_assoc, append-nil, arith}
use Rattle.sal_value.specs.declared.name.Ual.{Ual}
use Rattle.sal_tour.specs.Plans.{theatre, theatres}

left : (n at : ℕ) → at < n → n - at ≡ suc (n - (at + 1))
left n at h = omega arith

pub on : (t found new : List Ual) (n at port : ℕ) → at < n → t ≡ found ++ theatres (n - at) (port + at) → new ≡ found ++ theatre (port + at) ∷ []
    → t ≡ new ++ theatres (n - (at + 1)) (port + (at + 1))
on t found new n at port h e is =
    let next : port + at + 1 ≡ port + (at + 1) = omega arith in
    e ∙ ap (λ z. found ++ theatres z (port + at)) (left n at h)
    ∙ ap (λ z. found ++ theatre (port + at) ∷ theatres (n - (at + 1)) z) next
    ∙ sym (append_assoc found (theatre (port + at) ∷ []) (theatres (n - (at + 1)) (port + (at + 1))))
    ∙ ap (λ z. z ++ theatres (n - (at + 1)) (port + (at + 1))) (sym is)

pub ends : (t found : List Ual) (n at port : ℕ) → n ≤ at → t ≡ found ++ theatres (n - at) (port + at) → found ≡ t
ends t found n at port h e =
    let none : n - at ≡ 0 = omega arith in
    sym (e ∙ ap (λ z. found ++ theatres z (port + at)) none ∙ append-nil found)

map_last : {A B : Type 0} (f : A → B) (xs : List A) (x : A) → map f (xs ++ x ∷ []) ≡ map f xs ++ f x ∷ []
map_last f [] x = refl
map_last f (y ∷ ys) x = ap (λ zs. f y ∷ zs) (map_last f ys x)
