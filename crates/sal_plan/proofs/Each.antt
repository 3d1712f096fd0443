-- What each item of a list gives, read from the front.
use Rattle.std.proofs.Common.{◌≡◌, ℕ, ◌+◌, ◌<◌, ◌≤◌, Option, Some, None, List, [], ◌∷◌, ◌++◌, length, get_or, drop, refl, sym, ap, ◌∙◌, append_assoc, append-nil}
use Rattle.std.proofs.lemmas.List.{drop_more, drop_all}
use Rattle.sal_plan.specs.Rules.{cons_some, each}

-- these, and then what the rest gives
abbrev pub after : {B : Type 0} → List B → Option (List B) → Option (List B)
after ys None = None
after ys (Some rest) = Some (ys ++ rest)

pub begin : {B : Type 0} (o : Option (List B)) → after [] o ≡ o
begin None = refl
begin (Some ys) = refl

pub one_more : {B : Type 0} (ys : List B) (y : B) (rest : Option (List B)) → after ys (cons_some (Some y) rest) ≡ after (ys ++ y ∷ []) rest
one_more ys y None = refl
one_more ys y (Some rest) = ap Some (sym (append_assoc ys (y ∷ []) rest))

next : {A B : Type 0} (f : A → Option B) (xs : List A) (i : ℕ) (d : A) → i < length xs → each f (drop i xs) ≡ cons_some (f (get_or xs i d)) (each f (drop (i + 1) xs))
next f xs i d lt = ap (each f) (drop_more xs i d lt)

pub on : {A B : Type 0} (f : A → Option B) (xs : List A) (i : ℕ) (d : A) (y : B) (ys : List B) (whole : Option (List B))
    → i < length xs → Some y ≡ f (get_or xs i d) → after ys (each f (drop i xs)) ≡ whole → after (ys ++ y ∷ []) (each f (drop (i + 1) xs)) ≡ whole
on f xs i d y ys whole lt here h =
    sym (one_more ys y (each f (drop (i + 1) xs))) ∙ ap (λ o. after ys (cons_some o (each f (drop (i + 1) xs)))) here ∙ sym (ap (after ys) (next f xs i d lt)) ∙ h

pub none_at : {A B : Type 0} (f : A → Option B) (xs : List A) (i : ℕ) (d : A) (ys : List B) (whole : Option (List B))
    → i < length xs → None ≡ f (get_or xs i d) → after ys (each f (drop i xs)) ≡ whole → None ≡ whole
none_at f xs i d ys whole lt here h =
    ap (λ o. after ys (cons_some o (each f (drop (i + 1) xs)))) here ∙ sym (ap (after ys) (next f xs i d lt)) ∙ h

pub end : {A B : Type 0} (f : A → Option B) (xs : List A) (i : ℕ) (ys : List B) (whole : Option (List B))
    → length xs ≤ i → after ys (each f (drop i xs)) ≡ whole → Some ys ≡ whole
end f xs i ys whole le h =
    ap Some (sym (append-nil ys)) ∙ sym (ap (λ zs. after ys (each f zs)) (drop_all i xs le)) ∙ h
