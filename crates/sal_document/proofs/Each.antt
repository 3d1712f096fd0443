-- What each word gives, read from the front.
use Rattle.std.proofs.Common.{◌≡◌, ℕ, Option, Some, None, List, [], ◌∷◌, ◌++◌, refl, sym, ap, ◌∙◌, append_assoc, append-nil}
use Rattle.sal_document.specs.code.Reading.{cons_some, each_of}

-- these, and then what the rest gives
abbrev pub after : {B : Type 0} → List B → Option (List B) → Option (List B)
after ys None = None
after ys (Some rest) = Some (ys ++ rest)

pub begins : {B : Type 0} (o : Option (List B)) → after [] o ≡ o
begins None = refl
begins (Some ys) = refl

one_more : {B : Type 0} (ys : List B) (y : B) (rest : Option (List B)) → after ys (cons_some (Some y) rest) ≡ after (ys ++ y ∷ []) rest
one_more ys y None = refl
one_more ys y (Some rest) = ap Some (sym (append_assoc ys (y ∷ []) rest))

pub on : {B : Type 0} (f : List ℕ → Option B) (words more : List (List ℕ)) (word : List ℕ) (v : B) (vs : List B) (all : Option (List B))
    → words ≡ word ∷ more → Some v ≡ f word → after vs (each_of f words) ≡ all → after (vs ++ v ∷ []) (each_of f more) ≡ all
on f words more word v vs all cut here h =
    sym (one_more vs v (each_of f more)) ∙ ap (λ o. after vs (cons_some o (each_of f more))) here ∙ sym (ap (λ ws. after vs (each_of f ws)) cut) ∙ h

pub stops : {B : Type 0} (f : List ℕ → Option B) (words more : List (List ℕ)) (word : List ℕ) (vs : List B) (all : Option (List B))
    → words ≡ word ∷ more → None ≡ f word → after vs (each_of f words) ≡ all → all ≡ None
stops f words more word vs all cut here h =
    sym (ap (λ o. after vs (cons_some o (each_of f more))) here ∙ sym (ap (λ ws. after vs (each_of f ws)) cut) ∙ h)

pub ends : {B : Type 0} (f : List ℕ → Option B) (words : List (List ℕ)) (vs : List B) (all : Option (List B)) → words ≡ [] → after vs (each_of f words) ≡ all → all ≡ Some vs
ends f words vs all over h = sym (ap Some (sym (append-nil vs)) ∙ sym (ap (λ ws. after vs (each_of f ws)) over) ∙ h)
