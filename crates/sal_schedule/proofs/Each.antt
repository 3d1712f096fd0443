-- What each word gives, read from the front.
use Rattle.std.proofs.Common.{◌≡◌, ℕ, Option, Some, None, List, [], ◌∷◌, ◌++◌, refl, sym, ap, ◌∙◌, append_assoc, append-nil}
use Rattle.sal_value.specs.declared.value.Value.{Value}
use Rattle.sal_schedule.specs.Events.{cons_some, each, legal_value_of}

-- these, and then what the rest gives
abbrev pub after : {B : Type 0} → List B → Option (List B) → Option (List B)
after ys None = None
after ys (Some rest) = Some (ys ++ rest)

pub begins : {B : Type 0} (o : Option (List B)) → after [] o ≡ o
begins None = refl
begins (Some ys) = refl

one_more : {B : Type 0} (ys : List B) (y : B) (rest : Option (List B)) → after ys (cons_some (Some y) rest) ≡ after (ys ++ y ∷ []) rest
one_more ys y None = refl
one_more ys y (Some rest) = ap Some (sym (append_assoc ys (y ∷ []) rest))

pub value_on : (words more : List (List ℕ)) (word : List ℕ) (v : Value) (vs : List Value) (whole : Option (List Value))
    → words ≡ word ∷ more → Some v ≡ legal_value_of word → after vs (each legal_value_of words) ≡ whole → after (vs ++ v ∷ []) (each legal_value_of more) ≡ whole
value_on words more word v vs whole cut here h =
    sym (one_more vs v (each legal_value_of more)) ∙ ap (λ o. after vs (cons_some o (each legal_value_of more))) here ∙ sym (ap (λ ws. after vs (each legal_value_of ws)) cut) ∙ h

pub no_value : (words more : List (List ℕ)) (word : List ℕ) (vs : List Value) (whole : Option (List Value))
    → words ≡ word ∷ more → None ≡ legal_value_of word → after vs (each legal_value_of words) ≡ whole → None ≡ whole
no_value words more word vs whole cut here h =
    ap (λ o. after vs (cons_some o (each legal_value_of more))) here ∙ sym (ap (λ ws. after vs (each legal_value_of ws)) cut) ∙ h

pub values_end : (words : List (List ℕ)) (vs : List Value) (whole : Option (List Value)) → words ≡ [] → after vs (each legal_value_of words) ≡ whole → Some vs ≡ whole
values_end words vs whole over h = ap Some (sym (append-nil vs)) ∙ sym (ap (λ ws. after vs (each legal_value_of ws)) over) ∙ h
