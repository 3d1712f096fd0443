-- Lists of what may not be there, item by item, and signatures by their numbers.
use Rattle.std.proofs.Common.{◌≡◌, ℕ, ◌+◌, zero, suc, List, [], ◌∷◌, ◌++◌, append_assoc, append-nil, map, filter_map, slice_get, Option, Some, None, option_map, sym, ap, ◌∙◌, refl}
use Rattle.std.specs.List.{cons_option}
use Rattle.std.specs.Option.{option_and_then}
use Rattle.sal_ast.specs.declared.program.TypeName.{TypeName}
use Rattle.sal_ast.specs.declared.program.Param.{Param}
use Rattle.sal_ast.specs.declared.program.Behavior.{Behavior}
use Rattle.sal_ast.specs.declared.program.Program.{Program}
use Rattle.sal_ast.specs.declared.statement.Stmt.{Stmt}
use Rattle.sal_ast.specs.Members.{as_handler, handlers_of, handlers_at}
use Rattle.sal_ast.specs.Sorts.{type_sort, result_sort}
use Rattle.sal_types.specs.declared.signature.Signature.{Signature}
use Rattle.sal_types.specs.Signatures.{all_some, cons_some, signature_with, signature_of, signature_at, behavior_signatures, all_signatures}
use Rattle.sal_types.specs.code.Signing.{with_front}
use Rattle.sal_types.proofs.Start.{at_behavior}

pub front-Some : {A : Type 0} (done : List A) (a : A) (os : Option (List A)) → with_front done (cons_some (Some a) os) ≡ with_front (done ++ a ∷ []) os
front-Some done a None = refl
front-Some done a (Some rest) = ap (λ l. Some l) (sym (append_assoc done (a ∷ []) rest))

pub front-None : {A : Type 0} (done : List A) (os : Option (List A)) → with_front done (cons_some None os) ≡ None
front-None done os = refl

pub front-end : {A : Type 0} (done : List A) → with_front done (Some []) ≡ Some done
front-end done = ap (λ l. Some l) (append-nil done)

pub front-start : {A : Type 0} (os : Option (List A)) → with_front [] os ≡ os
front-start None = refl
front-start (Some rest) = refl

pub signature-parts : (behaviors : List Behavior) (name : List ℕ) (result : Option TypeName) (params : List Param) (body : List Stmt) → signature_of behaviors (record { name = name; result = result; params = params; body = body }) ≡ signature_with (all_some (map (λ p. type_sort p.sort behaviors) params)) (result_sort result behaviors)
unfolding signature_of
signature-parts behaviors name result params body = refl

pub all-skip : {Y A : Type 0} (f : Y → Option A) (o : Option Y) (ys : List Y) → option_map f o ≡ None → all_some (map f (cons_option o ys)) ≡ all_some (map f ys)
all-skip f None ys h = refl
all-skip f (Some y) ys h = absurd cc

pub all-none : {Y A : Type 0} (f : Y → Option A) (o : Option Y) (ys : List Y) → option_map f o ≡ Some None → all_some (map f (cons_option o ys)) ≡ None
all-none f None ys h = absurd cc
all-none f (Some y) ys h = let e : f y ≡ None = cc in ap (λ x. cons_some x (all_some (map f ys))) e

pub all-some : {Y A : Type 0} (f : Y → Option A) (o : Option Y) (ys : List Y) (a : A) → option_map f o ≡ Some (Some a) → all_some (map f (cons_option o ys)) ≡ cons_some (Some a) (all_some (map f ys))
all-some f None ys a h = absurd cc
all-some f (Some y) ys a h = let e : f y ≡ Some a = cc in ap (λ x. cons_some x (all_some (map f ys))) e

pub ruleset steps = (front-Some, front-None, front-end, front-start, signature-parts, all-skip, all-none, all-some)

-- ---- by number

cons_tail : {A : Type 0} (o : Option A) (os : Option (List A)) (a : A) (rest : List A) → cons_some o os ≡ Some (a ∷ rest) → (o ≡ Some a) × (os ≡ Some rest)
cons_tail (Some b) (Some l) a rest h = (cc, cc)
cons_tail (Some b) None a rest h = absurd cc
cons_tail None os a rest h = absurd cc

cons_not_nil : {A B : Type 0} (o : Option A) (os : Option (List A)) → cons_some o os ≡ Some [] → B
cons_not_nil (Some b) (Some l) h = absurd cc
cons_not_nil (Some b) None h = absurd cc
cons_not_nil None os h = absurd cc

-- an item of all
pub record ItemAt {X A : Type 0} (f : X → Option A) (x : X) (ys : List A) (n : ℕ) : Type 0 where
  pub item : A
  pub is : f x ≡ Some item
  pub there : slice_get ys n ≡ Some item

pub item_at : {X A : Type 0} (f : X → Option A) (xs : List X) (ys : List A) (n : ℕ) (x : X) → all_some (map f xs) ≡ Some ys → slice_get xs n ≡ Some x → ItemAt f x ys n
item_at f [] ys n x h g = absurd cc
item_at f (z ∷ xs) [] n x h g = cons_not_nil (f z) (all_some (map f xs)) h
item_at f (z ∷ xs) (y ∷ ys) zero x h g =
    let same : z ≡ x = cc in
    record { item = y; is = ap f (sym same) ∙ (cons_tail (f z) (all_some (map f xs)) y ys h).0; there = refl }
item_at f (z ∷ xs) (y ∷ ys) (suc n) x h g =
    let r = item_at f xs ys n x (cons_tail (f z) (all_some (map f xs)) y ys h).1 g in
    record { item = r.item; is = r.is; there = r.there }

none_at : {X A : Type 0} (f : X → Option A) (xs : List X) (ys : List A) (n : ℕ) → all_some (map f xs) ≡ Some ys → slice_get xs n ≡ None → slice_get ys n ≡ None
none_at f [] [] n h g = refl
none_at f [] (y ∷ ys) n h g = absurd cc
none_at f (z ∷ xs) [] n h g = cons_not_nil (f z) (all_some (map f xs)) h
none_at f (z ∷ xs) (y ∷ ys) zero h g = absurd cc
none_at f (z ∷ xs) (y ∷ ys) (suc n) h g = none_at f xs ys n (cons_tail (f z) (all_some (map f xs)) y ys h).1 g

in_all : {X A : Type 0} (f : X → Option A) (xs : List X) (ys : List A) (n : ℕ) → all_some (map f xs) ≡ Some ys → slice_get ys n ≡ option_and_then f (slice_get xs n)
in_all {X} {A} f xs ys n h = cases (slice_get xs n) refl
  where
    cases : (o : Option X) → slice_get xs n ≡ o → slice_get ys n ≡ option_and_then f o
    cases None e = none_at f xs ys n h e
    cases (Some x) e = let r = item_at f xs ys n x h e in r.there ∙ sym r.is

-- the signature with these numbers, where there are all of them
pub signature_of_all : (p : Program) (all : List (List Signature)) (n k : ℕ) → all_signatures p ≡ Some all → option_and_then (λ l. slice_get l k) (slice_get all n) ≡ signature_at n k p
unfolding all_signatures signature_at behavior_signatures handlers_of
signature_of_all p all n k h = cases (slice_get p.behaviors n) refl
  where
    cases : (o : Option Behavior) → slice_get p.behaviors n ≡ o → option_and_then (λ (l : List Signature). slice_get l k) (slice_get all n) ≡ option_and_then (signature_of p.behaviors) (slice_get (handlers_at p.behaviors (Some n)) k)
    cases None e =
        let z : handlers_at p.behaviors (Some n) ≡ [] = rw e refl in
        ap (λ o. option_and_then (λ (l : List Signature). slice_get l k) o) (none_at (behavior_signatures p.behaviors) p.behaviors all n h e)
        ∙ ap (λ l. option_and_then (signature_of p.behaviors) (slice_get l k)) (sym z)
    cases (Some b) e =
        let r = item_at (behavior_signatures p.behaviors) p.behaviors all n b h e in
        ap (λ o. option_and_then (λ (l : List Signature). slice_get l k) o) r.there
        ∙ in_all (signature_of p.behaviors) (filter_map as_handler b.members) r.item k r.is
        ∙ ap (λ l. option_and_then (signature_of p.behaviors) (slice_get l k)) (sym (at_behavior p.behaviors n b e))

pub signature_none : (p : Program) (all : List (List Signature)) (n k : ℕ) → all_signatures p ≡ Some all → slice_get all n ≡ None → None ≡ signature_at n k p
signature_none p all n k h e = sym (ap (λ o. option_and_then (λ (l : List Signature). slice_get l k) o) e) ∙ signature_of_all p all n k h

pub signature_some : (p : Program) (all : List (List Signature)) (n k : ℕ) (l : List Signature) → all_signatures p ≡ Some all → slice_get all n ≡ Some l → slice_get l k ≡ signature_at n k p
signature_some p all n k l h e = sym (ap (λ o. option_and_then (λ (l : List Signature). slice_get l k) o) e) ∙ signature_of_all p all n k h
