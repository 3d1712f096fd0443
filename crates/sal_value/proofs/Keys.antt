-- Keys of names: comparing them part by part, and that equal keys are equal names.
use Rattle.std.proofs.Common.{◌≡◌, ℕ, suc, Bool, true, false, List, [], ◌∷◌, ◌++◌, Ordering, Less, Equal, Greater, refl, sym, ap, subst, ◌∙◌, arith}
use Rattle.std.specs.Prelude.{codes, IsTrue, ◌↔◌}
use Rattle.std.specs.Bool.{Decides}
use Rattle.std.specs.Ordering.{nat_cmp, ordering_then}
use Rattle.std.specs.Cmp.Lexicographic.{slice_cmp}
use Rattle.std.specs.Str.{bytes_eq}
use Rattle.std.proofs.lemmas.Bool.Decides.{nat_tests}
use Rattle.std.proofs.lemmas.Slice.Eq.{bytes_eq-Decides}
use Rattle.std.proofs.lemmas.List.{append_cancel_left}
use Rattle.sal_value.specs.declared.name.Uan.{Uan}
use Rattle.sal_value.specs.declared.name.Name.{Name}
use Rattle.sal_value.specs.declared.name.Name.TheVariants as name
use Rattle.sal_value.specs.Names.{uan_text, address_text}
use Rattle.sal_value.specs.Order.{with_end, key, uan_key}

then_assoc : (a b c : Ordering) → ordering_then (ordering_then a b) c ≡ ordering_then a (ordering_then b c)
then_assoc Less b c = refl
then_assoc Equal b c = refl
then_assoc Greater b c = refl

then_equal : (a : Ordering) → ordering_then a Equal ≡ a
then_equal Less = refl
then_equal Equal = refl
then_equal Greater = refl

cmp_suc : (x y : ℕ) → nat_cmp (suc x) (suc y) ≡ nat_cmp x y
cmp_suc x y = grind (arith, nat_tests)

cmp_less : (y : ℕ) → nat_cmp 0 (suc y) ≡ Less
cmp_less y = grind (arith, nat_tests)

cmp_more : (x : ℕ) → nat_cmp (suc x) 0 ≡ Greater
cmp_more x = grind (arith, nat_tests)

-- two closed lists decide before what follows them
pub cmp_closed : (x y r s : List ℕ) → slice_cmp nat_cmp (with_end x ++ r) (with_end y ++ s) ≡ ordering_then (slice_cmp nat_cmp x y) (slice_cmp nat_cmp r s)
cmp_closed [] [] r s = refl
cmp_closed [] (b ∷ y) r s = ap (λ o. ordering_then o (slice_cmp nat_cmp r (with_end y ++ s))) (cmp_less b)
cmp_closed (a ∷ x) [] r s = ap (λ o. ordering_then o (slice_cmp nat_cmp (with_end x ++ r) s)) (cmp_more a)
cmp_closed (a ∷ x) (b ∷ y) r s =
    ap (λ o. ordering_then o (slice_cmp nat_cmp (with_end x ++ r) (with_end y ++ s))) (cmp_suc a b)
    ∙ ap (ordering_then (nat_cmp a b)) (cmp_closed x y r s) ∙ sym (then_assoc (nat_cmp a b) (slice_cmp nat_cmp x y) (slice_cmp nat_cmp r s))

-- closed lists that agree with what follows agree in both parts
closed_same : (x y r s : List ℕ) → with_end x ++ r ≡ with_end y ++ s → (x ≡ y) × (r ≡ s)
closed_same [] [] r s e = (refl, cc)
closed_same [] (b ∷ y) r s e = absurd cc
closed_same (a ∷ x) [] r s e = absurd cc
closed_same (a ∷ x) (b ∷ y) r s e =
    let rest = closed_same x y r s cc in
    (cc, rest.1)

-- the text, the host and the port give the path
same_path : (host : List ℕ) (port : ℕ) (p q : List ℕ) → codes "uan://" ++ (address_text host port ++ 47 ∷ p) ≡ codes "uan://" ++ (address_text host port ++ 47 ∷ q) → p ≡ q
same_path host port p q e =
    let f = append_cancel_left (codes "uan://") (address_text host port ++ 47 ∷ p) (address_text host port ++ 47 ∷ q) e in
    let g = append_cancel_left (address_text host port) (47 ∷ p) (47 ∷ q) f in
    cc

same_uans : (u v : Uan) → uan_text u ≡ uan_text v → u.host ≡ v.host → u.port ≡ v.port → u ≡ v
unfolding uan_text
same_uans u v text host port =
    let here : codes "uan://" ++ (address_text v.host v.port ++ 47 ∷ u.path) ≡ codes "uan://" ++ (address_text v.host v.port ++ 47 ∷ v.path) = subst (λ (h : List ℕ). codes "uan://" ++ (address_text h v.port ++ 47 ∷ u.path) ≡ uan_text v) host (subst (λ (k : ℕ). codes "uan://" ++ (address_text u.host k ++ 47 ∷ u.path) ≡ uan_text v) port text) in
    let path = same_path v.host v.port u.path v.path here in
    λ i. record { host = host i; port = port i; path = path i }

head_same : (a b : ℕ) (x y : List ℕ) → a ∷ x ≡ b ∷ y → a ≡ b
head_same a b x y e = cc

tail_same : (a b : ℕ) (x y : List ℕ) → a ∷ x ≡ b ∷ y → x ≡ y
tail_same a b x y e = cc

pub same_names : (a b : Name) → key a ≡ key b → a ≡ b
unfolding key
same_names (name.Anon j m) (name.Anon k n) e = cc
same_names (name.Anon j m) (name.Outside n) e = absurd cc
same_names (name.Anon j m) (name.Uan v) e = absurd cc
same_names (name.Outside m) (name.Anon k n) e = absurd cc
same_names (name.Outside m) (name.Outside n) e = cc
same_names (name.Outside m) (name.Uan v) e = absurd cc
same_names (name.Uan u) (name.Anon k n) e = absurd cc
same_names (name.Uan u) (name.Outside n) e = absurd cc
same_names (name.Uan u) (name.Uan v) e =
    let texts = closed_same (uan_text u) (uan_text v) (with_end u.host ++ u.port ∷ []) (with_end v.host ++ v.port ∷ []) (tail_same _ _ _ _ e) in
    let hosts = closed_same u.host v.host (u.port ∷ []) (v.port ∷ []) texts.1 in
    ap name.Uan (same_uans u v texts.0 hosts.0 (head_same _ _ _ _ hosts.1))

-- the key's order, part by part
pub cmp_uans : (u v : Uan) → slice_cmp nat_cmp (key (name.Uan u)) (key (name.Uan v)) ≡ ordering_then (slice_cmp nat_cmp (uan_text u) (uan_text v)) (ordering_then (slice_cmp nat_cmp u.host v.host) (nat_cmp u.port v.port))
unfolding key
cmp_uans u v =
    cmp_closed (uan_text u) (uan_text v) (with_end u.host ++ u.port ∷ []) (with_end v.host ++ v.port ∷ [])
    ∙ ap (ordering_then (slice_cmp nat_cmp (uan_text u) (uan_text v)))
    (cmp_closed u.host v.host (u.port ∷ []) (v.port ∷ []) ∙ ap (ordering_then (slice_cmp nat_cmp u.host v.host)) (then_equal (nat_cmp u.port v.port)))

-- what a test of equal names answers
pub key_decides : (a b : Name) → Decides (bytes_eq (key a) (key b)) (a ≡ b)
key_decides a b =
    let d = bytes_eq-Decides (key a) (key b) in
    (λ t. same_names a b (d.0 t), λ e. d.1 (ap key e))

agree : (r s : Bool) (P : Type 0) → IsTrue r ↔ P → Decides s P → r ≡ s
agree true true P h d = refl
agree true false P h d = sym (d.1 (h.0 refl))
agree false true P h d = h.1 (d.0 refl)
agree false false P h d = refl

-- a test that answers whether two names are one compares their keys
pub same_test : (a b : Name) (r : Bool) → IsTrue r ↔ (a ≡ b) → r ≡ bytes_eq (key a) (key b)
same_test a b r h = agree r (bytes_eq (key a) (key b)) (a ≡ b) h (key_decides a b)

-- the same of universal names
uan_key_decides : (u v : Uan) → Decides (bytes_eq (uan_key u) (uan_key v)) (u ≡ v)
uan_key_decides u v =
    let d = key_decides (name.Uan u) (name.Uan v) in
    (λ t. same_uan (d.0 t), λ e. d.1 (ap name.Uan e))
  where
    same_uan : {a b : Uan} → name.Uan a ≡ name.Uan b → a ≡ b
    same_uan e = cc

pub same_uan_test : (u v : Uan) (r : Bool) → IsTrue r ↔ (u ≡ v) → r ≡ bytes_eq (uan_key u) (uan_key v)
same_uan_test u v r h = agree r (bytes_eq (uan_key u) (uan_key v)) (u ≡ v) h (uan_key_decides u v)
