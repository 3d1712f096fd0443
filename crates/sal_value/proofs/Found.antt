-- What is decoded is spelled by the bytes that were read.
use Rattle.std.proofs.Common.{◌≡◌, ℕ, zero, suc, ◌-◌, ◌+◌, ◌^◌, ◌≤◌, ◌==◌, Bool, true, false, ◌&&◌, List, [], ◌∷◌, ◌++◌, length, take, Option, Some, None, Ok, Err, refl, sym, ap, subst, ◌∙◌, arith, inl, inr}
use Rattle.std.specs.Prelude.{if◌then◌else◌, nat_lt, nat_le}
use Rattle.std.specs.Int.{w16, w32, w64, to_be_bytes, cast_signed, cast_unsigned}
use Rattle.std.specs.List.{list_all, flat_map}
use Rattle.std.specs.Str.{is_utf8}
use Rattle.std.proofs.lemmas.Bool.{eqb-true}
use Rattle.std.proofs.lemmas.Bool.Decides.{nat_tests}
use Rattle.std.proofs.lemmas.Int.{of_z-to_z}
use Rattle.std.proofs.lemmas.List.{take_at, length-append}
use Rattle.sal_value.specs.declared.fields.Fault.TheVariants.{Bad}
use Rattle.sal_value.specs.declared.name.Uan.{Uan}
use Rattle.sal_value.specs.declared.name.Name.{Name}
use Rattle.sal_value.specs.declared.name.Name.TheVariants as name
use Rattle.sal_value.specs.declared.value.Value.{Value}
use Rattle.sal_value.specs.declared.value.Value.TheVariants as v
use Rattle.sal_value.specs.Names.{uan_text, is_uan}
use Rattle.sal_value.specs.Spelling.{text_bytes, anon_bytes, name_spelling, name_is_spelled, spelling, fits, is_spelled}
use Rattle.sal_value.specs.Coding.{IsBytes}
use Rattle.sal_value.specs.Decoding.{Reading, ◌>>=◌, wrong, bytes_at, number_at, bool_at, text_at, canonical_uan, uan_or_wrong, uan_at, anon_at, name_at, items_at, count_at, array_at, tagged_at, value_at, with_offset, decoded_name, decoded_value}
use Rattle.sal_value.proofs.Canonical.{uan_of_is}
use Rattle.sal_value.proofs.Takes.{done, bytes_tail, bind_ok, ok_is, guard_ok, not_err, chosen, Takes, takes_then, takes_tag, bytes_taken, wide16, wide32, wide64, number_taken}
use Rattle.sal_value.proofs.Equations.{spelling_null, spelling_int, spelling_bool, spelling_str, spelling_ref, spelling_array, fits_null, fits_int, fits_bool, fits_str, fits_ref, fits_array}

wrong_not_ok : {A : Type 0} (field : List ℕ) (x : A × List ℕ) → wrong {A = A} field ≡ Ok x → ⊥
wrong_not_ok field x e = cc

le_from_not_lt : (m n : ℕ) → nat_lt n m ≡ false → nat_le m n ≡ true
le_from_not_lt m n h = grind (arith, nat_tests)

-- a text after its length
text_found : (bytes t behind rest : List ℕ) (n : ℕ) → Takes bytes (to_be_bytes w16 n) behind → Takes behind t rest → length t ≡ n → Takes bytes (text_bytes t) rest
text_found bytes t behind rest n a b e =
    takes_then bytes (to_be_bytes w16 (length t)) behind t rest (subst (λ k. Takes bytes (to_be_bytes w16 k) behind) (sym e) a) b

-- ---- names

named_ok : (text rest : List ℕ) (o : Option Uan) (x : Uan × List ℕ) → uan_or_wrong text rest o ≡ Ok x → (o ≡ Some x.0) × (rest ≡ x.1)
named_ok text rest None x e = absurd (wrong_not_ok text x e)
named_ok text rest (Some u) x e =
    let same = ok_is (u, rest) x e in
    (ap (λ (p : Uan × List ℕ). Some p.0) same, ap (λ (p : Uan × List ℕ). p.1) same)

uan_found : (bytes : List ℕ) (x : Uan × List ℕ) → IsBytes bytes → uan_at bytes ≡ Ok x → Takes bytes (text_bytes (uan_text x.0)) x.1 × (is_uan x.0 ≡ true)
unfolding uan_at
uan_found bytes x small e =
    let a = bind_ok (number_at w16 bytes) (λ n. bytes_at n.0 n.1 >>= λ t. uan_or_wrong n.1 t.1 (canonical_uan t.0)) x e in
    let b = bind_ok (bytes_at a.0.0 a.0.1) (λ t. uan_or_wrong a.0.1 t.1 (canonical_uan t.0)) x a.2 in
    let n = number_taken w16 (2 ^ 16) wide16 bytes a.0.0 a.0.1 small a.1 in
    let t = bytes_taken a.0.0 a.0.1 b.0.0 b.0.1 n.0.rest_fits b.1 in
    let c = named_ok a.0.1 b.0.1 (canonical_uan b.0.0) x b.2 in
    let is = uan_of_is b.0.0 x.0 c.0 in
    let whole = text_found bytes b.0.0 a.0.1 b.0.1 a.0.0 n.0 t.0 t.1 in
    (subst (λ z. Takes bytes (text_bytes (uan_text x.0)) z) c.1 (subst (λ z. Takes bytes (text_bytes z) b.0.1) (sym is.1) whole), is.0)

anon_found : (bytes : List ℕ) (x : Name × List ℕ) → IsBytes bytes → anon_at bytes ≡ Ok x → Takes (0 ∷ bytes) (name_spelling x.0) x.1 × (name_is_spelled x.0 ≡ true)
unfolding anon_at name_spelling name_is_spelled anon_bytes
anon_found bytes x small e =
    let a = bind_ok (number_at w32 bytes) (λ t. number_at w64 t.1 >>= λ n. Ok (name.Anon t.0 n.0, n.1)) x e in
    let b = bind_ok (number_at w64 a.0.1) (λ n. Ok (name.Anon a.0.0 n.0, n.1)) x a.2 in
    let t = number_taken w32 (2 ^ 32) wide32 bytes a.0.0 a.0.1 small a.1 in
    let n = number_taken w64 (2 ^ 64) wide64 a.0.1 b.0.0 b.0.1 t.0.rest_fits b.1 in
    let both = takes_then bytes (to_be_bytes w32 a.0.0) a.0.1 (to_be_bytes w64 b.0.0) b.0.1 t.0 n.0 in
    let made : Name × List ℕ = (name.Anon a.0.0 b.0.0, b.0.1) in
    subst (λ (y : Name × List ℕ). Takes (0 ∷ bytes) (name_spelling y.0) y.1 × (name_is_spelled y.0 ≡ true)) (ok_is made x b.2) (takes_tag 0 0 bytes (anon_bytes a.0.0 b.0.0) b.0.1 refl both, refl)

outside_found : (bytes : List ℕ) (x : Name × List ℕ) → IsBytes bytes → (number_at w64 bytes >>= λ n. Ok (name.Outside n.0, n.1)) ≡ Ok x → Takes (2 ∷ bytes) (name_spelling x.0) x.1 × (name_is_spelled x.0 ≡ true)
unfolding name_spelling name_is_spelled
outside_found bytes x small e =
    let a = bind_ok (number_at w64 bytes) (λ n. Ok (name.Outside n.0, n.1)) x e in
    let n = number_taken w64 (2 ^ 64) wide64 bytes a.0.0 a.0.1 small a.1 in
    let made : Name × List ℕ = (name.Outside a.0.0, a.0.1) in
    subst (λ (y : Name × List ℕ). Takes (2 ∷ bytes) (name_spelling y.0) y.1 × (name_is_spelled y.0 ≡ true)) (ok_is made x a.2) (takes_tag 2 2 bytes (to_be_bytes w64 a.0.0) a.0.1 refl n.0, refl)

named_found : (bytes : List ℕ) (x : Name × List ℕ) → IsBytes bytes → (uan_at bytes >>= λ u. Ok (name.Uan u.0, u.1)) ≡ Ok x → Takes (1 ∷ bytes) (name_spelling x.0) x.1 × (name_is_spelled x.0 ≡ true)
unfolding name_spelling name_is_spelled
named_found bytes x small e =
    let a = bind_ok (uan_at bytes) (λ u. Ok (name.Uan u.0, u.1)) x e in
    let u = uan_found bytes a.0 small a.1 in
    let made : Name × List ℕ = (name.Uan a.0.0, a.0.1) in
    subst (λ (y : Name × List ℕ). Takes (1 ∷ bytes) (name_spelling y.0) y.1 × (name_is_spelled y.0 ≡ true)) (ok_is made x a.2) (takes_tag 1 1 bytes (text_bytes (uan_text a.0.0)) a.0.1 refl u.0, u.1)

-- the tag that a test found
retag : (P : List ℕ → Type 0) (tag k : ℕ) (rest : List ℕ) → (tag == k) ≡ true → P (k ∷ rest) → P (tag ∷ rest)
retag P tag k rest t p = subst (λ z. P (z ∷ rest)) (sym (eqb-true tag k t)) p

pub name_found : (bytes : List ℕ) (x : Name × List ℕ) → IsBytes bytes → name_at bytes ≡ Ok x → Takes bytes (name_spelling x.0) x.1 × (name_is_spelled x.0 ≡ true)
unfolding name_at
name_found [] x small e = absurd cc
name_found (tag ∷ rest) x small e =
    let P : List ℕ → Type 0 = λ bytes. Takes bytes (name_spelling x.0) x.1 × (name_is_spelled x.0 ≡ true) in
    let tail = bytes_tail tag rest small in
    let two : Reading Name = number_at w64 rest >>= λ n. Ok (name.Outside n.0, n.1) in
    let one : Reading Name = uan_at rest >>= λ u. Ok (name.Uan u.0, u.1) in
    let none : Reading Name = wrong (tag ∷ rest) in
    elim (chosen (tag == 0) (anon_at rest) (if tag == 1 then one else if tag == 2 then two else none) (Ok x) e) [
      | inl a ↦ retag P tag 0 rest a.0 (anon_found rest x tail a.1)
      | inr a ↦ elim (chosen (tag == 1) one (if tag == 2 then two else none) (Ok x) a.1) [
        | inl b ↦ retag P tag 1 rest b.0 (named_found rest x tail b.1)
        | inr b ↦ elim (chosen (tag == 2) two none (Ok x) b.1) [
          | inl c ↦ retag P tag 2 rest c.0 (outside_found rest x tail c.1)
          | inr c ↦ absurd (wrong_not_ok (tag ∷ rest) x c.1)
        ]
      ]
    ]

-- ---- values

-- what a value that was read says of the bytes
abbrev Read : ℕ → List ℕ → Value × List ℕ → Type 0
Read depth bytes x = Takes bytes (spelling x.0) x.1 × (fits x.0 depth ≡ true)

int_found : (depth : ℕ) (bytes : List ℕ) (x : Value × List ℕ) → IsBytes bytes → (number_at w32 bytes >>= λ n. Ok (v.Int (cast_signed w32 n.0), n.1)) ≡ Ok x → Read depth (1 ∷ bytes) x
int_found depth bytes x small e =
    let a = bind_ok (number_at w32 bytes) (λ n. Ok (v.Int (cast_signed w32 n.0), n.1)) x e in
    let n = number_taken w32 (2 ^ 32) wide32 bytes a.0.0 a.0.1 small a.1 in
    let w : Value = v.Int (cast_signed w32 a.0.0) in
    let made : Value × List ℕ = (w, a.0.1) in
    let bits : cast_unsigned w32 (cast_signed w32 a.0.0) ≡ a.0.0 = of_z-to_z w32 a.0.0 n.1 in
    let spelled : 1 ∷ to_be_bytes w32 a.0.0 ≡ spelling w = ap (λ k. 1 ∷ to_be_bytes w32 k) (sym bits) ∙ sym (spelling_int (cast_signed w32 a.0.0)) in
    subst (Read depth (1 ∷ bytes)) (ok_is made x a.2) (subst (λ z. Takes (1 ∷ bytes) z a.0.1) spelled (takes_tag 1 1 bytes (to_be_bytes w32 a.0.0) a.0.1 refl n.0), fits_int (cast_signed w32 a.0.0) depth)

bool_taken : (bytes : List ℕ) (x : Bool × List ℕ) → IsBytes bytes → bool_at bytes ≡ Ok x → Takes bytes ((if x.0 then 1 else 0) ∷ []) x.1
unfolding bool_at
bool_taken [] x small e = absurd cc
bool_taken (b ∷ rest) x small e =
    let P : List ℕ → Type 0 = λ bytes. Takes bytes ((if x.0 then 1 else 0) ∷ []) x.1 in
    let Q : Bool × List ℕ → List ℕ → Type 0 = λ y bytes. Takes bytes ((if y.0 then 1 else 0) ∷ []) y.1 in
    let tail = bytes_tail b rest small in
    let yes' : Reading Bool = Ok (true, rest) in
    let no' : Reading Bool = Ok (false, rest) in
    elim (chosen (b == 0) no' (if b == 1 then yes' else wrong (b ∷ rest)) (Ok x) e) [
      | inl p ↦ retag P b 0 rest p.0 (subst (λ y. Q y (0 ∷ rest)) (ok_is (false, rest) x p.1) (record { parts = refl; rest_fits = tail }))
      | inr p ↦ elim (chosen (b == 1) yes' (wrong (b ∷ rest)) (Ok x) p.1) [
        | inl q ↦ retag P b 1 rest q.0 (subst (λ y. Q y (1 ∷ rest)) (ok_is (true, rest) x q.1) (record { parts = refl; rest_fits = tail }))
        | inr q ↦ absurd (wrong_not_ok (b ∷ rest) x q.1)
      ]
    ]

bool_found : (depth : ℕ) (bytes : List ℕ) (x : Value × List ℕ) → IsBytes bytes → (bool_at bytes >>= λ b. Ok (v.Bool b.0, b.1)) ≡ Ok x → Read depth (2 ∷ bytes) x
bool_found depth bytes x small e =
    let a = bind_ok (bool_at bytes) (λ b. Ok (v.Bool b.0, b.1)) x e in
    let t = bool_taken bytes a.0 small a.1 in
    let made : Value × List ℕ = (v.Bool a.0.0, a.0.1) in
    subst (Read depth (2 ∷ bytes)) (ok_is made x a.2) (subst (λ z. Takes (2 ∷ bytes) z a.0.1) (sym (spelling_bool a.0.0)) (takes_tag 2 2 bytes ((if a.0.0 then 1 else 0) ∷ []) a.0.1 refl t), fits_bool a.0.0 depth)

text_taken : (bytes : List ℕ) (x : List ℕ × List ℕ) → IsBytes bytes → text_at bytes ≡ Ok x → Takes bytes (text_bytes x.0) x.1 × (nat_le (length x.0) 4096 ≡ true)
unfolding text_at
text_taken bytes x small e =
    let a = bind_ok (number_at w16 bytes) (λ n. if nat_lt 4096 n.0 then wrong bytes else bytes_at n.0 n.1 >>= λ t. if is_utf8 t.0 then Ok t else wrong n.1) x e in
    let n = number_taken w16 (2 ^ 16) wide16 bytes a.0.0 a.0.1 small a.1 in
    let g = guard_ok (nat_lt 4096 a.0.0) (Bad (length bytes)) (bytes_at a.0.0 a.0.1 >>= λ t. if is_utf8 t.0 then Ok t else wrong a.0.1) (Ok x) a.2 (λ d. not_err x d) in
    let b = bind_ok (bytes_at a.0.0 a.0.1) (λ t. if is_utf8 t.0 then Ok t else wrong a.0.1) x g.1 in
    let t = bytes_taken a.0.0 a.0.1 b.0.0 b.0.1 n.0.rest_fits b.1 in
    let short : nat_le (length b.0.0) 4096 ≡ true = ap (λ k. nat_le k 4096) t.1 ∙ le_from_not_lt a.0.0 4096 g.0 in
    let whole = text_found bytes b.0.0 a.0.1 b.0.1 a.0.0 n.0 t.0 t.1 in
    elim (chosen (is_utf8 b.0.0) (Ok b.0) (wrong a.0.1) (Ok x) b.2) [
      | inl p ↦ subst (λ (y : List ℕ × List ℕ). Takes bytes (text_bytes y.0) y.1 × (nat_le (length y.0) 4096 ≡ true)) (ok_is b.0 x p.1) (whole, short)
      | inr p ↦ absurd (wrong_not_ok a.0.1 x p.1)
    ]

str_found : (depth : ℕ) (bytes : List ℕ) (x : Value × List ℕ) → IsBytes bytes → (text_at bytes >>= λ t. Ok (v.Str t.0, t.1)) ≡ Ok x → Read depth (3 ∷ bytes) x
str_found depth bytes x small e =
    let a = bind_ok (text_at bytes) (λ t. Ok (v.Str t.0, t.1)) x e in
    let t = text_taken bytes a.0 small a.1 in
    let made : Value × List ℕ = (v.Str a.0.0, a.0.1) in
    subst (Read depth (3 ∷ bytes)) (ok_is made x a.2) (subst (λ z. Takes (3 ∷ bytes) z a.0.1) (sym (spelling_str a.0.0)) (takes_tag 3 3 bytes (text_bytes a.0.0) a.0.1 refl t.0), fits_str a.0.0 depth ∙ t.1)

ref_found : (depth : ℕ) (bytes : List ℕ) (x : Value × List ℕ) → IsBytes bytes → (name_at bytes >>= λ n. Ok (v.Ref n.0, n.1)) ≡ Ok x → Read depth (5 ∷ bytes) x
ref_found depth bytes x small e =
    let a = bind_ok (name_at bytes) (λ n. Ok (v.Ref n.0, n.1)) x e in
    let t = name_found bytes a.0 small a.1 in
    let made : Value × List ℕ = (v.Ref a.0.0, a.0.1) in
    subst (Read depth (5 ∷ bytes)) (ok_is made x a.2) (subst (λ z. Takes (5 ∷ bytes) z a.0.1) (sym (spelling_ref a.0.0)) (takes_tag 5 5 bytes (name_spelling a.0.0) a.0.1 refl t.0), fits_ref a.0.0 depth ∙ t.1)

null_found : (depth : ℕ) (rest : List ℕ) (x : Value × List ℕ) → IsBytes rest → done (v.Null, rest) ≡ done x → Read depth (0 ∷ rest) x
null_found depth rest x small e =
    subst (Read depth (0 ∷ rest)) (ok_is (v.Null, rest) x e) (subst (λ z. Takes (0 ∷ rest) z rest) (sym spelling_null) (record { parts = refl; rest_fits = small }), fits_null depth)

-- by its tag, where this reads an array
tagged_found : (depth : ℕ) (array : List ℕ → Reading Value) → ((rest : List ℕ) (x : Value × List ℕ) → IsBytes rest → array rest ≡ Ok x → Read depth (4 ∷ rest) x)
    → (bytes : List ℕ) (x : Value × List ℕ) → IsBytes bytes → tagged_at array bytes ≡ Ok x → Read depth bytes x
unfolding tagged_at
tagged_found depth array arrays [] x small e = absurd cc
tagged_found depth array arrays (tag ∷ rest) x small e =
    let P : List ℕ → Type 0 = λ bytes. Read depth bytes x in
    let tail = bytes_tail tag rest small in
    let null : Reading Value = Ok (v.Null, rest) in
    let int : Reading Value = number_at w32 rest >>= λ n. Ok (v.Int (cast_signed w32 n.0), n.1) in
    let bool : Reading Value = bool_at rest >>= λ b. Ok (v.Bool b.0, b.1) in
    let str : Reading Value = text_at rest >>= λ t. Ok (v.Str t.0, t.1) in
    let ref : Reading Value = name_at rest >>= λ n. Ok (v.Ref n.0, n.1) in
    let none : Reading Value = wrong (tag ∷ rest) in
    elim (chosen (tag == 0) null (if tag == 1 then int else if tag == 2 then bool else if tag == 3 then str else if tag == 4 then array rest else if tag == 5 then ref else none) (Ok x) e) [
      | inl p ↦ retag P tag 0 rest p.0 (null_found depth rest x tail p.1)
      | inr p ↦ elim (chosen (tag == 1) int (if tag == 2 then bool else if tag == 3 then str else if tag == 4 then array rest else if tag == 5 then ref else none) (Ok x) p.1) [
        | inl q ↦ retag P tag 1 rest q.0 (int_found depth rest x tail q.1)
        | inr q ↦ elim (chosen (tag == 2) bool (if tag == 3 then str else if tag == 4 then array rest else if tag == 5 then ref else none) (Ok x) q.1) [
          | inl r ↦ retag P tag 2 rest r.0 (bool_found depth rest x tail r.1)
          | inr r ↦ elim (chosen (tag == 3) str (if tag == 4 then array rest else if tag == 5 then ref else none) (Ok x) r.1) [
            | inl s ↦ retag P tag 3 rest s.0 (str_found depth rest x tail s.1)
            | inr s ↦ elim (chosen (tag == 4) (array rest) (if tag == 5 then ref else none) (Ok x) s.1) [
              | inl t ↦ retag P tag 4 rest t.0 (arrays rest x tail t.1)
              | inr t ↦ elim (chosen (tag == 5) ref none (Ok x) t.1) [
                | inl u ↦ retag P tag 5 rest u.0 (ref_found depth rest x tail u.1)
                | inr u ↦ absurd (wrong_not_ok (tag ∷ rest) x u.1)
              ]
            ]
          ]
        ]
      ]
    ]

items_found : (depth : ℕ) (item : List ℕ → Reading Value) → ((bytes : List ℕ) (x : Value × List ℕ) → IsBytes bytes → item bytes ≡ Ok x → Read depth bytes x)
    → (n : ℕ) (bytes : List ℕ) (x : List Value × List ℕ) → IsBytes bytes → items_at item n bytes ≡ Ok x → Takes bytes (flat_map spelling x.0) x.1 × (length x.0 ≡ n) × (list_all (λ w. fits w depth) x.0 ≡ true)
items_found depth item reads zero bytes x small e =
    subst (λ (y : List Value × List ℕ). Takes bytes (flat_map spelling y.0) y.1 × (length y.0 ≡ 0) × (list_all (λ w. fits w depth) y.0 ≡ true)) (ok_is ([], bytes) x e) (record { parts = refl; rest_fits = small }, refl, refl)
items_found depth item reads (suc n) bytes x small e =
    let a = bind_ok (item bytes) (λ first. items_at item n first.1 >>= λ others. Ok (first.0 ∷ others.0, others.1)) x e in
    let b = bind_ok (items_at item n a.0.1) (λ others. Ok (a.0.0 ∷ others.0, others.1)) x a.2 in
    let first = reads bytes a.0 small a.1 in
    let second = items_found depth item reads n a.0.1 b.0 first.0.rest_fits b.1 in
    let both = takes_then bytes (spelling a.0.0) a.0.1 (flat_map spelling b.0.0) b.0.1 first.0 second.0 in
    let made : List Value × List ℕ = (a.0.0 ∷ b.0.0, b.0.1) in
    let all : fits a.0.0 depth && list_all (λ w. fits w depth) b.0.0 ≡ true = ap (λ t. t && list_all (λ w. fits w depth) b.0.0) first.1 ∙ second.2 in
    subst (λ (y : List Value × List ℕ). Takes bytes (flat_map spelling y.0) y.1 × (length y.0 ≡ suc n) × (list_all (λ w. fits w depth) y.0 ≡ true)) (ok_is made x b.2) (both, ap suc second.1, all)

count_found : (bytes : List ℕ) (x : ℕ × List ℕ) → IsBytes bytes → count_at bytes ≡ Ok x → Takes bytes (to_be_bytes w16 x.0) x.1 × (nat_le x.0 4096 ≡ true)
unfolding count_at
count_found bytes x small e =
    let a = bind_ok (number_at w16 bytes) (λ count. if nat_lt 4096 count.0 then wrong bytes else Ok count) x e in
    let n = number_taken w16 (2 ^ 16) wide16 bytes a.0.0 a.0.1 small a.1 in
    let g = guard_ok (nat_lt 4096 a.0.0) (Bad (length bytes)) (Ok a.0) (Ok x) a.2 (λ d. not_err x d) in
    subst (λ (y : ℕ × List ℕ). Takes bytes (to_be_bytes w16 y.0) y.1 × (nat_le y.0 4096 ≡ true)) (ok_is a.0 x g.1) (n.0, le_from_not_lt a.0.0 4096 g.0)

array_found : (depth : ℕ) (item : List ℕ → Reading Value) → ((bytes : List ℕ) (x : Value × List ℕ) → IsBytes bytes → item bytes ≡ Ok x → Read depth bytes x)
    → (rest : List ℕ) (x : Value × List ℕ) → IsBytes rest → array_at item rest ≡ Ok x → Read (suc depth) (4 ∷ rest) x
unfolding array_at
array_found depth item reads rest x small e =
    let a = bind_ok (count_at rest) (λ count. items_at item count.0 count.1 >>= λ items. Ok (v.Array items.0, items.1)) x e in
    let b = bind_ok (items_at item a.0.0 a.0.1) (λ items. Ok (v.Array items.0, items.1)) x a.2 in
    let count = count_found rest a.0 small a.1 in
    let items = items_found depth item reads a.0.0 a.0.1 b.0 count.0.rest_fits b.1 in
    let counted : Takes rest (to_be_bytes w16 (length b.0.0)) a.0.1 = subst (λ k. Takes rest (to_be_bytes w16 k) a.0.1) (sym items.1) count.0 in
    let body = takes_then rest (to_be_bytes w16 (length b.0.0)) a.0.1 (flat_map spelling b.0.0) b.0.1 counted items.0 in
    let made : Value × List ℕ = (v.Array b.0.0, b.0.1) in
    let short : nat_le (length b.0.0) 4096 ≡ true = ap (λ k. nat_le k 4096) items.1 ∙ count.1 in
    let good : fits (v.Array b.0.0) (suc depth) ≡ true = fits_array b.0.0 depth ∙ ap (λ t. t && list_all (λ w. fits w depth) b.0.0) short ∙ items.2 in
    subst (Read (suc depth) (4 ∷ rest)) (ok_is made x b.2)
    (subst (λ z. Takes (4 ∷ rest) z b.0.1) (sym (spelling_array b.0.0)) (takes_tag 4 4 rest (to_be_bytes w16 (length b.0.0) ++ flat_map spelling b.0.0) b.0.1 refl body), good)

pub value_found : (depth : ℕ) (bytes : List ℕ) (x : Value × List ℕ) → IsBytes bytes → value_at depth bytes ≡ Ok x → Read depth bytes x
unfolding value_at
value_found zero bytes x small e = tagged_found 0 (λ rest. wrong bytes) (λ rest y rest_fits f. absurd (wrong_not_ok bytes y f)) bytes x small e
value_found (suc depth) bytes x small e = tagged_found (suc depth) (array_at (value_at depth)) (array_found depth (value_at depth) (value_found depth)) bytes x small e

-- ---- with places

placed_ok : {A : Type 0} (bytes : List ℕ) (r : Reading A) (x : A) (n : ℕ) → with_offset bytes r ≡ Ok (x, n) → (rest : List ℕ) × (r ≡ Ok (x, rest)) × (length bytes - length rest ≡ n)
placed_ok {A} bytes (Ok y) x n e =
    let same : (y.0, length bytes - length y.1) ≡ (x, n) = cc in
    let first : y.0 ≡ x = ap (λ (p : A × ℕ). p.0) same in
    (y.1, ap (λ z. Ok (z, y.1)) first, ap (λ (p : A × ℕ). p.1) same)
placed_ok bytes (Err f) x n e = absurd cc

-- what was taken is the first bytes
taken_front : (bytes text rest : List ℕ) (n : ℕ) → Takes bytes text rest → length bytes - length rest ≡ n → (n ≤ length bytes) × (take n bytes ≡ text)
taken_front bytes text rest n t e =
    let whole : length bytes ≡ length text + length rest = ap length t.parts ∙ length-append text rest in
    let size : length text ≡ n = omega arith in
    (omega arith, ap (take n) t.parts ∙ take_at text rest n size)

pub found_value : (bytes : List ℕ) (w : Value) (n : ℕ) → IsBytes bytes → decoded_value bytes ≡ Ok (w, n) → (is_spelled w ≡ true) × (n ≤ length bytes) × (take n bytes ≡ spelling w)
unfolding decoded_value
found_value bytes w n small e =
    let a = placed_ok bytes (value_at 64 bytes) w n e in
    let r = value_found 64 bytes (w, a.0) small a.1 in
    let front = taken_front bytes (spelling w) a.0 n r.0 a.2 in
    (r.1, front.0, front.1)

pub found_name : (bytes : List ℕ) (w : Name) (n : ℕ) → IsBytes bytes → decoded_name bytes ≡ Ok (w, n) → (name_is_spelled w ≡ true) × (n ≤ length bytes) × (take n bytes ≡ name_spelling w)
unfolding decoded_name
found_name bytes w n small e =
    let a = placed_ok bytes (name_at bytes) w n e in
    let r = name_found bytes (w, a.0) small a.1 in
    let front = taken_front bytes (name_spelling w) a.0 n r.0 a.2 in
    (r.1, front.0, front.1)
