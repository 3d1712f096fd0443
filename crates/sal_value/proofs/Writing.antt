-- Lists that are written piece by piece.
use Rattle.std.proofs.Common.{◌≡◌, ℕ, zero, suc, ◌≤◌, ◌<◌, true, false, ◌&&◌, List, [], ◌∷◌, ◌++◌, length, get_or, sym, ap, ◌∙◌, append_assoc, arith}
use Rattle.std.specs.Prelude.{codes, nat_le}
use Rattle.std.specs.Fmt.{decimal}
use Rattle.std.specs.Int.{w16, w32, w64, to_be_bytes}
use Rattle.std.specs.List.{list_all, flat_map}
use Rattle.std.proofs.lemmas.Bool.Decides.{nat_tests}
use Rattle.sal_value.specs.declared.name.Uan.{Uan}
use Rattle.sal_value.specs.declared.name.Name.{Name}
use Rattle.sal_value.specs.declared.value.Value.{Value}
use Rattle.sal_value.specs.declared.value.Value.TheVariants as v
use Rattle.sal_value.specs.Names.{lower_case, uan_text, is_uan, is_host, is_port, is_uan_path}
use Rattle.sal_value.specs.Spelling.{anon_bytes, name_is_spelled, spelling, fits, is_spelled, FitsSomeDepth}
use Rattle.sal_value.proofs.Bytes.{both, host_parts}
use Rattle.sal_value.proofs.Readings.{host_stays}
use Rattle.sal_value.proofs.Texts.{uan_parts}
use Rattle.sal_value.proofs.Equations.{spelling_array, fits_str, fits_ref, fits_flat, fits_array}

pub two_parts : (old a b : List ℕ) → (old ++ a) ++ b ≡ old ++ (a ++ b)
two_parts old a b = append_assoc old a b

pub tagged : (old : List ℕ) (t : ℕ) (a : List ℕ) → (old ++ t ∷ []) ++ a ≡ old ++ t ∷ a
tagged old t a = append_assoc old (t ∷ []) a

pub tagged_two : (old : List ℕ) (t : ℕ) (a b : List ℕ) → ((old ++ t ∷ []) ++ a) ++ b ≡ old ++ t ∷ (a ++ b)
tagged_two old t a b = append_assoc (old ++ t ∷ []) a b ∙ tagged old t (a ++ b)

pub uan_written : (old : List ℕ) (u : Uan) (p : List ℕ) → is_uan u ≡ true → p ≡ 58 ∷ (decimal u.port ++ 47 ∷ []) → (((old ++ codes "uan://") ++ u.host) ++ p) ++ u.path ≡ old ++ uan_text u
unfolding is_uan
uan_written old u p h e =
    let a = both (is_host u.host) (is_port u.port && is_uan_path (47 ∷ u.path)) h in
    let host : lower_case u.host ≡ u.host = host_stays u.host (host_parts u.host a.0).2 in
    let q : List ℕ = 58 ∷ (decimal u.port ++ 47 ∷ []) in
    append_assoc ((old ++ codes "uan://") ++ u.host) p u.path
    ∙ append_assoc (old ++ codes "uan://") u.host (p ++ u.path)
    ∙ append_assoc old (codes "uan://") (u.host ++ (p ++ u.path))
    ∙ ap (λ (z : List ℕ). old ++ (codes "uan://" ++ (u.host ++ (z ++ u.path)))) e
    ∙ ap (λ (z : List ℕ). old ++ (codes "uan://" ++ (z ++ (q ++ u.path)))) (sym host)
    ∙ ap (λ (z : List ℕ). old ++ z) (sym (uan_parts u))

pub spelled_fits : (w : Value) → is_spelled w ≡ true → FitsSomeDepth w
spelled_fits w h = record { depth = 64; fits = h }

small : (n : ℕ) → nat_le n 4096 ≡ true → n ≤ 65535
small n h = grind (arith, nat_tests)

pub text_short : (w : Value) (t : List ℕ) → w ≡ v.Str t → FitsSomeDepth w → length t ≤ 65535
text_short w t is f = small (length t) (sym (ap (λ y. fits y f.depth) is ∙ fits_str t f.depth) ∙ f.fits)

pub name_good : (w : Value) (n : Name) → w ≡ v.Ref n → FitsSomeDepth w → name_is_spelled n ≡ true
name_good w n is f = sym (ap (λ y. fits y f.depth) is ∙ fits_ref n f.depth) ∙ f.fits

array_at_depth : (items : List Value) (d : ℕ) → fits (v.Array items) d ≡ true → (nat_le (length items) 4096 ≡ true) × ((k : ℕ) × (list_all (λ item. fits item k) items ≡ true))
array_at_depth items zero h =
    let no' : fits (v.Array items) 0 ≡ false = fits_flat items in
    absurd cc
array_at_depth items (suc d) h =
    let parts = both (nat_le (length items) 4096) (list_all (λ item. fits item d) items) (sym (fits_array items d) ∙ h) in
    (parts.0, (d, parts.1))

parts_of : (w : Value) (items : List Value) → w ≡ v.Array items → FitsSomeDepth w → (nat_le (length items) 4096 ≡ true) × ((k : ℕ) × (list_all (λ item. fits item k) items ≡ true))
parts_of w items is f = array_at_depth items f.depth (sym (ap (λ y. fits y f.depth) is) ∙ f.fits)

pub items_few : (w : Value) (items : List Value) → w ≡ v.Array items → FitsSomeDepth w → length items ≤ 65535
items_few w items is f = small (length items) (parts_of w items is f).0

all_at : (d : ℕ) (xs : List Value) (i : ℕ) (x : Value) → i < length xs → list_all (λ item. fits item d) xs ≡ true → fits (get_or xs i x) d ≡ true
all_at d [] i x lt h = absurd (omega arith)
all_at d (y ∷ xs) zero x lt h = (both (fits y d) (list_all (λ item. fits item d) xs) h).0
all_at d (y ∷ xs) (suc i) x lt h = all_at d xs i x (omega arith) (both (fits y d) (list_all (λ item. fits item d) xs) h).1

pub item_fits : (w : Value) (items xs : List Value) (i : ℕ) (x : Value) → w ≡ v.Array items → xs ≡ items → i < length xs → x ≡ get_or xs i x → FitsSomeDepth w → FitsSomeDepth x
item_fits w items xs i x is same lt at f =
    let parts = parts_of w items is f in
    let all : list_all (λ item. fits item parts.1.0) xs ≡ true = ap (λ (ys : List Value). list_all (λ item. fits item parts.1.0) ys) same ∙ parts.1.1 in
    record { depth = parts.1.0; fits = ap (λ y. fits y parts.1.0) at ∙ all_at parts.1.0 xs i x lt all }

-- an array's items begin after its tag and its count
pub items_begin : (old : List ℕ) (w : Value) (items xs : List Value) (count : List ℕ) → w ≡ v.Array items → xs ≡ items → count ≡ to_be_bytes w16 (length items)
    → ((old ++ 4 ∷ []) ++ count) ++ flat_map spelling xs ≡ old ++ spelling w
items_begin old w items xs count is same counted =
    tagged_two old 4 count (flat_map spelling xs)
    ∙ ap (λ (z : List ℕ). old ++ 4 ∷ (z ++ flat_map spelling xs)) counted
    ∙ ap (λ (ys : List Value). old ++ 4 ∷ (to_be_bytes w16 (length items) ++ flat_map spelling ys)) same
    ∙ ap (λ (z : List ℕ). old ++ z) (sym (ap spelling is ∙ spelling_array items))

pub anon_written : (old a b : List ℕ) (theatre number : ℕ) → a ≡ to_be_bytes w32 theatre → b ≡ to_be_bytes w64 number → (old ++ a) ++ b ≡ old ++ anon_bytes theatre number
unfolding anon_bytes
anon_written old a b theatre number e f =
    append_assoc old a b ∙ ap (λ (z : List ℕ). old ++ (z ++ b)) e ∙ ap (λ (z : List ℕ). old ++ (to_be_bytes w32 theatre ++ z)) f
