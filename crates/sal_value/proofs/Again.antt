-- What is spelled is decoded again.
use Rattle.std.proofs.Common.{◌≡◌, ℕ, ℤ, pos, negsuc, zero, suc, ◌-◌, ◌^◌, ◌<◌, ◌≤◌, Bool, true, false, ◌&&◌, List, [], ◌∷◌, ◌++◌, length, map, Ok, refl, sym, ap, subst, ◌∙◌, append_assoc, arith, rules}
use Rattle.std.specs.Prelude.{if◌then◌else◌, nat_lt, nat_le}
use Rattle.std.specs.Int.{w16, w32, w64, to_be_bytes, cast_signed, cast_unsigned}
use Rattle.std.specs.List.{list_all, flat_map}
use Rattle.std.specs.Str.{is_utf8}
use Rattle.std.proofs.lemmas.Bool.Decides.{nat_tests}
use Rattle.std.proofs.lemmas.Int.{to_z-of_z, ints}
use Rattle.std.proofs.lemmas.List.{length-append}
use Rattle.sal_value.specs.declared.name.Uan.{Uan}
use Rattle.sal_value.specs.declared.name.Name.{Name}
use Rattle.sal_value.specs.declared.name.Name.TheVariants as name
use Rattle.sal_value.specs.declared.value.Value.{Value, roll-Value, out-Value, roll-out-Value, map-Value, fold-roll-Value}
use Rattle.sal_value.specs.declared.value.Value.TheVariants as v
use Rattle.sal_value.specs.declared.value.Value.TheOpen.{Value-F}
use Rattle.sal_value.specs.Names.{uan_text, is_uan, is_host, is_port, is_uan_path}
use Rattle.sal_value.specs.Spelling.{text_bytes, anon_bytes, name_spelling, name_is_spelled, spelling, fits, is_spelled}
use Rattle.sal_value.specs.Coding.{is_i32, name_in_range, range_step, in_range}
use Rattle.sal_value.specs.Decoding.{Reading, ◌>>=◌, wrong, bytes_at, number_at, bool_at, text_at, canonical_uan, uan_or_wrong, uan_at, anon_at, name_at, items_at, count_at, array_at, tagged_at, value_at, with_offset, decoded_name, decoded_value}
use Rattle.sal_value.proofs.Bytes.{both}
use Rattle.sal_value.proofs.Canonical.{uan_of_text}
use Rattle.sal_value.proofs.Texts.{length_uan_text, host_short, path_short}
use Rattle.sal_value.proofs.Takes.{wide16, wide32, wide64, bytes_again, number_again}
use Rattle.sal_value.proofs.Equations.{spelling_null, spelling_int, spelling_bool, spelling_str, spelling_ref, spelling_array, fits_str, fits_ref, fits_flat, fits_array}
use Rattle.std.proofs.lemmas.Fmt.{length-decimal-le}
use Rattle.sal_value.proofs.Readings.{port_range}

below : (m n : ℕ) → nat_lt m n ≡ true → m < n
below m n h = grind (arith, nat_tests)

at_most : (m n : ℕ) → nat_le m n ≡ true → m ≤ n
at_most m n h = grind (arith, nat_tests)

not_above : (m n : ℕ) → m ≤ n → nat_lt n m ≡ false
not_above m n h = grind (arith, nat_tests)

-- ---- fields

text_front : (text rest : List ℕ) → length text < 2 ^ 16 → number_at w16 (text_bytes text ++ rest) ≡ Ok (length text, text ++ rest)
text_front text rest lt =
    ap (number_at w16) (append_assoc (to_be_bytes w16 (length text)) text rest) ∙ number_again w16 (2 ^ 16) wide16 (length text) (text ++ rest) lt

text_again : (text rest : List ℕ) → length text ≤ 4096 → is_utf8 text ≡ true → text_at (text_bytes text ++ rest) ≡ Ok (text, rest)
unfolding text_at
text_again text rest short good =
    let all : List ℕ = text_bytes text ++ rest in
    ap (λ (r : Reading ℕ). r >>= λ n. if nat_lt 4096 n.0 then wrong all else bytes_at n.0 n.1 >>= λ t. if is_utf8 t.0 then Ok t else wrong n.1) (text_front text rest (omega arith))
    ∙ ap (λ b. if b then wrong all else bytes_at (length text) (text ++ rest) >>= λ t. if is_utf8 t.0 then Ok t else wrong (text ++ rest)) (not_above (length text) 4096 short)
    ∙ ap (λ (r : Reading (List ℕ)). r >>= λ t. if is_utf8 t.0 then Ok t else wrong (text ++ rest)) (bytes_again (length text) text rest refl)
    ∙ ap (λ b. if b then Ok (text, rest) else wrong (text ++ rest)) good

-- ---- names

uan_short : (u : Uan) → is_uan u ≡ true → length (uan_text u) < 2 ^ 16
unfolding is_uan
uan_short u h =
    let a = both (is_host u.host) (is_port u.port && is_uan_path (47 ∷ u.path)) h in
    let range = port_range u.port (both (is_port u.port) (is_uan_path (47 ∷ u.path)) a.1).0 in
    omega (arith, length_uan_text u, host_short u h, path_short u h, length-decimal-le 5 u.port (omega arith) (omega (arith, range.1)) (omega (arith, range.1)))

uan_again : (u : Uan) (rest : List ℕ) → is_uan u ≡ true → uan_at (text_bytes (uan_text u) ++ rest) ≡ Ok (u, rest)
unfolding uan_at
uan_again u rest h =
    let text : List ℕ = uan_text u in
    ap (λ (r : Reading ℕ). r >>= λ n. bytes_at n.0 n.1 >>= λ t. uan_or_wrong n.1 t.1 (canonical_uan t.0)) (text_front text rest (uan_short u h))
    ∙ ap (λ (r : Reading (List ℕ)). r >>= λ t. uan_or_wrong (text ++ rest) t.1 (canonical_uan t.0)) (bytes_again (length text) text rest refl)
    ∙ ap (uan_or_wrong (text ++ rest) rest) (uan_of_text u h)

anon_again : (theatre number : ℕ) (rest : List ℕ) → theatre < 2 ^ 32 → number < 2 ^ 64 → anon_at (anon_bytes theatre number ++ rest) ≡ Ok (name.Anon theatre number, rest)
unfolding anon_at anon_bytes
anon_again theatre number rest a b =
    ap (λ (bytes : List ℕ). number_at w32 bytes >>= λ t. number_at w64 t.1 >>= λ n. Ok (name.Anon t.0 n.0, n.1)) (append_assoc (to_be_bytes w32 theatre) (to_be_bytes w64 number) rest)
    ∙ ap (λ (r : Reading ℕ). r >>= λ t. number_at w64 t.1 >>= λ n. Ok (name.Anon t.0 n.0, n.1)) (number_again w32 (2 ^ 32) wide32 theatre (to_be_bytes w64 number ++ rest) a)
    ∙ ap (λ (r : Reading ℕ). r >>= λ n. Ok (name.Anon theatre n.0, n.1)) (number_again w64 (2 ^ 64) wide64 number rest b)

pub name_again : (n : Name) (rest : List ℕ) → name_in_range n ≡ true → name_is_spelled n ≡ true → name_at (name_spelling n ++ rest) ≡ Ok (n, rest)
unfolding name_at name_spelling name_is_spelled name_in_range
name_again (name.Anon theatre number) rest r s =
    let parts = both (nat_lt theatre (2 ^ 32)) (nat_lt number (2 ^ 64)) r in
    anon_again theatre number rest (below theatre (2 ^ 32) parts.0) (below number (2 ^ 64) parts.1)
name_again (name.Uan u) rest r s = ap (λ (x : Reading Uan). x >>= λ u. Ok (name.Uan u.0, u.1)) (uan_again u rest s)
name_again (name.Outside number) rest r s =
    ap (λ (x : Reading ℕ). x >>= λ n. Ok (name.Outside n.0, n.1)) (number_again w64 (2 ^ 64) wide64 number rest (below number (2 ^ 64) r))

-- ---- ranges

range_roll : (l : Value-F Value) → in_range (roll-Value l) ≡ range_step (map-Value Value Bool in_range l)
unfolding in_range
range_roll l = fold-roll-Value Bool range_step l

range_int : (n : ℤ) → in_range (v.Int n) ≡ is_i32 n
range_int n = ap in_range (sym (v.rolls-Int n)) ∙ range_roll (Value-F.Int n)

range_str : (t : List ℕ) → in_range (v.Str t) ≡ is_utf8 t
range_str t = ap in_range (sym (v.rolls-Str t)) ∙ range_roll (Value-F.Str t)

range_ref : (n : Name) → in_range (v.Ref n) ≡ name_in_range n
range_ref n = ap in_range (sym (v.rolls-Ref n)) ∙ range_roll (Value-F.Ref n)

all_in : (items : List Value) → list_all (λ b. b) (map in_range items) ≡ list_all in_range items
all_in [] = refl
all_in (w ∷ ws) = ap (λ b. in_range w && b) (all_in ws)

range_array : (items : List Value) → in_range (v.Array items) ≡ list_all in_range items
range_array items = ap in_range (sym (v.rolls-Array items)) ∙ range_roll (Value-F.Array items) ∙ all_in items

-- ---- values, by their tags

int_bits : (n : ℤ) → is_i32 n ≡ true → (cast_unsigned w32 n < 2 ^ 32) × (cast_signed w32 (cast_unsigned w32 n) ≡ n)
int_bits (pos n) h =
    let lt = below n (2 ^ 31) h in
    (omega arith, to_z-of_z w32 (pos n) (first_of (search rules, omega (arith, ints), grind (arith, ints))))
int_bits (negsuc n) h =
    let lt = below n (2 ^ 31) h in
    (omega arith, to_z-of_z w32 (negsuc n) (first_of (search rules, omega (arith, ints), grind (arith, ints))))

int_again : (array : List ℕ → Reading Value) (n : ℤ) (rest : List ℕ) → is_i32 n ≡ true → tagged_at array ((1 ∷ to_be_bytes w32 (cast_unsigned w32 n)) ++ rest) ≡ Ok (v.Int n, rest)
unfolding tagged_at
int_again array n rest h =
    let bits = int_bits n h in
    ap (λ (r : Reading ℕ). r >>= λ n. Ok (v.Int (cast_signed w32 n.0), n.1)) (number_again w32 (2 ^ 32) wide32 (cast_unsigned w32 n) rest bits.0)
    ∙ ap (λ m. Ok (v.Int m, rest)) bits.1

bool_again : (array : List ℕ → Reading Value) (b : Bool) (rest : List ℕ) → tagged_at array ((2 ∷ (if b then 1 else 0) ∷ []) ++ rest) ≡ Ok (v.Bool b, rest)
unfolding tagged_at bool_at
bool_again array true rest = refl
bool_again array false rest = refl

str_again : (array : List ℕ → Reading Value) (t rest : List ℕ) → length t ≤ 4096 → is_utf8 t ≡ true → tagged_at array ((3 ∷ text_bytes t) ++ rest) ≡ Ok (v.Str t, rest)
unfolding tagged_at
str_again array t rest short good = ap (λ (r : Reading (List ℕ)). r >>= λ t. Ok (v.Str t.0, t.1)) (text_again t rest short good)

ref_again : (array : List ℕ → Reading Value) (n : Name) (rest : List ℕ) → name_in_range n ≡ true → name_is_spelled n ≡ true → tagged_at array ((5 ∷ name_spelling n) ++ rest) ≡ Ok (v.Ref n, rest)
unfolding tagged_at
ref_again array n rest r s = ap (λ (x : Reading Name). x >>= λ n. Ok (v.Ref n.0, n.1)) (name_again n rest r s)

items_again : (d : ℕ) → ((w : Value) (rest : List ℕ) → in_range w ≡ true → fits w d ≡ true → value_at d (spelling w ++ rest) ≡ Ok (w, rest))
    → (ws : List Value) (rest : List ℕ) → list_all in_range ws ≡ true → list_all (λ w. fits w d) ws ≡ true → items_at (value_at d) (length ws) (flat_map spelling ws ++ rest) ≡ Ok (ws, rest)
items_again d again [] rest r f = refl
items_again d again (w ∷ ws) rest r f =
    let rs = both (in_range w) (list_all in_range ws) r in
    let fs = both (fits w d) (list_all (λ x. fits x d) ws) f in
    ap (items_at (value_at d) (suc (length ws))) (append_assoc (spelling w) (flat_map spelling ws) rest)
    ∙ ap (λ (x : Reading Value). x >>= λ first. items_at (value_at d) (length ws) first.1 >>= λ others. Ok (first.0 ∷ others.0, others.1)) (again w (flat_map spelling ws ++ rest) rs.0 fs.0)
    ∙ ap (λ (x : Reading (List Value)). x >>= λ others. Ok (w ∷ others.0, others.1)) (items_again d again ws rest rs.1 fs.1)

array_again : (d : ℕ) → ((w : Value) (rest : List ℕ) → in_range w ≡ true → fits w d ≡ true → value_at d (spelling w ++ rest) ≡ Ok (w, rest))
    → (ws : List Value) (rest : List ℕ) → list_all in_range ws ≡ true → nat_le (length ws) 4096 ≡ true → list_all (λ w. fits w d) ws ≡ true
    → array_at (value_at d) ((to_be_bytes w16 (length ws) ++ flat_map spelling ws) ++ rest) ≡ Ok (v.Array ws, rest)
unfolding array_at count_at
array_again d again ws rest r few f =
    let items : List ℕ = flat_map spelling ws ++ rest in
    let bytes : List ℕ = to_be_bytes w16 (length ws) ++ items in
    let most = at_most (length ws) 4096 few in
    ap (array_at (value_at d)) (append_assoc (to_be_bytes w16 (length ws)) (flat_map spelling ws) rest)
    ∙ ap (λ (x : Reading ℕ). (x >>= λ count. if nat_lt 4096 count.0 then wrong bytes else Ok count) >>= λ count. items_at (value_at d) count.0 count.1 >>= λ items. Ok (v.Array items.0, items.1))
    (number_again w16 (2 ^ 16) wide16 (length ws) items (omega arith))
    ∙ ap (λ b. (if b then wrong bytes else Ok (length ws, items)) >>= λ count. items_at (value_at d) count.0 count.1 >>= λ items. Ok (v.Array items.0, items.1)) (not_above (length ws) 4096 most)
    ∙ ap (λ (x : Reading (List Value)). x >>= λ items. Ok (v.Array items.0, items.1)) (items_again d again ws rest r f)

-- what a value is to give when it is read again
abbrev IsReadAgain : (List ℕ → List ℕ → Reading Value) → ℕ → Value → Type 0
IsReadAgain array d w = (rest : List ℕ) → in_range w ≡ true → fits w d ≡ true → tagged_at (array (spelling w ++ rest)) (spelling w ++ rest) ≡ Ok (w, rest)

-- at a value whose spelling it is
at : (array : List ℕ → Reading Value) (w : Value) (bytes rest : List ℕ) → spelling w ≡ bytes → tagged_at array (bytes ++ rest) ≡ Ok (w, rest) → tagged_at array (spelling w ++ rest) ≡ Ok (w, rest)
at array w bytes rest e h = ap (λ (z : List ℕ). tagged_at array (z ++ rest)) e ∙ h

layer_again : (array : List ℕ → List ℕ → Reading Value) (d : ℕ) → ((ws : List Value) → IsReadAgain array d (v.Array ws)) → (l : Value-F Value) → IsReadAgain array d (roll-Value l)
unfolding tagged_at
layer_again array d arrays (Value-F.Int n) =
    subst (IsReadAgain array d) (sym (v.rolls-Int n)) (λ rest r f. at (array (spelling (v.Int n) ++ rest)) (v.Int n) _ rest (spelling_int n) (int_again (array (spelling (v.Int n) ++ rest)) n rest (sym (range_int n) ∙ r)))
layer_again array d arrays (Value-F.Bool b) =
    subst (IsReadAgain array d) (sym (v.rolls-Bool b)) (λ rest r f. at (array (spelling (v.Bool b) ++ rest)) (v.Bool b) _ rest (spelling_bool b) (bool_again (array (spelling (v.Bool b) ++ rest)) b rest))
layer_again array d arrays (Value-F.Str t) =
    subst (IsReadAgain array d) (sym (v.rolls-Str t)) (λ rest r f. at (array (spelling (v.Str t) ++ rest)) (v.Str t) _ rest (spelling_str t) (str_again (array (spelling (v.Str t) ++ rest)) t rest (at_most (length t) 4096 (sym (fits_str t d) ∙ f)) (sym (range_str t) ∙ r)))
layer_again array d arrays (Value-F.Array ws) = subst (IsReadAgain array d) (sym (v.rolls-Array ws)) (arrays ws)
layer_again array d arrays (Value-F.Ref n) =
    subst (IsReadAgain array d) (sym (v.rolls-Ref n)) (λ rest r f. at (array (spelling (v.Ref n) ++ rest)) (v.Ref n) _ rest (spelling_ref n) (ref_again (array (spelling (v.Ref n) ++ rest)) n rest (sym (range_ref n) ∙ r) (sym (fits_ref n d) ∙ f)))
layer_again array d arrays Value-F.Null =
    subst (IsReadAgain array d) (sym v.rolls-Null) (λ rest r f. at (array (spelling v.Null ++ rest)) v.Null _ rest spelling_null refl)

each_again : (array : List ℕ → List ℕ → Reading Value) (d : ℕ) → ((ws : List Value) → IsReadAgain array d (v.Array ws)) → (w : Value) → IsReadAgain array d w
each_again array d arrays w = subst (IsReadAgain array d) (roll-out-Value w) (layer_again array d arrays (out-Value w))

pub value_again : (d : ℕ) (w : Value) (rest : List ℕ) → in_range w ≡ true → fits w d ≡ true → value_at d (spelling w ++ rest) ≡ Ok (w, rest)
unfolding value_at tagged_at
value_again zero w rest r f =
    each_again (λ all rest. wrong all) 0 (λ ws rest r f. let no' : fits (v.Array ws) 0 ≡ false = fits_flat ws in absurd cc) w rest r f
value_again (suc d) w rest r f =
    each_again (λ all. array_at (value_at d)) (suc d) (λ ws rest r f.
    let parts = both (nat_le (length ws) 4096) (list_all (λ x. fits x d) ws) (sym (fits_array ws d) ∙ f) in
    at (array_at (value_at d)) (v.Array ws) (4 ∷ (to_be_bytes w16 (length ws) ++ flat_map spelling ws)) rest (spelling_array ws)
    (array_again d (value_again d) ws rest (sym (range_array ws) ∙ r) parts.0 parts.1)) w rest r f

-- ---- with places

placed_again : {A : Type 0} (bytes rest : List ℕ) (x : A) (r : Reading A) → r ≡ Ok (x, rest) → with_offset (bytes ++ rest) r ≡ Ok (x, length bytes)
placed_again bytes rest x r e =
    let size : length (bytes ++ rest) - length rest ≡ length bytes = omega (arith, length-append bytes rest) in
    ap (with_offset (bytes ++ rest)) e ∙ ap (λ n. Ok (x, n)) size

pub again_value : (w : Value) (rest : List ℕ) → in_range w ≡ true → is_spelled w ≡ true → decoded_value (spelling w ++ rest) ≡ Ok (w, length (spelling w))
unfolding decoded_value
again_value w rest r s = placed_again (spelling w) rest w (value_at 64 (spelling w ++ rest)) (value_again 64 w rest r s)

pub again_name : (n : Name) (rest : List ℕ) → name_in_range n ≡ true → name_is_spelled n ≡ true → decoded_name (name_spelling n ++ rest) ≡ Ok (n, length (name_spelling n))
unfolding decoded_name
again_name n rest r s = placed_again (name_spelling n) rest n (name_at (name_spelling n ++ rest)) (name_again n rest r s)
