-- What spellings leave of a room.
use Rattle.std.proofs.Common.{◌≡◌, ℕ, ℤ, suc, ◌+◌, ◌-◌, ◌<◌, ◌≤◌, Bool, true, false, ◌&&◌, Option, Some, None, List, [], ◌∷◌, ◌++◌, length, get_or, drop, refl, sym, ap, ◌∙◌, arith}
use Rattle.std.specs.Prelude.{nat_le, if◌then◌else◌, option_and_then}
use Rattle.std.specs.Int.{w16, w32, to_be_bytes, cast_unsigned}
use Rattle.std.specs.List.{list_all, flat_map}
use Rattle.std.proofs.lemmas.Bool.Decides.{nat_tests}
use Rattle.std.proofs.lemmas.List.{at_drop_more, at_drop_all, length-append}
use Rattle.sal_value.specs.declared.name.Name.{Name}
use Rattle.sal_value.specs.declared.name.Name.TheVariants as name
use Rattle.sal_value.specs.declared.name.Uan.{Uan}
use Rattle.sal_value.specs.declared.value.Value.{Value}
use Rattle.sal_value.specs.declared.value.Value.TheVariants as v
use Rattle.sal_value.specs.Names.{uan_text, is_uan}
use Rattle.sal_value.specs.Spelling.{anon_bytes, text_bytes, name_spelling, name_is_spelled, spelling, fits, room_left, room_after_name, room_after, is_legal, is_spelled}
use Rattle.sal_value.proofs.Bytes.{both}
use Rattle.sal_value.proofs.Equations.{spelling_null, spelling_int, spelling_bool, spelling_str, spelling_ref, spelling_array, fits_null, fits_int, fits_bool, fits_str, fits_ref, fits_flat, fits_array}

-- ---- one after the other

left_both : (b : Bool) (m n room : ℕ) → room_left b (m + n) room ≡ option_and_then (room_left b n) (room_left true m room)
left_both true m n room = grind (arith, nat_tests)
left_both false m n room = grind (arith, nat_tests)

pub left_after : (a b : Bool) (m n room : ℕ) → room_left (a && b) (m + n) room ≡ option_and_then (room_left b n) (room_left a m room)
left_after true b m n room = left_both b m n room
left_after false b m n room = refl

-- ---- names

pub name_anon : (t n room : ℕ) → room_after_name (name.Anon t n) room ≡ room_left true 13 room
unfolding room_after_name name_is_spelled name_spelling anon_bytes
name_anon t n room = refl

pub name_outside : (n room : ℕ) → room_after_name (name.Outside n) room ≡ room_left true 9 room
unfolding room_after_name name_is_spelled name_spelling
name_outside n room = refl

pub name_uan : (u : Uan) (room : ℕ) → room_after_name (name.Uan u) room ≡ room_left (is_uan u) (3 + length (uan_text u)) room
unfolding room_after_name name_is_spelled name_spelling
name_uan u room =
    let three : suc (suc (suc (length (uan_text u)))) ≡ 3 + length (uan_text u) = omega arith in
    ap (λ k. room_left (is_uan u) k room) three

-- ---- values

at : (w : Value) (d room : ℕ) (b : Bool) (bytes : List ℕ) → fits w d ≡ b → spelling w ≡ bytes → room_after w d room ≡ room_left b (length bytes) room
unfolding room_after
at w d room b bytes e f = ap (λ z. room_left z (length (spelling w)) room) e ∙ ap (λ (z : List ℕ). room_left b (length z) room) f

pub room_null : (d room : ℕ) → room_after v.Null d room ≡ room_left true 1 room
room_null d room = at v.Null d room true (0 ∷ []) (fits_null d) spelling_null

pub room_int : (n : ℤ) (d room : ℕ) → room_after (v.Int n) d room ≡ room_left true 5 room
room_int n d room = at (v.Int n) d room true (1 ∷ to_be_bytes w32 (cast_unsigned w32 n)) (fits_int n d) (spelling_int n)

pub room_bool : (b : Bool) (d room : ℕ) → room_after (v.Bool b) d room ≡ room_left true 2 room
room_bool b d room = at (v.Bool b) d room true (2 ∷ (if b then 1 else 0) ∷ []) (fits_bool b d) (spelling_bool b)

pub room_str : (t : List ℕ) (d room : ℕ) → room_after (v.Str t) d room ≡ room_left (nat_le (length t) 4096) (3 + length t) room
room_str t d room =
    let three : suc (suc (suc (length t))) ≡ 3 + length t = omega arith in
    at (v.Str t) d room (nat_le (length t) 4096) (3 ∷ text_bytes t) (fits_str t d) (spelling_str t) ∙ ap (λ k. room_left (nat_le (length t) 4096) k room) three

pub room_ref : (n : Name) (d room : ℕ) → room_after (v.Ref n) d room ≡ option_and_then (room_after_name n) (room_left true 1 room)
unfolding room_after_name
room_ref n d room =
    let one : suc (length (name_spelling n)) ≡ 1 + length (name_spelling n) = omega arith in
    at (v.Ref n) d room (name_is_spelled n) (5 ∷ name_spelling n) (fits_ref n d) (spelling_ref n)
    ∙ ap (λ k. room_left (name_is_spelled n) k room) one
    ∙ left_after true (name_is_spelled n) 1 (length (name_spelling n)) room

-- what is left after several values, one after the other
abbrev pub rooms : ℕ → List Value → ℕ → Option ℕ
rooms d [] room = Some room
rooms d (w ∷ ws) room = option_and_then (rooms d ws) (room_after w d room)

then_same : (f g : ℕ → Option ℕ) → ((r : ℕ) → f r ≡ g r) → (o : Option ℕ) → option_and_then f o ≡ option_and_then g o
then_same f g same None = refl
then_same f g same (Some r) = same r

rooms_is : (d : ℕ) (ws : List Value) (room : ℕ) → rooms d ws room ≡ room_left (list_all (λ w. fits w d) ws) (length (flat_map spelling ws)) room
unfolding room_after
rooms_is d [] room = grind (arith, nat_tests)
rooms_is d (w ∷ ws) room =
    then_same (rooms d ws) (room_left (list_all (λ x. fits x d) ws) (length (flat_map spelling ws))) (rooms_is d ws) (room_after w d room)
    ∙ sym (left_after (fits w d) (list_all (λ x. fits x d) ws) (length (spelling w)) (length (flat_map spelling ws)) room)
    ∙ ap (λ k. room_left (fits w d && list_all (λ x. fits x d) ws) k room) (sym (length-append (spelling w) (flat_map spelling ws)))

pub room_flat : (items : List Value) (d room : ℕ) → d ≡ 0 → room_after (v.Array items) d room ≡ None
room_flat items d room e = ap (λ k. room_after (v.Array items) k room) e ∙ at (v.Array items) 0 room false (spelling (v.Array items)) (fits_flat items) refl

room_items : (items : List Value) (d room : ℕ) → room_after (v.Array items) (suc d) room ≡ option_and_then (rooms d items) (room_left (nat_le (length items) 4096) 3 room)
room_items items d room =
    let bytes = flat_map spelling items in
    let three : suc (suc (suc (length bytes))) ≡ 3 + length bytes = omega arith in
    at (v.Array items) (suc d) room (nat_le (length items) 4096 && list_all (λ w. fits w d) items) (4 ∷ (to_be_bytes w16 (length items) ++ bytes)) (fits_array items d) (spelling_array items)
    ∙ ap (λ k. room_left (nat_le (length items) 4096 && list_all (λ w. fits w d) items) k room) three
    ∙ left_after (nat_le (length items) 4096) (list_all (λ w. fits w d) items) 3 (length bytes) room
    ∙ then_same (room_left (list_all (λ x. fits x d) items) (length bytes)) (rooms d items) (λ r. sym (rooms_is d items r)) (room_left (nat_le (length items) 4096) 3 room)

le_true : (m n : ℕ) → m ≤ n → nat_le m n ≡ true
le_true m n h = grind (arith, nat_tests)

le_false : (m n : ℕ) → n < m → nat_le m n ≡ false
le_false m n h = grind (arith, nat_tests)

pub room_long : (items : List Value) (d room : ℕ) → 0 < d → 4096 < length items → room_after (v.Array items) d room ≡ None
room_long items d room low long =
    let up : d ≡ suc (d - 1) = omega arith in
    ap (λ k. room_after (v.Array items) k room) up ∙ room_items items (d - 1) room
    ∙ ap (λ b. option_and_then (rooms (d - 1) items) (room_left b 3 room)) (le_false (length items) 4096 long)

-- an array's items begin after its tag and its count
pub array_room : (w : Value) (items xs : List Value) (d room left : ℕ) → w ≡ v.Array items → xs ≡ items → 0 < d → length items ≤ 4096 → room_left true 3 room ≡ Some left → rooms (d - 1) xs left ≡ room_after w d room
array_room w items xs d room left is same low short head =
    let up : d ≡ suc (d - 1) = omega arith in
    ap (λ (ys : List Value). rooms (d - 1) ys left) same
    ∙ sym (ap (λ y. room_after y d room) is ∙ ap (λ k. room_after (v.Array items) k room) up ∙ room_items items (d - 1) room
    ∙ ap (λ b. option_and_then (rooms (d - 1) items) (room_left b 3 room)) (le_true (length items) 4096 short)
    ∙ ap (option_and_then (rooms (d - 1) items)) head)

pub no_room : (w : Value) (items : List Value) (d room : ℕ) → w ≡ v.Array items → 0 < d → length items ≤ 4096 → room_left true 3 room ≡ None → None ≡ room_after w d room
no_room w items d room is low short head =
    let up : d ≡ suc (d - 1) = omega arith in
    sym (ap (λ y. room_after y d room) is ∙ ap (λ k. room_after (v.Array items) k room) up ∙ room_items items (d - 1) room
    ∙ ap (λ b. option_and_then (rooms (d - 1) items) (room_left b 3 room)) (le_true (length items) 4096 short)
    ∙ ap (option_and_then (rooms (d - 1) items)) head)

rooms_at : (d : ℕ) (xs : List Value) (i : ℕ) (x : Value) (left : ℕ) → i < length xs → x ≡ get_or xs i x → rooms d (drop i xs) left ≡ option_and_then (rooms d (drop (i + 1) xs)) (room_after x d left)
rooms_at d xs i x left lt is =
    let more : rooms d (drop i xs) left ≡ option_and_then (rooms d (drop (i + 1) xs)) (room_after (get_or xs i x) d left) = at_drop_more (λ (ys : List Value). rooms d ys left) xs i x lt in
    more ∙ ap (λ y. option_and_then (rooms d (drop (i + 1) xs)) (room_after y d left)) (sym is)

pub rooms_more : (d : ℕ) (xs : List Value) (i : ℕ) (x : Value) (left r : ℕ) (all : Option ℕ) → i < length xs → x ≡ get_or xs i x → Some r ≡ room_after x d left → rooms d (drop i xs) left ≡ all → rooms d (drop (i + 1) xs) r ≡ all
rooms_more d xs i x left r all lt is here before =
    ap (option_and_then (rooms d (drop (i + 1) xs))) here ∙ sym (rooms_at d xs i x left lt is) ∙ before

pub rooms_none : (d : ℕ) (xs : List Value) (i : ℕ) (x : Value) (left : ℕ) (all : Option ℕ) → i < length xs → x ≡ get_or xs i x → None ≡ room_after x d left → rooms d (drop i xs) left ≡ all → None ≡ all
rooms_none d xs i x left all lt is here before =
    ap (option_and_then (rooms d (drop (i + 1) xs))) here ∙ sym (rooms_at d xs i x left lt is) ∙ before

pub rooms_end : (d : ℕ) (xs : List Value) (i left : ℕ) (all : Option ℕ) → length xs ≤ i → rooms d (drop i xs) left ≡ all → Some left ≡ all
rooms_end d xs i left all le before =
    let none : rooms d (drop i xs) left ≡ Some left = at_drop_all (λ (ys : List Value). rooms d ys left) xs i le in
    sym none ∙ before

-- a legal value has a spelling
pub legal_spelled : (w : Value) → is_legal w ≡ true → is_spelled w ≡ true
unfolding is_legal
legal_spelled w h = (both (is_spelled w) (nat_le (length (spelling w)) 65536) h).0
