-- Each word that is printed is one word of a line.
use Rattle.std.proofs.Common.{◌≡◌, ℕ, ℤ, pos, negsuc, zero, suc, ◌/◌, ◌%◌, ◌^◌, ◌<◌, ◌≤◌, ◌==◌, Bool, true, false, ◌&&◌, ◌||◌, Some, List, [], ◌∷◌, ◌++◌, length, refl, sym, ap, subst, ◌∙◌, arith}
use Rattle.std.specs.Prelude.{if◌then◌else◌, nat_lt, nat_le, slice_index}
use Rattle.std.specs.Char.{digit_char}
use Rattle.std.specs.Fmt.{decimal, signed_decimal}
use Rattle.std.specs.List.{list_all, flat_map}
use Rattle.std.specs.Str.Parse.{AllDigits}
use Rattle.std.proofs.lemmas.Bool.Decides.{nat_tests}
use Rattle.std.proofs.lemmas.Fmt.{decimal_is_IsNumeral}
use Rattle.std.proofs.lemmas.Str.Parse.{digit_from_value}
use Rattle.hex.specs.Hex.{lower_digits, encode_with, encode_lower}
use Rattle.sal_value.specs.declared.name.Uan.{Uan}
use Rattle.sal_value.specs.declared.name.Name.{Name}
use Rattle.sal_value.specs.declared.name.Name.TheVariants as name
use Rattle.sal_value.specs.declared.value.Value.{Value, roll-Value, out-Value, roll-out-Value}
use Rattle.sal_value.specs.declared.value.Value.TheVariants as v
use Rattle.sal_value.specs.declared.value.Value.TheOpen.{Value-F}
use Rattle.sal_value.specs.Names.{lower_case, uan_text, name_text, is_uan, is_host, is_port, is_path, is_uan_path, is_host_byte, is_path_byte}
use Rattle.sal_value.specs.Spelling.{name_is_spelled}
use Rattle.sal_value.specs.Coding.{is_i32, name_in_range}
use Rattle.sal_value.proofs.Bytes.{both, host_parts, path_parts}
use Rattle.sal_value.proofs.Readings.{host_stays, port_range}
use Rattle.sal_mail.specs.declared.fault.Trap.TheVariants as trap
use Rattle.sal_mail.specs.declared.fault.FaultKind.{FaultKind}
use Rattle.sal_mail.specs.declared.fault.FaultKind.TheVariants as kind
use Rattle.sal_mail.specs.Lines.{kind_text}
use Rattle.sal_literals.specs.Texts.{is_control, escape, quoted_text, value_text, is_literal_at, is_literal}
use Rattle.sal_literals.proofs.Equations.{text_null, text_int, text_bool, text_str, text_ref, text_array, others_text, items_text, literal_int, literal_ref, literal_flat, literal_array}
use Rattle.sal_schedule.specs.declared.words.Mode.TheVariants.{Plain, Quoted, Escaped}
use Rattle.sal_document.specs.declared.shown.End.{End}
use Rattle.sal_document.specs.declared.shown.End.TheVariants as ending
use Rattle.sal_document.specs.Documents.{end_text}
use Rattle.sal_document.specs.Parts.{is_plain_byte, is_plain}
use Rattle.sal_document.proofs.OneWord.{run, IsOne, step, runs_on, plain_is_one}

-- ---- plain words

all_append : (p : ℕ → Bool) (xs ys : List ℕ) → list_all p xs ≡ true → list_all p ys ≡ true → list_all p (xs ++ ys) ≡ true
all_append p [] ys h k = k
all_append p (x ∷ xs) ys h k =
    let parts = both (p x) (list_all p xs) h in
    ap (λ b. b && list_all p (xs ++ ys)) parts.0 ∙ all_append p xs ys parts.1 k

all_weaker : (p q : ℕ → Bool) (xs : List ℕ) → ((b : ℕ) → p b ≡ true → q b ≡ true) → list_all p xs ≡ true → list_all q xs ≡ true
all_weaker p q [] h k = refl
all_weaker p q (x ∷ xs) h k =
    let parts = both (p x) (list_all p xs) k in
    ap (λ b. b && list_all q xs) (h x parts.0) ∙ all_weaker p q xs h parts.1

digit_plain : (c : ℕ) → 48 ≤ c → c ≤ 57 → is_plain_byte c ≡ true
digit_plain c low high = grind (arith, nat_tests)

digits_plain : (ds : List ℕ) → AllDigits 10 ds → is_plain ds ≡ true
digits_plain [] h = refl
digits_plain (c ∷ ds) h =
    let range = digit_from_value c h.0 in
    ap (λ b. b && is_plain ds) (digit_plain c range.0 range.1) ∙ digits_plain ds h.1

decimal_plain : (n : ℕ) → n < 2 ^ 64 → is_plain (decimal n) ≡ true
decimal_plain n lt = digits_plain (decimal n) (decimal_is_IsNumeral n lt).0.1

pub decimal_one : (n : ℕ) → n < 2 ^ 64 → IsOne (decimal n)
decimal_one n lt = plain_is_one (decimal n) (decimal_plain n lt)

host_plain : (b : ℕ) → is_host_byte b ≡ true → is_plain_byte b ≡ true
host_plain b h = grind (arith, nat_tests)

path_plain : (b : ℕ) → is_path_byte b ≡ true → is_plain_byte b ≡ true
path_plain b h = grind (arith, nat_tests)

uan_plain : (u : Uan) → is_uan u ≡ true → is_plain (uan_text u) ≡ true
unfolding is_uan uan_text
uan_plain u h =
    let a = both (is_host u.host) (is_port u.port && is_uan_path (47 ∷ u.path)) h in
    let b = both (is_port u.port) (is_uan_path (47 ∷ u.path)) a.1 in
    let c = both (nat_le 1 (length u.path)) (is_path u.path) b.1 in
    let host = (host_parts u.host a.0).2 in
    let hosts : is_plain (lower_case u.host) ≡ true = ap is_plain (host_stays u.host host) ∙ all_weaker is_host_byte is_plain_byte u.host host_plain host in
    let port : is_plain (decimal u.port) ≡ true = decimal_plain u.port (omega (arith, (port_range u.port b.0).1)) in
    let path : is_plain u.path ≡ true = all_weaker is_path_byte is_plain_byte u.path path_plain (path_parts u.path c.1).1 in
    all_append is_plain_byte (lower_case u.host ++ 58 ∷ decimal u.port) (47 ∷ u.path) (all_append is_plain_byte (lower_case u.host) (58 ∷ decimal u.port) hosts port) path

pub uan_one : (u : Uan) → is_uan u ≡ true → IsOne (uan_text u)
uan_one u h = plain_is_one (uan_text u) (uan_plain u h)

below : (m n : ℕ) → nat_lt m n ≡ true → m < n
below m n h = grind (arith, nat_tests)

name_plain : (n : Name) → name_in_range n ≡ true → name_is_spelled n ≡ true → is_plain (name_text n) ≡ true
unfolding name_text name_in_range name_is_spelled
name_plain (name.Anon theatre number) r s =
    let parts = both (nat_lt theatre (2 ^ 32)) (nat_lt number (2 ^ 64)) r in
    let lt = below theatre (2 ^ 32) parts.0 in
    all_append is_plain_byte (decimal theatre) (58 ∷ decimal number) (decimal_plain theatre (omega arith)) (decimal_plain number (below number (2 ^ 64) parts.1))
name_plain (name.Outside number) r s = decimal_plain number (below number (2 ^ 64) r)
name_plain (name.Uan u) r s = uan_plain u s

pub name_one : (n : Name) → name_in_range n ≡ true → name_is_spelled n ≡ true → IsOne (name_text n)
name_one n r s = plain_is_one (name_text n) (name_plain n r s)

pub kind_one : (k : FaultKind) → IsOne (kind_text k)
unfolding kind_text
kind_one (kind.Trap trap.ZeroDivisor) = plain_is_one _ refl
kind_one (kind.Trap trap.Index) = plain_is_one _ refl
kind_one (kind.Trap trap.NegativeLength) = plain_is_one _ refl
kind_one (kind.Trap trap.NullTarget) = plain_is_one _ refl
kind_one (kind.Trap trap.BadName) = plain_is_one _ refl
kind_one (kind.Trap trap.BadLocator) = plain_is_one _ refl
kind_one (kind.Trap trap.BadDelay) = plain_is_one _ refl
kind_one (kind.Trap trap.TooLarge) = plain_is_one _ refl
kind_one (kind.Trap trap.TooManyTurns) = plain_is_one _ refl
kind_one (kind.Trap trap.TooManyMessages) = plain_is_one _ refl
kind_one kind.NoHandler = plain_is_one _ refl
kind_one kind.NameTaken = plain_is_one _ refl

pub end_one : (e : End) → IsOne (end_text e)
unfolding end_text
end_one ending.AtRest = plain_is_one _ refl
end_one ending.NotAtRest = plain_is_one _ refl
end_one ending.PacketsFull = plain_is_one _ refl

index_plain : (xs : List ℕ) (i : ℕ) → is_plain xs ≡ true → is_plain_byte (slice_index xs i) ≡ true
index_plain [] i h = refl
index_plain (x ∷ xs) zero h = (both (is_plain_byte x) (is_plain xs) h).0
index_plain (x ∷ xs) (suc i) h = index_plain xs i (both (is_plain_byte x) (is_plain xs) h).1

and_true : (a b : Bool) → a ≡ true → b ≡ true → a && b ≡ true
and_true true b h k = k
and_true false b h k = h

encoded_plain : (table bytes : List ℕ) → is_plain table ≡ true → is_plain (encode_with table bytes) ≡ true
unfolding encode_with
encoded_plain table [] h = refl
encoded_plain table (b ∷ bytes) h =
    let high : ℕ = slice_index table (b / 16) in
    let low : ℕ = slice_index table (b % 16) in
    let more : List ℕ = encode_with table bytes in
    and_true (is_plain_byte high) (is_plain_byte low && is_plain more) (index_plain table (b / 16) h)
    (and_true (is_plain_byte low) (is_plain more) (index_plain table (b % 16) h) (encoded_plain table bytes h))

pub hash_one : (hash : List ℕ) → IsOne (encode_lower hash)
hash_one hash = plain_is_one (encode_lower hash) (encoded_plain lower_digits hash refl)

-- ---- texts in quotes

-- a byte within quotes that neither ends them nor begins an escape
inner : (b : ℕ) (bytes : List ℕ) → (b == 10) ≡ false → (b == 34) ≡ false → (b == 92) ≡ false → run Quoted (b ∷ bytes) ≡ run Quoted bytes
inner b bytes feed quote slash =
    step Quoted b bytes false (ap (λ t. t || false) feed) ∙ ap (λ t. run (if t then Plain else if b == 92 then Escaped else Quoted) bytes) quote ∙ ap (λ t. run (if t then Escaped else Quoted) bytes) slash

-- a backslash and the byte that it takes with it
escaped : (b : ℕ) (bytes : List ℕ) → (b == 10) ≡ false → run Quoted (92 ∷ b ∷ bytes) ≡ run Quoted bytes
escaped b bytes feed = step Escaped b bytes false (ap (λ t. t || false) feed)

digit_low : (d : ℕ) → d < 16 → (digit_char d == 10) ≡ false
digit_low d lt = grind (arith, nat_tests)

digit_quote : (d : ℕ) → d < 16 → (digit_char d == 34) ≡ false
digit_quote d lt = grind (arith, nat_tests)

digit_slash : (d : ℕ) → d < 16 → (digit_char d == 92) ≡ false
digit_slash d lt = grind (arith, nat_tests)

digit_inner : (d : ℕ) (bytes : List ℕ) → d < 16 → run Quoted (digit_char d ∷ bytes) ≡ run Quoted bytes
digit_inner d bytes lt = inner (digit_char d) bytes (digit_low d lt) (digit_quote d lt) (digit_slash d lt)

control_small : (b : ℕ) → is_control b ≡ true → b < 256
control_small b h = grind (arith, nat_tests)

no_feed : (b : ℕ) (q s : Bool) → (b == 34) ≡ q → (b == 92) ≡ s → q || s ≡ true → (b == 10) ≡ false
no_feed b q s eq es h = grind (arith, nat_tests)

signs_apart : (b : ℕ) → (b == 34 || b == 92) ≡ false → ((b == 34) ≡ false) × ((b == 92) ≡ false)
signs_apart b h = (grind (arith, nat_tests), grind (arith, nat_tests))

byte_by : (b : ℕ) (t f r a c : Bool) → (b == 34 || b == 92) ≡ t → (b == 10) ≡ f → is_control b ≡ c
    → run Quoted (if t then 92 ∷ b ∷ [] else if f then 92 ∷ 110 ∷ [] else if r then 92 ∷ 114 ∷ [] else if a then 92 ∷ 116 ∷ [] else if c then 92 ∷ 120 ∷ digit_char (b / 16) ∷ digit_char (b % 16) ∷ [] else b ∷ [])
    ≡ Some Quoted
byte_by b true f r a c et ef ec = escaped b [] (no_feed b (b == 34) (b == 92) refl refl et)
byte_by b false true r a c et ef ec = refl
byte_by b false false true a c et ef ec = refl
byte_by b false false false true c et ef ec = refl
byte_by b false false false false true et ef ec =
    let small = control_small b ec in
    digit_inner (b / 16) (digit_char (b % 16) ∷ []) (omega arith) ∙ digit_inner (b % 16) [] (omega arith)
byte_by b false false false false false et ef ec = let apart = signs_apart b et in inner b [] ef apart.0 apart.1

escape_runs : (b : ℕ) → run Quoted (escape b) ≡ Some Quoted
unfolding escape
escape_runs b = byte_by b (b == 34 || b == 92) (b == 10) (b == 13) (b == 9) (is_control b) refl refl refl

escapes_run : (text : List ℕ) → run Quoted (flat_map escape text) ≡ Some Quoted
escapes_run [] = refl
escapes_run (b ∷ text) = runs_on Quoted Quoted (escape b) (flat_map escape text) (escape_runs b) ∙ escapes_run text

pub quoted_one : (text : List ℕ) → IsOne (quoted_text text)
unfolding quoted_text
quoted_one text = record { runs = runs_on Quoted Quoted (flat_map escape text) (34 ∷ []) (escapes_run text) }

-- ---- values

int_plain : (n : ℤ) → is_i32 n ≡ true → is_plain (signed_decimal n) ≡ true
int_plain (pos n) h = let lt = below n (2 ^ 31) h in decimal_plain n (omega arith)
int_plain (negsuc n) h = let lt = below n (2 ^ 31) h in decimal_plain (suc n) (omega arith)

abbrev IsOneAt : ℕ → Value → Type 0
IsOneAt d w = is_literal_at w d ≡ true → IsOne (value_text w)

others_run : (d : ℕ) → ((w : Value) → IsOneAt d w) → (ws : List Value) → list_all (λ w. is_literal_at w d) ws ≡ true → run Plain (others_text ws) ≡ Some Plain
others_run d each [] h = refl
others_run d each (w ∷ ws) h =
    let parts = both (is_literal_at w d) (list_all (λ x. is_literal_at x d) ws) h in
    runs_on Plain Plain (value_text w) (others_text ws) (each w parts.0).runs ∙ others_run d each ws parts.1

items_run : (d : ℕ) → ((w : Value) → IsOneAt d w) → (ws : List Value) → list_all (λ w. is_literal_at w d) ws ≡ true → run Plain (items_text ws) ≡ Some Plain
items_run d each [] h = refl
items_run d each (w ∷ ws) h =
    let parts = both (is_literal_at w d) (list_all (λ x. is_literal_at x d) ws) h in
    runs_on Plain Plain (value_text w) (others_text ws) (each w parts.0).runs ∙ others_run d each ws parts.1

array_one : (d : ℕ) → ((w : Value) → IsOneAt d w) → (ws : List Value) → IsOneAt (suc d) (v.Array ws)
array_one d each ws h =
    subst IsOne (sym (text_array ws)) (record {
      runs = runs_on Plain Plain (items_text ws) (93 ∷ []) (items_run d each ws (sym (literal_array ws d) ∙ h));
    })

layer_one : (d : ℕ) → ((ws : List Value) → IsOneAt d (v.Array ws)) → (l : Value-F Value) → IsOneAt d (roll-Value l)
layer_one d arrays Value-F.Null = subst (IsOneAt d) (sym v.rolls-Null) (λ h. subst IsOne (sym text_null) (plain_is_one _ refl))
layer_one d arrays (Value-F.Int n) =
    subst (IsOneAt d) (sym (v.rolls-Int n)) (λ h. subst IsOne (sym (text_int n)) (plain_is_one (signed_decimal n) (int_plain n (sym (literal_int n d) ∙ h))))
layer_one d arrays (Value-F.Bool true) = subst (IsOneAt d) (sym (v.rolls-Bool true)) (λ h. subst IsOne (sym (text_bool true)) (plain_is_one _ refl))
layer_one d arrays (Value-F.Bool false) = subst (IsOneAt d) (sym (v.rolls-Bool false)) (λ h. subst IsOne (sym (text_bool false)) (plain_is_one _ refl))
layer_one d arrays (Value-F.Str t) = subst (IsOneAt d) (sym (v.rolls-Str t)) (λ h. subst IsOne (sym (text_str t)) (quoted_one t))
layer_one d arrays (Value-F.Array ws) = subst (IsOneAt d) (sym (v.rolls-Array ws)) (arrays ws)
layer_one d arrays (Value-F.Ref n) =
    subst (IsOneAt d) (sym (v.rolls-Ref n)) (λ h.
    let parts = both (name_in_range n) (name_is_spelled n) (sym (literal_ref n d) ∙ h) in
    subst IsOne (sym (text_ref n)) (plain_is_one (64 ∷ name_text n) (name_plain n parts.0 parts.1)))

each_one : (d : ℕ) → ((ws : List Value) → IsOneAt d (v.Array ws)) → (w : Value) → IsOneAt d w
each_one d arrays w = subst (IsOneAt d) (roll-out-Value w) (layer_one d arrays (out-Value w))

value_one_at : (d : ℕ) (w : Value) → IsOneAt d w
value_one_at zero w = each_one 0 (λ ws h. let none : is_literal_at (v.Array ws) 0 ≡ false = literal_flat ws in absurd cc) w
value_one_at (suc d) w = each_one (suc d) (array_one d (value_one_at d)) w

pub value_one : (w : Value) → is_literal w ≡ true → IsOne (value_text w)
value_one w h = value_one_at 64 w h
