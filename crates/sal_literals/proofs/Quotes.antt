-- Texts in quotes are texts.
use Rattle.std.proofs.Common.{◌≡◌, ℕ, ◌+◌, ◌/◌, ◌%◌, ◌<◌, ◌≤◌, Bool, true, false, cond, ltb, List, [], ◌∷◌, ◌++◌, refl, sym, ap, subst, ◌∙◌, append-nil, append_assoc, arith}
use Rattle.std.specs.Prelude.{if◌then◌else◌, ◌==◌, ◌||◌}
use Rattle.std.specs.Char.{digit_char}
use Rattle.std.specs.List.{flat_map}
use Rattle.std.specs.Str.{IsUtf8, IsAscii}
use Rattle.std.proofs.lemmas.Bool.Decides.{nat_tests}
use Rattle.std.proofs.lemmas.Str.{IsUtf8-append, IsUtf8-nil, IsUtf8-from_ascii, IsUtf8-encode, encode_ascii}
use Rattle.std.proofs.lemmas.Str.Ascii.{IsAscii-nil, IsAscii-cons}
use lib.Utf8.{scalar, scalars, encode, encodes, next}
use Rattle.sal_value.proofs.Bytes.{both}
use Rattle.sal_literals.specs.Texts.{is_control, escape}

-- ---- bytes of characters

-- what an ASCII character is escaped by is ASCII
chosen : (t u v w x : Bool) (b p q : ℕ) → b < 128 → p < 128 → q < 128
    → IsAscii (if t then 92 ∷ b ∷ [] else if u then 92 ∷ 110 ∷ [] else if v then 92 ∷ 114 ∷ [] else if w then 92 ∷ 116 ∷ [] else if x then 92 ∷ 120 ∷ p ∷ q ∷ [] else b ∷ [])
chosen true u v w x b p q lb lp lq = IsAscii-cons 92 (b ∷ []) (omega arith) (IsAscii-cons b [] lb IsAscii-nil)
chosen false true v w x b p q lb lp lq = IsAscii-cons 92 (110 ∷ []) (omega arith) (IsAscii-cons 110 [] (omega arith) IsAscii-nil)
chosen false false true w x b p q lb lp lq = IsAscii-cons 92 (114 ∷ []) (omega arith) (IsAscii-cons 114 [] (omega arith) IsAscii-nil)
chosen false false false true x b p q lb lp lq = IsAscii-cons 92 (116 ∷ []) (omega arith) (IsAscii-cons 116 [] (omega arith) IsAscii-nil)
chosen false false false false true b p q lb lp lq =
    IsAscii-cons 92 (120 ∷ p ∷ q ∷ []) (omega arith) (IsAscii-cons 120 (p ∷ q ∷ []) (omega arith) (IsAscii-cons p (q ∷ []) lp (IsAscii-cons q [] lq IsAscii-nil)))
chosen false false false false false b p q lb lp lq = IsAscii-cons b [] lb IsAscii-nil

digit_small : (d : ℕ) → d < 16 → digit_char d < 128
digit_small d h = grind (arith, nat_tests)

escape_ascii : (b : ℕ) → b < 128 → IsAscii (escape b)
unfolding escape
escape_ascii b lt =
    chosen (b == 34 || b == 92) (b == 10) (b == 13) (b == 9) (is_control b) b (digit_char (b / 16)) (digit_char (b % 16)) lt (digit_small (b / 16) (omega arith)) (digit_small (b % 16) (omega arith))

plain_is : (t u v w x : Bool) (b : ℕ) (hex : List ℕ) → t ≡ false → u ≡ false → v ≡ false → w ≡ false → x ≡ false
    → (if t then 92 ∷ b ∷ [] else if u then 92 ∷ 110 ∷ [] else if v then 92 ∷ 114 ∷ [] else if w then 92 ∷ 116 ∷ [] else if x then hex else b ∷ []) ≡ b ∷ []
plain_is t u v w x b hex et eu ev ew ex = rw (et, eu, ev, ew, ex) refl

-- a byte that needs no escape
pub escape_plain : (b : ℕ) → (b == 34 || b == 92) ≡ false → is_control b ≡ false → escape b ≡ b ∷ []
unfolding escape
escape_plain b signs control =
    plain_is (b == 34 || b == 92) (b == 10) (b == 13) (b == 9) (is_control b) b (92 ∷ 120 ∷ digit_char (b / 16) ∷ digit_char (b % 16) ∷ [])
    signs (grind (arith, nat_tests)) (grind (arith, nat_tests)) (grind (arith, nat_tests)) control

escape_high : (b : ℕ) → 128 ≤ b → escape b ≡ b ∷ []
escape_high b h = escape_plain b (grind (arith, nat_tests)) (grind (arith, nat_tests))

high_more : (b : ℕ) (bs : List ℕ) → 128 ≤ b → flat_map escape bs ≡ bs → flat_map escape (b ∷ bs) ≡ b ∷ bs
high_more b bs h e = ap (λ (z : List ℕ). z ++ flat_map escape bs) (escape_high b h) ∙ ap (λ (z : List ℕ). b ∷ z) e

-- the bytes of a character that isn't ASCII stand as they are
wide : (t u : Bool) (c : ℕ)
    → let bytes : List ℕ = cond t ((192 + c / 64) ∷ next c ∷ []) (cond u ((224 + c / 4096) ∷ next (c / 64) ∷ next c ∷ []) ((240 + c / 262144) ∷ next (c / 4096) ∷ next (c / 64) ∷ next c ∷ [])) in
    flat_map escape bytes ≡ bytes
wide true u c = high_more (192 + c / 64) (next c ∷ []) (omega arith) (high_more (next c) [] (omega arith) refl)
wide false true c =
    high_more (224 + c / 4096) (next (c / 64) ∷ next c ∷ []) (omega arith) (high_more (next (c / 64)) (next c ∷ []) (omega arith) (high_more (next c) [] (omega arith) refl))
wide false false c =
    high_more (240 + c / 262144) (next (c / 4096) ∷ next (c / 64) ∷ next c ∷ []) (omega arith)
    (high_more (next (c / 4096)) (next (c / 64) ∷ next c ∷ []) (omega arith) (high_more (next (c / 64)) (next c ∷ []) (omega arith) (high_more (next c) [] (omega arith) refl)))

char_wide : (c : ℕ) → ltb c 128 ≡ false → flat_map escape (encode c) ≡ encode c
unfolding encode
char_wide c e =
    let bytes : List ℕ = cond (ltb c 2048) ((192 + c / 64) ∷ next c ∷ []) (cond (ltb c 65536) ((224 + c / 4096) ∷ next (c / 64) ∷ next c ∷ []) ((240 + c / 262144) ∷ next (c / 4096) ∷ next (c / 64) ∷ next c ∷ [])) in
    ap (λ t. flat_map escape (cond t (c ∷ []) bytes)) e ∙ wide (ltb c 2048) (ltb c 65536) c ∙ sym (ap (λ t. cond t (c ∷ []) bytes) e)

char_by : (c : ℕ) (t : Bool) → ltb c 128 ≡ t → scalar c ≡ true → IsUtf8 (flat_map escape (encode c))
char_by c true e good =
    let lt : c < 128 = grind (arith, nat_tests) in
    let is : flat_map escape (encode c) ≡ escape c = ap (flat_map escape) (encode_ascii c lt) ∙ append-nil (escape c) in
    subst IsUtf8 (sym is) (IsUtf8-from_ascii (escape c) (escape_ascii c lt))
char_by c false e good = subst IsUtf8 (sym (char_wide c e)) (IsUtf8-encode c good)

-- ---- texts

pub flat_append : {A : Type 0} (f : A → List ℕ) (xs ys : List A) → flat_map f (xs ++ ys) ≡ flat_map f xs ++ flat_map f ys
flat_append f [] ys = refl
flat_append f (x ∷ xs) ys = ap (λ (z : List ℕ). f x ++ z) (flat_append f xs ys) ∙ sym (append_assoc (f x) (flat_map f xs) (flat_map f ys))

chars_escaped : (cs : List ℕ) → scalars cs ≡ true → IsUtf8 (flat_map escape (encodes cs))
chars_escaped [] good = IsUtf8-nil
chars_escaped (c ∷ cs) good =
    let parts = both (scalar c) (scalars cs) good in
    subst IsUtf8 (sym (flat_append escape (encode c) (encodes cs)))
    (IsUtf8-append (flat_map escape (encode c)) (flat_map escape (encodes cs)) (char_by c (ltb c 128) refl parts.0) (chars_escaped cs parts.1))

-- what stands in quotes is a text
pub escapes_are_text : (text : List ℕ) → IsUtf8 text → IsUtf8 (flat_map escape text)
escapes_are_text text (cs, (good, is)) = subst (λ (z : List ℕ). IsUtf8 (flat_map escape z)) is (chars_escaped cs good)
