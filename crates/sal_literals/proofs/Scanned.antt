-- Texts in quotes are read as they are printed.
use Rattle.std.proofs.Common.{◌≡◌, ◌⊎◌, inl, inr, ℕ, ◌+◌, ◌*◌, ◌/◌, ◌%◌, ◌-◌, ◌<◌, ◌≤◌, ◌==◌, Bool, true, false, ◌&&◌, ◌||◌, not, Option, Some, None, List, [], ◌∷◌, ◌++◌, refl, sym, ap, subst, ◌∙◌, append_assoc, arith}
use Rattle.std.specs.Prelude.{if◌then◌else◌, nat_le}
use Rattle.std.specs.Char.{digit_char}
use Rattle.std.specs.List.{flat_map}
use Rattle.std.specs.Str.{is_utf8}
use Rattle.std.proofs.lemmas.Bool.{eqb-true}
use Rattle.std.proofs.lemmas.Bool.Decides.{nat_tests}
use Rattle.sal_literals.specs.declared.quoted.Position.{Position}
use Rattle.sal_literals.specs.declared.quoted.Position.TheVariants.{Plain, Slash, Hex, Low}
use Rattle.sal_literals.specs.declared.quoted.Scan.{Scan}
use Rattle.sal_literals.specs.declared.quoted.Scan.TheVariants.{Moves, Gives, Ends, Fails}
use Rattle.sal_literals.specs.Texts.{is_control, escape}
use Rattle.sal_literals.specs.code.Scanning.{Reading, ◌>>=◌, hex_value, is_in_hex, after_high, after_low, scan_step, after_text, scan_on, scan_at, quoted_at}
use Rattle.sal_literals.proofs.Quotes.{escape_plain}

-- ---- hexadecimal digits

digit_again : (d : ℕ) → d < 16 → hex_value (digit_char d) ≡ Some d
digit_again d h = grind (arith, nat_tests)

digit_low : (b d : ℕ) → 48 ≤ b → b ≤ 57 → b - 48 ≡ d → (b ≡ digit_char d) × (d < 16)
digit_low b d low high e = (grind (arith, nat_tests), omega arith)

digit_high : (b d : ℕ) → 97 ≤ b → b ≤ 102 → b - 87 ≡ d → (b ≡ digit_char d) × (d < 16)
digit_high b d low high e = (grind (arith, nat_tests), omega arith)

between : (low b high : ℕ) → nat_le low b && nat_le b high ≡ true → (low ≤ b) × (b ≤ high)
between low b high e = (grind (arith, nat_tests), grind (arith, nat_tests))

some_same : {A : Type 0} (x y : A) → Some x ≡ Some y → x ≡ y
some_same x y e = cc

digit_by : (b d : ℕ) (t u : Bool) → nat_le 48 b && nat_le b 57 ≡ t → nat_le 97 b && nat_le b 102 ≡ u
    → (if t then Some (b - 48) else if u then Some (b - 87) else None) ≡ Some d → (b ≡ digit_char d) × (d < 16)
digit_by b d true u te ue e = let range = between 48 b 57 te in digit_low b d range.0 range.1 (some_same (b - 48) d e)
digit_by b d false true te ue e = let range = between 97 b 102 ue in digit_high b d range.0 range.1 (some_same (b - 87) d e)
digit_by b d false false te ue e = absurd cc

digit_is : (b d : ℕ) → hex_value b ≡ Some d → (b ≡ digit_char d) × (d < 16)
digit_is b d e = digit_by b d (nat_le 48 b && nat_le b 57) (nat_le 97 b && nat_le b 102) refl refl e

-- ---- how bytes are escaped

escape_sign : (b : ℕ) → (b == 34 || b == 92) ≡ true → escape b ≡ 92 ∷ b ∷ []
unfolding escape
escape_sign b e =
    ap (λ t. if t then 92 ∷ b ∷ [] else if b == 10 then 92 ∷ 110 ∷ [] else if b == 13 then 92 ∷ 114 ∷ [] else if b == 9 then 92 ∷ 116 ∷ []
    else if is_control b then 92 ∷ 120 ∷ digit_char (b / 16) ∷ digit_char (b % 16) ∷ [] else b ∷ []) e

escape_letter : (b c : ℕ) → (b ≡ 10) × (c ≡ 110) ⊎ ((b ≡ 13) × (c ≡ 114) ⊎ ((b ≡ 9) × (c ≡ 116))) → escape b ≡ 92 ∷ c ∷ []
unfolding escape
escape_letter b c (inl (e, f)) = rw (e, f) refl
escape_letter b c (inr (inl (e, f))) = rw (e, f) refl
escape_letter b c (inr (inr (e, f))) = rw (e, f) refl

hex_chosen : (t u v w x : Bool) (b : ℕ) (hex : List ℕ) → t ≡ false → u ≡ false → v ≡ false → w ≡ false → x ≡ true
    → (if t then 92 ∷ b ∷ [] else if u then 92 ∷ 110 ∷ [] else if v then 92 ∷ 114 ∷ [] else if w then 92 ∷ 116 ∷ [] else if x then hex else b ∷ []) ≡ hex
hex_chosen t u v w x b hex et eu ev ew ex = rw (et, eu, ev, ew, ex) refl

pub record InHex (b : ℕ) : Type 0 where
  pub control : is_control b ≡ true
  pub sign : (b == 34 || b == 92) ≡ false
  pub feed : (b == 10) ≡ false
  pub return' : (b == 13) ≡ false
  pub tab : (b == 9) ≡ false
  pub small : b < 256

in_hex_parts : (c t u w : Bool) → c && not (t || u || w) ≡ true → (c ≡ true) × (t ≡ false) × (u ≡ false) × (w ≡ false)
in_hex_parts true false false false e = (refl, refl, refl, refl)
in_hex_parts true true u w e = absurd cc
in_hex_parts true false true w e = absurd cc
in_hex_parts true false false true e = absurd cc
in_hex_parts false t u w e = absurd cc

in_hex : (b : ℕ) → is_in_hex b ≡ true → InHex b
in_hex b e =
    let parts = in_hex_parts (is_control b) (b == 9) (b == 10) (b == 13) e in
    let control : is_control b ≡ true = parts.0 in
    record { control = control; sign = grind (arith, nat_tests); feed = parts.2; return' = parts.3; tab = parts.1; small = grind (arith, nat_tests) }

escape_hex : (b : ℕ) → is_in_hex b ≡ true → escape b ≡ 92 ∷ 120 ∷ digit_char (b / 16) ∷ digit_char (b % 16) ∷ []
unfolding escape
escape_hex b e =
    let h = in_hex b e in
    hex_chosen (b == 34 || b == 92) (b == 10) (b == 13) (b == 9) (is_control b) b (92 ∷ 120 ∷ digit_char (b / 16) ∷ digit_char (b % 16) ∷ []) h.sign h.feed h.return' h.tab h.control

-- ---- what is printed is read

hex_again : (b : ℕ) (rest : List ℕ) → is_in_hex b ≡ true → scan_at Plain (92 ∷ 120 ∷ digit_char (b / 16) ∷ digit_char (b % 16) ∷ rest) ≡ after_text (b ∷ []) (scan_at Plain rest)
unfolding scan_step
hex_again b rest is =
    let small : b < 256 = (in_hex b is).small in
    let whole : 16 * (b / 16) + b % 16 ≡ b = omega arith in
    let low : List ℕ = digit_char (b % 16) ∷ rest in
    ap (λ (o : Option ℕ). scan_on (λ to. scan_at to low) low (after_high o)) (digit_again (b / 16) (omega arith))
    ∙ ap (λ (o : Option ℕ). scan_on (λ to. scan_at to rest) rest (after_low (b / 16) o)) (digit_again (b % 16) (omega arith))
    ∙ ap (λ k. scan_on (λ to. scan_at to rest) rest (if is_in_hex k then Gives k else Fails)) whole
    ∙ ap (λ t. scan_on (λ to. scan_at to rest) rest (if t then Gives b else Fails)) is

plain_step : (t u w : Bool) (b : ℕ) → t ≡ false → u ≡ false → w ≡ false → (if t then Ends else if u then Moves Slash else if w then Fails else Gives b) ≡ Gives b
plain_step t u w b et eu ew = rw (et, eu, ew) refl

plain_again : (b : ℕ) (rest : List ℕ) → (b == 34) ≡ false → (b == 92) ≡ false → is_control b ≡ false → scan_at Plain (b ∷ rest) ≡ after_text (b ∷ []) (scan_at Plain rest)
unfolding scan_step
plain_again b rest quote slash control =
    ap (λ (s : Scan). scan_on (λ to. scan_at to rest) rest s) (plain_step (b == 34) (b == 92) (is_control b) b quote slash control)

quote_again : (rest : List ℕ) → scan_at Plain (92 ∷ 34 ∷ rest) ≡ after_text (34 ∷ []) (scan_at Plain rest)
unfolding scan_step
quote_again rest = refl

slash_again : (rest : List ℕ) → scan_at Plain (92 ∷ 92 ∷ rest) ≡ after_text (92 ∷ []) (scan_at Plain rest)
unfolding scan_step
slash_again rest = refl

feed_again : (rest : List ℕ) → scan_at Plain (92 ∷ 110 ∷ rest) ≡ after_text (10 ∷ []) (scan_at Plain rest)
unfolding scan_step
feed_again rest = refl

return_again : (rest : List ℕ) → scan_at Plain (92 ∷ 114 ∷ rest) ≡ after_text (13 ∷ []) (scan_at Plain rest)
unfolding scan_step
return_again rest = refl

tab_again : (rest : List ℕ) → scan_at Plain (92 ∷ 116 ∷ rest) ≡ after_text (9 ∷ []) (scan_at Plain rest)
unfolding scan_step
tab_again rest = refl

-- what a byte is to give when it is read again
abbrev IsReadAgain : ℕ → List ℕ → List ℕ → Type 0
IsReadAgain b text rest = scan_at Plain (text ++ rest) ≡ after_text (b ∷ []) (scan_at Plain rest)

given : (b k : ℕ) (text rest : List ℕ) → (b == k) ≡ true → IsReadAgain k text rest → IsReadAgain b text rest
given b k text rest e h = subst (λ z. IsReadAgain z text rest) (sym (eqb-true b k e)) h

byte_by : (b : ℕ) (rest : List ℕ) (q s f r t c : Bool) → (b == 34) ≡ q → (b == 92) ≡ s → (b == 10) ≡ f → (b == 13) ≡ r → (b == 9) ≡ t → is_control b ≡ c
    → IsReadAgain b (if q || s then 92 ∷ b ∷ [] else if f then 92 ∷ 110 ∷ [] else if r then 92 ∷ 114 ∷ [] else if t then 92 ∷ 116 ∷ [] else if c then 92 ∷ 120 ∷ digit_char (b / 16) ∷ digit_char (b % 16) ∷ [] else b ∷ []) rest
byte_by b rest true s f r t c qe se fe re te ce = subst (λ z. IsReadAgain z (92 ∷ z ∷ []) rest) (sym (eqb-true b 34 qe)) (quote_again rest)
byte_by b rest false true f r t c qe se fe re te ce = subst (λ z. IsReadAgain z (92 ∷ z ∷ []) rest) (sym (eqb-true b 92 se)) (slash_again rest)
byte_by b rest false false true r t c qe se fe re te ce = given b 10 (92 ∷ 110 ∷ []) rest fe (feed_again rest)
byte_by b rest false false false true t c qe se fe re te ce = given b 13 (92 ∷ 114 ∷ []) rest re (return_again rest)
byte_by b rest false false false false true c qe se fe re te ce = given b 9 (92 ∷ 116 ∷ []) rest te (tab_again rest)
byte_by b rest false false false false false true qe se fe re te ce = hex_again b rest (rw (ce, te, fe, re) refl)
byte_by b rest false false false false false false qe se fe re te ce = plain_again b rest qe se ce

byte_again : (b : ℕ) (rest : List ℕ) → IsReadAgain b (escape b) rest
unfolding escape
byte_again b rest = byte_by b rest (b == 34) (b == 92) (b == 10) (b == 13) (b == 9) (is_control b) refl refl refl refl refl refl

text_again : (text rest : List ℕ) → scan_at Plain (flat_map escape text ++ 34 ∷ rest) ≡ Some (text, rest)
unfolding scan_step
text_again [] rest = refl
text_again (b ∷ text) rest =
    ap (scan_at Plain) (append_assoc (escape b) (flat_map escape text) (34 ∷ rest))
    ∙ byte_again b (flat_map escape text ++ 34 ∷ rest) ∙ ap (after_text (b ∷ [])) (text_again text rest)

pub quoted_again : (text rest : List ℕ) → is_utf8 text ≡ true → quoted_at (flat_map escape text ++ 34 ∷ rest) ≡ Some (text, rest)
unfolding quoted_at
quoted_again text rest good =
    ap (λ (read : Reading (List ℕ)). read >>= λ t. if is_utf8 t.0 then Some t else None) (text_again text rest) ∙ ap (λ b. if b then Some (text, rest) else None) good

-- ---- what is read was printed

-- with what was read of an escape
abbrev behind : Position → List ℕ → List ℕ
behind Plain bytes = bytes
behind Slash bytes = 92 ∷ bytes
behind Hex bytes = 92 ∷ 120 ∷ bytes
behind (Low high) bytes = 92 ∷ 120 ∷ digit_char high ∷ bytes

-- what a step means
abbrev Did : Scan → Position → ℕ → List ℕ → Type 0
Did (Moves to) at b bytes = behind at (b ∷ bytes) ≡ behind to bytes
Did (Gives c) at b bytes = behind at (b ∷ bytes) ≡ escape c ++ bytes
Did Ends at b bytes = behind at (b ∷ bytes) ≡ 34 ∷ bytes
Did Fails at b bytes = Unit {0}

plain_did : (b : ℕ) (bytes : List ℕ) (q s c : Bool) → (b == 34) ≡ q → (b == 92) ≡ s → is_control b ≡ c
    → Did (if q then Ends else if s then Moves Slash else if c then Fails else Gives b) Plain b bytes
plain_did b bytes true s c qe se ce = ap (λ z. z ∷ bytes) (eqb-true b 34 qe)
plain_did b bytes false true c qe se ce = ap (λ z. z ∷ bytes) (eqb-true b 92 se)
plain_did b bytes false false true qe se ce = tt
plain_did b bytes false false false qe se ce = sym (ap (λ (z : List ℕ). z ++ bytes) (escape_plain b (rw (qe, se) refl) ce))

letter_did : (b c : ℕ) (letter : ℕ) (bytes : List ℕ) → (b == letter) ≡ true → escape c ≡ 92 ∷ letter ∷ [] → 92 ∷ b ∷ bytes ≡ escape c ++ bytes
letter_did b c letter bytes e is = ap (λ z. 92 ∷ z ∷ bytes) (eqb-true b letter e) ∙ sym (ap (λ (z : List ℕ). z ++ bytes) is)

slash_did : (b : ℕ) (bytes : List ℕ) (x qs n r t : Bool) → (b == 120) ≡ x → (b == 34 || b == 92) ≡ qs → (b == 110) ≡ n → (b == 114) ≡ r → (b == 116) ≡ t
    → Did (if x then Moves Hex else if qs then Gives b else if n then Gives 10 else if r then Gives 13 else if t then Gives 9 else Fails) Slash b bytes
slash_did b bytes true qs n r t xe qe ne re te = ap (λ z. 92 ∷ z ∷ bytes) (eqb-true b 120 xe)
slash_did b bytes false true n r t xe qe ne re te = sym (ap (λ (z : List ℕ). z ++ bytes) (escape_sign b qe))
slash_did b bytes false false true r t xe qe ne re te = letter_did b 10 110 bytes ne (escape_letter 10 110 (inl (refl, refl)))
slash_did b bytes false false false true t xe qe ne re te = letter_did b 13 114 bytes re (escape_letter 13 114 (inr (inl (refl, refl))))
slash_did b bytes false false false false true xe qe ne re te = letter_did b 9 116 bytes te (escape_letter 9 116 (inr (inr (refl, refl))))
slash_did b bytes false false false false false xe qe ne re te = tt

hex_did : (b : ℕ) (bytes : List ℕ) (o : Option ℕ) → hex_value b ≡ o → Did (after_high o) Hex b bytes
hex_did b bytes None e = tt
hex_did b bytes (Some high) e = ap (λ z. 92 ∷ 120 ∷ z ∷ bytes) (digit_is b high e).0

low_by : (high b low : ℕ) (bytes : List ℕ) (t : Bool) → is_in_hex (16 * high + low) ≡ t → b ≡ digit_char low → low < 16
    → Did (if t then Gives (16 * high + low) else Fails) (Low high) b bytes
low_by high b low bytes true te is lt =
    let up : (16 * high + low) / 16 ≡ high = omega arith in
    let down : (16 * high + low) % 16 ≡ low = omega arith in
    ap (λ z. 92 ∷ 120 ∷ digit_char high ∷ z ∷ bytes) is
    ∙ sym (ap (λ (z : List ℕ). z ++ bytes) (escape_hex (16 * high + low) te) ∙ ap (λ z. 92 ∷ 120 ∷ digit_char z ∷ digit_char ((16 * high + low) % 16) ∷ bytes) up
    ∙ ap (λ z. 92 ∷ 120 ∷ digit_char high ∷ digit_char z ∷ bytes) down)
low_by high b low bytes false te is lt = tt

low_did : (high b : ℕ) (bytes : List ℕ) (o : Option ℕ) → hex_value b ≡ o → Did (after_low high o) (Low high) b bytes
low_did high b bytes None e = tt
low_did high b bytes (Some low) e =
    let digit = digit_is b low e in
    low_by high b low bytes (is_in_hex (16 * high + low)) refl digit.0 digit.1

did : (at : Position) (b : ℕ) (bytes : List ℕ) → Did (scan_step at b) at b bytes
unfolding scan_step
did Plain b bytes = plain_did b bytes (b == 34) (b == 92) (is_control b) refl refl refl
did Slash b bytes = slash_did b bytes (b == 120) (b == 34 || b == 92) (b == 110) (b == 114) (b == 116) refl refl refl refl refl
did Hex b bytes = hex_did b bytes (hex_value b) refl
did (Low high) b bytes = low_did high b bytes (hex_value b) refl

-- what was read before these bytes is the text in quotes
abbrev IsScanned : Position → List ℕ → List ℕ × List ℕ → Type 0
IsScanned at bytes x = behind at bytes ≡ flat_map escape x.0 ++ 34 ∷ x.1

gives_scanned : (b : ℕ) (read : Reading (List ℕ)) (all bytes : List ℕ) (x : List ℕ × List ℕ) → all ≡ escape b ++ bytes
    → ((y : List ℕ × List ℕ) → read ≡ Some y → IsScanned Plain bytes y) → after_text (b ∷ []) read ≡ Some x → all ≡ flat_map escape x.0 ++ 34 ∷ x.1
gives_scanned b None all bytes x is h e = absurd cc
gives_scanned b (Some y) all bytes x is h e =
    let made : List ℕ × List ℕ = (b ∷ y.0, y.1) in
    let same : made ≡ x = some_same made x e in
    subst (λ (z : List ℕ × List ℕ). all ≡ flat_map escape z.0 ++ 34 ∷ z.1) same
    (is ∙ ap (λ (z : List ℕ). escape b ++ z) (h y refl) ∙ sym (append_assoc (escape b) (flat_map escape y.0) (34 ∷ y.1)))

step_scanned : (at : Position) (b : ℕ) (bytes : List ℕ) (x : List ℕ × List ℕ) (s : Scan) → Did s at b bytes
    → ((to : Position) (y : List ℕ × List ℕ) → scan_at to bytes ≡ Some y → IsScanned to bytes y) → scan_on (λ to. scan_at to bytes) bytes s ≡ Some x → IsScanned at (b ∷ bytes) x
step_scanned at b bytes x (Moves to) d h e = d ∙ h to x e
step_scanned at b bytes x (Gives c) d h e = gives_scanned c (scan_at Plain bytes) (behind at (b ∷ bytes)) bytes x d (λ y f. h Plain y f) e
step_scanned at b bytes x Ends d h e =
    let made : List ℕ × List ℕ = ([], bytes) in
    let same : made ≡ x = some_same made x e in
    subst (λ (z : List ℕ × List ℕ). behind at (b ∷ bytes) ≡ flat_map escape z.0 ++ 34 ∷ z.1) same d
step_scanned at b bytes x Fails d h e = absurd cc

text_found : (bytes : List ℕ) (at : Position) (x : List ℕ × List ℕ) → scan_at at bytes ≡ Some x → IsScanned at bytes x
text_found [] at x e = absurd cc
text_found (b ∷ bytes) at x e = step_scanned at b bytes x (scan_step at b) (did at b bytes) (λ to y f. text_found bytes to y f) e

whole_found : (bytes : List ℕ) (read : Reading (List ℕ)) (x : List ℕ × List ℕ) → ((y : List ℕ × List ℕ) → read ≡ Some y → IsScanned Plain bytes y)
    → (read >>= λ t. if is_utf8 t.0 then Some t else None) ≡ Some x → IsScanned Plain bytes x × (is_utf8 x.0 ≡ true)
whole_found bytes None x h e = absurd cc
whole_found bytes (Some y) x h e = by (is_utf8 y.0) refl e
  where
    by : (t : Bool) → is_utf8 y.0 ≡ t → (if t then Some y else None) ≡ Some x → IsScanned Plain bytes x × (is_utf8 x.0 ≡ true)
    by true te f = let same : y ≡ x = some_same y x f in subst (λ (z : List ℕ × List ℕ). IsScanned Plain bytes z × (is_utf8 z.0 ≡ true)) same (h y refl, te)
    by false te f = absurd cc

pub quoted_found : (bytes : List ℕ) (x : List ℕ × List ℕ) → quoted_at bytes ≡ Some x → (bytes ≡ flat_map escape x.0 ++ 34 ∷ x.1) × (is_utf8 x.0 ≡ true)
unfolding quoted_at
quoted_found bytes x e = whole_found bytes (scan_at Plain bytes) x (λ y f. text_found bytes Plain y f) e
