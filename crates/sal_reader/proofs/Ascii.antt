-- The bytes of a token of a UTF-8 text are UTF-8.
use Rattle.std.proofs.Common.{◌≡◌, ℕ, zero, suc, ◌+◌, ◌-◌, ◌<◌, ◌≤◌, Bool, true, false, not, ◌&&◌, ◌||◌, cond, nat_eq, nat_le, List, [], ◌∷◌, length, take, drop, get_or, refl, sym, ◌∙◌, ap, subst, arith, length-drop, length-take}
use Rattle.std.specs.Prelude.{slice_range, nat_lt, All}
use Rattle.std.specs.List.{list_all}
use Rattle.std.specs.Str.{IsUtf8, IsAscii, IsCharBoundary, is_utf8}
use Rattle.std.proofs.lemmas.Bool.{and_parts, eqb-true}
use Rattle.std.proofs.lemmas.Bool.Decides.{nat_tests}
use Rattle.std.proofs.lemmas.List.{get_or-drop, get_or-take}
use Rattle.std.proofs.lemmas.Str.{IsUtf8-from_ascii, IsUtf8-between, IsCharBoundary-before_ascii, IsCharBoundary-after_ascii, is_utf8-from_IsUtf8}
use Rattle.std.proofs.lemmas.List.Elements.{All-nil, All-cons}
use Rattle.std.proofs.lemmas.Str.Ascii.{IsAscii-from_all}
use Rattle.sal_ast.specs.declared.lexeme.Kind.{Kind}
use Rattle.sal_ast.specs.declared.lexeme.Kind.TheVariants as kind
use Rattle.sal_ast.specs.Lexemes.{is_digit, is_letter, is_name_byte, is_name, is_word, is_sign, reserved_words, signs}
use Rattle.sal_text.specs.declared.token.Token.{Token}
use Rattle.sal_text.specs.Standing.{StandsIn}
use Rattle.sal_text.specs.Tokens.{has_form, is_digits, is_string, is_string_rest, is_in_line, is_empty}
use Rattle.sal_text.proofs.Forms.{among, word_name, identifier_parts}

abbrev is_small : ℕ → Bool
is_small c = nat_lt c 128

small_at : (c : ℕ) → is_small c ≡ true → c < 128
small_at c h = grind (arith, nat_tests)

-- bytes that pass a test of ASCII bytes are ASCII
all_small : (is : ℕ → Bool) → ((c : ℕ) → is c ≡ true → c < 128) → (bytes : List ℕ) → list_all is bytes ≡ true → All (λ b. b < 128) bytes
all_small is f [] h = All-nil (λ b. b < 128)
all_small is f (c ∷ cs) h =
    let p = and_parts (is c) (list_all is cs) h in
    All-cons (λ b. b < 128) c cs (f c p.0) (all_small is f cs p.1)

utf8_all : (is : ℕ → Bool) → ((c : ℕ) → is c ≡ true → c < 128) → (bytes : List ℕ) → list_all is bytes ≡ true → IsUtf8 bytes
utf8_all is f bytes h = IsUtf8-from_ascii bytes (IsAscii-from_all bytes (all_small is f bytes h))

name_byte_small : (c : ℕ) → is_name_byte c ≡ true → c < 128
name_byte_small c h = grind (arith, nat_tests)

letter_small : (c : ℕ) → is_letter c ≡ true → c < 128
letter_small c h = grind (arith, nat_tests)

digit_small : (c : ℕ) → is_digit c ≡ true → c < 128
digit_small c h = grind (arith, nat_tests)

utf8_name : (bytes : List ℕ) → is_name bytes ≡ true → IsUtf8 bytes
utf8_name [] h = absurd (cc)
utf8_name (c ∷ cs) h =
    let p = and_parts (is_letter c) (list_all is_name_byte cs) h in
    IsUtf8-from_ascii (c ∷ cs)
    (IsAscii-from_all (c ∷ cs) (All-cons (λ b. b < 128) c cs (letter_small c p.0) (all_small is_name_byte name_byte_small cs p.1)))

utf8_digits : (bytes : List ℕ) → is_digits bytes ≡ true → IsUtf8 bytes
utf8_digits [] h = absurd (cc)
utf8_digits (c ∷ cs) h = utf8_all is_digit digit_small (c ∷ cs) h

utf8_sign : (bytes : List ℕ) → is_sign bytes ≡ true → IsUtf8 bytes
unfolding is_sign
utf8_sign bytes h = utf8_all is_small small_at bytes (among (list_all is_small) bytes signs refl h)

-- ---- strings

record EndsInQuote (bytes : List ℕ) : Type 0 where
  some : 0 < length bytes
  last : get_or bytes (length bytes - 1) 0 ≡ 34

one_more : (c : ℕ) (cs : List ℕ) → EndsInQuote cs → EndsInQuote (c ∷ cs)
one_more c [] q = absurd (let lt : 0 < 0 = q.some in omega arith)
one_more c (d ∷ ds) q =
    let e : length (c ∷ d ∷ ds) - 1 ≡ suc (length (d ∷ ds) - 1) = omega arith in
    record { some = omega arith; last = ap (λ k. get_or (c ∷ d ∷ ds) k 0) e ∙ q.last }

quote_alone : (c : ℕ) (cs : List ℕ) → nat_eq c 34 ≡ true → is_empty cs ≡ true → EndsInQuote (c ∷ cs)
quote_alone c [] e h = record { some = omega arith; last = eqb-true c 34 e }
quote_alone c (d ∷ ds) e h = absurd (cc)

by_quote : (c : ℕ) (cs : List ℕ) (b : Bool) → nat_eq c 34 ≡ b
    → ((is_in_line c && is_string_rest (nat_eq c 92) cs) ≡ true → EndsInQuote cs)
    → cond b (is_empty cs) (is_in_line c && is_string_rest (nat_eq c 92) cs) ≡ true → EndsInQuote (c ∷ cs)
by_quote c cs true e f h = quote_alone c cs e h
by_quote c cs false e f h = one_more c cs (f h)

quoted : (escaped : Bool) (cs : List ℕ) → is_string_rest escaped cs ≡ true → EndsInQuote cs
unfolding is_string_rest
quoted true [] h = absurd (cc)
quoted false [] h = absurd (cc)
quoted true (c ∷ cs) h = one_more c cs (quoted false cs (and_parts (is_in_line c) (is_string_rest false cs) h).1)
quoted false (c ∷ cs) h =
    by_quote c cs (nat_eq c 34) refl
    (λ k. quoted (nat_eq c 92) cs (and_parts (is_in_line c) (is_string_rest (nat_eq c 92) cs) k).1) h

record IsQuoted (bytes : List ℕ) : Type 0 where
  ends : EndsInQuote bytes
  first : get_or bytes 0 0 ≡ 34

string_quoted : (bytes : List ℕ) → is_string bytes ≡ true → IsQuoted bytes
string_quoted [] h = absurd (cc)
string_quoted (c ∷ cs) h =
    let p = and_parts (nat_eq c 34) (is_string_rest false cs) h in
    record { ends = one_more c cs (quoted false cs p.1); first = eqb-true c 34 p.0 }

utf8_between : (text : List ℕ) (start end : ℕ) → IsUtf8 text → start ≤ end → end ≤ length text → IsQuoted (slice_range text start end) → IsUtf8 (slice_range text start end)
utf8_between text start end u o i q =
    let n : length (slice_range text start end) ≡ end - start = omega (arith, length-take (end - start) (drop start text), length-drop start text) in
    let some : 0 < end - start = subst (λ k. 0 < k) n q.ends.some in
    let k : get_or (slice_range text start end) (end - start - 1) 0 ≡ 34 = subst (λ k. get_or (slice_range text start end) (k - 1) 0 ≡ 34) n q.ends.last in
    let first : get_or text start 0 ≡ 34 =
    ap (λ k. get_or text k 0) (omega arith) ∙ sym (get_or-drop start text 0 0) ∙ sym (get_or-take (end - start) (drop start text) 0 0 some) ∙ q.first in
    let last : get_or text (end - 1) 0 ≡ 34 =
    ap (λ k. get_or text k 0) (omega arith) ∙ sym (get_or-drop start text (end - start - 1) 0)
    ∙ sym (get_or-take (end - start) (drop start text) (end - start - 1) 0 (omega arith)) ∙ k in
    let b : IsCharBoundary text start = IsCharBoundary-before_ascii text start (omega arith) (omega arith) in
    let e : IsCharBoundary text (end - 1 + 1) = IsCharBoundary-after_ascii text (end - 1) u (omega arith) (omega arith) in
    let g : end - 1 + 1 ≡ end = omega arith in
    IsUtf8-between text start end u o b (subst (IsCharBoundary text) g e)

utf8_form : (text : List ℕ) (start end : ℕ) (of : Kind) → IsUtf8 text → start ≤ end → end ≤ length text → has_form of (slice_range text start end) ≡ true → IsUtf8 (slice_range text start end)
utf8_form text start end kind.Word u o i h = utf8_name _ (word_name _ h)
utf8_form text start end kind.Id u o i h = utf8_name _ (identifier_parts _ h).0
utf8_form text start end kind.Number u o i h = utf8_digits _ h
utf8_form text start end kind.Str u o i h = utf8_between text start end u o i (string_quoted _ h)
utf8_form text start end kind.Sign u o i h = utf8_sign _ h

pub token_utf8 : (text : List ℕ) (token : Token) → IsUtf8 text → StandsIn text token → is_utf8 (slice_range text token.start token.end) ≡ true
token_utf8 text token u s = is_utf8-from_IsUtf8 _ (utf8_form text token.start token.end token.kind u s.ordered s.inside s.form)
