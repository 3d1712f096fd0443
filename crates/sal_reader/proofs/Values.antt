-- The value of a string of a UTF-8 text is UTF-8.
use Rattle.std.proofs.Common.{◌≡◌, ◌⊎◌, inl, inr, ℕ, zero, suc, ◌+◌, ◌<◌, ◌≤◌, Bool, true, false, cond, nat_eq, List, [], ◌∷◌, ◌++◌, length, get_or, ◌&&◌, refl, sym, ◌∙◌, ap, subst, arith}
use Rattle.std.specs.Str.{IsUtf8}
use Rattle.std.proofs.Math.Utf8.{encode, encodes, scalar, scalars}
use Rattle.std.proofs.lemmas.Bool.{and_parts, cases_lt}
use Rattle.std.proofs.lemmas.Bool.Decides.{nat_tests}
use Rattle.std.proofs.lemmas.List.{append-nil}
use Rattle.std.proofs.lemmas.List.Elements.{All-nil, All-cons}
use Rattle.std.proofs.lemmas.Str.{IsUtf8-append, IsUtf8-nil, IsUtf8-from_ascii, IsUtf8-past_char, length-encode, len_utf8_bounds, encode_ascii, inside_one}
use Rattle.std.proofs.lemmas.Str.Ascii.{IsAscii-from_all}
use Rattle.sal_text.specs.Tokens.{is_string, is_string_rest}
use Rattle.sal_text.specs.Values.{escape_value, inside_value, string_value}

-- ---- characters of one byte

small_one : (x : ℕ) → x < 128 → IsUtf8 (x ∷ [])
small_one x lt = IsUtf8-from_ascii (x ∷ []) (IsAscii-from_all (x ∷ []) (All-cons (λ b. b < 128) x [] lt (All-nil (λ b. b < 128))))

before : (x : ℕ) (ys : List ℕ) → x < 128 → IsUtf8 ys → IsUtf8 (x ∷ ys)
before x ys lt u = IsUtf8-append (x ∷ []) ys (small_one x lt) u

escape_small : (c : ℕ) → c < 128 → escape_value c < 128
escape_small c lt = grind (arith, nat_tests)

escape_wide : (c : ℕ) → 128 ≤ c → escape_value c ≡ c
escape_wide c le = grind (arith, nat_tests)

plain_utf8 : (p q : Bool) (c : ℕ) (xs ys : List ℕ) → c < 128 → IsUtf8 xs → IsUtf8 ys → IsUtf8 (cond p [] (cond q xs (c ∷ ys)))
plain_utf8 true q c xs ys lt u v = IsUtf8-nil
plain_utf8 false true c xs ys lt u v = u
plain_utf8 false false c xs ys lt u v = before c ys lt v

-- ---- longer characters

abbrev AreWide : List ℕ → Type 0
AreWide [] = Unit {0}
AreWide (b ∷ bs) = (128 ≤ b) × AreWide bs

wide_all : (bs : List ℕ) → ((k : ℕ) → k < length bs → 128 ≤ get_or bs k 0) → AreWide bs
wide_all [] f = tt
wide_all (b ∷ bs) f = (f 0 (omega arith), wide_all bs (λ k lt. f (suc k) (omega arith)))

not_small : (c k : ℕ) → 128 ≤ c → k < length (encode c) → (get_or (encode c) k 0 < 128) ⊎ (128 ≤ get_or (encode c) k 0) → 128 ≤ get_or (encode c) k 0
not_small c k le lt (inr h) = h
not_small c k le lt (inl h) = absurd (let e : c ≡ get_or (encode c) k 0 = inside_one c [] (encode c) k (sym (append-nil (encode c))) lt h in omega arith)

wide : (c : ℕ) → 128 ≤ c → AreWide (encode c)
wide c le = wide_all (encode c) (λ k lt. not_small c k le lt (cases_lt (get_or (encode c) k 0) 128))

keeps_wide : (c : ℕ) (rest : List ℕ) → 128 ≤ c → inside_value false (c ∷ rest) ≡ c ∷ inside_value false rest
keeps_wide c rest le =
    let p : nat_eq c 34 ≡ false = grind (arith, nat_tests) in
    let q : nat_eq c 92 ≡ false = grind (arith, nat_tests) in
    ap (λ b. cond b [] (cond (nat_eq c 92) (inside_value true rest) (c ∷ inside_value false rest))) p
    ∙ ap (λ b. cond b (inside_value true rest) (c ∷ inside_value false rest)) q

passes : (bs rest : List ℕ) → AreWide bs → inside_value false (bs ++ rest) ≡ bs ++ inside_value false rest
passes [] rest w = refl
passes (b ∷ bs) rest w = keeps_wide b (bs ++ rest) w.0 ∙ ap (λ t. b ∷ t) (passes bs rest w.1)

passes_either : (e : Bool) (bs rest : List ℕ) → 0 < length bs → AreWide bs → inside_value e (bs ++ rest) ≡ bs ++ inside_value false rest
passes_either e [] rest lt w = absurd (omega arith)
passes_either false (b ∷ bs) rest lt w = passes (b ∷ bs) rest w
passes_either true (b ∷ bs) rest lt w =
    ap (λ x. x ∷ inside_value false (bs ++ rest)) (escape_wide b w.0) ∙ ap (λ t. b ∷ t) (passes bs rest w.1)

-- ---- texts

small_step : (e : Bool) (c : ℕ) (rest : List ℕ) → c < 128 → ((f : Bool) → IsUtf8 (inside_value f rest)) → IsUtf8 (inside_value e (c ∷ rest))
small_step true c rest lt f = before (escape_value c) (inside_value false rest) (escape_small c lt) (f false)
small_step false c rest lt f =
    plain_utf8 (nat_eq c 34) (nat_eq c 92) c (inside_value true rest) (inside_value false rest) lt (f true) (f false)

wide_step : (e : Bool) (c : ℕ) (rest : List ℕ) → 128 ≤ c → IsUtf8 (encode c) → IsUtf8 (inside_value false rest) → IsUtf8 (inside_value e (encode c ++ rest))
wide_step e c rest le u v =
    let some : 0 < length (encode c) = omega (arith, length-encode c, len_utf8_bounds c) in
    subst IsUtf8 (sym (passes_either e (encode c) rest some (wide c le))) (IsUtf8-append (encode c) (inside_value false rest) u v)

one_char : (c : ℕ) → scalar c ≡ true → IsUtf8 (encode c)
one_char c s = (c ∷ [], (ap (λ b. b && true) s, append-nil (encode c)))

step : (e : Bool) (c : ℕ) (rest : List ℕ) → scalar c ≡ true → ((f : Bool) → IsUtf8 (inside_value f rest)) → (c < 128) ⊎ (128 ≤ c) → IsUtf8 (inside_value e (encode c ++ rest))
step e c rest s f (inl lt) = subst (λ x. IsUtf8 (inside_value e (x ++ rest))) (sym (encode_ascii c lt)) (small_step e c rest lt f)
step e c rest s f (inr le) = wide_step e c rest le (one_char c s) (f false)

nothing_inside : (e : Bool) → IsUtf8 (inside_value e [])
nothing_inside true = IsUtf8-nil
nothing_inside false = IsUtf8-nil

inside_chars : (cs : List ℕ) (e : Bool) → scalars cs ≡ true → IsUtf8 (inside_value e (encodes cs))
inside_chars [] e h = nothing_inside e
inside_chars (c ∷ cs) e h =
    let p = and_parts (scalar c) (scalars cs) h in
    step e c (encodes cs) p.0 (λ f. inside_chars cs f p.1) (cases_lt c 128)

inside_utf8 : (bytes : List ℕ) → IsUtf8 bytes → IsUtf8 (inside_value false bytes)
inside_utf8 bytes u = subst (λ t. IsUtf8 (inside_value false t)) u.1.1 (inside_chars u.0 false u.1.0)

behind_quote : (c : ℕ) (cs : List ℕ) → c ≡ 34 → IsUtf8 (c ∷ cs) → IsUtf8 cs
behind_quote c cs e u =
    IsUtf8-past_char (c ∷ cs) cs c u (ap (λ t. t ++ cs) (sym (encode_ascii c (omega arith))))

pub string_utf8 : (bytes : List ℕ) → IsUtf8 bytes → is_string bytes ≡ true → IsUtf8 (string_value bytes)
string_utf8 [] u h = IsUtf8-nil
string_utf8 (c ∷ cs) u h =
    let p = and_parts (nat_eq c 34) (is_string_rest false cs) h in
    let e : c ≡ 34 = grind (arith, nat_tests) in
    inside_utf8 cs (behind_quote c cs e u)
