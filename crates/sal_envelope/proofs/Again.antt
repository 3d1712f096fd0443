-- What is spelled is read again.
use Rattle.std.proofs.Common.{◌≡◌, ℕ, ◌^◌, ◌<◌, ◌≤◌, true, false, ◌&&◌, List, [], ◌∷◌, ◌++◌, length, Option, Some, None, Ok, refl, sym, ap, ◌∙◌, append_assoc, arith, true≢false}
use Rattle.std.specs.Prelude.{if◌then◌else◌, nat_lt}
use Rattle.std.specs.Int.{Width, w16, w32, w64, byte_len, from_be_bytes, to_be_bytes}
use Rattle.std.specs.List.{list_all, flat_map}
use Rattle.std.proofs.lemmas.Bool.{and_parts, le-ltb}
use Rattle.std.proofs.lemmas.Bool.Decides.{nat_tests}
use Rattle.std.proofs.lemmas.List.{take_at, drop_at, length-append}
use Rattle.std.proofs.lemmas.Slice.Eq.{bytes_eq-Decides}
use Rattle.sal_value.specs.declared.name.Name.{Name}
use Rattle.sal_value.specs.declared.name.Name.TheVariants as name
use Rattle.sal_value.specs.declared.name.Uan.{Uan}
use Rattle.sal_value.specs.declared.name.Ual.{Ual}
use Rattle.sal_value.specs.declared.value.Value.{Value}
use Rattle.sal_value.specs.Names.{ual_text, is_uan, is_ual}
use Rattle.sal_value.specs.Spelling.{name_spelling, name_is_spelled, spelling, is_spelled}
use Rattle.sal_value.specs.Coding.{name_in_range, in_range}
use Rattle.sal_value.proofs.Again.{again_name, again_value}
use Rattle.sal_value.proofs.Takes.{IsWide, wide16, wide32, wide64}
use Rattle.sal_value.proofs.Given.{names_are_given}
use Rattle.sal_value.proofs.Readings.{locators_are_read}
use Rattle.sal_mail.specs.declared.message.Reply.{Reply}
use Rattle.sal_mail.specs.declared.message.Reply.TheVariants.{Nobody, Tok, Place, Outside}
use Rattle.sal_envelope.specs.Spelling.{bytes_16, bytes_32, bytes_64, uan_spelling, locator_spelling, values_spelling, made_spelling, reply_spelling, reply_is_spelled, is_inner, handler_spelling, found_spelling, found_is_spelled}
use Rattle.sal_envelope.specs.Decoding.{Reading, ◌>>=◌, wrong, bytes_at, number_at, bool_at, left_after, name_at, value_at, universal_or_wrong, uan_at, if_canonical, canonical_ual, locator_or_wrong, locator_at, many_at, values_at, made_at, place_at, token_at, inner_at, reply_at, handler_at, moved_at, found_at}
use Rattle.sal_envelope.specs.Coding.{is_u16, is_u32, is_u64, reply_in_range, found_in_range}
use Rattle.sal_envelope.proofs.Parts.{ual_short}

below : (m n : ℕ) → nat_lt m n ≡ true → m < n
below m n h = grind (arith, nat_tests)

not_above : (m n : ℕ) → m ≤ n → nat_lt n m ≡ false
not_above m n h = grind (arith, nat_tests)

-- ---- numbers

bytes_again : (n : ℕ) (t rest : List ℕ) → length t ≡ n → bytes_at n (t ++ rest) ≡ Ok (t, rest)
unfolding bytes_at
bytes_again n t rest e =
    let long : nat_lt (length (t ++ rest)) n ≡ false = le-ltb _ _ (omega (arith, length-append t rest)) in
    rw (long, take_at t rest n e, drop_at t rest n e) refl

number_again : (w : Width) (limit : ℕ) (wide : IsWide w limit) (n : ℕ) (rest : List ℕ) → n < limit → number_at w (to_be_bytes w n ++ rest) ≡ Ok (n, rest)
unfolding number_at
number_again w limit wide n rest lt =
    ap (λ (r : Reading (List ℕ)). r >>= λ t. Ok (from_be_bytes w t.0, t.1)) (bytes_again (byte_len w) (to_be_bytes w n) rest (wide.len n))
    ∙ ap (λ k. Ok (k, rest)) (wide.again n lt)

pub again_16 : (n : ℕ) (rest : List ℕ) → is_u16 n ≡ true → number_at w16 (bytes_16 n ++ rest) ≡ Ok (n, rest)
unfolding bytes_16
again_16 n rest h = number_again w16 (2 ^ 16) wide16 n rest (below n (2 ^ 16) h)

pub again_32 : (n : ℕ) (rest : List ℕ) → is_u32 n ≡ true → number_at w32 (bytes_32 n ++ rest) ≡ Ok (n, rest)
unfolding bytes_32
again_32 n rest h = number_again w32 (2 ^ 32) wide32 n rest (below n (2 ^ 32) h)

pub again_64 : (n : ℕ) (rest : List ℕ) → is_u64 n ≡ true → number_at w64 (bytes_64 n ++ rest) ≡ Ok (n, rest)
unfolding bytes_64
again_64 n rest h = number_again w64 (2 ^ 64) wide64 n rest (below n (2 ^ 64) h)

-- ---- names, values and locators

pub name_again : (n : Name) (rest : List ℕ) → name_in_range n ≡ true → name_is_spelled n ≡ true → name_at (name_spelling n ++ rest) ≡ Ok (n, rest)
unfolding name_at
name_again n rest r s = ap (left_after (name_spelling n ++ rest)) (again_name n rest r s) ∙ ap (λ l. Ok (n, l)) (drop_at (name_spelling n) rest (length (name_spelling n)) refl)

pub value_again : (v : Value) (rest : List ℕ) → in_range v ≡ true → is_spelled v ≡ true → value_at (spelling v ++ rest) ≡ Ok (v, rest)
unfolding value_at
value_again v rest r s = ap (left_after (spelling v ++ rest)) (again_value v rest r s) ∙ ap (λ l. Ok (v, l)) (drop_at (spelling v) rest (length (spelling v)) refl)

uan_good : (u : Uan) → is_uan u ≡ true → (name_is_spelled (name.Uan u) ≡ true) × (name_in_range (name.Uan u) ≡ true)
unfolding name_is_spelled name_in_range
uan_good u h = (h, refl)

pub uan_again : (u : Uan) (rest : List ℕ) → is_uan u ≡ true → uan_at (uan_spelling u ++ rest) ≡ Ok (u, rest)
unfolding uan_at name_spelling
uan_again u rest h =
    let good = uan_good u h in
    ap (λ (r : Reading Name). r >>= λ n. universal_or_wrong (name_spelling (name.Uan u) ++ rest) n.1 n.0) (name_again (name.Uan u) rest good.1 good.0)

canonical_again : (l : Ual) → is_ual l ≡ true → canonical_ual (ual_text l) ≡ Some l
unfolding canonical_ual
canonical_again l h =
    ap (if_canonical (ual_text l)) (names_are_given.ual (ual_text l) l (locators_are_read.again l h))
    ∙ ap (λ b. if b then Some l else None) ((bytes_eq-Decides (ual_text l) (ual_text l)).1 refl)

pub locator_again : (l : Ual) (rest : List ℕ) → is_ual l ≡ true → locator_at (locator_spelling l ++ rest) ≡ Ok (l, rest)
unfolding locator_at locator_spelling
locator_again l rest h =
    let text : List ℕ = ual_text l in
    let short : is_u16 (length text) ≡ true = let s = ual_short l h in grind (arith, nat_tests) in
    ap (λ bytes. number_at w16 bytes >>= λ n. bytes_at n.0 n.1 >>= λ t. locator_or_wrong n.1 t.1 (canonical_ual t.0)) (append_assoc (bytes_16 (length text)) text rest)
    ∙ ap (λ (r : Reading ℕ). r >>= λ n. bytes_at n.0 n.1 >>= λ t. locator_or_wrong n.1 t.1 (canonical_ual t.0)) (again_16 (length text) (text ++ rest) short)
    ∙ ap (λ (r : Reading (List ℕ)). r >>= λ t. locator_or_wrong (text ++ rest) t.1 (canonical_ual t.0)) (bytes_again (length text) text rest refl)
    ∙ ap (locator_or_wrong (text ++ rest) rest) (canonical_again l h)

many_again : (vs : List Value) (rest : List ℕ) → list_all in_range vs ≡ true → list_all is_spelled vs ≡ true → many_at (length vs) (flat_map spelling vs ++ rest) ≡ Ok (vs, rest)
many_again [] rest r s = refl
many_again (v ∷ vs) rest r s =
    let ranges = and_parts (in_range v) (list_all in_range vs) r in
    let spelled = and_parts (is_spelled v) (list_all is_spelled vs) s in
    ap (λ bytes. value_at bytes >>= λ first. many_at (length vs) first.1 >>= λ others. Ok (first.0 ∷ others.0, others.1)) (append_assoc (spelling v) (flat_map spelling vs) rest)
    ∙ ap (λ (x : Reading Value). x >>= λ first. many_at (length vs) first.1 >>= λ others. Ok (first.0 ∷ others.0, others.1)) (value_again v (flat_map spelling vs ++ rest) ranges.0 spelled.0)
    ∙ ap (λ (x : Reading (List Value)). x >>= λ others. Ok (v ∷ others.0, others.1)) (many_again vs rest ranges.1 spelled.1)

pub values_again : (most : ℕ) (vs : List Value) (rest : List ℕ) → length vs ≤ most → list_all in_range vs ≡ true → list_all is_spelled vs ≡ true → values_at most (values_spelling vs ++ rest) ≡ Ok (vs, rest)
unfolding values_at values_spelling
values_again most vs rest few r s =
    ap (λ b. if b then wrong (values_spelling vs ++ rest) else many_at (length vs) (flat_map spelling vs ++ rest)) (not_above (length vs) most few) ∙ many_again vs rest r s

-- ---- replies

pub made_again : (maker : Name) (serial : ℕ) (rest : List ℕ) → name_in_range maker ≡ true → name_is_spelled maker ≡ true → is_u64 serial ≡ true → made_at (made_spelling maker serial ++ rest) ≡ Ok ((maker, serial), rest)
unfolding made_at
made_again maker serial rest r s n =
    ap (λ bytes. name_at bytes >>= λ m. number_at w64 m.1 >>= λ k. Ok ((m.0, k.0), k.1)) (append_assoc (name_spelling maker) (bytes_64 serial) rest)
    ∙ ap (λ (x : Reading Name). x >>= λ m. number_at w64 m.1 >>= λ k. Ok ((m.0, k.0), k.1)) (name_again maker (bytes_64 serial ++ rest) r s)
    ∙ ap (λ (x : Reading ℕ). x >>= λ k. Ok ((maker, k.0), k.1)) (again_64 serial rest n)

place_again : (maker : Name) (join at : ℕ) (rest : List ℕ) → name_in_range maker ≡ true → name_is_spelled maker ≡ true → is_u64 join ≡ true → is_u32 at ≡ true → place_at ((made_spelling maker join ++ bytes_32 at) ++ rest) ≡ Ok (Place maker join at, rest)
unfolding place_at
place_again maker join at rest r s n a =
    ap (λ bytes. made_at bytes >>= λ j. number_at w32 j.1 >>= λ k. Ok (Place j.0.0 j.0.1 k.0, k.1)) (append_assoc (made_spelling maker join) (bytes_32 at) rest)
    ∙ ap (λ (x : Reading (Name × ℕ)). x >>= λ j. number_at w32 j.1 >>= λ k. Ok (Place j.0.0 j.0.1 k.0, k.1)) (made_again maker join (bytes_32 at ++ rest) r s n)
    ∙ ap (λ (x : Reading ℕ). x >>= λ k. Ok (Place maker join k.0, k.1)) (again_32 at rest a)

pub inner_again : (reply : Reply) (rest : List ℕ) → is_inner reply ≡ true → reply_in_range reply ≡ true → reply_is_spelled reply ≡ true → inner_at (reply_spelling reply ++ rest) ≡ Ok (reply, rest)
unfolding inner_at token_at reply_spelling reply_is_spelled
inner_again Nobody rest i r s = absurd (true≢false (sym i))
inner_again (Outside number) rest i r s = absurd (true≢false (sym i))
inner_again (Tok maker number) rest i r s =
    let parts = and_parts (name_in_range maker) (is_u64 number) r in
    ap (λ (x : Reading (Name × ℕ)). x >>= λ token. Ok (Tok token.0.0 token.0.1, token.1)) (made_again maker number rest parts.0 s parts.1)
inner_again (Place maker join at) rest i r s =
    let parts = and_parts (name_in_range maker) (is_u64 join && is_u32 at) r in
    let numbers = and_parts (is_u64 join) (is_u32 at) parts.1 in
    place_again maker join at rest parts.0 s numbers.0 numbers.1

pub reply_again : (reply : Reply) (rest : List ℕ) → reply_in_range reply ≡ true → reply_is_spelled reply ≡ true → reply_at (reply_spelling reply ++ rest) ≡ Ok (reply, rest)
unfolding reply_at inner_at token_at reply_spelling reply_is_spelled
reply_again Nobody rest r s = refl
reply_again (Outside number) rest r s = ap (λ (x : Reading ℕ). x >>= λ n. Ok (Outside n.0, n.1)) (again_64 number rest r)
reply_again (Tok maker number) rest r s = inner_again (Tok maker number) rest refl r s
reply_again (Place maker join at) rest r s = inner_again (Place maker join at) rest refl r s

pub handler_again : (behavior handler : ℕ) (rest : List ℕ) → is_u16 behavior ≡ true → is_u16 handler ≡ true → handler_at (handler_spelling behavior handler ++ rest) ≡ Ok ((behavior, handler), rest)
unfolding handler_at
handler_again behavior handler rest b h =
    ap (λ bytes. number_at w16 bytes >>= λ m. number_at w16 m.1 >>= λ k. Ok ((m.0, k.0), k.1)) (append_assoc (bytes_16 behavior) (bytes_16 handler) rest)
    ∙ ap (λ (x : Reading ℕ). x >>= λ m. number_at w16 m.1 >>= λ k. Ok ((m.0, k.0), k.1)) (again_16 behavior (bytes_16 handler ++ rest) b)
    ∙ ap (λ (x : Reading ℕ). x >>= λ k. Ok ((behavior, k.0), k.1)) (again_16 handler rest h)

pub moved_again : (place : Ual) (moves : ℕ) (rest : List ℕ) → is_ual place ≡ true → is_u64 moves ≡ true → moved_at ((locator_spelling place ++ bytes_64 moves) ++ rest) ≡ Ok ((place, moves), rest)
unfolding moved_at
moved_again place moves rest h n =
    ap (λ bytes. locator_at bytes >>= λ m. number_at w64 m.1 >>= λ k. Ok ((m.0, k.0), k.1)) (append_assoc (locator_spelling place) (bytes_64 moves) rest)
    ∙ ap (λ (x : Reading Ual). x >>= λ m. number_at w64 m.1 >>= λ k. Ok ((m.0, k.0), k.1)) (locator_again place (bytes_64 moves ++ rest) h)
    ∙ ap (λ (x : Reading ℕ). x >>= λ k. Ok ((place, k.0), k.1)) (again_64 moves rest n)

pub found_again : (found : Option (Ual × ℕ)) (rest : List ℕ) → found_in_range found ≡ true → found_is_spelled found ≡ true → found_at (found_spelling found ++ rest) ≡ Ok (found, rest)
unfolding found_at bool_at found_spelling found_is_spelled
found_again None rest r s = refl
found_again (Some found) rest r s = ap (λ (x : Reading (Ual × ℕ)). x >>= λ m. Ok (Some m.0, m.1)) (moved_again found.0 found.1 rest s r)
