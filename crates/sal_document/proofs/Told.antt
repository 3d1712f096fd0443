-- What each word tells, and how it is printed, both ways.
use Rattle.std.proofs.Common.{◌≡◌, ℕ, ◌<◌, Bool, true, false, ◌&&◌, Option, Some, None, List, [], ◌∷◌, refl, sym, ap, subst, ◌∙◌, arith}
use Rattle.std.specs.Prelude.{if◌then◌else◌, nat_lt, slice_get, Result, Ok, Err, IsTrue}
use Rattle.std.specs.Fmt.{decimal}
use Rattle.std.specs.List.{position}
use Rattle.std.specs.Option.{option_and_then}
use Rattle.std.specs.Str.{is_utf8, bytes_eq}
use Rattle.std.proofs.lemmas.Bool.Decides.{nat_tests}
use Rattle.std.proofs.lemmas.List.Quantifiers.{position-Some}
use Rattle.std.proofs.lemmas.Option.{slice_get-get_or}
use Rattle.std.proofs.lemmas.Slice.Eq.{bytes_eq-Decides}
use Rattle.hex.specs.Hex.{encode_lower, decode_sized}
use Rattle.hex.specs.declared.error.FromHexError.{FromHexError}
use Rattle.hex.proofs.HexLemmas.{decode_of-ok, decode_sized-ok, decode_sized-twice, decode_sized-encode_lower}
use Rattle.sal_value.specs.declared.name.Uan.{Uan}
use Rattle.sal_value.specs.declared.name.Name.{Name}
use Rattle.sal_value.specs.declared.name.Name.TheVariants as name
use Rattle.sal_value.specs.declared.value.Value.{Value, roll-Value, out-Value, roll-out-Value, out-roll-Value}
use Rattle.sal_value.specs.declared.value.Value.TheVariants as v
use Rattle.sal_value.specs.declared.value.Value.TheOpen.{Value-F}
use Rattle.sal_value.specs.Names.{uan_text, name_text, is_uan}
use Rattle.sal_value.specs.Spelling.{name_is_spelled}
use Rattle.sal_value.specs.Coding.{name_in_range}
use Rattle.sal_value.proofs.Bytes.{both}
use Rattle.sal_value.proofs.Canonical.{some_if}
use Rattle.sal_mail.specs.declared.fault.Trap.TheVariants as trap
use Rattle.sal_mail.specs.declared.fault.FaultKind.{FaultKind}
use Rattle.sal_mail.specs.declared.fault.FaultKind.TheVariants as kind
use Rattle.sal_mail.specs.Lines.{kind_text}
use Rattle.sal_ast.specs.declared.program.Program.{Program}
use Rattle.sal_ast.specs.Members.{Handler, valid_number, behavior_by_name, handler_by_name, handlers_at}
use Rattle.sal_types.specs.Signatures.{with_behavior, numbers_by_name}
use Rattle.sal_literals.specs.Texts.{quoted_text, value_text, is_literal}
use Rattle.sal_literals.specs.Reading.{number_of, name_of, value_of}
use Rattle.sal_literals.proofs.Decimals.{number_is, number_again}
use Rattle.sal_literals.proofs.Scalars.{name_again, name_found}
use Rattle.sal_literals.proofs.Equations.{text_str, literal_str}
use Rattle.sal_literals.proofs.Found.{printed_values_are_read, read_values_are_printed}
use Rattle.sal_document.specs.declared.constants.TheConstants.{MOST_THEATRES}
use Rattle.sal_document.specs.declared.shown.End.{End}
use Rattle.sal_document.specs.declared.shown.End.TheVariants as ending
use Rattle.sal_document.specs.Documents.{end_text, name_in, behavior_name, handler_name_in, handler_name}
use Rattle.sal_document.specs.Parts.{IsNumber, IsTheatre, IsName, IsLiteral, IsHash, IsBehavior, is_plain, named_behavior, named_handler}
use Rattle.sal_document.specs.code.Reading.{if_theatre, theatre_of, universal_in, universal_of, text_by, text_in, text_of, named_by, all_kinds, kind_of, end_of, fixed_of, hash_in, hash_of}
use Rattle.sal_document.proofs.OneWord.{IsOne, plain_is_one}
use Rattle.sal_document.proofs.Printed.{decimal_one, name_one, uan_one, kind_one, end_one, hash_one, quoted_one, value_one}

-- what is read of a word, and the word that is printed of it
pub record IsWord {A : Type 0} (Is : A → Type 0) (text : A → List ℕ) (f : List ℕ → Option A) : Type 0 where
  pub found : (w : List ℕ) (x : A) → f w ≡ Some x → Is x × (w ≡ text x)
  pub again : (x : A) → Is x → f (text x) ≡ Some x
  pub one : (x : A) → Is x → IsOne (text x)

some_same : {A : Type 0} (x y : A) → Some x ≡ Some y → x ≡ y
some_same x y e = cc

-- ---- numbers and names

number_found : (w : List ℕ) (n : ℕ) → number_of w ≡ Some n → IsNumber n × (w ≡ decimal n)
number_found w n e = let is = number_is w n e in (is.1, is.0)

pub number_word : IsWord IsNumber decimal number_of
number_word = record { found = number_found; again = number_again; one = decimal_one }

theatre_by : (w : List ℕ) (k : ℕ) (o : Option ℕ) → number_of w ≡ o → if_theatre o ≡ Some k → IsTheatre k × (w ≡ decimal k)
theatre_by w k None eo e = absurd cc
theatre_by w k (Some n) eo e =
    let is = some_if (nat_lt n MOST_THEATRES) n k e in
    let lt : n < MOST_THEATRES = below n MOST_THEATRES is.0 in
    (subst IsTheatre is.1 lt, (number_is w n eo).0 ∙ ap decimal is.1)
  where
    below : (m n : ℕ) → nat_lt m n ≡ true → m < n
    below m n h = grind (arith, nat_tests)

theatre_found : (w : List ℕ) (k : ℕ) → theatre_of w ≡ Some k → IsTheatre k × (w ≡ decimal k)
unfolding theatre_of
theatre_found w k e = theatre_by w k (number_of w) refl e

wide : (k : ℕ) → IsTheatre k → IsNumber k
wide k lt = omega arith

theatre_again : (k : ℕ) → IsTheatre k → theatre_of (decimal k) ≡ Some k
unfolding theatre_of
theatre_again k lt = ap if_theatre (number_again k (wide k lt)) ∙ ap (λ t. if t then Some k else None) (is_below k MOST_THEATRES lt)
  where
    is_below : (m n : ℕ) → m < n → nat_lt m n ≡ true
    is_below m n h = grind (arith, nat_tests)

pub theatre_word : IsWord IsTheatre decimal theatre_of
theatre_word = record { found = theatre_found; again = theatre_again; one = λ k lt. decimal_one k (wide k lt) }

pub name_word : IsWord IsName name_text name_of
name_word = record {
  found = λ w n e. let is = name_found w n e in ((is.0, is.1), is.2);
  again = λ n h. name_again n h.0 h.1;
  one = λ n h. name_one n h.0 h.1;
}

universal_by : (w : List ℕ) (u : Uan) (o : Option Name) → name_of w ≡ o → universal_in o ≡ Some u → IsTrue (is_uan u) × (w ≡ uan_text u)
unfolding name_is_spelled name_text
universal_by w u None eo e = absurd cc
universal_by w u (Some (name.Uan z)) eo e =
    let is = name_found w (name.Uan z) eo in
    let same : z ≡ u = some_same z u e in
    (subst (λ y. is_uan y ≡ true) same is.1, is.2 ∙ ap uan_text same)
universal_by w u (Some (name.Anon theatre number)) eo e = absurd cc
universal_by w u (Some (name.Outside number)) eo e = absurd cc

universal_found : (w : List ℕ) (u : Uan) → universal_of w ≡ Some u → IsTrue (is_uan u) × (w ≡ uan_text u)
unfolding universal_of
universal_found w u e = universal_by w u (name_of w) refl e

uan_again : (u : Uan) → is_uan u ≡ true → name_of (uan_text u) ≡ Some (name.Uan u)
unfolding name_in_range name_is_spelled name_text
uan_again u h = name_again (name.Uan u) refl h

universal_again : (u : Uan) → is_uan u ≡ true → universal_of (uan_text u) ≡ Some u
unfolding universal_of
universal_again u h = ap universal_in (uan_again u h)

pub universal_word : IsWord (λ u. IsTrue (is_uan u)) uan_text universal_of
universal_word = record { found = universal_found; again = universal_again; one = uan_one }

-- ---- values and texts

pub value_word : IsWord IsLiteral value_text value_of
value_word = record { found = read_values_are_printed; again = printed_values_are_read; one = value_one }

string_by : (w t : List ℕ) (x : Value) (l : Value-F Value) → out-Value x ≡ l → value_of w ≡ Some x → text_by l ≡ Some t → IsTrue (is_utf8 t) × (w ≡ quoted_text t)
string_by w t x Value-F.Null el ex e = absurd cc
string_by w t x (Value-F.Int n) el ex e = absurd cc
string_by w t x (Value-F.Bool b) el ex e = absurd cc
string_by w t x (Value-F.Str s) el ex e =
    let is = read_values_are_printed w x ex in
    let at : x ≡ v.Str s = sym (roll-out-Value x) ∙ ap roll-Value el ∙ v.rolls-Str s in
    let same : s ≡ t = some_same s t e in
    let good : is_literal (v.Str s) ≡ true = ap is_literal (sym at) ∙ is.0 in
    (ap is_utf8 (sym same) ∙ sym (literal_str s 64) ∙ good, is.1 ∙ ap value_text at ∙ text_str s ∙ ap quoted_text same)
string_by w t x (Value-F.Array ws) el ex e = absurd cc
string_by w t x (Value-F.Ref n) el ex e = absurd cc

text_in_found : (w t : List ℕ) (o : Option Value) → value_of w ≡ o → text_in o ≡ Some t → IsTrue (is_utf8 t) × (w ≡ quoted_text t)
text_in_found w t None eo e = absurd cc
text_in_found w t (Some x) eo e = string_by w t x (out-Value x) refl eo e

text_found : (w t : List ℕ) → text_of w ≡ Some t → IsTrue (is_utf8 t) × (w ≡ quoted_text t)
unfolding text_of
text_found w t e = text_in_found w t (value_of w) refl e

string_again : (t : List ℕ) → is_utf8 t ≡ true → value_of (quoted_text t) ≡ Some (v.Str t)
string_again t h = ap value_of (sym (text_str t)) ∙ printed_values_are_read (v.Str t) (literal_str t 64 ∙ h)

text_again : (t : List ℕ) → is_utf8 t ≡ true → text_of (quoted_text t) ≡ Some t
unfolding text_of
text_again t h = ap text_in (string_again t h) ∙ ap text_by (ap out-Value (sym (v.rolls-Str t)) ∙ out-roll-Value (Value-F.Str t))

pub text_word : IsWord (λ t. IsTrue (is_utf8 t)) quoted_text text_of
text_word = record { found = text_found; again = text_again; one = λ t h. quoted_one t }

-- ---- words of a list

same_bytes : (xs ys : List ℕ) → bytes_eq xs ys ≡ true → xs ≡ ys
same_bytes xs ys e = (bytes_eq-Decides xs ys).0 e

bytes_same : (xs : List ℕ) → bytes_eq xs xs ≡ true
bytes_same xs = (bytes_eq-Decides xs xs).1 refl

named_found : {A : Type 0} (text : A → List ℕ) (w : List ℕ) (xs : List A) (y : A) → named_by text w xs ≡ Some y → w ≡ text y
named_found text w [] y e = absurd cc
named_found {A} text w (x ∷ xs) y e = at (bytes_eq w (text x)) refl (named_found text w xs y) e
  where
    at : (t : Bool) → bytes_eq w (text x) ≡ t → (named_by text w xs ≡ Some y → w ≡ text y) → (if t then Some x else named_by text w xs) ≡ Some y → w ≡ text y
    at true et more e = same_bytes w (text x) et ∙ ap text (some_same x y e)
    at false et more e = more e

kind_found : (w : List ℕ) (k : FaultKind) → kind_of w ≡ Some k → Unit {0} × (w ≡ kind_text k)
unfolding kind_of
kind_found w k e = (tt, named_found kind_text w all_kinds k e)

kind_again : (k : FaultKind) → Unit {0} → kind_of (kind_text k) ≡ Some k
unfolding kind_of kind_text
kind_again (kind.Trap trap.ZeroDivisor) h = refl
kind_again (kind.Trap trap.Index) h = refl
kind_again (kind.Trap trap.NegativeLength) h = refl
kind_again (kind.Trap trap.NullTarget) h = refl
kind_again (kind.Trap trap.BadName) h = refl
kind_again (kind.Trap trap.BadLocator) h = refl
kind_again (kind.Trap trap.BadDelay) h = refl
kind_again (kind.Trap trap.TooLarge) h = refl
kind_again (kind.Trap trap.TooManyTurns) h = refl
kind_again (kind.Trap trap.TooManyMessages) h = refl
kind_again kind.NoHandler h = refl
kind_again kind.NameTaken h = refl

pub kind_word : IsWord (λ k. Unit {0}) kind_text kind_of
kind_word = record { found = kind_found; again = kind_again; one = λ k h. kind_one k }

end_found : (w : List ℕ) (e : End) → end_of w ≡ Some e → Unit {0} × (w ≡ end_text e)
unfolding end_of
end_found w e h = (tt, named_found end_text w (ending.AtRest ∷ ending.NotAtRest ∷ ending.PacketsFull ∷ []) e h)

end_again : (e : End) → Unit {0} → end_of (end_text e) ≡ Some e
unfolding end_of end_text
end_again ending.AtRest h = refl
end_again ending.NotAtRest h = refl
end_again ending.PacketsFull h = refl

pub end_word : IsWord (λ e. Unit {0}) end_text end_of
end_word = record { found = end_found; again = end_again; one = λ e h. end_one e }

-- a word that is fixed
fixed_found : (text w : List ℕ) (x : Unit {0}) → fixed_of text w ≡ Some x → Unit {0} × (w ≡ text)
fixed_found text w x e = (tt, same_bytes w text (some_if (bytes_eq w text) tt x e).0)

pub fixed_word : (text : List ℕ) → IsOne text → IsWord {A = Unit {0}} (λ x. Unit {0}) (λ x. text) (fixed_of text)
fixed_word text one = record {
  found = fixed_found text;
  again = λ x h. ap (λ t. if t then Some tt else None) (bytes_same text);
  one = λ x h. one;
}

-- ---- the hash

bytes_of : (w bytes : List ℕ) → decode_sized w 32 ≡ Ok bytes → IsHash bytes
bytes_of w bytes e =
    let twice = decode_sized-ok w 32 bytes e in
    let is = decode_of-ok w bytes (sym (decode_sized-twice w 32 twice) ∙ e) in
    let size = is.2 in
    (omega arith, is.3)

hash_by : (w bytes : List ℕ) (r : Result (List ℕ) FromHexError) → decode_sized w 32 ≡ r → hash_in w r ≡ Some bytes → IsHash bytes × (w ≡ encode_lower bytes)
hash_by w bytes (Err e) er h = absurd cc
hash_by w bytes (Ok found) er h =
    let is = some_if (bytes_eq (encode_lower found) w) found bytes h in
    (subst IsHash is.1 (bytes_of w found er), sym (same_bytes (encode_lower found) w is.0) ∙ ap encode_lower is.1)

hash_found : (w bytes : List ℕ) → hash_of w ≡ Some bytes → IsHash bytes × (w ≡ encode_lower bytes)
unfolding hash_of
hash_found w bytes e = hash_by w bytes (decode_sized w 32) refl e

hash_again : (hash : List ℕ) → IsHash hash → hash_of (encode_lower hash) ≡ Some hash
unfolding hash_of
hash_again hash h =
    ap (hash_in (encode_lower hash)) (decode_sized-encode_lower hash 32 h.0 h.1) ∙ ap (λ t. if t then Some hash else None) (bytes_same (encode_lower hash))

pub hash_word : IsWord IsHash encode_lower hash_of
hash_word = record { found = hash_found; again = hash_again; one = λ hash h. hash_one hash }

-- ---- behaviours and handlers

found_by : {A : Type 0} (p : A → Bool) (xs : List A) (i : ℕ) → position p xs ≡ Some i → (x : A) × (slice_get xs i ≡ Some x) × (p x ≡ true)
found_by p [] i e = absurd cc
found_by p (x ∷ xs) i e =
    let is = position-Some p (x ∷ xs) i x e in
    (_, slice_get-get_or (x ∷ xs) i x is.0, is.1)

valid_found : (o : Option ℕ) (i : ℕ) → valid_number o ≡ Some i → o ≡ Some i
valid_found None i e = absurd cc
valid_found (Some n) i e = ap Some (some_if _ n i e).1

behavior_found : (w : List ℕ) (p : Program) (b : ℕ) → behavior_by_name w p.behaviors ≡ Some b → behavior_name p b ≡ w
unfolding behavior_by_name
behavior_found w p b e =
    let is = found_by (λ x. bytes_eq x.name.text w) p.behaviors b (valid_found (position (λ x. bytes_eq x.name.text w) p.behaviors) b e) in
    ap name_in is.1 ∙ same_bytes is.0.name.text w is.2

handler_found : (w : List ℕ) (hs : List Handler) (h : ℕ) → handler_by_name w hs ≡ Some h → handler_name_in (slice_get hs h) ≡ w
unfolding handler_by_name
handler_found w hs h e =
    let is = found_by (λ x. bytes_eq x.name w) hs h (valid_found (position (λ x. bytes_eq x.name w) hs) h e) in
    ap handler_name_in is.1 ∙ same_bytes is.0.name w is.2

named_is : (p : Program) (w : List ℕ) (b : ℕ) → named_behavior p w ≡ Some b → (is_plain w ≡ true) × (behavior_name p b ≡ w)
unfolding named_behavior
named_is p w b e = at (is_plain w) refl e
  where
    at : (t : Bool) → is_plain w ≡ t → (if t then behavior_by_name w p.behaviors else None) ≡ Some b → (is_plain w ≡ true) × (behavior_name p b ≡ w)
    at true et e = (et, behavior_found w p b e)
    at false et e = absurd cc

named_found_again : (p : Program) (w : List ℕ) (b : ℕ) → named_behavior p w ≡ Some b → IsBehavior p b × (w ≡ behavior_name p b)
named_found_again p w b e = let is = named_is p w b e in (ap (named_behavior p) is.1 ∙ e, sym is.1)

pub behavior_word : (p : Program) → IsWord (IsBehavior p) (behavior_name p) (named_behavior p)
behavior_word p = record {
  found = named_found_again p;
  again = λ b h. h;
  one = λ b h. plain_is_one (behavior_name p b) (named_is p (behavior_name p b) b h).0;
}

-- a handler's two words
pub record IsCall (p : Program) (behavior handler : List ℕ) (b h : ℕ) : Type 0 where
  pub first_plain : is_plain behavior ≡ true
  pub second_plain : is_plain handler ≡ true
  pub first : behavior_name p b ≡ behavior
  pub second : handler_name p b h ≡ handler

pair_same : (x y : ℕ × ℕ) → Some x ≡ Some y → (x.0 ≡ y.0) × (x.1 ≡ y.1)
pair_same x y e = let same = some_same x y e in (ap (λ (z : ℕ × ℕ). z.0) same, ap (λ (z : ℕ × ℕ). z.1) same)

numbers_found : (p : Program) (behavior handler : List ℕ) (b h : ℕ) → numbers_by_name behavior handler p ≡ Some (b, h) → (behavior_name p b ≡ behavior) × (handler_name p b h ≡ handler)
unfolding numbers_by_name
numbers_found p behavior handler b h e = at (behavior_by_name behavior p.behaviors) refl e
  where
    inner : (n : ℕ) (o : Option ℕ) → behavior_by_name behavior p.behaviors ≡ Some n → handler_by_name handler (handlers_at p.behaviors (Some n)) ≡ o → with_behavior n o ≡ Some (b, h)
        → (behavior_name p b ≡ behavior) × (handler_name p b h ≡ handler)
    inner n None en eo e = absurd cc
    inner n (Some k) en eo e =
        let same = pair_same (n, k) (b, h) e in (
          ap (behavior_name p) (sym same.0) ∙ behavior_found behavior p n en,
          ap (λ z. handler_name p z h) (sym same.0) ∙ ap (handler_name p n) (sym same.1) ∙ handler_found handler (handlers_at p.behaviors (Some n)) k eo,
        )

    at : (o : Option ℕ) → behavior_by_name behavior p.behaviors ≡ o → option_and_then (λ n. with_behavior n (handler_by_name handler (handlers_at p.behaviors (Some n)))) o ≡ Some (b, h)
        → (behavior_name p b ≡ behavior) × (handler_name p b h ≡ handler)
    at None eo e = absurd cc
    at (Some n) eo e = inner n (handler_by_name handler (handlers_at p.behaviors (Some n))) eo refl e

pub call_found : (p : Program) (behavior handler : List ℕ) (b h : ℕ) → named_handler p behavior handler ≡ Some (b, h) → IsCall p behavior handler b h
unfolding named_handler
call_found p behavior handler b h e = at (is_plain behavior && is_plain handler) refl e
  where
    at : (t : Bool) → is_plain behavior && is_plain handler ≡ t → (if t then numbers_by_name behavior handler p else None) ≡ Some (b, h) → IsCall p behavior handler b h
    at true et e =
        let plain = both (is_plain behavior) (is_plain handler) et in
        let is = numbers_found p behavior handler b h e in
        record { first_plain = plain.0; second_plain = plain.1; first = is.0; second = is.1 }
    at false et e = absurd cc
