-- What is read was printed.
use Rattle.std.proofs.Common.{◌≡◌, ℕ, ℤ, zero, suc, ◌==◌, Bool, true, false, ◌&&◌, Option, Some, None, List, [], ◌∷◌, ◌++◌, drop, length, refl, sym, ap, subst, ◌∙◌, append_assoc, append-nil}
use Rattle.std.specs.Prelude.{if◌then◌else◌, codes}
use Rattle.std.specs.List.{list_all, flat_map}
use Rattle.std.specs.Option.{option_map}
use Rattle.std.specs.Str.{is_utf8, bytes_eq}
use Rattle.std.proofs.lemmas.Bool.{eqb-true}
use Rattle.std.proofs.lemmas.Slice.Eq.{bytes_eq-Decides}
use Rattle.sal_value.specs.declared.name.Name.{Name}
use Rattle.sal_value.specs.declared.value.Value.{Value}
use Rattle.sal_value.specs.declared.value.Value.TheVariants as v
use Rattle.sal_value.specs.Names.{until, from_first}
use Rattle.sal_value.specs.Spelling.{name_is_spelled}
use Rattle.sal_value.specs.Coding.{name_in_range}
use Rattle.sal_literals.specs.Texts.{escape, quoted_text, value_text, is_literal_at, is_literal}
use Rattle.sal_literals.specs.code.Scanning.{Reading, ◌>>=◌, quoted_at}
use Rattle.sal_literals.specs.Reading.{int_of, name_of, ends_word, scalar_of, word_value, with_rest, flat_at, separator_at, items_at, is_closed, array_at, is_array, value_by, value_at, if_whole, value_of}
use Rattle.sal_literals.specs.Laws.{PrintedValuesAreRead, ReadValuesArePrinted, ValuesHaveOwnTexts}
use Rattle.sal_literals.proofs.Equations.{text_null, text_int, text_bool, text_str, text_ref, text_array, others_text, items_text, literal_null, literal_int, literal_bool, literal_str, literal_ref, literal_array}
use Rattle.sal_literals.proofs.Ints.{int_found}
use Rattle.sal_literals.proofs.Scalars.{cut_whole, name_found}
use Rattle.sal_literals.proofs.Scanned.{quoted_found}
use Rattle.sal_literals.proofs.Again.{printed_is_read}

-- ---- what holds of what is read

-- this holds of what is read and of the bytes that are left
record Holds {A : Type 0} (r : Reading A) (P : A → List ℕ → Type 0) : Type 0 where
  fact : (x : A × List ℕ) → r ≡ Some x → P x.0 x.1

then_holds : {A B : Type 0} {r : Reading A} {P : A → List ℕ → Type 0} (f : A × List ℕ → Reading B) (Q : B → List ℕ → Type 0)
    → Holds r P → ((x : A) (rest : List ℕ) → P x rest → Holds (f (x, rest)) Q) → Holds (r >>= f) Q
then_holds {A} {B} {r} {P} f Q h k = record { fact = go r f P Q h k }
  where
    go : (r : Reading A) (f : A × List ℕ → Reading B) (P : A → List ℕ → Type 0) (Q : B → List ℕ → Type 0)
        → Holds r P → ((x : A) (rest : List ℕ) → P x rest → Holds (f (x, rest)) Q) → (y : B × List ℕ) → (r >>= f) ≡ Some y → Q y.0 y.1
    go (Some x) f P Q h k y e = (k x.0 x.1 (h.fact x refl)).fact y e
    go None f P Q h k y e = absurd cc

done_holds : {A : Type 0} (x : A) (rest : List ℕ) (P : A → List ℕ → Type 0) → P x rest → Holds (Some (x, rest)) P
done_holds {A} x rest P p = record { fact = λ y e. let same : (x, rest) ≡ y = cc in subst (λ (y : A × List ℕ). P y.0 y.1) same p }

none_holds : {A : Type 0} (P : A → List ℕ → Type 0) → Holds {A = A} None P
none_holds P = record { fact = λ x e. absurd cc }

if_holds : {A : Type 0} (b : Bool) (r s : Reading A) (P : A → List ℕ → Type 0) → (b ≡ true → Holds r P) → (b ≡ false → Holds s P) → Holds (if b then r else s) P
if_holds true r s P h k = h refl
if_holds false r s P h k = k refl

-- ---- values without parts

-- what is read of a value
abbrev IsTextOf : ℕ → List ℕ → Value → Type 0
IsTextOf d text w = (is_literal_at w d ≡ true) × (text ≡ value_text w)

some_same : {A : Type 0} (x y : A) → Some x ≡ Some y → x ≡ y
some_same x y e = cc

ref_found : (d : ℕ) (text : List ℕ) (w : Value) (o : Option Name) → name_of text ≡ o → option_map v.Ref o ≡ Some w → IsTextOf d (64 ∷ text) w
ref_found d text w None eo e = absurd cc
ref_found d text w (Some n) eo e =
    let has = name_found text n eo in
    let good : name_in_range n && name_is_spelled n ≡ true = ap (λ b. b && name_is_spelled n) has.0 ∙ has.1 in
    subst (IsTextOf d (64 ∷ text)) (some_same (v.Ref n) w e) (literal_ref n d ∙ good, ap (λ (z : List ℕ). 64 ∷ z) has.2 ∙ sym (text_ref n))

int_is_found : (d : ℕ) (text : List ℕ) (w : Value) (o : Option ℤ) → int_of text ≡ o → option_map v.Int o ≡ Some w → IsTextOf d text w
int_is_found d text w None eo e = absurd cc
int_is_found d text w (Some n) eo e =
    let has = int_found text n eo in
    subst (IsTextOf d text) (some_same (v.Int n) w e) (literal_int n d ∙ has.0, has.1 ∙ sym (text_int n))

sign_found : (d : ℕ) (sign : ℕ) (rest : List ℕ) (w : Value) (t : Bool) → (sign == 64) ≡ t → (if t then option_map v.Ref (name_of rest) else option_map v.Int (int_of (sign ∷ rest))) ≡ Some w → IsTextOf d (sign ∷ rest) w
sign_found d sign rest w true te e = subst (λ z. IsTextOf d (z ∷ rest) w) (sym (eqb-true sign 64 te)) (ref_found d rest w (name_of rest) refl e)
sign_found d sign rest w false te e = int_is_found d (sign ∷ rest) w (int_of (sign ∷ rest)) refl e

scalar_found : (d : ℕ) (text : List ℕ) (w : Value) → scalar_of name_of text ≡ Some w → IsTextOf d text w
scalar_found d [] w e = absurd cc
scalar_found d (sign ∷ rest) w e = sign_found d sign rest w (sign == 64) refl e

fixed_found : (d : ℕ) (text fixed : List ℕ) (x w : Value) → bytes_eq text fixed ≡ true → fixed ≡ value_text x → is_literal_at x d ≡ true → Some x ≡ Some w → IsTextOf d text w
fixed_found d text fixed x w same is good e = subst (IsTextOf d text) (some_same x w e) (good, (bytes_eq-Decides text fixed).0 same ∙ is)

word_by_found : (d : ℕ) (text : List ℕ) (w : Value) (n t f : Bool) → bytes_eq text (codes "null") ≡ n → bytes_eq text (codes "true") ≡ t → bytes_eq text (codes "false") ≡ f
    → (if n then Some v.Null else if t then Some (v.Bool true) else if f then Some (v.Bool false) else scalar_of name_of text) ≡ Some w → IsTextOf d text w
word_by_found d text w true t f en et ef e = fixed_found d text (codes "null") v.Null w en (sym text_null) (literal_null d) e
word_by_found d text w false true f en et ef e = fixed_found d text (codes "true") (v.Bool true) w et (sym (text_bool true)) (literal_bool true d) e
word_by_found d text w false false true en et ef e = fixed_found d text (codes "false") (v.Bool false) w ef (sym (text_bool false)) (literal_bool false d) e
word_by_found d text w false false false en et ef e = scalar_found d text w e

word_found : (d : ℕ) (text : List ℕ) (w : Value) → word_value name_of text ≡ Some w → IsTextOf d text w
unfolding word_value
word_found d text w e = word_by_found d text w (bytes_eq text (codes "null")) (bytes_eq text (codes "true")) (bytes_eq text (codes "false")) refl refl refl e

-- what is read of a value at the front of some bytes
abbrev IsAtFront : ℕ → List ℕ → Value → List ℕ → Type 0
IsAtFront d bytes w rest = (is_literal_at w d ≡ true) × (bytes ≡ value_text w ++ rest)

rest_holds : (d : ℕ) (bytes front rest : List ℕ) (o : Option Value) → front ++ rest ≡ bytes → ((w : Value) → o ≡ Some w → IsTextOf d front w) → Holds (with_rest rest o) (IsAtFront d bytes)
rest_holds d bytes front rest None whole h = none_holds (IsAtFront d bytes)
rest_holds d bytes front rest (Some w) whole h =
    let is = h w refl in
    done_holds w rest (IsAtFront d bytes) (is.0, sym whole ∙ ap (λ (z : List ℕ). z ++ rest) is.1)

quoted_holds : (rest : List ℕ) → Holds (quoted_at rest) (λ text left. (rest ≡ flat_map escape text ++ 34 ∷ left) × (is_utf8 text ≡ true))
quoted_holds rest = record { fact = λ x e. quoted_found rest x e }

quote_holds : (d : ℕ) (rest : List ℕ) → Holds (quoted_at rest >>= λ text. Some (v.Str text.0, text.1)) (IsAtFront d (34 ∷ rest))
unfolding quoted_text
quote_holds d rest =
    then_holds _ _ (quoted_holds rest) (λ text left p.
    done_holds (v.Str text) left _ (
      literal_str text d ∙ p.1,
      ap (λ (z : List ℕ). 34 ∷ z) (p.0 ∙ sym (append_assoc (flat_map escape text) (34 ∷ []) left)) ∙ ap (λ (z : List ℕ). z ++ left) (sym (text_str text)),
    ))

flat_holds : (d : ℕ) (bytes : List ℕ) → Holds (flat_at name_of bytes) (IsAtFront d bytes)
unfolding flat_at
flat_holds d [] = none_holds _
flat_holds d (sign ∷ rest) =
    let all : List ℕ = sign ∷ rest in
    if_holds (sign == 34) _ _ _
    (λ is. subst (λ z. Holds (quoted_at rest >>= λ text. Some (v.Str text.0, text.1)) (IsAtFront d (z ∷ rest))) (sym (eqb-true sign 34 is)) (quote_holds d rest))
    (λ other. rest_holds d all (until ends_word all) (from_first ends_word all) (word_value name_of (until ends_word all)) (cut_whole ends_word all) (λ w e. word_found d (until ends_word all) w e))

-- ---- items

separator_by : (sign : ℕ) (rest : List ℕ) (c o : Bool) → (sign == 93) ≡ c → (sign == 44) ≡ o
    → Holds (if c then Some (true, rest) else if o then Some (false, rest) else None) (λ ends left. sign ∷ rest ≡ (if ends then 93 else 44) ∷ left)
separator_by sign rest true o ec eo = done_holds true rest _ (ap (λ z. z ∷ rest) (eqb-true sign 93 ec))
separator_by sign rest false true ec eo = done_holds false rest _ (ap (λ z. z ∷ rest) (eqb-true sign 44 eo))
separator_by sign rest false false ec eo = none_holds _

separator_holds : (bytes : List ℕ) → Holds (separator_at bytes) (λ ends left. bytes ≡ (if ends then 93 else 44) ∷ left)
unfolding separator_at
separator_holds [] = none_holds _
separator_holds (sign ∷ rest) = separator_by sign rest (sign == 93) (sign == 44) refl refl

-- items before the bracket that closes their array
record AreItems (d : ℕ) (bytes : List ℕ) (ws : List Value) (rest : List ℕ) : Type 0 where
  first : Value
  others : List Value
  is : ws ≡ first ∷ others
  good : list_all (λ w. is_literal_at w d) (first ∷ others) ≡ true
  text : bytes ≡ value_text first ++ (others_text others ++ 93 ∷ rest)

all_true : (a b : Bool) → a ≡ true → b ≡ true → a && b ≡ true
all_true true b h k = k
all_true false b h k = h

after_separator : (item : List ℕ → Reading Value) (d n : ℕ) → ((bytes : List ℕ) → Holds (items_at item n bytes) (AreItems d bytes)) → (bytes : List ℕ) (ends : Bool) (w : Value) (r1 r2 : List ℕ)
    → IsAtFront d bytes w r1 → r1 ≡ (if ends then 93 else 44) ∷ r2 → Holds (if ends then Some (w ∷ [], r2) else (items_at item n r2 >>= λ others. Some (w ∷ others.0, others.1))) (AreItems d bytes)
after_separator item d n more bytes true w r1 r2 p q =
    done_holds (w ∷ []) r2 _ (record { first = w; others = []; is = refl; good = all_true (is_literal_at w d) true p.0 refl; text = p.1 ∙ ap (λ (z : List ℕ). value_text w ++ z) q })
after_separator item d n more bytes false w r1 r2 p q =
    then_holds _ _ (more r2) (λ ws left a.
    done_holds (w ∷ ws) left _ (record {
      first = w;
      others = ws;
      is = refl;
      good = all_true (is_literal_at w d) (list_all (λ x. is_literal_at x d) ws) p.0 (ap (list_all (λ x. is_literal_at x d)) a.is ∙ a.good);
      text = p.1 ∙ ap (λ (z : List ℕ). value_text w ++ z) (q ∙ ap (λ (z : List ℕ). 44 ∷ z) a.text ∙ sym (append_assoc (44 ∷ value_text a.first) (others_text a.others) (93 ∷ left))
          ∙ ap (λ (zs : List Value). others_text zs ++ 93 ∷ left) (sym a.is));
    }))

items_found : (item : List ℕ → Reading Value) (d : ℕ) → ((bytes : List ℕ) → Holds (item bytes) (IsAtFront d bytes)) → (n : ℕ) (bytes : List ℕ) → Holds (items_at item n bytes) (AreItems d bytes)
items_found item d each zero bytes = none_holds _
items_found item d each (suc n) bytes =
    then_holds _ _ (each bytes) (λ w r1 p.
    then_holds _ _ (separator_holds r1) (λ ends r2 q.
    after_separator item d n (items_found item d each n) bytes ends w r1 r2 p q))

closed_is : (bytes : List ℕ) → is_closed bytes ≡ true → bytes ≡ 93 ∷ drop 1 bytes
closed_is [] e = absurd cc
closed_is (sign ∷ rest) e = ap (λ z. z ∷ rest) (eqb-true sign 93 e)

open_is : (bytes : List ℕ) → is_array bytes ≡ true → bytes ≡ 91 ∷ drop 1 bytes
open_is [] e = absurd cc
open_is (sign ∷ rest) e = ap (λ z. z ∷ rest) (eqb-true sign 91 e)

array_text : (ws : List Value) (bytes rest : List ℕ) → bytes ≡ items_text ws ++ 93 ∷ rest → 91 ∷ bytes ≡ value_text (v.Array ws) ++ rest
array_text ws bytes rest e =
    ap (λ (z : List ℕ). 91 ∷ z) (e ∙ sym (append_assoc (items_text ws) (93 ∷ []) rest)) ∙ ap (λ (z : List ℕ). z ++ rest) (sym (text_array ws))

array_found : (item : List ℕ → Reading Value) (d : ℕ) → ((bytes : List ℕ) → Holds (item bytes) (IsAtFront d bytes)) → (bytes : List ℕ) → Holds (array_at item bytes) (IsAtFront (suc d) (91 ∷ bytes))
unfolding array_at
array_found item d each bytes =
    if_holds (is_closed bytes) _ _ _
    (λ is. done_holds (v.Array []) (drop 1 bytes) _ (literal_array [] d, array_text [] bytes (drop 1 bytes) (closed_is bytes is)))
    (λ other. then_holds _ _ (items_found item d each (length bytes) bytes) (λ ws rest a.
    done_holds (v.Array ws) rest _ (
      literal_array ws d ∙ ap (list_all (λ x. is_literal_at x d)) a.is ∙ a.good,
      array_text ws bytes rest (a.text ∙ sym (append_assoc (value_text a.first) (others_text a.others) (93 ∷ rest)) ∙ ap (λ (zs : List Value). items_text zs ++ 93 ∷ rest) (sym a.is)),
    )))

by_found : (array : List ℕ → Reading Value) (d : ℕ) → ((bytes : List ℕ) → Holds (array bytes) (IsAtFront d (91 ∷ bytes))) → (bytes : List ℕ) → Holds (value_by name_of array bytes) (IsAtFront d bytes)
unfolding value_by
by_found array d arrays bytes =
    if_holds (is_array bytes) _ _ _
    (λ is. subst (λ (z : List ℕ). Holds (array (drop 1 bytes)) (IsAtFront d z)) (sym (open_is bytes is)) (arrays (drop 1 bytes)))
    (λ other. flat_holds d bytes)

value_found : (d : ℕ) (bytes : List ℕ) → Holds (value_at name_of d bytes) (IsAtFront d bytes)
unfolding value_at
value_found zero bytes = by_found (λ _. None) 0 (λ rest. none_holds _) bytes
value_found (suc d) bytes = by_found (array_at (value_at name_of d)) (suc d) (array_found (value_at name_of d) d (value_found d)) bytes

-- ---- the laws

whole_is : (r : Reading Value) (w : Value) → if_whole r ≡ Some w → r ≡ Some (w, [])
whole_is None w e = absurd cc
whole_is (Some (x, [])) w e = ap (λ (z : Value). Some (z, [])) (some_same x w e)
whole_is (Some (x, b ∷ rest)) w e = absurd cc

read_was_printed : (text : List ℕ) (w : Value) → value_of text ≡ Some w → (is_literal w ≡ true) × (text ≡ value_text w)
unfolding value_of
read_was_printed text w e =
    let is = (value_found 64 text).fact (w, []) (whole_is (value_at name_of 64 text) w e) in
    (is.0, is.1 ∙ append-nil (value_text w))

pub printed_values_are_read : PrintedValuesAreRead
printed_values_are_read = printed_is_read

pub read_values_are_printed : ReadValuesArePrinted
read_values_are_printed = read_was_printed

pub values_have_own_texts : ValuesHaveOwnTexts
values_have_own_texts w x gw gx e = some_same w x (sym (printed_is_read w gw) ∙ ap value_of e ∙ printed_is_read x gx)
