-- What is printed is read.
use Rattle.std.proofs.Common.{◌≡◌, ℕ, ℤ, zero, suc, ◌+◌, ◌<◌, ◌≤◌, ◌==◌, Bool, true, false, ◌&&◌, Option, Some, None, List, [], ◌∷◌, ◌++◌, length, drop, refl, sym, ap, subst, ◌∙◌, append_assoc, append-nil, arith}
use Rattle.std.specs.Prelude.{if◌then◌else◌, codes}
use Rattle.std.specs.Fmt.{signed_decimal}
use Rattle.std.specs.List.{list_all, flat_map}
use Rattle.std.specs.Option.{option_map}
use Rattle.std.specs.Str.{is_utf8, bytes_eq}
use Rattle.std.proofs.lemmas.Bool.Decides.{nat_tests}
use Rattle.std.proofs.lemmas.List.{length-append}
use Rattle.sal_value.specs.declared.name.Name.{Name}
use Rattle.sal_value.specs.declared.value.Value.{Value, roll-Value, out-Value, roll-out-Value}
use Rattle.sal_value.specs.declared.value.Value.TheVariants as v
use Rattle.sal_value.specs.declared.value.Value.TheOpen.{Value-F}
use Rattle.sal_value.specs.Names.{name_text, NonePass, FirstPasses, until, from_first}
use Rattle.sal_value.specs.Spelling.{name_is_spelled}
use Rattle.sal_value.specs.Coding.{is_i32, name_in_range}
use Rattle.sal_value.proofs.Bytes.{both}
use Rattle.sal_literals.specs.Texts.{escape, quoted_text, value_text, is_literal_at, is_literal}
use Rattle.sal_literals.specs.code.Scanning.{Reading, ◌>>=◌, quoted_at}
use Rattle.sal_literals.specs.Reading.{int_of, name_of, ends_word, scalar_of, word_value, with_rest, flat_at, separator_at, items_at, is_closed, array_at, is_array, value_by, value_at, if_whole, value_of}
use Rattle.sal_literals.proofs.Equations.{text_null, text_int, text_bool, text_str, text_ref, text_array, others_text, items_text, literal_int, literal_str, literal_ref, literal_flat, literal_array}
use Rattle.sal_literals.proofs.Ints.{int_begins, int_word, int_again}
use Rattle.sal_literals.proofs.Scalars.{is_word_byte, word_none, until_at, rest_at, name_word, name_again}
use Rattle.sal_literals.proofs.Scanned.{quoted_again}

-- ---- values without parts

-- a word before what may follow it
flat_word : (sign : ℕ) (word rest : List ℕ) (w : Value) → (sign == 34) ≡ false → NonePass ends_word (sign ∷ word) → FirstPasses ends_word rest
    → word_value name_of (sign ∷ word) ≡ Some w → flat_at name_of ((sign ∷ word) ++ rest) ≡ Some (w, rest)
unfolding flat_at
flat_word sign word rest w quote none first is =
    let all : List ℕ = sign ∷ (word ++ rest) in
    ap (λ t. if t then (quoted_at (word ++ rest) >>= λ text. Some (v.Str text.0, text.1)) else with_rest (from_first ends_word all) (word_value name_of (until ends_word all))) quote
    ∙ ap (λ (z : List ℕ). with_rest z (word_value name_of (until ends_word all))) (rest_at ends_word (sign ∷ word) rest none first)
    ∙ ap (λ (z : List ℕ). with_rest rest (word_value name_of z)) (until_at ends_word (sign ∷ word) rest none first)
    ∙ ap (with_rest rest) is

null_is : word_value name_of (codes "null") ≡ Some v.Null
unfolding word_value
null_is = refl

true_is : word_value name_of (codes "true") ≡ Some (v.Bool true)
unfolding word_value
true_is = refl

false_is : word_value name_of (codes "false") ≡ Some (v.Bool false)
unfolding word_value
false_is = refl

-- a word that begins with no letter
scalar_is : (sign : ℕ) (word : List ℕ) → (sign == 110) ≡ false → (sign == 116) ≡ false → (sign == 102) ≡ false → word_value name_of (sign ∷ word) ≡ scalar_of name_of (sign ∷ word)
unfolding word_value
scalar_is sign word n t f =
    let scalar : Option Value = scalar_of name_of (sign ∷ word) in
    let null : bytes_eq (sign ∷ word) (codes "null") ≡ false = ap (λ b. b && bytes_eq word (codes "ull")) n in
    let yes' : bytes_eq (sign ∷ word) (codes "true") ≡ false = ap (λ b. b && bytes_eq word (codes "rue")) t in
    let no' : bytes_eq (sign ∷ word) (codes "false") ≡ false = ap (λ b. b && bytes_eq word (codes "alse")) f in
    ap (λ b. if b then Some v.Null else if bytes_eq (sign ∷ word) (codes "true") then Some (v.Bool true) else if bytes_eq (sign ∷ word) (codes "false") then Some (v.Bool false) else scalar) null
    ∙ ap (λ b. if b then Some (v.Bool true) else if bytes_eq (sign ∷ word) (codes "false") then Some (v.Bool false) else scalar) yes'
    ∙ ap (λ b. if b then Some (v.Bool false) else scalar) no'

int_scalar : (sign : ℕ) (word : List ℕ) → sign ≤ 57 → word_value name_of (sign ∷ word) ≡ option_map v.Int (int_of (sign ∷ word))
int_scalar sign word le =
    let at : (sign == 64) ≡ false = grind (arith, nat_tests) in
    scalar_is sign word (grind (arith, nat_tests)) (grind (arith, nat_tests)) (grind (arith, nat_tests))
    ∙ ap (λ b. if b then option_map v.Ref (name_of word) else option_map v.Int (int_of (sign ∷ word))) at

int_flat : (n : ℤ) (rest : List ℕ) → is_i32 n ≡ true → FirstPasses ends_word rest → flat_at name_of (signed_decimal n ++ rest) ≡ Some (v.Int n, rest)
int_flat n rest h first =
    let b = int_begins n h in
    let le = b.under in
    let words : list_all is_word_byte (b.first ∷ b.rest) ≡ true = ap (list_all is_word_byte) (sym b.is) ∙ int_word n h in
    let is : word_value name_of (b.first ∷ b.rest) ≡ Some (v.Int n) =
    int_scalar b.first b.rest le ∙ ap (λ (z : List ℕ). option_map v.Int (int_of z)) (sym b.is) ∙ ap (option_map v.Int) (int_again n h) in
    ap (λ (z : List ℕ). flat_at name_of (z ++ rest)) b.is
    ∙ flat_word b.first b.rest rest (v.Int n) (grind (arith, nat_tests)) (word_none (b.first ∷ b.rest) words) first is

ref_is : (text : List ℕ) → word_value name_of (64 ∷ text) ≡ option_map v.Ref (name_of text)
ref_is text = scalar_is 64 text refl refl refl

ref_flat : (n : Name) (rest : List ℕ) → name_in_range n ≡ true → name_is_spelled n ≡ true → FirstPasses ends_word rest → flat_at name_of ((64 ∷ name_text n) ++ rest) ≡ Some (v.Ref n, rest)
ref_flat n rest r s first =
    flat_word 64 (name_text n) rest (v.Ref n) refl (refl, word_none (name_text n) (name_word n r s)) first (ref_is (name_text n) ∙ ap (option_map v.Ref) (name_again n r s))

str_flat : (t rest : List ℕ) → is_utf8 t ≡ true → flat_at name_of (quoted_text t ++ rest) ≡ Some (v.Str t, rest)
unfolding flat_at quoted_text
str_flat t rest good =
    ap (λ (z : List ℕ). quoted_at z >>= λ text. Some (v.Str text.0, text.1)) (append_assoc (flat_map escape t) (34 ∷ []) rest)
    ∙ ap (λ (r : Reading (List ℕ)). r >>= λ text. Some (v.Str text.0, text.1)) (quoted_again t rest good)

bool_flat : (b : Bool) (rest : List ℕ) → FirstPasses ends_word rest → flat_at name_of ((if b then codes "true" else codes "false") ++ rest) ≡ Some (v.Bool b, rest)
bool_flat true rest first = flat_word 116 (codes "rue") rest (v.Bool true) refl (refl, (refl, (refl, (refl, tt)))) first true_is
bool_flat false rest first = flat_word 102 (codes "alse") rest (v.Bool false) refl (refl, (refl, (refl, (refl, (refl, tt))))) first false_is

null_flat : (rest : List ℕ) → FirstPasses ends_word rest → flat_at name_of (codes "null" ++ rest) ≡ Some (v.Null, rest)
null_flat rest first = flat_word 110 (codes "ull") rest v.Null refl (refl, (refl, (refl, (refl, tt)))) first null_is

-- ---- items

-- what an item is to give when it is read again
abbrev pub EachAgain : (List ℕ → Reading Value) → (Value → Bool) → Type 0
EachAgain item good = (w : Value) (rest : List ℕ) → good w ≡ true → FirstPasses ends_word rest → item (value_text w ++ rest) ≡ Some (w, rest)

after_first : (ws : List Value) (rest : List ℕ) → FirstPasses ends_word (others_text ws ++ 93 ∷ rest)
after_first [] rest = refl
after_first (w ∷ ws) rest = refl

ends_again : (rest : List ℕ) → separator_at (93 ∷ rest) ≡ Some (true, rest)
unfolding separator_at
ends_again rest = refl

comma_again : (rest : List ℕ) → separator_at (44 ∷ rest) ≡ Some (false, rest)
unfolding separator_at
comma_again rest = refl

-- the items from the separator on
abbrev from_separator : (List ℕ → Reading Value) → ℕ → Value → Reading Bool → Reading (List Value)
from_separator item n w read = read >>= λ ends. if ends.0 then Some (w ∷ [], ends.1) else (items_at item n ends.1 >>= λ others. Some (w ∷ others.0, others.1))

items_again : (item : List ℕ → Reading Value) (good : Value → Bool) → EachAgain item good → (ws : List Value) (w : Value) (n : ℕ) (rest : List ℕ)
    → good w ≡ true → list_all good ws ≡ true → length ws < n → items_at item n (value_text w ++ (others_text ws ++ 93 ∷ rest)) ≡ Some (w ∷ ws, rest)
items_again item good each ws w zero rest g gs lt = absurd (omega arith)
items_again item good each [] w (suc n) rest g gs lt =
    ap (λ (r : Reading Value). r >>= λ first. from_separator item n first.0 (separator_at first.1)) (each w (93 ∷ rest) g refl)
    ∙ ap (from_separator item n w) (ends_again rest)
items_again item good each (x ∷ ws) w (suc n) rest g gs lt =
    let parts = both (good x) (list_all good ws) gs in
    let text : List ℕ = value_text x ++ (others_text ws ++ 93 ∷ rest) in
    let left : others_text (x ∷ ws) ++ 93 ∷ rest ≡ 44 ∷ text = ap (λ (z : List ℕ). 44 ∷ z) (append_assoc (value_text x) (others_text ws) (93 ∷ rest)) in
    ap (λ (r : Reading Value). r >>= λ first. from_separator item n first.0 (separator_at first.1)) (each w (others_text (x ∷ ws) ++ 93 ∷ rest) g refl)
    ∙ ap (λ (z : List ℕ). from_separator item n w (separator_at z)) left
    ∙ ap (from_separator item n w) (comma_again text)
    ∙ ap (λ (r : Reading (List Value)). r >>= λ others. Some (w ∷ others.0, others.1)) (items_again item good each ws x n rest parts.0 parts.1 (omega arith))

others_long : (ws : List Value) → length ws ≤ length (others_text ws)
others_long [] = omega arith
others_long (w ∷ ws) =
    let more = others_long ws in
    let size : length (others_text (w ∷ ws)) ≡ 1 + (length (value_text w) + length (others_text ws)) = length-append (44 ∷ value_text w) (others_text ws) ∙ omega arith in
    omega arith

-- ---- first bytes

-- a text that doesn't begin with a bracket that closes or, but for arrays, opens
pub record Opens (text : List ℕ) : Type 0 where
  pub first : ℕ
  pub rest : List ℕ
  pub is : text ≡ first ∷ rest
  pub not_closed : (first == 93) ≡ false

opens : (text : List ℕ) (first : ℕ) (rest : List ℕ) → text ≡ first ∷ rest → (first == 93) ≡ false → Opens text
opens text first rest e n = record { first = first; rest = rest; is = e; not_closed = n }

layer_opens : (l : Value-F Value) (d : ℕ) → is_literal_at (roll-Value l) d ≡ true → Opens (value_text (roll-Value l))
unfolding quoted_text
layer_opens Value-F.Null d h = opens _ 110 (codes "ull") (ap value_text v.rolls-Null ∙ text_null) refl
layer_opens (Value-F.Int n) d h =
    let good : is_i32 n ≡ true = sym (literal_int n d) ∙ ap (λ w. is_literal_at w d) (sym (v.rolls-Int n)) ∙ h in
    let b = int_begins n good in
    let le = b.under in
    opens _ b.first b.rest (ap value_text (v.rolls-Int n) ∙ text_int n ∙ b.is) (grind (arith, nat_tests))
layer_opens (Value-F.Bool true) d h = opens _ 116 (codes "rue") (ap value_text (v.rolls-Bool true) ∙ text_bool true) refl
layer_opens (Value-F.Bool false) d h = opens _ 102 (codes "alse") (ap value_text (v.rolls-Bool false) ∙ text_bool false) refl
layer_opens (Value-F.Str t) d h = opens _ 34 (flat_map escape t ++ 34 ∷ []) (ap value_text (v.rolls-Str t) ∙ text_str t) refl
layer_opens (Value-F.Array ws) d h = opens _ 91 (items_text ws ++ 93 ∷ []) (ap value_text (v.rolls-Array ws) ∙ text_array ws) refl
layer_opens (Value-F.Ref n) d h = opens _ 64 (name_text n) (ap value_text (v.rolls-Ref n) ∙ text_ref n) refl

value_opens : (w : Value) (d : ℕ) → is_literal_at w d ≡ true → Opens (value_text w)
value_opens w d h =
    subst (λ z. Opens (value_text z)) (roll-out-Value w) (layer_opens (out-Value w) d (ap (λ z. is_literal_at z d) (roll-out-Value w) ∙ h))

-- ---- arrays

closed_at : (text rest : List ℕ) → Opens text → is_closed (text ++ rest) ≡ false
closed_at text rest o = ap (λ (z : List ℕ). is_closed (z ++ rest)) o.is ∙ o.not_closed

full_again : (item : List ℕ → Reading Value) (good : Value → Bool) → EachAgain item good → (w : Value) (ws : List Value) (rest : List ℕ)
    → good w ≡ true → list_all good ws ≡ true → Opens (value_text w) → array_at item ((items_text (w ∷ ws) ++ 93 ∷ []) ++ rest) ≡ Some (v.Array (w ∷ ws), rest)
unfolding array_at
full_again item good each w ws rest g gs o =
    let bytes : List ℕ = value_text w ++ (others_text ws ++ 93 ∷ rest) in
    let whole : (items_text (w ∷ ws) ++ 93 ∷ []) ++ rest ≡ bytes =
    append_assoc (items_text (w ∷ ws)) (93 ∷ []) rest ∙ append_assoc (value_text w) (others_text ws) (93 ∷ rest) in
    let size : length bytes ≡ length (value_text w) + (length (others_text ws) + (1 + length rest)) =
    length-append (value_text w) (others_text ws ++ 93 ∷ rest) ∙ ap (λ k. length (value_text w) + k) (length-append (others_text ws) (93 ∷ rest) ∙ omega arith) in
    let enough : length ws < length bytes = omega (arith, others_long ws) in
    ap (array_at item) whole
    ∙ ap (λ t. if t then Some (v.Array [], drop 1 bytes) else (items_at item (length bytes) bytes >>= λ items. Some (v.Array items.0, items.1))) (closed_at (value_text w) (others_text ws ++ 93 ∷ rest) o)
    ∙ ap (λ (r : Reading (List Value)). r >>= λ items. Some (v.Array items.0, items.1)) (items_again item good each ws w (length bytes) rest g gs enough)

empty_again : (item : List ℕ → Reading Value) (rest : List ℕ) → array_at item ((items_text [] ++ 93 ∷ []) ++ rest) ≡ Some (v.Array [], rest)
unfolding array_at
empty_again item rest = refl

array_again : (item : List ℕ → Reading Value) (d : ℕ) → EachAgain item (λ w. is_literal_at w d) → (ws : List Value) (rest : List ℕ)
    → list_all (λ w. is_literal_at w d) ws ≡ true → array_at item ((items_text ws ++ 93 ∷ []) ++ rest) ≡ Some (v.Array ws, rest)
array_again item d each [] rest gs = empty_again item rest
array_again item d each (w ∷ ws) rest gs =
    let parts = both (is_literal_at w d) (list_all (λ x. is_literal_at x d) ws) gs in
    full_again item (λ x. is_literal_at x d) each w ws rest parts.0 parts.1 (value_opens w d parts.0)

-- ---- values

-- what a value is to give when it is read again
abbrev IsReadAgain : (List ℕ → Reading Value) → ℕ → Value → Type 0
IsReadAgain array d w = (rest : List ℕ) → is_literal_at w d ≡ true → FirstPasses ends_word rest → value_by name_of array (value_text w ++ rest) ≡ Some (w, rest)

flat_by : (array : List ℕ → Reading Value) (text rest : List ℕ) (w : Value) → is_array (text ++ rest) ≡ false → flat_at name_of (text ++ rest) ≡ Some (w, rest) → value_by name_of array (text ++ rest) ≡ Some (w, rest)
unfolding value_by
flat_by array text rest w open' is = ap (λ t. if t then array (drop 1 (text ++ rest)) else flat_at name_of (text ++ rest)) open' ∙ is

array_by : (array : List ℕ → Reading Value) (text rest : List ℕ) → value_by name_of array ((91 ∷ text) ++ rest) ≡ array (text ++ rest)
unfolding value_by
array_by array text rest = refl

at : (array : List ℕ → Reading Value) (w : Value) (text rest : List ℕ) → value_text w ≡ text → value_by name_of array (text ++ rest) ≡ Some (w, rest) → value_by name_of array (value_text w ++ rest) ≡ Some (w, rest)
at array w text rest e h = ap (λ (z : List ℕ). value_by name_of array (z ++ rest)) e ∙ h

int_open : (n : ℤ) (rest : List ℕ) → is_i32 n ≡ true → is_array (signed_decimal n ++ rest) ≡ false
int_open n rest h =
    let b = int_begins n h in
    let le = b.under in
    ap (λ (z : List ℕ). is_array (z ++ rest)) b.is ∙ grind (arith, nat_tests)

bool_open : (b : Bool) (rest : List ℕ) → is_array ((if b then codes "true" else codes "false") ++ rest) ≡ false
bool_open true rest = refl
bool_open false rest = refl

quote_open : (t rest : List ℕ) → is_array (quoted_text t ++ rest) ≡ false
unfolding quoted_text
quote_open t rest = refl

layer_again : (array : List ℕ → Reading Value) (d : ℕ) → ((ws : List Value) → IsReadAgain array d (v.Array ws)) → (l : Value-F Value) → IsReadAgain array d (roll-Value l)
layer_again array d arrays Value-F.Null =
    subst (IsReadAgain array d) (sym v.rolls-Null) (λ rest h first. at array v.Null (codes "null") rest text_null (flat_by array (codes "null") rest v.Null refl (null_flat rest first)))
layer_again array d arrays (Value-F.Int n) =
    subst (IsReadAgain array d) (sym (v.rolls-Int n)) (λ rest h first.
    let good : is_i32 n ≡ true = sym (literal_int n d) ∙ h in
    at array (v.Int n) (signed_decimal n) rest (text_int n) (flat_by array (signed_decimal n) rest (v.Int n) (int_open n rest good) (int_flat n rest good first)))
layer_again array d arrays (Value-F.Bool b) =
    subst (IsReadAgain array d) (sym (v.rolls-Bool b)) (λ rest h first.
    let text : List ℕ = if b then codes "true" else codes "false" in
    at array (v.Bool b) text rest (text_bool b) (flat_by array text rest (v.Bool b) (bool_open b rest) (bool_flat b rest first)))
layer_again array d arrays (Value-F.Str t) =
    subst (IsReadAgain array d) (sym (v.rolls-Str t)) (λ rest h first.
    at array (v.Str t) (quoted_text t) rest (text_str t) (flat_by array (quoted_text t) rest (v.Str t) (quote_open t rest) (str_flat t rest (sym (literal_str t d) ∙ h))))
layer_again array d arrays (Value-F.Array ws) = subst (IsReadAgain array d) (sym (v.rolls-Array ws)) (arrays ws)
layer_again array d arrays (Value-F.Ref n) =
    subst (IsReadAgain array d) (sym (v.rolls-Ref n)) (λ rest h first.
    let parts = both (name_in_range n) (name_is_spelled n) (sym (literal_ref n d) ∙ h) in
    at array (v.Ref n) (64 ∷ name_text n) rest (text_ref n) (flat_by array (64 ∷ name_text n) rest (v.Ref n) refl (ref_flat n rest parts.0 parts.1 first)))

each_again : (array : List ℕ → Reading Value) (d : ℕ) → ((ws : List Value) → IsReadAgain array d (v.Array ws)) → (w : Value) → IsReadAgain array d w
each_again array d arrays w = subst (IsReadAgain array d) (roll-out-Value w) (layer_again array d arrays (out-Value w))

pub value_again : (d : ℕ) (w : Value) (rest : List ℕ) → is_literal_at w d ≡ true → FirstPasses ends_word rest → value_at name_of d (value_text w ++ rest) ≡ Some (w, rest)
unfolding value_at
value_again zero w rest h first =
    each_again (λ _. None) 0 (λ ws rest h first. let none : is_literal_at (v.Array ws) 0 ≡ false = literal_flat ws in absurd cc) w rest h first
value_again (suc d) w rest h first =
    each_again (array_at (value_at name_of d)) (suc d) (λ ws rest h first.
    at (array_at (value_at name_of d)) (v.Array ws) (91 ∷ (items_text ws ++ 93 ∷ [])) rest (text_array ws)
    (array_by (array_at (value_at name_of d)) (items_text ws ++ 93 ∷ []) rest ∙ array_again (value_at name_of d) d (value_again d) ws rest (sym (literal_array ws d) ∙ h))) w rest h first

pub printed_is_read : (w : Value) → is_literal w ≡ true → value_of (value_text w) ≡ Some w
unfolding value_of
printed_is_read w h =
    ap (λ (z : List ℕ). if_whole (value_at name_of 64 z)) (sym (append-nil (value_text w))) ∙ ap if_whole (value_again 64 w [] h tt)
