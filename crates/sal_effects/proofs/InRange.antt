-- Values that handlers make are in range.
use Rattle.std.proofs.Common.{◌≡◌, ℕ, zero, suc, ◌-◌, ◌<◌, ℤ, pos, negsuc, Bool, true, false, ◌&&◌, ◌||◌, if◌then◌else◌, List, [], ◌∷◌, ◌++◌, length, map, Ok, Err, refl, sym, ap, subst, ◌∙◌, arith}
use Rattle.std.specs.Prelude.{nat_lt, slice_set, replicate, codes}
use Rattle.std.specs.Int.{w32, cast_signed, int_wrap, int_wrapping_add, int_wrapping_div}
use Rattle.std.specs.Int.Signed.{rem_z, mag, mag_rem}
use Rattle.std.specs.Fmt.{signed_decimal}
use Rattle.std.specs.List.{list_all}
use Rattle.std.specs.Str.{is_utf8, IsUtf8}
use Rattle.std.proofs.lemmas.Bool.{lt-ltb, ltb-true, ltb-false}
use Rattle.std.proofs.lemmas.Fmt.{IsAscii-signed}
use Rattle.std.proofs.lemmas.Int.{SFits-int_wrap}
use Rattle.std.proofs.lemmas.Str.{IsUtf8-append, IsUtf8-nil, IsUtf8-from_ascii, IsUtf8-from_is_utf8, is_utf8-from_IsUtf8}
use Rattle.sal_value.specs.declared.name.Uan.{Uan}
use Rattle.sal_value.specs.declared.name.Name.{Name}
use Rattle.sal_value.specs.declared.name.Name.TheVariants as name
use Rattle.sal_value.specs.declared.value.Value.{Value, roll-Value, out-Value, roll-out-Value, map-Value, fold-roll-Value}
use Rattle.sal_value.specs.declared.value.Value.TheVariants as v
use Rattle.sal_value.specs.declared.value.Value.TheOpen.{Value-F}
use Rattle.sal_value.specs.Coding.{is_i32, name_in_range, range_step, in_range}
use Rattle.sal_value.specs.Spelling.{is_legal}
use Rattle.sal_ast.specs.declared.expression.Op.{Op}
use Rattle.sal_ast.specs.declared.expression.Op.TheVariants as op
use Rattle.sal_ast.specs.declared.program.BaseName.{BaseName}
use Rattle.sal_ast.specs.declared.program.BaseName.TheVariants as base
use Rattle.sal_ast.specs.declared.program.TypeName.{TypeName}
use Rattle.sal_mail.specs.declared.fault.Trap.TheVariants.{TooLarge}
use Rattle.sal_handler.specs.Evaluation.{OrTrap, and_then}
use Rattle.sal_handler.specs.Values as w
use Rattle.sal_handler.specs.WellFormed.{EachOf}
use Rattle.sal_effects.specs.Ranges.{InRange}
use Rattle.sal_effects.proofs.Changes.{Values}
use Rattle.sal_effects.proofs.Running.{each_set}

-- ---- ranges, form by form

pub range_roll : (l : Value-F Value) → in_range (roll-Value l) ≡ range_step (map-Value Value Bool in_range l)
unfolding in_range
range_roll l = fold-roll-Value Bool range_step l

pub range_null : InRange v.Null
range_null = ap in_range (sym v.rolls-Null) ∙ range_roll Value-F.Null

pub range_bool : (b : Bool) → InRange (v.Bool b)
range_bool b = ap in_range (sym (v.rolls-Bool b)) ∙ range_roll (Value-F.Bool b)

pub range_int : (n : ℤ) → in_range (v.Int n) ≡ is_i32 n
range_int n = ap in_range (sym (v.rolls-Int n)) ∙ range_roll (Value-F.Int n)

pub range_str : (t : List ℕ) → in_range (v.Str t) ≡ is_utf8 t
range_str t = ap in_range (sym (v.rolls-Str t)) ∙ range_roll (Value-F.Str t)

pub range_ref : (n : Name) → in_range (v.Ref n) ≡ name_in_range n
range_ref n = ap in_range (sym (v.rolls-Ref n)) ∙ range_roll (Value-F.Ref n)

pub all_in : (items : List Value) → list_all (λ b. b) (map in_range items) ≡ list_all in_range items
all_in [] = refl
all_in (x ∷ xs) = ap (λ b. in_range x && b) (all_in xs)

pub range_array : (items : List Value) → in_range (v.Array items) ≡ list_all in_range items
range_array items = ap in_range (sym (v.rolls-Array items)) ∙ range_roll (Value-F.Array items) ∙ all_in items

pub split : (a b : Bool) → a && b ≡ true → (a ≡ true) × (b ≡ true)
split true b e = (refl, e)
split false b e = absurd cc

pub both : (a b : Bool) → a ≡ true → b ≡ true → a && b ≡ true
both true true p q = refl
both true false p q = absurd cc
both false b p q = absurd cc

pub each_in : (items : List Value) → list_all in_range items ≡ true → EachOf InRange items
each_in [] e = tt
each_in (x ∷ xs) e = let p = split (in_range x) (list_all in_range xs) e in (p.0, each_in xs p.1)

pub in_each : (items : List Value) → EachOf InRange items → list_all in_range items ≡ true
in_each [] e = refl
in_each (x ∷ xs) e = both (in_range x) (list_all in_range xs) e.0 (in_each xs e.1)

pub array_in : (items : List Value) → EachOf InRange items → InRange (v.Array items)
array_in items e = range_array items ∙ in_each items e

-- ---- whole numbers

-- the bits of 32, whatever they are
pub cast_i32 : (n : ℕ) → is_i32 (cast_signed w32 n) ≡ true
cast_i32 n = at (nat_lt n 2147483648) refl
  where
    at : (b : Bool) → nat_lt n 2147483648 ≡ b → is_i32 (cast_signed w32 n) ≡ true
    at true e = rw e (e)
    at false e = rw e (lt-ltb (4294967296 - suc n) 2147483648 (omega (arith, ltb-false n 2147483648 e)))

pub cast_in : (n : ℕ) → InRange (v.Int (cast_signed w32 n))
cast_in n = range_int (cast_signed w32 n) ∙ cast_i32 n

pub low_i32 : (z : ℤ) → mag z < 2147483648 → is_i32 z ≡ true
low_i32 (pos n) l = lt-ltb n 2147483648 l
low_i32 (negsuc n) l = lt-ltb n 2147483648 l

pub i32_low : (z : ℤ) → is_i32 z ≡ true → mag z < 2147483648
i32_low (pos n) e = ltb-true n 2147483648 e
i32_low (negsuc n) e = ltb-true n 2147483648 e

pub wrap_in : (z : ℤ) → InRange (v.Int (int_wrap w32 z))
wrap_in z = range_int (int_wrap w32 z) ∙ low_i32 (int_wrap w32 z) (SFits-int_wrap w32 z).sfits

pub rem_in : (a b : ℤ) → is_i32 a ≡ true → InRange (v.Int (rem_z a b))
rem_in a b e = range_int (rem_z a b) ∙ low_i32 (rem_z a b) (omega (arith, mag_rem a b, i32_low a e))

pub int_in_form : (l : Value-F Value) → InRange (roll-Value l) → is_i32 (w.int_in l) ≡ true
int_in_form (Value-F.Int n) e = sym (range_int n) ∙ (ap in_range (sym (v.rolls-Int n)) ∙ e)
int_in_form (Value-F.Bool b) e = refl
int_in_form (Value-F.Str t) e = refl
int_in_form (Value-F.Array items) e = refl
int_in_form (Value-F.Ref n) e = refl
int_in_form Value-F.Null e = refl

pub int_of_in : (x : Value) → InRange x → is_i32 (w.int_of x) ≡ true
unfolding w.int_of
int_of_in x e = int_in_form (out-Value x) (subst InRange (sym (roll-out-Value x)) e)

-- ---- texts

pub word_utf8 : (b : Bool) → IsUtf8 (if b then codes "true" else codes "false")
unfolding lib.Utf8.encode
word_utf8 true = (codes "true", (refl, refl))
word_utf8 false = (codes "false", (refl, refl))

pub text_form : (l : Value-F Value) → InRange (roll-Value l) → IsUtf8 (w.value_text_in l)
text_form (Value-F.Int n) e = IsUtf8-from_ascii (signed_decimal n) (IsAscii-signed n (omega (arith, i32_low n (sym (range_int n) ∙ (ap in_range (sym (v.rolls-Int n)) ∙ e)))))
text_form (Value-F.Bool b) e = word_utf8 b
text_form (Value-F.Str t) e = IsUtf8-from_is_utf8 t (sym (range_str t) ∙ (ap in_range (sym (v.rolls-Str t)) ∙ e))
text_form (Value-F.Array items) e = IsUtf8-nil
text_form (Value-F.Ref n) e = IsUtf8-nil
text_form Value-F.Null e = IsUtf8-nil

pub text_utf8 : (x : Value) → InRange x → IsUtf8 (w.value_text x)
unfolding w.value_text
text_utf8 x e = text_form (out-Value x) (subst InRange (sym (roll-out-Value x)) e)

pub text_in : (t : List ℕ) → IsUtf8 t → InRange (v.Str t)
text_in t u = range_str t ∙ is_utf8-from_IsUtf8 t u

-- ---- what was tested is the value itself

pub within_same : (x y : Value) → w.within_limits x ≡ Ok y → x ≡ y
within_same x y e = at (is_legal x) e
  where
    at : (b : Bool) → (if b then Ok x else Err TooLarge) ≡ Ok y → x ≡ y
    at true e = cc
    at false e = absurd cc

pub within_in : (x y : Value) → InRange x → w.within_limits x ≡ Ok y → InRange y
within_in x y h e = subst InRange (within_same x y e) h

pub ok_in : (x y : Value) → InRange x → ◌≡◌ {A = OrTrap Value} (Ok x) (Ok y) → InRange y
ok_in x y h e = let same : x ≡ y = cc in subst InRange same h

-- ---- operators

pub plus_in : (a b y : Value) → InRange a → InRange b → w.plus a b ≡ Ok y → InRange y
unfolding w.plus
plus_in a b y g h e = at (w.is_text_value a || w.is_text_value b) e
  where
    at : (t : Bool) → (if t then w.within_limits (v.Str (w.value_text a ++ w.value_text b)) else Ok (v.Int (int_wrapping_add w32 (w.int_of a) (w.int_of b)))) ≡ Ok y → InRange y
    at true e = within_in (v.Str (w.value_text a ++ w.value_text b)) y (text_in (w.value_text a ++ w.value_text b) (IsUtf8-append (w.value_text a) (w.value_text b) (text_utf8 a g) (text_utf8 b h))) e
    at false e = ok_in (v.Int (int_wrapping_add w32 (w.int_of a) (w.int_of b))) y (cast_in _) e

pub divided_in : (by : ℤ → ℤ → ℤ) (a b : ℤ) (y : Value) → ((d : ℤ) → InRange (v.Int (by a d))) → w.quotient_by by a b ≡ Ok y → InRange y
divided_in by a (pos zero) y h e = absurd cc
divided_in by a (pos (suc n)) y h e = ok_in (v.Int (by a (pos (suc n)))) y (h (pos (suc n))) e
divided_in by a (negsuc n) y h e = ok_in (v.Int (by a (negsuc n))) y (h (negsuc n)) e

pub operated_in : (o : Op) (a b y : Value) → InRange a → InRange b → w.operate o a b ≡ Ok y → InRange y
unfolding w.operate
operated_in op.Or a b y g h e = ok_in b y h e
operated_in op.And a b y g h e = ok_in b y h e
operated_in op.Same a b y g h e = ok_in _ y (range_bool _) e
operated_in op.Other a b y g h e = ok_in _ y (range_bool _) e
operated_in op.Less a b y g h e = ok_in _ y (range_bool _) e
operated_in op.LessEq a b y g h e = ok_in _ y (range_bool _) e
operated_in op.Greater a b y g h e = ok_in _ y (range_bool _) e
operated_in op.GreaterEq a b y g h e = ok_in _ y (range_bool _) e
operated_in op.Add a b y g h e = plus_in a b y g h e
operated_in op.Sub a b y g h e = ok_in _ y (cast_in _) e
operated_in op.Mul a b y g h e = ok_in _ y (cast_in _) e
operated_in op.Div a b y g h e = divided_in (int_wrapping_div w32) (w.int_of a) (w.int_of b) y (λ d. cast_in _) e
operated_in op.Rem a b y g h e = divided_in rem_z (w.int_of a) (w.int_of b) y (λ d. rem_in (w.int_of a) d (int_of_in a g)) e

-- ---- arrays

pub items_form : (l : Value-F Value) → InRange (roll-Value l) → EachOf InRange (w.items_in l)
items_form (Value-F.Array items) e = each_in items (sym (range_array items) ∙ (ap in_range (sym (v.rolls-Array items)) ∙ e))
items_form (Value-F.Int n) e = tt
items_form (Value-F.Bool b) e = tt
items_form (Value-F.Str t) e = tt
items_form (Value-F.Ref n) e = tt
items_form Value-F.Null e = tt

pub items_in : (x : Value) → InRange x → EachOf InRange (w.items_of x)
unfolding w.items_of
items_in x e = items_form (out-Value x) (subst InRange (sym (roll-out-Value x)) e)

pub at_in : (items : List Value) (i : ℕ) → EachOf InRange items → InRange (w.item_at items i)
at_in [] i p = range_null
at_in (x ∷ xs) zero p = p.0
at_in (x ∷ xs) (suc i) p = at_in xs i p.1

pub item_in : (x y : Value) (n : ℤ) → InRange x → w.item x n ≡ Ok y → InRange y
unfolding w.item
item_in x y n h e = at (w.checked_index n (length (w.items_of x))) e
  where
    at : (o : OrTrap ℕ) → and_then o (λ i. Ok (w.item_at (w.items_of x) i)) ≡ Ok y → InRange y
    at (Ok i) e = ok_in (w.item_at (w.items_of x) i) y (at_in (w.items_of x) i (items_in x h)) e
    at (Err k) e = absurd cc

pub put_in : (old : Value) (is : List ℤ) (new y : Value) → InRange old → InRange new → w.put_item old is new ≡ Ok y → InRange y
unfolding w.put_item
put_in old [] new y g h e = ok_in new y h e
put_in old (n ∷ rest) new y g h e = at (w.checked_index n (length (w.items_of old))) e (λ i z q. put_in (w.item_at (w.items_of old) i) rest new z (at_in (w.items_of old) i (items_in old g)) h q)
  where
    there : (i : ℕ) (o : OrTrap Value) → ((z : Value) → o ≡ Ok z → InRange z) → and_then o (λ z. Ok (v.Array (slice_set (w.items_of old) i z))) ≡ Ok y → InRange y
    there i (Ok z) good e = ok_in (v.Array (slice_set (w.items_of old) i z)) y (array_in (slice_set (w.items_of old) i z) (each_set InRange (w.items_of old) i z (items_in old g) (good z refl))) e
    there i (Err k) good e = absurd cc

    at : (o : OrTrap ℕ) → and_then o (λ i. and_then (w.put_item (w.item_at (w.items_of old) i) rest new) (λ z. Ok (v.Array (slice_set (w.items_of old) i z)))) ≡ Ok y
        → ((i : ℕ) (z : Value) → w.put_item (w.item_at (w.items_of old) i) rest new ≡ Ok z → InRange z) → InRange y
    at (Ok i) e again = there i (w.put_item (w.item_at (w.items_of old) i) rest new) (again i) e
    at (Err k) e again = absurd cc

pub assigned_in : (old : Value) (is : List ℤ) (new y : Value) → InRange old → InRange new → w.value_after_assign old is new ≡ Ok y → InRange y
unfolding w.value_after_assign
assigned_in old [] new y g h e = ok_in new y h e
assigned_in old (n ∷ rest) new y g h e = at (w.put_item old (n ∷ rest) new) (λ z q. put_in old (n ∷ rest) new z g h q) e
  where
    at : (o : OrTrap Value) → ((z : Value) → o ≡ Ok z → InRange z) → and_then o w.within_limits ≡ Ok y → InRange y
    at (Ok z) good e = within_in z y (good z refl) e
    at (Err k) good e = absurd cc

pub base_in : (b : BaseName) → InRange (w.default_base b)
base_in base.Int = range_int (pos 0)
base_in base.Boolean = range_bool false
base_in base.Str = text_in [] IsUtf8-nil
base_in (base.Actor name) = range_null

pub with_in : (b : BaseName) (dims : ℕ) → InRange (w.default_with b dims)
with_in b zero = base_in b
with_in b (suc dims) = array_in [] tt

pub default_in : (t : TypeName) → InRange (w.default_of t)
unfolding w.default_of
default_in t = with_in t.base t.dims

pub default_item_in : (t : TypeName) → InRange (w.default_item t)
unfolding w.default_item
default_item_in t = with_in t.base (t.dims - 1)

pub each_same : (n : ℕ) (x : Value) → InRange x → EachOf InRange (replicate n x)
each_same zero x h = tt
each_same (suc n) x h = (h, each_same n x h)

pub array_made : (t : TypeName) (n : ℤ) (y : Value) → w.new_array t n ≡ Ok y → InRange y
array_made t (negsuc n) y e = absurd cc
array_made t (pos n) y e = at (nat_lt 4096 n) e
  where
    at : (b : Bool) → (if b then Err TooLarge else w.within_limits (v.Array (replicate n (w.default_item t)))) ≡ Ok y → InRange y
    at true e = absurd cc
    at false e = within_in (v.Array (replicate n (w.default_item t))) y (array_in (replicate n (w.default_item t)) (each_same n (w.default_item t) (default_item_in t))) e

pub uan_in : (u : Uan) → InRange (v.Ref (name.Uan u))
unfolding name_in_range
uan_in u = range_ref (name.Uan u)

abbrev pub ranged : Values
ranged = record {
  Holds = InRange;
  Literal = λ text. is_utf8 text ≡ true;
  null = range_null;
  number = λ n. cast_in n;
  text = λ text x l e. within_in (v.Str text) x (range_str text ∙ l) e;
  truth = range_bool;
  negated = λ x. cast_in _;
  size = λ x. wrap_in _;
  item = item_in;
  operated = operated_in;
  array = array_made;
  list = λ xs y h e. within_in (v.Array xs) y (array_in xs h) e;
  assigned = assigned_in;
  default = default_in;
  named = λ text u e. uan_in u;
}
