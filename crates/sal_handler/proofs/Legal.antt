-- What operators give of legal values is legal.
use Rattle.std.proofs.Common.{◌≡◌, ℕ, zero, suc, ◌≤◌, ℤ, pos, negsuc, Bool, true, false, ◌&&◌, ◌||◌, if◌then◌else◌, List, [], ◌∷◌, ◌++◌, length, Ok, Err, refl, sym, ap, subst, ◌∙◌, arith, length-append}
use Rattle.std.specs.Prelude.{nat_le, nat_lt, flat_map, replicate}
use Rattle.std.specs.List.{list_all}
use Rattle.std.specs.Int.{w16, w32, w64, to_be_bytes, int_wrapping_add, int_wrapping_div}
use Rattle.std.specs.Int.Signed.{rem_z}
use Rattle.std.proofs.lemmas.Bool.{le-leb, leb-true}
use Rattle.sal_value.specs.declared.name.Name.{Name}
use Rattle.sal_value.specs.declared.name.Name.TheVariants as name
use Rattle.sal_value.specs.declared.value.Value.{Value, roll-Value, out-Value, roll-out-Value}
use Rattle.sal_value.specs.declared.value.Value.TheOpen.{Value-F}
use Rattle.sal_value.specs.declared.value.Value.TheVariants as v
use Rattle.sal_value.specs.declared.name.Uan.{Uan}
use Rattle.sal_value.specs.Names.{uan_text, is_uan, is_host, is_port, is_uan_path}
use Rattle.sal_value.specs.Spelling.{anon_bytes, name_is_spelled, name_spelling, spelling, fits, is_legal}
use Rattle.sal_value.proofs.Equations.{spelling_null, spelling_int, spelling_bool, spelling_str, spelling_ref, spelling_array, fits_null, fits_int, fits_bool, fits_str, fits_ref, fits_flat, fits_array}
use Rattle.sal_value.proofs.Texts.{length_uan_text, host_short, path_short}
use Rattle.std.proofs.lemmas.Fmt.{length-decimal-le}
use Rattle.sal_mail.specs.declared.fault.Trap.TheVariants.{TooLarge}
use Rattle.sal_ast.specs.declared.expression.Op.{Op}
use Rattle.sal_ast.specs.declared.expression.Op.TheVariants as op
use Rattle.sal_ast.specs.declared.program.BaseName.{BaseName}
use Rattle.sal_ast.specs.declared.program.BaseName.TheVariants as base
use Rattle.sal_ast.specs.declared.program.TypeName.{TypeName}
use Rattle.sal_handler.specs.Evaluation.{OrTrap, and_then}
use Rattle.sal_handler.specs.Values as w
use Rattle.sal_handler.specs.WellFormed.{EachOf, Legal}

both : (a b : Bool) → a ≡ true → b ≡ true → a && b ≡ true
both true true p q = refl
both true false p q = absurd cc
both false b p q = absurd cc

split : (a b : Bool) → a && b ≡ true → (a ≡ true) × (b ≡ true)
split true b e = (refl, e)
split false b e = absurd cc

legal_by : (x : Value) → fits x 64 ≡ true → length (spelling x) ≤ 65536 → Legal x
unfolding is_legal
legal_by x f l = both (fits x 64) (nat_le (length (spelling x)) 65536) f (le-leb (length (spelling x)) 65536 l)

legal_parts : (x : Value) → Legal x → (fits x 64 ≡ true) × (length (spelling x) ≤ 65536)
unfolding is_legal
legal_parts x e = let p = split (fits x 64) (nat_le (length (spelling x)) 65536) e in (p.0, leb-true (length (spelling x)) 65536 p.1)

pub legal_null : Legal v.Null
legal_null = legal_by v.Null (fits_null 64) (rw spelling_null (omega arith))

pub legal_int : (n : ℤ) → Legal (v.Int n)
legal_int n = legal_by (v.Int n) (fits_int n 64) (rw (spelling_int n) (omega arith))

pub legal_bool : (b : Bool) → Legal (v.Bool b)
legal_bool b = legal_by (v.Bool b) (fits_bool b 64) (rw (spelling_bool b) (omega arith))

pub legal_empty : Legal (v.Str [])
legal_empty = legal_by (v.Str []) (fits_str [] 64) (rw (spelling_str []) (omega arith))

pub legal_none : Legal (v.Array [])
legal_none = legal_by (v.Array []) (fits_array [] 63) (rw (spelling_array []) (omega arith))

port_low : (u : Uan) → is_uan u ≡ true → u.port ≤ 65535
unfolding is_uan
port_low u e =
    let a = split (is_host u.host) (is_port u.port && is_uan_path (47 ∷ u.path)) e in
    let b = split (is_port u.port) (is_uan_path (47 ∷ u.path)) a.1 in
    leb-true u.port 65535 (split (nat_le 1 u.port) (nat_le u.port 65535) b.0).1

spelled_short : (n : Name) → name_is_spelled n ≡ true → length (name_spelling n) ≤ 60000
unfolding name_is_spelled name_spelling anon_bytes
spelled_short (name.Anon theatre number) e = omega (arith, length-append (to_be_bytes w32 theatre) (to_be_bytes w64 number))
spelled_short (name.Outside number) e = omega arith
spelled_short (name.Uan u) e =
    let range : u.port ≤ 65535 = port_low u e in
    omega (arith, length-append (to_be_bytes w16 (length (uan_text u))) (uan_text u), length_uan_text u, host_short u e, path_short u e, length-decimal-le 5 u.port (omega arith) (omega (arith, range)) (omega (arith, range)))

-- a name that has a spelling
pub legal_ref : (n : Name) → name_is_spelled n ≡ true → Legal (v.Ref n)
legal_ref n e = legal_by (v.Ref n) (fits_ref n 64 ∙ e) (rw (spelling_ref n) (omega (arith, spelled_short n e)))

-- what was tested
pub made_legal : (x y : Value) → w.within_limits x ≡ Ok y → Legal y
made_legal x y e = at (is_legal x) refl e
  where
    at : (b : Bool) → is_legal x ≡ b → (if b then Ok x else Err TooLarge) ≡ Ok y → Legal y
    at true l e = let same : x ≡ y = cc in subst Legal same l
    at false l e = absurd cc

pub is_legal_ok : (x y : Value) → Legal x → ◌≡◌ {A = OrTrap Value} (Ok x) (Ok y) → Legal y
is_legal_ok x y e is = let same : x ≡ y = cc in subst Legal same e

-- ---- items

deeper_items : (d : ℕ) → ((x : Value) → fits x d ≡ true → fits x (suc d) ≡ true) → (items : List Value) → list_all (λ i. fits i d) items ≡ true → list_all (λ i. fits i (suc d)) items ≡ true
deeper_items d again [] e = refl
deeper_items d again (x ∷ xs) e =
    let q = split (fits x d) (list_all (λ i. fits i d) xs) e in
    both (fits x (suc d)) (list_all (λ i. fits i (suc d)) xs) (again x q.0) (deeper_items d again xs q.1)

abbrev Deeper : ℕ → Value → Type 0
Deeper d x = fits x d ≡ true → fits x (suc d) ≡ true

layer_deeper : (d : ℕ) → ((items : List Value) → Deeper d (v.Array items)) → (l : Value-F Value) → Deeper d (roll-Value l)
layer_deeper d arrays (Value-F.Int n) = subst (Deeper d) (sym (v.rolls-Int n)) (λ e. fits_int n (suc d))
layer_deeper d arrays (Value-F.Bool b) = subst (Deeper d) (sym (v.rolls-Bool b)) (λ e. fits_bool b (suc d))
layer_deeper d arrays (Value-F.Str t) = subst (Deeper d) (sym (v.rolls-Str t)) (λ e. fits_str t (suc d) ∙ sym (fits_str t d) ∙ e)
layer_deeper d arrays (Value-F.Array items) = subst (Deeper d) (sym (v.rolls-Array items)) (arrays items)
layer_deeper d arrays (Value-F.Ref n) = subst (Deeper d) (sym (v.rolls-Ref n)) (λ e. fits_ref n (suc d) ∙ sym (fits_ref n d) ∙ e)
layer_deeper d arrays Value-F.Null = subst (Deeper d) (sym v.rolls-Null) (λ e. fits_null (suc d))

-- what fits a depth fits a greater one
deeper : (d : ℕ) (x : Value) → Deeper d x
deeper zero x = subst (Deeper 0) (roll-out-Value x) (layer_deeper 0 (λ items e. let flat = fits_flat items in absurd cc) (out-Value x))
deeper (suc d) x =
    subst (Deeper (suc d)) (roll-out-Value x) (layer_deeper (suc d) (λ items e.
    let q = split (nat_le (length items) 4096) (list_all (λ i. fits i d) items) (sym (fits_array items d) ∙ e) in
    fits_array items (suc d) ∙ both (nat_le (length items) 4096) (list_all (λ i. fits i (suc d)) items) q.0 (deeper_items d (deeper d) items q.1)) (out-Value x))

-- each item of a legal array is legal
items_fit : (items : List Value) → list_all (λ i. fits i 63) items ≡ true → length (flat_map spelling items) ≤ 65536 → EachOf Legal items
items_fit [] e l = tt
items_fit (x ∷ xs) e l =
    let q = split (fits x 63) (list_all (λ i. fits i 63) xs) e in
    (legal_by x (deeper 63 x q.0) (omega (arith, l, length-append (spelling x) (flat_map spelling xs))), items_fit xs q.1 (omega (arith, l, length-append (spelling x) (flat_map spelling xs))))

array_items : (items : List Value) → Legal (v.Array items) → EachOf Legal items
array_items items e =
    let p = legal_parts (v.Array items) e in
    let q = split (nat_le (length items) 4096) (list_all (λ i. fits i 63) items) (sym (fits_array items 63) ∙ p.0) in
    let l : length (spelling (v.Array items)) ≡ length (4 ∷ (to_be_bytes w16 (length items) ++ flat_map spelling items)) = ap length (spelling_array items) in
    items_fit items q.1 (omega (arith, p.1, l, length-append (to_be_bytes w16 (length items)) (flat_map spelling items)))

abbrev ItemsLegal : Value → Type 0
ItemsLegal x = Legal x → EachOf Legal (w.items_in (out-Value x))

layer_items : (l : Value-F Value) → Legal (roll-Value l) → EachOf Legal (w.items_in l)
layer_items (Value-F.Array items) e = array_items items (subst Legal (v.rolls-Array items) e)
layer_items (Value-F.Int n) e = tt
layer_items (Value-F.Bool b) e = tt
layer_items (Value-F.Str t) e = tt
layer_items (Value-F.Ref n) e = tt
layer_items Value-F.Null e = tt

pub items_legal : (x : Value) → Legal x → EachOf Legal (w.items_of x)
unfolding w.items_of
items_legal x e = layer_items (out-Value x) (subst Legal (sym (roll-out-Value x)) e)

pub at_legal : (items : List Value) (i : ℕ) → EachOf Legal items → Legal (w.item_at items i)
at_legal [] i p = legal_null
at_legal (x ∷ xs) zero p = p.0
at_legal (x ∷ xs) (suc i) p = at_legal xs i p.1

-- ---- operators

pub item_legal : (x y : Value) (n : ℤ) → Legal x → w.item x n ≡ Ok y → Legal y
unfolding w.item
item_legal x y n e is = at (w.checked_index n (length (w.items_of x))) is
  where
    at : (o : OrTrap ℕ) → and_then o (λ i. Ok (w.item_at (w.items_of x) i)) ≡ Ok y → Legal y
    at (Ok i) is = let same : w.item_at (w.items_of x) i ≡ y = cc in subst Legal same (at_legal (w.items_of x) i (items_legal x e))
    at (Err k) is = absurd cc

pub sum_legal : (a b y : Value) → w.plus a b ≡ Ok y → Legal y
unfolding w.plus
sum_legal a b y is = at (w.is_text_value a || w.is_text_value b) is
  where
    at : (t : Bool) → (if t then w.within_limits (v.Str (w.value_text a ++ w.value_text b)) else Ok (v.Int (int_wrapping_add w32 (w.int_of a) (w.int_of b)))) ≡ Ok y → Legal y
    at true is = made_legal (v.Str (w.value_text a ++ w.value_text b)) y is
    at false is = is_legal_ok (v.Int (int_wrapping_add w32 (w.int_of a) (w.int_of b))) y (legal_int _) is

divided_legal : (by : ℤ → ℤ → ℤ) (a b : ℤ) (y : Value) → w.quotient_by by a b ≡ Ok y → Legal y
divided_legal by a (pos zero) y is = absurd cc
divided_legal by a (pos (suc n)) y is = is_legal_ok (v.Int (by a (pos (suc n)))) y (legal_int _) is
divided_legal by a (negsuc n) y is = is_legal_ok (v.Int (by a (negsuc n))) y (legal_int _) is

pub operate_legal : (o : Op) (a b y : Value) → Legal b → w.operate o a b ≡ Ok y → Legal y
unfolding w.operate
operate_legal op.Or a b y e is = is_legal_ok b y e is
operate_legal op.And a b y e is = is_legal_ok b y e is
operate_legal op.Same a b y e is = is_legal_ok _ y (legal_bool _) is
operate_legal op.Other a b y e is = is_legal_ok _ y (legal_bool _) is
operate_legal op.Less a b y e is = is_legal_ok _ y (legal_bool _) is
operate_legal op.LessEq a b y e is = is_legal_ok _ y (legal_bool _) is
operate_legal op.Greater a b y e is = is_legal_ok _ y (legal_bool _) is
operate_legal op.GreaterEq a b y e is = is_legal_ok _ y (legal_bool _) is
operate_legal op.Add a b y e is = sum_legal a b y is
operate_legal op.Sub a b y e is = is_legal_ok _ y (legal_int _) is
operate_legal op.Mul a b y e is = is_legal_ok _ y (legal_int _) is
operate_legal op.Div a b y e is = divided_legal (int_wrapping_div w32) (w.int_of a) (w.int_of b) y is
operate_legal op.Rem a b y e is = divided_legal rem_z (w.int_of a) (w.int_of b) y is

-- ---- arrays and defaults

pub assigned_legal : (old : Value) (is : List ℤ) (new y : Value) → Legal new → w.value_after_assign old is new ≡ Ok y → Legal y
unfolding w.value_after_assign
assigned_legal old [] new y e is = is_legal_ok new y e is
assigned_legal old (i ∷ rest) new y e is = at (w.put_item old (i ∷ rest) new) is
  where
    at : (o : OrTrap Value) → and_then o w.within_limits ≡ Ok y → Legal y
    at (Ok x) is = made_legal x y is
    at (Err k) is = absurd cc

pub array_legal : (t : TypeName) (n : ℤ) (y : Value) → w.new_array t n ≡ Ok y → Legal y
array_legal t (negsuc n) y is = absurd cc
array_legal t (pos n) y is = at (nat_lt 4096 n) is
  where
    at : (b : Bool) → (if b then Err TooLarge else w.within_limits (v.Array (replicate n (w.default_item t)))) ≡ Ok y → Legal y
    at true is = absurd cc
    at false is = made_legal (v.Array (replicate n (w.default_item t))) y is

base_legal : (b : BaseName) → Legal (w.default_base b)
base_legal base.Int = legal_int (pos 0)
base_legal base.Boolean = legal_bool false
base_legal base.Str = legal_empty
base_legal (base.Actor name) = legal_null

with_legal : (b : BaseName) (dims : ℕ) → Legal (w.default_with b dims)
with_legal b zero = base_legal b
with_legal b (suc dims) = legal_none

pub default_legal : (t : TypeName) → Legal (w.default_of t)
unfolding w.default_of
default_legal t = with_legal t.base t.dims
