-- What operators give of typed values is typed.
use Rattle.std.proofs.Common.{◌≡◌, ℕ, zero, suc, ◌-◌, ◌<◌, ℤ, pos, negsuc, Bool, true, false, ◌||◌, ◌&&◌, if◌then◌else◌, List, [], ◌∷◌, ◌++◌, length, Option, Some, None, Ok, Err, refl, sym, ap, subst, ◌∙◌, arith}
use Rattle.std.specs.Prelude.{nat_lt, slice_set}
use Rattle.std.specs.Option.{option_map}
use Rattle.std.specs.List.{list_all}
use Rattle.std.specs.Int.{w32, int_wrapping_add}
use Rattle.std.proofs.lemmas.Bool.{ltb-true}
use Rattle.sal_value.specs.declared.name.Name.{Name}
use Rattle.sal_value.specs.declared.value.Base.{Base}
use Rattle.sal_value.specs.declared.value.Base.TheVariants as base
use Rattle.sal_value.specs.declared.value.Sort.{Sort}
use Rattle.sal_value.specs.declared.value.Value.{Value, out-Value, roll-Value, roll-out-Value, fold-roll-Value}
use Rattle.sal_value.specs.declared.value.Value.TheOpen.{Value-F}
use Rattle.sal_value.specs.declared.value.Value.TheVariants as v
use Rattle.sal_value.specs.Membership.{belongs_alone, belongs_step, belongs_to}
use Rattle.sal_value.specs.Spelling.{is_legal}
use Rattle.sal_value.proofs.Equations.{belongs_zero, belongs_array}
use Rattle.sal_mail.specs.declared.fault.Trap.TheVariants.{Index, TooLarge}
use Rattle.sal_ast.specs.declared.program.BaseName.{BaseName}
use Rattle.sal_ast.specs.declared.program.BaseName.TheVariants as word
use Rattle.sal_ast.specs.declared.program.Behavior.{Behavior}
use Rattle.sal_ast.specs.declared.program.TypeName.{TypeName}
use Rattle.sal_ast.specs.Members.{behavior_by_name}
use Rattle.sal_ast.specs.Sorts.{base_of, type_sort, sort_with}
use Rattle.sal_handler.specs.Evaluation.{OrTrap, and_then}
use Rattle.sal_handler.specs.Values as w
use Rattle.sal_handler.specs.WellFormed.{EachOf}
use Rattle.sal_value.proofs.Tables.{some_is}

pub both : (a b : Bool) → a ≡ true → b ≡ true → a && b ≡ true
both true true p q = refl
both true false p q = absurd cc
both false b p q = absurd cc

pub split : (a b : Bool) → a && b ≡ true → (a ≡ true) × (b ≡ true)
split true b e = (refl, e)
split false b e = absurd cc

-- the value belongs to the type
abbrev pub Of : Base → ℕ → Value → Type 0
Of b d x = belongs_to x b d ≡ true

-- ---- values alone

pub int_of : (n : ℤ) → Of base.Int 0 (v.Int n)
unfolding belongs_to
int_of n = ap (λ z. belongs_to z base.Int 0) (sym (v.rolls-Int n)) ∙ ap (λ f. f base.Int 0) (fold-roll-Value (Base → ℕ → Bool) belongs_step (Value-F.Int n))

pub bool_of : (b : Bool) → Of base.Bool 0 (v.Bool b)
unfolding belongs_to
bool_of b = ap (λ z. belongs_to z base.Bool 0) (sym (v.rolls-Bool b)) ∙ ap (λ f. f base.Bool 0) (fold-roll-Value (Base → ℕ → Bool) belongs_step (Value-F.Bool b))

pub str_of : (t : List ℕ) → Of base.Str 0 (v.Str t)
unfolding belongs_to
str_of t = ap (λ z. belongs_to z base.Str 0) (sym (v.rolls-Str t)) ∙ ap (λ f. f base.Str 0) (fold-roll-Value (Base → ℕ → Bool) belongs_step (Value-F.Str t))

pub ref_of : (n : Name) (k : ℕ) → Of (base.Actor k) 0 (v.Ref n)
unfolding belongs_to
ref_of n k = ap (λ z. belongs_to z (base.Actor k) 0) (sym (v.rolls-Ref n)) ∙ ap (λ f. f (base.Actor k) 0) (fold-roll-Value (Base → ℕ → Bool) belongs_step (Value-F.Ref n))

pub null_of : (k : ℕ) → Of (base.Actor k) 0 v.Null
unfolding belongs_to
null_of k = ap (λ z. belongs_to z (base.Actor k) 0) (sym v.rolls-Null) ∙ ap (λ f. f (base.Actor k) 0) (fold-roll-Value (Base → ℕ → Bool) belongs_step Value-F.Null)

-- ---- what a value of a type is

out_text : (l : Value-F Value) → belongs_alone l base.Str ≡ true → w.is_text_value_in l ≡ true
out_text (Value-F.Str t) e = refl
out_text (Value-F.Int n) e = absurd cc
out_text (Value-F.Bool b) e = absurd cc
out_text (Value-F.Array xs) e = absurd cc
out_text (Value-F.Ref n) e = absurd cc
out_text Value-F.Null e = absurd cc

out_int : (l : Value-F Value) → belongs_alone l base.Int ≡ true → w.is_text_value_in l ≡ false
out_int (Value-F.Int n) e = refl
out_int (Value-F.Str t) e = absurd cc
out_int (Value-F.Bool b) e = absurd cc
out_int (Value-F.Array xs) e = absurd cc
out_int (Value-F.Ref n) e = absurd cc
out_int Value-F.Null e = absurd cc

pub text_is : (x : Value) → Of base.Str 0 x → w.is_text_value x ≡ true
text_is x e = out_text (out-Value x) (sym (belongs_zero x base.Str 0 refl) ∙ e)

pub int_is : (x : Value) → Of base.Int 0 x → w.is_text_value x ≡ false
int_is x e = out_int (out-Value x) (sym (belongs_zero x base.Int 0 refl) ∙ e)

each_all : (p : Value → Bool) (xs : List Value) → list_all p xs ≡ true → EachOf (λ x. p x ≡ true) xs
each_all p [] e = tt
each_all p (x ∷ xs) e = let q = split (p x) (list_all p xs) e in (q.0, each_all p xs q.1)

all_each : (p : Value → Bool) (xs : List Value) → EachOf (λ x. p x ≡ true) xs → list_all p xs ≡ true
all_each p [] e = refl
all_each p (x ∷ xs) e = both (p x) (list_all p xs) e.0 (all_each p xs e.1)

-- an array of typed items
pub array_of : (b : Base) (d : ℕ) (xs : List Value) → EachOf (Of b d) xs → Of b (suc d) (v.Array xs)
array_of b d xs e =
    let low : 0 < suc d = omega arith in
    let less : suc d - 1 ≡ d = omega arith in
    belongs_array xs b (suc d) low ∙ ap (λ k. list_all (λ x. belongs_to x b k) xs) less ∙ all_each (λ x. belongs_to x b d) xs e

-- the items of an array of a type
abbrev HasItems : Base → ℕ → Value → Type 0
HasItems b d x = Of b (suc d) x → EachOf (Of b d) (w.items_in (out-Value x))

layer_items : (b : Base) (d : ℕ) (l : Value-F Value) → Of b (suc d) (roll-Value l) → EachOf (Of b d) (w.items_in l)
layer_items b d (Value-F.Array xs) e =
    let low : 0 < suc d = omega arith in
    let less : suc d - 1 ≡ d = omega arith in
    each_all (λ x. belongs_to x b d) xs (sym (ap (λ k. list_all (λ x. belongs_to x b k) xs) less) ∙ sym (belongs_array xs b (suc d) low) ∙ sym (ap (λ z. belongs_to z b (suc d)) (v.rolls-Array xs)) ∙ e)
layer_items b d (Value-F.Int n) e = tt
layer_items b d (Value-F.Bool t) e = tt
layer_items b d (Value-F.Str t) e = tt
layer_items b d (Value-F.Ref n) e = tt
layer_items b d Value-F.Null e = tt

pub items_are : (b : Base) (d : ℕ) (x : Value) → Of b (suc d) x → EachOf (Of b d) (w.items_of x)
unfolding w.items_of
items_are b d x e = layer_items b d (out-Value x) (subst (Of b (suc d)) (sym (roll-out-Value x)) e)

pub at_is : (b : Base) (d : ℕ) (xs : List Value) (i : ℕ) → i < length xs → EachOf (Of b d) xs → Of b d (w.item_at xs i)
at_is b d [] i l e = absurd (omega (arith, l))
at_is b d (x ∷ xs) zero l e = e.0
at_is b d (x ∷ xs) (suc i) l e = at_is b d xs i (omega (arith, l)) e.1

pub set_is : (b : Base) (d : ℕ) (xs : List Value) (i : ℕ) (y : Value) → EachOf (Of b d) xs → Of b d y → EachOf (Of b d) (slice_set xs i y)
set_is b d [] i y e h = tt
set_is b d (x ∷ xs) zero y e h = (h, e.1)
set_is b d (x ∷ xs) (suc i) y e h = (e.0, set_is b d xs i y e.1 h)

place_low : (n : ℤ) (len i : ℕ) → w.checked_index n len ≡ Ok i → i < len
place_low (negsuc n) len i e = absurd cc
place_low (pos n) len i e = at (nat_lt n len) refl e
  where
    at : (b : Bool) → nat_lt n len ≡ b → (if b then Ok n else Err Index) ≡ Ok i → i < len
    at true l e = let same : n ≡ i = cc in omega (arith, same, ltb-true n len l)
    at false l e = absurd cc

-- ---- operators

pub made_is : (b : Base) (d : ℕ) (x y : Value) → Of b d x → w.within_limits x ≡ Ok y → Of b d y
made_is b d x y h e = at (is_legal x) e
  where
    at : (t : Bool) → (if t then Ok x else Err TooLarge) ≡ Ok y → Of b d y
    at true e = let same : x ≡ y = cc in subst (Of b d) same h
    at false e = absurd cc

pub ok_is : (b : Base) (d : ℕ) (x y : Value) → Of b d x → ◌≡◌ {A = OrTrap Value} (Ok x) (Ok y) → Of b d y
ok_is b d x y h e = let same : x ≡ y = cc in subst (Of b d) same h

pub sum_ints : (x y z : Value) → Of base.Int 0 x → Of base.Int 0 y → w.plus x y ≡ Ok z → Of base.Int 0 z
unfolding w.plus
sum_ints x y z p q e = at (w.is_text_value x || w.is_text_value y) (λ i. int_is x p i || int_is y q i) e
  where
    at : (t : Bool) → t ≡ false → (if t then w.within_limits (v.Str (w.value_text x ++ w.value_text y)) else Ok (v.Int (int_wrapping_add w32 (w.int_of x) (w.int_of y)))) ≡ Ok z → Of base.Int 0 z
    at true f e = absurd cc
    at false f e = ok_is base.Int 0 (v.Int _) z (int_of _) e

pub sum_text : (x y z : Value) → w.is_text_value x || w.is_text_value y ≡ true → w.plus x y ≡ Ok z → Of base.Str 0 z
unfolding w.plus
sum_text x y z t e = at (w.is_text_value x || w.is_text_value y) t e
  where
    at : (b : Bool) → b ≡ true → (if b then w.within_limits (v.Str (w.value_text x ++ w.value_text y)) else Ok (v.Int (int_wrapping_add w32 (w.int_of x) (w.int_of y)))) ≡ Ok z → Of base.Str 0 z
    at true f e = made_is base.Str 0 (v.Str (w.value_text x ++ w.value_text y)) z (str_of _) e
    at false f e = absurd cc

pub divided_is : (by : ℤ → ℤ → ℤ) (a b : ℤ) (z : Value) → w.quotient_by by a b ≡ Ok z → Of base.Int 0 z
divided_is by a (pos zero) z e = absurd cc
divided_is by a (pos (suc n)) z e = ok_is base.Int 0 (v.Int _) z (int_of _) e
divided_is by a (negsuc n) z e = ok_is base.Int 0 (v.Int _) z (int_of _) e

pub item_is : (b : Base) (d : ℕ) (x y : Value) (n : ℤ) → Of b (suc d) x → w.item x n ≡ Ok y → Of b d y
unfolding w.item
item_is b d x y n h e = at (w.checked_index n (length (w.items_of x))) refl e
  where
    at : (o : OrTrap ℕ) → w.checked_index n (length (w.items_of x)) ≡ o → and_then o (λ i. Ok (w.item_at (w.items_of x) i)) ≡ Ok y → Of b d y
    at (Ok i) is e = ok_is b d (w.item_at (w.items_of x) i) y (at_is b d (w.items_of x) i (place_low n (length (w.items_of x)) i is) (items_are b d x h)) e
    at (Err k) is e = absurd cc

-- ---- assignments: as many pairs of brackets more as there are indexes

abbrev pub deeper : ℕ → List ℤ → ℕ
deeper d [] = d
deeper d (i ∷ is) = suc (deeper d is)

put_is : (b : Base) (d : ℕ) (is : List ℤ) (old new y : Value) → Of b (deeper d is) old → Of b d new → w.put_item old is new ≡ Ok y → Of b (deeper d is) y
unfolding w.put_item
put_is b d [] old new y o n e = ok_is b d new y n e
put_is b d (i ∷ is) old new y o n e = at (λ k x l q. put_is b d is (w.item_at (w.items_of old) k) new x (at_is b (deeper d is) (w.items_of old) k l (items_are b (deeper d is) old o)) n q) (w.checked_index i (length (w.items_of old))) refl e
  where
    then_at : ((k : ℕ) (x : Value) → k < length (w.items_of old) → w.put_item (w.item_at (w.items_of old) k) is new ≡ Ok x → Of b (deeper d is) x) → (k : ℕ) (r : OrTrap Value) → w.put_item (w.item_at (w.items_of old) k) is new ≡ r → k < length (w.items_of old) → and_then r (λ x. Ok (v.Array (slice_set (w.items_of old) k x))) ≡ Ok y → Of b (suc (deeper d is)) y
    then_at f k (Err t) q l e = absurd cc
    then_at f k (Ok x) q l e =
        ok_is b (suc (deeper d is)) (v.Array (slice_set (w.items_of old) k x)) y (array_of b (deeper d is) (slice_set (w.items_of old) k x) (set_is b (deeper d is) (w.items_of old) k x (items_are b (deeper d is) old o) (f k x l q))) e

    at : ((k : ℕ) (x : Value) → k < length (w.items_of old) → w.put_item (w.item_at (w.items_of old) k) is new ≡ Ok x → Of b (deeper d is) x) → (r : OrTrap ℕ) → w.checked_index i (length (w.items_of old)) ≡ r → and_then r (λ k. and_then (w.put_item (w.item_at (w.items_of old) k) is new) (λ x. Ok (v.Array (slice_set (w.items_of old) k x)))) ≡ Ok y → Of b (suc (deeper d is)) y
    at f (Err t) q e = absurd cc
    at f (Ok k) q e = then_at f k (w.put_item (w.item_at (w.items_of old) k) is new) refl (place_low i (length (w.items_of old)) k q) e

pub assigned_is : (b : Base) (d : ℕ) (is : List ℤ) (old new y : Value) → Of b (deeper d is) old → Of b d new → w.value_after_assign old is new ≡ Ok y → Of b (deeper d is) y
unfolding w.value_after_assign
assigned_is b d [] old new y o n e = ok_is b d new y n e
assigned_is b d (i ∷ is) old new y o n e = at (w.put_item old (i ∷ is) new) refl e
  where
    at : (r : OrTrap Value) → w.put_item old (i ∷ is) new ≡ r → and_then r w.within_limits ≡ Ok y → Of b (suc (deeper d is)) y
    at (Err t) q e = absurd cc
    at (Ok x) q e = made_is b (suc (deeper d is)) x y (put_is b d (i ∷ is) old new x o n q) e

-- ---- defaults

base_is : (behaviors : List Behavior) (t : BaseName) (b : Base) → base_of t behaviors ≡ Some b → Of b 0 (w.default_base t)
base_is behaviors word.Int b e = let same : base.Int ≡ b = cc in subst (λ z. Of z 0 (w.default_base word.Int)) same (int_of (pos 0))
base_is behaviors word.Boolean b e = let same : base.Bool ≡ b = cc in subst (λ z. Of z 0 (w.default_base word.Boolean)) same (bool_of false)
base_is behaviors word.Str b e = let same : base.Str ≡ b = cc in subst (λ z. Of z 0 (w.default_base word.Str)) same (str_of [])
base_is behaviors (word.Actor name) b e = at (behavior_by_name name behaviors) e
  where
    at : (o : Option ℕ) → option_map base.Actor o ≡ Some b → Of b 0 v.Null
    at None e = absurd cc
    at (Some k) e = let same : base.Actor k ≡ b = cc in subst (λ z. Of z 0 v.Null) same (null_of k)

with_is : (behaviors : List Behavior) (t : BaseName) (dims : ℕ) (b : Base) → base_of t behaviors ≡ Some b → Of b dims (w.default_with t dims)
with_is behaviors t zero b e = base_is behaviors t b e
with_is behaviors t (suc dims) b e = array_of b dims [] tt

-- the start of a variable of this type
pub default_is : (behaviors : List Behavior) (t : TypeName) (s : Sort) → type_sort t behaviors ≡ Some s → Of s.base s.dims (w.default_of t)
unfolding type_sort w.default_of
default_is behaviors t s e = at (base_of t.base behaviors) refl e
  where
    at : (o : Option Base) → base_of t.base behaviors ≡ o → sort_with o t.dims ≡ Some s → Of s.base s.dims (w.default_with t.base t.dims)
    at None q e = absurd cc
    at (Some b) q e = by (nat_lt 8 t.dims) e
      where
        by : (f : Bool) → (if f then None else Some (record { base = b; dims = t.dims })) ≡ Some s → Of s.base s.dims (w.default_with t.base t.dims)
        by true e = absurd cc
        by false e = let same : record { base = b; dims = t.dims } ≡ s = some_is e in subst (λ (z : Sort). Of z.base z.dims (w.default_with t.base t.dims)) same (with_is behaviors t.base t.dims b q)

-- and of an item of an array of this type
pub item_default : (behaviors : List Behavior) (t : TypeName) (b : Base) (d : ℕ) → type_sort t behaviors ≡ Some (record { base = b; dims = suc d }) → Of b d (w.default_item t)
unfolding type_sort w.default_item
item_default behaviors t b d e = at (base_of t.base behaviors) refl e
  where
    at : (o : Option Base) → base_of t.base behaviors ≡ o → sort_with o t.dims ≡ Some (record { base = b; dims = suc d }) → Of b d (w.default_with t.base (t.dims - 1))
    at None q e = absurd cc
    at (Some a) q e = by (nat_lt 8 t.dims) e
      where
        by : (f : Bool) → ◌≡◌ {A = Option Sort} (if f then None else Some (record { base = a; dims = t.dims })) (Some (record { base = b; dims = suc d })) → Of b d (w.default_with t.base (t.dims - 1))
        by true e = absurd cc
        by false e =
            let same : ◌≡◌ {A = Sort} (record { base = a; dims = t.dims }) (record { base = b; dims = suc d }) = some_is e in
            let bases : a ≡ b = ap (λ (z : Sort). z.base) same in
            let dims : t.dims ≡ suc d = ap (λ (z : Sort). z.dims) same in
            let less : t.dims - 1 ≡ d = omega (arith, dims) in
            subst (λ k. Of b d (w.default_with t.base k)) (sym less) (with_is behaviors t.base d b (q ∙ ap (λ z. Some z) bases))
