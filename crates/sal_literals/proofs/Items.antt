-- Reading an array's items one after the other, as a loop does.
use Rattle.std.proofs.Common.{◌≡◌, ℕ, zero, suc, ◌-◌, ◌+◌, ◌≤◌, ◌<◌, Bool, true, false, Option, Some, None, List, [], ◌∷◌, ◌++◌, length, drop, refl, sym, ap, ◌∙◌, append_assoc, arith}
use Rattle.std.specs.Prelude.{if◌then◌else◌}
use Rattle.sal_value.specs.declared.name.Name.{Name}
use Rattle.sal_value.specs.declared.value.Value.{Value}
use Rattle.sal_value.specs.declared.value.Value.TheVariants as v
use Rattle.sal_literals.specs.declared.fault.Fault.{Fault}
use Rattle.sal_literals.specs.declared.fault.Fault.TheVariants.{Wrong, Memory}
use Rattle.sal_literals.specs.code.Scanning.{Reading, ◌>>=◌}
use Rattle.sal_literals.specs.code.Reads.{Misses}
use Rattle.sal_literals.specs.Reading.{flat_at, separator_at, items_at, is_closed, array_at, is_array, value_by, value_at}

-- ---- which reading it is

by_false : (names : List ℕ → Option Name) (array : List ℕ → Reading Value) (bytes : List ℕ) → is_array bytes ≡ false → value_by names array bytes ≡ flat_at names bytes
unfolding value_by
by_false names array bytes e = ap (λ t. if t then array (drop 1 bytes) else flat_at names bytes) e

pub other_reads : (names : List ℕ → Option Name) (depth : ℕ) (bytes : List ℕ) → is_array bytes ≡ false → value_at names depth bytes ≡ flat_at names bytes
unfolding value_at
other_reads names zero bytes e = by_false names (λ _. None) bytes e
other_reads names (suc depth) bytes e = by_false names (array_at (value_at names depth)) bytes e

zero_deep : (names : List ℕ → Option Name) (inside : List ℕ) → value_at names 0 (91 ∷ inside) ≡ None
unfolding value_at value_by
zero_deep names inside = refl

pub too_deep : (names : List ℕ → Option Name) (depth : ℕ) (bytes inside : List ℕ) → depth ≡ 0 → bytes ≡ 91 ∷ inside → value_at names depth bytes ≡ None
too_deep names depth bytes inside z e = ap (λ d. value_at names d bytes) z ∙ ap (value_at names 0) e ∙ zero_deep names inside

suc_deep : (names : List ℕ → Option Name) (depth : ℕ) (inside : List ℕ) → value_at names (suc depth) (91 ∷ inside) ≡ array_at (value_at names depth) inside
unfolding value_at value_by
suc_deep names depth inside = refl

array_is : (names : List ℕ → Option Name) (depth : ℕ) (bytes inside : List ℕ) → 0 < depth → bytes ≡ 91 ∷ inside → value_at names depth bytes ≡ array_at (value_at names (depth - 1)) inside
array_is names depth bytes inside low e =
    let up : depth ≡ suc (depth - 1) = omega arith in
    ap (value_at names depth) e ∙ ap (λ d. value_at names d (91 ∷ inside)) up ∙ suc_deep names (depth - 1) inside

empty_is : (item : List ℕ → Reading Value) (rest : List ℕ) → array_at item (93 ∷ rest) ≡ Some (v.Array [], rest)
unfolding array_at
empty_is item rest = refl

pub empty_array : (names : List ℕ → Option Name) (depth : ℕ) (bytes inside rest : List ℕ) → 0 < depth → bytes ≡ 91 ∷ inside → inside ≡ 93 ∷ rest → value_at names depth bytes ≡ Some (v.Array [], rest)
empty_array names depth bytes inside rest low e f =
    array_is names depth bytes inside low e ∙ ap (array_at (value_at names (depth - 1))) f ∙ empty_is (value_at names (depth - 1)) rest

-- what is read of an array, once its items are read
abbrev pub arrayed : List Value → Reading (List Value) → Reading Value
arrayed front read = read >>= λ x. Some (v.Array (front ++ x.0), x.1)

full_is : (item : List ℕ → Reading Value) (bytes : List ℕ) → is_closed bytes ≡ false → array_at item bytes ≡ arrayed [] (items_at item (length bytes) bytes)
unfolding array_at
full_is item bytes e = ap (λ t. if t then Some (v.Array [], drop 1 bytes) else arrayed [] (items_at item (length bytes) bytes)) e

pub array_begins : (names : List ℕ → Option Name) (depth : ℕ) (bytes inside : List ℕ) (k : ℕ) → 0 < depth → bytes ≡ 91 ∷ inside → is_closed inside ≡ false → k ≡ length inside
    → arrayed [] (items_at (value_at names (depth - 1)) k inside) ≡ value_at names depth bytes
array_begins names depth bytes inside k low e open' is =
    ap (λ n. arrayed [] (items_at (value_at names (depth - 1)) n inside)) is
    ∙ sym (array_is names depth bytes inside low e ∙ full_is (value_at names (depth - 1)) inside open')

-- ---- one item after the other

-- the items from the separator on
abbrev from_separator : (List ℕ → Reading Value) → ℕ → Value → Reading Bool → Reading (List Value)
from_separator item n w read = read >>= λ ends. if ends.0 then Some (w ∷ [], ends.1) else (items_at item n ends.1 >>= λ others. Some (w ∷ others.0, others.1))

abbrev from_item : (List ℕ → Reading Value) → ℕ → Reading Value → Reading (List Value)
from_item item n read = read >>= λ first. from_separator item n first.0 (separator_at first.1)

one_more : (item : List ℕ → Reading Value) (front : List Value) (most i : ℕ) (bytes : List ℕ) → i < most → arrayed front (items_at item (most - i) bytes) ≡ arrayed front (from_item item (most - (i + 1)) (item bytes))
one_more item front most i bytes lt =
    let k : most - i ≡ suc (most - (i + 1)) = omega arith in
    ap (λ n. arrayed front (items_at item n bytes)) k

regroup : (front : List Value) (w : Value) (read : Reading (List Value)) → arrayed front (read >>= λ others. Some (w ∷ others.0, others.1)) ≡ arrayed (front ++ w ∷ []) read
regroup front w (Some x) = ap (λ (ws : List Value). Some (v.Array ws, x.1)) (sym (append_assoc front (w ∷ []) x.0))
regroup front w None = refl

after_item : (item : List ℕ → Reading Value) (front : List Value) (most i : ℕ) (bytes : List ℕ) (x : Value) (after : List ℕ) (all : Reading Value) → i < most → item bytes ≡ Some (x, after)
    → arrayed front (items_at item (most - i) bytes) ≡ all → arrayed front (from_separator item (most - (i + 1)) x (separator_at after)) ≡ all
after_item item front most i bytes x after all lt is so_far =
    sym (one_more item front most i bytes lt ∙ ap (λ (r : Reading Value). arrayed front (from_item item (most - (i + 1)) r)) is) ∙ so_far

pub goes_on : (item : List ℕ → Reading Value) (front : List Value) (most i : ℕ) (bytes : List ℕ) (x : Value) (after left : List ℕ) (all : Reading Value) → i < most → item bytes ≡ Some (x, after)
    → separator_at after ≡ Some (false, left) → arrayed front (items_at item (most - i) bytes) ≡ all → arrayed (front ++ x ∷ []) (items_at item (most - (i + 1)) left) ≡ all
goes_on item front most i bytes x after left all lt is comma so_far =
    sym (ap (λ (r : Reading Bool). arrayed front (from_separator item (most - (i + 1)) x r)) comma ∙ regroup front x (items_at item (most - (i + 1)) left))
    ∙ after_item item front most i bytes x after all lt is so_far

pub ends_here : (item : List ℕ → Reading Value) (front : List Value) (most i : ℕ) (bytes : List ℕ) (x : Value) (after left : List ℕ) (all : Reading Value) → i < most → item bytes ≡ Some (x, after)
    → separator_at after ≡ Some (true, left) → arrayed front (items_at item (most - i) bytes) ≡ all → all ≡ Some (v.Array (front ++ x ∷ []), left)
ends_here item front most i bytes x after left all lt is close so_far =
    sym (after_item item front most i bytes x after all lt is so_far) ∙ ap (λ (r : Reading Bool). arrayed front (from_separator item (most - (i + 1)) x r)) close

misses_first : {A B : Type 0} (f : Fault) (r : Reading A) (then' : A × List ℕ → Reading B) → Misses f r → Misses f (r >>= then')
misses_first Wrong r then' h = ap (λ z. z >>= then') h
misses_first Memory r then' h = tt

misses_same : {A : Type 0} (f : Fault) (r s : Reading A) → Misses f r → r ≡ s → Misses f s
misses_same Wrong r s h e = sym e ∙ h
misses_same Memory r s h e = tt

pub item_fails : (item : List ℕ → Reading Value) (f : Fault) (front : List Value) (most i : ℕ) (bytes : List ℕ) (all : Reading Value) → i < most → Misses f (item bytes)
    → arrayed front (items_at item (most - i) bytes) ≡ all → Misses f all
item_fails item f front most i bytes all lt h so_far =
    let then' : Value × List ℕ → Reading (List Value) = λ first. from_separator item (most - (i + 1)) first.0 (separator_at first.1) in
    let made : List Value × List ℕ → Reading Value = λ x. Some (v.Array (front ++ x.0), x.1) in
    misses_same f ((item bytes >>= then') >>= made) all (misses_first f (item bytes >>= then') made (misses_first f (item bytes) then' h)) (sym (one_more item front most i bytes lt) ∙ so_far)

pub separator_fails : (item : List ℕ → Reading Value) (f : Fault) (front : List Value) (most i : ℕ) (bytes : List ℕ) (x : Value) (after : List ℕ) (all : Reading Value) → i < most → item bytes ≡ Some (x, after)
    → Misses f (separator_at after) → arrayed front (items_at item (most - i) bytes) ≡ all → Misses f all
separator_fails item f front most i bytes x after all lt is h so_far =
    let then' : Bool × List ℕ → Reading (List Value) = λ ends. if ends.0 then Some (x ∷ [], ends.1) else (items_at item (most - (i + 1)) ends.1 >>= λ others. Some (x ∷ others.0, others.1)) in
    let made : List Value × List ℕ → Reading Value = λ y. Some (v.Array (front ++ y.0), y.1) in
    misses_same f ((separator_at after >>= then') >>= made) all (misses_first f (separator_at after >>= then') made (misses_first f (separator_at after) then' h))
    (after_item item front most i bytes x after all lt is so_far)

pub none_left : (item : List ℕ → Reading Value) (front : List Value) (most i : ℕ) (bytes : List ℕ) (all : Reading Value) → most ≤ i → arrayed front (items_at item (most - i) bytes) ≡ all → all ≡ None
none_left item front most i bytes all le so_far =
    let k : most - i ≡ 0 = omega arith in
    sym so_far ∙ ap (λ n. arrayed front (items_at item n bytes)) k
