-- Reading an array's items one after the other, as a loop does.
use Rattle.std.proofs.Common.{◌≡◌, ℕ, zero, suc, ◌-◌, ◌+◌, ◌≤◌, ◌<◌, false, List, [], ◌∷◌, ◌++◌, length, Ok, Err, refl, sym, ap, ◌∙◌, append_assoc, arith}
use Rattle.std.proofs.lemmas.List.{append-nil}
use Rattle.sal_value.specs.declared.fields.Fault.{Fault}
use Rattle.sal_value.specs.declared.fields.Fault.TheVariants.{Cut, Bad, Memory}
use Rattle.sal_value.specs.declared.value.Value.{Value}
use Rattle.sal_value.specs.declared.value.Value.TheVariants as value
use Rattle.sal_value.specs.Decoding.{Reading, ◌>>=◌, wrong, count_at, items_at, array_at, tagged_at, is_array, value_at}
use Rattle.sal_value.specs.code.Reads.{Fails}

-- ---- which reading it is

other_tag : (array : List ℕ → Reading Value) (bytes : List ℕ) → is_array bytes ≡ false → tagged_at array bytes ≡ tagged_at (λ rest. wrong bytes) bytes
unfolding tagged_at
other_tag array [] e = refl
other_tag array (tag ∷ rest) e = rw e refl

pub other_reads : (depth : ℕ) (bytes : List ℕ) → is_array bytes ≡ false → value_at depth bytes ≡ value_at 0 bytes
unfolding value_at
other_reads zero bytes e = refl
other_reads (suc depth) bytes e = other_tag (array_at (value_at depth)) bytes e

flat : (bytes behind : List ℕ) → bytes ≡ 4 ∷ behind → value_at 0 bytes ≡ Err (Bad (length bytes))
unfolding value_at tagged_at
flat bytes behind e =
    let here : value_at 0 (4 ∷ behind) ≡ Err (Bad (length (4 ∷ behind))) = refl in
    ap (value_at 0) e ∙ here ∙ ap (λ (z : List ℕ). Err (Bad (length z))) (sym e)

pub flat_reads : (depth : ℕ) (bytes behind : List ℕ) → depth ≡ 0 → bytes ≡ 4 ∷ behind → value_at depth bytes ≡ Err (Bad (length bytes))
flat_reads depth bytes behind z e = ap (λ d. value_at d bytes) z ∙ flat bytes behind e

-- what is read of an array, once its items are read
abbrev pub arrayed : List Value → Reading (List Value) → Reading Value
arrayed front read = read >>= λ x. Ok (value.Array (front ++ x.0), x.1)

array_is : (depth : ℕ) (behind : List ℕ) → value_at (suc depth) (4 ∷ behind) ≡ (count_at behind >>= λ count. items_at (value_at depth) count.0 count.1 >>= λ items. Ok (value.Array items.0, items.1))
unfolding value_at tagged_at array_at
array_is depth behind = refl

array_at_depth : (depth : ℕ) (bytes behind : List ℕ) → bytes ≡ 4 ∷ behind → 0 < depth → value_at depth bytes ≡ (count_at behind >>= λ count. items_at (value_at (depth - 1)) count.0 count.1 >>= λ items. Ok (value.Array items.0, items.1))
array_at_depth depth bytes behind e low =
    let up : depth ≡ suc (depth - 1) = omega arith in
    ap (value_at depth) e ∙ ap (λ d. value_at d (4 ∷ behind)) up ∙ array_is (depth - 1) behind

-- the items begin after the count
pub array_begins : (depth : ℕ) (bytes behind : List ℕ) (count k : ℕ) (rest : List ℕ) → bytes ≡ 4 ∷ behind → 0 < depth → k ≡ count → count_at behind ≡ Ok (count, rest)
    → arrayed [] (items_at (value_at (depth - 1)) k rest) ≡ value_at depth bytes
array_begins depth bytes behind count k rest e low is counted =
    ap (λ n. arrayed [] (items_at (value_at (depth - 1)) n rest)) is
    ∙ sym (array_at_depth depth bytes behind e low ∙ ap (λ (c : Reading ℕ). c >>= λ count. items_at (value_at (depth - 1)) count.0 count.1 >>= λ items. Ok (value.Array items.0, items.1)) counted)

fails_first : {A B : Type 0} (f : Fault) (r : Reading A) (then' : A × List ℕ → Reading B) → Fails f r → Fails f (r >>= then')
fails_first Cut r then' h = ap (λ z. z >>= then') h
fails_first (Bad left) r then' h = ap (λ z. z >>= then') h
fails_first Memory r then' h = tt

fails_same : {A : Type 0} (f : Fault) (r s : Reading A) → Fails f r → r ≡ s → Fails f s
fails_same Cut r s h e = sym e ∙ h
fails_same (Bad left) r s h e = sym e ∙ h
fails_same Memory r s h e = tt

pub count_fails : (f : Fault) (depth : ℕ) (bytes behind : List ℕ) → bytes ≡ 4 ∷ behind → 0 < depth → Fails f (count_at behind) → Fails f (value_at depth bytes)
count_fails f depth bytes behind e low h =
    let then' : ℕ × List ℕ → Reading Value = λ count. items_at (value_at (depth - 1)) count.0 count.1 >>= λ items. Ok (value.Array items.0, items.1) in
    fails_same f (count_at behind >>= then') (value_at depth bytes) (fails_first f (count_at behind) then' h) (sym (array_at_depth depth bytes behind e low))

regroup : (front : List Value) (x : Value) (read : Reading (List Value)) → arrayed front (read >>= λ y. Ok (x ∷ y.0, y.1)) ≡ arrayed (front ++ x ∷ []) read
regroup front x (Ok y) = ap (λ (ws : List Value). Ok (value.Array ws, y.1)) (simp append_assoc)
regroup front x (Err f) = refl

one_more : (item : List ℕ → Reading Value) (front : List Value) (count i : ℕ) (bytes : List ℕ) → i < count
    → arrayed front (items_at item (count - i) bytes) ≡ arrayed front (item bytes >>= λ first. items_at item (count - (i + 1)) first.1 >>= λ others. Ok (first.0 ∷ others.0, others.1))
one_more item front count i bytes lt =
    let k : count - i ≡ suc (count - (i + 1)) = omega arith in
    ap (λ n. arrayed front (items_at item n bytes)) k

pub goes_on : (item : List ℕ → Reading Value) (front : List Value) (count i : ℕ) (bytes : List ℕ) (x : Value) (after : List ℕ) (all : Reading Value) → i < count → item bytes ≡ Ok (x, after)
    → arrayed front (items_at item (count - i) bytes) ≡ all → arrayed (front ++ x ∷ []) (items_at item (count - (i + 1)) after) ≡ all
goes_on item front count i bytes x after all lt h so_far =
    let read : Reading (List Value) = items_at item (count - (i + 1)) after in
    let one : arrayed front (items_at item (count - i) bytes) ≡ arrayed front (read >>= λ others. Ok (x ∷ others.0, others.1)) =
    one_more item front count i bytes lt ∙ ap (λ (r : Reading Value). arrayed front (r >>= λ first. items_at item (count - (i + 1)) first.1 >>= λ others. Ok (first.0 ∷ others.0, others.1))) h in
    sym (regroup front x read) ∙ sym one ∙ so_far

pub ends : (item : List ℕ → Reading Value) (f : Fault) (front : List Value) (count i : ℕ) (bytes : List ℕ) (all : Reading Value) → i < count → Fails f (item bytes)
    → arrayed front (items_at item (count - i) bytes) ≡ all → Fails f all
ends item f front count i bytes all lt h so_far =
    let then' : Value × List ℕ → Reading (List Value) = λ first. items_at item (count - (i + 1)) first.1 >>= λ others. Ok (first.0 ∷ others.0, others.1) in
    let made : List Value × List ℕ → Reading Value = λ x. Ok (value.Array (front ++ x.0), x.1) in
    let read = fails_first f (item bytes >>= then') made (fails_first f (item bytes) then' h) in
    fails_same f ((item bytes >>= then') >>= made) all read (sym (one_more item front count i bytes lt) ∙ so_far)

pub is_done : (item : List ℕ → Reading Value) (front : List Value) (count i : ℕ) (bytes : List ℕ) (all : Reading Value) → count ≤ i → arrayed front (items_at item (count - i) bytes) ≡ all → all ≡ Ok (value.Array front, bytes)
is_done item front count i bytes all le so_far =
    let k : count - i ≡ 0 = omega arith in
    sym so_far ∙ ap (λ n. arrayed front (items_at item n bytes)) k ∙ ap (λ (ws : List Value). Ok (value.Array ws, bytes)) (append-nil front)
