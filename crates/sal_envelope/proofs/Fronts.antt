-- What stands at the front of some bytes, as the code reads it.
use Rattle.std.proofs.Common.{◌≡◌, ℕ, suc, ◌-◌, ◌+◌, ◌<◌, ◌≤◌, Bool, true, false, List, [], ◌∷◌, ◌++◌, length, Some, None, Result, Ok, Err, refl, sym, ap, ◌∙◌, append_assoc, append-nil, arith}
use Rattle.std.specs.Prelude.{if◌then◌else◌, IsTrue, ◌↔◌}
use Rattle.std.specs.Str.{bytes_eq}
use Rattle.std.proofs.lemmas.Slice.Eq.{bytes_eq-Decides}
use Rattle.sal_value.specs.declared.name.Name.{Name}
use Rattle.sal_value.specs.declared.name.Ual.{Ual}
use Rattle.sal_value.specs.declared.name.NameFault.{NameFault}
use Rattle.sal_value.specs.declared.name.NameFault.TheVariants as refusal
use Rattle.sal_value.specs.declared.value.Value.{Value}
use Rattle.sal_value.specs.declared.value.DecodeFault.{DecodeFault}
use Rattle.sal_value.specs.declared.value.DecodeFault.TheVariants as fault
use Rattle.sal_value.specs.Names.{ual_text, ReadsUal}
use Rattle.sal_value.specs.Decoding.{decoded_name, decoded_value}
use Rattle.sal_value.specs.Decoding as decoding
use Rattle.sal_value.specs.code.Reads.{Decodes}
use Rattle.sal_value.proofs.Canonical.{same_bytes}
use Rattle.sal_value.proofs.Given.{names_are_given}
use Rattle.sal_envelope.specs.declared.fault.Fault.{Fault}
use Rattle.sal_envelope.specs.declared.fault.Fault.TheVariants.{Cut, Bad, Memory}
use Rattle.sal_envelope.specs.Decoding.{Reading, ◌>>=◌, fault_before, left_after, name_at, value_at, if_canonical, canonical_ual, many_at}
use Rattle.sal_envelope.specs.code.Reads.{Fails}

-- ---- names and values end within the bytes

offset_fits : {A : Type 0} (bytes : List ℕ) (r : decoding.Reading A) (x : A) (n : ℕ) → decoding.with_offset bytes r ≡ Ok (x, n) → n ≤ length bytes
offset_fits {A} bytes (Ok y) x n e =
    let read : A × ℕ = (y.0, length bytes - length y.1) in
    let told : A × ℕ = (x, n) in
    let same : read ≡ told = cc in
    let size : length bytes - length y.1 ≡ n = ap (λ (p : A × ℕ). p.1) same in
    omega arith
offset_fits bytes (Err f) x n e = absurd cc

pub name_fits : (bytes : List ℕ) (x : Name) (n : ℕ) → decoded_name bytes ≡ Ok (x, n) → n ≤ length bytes
unfolding decoded_name
name_fits bytes x n e = offset_fits bytes (decoding.name_at bytes) x n e

pub value_fits : (bytes : List ℕ) (x : Value) (n : ℕ) → decoded_value bytes ≡ Ok (x, n) → n ≤ length bytes
unfolding decoded_value
value_fits bytes x n e = offset_fits bytes (decoding.value_at 64 bytes) x n e

-- a fault of a name or value is one of the envelope
fault_passes : {A : Type 0} (f : DecodeFault) (bytes : List ℕ) (r : Result (A × ℕ) DecodeFault) → Decodes (Err f) r → Fails (fault_before f (length bytes)) (left_after bytes r)
fault_passes fault.Cut bytes r h = ap (left_after bytes) h
fault_passes (fault.Bad place) bytes r h = ap (left_after bytes) h
fault_passes fault.Memory bytes r h = tt

pub name_fails : (f : DecodeFault) (bytes : List ℕ) → Decodes (Err f) (decoded_name bytes) → Fails (fault_before f (length bytes)) (name_at bytes)
unfolding name_at
name_fails f bytes h = fault_passes f bytes (decoded_name bytes) h

pub value_fails : (f : DecodeFault) (bytes : List ℕ) → Decodes (Err f) (decoded_value bytes) → Fails (fault_before f (length bytes)) (value_at bytes)
unfolding value_at
value_fails f bytes h = fault_passes f bytes (decoded_value bytes) h

-- ---- locators

pub same_text : (r : Bool) (xs ys : List ℕ) → r ≡ bytes_eq xs ys → IsTrue r ↔ (xs ≡ ys)
same_text r xs ys e = same_bytes r xs ys e

-- a locator that reading gives is that of the text where it is written so
pub canonical_text : (text : List ℕ) (l : Ual) → ReadsUal text (Ok l) → ual_text l ≡ text → Some l ≡ canonical_ual text
unfolding canonical_ual
canonical_text text l reads same =
    let is : bytes_eq (ual_text l) text ≡ true = (bytes_eq-Decides (ual_text l) text).1 same in
    sym (ap (if_canonical text) (names_are_given.ual text l reads) ∙ ap (λ b. if b then Some l else None) is)

not_true : (b : Bool) → (b ≡ true → ⊥) → b ≡ false
not_true true h = absurd (h refl)
not_true false h = refl

pub other_text : (text : List ℕ) (l : Ual) → ReadsUal text (Ok l) → (ual_text l ≡ text → ⊥) → None ≡ canonical_ual text
unfolding canonical_ual
other_text text l reads other =
    let is : bytes_eq (ual_text l) text ≡ false = not_true (bytes_eq (ual_text l) text) (λ e. other ((bytes_eq-Decides (ual_text l) text).0 e)) in
    sym (ap (if_canonical text) (names_are_given.ual text l reads) ∙ ap (λ b. if b then Some l else None) is)

pub refused_text : (text : List ℕ) (f : NameFault) → ReadsUal text (Err f) → (f ≡ refusal.Memory → ⊥) → None ≡ canonical_ual text
unfolding canonical_ual
refused_text text f reads other = sym (ap (if_canonical text) (names_are_given.no_ual text f other reads))

-- ---- values, one after the other

-- what is read of values, of which these are read
abbrev pub after_values : List Value → Reading (List Value) → Reading (List Value)
after_values front read = read >>= λ x. Ok (front ++ x.0, x.1)

regroup : (front : List Value) (v : Value) (read : Reading (List Value)) → after_values front (read >>= λ y. Ok (v ∷ y.0, y.1)) ≡ after_values (front ++ v ∷ []) read
regroup front v (Ok y) = ap (λ (vs : List Value). Ok (vs, y.1)) (simp append_assoc)
regroup front v (Err f) = refl

pub none_before : (read : Reading (List Value)) → after_values [] read ≡ read
none_before (Ok x) = refl
none_before (Err f) = refl

one_more : (front : List Value) (count i : ℕ) (bytes : List ℕ) → i < count
    → after_values front (many_at (count - i) bytes) ≡ after_values front (value_at bytes >>= λ first. many_at (count - (i + 1)) first.1 >>= λ others. Ok (first.0 ∷ others.0, others.1))
one_more front count i bytes lt =
    let k : count - i ≡ suc (count - (i + 1)) = omega arith in
    ap (λ n. after_values front (many_at n bytes)) k

pub goes_on : (front : List Value) (count i : ℕ) (bytes : List ℕ) (v : Value) (after : List ℕ) (all : Reading (List Value)) → i < count → value_at bytes ≡ Ok (v, after)
    → after_values front (many_at (count - i) bytes) ≡ all → after_values (front ++ v ∷ []) (many_at (count - (i + 1)) after) ≡ all
goes_on front count i bytes v after all lt h so_far =
    let read : Reading (List Value) = many_at (count - (i + 1)) after in
    let one : after_values front (many_at (count - i) bytes) ≡ after_values front (read >>= λ others. Ok (v ∷ others.0, others.1)) =
    one_more front count i bytes lt ∙ ap (λ (r : Reading Value). after_values front (r >>= λ first. many_at (count - (i + 1)) first.1 >>= λ others. Ok (first.0 ∷ others.0, others.1))) h in
    sym (regroup front v read) ∙ sym one ∙ so_far

fails_first : {A B : Type 0} (f : Fault) (r : Reading A) (then' : A × List ℕ → Reading B) → Fails f r → Fails f (r >>= then')
fails_first Cut r then' h = ap (λ z. z >>= then') h
fails_first (Bad left) r then' h = ap (λ z. z >>= then') h
fails_first Memory r then' h = tt

fails_same : {A : Type 0} (f : Fault) (r s : Reading A) → Fails f r → r ≡ s → Fails f s
fails_same Cut r s h e = sym e ∙ h
fails_same (Bad left) r s h e = sym e ∙ h
fails_same Memory r s h e = tt

-- the next value fails
pub ends : (f : Fault) (front : List Value) (count i : ℕ) (bytes : List ℕ) (all : Reading (List Value)) → i < count → Fails f (value_at bytes)
    → after_values front (many_at (count - i) bytes) ≡ all → Fails f all
ends f front count i bytes all lt h so_far =
    let then' : Value × List ℕ → Reading (List Value) = λ first. many_at (count - (i + 1)) first.1 >>= λ others. Ok (first.0 ∷ others.0, others.1) in
    let made : List Value × List ℕ → Reading (List Value) = λ x. Ok (front ++ x.0, x.1) in
    let read = fails_first f (value_at bytes >>= then') made (fails_first f (value_at bytes) then' h) in
    fails_same f ((value_at bytes >>= then') >>= made) all read (sym (one_more front count i bytes lt) ∙ so_far)

pub is_done : (front : List Value) (count i : ℕ) (bytes : List ℕ) (all : Reading (List Value)) → count ≤ i → after_values front (many_at (count - i) bytes) ≡ all → all ≡ Ok (front, bytes)
is_done front count i bytes all le so_far =
    let k : count - i ≡ 0 = omega arith in
    sym so_far ∙ ap (λ n. after_values front (many_at n bytes)) k ∙ ap (λ (vs : List Value). Ok (vs, bytes)) (append-nil front)
