-- Things that are read one after the other, as the code reads them.
use Rattle.std.proofs.Common.{◌≡◌, ℕ, suc, ◌-◌, ◌+◌, ◌<◌, ◌≤◌, List, [], ◌∷◌, ◌++◌, Ok, Err, refl, sym, ap, ◌∙◌, append_assoc, append-nil, arith}
use Rattle.sal_envelope.specs.declared.fault.Fault.{Fault}
use Rattle.sal_envelope.specs.declared.fault.Fault.TheVariants.{Cut, Bad, Memory}
use Rattle.sal_envelope.specs.Decoding.{Reading, ◌>>=◌}
use Rattle.sal_envelope.specs.code.Reads.{Fails}
use Rattle.sal_resident.specs.Unpacking.{each_from}

-- what is read of things, of which these are read
abbrev pub after_items : {A : Type 0} → List A → Reading (List A) → Reading (List A)
after_items front read = read >>= λ x. Ok (front ++ x.0, x.1)

regroup : {A : Type 0} (front : List A) (x : A) (read : Reading (List A)) → after_items front (read >>= λ y. Ok (x ∷ y.0, y.1)) ≡ after_items (front ++ x ∷ []) read
regroup {A} front x (Ok y) = ap (λ (xs : List A). Ok (xs, y.1)) (simp append_assoc)
regroup front x (Err f) = refl

pub none_before : {A : Type 0} (read : Reading (List A)) → after_items [] read ≡ read
none_before (Ok x) = refl
none_before (Err f) = refl

fails_first : {A B : Type 0} (f : Fault) (r : Reading A) (then' : A × List ℕ → Reading B) → Fails f r → Fails f (r >>= then')
fails_first Cut r then' h = ap (λ z. z >>= then') h
fails_first (Bad left) r then' h = ap (λ z. z >>= then') h
fails_first Memory r then' h = tt

fails_same : {A : Type 0} (f : Fault) (r s : Reading A) → Fails f r → r ≡ s → Fails f s
fails_same Cut r s h e = sym e ∙ h
fails_same (Bad left) r s h e = sym e ∙ h
fails_same Memory r s h e = tt

module _ {S A : Type 0} (keep : A → S) (one : S → List ℕ → Reading A) where
  one_more : (before : S) (front : List A) (count i : ℕ) (bytes : List ℕ) → i < count
      → after_items front (each_from keep one before (count - i) bytes)
      ≡ after_items front (one before bytes >>= λ first. each_from keep one (keep first.0) (count - (i + 1)) first.1 >>= λ others. Ok (first.0 ∷ others.0, others.1))
  one_more before front count i bytes lt =
      let k : count - i ≡ suc (count - (i + 1)) = omega arith in
      ap (λ n. after_items front (each_from keep one before n bytes)) k

  pub goes_on : (before : S) (front : List A) (count i : ℕ) (bytes : List ℕ) (x : A) (after : List ℕ) (all : Reading (List A)) → i < count → one before bytes ≡ Ok (x, after)
      → after_items front (each_from keep one before (count - i) bytes) ≡ all → after_items (front ++ x ∷ []) (each_from keep one (keep x) (count - (i + 1)) after) ≡ all
  goes_on before front count i bytes x after all lt h so_far =
      let read : Reading (List A) = each_from keep one (keep x) (count - (i + 1)) after in
      let more : after_items front (each_from keep one before (count - i) bytes) ≡ after_items front (read >>= λ others. Ok (x ∷ others.0, others.1)) =
      one_more before front count i bytes lt ∙ ap (λ (r : Reading A). after_items front (r >>= λ first. each_from keep one (keep first.0) (count - (i + 1)) first.1 >>= λ others. Ok (first.0 ∷ others.0, others.1))) h in
      sym (regroup front x read) ∙ sym more ∙ so_far

  -- the next one fails
  pub ends : (f : Fault) (before : S) (front : List A) (count i : ℕ) (bytes : List ℕ) (all : Reading (List A)) → i < count → Fails f (one before bytes)
      → after_items front (each_from keep one before (count - i) bytes) ≡ all → Fails f all
  ends f before front count i bytes all lt h so_far =
      let then' : A × List ℕ → Reading (List A) = λ first. each_from keep one (keep first.0) (count - (i + 1)) first.1 >>= λ others. Ok (first.0 ∷ others.0, others.1) in
      let made : List A × List ℕ → Reading (List A) = λ x. Ok (front ++ x.0, x.1) in
      let read = fails_first f (one before bytes >>= then') made (fails_first f (one before bytes) then' h) in
      fails_same f ((one before bytes >>= then') >>= made) all read (sym (one_more before front count i bytes lt) ∙ so_far)

  pub is_done : (before : S) (front : List A) (count i : ℕ) (bytes : List ℕ) (all : Reading (List A)) → count ≤ i → after_items front (each_from keep one before (count - i) bytes) ≡ all → all ≡ Ok (front, bytes)
  is_done before front count i bytes all le so_far =
      let k : count - i ≡ 0 = omega arith in
      sym so_far ∙ ap (λ n. after_items front (each_from keep one before n bytes)) k ∙ ap (λ (xs : List A). Ok (xs, bytes)) (append-nil front)
