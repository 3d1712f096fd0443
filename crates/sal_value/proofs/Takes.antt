-- What is read of a field is what is written of it.
use Rattle.std.proofs.Common.{◌≡◌, ℕ, suc, ◌+◌, ◌^◌, ◌<◌, ◌≤◌, Bool, true, false, List, ◌∷◌, ◌++◌, length, take, drop, Result, Ok, Err, refl, sym, ap, subst, ◌∙◌, append_assoc, arith, inl, inr}
use Rattle.std.specs.Prelude.{◌⊎◌, if◌then◌else◌, nat_lt}
use Rattle.std.specs.Int.{Width, w16, w32, w64, byte_len, from_be_bytes, to_be_bytes}
use Rattle.std.proofs.lemmas.Bool.{cases_lt, ltb-false, le-ltb}
use Rattle.std.proofs.lemmas.List.{take_at, drop_at, take-append-drop, length-append, length-take, get_or-drop, get_or-take, get_or_past}
use Rattle.std.proofs.lemmas.Nat.{be_bytes_2, be_bytes_4, be_bytes_8, from_be_bytes-to_be_bytes_2, from_be_bytes-to_be_bytes_4, from_be_bytes-to_be_bytes_8}
use Rattle.sal_value.specs.declared.fields.Fault.{Fault}
use Rattle.sal_value.specs.declared.fields.Fault.TheVariants.{Cut}
use Rattle.sal_value.specs.Coding.{IsBytes}
use Rattle.sal_value.specs.Decoding.{Reading, ◌>>=◌, bytes_at, number_at}

pub bytes_drop : (n : ℕ) (bytes : List ℕ) → IsBytes bytes → IsBytes (drop n bytes)
bytes_drop n bytes h i = rw get_or-drop (h (n + i))

pub bytes_take : (n : ℕ) (bytes : List ℕ) → IsBytes bytes → IsBytes (take n bytes)
bytes_take n bytes h i =
    elim (cases_lt i n) [
      | inl lt ↦ rw (get_or-take n bytes i 0 lt) (h i)
      | inr le ↦ rw (get_or_past (take n bytes) i 0 (omega (arith, length-take n bytes))) (omega arith)
    ]

pub bytes_tail : (b : ℕ) (bytes : List ℕ) → IsBytes (b ∷ bytes) → IsBytes bytes
bytes_tail b bytes h i = h (suc i)

-- the value of a step that did not fail
pub bind_ok : {A B : Type 0} (r : Reading A) (f : A × List ℕ → Reading B) (y : B × List ℕ) → (r >>= f) ≡ Ok y → (x : A × List ℕ) × (r ≡ Ok x) × (f x ≡ Ok y)
bind_ok (Ok x) f y e = (x, refl, e)
bind_ok (Err d) f y e = absurd cc

abbrev pub done : {A : Type 0} → A → Result A Fault
done x = Ok x

pub ok_is : {A : Type 0} (x y : A) → done x ≡ done y → x ≡ y
ok_is x y e = cc

-- a test that did not fail
pub guard_ok : {A : Type 0} (b : Bool) (d : Fault) (x y : Result A Fault) → (if b then Err d else x) ≡ y → ((d' : Fault) → y ≡ Err d' → ⊥) → (b ≡ false) × (x ≡ y)
guard_ok true d x y e fine = absurd (fine d (sym e))
guard_ok false d x y e fine = (refl, e)

pub not_err : {A : Type 0} (x : A) (d : Fault) → done x ≡ Err d → ⊥
not_err x d e = cc

pub chosen : {A : Type 0} (b : Bool) (x y z : A) → (if b then x else y) ≡ z → ((b ≡ true) × (x ≡ z)) ⊎ ((b ≡ false) × (y ≡ z))
chosen true x y z e = inl (refl, e)
chosen false x y z e = inr (refl, e)

-- what a reader took from the front
pub record Takes (bytes text rest : List ℕ) : Type 0 where
  pub parts : bytes ≡ text ++ rest
  pub rest_fits : IsBytes rest

pub takes_then : (a x b y c : List ℕ) → Takes a x b → Takes b y c → Takes a (x ++ y) c
takes_then a x b y c p q = record { parts = p.parts ∙ ap (λ (t : List ℕ). x ++ t) q.parts ∙ sym (append_assoc x y c); rest_fits = q.rest_fits }

pub takes_tag : (tag k : ℕ) (rest body c : List ℕ) → tag ≡ k → Takes rest body c → Takes (tag ∷ rest) (k ∷ body) c
takes_tag tag k rest body c e t = record { parts = ap (λ b. b ∷ rest) e ∙ ap (λ (x : List ℕ). k ∷ x) t.parts; rest_fits = t.rest_fits }

-- ---- bytes and numbers

pub bytes_taken : (n : ℕ) (bytes t rest : List ℕ) → IsBytes bytes → bytes_at n bytes ≡ Ok (t, rest) → Takes bytes t rest × (length t ≡ n) × IsBytes t
unfolding bytes_at
bytes_taken n bytes t rest fits e =
    let g = guard_ok (nat_lt (length bytes) n) Cut (Ok (take n bytes, drop n bytes)) (Ok (t, rest)) e (λ d. not_err (t, rest) d) in
    let long : n ≤ length bytes = ltb-false _ _ g.0 in
    let same = ok_is (take n bytes, drop n bytes) (t, rest) g.1 in
    let t-is : take n bytes ≡ t = ap (λ (p : List ℕ × List ℕ). p.0) same in
    let rest-is : drop n bytes ≡ rest = ap (λ (p : List ℕ × List ℕ). p.1) same in (
      record {
        parts = sym (take-append-drop n bytes) ∙ ap (λ (z : List ℕ). z ++ drop n bytes) t-is ∙ ap (λ (z : List ℕ). t ++ z) rest-is;
        rest_fits = subst IsBytes rest-is (bytes_drop n bytes fits);
      },
      omega (arith, length-take n bytes, ap length t-is),
      subst IsBytes t-is (bytes_take n bytes fits),
    )

pub bytes_again : (n : ℕ) (t rest : List ℕ) → length t ≡ n → bytes_at n (t ++ rest) ≡ Ok (t, rest)
unfolding bytes_at
bytes_again n t rest e =
    let long : nat_lt (length (t ++ rest)) n ≡ false = le-ltb _ _ (omega (arith, length-append t rest)) in
    rw (long, take_at t rest n e, drop_at t rest n e) refl

pub record IsWide (w : Width) (limit : ℕ) : Type 0 where
  pub len : (n : ℕ) → length (to_be_bytes w n) ≡ byte_len w
  pub back : (bytes : List ℕ) → length bytes ≡ byte_len w → IsBytes bytes → to_be_bytes w (from_be_bytes w bytes) ≡ bytes
  pub again : (n : ℕ) → n < limit → from_be_bytes w (to_be_bytes w n) ≡ n
  pub below : (bytes : List ℕ) → IsBytes bytes → from_be_bytes w bytes < limit

pub wide16 : IsWide w16 (2 ^ 16)
wide16 = record {
  len = λ n. refl;
  back = λ bytes len fits. be_bytes_2 bytes _ len fits refl;
  again = λ n lt. from_be_bytes-to_be_bytes_2 n lt;
  below = λ bytes fits. omega (arith, fits 0, fits 1);
}

pub wide32 : IsWide w32 (2 ^ 32)
wide32 = record {
  len = λ n. refl;
  back = λ bytes len fits. be_bytes_4 bytes _ len fits refl;
  again = λ n lt. from_be_bytes-to_be_bytes_4 n lt;
  below = λ bytes fits. omega (arith, fits 0, fits 1, fits 2, fits 3);
}

pub wide64 : IsWide w64 (2 ^ 64)
wide64 = record {
  len = λ n. refl;
  back = λ bytes len fits. be_bytes_8 bytes _ len fits refl;
  again = λ n lt. from_be_bytes-to_be_bytes_8 n lt;
  below = λ bytes fits. omega (arith, fits 0, fits 1, fits 2, fits 3, fits 4, fits 5, fits 6, fits 7);
}

pub number_taken : (w : Width) (limit : ℕ) (wide : IsWide w limit) (bytes : List ℕ) (n : ℕ) (rest : List ℕ) → IsBytes bytes → number_at w bytes ≡ Ok (n, rest) → Takes bytes (to_be_bytes w n) rest × (n < limit)
unfolding number_at
number_taken w limit wide bytes n rest fits e =
    let a = bind_ok (bytes_at (byte_len w) bytes) (λ t. Ok (from_be_bytes w t.0, t.1)) (n, rest) e in
    let t = bytes_taken (byte_len w) bytes a.0.0 a.0.1 fits a.1 in
    let same = ok_is (from_be_bytes w a.0.0, a.0.1) (n, rest) a.2 in
    let n-is : from_be_bytes w a.0.0 ≡ n = ap (λ (p : ℕ × List ℕ). p.0) same in
    let rest-is : a.0.1 ≡ rest = ap (λ (p : ℕ × List ℕ). p.1) same in
    let front : a.0.0 ≡ to_be_bytes w n = sym (wide.back a.0.0 t.1 t.2) ∙ ap (to_be_bytes w) n-is in
    (subst (λ z. Takes bytes z rest) front (subst (λ z. Takes bytes a.0.0 z) rest-is t.0), subst (λ z. z < limit) n-is (wide.below a.0.0 t.2))

pub number_again : (w : Width) (limit : ℕ) (wide : IsWide w limit) (n : ℕ) (rest : List ℕ) → n < limit → number_at w (to_be_bytes w n ++ rest) ≡ Ok (n, rest)
unfolding number_at
number_again w limit wide n rest lt =
    ap (λ (r : Reading (List ℕ)). r >>= λ t. Ok (from_be_bytes w t.0, t.1)) (bytes_again (byte_len w) (to_be_bytes w n) rest (wide.len n))
    ∙ ap (λ k. Ok (k, rest)) (wide.again n lt)
