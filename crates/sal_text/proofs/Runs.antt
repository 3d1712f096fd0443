-- A run of bytes at the front of a text: it is the longest.
use Rattle.std.proofs.Common.{◌≡◌, ℕ, suc, ◌≤◌, Bool, true, false, List, [], ◌∷◌, ◌++◌, length, take, drop, refl, ap, arith}
use Rattle.std.specs.List.{list_all}
use Rattle.std.proofs.lemmas.Bool.{and_parts}
use Rattle.sal_text.specs.Tokens.{begins}
use Rattle.sal_text.specs.code.Scanning.{run_length}

record Front (is : ℕ → Bool) (text : List ℕ) : Type 0 where
  all : list_all is (take (run_length is text) text) ≡ true
  ended : begins is (drop (run_length is text) text) ≡ false
  within : run_length is text ≤ length text

front_at : (is : ℕ → Bool) (c : ℕ) (cs : List ℕ) (b : Bool) → is c ≡ b → Front is cs → Front is (c ∷ cs)
front_at is c cs true e f = record { all = rw (e, e) f.all; ended = rw e f.ended; within = rw e (let h = f.within in omega arith) }
front_at is c cs false e f = record { all = rw e refl; ended = rw e e; within = rw e (omega arith) }

front : (is : ℕ → Bool) (text : List ℕ) → Front is text
front is [] = record { all = refl; ended = refl; within = omega arith }
front is (c ∷ cs) = front_at is c cs (is c) refl (front is cs)

pub run_all : (is : ℕ → Bool) (text : List ℕ) → list_all is (take (run_length is text) text) ≡ true
run_all is text = (front is text).all

pub run_ended : (is : ℕ → Bool) (text : List ℕ) → begins is (drop (run_length is text) text) ≡ false
run_ended is text = (front is text).ended

pub run_within : (is : ℕ → Bool) (text : List ℕ) → run_length is text ≤ length text
run_within is text = (front is text).within

-- a run that ends where no more such bytes follow
pub run_over : (is : ℕ → Bool) (bytes rest : List ℕ) → list_all is bytes ≡ true → begins is rest ≡ false → run_length is (bytes ++ rest) ≡ length bytes
run_over is [] [] h e = refl
run_over is [] (c ∷ cs) h e = rw e refl
run_over is (c ∷ bytes) rest h e =
    let p = and_parts (is c) (list_all is bytes) h in
    let k : is c ≡ true = p.0 in
    rw k (ap suc (run_over is bytes rest p.1 e))
