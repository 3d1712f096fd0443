-- Going on where nothing is violated.
use Rattle.std.proofs.Common.{◌≡◌, ℕ, Bool, true, false, List, [], ◌∷◌, ◌++◌, append_assoc, append-nil, Result, Ok, Err, refl, sym, ap, ◌∙◌}
use Rattle.sal_sorts.specs.Verdicts.{Violation, Verdict, Good, Bad, ◌also◌, node, map_verdict, rule}
use Rattle.sal_sorts.specs.Refusals.{first, fine, check_rule, and_then}

pub under : {A B : Type 0} (r : Result A Violation) (f g : A → Result B Violation) → ((a : A) → f a ≡ g a) → and_then r f ≡ and_then r g
under r f g h = ap (λ k. and_then r k) (λ i a. h a i)

pub assoc : {A B C : Type 0} (r : Result A Violation) (f : A → Result B Violation) (k : B → Result C Violation) → and_then r (λ a. and_then (f a) k) ≡ and_then (and_then r f) k
assoc (Ok a) f k = refl
assoc (Err v) f k = refl

pub assoc2 : {A B C D : Type 0} (r : Result A Violation) (f : A → Result B Violation) (h : A → B → Result C Violation) (k : C → Result D Violation) → and_then r (λ a. and_then (f a) (λ b. and_then (h a b) k)) ≡ and_then (and_then r (λ a. and_then (f a) (λ b. h a b))) k
assoc2 r f h k = ap (λ x. and_then r x) (λ i a. assoc (f a) (h a) k i) ∙ assoc r (λ a. and_then (f a) (λ b. h a b)) k

pub assoc3 : {A B C D E : Type 0} (r : Result A Violation) (f : A → Result B Violation) (h : A → B → Result C Violation) (l : A → B → C → Result D Violation) (k : D → Result E Violation) → and_then r (λ a. and_then (f a) (λ b. and_then (h a b) (λ c. and_then (l a b c) k))) ≡ and_then (and_then r (λ a. and_then (f a) (λ b. and_then (h a b) (λ c. l a b c)))) k
assoc3 r f h l k = ap (λ x. and_then r x) (λ i a. assoc2 (f a) (h a) (l a) k i) ∙ assoc r (λ a. and_then (f a) (λ b. and_then (h a b) (λ c. l a b c))) k

pub ok_last : {A : Type 0} (r : Result A Violation) → and_then r (λ a. Ok a) ≡ r
ok_last (Ok a) = refl
ok_last (Err v) = refl

pub fine2 : (a b : List Violation) → fine (a ++ b) ≡ and_then (fine a) (λ u. fine b)
fine2 [] b = refl
fine2 (v ∷ vs) b = refl

pub fine3 : (a b c : List Violation) → fine (a ++ b ++ c) ≡ and_then (fine a) (λ u. and_then (fine b) (λ w. fine c))
fine3 [] [] c = refl
fine3 [] (v ∷ vs) c = refl
fine3 (v ∷ vs) b c = refl

pub fine4 : (a b c d : List Violation) → fine (a ++ b ++ c ++ d) ≡ and_then (fine a) (λ u. and_then (fine b) (λ w. and_then (fine c) (λ x. fine d)))
fine4 [] [] [] d = refl
fine4 [] [] (v ∷ vs) d = refl
fine4 [] (v ∷ vs) c d = refl
fine4 (v ∷ vs) b c d = refl

-- what is known before, with what comes after it
pub appended : {A : Type 0} (done : List A) (v w : Verdict (List A)) → and_then (first (map_verdict (λ p. p.0 ++ p.1) (v also w))) (λ ss. Ok (done ++ ss)) ≡ and_then (first v) (λ r. and_then (first w) (λ ss. Ok ((done ++ r) ++ ss)))
appended done (Good a) (Good b) = ap (λ x. Ok x) (sym (append_assoc done a b))
appended done (Good a) (Bad w ws) = refl
appended done (Bad v vs) (Good b) = refl
appended done (Bad v vs) (Bad w ws) = refl

pub fine_rule : (number at : ℕ) (holds : Bool) → fine (rule number at holds) ≡ check_rule number at holds
fine_rule number at true = refl
fine_rule number at false = refl

pub ruleset rules = (fine2, fine3, fine4, fine_rule)
