-- What holds of what a part of a handler gives and leaves, where it doesn't trap.
use Rattle.std.proofs.Common.{◌≡◌, Bool, true, false, if◌then◌else◌, Ok, Err, refl, subst}
use Rattle.sal_handler.specs.declared.state.State.{State}
use Rattle.sal_handler.specs.Evaluation.{OrTrap, and_then, Eval}

abbrev pub After : {A : Type 0} → (A → State → Type 0) → OrTrap (A × State) → Type 0
After P (Ok x) = P x.0 x.1
After P (Err k) = Unit {0}

-- one part, and then another
pub then_after : {A B : Type 0} (P : A → State → Type 0) (Q : B → State → Type 0) (x : OrTrap (A × State)) (g : A → Eval B) → After P x → ((a : A) (t : State) → P a t → After Q (g a t)) → After Q (and_then x (λ r. g r.0 r.1))
then_after P Q (Ok x) g p f = f x.0 x.1 p
then_after P Q (Err k) g p f = tt

pub after_more : {A : Type 0} (P Q : A → State → Type 0) (x : OrTrap (A × State)) → ((a : A) (t : State) → P a t → Q a t) → After P x → After Q x
after_more P Q (Ok x) f p = f x.0 x.1 p
after_more P Q (Err k) f p = tt

pub lift_after : {A : Type 0} (P : A → State → Type 0) (x : OrTrap A) (s : State) → ((a : A) → x ≡ Ok a → P a s) → After P (and_then x (λ a. Ok (a, s)))
lift_after P (Ok a) s f = f a refl
lift_after P (Err k) s f = tt

pub when : {A : Type 0} (P : A → State → Type 0) (b : Bool) (x y : OrTrap (A × State)) → (b ≡ true → After P x) → (b ≡ false → After P y) → After P (if b then x else y)
when P true x y f g = f refl
when P false x y f g = g refl

-- of what it is known to give
pub after_is : {A : Type 0} (P : A → State → Type 0) (x : OrTrap (A × State)) (a : A) (t : State) → After P x → x ≡ Ok (a, t) → P a t
after_is P x a t p e = subst (After P) e p

pub after_both : {A : Type 0} (P Q : A → State → Type 0) (x : OrTrap (A × State)) → After P x → After Q x → After (λ a t. P a t × Q a t) x
after_both P Q (Ok x) p q = (p, q)
after_both P Q (Err k) p q = tt
