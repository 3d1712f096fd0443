-- What a part of a handler does: it gives a value and leaves a state, or it traps, which undoes everything.
use Rattle.std.specs.Prelude.{◌≡◌, Bool, if◌then◌else◌, Result, Ok, Err}
use Rattle.sal_mail.specs.declared.fault.Trap.{Trap}
use Rattle.sal_handler.specs.declared.state.State.{State}
use Rattle.sal_handler.specs.declared.state.Stop.{Stop}
use Rattle.sal_handler.specs.declared.state.Stop.TheVariants.{Trap as Trapped, NoMemory}

-- a result, or the trap that came instead of it
abbrev pub OrTrap : Type 0 → Type 0
OrTrap A = Result A Trap

-- goes on with the result; a trap stays as it is
abbrev pub and_then : {A B : Type 0} → OrTrap A → (A → OrTrap B) → OrTrap B
and_then (Ok a) f = f a
and_then (Err k) f = Err k

-- what a part of a handler does: in a state it gives a result and leaves a state, or it traps
abbrev pub Eval : Type 0 → Type 0
Eval A = State → OrTrap (A × State)

-- one part, and then another that may use what the first gave
infixl 10 ◌>>=◌
-- one part, and then another that takes what the first gives; the first trap is the result
abbrev pub ◌>>=◌ : {A B : Type 0} → Eval A → (A → Eval B) → Eval B
p >>= f = λ s. and_then (p s) (λ r. f r.0 r.1)

-- one part, and then another that doesn't use what the first gave
infixl 10 ◌>>◌
-- one part, and then another
abbrev pub ◌>>◌ : {A B : Type 0} → Eval A → Eval B → Eval B
p >> q = p >>= (λ _. q)

-- gives this, and leaves the state as it was
abbrev pub pure : {A : Type 0} → A → Eval A
pure a = λ s. Ok (a, s)

-- what traps or not, whatever the state
abbrev pub lift : {A : Type 0} → OrTrap A → Eval A
lift outcome = λ s. and_then outcome (λ a. Ok (a, s))

-- this trap, whatever the state
abbrev pub trap : {A : Type 0} → Trap → Eval A
trap k = λ s. Err k

-- the trap, unless this holds
abbrev pub require : Bool → Trap → Eval (Unit {0})
require b k = if b then pure tt else trap k

-- what a function gives and leaves, unless out of memory
abbrev pub Gives : {A : Type 0} → OrTrap (A × State) → Result A Stop → State → Type 0
Gives outcome (Ok a) new = outcome ≡ Ok (a, new)
Gives outcome (Err (Trapped k)) new = outcome ≡ Err k
Gives outcome (Err NoMemory) new = Unit {0}

-- the same, of what leaves no state
abbrev pub Yields : {A : Type 0} → OrTrap A → Result A Stop → Type 0
Yields outcome (Ok a) = outcome ≡ Ok a
Yields outcome (Err (Trapped k)) = outcome ≡ Err k
Yields outcome (Err NoMemory) = Unit {0}
