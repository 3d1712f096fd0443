-- The first of a theatre's names.
use Rattle.std.proofs.Common.{◌≡◌, ℕ, zero, suc, ◌+◌, ◌≤◌, List, [], ◌∷◌, ◌++◌, length, take, min, refl, ap, sym, ◌∙◌, arith}
use Rattle.sal_ast.specs.declared.program.Program.{Program}
use Rattle.sal_mail.specs.declared.effects.Effects.{Effects}
use Rattle.sal_value.specs.declared.name.Name.{Name}
use Rattle.sal_value.specs.declared.name.Name.TheVariants.{Anon}
use Rattle.sal_handler.specs.Calls.{names_from, fresh_names}
use Rattle.sal_handler.specs.Handler.{handle}
use Rattle.sal_handler.specs.Renaming.{NamesNotTakenDontCount}
use Rattle.sal_handler.specs.declared.turn.Turn.{Turn}
use Rattle.sal_handler.specs.declared.turn.Outcome.{Outcome}
use Rattle.sal_handler.specs.declared.turn.Outcome.TheVariants.{Done}
use Rattle.sal_walk.specs.Naming.{call_with}

-- one name more at the end
pub names_more : (p n k : ℕ) → names_from p n (k + 1) ≡ names_from p n k ++ Anon p (n + k) ∷ []
unfolding names_from
names_more p n zero = let e : n ≡ n + 0 = omega arith in ap (λ m. Anon p m ∷ []) e
names_more p n (suc k) =
    let e : (n + 1) + k ≡ n + suc k = omega arith in
    let f : suc k + 1 ≡ suc (k + 1) = omega arith in
    ap (names_from p n) f ∙ ap (λ l. Anon p n ∷ l) (names_more p (n + 1) k ∙ ap (λ m. names_from p (n + 1) k ++ Anon p m ∷ []) e)

take_names : (p n k most m : ℕ) → m ≡ min k most → take k (names_from p n most) ≡ names_from p n m
unfolding names_from
take_names p n zero most m e = let z : 0 ≡ m = omega arith in ap (names_from p n) z
take_names p n (suc k) zero m e = let z : 0 ≡ m = omega arith in ap (names_from p n) z
take_names p n (suc k) (suc most) zero e = absurd (omega arith)
take_names p n (suc k) (suc most) (suc m) e = ap (λ l. Anon p n ∷ l) (take_names p (n + 1) k most m (omega arith))

pub first_names : (n k m : ℕ) → m ≡ min k 1024 → names_from 0 n m ≡ take k (fresh_names 0 n)
unfolding fresh_names
first_names n k m e = sym (take_names 0 n k 1024 m e)

-- the outcome is the same with the taken names alone
pub taken_outcome : NamesNotTakenDontCount → (p : Program) (t : Turn) (names taken : List Name) (o : Outcome) (e : Effects) → o ≡ Done e → o ≡ handle p (call_with names t) → taken ≡ take (length e.actors) names
    → Done e ≡ handle p (call_with taken t)
taken_outcome law p t names taken o e is h s = sym (law p (call_with names t) e (sym h ∙ is)) ∙ ap (λ l. handle p (call_with l t)) (sym s)
