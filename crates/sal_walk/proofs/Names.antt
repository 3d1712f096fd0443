-- The names of new actors.
use Rattle.std.proofs.Common.{◌≡◌, ℕ, zero, suc, ◌+◌, ◌<◌, Some, slice_get, ap, ◌∙◌, arith}
use Rattle.sal_value.specs.declared.name.Name.TheVariants.{Anon}
use Rattle.sal_handler.specs.Calls.{names_from, fresh_names}
use Rattle.sal_handler.specs.Scopes.{fresh_name, name_or}

name_at : (p n k i : ℕ) → i < k → slice_get (names_from p n k) i ≡ Some (Anon p (n + i))
unfolding names_from
name_at p n zero i h = absurd (omega arith)
name_at p n (suc k) zero h = let e : n ≡ n + 0 = omega arith in ap (λ m. Some (Anon p m)) e
name_at p n (suc k) (suc i) h = let e : (n + 1) + i ≡ n + suc i = omega arith in name_at p (n + 1) k i (omega arith) ∙ ap (λ m. Some (Anon p m)) e

pub fresh_name_is : (p n i : ℕ) → i < 1024 → fresh_name (fresh_names p n) i ≡ Anon p (n + i)
unfolding fresh_names
fresh_name_is p n i h = ap (λ o. name_or o i) (name_at p n 1024 i h)
