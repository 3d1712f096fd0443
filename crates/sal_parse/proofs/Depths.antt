-- A statement at a depth, by what stands one construct deeper.
use Rattle.std.proofs.Common.{◌≡◌, ℕ, zero, suc, ◌<◌, List, refl, arith}
use Rattle.sal_grammar.specs.Statements.{stmt, stmt_by, one_less}
use Rattle.sal_grammar.specs.Tokens.{Token}
use Rattle.sal_parse.specs.code.Nests.{inner}

pub stmt_is : (d : ℕ) (i : List Token) → stmt d i ≡ stmt_by d (inner d) i
unfolding stmt
stmt_is zero i = refl
stmt_is (suc d) i = refl

pub less_below : (d : ℕ) → 0 < d → one_less d < d
less_below zero h = absurd (omega arith)
less_below (suc d) h = omega arith
