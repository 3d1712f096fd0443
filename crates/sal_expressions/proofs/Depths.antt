-- An expression at a depth, by what stands one construct deeper.
use Rattle.std.proofs.Common.{◌≡◌, ℕ, zero, suc, ◌<◌, List, refl, arith}
use Rattle.sal_grammar.specs.Expressions.{unary, unary_by, postfix, after_name, after_dot, other_postfix, closed_postfix, with_suffixes, suffixes, suffix}
use Rattle.sal_grammar.specs.Statements.{below, one_less}
use Rattle.sal_grammar.specs.Tokens.{Token}

pub unary_is : (d : ℕ) (i : List Token) → unary d i ≡ unary_by d (below d) i
unfolding unary unary_by postfix after_name after_dot other_postfix closed_postfix with_suffixes suffixes suffix
unary_is zero i = refl
unary_is (suc d) i = refl

pub less_below : (d : ℕ) → 0 < d → one_less d < d
less_below zero h = absurd (omega arith)
less_below (suc d) h = omega arith
