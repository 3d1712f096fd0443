-- Where nothing is asked of values.
use Rattle.std.proofs.Common.{List, [], ◌∷◌}
use Rattle.sal_handler.specs.WellFormed.{EachOf}
use Rattle.sal_effects.proofs.Changes.{Values}

-- anything holds
abbrev pub anything : Values
anything = record {
  Holds = λ v. Unit {0};
  Literal = λ text. Unit {0};
  null = tt;
  number = λ n. tt;
  text = λ text v l e. tt;
  truth = λ b. tt;
  negated = λ v. tt;
  size = λ v. tt;
  item = λ v y index h e. tt;
  operated = λ o a b y g h e. tt;
  array = λ t n y e. tt;
  list = λ vs y h e. tt;
  assigned = λ old indexes new y g h e. tt;
  default = λ t. tt;
  named = λ text u e. tt;
}

pub each_any : {X : Type 0} (xs : List X) → EachOf (λ x. Unit {0}) xs
each_any [] = tt
each_any (x ∷ xs) = (tt, each_any xs)
