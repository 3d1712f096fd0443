-- What the meaning reads off a statement beside what the checker finds.
use Rattle.std.specs.Prelude.{◌≡◌, ℕ, List, Option}
use Rattle.sal_ast.specs.Sorts.{ScopeAndResult}
use Rattle.sal_sorts.specs.declared.sort.Sort.{Sort}
use Rattle.sal_sorts.specs.declared.variable.Variable.{Variable}
use Rattle.sal_sorts.specs.Environments.{Environment, with_variable}
use Rattle.sal_typing.specs.Numbers.{number_first, scope_of}
use Rattle.sal_typing.specs.Known.{Each, IsReplySort, IsKnown}

-- The statement brings this name into scope, if it brings one, and these are the results of its chain statements. What is known
-- where it stands is known after it, the meaning has the same names in scope, and the same type for the first result.
pub record ScopesAgree (env : Environment) (mine : ℕ) (name : Option Variable) (results : List Sort) (read : ScopeAndResult) : Type 0 where
  pub after : IsKnown (with_variable env name) mine
  pub scope : read.scope ≡ scope_of (with_variable env name) mine
  pub result : read.result ≡ number_first results env.behaviors
  pub replies : Each (λ s. IsReplySort s env.behaviors) results
