-- The types of the checker, which name behaviours, as the types of the meaning, which number them.
use Rattle.std.specs.Prelude.{ℕ, List, [], ◌∷◌, map, if◌then◌else◌, Option, Some, None}
use Rattle.sal_value.specs.declared.value.Base.{Base as MeantBase}
use Rattle.sal_value.specs.declared.value.Base.TheVariants as meant
use Rattle.sal_value.specs.declared.value.Sort.{Sort as MeantSort}
use Rattle.sal_ast.specs.declared.program.Behavior.{Behavior}
use Rattle.sal_ast.specs.Sorts.{Scope, actor_base, sort_with}
use Rattle.sal_ast.specs.Sorts.{Variable as ScopeVariable}
use Rattle.sal_sorts.specs.declared.sort.Base.{Base}
use Rattle.sal_sorts.specs.declared.sort.Base.TheVariants.{Int, Boolean, Str, Actor, Void, Null}
use Rattle.sal_sorts.specs.declared.sort.Sort.{Sort}
use Rattle.sal_sorts.specs.declared.variable.Variable.{Variable}
use Rattle.sal_sorts.specs.Environments.{Environment}

-- a base with a behaviour's number in place of its name; `null` has no type in the meaning
abbrev pub number_base : Base → List Behavior → Option MeantBase
number_base Int behaviors = Some meant.Int
number_base Boolean behaviors = Some meant.Bool
number_base Str behaviors = Some meant.Str
number_base (Actor name) behaviors = actor_base name behaviors
number_base Void behaviors = Some meant.Void
number_base Null behaviors = None

-- the type that it is in the meaning, if it is one there: its behaviour is known, and it has at most 8 pairs of brackets
unfoldable pub number_sort : Sort → List Behavior → Option MeantSort
number_sort s behaviors = sort_with (number_base s.base behaviors) s.dims

-- what the meaning knows of a local; a token has no type there
abbrev pub number_variable : List Behavior → Variable → ScopeVariable
number_variable behaviors v = record { name = v.name; sort = if v.is_token then None else number_sort v.sort behaviors }

-- what the meaning knows where a node stands, in the behaviour with this number
abbrev pub scope_of : Environment → ℕ → Scope
scope_of env mine = record { behaviors = env.behaviors; mine = mine; locals = map (number_variable env.behaviors) env.scope }

-- the type of the first of these, if there is one
abbrev pub number_first : List Sort → List Behavior → Option (Option MeantSort)
number_first [] behaviors = None
number_first (s ∷ ss) behaviors = Some (number_sort s behaviors)
