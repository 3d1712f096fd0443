-- How the code looks names up, and how a part of a block changes the code's scope.
use Rattle.std.specs.Prelude.{◌≡◌, ◌≤◌, ℕ, if◌then◌else◌, List, [], ◌∷◌, length, take, filter_map, Option, Some, None, Result, Ok, Err, option_map}
use Rattle.std.specs.List.{find, position}
use Rattle.std.specs.Str.{bytes_eq}
use Rattle.sal_value.specs.declared.value.Sort.{Sort}
use Rattle.sal_value.specs.declared.no_memory.NoMemory.{NoMemory}
use Rattle.sal_ast.specs.declared.program.Behavior.{Behavior}
use Rattle.sal_ast.specs.declared.program.Member.{Member}
use Rattle.sal_ast.specs.declared.program.TypeName.{TypeName}
use Rattle.sal_ast.specs.Members.{as_field, as_handler}
use Rattle.sal_ast.specs.Sorts.{Scope, ScopeAndResult, Variable}
use Rattle.sal_infer.specs.declared.scope.Scope.{Scope as CodeScope}

-- the type of the first variable of this name, if there is one
abbrev pub sort_named : List ℕ → List Variable → Option (Option Sort)
sort_named name [] = None
sort_named name (v ∷ vs) = if bytes_eq v.name name then Some v.sort else sort_named name vs

-- the members of the behaviour with this number
abbrev pub members_in : Option Behavior → List Member
members_in None = []
members_in (Some b) = b.members

-- the type of the first field of this name
abbrev pub field_type : List ℕ → List Member → Option TypeName
field_type name members = option_map (λ f. f.sort) (find (λ f. bytes_eq f.name name) (filter_map as_field members))

-- the result of the first handler of this name
abbrev pub handler_type : List ℕ → List Member → Option (Option TypeName)
handler_type name members = option_map (λ h. h.result) (find (λ h. bytes_eq h.name name) (filter_map as_handler members))

-- the number of the first handler of this name
abbrev pub handler_position : List ℕ → List Member → Option ℕ
handler_position name members = position (λ h. bytes_eq h.name name) (filter_map as_handler members)

-- what the first chain of a part gives; where the part has no chain, the scope is as after it
abbrev pub Finds : ScopeAndResult → Result (Option (Option Sort)) NoMemory → Scope → Type 0
Finds change (Ok None) new = (change.result ≡ None) × (change.scope ≡ new)
Finds change (Ok (Some r)) new = change.result ≡ Some r
Finds change (Err e) new = Unit {0}

-- declarations may have come
pub record Grows (old new : CodeScope) : Type 0 where
  pub behaviors : new.behaviors ≡ old.behaviors
  pub mine : new.mine ≡ old.mine
  pub locals : new.locals ≡ old.locals
  pub longer : length old.declared ≤ length new.declared
  pub declared : take (length old.declared) new.declared ≡ old.declared
