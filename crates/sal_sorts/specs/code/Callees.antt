-- What the code finds in place of the type of a handler: what is written of it.
use Rattle.std.specs.Prelude.{ℕ, if◌then◌else◌, List, map, Option, Some, None, option_map, filter_map, slice_get}
use Rattle.std.specs.List.{find}
use Rattle.std.specs.Str.{bytes_eq}
use Rattle.sal_ast.specs.declared.program.Param.{Param}
use Rattle.sal_ast.specs.declared.program.Member.{Member}
use Rattle.sal_ast.specs.Members.{Field, Handler, as_field, as_handler, as_constructor}
use Rattle.sal_sorts.specs.declared.sort.Sort.{Sort}
use Rattle.sal_sorts.specs.declared.variable.Variable.{Variable}
use Rattle.sal_sorts.specs.declared.member.Callee.{Callee}
use Rattle.sal_sorts.specs.declared.member.Callee.TheVariants as callee
use Rattle.sal_sorts.specs.Sorts.{sort_of_type, sort_of_result}
use Rattle.sal_sorts.specs.Environments.{HandlerType, field_variable, type_of_handler, migrate_type, constructor_params}

-- the types of parameters
abbrev pub param_sorts : List Param → List Sort
param_sorts params = map (λ p. sort_of_type p.sort) params

-- the type of what is called
abbrev pub callee_type : Callee → HandlerType
callee_type callee.Migrate = migrate_type
callee_type (callee.Declared params result) = record { params = param_sorts params.now; result = sort_of_result result.now }

-- the field of this name, if this is it
abbrev pub field_if_same : List ℕ → Option Field → Option Variable
field_if_same name None = None
field_if_same name (Some f) = if bytes_eq f.name name then Some (field_variable f) else None

-- the type of the handler of this name, if this is it
abbrev pub handler_if_same : List ℕ → Option Handler → Option HandlerType
handler_if_same name None = None
handler_if_same name (Some h) = if bytes_eq h.name name then Some (type_of_handler h) else None

-- the first field of this name
unfoldable pub first_field : List ℕ → List Member → Option Variable
first_field name members = option_map field_variable (find (λ f. bytes_eq f.name name) (filter_map as_field members))

-- the type of the first handler of this name
unfoldable pub first_handler : List ℕ → List Member → Option HandlerType
first_handler name members = option_map type_of_handler (find (λ h. bytes_eq h.name name) (filter_map as_handler members))

-- what the first constructor takes
unfoldable pub first_constructor : List Member → List Sort
first_constructor members = constructor_params (slice_get (filter_map as_constructor members) 0)
