-- What is known where a node stands. Of doubled names the first counts.
use Rattle.std.specs.Prelude.{ℕ, Bool, true, false, not, ◌&&◌, is_some, nat_eq, if◌then◌else◌, List, [], ◌∷◌, ◌++◌, take, map, codes, Option, Some, None, option_map}
use Rattle.std.specs.List.{find}
use Rattle.std.specs.Str.{bytes_eq}
use Rattle.sal_ast.specs.declared.program.Ident.{Ident}
use Rattle.sal_ast.specs.declared.program.Behavior.{Behavior}
use Rattle.sal_ast.specs.Members.{Field, Handler, fields_of, handlers_of, constructor_of}
use Rattle.sal_sorts.specs.declared.sort.Base.{Base}
use Rattle.sal_sorts.specs.declared.sort.Base.TheVariants.{Str, Actor, Void}
use Rattle.sal_sorts.specs.declared.sort.Sort.{Sort}
use Rattle.sal_sorts.specs.declared.variable.Variable.{Variable}
use Rattle.sal_sorts.specs.declared.variable.MemberKind.{MemberKind}
use Rattle.sal_sorts.specs.declared.variable.MemberKind.TheVariants as kind
use Rattle.sal_sorts.specs.Sorts.{plain, is_same_sort, is_null_sort, sort_of_type, sort_of_result}

-- what is known where a node stands
pub record Environment : Type 0 where
  pub behaviors : List Behavior
  -- the name of the behaviour around
  pub own : List ℕ
  -- the member around
  pub member : MemberKind
  -- of the handler around
  pub result : Sort
  -- whether a join's block is around
  pub in_join : Bool
  -- parameters, locals and tokens, the oldest first; a token has the type of the value that it waits for
  pub scope : List Variable

-- in a member of the behaviour of this name
abbrev pub member_environment : List Behavior → List ℕ → MemberKind → Sort → Environment
member_environment behaviors own member result = record { behaviors = behaviors; own = own; member = member; result = result; in_join = false; scope = [] }

-- ---- behaviours

-- the behaviour of this name
unfoldable pub behavior_with_name : List ℕ → Environment → Option Behavior
behavior_with_name name env = find (λ b. bytes_eq b.name.text name) env.behaviors

-- whether a behaviour has this name
unfoldable pub has_behavior : List ℕ → Environment → Bool
has_behavior name env = is_some (behavior_with_name name env)

-- whether a base is a behaviour
abbrev pub is_actor_base : Environment → Base → Bool
is_actor_base env (Actor name) = has_behavior name env
is_actor_base env _ = false

-- a behaviour's type
unfoldable pub is_actor_sort : Environment → Sort → Bool
is_actor_sort env s = is_actor_base env s.base && nat_eq s.dims 0

-- `null` is assignable to behaviour types, every type to itself, and nothing else
unfoldable pub is_assignable : Environment → Sort → Sort → Bool
is_assignable env value to = if is_null_sort value then is_actor_sort env to else is_same_sort value to

-- all of them, one for one
abbrev pub are_assignable : Environment → List Sort → List Sort → Bool
are_assignable env [] [] = true
are_assignable env (s ∷ ss) (t ∷ ts) = is_assignable env s t && are_assignable env ss ts
are_assignable env _ _ = false

-- ---- fields, constructors and handlers

-- the fields of a behaviour, or none
abbrev pub fields_in : Option Behavior → List Field
fields_in None = []
fields_in (Some b) = fields_of b

-- the handlers of a behaviour, or none
abbrev pub handlers_in : Option Behavior → List Handler
handlers_in None = []
handlers_in (Some b) = handlers_of b

-- a field, as a name that stands for a value
abbrev pub field_variable : Field → Variable
field_variable f = record { name = f.name; sort = sort_of_type f.sort; is_token = false }

-- the field of this name of the behaviour around
unfoldable pub field_with_name : List ℕ → Environment → Option Variable
field_with_name name env = option_map field_variable (find (λ f. bytes_eq f.name name) (fields_in (behavior_with_name env.own env)))

-- the types of what a handler takes, and of its result
pub record HandlerType : Type 0 where
  pub params : List Sort
  pub result : Sort

-- the type of a declared handler or constructor
abbrev pub type_of_handler : Handler → HandlerType
type_of_handler h = record { params = map (λ p. sort_of_type p.sort) h.params; result = sort_of_result h.result }

-- every actor understands `migrate`, which takes a text; it is no handler that is declared
abbrev pub migrate_type : HandlerType
migrate_type = record { params = plain Str ∷ []; result = plain Void }

-- `migrate`
unfoldable pub is_migrate : List ℕ → Bool
is_migrate name = bytes_eq name (codes "migrate")

-- the handler of this name of a behaviour
unfoldable pub handler_with_name : List ℕ → Option Behavior → Option HandlerType
handler_with_name name b =
    if is_migrate name then Some migrate_type
    else option_map type_of_handler (find (λ h. bytes_eq h.name name) (handlers_in b))

-- what a constructor takes; without a constructor, nothing
abbrev pub constructor_params : Option Handler → List Sort
constructor_params None = []
constructor_params (Some c) = (type_of_handler c).params

-- whether an actor of this behaviour can be made of these
unfoldable pub constructor_accepts : Option Behavior → List Sort → Environment → Bool
constructor_accepts None args env = false
constructor_accepts (Some b) args env = are_assignable env args (constructor_params (constructor_of b))

-- ---- names

-- the parameter, local or token of this name
unfoldable pub local_with_name : List ℕ → Environment → Option Variable
local_with_name name env = find (λ v. bytes_eq v.name name) env.scope

-- in an initialiser no name of a field is in scope
abbrev pub field_in_scope : MemberKind → List ℕ → Environment → Option Variable
field_in_scope kind.Initialiser name env = None
field_in_scope kind.Constructor name env = field_with_name name env
field_in_scope kind.Handler name env = field_with_name name env

-- the first, or else the second
abbrev pub or_else : Option Variable → Option Variable → Option Variable
or_else (Some v) other = Some v
or_else None other = other

-- a local hides a field
unfoldable pub variable_with_name : List ℕ → Environment → Option Variable
variable_with_name name env = or_else (local_with_name name env) (field_in_scope env.member name env)

-- whether no parameter, local or token has this name
unfoldable pub is_free : List ℕ → Environment → Bool
is_free name env = not (is_some (local_with_name name env))

-- with one more name in scope
abbrev pub with_variable : Environment → Option Variable → Environment
with_variable env None = env
with_variable env (Some v) = record env { scope = env.scope ++ v ∷ [] }

-- the name that a declaration brings into scope
abbrev pub new_variable : Ident → Sort → Bool → Option Variable
new_variable name sort is_token = Some (record { name = name.text; sort = sort; is_token = is_token })

-- with the oldest names alone
abbrev pub with_oldest : ℕ → Environment → Environment
with_oldest names env = record env { scope = take names env.scope }

-- ---- what a constructor or an initialiser forbids

-- neither in a constructor nor in an initialiser
abbrev pub is_handler : MemberKind → Bool
is_handler kind.Initialiser = false
is_handler kind.Constructor = false
is_handler kind.Handler = true

-- in a constructor
abbrev pub is_constructor : MemberKind → Bool
is_constructor kind.Initialiser = false
is_constructor kind.Constructor = true
is_constructor kind.Handler = false
