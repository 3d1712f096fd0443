-- The fields, handlers and constructors of a behaviour, in the order of the text.
use Rattle.std.specs.Prelude.{ℕ, Bool, nat_lt, if◌then◌else◌, List, [], filter_map, slice_get, Option, Some, None}
use Rattle.std.specs.List.{position}
use Rattle.std.specs.Str.{bytes_eq}
use Rattle.sal_ast.specs.declared.expression.Expr.{Expr}
use Rattle.sal_ast.specs.declared.statement.Stmt.{Stmt}
use Rattle.sal_ast.specs.declared.program.TypeName.{TypeName}
use Rattle.sal_ast.specs.declared.program.Param.{Param}
use Rattle.sal_ast.specs.declared.program.Member.{Member}
use Rattle.sal_ast.specs.declared.program.Member.TheVariants as member
use Rattle.sal_ast.specs.declared.program.Behavior.{Behavior}
use Rattle.sal_value.specs.declared.constants.TheConstants.{RESERVED}

-- a field: its name, its type, and its initialiser, if it has one
pub record Field : Type 0 where
  pub name : List ℕ
  pub sort : TypeName
  pub init : Option Expr

-- a handler, or a constructor, which has no result either
pub record Handler : Type 0 where
  pub name : List ℕ
  pub result : Option TypeName
  pub params : List Param
  pub body : List Stmt

-- the field that a member is, if it is one
abbrev pub as_field : Member → Option Field
as_field (member.Field sort name init) = Some (record { name = name.text; sort = sort; init = init })
as_field (member.Constructor name params body) = None
as_field (member.Handler result name params body) = None

-- the handler that a member is, if it is one
abbrev pub as_handler : Member → Option Handler
as_handler (member.Handler result name params body) = Some (record { name = name.text; result = result; params = params; body = body })
as_handler (member.Field sort name init) = None
as_handler (member.Constructor name params body) = None

-- the constructor that a member is, if it is one
abbrev pub as_constructor : Member → Option Handler
as_constructor (member.Constructor name params body) = Some (record { name = name.text; result = None; params = params; body = body })
as_constructor (member.Field sort name init) = None
as_constructor (member.Handler result name params body) = None

-- the fields of a behaviour, in the order of the text
unfoldable pub fields_of : Behavior → List Field
fields_of b = filter_map as_field b.members

-- the handlers of a behaviour, in the order of the text
unfoldable pub handlers_of : Behavior → List Handler
handlers_of b = filter_map as_handler b.members

-- the first one, if there is one
unfoldable pub constructor_of : Behavior → Option Handler
constructor_of b = slice_get (filter_map as_constructor b.members) 0

-- ---- numbers

-- Behaviours and handlers are numbered from 0, in the order of the text. Numbers are below 65,535, which
-- stands for the output and for `migrate`.
abbrev pub valid_number : Option ℕ → Option ℕ
valid_number None = None
valid_number (Some n) = if nat_lt n RESERVED then Some n else None

-- the number of the first behaviour of this name
unfoldable pub behavior_by_name : List ℕ → List Behavior → Option ℕ
behavior_by_name name behaviors = valid_number (position (λ b. bytes_eq b.name.text name) behaviors)

-- the number of the first handler of this name
unfoldable pub handler_by_name : List ℕ → List Handler → Option ℕ
handler_by_name name handlers = valid_number (position (λ h. bytes_eq h.name name) handlers)

-- the handlers of the behaviour with this number
abbrev pub handlers_at : List Behavior → Option ℕ → List Handler
handlers_at behaviors None = []
handlers_at behaviors (Some n) = handlers_in (slice_get behaviors n)
  where
    handlers_in : Option Behavior → List Handler
    handlers_in None = []
    handlers_in (Some b) = handlers_of b
