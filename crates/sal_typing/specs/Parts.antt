-- What is known of the parts of an expression, a message or a statement in which nothing is violated.
use Rattle.std.specs.Prelude.{◌≡◌, ◌≤◌, ◌⊎◌, ℕ, Bool, true, false, List, [], ◌∷◌, length, Option, Some, None}
use Rattle.sal_ast.specs.declared.program.Ident.{Ident}
use Rattle.sal_ast.specs.declared.program.TypeName.{TypeName}
use Rattle.sal_ast.specs.declared.expression.Expr.{Expr, out-Expr}
use Rattle.sal_ast.specs.declared.expression.Suffix.{Suffix, out-Suffix}
use Rattle.sal_ast.specs.declared.expression.At.{At}
use Rattle.sal_ast.specs.declared.expression.Operand.{Operand}
use Rattle.sal_ast.specs.declared.expression.Expr.TheOpen.{Expr-F, Suffix-F}
use Rattle.sal_ast.specs.declared.statement.Aim.{Aim}
use Rattle.sal_ast.specs.declared.statement.Aim.TheVariants as aim
use Rattle.sal_ast.specs.declared.statement.Arg.{Arg}
use Rattle.sal_ast.specs.declared.statement.Arg.TheVariants as arg
use Rattle.sal_ast.specs.declared.statement.Property.{Property}
use Rattle.sal_ast.specs.declared.statement.Property.TheVariants as property
use Rattle.sal_ast.specs.declared.statement.Send.{Send}
use Rattle.sal_ast.specs.Members.{behavior_by_name}
use Rattle.sal_sorts.specs.declared.sort.Base.TheVariants.{Int, Boolean, Str, Actor, Void, Null}
use Rattle.sal_sorts.specs.declared.sort.Sort.{Sort}
use Rattle.sal_sorts.specs.declared.variable.Variable.{Variable}
use Rattle.sal_sorts.specs.Sorts.{plain, is_printable_sort, is_array_sort, item_sort}
use Rattle.sal_sorts.specs.Environments.{Environment, HandlerType, behavior_with_name, has_behavior, is_assignable, are_assignable, handler_with_name, constructor_accepts, field_with_name, local_with_name, variable_with_name, is_handler}
use Rattle.sal_sorts.specs.Expressions.{operands_fit, operator_sort, cast_fits, type_verdict, expr_verdict}
use Rattle.sal_sorts.specs.Messages.{repetition_offset, is_print}
use Rattle.sal_sorts.specs.Verdicts.{Good}
use Rattle.sal_typing.specs.Known.{Each}

-- each with one of the other list, in order, and just as many
abbrev pub Pairwise : {A B : Type 0} → (A → B → Type 0) → List A → List B → Type 0
Pairwise R [] [] = Unit {0}
Pairwise R [] (b ∷ bs) = ⊥
Pairwise R (a ∷ list) [] = ⊥
Pairwise R (a ∷ list) (b ∷ bs) = R a b × Pairwise R list bs

-- ---- expressions

-- nothing is violated in it where it stands, and it has this type
abbrev pub HasSort : Environment → Expr → Sort → Type 0
HasSort env e s = expr_verdict e env false ≡ Good s

-- the same of one that may be missing
abbrev pub HasSortIfAny : Environment → Option Expr → Sort → Type 0
HasSortIfAny env None s = Unit {0}
HasSortIfAny env (Some e) s = HasSort env e s

-- a variable that is no token
abbrev pub IsValueOf : Option Variable → Sort → Type 0
IsValueOf o s = (v : Variable) × (o ≡ Some v) × (v.is_token ≡ false) × (v.sort ≡ s)

-- a type that is written where it stands
abbrev pub IsWritten : TypeName → Environment → Sort → Type 0
IsWritten t env s = type_verdict t env ≡ Good s

-- from a value of the first type, operators give one of the last
abbrev pub LevelParts : List Operand → Environment → Sort → Sort → Type 0
LevelParts [] env a s = a ≡ s
LevelParts (p ∷ ps) env a s = (b : Sort) × HasSort env p.value b × (operands_fit env p.op a b ≡ true) × LevelParts ps env (operator_sort p.op a b) s

-- an index gives an item of an array, and `.length` an int
abbrev pub SuffixParts : Suffix-F Expr Suffix At Operand → Environment → Sort → Sort → Type 0
SuffixParts (Suffix-F.Index at e) env a s = HasSort env e (plain Int) × (is_array_sort a ≡ true) × (item_sort a ≡ s)
SuffixParts (Suffix-F.Length at) env a s = (is_array_sort a ≡ true) × (plain Int ≡ s)

-- where an actor is made
abbrev pub LocationParts : Option At → Environment → Type 0
LocationParts None env = Unit {0}
LocationParts (Some p) env = HasSort env p.uan (plain Str) × HasSortIfAny env p.ual (plain Str)

-- indexes and `.length`, one after another
abbrev pub SuffixesParts : List Suffix → Environment → Sort → Sort → Type 0
SuffixesParts [] env a s = a ≡ s
SuffixesParts (x ∷ xs) env a s = (b : Sort) × SuffixParts (out-Suffix x) env a b × SuffixesParts xs env b s

-- The parts of an expression with this type. The Bool says whether a prefix `-` stands directly before it.
abbrev pub ExprParts : Expr-F Expr Suffix At Operand → Environment → Bool → Sort → Type 0
ExprParts (Expr-F.Number n at) env minus s = ((minus ≡ true) ⊎ (n ≡ 2147483648 → ⊥)) × (plain Int ≡ s)
ExprParts (Expr-F.Str text at) env minus s = plain Str ≡ s
ExprParts (Expr-F.Bool b at) env minus s = plain Boolean ≡ s
ExprParts (Expr-F.Null at) env minus s = plain Null ≡ s
ExprParts (Expr-F.Me at) env minus s = (is_handler env.member ≡ true) × (plain (Actor env.own) ≡ s)
ExprParts (Expr-F.Name name) env minus s = IsValueOf (variable_with_name name.text env) s
ExprParts (Expr-F.Own at name) env minus s = IsValueOf (field_with_name name.text env) s
ExprParts (Expr-F.Paren at e) env minus s = HasSort env e s
ExprParts (Expr-F.Neg at e) env minus s = (expr_verdict e env true ≡ Good (plain Int)) × (plain Int ≡ s)
ExprParts (Expr-F.Not at e) env minus s = HasSort env e (plain Boolean) × (plain Boolean ≡ s)
ExprParts (Expr-F.Level first rest) env minus s = (a : Sort) × HasSort env first a × LevelParts rest env a s
ExprParts (Expr-F.Suffixed first rest) env minus s = (a : Sort) × (expr_verdict first env minus ≡ Good a) × SuffixesParts rest env a s
ExprParts (Expr-F.New at b args place) env minus s =
    (sorts : List Sort) × Pairwise (HasSort env) args sorts × LocationParts place env × (is_handler env.member ≡ true)
    × (constructor_accepts (behavior_with_name b.text env) sorts env ≡ true) × (plain (Actor b.text) ≡ s)
ExprParts (Expr-F.Make at t size) env minus s = IsWritten t env s × HasSort env size (plain Int)
ExprParts (Expr-F.ListOf at t items) env minus s =
    (sorts : List Sort) × IsWritten t env s × Pairwise (HasSort env) items sorts × Each (λ a. is_assignable env a (item_sort s) ≡ true) sorts
ExprParts (Expr-F.ByName at cast b name) env minus s =
    HasSort env name (plain Str) × (is_handler env.member ≡ true) × (has_behavior b.text env ≡ true) × (cast_fits cast b ≡ true) × (plain (Actor b.text) ≡ s)

-- ---- messages

-- a local token alone, which waits for a value of this type
abbrev pub IsTokenOf : Expr → Environment → Sort → Type 0
IsTokenOf e env s =
    (name : Ident) × (v : Variable) × (out-Expr e ≡ Expr-F.Name name) × (local_with_name name.text env ≡ Some v) × (v.is_token ≡ true) × (v.sort ≡ s)

-- an argument of this type, behind a stage with this result: `token`, a local token, or a value
abbrev pub ArgParts : Environment → Option Sort → Arg → Sort → Type 0
ArgParts env before (arg.Token at) s = before ≡ Some s
ArgParts env before (arg.Expr e) s = IsTokenOf e env s ⊎ HasSort env e s

-- a name of a token
abbrev pub NamesToken : Environment → Ident → Type 0
NamesToken env name = (v : Variable) × (variable_with_name name.text env ≡ Some v) × (v.is_token ≡ true)

-- a property
abbrev pub PropertyParts : Environment → Property → Type 0
PropertyParts env (property.Delay at time) = HasSort env time (plain Int)
PropertyParts env (property.WaitFor at names) = Each (NamesToken env) names

-- a message to an actor of the behaviour of this name, with arguments of these types: there is such a handler, which takes
-- them and replies this
pub record IsCall (env : Environment) (behavior handler : List ℕ) (args : List Sort) (reply : Sort) : Type 0 where
  pub number : ℕ
  pub numbered : behavior_by_name behavior env.behaviors ≡ Some number
  pub callee : HandlerType
  pub is_there : handler_with_name handler (behavior_with_name behavior env) ≡ Some callee
  pub as_many : length callee.params ≡ length args
  pub accepts : are_assignable env args callee.params ≡ true
  pub replies : callee.result ≡ reply

-- a message to this target
abbrev pub AimParts : Aim → Environment → List ℕ → List Sort → Sort → Type 0
AimParts aim.Own env handler args reply = IsCall env env.own handler args reply
AimParts (aim.Output at) env handler args reply =
    (is_print handler ≡ true) × (length args ≤ 1) × Each (λ a. is_printable_sort a ≡ true) args × (plain Void ≡ reply)
AimParts (aim.Actor e) env handler args reply = (behavior : List ℕ) × HasSort env e (plain (Actor behavior)) × IsCall env behavior handler args reply

-- a message, behind a stage with this result, with this reply
pub record MessageParts (env : Environment) (before : Option Sort) (m : Send) (reply : Sort) : Type 0 where
  pub args : List Sort
  pub have : Pairwise (ArgParts env before) m.args args
  pub properties : Each (PropertyParts env) m.properties
  -- no property occurs a second time
  pub once : repetition_offset false false m.properties ≡ None
  pub target : AimParts m.aim env m.handler.text args reply
