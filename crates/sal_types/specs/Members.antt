-- The verdict on a behaviour's members.
use Rattle.std.specs.Prelude.{ℕ, Bool, not, ◌||◌, false, nat_lt, List, [], ◌∷◌, ◌++◌, length, map, filter_map, codes, Option, Some, None}
use Rattle.std.specs.List.{list_any}
use Rattle.std.specs.Str.{bytes_eq}
use Rattle.sal_ast.specs.declared.program.Ident.{Ident}
use Rattle.sal_ast.specs.declared.program.TypeName.{TypeName}
use Rattle.sal_ast.specs.declared.program.Param.{Param}
use Rattle.sal_ast.specs.declared.program.Member.{Member}
use Rattle.sal_ast.specs.declared.program.Member.TheVariants as member
use Rattle.sal_ast.specs.declared.program.Behavior.{Behavior}
use Rattle.sal_ast.specs.declared.expression.Expr.{Expr}
use Rattle.sal_ast.specs.declared.statement.Stmt.{Stmt}
use Rattle.sal_ast.specs.Members.{as_field, as_handler, as_constructor}
use Rattle.sal_sorts.specs.declared.sort.Base.TheVariants.{Void}
use Rattle.sal_sorts.specs.declared.sort.Sort.{Sort}
use Rattle.sal_sorts.specs.declared.variable.MemberKind.TheVariants as kind
use Rattle.sal_sorts.specs.Sorts.{plain, is_void_sort, sort_of_type, sort_of_result}
use Rattle.sal_sorts.specs.Environments.{Environment, member_environment, new_variable}
use Rattle.sal_sorts.specs.Verdicts.{Violation, Verdict, Good, ◌also◌, node, map_verdict, rule}
use Rattle.sal_sorts.specs.Expressions.{type_verdict, expr_verdict_if}
use Rattle.sal_types.specs.Endings.{surely_ends}
use Rattle.sal_types.specs.Statements.{StmtTyping, no_results, free_rules, initial_rules, sequence_verdict, stmt_typings}

-- ---- rules of several members

-- Y2: it is the 65th behaviour, the 65th field or handler of its behaviour, or the 17th parameter
abbrev pub count_rules : ℕ → ℕ → ℕ → List Violation
count_rules most before at = rule 2 at (nat_lt before most)

-- Y3: a second field, or a second handler, of this name, or a second constructor
abbrev pub second_rules : ℕ → Bool → List Violation
second_rules at is_second = rule 3 at (not is_second)

-- whether one of these names is this one
abbrev pub is_among : List ℕ → List (List ℕ) → Bool
is_among name names = list_any (bytes_eq name) names

-- ---- parameters and bodies

-- a parameter; those before it are all that is in scope
abbrev pub param_typing : Param → StmtTyping
param_typing p env = (
  new_variable p.name (sort_of_type p.sort) false,
  node (type_verdict p.sort env) (λ s. count_rules 16 (length env.scope) p.name.at ++ free_rules p.name env) no_results,
)

-- the parameters and then the statements, each with the names of those before it
abbrev pub body_verdict : List Param → List Stmt → Environment → Verdict (List Sort)
body_verdict params body env = sequence_verdict (map param_typing params ++ stmt_typings body) env

-- ---- fields

-- the rules of a field, but for its value
abbrev pub field_rules : List (List ℕ) → Ident → List Violation
field_rules before name = count_rules 64 (length before) name.at ++ second_rules name.at (is_among name.text before)

-- a field, after fields of these names
abbrev pub field_verdict : List (List ℕ) → TypeName → Ident → Option Expr → Environment → Verdict (Unit {0})
field_verdict before sort name init env =
    node (type_verdict sort env also expr_verdict_if init env)
    (λ p. field_rules before name ++ initial_rules init p.1 p.0 env)
    (λ p. tt)

-- ---- constructors

-- Y4: a constructor isn't named as its behaviour
abbrev pub constructor_name_rules : Ident → List ℕ → List Violation
constructor_name_rules name own = rule 4 name.at (bytes_eq name.text own)

-- a constructor, after so many constructors
abbrev pub constructor_verdict : ℕ → Ident → List Param → List Stmt → Environment → Verdict (Unit {0})
constructor_verdict before name params body env =
    node (body_verdict params body env)
    (λ p. second_rules name.at (nat_lt 0 before) ++ constructor_name_rules name env.own)
    (λ p. tt)

-- ---- handlers

-- Y5: a handler is named `migrate`
abbrev pub migrate_rules : Ident → List Violation
migrate_rules name = rule 5 name.at (not (bytes_eq name.text (codes "migrate")))

-- Y8: a handler with a result has a body that doesn't surely end
abbrev pub end_rules : Ident → Sort → List Stmt → List Violation
end_rules name result body = rule 8 name.at (is_void_sort result || list_any surely_ends body)

-- the type of the result, if one is written
abbrev pub result_verdict : Option TypeName → Environment → Verdict Sort
result_verdict None env = Good (plain Void)
result_verdict (Some t) env = type_verdict t env

-- the rules of a handler with this result, after handlers of these names
abbrev pub declared_handler_rules : List (List ℕ) → Ident → Sort → List Stmt → List Violation
declared_handler_rules before name result body =
    count_rules 64 (length before) name.at ++ second_rules name.at (is_among name.text before) ++ migrate_rules name ++ end_rules name result body

-- a handler, after handlers of these names
abbrev pub handler_verdict : List (List ℕ) → Option TypeName → Ident → List Param → List Stmt → Environment → Verdict (Unit {0})
handler_verdict before result name params body env =
    node (result_verdict result env also body_verdict params body env)
    (λ p. declared_handler_rules before name p.0 body)
    (λ p. tt)

-- ---- members

-- the names of the fields among these
abbrev pub field_names : List Member → List (List ℕ)
field_names ms = map (λ f. f.name) (filter_map as_field ms)

-- the names of the handlers among these
abbrev pub handler_names : List Member → List (List ℕ)
handler_names ms = map (λ h. h.name) (filter_map as_handler ms)

-- a member of the behaviour of this name, after these members of it
abbrev pub member_verdict : List Behavior → List ℕ → List Member → Member → Verdict (Unit {0})
member_verdict behaviors own before (member.Field sort name init) =
    field_verdict (field_names before) sort name init (member_environment behaviors own kind.Initialiser (plain Void))
member_verdict behaviors own before (member.Constructor name params body) =
    constructor_verdict (length (filter_map as_constructor before)) name params body (member_environment behaviors own kind.Constructor (plain Void))
member_verdict behaviors own before (member.Handler result name params body) =
    handler_verdict (handler_names before) result name params body (member_environment behaviors own kind.Handler (sort_of_result result))

-- these members, after those before them
abbrev pub members_verdict : List Behavior → List ℕ → List Member → List Member → Verdict (Unit {0})
members_verdict behaviors own before [] = Good tt
members_verdict behaviors own before (m ∷ ms) =
    map_verdict (λ p. tt) (member_verdict behaviors own before m also members_verdict behaviors own (before ++ m ∷ []) ms)
