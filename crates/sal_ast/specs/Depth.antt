-- How deep the counted constructs of a tree stand inside one another. Each counts from its first token to its end: a block
-- that is a statement; `join` with its block; `if`, `while` and `for`; parentheses around an expression; `new` with all its
-- brackets and braces; a prefix operator with its operand; an index; `getReferenceByName` with its parentheses.
use Rattle.std.specs.Prelude.{ℕ, suc, max, min, List, [], ◌∷◌, map, Option, Some, None, option_map}
use Rattle.sal_ast.specs.declared.expression.Expr.{Expr}
use Rattle.sal_ast.specs.declared.expression.Suffix.{Suffix}
use Rattle.sal_ast.specs.declared.expression.At.{At}
use Rattle.sal_ast.specs.declared.expression.Operand.{Operand}
use Rattle.sal_ast.specs.declared.expression.Expr.TheOpen.{Expr-F, Suffix-F, At-F, Operand-F}
use Rattle.sal_ast.specs.declared.expression.Expr.TheFolds.{fold-Expr, fold-Suffix, fold-At, fold-Operand}
use Rattle.sal_ast.specs.declared.statement.Declare.{Declare}
use Rattle.sal_ast.specs.declared.statement.Assign.{Assign}
use Rattle.sal_ast.specs.declared.statement.ForInit.{ForInit}
use Rattle.sal_ast.specs.declared.statement.ForInit.TheVariants as init
use Rattle.sal_ast.specs.declared.statement.Aim.{Aim}
use Rattle.sal_ast.specs.declared.statement.Aim.TheVariants as aim
use Rattle.sal_ast.specs.declared.statement.Send.{Send}
use Rattle.sal_ast.specs.declared.statement.Arg.{Arg}
use Rattle.sal_ast.specs.declared.statement.Arg.TheVariants as arg
use Rattle.sal_ast.specs.declared.statement.Property.{Property}
use Rattle.sal_ast.specs.declared.statement.Property.TheVariants as property
use Rattle.sal_ast.specs.declared.statement.Stage.{Stage}
use Rattle.sal_ast.specs.declared.statement.Stmt.{Stmt}
use Rattle.sal_ast.specs.declared.statement.Chain.{Chain}
use Rattle.sal_ast.specs.declared.statement.Stage.TheOpen.{Stage-F, Stmt-F, Chain-F}
use Rattle.sal_ast.specs.declared.statement.Stage.TheFolds.{fold-Stage, fold-Stmt, fold-Chain}
use Rattle.sal_ast.specs.declared.program.Program.{Program}
use Rattle.sal_ast.specs.declared.program.Behavior.{Behavior}
use Rattle.sal_ast.specs.declared.program.Member.{Member}
use Rattle.sal_ast.specs.declared.program.Member.TheVariants as member

abbrev pub greatest : List ℕ → ℕ
greatest [] = 0
greatest (n ∷ ns) = max n (greatest ns)

-- the depth as a 32-bit number
abbrev pub min_u32 : ℕ → ℕ
min_u32 n = min n 4294967295

abbrev pub or_zero : Option ℕ → ℕ
or_zero None = 0
or_zero (Some n) = n

-- an expression, from the depths of its parts
abbrev pub expr_depth : Expr-F ℕ ℕ ℕ ℕ → ℕ
-- Number | Str | "true" | "false" | "null" | "self" | Id | "this" "." Id
expr_depth (Expr-F.Number n at) = 0
expr_depth (Expr-F.Str text at) = 0
expr_depth (Expr-F.Bool b at) = 0
expr_depth (Expr-F.Null at) = 0
expr_depth (Expr-F.Me at) = 0
expr_depth (Expr-F.Name name) = 0
expr_depth (Expr-F.Own at name) = 0
-- "(" expr ")"
expr_depth (Expr-F.Paren at x) = suc x
-- ( "-" | "!" ) unary
expr_depth (Expr-F.Neg at x) = suc x
expr_depth (Expr-F.Not at x) = suc x
-- operands with operators between them
expr_depth (Expr-F.Level first rest) = max first (greatest rest)
-- primary { "[" expr "]" | "." "length" }
expr_depth (Expr-F.Suffixed first rest) = max first (greatest rest)
-- "new" Id "(" [ expr { "," expr } ] ")" [ "at" "(" expr [ "," expr ] ")" ]
expr_depth (Expr-F.New at behavior args place) = suc (max (greatest args) (or_zero place))
-- "new" base "[" expr "]" { "[" "]" }
expr_depth (Expr-F.Make at sort size) = suc size
-- "new" base "[" "]" { "[" "]" } "{" [ expr { "," expr } ] "}"
expr_depth (Expr-F.ListOf at sort items) = suc (greatest items)
-- [ "(" Id ")" ] Id "." "getReferenceByName" "(" expr ")"
expr_depth (Expr-F.ByName at cast behavior name) = suc name

abbrev pub suffix_depth : Suffix-F ℕ ℕ ℕ ℕ → ℕ
-- "[" expr "]" | "." "length"
suffix_depth (Suffix-F.Index at x) = suc x
suffix_depth (Suffix-F.Length at) = 0

-- the texts of `at`
abbrev pub at_depth : At-F ℕ ℕ ℕ ℕ → ℕ
at_depth p = max p.uan (or_zero p.ual)

abbrev pub operand_depth : Operand-F ℕ ℕ ℕ ℕ → ℕ
operand_depth o = o.value

unfoldable pub depth_expr : Expr → ℕ
depth_expr = fold-Expr ℕ ℕ ℕ ℕ expr_depth suffix_depth at_depth operand_depth

unfoldable pub depth_suffix : Suffix → ℕ
depth_suffix = fold-Suffix ℕ ℕ ℕ ℕ expr_depth suffix_depth at_depth operand_depth

unfoldable pub depth_at : At → ℕ
depth_at = fold-At ℕ ℕ ℕ ℕ expr_depth suffix_depth at_depth operand_depth

unfoldable pub depth_operand : Operand → ℕ
depth_operand = fold-Operand ℕ ℕ ℕ ℕ expr_depth suffix_depth at_depth operand_depth

-- type Id [ "=" expr ]
abbrev pub depth_declare : Declare → ℕ
depth_declare d = or_zero (option_map depth_expr d.init)

abbrev pub depth_index : Expr → ℕ
depth_index x = suc (depth_expr x)

-- ( Id | "this" "." Id ) { "[" expr "]" } "=" expr
abbrev pub depth_assign : Assign → ℕ
depth_assign a = max (greatest (map depth_index a.indexes)) (depth_expr a.value)

-- [ decl | assign ]
abbrev pub depth_init : ForInit → ℕ
depth_init init.Nothing = 0
depth_init (init.Declare d) = depth_declare d
depth_init (init.Assign a) = depth_assign a

-- "standardOutput" | postfix
abbrev pub depth_aim : Aim → ℕ
depth_aim aim.Own = 0
depth_aim (aim.Output at) = 0
depth_aim (aim.Actor x) = depth_expr x

-- "token" | expr
abbrev pub depth_arg : Arg → ℕ
depth_arg (arg.Token at) = 0
depth_arg (arg.Expr x) = depth_expr x

-- ":" "delay" "(" expr ")" | ":" "waitfor" "(" Id { "," Id } ")"
abbrev pub depth_property : Property → ℕ
depth_property (property.Delay at time) = depth_expr time
depth_property (property.WaitFor at names) = 0

-- [ target "<-" ] Id "(" [ arg { "," arg } ] ")" { property }
unfoldable pub depth_send : Send → ℕ
depth_send m = max (depth_aim m.aim) (max (greatest (map depth_arg m.args)) (greatest (map depth_property m.properties)))

abbrev pub stage_depth : Stage-F ℕ ℕ ℕ → ℕ
-- message | "join" block
stage_depth (Stage-F.Message m) = depth_send m
stage_depth (Stage-F.Join at body) = suc (greatest body)

-- stage { "@" stage }
abbrev pub chain_depth : Chain-F ℕ ℕ ℕ → ℕ
chain_depth c = greatest c.stages

-- a statement, from the depths of its parts
abbrev pub stmt_depth : Stmt-F ℕ ℕ ℕ → ℕ
-- ";" | block | decl ";" | assign ";"
stmt_depth (Stmt-F.Empty at) = 0
stmt_depth (Stmt-F.Block at list) = suc (greatest list)
stmt_depth (Stmt-F.Declare d) = depth_declare d
stmt_depth (Stmt-F.Assign a) = depth_assign a
-- "if" "(" expr ")" stmt [ "else" stmt ]
stmt_depth (Stmt-F.If at test first second) = suc (max (depth_expr test) (max first (or_zero second)))
-- "while" "(" expr ")" stmt
stmt_depth (Stmt-F.While at test body) = suc (max (depth_expr test) body)
-- "for" "(" [ decl | assign ] ";" [ expr ] ";" [ assign ] ")" stmt
stmt_depth (Stmt-F.For at first test next body) = suc (max (max (depth_init first) (or_zero (option_map depth_expr test))) (max (or_zero (option_map depth_assign next)) body))
-- "return" [ expr ] ";"
stmt_depth (Stmt-F.Return at value) = or_zero (option_map depth_expr value)
-- "token" Id "=" chain ";" | chain [ "@" "currentContinuation" ] ";"
stmt_depth (Stmt-F.Token at name chain) = chain
stmt_depth (Stmt-F.Chain chain passed) = chain

unfoldable pub depth_stage : Stage → ℕ
depth_stage = fold-Stage ℕ ℕ ℕ stage_depth stmt_depth chain_depth

unfoldable pub depth_stmt : Stmt → ℕ
depth_stmt = fold-Stmt ℕ ℕ ℕ stage_depth stmt_depth chain_depth

unfoldable pub depth_chain : Chain → ℕ
depth_chain = fold-Chain ℕ ℕ ℕ stage_depth stmt_depth chain_depth

-- the braces of a behaviour, a constructor and a handler don't count
abbrev pub depth_member : Member → ℕ
depth_member (member.Field sort name init) = or_zero (option_map depth_expr init)
depth_member (member.Constructor name params body) = greatest (map depth_stmt body)
depth_member (member.Handler result name params body) = greatest (map depth_stmt body)

abbrev pub depth_behavior : Behavior → ℕ
depth_behavior b = greatest (map depth_member b.members)

unfoldable pub depth : Program → ℕ
depth p = greatest (map depth_behavior p.behaviors)
