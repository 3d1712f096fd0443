-- The texts in a program: its string literals, in the order of the text.
use Rattle.std.specs.Prelude.{ℕ, List, [], ◌∷◌, ◌++◌, map, Option, Some, None}
use Rattle.sal_ast.specs.declared.expression.Expr.{Expr}
use Rattle.sal_ast.specs.declared.expression.Suffix.{Suffix}
use Rattle.sal_ast.specs.declared.expression.At.{At}
use Rattle.sal_ast.specs.declared.expression.Operand.{Operand}
use Rattle.sal_ast.specs.declared.expression.Expr.TheOpen.{Expr-F, Suffix-F, At-F, Operand-F}
use Rattle.sal_ast.specs.declared.expression.Expr.TheFolds.{fold-Expr, fold-Suffix, fold-At, fold-Operand}
use Rattle.sal_ast.specs.declared.statement.Assign.{Assign}
use Rattle.sal_ast.specs.declared.statement.ForInit.{ForInit}
use Rattle.sal_ast.specs.declared.statement.ForInit.TheVariants as init
use Rattle.sal_ast.specs.declared.statement.Aim.{Aim}
use Rattle.sal_ast.specs.declared.statement.Aim.TheVariants as aim
use Rattle.sal_ast.specs.declared.statement.Send.{Send}
use Rattle.sal_ast.specs.declared.statement.Arg.{Arg}
use Rattle.sal_ast.specs.declared.statement.Arg.TheVariants as arg
use Rattle.sal_ast.specs.declared.statement.Property.{Property}
use Rattle.sal_ast.specs.declared.statement.Property.TheVariants as property
use Rattle.sal_ast.specs.declared.statement.Stage.{Stage}
use Rattle.sal_ast.specs.declared.statement.Stmt.{Stmt}
use Rattle.sal_ast.specs.declared.statement.Chain.{Chain}
use Rattle.sal_ast.specs.declared.statement.Stage.TheOpen.{Stage-F, Stmt-F, Chain-F}
use Rattle.sal_ast.specs.declared.statement.Stage.TheFolds.{fold-Stage, fold-Stmt, fold-Chain}
use Rattle.sal_ast.specs.declared.program.Member.{Member}
use Rattle.sal_ast.specs.declared.program.Member.TheVariants as member
use Rattle.sal_ast.specs.declared.program.Behavior.{Behavior}
use Rattle.sal_ast.specs.declared.program.Program.{Program}

-- texts, each a list of bytes
abbrev pub Texts : Type 0
Texts = List (List ℕ)

-- the texts of all parts
abbrev pub all_texts : List Texts → Texts
all_texts [] = []
all_texts (x ∷ xs) = x ++ all_texts xs

-- the texts of a part that may be missing
abbrev pub texts_if_any : Option Texts → Texts
texts_if_any None = []
texts_if_any (Some x) = x

-- ---- expressions

-- the texts in an expression, from those in its parts
abbrev pub texts_of_expr : Expr-F Texts Texts Texts Texts → Texts
texts_of_expr (Expr-F.Number n at) = []
texts_of_expr (Expr-F.Str text at) = text ∷ []
texts_of_expr (Expr-F.Bool b at) = []
texts_of_expr (Expr-F.Null at) = []
texts_of_expr (Expr-F.Me at) = []
texts_of_expr (Expr-F.Name name) = []
texts_of_expr (Expr-F.Own at name) = []
texts_of_expr (Expr-F.Paren at e) = e
texts_of_expr (Expr-F.Neg at e) = e
texts_of_expr (Expr-F.Not at e) = e
texts_of_expr (Expr-F.Level first rest) = first ++ all_texts rest
texts_of_expr (Expr-F.Suffixed first rest) = first ++ all_texts rest
texts_of_expr (Expr-F.New at behavior args place) = all_texts args ++ texts_if_any place
texts_of_expr (Expr-F.Make at sort size) = size
texts_of_expr (Expr-F.ListOf at sort items) = all_texts items
texts_of_expr (Expr-F.ByName at cast behavior text) = text

-- of an index
abbrev pub texts_of_suffix : Suffix-F Texts Texts Texts Texts → Texts
texts_of_suffix (Suffix-F.Index at e) = e
texts_of_suffix (Suffix-F.Length at) = []

-- of the name and the locator behind `at`
abbrev pub texts_of_at : At-F Texts Texts Texts Texts → Texts
texts_of_at a = a.uan ++ texts_if_any a.ual

-- of an operator's right side
abbrev pub texts_of_operand : Operand-F Texts Texts Texts Texts → Texts
texts_of_operand o = o.value

unfoldable pub expr_texts : Expr → Texts
expr_texts = fold-Expr Texts Texts Texts Texts texts_of_expr texts_of_suffix texts_of_at texts_of_operand

unfoldable pub suffix_texts : Suffix → Texts
suffix_texts = fold-Suffix Texts Texts Texts Texts texts_of_expr texts_of_suffix texts_of_at texts_of_operand

unfoldable pub at_texts : At → Texts
at_texts = fold-At Texts Texts Texts Texts texts_of_expr texts_of_suffix texts_of_at texts_of_operand

unfoldable pub operand_texts : Operand → Texts
operand_texts = fold-Operand Texts Texts Texts Texts texts_of_expr texts_of_suffix texts_of_at texts_of_operand

-- of several expressions
abbrev pub exprs_texts : List Expr → Texts
exprs_texts es = all_texts (map expr_texts es)

-- of an expression that may be missing
abbrev pub option_texts : Option Expr → Texts
option_texts None = []
option_texts (Some e) = expr_texts e

-- ---- statements

abbrev pub assign_texts : Assign → Texts
assign_texts a = exprs_texts a.indexes ++ expr_texts a.value

abbrev pub option_assign_texts : Option Assign → Texts
option_assign_texts None = []
option_assign_texts (Some a) = assign_texts a

abbrev pub init_texts : ForInit → Texts
init_texts init.Nothing = []
init_texts (init.Declare d) = option_texts d.init
init_texts (init.Assign a) = assign_texts a

abbrev pub aim_texts : Aim → Texts
aim_texts aim.Own = []
aim_texts (aim.Output at) = []
aim_texts (aim.Actor e) = expr_texts e

abbrev pub arg_texts : Arg → Texts
arg_texts (arg.Token at) = []
arg_texts (arg.Expr e) = expr_texts e

abbrev pub property_texts : Property → Texts
property_texts (property.Delay at time) = expr_texts time
property_texts (property.WaitFor at names) = []

-- of a message stage: its target, its arguments and its properties
abbrev pub send_texts : Send → Texts
send_texts m = aim_texts m.aim ++ (all_texts (map arg_texts m.args) ++ all_texts (map property_texts m.properties))

-- the texts in a stage, from those in its parts
abbrev pub texts_of_stage : Stage-F Texts Texts Texts → Texts
texts_of_stage (Stage-F.Message m) = send_texts m
texts_of_stage (Stage-F.Join at body) = all_texts body

-- in a chain
abbrev pub texts_of_chain : Chain-F Texts Texts Texts → Texts
texts_of_chain c = all_texts c.stages

-- in a statement
abbrev pub texts_of_stmt : Stmt-F Texts Texts Texts → Texts
texts_of_stmt (Stmt-F.Empty at) = []
texts_of_stmt (Stmt-F.Block at list) = all_texts list
texts_of_stmt (Stmt-F.Declare d) = option_texts d.init
texts_of_stmt (Stmt-F.Assign a) = assign_texts a
texts_of_stmt (Stmt-F.If at test first second) = expr_texts test ++ (first ++ texts_if_any second)
texts_of_stmt (Stmt-F.While at test body) = expr_texts test ++ body
texts_of_stmt (Stmt-F.For at first test next body) = init_texts first ++ (option_texts test ++ (option_assign_texts next ++ body))
texts_of_stmt (Stmt-F.Return at value) = option_texts value
texts_of_stmt (Stmt-F.Token at name chain) = chain
texts_of_stmt (Stmt-F.Chain chain passed) = chain

unfoldable pub stage_texts : Stage → Texts
stage_texts = fold-Stage Texts Texts Texts texts_of_stage texts_of_stmt texts_of_chain

unfoldable pub stmt_texts : Stmt → Texts
stmt_texts = fold-Stmt Texts Texts Texts texts_of_stage texts_of_stmt texts_of_chain

unfoldable pub chain_texts : Chain → Texts
chain_texts = fold-Chain Texts Texts Texts texts_of_stage texts_of_stmt texts_of_chain

-- of the statements of a body
abbrev pub body_texts : List Stmt → Texts
body_texts body = all_texts (map stmt_texts body)

-- ---- programs

-- of a field's initialiser, of a constructor's or handler's body
abbrev pub member_texts : Member → Texts
member_texts (member.Field sort name init) = option_texts init
member_texts (member.Constructor name params body) = body_texts body
member_texts (member.Handler result name params body) = body_texts body

abbrev pub behavior_texts : Behavior → Texts
behavior_texts b = all_texts (map member_texts b.members)

-- all string literals of the program
unfoldable pub program_texts : Program → Texts
program_texts p = all_texts (map behavior_texts p.behaviors)
