-- The tokens of a tree, in the order of the grammar, each with its place where the tree holds it. In the comments, words in
-- quotes are tokens, [ ] holds what may be missing and { } what may come any number of times.
use Rattle.std.specs.Prelude.{◌≡◌, ℕ, zero, suc, ◌-◌, Bool, true, false, List, [], ◌∷◌, ◌++◌, map, Option, Some, None, option_map, codes, decimal}
use Prim.Native.String.{String}
use Rattle.sal_ast.specs.declared.lexeme.Kind.{Kind}
use Rattle.sal_ast.specs.declared.lexeme.Kind.TheVariants as kind
use Rattle.sal_ast.specs.declared.lexeme.Lexeme.{Lexeme}
use Rattle.sal_ast.specs.declared.expression.Op.{Op}
use Rattle.sal_ast.specs.declared.expression.Op.TheVariants as op
use Rattle.sal_ast.specs.declared.expression.Expr.{Expr}
use Rattle.sal_ast.specs.declared.expression.Suffix.{Suffix}
use Rattle.sal_ast.specs.declared.expression.At.{At}
use Rattle.sal_ast.specs.declared.expression.Operand.{Operand}
use Rattle.sal_ast.specs.declared.expression.Expr.TheOpen.{Expr-F, Suffix-F, At-F, Operand-F}
use Rattle.sal_ast.specs.declared.expression.Expr.TheFolds.{fold-Expr, fold-Suffix, fold-At, fold-Operand}
use Rattle.sal_ast.specs.declared.statement.Declare.{Declare}
use Rattle.sal_ast.specs.declared.statement.Assign.{Assign}
use Rattle.sal_ast.specs.declared.statement.ForInit.{ForInit}
use Rattle.sal_ast.specs.declared.statement.ForInit.TheVariants as init
use Rattle.sal_ast.specs.declared.statement.Aim.{Aim}
use Rattle.sal_ast.specs.declared.statement.Aim.TheVariants as aim
use Rattle.sal_ast.specs.declared.statement.Send.{Send}
use Rattle.sal_ast.specs.declared.statement.Arg.{Arg}
use Rattle.sal_ast.specs.declared.statement.Arg.TheVariants as arg
use Rattle.sal_ast.specs.declared.statement.Property.{Property}
use Rattle.sal_ast.specs.declared.statement.Property.TheVariants as property
use Rattle.sal_ast.specs.declared.statement.Stage.{Stage}
use Rattle.sal_ast.specs.declared.statement.Stmt.{Stmt}
use Rattle.sal_ast.specs.declared.statement.Chain.{Chain}
use Rattle.sal_ast.specs.declared.statement.Stage.TheOpen.{Stage-F, Stmt-F, Chain-F}
use Rattle.sal_ast.specs.declared.statement.Stage.TheFolds.{fold-Stage, fold-Stmt, fold-Chain}
use Rattle.sal_ast.specs.declared.program.Ident.{Ident}
use Rattle.sal_ast.specs.declared.program.BaseName.{BaseName}
use Rattle.sal_ast.specs.declared.program.BaseName.TheVariants as base
use Rattle.sal_ast.specs.declared.program.TypeName.{TypeName}
use Rattle.sal_ast.specs.declared.program.Param.{Param}
use Rattle.sal_ast.specs.declared.program.Program.{Program}
use Rattle.sal_ast.specs.declared.program.Behavior.{Behavior}
use Rattle.sal_ast.specs.declared.program.Member.{Member}
use Rattle.sal_ast.specs.declared.program.Member.TheVariants as member

-- a token of a tree, with its byte where the tree holds it
pub record TreeToken : Type 0 where
  pub kind : Kind
  pub text : List ℕ
  pub at : Option ℕ

abbrev pub TreeTokens : Type 0
TreeTokens = List TreeToken

-- what is left without places
abbrev pub lexeme_of : TreeToken → Lexeme
lexeme_of p = record { kind = p.kind; text = p.text }

abbrev pub lexemes : TreeTokens → List Lexeme
lexemes = map lexeme_of

abbrev pub tree_token : Kind → List ℕ → Option ℕ → TreeTokens
tree_token kind text at = record { kind = kind; text = text; at = at } ∷ []

abbrev pub word : String → TreeTokens
word text = tree_token kind.Word (codes text) None

abbrev pub word_at : String → ℕ → TreeTokens
word_at text at = tree_token kind.Word (codes text) (Some at)

abbrev pub sign : String → TreeTokens
sign text = tree_token kind.Sign (codes text) None

abbrev pub sign_at : String → ℕ → TreeTokens
sign_at text at = tree_token kind.Sign (codes text) (Some at)

-- an identifier that the grammar spells out
abbrev pub fixed_identifier : String → TreeTokens
fixed_identifier text = tree_token kind.Id (codes text) None

abbrev pub fixed_identifier_at : String → ℕ → TreeTokens
fixed_identifier_at text at = tree_token kind.Id (codes text) (Some at)

abbrev pub identifier : Ident → TreeTokens
identifier name = tree_token kind.Id name.text (Some name.at)

-- one after the other
abbrev pub concat_tokens : List TreeTokens → TreeTokens
concat_tokens [] = []
concat_tokens (x ∷ xs) = x ++ concat_tokens xs

-- each with a sign before it
abbrev pub each_after_sign : String → List TreeTokens → TreeTokens
each_after_sign text [] = []
each_after_sign text (x ∷ xs) = sign text ++ x ++ each_after_sign text xs

-- with a sign between them
abbrev pub separated_tokens : String → List TreeTokens → TreeTokens
separated_tokens text [] = []
separated_tokens text (x ∷ xs) = x ++ each_after_sign text xs

-- a sign, but not before the first item
abbrev pub sign_if : Bool → List ℕ → TreeTokens
sign_if true text = tree_token kind.Sign text None
sign_if false text = []

abbrev pub or_no_tokens : Option TreeTokens → TreeTokens
or_no_tokens None = []
or_no_tokens (Some x) = x

-- "int" | "boolean" | "String" | Id
abbrev pub spell_base : BaseName → ℕ → TreeTokens
spell_base base.Int at = word_at "int" at
spell_base base.Boolean at = word_at "boolean" at
spell_base base.Str at = word_at "String" at
spell_base (base.Actor text) at = tree_token kind.Id text (Some at)

-- so many "[" "]"
unfoldable pub brackets : ℕ → TreeTokens
brackets zero = []
brackets (suc n) = sign "[" ++ sign "]" ++ brackets n

-- base { "[" "]" }
abbrev pub spell_type : TypeName → TreeTokens
spell_type sort = spell_base sort.base sort.at ++ brackets sort.dims

abbrev pub spell_op : Op → List ℕ
spell_op op.Or = codes "||"
spell_op op.And = codes "&&"
spell_op op.Same = codes "=="
spell_op op.Other = codes "!="
spell_op op.Less = codes "<"
spell_op op.LessEq = codes "<="
spell_op op.Greater = codes ">"
spell_op op.GreaterEq = codes ">="
spell_op op.Add = codes "+"
spell_op op.Sub = codes "-"
spell_op op.Mul = codes "*"
spell_op op.Div = codes "/"
spell_op op.Rem = codes "%"

abbrev pub spell_bool : Bool → ℕ → TreeTokens
spell_bool true at = word_at "true" at
spell_bool false at = word_at "false" at

-- Id "." "getReferenceByName"
abbrev pub spell_getter : Ident → TreeTokens
spell_getter behavior = identifier behavior ++ sign "." ++ fixed_identifier "getReferenceByName"

-- [ "(" Id ")" ] Id "." "getReferenceByName"
unfoldable pub spell_reference : ℕ → Option Ident → Ident → TreeTokens
spell_reference at None behavior = spell_getter behavior
spell_reference at (Some name) behavior = sign_at "(" at ++ identifier name ++ sign ")" ++ spell_getter behavior

-- an expression, from the tokens of its parts
abbrev pub expr_tokens : Expr-F TreeTokens TreeTokens TreeTokens TreeTokens → TreeTokens
-- Number | Str | "true" | "false" | "null" | "self" | Id
expr_tokens (Expr-F.Number n at) = tree_token kind.Number (decimal n) (Some at)
expr_tokens (Expr-F.Str text at) = tree_token kind.Str text (Some at)
expr_tokens (Expr-F.Bool b at) = spell_bool b at
expr_tokens (Expr-F.Null at) = word_at "null" at
expr_tokens (Expr-F.Me at) = word_at "self" at
expr_tokens (Expr-F.Name name) = identifier name
-- "this" "." Id
expr_tokens (Expr-F.Own at name) = word_at "this" at ++ sign "." ++ identifier name
-- "(" expr ")"
expr_tokens (Expr-F.Paren at x) = sign_at "(" at ++ x ++ sign ")"
-- ( "-" | "!" ) unary
expr_tokens (Expr-F.Neg at x) = sign_at "-" at ++ x
expr_tokens (Expr-F.Not at x) = sign_at "!" at ++ x
-- an operand, then operators of its level, each with an operand after it
expr_tokens (Expr-F.Level first rest) = first ++ concat_tokens rest
-- primary { "[" expr "]" | "." "length" }
expr_tokens (Expr-F.Suffixed first rest) = first ++ concat_tokens rest
-- "new" Id "(" [ expr { "," expr } ] ")" [ "at" "(" expr [ "," expr ] ")" ]
expr_tokens (Expr-F.New at behavior args place) =
    word_at "new" at ++ identifier behavior ++ sign "(" ++ separated_tokens "," args ++ sign ")" ++ or_no_tokens place
-- "new" base "[" expr "]" { "[" "]" }
expr_tokens (Expr-F.Make at sort size) =
    word_at "new" at ++ spell_base sort.base sort.at ++ sign "[" ++ size ++ sign "]" ++ brackets (sort.dims - 1)
-- "new" base "[" "]" { "[" "]" } "{" [ expr { "," expr } ] "}"
expr_tokens (Expr-F.ListOf at sort items) =
    word_at "new" at ++ spell_type sort ++ sign "{" ++ separated_tokens "," items ++ sign "}"
-- [ "(" Id ")" ] Id "." "getReferenceByName" "(" expr ")"
expr_tokens (Expr-F.ByName at cast behavior name) =
    spell_reference at cast behavior ++ sign "(" ++ name ++ sign ")"

abbrev pub suffix_tokens : Suffix-F TreeTokens TreeTokens TreeTokens TreeTokens → TreeTokens
-- "[" expr "]" | "." "length"
suffix_tokens (Suffix-F.Index at x) = sign_at "[" at ++ x ++ sign "]"
suffix_tokens (Suffix-F.Length at) = sign_at "." at ++ fixed_identifier "length"

-- [ "," expr ]
abbrev pub spell_second : Option TreeTokens → TreeTokens
spell_second None = []
spell_second (Some x) = sign "," ++ x

-- "at" "(" expr [ "," expr ] ")"
abbrev pub at_tokens : At-F TreeTokens TreeTokens TreeTokens TreeTokens → TreeTokens
at_tokens p = fixed_identifier_at "at" p.at ++ sign "(" ++ p.uan ++ spell_second p.ual ++ sign ")"

abbrev pub operand_tokens : Operand-F TreeTokens TreeTokens TreeTokens TreeTokens → TreeTokens
operand_tokens o = tree_token kind.Sign (spell_op o.op) (Some o.at) ++ o.value

unfoldable pub spell_expr : Expr → TreeTokens
spell_expr = fold-Expr TreeTokens TreeTokens TreeTokens TreeTokens expr_tokens suffix_tokens at_tokens operand_tokens

unfoldable pub spell_suffix : Suffix → TreeTokens
spell_suffix = fold-Suffix TreeTokens TreeTokens TreeTokens TreeTokens expr_tokens suffix_tokens at_tokens operand_tokens

unfoldable pub spell_at : At → TreeTokens
spell_at = fold-At TreeTokens TreeTokens TreeTokens TreeTokens expr_tokens suffix_tokens at_tokens operand_tokens

unfoldable pub spell_operand : Operand → TreeTokens
spell_operand = fold-Operand TreeTokens TreeTokens TreeTokens TreeTokens expr_tokens suffix_tokens at_tokens operand_tokens

-- [ expr ]
abbrev pub spell_option : Option Expr → TreeTokens
spell_option x = or_no_tokens (option_map spell_expr x)

-- [ "=" expr ]
abbrev pub spell_value : Option Expr → TreeTokens
spell_value None = []
spell_value (Some x) = sign "=" ++ spell_expr x

-- type Id [ "=" expr ]
unfoldable pub spell_declare : Declare → TreeTokens
spell_declare d = spell_type d.sort ++ identifier d.name ++ spell_value d.init

-- "[" expr "]"
abbrev pub spell_index : Expr → TreeTokens
spell_index x = sign "[" ++ spell_expr x ++ sign "]"

abbrev pub spell_this : Bool → TreeTokens
spell_this true = word "this" ++ sign "."
spell_this false = []

-- ( Id | "this" "." Id ) { "[" expr "]" } "=" expr
unfoldable pub spell_assign : Assign → TreeTokens
spell_assign a = spell_this a.own ++ identifier a.name ++ concat_tokens (map spell_index a.indexes) ++ sign "=" ++ spell_expr a.value

-- [ decl | assign ]
abbrev pub spell_init : ForInit → TreeTokens
spell_init init.Nothing = []
spell_init (init.Declare d) = spell_declare d
spell_init (init.Assign a) = spell_assign a

-- "(" [ decl | assign ] ";" [ expr ] ";" [ assign ] ")"
unfoldable pub spell_header : ForInit → Option Expr → Option Assign → TreeTokens
spell_header first test next =
    sign "(" ++ spell_init first ++ sign ";" ++ spell_option test ++ sign ";" ++ or_no_tokens (option_map spell_assign next) ++ sign ")"

-- [ target "<-" ], where a target is "standardOutput" or an expression
abbrev pub spell_aim : Aim → TreeTokens
spell_aim aim.Own = []
spell_aim (aim.Output at) = word_at "standardOutput" at ++ sign "<-"
spell_aim (aim.Actor x) = spell_expr x ++ sign "<-"

-- "token" | expr
abbrev pub spell_arg : Arg → TreeTokens
spell_arg (arg.Token at) = word_at "token" at
spell_arg (arg.Expr x) = spell_expr x

-- ":" "delay" "(" expr ")" | ":" "waitfor" "(" Id { "," Id } ")"
abbrev pub spell_property : Property → TreeTokens
spell_property (property.Delay at time) = sign_at ":" at ++ fixed_identifier "delay" ++ sign "(" ++ spell_expr time ++ sign ")"
spell_property (property.WaitFor at names) =
    sign_at ":" at ++ fixed_identifier "waitfor" ++ sign "(" ++ separated_tokens "," (map identifier names) ++ sign ")"

-- [ target "<-" ] Id "(" [ arg { "," arg } ] ")" { property }
unfoldable pub spell_send : Send → TreeTokens
spell_send m =
    spell_aim m.aim ++ identifier m.handler ++ sign "(" ++ separated_tokens "," (map spell_arg m.args) ++ sign ")"
    ++ concat_tokens (map spell_property m.properties)

-- "{" { stmt } "}"
abbrev pub tokens_in_braces : TreeTokens → List TreeTokens → TreeTokens
tokens_in_braces opening list = opening ++ concat_tokens list ++ sign "}"

abbrev pub stage_tokens : Stage-F TreeTokens TreeTokens TreeTokens → TreeTokens
-- message | "join" block
stage_tokens (Stage-F.Message m) = spell_send m
stage_tokens (Stage-F.Join at body) = word_at "join" at ++ tokens_in_braces (sign "{") body

-- stage { "@" stage }
abbrev pub chain_tokens : Chain-F TreeTokens TreeTokens TreeTokens → TreeTokens
chain_tokens c = separated_tokens "@" c.stages

-- [ "else" stmt ]
abbrev pub else_tokens : Option TreeTokens → TreeTokens
else_tokens None = []
else_tokens (Some x) = word "else" ++ x

-- [ "@" "currentContinuation" ]
abbrev pub spell_continuation : Option ℕ → TreeTokens
spell_continuation None = []
spell_continuation (Some at) = sign "@" ++ word_at "currentContinuation" at

-- a statement, from the tokens of its parts
abbrev pub stmt_tokens : Stmt-F TreeTokens TreeTokens TreeTokens → TreeTokens
-- ";" | block | decl ";" | assign ";"
stmt_tokens (Stmt-F.Empty at) = sign_at ";" at
stmt_tokens (Stmt-F.Block at list) = tokens_in_braces (sign_at "{" at) list
stmt_tokens (Stmt-F.Declare d) = spell_declare d ++ sign ";"
stmt_tokens (Stmt-F.Assign a) = spell_assign a ++ sign ";"
-- "if" "(" expr ")" stmt [ "else" stmt ]
stmt_tokens (Stmt-F.If at test first second) =
    word_at "if" at ++ sign "(" ++ spell_expr test ++ sign ")" ++ first ++ else_tokens second
-- "while" "(" expr ")" stmt
stmt_tokens (Stmt-F.While at test body) = word_at "while" at ++ sign "(" ++ spell_expr test ++ sign ")" ++ body
-- "for" "(" [ decl | assign ] ";" [ expr ] ";" [ assign ] ")" stmt
stmt_tokens (Stmt-F.For at first test next body) =
    word_at "for" at ++ spell_header first test next ++ body
-- "return" [ expr ] ";"
stmt_tokens (Stmt-F.Return at value) = word_at "return" at ++ spell_option value ++ sign ";"
-- "token" Id "=" chain ";"
stmt_tokens (Stmt-F.Token at name chain) = word_at "token" at ++ identifier name ++ sign "=" ++ chain ++ sign ";"
-- chain [ "@" "currentContinuation" ] ";"
stmt_tokens (Stmt-F.Chain chain passed) = chain ++ spell_continuation passed ++ sign ";"

unfoldable pub spell_stage : Stage → TreeTokens
spell_stage = fold-Stage TreeTokens TreeTokens TreeTokens stage_tokens stmt_tokens chain_tokens

unfoldable pub spell_stmt : Stmt → TreeTokens
spell_stmt = fold-Stmt TreeTokens TreeTokens TreeTokens stage_tokens stmt_tokens chain_tokens

unfoldable pub spell_chain : Chain → TreeTokens
spell_chain = fold-Chain TreeTokens TreeTokens TreeTokens stage_tokens stmt_tokens chain_tokens

-- "{" { stmt } "}"
abbrev pub spell_block : List Stmt → TreeTokens
spell_block body = tokens_in_braces (sign "{") (map spell_stmt body)

-- type Id
abbrev pub spell_param : Param → TreeTokens
spell_param p = spell_type p.sort ++ identifier p.name

-- "(" [ type Id { "," type Id } ] ")"
abbrev pub spell_params : List Param → TreeTokens
spell_params params = sign "(" ++ separated_tokens "," (map spell_param params) ++ sign ")"

-- type | "void"
abbrev pub spell_result : Option TypeName → TreeTokens
spell_result None = word "void"
spell_result (Some sort) = spell_type sort

unfoldable pub spell_member : Member → TreeTokens
-- type Id [ "=" expr ] ";"
spell_member (member.Field sort name init) = spell_type sort ++ identifier name ++ spell_value init ++ sign ";"
-- Id "(" [ params ] ")" block
spell_member (member.Constructor name params body) = identifier name ++ spell_params params ++ spell_block body
-- ( type | "void" ) Id "(" [ params ] ")" block
spell_member (member.Handler result name params body) =
    spell_result result ++ identifier name ++ spell_params params ++ spell_block body

-- "behavior" Id "{" { member } "}"
unfoldable pub spell_behavior : Behavior → TreeTokens
spell_behavior b = word "behavior" ++ identifier b.name ++ tokens_in_braces (sign "{") (map spell_member b.members)

-- behavior { behavior }
unfoldable pub spell : Program → TreeTokens
spell p = concat_tokens (map spell_behavior p.behaviors)

-- the list grew by the tokens of these pieces
abbrev pub Adds : List Lexeme → List Lexeme → TreeTokens → Type 0
Adds old new pieces = new ≡ old ++ lexemes pieces
