-- The parser of statements, by how many constructs that count may still be opened inside one another.
use Rattle.std.specs.Prelude.{ℕ, zero, suc, Bool, true, false, ◌&&◌, List, [], ◌∷◌, ◌++◌, length, Option, Some, None}
use Rattle.sal_ast.specs.declared.expression.Expr.{Expr}
use Rattle.sal_ast.specs.declared.expression.Expr.TheOpen.{Suffix-F}
use Rattle.sal_ast.specs.declared.expression.Expr.TheVariants as e
use Rattle.sal_ast.specs.declared.expression.At.{At}
use Rattle.sal_ast.specs.declared.expression.Operand.{Operand}
use Rattle.sal_ast.specs.declared.expression.Suffix.{Suffix, out-Suffix}
use Rattle.sal_ast.specs.declared.expression.Suffix.TheVariants as s
use Rattle.sal_ast.specs.declared.program.Ident.{Ident}
use Rattle.sal_ast.specs.declared.program.TypeName.{TypeName}
use Rattle.sal_ast.specs.declared.statement.Aim.{Aim}
use Rattle.sal_ast.specs.declared.statement.Aim.TheVariants as aim
use Rattle.sal_ast.specs.declared.statement.Arg.{Arg}
use Rattle.sal_ast.specs.declared.statement.Arg.TheVariants as arg
use Rattle.sal_ast.specs.declared.statement.Assign.{Assign}
use Rattle.sal_ast.specs.declared.statement.Chain.{Chain, roll-Chain}
use Rattle.sal_ast.specs.declared.statement.Declare.{Declare}
use Rattle.sal_ast.specs.declared.statement.ForInit.{ForInit}
use Rattle.sal_ast.specs.declared.statement.ForInit.TheVariants as init
use Rattle.sal_ast.specs.declared.statement.Property.{Property}
use Rattle.sal_ast.specs.declared.statement.Property.TheVariants as of
use Rattle.sal_ast.specs.declared.statement.Stage.{Stage}
use Rattle.sal_ast.specs.declared.statement.Stage.TheVariants as g
use Rattle.sal_ast.specs.declared.statement.Stmt.{Stmt}
use Rattle.sal_ast.specs.declared.statement.Stmt.TheVariants as form
use Rattle.sal_grammar.specs.Tokens.{Token}
use Rattle.sal_grammar.specs.Sets as is
use Rattle.sal_grammar.specs.Parsers.{Parser, ◌>>=◌, pure, refuse, token_at, where_sees, opened, too_deep, many}
use Rattle.sal_grammar.specs.Expressions.{ident, type_of, suffixed, items_until, list_until, pairs, index, suffixes, unless_sees, after_dot, after_name, closed_postfix, other_postfix, unary, expr}

-- one construct deeper
abbrev pub one_less : ℕ → ℕ
one_less zero = zero
one_less (suc d) = d

abbrev pub below : ℕ → Parser Expr
below d = unary (one_less d)

abbrev pub name : Parser Ident
name = token_at is.id >>= (λ t. pure (ident t))

abbrev pub index_in : Suffix-F Expr Suffix At Operand → List Expr
index_in (Suffix-F.Index at x) = x ∷ []
index_in (Suffix-F.Length at) = []

-- the indexes among suffixes
abbrev pub indexes_of : List Suffix → List Expr
indexes_of [] = []
indexes_of (o ∷ os) = index_in (out-Suffix o) ++ indexes_of os

abbrev pub has_index : List Expr → Bool
has_index [] = false
has_index (x ∷ xs) = true

-- whether all suffixes are indexes
abbrev pub all_indexes : List Suffix → Bool
all_indexes [] = true
all_indexes (o ∷ os) = has_index (index_in (out-Suffix o)) && all_indexes os

-- ---- declarations and assignments

-- [ "=" expr ] ";"
unfoldable pub initial : ℕ → Parser (Option Expr)
initial d =
    where_sees is.assign
    (token_at is.assign >>= (λ _. expr d >>= (λ x. token_at is.semicolon >>= (λ _. pure (Some x)))))
    (token_at is.semicolon >>= (λ _. pure None))

-- Id [ "=" expr ] ";", behind a type
unfoldable pub declare : ℕ → TypeName → Parser Declare
declare d sort = name >>= (λ n. initial d >>= (λ x. pure (record { sort = sort; name = n; init = x })))

-- "=" expr, behind a variable with indexes
unfoldable pub assigned : ℕ → Bool → Ident → List Suffix → Parser Assign
assigned d own n found =
    token_at is.assign >>= (λ _. expr d >>= (λ x. pure (record { own = own; name = n; indexes = indexes_of found; value = x })))

-- { "[" expr "]" } "=" expr
unfoldable pub assign_rest : ℕ → Bool → Ident → List Suffix → Parser Assign
assign_rest d own n found = many is.open_bracket (opened d (index (below d))) >>= (λ os. assigned d own n (found ++ os))

-- [ expr ] ";"
unfoldable pub until_semicolon : ℕ → Parser (Option Expr)
until_semicolon d =
    where_sees is.semicolon
    (token_at is.semicolon >>= (λ _. pure None))
    (expr d >>= (λ x. token_at is.semicolon >>= (λ _. pure (Some x))))

-- ---- messages

-- "token" | expr
unfoldable pub argument : ℕ → Parser Arg
argument d =
    where_sees is.token
    (token_at is.token >>= (λ t. unless_sees is.after_expr (arg.Token t.at)))
    (expr d >>= (λ x. pure (arg.Expr x)))

-- "delay" "(" expr ")", behind ":"
unfoldable pub delay : ℕ → ℕ → Parser Property
delay d at =
    token_at is.delay >>= (λ _. token_at is.open_paren >>= (λ _. expr d >>= (λ x. token_at is.close_paren >>= (λ _.
    pure (of.Delay at x)))))

-- "waitfor" "(" Id { "," Id } ")", behind ":"
unfoldable pub wait_for : ℕ → Parser Property
wait_for at =
    token_at is.wait_for >>= (λ _. token_at is.open_paren >>= (λ _. items_until is.close_paren name >>= (λ names.
    pure (of.WaitFor at names))))

unfoldable pub property : ℕ → Parser Property
property d = token_at is.colon >>= (λ t. where_sees is.delay (delay d t.at) (wait_for t.at))

-- "(" [ arg { "," arg } ] ")" { property }, behind [ target "<-" ] Id
unfoldable pub message : ℕ → Aim → Ident → Parser Stage
message d to n =
    token_at is.open_paren >>= (λ _. list_until is.close_paren (argument d) >>= (λ args. many is.colon (property d) >>= (λ found.
    pure (g.Message (record { aim = to; handler = n; args = args; properties = found })))))

-- "<-" Id "(" .., behind a target
unfoldable pub send_to : ℕ → Aim → Parser Stage
send_to d to = token_at is.arrow >>= (λ _. name >>= (λ n. message d to n))

-- ---- stages, where the parser of statements one deeper is given

-- { stmt } "}"
unfoldable pub body_of : Parser Stmt → Parser (List Stmt)
body_of stmt = many is.first_stmt stmt >>= (λ list. token_at is.close_brace >>= (λ _. pure list))

-- "join" block
unfoldable pub join : Parser Stmt → Parser Stage
join stmt =
    token_at is.join >>= (λ t. token_at is.open_brace >>= (λ _. body_of stmt >>= (λ list.
    unless_sees is.colon (g.Join t.at list))))

-- "standardOutput" "<-" ..
abbrev pub output : ℕ → Parser Stage
output d = token_at is.output >>= (λ t. send_to d (aim.Output t.at))

-- a stage, behind its first token, which is an identifier
unfoldable pub name_stage : ℕ → Ident → Parser Stage
name_stage d n =
    where_sees is.open_paren (message d aim.Own n) (after_name d (below d) n >>= (λ x. send_to d (aim.Actor x)))

-- message | "join" block
unfoldable pub stage_by : ℕ → Parser Stmt → Parser Stage
stage_by d stmt =
    where_sees is.join (opened d (join stmt))
    (where_sees is.output (output d)
    (where_sees is.id (name >>= name_stage d)
    (other_postfix d (below d) >>= (λ x. send_to d (aim.Actor x)))))

-- what stands behind the first stage of a chain
pub record Tail : Type 0 where
  pub stages : List Stage
  pub passed : Option ℕ

-- { "@" stage } [ "@" "currentContinuation" ] ";"; each turn takes a token
unfoldable pub tail_from : ℕ → Parser Stage → Parser Tail
tail_from zero stage = refuse
tail_from (suc n) stage =
    where_sees is.then_sign
    (token_at is.then_sign >>= (λ _.
    where_sees is.current
    (token_at is.current >>= (λ t. token_at is.semicolon >>= (λ _. pure (record { stages = []; passed = Some t.at }))))
    (stage >>= (λ first. tail_from n stage >>= (λ others.
    pure (record { stages = first ∷ others.stages; passed = others.passed }))))))
    (token_at is.semicolon >>= (λ _. pure (record { stages = []; passed = None })))

abbrev pub tail : Parser Stage → Parser Tail
tail stage = λ i. tail_from (suc (length i)) stage i

abbrev pub chain : Stage → List Stage → Chain
chain first others = roll-Chain (record { stages = first ∷ others })

-- a chain as a statement, behind its first stage
unfoldable pub chain_stmt : ℕ → Parser Stmt → Stage → Parser Stmt
chain_stmt d stmt first = tail (stage_by d stmt) >>= (λ t. pure (form.Chain (chain first t.stages) t.passed))

-- "token" Id "=" chain ";"
unfoldable pub token_stmt : ℕ → Parser Stmt → Parser Stmt
token_stmt d stmt =
    token_at is.token >>= (λ t. name >>= (λ n. token_at is.assign >>= (λ _. stage_by d stmt >>= (λ first.
    many is.then_sign (token_at is.then_sign >>= (λ _. stage_by d stmt)) >>= (λ others. token_at is.semicolon >>= (λ _.
    pure (form.Token t.at n (chain first others))))))))

-- ---- statements that begin with a variable

abbrev pub is_own : Option ℕ → Bool
is_own None = false
is_own (Some at) = true

abbrev pub variable : Option ℕ → Ident → Expr
variable None n = e.Name n
variable (Some at) n = e.Own at n

-- "<-" .., behind a target that is an expression
unfoldable pub sent_stmt : ℕ → Parser Stmt → Expr → Parser Stmt
sent_stmt d stmt x = send_to d (aim.Actor x) >>= chain_stmt d stmt

-- "=" expr ";"
unfoldable pub assigned_stmt : ℕ → Bool → Ident → List Suffix → Parser Stmt
assigned_stmt d own n found = assigned d own n found >>= (λ a. token_at is.semicolon >>= (λ _. pure (form.Assign a)))

-- an assignment where all suffixes are indexes, or else a chain
abbrev pub assign_or_send : ℕ → Parser Stmt → Option ℕ → Ident → List Suffix → Bool → Parser Stmt
assign_or_send d stmt at n found true =
    where_sees is.assign (assigned_stmt d (is_own at) n found) (sent_stmt d stmt (suffixed (variable at n) found))
assign_or_send d stmt at n found false = sent_stmt d stmt (suffixed (variable at n) found)

-- behind a variable and these suffixes
unfoldable pub after_variable : ℕ → Parser Stmt → Option ℕ → Ident → List Suffix → Parser Stmt
after_variable d stmt at n found =
    suffixes d (below d) >>= (λ os. assign_or_send d stmt at n (found ++ os) (all_indexes (found ++ os)))

-- "this" "." Id ..
unfoldable pub this_stmt : ℕ → Parser Stmt → Parser Stmt
this_stmt d stmt =
    token_at is.this >>= (λ t. token_at is.dot >>= (λ _. name >>= (λ n. after_variable d stmt (Some t.at) n [])))

-- expr "]" .., behind Id "["
unfoldable pub indexed_stmt : ℕ → Parser Stmt → Ident → ℕ → Parser Stmt
indexed_stmt d stmt n at =
    expr (one_less d) >>= (λ x. token_at is.close_bracket >>= (λ _. after_variable d stmt None n (s.Index at x ∷ [])))

-- a declaration, behind its type's first token
unfoldable pub typed_stmt : ℕ → TypeName → Parser Stmt
typed_stmt d sort = declare d sort >>= (λ x. pure (form.Declare x))

-- a type with brackets or an index, behind Id "["
unfoldable pub bracket_stmt : ℕ → Parser Stmt → Token → ℕ → Parser Stmt
bracket_stmt d stmt t at =
    where_sees is.close_bracket
    (token_at is.close_bracket >>= (λ _. pairs >>= (λ n. typed_stmt d (type_of t (suc n)))))
    (where_sees is.first_expr (opened d (indexed_stmt d stmt (ident t) at)) refuse)

-- a target, behind Id, where no index follows
unfoldable pub dotted_name : ℕ → Ident → Parser Expr
dotted_name d n =
    where_sees is.dot
    (token_at is.dot >>= (λ t. after_dot d (below d) n t.at))
    (unless_sees is.after_unary (e.Name n))

-- a statement, behind its first token, which is an identifier
unfoldable pub name_stmt : ℕ → Parser Stmt → Token → Parser Stmt
name_stmt d stmt t =
    where_sees is.id (typed_stmt d (type_of t 0))
    (where_sees is.open_bracket (token_at is.open_bracket >>= (λ b. bracket_stmt d stmt t b.at))
    (where_sees is.assign (assigned_stmt d false (ident t) [])
    (where_sees is.open_paren (message d aim.Own (ident t) >>= chain_stmt d stmt)
    (dotted_name d (ident t) >>= sent_stmt d stmt))))

-- ---- the parentheses of a `for`

-- "=" expr ";" as the first part
unfoldable pub assign_init : ℕ → Bool → Ident → List Suffix → Parser ForInit
assign_init d own n found = assign_rest d own n found >>= (λ a. token_at is.semicolon >>= (λ _. pure (init.Assign a)))

unfoldable pub typed_init : ℕ → TypeName → Parser ForInit
typed_init d sort = declare d sort >>= (λ x. pure (init.Declare x))

-- a type with brackets or an index, behind Id "["
unfoldable pub bracket_init : ℕ → Token → ℕ → Parser ForInit
bracket_init d t at =
    where_sees is.close_bracket
    (token_at is.close_bracket >>= (λ _. pairs >>= (λ n. typed_init d (type_of t (suc n)))))
    (where_sees is.first_expr
    (opened d (expr (one_less d) >>= (λ x. token_at is.close_bracket >>= (λ _.
    assign_init d false (ident t) (s.Index at x ∷ [])))))
    refuse)

-- a first part, behind its first token, which is an identifier
unfoldable pub name_init : ℕ → Token → Parser ForInit
name_init d t =
    where_sees is.id (typed_init d (type_of t 0))
    (where_sees is.open_bracket (token_at is.open_bracket >>= (λ b. bracket_init d t b.at))
    (assigned d false (ident t) [] >>= (λ a. token_at is.semicolon >>= (λ _. pure (init.Assign a)))))

-- [ decl | assign ] ";"
unfoldable pub for_init : ℕ → Parser ForInit
for_init d =
    where_sees is.id (token_at is.id >>= name_init d)
    (where_sees is.sort_word (token_at is.sort_word >>= (λ t. pairs >>= (λ n. typed_init d (type_of t n))))
    (where_sees is.this
    (token_at is.this >>= (λ _. token_at is.dot >>= (λ _. name >>= (λ n. assign_init d true n []))))
    (token_at is.semicolon >>= (λ _. pure init.Nothing))))

-- ( Id | "this" "." Id ) { "[" expr "]" } "=" expr
unfoldable pub assignment : ℕ → Parser Assign
assignment d =
    where_sees is.this
    (token_at is.this >>= (λ _. token_at is.dot >>= (λ _. name >>= (λ n. assign_rest d true n []))))
    (name >>= (λ n. assign_rest d false n []))

-- [ assign ] ")"
unfoldable pub for_next : ℕ → Parser (Option Assign)
for_next d =
    where_sees is.close_paren
    (token_at is.close_paren >>= (λ _. pure None))
    (assignment d >>= (λ a. token_at is.close_paren >>= (λ _. pure (Some a))))

-- ---- statements that count, given the depth inside and the parser of statements there

unfoldable pub block : Parser Stmt → Parser Stmt
block stmt = token_at is.open_brace >>= (λ t. body_of stmt >>= (λ list. pure (form.Block t.at list)))

-- "(" expr ")"
abbrev pub test : ℕ → Parser Expr
test d = token_at is.open_paren >>= (λ _. expr d >>= (λ x. token_at is.close_paren >>= (λ _. pure x)))

-- [ "else" stmt ]
unfoldable pub or_else : Parser Stmt → ℕ → Expr → Stmt → Parser Stmt
or_else stmt at x first =
    where_sees is.else_word
    (token_at is.else_word >>= (λ _. stmt >>= (λ other. pure (form.If at x first (Some other)))))
    (pure (form.If at x first None))

unfoldable pub if_stmt : ℕ → Parser Stmt → Parser Stmt
if_stmt d stmt = token_at is.if_word >>= (λ t. test d >>= (λ x. stmt >>= (λ first. or_else stmt t.at x first)))

unfoldable pub while_stmt : ℕ → Parser Stmt → Parser Stmt
while_stmt d stmt = token_at is.while_word >>= (λ t. test d >>= (λ x. stmt >>= (λ body. pure (form.While t.at x body))))

unfoldable pub for_stmt : ℕ → Parser Stmt → Parser Stmt
for_stmt d stmt =
    token_at is.for_word >>= (λ t. token_at is.open_paren >>= (λ _. for_init d >>= (λ first. until_semicolon d >>= (λ x.
    for_next d >>= (λ next. stmt >>= (λ body. pure (form.For t.at first x next body)))))))

unfoldable pub nested : ℕ → Parser Stmt → Parser Stmt
nested d stmt =
    where_sees is.open_brace (block stmt)
    (where_sees is.if_word (if_stmt d stmt)
    (where_sees is.while_word (while_stmt d stmt) (for_stmt d stmt)))

-- ---- statements

-- "standardOutput" .. | "join" .. | a target that begins with no variable
unfoldable pub other_chain : ℕ → Parser Stmt → Parser Stmt
other_chain d stmt =
    where_sees is.join (opened d (join stmt >>= chain_stmt d stmt))
    (where_sees is.output (output d >>= chain_stmt d stmt)
    (closed_postfix d (below d) >>= sent_stmt d stmt))

-- "return" [ expr ] ";"
abbrev pub return_stmt : ℕ → Parser Stmt
return_stmt d = token_at is.return_word >>= (λ t. until_semicolon d >>= (λ x. pure (form.Return t.at x)))

unfoldable pub stmt_by : ℕ → Parser Stmt → Parser Stmt
stmt_by d stmt =
    where_sees is.id (token_at is.id >>= name_stmt d stmt)
    (where_sees is.nest (opened d (nested (one_less d) stmt))
    (where_sees is.sort_word (token_at is.sort_word >>= (λ t. pairs >>= (λ n. typed_stmt d (type_of t n))))
    (where_sees is.semicolon (token_at is.semicolon >>= (λ t. pure (form.Empty t.at)))
    (where_sees is.return_word (return_stmt d)
    (where_sees is.token (token_stmt d stmt)
    (where_sees is.this (this_stmt d stmt)
    (other_chain d stmt)))))))

unfoldable pub stmt : ℕ → Parser Stmt
stmt zero = stmt_by zero too_deep
stmt (suc d) = stmt_by (suc d) (stmt d)
