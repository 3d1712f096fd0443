-- Parts of the grammar's parsers, named for the functions that read them.
use Rattle.std.specs.Prelude.{ℕ, suc, false, List, [], ◌∷◌, ◌++◌, Some, None}
use Rattle.sal_ast.specs.declared.expression.Suffix.{Suffix}
use Rattle.sal_ast.specs.declared.expression.Suffix.TheVariants as s
use Rattle.sal_ast.specs.declared.program.Behavior.{Behavior}
use Rattle.sal_ast.specs.declared.program.Ident.{Ident}
use Rattle.sal_ast.specs.declared.program.Member.{Member}
use Rattle.sal_ast.specs.declared.program.Param.{Param}
use Rattle.sal_ast.specs.declared.statement.Aim.TheVariants as aim
use Rattle.sal_ast.specs.declared.statement.Arg.{Arg}
use Rattle.sal_ast.specs.declared.statement.Chain.{roll-Chain}
use Rattle.sal_ast.specs.declared.statement.ForInit.{ForInit}
use Rattle.sal_ast.specs.declared.statement.Property.{Property}
use Rattle.sal_ast.specs.declared.statement.Stage.{Stage}
use Rattle.sal_ast.specs.declared.statement.Stmt.{Stmt}
use Rattle.sal_ast.specs.declared.statement.Stmt.TheVariants as form
use Rattle.sal_grammar.specs.Expressions.{ident, type_of, pairs, comma_item, items_until, list_until, index, expr}
use Rattle.sal_grammar.specs.Parsers.{Outcome, Parser, ◌>>=◌, pure, and_then, token_at, where_sees, opened, many}
use Rattle.sal_grammar.specs.Programs.{param, member, behavior}
use Rattle.sal_grammar.specs.Sets as is
use Rattle.sal_grammar.specs.Statements.{Tail, name, below, one_less, argument, assign_init, property, message, output, join, stage_by, chain_stmt, token_stmt, sent_stmt, this_stmt, typed_stmt, dotted_name, return_stmt, other_chain, stmt}
use Rattle.sal_grammar.specs.Tokens.{Token}
use Rattle.sal_parse.specs.code.Nests.{inner}
use Rattle.sal_parse.specs.declared.turn.Turn.{Turn}
use Rattle.sal_parse.specs.declared.turn.Turn.TheVariants as turn

-- ---- lists

unfoldable pub opened_index : ℕ → Parser Suffix
opened_index d = opened d (index (below d))

unfoldable pub indexes : ℕ → Parser (List Suffix)
indexes d = many is.open_bracket (opened_index d)

unfoldable pub next_name : Parser Ident
next_name = comma_item name

unfoldable pub next_names : Parser (List Ident)
next_names = many is.comma next_name

unfoldable pub names : Parser (List Ident)
names = items_until is.close_paren name

unfoldable pub next_argument : ℕ → Parser Arg
next_argument d = comma_item (argument d)

unfoldable pub next_arguments : ℕ → Parser (List Arg)
next_arguments d = many is.comma (next_argument d)

unfoldable pub some_arguments : ℕ → Parser (List Arg)
some_arguments d = items_until is.close_paren (argument d)

unfoldable pub arguments : ℕ → Parser (List Arg)
arguments d = list_until is.close_paren (argument d)

unfoldable pub properties : ℕ → Parser (List Property)
properties d = many is.colon (property d)

unfoldable pub next_param : Parser Param
next_param = comma_item param

unfoldable pub next_params : Parser (List Param)
next_params = many is.comma next_param

unfoldable pub some_params : Parser (List Param)
some_params = items_until is.close_paren param

unfoldable pub param_list : Parser (List Param)
param_list = list_until is.close_paren param

unfoldable pub next_stage : ℕ → Parser Stage
next_stage d = token_at is.then_sign >>= (λ _. stage_by d (inner d))

unfoldable pub next_stages : ℕ → Parser (List Stage)
next_stages d = many is.then_sign (next_stage d)

unfoldable pub inner_list : ℕ → Parser (List Stmt)
inner_list d = many is.first_stmt (inner d)

unfoldable pub stmt_list : ℕ → Parser (List Stmt)
stmt_list d = many is.first_stmt (stmt d)

unfoldable pub members : ℕ → Parser (List Member)
members d = many is.first_member (member d)

unfoldable pub behaviors : ℕ → Parser (List Behavior)
behaviors d = many is.behavior (behavior d)

-- ---- an index, behind Id "["

unfoldable pub indexed_init : ℕ → Token → ℕ → Parser ForInit
indexed_init d t at =
    opened d (expr (one_less d) >>= (λ x. token_at is.close_bracket >>= (λ _. assign_init d false (ident t) (s.Index at x ∷ []))))

-- ---- statements

unfoldable pub array_stmt : ℕ → Token → Parser Stmt
array_stmt d t = token_at is.close_bracket >>= (λ _. pairs >>= (λ n. typed_stmt d (type_of t (suc n))))

unfoldable pub own_stmt : ℕ → Ident → Parser Stmt
own_stmt d n = message d aim.Own n >>= chain_stmt d (inner d)

unfoldable pub dotted_stmt : ℕ → Ident → Parser Stmt
dotted_stmt d n = dotted_name d n >>= sent_stmt d (inner d)

unfoldable pub join_stmt : ℕ → Parser Stmt
join_stmt d = join (inner d) >>= chain_stmt d (inner d)

unfoldable pub output_stmt : ℕ → Parser Stmt
output_stmt d = output d >>= chain_stmt d (inner d)

unfoldable pub sort_stmt : ℕ → Parser Stmt
sort_stmt d = token_at is.sort_word >>= (λ t. pairs >>= (λ n. typed_stmt d (type_of t n)))

unfoldable pub word_stmt : ℕ → Parser Stmt
word_stmt d =
    where_sees is.semicolon (token_at is.semicolon >>= (λ t. pure (form.Empty t.at)))
    (where_sees is.return_word (return_stmt d)
    (where_sees is.token (token_stmt d (inner d))
    (where_sees is.this (this_stmt d (inner d))
    (other_chain d (inner d)))))

-- ---- what stands behind the first stage of a chain, one turn after another

unfoldable pub tail_turn : Parser Stage → Parser Turn
tail_turn stage =
    where_sees is.then_sign
    (token_at is.then_sign >>= (λ _.
    where_sees is.current
    (token_at is.current >>= (λ t. token_at is.semicolon >>= (λ _. pure (turn.End (Some t.at)))))
    (stage >>= (λ first. pure (turn.Next first)))))
    (token_at is.semicolon >>= (λ _. pure (turn.End None)))

-- the chain of these stages and those that come
abbrev pub finished : List Stage → Outcome Tail → Outcome Stmt
finished found o = and_then o (λ t. pure (form.Chain (roll-Chain (record { stages = found ++ t.stages })) t.passed))
