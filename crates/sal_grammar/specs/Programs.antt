-- The parser of programs.
use Rattle.std.specs.Prelude.{ℕ, List, [], ◌∷◌, Option, Some, None}
use Rattle.sal_ast.specs.declared.program.Behavior.{Behavior}
use Rattle.sal_ast.specs.declared.program.Ident.{Ident}
use Rattle.sal_ast.specs.declared.program.Member.{Member}
use Rattle.sal_ast.specs.declared.program.Member.TheVariants as form
use Rattle.sal_ast.specs.declared.program.Param.{Param}
use Rattle.sal_ast.specs.declared.program.Program.{Program}
use Rattle.sal_ast.specs.declared.program.TypeName.{TypeName}
use Rattle.sal_ast.specs.declared.statement.Stmt.{Stmt}
use Rattle.sal_grammar.specs.declared.reason.ParseRule.{ParseRule}
use Rattle.sal_grammar.specs.declared.reason.ParseRule.TheVariants.{P1, P2, P3}
use Rattle.sal_grammar.specs.declared.reason.Reason.{Reason}
use Rattle.sal_grammar.specs.declared.reason.Reason.TheVariants.{Form, Depth}
use Rattle.sal_grammar.specs.Tokens.{Token}
use Rattle.sal_grammar.specs.Sets as is
use Rattle.sal_grammar.specs.Parsers.{Parser, ◌>>=◌, pure, refuse, token_at, where_sees, many}
use Rattle.sal_grammar.specs.Expressions.{ident, type_of, list_until, pairs}
use Rattle.sal_grammar.specs.Statements.{name, initial, body_of, stmt}

-- type Id
unfoldable pub param : Parser Param
param = token_at is.sort >>= (λ t. pairs >>= (λ dims. name >>= (λ n. pure (record { sort = type_of t dims; name = n }))))

-- "(" [ type Id { "," type Id } ] ")"
unfoldable pub params : Parser (List Param)
params = token_at is.open_paren >>= (λ _. list_until is.close_paren param)

-- "{" { stmt } "}"
unfoldable pub body : ℕ → Parser (List Stmt)
body d = token_at is.open_brace >>= (λ _. body_of (stmt d))

-- "(" [ params ] ")" block, behind a constructor's name
unfoldable pub constructor : ℕ → Ident → Parser Member
constructor d n = params >>= (λ found. body d >>= (λ list. pure (form.Constructor n found list)))

-- "(" [ params ] ")" block, behind a handler's name
unfoldable pub handler : ℕ → Option TypeName → Ident → Parser Member
handler d result n = params >>= (λ found. body d >>= (λ list. pure (form.Handler result n found list)))

-- a field or a handler, behind its type
unfoldable pub typed_member : ℕ → TypeName → Parser Member
typed_member d sort =
    name >>= (λ n. where_sees is.open_paren (handler d (Some sort) n) (initial d >>= (λ x. pure (form.Field sort n x))))

-- a member, behind its first token, which is an identifier
unfoldable pub name_member : ℕ → Token → Parser Member
name_member d t =
    where_sees is.open_paren (constructor d (ident t)) (pairs >>= (λ dims. typed_member d (type_of t dims)))

unfoldable pub member : ℕ → Parser Member
member d =
    where_sees is.id (token_at is.id >>= name_member d)
    (where_sees is.void (token_at is.void >>= (λ _. name >>= (λ n. handler d None n)))
    (token_at is.sort_word >>= (λ t. pairs >>= (λ dims. typed_member d (type_of t dims)))))

-- "behavior" Id "{" { member } "}"
unfoldable pub behavior : ℕ → Parser Behavior
behavior d =
    token_at is.behavior >>= (λ _. name >>= (λ n. token_at is.open_brace >>= (λ _. many is.first_member (member d) >>= (λ found.
    token_at is.close_brace >>= (λ _. pure (record { name = n; members = found }))))))

-- behavior { behavior }
unfoldable pub program : ℕ → Parser Program
program d = behavior d >>= (λ b. many is.behavior (behavior d) >>= (λ others. pure (record { behaviors = b ∷ others })))

-- a program and nothing behind it
unfoldable pub top : ℕ → Parser Program
top d = program d >>= (λ p. where_sees is.end (pure p) refuse)

-- the rule by which a program is refused, given what is left from the refused token on
abbrev pub rule_of : Reason → List Token → ParseRule
rule_of Depth left = P3
rule_of Form [] = P2
rule_of Form (t ∷ left) = P1
