-- The parser of expressions, by how many constructs that count may still be opened inside one another. In the comments,
-- words in quotes are tokens, [ ] holds what may be missing and { } what may come any number of times.
use Rattle.std.specs.Prelude.{ℕ, zero, suc, true, false, List, [], ◌∷◌, ◌++◌, length, Option, Some, None}
use Rattle.std.specs.Str.Parse.{digits_value}
use Rattle.sal_ast.specs.declared.expression.At.{At, roll-At}
use Rattle.sal_ast.specs.declared.expression.Expr.{Expr, out-Expr}
use Rattle.sal_ast.specs.declared.expression.Expr.TheOpen.{Expr-F}
use Rattle.sal_ast.specs.declared.expression.Expr.TheVariants as e
use Rattle.sal_ast.specs.declared.expression.Op.{Op}
use Rattle.sal_ast.specs.declared.expression.Op.TheVariants as op
use Rattle.sal_ast.specs.declared.expression.Operand.{Operand, roll-Operand}
use Rattle.sal_ast.specs.declared.expression.Suffix.{Suffix}
use Rattle.sal_ast.specs.declared.expression.Suffix.TheVariants as s
use Rattle.sal_ast.specs.declared.program.BaseName.{BaseName}
use Rattle.sal_ast.specs.declared.program.BaseName.TheVariants as base
use Rattle.sal_ast.specs.declared.program.Ident.{Ident}
use Rattle.sal_ast.specs.declared.program.TypeName.{TypeName}
use Rattle.sal_grammar.specs.declared.class.Class.{Class}
use Rattle.sal_grammar.specs.declared.class.Class.TheVariants as k
use Rattle.sal_grammar.specs.Tokens.{Token, Set, class_of}
use Rattle.sal_grammar.specs.Sets as is
use Rattle.sal_grammar.specs.Parsers.{Parser, ◌>>=◌, pure, refuse, token_at, where_sees, opened, too_deep, many}

-- ---- parts of trees

abbrev pub ident : Token → Ident
ident t = record { text = t.text; at = t.at }

abbrev pub op_of : Class → Op
op_of k.Or = op.Or
op_of k.And = op.And
op_of k.Same = op.Same
op_of k.Other = op.Other
op_of k.Less = op.Less
op_of k.LessEq = op.LessEq
op_of k.Greater = op.Greater
op_of k.GreaterEq = op.GreaterEq
op_of k.Plus = op.Add
op_of k.Minus = op.Sub
op_of k.Star = op.Mul
op_of k.Slash = op.Div
op_of _ = op.Rem

abbrev pub base_of : Class → List ℕ → BaseName
base_of k.Int text = base.Int
base_of k.Boolean text = base.Boolean
base_of k.Text text = base.Str
base_of _ text = base.Actor text

abbrev pub type_of : Token → ℕ → TypeName
type_of t dims = record { base = base_of (class_of t) t.text; dims = dims; at = t.at }

abbrev pub operand : Token → Expr → Operand
operand t x = roll-Operand (record { op = op_of (class_of t); at = t.at; value = x })

-- an operand alone is itself
abbrev pub level : Expr → List Operand → Expr
level x [] = x
level x (o ∷ os) = e.Level x (o ∷ os)

abbrev pub suffixed : Expr → List Suffix → Expr
suffixed x [] = x
suffixed x (o ∷ os) = e.Suffixed x (o ∷ os)

abbrev pub sign_of : Class → ℕ → Expr → Expr
sign_of k.Not at x = e.Not at x
sign_of _ at x = e.Neg at x

-- the name that an expression is
abbrev pub name_in : Expr-F Expr Suffix At Operand → Option Ident
name_in (Expr-F.Name name) = Some name
name_in _ = None

abbrev pub name_of : Expr → Option Ident
name_of x = name_in (out-Expr x)

-- ---- lists

abbrev pub comma_item : {A : Type 0} → Parser A → Parser A
comma_item item = token_at is.comma >>= (λ _. item)

-- item { "," item }, and then the closing token
abbrev pub items_until : {A : Type 0} → Set → Parser A → Parser (List A)
items_until close item =
    item >>= (λ x. many is.comma (comma_item item) >>= (λ others. token_at close >>= (λ _. pure (x ∷ others))))

-- [ item { "," item } ], and then the closing token
abbrev pub list_until : {A : Type 0} → Set → Parser A → Parser (List A)
list_until close item = where_sees close (token_at close >>= (λ _. pure [])) (items_until close item)

-- "[" "]"
abbrev pub pair : Parser (Unit {0})
pair = token_at is.open_bracket >>= (λ _. token_at is.close_bracket >>= (λ _. pure tt))

-- so many "[" "]"
abbrev pub pairs : Parser ℕ
pairs = many is.open_bracket pair >>= (λ found. pure (length found))

-- ---- operators

abbrev pub operand_of : Set → Parser Expr → Parser Operand
operand_of ops below = token_at ops >>= (λ t. below >>= (λ x. pure (operand t x)))

-- an operand { operator operand }
unfoldable pub level_of : Set → Parser Expr → Parser Expr
level_of ops below = below >>= (λ x. many ops (operand_of ops below) >>= (λ os. pure (level x os)))

unfoldable pub sum_of : Parser Expr → Parser Expr
sum_of unary = level_of is.sum (level_of is.product unary)

unfoldable pub equal_of : Parser Expr → Parser Expr
equal_of unary = level_of is.equal (level_of is.relation (sum_of unary))

unfoldable pub expr_of : Parser Expr → Parser Expr
expr_of unary = level_of is.or (level_of is.and (equal_of unary))

-- ---- constructs that count, given the parser of what stands one deeper

-- ( "-" | "!" ) unary
unfoldable pub prefix : Parser Expr → Parser Expr
prefix below = token_at is.prefix >>= (λ t. below >>= (λ x. pure (sign_of (class_of t) t.at x)))

-- "getReferenceByName" "(" expr ")"
unfoldable pub getter : Parser Expr → ℕ → Option Ident → Ident → Parser Expr
getter below at cast behavior =
    token_at is.getter >>= (λ _. token_at is.open_paren >>= (λ _. expr_of below >>= (λ x. token_at is.close_paren >>= (λ _.
    pure (e.ByName at cast behavior x)))))

-- "[" expr "]"
unfoldable pub index : Parser Expr → Parser Suffix
index below =
    token_at is.open_bracket >>= (λ t. expr_of below >>= (λ x. token_at is.close_bracket >>= (λ _. pure (s.Index t.at x))))

-- the value, unless a token of the set comes
abbrev pub unless_sees : {A : Type 0} → Set → A → Parser A
unless_sees set a = where_sees set refuse (pure a)

-- "." "length"
abbrev pub size : Parser Suffix
size = token_at is.dot >>= (λ t. token_at is.length >>= (λ _. pure (s.Length t.at)))

-- "[" expr "]" | "." "length"
unfoldable pub suffix : ℕ → Parser Expr → Parser Suffix
suffix d below = where_sees is.open_bracket (opened d (index below)) size

unfoldable pub suffixes : ℕ → Parser Expr → Parser (List Suffix)
suffixes d below = many is.suffix (suffix d below)

-- { "[" expr "]" | "." "length" }, behind these
unfoldable pub with_suffixes : ℕ → Parser Expr → Expr → List Suffix → Parser Expr
with_suffixes d below x found = suffixes d below >>= (λ os. unless_sees is.after_unary (suffixed x (found ++ os)))

-- behind "(" Id ")"
unfoldable pub getter_cast : Parser Expr → ℕ → Ident → Parser Expr
getter_cast below at cast = token_at is.id >>= (λ t. token_at is.dot >>= (λ _. getter below at (Some cast) (ident t)))

-- behind "(" expr ")", which is a cast where it is a name and an identifier follows
abbrev pub after_paren : ℕ → Parser Expr → ℕ → Expr → Option Ident → Parser Expr
after_paren d below at x None = with_suffixes d below (e.Paren at x) []
after_paren d below at x (Some name) =
    where_sees is.id
    (getter_cast below at name >>= (λ y. with_suffixes d below y []))
    (with_suffixes d below (e.Paren at x) [])

-- "(" expr ")" | "(" Id ")" Id "." "getReferenceByName" "(" expr ")", and suffixes
unfoldable pub paren : ℕ → Parser Expr → Parser Expr
paren d below =
    token_at is.open_paren >>= (λ t. expr_of below >>= (λ x. token_at is.close_paren >>= (λ _. after_paren d below t.at x (name_of x))))

-- [ "," expr ] ")"
unfoldable pub second : Parser Expr → Parser (Option Expr)
second below =
    where_sees is.comma
    (token_at is.comma >>= (λ _. expr_of below >>= (λ x. token_at is.close_paren >>= (λ _. pure (Some x)))))
    (token_at is.close_paren >>= (λ _. pure None))

-- "at" "(" expr [ "," expr ] ")"
unfoldable pub place : Parser Expr → Parser At
place below =
    token_at is.at >>= (λ t. token_at is.open_paren >>= (λ _. expr_of below >>= (λ x. second below >>= (λ y.
    pure (roll-At (record { at = t.at; uan = x; ual = y }))))))

-- "(" [ expr { "," expr } ] ")" [ "at" .. ], behind "new" Id, and suffixes
unfoldable pub new_actor : ℕ → Parser Expr → ℕ → Ident → Parser Expr
new_actor d below at behavior =
    token_at is.open_paren >>= (λ _. list_until is.close_paren (expr_of below) >>= (λ args.
    where_sees is.at
    (place below >>= (λ p. with_suffixes d below (e.New at behavior args (Some p)) []))
    (with_suffixes d below (e.New at behavior args None) [])))

-- expr "]" { "[" "]" }, behind "new" base "["
unfoldable pub new_sized : Parser Expr → ℕ → Token → Parser Expr
new_sized below at sort =
    expr_of below >>= (λ x. token_at is.close_bracket >>= (λ _. pairs >>= (λ n.
    unless_sees is.after_unary (e.Make at (type_of sort (suc n)) x))))

-- "]" { "[" "]" } "{" [ expr { "," expr } ] "}", behind "new" base "["
unfoldable pub new_list : Parser Expr → ℕ → Token → Parser Expr
new_list below at sort =
    token_at is.close_bracket >>= (λ _. pairs >>= (λ n. token_at is.open_brace >>= (λ _.
    list_until is.close_brace (expr_of below) >>= (λ items.
    unless_sees is.after_unary (e.ListOf at (type_of sort (suc n)) items)))))

-- an array, behind "new" base
unfoldable pub new_array : Parser Expr → ℕ → Token → Parser Expr
new_array below at sort =
    token_at is.open_bracket >>= (λ _. where_sees is.close_bracket (new_list below at sort) (new_sized below at sort))

-- behind Id "."
unfoldable pub after_dot : ℕ → Parser Expr → Ident → ℕ → Parser Expr
after_dot d below name at =
    where_sees is.getter
    (opened d (getter below name.at None name >>= (λ x. with_suffixes d below x [])))
    (token_at is.length >>= (λ _. with_suffixes d below (e.Name name) (s.Length at ∷ [])))

-- behind Id
unfoldable pub after_name : ℕ → Parser Expr → Ident → Parser Expr
after_name d below name =
    where_sees is.dot
    (token_at is.dot >>= (λ t. after_dot d below name t.at))
    (with_suffixes d below (e.Name name) [])

-- behind "new"
unfoldable pub after_new : ℕ → Parser Expr → ℕ → Parser Expr
after_new d below at =
    where_sees is.id
    (token_at is.id >>= (λ t.
    where_sees is.open_paren
    (new_actor d below at (ident t))
    (new_array below at t)))
    (token_at is.sort_word >>= (λ t. new_array below at t))

-- Number | Str | "true" | "false" | "null" | "self"
abbrev pub plain_of : Class → Token → Expr
plain_of k.Number t = e.Number (digits_value 10 t.text) t.at
plain_of k.Str t = e.Str t.text t.at
plain_of k.True t = e.Bool true t.at
plain_of k.False t = e.Bool false t.at
plain_of k.Null t = e.Null t.at
plain_of _ t = e.Me t.at

abbrev pub plain : Parser Expr
plain = token_at is.plain >>= (λ t. pure (plain_of (class_of t) t))

-- "this" "." Id
abbrev pub own : Parser Expr
own = token_at is.this >>= (λ t. token_at is.dot >>= (λ _. token_at is.id >>= (λ name. pure (e.Own t.at (ident name)))))

-- a postfix that doesn't begin with an identifier or `this`
unfoldable pub closed_postfix : ℕ → Parser Expr → Parser Expr
closed_postfix d below =
    where_sees is.open_paren (opened d (paren d below))
    (where_sees is.new (opened d (token_at is.new >>= (λ t. after_new d below t.at)))
    (plain >>= (λ x. with_suffixes d below x [])))

-- a postfix that doesn't begin with an identifier
unfoldable pub other_postfix : ℕ → Parser Expr → Parser Expr
other_postfix d below = where_sees is.this (own >>= (λ x. with_suffixes d below x [])) (closed_postfix d below)

-- primary { "[" expr "]" | "." "length" } | newarray
unfoldable pub postfix : ℕ → Parser Expr → Parser Expr
postfix d below = where_sees is.id (token_at is.id >>= (λ t. after_name d below (ident t))) (other_postfix d below)

unfoldable pub unary_by : ℕ → Parser Expr → Parser Expr
unary_by d below = where_sees is.prefix (opened d (prefix below)) (postfix d below)

-- the number is how many constructs that count may still be opened inside one another
unfoldable pub unary : ℕ → Parser Expr
unary zero = unary_by zero too_deep
unary (suc d) = unary_by (suc d) (unary d)

unfoldable pub expr : ℕ → Parser Expr
expr d = expr_of (unary d)
