-- The levels of operators by their ranks.
use Rattle.std.specs.Prelude.{ℕ, List, Option, Some, None, ◌||◌}
use Rattle.sal_ast.specs.declared.expression.Expr.{Expr}
use Rattle.sal_ast.specs.declared.expression.Operand.{Operand}
use Rattle.sal_expressions.specs.declared.rank.Rank.{Rank}
use Rattle.sal_expressions.specs.declared.rank.Rank.TheVariants as rank
use Rattle.sal_grammar.specs.Expressions.{operand_of, level, level_of, sum_of, equal_of}
use Rattle.sal_grammar.specs.Parsers.{Parser, ◌>>=◌, pure, many}
use Rattle.sal_grammar.specs.Sets as is
use Rattle.sal_grammar.specs.Tokens.{Set}

abbrev pub operators_of : Rank → Set
operators_of rank.Or = is.or
operators_of rank.And = is.and
operators_of rank.Equal = is.equal
operators_of rank.Relation = is.relation
operators_of rank.Sum = is.sum
operators_of rank.Product = is.product

abbrev pub tighter_rank : Rank → Option Rank
tighter_rank rank.Or = Some rank.And
tighter_rank rank.And = Some rank.Equal
tighter_rank rank.Equal = Some rank.Relation
tighter_rank rank.Relation = Some rank.Sum
tighter_rank rank.Sum = Some rank.Product
tighter_rank rank.Product = None

-- how many ranks are as tight
abbrev pub height : Rank → ℕ
height rank.Or = 6
height rank.And = 5
height rank.Equal = 4
height rank.Relation = 3
height rank.Sum = 2
height rank.Product = 1

-- what stands between the operators of a rank
unfoldable pub tighter_at : Rank → Parser Expr → Parser Expr
tighter_at rank.Or unary = level_of is.and (equal_of unary)
tighter_at rank.And unary = equal_of unary
tighter_at rank.Equal unary = level_of is.relation (sum_of unary)
tighter_at rank.Relation unary = sum_of unary
tighter_at rank.Sum unary = level_of is.product unary
tighter_at rank.Product unary = unary

unfoldable pub operand_at : Rank → Parser Expr → Parser Operand
operand_at r unary = operand_of (operators_of r) (tighter_at r unary)

unfoldable pub operands_at : Rank → Parser Expr → Parser (List Operand)
operands_at r unary = many (operators_of r) (operand_at r unary)

unfoldable pub level_at : Rank → Parser Expr → Parser Expr
level_at r unary = level_of (operators_of r) (tighter_at r unary)

-- ---- after an operand

abbrev pub sum_binds : Set
sum_binds k = is.sum k || is.product k

abbrev pub relation_binds : Set
relation_binds k = is.relation k || sum_binds k

abbrev pub equal_binds : Set
equal_binds k = is.equal k || relation_binds k

abbrev pub and_binds : Set
and_binds k = is.and k || equal_binds k

abbrev pub or_binds : Set
or_binds k = is.or k || and_binds k

-- the operators of a rank and of the tighter ones
abbrev pub binds : Rank → Set
binds rank.Or k = or_binds k
binds rank.And k = and_binds k
binds rank.Equal k = equal_binds k
binds rank.Relation k = relation_binds k
binds rank.Sum k = sum_binds k
binds rank.Product k = is.product k

-- what comes after an operand in one rank, given what comes in the tighter ones
abbrev pub goes_on : Set → Parser Expr → (Expr → Parser Expr) → Expr → Parser Expr
goes_on ops below tighter x = tighter x >>= (λ y. many ops (operand_of ops below) >>= (λ os. pure (level y os)))

unfoldable pub after_product : Parser Expr → Expr → Parser Expr
after_product unary = goes_on is.product unary pure

unfoldable pub after_sum : Parser Expr → Expr → Parser Expr
after_sum unary = goes_on is.sum (level_of is.product unary) (after_product unary)

unfoldable pub after_relation : Parser Expr → Expr → Parser Expr
after_relation unary = goes_on is.relation (sum_of unary) (after_sum unary)

unfoldable pub after_equal : Parser Expr → Expr → Parser Expr
after_equal unary = goes_on is.equal (level_of is.relation (sum_of unary)) (after_relation unary)

unfoldable pub after_and : Parser Expr → Expr → Parser Expr
after_and unary = goes_on is.and (equal_of unary) (after_equal unary)

-- what comes after an operand in the ranks that bind tighter than this one
unfoldable pub after_tighter_at : Rank → Parser Expr → Expr → Parser Expr
after_tighter_at rank.Or unary = after_and unary
after_tighter_at rank.And unary = after_equal unary
after_tighter_at rank.Equal unary = after_relation unary
after_tighter_at rank.Relation unary = after_sum unary
after_tighter_at rank.Sum unary = after_product unary
after_tighter_at rank.Product unary = pure

-- the same, and in this rank
unfoldable pub after_at : Rank → Parser Expr → Expr → Parser Expr
after_at r unary x = after_tighter_at r unary x >>= (λ y. operands_at r unary >>= (λ os. pure (level y os)))
