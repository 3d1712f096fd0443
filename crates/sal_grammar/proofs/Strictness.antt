-- Constructs that count take their first token.
use Rattle.std.proofs.Common.{ℕ, suc, List, [], refl, Option}
use Rattle.sal_ast.specs.declared.expression.Expr.{Expr}
use Rattle.sal_ast.specs.declared.expression.Expr.TheVariants as e
use Rattle.sal_ast.specs.declared.expression.Suffix.TheVariants as s
use Rattle.sal_ast.specs.declared.program.Ident.{Ident}
use Rattle.sal_grammar.specs.Tokens.{Token, Set, class_of}
use Rattle.sal_grammar.specs.Sets as is
use Rattle.sal_grammar.specs.Parsers.{Parser, ◌>>=◌, token_at}
use Rattle.sal_grammar.specs.Expressions.{ident, name_of, operand, level, sign_of, plain_of, level_of, sum_of, equal_of, expr_of, prefix, getter, paren, index, with_suffixes, after_new, closed_postfix, other_postfix, postfix, unary_by, unary, expr}
use Rattle.sal_grammar.proofs.Classes.{sub}
use Rattle.sal_grammar.proofs.GoodExpressions.{Operands, expr_of_good, with_suffixes_good, after_paren_good}
use Rattle.sal_grammar.proofs.GoodOperands.{after_name_good, after_new_good, unary_good}
use Rattle.sal_grammar.proofs.Wider.{Strict, good_fits, seq_fits, pure_fits, one_fits, closed_fits, many_fits, strict_seq, strict_then, strict_where, strict_less}

pub index_strict : {W : Expr → List Token → Type 0} {below : Parser Expr} → Operands W below → Strict is.open_bracket (index below)
unfolding index
index_strict g' = strict_then refl (λ t. closed_fits is.close_bracket (s.Index t.at) (good_fits (expr_of_good g')))

pub prefix_strict : {W : Expr → List Token → Type 0} {below : Parser Expr} → Operands W below → Strict is.prefix (prefix below)
unfolding prefix
prefix_strict g' = strict_then refl (λ t. seq_fits (good_fits g') (λ x. pure_fits (sign_of (class_of t) t.at x)))

pub getter_strict : {W : Expr → List Token → Type 0} {below : Parser Expr} (d : ℕ) → Operands W below → (at : ℕ) (cast : Option Ident) (n : Ident)
    → Strict is.getter (getter below at cast n >>= (λ x. with_suffixes d below x []))
unfolding getter
getter_strict d g' at cast n =
    strict_seq (strict_then refl (λ _. seq_fits (one_fits is.open_paren) (λ _. closed_fits is.close_paren (e.ByName at cast n) (good_fits (expr_of_good g')))))
    (λ x. good_fits (with_suffixes_good d (λ _. g') x []))

pub paren_strict : {W : Expr → List Token → Type 0} {below : Parser Expr} (d : ℕ) → Operands W below → Strict is.open_paren (paren d below)
unfolding paren
paren_strict d g' =
    strict_then refl (λ t. seq_fits (good_fits (expr_of_good g')) (λ x. seq_fits (one_fits is.close_paren) (λ _. good_fits (after_paren_good d g' t.at x (name_of x)))))

pub new_strict : {W : Expr → List Token → Type 0} {below : Parser Expr} (d : ℕ) → Operands W below → Strict is.new (token_at is.new >>= (λ t. after_new d below t.at))
new_strict d g' = strict_then refl (λ t. good_fits (after_new_good d g' t.at))

-- ---- an expression takes its first token where one construct is allowed

level_strict : {f : Set} (ops : Set) {below : Parser Expr} → Strict f below → Strict f (level_of ops below)
unfolding level_of
level_strict ops {below = below} h =
    strict_seq h (λ x. seq_fits (many_fits ops (seq_fits (one_fits ops) (λ t. seq_fits h.fits (λ y. pure_fits (operand t y))))) (λ os. pure_fits (level x os)))

sum_strict : {f : Set} {below : Parser Expr} → Strict f below → Strict f (sum_of below)
unfolding sum_of
sum_strict h = level_strict is.sum (level_strict is.product h)

equal_strict : {f : Set} {below : Parser Expr} → Strict f below → Strict f (equal_of below)
unfolding equal_of
equal_strict h = level_strict is.equal (level_strict is.relation (sum_strict h))

expr_of_strict : {f : Set} {below : Parser Expr} → Strict f below → Strict f (expr_of below)
unfolding expr_of
expr_of_strict h = level_strict is.or (level_strict is.and (equal_strict h))

closed_postfix_strict : (d : ℕ) → Strict is.first_closed (closed_postfix (suc d) (unary d))
unfolding closed_postfix
closed_postfix_strict d =
    strict_less (sub refl) (strict_where (paren_strict (suc d) (unary_good d)) (strict_where (new_strict (suc d) (unary_good d))
    (strict_seq (strict_then {is = is.plain} refl (λ t. pure_fits (plain_of (class_of t) t))) (λ x. good_fits (with_suffixes_good (suc d) (λ _. unary_good d) x [])))))

other_postfix_strict : (d : ℕ) → Strict is.first_other (other_postfix (suc d) (unary d))
unfolding other_postfix
other_postfix_strict d =
    strict_less (sub refl) (strict_where
    (strict_seq (strict_then {is = is.this} refl (λ t. seq_fits (one_fits is.dot) (λ _. seq_fits (one_fits is.id) (λ n. pure_fits (e.Own t.at (ident n))))))
    (λ x. good_fits (with_suffixes_good (suc d) (λ _. unary_good d) x [])))
    (closed_postfix_strict d))

unary_strict : (d : ℕ) → Strict is.first_expr (unary (suc d))
unfolding unary unary_by postfix
unary_strict d =
    strict_less (sub refl) (strict_where (prefix_strict (unary_good d))
    (strict_where (strict_then {is = is.id} refl (λ t. good_fits (after_name_good (suc d) (λ _. unary_good d) (ident t)))) (other_postfix_strict d)))

pub expr_strict : (d : ℕ) → Strict is.first_expr (expr (suc d))
unfolding expr
expr_strict d = expr_of_strict (unary_strict d)
