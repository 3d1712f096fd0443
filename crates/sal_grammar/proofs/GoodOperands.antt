-- The parsers of operands at a depth read their words exactly.
use Rattle.std.proofs.Common.{ℕ, zero, suc, true, false, List, [], ◌∷◌, refl, None}
use Rattle.sal_ast.specs.declared.expression.Expr.{Expr}
use Rattle.sal_ast.specs.declared.expression.Expr.TheVariants as e
use Rattle.sal_ast.specs.declared.expression.Suffix.TheVariants as s
use Rattle.sal_ast.specs.declared.program.Ident.{Ident}
use Rattle.sal_grammar.specs.declared.class.Class.TheVariants as k
use Rattle.sal_grammar.specs.Tokens.{Token, Set, class_of, none, both}
use Rattle.sal_grammar.specs.Sets as is
use Rattle.sal_grammar.specs.Parsers.{Parser}
use Rattle.sal_grammar.specs.Expressions.{ident, after_dot, after_name, after_new, plain_of, plain, own, closed_postfix, other_postfix, postfix, unary_by, unary, expr}
use Rattle.sal_grammar.proofs.Languages.{Unless}
use Rattle.sal_grammar.proofs.Exactness.{Begun, Good, seq_good}
use Rattle.sal_grammar.proofs.Classes.{dis, sub}
use Rattle.sal_grammar.proofs.Choices.{nothing, but_good, first_good, any_before, where_good, counted_good, Positive}
use Rattle.sal_grammar.proofs.Steps.{self, free, least, second_in, done, then_good}
use Rattle.sal_grammar.proofs.GoodExpressions.{Operands, expr_of_good, prefix_good, getter_good, with_suffixes_good, paren_good, new_actor_good, new_array_good}
use Rattle.sal_grammar.proofs.ExpressionWords.{SuffixesWord, WithSuffixesWord, AfterDotWord, AfterNameWord, AfterNewWord, PlainWord, OwnWord, ClosedPostfixWord, OtherPostfixWord, PostfixWord, UnaryByWord, UnaryWord, ExprWord}

pub after_dot_good : {pre : Set} {W : Expr → List Token → Type 0} {below : Parser Expr} (d : ℕ) → (Positive d → Operands W below) → (name : Ident) (at : ℕ)
    → Good pre (both is.getter is.length) false (AfterDotWord d W name at) (λ _. is.after_unary) (after_dot d below name at)
unfolding AfterDotWord after_dot
after_dot_good d g name at =
    counted_good {pre' = none} d
    (λ p. seq_good (getter_good (g p) name.at None name) (λ x. with_suffixes_good d g x []) (λ x. free) (λ x y v. least))
    (then_good k.Length refl refl (λ _. with_suffixes_good d g (e.Name name) (s.Length at ∷ []))) self (dis refl) least tt

bare : (W : Expr → List Token → Type 0) (d : ℕ) (x : Expr) → Begun (Unless is.dot (WithSuffixesWord d W x [])) []
unfolding WithSuffixesWord SuffixesWord
bare W d x = record { item = x; more = []; legal = refl; holds = record { word = record { item = []; left = []; right = []; first = refl; second = record { same = refl; empty = refl }; joined = refl }; other = refl } }

pub after_name_good : {pre : Set} {W : Expr → List Token → Type 0} {below : Parser Expr} (d : ℕ) → (Positive d → Operands W below) → (name : Ident)
    → Good pre is.suffix true (AfterNameWord d W name) (λ _. is.after_unary) (after_name d below name)
unfolding AfterNameWord after_name
after_name_good {pre = pre} d g name =
    any_before (first_good (where_good {pre = none} {pre' = is.dot} (then_good k.Dot refl refl (λ t. after_dot_good d g name t.at))
    (but_good (with_suffixes_good d g (e.Name name) []) refl (bare _ d (e.Name name))) self (dis refl) (second_in none) (λ x v. sub refl)) (sub refl))

-- ---- primary expressions that begin otherwise

pub after_new_good : {pre : Set} {W : Expr → List Token → Type 0} {below : Parser Expr} (d : ℕ) → Operands W below → (at : ℕ)
    → Good pre is.sort false (AfterNewWord d W at) (λ _. is.after_unary) (after_new d below at)
unfolding AfterNewWord after_new
after_new_good d g at =
    first_good (where_good {pre' = none}
    (then_good k.Id refl refl (λ t. where_good {pre' = none} (new_actor_good d g at (ident t)) (new_array_good g at t) self (dis refl) least tt))
    (then_good k.Int refl refl (λ t. new_array_good g at t)) self (dis refl) least tt) (sub refl)

plain_good : {pre : Set} → Good pre is.plain false PlainWord nothing plain
plain_good = then_good k.Number refl refl (λ t. done (plain_of (class_of t) t))

own_good : {pre : Set} → Good pre is.this false OwnWord nothing own
own_good = then_good k.This refl refl (λ t. then_good k.Dot refl refl (λ _. then_good k.Id refl refl (λ name. done (e.Own t.at (ident name)))))

pub closed_postfix_good : {pre : Set} {W : Expr → List Token → Type 0} {below : Parser Expr} (d : ℕ) → (Positive d → Operands W below)
    → Good pre is.first_closed false (ClosedPostfixWord d W) (λ _. is.after_unary) (closed_postfix d below)
unfolding ClosedPostfixWord closed_postfix
closed_postfix_good d g =
    first_good (counted_good {pre' = none} d (λ p. paren_good d (g p))
    (counted_good {pre' = none} d (λ p. then_good k.New refl refl (λ t. after_new_good d (g p) t.at))
    (seq_good plain_good (λ x. with_suffixes_good d g x []) (λ x. free) (λ x y v. least)) self (dis refl) least tt)
    self (dis refl) least tt) (sub refl)

pub other_postfix_good : {pre : Set} {W : Expr → List Token → Type 0} {below : Parser Expr} (d : ℕ) → (Positive d → Operands W below)
    → Good pre is.first_other false (OtherPostfixWord d W) (λ _. is.after_unary) (other_postfix d below)
unfolding OtherPostfixWord other_postfix
other_postfix_good d g =
    first_good (where_good {pre' = none} (seq_good own_good (λ x. with_suffixes_good d g x []) (λ x. free) (λ x y v. least)) (closed_postfix_good d g) self (dis refl) least tt) (sub refl)

pub postfix_good : {pre : Set} {W : Expr → List Token → Type 0} {below : Parser Expr} (d : ℕ) → (Positive d → Operands W below)
    → Good pre is.first_postfix false (PostfixWord d W) (λ _. is.after_unary) (postfix d below)
unfolding PostfixWord postfix
postfix_good d g =
    first_good (where_good {pre' = none} (then_good k.Id refl refl (λ t. after_name_good d g (ident t))) (other_postfix_good d g) self (dis refl) least tt) (sub refl)

unary_by_good : {W : Expr → List Token → Type 0} {below : Parser Expr} (d : ℕ) → (Positive d → Operands W below) → Operands (UnaryByWord d W) (unary_by d below)
unfolding UnaryByWord unary_by
unary_by_good d g = first_good (counted_good {pre' = none} d (λ p. prefix_good (g p)) (postfix_good d g) self (dis refl) least tt) (sub refl)

pub unary_good : (d : ℕ) → Operands (UnaryWord d) (unary d)
unfolding UnaryWord unary
unary_good zero = unary_by_good zero (λ p. absurd p)
unary_good (suc d) = unary_by_good (suc d) (λ p. unary_good d)

pub expr_good : {pre : Set} (d : ℕ) → Good pre is.first_expr false (ExprWord d) (λ _. is.after_expr) (expr d)
unfolding ExprWord expr
expr_good d = any_before (expr_of_good (unary_good d))
