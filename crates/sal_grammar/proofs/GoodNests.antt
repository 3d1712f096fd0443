-- The parsers of statements that count, and of all statements, read their words exactly.
use Rattle.std.proofs.Common.{◌≡◌, inl, inr, ℕ, zero, suc, Bool, true, false, ◌&&◌, not, List, [], ◌∷◌, ◌++◌, refl, subst, sym, ◌∙◌, ap, Option, Some, None}
use Rattle.sal_ast.specs.declared.expression.Expr.{Expr}
use Rattle.sal_ast.specs.declared.expression.Suffix.{Suffix}
use Rattle.sal_ast.specs.declared.expression.Suffix.TheVariants as s
use Rattle.sal_ast.specs.declared.program.Ident.{Ident}
use Rattle.sal_ast.specs.declared.program.TypeName.{TypeName}
use Rattle.sal_ast.specs.declared.statement.Assign.{Assign}
use Rattle.sal_ast.specs.declared.statement.ForInit.{ForInit}
use Rattle.sal_ast.specs.declared.statement.ForInit.TheVariants as init
use Rattle.sal_ast.specs.declared.statement.Stmt.{Stmt}
use Rattle.sal_ast.specs.declared.statement.Stmt.TheVariants as form
use Rattle.sal_grammar.specs.declared.class.Class.TheVariants as k
use Rattle.sal_grammar.specs.Tokens.{Token, Set, none, both}
use Rattle.sal_grammar.specs.Sets as is
use Rattle.sal_grammar.specs.Parsers.{Parser, ◌>>=◌, pure}
use Rattle.sal_ast.proofs.RegularEquations.{regular-While, regular-For, regular-If}
use Rattle.sal_grammar.specs.Expressions.{ident, type_of}
use Rattle.sal_grammar.specs.Statements.{one_less, assign_init, typed_init, bracket_init, name_init, for_init, assignment, for_next, block, or_else, if_stmt, while_stmt, for_stmt, nested, other_chain, stmt_by, stmt}
use Rattle.sal_grammar.proofs.Languages.{Seq, One, Just}
use Rattle.sal_grammar.proofs.Exactness.{Apart, Within, differ, Starts, Good, seq_good, seq_good_empty}
use Rattle.sal_grammar.proofs.Classes.{dis, sub}
use Rattle.sal_grammar.proofs.Choices.{nothing, pure_good, first_good, any_before, where_good, counted_good, last_counted_good, guarded_good, only_if, Positive}
use Rattle.sal_grammar.proofs.Steps.{self, no, free, least, done, then_good, map_good, closed_good}
use Rattle.sal_grammar.proofs.GoodExpressions.{pairs_good}
use Rattle.sal_grammar.proofs.GoodOperands.{closed_postfix_good, expr_good}
use Rattle.sal_grammar.proofs.GoodParts.{goes, Statements, name_good, below_good, declare_good, assigned_good, assign_rest_good, until_semicolon_good, test_good, body_of_good, join_good, output_good}
use Rattle.sal_grammar.proofs.GoodStatements.{complete, made, chained, no_else-Empty, no_else-Return, no_else-Block, typed_stmt_good, name_stmt_good, this_stmt_good, token_stmt_good, sent_stmt_good}
use Rattle.sal_grammar.proofs.StatementWords.{takes_else, AssignInitWord, TypedInitWord, BracketInitWord, NameInitWord, ForInitWord, AssignmentWord, ForNextWord, BlockWord, OrElseWord, IfStmtWord, WhileStmtWord, ForStmtWord, NestedWord, OtherChainWord, StmtByWord, StmtWord}

-- ---- the parentheses of a `for`

pub assign_init_good : {pre : Set} (d : ℕ) (own : Bool) (n : Ident) (found : List Suffix)
    → Good pre (both is.open_bracket is.assign) false (AssignInitWord d own n found) nothing (assign_init d own n found)
unfolding AssignInitWord assign_init
assign_init_good d own n found = closed_good k.Semicolon refl refl (dis refl) init.Assign (assign_rest_good d own n found)

typed_init_good : {pre : Set} (d : ℕ) (sort : TypeName) → Good pre is.id false (TypedInitWord d sort) nothing (typed_init d sort)
unfolding TypedInitWord typed_init
typed_init_good d sort = map_good init.Declare (declare_good d sort)

bracket_init_good : {pre : Set} (d : ℕ) (t : Token) (at : ℕ) → Good pre (both is.close_bracket is.first_expr) false (BracketInitWord d t at) nothing (bracket_init d t at)
unfolding BracketInitWord bracket_init
bracket_init_good d t at =
    last_counted_good d (then_good k.CloseBracket refl refl (λ _. seq_good_empty pairs_good (λ n. typed_init_good d (type_of t (suc n))) (λ n. dis refl) tt))
    (λ p. seq_good (expr_good (one_less d)) (λ x. then_good k.CloseBracket refl refl (λ _. assign_init_good d false (ident t) (s.Index at x ∷ []))) (λ x. dis refl) tt)
    self (dis refl) self

name_init_good : {pre : Set} (d : ℕ) (t : Token) → Good pre (both is.id (both is.open_bracket is.assign)) false (NameInitWord d t) nothing (name_init d t)
unfolding NameInitWord name_init
name_init_good d t =
    where_good {pre' = none} (typed_init_good d (type_of t 0))
    (where_good {pre' = none} (then_good k.OpenBracket refl refl (λ b. bracket_init_good d t b.at))
    (closed_good k.Semicolon refl refl (dis refl) init.Assign (assigned_good d false (ident t) []))
    self (dis refl) least tt)
    self (dis refl) least tt

pub for_init_good : {pre : Set} (d : ℕ) → Good pre (both is.id (both is.sort_word (both is.this is.semicolon))) false (ForInitWord d) nothing (for_init d)
unfolding ForInitWord for_init
for_init_good d =
    where_good {pre' = none} (then_good k.Id refl refl (λ t. name_init_good d t))
    (where_good {pre' = none} (then_good k.Int refl refl (λ t. seq_good_empty pairs_good (λ n. typed_init_good d (type_of t n)) (λ n. dis refl) tt))
    (where_good {pre' = none}
    (then_good k.This refl refl (λ _. then_good k.Dot refl refl (λ _. seq_good name_good (λ n. assign_init_good d true n []) (λ n. free) tt)))
    (then_good k.Semicolon refl refl (λ _. done init.Nothing))
    self (dis refl) least tt)
    self (dis refl) least tt)
    self (dis refl) least tt

assignment_good : {pre : Set} (d : ℕ) → Good pre (both is.this is.id) false (AssignmentWord d) (λ _. is.after_expr) (assignment d)
unfolding AssignmentWord assignment
assignment_good d =
    where_good {pre' = none}
    (then_good k.This refl refl (λ _. then_good k.Dot refl refl (λ _. seq_good name_good (λ n. assign_rest_good d true n []) (λ n. free) tt)))
    (seq_good name_good (λ n. assign_rest_good d false n []) (λ n. free) tt) self (dis refl) least tt

pub for_next_good : {pre : Set} (d : ℕ) → Good pre (both is.close_paren (both is.this is.id)) false (ForNextWord d) nothing (for_next d)
unfolding ForNextWord for_next
for_next_good d =
    where_good {pre' = none} (then_good k.CloseParen refl refl (λ _. done None))
    (closed_good k.CloseParen refl refl (dis refl) Some (assignment_good d)) self (dis refl) least tt

-- ---- statements that end in a statement

same_goes : (s r : Stmt) → takes_else s ≡ takes_else r → Within (goes s) (goes r)
same_goes s r e = record { at = λ c h. ap (λ z. z && is.else_word c) (sym e) ∙ h }

-- a statement that ends in the one that is read
ending : {pre first : Set} {W : Stmt → List Token → Type 0} {p : Parser Stmt} (f : Stmt → Stmt) → ((s : Stmt) → takes_else (f s) ≡ takes_else s)
    → Good pre first false W goes p → Good pre first false (Seq W (λ s. Just (f s))) goes (p >>= (λ s. pure (f s)))
ending f e g = seq_good g (λ s. pure_good (f s) (same_goes (f s) s (e s))) (λ s. no) (λ s r v. same_goes s r (sym (e s) ∙ ap takes_else v.same))

while_takes : (at : ℕ) (x : Expr) (body : Stmt) → takes_else (form.While at x body) ≡ takes_else body
while_takes at x body = ap (λ z. z.takes_else) (regular-While at x body)

for_takes : (at : ℕ) (first : ForInit) (x : Option Expr) (after : Option Assign) (body : Stmt) → takes_else (form.For at first x after body) ≡ takes_else body
for_takes at first x after body = ap (λ z. z.takes_else) (regular-For at first x after body)

else_takes : (at : ℕ) (x : Expr) (first other : Stmt) → takes_else (form.If at x first (Some other)) ≡ takes_else other
else_takes at x first other = ap (λ z. z.takes_else) (regular-If at x first (Some other))

if_takes : (at : ℕ) (x : Expr) (first : Stmt) → takes_else (form.If at x first None) ≡ true
if_takes at x first = ap (λ z. z.takes_else) (regular-If at x first None)

block_good : {pre : Set} {W : Stmt → List Token → Type 0} {stmt : Parser Stmt} → Statements W stmt → Good pre is.open_brace false (BlockWord W) goes (block stmt)
unfolding BlockWord block
block_good g' = then_good k.OpenBrace refl refl (λ t. made (λ list. form.Block t.at list) (no_else-Block t.at) (body_of_good g'))

while_good : {pre : Set} {W : Stmt → List Token → Type 0} {stmt : Parser Stmt} (d : ℕ) → Statements W stmt → Good pre is.while_word false (WhileStmtWord d W) goes (while_stmt d stmt)
unfolding WhileStmtWord while_stmt
while_good d g' =
    then_good k.While refl refl (λ t. seq_good (test_good d) (λ x. any_before (ending (λ body. form.While t.at x body) (while_takes t.at x) g')) (λ x. free) tt)

for_good : {pre : Set} {W : Stmt → List Token → Type 0} {stmt : Parser Stmt} (d : ℕ) → Statements W stmt → Good pre is.for_word false (ForStmtWord d W) goes (for_stmt d stmt)
unfolding ForStmtWord for_stmt
for_good d g' =
    then_good k.For refl refl (λ t. then_good k.OpenParen refl refl (λ _. seq_good (for_init_good d) (λ first. seq_good (until_semicolon_good d) (λ x.
    seq_good (for_next_good d) (λ next. any_before (ending (λ body. form.For t.at first x next body) (for_takes t.at first x next) g')) (λ next. free) tt) (λ x. free) tt) (λ first. free) tt))

-- ---- if and else

goes_open : (s : Stmt) → takes_else s ≡ true → Within (goes s) is.else_word
goes_open s e = record { at = λ c h. ap (λ z. z && is.else_word c) (sym e) ∙ h }

part_open : (s r : Stmt) → takes_else r ≡ true → Within is.else_word (goes r)
part_open s r e = record { at = λ c h. ap (λ z. z && is.else_word c) e ∙ h }

or_else_good : {W : Stmt → List Token → Type 0} {stmt : Parser Stmt} → Statements W stmt → (at : ℕ) (x : Expr) (first : Stmt)
    → Good (goes first) (both (only_if (not (takes_else first)) is.else_word) none) true (OrElseWord W at x first) goes (or_else stmt at x first)
unfolding OrElseWord or_else
or_else_good g' at x first =
    guarded_good (takes_else first)
    (then_good k.Else refl refl (λ _. ending (λ other. form.If at x first (Some other)) (else_takes at x first) g'))
    (pure_good (form.If at x first None) (goes_open (form.If at x first None) (if_takes at x first)))
    self no (λ r v. part_open first r (ap takes_else (sym v.same) ∙ if_takes at x first))

apart_else : (b : Bool) → Apart (both (only_if (not b) is.else_word) none) (only_if b is.else_word)
apart_else true = record { at = λ c e. absurd (differ (sym e)) }
apart_else false = record { at = λ c e. refl }

and_right : (a b : Bool) → a && b ≡ true → b ≡ true
and_right true b e = e
and_right false b e = absurd (differ (sym e))

into_open : (s r : Stmt) → takes_else r ≡ true → Within (goes s) (goes r)
into_open s r e = record { at = λ c h. ap (λ z. z && is.else_word c) e ∙ and_right (takes_else s) (is.else_word c) h }

starts_with : (f : Set) (u v : List Token) → Starts f false u → Starts f false (u ++ v)
starts_with f [] v h = absurd (differ (sym h))
starts_with f (t ∷ u) v h = h

not_empty : {C : Type 0} (f : Set) (V : Token → C → List Token → Type 0) (c : C) → Seq (One f) V c [] → ⊥
not_empty f V c x =
    let h : Starts f false [] = subst (λ z. Starts f false z) x.joined (starts_with f x.left x.right (subst (λ z. Starts f false z) x.first.alone x.first.fits)) in
    differ (sym h)

or_else_ends : (W : Stmt → List Token → Type 0) (at : ℕ) (x : Expr) (first r : Stmt) → OrElseWord W at x first r [] → Within (goes first) (goes r)
unfolding OrElseWord
or_else_ends W at x first r (inl v) = absurd (not_empty is.else_word _ r v.word)
or_else_ends W at x first r (inr v) = into_open first r (ap takes_else (sym v.same) ∙ if_takes at x first)

if_good : {pre : Set} {W : Stmt → List Token → Type 0} {stmt : Parser Stmt} (d : ℕ) → Statements W stmt → Good pre is.if_word false (IfStmtWord d W) goes (if_stmt d stmt)
unfolding IfStmtWord if_stmt
if_good {W = W} d g' =
    then_good k.If refl refl (λ t. seq_good (test_good d)
    (λ x. any_before (seq_good g' (λ first. or_else_good g' t.at x first) (λ first. apart_else (takes_else first)) (λ first r v. or_else_ends W t.at x first r v))) (λ x. free) tt)

pub nested_good : {pre : Set} {W : Stmt → List Token → Type 0} {stmt : Parser Stmt} (d : ℕ) → Statements W stmt → Good pre is.nest false (NestedWord d W) goes (nested d stmt)
unfolding NestedWord nested
nested_good d g' =
    first_good (where_good {pre' = none} (block_good g')
    (where_good {pre' = none} (if_good d g')
    (where_good {pre' = none} (while_good d g') (for_good d g') self (dis refl) least tt)
    self (dis refl) least tt)
    self (dis refl) least tt) (sub refl)

-- ---- statements

other_chain_good : {pre : Set} {W : Stmt → List Token → Type 0} {stmt : Parser Stmt} (d : ℕ) → (Positive d → Statements W stmt)
    → Good pre (both is.join (both is.output is.first_closed)) false (OtherChainWord d W) goes (other_chain d stmt)
unfolding OtherChainWord other_chain
other_chain_good d g' =
    counted_good {pre' = none} d (λ p. chained d g' (join_good (g' p)))
    (where_good {pre' = none} (chained d g' (output_good d))
    (seq_good (closed_postfix_good d (λ p. below_good d)) (λ x. sent_stmt_good d g' x) (λ x. dis refl) tt)
    self (dis refl) least tt)
    self (dis refl) least tt

stmt_by_good : {W : Stmt → List Token → Type 0} {stmt : Parser Stmt} (d : ℕ) → (Positive d → Statements W stmt) → Statements (StmtByWord d W) (stmt_by d stmt)
unfolding StmtByWord stmt_by
stmt_by_good d g' =
    first_good (where_good {pre' = none} (then_good k.Id refl refl (λ t. name_stmt_good d g' t))
    (counted_good {pre' = none} d (λ p. nested_good (one_less d) (g' p))
    (where_good {pre' = none} (then_good k.Int refl refl (λ t. seq_good_empty pairs_good (λ n. typed_stmt_good d (type_of t n)) (λ n. dis refl) tt))
    (where_good {pre' = none} (then_good k.Semicolon refl refl (λ t. complete (form.Empty t.at) (no_else-Empty t.at)))
    (where_good {pre' = none} (then_good k.Return refl refl (λ t. made (λ x. form.Return t.at x) (no_else-Return t.at) (until_semicolon_good d)))
    (where_good {pre' = none} (token_stmt_good d g')
    (where_good {pre' = none} (this_stmt_good d g') (other_chain_good d g') self (dis refl) least tt)
    self (dis refl) least tt)
    self (dis refl) least tt)
    self (dis refl) least tt)
    self (dis refl) least tt)
    self (dis refl) least tt)
    self (dis refl) least tt) (sub refl)

pub stmt_good : (d : ℕ) → Statements (StmtWord d) (stmt d)
unfolding StmtWord stmt
stmt_good zero = stmt_by_good zero (λ p. absurd p)
stmt_good (suc d) = stmt_by_good (suc d) (λ p. stmt_good d)
