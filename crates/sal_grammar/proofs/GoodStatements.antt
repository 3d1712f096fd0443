-- The parsers of statements read their words exactly.
use Rattle.std.proofs.Common.{◌≡◌, ℕ, suc, Bool, true, false, ◌&&◌, List, [], ◌∷◌, ◌++◌, refl, sym, ◌∙◌, ap, Option, Some, None}
use Rattle.sal_ast.specs.declared.expression.Expr.{Expr}
use Rattle.sal_ast.specs.declared.expression.Expr.TheVariants as e
use Rattle.sal_ast.specs.declared.expression.Suffix.{Suffix}
use Rattle.sal_ast.specs.declared.expression.Suffix.TheVariants as s
use Rattle.sal_ast.specs.declared.program.Ident.{Ident}
use Rattle.sal_ast.specs.declared.program.TypeName.{TypeName}
use Rattle.sal_ast.specs.declared.statement.Aim.TheVariants as aim
use Rattle.sal_ast.specs.declared.statement.Assign.{Assign}
use Rattle.sal_ast.specs.declared.statement.Chain.{Chain}
use Rattle.sal_ast.specs.declared.statement.Declare.{Declare}
use Rattle.sal_ast.specs.declared.statement.Stage.{Stage}
use Rattle.sal_ast.specs.declared.statement.Stmt.{Stmt}
use Rattle.sal_ast.specs.declared.statement.Stmt.TheVariants as form
use Rattle.sal_grammar.specs.declared.class.Class.TheVariants as k
use Rattle.sal_grammar.specs.Tokens.{Token, Set, none, both}
use Rattle.sal_grammar.specs.Sets as is
use Rattle.sal_grammar.specs.Parsers.{Parser, ◌>>=◌, pure, token_at}
use Rattle.sal_ast.proofs.RegularEquations.{regular-Empty, regular-Block, regular-Declare, regular-Assign, regular-Return, regular-Token, regular-Chain}
use Rattle.sal_grammar.specs.Expressions.{ident, type_of, suffixed}
use Rattle.sal_grammar.specs.Statements.{one_less, all_indexes, chain, is_own, variable, chain_stmt, token_stmt, sent_stmt, assigned_stmt, assign_or_send, after_variable, this_stmt, indexed_stmt, typed_stmt, bracket_stmt, dotted_name, name_stmt}
use Rattle.sal_grammar.proofs.Languages.{Seq, One, Just}
use Rattle.sal_grammar.proofs.Exactness.{Apart, Within, differ, Good, seq_good, seq_good_empty}
use Rattle.sal_grammar.proofs.Classes.{dis, sub}
use Rattle.sal_grammar.proofs.Choices.{nothing, pure_good, unless_good, first_good, any_before, where_good, last_counted_good, Positive}
use Rattle.sal_grammar.proofs.Lists.{list_good}
use Rattle.sal_grammar.proofs.Steps.{self, no, free, least, drop_none, second_in, then_good}
use Rattle.sal_grammar.proofs.GoodExpressions.{suffixes_good, pairs_good}
use Rattle.sal_grammar.proofs.GoodOperands.{after_dot_good, expr_good}
use Rattle.sal_grammar.proofs.GoodParts.{goes, Statements, name_good, below_good, declare_good, assigned_good, message_good, send_to_good, stage_by_good}
use Rattle.sal_grammar.proofs.GoodTail.{tail_good}
use Rattle.sal_grammar.proofs.StatementWords.{takes_else, ChainStmtWord, TokenStmtWord, SentStmtWord, AssignedStmtWord, AssignOrSendWord, AfterVariableWord, ThisStmtWord, IndexedStmtWord, TypedStmtWord, BracketStmtWord, DottedNameWord, NameStmtWord}

-- ---- statements after which no `else` can go on

closed_form : (s : Stmt) → takes_else s ≡ false → Within (goes s) none
closed_form s e = record { at = λ c h. absurd (differ (sym h ∙ ap (λ z. z && is.else_word c) e)) }

pub complete : {pre : Set} (s : Stmt) → takes_else s ≡ false → Good pre none true (Just s) goes (pure s)
complete s e = any_before (pure_good s (closed_form s e))

-- a statement that is a function of what is read
pub made : {A : Type 0} {pre first : Set} {W : A → List Token → Type 0} {p : Parser A} (f : A → Stmt) → ((a : A) → takes_else (f a) ≡ false)
    → Good pre first false W nothing p → Good pre first false (Seq W (λ x. Just (f x))) goes (p >>= (λ x. pure (f x)))
made f e g = seq_good g (λ a. complete (f a) (e a)) (λ a. no) (λ a c v. least)

-- and then a `;`
pub made_until : {A : Type 0} {pre first m : Set} {W : A → List Token → Type 0} {p : Parser A} (f : A → Stmt) → ((a : A) → takes_else (f a) ≡ false) → Apart is.semicolon m
    → Good pre first false W (λ _. m) p → Good pre first false (Seq W (λ x. Seq (One is.semicolon) (λ _. Just (f x)))) goes (p >>= (λ x. token_at is.semicolon >>= (λ _. pure (f x))))
made_until f e ap' g = seq_good g (λ x. then_good k.Semicolon refl refl (λ _. complete (f x) (e x))) (λ x. ap') tt

pub no_else-Chain : (c : Chain) (passed : Option ℕ) → takes_else (form.Chain c passed) ≡ false
no_else-Chain c passed = ap (λ z. z.takes_else) (regular-Chain c passed)

pub no_else-Token : (at : ℕ) (n : Ident) (c : Chain) → takes_else (form.Token at n c) ≡ false
no_else-Token at n c = ap (λ z. z.takes_else) (regular-Token at n c)

pub no_else-Assign : (a : Assign) → takes_else (form.Assign a) ≡ false
no_else-Assign a = ap (λ z. z.takes_else) (regular-Assign a)

pub no_else-Declare : (d : Declare) → takes_else (form.Declare d) ≡ false
no_else-Declare d = ap (λ z. z.takes_else) (regular-Declare d)

pub no_else-Empty : (at : ℕ) → takes_else (form.Empty at) ≡ false
no_else-Empty at = ap (λ z. z.takes_else) (regular-Empty at)

pub no_else-Return : (at : ℕ) (x : Option Expr) → takes_else (form.Return at x) ≡ false
no_else-Return at x = ap (λ z. z.takes_else) (regular-Return at x)

pub no_else-Block : (at : ℕ) (list : List Stmt) → takes_else (form.Block at list) ≡ false
no_else-Block at list = ap (λ z. z.takes_else) (regular-Block at list)

-- ---- chains

pub chain_stmt_good : {pre : Set} {W : Stmt → List Token → Type 0} {stmt : Parser Stmt} (d : ℕ) → (Positive d → Statements W stmt) → (first : Stage)
    → Good pre (both is.then_sign is.semicolon) false (ChainStmtWord d W first) goes (chain_stmt d stmt first)
unfolding ChainStmtWord chain_stmt
chain_stmt_good d g' first =
    made (λ t. form.Chain (chain first t.stages) t.passed) (λ t. no_else-Chain (chain first t.stages) t.passed)
    (tail_good (stage_by_good d g') (dis refl) (dis refl) (dis refl))

-- a stage and the rest of its chain
pub chained : {pre first : Set} {W : Stmt → List Token → Type 0} {stmt : Parser Stmt} {V : Stage → List Token → Type 0} {p : Parser Stage} (d : ℕ) → (Positive d → Statements W stmt)
    → Good pre first false V (λ _. is.colon) p → Good pre first false (Seq V (ChainStmtWord d W)) goes (p >>= chain_stmt d stmt)
chained d g' g = seq_good g (λ s. chain_stmt_good d g' s) (λ s. dis refl) tt

pub token_stmt_good : {pre : Set} {W : Stmt → List Token → Type 0} {stmt : Parser Stmt} (d : ℕ) → (Positive d → Statements W stmt)
    → Good pre is.token false (TokenStmtWord d W) goes (token_stmt d stmt)
unfolding TokenStmtWord token_stmt
token_stmt_good d g' =
    then_good k.Token refl refl (λ t. seq_good name_good (λ n. then_good k.Assign refl refl (λ _. seq_good (stage_by_good d g')
    (λ first. seq_good_empty (list_good {m = is.colon} (then_good k.Then refl refl (λ _. stage_by_good d g')) self (dis refl) refl)
    (λ others. then_good k.Semicolon refl refl (λ _. complete (form.Token t.at n (chain first others)) (no_else-Token t.at n (chain first others)))) (λ others. dis refl) tt)
    (λ first. dis refl) tt)) (λ n. free) tt)

-- ---- statements that begin with a variable

pub sent_stmt_good : {pre : Set} {W : Stmt → List Token → Type 0} {stmt : Parser Stmt} (d : ℕ) → (Positive d → Statements W stmt) → (x : Expr)
    → Good pre is.arrow false (SentStmtWord d W x) goes (sent_stmt d stmt x)
unfolding SentStmtWord sent_stmt
sent_stmt_good d g' x = chained d g' (send_to_good d (aim.Actor x))

pub assigned_stmt_good : {pre : Set} (d : ℕ) (own : Bool) (n : Ident) (found : List Suffix) → Good pre is.assign false (AssignedStmtWord d own n found) goes (assigned_stmt d own n found)
unfolding AssignedStmtWord assigned_stmt
assigned_stmt_good d own n found = made_until form.Assign no_else-Assign (dis refl) (assigned_good d own n found)

assign_or_send_good : {pre : Set} {W : Stmt → List Token → Type 0} {stmt : Parser Stmt} (d : ℕ) → (Positive d → Statements W stmt) → (at : Option ℕ) (n : Ident) (found : List Suffix) (b : Bool)
    → Good pre (both is.assign is.arrow) false (AssignOrSendWord d W at n found b) goes (assign_or_send d stmt at n found b)
assign_or_send_good d g' at n found true =
    where_good {pre' = none} (assigned_stmt_good d (is_own at) n found) (sent_stmt_good d g' (suffixed (variable at n) found)) self (dis refl) least tt
assign_or_send_good d g' at n found false = first_good (sent_stmt_good d g' (suffixed (variable at n) found)) (second_in is.assign)

pub after_variable_good : {pre : Set} {W : Stmt → List Token → Type 0} {stmt : Parser Stmt} (d : ℕ) → (Positive d → Statements W stmt) → (at : Option ℕ) (n : Ident) (found : List Suffix)
    → Good pre (both is.suffix (both is.assign is.arrow)) false (AfterVariableWord d W at n found) goes (after_variable d stmt at n found)
unfolding AfterVariableWord after_variable
after_variable_good d g' at n found =
    seq_good_empty (suffixes_good d (λ p. below_good d)) (λ os. assign_or_send_good d g' at n (found ++ os) (all_indexes (found ++ os))) (λ os. dis refl) tt

pub this_stmt_good : {pre : Set} {W : Stmt → List Token → Type 0} {stmt : Parser Stmt} (d : ℕ) → (Positive d → Statements W stmt)
    → Good pre is.this false (ThisStmtWord d W) goes (this_stmt d stmt)
unfolding ThisStmtWord this_stmt
this_stmt_good d g' =
    then_good k.This refl refl (λ t. then_good k.Dot refl refl (λ _. seq_good name_good (λ n. after_variable_good d g' (Some t.at) n []) (λ n. free) tt))

indexed_stmt_good : {pre : Set} {W : Stmt → List Token → Type 0} {stmt : Parser Stmt} (d : ℕ) → (Positive d → Statements W stmt) → (n : Ident) (at : ℕ)
    → Good pre is.first_expr false (IndexedStmtWord d W n at) goes (indexed_stmt d stmt n at)
unfolding IndexedStmtWord indexed_stmt
indexed_stmt_good d g' n at =
    seq_good (expr_good (one_less d)) (λ x. then_good k.CloseBracket refl refl (λ _. after_variable_good d g' None n (s.Index at x ∷ []))) (λ x. dis refl) tt

pub typed_stmt_good : {pre : Set} (d : ℕ) (sort : TypeName) → Good pre is.id false (TypedStmtWord d sort) goes (typed_stmt d sort)
unfolding TypedStmtWord typed_stmt
typed_stmt_good d sort = made form.Declare no_else-Declare (declare_good d sort)

bracket_stmt_good : {pre : Set} {W : Stmt → List Token → Type 0} {stmt : Parser Stmt} (d : ℕ) → (Positive d → Statements W stmt) → (t : Token) (at : ℕ)
    → Good pre (both is.close_bracket is.first_expr) false (BracketStmtWord d W t at) goes (bracket_stmt d stmt t at)
unfolding BracketStmtWord bracket_stmt
bracket_stmt_good d g' t at =
    last_counted_good d (then_good k.CloseBracket refl refl (λ _. seq_good_empty pairs_good (λ n. typed_stmt_good d (type_of t (suc n))) (λ n. dis refl) tt))
    (λ p. indexed_stmt_good d g' (ident t) at) self (dis refl) self

dotted_name_good : {pre : Set} (d : ℕ) (n : Ident) → Good pre is.dot true (DottedNameWord d n) (λ _. is.after_unary) (dotted_name d n)
unfolding DottedNameWord dotted_name
dotted_name_good d n =
    first_good (where_good {pre' = none} (then_good k.Dot refl refl (λ t. after_dot_good d (λ p. below_good d) n t.at)) (unless_good (e.Name n)) self no least (λ x v. sub refl)) drop_none

pub name_stmt_good : {pre : Set} {W : Stmt → List Token → Type 0} {stmt : Parser Stmt} (d : ℕ) → (Positive d → Statements W stmt) → (t : Token)
    → Good pre (both is.id (both is.open_bracket (both is.assign (both is.open_paren (both is.dot is.arrow))))) false (NameStmtWord d W t) goes (name_stmt d stmt t)
unfolding NameStmtWord name_stmt
name_stmt_good d g' t =
    where_good {pre' = none} (typed_stmt_good d (type_of t 0))
    (where_good {pre' = none} (then_good k.OpenBracket refl refl (λ b. bracket_stmt_good d g' t b.at))
    (where_good {pre' = none} (assigned_stmt_good d false (ident t) [])
    (where_good {pre' = none} (chained d g' (message_good d aim.Own (ident t)))
    (seq_good_empty (dotted_name_good d (ident t)) (λ x. sent_stmt_good d g' x) (λ x. dis refl) tt)
    self (dis refl) least tt)
    self (dis refl) least tt)
    self (dis refl) least tt)
    self (dis refl) least tt
