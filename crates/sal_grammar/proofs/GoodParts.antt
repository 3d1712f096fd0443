-- The parsers of the parts of statements read their words exactly.
use Rattle.std.proofs.Common.{◌≡◌, ℕ, Bool, true, false, ◌&&◌, List, ◌++◌, refl, Some, None}
use Rattle.sal_ast.specs.declared.expression.Suffix.{Suffix}
use Rattle.sal_ast.specs.declared.program.Ident.{Ident}
use Rattle.sal_ast.specs.declared.program.TypeName.{TypeName}
use Rattle.sal_ast.specs.declared.statement.Aim.{Aim}
use Rattle.sal_ast.specs.declared.statement.Aim.TheVariants as aim
use Rattle.sal_ast.specs.declared.statement.Arg.TheVariants as arg
use Rattle.sal_ast.specs.declared.statement.Property.TheVariants as of
use Rattle.sal_ast.specs.declared.statement.Stage.TheVariants as g
use Rattle.sal_ast.specs.declared.statement.Stmt.{Stmt}
use Rattle.sal_grammar.specs.declared.class.Class.TheVariants as k
use Rattle.sal_grammar.specs.Tokens.{Token, Set, none, both}
use Rattle.sal_grammar.specs.Sets as is
use Rattle.sal_grammar.specs.Parsers.{Parser}
use Rattle.sal_grammar.specs.Expressions.{ident}
use Rattle.sal_grammar.specs.Statements.{one_less, below, name, indexes_of, initial, declare, assigned, assign_rest, until_semicolon, argument, delay, wait_for, property, message, send_to, body_of, join, output, name_stage, stage_by, test}
use Rattle.sal_grammar.proofs.Exactness.{Apart, Good, seq_good, seq_good_empty}
use Rattle.sal_grammar.proofs.Classes.{dis, sub}
use Rattle.sal_grammar.proofs.Choices.{nothing, unless_good, first_good, any_before, more_good, where_good, counted_good, Positive}
use Rattle.sal_grammar.proofs.Lists.{list_good, many_good, after_apart, counted_list_good}
use Rattle.sal_grammar.proofs.Steps.{self, no, free, least, agree, done, then_good, map_good, map_good_empty, closed_good}
use Rattle.sal_grammar.proofs.GoodExpressions.{Operands, items_good, list_until_good, index_good}
use Rattle.sal_grammar.proofs.GoodOperands.{after_name_good, other_postfix_good, unary_good, expr_good}
use Rattle.sal_grammar.proofs.StatementWords.{BelowWord, NameWord, InitialWord, DeclareWord, AssignedWord, AssignRestWord, UntilSemicolonWord, ArgumentWord, DelayWord, WaitForWord, PropertyWord, MessageWord, SendToWord, BodyOfWord, JoinWord, OutputWord, NameStageWord, StageByWord, TestWord, takes_else}

-- an `else` may go on after a statement that takes one
abbrev pub goes : Stmt → Set
goes s c = takes_else s && is.else_word c

-- what is asked of the parser of statements one deeper
abbrev pub Statements : (Stmt → List Token → Type 0) → Parser Stmt → Type 0
Statements W stmt = Good none is.first_stmt false W goes stmt

pub name_good : {pre : Set} → Good pre is.id false NameWord nothing name
name_good = then_good k.Id refl refl (λ t. done (ident t))

pub below_good : (d : ℕ) → Operands (BelowWord d) (below d)
below_good d = unary_good (one_less d)

-- ---- declarations and assignments

pub initial_good : {pre : Set} (d : ℕ) → Good pre (both is.assign is.semicolon) false (InitialWord d) nothing (initial d)
unfolding InitialWord initial
initial_good d =
    where_good {pre' = none} (then_good k.Assign refl refl (λ _. closed_good k.Semicolon refl refl (dis refl) Some (expr_good d)))
    (then_good k.Semicolon refl refl (λ _. done None)) self (dis refl) least tt

pub declare_good : {pre : Set} (d : ℕ) (sort : TypeName) → Good pre is.id false (DeclareWord d sort) nothing (declare d sort)
unfolding DeclareWord declare
declare_good d sort = seq_good name_good (λ n. map_good (λ x. record { sort = sort; name = n; init = x }) (initial_good d)) (λ n. free) tt

pub assigned_good : {pre : Set} (d : ℕ) (own : Bool) (n : Ident) (found : List Suffix) → Good pre is.assign false (AssignedWord d own n found) (λ _. is.after_expr) (assigned d own n found)
unfolding AssignedWord assigned
assigned_good d own n found =
    then_good k.Assign refl refl (λ _. map_good (λ x. record { own = own; name = n; indexes = indexes_of found; value = x }) (expr_good d))

pub assign_rest_good : {pre : Set} (d : ℕ) (own : Bool) (n : Ident) (found : List Suffix)
    → Good pre (both is.open_bracket is.assign) false (AssignRestWord d own n found) (λ _. is.after_expr) (assign_rest d own n found)
unfolding AssignRestWord assign_rest
assign_rest_good d own n found =
    any_before (seq_good_empty (counted_list_good d (λ p. index_good (below_good d)) self refl) (λ os. assigned_good d own n (found ++ os)) (λ os. dis refl) tt)

pub until_semicolon_good : {pre : Set} (d : ℕ) → Good pre (both is.semicolon is.first_expr) false (UntilSemicolonWord d) nothing (until_semicolon d)
unfolding UntilSemicolonWord until_semicolon
until_semicolon_good d =
    where_good {pre' = none} (then_good k.Semicolon refl refl (λ _. done None)) (closed_good k.Semicolon refl refl (dis refl) Some (expr_good d)) self (dis refl) least tt

-- "(" expr ")"
pub test_good : {pre : Set} (d : ℕ) → Good pre is.open_paren false (TestWord d) nothing (test d)
test_good d = then_good k.OpenParen refl refl (λ _. closed_good k.CloseParen refl refl (dis refl) (λ x. x) (expr_good d))

-- ---- messages

argument_good : {pre : Set} (d : ℕ) → Good pre (both is.token is.first_expr) false (ArgumentWord d) (λ _. is.after_expr) (argument d)
unfolding ArgumentWord argument
argument_good d =
    where_good {pre' = none} (then_good k.Token refl refl (λ t. unless_good (arg.Token t.at))) (map_good arg.Expr (expr_good d)) self (dis refl) least tt

delay_good : {pre : Set} (d at : ℕ) → Good pre is.delay false (DelayWord d at) nothing (delay d at)
unfolding DelayWord delay
delay_good d at =
    then_good k.Delay refl refl (λ _. then_good k.OpenParen refl refl (λ _. closed_good k.CloseParen refl refl (dis refl) (λ x. of.Delay at x) (expr_good d)))

wait_for_good : {pre : Set} (at : ℕ) → Good pre is.wait_for false (WaitForWord at) nothing (wait_for at)
unfolding WaitForWord wait_for
wait_for_good at =
    then_good k.WaitFor refl refl (λ _. then_good k.OpenParen refl refl (λ _. map_good (λ names. of.WaitFor at names)
    (items_good k.CloseParen refl refl (dis refl) free free name_good)))

property_good : {pre : Set} (d : ℕ) → Good pre is.colon false (PropertyWord d) nothing (property d)
unfolding PropertyWord property
property_good d = then_good k.Colon refl refl (λ t. where_good {pre' = none} (delay_good d t.at) (wait_for_good t.at) self (dis refl) least tt)

pub message_good : {pre : Set} (d : ℕ) (to : Aim) (n : Ident) → Good pre is.open_paren false (MessageWord d to n) (λ _. is.colon) (message d to n)
unfolding MessageWord message
message_good d to n =
    more_good (then_good k.OpenParen refl refl (λ _. seq_good (list_until_good k.CloseParen refl refl (dis refl) (dis refl) (dis refl) (dis refl) (argument_good d))
    (λ args. map_good_empty (λ found. g.Message (record { aim = to; handler = n; args = args; properties = found })) (list_good {m = none} (property_good d) self free refl))
    (λ args. free) (λ args y v. least)))
    (λ a c. agree (both is.colon none) is.colon refl refl c)

pub send_to_good : {pre : Set} (d : ℕ) (to : Aim) → Good pre is.arrow false (SendToWord d to) (λ _. is.colon) (send_to d to)
unfolding SendToWord send_to
send_to_good d to = then_good k.Arrow refl refl (λ _. seq_good name_good (λ n. message_good d to n) (λ n. free) tt)

-- ---- stages

and_false : (a b : Bool) → b ≡ false → a && b ≡ false
and_false false b e = refl
and_false true b e = e

pub goes_apart : {f : Set} → Apart f is.else_word → (s : Stmt) → Apart f (goes s)
goes_apart a s = record { at = λ c e. and_false (takes_else s) (is.else_word c) (a.at c e) }

pub body_of_good : {pre : Set} {W : Stmt → List Token → Type 0} {stmt : Parser Stmt} → Statements W stmt
    → Good pre (both is.first_stmt is.close_brace) false (BodyOfWord W) nothing (body_of stmt)
unfolding BodyOfWord body_of
body_of_good g =
    any_before (seq_good_empty (many_good {h = none} g self (goes_apart (dis refl)) free refl) (λ list. then_good k.CloseBrace refl refl (λ _. done list))
    (λ list. after_apart is.close_brace is.first_stmt goes (dis refl) (goes_apart (dis refl)) none free list) tt)

pub join_good : {pre : Set} {W : Stmt → List Token → Type 0} {stmt : Parser Stmt} → Statements W stmt → Good pre is.join false (JoinWord W) (λ _. is.colon) (join stmt)
unfolding JoinWord join
join_good g' =
    then_good k.Join refl refl (λ t. then_good k.OpenBrace refl refl (λ _. seq_good (body_of_good g')
    (λ list. unless_good (g.Join t.at list)) (λ list. no) (λ list y v. least)))

pub output_good : {pre : Set} (d : ℕ) → Good pre is.output false (OutputWord d) (λ _. is.colon) (output d)
output_good d = then_good k.Output refl refl (λ t. send_to_good d (aim.Output t.at))

name_stage_good : {pre : Set} (d : ℕ) (n : Ident) → Good pre (both is.open_paren (both is.suffix is.arrow)) false (NameStageWord d n) (λ _. is.colon) (name_stage d n)
unfolding NameStageWord name_stage
name_stage_good d n =
    where_good {pre' = none} (message_good d aim.Own n)
    (seq_good_empty (after_name_good d (λ p. below_good d) n) (λ x. send_to_good d (aim.Actor x)) (λ x. dis refl) tt) self (dis refl) least tt

pub stage_by_good : {pre : Set} {W : Stmt → List Token → Type 0} {stmt : Parser Stmt} (d : ℕ) → (Positive d → Statements W stmt)
    → Good pre is.first_stage false (StageByWord d W) (λ _. is.colon) (stage_by d stmt)
unfolding StageByWord stage_by
stage_by_good d g' =
    first_good (counted_good {pre' = none} d (λ p. join_good (g' p))
    (where_good {pre' = none} (output_good d)
    (where_good {pre' = none} (seq_good name_good (λ n. name_stage_good d n) (λ n. free) tt)
    (seq_good (other_postfix_good d (λ p. below_good d)) (λ x. send_to_good d (aim.Actor x)) (λ x. dis refl) tt)
    self (dis refl) least tt)
    self (dis refl) least tt)
    self (dis refl) least tt) (sub refl)
