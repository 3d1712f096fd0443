-- More depth changes only refusals for depth: statements.
use Rattle.std.proofs.Common.{refl}
use Rattle.std.specs.Prelude.{ℕ, zero, suc, Bool, true, false, List, [], ◌∷◌, ◌++◌, length, Option, Some, None}
use Rattle.sal_ast.specs.declared.expression.Expr.{Expr}
use Rattle.sal_ast.specs.declared.expression.Expr.TheVariants as e
use Rattle.sal_ast.specs.declared.expression.Suffix.{Suffix}
use Rattle.sal_ast.specs.declared.expression.Suffix.TheVariants as s
use Rattle.sal_ast.specs.declared.program.Ident.{Ident}
use Rattle.sal_ast.specs.declared.program.TypeName.{TypeName}
use Rattle.sal_ast.specs.declared.statement.Aim.{Aim}
use Rattle.sal_ast.specs.declared.statement.Aim.TheVariants as aim
use Rattle.sal_ast.specs.declared.statement.Arg.TheVariants as arg
use Rattle.sal_ast.specs.declared.statement.Stage.{Stage}
use Rattle.sal_ast.specs.declared.statement.Stage.TheVariants as g
use Rattle.sal_ast.specs.declared.statement.Stmt.{Stmt}
use Rattle.sal_ast.specs.declared.statement.Stmt.TheVariants as form
use Rattle.sal_grammar.specs.Tokens.{Token}
use Rattle.sal_grammar.specs.Sets as is
use Rattle.sal_grammar.specs.Parsers.{Parser, ◌>>=◌, token_at}
use Rattle.sal_grammar.specs.Expressions.{ident, type_of, suffixed, unary, expr}
use Rattle.sal_grammar.specs.Statements.{one_less, below, name, all_indexes, initial, declare, assigned, assign_rest, until_semicolon, argument, delay, wait_for, property, message, send_to, body_of, join, output, name_stage, stage_by, tail_from, tail, chain_stmt, token_stmt, is_own, variable, sent_stmt, assigned_stmt, assign_or_send, after_variable, this_stmt, indexed_stmt, typed_stmt, bracket_stmt, dotted_name, name_stmt, assign_init, typed_init, bracket_init, name_init, for_init, assignment, for_next, block, test, or_else, if_stmt, while_stmt, for_stmt, nested, other_chain, return_stmt, stmt_by, stmt}
use Rattle.sal_grammar.proofs.Choices.{Positive}
use Rattle.sal_grammar.proofs.Classes.{sub}
use Rattle.sal_grammar.proofs.GoodOperands.{unary_good}
use Rattle.sal_grammar.proofs.GoodParts.{test_good, until_semicolon_good, body_of_good}
use Rattle.sal_grammar.proofs.GoodStatements.{chain_stmt_good, after_variable_good}
use Rattle.sal_grammar.proofs.GoodNests.{assign_init_good, for_init_good, for_next_good, stmt_good}
use Rattle.sal_grammar.proofs.Strictness.{index_strict, expr_strict}
use Rattle.sal_grammar.proofs.Wider.{Strict, Wider, wider_seq, wider_pure, wider_refuse, wider_where, wider_unless, wider_then, wider_counted, wider_many, wider_many_counted, strict_seq, strict_then, strict_where, strict_less, good_fits, seq_fits, one_fits, pure_fits, where_fits}
use Rattle.sal_grammar.proofs.WiderExpressions.{wider_items_until, wider_list_until, wider_pairs, wider_index, wider_suffixes, wider_after_dot, wider_after_name, wider_closed_postfix, wider_other_postfix, wider_unary, wider_expr}

-- ---- one construct deeper

below_wider : (d : ℕ) → Positive d → Wider (below d) (unary (suc d))
below_wider zero deep = absurd deep
below_wider (suc d) deep = wider_unary d

expr_less_wider : (d : ℕ) → Positive d → Wider (expr (one_less d)) (expr (suc d))
expr_less_wider zero deep = absurd deep
expr_less_wider (suc d) deep = wider_expr d

-- ---- constructs that count take their first token

join_strict : (d : ℕ) → Strict is.join (join (stmt (suc d)))
unfolding join
join_strict d =
    strict_then refl (λ t. seq_fits (one_fits is.open_brace) (λ _. seq_fits (good_fits (body_of_good (stmt_good (suc d)))) (λ list. (wider_unless is.colon (g.Join t.at list)).fits)))

join_chain_strict : (d : ℕ) → Strict is.join (join (stmt (suc d)) >>= chain_stmt (suc (suc d)) (stmt (suc d)))
join_chain_strict d = strict_seq (join_strict d) (λ first. good_fits (chain_stmt_good (suc (suc d)) (λ _. stmt_good (suc d)) first))

indexed_strict : (d : ℕ) (t : Token) (at : ℕ) → Strict is.first_expr (indexed_stmt (suc (suc d)) (stmt (suc d)) (ident t) at)
unfolding indexed_stmt
indexed_strict d t at =
    strict_seq (expr_strict d) (λ x. seq_fits (one_fits is.close_bracket) (λ _. good_fits (after_variable_good (suc (suc d)) (λ _. stmt_good (suc d)) None (ident t) (s.Index at x ∷ []))))

indexed_init_strict : (d : ℕ) (t : Token) (at : ℕ)
    → Strict is.first_expr (expr (suc d) >>= (λ x. token_at is.close_bracket >>= (λ _. assign_init (suc (suc d)) false (ident t) (s.Index at x ∷ []))))
indexed_init_strict d t at =
    strict_seq (expr_strict d) (λ x. seq_fits (one_fits is.close_bracket) (λ _. good_fits (assign_init_good (suc (suc d)) false (ident t) (s.Index at x ∷ []))))

block_strict : (d : ℕ) → Strict is.open_brace (block (stmt d))
unfolding block
block_strict d = strict_then refl (λ t. seq_fits (good_fits (body_of_good (stmt_good d))) (λ list. pure_fits (form.Block t.at list)))

if_strict : (d : ℕ) → Strict is.if_word (if_stmt d (stmt d))
unfolding if_stmt or_else
if_strict d =
    strict_then refl (λ t. seq_fits (good_fits (test_good d)) (λ x. seq_fits (good_fits (stmt_good d))
    (λ first. where_fits is.else_word (seq_fits (one_fits is.else_word) (λ _. seq_fits (good_fits (stmt_good d)) (λ other. pure_fits (form.If t.at x first (Some other)))))
    (pure_fits (form.If t.at x first None)))))

while_strict : (d : ℕ) → Strict is.while_word (while_stmt d (stmt d))
unfolding while_stmt
while_strict d = strict_then refl (λ t. seq_fits (good_fits (test_good d)) (λ x. seq_fits (good_fits (stmt_good d)) (λ body. pure_fits (form.While t.at x body))))

for_strict : (d : ℕ) → Strict is.for_word (for_stmt d (stmt d))
unfolding for_stmt
for_strict d =
    strict_then refl (λ t. seq_fits (one_fits is.open_paren) (λ _. seq_fits (good_fits (for_init_good d)) (λ first. seq_fits (good_fits (until_semicolon_good d)) (λ x.
    seq_fits (good_fits (for_next_good d)) (λ next. seq_fits (good_fits (stmt_good d)) (λ body. pure_fits (form.For t.at first x next body)))))))

nested_strict : (d : ℕ) → Strict is.nest (nested (suc d) (stmt (suc d)))
unfolding nested
nested_strict d = strict_less (sub refl) (strict_where (block_strict (suc d)) (strict_where (if_strict (suc d)) (strict_where (while_strict (suc d)) (for_strict (suc d)))))

-- ---- the end of a chain

wider_tail_from : (n : ℕ) {stage stage' : Parser Stage} → Wider stage stage' → Wider (tail_from n stage) (tail_from n stage')
unfolding tail_from
wider_tail_from zero h = wider_refuse
wider_tail_from (suc n) h =
    wider_where is.then_sign
    (wider_then is.then_sign (λ _. wider_where is.current (wider_then is.current (λ t. wider_then is.semicolon (λ _. wider_pure)))
    (wider_seq h (λ first. wider_seq (wider_tail_from n h) (λ others. wider_pure)))))
    (wider_then is.semicolon (λ _. wider_pure))

wider_tail : {stage stage' : Parser Stage} → Wider stage stage' → Wider (tail stage) (tail stage')
wider_tail h = record { at = λ i. (wider_tail_from (suc (length i)) h).at i; fits = record { fits = λ i. (wider_tail_from (suc (length i)) h).fits.fits i } }

-- ---- by the grammar

pub wider_name : Wider name name
wider_name = wider_then is.id (λ t. wider_pure)

pub wider_initial : (d : ℕ) → Wider (initial d) (initial (suc (suc d)))
unfolding initial
wider_initial d = wider_where is.assign (wider_then is.assign (λ _. wider_seq (wider_expr d) (λ x. wider_then is.semicolon (λ _. wider_pure)))) (wider_then is.semicolon (λ _. wider_pure))

pub wider_declare : (d : ℕ) (sort : TypeName) → Wider (declare d sort) (declare (suc (suc d)) sort)
unfolding declare
wider_declare d sort = wider_seq wider_name (λ n. wider_seq (wider_initial d) (λ x. wider_pure))

pub wider_assigned : (d : ℕ) (own : Bool) (n : Ident) (found : List Suffix) → Wider (assigned d own n found) (assigned (suc (suc d)) own n found)
unfolding assigned
wider_assigned d own n found = wider_then is.assign (λ _. wider_seq (wider_expr d) (λ x. wider_pure))

pub wider_assign_rest : (d : ℕ) (own : Bool) (n : Ident) (found : List Suffix) → Wider (assign_rest d own n found) (assign_rest (suc (suc d)) own n found)
unfolding assign_rest
wider_assign_rest d own n found = wider_seq (wider_many_counted d (index_strict (unary_good (suc d))) (λ deep. wider_index (below_wider d deep))) (λ os. wider_assigned d own n (found ++ os))

pub wider_until_semicolon : (d : ℕ) → Wider (until_semicolon d) (until_semicolon (suc (suc d)))
unfolding until_semicolon
wider_until_semicolon d = wider_where is.semicolon (wider_then is.semicolon (λ _. wider_pure)) (wider_seq (wider_expr d) (λ x. wider_then is.semicolon (λ _. wider_pure)))

pub wider_argument : (d : ℕ) → Wider (argument d) (argument (suc (suc d)))
unfolding argument
wider_argument d = wider_where is.token (wider_then is.token (λ t. wider_unless is.after_expr (arg.Token t.at))) (wider_seq (wider_expr d) (λ x. wider_pure))

pub wider_delay : (d : ℕ) (at : ℕ) → Wider (delay d at) (delay (suc (suc d)) at)
unfolding delay
wider_delay d at = wider_then is.delay (λ _. wider_then is.open_paren (λ _. wider_seq (wider_expr d) (λ x. wider_then is.close_paren (λ _. wider_pure))))

pub wider_wait_for : (at : ℕ) → Wider (wait_for at) (wait_for at)
unfolding wait_for
wider_wait_for at = wider_then is.wait_for (λ _. wider_then is.open_paren (λ _. wider_seq (wider_items_until is.close_paren wider_name) (λ names. wider_pure)))

pub wider_property : (d : ℕ) → Wider (property d) (property (suc (suc d)))
unfolding property
wider_property d = wider_then is.colon (λ t. wider_where is.delay (wider_delay d t.at) (wider_wait_for t.at))

pub wider_message : (d : ℕ) (to : Aim) (n : Ident) → Wider (message d to n) (message (suc (suc d)) to n)
unfolding message
wider_message d to n = wider_then is.open_paren (λ _. wider_seq (wider_list_until is.close_paren (wider_argument d)) (λ args. wider_seq (wider_many (wider_property d)) (λ found. wider_pure)))

pub wider_send_to : (d : ℕ) (to : Aim) → Wider (send_to d to) (send_to (suc (suc d)) to)
unfolding send_to
wider_send_to d to = wider_then is.arrow (λ _. wider_seq wider_name (λ n. wider_message d to n))

pub wider_body_of : {stmt stmt' : Parser Stmt} (hs : Wider stmt stmt') → Wider (body_of stmt) (body_of stmt')
unfolding body_of
wider_body_of hs = wider_seq (wider_many hs) (λ list. wider_then is.close_brace (λ _. wider_pure))

pub wider_join : {stmt stmt' : Parser Stmt} (hs : Wider stmt stmt') → Wider (join stmt) (join stmt')
unfolding join
wider_join hs = wider_then is.join (λ t. wider_then is.open_brace (λ _. wider_seq (wider_body_of hs) (λ list. wider_unless is.colon (g.Join t.at list))))

pub wider_output : (d : ℕ) → Wider (output d) (output (suc (suc d)))
wider_output d = wider_then is.output (λ t. wider_send_to d (aim.Output t.at))

pub wider_name_stage : (d : ℕ) (n : Ident) → Wider (name_stage d n) (name_stage (suc (suc d)) n)
unfolding name_stage
wider_name_stage d n = wider_where is.open_paren (wider_message d aim.Own n) (wider_seq (wider_after_name d (below_wider d) n) (λ x. wider_send_to d (aim.Actor x)))

pub wider_stage_by : (d : ℕ) {inner : Parser Stmt} (hs : Positive d → Wider inner (stmt (suc d))) → Wider (stage_by d inner) (stage_by (suc (suc d)) (stmt (suc d)))
unfolding stage_by
wider_stage_by d hs = wider_counted d (join_strict d) (λ deep. wider_join (hs deep)) (wider_where is.output (wider_output d) (wider_where is.id (wider_seq wider_name (λ z. (wider_name_stage d z))) (wider_seq (wider_other_postfix d (below_wider d)) (λ x. wider_send_to d (aim.Actor x)))))

pub wider_chain_stmt : (d : ℕ) {inner : Parser Stmt} (hs : Positive d → Wider inner (stmt (suc d))) (first : Stage) → Wider (chain_stmt d inner first) (chain_stmt (suc (suc d)) (stmt (suc d)) first)
unfolding chain_stmt
wider_chain_stmt d hs first = wider_seq (wider_tail (wider_stage_by d hs)) (λ t. wider_pure)

pub wider_token_stmt : (d : ℕ) {inner : Parser Stmt} (hs : Positive d → Wider inner (stmt (suc d))) → Wider (token_stmt d inner) (token_stmt (suc (suc d)) (stmt (suc d)))
unfolding token_stmt
wider_token_stmt d hs = wider_then is.token (λ t. wider_seq wider_name (λ n. wider_then is.assign (λ _. wider_seq (wider_stage_by d hs) (λ first. wider_seq (wider_many (wider_then is.then_sign (λ _. wider_stage_by d hs))) (λ others. wider_then is.semicolon (λ _. wider_pure))))))

pub wider_sent_stmt : (d : ℕ) {inner : Parser Stmt} (hs : Positive d → Wider inner (stmt (suc d))) (x : Expr) → Wider (sent_stmt d inner x) (sent_stmt (suc (suc d)) (stmt (suc d)) x)
unfolding sent_stmt
wider_sent_stmt d hs x = wider_seq (wider_send_to d (aim.Actor x)) (λ z. (wider_chain_stmt d hs z))

pub wider_assigned_stmt : (d : ℕ) (own : Bool) (n : Ident) (found : List Suffix) → Wider (assigned_stmt d own n found) (assigned_stmt (suc (suc d)) own n found)
unfolding assigned_stmt
wider_assigned_stmt d own n found = wider_seq (wider_assigned d own n found) (λ a. wider_then is.semicolon (λ _. wider_pure))

pub wider_assign_or_send : (d : ℕ) {inner : Parser Stmt} (hs : Positive d → Wider inner (stmt (suc d))) (at : Option ℕ) (n : Ident) (found : List Suffix) (b : Bool) → Wider (assign_or_send d inner at n found b) (assign_or_send (suc (suc d)) (stmt (suc d)) at n found b)
wider_assign_or_send d hs at n found true = wider_where is.assign (wider_assigned_stmt d (is_own at) n found) (wider_sent_stmt d hs (suffixed (variable at n) found))
wider_assign_or_send d hs at n found false = wider_sent_stmt d hs (suffixed (variable at n) found)

pub wider_after_variable : (d : ℕ) {inner : Parser Stmt} (hs : Positive d → Wider inner (stmt (suc d))) (at : Option ℕ) (n : Ident) (found : List Suffix) → Wider (after_variable d inner at n found) (after_variable (suc (suc d)) (stmt (suc d)) at n found)
unfolding after_variable
wider_after_variable d hs at n found = wider_seq (wider_suffixes d (below_wider d)) (λ os. wider_assign_or_send d hs at n (found ++ os) (all_indexes (found ++ os)))

pub wider_this_stmt : (d : ℕ) {inner : Parser Stmt} (hs : Positive d → Wider inner (stmt (suc d))) → Wider (this_stmt d inner) (this_stmt (suc (suc d)) (stmt (suc d)))
unfolding this_stmt
wider_this_stmt d hs = wider_then is.this (λ t. wider_then is.dot (λ _. wider_seq wider_name (λ n. wider_after_variable d hs (Some t.at) n [])))

pub wider_indexed_stmt : (d : ℕ) (deep : Positive d) {inner : Parser Stmt} (hs : Positive d → Wider inner (stmt (suc d))) (n : Ident) (at : ℕ) → Wider (indexed_stmt d inner n at) (indexed_stmt (suc (suc d)) (stmt (suc d)) n at)
unfolding indexed_stmt
wider_indexed_stmt d deep hs n at = wider_seq (expr_less_wider d deep) (λ x. wider_then is.close_bracket (λ _. wider_after_variable d hs None n (s.Index at x ∷ [])))

pub wider_typed_stmt : (d : ℕ) (sort : TypeName) → Wider (typed_stmt d sort) (typed_stmt (suc (suc d)) sort)
unfolding typed_stmt
wider_typed_stmt d sort = wider_seq (wider_declare d sort) (λ x. wider_pure)

pub wider_bracket_stmt : (d : ℕ) {inner : Parser Stmt} (hs : Positive d → Wider inner (stmt (suc d))) (t : Token) (at : ℕ) → Wider (bracket_stmt d inner t at) (bracket_stmt (suc (suc d)) (stmt (suc d)) t at)
unfolding bracket_stmt
wider_bracket_stmt d hs t at = wider_where is.close_bracket (wider_then is.close_bracket (λ _. wider_seq wider_pairs (λ n. wider_typed_stmt d (type_of t (suc n))))) (wider_counted d (indexed_strict d t at) (λ deep. wider_indexed_stmt d deep hs (ident t) at) wider_refuse)

pub wider_dotted_name : (d : ℕ) (n : Ident) → Wider (dotted_name d n) (dotted_name (suc (suc d)) n)
unfolding dotted_name
wider_dotted_name d n = wider_where is.dot (wider_then is.dot (λ t. wider_after_dot d (below_wider d) n t.at)) (wider_unless is.after_unary (e.Name n))

pub wider_name_stmt : (d : ℕ) {inner : Parser Stmt} (hs : Positive d → Wider inner (stmt (suc d))) (t : Token) → Wider (name_stmt d inner t) (name_stmt (suc (suc d)) (stmt (suc d)) t)
unfolding name_stmt
wider_name_stmt d hs t = wider_where is.id (wider_typed_stmt d (type_of t 0)) (wider_where is.open_bracket (wider_then is.open_bracket (λ b. wider_bracket_stmt d hs t b.at)) (wider_where is.assign (wider_assigned_stmt d false (ident t) []) (wider_where is.open_paren (wider_seq (wider_message d aim.Own (ident t)) (λ z. (wider_chain_stmt d hs z))) (wider_seq (wider_dotted_name d (ident t)) (λ z. (wider_sent_stmt d hs z))))))

pub wider_assign_init : (d : ℕ) (own : Bool) (n : Ident) (found : List Suffix) → Wider (assign_init d own n found) (assign_init (suc (suc d)) own n found)
unfolding assign_init
wider_assign_init d own n found = wider_seq (wider_assign_rest d own n found) (λ a. wider_then is.semicolon (λ _. wider_pure))

pub wider_typed_init : (d : ℕ) (sort : TypeName) → Wider (typed_init d sort) (typed_init (suc (suc d)) sort)
unfolding typed_init
wider_typed_init d sort = wider_seq (wider_declare d sort) (λ x. wider_pure)

pub wider_bracket_init : (d : ℕ) (t : Token) (at : ℕ) → Wider (bracket_init d t at) (bracket_init (suc (suc d)) t at)
unfolding bracket_init
wider_bracket_init d t at = wider_where is.close_bracket (wider_then is.close_bracket (λ _. wider_seq wider_pairs (λ n. wider_typed_init d (type_of t (suc n))))) (wider_counted d (indexed_init_strict d t at) (λ deep. wider_seq (expr_less_wider d deep) (λ x. wider_then is.close_bracket (λ _. wider_assign_init d false (ident t) (s.Index at x ∷ [])))) wider_refuse)

pub wider_name_init : (d : ℕ) (t : Token) → Wider (name_init d t) (name_init (suc (suc d)) t)
unfolding name_init
wider_name_init d t = wider_where is.id (wider_typed_init d (type_of t 0)) (wider_where is.open_bracket (wider_then is.open_bracket (λ b. wider_bracket_init d t b.at)) (wider_seq (wider_assigned d false (ident t) []) (λ a. wider_then is.semicolon (λ _. wider_pure))))

pub wider_for_init : (d : ℕ) → Wider (for_init d) (for_init (suc (suc d)))
unfolding for_init
wider_for_init d = wider_where is.id (wider_then is.id (λ z. (wider_name_init d z))) (wider_where is.sort_word (wider_then is.sort_word (λ t. wider_seq wider_pairs (λ n. wider_typed_init d (type_of t n)))) (wider_where is.this (wider_then is.this (λ _. wider_then is.dot (λ _. wider_seq wider_name (λ n. wider_assign_init d true n [])))) (wider_then is.semicolon (λ _. wider_pure))))

pub wider_assignment : (d : ℕ) → Wider (assignment d) (assignment (suc (suc d)))
unfolding assignment
wider_assignment d = wider_where is.this (wider_then is.this (λ _. wider_then is.dot (λ _. wider_seq wider_name (λ n. wider_assign_rest d true n [])))) (wider_seq wider_name (λ n. wider_assign_rest d false n []))

pub wider_for_next : (d : ℕ) → Wider (for_next d) (for_next (suc (suc d)))
unfolding for_next
wider_for_next d = wider_where is.close_paren (wider_then is.close_paren (λ _. wider_pure)) (wider_seq (wider_assignment d) (λ a. wider_then is.close_paren (λ _. wider_pure)))

pub wider_block : {stmt stmt' : Parser Stmt} (hs : Wider stmt stmt') → Wider (block stmt) (block stmt')
unfolding block
wider_block hs = wider_then is.open_brace (λ t. wider_seq (wider_body_of hs) (λ list. wider_pure))

pub wider_test : (d : ℕ) → Wider (test d) (test (suc (suc d)))
wider_test d = wider_then is.open_paren (λ _. wider_seq (wider_expr d) (λ x. wider_then is.close_paren (λ _. wider_pure)))

pub wider_or_else : {stmt stmt' : Parser Stmt} (hs : Wider stmt stmt') (at : ℕ) (x : Expr) (first : Stmt) → Wider (or_else stmt at x first) (or_else stmt' at x first)
unfolding or_else
wider_or_else hs at x first = wider_where is.else_word (wider_then is.else_word (λ _. wider_seq hs (λ other. wider_pure))) wider_pure

pub wider_if_stmt : (d : ℕ) {stmt stmt' : Parser Stmt} (hs : Wider stmt stmt') → Wider (if_stmt d stmt) (if_stmt (suc (suc d)) stmt')
unfolding if_stmt
wider_if_stmt d hs = wider_then is.if_word (λ t. wider_seq (wider_test d) (λ x. wider_seq hs (λ first. wider_or_else hs t.at x first)))

pub wider_while_stmt : (d : ℕ) {stmt stmt' : Parser Stmt} (hs : Wider stmt stmt') → Wider (while_stmt d stmt) (while_stmt (suc (suc d)) stmt')
unfolding while_stmt
wider_while_stmt d hs = wider_then is.while_word (λ t. wider_seq (wider_test d) (λ x. wider_seq hs (λ body. wider_pure)))

pub wider_for_stmt : (d : ℕ) {stmt stmt' : Parser Stmt} (hs : Wider stmt stmt') → Wider (for_stmt d stmt) (for_stmt (suc (suc d)) stmt')
unfolding for_stmt
wider_for_stmt d hs = wider_then is.for_word (λ t. wider_then is.open_paren (λ _. wider_seq (wider_for_init d) (λ first. wider_seq (wider_until_semicolon d) (λ x. wider_seq (wider_for_next d) (λ next. wider_seq hs (λ body. wider_pure))))))

pub wider_nested : (d : ℕ) {stmt stmt' : Parser Stmt} (hs : Wider stmt stmt') → Wider (nested d stmt) (nested (suc (suc d)) stmt')
unfolding nested
wider_nested d hs = wider_where is.open_brace (wider_block hs) (wider_where is.if_word (wider_if_stmt d hs) (wider_where is.while_word (wider_while_stmt d hs) (wider_for_stmt d hs)))

nested_less_wider : (d : ℕ) → Positive d → {inner : Parser Stmt} → Wider inner (stmt (suc d)) → Wider (nested (one_less d) inner) (nested (suc d) (stmt (suc d)))
nested_less_wider zero deep h = absurd deep
nested_less_wider (suc d) deep h = wider_nested d h

pub wider_other_chain : (d : ℕ) {inner : Parser Stmt} (hs : Positive d → Wider inner (stmt (suc d))) → Wider (other_chain d inner) (other_chain (suc (suc d)) (stmt (suc d)))
unfolding other_chain
wider_other_chain d hs = wider_counted d (join_chain_strict d) (λ deep. wider_seq (wider_join (hs deep)) (λ z. (wider_chain_stmt d hs z))) (wider_where is.output (wider_seq (wider_output d) (λ z. (wider_chain_stmt d hs z))) (wider_seq (wider_closed_postfix d (below_wider d)) (λ z. (wider_sent_stmt d hs z))))

pub wider_return_stmt : (d : ℕ) → Wider (return_stmt d) (return_stmt (suc (suc d)))
wider_return_stmt d = wider_then is.return_word (λ t. wider_seq (wider_until_semicolon d) (λ x. wider_pure))

pub wider_stmt_by : (d : ℕ) {inner : Parser Stmt} (hs : Positive d → Wider inner (stmt (suc d))) → Wider (stmt_by d inner) (stmt_by (suc (suc d)) (stmt (suc d)))
unfolding stmt_by
wider_stmt_by d hs = wider_where is.id (wider_then is.id (λ z. (wider_name_stmt d hs z))) (wider_counted d (nested_strict d) (λ deep. nested_less_wider d deep (hs deep)) (wider_where is.sort_word (wider_then is.sort_word (λ t. wider_seq wider_pairs (λ n. wider_typed_stmt d (type_of t n)))) (wider_where is.semicolon (wider_then is.semicolon (λ t. wider_pure)) (wider_where is.return_word (wider_return_stmt d) (wider_where is.token (wider_token_stmt d hs) (wider_where is.this (wider_this_stmt d hs) (wider_other_chain d hs)))))))

pub wider_stmt : (d : ℕ) → Wider (stmt d) (stmt (suc (suc d)))
unfolding stmt
wider_stmt zero = wider_stmt_by zero (λ deep. absurd deep)
wider_stmt (suc d) = wider_stmt_by (suc d) (λ _. wider_stmt d)
