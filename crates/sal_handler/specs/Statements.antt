-- What a statement does, made of what its parts do.
use Rattle.std.specs.Prelude.{ℕ, zero, suc, Bool, true, if◌then◌else◌, List, [], ◌∷◌, ◌++◌, length, map, replicate, slice_set, Option, Some, None, Ok}
use Rattle.sal_value.specs.declared.value.Value.{Value}
use Rattle.sal_value.specs.declared.value.Value.TheVariants.{Null}
use Rattle.sal_ast.specs.declared.expression.Expr.{Expr}
use Rattle.sal_ast.specs.declared.statement.Declare.{Declare}
use Rattle.sal_ast.specs.declared.statement.Assign.{Assign}
use Rattle.sal_ast.specs.declared.statement.ForInit.{ForInit}
use Rattle.sal_ast.specs.declared.statement.ForInit.TheVariants as init
use Rattle.sal_ast.specs.declared.statement.Stage.{Stage}
use Rattle.sal_ast.specs.declared.statement.Stmt.{Stmt}
use Rattle.sal_ast.specs.declared.statement.Chain.{Chain}
use Rattle.sal_ast.specs.declared.statement.Stage.TheOpen.{Stage-F, Stmt-F, Chain-F}
use Rattle.sal_ast.specs.declared.statement.Stage.TheViews.{roll-Stage, roll-Stmt, roll-Chain}
use Rattle.sal_ast.specs.declared.statement.Stage.TheFolds.{map-Stage, map-Stmt, map-Chain, fold-Stage, fold-Stmt, fold-Chain}
use Rattle.sal_ast.specs.Sorts.{type_sort, is_void_join}
use Rattle.sal_mail.specs.declared.fault.Trap.TheVariants.{TooManyTurns}
use Rattle.sal_mail.specs.declared.message.Reply.{Reply}
use Rattle.sal_handler.specs.declared.state.End.{End}
use Rattle.sal_handler.specs.declared.state.End.TheVariants as end
use Rattle.sal_handler.specs.declared.state.Flow.{Flow}
use Rattle.sal_handler.specs.declared.state.Flow.TheVariants.{Next, Returned, Passed}
use Rattle.sal_handler.specs.declared.state.EnclosingJoin.{EnclosingJoin}
use Rattle.sal_handler.specs.declared.state.State.{State}
use Rattle.sal_handler.specs.Evaluation.{and_then, Eval, ◌>>=◌, ◌>>◌, pure, trap}
use Rattle.sal_handler.specs.Values.{is_true, int_of, default_of}
use Rattle.sal_handler.specs.Scopes.{Context, scope_of, assign_variable, declare, declare_token, in_new_scope, begin_turn, take_limited_serial}
use Rattle.sal_handler.specs.Expressions.{Denotation, eval_all, eval, evals}
use Rattle.sal_handler.specs.Messages.{message, reply_of_stage}

-- what a statement does, in a context, and how it ends
abbrev pub StmtDenotation : Type 0
StmtDenotation = Context → Eval Flow

-- what a stage does after the stage with this serial, where its reply is owed so; it gives its own serial
abbrev pub StageDenotation : Type 0
StageDenotation = Context → Option ℕ → End → Eval ℕ

-- what a declaration or an assignment does, in a context; it gives nothing
abbrev pub Action : Type 0
Action = Context → Eval (Unit {0})

-- ---- declarations and assignments

-- the value of the expression, if there is one, or else this value
abbrev pub initial_value : Option Expr → Value → Denotation
initial_value None start r = pure start
initial_value (Some e) start r = eval e r

-- a declaration: the new local has the value of its initialiser, or else its type's default
abbrev pub exec_declare : Declare → Action
exec_declare d r = initial_value d.init (default_of d.sort) r >>= (λ v. declare d.name.text (type_sort d.sort r.behaviors) v)

-- the indexes, then the value, and then the indexes are tested
abbrev pub exec_assign : Assign → Action
exec_assign a r = eval_all (evals a.indexes) r [] >>= (λ is. eval a.value r >>= (λ v. assign_variable a.own a.name.text r (map int_of is) v))

-- ---- one statement after another

-- goes on where a statement did not end the handler
abbrev pub go_on_after : Flow → Eval Flow → Eval Flow
go_on_after Next m = m
go_on_after (Returned v) m = pure (Returned v)
go_on_after Passed m = pure Passed

-- one statement after another, until one of them ends the handler
abbrev pub sequence : List StmtDenotation → StmtDenotation
sequence [] r = pure Next
sequence (m ∷ ms) r = m r >>= (λ f. go_on_after f (sequence ms r))

-- a block: what its statements declare is out of scope after it
abbrev pub sequence_in_scope : List StmtDenotation → StmtDenotation
sequence_in_scope list r = in_new_scope (sequence list r)

-- ---- loops

-- whether a test is true; what is no boolean is false
abbrev pub eval_test : Expr → Context → Eval Bool
eval_test e r = eval e r >>= (λ v. pure (is_true v))

-- At most so many tests. A loop has one more than a handler has turns, so that the shared count of turns
-- always stops it first.
unfoldable pub bounded_loop : ℕ → Eval Bool → Eval Flow → Eval Flow
bounded_loop zero test body = trap TooManyTurns
bounded_loop (suc n) test body = test >>= (λ t. if t then (begin_turn >> (body >>= (λ f. go_on_after f (bounded_loop n test body)))) else pure Next)

-- the bound on the tests of one loop: one more than the 100,000 turns of a handler
abbrev pub loop_bound : ℕ
loop_bound = 100001

-- a `while`: what its body declares is out of scope after each turn
abbrev pub while_loop : Eval Bool → Eval Flow → Eval Flow
while_loop test body = bounded_loop loop_bound test (in_new_scope body)

-- the first part of a `for`: a declaration, an assignment or nothing
abbrev pub exec_for_init : ForInit → Action
exec_for_init init.Nothing r = pure tt
exec_for_init (init.Declare d) r = exec_declare d r
exec_for_init (init.Assign a) r = exec_assign a r

-- the test of a `for`; without one it is true
abbrev pub eval_for_test : Option Expr → Context → Eval Bool
eval_for_test None r = pure true
eval_for_test (Some e) r = eval_test e r

-- the last part of a `for`: an assignment or nothing
abbrev pub exec_for_next : Option Assign → Action
exec_for_next None r = pure tt
exec_for_next (Some a) r = exec_assign a r

-- the last part of a `for` comes after its body
abbrev pub for_turn : Eval Flow → Eval (Unit {0}) → Eval Flow
for_turn body next = in_new_scope body >>= (λ f. go_on_after f (next >> pure Next))

-- a `for`: its first part, and then its turns, as long as the test is true
unfoldable pub for_loop_in_scope : Eval (Unit {0}) → Eval Bool → Eval (Unit {0}) → Eval Flow → Eval Flow
for_loop_in_scope first test next body = first >> bounded_loop loop_bound test (for_turn body next)

-- what the parentheses of a `for` declare is out of scope after it
unfoldable pub for_loop : Eval (Unit {0}) → Eval Bool → Eval (Unit {0}) → Eval Flow → Eval Flow
for_loop first test next body = in_new_scope (for_loop_in_scope first test next body)

-- ---- chains

-- a stage with a stage after it owes its reply to its own token
abbrev pub end_of : List StageDenotation → End → End
end_of [] last = last
end_of (m ∷ more) last = end.Token

-- a chain's stages, in the order of the text; it gives the number of its last stage
abbrev pub chain : List StageDenotation → Context → Option ℕ → End → Eval (Option ℕ)
chain [] r before last = pure before
chain (m ∷ more) r before last = m r before (end_of more last) >>= (λ n. chain more r (Some n) last)

-- the last stage of a plain chain owes its reply to nobody, and in a join to the join's next slot
abbrev pub plain_end : List EnclosingJoin → End
plain_end [] = end.Nobody
plain_end (i ∷ is) = end.Place

-- Before `@ currentContinuation` it owes it to whom the present message owes its own, and the handler ends.
-- In a join, where typing forbids it, the chain is a plain one.
abbrev pub exec_passed_chain : List EnclosingJoin → List StageDenotation → StmtDenotation
exec_passed_chain [] stages r = chain stages r None end.Caller >> pure Passed
exec_passed_chain (i ∷ is) stages r = chain stages r None end.Place >> pure Next

-- a chain as a statement: a plain one, or one before `@ currentContinuation`
abbrev pub exec_chain_stmt : Option ℕ → List StageDenotation → StmtDenotation
exec_chain_stmt None stages r = chain stages r None (plain_end r.within) >> pure Next
exec_chain_stmt (Some at) stages r = exec_passed_chain r.within stages r

-- a token stands for the reply of its chain's last stage
abbrev pub declare_reply : List ℕ → Option ℕ → Eval (Unit {0})
declare_reply name (Some n) = declare_token name n
declare_reply name None = pure tt

-- it is in scope after its statement
abbrev pub exec_token_stmt : List ℕ → List StageDenotation → StmtDenotation
exec_token_stmt name stages r = (chain stages r None end.Token >>= declare_reply name) >> pure Next

-- ---- joins

-- a join stands open while its block is executed, and its slots are counted from 0
abbrev pub open_join : ℕ → Bool → Reply → Eval (Unit {0})
open_join n void owes = λ s. Ok (tt, record s { places = 0; joins = s.joins ++ record { number = n; places = []; void = void; reply = owes } ∷ [] })

-- it has as many slots as its block executed chains; then the slots of the join around it are counted on
abbrev pub close_join : ℕ → ℕ → Bool → Reply → ℕ → State → State
close_join i n void owes places s = record s { places = places; joins = slice_set s.joins i (record { number = n; places = replicate s.places None; void = void; reply = owes }) }

-- what the block of the join n reads: it is the innermost join, with the number of the stage before it
abbrev pub within_join : ℕ → Option ℕ → Context → Context
within_join n before r = record r { within = record { join = n; before = before } ∷ r.within }

-- The join n: it is opened, its block is executed, and it is closed with the slots that the block
-- took. It gives n. A `return` in the block, which typing forbids, ends the block alone.
abbrev pub exec_join : Bool → StmtDenotation → Context → Option ℕ → ℕ → Reply → Eval ℕ
exec_join void exec_block r before n owes = λ s.
    and_then ((open_join n void owes >> exec_block (within_join n before r)) s) (λ b. Ok (n, close_join (length s.joins) n void owes s.places b.1))

-- the number of one more join, or a trap where it would be the 1,025th
abbrev pub take_join_serial : Eval ℕ
take_join_serial = λ s. take_limited_serial (length s.joins) s

-- a join takes its number, and the slot that its reply is owed to, before its block
abbrev pub exec_join_stage : (State → Bool) → StmtDenotation → Context → Option ℕ → End → Eval ℕ
exec_join_stage void exec_block r before last = λ s. (take_join_serial >>= (λ n. reply_of_stage last r n >>= (λ owes. exec_join (void s) exec_block r before n owes))) s

-- ---- statements

-- A stage, and what it does. Whether a join is void depends on its text: so this fold also sees the trees that
-- it goes over (a paramorphism), and its carriers are pairs of a tree and its meaning.
abbrev pub StageWithTree : Type 0
StageWithTree = Stage × StageDenotation

-- a statement, and what it does
abbrev pub StmtWithTree : Type 0
StmtWithTree = Stmt × StmtDenotation

-- a chain, and what each of its stages does
abbrev pub ChainWithTree : Type 0
ChainWithTree = Chain × List StageDenotation

-- the stage, statement or chain itself
abbrev pub tree_of : {A B : Type 0} → A × B → A
tree_of p = p.0

-- what the stage, statement or chain does
abbrev pub denotation_of : {A B : Type 0} → A × B → B
denotation_of p = p.1

-- what a stage does, made of what its parts do: a message is sent, or a join executes its block
abbrev pub stage_denotation : Stage-F StageWithTree StmtWithTree ChainWithTree → StageDenotation
stage_denotation (Stage-F.Message m) = message m
stage_denotation (Stage-F.Join at body) = λ r. exec_join_stage (λ s. is_void_join (map tree_of body) (scope_of r s)) (sequence_in_scope (map denotation_of body)) r

-- what each kind of statement does, made of what its parts do; a `return` without an expression returns null
abbrev pub stmt_denotation : Stmt-F StageWithTree StmtWithTree ChainWithTree → StmtDenotation
stmt_denotation (Stmt-F.Empty at) r = pure Next
stmt_denotation (Stmt-F.Block at list) r = sequence_in_scope (map denotation_of list) r
stmt_denotation (Stmt-F.Declare d) r = exec_declare d r >> pure Next
stmt_denotation (Stmt-F.Assign a) r = exec_assign a r >> pure Next
stmt_denotation (Stmt-F.If at test first None) r = eval_test test r >>= (λ b. if b then in_new_scope (first.1 r) else pure Next)
stmt_denotation (Stmt-F.If at test first (Some second)) r = eval_test test r >>= (λ b. if b then in_new_scope (first.1 r) else in_new_scope (second.1 r))
stmt_denotation (Stmt-F.While at test body) r = while_loop (eval_test test r) (body.1 r)
stmt_denotation (Stmt-F.For at first test next body) r = for_loop (exec_for_init first r) (eval_for_test test r) (exec_for_next next r) (body.1 r)
stmt_denotation (Stmt-F.Return at value) r = initial_value value Null r >>= (λ v. pure (Returned v))
stmt_denotation (Stmt-F.Token at name c) r = exec_token_stmt name.text c.1 r
stmt_denotation (Stmt-F.Chain c passed) r = exec_chain_stmt passed c.1 r

-- what each stage of a chain does
abbrev pub stage_denotations : Chain-F StageWithTree StmtWithTree ChainWithTree → List StageDenotation
stage_denotations c = map denotation_of c.stages

-- a stage and what it does, made of the same of its parts
abbrev pub stage_step : Stage-F StageWithTree StmtWithTree ChainWithTree → StageWithTree
stage_step x = (roll-Stage (map-Stage StageWithTree StmtWithTree ChainWithTree Stage Stmt Chain tree_of tree_of tree_of x), stage_denotation x)

-- a statement and what it does, made of the same of its parts
abbrev pub stmt_step : Stmt-F StageWithTree StmtWithTree ChainWithTree → StmtWithTree
stmt_step x = (roll-Stmt (map-Stmt StageWithTree StmtWithTree ChainWithTree Stage Stmt Chain tree_of tree_of tree_of x), stmt_denotation x)

-- a chain and what each of its stages does, made of the same of its stages
abbrev pub chain_step : Chain-F StageWithTree StmtWithTree ChainWithTree → ChainWithTree
chain_step x = (roll-Chain (map-Chain StageWithTree StmtWithTree ChainWithTree Stage Stmt Chain tree_of tree_of tree_of x), stage_denotations x)

-- a stage, and what it does
unfoldable pub stage_with_tree : Stage → StageWithTree
stage_with_tree = fold-Stage StageWithTree StmtWithTree ChainWithTree stage_step stmt_step chain_step

-- a statement, and what it does
unfoldable pub stmt_with_tree : Stmt → StmtWithTree
stmt_with_tree = fold-Stmt StageWithTree StmtWithTree ChainWithTree stage_step stmt_step chain_step

-- a chain, and what each of its stages does
unfoldable pub chain_with_tree : Chain → ChainWithTree
chain_with_tree = fold-Chain StageWithTree StmtWithTree ChainWithTree stage_step stmt_step chain_step

-- what a statement does
abbrev pub exec : Stmt → StmtDenotation
exec x = (stmt_with_tree x).1

-- what a stage does
abbrev pub exec_stage : Stage → StageDenotation
exec_stage x = (stage_with_tree x).1

-- what a block does
abbrev pub exec_block : List Stmt → StmtDenotation
exec_block body = sequence_in_scope (map exec body)
