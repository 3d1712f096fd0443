-- What a handler leaves is fair.
use Rattle.std.proofs.Common.{◌≡◌, ℕ, if◌then◌else◌, List, [], ◌∷◌, ◌++◌, map, Some, None, sym, subst}
use Rattle.sal_ast.specs.declared.statement.Stage.{Stage}
use Rattle.sal_ast.specs.declared.statement.Stmt.{Stmt}
use Rattle.sal_ast.specs.declared.statement.Chain.{Chain}
use Rattle.sal_ast.specs.declared.statement.Stage.TheViews.{roll-Stage, roll-Stmt, roll-Chain}
use Rattle.sal_ast.specs.declared.statement.Stage.TheOpen.{Stage-F, Stmt-F, Chain-F}
use Rattle.sal_ast.specs.declared.statement.Stage.TheFolds.{map-Stage, map-Stmt, map-Chain, fold-roll-Stage, fold-roll-Stmt, fold-roll-Chain}
use Rattle.sal_handler.proofs.Addresses.{each_front, each_back}
use Rattle.sal_handler.specs.declared.state.Flow.TheVariants.{Next, Returned}
use Rattle.sal_handler.specs.Evaluation.{pure}
use Rattle.sal_ast.specs.Sorts.{is_void_join}
use Rattle.sal_value.specs.declared.value.Value.TheVariants.{Null}
use Rattle.sal_handler.proofs.Lawful.{lawful_null}
use Rattle.sal_handler.specs.Scopes.{in_new_scope, scope_of}
use Rattle.sal_handler.proofs.Sound as d
use Rattle.sal_handler.proofs.FairExpressions as x
use Rattle.sal_handler.specs.Statements as t
use Rattle.sal_handler.specs.Statements.{StageWithTree, StmtWithTree, ChainWithTree, StageDenotation, StmtDenotation, stage_denotation, stmt_denotation, stage_step, stmt_step, chain_step, exec, exec_block, tree_of, denotation_of}
use Rattle.sal_handler.specs.WellFormed.{EachOf, IsAmong, concat_sizes, sizes_of_stage, sizes_of_stmt, sizes_of_chain, stage_sizes, stmt_sizes, chain_sizes, body_sizes}
use Rattle.sal_handler.proofs.Induction.{OfStage, OfStmt, of_stmt}
use Rattle.sal_handler.proofs.Sound.{Able}
use Rattle.sal_handler.proofs.FairMessages as y
use Rattle.sal_handler.proofs.FairJoins as j
use Rattle.sal_handler.proofs.FairJoins.{RunFair, exit, FlowOk}
use Rattle.sal_handler.proofs.Executions.{stmt_part}
use Rattle.sal_handler.proofs.FairStatements as s

-- ---- how many arguments the messages of a part have

abbrev stage_parts : Stage-F StageWithTree StmtWithTree ChainWithTree → Stage-F Stage Stmt Chain
stage_parts = map-Stage StageWithTree StmtWithTree ChainWithTree Stage Stmt Chain tree_of tree_of tree_of

abbrev stmt_parts : Stmt-F StageWithTree StmtWithTree ChainWithTree → Stmt-F Stage Stmt Chain
stmt_parts = map-Stmt StageWithTree StmtWithTree ChainWithTree Stage Stmt Chain tree_of tree_of tree_of

abbrev chain_parts : Chain-F StageWithTree StmtWithTree ChainWithTree → Chain-F Stage Stmt Chain
chain_parts = map-Chain StageWithTree StmtWithTree ChainWithTree Stage Stmt Chain tree_of tree_of tree_of

stage_rolled : (z : Stage-F Stage Stmt Chain) → stage_sizes (roll-Stage z) ≡ sizes_of_stage (map-Stage Stage Stmt Chain (List ℕ) (List ℕ) (List ℕ) stage_sizes stmt_sizes chain_sizes z)
unfolding stage_sizes stmt_sizes chain_sizes
stage_rolled z = fold-roll-Stage (List ℕ) (List ℕ) (List ℕ) sizes_of_stage sizes_of_stmt sizes_of_chain z

stmt_rolled : (z : Stmt-F Stage Stmt Chain) → stmt_sizes (roll-Stmt z) ≡ sizes_of_stmt (map-Stmt Stage Stmt Chain (List ℕ) (List ℕ) (List ℕ) stage_sizes stmt_sizes chain_sizes z)
unfolding stage_sizes stmt_sizes chain_sizes
stmt_rolled z = fold-roll-Stmt (List ℕ) (List ℕ) (List ℕ) sizes_of_stage sizes_of_stmt sizes_of_chain z

chain_rolled : (z : Chain-F Stage Stmt Chain) → chain_sizes (roll-Chain z) ≡ sizes_of_chain (map-Chain Stage Stmt Chain (List ℕ) (List ℕ) (List ℕ) stage_sizes stmt_sizes chain_sizes z)
unfolding stage_sizes stmt_sizes chain_sizes
chain_rolled z = fold-roll-Chain (List ℕ) (List ℕ) (List ℕ) sizes_of_stage sizes_of_stmt sizes_of_chain z

module _ (Asked : Type 0) (from : ℕ) (sizes : List ℕ) (width : ℕ) where
  -- each of these numbers is among the sizes
  abbrev pub In : List ℕ → Type 0
  In = EachOf (λ n. IsAmong n sizes)

  front : (xs ys : List ℕ) → In (xs ++ ys) → In xs
  front xs ys l = each_front (λ n. IsAmong n sizes) xs ys l

  back : (xs ys : List ℕ) → In (xs ++ ys) → In ys
  back xs ys l = each_back (λ n. IsAmong n sizes) xs ys l

  abbrev G : StageWithTree → Type 0
  G x = In (stage_sizes x.0) → y.StageFair Asked from sizes width x.1

  abbrev T : StmtWithTree → Type 0
  T x = In (stmt_sizes x.0) → RunFair Asked from sizes width x.1

  abbrev C : ChainWithTree → Type 0
  C x = In (chain_sizes x.0) → EachOf (y.StageFair Asked from sizes width) x.1

  runs_of : (list : List StmtWithTree) → EachOf T list → In (concat_sizes (map stmt_sizes (map tree_of list))) → EachOf (RunFair Asked from sizes width) (map denotation_of list)
  runs_of [] f l = tt
  runs_of (x ∷ xs) f l = (f.0 (front (stmt_sizes x.0) (concat_sizes (map stmt_sizes (map tree_of xs))) l), runs_of xs f.1 (back (stmt_sizes x.0) (concat_sizes (map stmt_sizes (map tree_of xs))) l))

  stages_of : (list : List StageWithTree) → EachOf G list → In (concat_sizes (map stage_sizes (map tree_of list))) → EachOf (y.StageFair Asked from sizes width) (map denotation_of list)
  stages_of [] f l = tt
  stages_of (x ∷ xs) f l = (f.0 (front (stage_sizes x.0) (concat_sizes (map stage_sizes (map tree_of xs))) l), stages_of xs f.1 (back (stage_sizes x.0) (concat_sizes (map stage_sizes (map tree_of xs))) l))

  stage_fair : (x : Stage-F StageWithTree StmtWithTree ChainWithTree) → OfStage G T C x → G (stage_step x)
  stage_fair (Stage-F.Message m) f l = y.message_fair Asked from sizes width m (subst In (stage_rolled (Stage-F.Message m)) l).0
  stage_fair (Stage-F.Join at body) f l = λ r. j.join_fair Asked from sizes width (λ s. is_void_join (map tree_of body) (scope_of r s)) (t.sequence_in_scope (map denotation_of body)) (s.blocked_fair Asked from sizes width (map denotation_of body) (runs_of body f (subst In (stage_rolled (stage_parts (Stage-F.Join at body))) l))) r

  abbrev low : (x : Stmt-F StageWithTree StmtWithTree ChainWithTree) → Type 0
  low x = In (sizes_of_stmt (map-Stmt Stage Stmt Chain (List ℕ) (List ℕ) (List ℕ) stage_sizes stmt_sizes chain_sizes (stmt_parts x)))

  stmt_by : (z : Stmt-F StageWithTree StmtWithTree ChainWithTree) → OfStmt G T C z → low z → RunFair Asked from sizes width (stmt_denotation z)
  stmt_by (Stmt-F.Empty at) f l r p entry able u h = d.fair_pure Asked from sizes width r (exit Asked from sizes width p) (FlowOk Asked from sizes width r) u Next h tt
  stmt_by (Stmt-F.Block at list) f l r p entry able u h = s.blocked_fair Asked from sizes width (map denotation_of list) (runs_of list f l) r p entry able u h
  stmt_by (Stmt-F.Declare y) f l r p entry able u h = s.goes_on Asked from sizes width r p (s.Done Asked from sizes width) u (t.exec_declare y r) (s.declared_fair Asked from sizes width y r p able u h)
  stmt_by (Stmt-F.Assign a) f l r p entry able u h = s.goes_on Asked from sizes width r p (s.Done Asked from sizes width) u (t.exec_assign a r) (s.assigned_fair Asked from sizes width a r p able u h)
  stmt_by (Stmt-F.If at test first None) f l r p entry able u h =
      x.keeps_then Asked from sizes width r p (s.OfTest Asked from sizes width) (exit Asked from sizes width p) (FlowOk Asked from sizes width r) u (t.eval_test test r) (λ b. if b then in_new_scope (first.1 r) else pure Next) (s.truth_fair Asked from sizes width test r p able u h) (λ b v mv k q.
      d.fair_if Asked from sizes width r (exit Asked from sizes width p) (FlowOk Asked from sizes width r) v b (in_new_scope (first.1 r)) (pure Next)
      (s.scoped_fair Asked from sizes width r p (first.1 r) v (f.0 l r p entry able v k)) (d.fair_pure Asked from sizes width r (exit Asked from sizes width p) (FlowOk Asked from sizes width r) v Next k tt))
  stmt_by (Stmt-F.If at test first (Some second)) f l r p entry able u h =
      x.keeps_then Asked from sizes width r p (s.OfTest Asked from sizes width) (exit Asked from sizes width p) (FlowOk Asked from sizes width r) u (t.eval_test test r) (λ b. if b then in_new_scope (first.1 r) else in_new_scope (second.1 r)) (s.truth_fair Asked from sizes width test r p able u h) (λ b v mv k q.
      d.fair_if Asked from sizes width r (exit Asked from sizes width p) (FlowOk Asked from sizes width r) v b (in_new_scope (first.1 r)) (in_new_scope (second.1 r))
      (s.scoped_fair Asked from sizes width r p (first.1 r) v (f.0 (front (stmt_sizes first.0) (stmt_sizes second.0) l) r p entry able v k)) (s.scoped_fair Asked from sizes width r p (second.1 r) v (f.1 (back (stmt_sizes first.0) (stmt_sizes second.0) l) r p entry able v k)))
  stmt_by (Stmt-F.While at test body) f l r p entry able u h =
      s.looped_fair Asked from sizes width t.loop_bound (t.eval_test test r) (in_new_scope (body.1 r)) r p (λ v k. s.truth_fair Asked from sizes width test r p able v k) (λ v k. s.scoped_fair Asked from sizes width r p (body.1 r) v (f l r p entry able v k)) u h
  stmt_by (Stmt-F.For at first test next body) f l r p entry able u h = s.for_fair Asked from sizes width first test next body.1 (f l) r p entry able u h
  stmt_by (Stmt-F.Return at value) f l r p entry able u h =
      x.keeps_then Asked from sizes width r p (s.OfValue Asked from sizes width) (exit Asked from sizes width p) (FlowOk Asked from sizes width r) u (t.initial_value value Null r) (λ v. pure (Returned v)) (s.first_fair Asked from sizes width value Null (lawful_null Asked) r p able u h) (λ v w mv k q. d.fair_pure Asked from sizes width r (exit Asked from sizes width p) (FlowOk Asked from sizes width r) w (Returned v) k q)
  stmt_by (Stmt-F.Token at name c) f l r p entry able u h = s.named_fair Asked from sizes width name.text c.1 (f l) r p entry able u h
  stmt_by (Stmt-F.Chain c passed) f l r p entry able u h = s.ended_fair Asked from sizes width passed c.1 (f l) r p entry able u h

  stmt_fair : (z : Stmt-F StageWithTree StmtWithTree ChainWithTree) → OfStmt G T C z → T (stmt_step z)
  stmt_fair z f l = stmt_by z f (subst In (stmt_rolled (stmt_parts z)) l)

  chain_fair : (z : Chain-F StageWithTree StmtWithTree ChainWithTree) → EachOf G z.stages → C (chain_step z)
  chain_fair z f l = stages_of z.stages f (subst In (chain_rolled (chain_parts z)) l)

  pub exec_fair : (z : Stmt) → In (stmt_sizes z) → RunFair Asked from sizes width (exec z)
  exec_fair z l = of_stmt G T C stage_fair stmt_fair chain_fair z (subst (λ y. In (stmt_sizes y)) (sym (stmt_part z)) l)

  execs_fair : (body : List Stmt) → In (body_sizes body) → EachOf (RunFair Asked from sizes width) (map exec body)
  execs_fair [] l = tt
  execs_fair (z ∷ zs) l = (exec_fair z (front (stmt_sizes z) (body_sizes zs) l), execs_fair zs (back (stmt_sizes z) (body_sizes zs) l))

  pub block_fair : (body : List Stmt) → In (body_sizes body) → RunFair Asked from sizes width (exec_block body)
  block_fair body l = s.blocked_fair Asked from sizes width (map exec body) (execs_fair body l)
