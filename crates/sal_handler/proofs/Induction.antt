-- What holds of every form's meaning where it holds of the meanings of its parts, holds of all
-- expressions, statements and stages.
use Rattle.std.proofs.Common.{ℕ, List, [], ◌∷◌, map, Option, Some, None, sym, subst}
use Rattle.sal_ast.specs.declared.expression.Expr.{Expr}
use Rattle.sal_ast.specs.declared.expression.Suffix.{Suffix}
use Rattle.sal_ast.specs.declared.expression.At.{At}
use Rattle.sal_ast.specs.declared.expression.Operand.{Operand}
use Rattle.sal_ast.specs.declared.expression.Expr.TheViews.{roll-Expr, roll-Suffix, roll-At, roll-Operand}
use Rattle.sal_ast.specs.declared.expression.Expr.TheOpen.{Expr-F, Suffix-F, At-F, Operand-F}
use Rattle.sal_ast.specs.declared.expression.Expr.TheFolds.{map-Expr, map-Suffix, map-At, map-Operand, fold-roll-Expr, fold-roll-Suffix, fold-roll-At, fold-roll-Operand, ind-Expr}
use Rattle.sal_ast.specs.declared.statement.Stage.{Stage}
use Rattle.sal_ast.specs.declared.statement.Stmt.{Stmt}
use Rattle.sal_ast.specs.declared.statement.Chain.{Chain}
use Rattle.sal_ast.specs.declared.statement.Stage.TheViews.{roll-Stage, roll-Stmt, roll-Chain}
use Rattle.sal_ast.specs.declared.statement.Stage.TheOpen.{Stage-F, Stmt-F, Chain-F}
use Rattle.sal_ast.specs.declared.statement.Stage.TheFolds.{map-Stage, map-Stmt, map-Chain, fold-roll-Stage, fold-roll-Stmt, fold-roll-Chain, ind-Stmt}
use Rattle.sal_ast.proofs.Closing.{Known}
use Rattle.sal_handler.specs.WellFormed.{EachOf}
use Rattle.sal_handler.specs.Expressions.{Denotation, SuffixDenotation, LocationDenotation, OperandDenotation, expr_step, suffix_step, at_step, operand_step, eval, suffix, location, operand}
use Rattle.sal_handler.specs.Statements.{StageWithTree, StmtWithTree, ChainWithTree, stage_step, stmt_step, chain_step, stage_with_tree, stmt_with_tree, chain_with_tree}

abbrev pub IfAny : {X : Type 0} → (X → Type 0) → Option X → Type 0
IfAny P None = Unit {0}
IfAny P (Some x) = P x

module _ (P : Denotation → Type 0) where
  abbrev pub OfBehind : SuffixDenotation → Type 0
  OfBehind = IfAny P

  abbrev pub OfWhere : LocationDenotation → Type 0
  OfWhere w = P w.0 × IfAny P w.1

  abbrev pub OfPart : OperandDenotation → Type 0
  OfPart p = P p.1

  -- it holds of each part of a form
  abbrev pub OfExpr : Expr-F Denotation SuffixDenotation LocationDenotation OperandDenotation → Type 0
  OfExpr (Expr-F.Number n at) = Unit {0}
  OfExpr (Expr-F.Str text at) = Unit {0}
  OfExpr (Expr-F.Bool b at) = Unit {0}
  OfExpr (Expr-F.Null at) = Unit {0}
  OfExpr (Expr-F.Me at) = Unit {0}
  OfExpr (Expr-F.Name name) = Unit {0}
  OfExpr (Expr-F.Own at name) = Unit {0}
  OfExpr (Expr-F.Paren at e) = P e
  OfExpr (Expr-F.Neg at e) = P e
  OfExpr (Expr-F.Not at e) = P e
  OfExpr (Expr-F.Level first rest) = P first × EachOf OfPart rest
  OfExpr (Expr-F.Suffixed first rest) = P first × EachOf OfBehind rest
  OfExpr (Expr-F.New at behavior args place) = EachOf P args × IfAny OfWhere place
  OfExpr (Expr-F.Make at sort size) = P size
  OfExpr (Expr-F.ListOf at sort items) = EachOf P items
  OfExpr (Expr-F.ByName at cast behavior text) = P text

  module _ (step : (x : Expr-F Denotation SuffixDenotation LocationDenotation OperandDenotation) → OfExpr x → P (expr_step x)) where
    abbrev PE : Expr → Type 0
    PE e = P (eval e)

    abbrev PS : Suffix → Type 0
    PS x = OfBehind (suffix x)

    abbrev PA : At → Type 0
    PA x = OfWhere (location x)

    abbrev PO : Operand → Type 0
    PO x = OfPart (operand x)

    each_expr : (list : List (Known Expr PE)) → EachOf P (map eval (map (λ z. z.0) list))
    each_expr [] = tt
    each_expr (x ∷ xs) = (x.1, each_expr xs)

    each_suffix : (list : List (Known Suffix PS)) → EachOf OfBehind (map suffix (map (λ z. z.0) list))
    each_suffix [] = tt
    each_suffix (x ∷ xs) = (x.1, each_suffix xs)

    each_operand : (list : List (Known Operand PO)) → EachOf OfPart (map operand (map (λ z. z.0) list))
    each_operand [] = tt
    each_operand (x ∷ xs) = (x.1, each_operand xs)

    abbrev LayerE : Type 0
    LayerE = Expr-F (Known Expr PE) (Known Suffix PS) (Known At PA) (Known Operand PO)

    abbrev trees : LayerE → Expr-F Expr Suffix At Operand
    trees = map-Expr (Known Expr PE) (Known Suffix PS) (Known At PA) (Known Operand PO) Expr Suffix At Operand (λ z. z.0) (λ z. z.0) (λ z. z.0) (λ z. z.0)

    abbrev means : Expr-F Expr Suffix At Operand → Expr-F Denotation SuffixDenotation LocationDenotation OperandDenotation
    means = map-Expr Expr Suffix At Operand Denotation SuffixDenotation LocationDenotation OperandDenotation eval suffix location operand

    parts : (y : LayerE) → OfExpr (means (trees y))
    parts (Expr-F.Number n at) = tt
    parts (Expr-F.Str text at) = tt
    parts (Expr-F.Bool b at) = tt
    parts (Expr-F.Null at) = tt
    parts (Expr-F.Me at) = tt
    parts (Expr-F.Name name) = tt
    parts (Expr-F.Own at name) = tt
    parts (Expr-F.Paren at e) = e.1
    parts (Expr-F.Neg at e) = e.1
    parts (Expr-F.Not at e) = e.1
    parts (Expr-F.Level first rest) = (first.1, each_operand rest)
    parts (Expr-F.Suffixed first rest) = (first.1, each_suffix rest)
    parts (Expr-F.New at behavior args None) = (each_expr args, tt)
    parts (Expr-F.New at behavior args (Some w)) = (each_expr args, w.1)
    parts (Expr-F.Make at sort size) = size.1
    parts (Expr-F.ListOf at sort items) = each_expr items
    parts (Expr-F.ByName at cast behavior text) = text.1

    expr_layer : (y : LayerE) → PE (roll-Expr (trees y))
    unfolding eval suffix location operand
    expr_layer y = subst P (sym (fold-roll-Expr Denotation SuffixDenotation LocationDenotation OperandDenotation expr_step suffix_step at_step operand_step (trees y))) (step (means (trees y)) (parts y))

    abbrev LayerS : Type 0
    LayerS = Suffix-F (Known Expr PE) (Known Suffix PS) (Known At PA) (Known Operand PO)

    abbrev suffix_trees : LayerS → Suffix-F Expr Suffix At Operand
    suffix_trees = map-Suffix (Known Expr PE) (Known Suffix PS) (Known At PA) (Known Operand PO) Expr Suffix At Operand (λ z. z.0) (λ z. z.0) (λ z. z.0) (λ z. z.0)

    suffix_parts : (y : LayerS) → OfBehind (suffix_step (map-Suffix Expr Suffix At Operand Denotation SuffixDenotation LocationDenotation OperandDenotation eval suffix location operand (suffix_trees y)))
    suffix_parts (Suffix-F.Index at e) = e.1
    suffix_parts (Suffix-F.Length at) = tt

    suffix_layer : (y : LayerS) → PS (roll-Suffix (suffix_trees y))
    unfolding eval suffix location operand
    suffix_layer y = subst OfBehind (sym (fold-roll-Suffix Denotation SuffixDenotation LocationDenotation OperandDenotation expr_step suffix_step at_step operand_step (suffix_trees y))) (suffix_parts y)

    abbrev LayerA : Type 0
    LayerA = At-F (Known Expr PE) (Known Suffix PS) (Known At PA) (Known Operand PO)

    abbrev at_trees : LayerA → At-F Expr Suffix At Operand
    at_trees = map-At (Known Expr PE) (Known Suffix PS) (Known At PA) (Known Operand PO) Expr Suffix At Operand (λ z. z.0) (λ z. z.0) (λ z. z.0) (λ z. z.0)

    at_parts : (at : ℕ) (e : Known Expr PE) (o : Option (Known Expr PE)) → OfWhere (at_step (map-At Expr Suffix At Operand Denotation SuffixDenotation LocationDenotation OperandDenotation eval suffix location operand (at_trees (record { at = at; uan = e; ual = o }))))
    at_parts at e None = (e.1, tt)
    at_parts at e (Some l) = (e.1, l.1)

    at_layer : (y : LayerA) → PA (roll-At (at_trees y))
    unfolding eval suffix location operand
    at_layer y = subst OfWhere (sym (fold-roll-At Denotation SuffixDenotation LocationDenotation OperandDenotation expr_step suffix_step at_step operand_step (at_trees y))) (at_parts y.at y.uan y.ual)

    abbrev LayerO : Type 0
    LayerO = Operand-F (Known Expr PE) (Known Suffix PS) (Known At PA) (Known Operand PO)

    abbrev operand_trees : LayerO → Operand-F Expr Suffix At Operand
    operand_trees = map-Operand (Known Expr PE) (Known Suffix PS) (Known At PA) (Known Operand PO) Expr Suffix At Operand (λ z. z.0) (λ z. z.0) (λ z. z.0) (λ z. z.0)

    operand_layer : (y : LayerO) → PO (roll-Operand (operand_trees y))
    unfolding eval suffix location operand
    operand_layer y = subst OfPart (sym (fold-roll-Operand Denotation SuffixDenotation LocationDenotation OperandDenotation expr_step suffix_step at_step operand_step (operand_trees y))) y.value.1

    pub of_expr : (e : Expr) → P (eval e)
    of_expr = ind-Expr PE PS PA PO (λ x y is. subst (λ z. PE (roll-Expr z)) is (expr_layer y)) (λ x y is. subst (λ z. PS (roll-Suffix z)) is (suffix_layer y)) (λ x y is. subst (λ z. PA (roll-At z)) is (at_layer y)) (λ x y is. subst (λ z. PO (roll-Operand z)) is (operand_layer y))

module _ (G : StageWithTree → Type 0) (T : StmtWithTree → Type 0) (C : ChainWithTree → Type 0) where
  abbrev pub OfStage : Stage-F StageWithTree StmtWithTree ChainWithTree → Type 0
  OfStage (Stage-F.Message m) = Unit {0}
  OfStage (Stage-F.Join at body) = EachOf T body

  abbrev pub OfStmt : Stmt-F StageWithTree StmtWithTree ChainWithTree → Type 0
  OfStmt (Stmt-F.Empty at) = Unit {0}
  OfStmt (Stmt-F.Block at list) = EachOf T list
  OfStmt (Stmt-F.Declare d) = Unit {0}
  OfStmt (Stmt-F.Assign a) = Unit {0}
  OfStmt (Stmt-F.If at test first second) = T first × IfAny T second
  OfStmt (Stmt-F.While at test body) = T body
  OfStmt (Stmt-F.For at first test next body) = T body
  OfStmt (Stmt-F.Return at value) = Unit {0}
  OfStmt (Stmt-F.Token at name c) = C c
  OfStmt (Stmt-F.Chain c passed) = C c

  module _ (stages : (x : Stage-F StageWithTree StmtWithTree ChainWithTree) → OfStage x → G (stage_step x)) (stmts : (x : Stmt-F StageWithTree StmtWithTree ChainWithTree) → OfStmt x → T (stmt_step x)) (chains : (x : Chain-F StageWithTree StmtWithTree ChainWithTree) → EachOf G x.stages → C (chain_step x)) where
    abbrev PG : Stage → Type 0
    PG x = G (stage_with_tree x)

    abbrev PT : Stmt → Type 0
    PT x = T (stmt_with_tree x)

    abbrev PC : Chain → Type 0
    PC x = C (chain_with_tree x)

    each_stmt : (list : List (Known Stmt PT)) → EachOf T (map stmt_with_tree (map (λ z. z.0) list))
    each_stmt [] = tt
    each_stmt (x ∷ xs) = (x.1, each_stmt xs)

    each_stage : (list : List (Known Stage PG)) → EachOf G (map stage_with_tree (map (λ z. z.0) list))
    each_stage [] = tt
    each_stage (x ∷ xs) = (x.1, each_stage xs)

    abbrev LayerG : Type 0
    LayerG = Stage-F (Known Stage PG) (Known Stmt PT) (Known Chain PC)

    abbrev LayerT : Type 0
    LayerT = Stmt-F (Known Stage PG) (Known Stmt PT) (Known Chain PC)

    abbrev LayerC : Type 0
    LayerC = Chain-F (Known Stage PG) (Known Stmt PT) (Known Chain PC)

    abbrev stage_trees : LayerG → Stage-F Stage Stmt Chain
    stage_trees = map-Stage (Known Stage PG) (Known Stmt PT) (Known Chain PC) Stage Stmt Chain (λ z. z.0) (λ z. z.0) (λ z. z.0)

    abbrev stmt_trees : LayerT → Stmt-F Stage Stmt Chain
    stmt_trees = map-Stmt (Known Stage PG) (Known Stmt PT) (Known Chain PC) Stage Stmt Chain (λ z. z.0) (λ z. z.0) (λ z. z.0)

    abbrev chain_trees : LayerC → Chain-F Stage Stmt Chain
    chain_trees = map-Chain (Known Stage PG) (Known Stmt PT) (Known Chain PC) Stage Stmt Chain (λ z. z.0) (λ z. z.0) (λ z. z.0)

    abbrev stage_senses : Stage-F Stage Stmt Chain → Stage-F StageWithTree StmtWithTree ChainWithTree
    stage_senses = map-Stage Stage Stmt Chain StageWithTree StmtWithTree ChainWithTree stage_with_tree stmt_with_tree chain_with_tree

    abbrev stmt_senses : Stmt-F Stage Stmt Chain → Stmt-F StageWithTree StmtWithTree ChainWithTree
    stmt_senses = map-Stmt Stage Stmt Chain StageWithTree StmtWithTree ChainWithTree stage_with_tree stmt_with_tree chain_with_tree

    abbrev chain_senses : Chain-F Stage Stmt Chain → Chain-F StageWithTree StmtWithTree ChainWithTree
    chain_senses = map-Chain Stage Stmt Chain StageWithTree StmtWithTree ChainWithTree stage_with_tree stmt_with_tree chain_with_tree

    stage_parts : (y : LayerG) → OfStage (stage_senses (stage_trees y))
    stage_parts (Stage-F.Message m) = tt
    stage_parts (Stage-F.Join at body) = each_stmt body

    stmt_parts : (y : LayerT) → OfStmt (stmt_senses (stmt_trees y))
    stmt_parts (Stmt-F.Empty at) = tt
    stmt_parts (Stmt-F.Block at list) = each_stmt list
    stmt_parts (Stmt-F.Declare d) = tt
    stmt_parts (Stmt-F.Assign a) = tt
    stmt_parts (Stmt-F.If at test first None) = (first.1, tt)
    stmt_parts (Stmt-F.If at test first (Some second)) = (first.1, second.1)
    stmt_parts (Stmt-F.While at test body) = body.1
    stmt_parts (Stmt-F.For at first test next body) = body.1
    stmt_parts (Stmt-F.Return at value) = tt
    stmt_parts (Stmt-F.Token at name c) = c.1
    stmt_parts (Stmt-F.Chain c passed) = c.1

    stage_layer : (y : LayerG) → PG (roll-Stage (stage_trees y))
    unfolding stage_with_tree stmt_with_tree chain_with_tree
    stage_layer y = subst G (sym (fold-roll-Stage StageWithTree StmtWithTree ChainWithTree stage_step stmt_step chain_step (stage_trees y))) (stages (stage_senses (stage_trees y)) (stage_parts y))

    stmt_layer : (y : LayerT) → PT (roll-Stmt (stmt_trees y))
    unfolding stage_with_tree stmt_with_tree chain_with_tree
    stmt_layer y = subst T (sym (fold-roll-Stmt StageWithTree StmtWithTree ChainWithTree stage_step stmt_step chain_step (stmt_trees y))) (stmts (stmt_senses (stmt_trees y)) (stmt_parts y))

    chain_layer : (y : LayerC) → PC (roll-Chain (chain_trees y))
    unfolding stage_with_tree stmt_with_tree chain_with_tree
    chain_layer y = subst C (sym (fold-roll-Chain StageWithTree StmtWithTree ChainWithTree stage_step stmt_step chain_step (chain_trees y))) (chains (chain_senses (chain_trees y)) (each_stage y.stages))

    pub of_stmt : (x : Stmt) → T (stmt_with_tree x)
    of_stmt = ind-Stmt PG PT PC (λ x y is. subst (λ z. PG (roll-Stage z)) is (stage_layer y)) (λ x y is. subst (λ z. PT (roll-Stmt z)) is (stmt_layer y)) (λ x y is. subst (λ z. PC (roll-Chain z)) is (chain_layer y))
