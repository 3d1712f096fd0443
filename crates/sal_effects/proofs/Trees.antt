-- Inductions over trees that know the texts in them.
use Rattle.std.proofs.Common.{◌≡◌, ℕ, Bool, List, [], ◌∷◌, map, Option, Some, None, sym, subst}
use Rattle.sal_ast.specs.declared.expression.Expr.{Expr}
use Rattle.sal_ast.specs.declared.expression.Suffix.{Suffix}
use Rattle.sal_ast.specs.declared.expression.At.{At}
use Rattle.sal_ast.specs.declared.expression.Operand.{Operand}
use Rattle.sal_ast.specs.declared.expression.Expr.TheViews.{roll-Expr, roll-Suffix, roll-At, roll-Operand}
use Rattle.sal_ast.specs.declared.expression.Expr.TheOpen.{Expr-F, Suffix-F, At-F, Operand-F}
use Rattle.sal_ast.specs.declared.expression.Expr.TheFolds.{map-Expr, map-Suffix, map-At, map-Operand, fold-roll-Expr, fold-roll-Suffix, fold-roll-At, fold-roll-Operand, ind-Expr}
use Rattle.sal_ast.specs.declared.statement.Stage.{Stage}
use Rattle.sal_ast.specs.declared.statement.Stmt.{Stmt}
use Rattle.sal_ast.specs.declared.statement.Chain.{Chain}
use Rattle.sal_ast.specs.declared.statement.Stage.TheViews.{roll-Stage, roll-Stmt, roll-Chain}
use Rattle.sal_ast.specs.declared.statement.Stage.TheOpen.{Stage-F, Stmt-F, Chain-F}
use Rattle.sal_ast.specs.declared.statement.Stage.TheFolds.{map-Stage, map-Stmt, map-Chain, fold-roll-Stage, fold-roll-Stmt, fold-roll-Chain}
use Rattle.sal_ast.specs.Regular.{Form, form_of, stage_is_regular, chain_is_regular}
use Rattle.sal_ast.specs.Regular as regular
use Rattle.sal_ast.proofs.Closing.{Known}
use Rattle.sal_handler.specs.WellFormed.{EachOf}
use Rattle.sal_handler.specs.Expressions.{Denotation, SuffixDenotation, LocationDenotation, OperandDenotation, expr_step, suffix_step, at_step, operand_step, eval, suffix, location, operand}
use Rattle.sal_handler.proofs.Addresses.{each_front, each_back}
use Rattle.sal_handler.proofs.Induction.{IfAny, OfBehind, OfWhere, OfPart}
use Rattle.sal_effects.specs.Texts.{Texts, all_texts, texts_of_expr, texts_of_suffix, texts_of_at, texts_of_operand, expr_texts, suffix_texts, at_texts, operand_texts, texts_of_stage, texts_of_stmt, texts_of_chain, stage_texts, stmt_texts, chain_texts}

-- ---- expressions

module _ (L : List ℕ → Type 0) (P : Denotation → Type 0) where
  -- it holds of each part of a form, and L of a text
  abbrev pub OfExpr : Expr-F Denotation SuffixDenotation LocationDenotation OperandDenotation → Type 0
  OfExpr (Expr-F.Number n at) = Unit {0}
  OfExpr (Expr-F.Str text at) = L text
  OfExpr (Expr-F.Bool b at) = Unit {0}
  OfExpr (Expr-F.Null at) = Unit {0}
  OfExpr (Expr-F.Me at) = Unit {0}
  OfExpr (Expr-F.Name name) = Unit {0}
  OfExpr (Expr-F.Own at name) = Unit {0}
  OfExpr (Expr-F.Paren at e) = P e
  OfExpr (Expr-F.Neg at e) = P e
  OfExpr (Expr-F.Not at e) = P e
  OfExpr (Expr-F.Level first rest) = P first × EachOf (OfPart P) rest
  OfExpr (Expr-F.Suffixed first rest) = P first × EachOf (OfBehind P) rest
  OfExpr (Expr-F.New at behavior args place) = EachOf P args × IfAny (OfWhere P) place
  OfExpr (Expr-F.Make at sort size) = P size
  OfExpr (Expr-F.ListOf at sort items) = EachOf P items
  OfExpr (Expr-F.ByName at cast behavior text) = P text

  module _ (step : (x : Expr-F Denotation SuffixDenotation LocationDenotation OperandDenotation) → OfExpr x → P (expr_step x)) where
    abbrev Good : Texts → Type 0
    Good = EachOf L

    abbrev PE : Expr → Type 0
    PE e = Good (expr_texts e) → P (eval e)

    abbrev PS : Suffix → Type 0
    PS x = Good (suffix_texts x) → OfBehind P (suffix x)

    abbrev PA : At → Type 0
    PA x = Good (at_texts x) → OfWhere P (location x)

    abbrev PO : Operand → Type 0
    PO x = Good (operand_texts x) → OfPart P (operand x)

    each_expr : (list : List (Known Expr PE)) → Good (all_texts (map expr_texts (map (λ z. z.0) list))) → EachOf P (map eval (map (λ z. z.0) list))
    each_expr [] g = tt
    each_expr (x ∷ xs) g = (x.1 (each_front L (expr_texts x.0) (all_texts (map expr_texts (map (λ z. z.0) xs))) g), each_expr xs (each_back L (expr_texts x.0) (all_texts (map expr_texts (map (λ z. z.0) xs))) g))

    each_suffix : (list : List (Known Suffix PS)) → Good (all_texts (map suffix_texts (map (λ z. z.0) list))) → EachOf (OfBehind P) (map suffix (map (λ z. z.0) list))
    each_suffix [] g = tt
    each_suffix (x ∷ xs) g = (x.1 (each_front L (suffix_texts x.0) (all_texts (map suffix_texts (map (λ z. z.0) xs))) g), each_suffix xs (each_back L (suffix_texts x.0) (all_texts (map suffix_texts (map (λ z. z.0) xs))) g))

    each_operand : (list : List (Known Operand PO)) → Good (all_texts (map operand_texts (map (λ z. z.0) list))) → EachOf (OfPart P) (map operand (map (λ z. z.0) list))
    each_operand [] g = tt
    each_operand (x ∷ xs) g = (x.1 (each_front L (operand_texts x.0) (all_texts (map operand_texts (map (λ z. z.0) xs))) g), each_operand xs (each_back L (operand_texts x.0) (all_texts (map operand_texts (map (λ z. z.0) xs))) g))

    abbrev LayerE : Type 0
    LayerE = Expr-F (Known Expr PE) (Known Suffix PS) (Known At PA) (Known Operand PO)

    abbrev trees : LayerE → Expr-F Expr Suffix At Operand
    trees = map-Expr (Known Expr PE) (Known Suffix PS) (Known At PA) (Known Operand PO) Expr Suffix At Operand (λ z. z.0) (λ z. z.0) (λ z. z.0) (λ z. z.0)

    abbrev means : Expr-F Expr Suffix At Operand → Expr-F Denotation SuffixDenotation LocationDenotation OperandDenotation
    means = map-Expr Expr Suffix At Operand Denotation SuffixDenotation LocationDenotation OperandDenotation eval suffix location operand

    abbrev texts : Expr-F Expr Suffix At Operand → Expr-F Texts Texts Texts Texts
    texts = map-Expr Expr Suffix At Operand Texts Texts Texts Texts expr_texts suffix_texts at_texts operand_texts

    parts : (y : LayerE) → Good (texts_of_expr (texts (trees y))) → OfExpr (means (trees y))
    parts (Expr-F.Number n at) g = tt
    parts (Expr-F.Str text at) g = g.0
    parts (Expr-F.Bool b at) g = tt
    parts (Expr-F.Null at) g = tt
    parts (Expr-F.Me at) g = tt
    parts (Expr-F.Name name) g = tt
    parts (Expr-F.Own at name) g = tt
    parts (Expr-F.Paren at e) g = e.1 g
    parts (Expr-F.Neg at e) g = e.1 g
    parts (Expr-F.Not at e) g = e.1 g
    parts (Expr-F.Level first rest) g =
        let behind : Texts = all_texts (map operand_texts (map (λ z. z.0) rest)) in
        (first.1 (each_front L (expr_texts first.0) behind g), each_operand rest (each_back L (expr_texts first.0) behind g))
    parts (Expr-F.Suffixed first rest) g =
        let behind : Texts = all_texts (map suffix_texts (map (λ z. z.0) rest)) in
        (first.1 (each_front L (expr_texts first.0) behind g), each_suffix rest (each_back L (expr_texts first.0) behind g))
    parts (Expr-F.New at behavior args None) g = (each_expr args (each_front L (all_texts (map expr_texts (map (λ z. z.0) args))) [] g), tt)
    parts (Expr-F.New at behavior args (Some w)) g =
        let before : Texts = all_texts (map expr_texts (map (λ z. z.0) args)) in
        (each_expr args (each_front L before (at_texts w.0) g), w.1 (each_back L before (at_texts w.0) g))
    parts (Expr-F.Make at sort size) g = size.1 g
    parts (Expr-F.ListOf at sort items) g = each_expr items g
    parts (Expr-F.ByName at cast behavior text) g = text.1 g

    expr_layer : (y : LayerE) → PE (roll-Expr (trees y))
    unfolding eval suffix location operand expr_texts suffix_texts at_texts operand_texts
    expr_layer y g =
        subst P (sym (fold-roll-Expr Denotation SuffixDenotation LocationDenotation OperandDenotation expr_step suffix_step at_step operand_step (trees y)))
        (step (means (trees y)) (parts y (subst Good (fold-roll-Expr Texts Texts Texts Texts texts_of_expr texts_of_suffix texts_of_at texts_of_operand (trees y)) g)))

    abbrev LayerS : Type 0
    LayerS = Suffix-F (Known Expr PE) (Known Suffix PS) (Known At PA) (Known Operand PO)

    abbrev suffix_trees : LayerS → Suffix-F Expr Suffix At Operand
    suffix_trees = map-Suffix (Known Expr PE) (Known Suffix PS) (Known At PA) (Known Operand PO) Expr Suffix At Operand (λ z. z.0) (λ z. z.0) (λ z. z.0) (λ z. z.0)

    abbrev texts_behind : Suffix-F Expr Suffix At Operand → Suffix-F Texts Texts Texts Texts
    texts_behind = map-Suffix Expr Suffix At Operand Texts Texts Texts Texts expr_texts suffix_texts at_texts operand_texts

    suffix_parts : (y : LayerS) → Good (texts_of_suffix (texts_behind (suffix_trees y))) → OfBehind P (suffix_step (map-Suffix Expr Suffix At Operand Denotation SuffixDenotation LocationDenotation OperandDenotation eval suffix location operand (suffix_trees y)))
    suffix_parts (Suffix-F.Index at e) g = e.1 g
    suffix_parts (Suffix-F.Length at) g = tt

    suffix_layer : (y : LayerS) → PS (roll-Suffix (suffix_trees y))
    unfolding eval suffix location operand expr_texts suffix_texts at_texts operand_texts
    suffix_layer y g =
        subst (OfBehind P) (sym (fold-roll-Suffix Denotation SuffixDenotation LocationDenotation OperandDenotation expr_step suffix_step at_step operand_step (suffix_trees y)))
        (suffix_parts y (subst Good (fold-roll-Suffix Texts Texts Texts Texts texts_of_expr texts_of_suffix texts_of_at texts_of_operand (suffix_trees y)) g))

    abbrev LayerA : Type 0
    LayerA = At-F (Known Expr PE) (Known Suffix PS) (Known At PA) (Known Operand PO)

    abbrev at_trees : LayerA → At-F Expr Suffix At Operand
    at_trees = map-At (Known Expr PE) (Known Suffix PS) (Known At PA) (Known Operand PO) Expr Suffix At Operand (λ z. z.0) (λ z. z.0) (λ z. z.0) (λ z. z.0)

    abbrev texts_at : At-F Expr Suffix At Operand → At-F Texts Texts Texts Texts
    texts_at = map-At Expr Suffix At Operand Texts Texts Texts Texts expr_texts suffix_texts at_texts operand_texts

    at_parts : (at : ℕ) (e : Known Expr PE) (o : Option (Known Expr PE)) → Good (texts_of_at (texts_at (at_trees (record { at = at; uan = e; ual = o })))) → OfWhere P (at_step (map-At Expr Suffix At Operand Denotation SuffixDenotation LocationDenotation OperandDenotation eval suffix location operand (at_trees (record { at = at; uan = e; ual = o }))))
    at_parts at e None g = (e.1 (each_front L (expr_texts e.0) [] g), tt)
    at_parts at e (Some l) g = (e.1 (each_front L (expr_texts e.0) (expr_texts l.0) g), l.1 (each_back L (expr_texts e.0) (expr_texts l.0) g))

    at_layer : (y : LayerA) → PA (roll-At (at_trees y))
    unfolding eval suffix location operand expr_texts suffix_texts at_texts operand_texts
    at_layer y g =
        subst (OfWhere P) (sym (fold-roll-At Denotation SuffixDenotation LocationDenotation OperandDenotation expr_step suffix_step at_step operand_step (at_trees y)))
        (at_parts y.at y.uan y.ual (subst Good (fold-roll-At Texts Texts Texts Texts texts_of_expr texts_of_suffix texts_of_at texts_of_operand (at_trees y)) g))

    abbrev LayerO : Type 0
    LayerO = Operand-F (Known Expr PE) (Known Suffix PS) (Known At PA) (Known Operand PO)

    abbrev operand_trees : LayerO → Operand-F Expr Suffix At Operand
    operand_trees = map-Operand (Known Expr PE) (Known Suffix PS) (Known At PA) (Known Operand PO) Expr Suffix At Operand (λ z. z.0) (λ z. z.0) (λ z. z.0) (λ z. z.0)

    operand_layer : (y : LayerO) → PO (roll-Operand (operand_trees y))
    unfolding eval suffix location operand expr_texts suffix_texts at_texts operand_texts
    operand_layer y g =
        subst (OfPart P) (sym (fold-roll-Operand Denotation SuffixDenotation LocationDenotation OperandDenotation expr_step suffix_step at_step operand_step (operand_trees y)))
        (y.value.1 (subst Good (fold-roll-Operand Texts Texts Texts Texts texts_of_expr texts_of_suffix texts_of_at texts_of_operand (operand_trees y)) g))

    pub of_expr : (e : Expr) → EachOf L (expr_texts e) → P (eval e)
    of_expr = ind-Expr PE PS PA PO (λ x y is. subst (λ z. PE (roll-Expr z)) is (expr_layer y)) (λ x y is. subst (λ z. PS (roll-Suffix z)) is (suffix_layer y)) (λ x y is. subst (λ z. PA (roll-At z)) is (at_layer y)) (λ x y is. subst (λ z. PO (roll-Operand z)) is (operand_layer y))

-- ---- statements: what is known of a tree from its form

pub stage_texts_rolled : (z : Stage-F Stage Stmt Chain) → stage_texts (roll-Stage z) ≡ texts_of_stage (map-Stage Stage Stmt Chain Texts Texts Texts stage_texts stmt_texts chain_texts z)
unfolding stage_texts stmt_texts chain_texts
stage_texts_rolled z = fold-roll-Stage Texts Texts Texts texts_of_stage texts_of_stmt texts_of_chain z

pub stmt_texts_rolled : (z : Stmt-F Stage Stmt Chain) → stmt_texts (roll-Stmt z) ≡ texts_of_stmt (map-Stmt Stage Stmt Chain Texts Texts Texts stage_texts stmt_texts chain_texts z)
unfolding stage_texts stmt_texts chain_texts
stmt_texts_rolled z = fold-roll-Stmt Texts Texts Texts texts_of_stage texts_of_stmt texts_of_chain z

pub chain_texts_rolled : (z : Chain-F Stage Stmt Chain) → chain_texts (roll-Chain z) ≡ texts_of_chain (map-Chain Stage Stmt Chain Texts Texts Texts stage_texts stmt_texts chain_texts z)
unfolding stage_texts stmt_texts chain_texts
chain_texts_rolled z = fold-roll-Chain Texts Texts Texts texts_of_stage texts_of_stmt texts_of_chain z

pub stage_regular_rolled : (z : Stage-F Stage Stmt Chain) → stage_is_regular (roll-Stage z) ≡ regular.stage_step (map-Stage Stage Stmt Chain Bool Form Bool stage_is_regular form_of chain_is_regular z)
unfolding stage_is_regular form_of chain_is_regular
stage_regular_rolled z = fold-roll-Stage Bool Form Bool regular.stage_step regular.stmt_step regular.chain_step z

pub form_rolled : (z : Stmt-F Stage Stmt Chain) → form_of (roll-Stmt z) ≡ regular.stmt_step (map-Stmt Stage Stmt Chain Bool Form Bool stage_is_regular form_of chain_is_regular z)
unfolding stage_is_regular form_of chain_is_regular
form_rolled z = fold-roll-Stmt Bool Form Bool regular.stage_step regular.stmt_step regular.chain_step z

pub chain_regular_rolled : (z : Chain-F Stage Stmt Chain) → chain_is_regular (roll-Chain z) ≡ regular.chain_step (map-Chain Stage Stmt Chain Bool Form Bool stage_is_regular form_of chain_is_regular z)
unfolding stage_is_regular form_of chain_is_regular
chain_regular_rolled z = fold-roll-Chain Bool Form Bool regular.stage_step regular.stmt_step regular.chain_step z
