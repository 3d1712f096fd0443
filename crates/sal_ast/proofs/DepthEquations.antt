-- The equations of depth, one for each form.
use Rattle.std.proofs.Common.{◌≡◌, ℕ, Bool, List, map, Option, Some, None, option_map, sym, ap, ◌∙◌}
use Rattle.sal_ast.specs.declared.program.Ident.{Ident}
use Rattle.sal_ast.specs.declared.program.TypeName.{TypeName}
use Rattle.sal_ast.specs.declared.expression.Expr.{Expr}
use Rattle.sal_ast.specs.declared.expression.Operand.{Operand}
use Rattle.sal_ast.specs.declared.expression.Suffix.{Suffix}
use Rattle.sal_ast.specs.declared.expression.At.{At}
use Rattle.sal_ast.specs.declared.expression.Expr.TheOpen.{Expr-F, Suffix-F}
use Rattle.sal_ast.specs.declared.expression.Expr.TheFolds.{fold-roll-Expr, fold-roll-Suffix, fold_out-At, fold_out-Operand}
use Rattle.sal_ast.specs.declared.expression.Expr.TheVariants as e
use Rattle.sal_ast.specs.declared.expression.Suffix.TheVariants as x
use Rattle.sal_ast.specs.declared.statement.Declare.{Declare}
use Rattle.sal_ast.specs.declared.statement.Assign.{Assign}
use Rattle.sal_ast.specs.declared.statement.ForInit.{ForInit}
use Rattle.sal_ast.specs.declared.statement.Send.{Send}
use Rattle.sal_ast.specs.declared.statement.Stmt.{Stmt}
use Rattle.sal_ast.specs.declared.statement.Chain.{Chain}
use Rattle.sal_ast.specs.declared.statement.Stage.TheOpen.{Stage-F, Stmt-F}
use Rattle.sal_ast.specs.declared.statement.Stage.TheFolds.{fold-roll-Stmt, fold-roll-Stage, fold_out-Chain}
use Rattle.sal_ast.specs.declared.statement.Stmt.TheVariants as t
use Rattle.sal_ast.specs.declared.statement.Stage.TheVariants as g
use Rattle.sal_ast.specs.Depth.{depth_expr, depth_suffix, depth_at, depth_operand, depth_stage, depth_stmt, depth_chain, expr_depth, suffix_depth, at_depth, operand_depth, stage_depth, stmt_depth, chain_depth}

pub depth-Number : (n at : ℕ) → depth_expr (e.Number n at) ≡ expr_depth (Expr-F.Number n at)
unfolding depth_expr depth_suffix depth_at depth_operand
depth-Number n at = ap depth_expr (sym (e.rolls-Number n at)) ∙ fold-roll-Expr ℕ ℕ ℕ ℕ expr_depth suffix_depth at_depth operand_depth (Expr-F.Number n at)

pub depth-Str : (text : List ℕ) (at : ℕ) → depth_expr (e.Str text at) ≡ expr_depth (Expr-F.Str text at)
unfolding depth_expr depth_suffix depth_at depth_operand
depth-Str text at = ap depth_expr (sym (e.rolls-Str text at)) ∙ fold-roll-Expr ℕ ℕ ℕ ℕ expr_depth suffix_depth at_depth operand_depth (Expr-F.Str text at)

pub depth-Bool : (b : Bool) (at : ℕ) → depth_expr (e.Bool b at) ≡ expr_depth (Expr-F.Bool b at)
unfolding depth_expr depth_suffix depth_at depth_operand
depth-Bool b at = ap depth_expr (sym (e.rolls-Bool b at)) ∙ fold-roll-Expr ℕ ℕ ℕ ℕ expr_depth suffix_depth at_depth operand_depth (Expr-F.Bool b at)

pub depth-Null : (at : ℕ) → depth_expr (e.Null at) ≡ expr_depth (Expr-F.Null at)
unfolding depth_expr depth_suffix depth_at depth_operand
depth-Null at = ap depth_expr (sym (e.rolls-Null at)) ∙ fold-roll-Expr ℕ ℕ ℕ ℕ expr_depth suffix_depth at_depth operand_depth (Expr-F.Null at)

pub depth-Me : (at : ℕ) → depth_expr (e.Me at) ≡ expr_depth (Expr-F.Me at)
unfolding depth_expr depth_suffix depth_at depth_operand
depth-Me at = ap depth_expr (sym (e.rolls-Me at)) ∙ fold-roll-Expr ℕ ℕ ℕ ℕ expr_depth suffix_depth at_depth operand_depth (Expr-F.Me at)

pub depth-Name : (name : Ident) → depth_expr (e.Name name) ≡ expr_depth (Expr-F.Name name)
unfolding depth_expr depth_suffix depth_at depth_operand
depth-Name name = ap depth_expr (sym (e.rolls-Name name)) ∙ fold-roll-Expr ℕ ℕ ℕ ℕ expr_depth suffix_depth at_depth operand_depth (Expr-F.Name name)

pub depth-Own : (at : ℕ) (name : Ident) → depth_expr (e.Own at name) ≡ expr_depth (Expr-F.Own at name)
unfolding depth_expr depth_suffix depth_at depth_operand
depth-Own at name = ap depth_expr (sym (e.rolls-Own at name)) ∙ fold-roll-Expr ℕ ℕ ℕ ℕ expr_depth suffix_depth at_depth operand_depth (Expr-F.Own at name)

pub depth-Paren : (at : ℕ) (a : Expr) → depth_expr (e.Paren at a) ≡ expr_depth (Expr-F.Paren at (depth_expr a))
unfolding depth_expr depth_suffix depth_at depth_operand
depth-Paren at a = ap depth_expr (sym (e.rolls-Paren at a)) ∙ fold-roll-Expr ℕ ℕ ℕ ℕ expr_depth suffix_depth at_depth operand_depth (Expr-F.Paren at a)

pub depth-Neg : (at : ℕ) (a : Expr) → depth_expr (e.Neg at a) ≡ expr_depth (Expr-F.Neg at (depth_expr a))
unfolding depth_expr depth_suffix depth_at depth_operand
depth-Neg at a = ap depth_expr (sym (e.rolls-Neg at a)) ∙ fold-roll-Expr ℕ ℕ ℕ ℕ expr_depth suffix_depth at_depth operand_depth (Expr-F.Neg at a)

pub depth-Not : (at : ℕ) (a : Expr) → depth_expr (e.Not at a) ≡ expr_depth (Expr-F.Not at (depth_expr a))
unfolding depth_expr depth_suffix depth_at depth_operand
depth-Not at a = ap depth_expr (sym (e.rolls-Not at a)) ∙ fold-roll-Expr ℕ ℕ ℕ ℕ expr_depth suffix_depth at_depth operand_depth (Expr-F.Not at a)

pub depth-Level : (a : Expr) (rest : List Operand) → depth_expr (e.Level a rest) ≡ expr_depth (Expr-F.Level (depth_expr a) (map depth_operand rest))
unfolding depth_expr depth_suffix depth_at depth_operand
depth-Level a rest = ap depth_expr (sym (e.rolls-Level a rest)) ∙ fold-roll-Expr ℕ ℕ ℕ ℕ expr_depth suffix_depth at_depth operand_depth (Expr-F.Level a rest)

pub depth-Suffixed : (a : Expr) (rest : List Suffix) → depth_expr (e.Suffixed a rest) ≡ expr_depth (Expr-F.Suffixed (depth_expr a) (map depth_suffix rest))
unfolding depth_expr depth_suffix depth_at depth_operand
depth-Suffixed a rest = ap depth_expr (sym (e.rolls-Suffixed a rest)) ∙ fold-roll-Expr ℕ ℕ ℕ ℕ expr_depth suffix_depth at_depth operand_depth (Expr-F.Suffixed a rest)

pub depth-Make : (at : ℕ) (sort : TypeName) (a : Expr) → depth_expr (e.Make at sort a) ≡ expr_depth (Expr-F.Make at sort (depth_expr a))
unfolding depth_expr depth_suffix depth_at depth_operand
depth-Make at sort a = ap depth_expr (sym (e.rolls-Make at sort a)) ∙ fold-roll-Expr ℕ ℕ ℕ ℕ expr_depth suffix_depth at_depth operand_depth (Expr-F.Make at sort a)

pub depth-ListOf : (at : ℕ) (sort : TypeName) (items : List Expr) → depth_expr (e.ListOf at sort items) ≡ expr_depth (Expr-F.ListOf at sort (map depth_expr items))
unfolding depth_expr depth_suffix depth_at depth_operand
depth-ListOf at sort items = ap depth_expr (sym (e.rolls-ListOf at sort items)) ∙ fold-roll-Expr ℕ ℕ ℕ ℕ expr_depth suffix_depth at_depth operand_depth (Expr-F.ListOf at sort items)

pub depth-ByName : (at : ℕ) (cast : Option Ident) (behavior : Ident) (a : Expr) → depth_expr (e.ByName at cast behavior a) ≡ expr_depth (Expr-F.ByName at cast behavior (depth_expr a))
unfolding depth_expr depth_suffix depth_at depth_operand
depth-ByName at cast behavior a = ap depth_expr (sym (e.rolls-ByName at cast behavior a)) ∙ fold-roll-Expr ℕ ℕ ℕ ℕ expr_depth suffix_depth at_depth operand_depth (Expr-F.ByName at cast behavior a)

pub depth-New : (at : ℕ) (behavior : Ident) (args : List Expr) (place : Option At) → depth_expr (e.New at behavior args place) ≡ expr_depth (Expr-F.New at behavior (map depth_expr args) (option_map depth_at place))
unfolding depth_expr depth_suffix depth_at depth_operand
depth-New at behavior args None = ap depth_expr (sym (e.rolls-New at behavior args None)) ∙ fold-roll-Expr ℕ ℕ ℕ ℕ expr_depth suffix_depth at_depth operand_depth (Expr-F.New at behavior args None)
depth-New at behavior args (Some p) = ap depth_expr (sym (e.rolls-New at behavior args (Some p))) ∙ fold-roll-Expr ℕ ℕ ℕ ℕ expr_depth suffix_depth at_depth operand_depth (Expr-F.New at behavior args (Some p))

pub depth-Index : (at : ℕ) (a : Expr) → depth_suffix (x.Index at a) ≡ suffix_depth (Suffix-F.Index at (depth_expr a))
unfolding depth_expr depth_suffix depth_at depth_operand
depth-Index at a = ap depth_suffix (sym (x.rolls-Index at a)) ∙ fold-roll-Suffix ℕ ℕ ℕ ℕ expr_depth suffix_depth at_depth operand_depth (Suffix-F.Index at a)

pub depth-Length : (at : ℕ) → depth_suffix (x.Length at) ≡ suffix_depth (Suffix-F.Length at)
unfolding depth_expr depth_suffix depth_at depth_operand
depth-Length at = ap depth_suffix (sym (x.rolls-Length at)) ∙ fold-roll-Suffix ℕ ℕ ℕ ℕ expr_depth suffix_depth at_depth operand_depth (Suffix-F.Length at)

at_is : (at : ℕ) (a : Expr) (b : Option Expr) → depth_at (record { at = at; uan = a; ual = b }) ≡ at_depth (record { at = at; uan = depth_expr a; ual = option_map depth_expr b })
unfolding depth_expr depth_suffix depth_at depth_operand
at_is at a None = fold_out-At ℕ ℕ ℕ ℕ expr_depth suffix_depth at_depth operand_depth (record { at = at; uan = a; ual = None })
at_is at a (Some b) = fold_out-At ℕ ℕ ℕ ℕ expr_depth suffix_depth at_depth operand_depth (record { at = at; uan = a; ual = Some b })

pub depth-At : (p : At) → depth_at p ≡ at_depth (record { at = p.at; uan = depth_expr p.uan; ual = option_map depth_expr p.ual })
depth-At p = at_is p.at p.uan p.ual

pub depth-Operand : (p : Operand) → depth_operand p ≡ operand_depth (record { op = p.op; at = p.at; value = depth_expr p.value })
unfolding depth_expr depth_suffix depth_at depth_operand
depth-Operand p = fold_out-Operand ℕ ℕ ℕ ℕ expr_depth suffix_depth at_depth operand_depth p

pub depth-Empty : (at : ℕ) → depth_stmt (t.Empty at) ≡ stmt_depth (Stmt-F.Empty at)
unfolding depth_stage depth_stmt depth_chain
depth-Empty at = ap depth_stmt (sym (t.rolls-Empty at)) ∙ fold-roll-Stmt ℕ ℕ ℕ stage_depth stmt_depth chain_depth (Stmt-F.Empty at)

pub depth-Block : (at : ℕ) (list : List Stmt) → depth_stmt (t.Block at list) ≡ stmt_depth (Stmt-F.Block at (map depth_stmt list))
unfolding depth_stage depth_stmt depth_chain
depth-Block at list = ap depth_stmt (sym (t.rolls-Block at list)) ∙ fold-roll-Stmt ℕ ℕ ℕ stage_depth stmt_depth chain_depth (Stmt-F.Block at list)

pub depth-Declare : (d : Declare) → depth_stmt (t.Declare d) ≡ stmt_depth (Stmt-F.Declare d)
unfolding depth_stage depth_stmt depth_chain
depth-Declare d = ap depth_stmt (sym (t.rolls-Declare d)) ∙ fold-roll-Stmt ℕ ℕ ℕ stage_depth stmt_depth chain_depth (Stmt-F.Declare d)

pub depth-Assign : (a : Assign) → depth_stmt (t.Assign a) ≡ stmt_depth (Stmt-F.Assign a)
unfolding depth_stage depth_stmt depth_chain
depth-Assign a = ap depth_stmt (sym (t.rolls-Assign a)) ∙ fold-roll-Stmt ℕ ℕ ℕ stage_depth stmt_depth chain_depth (Stmt-F.Assign a)

pub depth-While : (at : ℕ) (test : Expr) (body : Stmt) → depth_stmt (t.While at test body) ≡ stmt_depth (Stmt-F.While at test (depth_stmt body))
unfolding depth_stage depth_stmt depth_chain
depth-While at test body = ap depth_stmt (sym (t.rolls-While at test body)) ∙ fold-roll-Stmt ℕ ℕ ℕ stage_depth stmt_depth chain_depth (Stmt-F.While at test body)

pub depth-For : (at : ℕ) (first : ForInit) (test : Option Expr) (next : Option Assign) (body : Stmt) → depth_stmt (t.For at first test next body) ≡ stmt_depth (Stmt-F.For at first test next (depth_stmt body))
unfolding depth_stage depth_stmt depth_chain
depth-For at first test next body = ap depth_stmt (sym (t.rolls-For at first test next body)) ∙ fold-roll-Stmt ℕ ℕ ℕ stage_depth stmt_depth chain_depth (Stmt-F.For at first test next body)

pub depth-Return : (at : ℕ) (value : Option Expr) → depth_stmt (t.Return at value) ≡ stmt_depth (Stmt-F.Return at value)
unfolding depth_stage depth_stmt depth_chain
depth-Return at value = ap depth_stmt (sym (t.rolls-Return at value)) ∙ fold-roll-Stmt ℕ ℕ ℕ stage_depth stmt_depth chain_depth (Stmt-F.Return at value)

pub depth-If : (at : ℕ) (test : Expr) (a : Stmt) (b : Option Stmt) → depth_stmt (t.If at test a b) ≡ stmt_depth (Stmt-F.If at test (depth_stmt a) (option_map depth_stmt b))
unfolding depth_stage depth_stmt depth_chain
depth-If at test a None = ap depth_stmt (sym (t.rolls-If at test a None)) ∙ fold-roll-Stmt ℕ ℕ ℕ stage_depth stmt_depth chain_depth (Stmt-F.If at test a None)
depth-If at test a (Some b) = ap depth_stmt (sym (t.rolls-If at test a (Some b))) ∙ fold-roll-Stmt ℕ ℕ ℕ stage_depth stmt_depth chain_depth (Stmt-F.If at test a (Some b))

pub depth-Stages : (c : Chain) → depth_chain c ≡ chain_depth (record { stages = map depth_stage c.stages })
unfolding depth_stage depth_stmt depth_chain
depth-Stages c = fold_out-Chain ℕ ℕ ℕ stage_depth stmt_depth chain_depth c

pub depth-Token : (at : ℕ) (name : Ident) (c : Chain) → depth_stmt (t.Token at name c) ≡ stmt_depth (Stmt-F.Token at name (depth_chain c))
unfolding depth_stage depth_stmt depth_chain
depth-Token at name c = ap depth_stmt (sym (t.rolls-Token at name c)) ∙ fold-roll-Stmt ℕ ℕ ℕ stage_depth stmt_depth chain_depth (Stmt-F.Token at name c)

pub depth-Chain : (c : Chain) (passed : Option ℕ) → depth_stmt (t.Chain c passed) ≡ stmt_depth (Stmt-F.Chain (depth_chain c) passed)
unfolding depth_stage depth_stmt depth_chain
depth-Chain c passed = ap depth_stmt (sym (t.rolls-Chain c passed)) ∙ fold-roll-Stmt ℕ ℕ ℕ stage_depth stmt_depth chain_depth (Stmt-F.Chain c passed)

pub depth-Message : (m : Send) → depth_stage (g.Message m) ≡ stage_depth (Stage-F.Message m)
unfolding depth_stage depth_stmt depth_chain
depth-Message m = ap depth_stage (sym (g.rolls-Message m)) ∙ fold-roll-Stage ℕ ℕ ℕ stage_depth stmt_depth chain_depth (Stage-F.Message m)

pub depth-Join : (at : ℕ) (body : List Stmt) → depth_stage (g.Join at body) ≡ stage_depth (Stage-F.Join at (map depth_stmt body))
unfolding depth_stage depth_stmt depth_chain
depth-Join at body = ap depth_stage (sym (g.rolls-Join at body)) ∙ fold-roll-Stage ℕ ℕ ℕ stage_depth stmt_depth chain_depth (Stage-F.Join at body)

pub ruleset equations = (depth-Number, depth-Str, depth-Bool, depth-Null, depth-Me, depth-Name, depth-Own, depth-Paren, depth-Neg, depth-Not, depth-Level, depth-Suffixed, depth-Make, depth-ListOf, depth-ByName, depth-New, depth-Index, depth-Length, depth-At, depth-Operand, depth-Empty, depth-Block, depth-Declare, depth-Assign, depth-While, depth-For, depth-Return, depth-If, depth-Stages, depth-Token, depth-Chain, depth-Message, depth-Join)
