-- What a statement is, by one equation for each form.
use Rattle.std.proofs.Common.{◌≡◌, ℕ, List, map, Option, Some, None, option_map, sym, ap, ◌∙◌}
use Rattle.sal_ast.specs.declared.program.Ident.{Ident}
use Rattle.sal_ast.specs.declared.expression.Expr.{Expr}
use Rattle.sal_ast.specs.declared.statement.Declare.{Declare}
use Rattle.sal_ast.specs.declared.statement.Assign.{Assign}
use Rattle.sal_ast.specs.declared.statement.ForInit.{ForInit}
use Rattle.sal_ast.specs.declared.statement.Send.{Send}
use Rattle.sal_ast.specs.declared.statement.Stmt.{Stmt}
use Rattle.sal_ast.specs.declared.statement.Chain.{Chain}
use Rattle.sal_ast.specs.declared.statement.Stage.TheOpen.{Stage-F, Stmt-F}
use Rattle.sal_ast.specs.declared.statement.Stage.TheFolds.{fold-roll-Stmt, fold-roll-Stage, fold_out-Chain}
use Rattle.sal_ast.specs.declared.statement.Stmt.TheVariants as t
use Rattle.sal_ast.specs.declared.statement.Stage.TheVariants as g
use Rattle.sal_types.specs.Statements.{StageWithStart, StmtTyping, stage_step, stmt_step, chain_step, stmt_typing, stage_typing, chain_typing}

pub typing-Empty : (at : ℕ) → stmt_typing (t.Empty at) ≡ stmt_step (Stmt-F.Empty at)
unfolding stage_typing stmt_typing chain_typing
typing-Empty at = ap stmt_typing (sym (t.rolls-Empty at)) ∙ fold-roll-Stmt StageWithStart StmtTyping (List StageWithStart) stage_step stmt_step chain_step (Stmt-F.Empty at)

pub typing-Block : (at : ℕ) (list : List Stmt) → stmt_typing (t.Block at list) ≡ stmt_step (Stmt-F.Block at (map stmt_typing list))
unfolding stage_typing stmt_typing chain_typing
typing-Block at list = ap stmt_typing (sym (t.rolls-Block at list)) ∙ fold-roll-Stmt StageWithStart StmtTyping (List StageWithStart) stage_step stmt_step chain_step (Stmt-F.Block at list)

pub typing-Declare : (d : Declare) → stmt_typing (t.Declare d) ≡ stmt_step (Stmt-F.Declare d)
unfolding stage_typing stmt_typing chain_typing
typing-Declare d = ap stmt_typing (sym (t.rolls-Declare d)) ∙ fold-roll-Stmt StageWithStart StmtTyping (List StageWithStart) stage_step stmt_step chain_step (Stmt-F.Declare d)

pub typing-Assign : (a : Assign) → stmt_typing (t.Assign a) ≡ stmt_step (Stmt-F.Assign a)
unfolding stage_typing stmt_typing chain_typing
typing-Assign a = ap stmt_typing (sym (t.rolls-Assign a)) ∙ fold-roll-Stmt StageWithStart StmtTyping (List StageWithStart) stage_step stmt_step chain_step (Stmt-F.Assign a)

pub typing-While : (at : ℕ) (test : Expr) (body : Stmt) → stmt_typing (t.While at test body) ≡ stmt_step (Stmt-F.While at test (stmt_typing body))
unfolding stage_typing stmt_typing chain_typing
typing-While at test body = ap stmt_typing (sym (t.rolls-While at test body)) ∙ fold-roll-Stmt StageWithStart StmtTyping (List StageWithStart) stage_step stmt_step chain_step (Stmt-F.While at test body)

pub typing-For : (at : ℕ) (first : ForInit) (test : Option Expr) (next : Option Assign) (body : Stmt) → stmt_typing (t.For at first test next body) ≡ stmt_step (Stmt-F.For at first test next (stmt_typing body))
unfolding stage_typing stmt_typing chain_typing
typing-For at first test next body = ap stmt_typing (sym (t.rolls-For at first test next body)) ∙ fold-roll-Stmt StageWithStart StmtTyping (List StageWithStart) stage_step stmt_step chain_step (Stmt-F.For at first test next body)

pub typing-Return : (at : ℕ) (value : Option Expr) → stmt_typing (t.Return at value) ≡ stmt_step (Stmt-F.Return at value)
unfolding stage_typing stmt_typing chain_typing
typing-Return at value = ap stmt_typing (sym (t.rolls-Return at value)) ∙ fold-roll-Stmt StageWithStart StmtTyping (List StageWithStart) stage_step stmt_step chain_step (Stmt-F.Return at value)

pub typing-If : (at : ℕ) (test : Expr) (a : Stmt) (b : Option Stmt) → stmt_typing (t.If at test a b) ≡ stmt_step (Stmt-F.If at test (stmt_typing a) (option_map stmt_typing b))
unfolding stage_typing stmt_typing chain_typing
typing-If at test a None = ap stmt_typing (sym (t.rolls-If at test a None)) ∙ fold-roll-Stmt StageWithStart StmtTyping (List StageWithStart) stage_step stmt_step chain_step (Stmt-F.If at test a None)
typing-If at test a (Some b) = ap stmt_typing (sym (t.rolls-If at test a (Some b))) ∙ fold-roll-Stmt StageWithStart StmtTyping (List StageWithStart) stage_step stmt_step chain_step (Stmt-F.If at test a (Some b))

pub typing-Stages : (c : Chain) → chain_typing c ≡ chain_step (record { stages = map stage_typing c.stages })
unfolding stage_typing stmt_typing chain_typing
typing-Stages c = fold_out-Chain StageWithStart StmtTyping (List StageWithStart) stage_step stmt_step chain_step c

pub typing-Token : (at : ℕ) (name : Ident) (c : Chain) → stmt_typing (t.Token at name c) ≡ stmt_step (Stmt-F.Token at name (chain_typing c))
unfolding stage_typing stmt_typing chain_typing
typing-Token at name c = ap stmt_typing (sym (t.rolls-Token at name c)) ∙ fold-roll-Stmt StageWithStart StmtTyping (List StageWithStart) stage_step stmt_step chain_step (Stmt-F.Token at name c)

pub typing-Chain : (c : Chain) (passed : Option ℕ) → stmt_typing (t.Chain c passed) ≡ stmt_step (Stmt-F.Chain (chain_typing c) passed)
unfolding stage_typing stmt_typing chain_typing
typing-Chain c passed = ap stmt_typing (sym (t.rolls-Chain c passed)) ∙ fold-roll-Stmt StageWithStart StmtTyping (List StageWithStart) stage_step stmt_step chain_step (Stmt-F.Chain c passed)

pub typing-Message : (m : Send) → stage_typing (g.Message m) ≡ stage_step (Stage-F.Message m)
unfolding stage_typing stmt_typing chain_typing
typing-Message m = ap stage_typing (sym (g.rolls-Message m)) ∙ fold-roll-Stage StageWithStart StmtTyping (List StageWithStart) stage_step stmt_step chain_step (Stage-F.Message m)

pub typing-Join : (at : ℕ) (body : List Stmt) → stage_typing (g.Join at body) ≡ stage_step (Stage-F.Join at (map stmt_typing body))
unfolding stage_typing stmt_typing chain_typing
typing-Join at body = ap stage_typing (sym (g.rolls-Join at body)) ∙ fold-roll-Stage StageWithStart StmtTyping (List StageWithStart) stage_step stmt_step chain_step (Stage-F.Join at body)

pub ruleset equations = (typing-Empty, typing-Block, typing-Declare, typing-Assign, typing-While, typing-For, typing-Return, typing-If, typing-Stages, typing-Token, typing-Chain, typing-Message, typing-Join)
