-- The equations of spelling, one for each form.
use Rattle.std.proofs.Common.{◌≡◌, ℕ, Bool, List, map, Option, Some, None, option_map, sym, ap, ◌∙◌}
use Rattle.sal_ast.specs.declared.program.Ident.{Ident}
use Rattle.sal_ast.specs.declared.program.TypeName.{TypeName}
use Rattle.sal_ast.specs.declared.expression.Expr.{Expr}
use Rattle.sal_ast.specs.declared.expression.Operand.{Operand}
use Rattle.sal_ast.specs.declared.expression.Suffix.{Suffix}
use Rattle.sal_ast.specs.declared.expression.At.{At}
use Rattle.sal_ast.specs.declared.expression.Expr.TheOpen.{Expr-F, Suffix-F}
use Rattle.sal_ast.specs.declared.expression.Expr.TheFolds.{fold-roll-Expr, fold-roll-Suffix, fold_out-At, fold_out-Operand}
use Rattle.sal_ast.specs.declared.expression.Expr.TheVariants as e
use Rattle.sal_ast.specs.declared.expression.Suffix.TheVariants as x
use Rattle.sal_ast.specs.declared.statement.Declare.{Declare}
use Rattle.sal_ast.specs.declared.statement.Assign.{Assign}
use Rattle.sal_ast.specs.declared.statement.ForInit.{ForInit}
use Rattle.sal_ast.specs.declared.statement.Send.{Send}
use Rattle.sal_ast.specs.declared.statement.Stmt.{Stmt}
use Rattle.sal_ast.specs.declared.statement.Chain.{Chain}
use Rattle.sal_ast.specs.declared.statement.Stage.TheOpen.{Stage-F, Stmt-F}
use Rattle.sal_ast.specs.declared.statement.Stage.TheFolds.{fold-roll-Stmt, fold-roll-Stage, fold_out-Chain}
use Rattle.sal_ast.specs.declared.statement.Stmt.TheVariants as t
use Rattle.sal_ast.specs.declared.statement.Stage.TheVariants as g
use Rattle.sal_ast.specs.Spell.{TreeTokens, spell_expr, spell_suffix, spell_at, spell_operand, spell_stage, spell_stmt, spell_chain, expr_tokens, suffix_tokens, at_tokens, operand_tokens, stage_tokens, stmt_tokens, chain_tokens}

pub spell-Number : (n at : ℕ) → spell_expr (e.Number n at) ≡ expr_tokens (Expr-F.Number n at)
unfolding spell_expr spell_suffix spell_at spell_operand
spell-Number n at = ap spell_expr (sym (e.rolls-Number n at)) ∙ fold-roll-Expr TreeTokens TreeTokens TreeTokens TreeTokens expr_tokens suffix_tokens at_tokens operand_tokens (Expr-F.Number n at)

pub spell-Str : (text : List ℕ) (at : ℕ) → spell_expr (e.Str text at) ≡ expr_tokens (Expr-F.Str text at)
unfolding spell_expr spell_suffix spell_at spell_operand
spell-Str text at = ap spell_expr (sym (e.rolls-Str text at)) ∙ fold-roll-Expr TreeTokens TreeTokens TreeTokens TreeTokens expr_tokens suffix_tokens at_tokens operand_tokens (Expr-F.Str text at)

pub spell-Bool : (b : Bool) (at : ℕ) → spell_expr (e.Bool b at) ≡ expr_tokens (Expr-F.Bool b at)
unfolding spell_expr spell_suffix spell_at spell_operand
spell-Bool b at = ap spell_expr (sym (e.rolls-Bool b at)) ∙ fold-roll-Expr TreeTokens TreeTokens TreeTokens TreeTokens expr_tokens suffix_tokens at_tokens operand_tokens (Expr-F.Bool b at)

pub spell-Null : (at : ℕ) → spell_expr (e.Null at) ≡ expr_tokens (Expr-F.Null at)
unfolding spell_expr spell_suffix spell_at spell_operand
spell-Null at = ap spell_expr (sym (e.rolls-Null at)) ∙ fold-roll-Expr TreeTokens TreeTokens TreeTokens TreeTokens expr_tokens suffix_tokens at_tokens operand_tokens (Expr-F.Null at)

pub spell-Me : (at : ℕ) → spell_expr (e.Me at) ≡ expr_tokens (Expr-F.Me at)
unfolding spell_expr spell_suffix spell_at spell_operand
spell-Me at = ap spell_expr (sym (e.rolls-Me at)) ∙ fold-roll-Expr TreeTokens TreeTokens TreeTokens TreeTokens expr_tokens suffix_tokens at_tokens operand_tokens (Expr-F.Me at)

pub spell-Name : (name : Ident) → spell_expr (e.Name name) ≡ expr_tokens (Expr-F.Name name)
unfolding spell_expr spell_suffix spell_at spell_operand
spell-Name name = ap spell_expr (sym (e.rolls-Name name)) ∙ fold-roll-Expr TreeTokens TreeTokens TreeTokens TreeTokens expr_tokens suffix_tokens at_tokens operand_tokens (Expr-F.Name name)

pub spell-Own : (at : ℕ) (name : Ident) → spell_expr (e.Own at name) ≡ expr_tokens (Expr-F.Own at name)
unfolding spell_expr spell_suffix spell_at spell_operand
spell-Own at name = ap spell_expr (sym (e.rolls-Own at name)) ∙ fold-roll-Expr TreeTokens TreeTokens TreeTokens TreeTokens expr_tokens suffix_tokens at_tokens operand_tokens (Expr-F.Own at name)

pub spell-Paren : (at : ℕ) (a : Expr) → spell_expr (e.Paren at a) ≡ expr_tokens (Expr-F.Paren at (spell_expr a))
unfolding spell_expr spell_suffix spell_at spell_operand
spell-Paren at a = ap spell_expr (sym (e.rolls-Paren at a)) ∙ fold-roll-Expr TreeTokens TreeTokens TreeTokens TreeTokens expr_tokens suffix_tokens at_tokens operand_tokens (Expr-F.Paren at a)

pub spell-Neg : (at : ℕ) (a : Expr) → spell_expr (e.Neg at a) ≡ expr_tokens (Expr-F.Neg at (spell_expr a))
unfolding spell_expr spell_suffix spell_at spell_operand
spell-Neg at a = ap spell_expr (sym (e.rolls-Neg at a)) ∙ fold-roll-Expr TreeTokens TreeTokens TreeTokens TreeTokens expr_tokens suffix_tokens at_tokens operand_tokens (Expr-F.Neg at a)

pub spell-Not : (at : ℕ) (a : Expr) → spell_expr (e.Not at a) ≡ expr_tokens (Expr-F.Not at (spell_expr a))
unfolding spell_expr spell_suffix spell_at spell_operand
spell-Not at a = ap spell_expr (sym (e.rolls-Not at a)) ∙ fold-roll-Expr TreeTokens TreeTokens TreeTokens TreeTokens expr_tokens suffix_tokens at_tokens operand_tokens (Expr-F.Not at a)

pub spell-Level : (a : Expr) (rest : List Operand) → spell_expr (e.Level a rest) ≡ expr_tokens (Expr-F.Level (spell_expr a) (map spell_operand rest))
unfolding spell_expr spell_suffix spell_at spell_operand
spell-Level a rest = ap spell_expr (sym (e.rolls-Level a rest)) ∙ fold-roll-Expr TreeTokens TreeTokens TreeTokens TreeTokens expr_tokens suffix_tokens at_tokens operand_tokens (Expr-F.Level a rest)

pub spell-Suffixed : (a : Expr) (rest : List Suffix) → spell_expr (e.Suffixed a rest) ≡ expr_tokens (Expr-F.Suffixed (spell_expr a) (map spell_suffix rest))
unfolding spell_expr spell_suffix spell_at spell_operand
spell-Suffixed a rest = ap spell_expr (sym (e.rolls-Suffixed a rest)) ∙ fold-roll-Expr TreeTokens TreeTokens TreeTokens TreeTokens expr_tokens suffix_tokens at_tokens operand_tokens (Expr-F.Suffixed a rest)

pub spell-Make : (at : ℕ) (sort : TypeName) (a : Expr) → spell_expr (e.Make at sort a) ≡ expr_tokens (Expr-F.Make at sort (spell_expr a))
unfolding spell_expr spell_suffix spell_at spell_operand
spell-Make at sort a = ap spell_expr (sym (e.rolls-Make at sort a)) ∙ fold-roll-Expr TreeTokens TreeTokens TreeTokens TreeTokens expr_tokens suffix_tokens at_tokens operand_tokens (Expr-F.Make at sort a)

pub spell-ListOf : (at : ℕ) (sort : TypeName) (items : List Expr) → spell_expr (e.ListOf at sort items) ≡ expr_tokens (Expr-F.ListOf at sort (map spell_expr items))
unfolding spell_expr spell_suffix spell_at spell_operand
spell-ListOf at sort items = ap spell_expr (sym (e.rolls-ListOf at sort items)) ∙ fold-roll-Expr TreeTokens TreeTokens TreeTokens TreeTokens expr_tokens suffix_tokens at_tokens operand_tokens (Expr-F.ListOf at sort items)

pub spell-ByName : (at : ℕ) (cast : Option Ident) (behavior : Ident) (a : Expr) → spell_expr (e.ByName at cast behavior a) ≡ expr_tokens (Expr-F.ByName at cast behavior (spell_expr a))
unfolding spell_expr spell_suffix spell_at spell_operand
spell-ByName at cast behavior a = ap spell_expr (sym (e.rolls-ByName at cast behavior a)) ∙ fold-roll-Expr TreeTokens TreeTokens TreeTokens TreeTokens expr_tokens suffix_tokens at_tokens operand_tokens (Expr-F.ByName at cast behavior a)

pub spell-New : (at : ℕ) (behavior : Ident) (args : List Expr) (place : Option At) → spell_expr (e.New at behavior args place) ≡ expr_tokens (Expr-F.New at behavior (map spell_expr args) (option_map spell_at place))
unfolding spell_expr spell_suffix spell_at spell_operand
spell-New at behavior args None = ap spell_expr (sym (e.rolls-New at behavior args None)) ∙ fold-roll-Expr TreeTokens TreeTokens TreeTokens TreeTokens expr_tokens suffix_tokens at_tokens operand_tokens (Expr-F.New at behavior args None)
spell-New at behavior args (Some p) = ap spell_expr (sym (e.rolls-New at behavior args (Some p))) ∙ fold-roll-Expr TreeTokens TreeTokens TreeTokens TreeTokens expr_tokens suffix_tokens at_tokens operand_tokens (Expr-F.New at behavior args (Some p))

pub spell-Index : (at : ℕ) (a : Expr) → spell_suffix (x.Index at a) ≡ suffix_tokens (Suffix-F.Index at (spell_expr a))
unfolding spell_expr spell_suffix spell_at spell_operand
spell-Index at a = ap spell_suffix (sym (x.rolls-Index at a)) ∙ fold-roll-Suffix TreeTokens TreeTokens TreeTokens TreeTokens expr_tokens suffix_tokens at_tokens operand_tokens (Suffix-F.Index at a)

pub spell-Length : (at : ℕ) → spell_suffix (x.Length at) ≡ suffix_tokens (Suffix-F.Length at)
unfolding spell_expr spell_suffix spell_at spell_operand
spell-Length at = ap spell_suffix (sym (x.rolls-Length at)) ∙ fold-roll-Suffix TreeTokens TreeTokens TreeTokens TreeTokens expr_tokens suffix_tokens at_tokens operand_tokens (Suffix-F.Length at)

at_is : (at : ℕ) (a : Expr) (b : Option Expr) → spell_at (record { at = at; uan = a; ual = b }) ≡ at_tokens (record { at = at; uan = spell_expr a; ual = option_map spell_expr b })
unfolding spell_expr spell_suffix spell_at spell_operand
at_is at a None = fold_out-At TreeTokens TreeTokens TreeTokens TreeTokens expr_tokens suffix_tokens at_tokens operand_tokens (record { at = at; uan = a; ual = None })
at_is at a (Some b) = fold_out-At TreeTokens TreeTokens TreeTokens TreeTokens expr_tokens suffix_tokens at_tokens operand_tokens (record { at = at; uan = a; ual = Some b })

pub spell-At : (p : At) → spell_at p ≡ at_tokens (record { at = p.at; uan = spell_expr p.uan; ual = option_map spell_expr p.ual })
spell-At p = at_is p.at p.uan p.ual

pub spell-Operand : (p : Operand) → spell_operand p ≡ operand_tokens (record { op = p.op; at = p.at; value = spell_expr p.value })
unfolding spell_expr spell_suffix spell_at spell_operand
spell-Operand p = fold_out-Operand TreeTokens TreeTokens TreeTokens TreeTokens expr_tokens suffix_tokens at_tokens operand_tokens p

pub spell-Empty : (at : ℕ) → spell_stmt (t.Empty at) ≡ stmt_tokens (Stmt-F.Empty at)
unfolding spell_stage spell_stmt spell_chain
spell-Empty at = ap spell_stmt (sym (t.rolls-Empty at)) ∙ fold-roll-Stmt TreeTokens TreeTokens TreeTokens stage_tokens stmt_tokens chain_tokens (Stmt-F.Empty at)

pub spell-Block : (at : ℕ) (list : List Stmt) → spell_stmt (t.Block at list) ≡ stmt_tokens (Stmt-F.Block at (map spell_stmt list))
unfolding spell_stage spell_stmt spell_chain
spell-Block at list = ap spell_stmt (sym (t.rolls-Block at list)) ∙ fold-roll-Stmt TreeTokens TreeTokens TreeTokens stage_tokens stmt_tokens chain_tokens (Stmt-F.Block at list)

pub spell-Declare : (d : Declare) → spell_stmt (t.Declare d) ≡ stmt_tokens (Stmt-F.Declare d)
unfolding spell_stage spell_stmt spell_chain
spell-Declare d = ap spell_stmt (sym (t.rolls-Declare d)) ∙ fold-roll-Stmt TreeTokens TreeTokens TreeTokens stage_tokens stmt_tokens chain_tokens (Stmt-F.Declare d)

pub spell-Assign : (a : Assign) → spell_stmt (t.Assign a) ≡ stmt_tokens (Stmt-F.Assign a)
unfolding spell_stage spell_stmt spell_chain
spell-Assign a = ap spell_stmt (sym (t.rolls-Assign a)) ∙ fold-roll-Stmt TreeTokens TreeTokens TreeTokens stage_tokens stmt_tokens chain_tokens (Stmt-F.Assign a)

pub spell-While : (at : ℕ) (test : Expr) (body : Stmt) → spell_stmt (t.While at test body) ≡ stmt_tokens (Stmt-F.While at test (spell_stmt body))
unfolding spell_stage spell_stmt spell_chain
spell-While at test body = ap spell_stmt (sym (t.rolls-While at test body)) ∙ fold-roll-Stmt TreeTokens TreeTokens TreeTokens stage_tokens stmt_tokens chain_tokens (Stmt-F.While at test body)

pub spell-For : (at : ℕ) (first : ForInit) (test : Option Expr) (next : Option Assign) (body : Stmt) → spell_stmt (t.For at first test next body) ≡ stmt_tokens (Stmt-F.For at first test next (spell_stmt body))
unfolding spell_stage spell_stmt spell_chain
spell-For at first test next body = ap spell_stmt (sym (t.rolls-For at first test next body)) ∙ fold-roll-Stmt TreeTokens TreeTokens TreeTokens stage_tokens stmt_tokens chain_tokens (Stmt-F.For at first test next body)

pub spell-Return : (at : ℕ) (value : Option Expr) → spell_stmt (t.Return at value) ≡ stmt_tokens (Stmt-F.Return at value)
unfolding spell_stage spell_stmt spell_chain
spell-Return at value = ap spell_stmt (sym (t.rolls-Return at value)) ∙ fold-roll-Stmt TreeTokens TreeTokens TreeTokens stage_tokens stmt_tokens chain_tokens (Stmt-F.Return at value)

pub spell-If : (at : ℕ) (test : Expr) (a : Stmt) (b : Option Stmt) → spell_stmt (t.If at test a b) ≡ stmt_tokens (Stmt-F.If at test (spell_stmt a) (option_map spell_stmt b))
unfolding spell_stage spell_stmt spell_chain
spell-If at test a None = ap spell_stmt (sym (t.rolls-If at test a None)) ∙ fold-roll-Stmt TreeTokens TreeTokens TreeTokens stage_tokens stmt_tokens chain_tokens (Stmt-F.If at test a None)
spell-If at test a (Some b) = ap spell_stmt (sym (t.rolls-If at test a (Some b))) ∙ fold-roll-Stmt TreeTokens TreeTokens TreeTokens stage_tokens stmt_tokens chain_tokens (Stmt-F.If at test a (Some b))

pub spell-Stages : (c : Chain) → spell_chain c ≡ chain_tokens (record { stages = map spell_stage c.stages })
unfolding spell_stage spell_stmt spell_chain
spell-Stages c = fold_out-Chain TreeTokens TreeTokens TreeTokens stage_tokens stmt_tokens chain_tokens c

pub spell-Token : (at : ℕ) (name : Ident) (c : Chain) → spell_stmt (t.Token at name c) ≡ stmt_tokens (Stmt-F.Token at name (spell_chain c))
unfolding spell_stage spell_stmt spell_chain
spell-Token at name c = ap spell_stmt (sym (t.rolls-Token at name c)) ∙ fold-roll-Stmt TreeTokens TreeTokens TreeTokens stage_tokens stmt_tokens chain_tokens (Stmt-F.Token at name c)

pub spell-Chain : (c : Chain) (passed : Option ℕ) → spell_stmt (t.Chain c passed) ≡ stmt_tokens (Stmt-F.Chain (spell_chain c) passed)
unfolding spell_stage spell_stmt spell_chain
spell-Chain c passed = ap spell_stmt (sym (t.rolls-Chain c passed)) ∙ fold-roll-Stmt TreeTokens TreeTokens TreeTokens stage_tokens stmt_tokens chain_tokens (Stmt-F.Chain c passed)

pub spell-Message : (m : Send) → spell_stage (g.Message m) ≡ stage_tokens (Stage-F.Message m)
unfolding spell_stage spell_stmt spell_chain
spell-Message m = ap spell_stage (sym (g.rolls-Message m)) ∙ fold-roll-Stage TreeTokens TreeTokens TreeTokens stage_tokens stmt_tokens chain_tokens (Stage-F.Message m)

pub spell-Join : (at : ℕ) (body : List Stmt) → spell_stage (g.Join at body) ≡ stage_tokens (Stage-F.Join at (map spell_stmt body))
unfolding spell_stage spell_stmt spell_chain
spell-Join at body = ap spell_stage (sym (g.rolls-Join at body)) ∙ fold-roll-Stage TreeTokens TreeTokens TreeTokens stage_tokens stmt_tokens chain_tokens (Stage-F.Join at body)

pub ruleset equations = (spell-Number, spell-Str, spell-Bool, spell-Null, spell-Me, spell-Name, spell-Own, spell-Paren, spell-Neg, spell-Not, spell-Level, spell-Suffixed, spell-Make, spell-ListOf, spell-ByName, spell-New, spell-Index, spell-Length, spell-At, spell-Operand, spell-Empty, spell-Block, spell-Declare, spell-Assign, spell-While, spell-For, spell-Return, spell-If, spell-Stages, spell-Token, spell-Chain, spell-Message, spell-Join)
