-- The equations of regular trees, one for each form.
use Rattle.std.proofs.Common.{◌≡◌, ℕ, Bool, List, map, Option, Some, None, option_map, sym, ap, ◌∙◌}
use Rattle.sal_ast.specs.declared.program.Ident.{Ident}
use Rattle.sal_ast.specs.declared.program.TypeName.{TypeName}
use Rattle.sal_ast.specs.declared.expression.Expr.{Expr}
use Rattle.sal_ast.specs.declared.expression.Operand.{Operand}
use Rattle.sal_ast.specs.declared.expression.Suffix.{Suffix}
use Rattle.sal_ast.specs.declared.expression.At.{At}
use Rattle.sal_ast.specs.declared.expression.Expr.TheOpen.{Expr-F, Suffix-F}
use Rattle.sal_ast.specs.declared.expression.Expr.TheFolds.{fold-roll-Expr, fold-roll-Suffix, fold_out-At, fold_out-Operand}
use Rattle.sal_ast.specs.declared.expression.Expr.TheVariants as e
use Rattle.sal_ast.specs.declared.expression.Suffix.TheVariants as x
use Rattle.sal_ast.specs.declared.statement.Declare.{Declare}
use Rattle.sal_ast.specs.declared.statement.Assign.{Assign}
use Rattle.sal_ast.specs.declared.statement.ForInit.{ForInit}
use Rattle.sal_ast.specs.declared.statement.Send.{Send}
use Rattle.sal_ast.specs.declared.statement.Stmt.{Stmt}
use Rattle.sal_ast.specs.declared.statement.Chain.{Chain}
use Rattle.sal_ast.specs.declared.statement.Stage.TheOpen.{Stage-F, Stmt-F}
use Rattle.sal_ast.specs.declared.statement.Stage.TheFolds.{fold-roll-Stmt, fold-roll-Stage, fold_out-Chain}
use Rattle.sal_ast.specs.declared.statement.Stmt.TheVariants as t
use Rattle.sal_ast.specs.declared.statement.Stage.TheVariants as g
use Rattle.sal_ast.specs.Regular.{Shape, RankedOperand, Form, shape_of, suffix_is_regular, at_is_regular, ranked_operand, stage_is_regular, form_of, chain_is_regular, shape_step, suffix_step, at_step, operand_step, stage_step, stmt_step, chain_step}

pub regular-Number : (n at : ℕ) → shape_of (e.Number n at) ≡ shape_step (Expr-F.Number n at)
unfolding shape_of suffix_is_regular at_is_regular ranked_operand
regular-Number n at = ap shape_of (sym (e.rolls-Number n at)) ∙ fold-roll-Expr Shape Bool Bool RankedOperand shape_step suffix_step at_step operand_step (Expr-F.Number n at)

pub regular-Str : (text : List ℕ) (at : ℕ) → shape_of (e.Str text at) ≡ shape_step (Expr-F.Str text at)
unfolding shape_of suffix_is_regular at_is_regular ranked_operand
regular-Str text at = ap shape_of (sym (e.rolls-Str text at)) ∙ fold-roll-Expr Shape Bool Bool RankedOperand shape_step suffix_step at_step operand_step (Expr-F.Str text at)

pub regular-Bool : (b : Bool) (at : ℕ) → shape_of (e.Bool b at) ≡ shape_step (Expr-F.Bool b at)
unfolding shape_of suffix_is_regular at_is_regular ranked_operand
regular-Bool b at = ap shape_of (sym (e.rolls-Bool b at)) ∙ fold-roll-Expr Shape Bool Bool RankedOperand shape_step suffix_step at_step operand_step (Expr-F.Bool b at)

pub regular-Null : (at : ℕ) → shape_of (e.Null at) ≡ shape_step (Expr-F.Null at)
unfolding shape_of suffix_is_regular at_is_regular ranked_operand
regular-Null at = ap shape_of (sym (e.rolls-Null at)) ∙ fold-roll-Expr Shape Bool Bool RankedOperand shape_step suffix_step at_step operand_step (Expr-F.Null at)

pub regular-Me : (at : ℕ) → shape_of (e.Me at) ≡ shape_step (Expr-F.Me at)
unfolding shape_of suffix_is_regular at_is_regular ranked_operand
regular-Me at = ap shape_of (sym (e.rolls-Me at)) ∙ fold-roll-Expr Shape Bool Bool RankedOperand shape_step suffix_step at_step operand_step (Expr-F.Me at)

pub regular-Name : (name : Ident) → shape_of (e.Name name) ≡ shape_step (Expr-F.Name name)
unfolding shape_of suffix_is_regular at_is_regular ranked_operand
regular-Name name = ap shape_of (sym (e.rolls-Name name)) ∙ fold-roll-Expr Shape Bool Bool RankedOperand shape_step suffix_step at_step operand_step (Expr-F.Name name)

pub regular-Own : (at : ℕ) (name : Ident) → shape_of (e.Own at name) ≡ shape_step (Expr-F.Own at name)
unfolding shape_of suffix_is_regular at_is_regular ranked_operand
regular-Own at name = ap shape_of (sym (e.rolls-Own at name)) ∙ fold-roll-Expr Shape Bool Bool RankedOperand shape_step suffix_step at_step operand_step (Expr-F.Own at name)

pub regular-Paren : (at : ℕ) (a : Expr) → shape_of (e.Paren at a) ≡ shape_step (Expr-F.Paren at (shape_of a))
unfolding shape_of suffix_is_regular at_is_regular ranked_operand
regular-Paren at a = ap shape_of (sym (e.rolls-Paren at a)) ∙ fold-roll-Expr Shape Bool Bool RankedOperand shape_step suffix_step at_step operand_step (Expr-F.Paren at a)

pub regular-Neg : (at : ℕ) (a : Expr) → shape_of (e.Neg at a) ≡ shape_step (Expr-F.Neg at (shape_of a))
unfolding shape_of suffix_is_regular at_is_regular ranked_operand
regular-Neg at a = ap shape_of (sym (e.rolls-Neg at a)) ∙ fold-roll-Expr Shape Bool Bool RankedOperand shape_step suffix_step at_step operand_step (Expr-F.Neg at a)

pub regular-Not : (at : ℕ) (a : Expr) → shape_of (e.Not at a) ≡ shape_step (Expr-F.Not at (shape_of a))
unfolding shape_of suffix_is_regular at_is_regular ranked_operand
regular-Not at a = ap shape_of (sym (e.rolls-Not at a)) ∙ fold-roll-Expr Shape Bool Bool RankedOperand shape_step suffix_step at_step operand_step (Expr-F.Not at a)

pub regular-Level : (a : Expr) (rest : List Operand) → shape_of (e.Level a rest) ≡ shape_step (Expr-F.Level (shape_of a) (map ranked_operand rest))
unfolding shape_of suffix_is_regular at_is_regular ranked_operand
regular-Level a rest = ap shape_of (sym (e.rolls-Level a rest)) ∙ fold-roll-Expr Shape Bool Bool RankedOperand shape_step suffix_step at_step operand_step (Expr-F.Level a rest)

pub regular-Suffixed : (a : Expr) (rest : List Suffix) → shape_of (e.Suffixed a rest) ≡ shape_step (Expr-F.Suffixed (shape_of a) (map suffix_is_regular rest))
unfolding shape_of suffix_is_regular at_is_regular ranked_operand
regular-Suffixed a rest = ap shape_of (sym (e.rolls-Suffixed a rest)) ∙ fold-roll-Expr Shape Bool Bool RankedOperand shape_step suffix_step at_step operand_step (Expr-F.Suffixed a rest)

pub regular-Make : (at : ℕ) (sort : TypeName) (a : Expr) → shape_of (e.Make at sort a) ≡ shape_step (Expr-F.Make at sort (shape_of a))
unfolding shape_of suffix_is_regular at_is_regular ranked_operand
regular-Make at sort a = ap shape_of (sym (e.rolls-Make at sort a)) ∙ fold-roll-Expr Shape Bool Bool RankedOperand shape_step suffix_step at_step operand_step (Expr-F.Make at sort a)

pub regular-ListOf : (at : ℕ) (sort : TypeName) (items : List Expr) → shape_of (e.ListOf at sort items) ≡ shape_step (Expr-F.ListOf at sort (map shape_of items))
unfolding shape_of suffix_is_regular at_is_regular ranked_operand
regular-ListOf at sort items = ap shape_of (sym (e.rolls-ListOf at sort items)) ∙ fold-roll-Expr Shape Bool Bool RankedOperand shape_step suffix_step at_step operand_step (Expr-F.ListOf at sort items)

pub regular-ByName : (at : ℕ) (cast : Option Ident) (behavior : Ident) (a : Expr) → shape_of (e.ByName at cast behavior a) ≡ shape_step (Expr-F.ByName at cast behavior (shape_of a))
unfolding shape_of suffix_is_regular at_is_regular ranked_operand
regular-ByName at cast behavior a = ap shape_of (sym (e.rolls-ByName at cast behavior a)) ∙ fold-roll-Expr Shape Bool Bool RankedOperand shape_step suffix_step at_step operand_step (Expr-F.ByName at cast behavior a)

pub regular-New : (at : ℕ) (behavior : Ident) (args : List Expr) (place : Option At) → shape_of (e.New at behavior args place) ≡ shape_step (Expr-F.New at behavior (map shape_of args) (option_map at_is_regular place))
unfolding shape_of suffix_is_regular at_is_regular ranked_operand
regular-New at behavior args None = ap shape_of (sym (e.rolls-New at behavior args None)) ∙ fold-roll-Expr Shape Bool Bool RankedOperand shape_step suffix_step at_step operand_step (Expr-F.New at behavior args None)
regular-New at behavior args (Some p) = ap shape_of (sym (e.rolls-New at behavior args (Some p))) ∙ fold-roll-Expr Shape Bool Bool RankedOperand shape_step suffix_step at_step operand_step (Expr-F.New at behavior args (Some p))

pub regular-Index : (at : ℕ) (a : Expr) → suffix_is_regular (x.Index at a) ≡ suffix_step (Suffix-F.Index at (shape_of a))
unfolding shape_of suffix_is_regular at_is_regular ranked_operand
regular-Index at a = ap suffix_is_regular (sym (x.rolls-Index at a)) ∙ fold-roll-Suffix Shape Bool Bool RankedOperand shape_step suffix_step at_step operand_step (Suffix-F.Index at a)

pub regular-Length : (at : ℕ) → suffix_is_regular (x.Length at) ≡ suffix_step (Suffix-F.Length at)
unfolding shape_of suffix_is_regular at_is_regular ranked_operand
regular-Length at = ap suffix_is_regular (sym (x.rolls-Length at)) ∙ fold-roll-Suffix Shape Bool Bool RankedOperand shape_step suffix_step at_step operand_step (Suffix-F.Length at)

at_is : (at : ℕ) (a : Expr) (b : Option Expr) → at_is_regular (record { at = at; uan = a; ual = b }) ≡ at_step (record { at = at; uan = shape_of a; ual = option_map shape_of b })
unfolding shape_of suffix_is_regular at_is_regular ranked_operand
at_is at a None = fold_out-At Shape Bool Bool RankedOperand shape_step suffix_step at_step operand_step (record { at = at; uan = a; ual = None })
at_is at a (Some b) = fold_out-At Shape Bool Bool RankedOperand shape_step suffix_step at_step operand_step (record { at = at; uan = a; ual = Some b })

pub regular-At : (p : At) → at_is_regular p ≡ at_step (record { at = p.at; uan = shape_of p.uan; ual = option_map shape_of p.ual })
regular-At p = at_is p.at p.uan p.ual

pub regular-Operand : (p : Operand) → ranked_operand p ≡ operand_step (record { op = p.op; at = p.at; value = shape_of p.value })
unfolding shape_of suffix_is_regular at_is_regular ranked_operand
regular-Operand p = fold_out-Operand Shape Bool Bool RankedOperand shape_step suffix_step at_step operand_step p

pub regular-Empty : (at : ℕ) → form_of (t.Empty at) ≡ stmt_step (Stmt-F.Empty at)
unfolding stage_is_regular form_of chain_is_regular
regular-Empty at = ap form_of (sym (t.rolls-Empty at)) ∙ fold-roll-Stmt Bool Form Bool stage_step stmt_step chain_step (Stmt-F.Empty at)

pub regular-Block : (at : ℕ) (list : List Stmt) → form_of (t.Block at list) ≡ stmt_step (Stmt-F.Block at (map form_of list))
unfolding stage_is_regular form_of chain_is_regular
regular-Block at list = ap form_of (sym (t.rolls-Block at list)) ∙ fold-roll-Stmt Bool Form Bool stage_step stmt_step chain_step (Stmt-F.Block at list)

pub regular-Declare : (d : Declare) → form_of (t.Declare d) ≡ stmt_step (Stmt-F.Declare d)
unfolding stage_is_regular form_of chain_is_regular
regular-Declare d = ap form_of (sym (t.rolls-Declare d)) ∙ fold-roll-Stmt Bool Form Bool stage_step stmt_step chain_step (Stmt-F.Declare d)

pub regular-Assign : (a : Assign) → form_of (t.Assign a) ≡ stmt_step (Stmt-F.Assign a)
unfolding stage_is_regular form_of chain_is_regular
regular-Assign a = ap form_of (sym (t.rolls-Assign a)) ∙ fold-roll-Stmt Bool Form Bool stage_step stmt_step chain_step (Stmt-F.Assign a)

pub regular-While : (at : ℕ) (test : Expr) (body : Stmt) → form_of (t.While at test body) ≡ stmt_step (Stmt-F.While at test (form_of body))
unfolding stage_is_regular form_of chain_is_regular
regular-While at test body = ap form_of (sym (t.rolls-While at test body)) ∙ fold-roll-Stmt Bool Form Bool stage_step stmt_step chain_step (Stmt-F.While at test body)

pub regular-For : (at : ℕ) (first : ForInit) (test : Option Expr) (next : Option Assign) (body : Stmt) → form_of (t.For at first test next body) ≡ stmt_step (Stmt-F.For at first test next (form_of body))
unfolding stage_is_regular form_of chain_is_regular
regular-For at first test next body = ap form_of (sym (t.rolls-For at first test next body)) ∙ fold-roll-Stmt Bool Form Bool stage_step stmt_step chain_step (Stmt-F.For at first test next body)

pub regular-Return : (at : ℕ) (value : Option Expr) → form_of (t.Return at value) ≡ stmt_step (Stmt-F.Return at value)
unfolding stage_is_regular form_of chain_is_regular
regular-Return at value = ap form_of (sym (t.rolls-Return at value)) ∙ fold-roll-Stmt Bool Form Bool stage_step stmt_step chain_step (Stmt-F.Return at value)

pub regular-If : (at : ℕ) (test : Expr) (a : Stmt) (b : Option Stmt) → form_of (t.If at test a b) ≡ stmt_step (Stmt-F.If at test (form_of a) (option_map form_of b))
unfolding stage_is_regular form_of chain_is_regular
regular-If at test a None = ap form_of (sym (t.rolls-If at test a None)) ∙ fold-roll-Stmt Bool Form Bool stage_step stmt_step chain_step (Stmt-F.If at test a None)
regular-If at test a (Some b) = ap form_of (sym (t.rolls-If at test a (Some b))) ∙ fold-roll-Stmt Bool Form Bool stage_step stmt_step chain_step (Stmt-F.If at test a (Some b))

pub regular-Stages : (c : Chain) → chain_is_regular c ≡ chain_step (record { stages = map stage_is_regular c.stages })
unfolding stage_is_regular form_of chain_is_regular
regular-Stages c = fold_out-Chain Bool Form Bool stage_step stmt_step chain_step c

pub regular-Token : (at : ℕ) (name : Ident) (c : Chain) → form_of (t.Token at name c) ≡ stmt_step (Stmt-F.Token at name (chain_is_regular c))
unfolding stage_is_regular form_of chain_is_regular
regular-Token at name c = ap form_of (sym (t.rolls-Token at name c)) ∙ fold-roll-Stmt Bool Form Bool stage_step stmt_step chain_step (Stmt-F.Token at name c)

pub regular-Chain : (c : Chain) (passed : Option ℕ) → form_of (t.Chain c passed) ≡ stmt_step (Stmt-F.Chain (chain_is_regular c) passed)
unfolding stage_is_regular form_of chain_is_regular
regular-Chain c passed = ap form_of (sym (t.rolls-Chain c passed)) ∙ fold-roll-Stmt Bool Form Bool stage_step stmt_step chain_step (Stmt-F.Chain c passed)

pub regular-Message : (m : Send) → stage_is_regular (g.Message m) ≡ stage_step (Stage-F.Message m)
unfolding stage_is_regular form_of chain_is_regular
regular-Message m = ap stage_is_regular (sym (g.rolls-Message m)) ∙ fold-roll-Stage Bool Form Bool stage_step stmt_step chain_step (Stage-F.Message m)

pub regular-Join : (at : ℕ) (body : List Stmt) → stage_is_regular (g.Join at body) ≡ stage_step (Stage-F.Join at (map form_of body))
unfolding stage_is_regular form_of chain_is_regular
regular-Join at body = ap stage_is_regular (sym (g.rolls-Join at body)) ∙ fold-roll-Stage Bool Form Bool stage_step stmt_step chain_step (Stage-F.Join at body)

pub ruleset equations = (regular-Number, regular-Str, regular-Bool, regular-Null, regular-Me, regular-Name, regular-Own, regular-Paren, regular-Neg, regular-Not, regular-Level, regular-Suffixed, regular-Make, regular-ListOf, regular-ByName, regular-New, regular-Index, regular-Length, regular-At, regular-Operand, regular-Empty, regular-Block, regular-Declare, regular-Assign, regular-While, regular-For, regular-Return, regular-If, regular-Stages, regular-Token, regular-Chain, regular-Message, regular-Join)
