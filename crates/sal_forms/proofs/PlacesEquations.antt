-- The equations of what names places, one for each form.
use Rattle.std.proofs.Common.{◌≡◌, ℕ, Bool, true, false, ◌||◌, List, [], ◌∷◌, map, Option, Some, None, option_map, is_some, refl, sym, ap, ◌∙◌}
use Rattle.std.specs.List.{list_any}
use Rattle.sal_ast.specs.declared.program.Ident.{Ident}
use Rattle.sal_ast.specs.declared.program.TypeName.{TypeName}
use Rattle.sal_ast.specs.declared.expression.Expr.{Expr}
use Rattle.sal_ast.specs.declared.expression.Operand.{Operand}
use Rattle.sal_ast.specs.declared.expression.Suffix.{Suffix}
use Rattle.sal_ast.specs.declared.expression.At.{At}
use Rattle.sal_ast.specs.declared.expression.Expr.TheOpen.{Expr-F, Suffix-F}
use Rattle.sal_ast.specs.declared.expression.Expr.TheFolds.{fold-roll-Expr, fold-roll-Suffix, fold_out-At, fold_out-Operand}
use Rattle.sal_ast.specs.declared.expression.Expr.TheVariants as e
use Rattle.sal_ast.specs.declared.expression.Suffix.TheVariants as x
use Rattle.sal_ast.specs.declared.statement.Declare.{Declare}
use Rattle.sal_ast.specs.declared.statement.Assign.{Assign}
use Rattle.sal_ast.specs.declared.statement.ForInit.{ForInit}
use Rattle.sal_ast.specs.declared.statement.Send.{Send}
use Rattle.sal_ast.specs.declared.statement.Stmt.{Stmt}
use Rattle.sal_ast.specs.declared.statement.Chain.{Chain}
use Rattle.sal_ast.specs.declared.statement.Stage.TheOpen.{Stage-F, Stmt-F}
use Rattle.sal_ast.specs.declared.statement.Stage.TheFolds.{fold-roll-Stmt, fold-roll-Stage, fold_out-Chain}
use Rattle.sal_ast.specs.declared.statement.Stmt.TheVariants as t
use Rattle.sal_ast.specs.declared.statement.Stage.TheVariants as g
use Rattle.sal_forms.specs.Places.{any_true, or_false, expr_step, suffix_step, at_step, operand_step, expr_names_places, suffix_names_places, at_names_places, operand_names_places, option_names_places, declare_names_places, assign_names_places, init_names_places, next_names_places, send_names_places, stage_step, stmt_step, chain_step, stage_names_places, stmt_names_places, chain_names_places}

any_map : {X : Type 0} (f : X → Bool) (xs : List X) → any_true (map f xs) ≡ list_any f xs
any_map f [] = refl
any_map f (x ∷ xs) = ap (λ b. f x || b) (any_map f xs)

pub names-Number : (n at : ℕ) → expr_names_places (e.Number n at) ≡ false
unfolding expr_names_places suffix_names_places at_names_places operand_names_places
names-Number n at = ap expr_names_places (sym (e.rolls-Number n at)) ∙ fold-roll-Expr Bool Bool Bool Bool expr_step suffix_step at_step operand_step (Expr-F.Number n at)

pub names-Str : (text : List ℕ) (at : ℕ) → expr_names_places (e.Str text at) ≡ false
unfolding expr_names_places suffix_names_places at_names_places operand_names_places
names-Str text at = ap expr_names_places (sym (e.rolls-Str text at)) ∙ fold-roll-Expr Bool Bool Bool Bool expr_step suffix_step at_step operand_step (Expr-F.Str text at)

pub names-Bool : (b : Bool) (at : ℕ) → expr_names_places (e.Bool b at) ≡ false
unfolding expr_names_places suffix_names_places at_names_places operand_names_places
names-Bool b at = ap expr_names_places (sym (e.rolls-Bool b at)) ∙ fold-roll-Expr Bool Bool Bool Bool expr_step suffix_step at_step operand_step (Expr-F.Bool b at)

pub names-Null : (at : ℕ) → expr_names_places (e.Null at) ≡ false
unfolding expr_names_places suffix_names_places at_names_places operand_names_places
names-Null at = ap expr_names_places (sym (e.rolls-Null at)) ∙ fold-roll-Expr Bool Bool Bool Bool expr_step suffix_step at_step operand_step (Expr-F.Null at)

pub names-Me : (at : ℕ) → expr_names_places (e.Me at) ≡ false
unfolding expr_names_places suffix_names_places at_names_places operand_names_places
names-Me at = ap expr_names_places (sym (e.rolls-Me at)) ∙ fold-roll-Expr Bool Bool Bool Bool expr_step suffix_step at_step operand_step (Expr-F.Me at)

pub names-Name : (name : Ident) → expr_names_places (e.Name name) ≡ false
unfolding expr_names_places suffix_names_places at_names_places operand_names_places
names-Name name = ap expr_names_places (sym (e.rolls-Name name)) ∙ fold-roll-Expr Bool Bool Bool Bool expr_step suffix_step at_step operand_step (Expr-F.Name name)

pub names-Own : (at : ℕ) (name : Ident) → expr_names_places (e.Own at name) ≡ false
unfolding expr_names_places suffix_names_places at_names_places operand_names_places
names-Own at name = ap expr_names_places (sym (e.rolls-Own at name)) ∙ fold-roll-Expr Bool Bool Bool Bool expr_step suffix_step at_step operand_step (Expr-F.Own at name)

pub names-Paren : (at : ℕ) (a : Expr) → expr_names_places (e.Paren at a) ≡ expr_names_places a
unfolding expr_names_places suffix_names_places at_names_places operand_names_places
names-Paren at a = ap expr_names_places (sym (e.rolls-Paren at a)) ∙ fold-roll-Expr Bool Bool Bool Bool expr_step suffix_step at_step operand_step (Expr-F.Paren at a)

pub names-Neg : (at : ℕ) (a : Expr) → expr_names_places (e.Neg at a) ≡ expr_names_places a
unfolding expr_names_places suffix_names_places at_names_places operand_names_places
names-Neg at a = ap expr_names_places (sym (e.rolls-Neg at a)) ∙ fold-roll-Expr Bool Bool Bool Bool expr_step suffix_step at_step operand_step (Expr-F.Neg at a)

pub names-Not : (at : ℕ) (a : Expr) → expr_names_places (e.Not at a) ≡ expr_names_places a
unfolding expr_names_places suffix_names_places at_names_places operand_names_places
names-Not at a = ap expr_names_places (sym (e.rolls-Not at a)) ∙ fold-roll-Expr Bool Bool Bool Bool expr_step suffix_step at_step operand_step (Expr-F.Not at a)

pub names-Level : (a : Expr) (rest : List Operand) → expr_names_places (e.Level a rest) ≡ (expr_names_places a || list_any operand_names_places rest)
unfolding expr_names_places suffix_names_places at_names_places operand_names_places
names-Level a rest = ap expr_names_places (sym (e.rolls-Level a rest)) ∙ fold-roll-Expr Bool Bool Bool Bool expr_step suffix_step at_step operand_step (Expr-F.Level a rest) ∙ ap (λ b. expr_names_places a || b) (any_map operand_names_places rest)

pub names-Suffixed : (a : Expr) (rest : List Suffix) → expr_names_places (e.Suffixed a rest) ≡ (expr_names_places a || list_any suffix_names_places rest)
unfolding expr_names_places suffix_names_places at_names_places operand_names_places
names-Suffixed a rest = ap expr_names_places (sym (e.rolls-Suffixed a rest)) ∙ fold-roll-Expr Bool Bool Bool Bool expr_step suffix_step at_step operand_step (Expr-F.Suffixed a rest) ∙ ap (λ b. expr_names_places a || b) (any_map suffix_names_places rest)

at_is : (at : ℕ) (a : Expr) (b : Option Expr) → at_names_places (record { at = at; uan = a; ual = b }) ≡ true
unfolding expr_names_places suffix_names_places at_names_places operand_names_places
at_is at a None = fold_out-At Bool Bool Bool Bool expr_step suffix_step at_step operand_step (record { at = at; uan = a; ual = None })
at_is at a (Some b) = fold_out-At Bool Bool Bool Bool expr_step suffix_step at_step operand_step (record { at = at; uan = a; ual = Some b })

names-At : (p : At) → at_names_places p ≡ true
names-At p = at_is p.at p.uan p.ual

pub places : (place : Option At) → or_false (option_map at_names_places place) ≡ is_some place
places None = refl
places (Some p) = names-At p

pub names-New : (at : ℕ) (behavior : Ident) (args : List Expr) (place : Option At) → expr_names_places (e.New at behavior args place) ≡ (or_false (option_map at_names_places place) || list_any expr_names_places args)
unfolding expr_names_places suffix_names_places at_names_places operand_names_places
names-New at behavior args None = ap expr_names_places (sym (e.rolls-New at behavior args None)) ∙ fold-roll-Expr Bool Bool Bool Bool expr_step suffix_step at_step operand_step (Expr-F.New at behavior args None) ∙ any_map expr_names_places args
names-New at behavior args (Some p) = ap expr_names_places (sym (e.rolls-New at behavior args (Some p))) ∙ fold-roll-Expr Bool Bool Bool Bool expr_step suffix_step at_step operand_step (Expr-F.New at behavior args (Some p)) ∙ ap (λ b. at_names_places p || b) (any_map expr_names_places args)

pub names-Make : (at : ℕ) (sort : TypeName) (a : Expr) → expr_names_places (e.Make at sort a) ≡ expr_names_places a
unfolding expr_names_places suffix_names_places at_names_places operand_names_places
names-Make at sort a = ap expr_names_places (sym (e.rolls-Make at sort a)) ∙ fold-roll-Expr Bool Bool Bool Bool expr_step suffix_step at_step operand_step (Expr-F.Make at sort a)

pub names-ListOf : (at : ℕ) (sort : TypeName) (items : List Expr) → expr_names_places (e.ListOf at sort items) ≡ list_any expr_names_places items
unfolding expr_names_places suffix_names_places at_names_places operand_names_places
names-ListOf at sort items = ap expr_names_places (sym (e.rolls-ListOf at sort items)) ∙ fold-roll-Expr Bool Bool Bool Bool expr_step suffix_step at_step operand_step (Expr-F.ListOf at sort items) ∙ any_map expr_names_places items

pub names-ByName : (at : ℕ) (cast : Option Ident) (behavior : Ident) (a : Expr) → expr_names_places (e.ByName at cast behavior a) ≡ true
unfolding expr_names_places suffix_names_places at_names_places operand_names_places
names-ByName at cast behavior a = ap expr_names_places (sym (e.rolls-ByName at cast behavior a)) ∙ fold-roll-Expr Bool Bool Bool Bool expr_step suffix_step at_step operand_step (Expr-F.ByName at cast behavior a)

pub names-Index : (at : ℕ) (a : Expr) → suffix_names_places (x.Index at a) ≡ expr_names_places a
unfolding expr_names_places suffix_names_places at_names_places operand_names_places
names-Index at a = ap suffix_names_places (sym (x.rolls-Index at a)) ∙ fold-roll-Suffix Bool Bool Bool Bool expr_step suffix_step at_step operand_step (Suffix-F.Index at a)

pub names-Length : (at : ℕ) → suffix_names_places (x.Length at) ≡ false
unfolding expr_names_places suffix_names_places at_names_places operand_names_places
names-Length at = ap suffix_names_places (sym (x.rolls-Length at)) ∙ fold-roll-Suffix Bool Bool Bool Bool expr_step suffix_step at_step operand_step (Suffix-F.Length at)

pub names-Operand : (p : Operand) → operand_names_places p ≡ expr_names_places p.value
unfolding expr_names_places suffix_names_places at_names_places operand_names_places
names-Operand p = fold_out-Operand Bool Bool Bool Bool expr_step suffix_step at_step operand_step p

pub names-Empty : (at : ℕ) → stmt_names_places (t.Empty at) ≡ false
unfolding stage_names_places stmt_names_places chain_names_places
names-Empty at = ap stmt_names_places (sym (t.rolls-Empty at)) ∙ fold-roll-Stmt Bool Bool Bool stage_step stmt_step chain_step (Stmt-F.Empty at)

pub names-Block : (at : ℕ) (list : List Stmt) → stmt_names_places (t.Block at list) ≡ list_any stmt_names_places list
unfolding stage_names_places stmt_names_places chain_names_places
names-Block at list = ap stmt_names_places (sym (t.rolls-Block at list)) ∙ fold-roll-Stmt Bool Bool Bool stage_step stmt_step chain_step (Stmt-F.Block at list) ∙ any_map stmt_names_places list

pub names-Declare : (d : Declare) → stmt_names_places (t.Declare d) ≡ declare_names_places d
unfolding stage_names_places stmt_names_places chain_names_places
names-Declare d = ap stmt_names_places (sym (t.rolls-Declare d)) ∙ fold-roll-Stmt Bool Bool Bool stage_step stmt_step chain_step (Stmt-F.Declare d)

pub names-Assign : (a : Assign) → stmt_names_places (t.Assign a) ≡ assign_names_places a
unfolding stage_names_places stmt_names_places chain_names_places
names-Assign a = ap stmt_names_places (sym (t.rolls-Assign a)) ∙ fold-roll-Stmt Bool Bool Bool stage_step stmt_step chain_step (Stmt-F.Assign a)

pub names-If : (at : ℕ) (test : Expr) (a : Stmt) (b : Option Stmt) → stmt_names_places (t.If at test a b) ≡ (expr_names_places test || stmt_names_places a || or_false (option_map stmt_names_places b))
unfolding stage_names_places stmt_names_places chain_names_places
names-If at test a None = ap stmt_names_places (sym (t.rolls-If at test a None)) ∙ fold-roll-Stmt Bool Bool Bool stage_step stmt_step chain_step (Stmt-F.If at test a None)
names-If at test a (Some b) = ap stmt_names_places (sym (t.rolls-If at test a (Some b))) ∙ fold-roll-Stmt Bool Bool Bool stage_step stmt_step chain_step (Stmt-F.If at test a (Some b))

pub names-While : (at : ℕ) (test : Expr) (body : Stmt) → stmt_names_places (t.While at test body) ≡ (expr_names_places test || stmt_names_places body)
unfolding stage_names_places stmt_names_places chain_names_places
names-While at test body = ap stmt_names_places (sym (t.rolls-While at test body)) ∙ fold-roll-Stmt Bool Bool Bool stage_step stmt_step chain_step (Stmt-F.While at test body)

pub names-For : (at : ℕ) (first : ForInit) (test : Option Expr) (next : Option Assign) (body : Stmt) → stmt_names_places (t.For at first test next body) ≡ (init_names_places first || option_names_places test || next_names_places next || stmt_names_places body)
unfolding stage_names_places stmt_names_places chain_names_places
names-For at first test next body = ap stmt_names_places (sym (t.rolls-For at first test next body)) ∙ fold-roll-Stmt Bool Bool Bool stage_step stmt_step chain_step (Stmt-F.For at first test next body)

pub names-Return : (at : ℕ) (value : Option Expr) → stmt_names_places (t.Return at value) ≡ option_names_places value
unfolding stage_names_places stmt_names_places chain_names_places
names-Return at value = ap stmt_names_places (sym (t.rolls-Return at value)) ∙ fold-roll-Stmt Bool Bool Bool stage_step stmt_step chain_step (Stmt-F.Return at value)

pub names-Token : (at : ℕ) (name : Ident) (c : Chain) → stmt_names_places (t.Token at name c) ≡ chain_names_places c
unfolding stage_names_places stmt_names_places chain_names_places
names-Token at name c = ap stmt_names_places (sym (t.rolls-Token at name c)) ∙ fold-roll-Stmt Bool Bool Bool stage_step stmt_step chain_step (Stmt-F.Token at name c)

pub names-Chain : (c : Chain) (passed : Option ℕ) → stmt_names_places (t.Chain c passed) ≡ chain_names_places c
unfolding stage_names_places stmt_names_places chain_names_places
names-Chain c passed = ap stmt_names_places (sym (t.rolls-Chain c passed)) ∙ fold-roll-Stmt Bool Bool Bool stage_step stmt_step chain_step (Stmt-F.Chain c passed)

pub names-Stages : (c : Chain) → chain_names_places c ≡ list_any stage_names_places c.stages
unfolding stage_names_places stmt_names_places chain_names_places
names-Stages c = fold_out-Chain Bool Bool Bool stage_step stmt_step chain_step c ∙ any_map stage_names_places c.stages

pub names-Message : (m : Send) → stage_names_places (g.Message m) ≡ send_names_places m
unfolding stage_names_places stmt_names_places chain_names_places
names-Message m = ap stage_names_places (sym (g.rolls-Message m)) ∙ fold-roll-Stage Bool Bool Bool stage_step stmt_step chain_step (Stage-F.Message m)

pub names-Join : (at : ℕ) (body : List Stmt) → stage_names_places (g.Join at body) ≡ list_any stmt_names_places body
unfolding stage_names_places stmt_names_places chain_names_places
names-Join at body = ap stage_names_places (sym (g.rolls-Join at body)) ∙ fold-roll-Stage Bool Bool Bool stage_step stmt_step chain_step (Stage-F.Join at body) ∙ any_map stmt_names_places body

pub ruleset equations = (names-Number, names-Str, names-Bool, names-Null, names-Me, names-Name, names-Own, names-Paren, names-Neg, names-Not, names-Level, names-Suffixed, names-New, names-Make, names-ListOf, names-ByName, names-Index, names-Length, names-Operand, names-Empty, names-Block, names-Declare, names-Assign, names-If, names-While, names-For, names-Return, names-Token, names-Chain, names-Stages, names-Message, names-Join)
