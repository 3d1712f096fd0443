-- Whether a statement surely ends the handler, by one equation for each form.
use Rattle.std.proofs.Common.{◌≡◌, ℕ, Bool, ◌||◌, List, [], ◌∷◌, map, Option, Some, None, option_map, refl, sym, ap, ◌∙◌}
use Rattle.std.specs.List.{list_any}
use Rattle.sal_ast.specs.declared.program.Ident.{Ident}
use Rattle.sal_ast.specs.declared.expression.Expr.{Expr}
use Rattle.sal_ast.specs.declared.statement.Declare.{Declare}
use Rattle.sal_ast.specs.declared.statement.Assign.{Assign}
use Rattle.sal_ast.specs.declared.statement.ForInit.{ForInit}
use Rattle.sal_ast.specs.declared.statement.Stmt.{Stmt}
use Rattle.sal_ast.specs.declared.statement.Chain.{Chain}
use Rattle.sal_ast.specs.declared.statement.Stage.TheOpen.{Stmt-F}
use Rattle.sal_ast.specs.declared.statement.Stage.TheFolds.{fold-roll-Stmt}
use Rattle.sal_ast.specs.declared.statement.Stmt.TheVariants as t
use Rattle.sal_types.specs.Endings.{stage_step, ends_step, chain_step, surely_ends}

pub ends-Empty : (at : ℕ) → surely_ends (t.Empty at) ≡ ends_step (Stmt-F.Empty at)
unfolding surely_ends
ends-Empty at = ap surely_ends (sym (t.rolls-Empty at)) ∙ fold-roll-Stmt (Unit {0}) Bool (Unit {0}) stage_step ends_step chain_step (Stmt-F.Empty at)

ends-Block : (at : ℕ) (list : List Stmt) → surely_ends (t.Block at list) ≡ ends_step (Stmt-F.Block at (map surely_ends list))
unfolding surely_ends
ends-Block at list = ap surely_ends (sym (t.rolls-Block at list)) ∙ fold-roll-Stmt (Unit {0}) Bool (Unit {0}) stage_step ends_step chain_step (Stmt-F.Block at list)

pub ends-Declare : (d : Declare) → surely_ends (t.Declare d) ≡ ends_step (Stmt-F.Declare d)
unfolding surely_ends
ends-Declare d = ap surely_ends (sym (t.rolls-Declare d)) ∙ fold-roll-Stmt (Unit {0}) Bool (Unit {0}) stage_step ends_step chain_step (Stmt-F.Declare d)

pub ends-Assign : (a : Assign) → surely_ends (t.Assign a) ≡ ends_step (Stmt-F.Assign a)
unfolding surely_ends
ends-Assign a = ap surely_ends (sym (t.rolls-Assign a)) ∙ fold-roll-Stmt (Unit {0}) Bool (Unit {0}) stage_step ends_step chain_step (Stmt-F.Assign a)

pub ends-While : (at : ℕ) (test : Expr) (body : Stmt) → surely_ends (t.While at test body) ≡ ends_step (Stmt-F.While at test (surely_ends body))
unfolding surely_ends
ends-While at test body = ap surely_ends (sym (t.rolls-While at test body)) ∙ fold-roll-Stmt (Unit {0}) Bool (Unit {0}) stage_step ends_step chain_step (Stmt-F.While at test body)

pub ends-For : (at : ℕ) (first : ForInit) (test : Option Expr) (next : Option Assign) (body : Stmt) → surely_ends (t.For at first test next body) ≡ ends_step (Stmt-F.For at first test next (surely_ends body))
unfolding surely_ends
ends-For at first test next body = ap surely_ends (sym (t.rolls-For at first test next body)) ∙ fold-roll-Stmt (Unit {0}) Bool (Unit {0}) stage_step ends_step chain_step (Stmt-F.For at first test next body)

pub ends-Return : (at : ℕ) (value : Option Expr) → surely_ends (t.Return at value) ≡ ends_step (Stmt-F.Return at value)
unfolding surely_ends
ends-Return at value = ap surely_ends (sym (t.rolls-Return at value)) ∙ fold-roll-Stmt (Unit {0}) Bool (Unit {0}) stage_step ends_step chain_step (Stmt-F.Return at value)

pub ends-If : (at : ℕ) (test : Expr) (a : Stmt) (b : Option Stmt) → surely_ends (t.If at test a b) ≡ ends_step (Stmt-F.If at test (surely_ends a) (option_map surely_ends b))
unfolding surely_ends
ends-If at test a None = ap surely_ends (sym (t.rolls-If at test a None)) ∙ fold-roll-Stmt (Unit {0}) Bool (Unit {0}) stage_step ends_step chain_step (Stmt-F.If at test a None)
ends-If at test a (Some b) = ap surely_ends (sym (t.rolls-If at test a (Some b))) ∙ fold-roll-Stmt (Unit {0}) Bool (Unit {0}) stage_step ends_step chain_step (Stmt-F.If at test a (Some b))

pub ends-Token : (at : ℕ) (name : Ident) (c : Chain) → surely_ends (t.Token at name c) ≡ ends_step (Stmt-F.Token at name tt)
unfolding surely_ends
ends-Token at name c = ap surely_ends (sym (t.rolls-Token at name c)) ∙ fold-roll-Stmt (Unit {0}) Bool (Unit {0}) stage_step ends_step chain_step (Stmt-F.Token at name c)

pub ends-Chain : (c : Chain) (passed : Option ℕ) → surely_ends (t.Chain c passed) ≡ ends_step (Stmt-F.Chain tt passed)
unfolding surely_ends
ends-Chain c passed = ap surely_ends (sym (t.rolls-Chain c passed)) ∙ fold-roll-Stmt (Unit {0}) Bool (Unit {0}) stage_step ends_step chain_step (Stmt-F.Chain c passed)

list_any-map : {X Y : Type 0} (p : Y → Bool) (f : X → Y) (xs : List X) → list_any p (map f xs) ≡ list_any (λ x. p (f x)) xs
list_any-map p f [] = refl
list_any-map p f (x ∷ xs) = ap (λ b. p (f x) || b) (list_any-map p f xs)

pub ends-Block_any : (at : ℕ) (list : List Stmt) → surely_ends (t.Block at list) ≡ list_any surely_ends list
ends-Block_any at list = ends-Block at list ∙ list_any-map (λ ends. ends) surely_ends list

pub ruleset equations = (ends-Empty, ends-Block_any, ends-Declare, ends-Assign, ends-While, ends-For, ends-Return, ends-If, ends-Token, ends-Chain)
