-- The offset of the first token, by one equation for each form of an expression.
use Rattle.std.proofs.Common.{◌≡◌, ℕ, Bool, List, [], map, Option, Some, None, sym, ap, ◌∙◌}
use Rattle.sal_ast.specs.declared.program.Ident.{Ident}
use Rattle.sal_ast.specs.declared.program.TypeName.{TypeName}
use Rattle.sal_ast.specs.declared.expression.Expr.{Expr}
use Rattle.sal_ast.specs.declared.expression.Operand.{Operand}
use Rattle.sal_ast.specs.declared.expression.Suffix.{Suffix}
use Rattle.sal_ast.specs.declared.expression.At.{At}
use Rattle.sal_ast.specs.declared.expression.Expr.TheOpen.{Expr-F}
use Rattle.sal_ast.specs.declared.expression.Expr.TheFolds.{fold-roll-Expr}
use Rattle.sal_ast.specs.declared.expression.Expr.TheVariants as e
use Rattle.sal_sorts.specs.Starts.{start_step, suffix_step, at_step, operand_step, expr_start}

pub expr_start-Number : (n at : ℕ) → expr_start (e.Number n at) ≡ start_step (Expr-F.Number n at)
unfolding expr_start
expr_start-Number n at = ap expr_start (sym (e.rolls-Number n at)) ∙ fold-roll-Expr ℕ (Unit {0}) (Unit {0}) (Unit {0}) start_step suffix_step at_step operand_step (Expr-F.Number n at)

pub expr_start-Str : (text : List ℕ) (at : ℕ) → expr_start (e.Str text at) ≡ start_step (Expr-F.Str text at)
unfolding expr_start
expr_start-Str text at = ap expr_start (sym (e.rolls-Str text at)) ∙ fold-roll-Expr ℕ (Unit {0}) (Unit {0}) (Unit {0}) start_step suffix_step at_step operand_step (Expr-F.Str text at)

pub expr_start-Bool : (b : Bool) (at : ℕ) → expr_start (e.Bool b at) ≡ start_step (Expr-F.Bool b at)
unfolding expr_start
expr_start-Bool b at = ap expr_start (sym (e.rolls-Bool b at)) ∙ fold-roll-Expr ℕ (Unit {0}) (Unit {0}) (Unit {0}) start_step suffix_step at_step operand_step (Expr-F.Bool b at)

pub expr_start-Null : (at : ℕ) → expr_start (e.Null at) ≡ start_step (Expr-F.Null at)
unfolding expr_start
expr_start-Null at = ap expr_start (sym (e.rolls-Null at)) ∙ fold-roll-Expr ℕ (Unit {0}) (Unit {0}) (Unit {0}) start_step suffix_step at_step operand_step (Expr-F.Null at)

pub expr_start-Me : (at : ℕ) → expr_start (e.Me at) ≡ start_step (Expr-F.Me at)
unfolding expr_start
expr_start-Me at = ap expr_start (sym (e.rolls-Me at)) ∙ fold-roll-Expr ℕ (Unit {0}) (Unit {0}) (Unit {0}) start_step suffix_step at_step operand_step (Expr-F.Me at)

pub expr_start-Name : (name : Ident) → expr_start (e.Name name) ≡ start_step (Expr-F.Name name)
unfolding expr_start
expr_start-Name name = ap expr_start (sym (e.rolls-Name name)) ∙ fold-roll-Expr ℕ (Unit {0}) (Unit {0}) (Unit {0}) start_step suffix_step at_step operand_step (Expr-F.Name name)

pub expr_start-Own : (at : ℕ) (name : Ident) → expr_start (e.Own at name) ≡ start_step (Expr-F.Own at name)
unfolding expr_start
expr_start-Own at name = ap expr_start (sym (e.rolls-Own at name)) ∙ fold-roll-Expr ℕ (Unit {0}) (Unit {0}) (Unit {0}) start_step suffix_step at_step operand_step (Expr-F.Own at name)

pub expr_start-Paren : (at : ℕ) (a : Expr) → expr_start (e.Paren at a) ≡ start_step (Expr-F.Paren at (expr_start a))
unfolding expr_start
expr_start-Paren at a = ap expr_start (sym (e.rolls-Paren at a)) ∙ fold-roll-Expr ℕ (Unit {0}) (Unit {0}) (Unit {0}) start_step suffix_step at_step operand_step (Expr-F.Paren at a)

pub expr_start-Neg : (at : ℕ) (a : Expr) → expr_start (e.Neg at a) ≡ start_step (Expr-F.Neg at (expr_start a))
unfolding expr_start
expr_start-Neg at a = ap expr_start (sym (e.rolls-Neg at a)) ∙ fold-roll-Expr ℕ (Unit {0}) (Unit {0}) (Unit {0}) start_step suffix_step at_step operand_step (Expr-F.Neg at a)

pub expr_start-Not : (at : ℕ) (a : Expr) → expr_start (e.Not at a) ≡ start_step (Expr-F.Not at (expr_start a))
unfolding expr_start
expr_start-Not at a = ap expr_start (sym (e.rolls-Not at a)) ∙ fold-roll-Expr ℕ (Unit {0}) (Unit {0}) (Unit {0}) start_step suffix_step at_step operand_step (Expr-F.Not at a)

pub expr_start-Level : (a : Expr) (rest : List Operand) → expr_start (e.Level a rest) ≡ start_step (Expr-F.Level (expr_start a) [])
unfolding expr_start
expr_start-Level a rest = ap expr_start (sym (e.rolls-Level a rest)) ∙ fold-roll-Expr ℕ (Unit {0}) (Unit {0}) (Unit {0}) start_step suffix_step at_step operand_step (Expr-F.Level a rest)

pub expr_start-Suffixed : (a : Expr) (rest : List Suffix) → expr_start (e.Suffixed a rest) ≡ start_step (Expr-F.Suffixed (expr_start a) [])
unfolding expr_start
expr_start-Suffixed a rest = ap expr_start (sym (e.rolls-Suffixed a rest)) ∙ fold-roll-Expr ℕ (Unit {0}) (Unit {0}) (Unit {0}) start_step suffix_step at_step operand_step (Expr-F.Suffixed a rest)

pub expr_start-Make : (at : ℕ) (sort : TypeName) (a : Expr) → expr_start (e.Make at sort a) ≡ start_step (Expr-F.Make at sort (expr_start a))
unfolding expr_start
expr_start-Make at sort a = ap expr_start (sym (e.rolls-Make at sort a)) ∙ fold-roll-Expr ℕ (Unit {0}) (Unit {0}) (Unit {0}) start_step suffix_step at_step operand_step (Expr-F.Make at sort a)

pub expr_start-ListOf : (at : ℕ) (sort : TypeName) (items : List Expr) → expr_start (e.ListOf at sort items) ≡ start_step (Expr-F.ListOf at sort (map expr_start items))
unfolding expr_start
expr_start-ListOf at sort items = ap expr_start (sym (e.rolls-ListOf at sort items)) ∙ fold-roll-Expr ℕ (Unit {0}) (Unit {0}) (Unit {0}) start_step suffix_step at_step operand_step (Expr-F.ListOf at sort items)

pub expr_start-ByName : (at : ℕ) (cast : Option Ident) (behavior : Ident) (a : Expr) → expr_start (e.ByName at cast behavior a) ≡ start_step (Expr-F.ByName at cast behavior (expr_start a))
unfolding expr_start
expr_start-ByName at cast behavior a = ap expr_start (sym (e.rolls-ByName at cast behavior a)) ∙ fold-roll-Expr ℕ (Unit {0}) (Unit {0}) (Unit {0}) start_step suffix_step at_step operand_step (Expr-F.ByName at cast behavior a)

pub expr_start-New : (at : ℕ) (behavior : Ident) (args : List Expr) (place : Option At) → expr_start (e.New at behavior args place) ≡ start_step (Expr-F.New at behavior (map expr_start args) None)
unfolding expr_start
expr_start-New at behavior args None = ap expr_start (sym (e.rolls-New at behavior args None)) ∙ fold-roll-Expr ℕ (Unit {0}) (Unit {0}) (Unit {0}) start_step suffix_step at_step operand_step (Expr-F.New at behavior args None)
expr_start-New at behavior args (Some p) = ap expr_start (sym (e.rolls-New at behavior args (Some p))) ∙ fold-roll-Expr ℕ (Unit {0}) (Unit {0}) (Unit {0}) start_step suffix_step at_step operand_step (Expr-F.New at behavior args (Some p))

pub ruleset equations = (expr_start-Number, expr_start-Str, expr_start-Bool, expr_start-Null, expr_start-Me, expr_start-Name, expr_start-Own, expr_start-Paren, expr_start-Neg, expr_start-Not, expr_start-Level, expr_start-Suffixed, expr_start-Make, expr_start-ListOf, expr_start-ByName, expr_start-New)
