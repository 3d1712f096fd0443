-- The equations of `eval` in a context and a state, one for each form.
use Rattle.std.proofs.Common.{◌≡◌, ℕ, Bool, List, map, Option, Some, None, ap}
use Rattle.sal_ast.specs.declared.program.Ident.{Ident}
use Rattle.sal_ast.specs.declared.program.TypeName.{TypeName}
use Rattle.sal_ast.specs.declared.expression.Expr.{Expr}
use Rattle.sal_ast.specs.declared.expression.Operand.{Operand}
use Rattle.sal_ast.specs.declared.expression.Suffix.{Suffix}
use Rattle.sal_ast.specs.declared.expression.At.{At}
use Rattle.sal_ast.specs.declared.expression.Expr.TheOpen.{Expr-F}
use Rattle.sal_ast.specs.declared.expression.Expr.TheVariants as e
use Rattle.sal_handler.specs.declared.state.State.{State}
use Rattle.sal_handler.specs.Scopes.{Context}
use Rattle.sal_handler.specs.Expressions.{expr_step, eval, suffix, location, operand}
use Rattle.sal_handler.proofs.Evaluations as whole

pub eval-Number : (n at : ℕ) (r : Context) (s : State) → eval (e.Number n at) r s ≡ expr_step (Expr-F.Number n at) r s
eval-Number n at r s = ap (λ d. d r s) (whole.eval-Number n at)

pub eval-Str : (text : List ℕ) (at : ℕ) (r : Context) (s : State) → eval (e.Str text at) r s ≡ expr_step (Expr-F.Str text at) r s
eval-Str text at r s = ap (λ d. d r s) (whole.eval-Str text at)

pub eval-Bool : (b : Bool) (at : ℕ) (r : Context) (s : State) → eval (e.Bool b at) r s ≡ expr_step (Expr-F.Bool b at) r s
eval-Bool b at r s = ap (λ d. d r s) (whole.eval-Bool b at)

pub eval-Null : (at : ℕ) (r : Context) (s : State) → eval (e.Null at) r s ≡ expr_step (Expr-F.Null at) r s
eval-Null at r s = ap (λ d. d r s) (whole.eval-Null at)

pub eval-Me : (at : ℕ) (r : Context) (s : State) → eval (e.Me at) r s ≡ expr_step (Expr-F.Me at) r s
eval-Me at r s = ap (λ d. d r s) (whole.eval-Me at)

pub eval-Name : (name : Ident) (r : Context) (s : State) → eval (e.Name name) r s ≡ expr_step (Expr-F.Name name) r s
eval-Name name r s = ap (λ d. d r s) (whole.eval-Name name)

pub eval-Own : (at : ℕ) (name : Ident) (r : Context) (s : State) → eval (e.Own at name) r s ≡ expr_step (Expr-F.Own at name) r s
eval-Own at name r s = ap (λ d. d r s) (whole.eval-Own at name)

pub eval-Paren : (at : ℕ) (a : Expr) (r : Context) (s : State) → eval (e.Paren at a) r s ≡ expr_step (Expr-F.Paren at (eval a)) r s
eval-Paren at a r s = ap (λ d. d r s) (whole.eval-Paren at a)

pub eval-Neg : (at : ℕ) (a : Expr) (r : Context) (s : State) → eval (e.Neg at a) r s ≡ expr_step (Expr-F.Neg at (eval a)) r s
eval-Neg at a r s = ap (λ d. d r s) (whole.eval-Neg at a)

pub eval-Not : (at : ℕ) (a : Expr) (r : Context) (s : State) → eval (e.Not at a) r s ≡ expr_step (Expr-F.Not at (eval a)) r s
eval-Not at a r s = ap (λ d. d r s) (whole.eval-Not at a)

pub eval-Level : (a : Expr) (rest : List Operand) (r : Context) (s : State) → eval (e.Level a rest) r s ≡ expr_step (Expr-F.Level (eval a) (map operand rest)) r s
eval-Level a rest r s = ap (λ d. d r s) (whole.eval-Level a rest)

pub eval-Suffixed : (a : Expr) (rest : List Suffix) (r : Context) (s : State) → eval (e.Suffixed a rest) r s ≡ expr_step (Expr-F.Suffixed (eval a) (map suffix rest)) r s
eval-Suffixed a rest r s = ap (λ d. d r s) (whole.eval-Suffixed a rest)

pub eval-Make : (at : ℕ) (sort : TypeName) (a : Expr) (r : Context) (s : State) → eval (e.Make at sort a) r s ≡ expr_step (Expr-F.Make at sort (eval a)) r s
eval-Make at sort a r s = ap (λ d. d r s) (whole.eval-Make at sort a)

pub eval-ListOf : (at : ℕ) (sort : TypeName) (items : List Expr) (r : Context) (s : State) → eval (e.ListOf at sort items) r s ≡ expr_step (Expr-F.ListOf at sort (map eval items)) r s
eval-ListOf at sort items r s = ap (λ d. d r s) (whole.eval-ListOf at sort items)

pub eval-ByName : (at : ℕ) (cast : Option Ident) (behavior : Ident) (a : Expr) (r : Context) (s : State) → eval (e.ByName at cast behavior a) r s ≡ expr_step (Expr-F.ByName at cast behavior (eval a)) r s
eval-ByName at cast behavior a r s = ap (λ d. d r s) (whole.eval-ByName at cast behavior a)

pub eval-New : (at : ℕ) (behavior : Ident) (args : List Expr) (r : Context) (s : State) → eval (e.New at behavior args None) r s ≡ expr_step (Expr-F.New at behavior (map eval args) None) r s
eval-New at behavior args r s = ap (λ d. d r s) (whole.eval-New at behavior args)

pub eval-NewAt : (at : ℕ) (behavior : Ident) (args : List Expr) (p : At) (r : Context) (s : State) → eval (e.New at behavior args (Some p)) r s ≡ expr_step (Expr-F.New at behavior (map eval args) (Some (location p))) r s
eval-NewAt at behavior args p r s = ap (λ d. d r s) (whole.eval-NewAt at behavior args p)

pub ruleset equations = (eval-Number, eval-Str, eval-Bool, eval-Null, eval-Me, eval-Name, eval-Own, eval-Paren, eval-Neg, eval-Not, eval-Level, eval-Suffixed, eval-Make, eval-ListOf, eval-ByName, eval-New, eval-NewAt, whole.suffix-Index, whole.suffix-Length, whole.operand_is, whole.located_is)
