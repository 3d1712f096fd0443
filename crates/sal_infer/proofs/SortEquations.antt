-- The equations of the folds that give types, one for each form.
use Rattle.std.proofs.Common.{◌≡◌, ℕ, Bool, true, false, List, map, Option, Some, None, sym, ap, ◌∙◌}
use Rattle.sal_ast.specs.declared.program.Ident.{Ident}
use Rattle.sal_ast.specs.declared.program.TypeName.{TypeName}
use Rattle.sal_ast.specs.declared.expression.Op.{Op}
use Rattle.sal_ast.specs.declared.expression.Expr.{Expr}
use Rattle.sal_ast.specs.declared.expression.Operand.{Operand}
use Rattle.sal_ast.specs.declared.expression.Suffix.{Suffix}
use Rattle.sal_ast.specs.declared.expression.At.{At}
use Rattle.sal_ast.specs.declared.expression.Expr.TheOpen.{Expr-F, Suffix-F}
use Rattle.sal_ast.specs.declared.expression.Expr.TheFolds.{fold-roll-Expr, fold-roll-Suffix, fold_out-Operand}
use Rattle.sal_ast.specs.declared.expression.Expr.TheVariants as e
use Rattle.sal_ast.specs.declared.expression.Suffix.TheVariants as x
use Rattle.sal_ast.specs.Sorts.{Scope, SortInScope, sort_step, suffix_step, at_step, operand_step, sort_of}
use Rattle.sal_infer.specs.code.Parts.{suffix_kind, operand_sort}

pub sort-Number : (n at : ℕ) (s : Scope) → sort_of (e.Number n at) s ≡ sort_step (Expr-F.Number n at) s
unfolding sort_of suffix_kind operand_sort
sort-Number n at s = ap (λ d. sort_of d s) (sym (e.rolls-Number n at)) ∙ ap (λ f. f s) (fold-roll-Expr SortInScope Bool (Unit {0}) (Op × SortInScope) sort_step suffix_step at_step operand_step (Expr-F.Number n at))

pub sort-Str : (text : List ℕ) (at : ℕ) (s : Scope) → sort_of (e.Str text at) s ≡ sort_step (Expr-F.Str text at) s
unfolding sort_of suffix_kind operand_sort
sort-Str text at s = ap (λ d. sort_of d s) (sym (e.rolls-Str text at)) ∙ ap (λ f. f s) (fold-roll-Expr SortInScope Bool (Unit {0}) (Op × SortInScope) sort_step suffix_step at_step operand_step (Expr-F.Str text at))

pub sort-Bool : (b : Bool) (at : ℕ) (s : Scope) → sort_of (e.Bool b at) s ≡ sort_step (Expr-F.Bool b at) s
unfolding sort_of suffix_kind operand_sort
sort-Bool b at s = ap (λ d. sort_of d s) (sym (e.rolls-Bool b at)) ∙ ap (λ f. f s) (fold-roll-Expr SortInScope Bool (Unit {0}) (Op × SortInScope) sort_step suffix_step at_step operand_step (Expr-F.Bool b at))

pub sort-Null : (at : ℕ) (s : Scope) → sort_of (e.Null at) s ≡ sort_step (Expr-F.Null at) s
unfolding sort_of suffix_kind operand_sort
sort-Null at s = ap (λ d. sort_of d s) (sym (e.rolls-Null at)) ∙ ap (λ f. f s) (fold-roll-Expr SortInScope Bool (Unit {0}) (Op × SortInScope) sort_step suffix_step at_step operand_step (Expr-F.Null at))

pub sort-Me : (at : ℕ) (s : Scope) → sort_of (e.Me at) s ≡ sort_step (Expr-F.Me at) s
unfolding sort_of suffix_kind operand_sort
sort-Me at s = ap (λ d. sort_of d s) (sym (e.rolls-Me at)) ∙ ap (λ f. f s) (fold-roll-Expr SortInScope Bool (Unit {0}) (Op × SortInScope) sort_step suffix_step at_step operand_step (Expr-F.Me at))

pub sort-Name : (name : Ident) (s : Scope) → sort_of (e.Name name) s ≡ sort_step (Expr-F.Name name) s
unfolding sort_of suffix_kind operand_sort
sort-Name name s = ap (λ d. sort_of d s) (sym (e.rolls-Name name)) ∙ ap (λ f. f s) (fold-roll-Expr SortInScope Bool (Unit {0}) (Op × SortInScope) sort_step suffix_step at_step operand_step (Expr-F.Name name))

pub sort-Own : (at : ℕ) (name : Ident) (s : Scope) → sort_of (e.Own at name) s ≡ sort_step (Expr-F.Own at name) s
unfolding sort_of suffix_kind operand_sort
sort-Own at name s = ap (λ d. sort_of d s) (sym (e.rolls-Own at name)) ∙ ap (λ f. f s) (fold-roll-Expr SortInScope Bool (Unit {0}) (Op × SortInScope) sort_step suffix_step at_step operand_step (Expr-F.Own at name))

pub sort-Paren : (at : ℕ) (a : Expr) (s : Scope) → sort_of (e.Paren at a) s ≡ sort_step (Expr-F.Paren at (sort_of a)) s
unfolding sort_of suffix_kind operand_sort
sort-Paren at a s = ap (λ d. sort_of d s) (sym (e.rolls-Paren at a)) ∙ ap (λ f. f s) (fold-roll-Expr SortInScope Bool (Unit {0}) (Op × SortInScope) sort_step suffix_step at_step operand_step (Expr-F.Paren at a))

pub sort-Neg : (at : ℕ) (a : Expr) (s : Scope) → sort_of (e.Neg at a) s ≡ sort_step (Expr-F.Neg at (sort_of a)) s
unfolding sort_of suffix_kind operand_sort
sort-Neg at a s = ap (λ d. sort_of d s) (sym (e.rolls-Neg at a)) ∙ ap (λ f. f s) (fold-roll-Expr SortInScope Bool (Unit {0}) (Op × SortInScope) sort_step suffix_step at_step operand_step (Expr-F.Neg at a))

pub sort-Not : (at : ℕ) (a : Expr) (s : Scope) → sort_of (e.Not at a) s ≡ sort_step (Expr-F.Not at (sort_of a)) s
unfolding sort_of suffix_kind operand_sort
sort-Not at a s = ap (λ d. sort_of d s) (sym (e.rolls-Not at a)) ∙ ap (λ f. f s) (fold-roll-Expr SortInScope Bool (Unit {0}) (Op × SortInScope) sort_step suffix_step at_step operand_step (Expr-F.Not at a))

pub sort-Level : (a : Expr) (rest : List Operand) (s : Scope) → sort_of (e.Level a rest) s ≡ sort_step (Expr-F.Level (sort_of a) (map operand_sort rest)) s
unfolding sort_of suffix_kind operand_sort
sort-Level a rest s = ap (λ d. sort_of d s) (sym (e.rolls-Level a rest)) ∙ ap (λ f. f s) (fold-roll-Expr SortInScope Bool (Unit {0}) (Op × SortInScope) sort_step suffix_step at_step operand_step (Expr-F.Level a rest))

pub sort-Suffixed : (a : Expr) (rest : List Suffix) (s : Scope) → sort_of (e.Suffixed a rest) s ≡ sort_step (Expr-F.Suffixed (sort_of a) (map suffix_kind rest)) s
unfolding sort_of suffix_kind operand_sort
sort-Suffixed a rest s = ap (λ d. sort_of d s) (sym (e.rolls-Suffixed a rest)) ∙ ap (λ f. f s) (fold-roll-Expr SortInScope Bool (Unit {0}) (Op × SortInScope) sort_step suffix_step at_step operand_step (Expr-F.Suffixed a rest))

pub sort-Make : (at : ℕ) (sort : TypeName) (a : Expr) (s : Scope) → sort_of (e.Make at sort a) s ≡ sort_step (Expr-F.Make at sort (sort_of a)) s
unfolding sort_of suffix_kind operand_sort
sort-Make at sort a s = ap (λ d. sort_of d s) (sym (e.rolls-Make at sort a)) ∙ ap (λ f. f s) (fold-roll-Expr SortInScope Bool (Unit {0}) (Op × SortInScope) sort_step suffix_step at_step operand_step (Expr-F.Make at sort a))

pub sort-ListOf : (at : ℕ) (sort : TypeName) (items : List Expr) (s : Scope) → sort_of (e.ListOf at sort items) s ≡ sort_step (Expr-F.ListOf at sort (map sort_of items)) s
unfolding sort_of suffix_kind operand_sort
sort-ListOf at sort items s = ap (λ d. sort_of d s) (sym (e.rolls-ListOf at sort items)) ∙ ap (λ f. f s) (fold-roll-Expr SortInScope Bool (Unit {0}) (Op × SortInScope) sort_step suffix_step at_step operand_step (Expr-F.ListOf at sort items))

pub sort-ByName : (at : ℕ) (cast : Option Ident) (behavior : Ident) (a : Expr) (s : Scope) → sort_of (e.ByName at cast behavior a) s ≡ sort_step (Expr-F.ByName at cast behavior (sort_of a)) s
unfolding sort_of suffix_kind operand_sort
sort-ByName at cast behavior a s = ap (λ d. sort_of d s) (sym (e.rolls-ByName at cast behavior a)) ∙ ap (λ f. f s) (fold-roll-Expr SortInScope Bool (Unit {0}) (Op × SortInScope) sort_step suffix_step at_step operand_step (Expr-F.ByName at cast behavior a))

pub sort-New : (at : ℕ) (behavior : Ident) (args : List Expr) (place : Option At) (s : Scope) → sort_of (e.New at behavior args place) s ≡ sort_step (Expr-F.New at behavior (map sort_of args) None) s
unfolding sort_of suffix_kind operand_sort
sort-New at behavior args None s = ap (λ d. sort_of d s) (sym (e.rolls-New at behavior args None)) ∙ ap (λ f. f s) (fold-roll-Expr SortInScope Bool (Unit {0}) (Op × SortInScope) sort_step suffix_step at_step operand_step (Expr-F.New at behavior args None))
sort-New at behavior args (Some p) s = ap (λ d. sort_of d s) (sym (e.rolls-New at behavior args (Some p))) ∙ ap (λ f. f s) (fold-roll-Expr SortInScope Bool (Unit {0}) (Op × SortInScope) sort_step suffix_step at_step operand_step (Expr-F.New at behavior args (Some p)))

pub kind-Index : (at : ℕ) (a : Expr) → suffix_kind (x.Index at a) ≡ true
unfolding sort_of suffix_kind operand_sort
kind-Index at a = ap suffix_kind (sym (x.rolls-Index at a)) ∙ fold-roll-Suffix SortInScope Bool (Unit {0}) (Op × SortInScope) sort_step suffix_step at_step operand_step (Suffix-F.Index at a)

pub kind-Length : (at : ℕ) → suffix_kind (x.Length at) ≡ false
unfolding sort_of suffix_kind operand_sort
kind-Length at = ap suffix_kind (sym (x.rolls-Length at)) ∙ fold-roll-Suffix SortInScope Bool (Unit {0}) (Op × SortInScope) sort_step suffix_step at_step operand_step (Suffix-F.Length at)

pub operand_sort_is : (p : Operand) → operand_sort p ≡ (p.op, sort_of p.value)
unfolding sort_of suffix_kind operand_sort
operand_sort_is p = fold_out-Operand SortInScope Bool (Unit {0}) (Op × SortInScope) sort_step suffix_step at_step operand_step p

pub ruleset sort_equations = (sort-Number, sort-Str, sort-Bool, sort-Null, sort-Me, sort-Name, sort-Own, sort-Paren, sort-Neg, sort-Not, sort-Level, sort-Suffixed, sort-Make, sort-ListOf, sort-ByName, sort-New, kind-Index, kind-Length, operand_sort_is)
