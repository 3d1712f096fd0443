-- The equations of `eval`, one for each form.
use Rattle.std.proofs.Common.{◌≡◌, ℕ, Bool, List, map, Option, Some, None, option_map, sym, ap, ◌∙◌}
use Rattle.sal_ast.specs.declared.program.Ident.{Ident}
use Rattle.sal_ast.specs.declared.program.TypeName.{TypeName}
use Rattle.sal_ast.specs.declared.expression.Expr.{Expr}
use Rattle.sal_ast.specs.declared.expression.Operand.{Operand}
use Rattle.sal_ast.specs.declared.expression.Suffix.{Suffix}
use Rattle.sal_ast.specs.declared.expression.At.{At}
use Rattle.sal_ast.specs.declared.expression.Expr.TheOpen.{Expr-F, Suffix-F}
use Rattle.sal_ast.specs.declared.expression.Expr.TheFolds.{fold-roll-Expr, fold-roll-Suffix, fold_out-At, fold_out-Operand}
use Rattle.sal_ast.specs.declared.expression.Expr.TheVariants as e
use Rattle.sal_ast.specs.declared.expression.Suffix.TheVariants as x
use Rattle.sal_handler.specs.Expressions.{Denotation, SuffixDenotation, LocationDenotation, OperandDenotation, expr_step, suffix_step, at_step, operand_step, eval, suffix, location, operand}

pub eval-Number : (n at : ℕ) → eval (e.Number n at) ≡ expr_step (Expr-F.Number n at)
unfolding eval suffix location operand
eval-Number n at = ap eval (sym (e.rolls-Number n at)) ∙ fold-roll-Expr Denotation SuffixDenotation LocationDenotation OperandDenotation expr_step suffix_step at_step operand_step (Expr-F.Number n at)

pub eval-Str : (text : List ℕ) (at : ℕ) → eval (e.Str text at) ≡ expr_step (Expr-F.Str text at)
unfolding eval suffix location operand
eval-Str text at = ap eval (sym (e.rolls-Str text at)) ∙ fold-roll-Expr Denotation SuffixDenotation LocationDenotation OperandDenotation expr_step suffix_step at_step operand_step (Expr-F.Str text at)

pub eval-Bool : (b : Bool) (at : ℕ) → eval (e.Bool b at) ≡ expr_step (Expr-F.Bool b at)
unfolding eval suffix location operand
eval-Bool b at = ap eval (sym (e.rolls-Bool b at)) ∙ fold-roll-Expr Denotation SuffixDenotation LocationDenotation OperandDenotation expr_step suffix_step at_step operand_step (Expr-F.Bool b at)

pub eval-Null : (at : ℕ) → eval (e.Null at) ≡ expr_step (Expr-F.Null at)
unfolding eval suffix location operand
eval-Null at = ap eval (sym (e.rolls-Null at)) ∙ fold-roll-Expr Denotation SuffixDenotation LocationDenotation OperandDenotation expr_step suffix_step at_step operand_step (Expr-F.Null at)

pub eval-Me : (at : ℕ) → eval (e.Me at) ≡ expr_step (Expr-F.Me at)
unfolding eval suffix location operand
eval-Me at = ap eval (sym (e.rolls-Me at)) ∙ fold-roll-Expr Denotation SuffixDenotation LocationDenotation OperandDenotation expr_step suffix_step at_step operand_step (Expr-F.Me at)

pub eval-Name : (name : Ident) → eval (e.Name name) ≡ expr_step (Expr-F.Name name)
unfolding eval suffix location operand
eval-Name name = ap eval (sym (e.rolls-Name name)) ∙ fold-roll-Expr Denotation SuffixDenotation LocationDenotation OperandDenotation expr_step suffix_step at_step operand_step (Expr-F.Name name)

pub eval-Own : (at : ℕ) (name : Ident) → eval (e.Own at name) ≡ expr_step (Expr-F.Own at name)
unfolding eval suffix location operand
eval-Own at name = ap eval (sym (e.rolls-Own at name)) ∙ fold-roll-Expr Denotation SuffixDenotation LocationDenotation OperandDenotation expr_step suffix_step at_step operand_step (Expr-F.Own at name)

pub eval-Paren : (at : ℕ) (a : Expr) → eval (e.Paren at a) ≡ expr_step (Expr-F.Paren at (eval a))
unfolding eval suffix location operand
eval-Paren at a = ap eval (sym (e.rolls-Paren at a)) ∙ fold-roll-Expr Denotation SuffixDenotation LocationDenotation OperandDenotation expr_step suffix_step at_step operand_step (Expr-F.Paren at a)

pub eval-Neg : (at : ℕ) (a : Expr) → eval (e.Neg at a) ≡ expr_step (Expr-F.Neg at (eval a))
unfolding eval suffix location operand
eval-Neg at a = ap eval (sym (e.rolls-Neg at a)) ∙ fold-roll-Expr Denotation SuffixDenotation LocationDenotation OperandDenotation expr_step suffix_step at_step operand_step (Expr-F.Neg at a)

pub eval-Not : (at : ℕ) (a : Expr) → eval (e.Not at a) ≡ expr_step (Expr-F.Not at (eval a))
unfolding eval suffix location operand
eval-Not at a = ap eval (sym (e.rolls-Not at a)) ∙ fold-roll-Expr Denotation SuffixDenotation LocationDenotation OperandDenotation expr_step suffix_step at_step operand_step (Expr-F.Not at a)

pub eval-Level : (a : Expr) (rest : List Operand) → eval (e.Level a rest) ≡ expr_step (Expr-F.Level (eval a) (map operand rest))
unfolding eval suffix location operand
eval-Level a rest = ap eval (sym (e.rolls-Level a rest)) ∙ fold-roll-Expr Denotation SuffixDenotation LocationDenotation OperandDenotation expr_step suffix_step at_step operand_step (Expr-F.Level a rest)

pub eval-Suffixed : (a : Expr) (rest : List Suffix) → eval (e.Suffixed a rest) ≡ expr_step (Expr-F.Suffixed (eval a) (map suffix rest))
unfolding eval suffix location operand
eval-Suffixed a rest = ap eval (sym (e.rolls-Suffixed a rest)) ∙ fold-roll-Expr Denotation SuffixDenotation LocationDenotation OperandDenotation expr_step suffix_step at_step operand_step (Expr-F.Suffixed a rest)

pub eval-Make : (at : ℕ) (sort : TypeName) (a : Expr) → eval (e.Make at sort a) ≡ expr_step (Expr-F.Make at sort (eval a))
unfolding eval suffix location operand
eval-Make at sort a = ap eval (sym (e.rolls-Make at sort a)) ∙ fold-roll-Expr Denotation SuffixDenotation LocationDenotation OperandDenotation expr_step suffix_step at_step operand_step (Expr-F.Make at sort a)

pub eval-ListOf : (at : ℕ) (sort : TypeName) (items : List Expr) → eval (e.ListOf at sort items) ≡ expr_step (Expr-F.ListOf at sort (map eval items))
unfolding eval suffix location operand
eval-ListOf at sort items = ap eval (sym (e.rolls-ListOf at sort items)) ∙ fold-roll-Expr Denotation SuffixDenotation LocationDenotation OperandDenotation expr_step suffix_step at_step operand_step (Expr-F.ListOf at sort items)

pub eval-ByName : (at : ℕ) (cast : Option Ident) (behavior : Ident) (a : Expr) → eval (e.ByName at cast behavior a) ≡ expr_step (Expr-F.ByName at cast behavior (eval a))
unfolding eval suffix location operand
eval-ByName at cast behavior a = ap eval (sym (e.rolls-ByName at cast behavior a)) ∙ fold-roll-Expr Denotation SuffixDenotation LocationDenotation OperandDenotation expr_step suffix_step at_step operand_step (Expr-F.ByName at cast behavior a)

pub eval-New : (at : ℕ) (behavior : Ident) (args : List Expr) → eval (e.New at behavior args None) ≡ expr_step (Expr-F.New at behavior (map eval args) None)
unfolding eval suffix location operand
eval-New at behavior args = ap eval (sym (e.rolls-New at behavior args None)) ∙ fold-roll-Expr Denotation SuffixDenotation LocationDenotation OperandDenotation expr_step suffix_step at_step operand_step (Expr-F.New at behavior args None)

pub eval-NewAt : (at : ℕ) (behavior : Ident) (args : List Expr) (p : At) → eval (e.New at behavior args (Some p)) ≡ expr_step (Expr-F.New at behavior (map eval args) (Some (location p)))
unfolding eval suffix location operand
eval-NewAt at behavior args p = ap eval (sym (e.rolls-New at behavior args (Some p))) ∙ fold-roll-Expr Denotation SuffixDenotation LocationDenotation OperandDenotation expr_step suffix_step at_step operand_step (Expr-F.New at behavior args (Some p))

pub suffix-Index : (at : ℕ) (a : Expr) → suffix (x.Index at a) ≡ Some (eval a)
unfolding eval suffix location operand
suffix-Index at a = ap suffix (sym (x.rolls-Index at a)) ∙ fold-roll-Suffix Denotation SuffixDenotation LocationDenotation OperandDenotation expr_step suffix_step at_step operand_step (Suffix-F.Index at a)

pub suffix-Length : (at : ℕ) → suffix (x.Length at) ≡ None
unfolding eval suffix location operand
suffix-Length at = ap suffix (sym (x.rolls-Length at)) ∙ fold-roll-Suffix Denotation SuffixDenotation LocationDenotation OperandDenotation expr_step suffix_step at_step operand_step (Suffix-F.Length at)

pub operand_is : (p : Operand) → operand p ≡ (p.op, eval p.value)
unfolding eval suffix location operand
operand_is p = fold_out-Operand Denotation SuffixDenotation LocationDenotation OperandDenotation expr_step suffix_step at_step operand_step p

located_at : (at : ℕ) (a : Expr) (b : Option Expr) → location (record { at = at; uan = a; ual = b }) ≡ (eval a, option_map eval b)
unfolding eval suffix location operand
located_at at a None = fold_out-At Denotation SuffixDenotation LocationDenotation OperandDenotation expr_step suffix_step at_step operand_step (record { at = at; uan = a; ual = None })
located_at at a (Some b) = fold_out-At Denotation SuffixDenotation LocationDenotation OperandDenotation expr_step suffix_step at_step operand_step (record { at = at; uan = a; ual = Some b })

pub located_is : (p : At) → location p ≡ (eval p.uan, option_map eval p.ual)
located_is p = located_at p.at p.uan p.ual

pub ruleset evaluations = (eval-Number, eval-Str, eval-Bool, eval-Null, eval-Me, eval-Name, eval-Own, eval-Paren, eval-Neg, eval-Not, eval-Level, eval-Suffixed, eval-Make, eval-ListOf, eval-ByName, eval-New, eval-NewAt, suffix-Index, suffix-Length, operand_is, located_is)
