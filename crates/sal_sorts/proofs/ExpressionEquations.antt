-- The verdict on an expression, by one equation for each form.
use Rattle.std.proofs.Common.{◌≡◌, ℕ, Bool, List, map, Option, Some, None, option_map, sym, ap, ◌∙◌}
use Rattle.sal_ast.specs.declared.program.Ident.{Ident}
use Rattle.sal_ast.specs.declared.program.TypeName.{TypeName}
use Rattle.sal_ast.specs.declared.expression.Expr.{Expr}
use Rattle.sal_ast.specs.declared.expression.Operand.{Operand}
use Rattle.sal_ast.specs.declared.expression.Suffix.{Suffix}
use Rattle.sal_ast.specs.declared.expression.At.{At}
use Rattle.sal_ast.specs.declared.expression.Expr.TheOpen.{Expr-F, Suffix-F}
use Rattle.sal_ast.specs.declared.expression.Expr.TheFolds.{fold-roll-Expr, fold-roll-Suffix, fold_out-At, fold_out-Operand}
use Rattle.sal_ast.specs.declared.expression.Expr.TheVariants as e
use Rattle.sal_ast.specs.declared.expression.Suffix.TheVariants as x
use Rattle.sal_sorts.specs.Expressions.{ExprTyping, SuffixTyping, LocationTyping, OperandTyping, expr_step, suffix_step, at_step, operand_step, expr_verdict, suffix_verdict, at_verdict, operand_verdict}

pub expr_verdict-Number : (n at : ℕ) → expr_verdict (e.Number n at) ≡ expr_step (Expr-F.Number n at)
unfolding expr_verdict suffix_verdict at_verdict operand_verdict
expr_verdict-Number n at = ap expr_verdict (sym (e.rolls-Number n at)) ∙ fold-roll-Expr ExprTyping SuffixTyping LocationTyping OperandTyping expr_step suffix_step at_step operand_step (Expr-F.Number n at)

pub expr_verdict-Str : (text : List ℕ) (at : ℕ) → expr_verdict (e.Str text at) ≡ expr_step (Expr-F.Str text at)
unfolding expr_verdict suffix_verdict at_verdict operand_verdict
expr_verdict-Str text at = ap expr_verdict (sym (e.rolls-Str text at)) ∙ fold-roll-Expr ExprTyping SuffixTyping LocationTyping OperandTyping expr_step suffix_step at_step operand_step (Expr-F.Str text at)

pub expr_verdict-Bool : (b : Bool) (at : ℕ) → expr_verdict (e.Bool b at) ≡ expr_step (Expr-F.Bool b at)
unfolding expr_verdict suffix_verdict at_verdict operand_verdict
expr_verdict-Bool b at = ap expr_verdict (sym (e.rolls-Bool b at)) ∙ fold-roll-Expr ExprTyping SuffixTyping LocationTyping OperandTyping expr_step suffix_step at_step operand_step (Expr-F.Bool b at)

pub expr_verdict-Null : (at : ℕ) → expr_verdict (e.Null at) ≡ expr_step (Expr-F.Null at)
unfolding expr_verdict suffix_verdict at_verdict operand_verdict
expr_verdict-Null at = ap expr_verdict (sym (e.rolls-Null at)) ∙ fold-roll-Expr ExprTyping SuffixTyping LocationTyping OperandTyping expr_step suffix_step at_step operand_step (Expr-F.Null at)

pub expr_verdict-Me : (at : ℕ) → expr_verdict (e.Me at) ≡ expr_step (Expr-F.Me at)
unfolding expr_verdict suffix_verdict at_verdict operand_verdict
expr_verdict-Me at = ap expr_verdict (sym (e.rolls-Me at)) ∙ fold-roll-Expr ExprTyping SuffixTyping LocationTyping OperandTyping expr_step suffix_step at_step operand_step (Expr-F.Me at)

pub expr_verdict-Name : (name : Ident) → expr_verdict (e.Name name) ≡ expr_step (Expr-F.Name name)
unfolding expr_verdict suffix_verdict at_verdict operand_verdict
expr_verdict-Name name = ap expr_verdict (sym (e.rolls-Name name)) ∙ fold-roll-Expr ExprTyping SuffixTyping LocationTyping OperandTyping expr_step suffix_step at_step operand_step (Expr-F.Name name)

pub expr_verdict-Own : (at : ℕ) (name : Ident) → expr_verdict (e.Own at name) ≡ expr_step (Expr-F.Own at name)
unfolding expr_verdict suffix_verdict at_verdict operand_verdict
expr_verdict-Own at name = ap expr_verdict (sym (e.rolls-Own at name)) ∙ fold-roll-Expr ExprTyping SuffixTyping LocationTyping OperandTyping expr_step suffix_step at_step operand_step (Expr-F.Own at name)

pub expr_verdict-Paren : (at : ℕ) (a : Expr) → expr_verdict (e.Paren at a) ≡ expr_step (Expr-F.Paren at (expr_verdict a))
unfolding expr_verdict suffix_verdict at_verdict operand_verdict
expr_verdict-Paren at a = ap expr_verdict (sym (e.rolls-Paren at a)) ∙ fold-roll-Expr ExprTyping SuffixTyping LocationTyping OperandTyping expr_step suffix_step at_step operand_step (Expr-F.Paren at a)

pub expr_verdict-Neg : (at : ℕ) (a : Expr) → expr_verdict (e.Neg at a) ≡ expr_step (Expr-F.Neg at (expr_verdict a))
unfolding expr_verdict suffix_verdict at_verdict operand_verdict
expr_verdict-Neg at a = ap expr_verdict (sym (e.rolls-Neg at a)) ∙ fold-roll-Expr ExprTyping SuffixTyping LocationTyping OperandTyping expr_step suffix_step at_step operand_step (Expr-F.Neg at a)

pub expr_verdict-Not : (at : ℕ) (a : Expr) → expr_verdict (e.Not at a) ≡ expr_step (Expr-F.Not at (expr_verdict a))
unfolding expr_verdict suffix_verdict at_verdict operand_verdict
expr_verdict-Not at a = ap expr_verdict (sym (e.rolls-Not at a)) ∙ fold-roll-Expr ExprTyping SuffixTyping LocationTyping OperandTyping expr_step suffix_step at_step operand_step (Expr-F.Not at a)

pub expr_verdict-Level : (a : Expr) (rest : List Operand) → expr_verdict (e.Level a rest) ≡ expr_step (Expr-F.Level (expr_verdict a) (map operand_verdict rest))
unfolding expr_verdict suffix_verdict at_verdict operand_verdict
expr_verdict-Level a rest = ap expr_verdict (sym (e.rolls-Level a rest)) ∙ fold-roll-Expr ExprTyping SuffixTyping LocationTyping OperandTyping expr_step suffix_step at_step operand_step (Expr-F.Level a rest)

pub expr_verdict-Suffixed : (a : Expr) (rest : List Suffix) → expr_verdict (e.Suffixed a rest) ≡ expr_step (Expr-F.Suffixed (expr_verdict a) (map suffix_verdict rest))
unfolding expr_verdict suffix_verdict at_verdict operand_verdict
expr_verdict-Suffixed a rest = ap expr_verdict (sym (e.rolls-Suffixed a rest)) ∙ fold-roll-Expr ExprTyping SuffixTyping LocationTyping OperandTyping expr_step suffix_step at_step operand_step (Expr-F.Suffixed a rest)

pub expr_verdict-Make : (at : ℕ) (sort : TypeName) (a : Expr) → expr_verdict (e.Make at sort a) ≡ expr_step (Expr-F.Make at sort (expr_verdict a))
unfolding expr_verdict suffix_verdict at_verdict operand_verdict
expr_verdict-Make at sort a = ap expr_verdict (sym (e.rolls-Make at sort a)) ∙ fold-roll-Expr ExprTyping SuffixTyping LocationTyping OperandTyping expr_step suffix_step at_step operand_step (Expr-F.Make at sort a)

pub expr_verdict-ListOf : (at : ℕ) (sort : TypeName) (items : List Expr) → expr_verdict (e.ListOf at sort items) ≡ expr_step (Expr-F.ListOf at sort (map expr_verdict items))
unfolding expr_verdict suffix_verdict at_verdict operand_verdict
expr_verdict-ListOf at sort items = ap expr_verdict (sym (e.rolls-ListOf at sort items)) ∙ fold-roll-Expr ExprTyping SuffixTyping LocationTyping OperandTyping expr_step suffix_step at_step operand_step (Expr-F.ListOf at sort items)

pub expr_verdict-ByName : (at : ℕ) (cast : Option Ident) (behavior : Ident) (a : Expr) → expr_verdict (e.ByName at cast behavior a) ≡ expr_step (Expr-F.ByName at cast behavior (expr_verdict a))
unfolding expr_verdict suffix_verdict at_verdict operand_verdict
expr_verdict-ByName at cast behavior a = ap expr_verdict (sym (e.rolls-ByName at cast behavior a)) ∙ fold-roll-Expr ExprTyping SuffixTyping LocationTyping OperandTyping expr_step suffix_step at_step operand_step (Expr-F.ByName at cast behavior a)

pub expr_verdict-New : (at : ℕ) (behavior : Ident) (args : List Expr) (place : Option At) → expr_verdict (e.New at behavior args place) ≡ expr_step (Expr-F.New at behavior (map expr_verdict args) (option_map at_verdict place))
unfolding expr_verdict suffix_verdict at_verdict operand_verdict
expr_verdict-New at behavior args None = ap expr_verdict (sym (e.rolls-New at behavior args None)) ∙ fold-roll-Expr ExprTyping SuffixTyping LocationTyping OperandTyping expr_step suffix_step at_step operand_step (Expr-F.New at behavior args None)
expr_verdict-New at behavior args (Some p) = ap expr_verdict (sym (e.rolls-New at behavior args (Some p))) ∙ fold-roll-Expr ExprTyping SuffixTyping LocationTyping OperandTyping expr_step suffix_step at_step operand_step (Expr-F.New at behavior args (Some p))

pub suffix_verdict-Index : (at : ℕ) (a : Expr) → suffix_verdict (x.Index at a) ≡ suffix_step (Suffix-F.Index at (expr_verdict a))
unfolding expr_verdict suffix_verdict at_verdict operand_verdict
suffix_verdict-Index at a = ap suffix_verdict (sym (x.rolls-Index at a)) ∙ fold-roll-Suffix ExprTyping SuffixTyping LocationTyping OperandTyping expr_step suffix_step at_step operand_step (Suffix-F.Index at a)

pub suffix_verdict-Length : (at : ℕ) → suffix_verdict (x.Length at) ≡ suffix_step (Suffix-F.Length at)
unfolding expr_verdict suffix_verdict at_verdict operand_verdict
suffix_verdict-Length at = ap suffix_verdict (sym (x.rolls-Length at)) ∙ fold-roll-Suffix ExprTyping SuffixTyping LocationTyping OperandTyping expr_step suffix_step at_step operand_step (Suffix-F.Length at)

at_is : (at : ℕ) (a : Expr) (b : Option Expr) → at_verdict (record { at = at; uan = a; ual = b }) ≡ at_step (record { at = at; uan = expr_verdict a; ual = option_map expr_verdict b })
unfolding expr_verdict suffix_verdict at_verdict operand_verdict
at_is at a None = fold_out-At ExprTyping SuffixTyping LocationTyping OperandTyping expr_step suffix_step at_step operand_step (record { at = at; uan = a; ual = None })
at_is at a (Some b) = fold_out-At ExprTyping SuffixTyping LocationTyping OperandTyping expr_step suffix_step at_step operand_step (record { at = at; uan = a; ual = Some b })

pub at_verdict-At : (p : At) → at_verdict p ≡ at_step (record { at = p.at; uan = expr_verdict p.uan; ual = option_map expr_verdict p.ual })
at_verdict-At p = at_is p.at p.uan p.ual

pub operand_verdict-Operand : (p : Operand) → operand_verdict p ≡ operand_step (record { op = p.op; at = p.at; value = expr_verdict p.value })
unfolding expr_verdict suffix_verdict at_verdict operand_verdict
operand_verdict-Operand p = fold_out-Operand ExprTyping SuffixTyping LocationTyping OperandTyping expr_step suffix_step at_step operand_step p

pub ruleset equations = (expr_verdict-Number, expr_verdict-Str, expr_verdict-Bool, expr_verdict-Null, expr_verdict-Me, expr_verdict-Name, expr_verdict-Own, expr_verdict-Paren, expr_verdict-Neg, expr_verdict-Not, expr_verdict-Level, expr_verdict-Suffixed, expr_verdict-Make, expr_verdict-ListOf, expr_verdict-ByName, expr_verdict-New, suffix_verdict-Index, suffix_verdict-Length, at_verdict-At, operand_verdict-Operand)
