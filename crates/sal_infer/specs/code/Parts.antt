-- The parts of the folds that give types.
use Rattle.std.specs.Prelude.{Bool, List, map}
use Rattle.sal_ast.specs.declared.expression.Op.{Op}
use Rattle.sal_ast.specs.declared.expression.Suffix.{Suffix}
use Rattle.sal_ast.specs.declared.expression.Operand.{Operand}
use Rattle.sal_ast.specs.declared.expression.Expr.TheFolds.{fold-Suffix, fold-Operand}
use Rattle.sal_ast.specs.declared.statement.Stmt.{Stmt}
use Rattle.sal_ast.specs.declared.statement.Stage.{Stage}
use Rattle.sal_ast.specs.declared.statement.Stage.TheFolds.{fold-Stage}
use Rattle.sal_ast.specs.Sorts.{SortInScope, ScopeChange, sort_step, suffix_step, at_step, operand_step, stage_sort_step, scope_change_step, chain_sort_step, scope_change}

-- whether it is an index
unfoldable pub suffix_kind : Suffix → Bool
suffix_kind = fold-Suffix SortInScope Bool (Unit {0}) (Op × SortInScope) sort_step suffix_step at_step operand_step

-- an operator with the type of its right side
unfoldable pub operand_sort : Operand → Op × SortInScope
operand_sort = fold-Operand SortInScope Bool (Unit {0}) (Op × SortInScope) sort_step suffix_step at_step operand_step

abbrev pub suffixes : List Suffix → List Bool
suffixes = map suffix_kind

abbrev pub operands : List Operand → List (Op × SortInScope)
operands = map operand_sort

-- the result of a stage
unfoldable pub stage_result : Stage → SortInScope
stage_result = fold-Stage SortInScope ScopeChange SortInScope stage_sort_step scope_change_step chain_sort_step

abbrev pub stage_results : List Stage → List SortInScope
stage_results = map stage_result

-- what each of these statements does to the scope
abbrev pub scope_changes : List Stmt → List ScopeChange
scope_changes = map scope_change
