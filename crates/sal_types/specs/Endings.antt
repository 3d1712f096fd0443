-- Whether a statement surely ends the handler.
use Rattle.std.specs.Prelude.{Bool, true, false, ◌&&◌, is_some, Option, Some, None}
use Rattle.std.specs.List.{list_any}
use Rattle.sal_ast.specs.declared.statement.Stmt.{Stmt}
use Rattle.sal_ast.specs.declared.statement.Stage.TheOpen.{Stage-F, Stmt-F, Chain-F}
use Rattle.sal_ast.specs.declared.statement.Stage.TheFolds.{fold-Stmt}

-- what may be missing doesn't end it where it is
abbrev pub or_false : Option Bool → Bool
or_false None = false
or_false (Some ends) = ends

-- a stage doesn't end by itself
abbrev pub stage_step : Stage-F (Unit {0}) Bool (Unit {0}) → Unit {0}
stage_step g = tt

-- nor does a chain
abbrev pub chain_step : Chain-F (Unit {0}) Bool (Unit {0}) → Unit {0}
chain_step c = tt

-- whether each form surely ends, by its parts
abbrev pub ends_step : Stmt-F (Unit {0}) Bool (Unit {0}) → Bool
ends_step (Stmt-F.Return at value) = true
ends_step (Stmt-F.Chain chain passed) = is_some passed
ends_step (Stmt-F.Block at list) = list_any (λ ends. ends) list
ends_step (Stmt-F.If at test first second) = first && or_false second
ends_step _ = false

-- It surely ends where it is `return`, a chain with `@ currentContinuation`, a block with a statement that surely ends, or an
-- `if` with `else` whose both statements do.
unfoldable pub surely_ends : Stmt → Bool
surely_ends = fold-Stmt (Unit {0}) Bool (Unit {0}) stage_step ends_step chain_step
