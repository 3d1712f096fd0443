-- What the code's scope stands for.
use Rattle.std.specs.Prelude.{ℕ, List, ◌++◌, map}
use Rattle.sal_ast.specs.declared.program.Behavior.{Behavior}
use Rattle.sal_ast.specs.Sorts.{Scope, Variable}
use Rattle.sal_handler.specs.declared.state.Local.{Local}
use Rattle.sal_handler.specs.Scopes.{variable_of}
use Rattle.sal_infer.specs.declared.scope.Declared.{Declared}
use Rattle.sal_infer.specs.declared.scope.Scope.{Scope as CodeScope}

-- a local that the text declares
abbrev pub declared_variable : Declared → Variable
declared_variable d = record { name = d.name; sort = d.sort }

-- the scope of a handler that runs, with these locals
abbrev pub running_scope : List Behavior → ℕ → List Local → Scope
running_scope behaviors mine locals = record { behaviors = behaviors; mine = mine; locals = map variable_of locals }

-- the locals of the handler that runs, and after them what the text declares
abbrev pub scope_in : CodeScope → Scope
scope_in s = record { behaviors = s.behaviors.now; mine = s.mine; locals = map variable_of s.locals.now ++ map declared_variable s.declared }
