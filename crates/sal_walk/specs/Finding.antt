-- Handlers by their names.
use Rattle.std.specs.Prelude.{ℕ, List, Option, Some, None, option_map}
use Rattle.sal_ast.specs.declared.program.Behavior.{Behavior}
use Rattle.sal_ast.specs.declared.program.Program.{Program}
use Rattle.sal_ast.specs.Members.{behavior_by_name, handler_by_name, handlers_at}

-- the first handler of this name in the behaviour with this number; without a behaviour, none
abbrev pub find_in : Option ℕ → List Behavior → List ℕ → Option (ℕ × ℕ)
find_in None behaviors handler = None
find_in (Some n) behaviors handler = option_map (λ h. (n, h)) (handler_by_name handler (handlers_at behaviors (Some n)))

-- the numbers of the first behaviour of the first name, and of its first handler of the second
abbrev pub find_handler : Program → List ℕ → List ℕ → Option (ℕ × ℕ)
find_handler p behavior handler = find_in (behavior_by_name behavior p.behaviors) p.behaviors handler
