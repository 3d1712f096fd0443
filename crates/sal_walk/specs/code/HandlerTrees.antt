-- What the code's reference to a handler stands for.
use Rattle.std.specs.Prelude.{Bool, ◌&&◌, List, ℕ, codes, Option}
use Rattle.std.specs.Option.{option_copied}
use Rattle.std.specs.Str.{bytes_eq}
use Rattle.sal_ast.specs.declared.program.Param.{Param}
use Rattle.sal_ast.specs.declared.program.TypeName.{TypeName}
use Rattle.sal_ast.specs.Members.{Handler}
use Rattle.sal_handler.specs.Handler.{has_no_result, is_words_params}
use Rattle.sal_walk.specs.declared.handler_tree.HandlerTree.{HandlerTree}

-- the handler or constructor in its tree
abbrev pub handler_in : HandlerTree → Handler
handler_in h = record { name = h.name.now; result = option_copied h.result; params = h.params.now; body = h.body.now }

-- whether a handler of this name, result and parameters can begin a program
abbrev pub is_act_by : List ℕ → Option TypeName → List Param → Bool
is_act_by name result params = has_no_result result && (bytes_eq name (codes "act") && is_words_params params)
