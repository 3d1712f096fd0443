-- To which handler a message goes, of a scope.
use Rattle.std.specs.Prelude.{ℕ, if◌then◌else◌, List, codes, Option}
use Rattle.std.specs.Str.{bytes_eq}
use Rattle.sal_ast.specs.declared.program.Behavior.{Behavior}
use Rattle.sal_ast.specs.declared.statement.Aim.{Aim}
use Rattle.sal_ast.specs.declared.statement.Aim.TheVariants as aim
use Rattle.sal_ast.specs.declared.statement.Send.{Send}
use Rattle.sal_ast.specs.Members.{handler_by_name, handlers_at}
use Rattle.sal_ast.specs.Sorts.{Scope, target_behavior}
use Rattle.sal_mail.specs.declared.constants.TheConstants.{OUTPUT, MIGRATE}
use Rattle.sal_handler.specs.Messages.{HandlerId, or_no_number, output_handler_id}

abbrev pub actor_id : List ℕ → Option ℕ → List Behavior → HandlerId
actor_id name behavior behaviors =
    if bytes_eq name (codes "migrate") then record { behavior = OUTPUT; handler = MIGRATE }
    else record { behavior = or_no_number behavior; handler = or_no_number (handler_by_name name (handlers_at behaviors behavior)) }

abbrev pub aim_id : Aim → List ℕ → Option ℕ → List Behavior → HandlerId
aim_id (aim.Output at) name behavior behaviors = output_handler_id name
aim_id aim.Own name behavior behaviors = actor_id name behavior behaviors
aim_id (aim.Actor e) name behavior behaviors = actor_id name behavior behaviors

abbrev pub id_in_scope : Send → Scope → HandlerId
id_in_scope m s = aim_id m.aim m.handler.text (target_behavior m.aim s) s.behaviors
