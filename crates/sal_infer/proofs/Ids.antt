-- The handler in a scope is that of each handler that runs in the scope.
use Rattle.std.proofs.Common.{◌≡◌, ℕ, List, Option, refl}
use Rattle.sal_ast.specs.declared.statement.Send.{Send}
use Rattle.sal_ast.specs.declared.statement.Aim.{Aim}
use Rattle.sal_ast.specs.declared.statement.Aim.TheVariants as aim
use Rattle.sal_ast.specs.Sorts.{target_behavior}
use Rattle.sal_handler.specs.declared.state.State.{State}
use Rattle.sal_handler.specs.Scopes.{Context, scope_of}
use Rattle.sal_handler.specs.Messages.{aim_handler_id, handler_id_of}
use Rattle.sal_infer.specs.code.Ids.{aim_id, id_in_scope}

aim_ids : (a : Aim) (name : List ℕ) (b : Option ℕ) (r : Context) → aim_handler_id a name b r ≡ aim_id a name b r.behaviors
aim_ids (aim.Output at) name b r = refl
aim_ids aim.Own name b r = refl
aim_ids (aim.Actor e) name b r = refl

pub ids_are : (m : Send) (r : Context) (s : State) → handler_id_of m r s ≡ id_in_scope m (scope_of r s)
unfolding handler_id_of
ids_are m r s = aim_ids m.aim m.handler.text (target_behavior m.aim (scope_of r s)) r
