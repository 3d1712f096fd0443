-- To which handler a message goes.
use Rattle.std.specs.Prelude.{◌≡◌}
use Rattle.sal_ast.specs.declared.statement.Send.{Send}
use Rattle.sal_ast.specs.Sorts.{Scope}
use Rattle.sal_handler.specs.declared.state.State.{State}
use Rattle.sal_handler.specs.Scopes.{Context, scope_of}
use Rattle.sal_handler.specs.Messages.{handler_id_of}
use Rattle.sal_infer.specs.declared.messages.HandlerId.{HandlerId}

-- it is the handler to which the message goes wherever a handler runs in this scope
abbrev pub IsHandlerIn : Send → Scope → HandlerId → Type 0
IsHandlerIn m scope id = (r : Context) (s : State) → scope_of r s ≡ scope → (id.behavior ≡ (handler_id_of m r s).behavior) × (id.handler ≡ (handler_id_of m r s).handler)
