-- What the code's context stands for.
use Rattle.sal_handler.specs.Scopes.{Context}
use Rattle.sal_state.specs.declared.context.Context.{Context as CodeContext}
use Rattle.sal_state.specs.Supplies.{Supply, field_maker}

-- the context, where new actors get what this supply has
abbrev pub context_of : {A : Type 0} → Supply → CodeContext A → Context
context_of actors r = record { me = r.me.now; reply = r.reply.now; behaviors = r.behaviors.now; mine = r.mine; within = r.within.now; fresh = actors.names; make = field_maker actors }
