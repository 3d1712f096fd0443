-- Who makes what a handler sends.
use Rattle.std.specs.Prelude.{◌≡◌}
use Rattle.sal_ast.specs.declared.program.Program.{Program}
use Rattle.sal_mail.specs.declared.effects.Effects.{Effects}
use Rattle.sal_handler.specs.declared.turn.Outcome.TheVariants.{Done}
use Rattle.sal_handler.specs.Calls.{Call}
use Rattle.sal_handler.specs.Handler.{handle}
use Rattle.sal_handler.specs.WellFormed.{EachOf}

-- Each message that a handler sends has the actor's name as its maker, whatever is called.
abbrev pub HandlersSignTheirOwn : Type 0
HandlersSignTheirOwn = (p : Program) (c : Call) (e : Effects) → handle p c ≡ Done e → EachOf (λ m. m.maker ≡ c.me) e.messages
