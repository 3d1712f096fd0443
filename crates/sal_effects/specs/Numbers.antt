-- In which order a handler's messages, joins and creations have their numbers.
use Rattle.std.specs.Prelude.{◌≡◌, ℕ, ◌+◌, ◌≤◌, ◌<◌, List, [], ◌∷◌, map}
use Rattle.sal_ast.specs.declared.program.Program.{Program}
use Rattle.sal_mail.specs.declared.message.Message.{Message}
use Rattle.sal_mail.specs.declared.message.Join.{Join}
use Rattle.sal_mail.specs.declared.effects.Creation.{Creation}
use Rattle.sal_mail.specs.declared.effects.Effects.{Effects}
use Rattle.sal_handler.specs.declared.turn.Outcome.TheVariants.{Done}
use Rattle.sal_handler.specs.Calls.{Call}
use Rattle.sal_handler.specs.Handler.{handle}

-- each is greater than the one before it; the first is at least `from`, and all are below `to`
abbrev pub Rise : ℕ → ℕ → List ℕ → Type 0
Rise from to [] = Unit {0}
Rise from to (n ∷ ns) = (from ≤ n) × ((n < to) × Rise (n + 1) to ns)

abbrev pub message_numbers : List Message → List ℕ
message_numbers = map (λ m. m.serial)

abbrev pub join_numbers : List Join → List ℕ
join_numbers = map (λ j. j.number)

abbrev pub creation_numbers : List Creation → List ℕ
creation_numbers = map (λ x. x.serial)

-- The actor's next number becomes no lower, and in each list numbers rise from the old one to the new one.
pub record NumbersRise (c : Call) (e : Effects) : Type 0 where
  pub serial : c.serial ≤ e.serial
  pub messages : Rise c.serial e.serial (message_numbers e.messages)
  pub joins : Rise c.serial e.serial (join_numbers e.joins)
  pub creations : Rise c.serial e.serial (creation_numbers e.creations)

-- So it is with every handler of every program.
abbrev pub HandlersNumberInOrder : Type 0
HandlersNumberInOrder = (p : Program) (c : Call) (e : Effects) → handle p c ≡ Done e → NumbersRise c e
