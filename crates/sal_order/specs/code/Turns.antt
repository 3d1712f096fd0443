-- What the code finds before it takes a step.
use Rattle.std.specs.Prelude.{◌≡◌, ℕ, List}
use Rattle.sal_ast.specs.declared.program.Program.{Program}
use Rattle.sal_value.specs.declared.name.Name.{Name}
use Rattle.sal_handler.specs.Fits.{meaning_of}
use Rattle.sal_handler.specs.Calls.{Call}
use Rattle.sal_handler.specs.declared.turn.Outcome.{Outcome}
use Rattle.sal_source.specs.Configuration.{Configuration}
use Rattle.sal_source.specs.Step.{handle_step, fault_no_handler}
use Rattle.sal_order.specs.declared.turn.Next.{Next}
use Rattle.sal_order.specs.declared.turn.Next.TheVariants as next

-- what handling the message with this maker and number comes to, which is all that the step asks the program for
abbrev pub IsNext : Program → Name → ℕ → Configuration → Next → Type 0
IsNext program maker serial c next.Nobody = Unit {0}
IsNext program maker serial c next.NoHandler = (outcomes : Call → Outcome) (fresh : List Name) → handle_step outcomes maker serial fresh c ≡ fault_no_handler maker serial fresh c
IsNext program maker serial c (next.Outcome outcome names) = handle_step (meaning_of program).outcome maker serial names c ≡ handle_step (λ _. outcome) maker serial names c
