-- Runs of a program, and those that are at their end.
use Rattle.std.specs.Prelude.{◌≡◌, List, Some}
use Rattle.sal_ast.specs.declared.program.Program.{Program}
use Rattle.sal_value.specs.declared.name.Authority.{Authority}
use Rattle.sal_source.specs.declared.state.Setup.{Setup}
use Rattle.sal_source.specs.declared.state.Step.{Step}
use Rattle.sal_source.specs.Configuration.{Configuration}
use Rattle.sal_source.specs.Run.{play}
use Rattle.sal_source.specs.Step.{IsAtEnd}
use Rattle.sal_order.specs.declared.rounds.Rest.{Rest}
use Rattle.sal_order.specs.declared.rounds.Rest.TheVariants.{AtRest, Busy, Lost}

-- the program's run of these steps comes to the configuration
pub record IsReached (program : Program) (setup : Setup) (c : Configuration) : Type 0 where
  pub trace : List Step
  pub is_run : play program setup trace ≡ Some c

-- at rest, no step but a post is possible
abbrev pub IsRestOf : Rest → List Authority → Configuration → Type 0
IsRestOf AtRest authorities c = IsAtEnd authorities c
IsRestOf Busy authorities c = Unit {0}
IsRestOf Lost authorities c = Unit {0}
