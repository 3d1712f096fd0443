-- Runs: several steps from the first configuration.
use Rattle.std.specs.Prelude.{◌≡◌, ℕ, suc, ◌<◌, List, [], ◌∷◌, length, take, Option, Some, None, option_and_then, Result, Ok, Err}
use Rattle.sal_ast.specs.declared.program.Program.{Program}
use Rattle.sal_handler.specs.Calls.{Meaning}
use Rattle.sal_source.specs.declared.state.Setup.{Setup}
use Rattle.sal_source.specs.declared.state.Step.{Step}
use Rattle.sal_source.specs.declared.state.PlayFault.{PlayFault}
use Rattle.sal_source.specs.declared.state.PlayFault.TheVariants.{BadStep, Memory}
use Rattle.sal_source.specs.Configuration.{Configuration, End, first_configuration}
use Rattle.sal_source.specs.Step.{step}
use Rattle.sal_handler.specs.Fits.{meaning_of}

-- the configuration after these steps, or none at the first step that isn't possible
unfoldable pub steps : Meaning → Setup → Configuration → List Step → Option Configuration
steps p setup c [] = Some c
steps p setup c (s ∷ ss) = option_and_then (λ d. steps p setup d ss) (step p setup c s)

-- a run, from the first configuration
abbrev pub run : Meaning → Setup → List Step → Option Configuration
run p setup ss = steps p setup (first_configuration p setup) ss

-- of a program
abbrev pub play : Program → Setup → List Step → Option Configuration
play p setup ss = run (meaning_of p) setup ss

-- the first i steps are possible, and the next one isn't; so the steps have no run
pub record IsFirstBad (p : Program) (setup : Setup) (ss : List Step) (i : ℕ) : Type 0 where
  pub before : Configuration
  pub within : i < length ss
  pub good : play p setup (take i ss) ≡ Some before
  pub bad : play p setup (take (suc i) ss) ≡ None
  pub whole : play p setup ss ≡ None

-- what playing the steps answers
abbrev pub Plays : Program → Setup → List Step → Result End PlayFault → Type 0
Plays p setup ss (Ok e) = (play p setup ss ≡ Some e.configuration) × (e.authorities ≡ setup.authorities)
Plays p setup ss (Err (BadStep i)) = IsFirstBad p setup ss i
Plays p setup ss (Err Memory) = Unit {0}
