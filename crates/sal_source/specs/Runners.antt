-- When what runs handlers stands for a program.
use Rattle.std.specs.Prelude.{◌≡◌, ℕ, Bool, true, List, nat_eq, if◌then◌else◌}
use Rattle.sal_ast.specs.declared.program.Program.{Program}
use Rattle.sal_value.specs.declared.value.Value.{Value}
use Rattle.sal_mail.specs.declared.constants.TheConstants.{OUTPUT, MIGRATE}
use Rattle.sal_handler.specs.Calls.{Call, Meaning}
use Rattle.sal_handler.specs.Fits.{meaning_of}

-- the number by which the tests of what fits know `migrate`, or the behaviour's
abbrev pub behavior_or_migrate : ℕ → ℕ → ℕ
behavior_or_migrate behavior handler = if nat_eq handler MIGRATE then OUTPUT else behavior

-- the call and the actor's state fit
pub record CallFits (m : Meaning) (c : Call) : Type 0 where
  pub state : m.fits_state c.behavior c.fields ≡ true
  pub call : m.fits_call (behavior_or_migrate c.behavior c.handler) c.handler c.args ≡ true

-- Its tests of what fits and its beginning are the program's, and so is the result of every call that fits.
pub record StandsFor (m : Meaning) (p : Program) : Type 0 where
  pub fits_call : (behavior handler : ℕ) (args : List Value) → m.fits_call behavior handler args ≡ (meaning_of p).fits_call behavior handler args
  pub fits_state : (behavior : ℕ) (fields : List Value) → m.fits_state behavior fields ≡ (meaning_of p).fits_state behavior fields
  pub begin : m.begin ≡ (meaning_of p).begin
  pub outcome : (c : Call) → CallFits (meaning_of p) c → m.outcome c ≡ (meaning_of p).outcome c
