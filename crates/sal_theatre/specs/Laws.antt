-- What holds of all turns of a theatre, whatever the program.
use Rattle.std.specs.Prelude.{◌≡◌, ℕ, List}
use Rattle.sal_value.specs.declared.name.Uan.{Uan}
use Rattle.sal_value.specs.declared.value.Value.{Value}
use Rattle.sal_handler.specs.Calls.{Meaning}
use Rattle.sal_routing.specs.State.{Theatre}
use Rattle.sal_routing.specs.Turns.{begin, step, datagram, clock, push, move_actor, post}

-- the same theatre of the same plan
pub record IsSameNode (old new : Theatre) : Type 0 where
  pub me : new.me ≡ old.me
  pub plan : new.plan ≡ old.plan

-- A turn keeps the theatre's number and the plan.
pub record TurnsKeepTheNode : Type 0 where
  pub begin : (p : Meaning) (t : Theatre) → IsSameNode t (begin p t).theatre
  pub step : (p : Meaning) (i : ℕ) (t : Theatre) → IsSameNode t (step p i t).theatre
  pub datagram : (p : Meaning) (bytes : List ℕ) (t : Theatre) → IsSameNode t (datagram p bytes t).theatre
  pub clock : (p : Meaning) (ms : ℕ) (t : Theatre) → IsSameNode t (clock p ms t).theatre
  pub push : (t : Theatre) → IsSameNode t (push t)
  pub move_actor : (u : Uan) (to : ℕ) (t : Theatre) → IsSameNode t (move_actor u to t).theatre
  pub post : (p : Meaning) (number : ℕ) (to : Uan) (behavior handler : ℕ) (args : List Value) (t : Theatre)
      → IsSameNode t (post p number to behavior handler args t).theatre
