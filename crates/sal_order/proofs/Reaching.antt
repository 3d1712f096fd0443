-- Runs that go on by a step.
use Rattle.std.proofs.Common.{◌≡◌, ℕ, Bool, true, false, List, [], ◌∷◌, ◌++◌, Option, Some, None, refl, ap, sym, subst, ◌∙◌}
use Rattle.std.specs.Prelude.{option_and_then}
use Rattle.sal_ast.specs.declared.program.Program.{Program}
use Rattle.sal_value.specs.declared.name.Name.{Name}
use Rattle.sal_mail.specs.declared.message.Message.{Message}
use Rattle.sal_mail.specs.declared.effects.Actor.{Actor}
use Rattle.sal_handler.specs.Calls.{Call, Meaning}
use Rattle.sal_handler.specs.Fits.{meaning_of}
use Rattle.sal_handler.specs.Handler.{handle as handler}
use Rattle.sal_handler.specs.declared.turn.Outcome.{Outcome}
use Rattle.sal_source.specs.declared.state.Setup.{Setup}
use Rattle.sal_source.specs.declared.state.Step.{Step}
use Rattle.sal_source.specs.declared.state.Step.TheVariants.{Handle, Print}
use Rattle.sal_source.specs.Configuration.{Configuration, first_configuration}
use Rattle.sal_source.specs.Step.{step, handle_step, print_step, call_of, after_outcome, drop_message}
use Rattle.sal_source.specs.Run.{steps, play}
use Rattle.sal_source.specs.code.Changes.{TakesStep}
use Rattle.sal_source.specs.code.Handling.{CalledBy}
use Rattle.sal_source.proofs.Handled.{handle_called}
use Rattle.sal_order.specs.Runs.{IsReached}

-- ---- one step more

step_then : (p : Meaning) (setup : Setup) (r : Option Configuration) → option_and_then (λ d. Some d) r ≡ r
step_then p setup None = refl
step_then p setup (Some d) = refl

pub steps_then : (p : Meaning) (setup : Setup) (c : Configuration) (ss : List Step) (s : Step) → steps p setup c (ss ++ s ∷ []) ≡ option_and_then (λ d. step p setup d s) (steps p setup c ss)
unfolding steps
steps_then p setup c [] s = step_then p setup (step p setup c s)
steps_then p setup c (t ∷ ts) s = after (step p setup c t) (λ d. steps_then p setup d ts s)
  where
    after : (r : Option Configuration) → ((d : Configuration) → steps p setup d (ts ++ s ∷ []) ≡ option_and_then (λ x. step p setup x s) (steps p setup d ts))
        → option_and_then (λ d. steps p setup d (ts ++ s ∷ [])) r ≡ option_and_then (λ d. step p setup d s) (option_and_then (λ d. steps p setup d ts) r)
    after None more = refl
    after (Some d) more = more d

pub reached_first : (program : Program) (setup : Setup) (c : Configuration) → c ≡ first_configuration (meaning_of program) setup → IsReached program setup c
unfolding steps
reached_first program setup c e = record { trace = []; is_run = ap (λ d. Some d) (sym e) }

pub reached_then : (program : Program) (setup : Setup) (c d : Configuration) (s : Step) → IsReached program setup c → step (meaning_of program) setup c s ≡ Some d → IsReached program setup d
reached_then program setup c d s r e = record {
  trace = r.trace ++ s ∷ [];
  is_run = steps_then (meaning_of program) setup (first_configuration (meaning_of program) setup) r.trace s ∙ ap (option_and_then (λ x. step (meaning_of program) setup x s)) r.is_run ∙ e;
}

-- where the step isn't possible, the configuration stays
reached_after : (program : Program) (setup : Setup) (c : Configuration) (s : Step) (o : Option Configuration) (it : Configuration × Bool) → step (meaning_of program) setup c s ≡ o → TakesStep o c it → IsReached program setup c → IsReached program setup it.0
reached_after program setup c s o (d, true) e t r = reached_then program setup c d s r (e ∙ t)
reached_after program setup c s o (d, false) e t r = subst (IsReached program setup) (sym t.1) r

-- ---- the steps of a message

pub printed_reached : (program : Program) (setup : Setup) (c : Configuration) (maker : Name) (serial : ℕ) (it : Configuration × Bool) → IsReached program setup c → TakesStep (print_step maker serial c) c it → IsReached program setup it.0
unfolding step
printed_reached program setup c maker serial it r t = reached_after program setup c (Print maker serial) (print_step maker serial c) it refl t r

pub handled_reached : (program : Program) (setup : Setup) (c : Configuration) (maker : Name) (serial : ℕ) (names : List Name) (o : Option Configuration) (it : Configuration × Bool) → IsReached program setup c
    → handle_step (meaning_of program).outcome maker serial names c ≡ o → TakesStep o c it → IsReached program setup it.0
unfolding step
handled_reached program setup c maker serial names o it r e t = reached_after program setup c (Handle maker serial names) o it e t r

-- the step asks for the outcome of the one call alone
pub called_next : (program : Program) (maker : Name) (serial : ℕ) (c : Configuration) (m : Message) (a : Actor × ℕ) (names : List Name) (outcome : Outcome) → CalledBy maker serial c m a
    → outcome ≡ handler program (call_of m a names) → handle_step (meaning_of program).outcome maker serial names c ≡ handle_step (λ _. outcome) maker serial names c
called_next program maker serial c m a names outcome called e =
    handle_called (meaning_of program).outcome maker serial names c m a called
    ∙ ap (λ (o : Outcome). after_outcome o maker serial names m a.0 (drop_message maker serial c)) (sym e)
    ∙ sym (handle_called (λ _. outcome) maker serial names c m a called)
