-- Steps one after another.
use Rattle.std.proofs.Common.{◌≡◌, ℕ, zero, suc, ◌+◌, Bool, true, false, List, [], ◌∷◌, take, Option, Some, None, refl, ap, ◌∙◌, add-one}
use Rattle.std.specs.Prelude.{slice_get, option_and_then}
use Rattle.sal_mail.specs.declared.message.Message.{Message}
use Rattle.sal_mail.specs.Message.{is_ready}
use Rattle.sal_handler.specs.Calls.{Meaning}
use Rattle.sal_source.specs.declared.state.Setup.{Setup}
use Rattle.sal_source.specs.declared.state.Step.{Step}
use Rattle.sal_source.specs.Configuration.{Configuration}
use Rattle.sal_source.specs.Step.{step, if_ready}
use Rattle.sal_source.specs.Run.{steps}
use Rattle.sal_source.specs.code.Changes.{TakesStep}

pub ready : (o : Option Message) (m : Message) (f : Message → Option Configuration) → o ≡ Some m → is_ready m ≡ true → if_ready o f ≡ f m
ready o m f e r = rw (e, r) refl

-- the outcome of this very call
-- ---- one more step

module _ (p : Meaning) (setup : Setup) where
  pub steps-take : (c : Configuration) (ss : List Step) (i : ℕ) (s : Step) → slice_get ss i ≡ Some s → steps p setup c (take (suc i) ss) ≡ option_and_then (λ d. step p setup d s) (steps p setup c (take i ss))
  unfolding steps
  steps-take c [] i s e = absurd (let f : None ≡ Some s = e in cc)
  steps-take c (t ∷ ss) zero s e = let same : t ≡ s = cc in ap (λ u. option_and_then (λ d. Some d) (step p setup c u)) same ∙ last (step p setup c s)
    where
      last : (o : Option Configuration) → option_and_then (λ d. Some d) o ≡ o
      last None = refl
      last (Some d) = refl
  steps-take c (t ∷ ss) (suc i) s e = next (step p setup c t) (λ d. steps-take d ss i s e)
    where
      next : (o : Option Configuration) → ((d : Configuration) → steps p setup d (take (suc i) ss) ≡ option_and_then (λ d. step p setup d s) (steps p setup d (take i ss))) →
          option_and_then (λ d. steps p setup d (take (suc i) ss)) o ≡ option_and_then (λ d. step p setup d s) (option_and_then (λ d. steps p setup d (take i ss)) o)
      next None more = refl
      next (Some d) more = more d

  -- a step that was possible, and one that wasn't, after the first i
  pub played_on : (c d : Configuration) (ss : List Step) (i : ℕ) (s : Step) (o : Option Configuration) → slice_get ss i ≡ Some s → steps p setup c (take i ss) ≡ Some d → step p setup d s ≡ o → steps p setup c (take (i + 1) ss) ≡ o
  played_on c d ss i s o e before one = rw add-one (steps-take c ss i s e ∙ ap (option_and_then (λ d. step p setup d s)) before ∙ one)

  -- where a prefix of the steps has no run, all of them have none
  pub none_whole : (c : Configuration) (ss : List Step) (k : ℕ) → steps p setup c (take k ss) ≡ None → steps p setup c ss ≡ None
  unfolding steps
  none_whole c ss zero e = absurd (let f : Some c ≡ None = e in cc)
  none_whole c [] (suc k) e = e
  none_whole c (s ∷ ss) (suc k) e = next (step p setup c s) (λ d. none_whole d ss k) e
    where
      next : (o : Option Configuration) → ((d : Configuration) → steps p setup d (take k ss) ≡ None → steps p setup d ss ≡ None) →
          option_and_then (λ d. steps p setup d (take k ss)) o ≡ None → option_and_then (λ d. steps p setup d ss) o ≡ None
      next None more e = refl
      next (Some d) more e = more d e

pub took_no : (o : Option Configuration) (b : Bool) (old new : Configuration) → TakesStep o old (new, b) → b ≡ false → o ≡ None
took_no o true old new d e = absurd (cc)
took_no o false old new d e = d.0

pub took_yes : (o : Option Configuration) (b : Bool) (old new : Configuration) → TakesStep o old (new, b) → b ≡ true → o ≡ Some new
took_yes o true old new d e = d
took_yes o false old new d e = absurd (cc)
