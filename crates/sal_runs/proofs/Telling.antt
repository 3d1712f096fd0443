-- What a step tells stands behind what was told.
use Rattle.std.proofs.Common.{◌≡◌, List, [], ◌∷◌, ◌++◌, refl, sym, ap, ◌∙◌, append_assoc, append-nil}
use Rattle.sal_source.specs.declared.state.Setup.{Setup}
use Rattle.sal_source.specs.Configuration.{Configuration}
use Rattle.sal_source.specs.Give.{settle_all_answers}
use Rattle.sal_runs.specs.Kept.{TellsMore, StepsTellMore}
use Rattle.sal_runs.proofs.Steps.{Relates, related}

more_again : {A : Type 0} (xs ys zs as_ bs : List A) → ys ≡ xs ++ as_ → zs ≡ ys ++ bs → zs ≡ xs ++ (as_ ++ bs)
more_again xs ys zs as_ bs e f = f ∙ ap (λ us. us ++ bs) e ∙ append_assoc xs as_ bs

-- where nothing is told
tells_nothing : (c d : Configuration) → d.output ≡ c.output → d.faults ≡ c.faults → d.answers ≡ c.answers → TellsMore c d
tells_nothing c d o f a = record {
  texts = [];
  output = o ∙ sym (append-nil c.output);
  failures = [];
  faults = f ∙ sym (append-nil c.faults);
  replies = [];
  answers = a ∙ sym (append-nil c.answers);
}

telling : (setup : Setup) → Relates setup TellsMore
telling setup = record {
  compose = λ c d e x y. record {
    texts = x.texts ++ y.texts;
    output = more_again c.output d.output e.output x.texts y.texts x.output y.output;
    failures = x.failures ++ y.failures;
    faults = more_again c.faults d.faults e.faults x.failures y.failures x.faults y.faults;
    replies = x.replies ++ y.replies;
    answers = more_again c.answers d.answers e.answers x.replies y.replies x.answers y.answers;
  };
  dropped = λ maker serial c. tells_nothing c _ refl refl refl;
  failed = λ kind maker serial c. record {
    texts = [];
    output = sym (append-nil c.output);
    failures = record { maker = maker; serial = serial; kind = kind } ∷ [];
    faults = refl;
    replies = [];
    answers = sym (append-nil c.answers);
  };
  worked = λ e a fresh c fits. tells_nothing c _ refl refl refl;
  given = λ gs c. record {
    texts = [];
    output = sym (append-nil c.output);
    failures = [];
    faults = sym (append-nil c.faults);
    replies = settle_all_answers gs c.waiting;
    answers = refl;
  };
  printed = λ text c. record {
    texts = text ∷ [];
    output = refl;
    failures = [];
    faults = sym (append-nil c.faults);
    replies = [];
    answers = sym (append-nil c.answers);
  };
  unmade = λ maker serial c. tells_nothing c _ refl refl refl;
  bound = λ x c served. tells_nothing c _ refl refl refl;
  posted = λ number to behavior handler args c. tells_nothing c _ refl refl refl;
}

pub tell_more : StepsTellMore
tell_more p setup s c d is = related setup TellsMore (telling setup) p s c d is
