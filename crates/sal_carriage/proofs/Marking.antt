-- Queues of fragments.
use Rattle.std.proofs.Common.{◌≡◌, ℕ, suc, ◌+◌, ◌<◌, Bool, true, false, List, [], ◌∷◌, ◌++◌, map, length, take, drop, set, get_or, zero, Some, ap, ◌∙◌, arith}
use Rattle.std.specs.Prelude.{if◌then◌else◌}
use Rattle.std.proofs.lemmas.List.Elements.{All-append, All-take, All-drop}
use Rattle.sal_carriage.specs.declared.fragment.Fragment.{Fragment}
use Rattle.sal_carriage.specs.Fragments.{Fits, AllFit}
use Rattle.sal_carriage.specs.Link.{is_due, mark, mark_first}

pub fits_front : (fs gs : List Fragment) → AllFit (fs ++ gs) → AllFit fs
fits_front [] gs h k d lt = absurd (omega (arith, lt))
fits_front (f ∷ fs) gs h zero d lt = h zero d (omega arith)
fits_front (f ∷ fs) gs h (suc k) d lt = fits_front fs gs (λ i e il. h (suc i) e (omega arith)) k d (omega arith)

mark_fits : (now : ℕ) (f : Fragment) → Fits f → Fits (mark now f)
mark_fits now f h = at (is_due now f)
  where
    at : (b : Bool) → Fits (if b then record f { sent = Some now } else f)
    at true = record { least = h.least; most = h.most }
    at false = h

each_fits : (now : ℕ) (fs : List Fragment) → AllFit fs → AllFit (map (mark now) fs)
each_fits now [] h k d lt = absurd (omega (arith, lt))
each_fits now (f ∷ fs) h zero d lt = mark_fits now f (h zero d (omega arith))
each_fits now (f ∷ fs) h (suc k) d lt = each_fits now fs (λ i e il. h (suc i) e (omega arith)) k d (omega arith)

pub marks_fit : (count now : ℕ) (fs : List Fragment) → AllFit fs → AllFit (mark_first count now fs)
marks_fit count now fs h = All-append Fits (map (mark now) (take count fs)) (drop count fs) (each_fits now (take count fs) (All-take Fits count fs h)) (All-drop Fits count fs h)

one_more : (n now : ℕ) (fs : List Fragment) (f g : Fragment) → n < length fs → f ≡ get_or (mark_first n now fs) n f → g ≡ mark now f
    → set (mark_first n now fs) n g ≡ mark_first (suc n) now fs
one_more n now [] f g lt is e = absurd (omega (arith, lt))
one_more zero now (x ∷ fs) f g lt is e = ap (λ y. y ∷ fs) (e ∙ ap (mark now) is)
one_more (suc n) now (x ∷ fs) f g lt is e = ap (λ ys. mark now x ∷ ys) (one_more n now fs f g (omega arith) is e)

pub marks_one : (n now : ℕ) (fs : List Fragment) (f g : Fragment) → n < length fs → f ≡ get_or (mark_first n now fs) n f → g ≡ mark now f
    → set (mark_first n now fs) n g ≡ mark_first (n + 1) now fs
marks_one n now fs f g lt is e =
    let more : suc n ≡ n + 1 = omega arith in
    one_more n now fs f g lt is e ∙ ap (λ k. mark_first k now fs) more
