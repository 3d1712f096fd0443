-- What is due.
use Rattle.std.proofs.Common.{◌≡◌, ℕ, zero, suc, ◌+◌, ◌<◌, ◌≤◌, Bool, true, false, List, [], ◌∷◌, ◌++◌, map, length, take, drop, Option, Some, None, refl, sym, ap, subst, ◌∙◌, arith, append_assoc, append-nil}
use Rattle.std.specs.Prelude.{slice_get, if◌then◌else◌}
use Rattle.std.proofs.lemmas.List.{map-append, drop_all, length-map, length-append, length-take, length-drop}
use Rattle.sal_carriage.specs.declared.fragment.Fragment.{Fragment}
use Rattle.sal_carriage.specs.declared.datagram.Datagram.{Datagram}
use Rattle.sal_carriage.specs.Frames.{Frame}
use Rattle.sal_carriage.specs.Link.{Link, window, if_due, due_data, acknowledgement, or_acknowledgement, due, datagram_of, mark, mark_first, owes_after, push}

-- ---- lists

pub some_apart : {A : Type 0} {x : A} {B : Type 0} → ◌≡◌ {A = Option A} None (Some x) → B
some_apart {A} {x} {B} e = subst (λ (o : Option A). is o) e tt
  where
    is : Option A → Type 0
    is None = Unit {0}
    is (Some y) = B

pub some_same : {A : Type 0} {x y : A} → ◌≡◌ {A = Option A} (Some x) (Some y) → x ≡ y
some_same {A} {x} {y} e = ap (or x) e
  where
    or : A → Option A → A
    or d None = d
    or d (Some z) = z

pub from_there : {A : Type 0} (xs : List A) (k : ℕ) (x : A) → slice_get xs k ≡ Some x → drop k xs ≡ x ∷ drop (suc k) xs
from_there [] k x e = some_apart e
from_there (y ∷ xs) zero x e = ap (λ z. z ∷ xs) (some_same e)
from_there (y ∷ xs) (suc k) x e = from_there xs k x e

get_take : {A : Type 0} (n : ℕ) (xs : List A) (k : ℕ) (x : A) → k < n → slice_get xs k ≡ Some x → slice_get (take n xs) k ≡ Some x
get_take zero xs k x lt e = absurd (omega (arith, lt))
get_take (suc n) [] k x lt e = some_apart e
get_take (suc n) (y ∷ xs) zero x lt e = e
get_take (suc n) (y ∷ xs) (suc k) x lt e = get_take n xs k x (omega (arith, lt)) e

-- ---- the fragments, one after another

pub one_more_due : (now : ℕ) (l : Link) (at : ℕ) (f : Fragment) (ds new all : List Datagram) → at < 32 → slice_get l.unacknowledged at ≡ Some f
    → ds ++ map datagram_of (due_data now l (l.acknowledged + at) (drop at (take window l.unacknowledged))) ≡ all
    → new ≡ ds ++ map datagram_of (if_due now l (l.acknowledged + at) f)
    → new ++ map datagram_of (due_data now l (l.acknowledged + (at + 1)) (drop (at + 1) (take window l.unacknowledged))) ≡ all
unfolding due_data
one_more_due now l at f ds new all lt is h e =
    let u : List Fragment = take window l.unacknowledged in
    let n : ℕ = l.acknowledged + at in
    let there : drop at u ≡ f ∷ drop (suc at) u = from_there u at f (get_take 32 l.unacknowledged at f lt is) in
    let next : n + 1 ≡ l.acknowledged + (at + 1) = omega arith in
    let more : suc at ≡ at + 1 = omega arith in
    let front : List Datagram = map datagram_of (if_due now l n f) in
    let rest : List Datagram = map datagram_of (due_data now l (n + 1) (drop (suc at) u)) in
    ap (λ (z : List Datagram). z ++ map datagram_of (due_data now l (l.acknowledged + (at + 1)) (drop (at + 1) u))) e
    ∙ (λ i. (ds ++ front) ++ map datagram_of (due_data now l (sym next i) (drop (sym more i) u)))
    ∙ append_assoc ds front rest
    ∙ ap (λ (z : List Datagram). ds ++ z) (sym (map-append datagram_of (if_due now l n f) (due_data now l (n + 1) (drop (suc at) u))))
    ∙ ap (λ (z : List Fragment). ds ++ map datagram_of (due_data now l n z)) (sym there)
    ∙ h

pub all_are_due : (now : ℕ) (l : Link) (at : ℕ) (ds all : List Datagram) → length (take window l.unacknowledged) ≤ at
    → ds ++ map datagram_of (due_data now l (l.acknowledged + at) (drop at (take window l.unacknowledged))) ≡ all → ds ≡ all
unfolding due_data
all_are_due now l at ds all past h =
    sym (append-nil ds) ∙ ap (λ (z : List Fragment). ds ++ map datagram_of (due_data now l (l.acknowledged + at) z)) (sym (drop_all at (take window l.unacknowledged) past)) ∙ h

-- ---- with the acknowledgement

abbrev fragments_due : ℕ → Link → List Frame
fragments_due now l = due_data now l l.acknowledged (take window l.unacknowledged)

pub some_due : (now : ℕ) (l : Link) (ds : List Datagram) → ds ≡ map datagram_of (due_data now l l.acknowledged (take window l.unacknowledged)) → (ds ≡ [] → ⊥) → ds ≡ map datagram_of (due now l)
unfolding due
some_due now l ds e some = at (fragments_due now l) e
  where
    at : (fs : List Frame) → ds ≡ map datagram_of fs → ds ≡ map datagram_of (or_acknowledgement l fs)
    at [] d = absurd (some d)
    at (f ∷ fs) d = d

pub none_due : (now : ℕ) (l : Link) (ds new : List Datagram) → ds ≡ map datagram_of (due_data now l l.acknowledged (take window l.unacknowledged)) → ds ≡ [] → new ≡ map datagram_of (or_acknowledgement l [])
    → new ≡ map datagram_of (due now l)
unfolding due
none_due now l ds new e none n = at (fragments_due now l) e
  where
    at : (fs : List Frame) → ds ≡ map datagram_of fs → new ≡ map datagram_of (or_acknowledgement l fs)
    at [] d = n
    at (f ∷ fs) d = absurd (apart (sym none ∙ d))
      where
        apart : ◌≡◌ {A = List Datagram} [] (datagram_of f ∷ map datagram_of fs) → ⊥
        apart p = cc

-- ---- once it is sent

-- Every frame tells the wanted number, and where none is due no acknowledgement was due.
none_owed : (owes : Bool) (l : Link) (fs : List Frame) → owes ≡ l.owes → owes_after (or_acknowledgement l fs) l.owes ≡ false
none_owed owes l (f ∷ fs) e = refl
none_owed true l [] e =
    ap (λ b. owes_after (if b then acknowledgement l ∷ [] else []) l.owes) (sym e)
none_owed false l [] e =
    ap (λ b. owes_after (if b then acknowledgement l ∷ [] else []) b) (sym e)

pub link_pushes : (now : ℕ) (l : Link) (us : List Fragment) → us ≡ mark_first 32 now l.unacknowledged → record l { unacknowledged = us; owes = false } ≡ push now l
unfolding push due
link_pushes now l us u = λ i. record l { unacknowledged = u i; owes = sym (none_owed l.owes l (fragments_due now l) refl) i }

pub mark_length : (count now : ℕ) (fs : List Fragment) → length (mark_first count now fs) ≡ length fs
mark_length count now fs =
    omega (arith, length-append (map (mark now) (take count fs)) (drop count fs), length-map (take count fs) (mark now), length-take count fs, length-drop count fs)
