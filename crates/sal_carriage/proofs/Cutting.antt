-- The fragments of an envelope.
use Rattle.std.proofs.Common.{◌≡◌, ℕ, zero, suc, ◌+◌, ◌-◌, ◌*◌, ◌/◌, ◌<◌, ◌≤◌, true, false, List, [], ◌∷◌, ◌++◌, length, take, drop, get_or, None, refl, sym, ap, subst, ◌∙◌, arith, append_assoc, length-drop}
use Rattle.std.proofs.lemmas.List.{take_all, length-take, length-take-le}
use Rattle.std.proofs.lemmas.List.Elements.{All-append}
use Rattle.sal_carriage.specs.declared.fragment.Fragment.{Fragment}
use Rattle.sal_carriage.specs.Fragments.{Fits, AllFit}
use Rattle.sal_carriage.proofs.Offering.{counted}
use Rattle.sal_carriage.specs.Link.{fragment_count, cut_in, fragments}

pub one_short : (bytes : List ℕ) → 1 ≤ length bytes → length bytes ≤ 1024 → fragments bytes ≡ record { payload = bytes; last = true; sent = None } ∷ []
unfolding fragments cut_in
one_short bytes some few =
    let one : (length bytes + 1023) / 1024 ≡ 1 = omega (arith, some, few) in
    ap (λ n. cut_in n bytes) one ∙ ap (λ (z : List ℕ). record { payload = z; last = true; sent = None } ∷ []) (take_all 1024 bytes few)

first_long : (bytes : List ℕ) (n : ℕ) → fragment_count bytes ≡ suc (suc n) → fragment_count (drop 1024 bytes) ≡ suc n
    → fragments bytes ≡ record { payload = take 1024 bytes; last = false; sent = None } ∷ fragments (drop 1024 bytes)
unfolding fragments cut_in
first_long bytes n two one =
    let first : Fragment = record { payload = take 1024 bytes; last = false; sent = None } in
    ap (λ k. cut_in k bytes) two ∙ ap (λ k. first ∷ cut_in k (drop 1024 bytes)) (sym one)

pub one_long : (bytes : List ℕ) → 1024 < length bytes → fragments bytes ≡ record { payload = take 1024 bytes; last = false; sent = None } ∷ fragments (drop 1024 bytes)
one_long bytes many = at ((length bytes - 1) / 1024) refl
  where
    at : (k : ℕ) → (length bytes - 1) / 1024 ≡ k → fragments bytes ≡ record { payload = take 1024 bytes; last = false; sent = None } ∷ fragments (drop 1024 bytes)
    at zero e = absurd (omega (arith, e, many))
    at (suc n) e = first_long bytes n (omega (arith, e, many)) (omega (arith, e, many, length-drop 1024 bytes))

one_fits : (fs : List Fragment) (f : Fragment) → Fits f → AllFit fs → AllFit (fs ++ f ∷ [])
one_fits fs f h hs = All-append Fits fs (f ∷ []) hs (λ k d lt. only k d lt)
  where
    only : (k : ℕ) (d : Fragment) → k < 1 → Fits (get_or (f ∷ []) k d)
    only zero d lt = h
    only (suc k) d lt = absurd (omega (arith, lt))

pub added : (fs gs : List Fragment) (front rest behind : List ℕ) → fs ++ fragments rest ≡ gs → 1024 < length rest → front ≡ take 1024 rest → behind ≡ drop 1024 rest
    → (fs ++ record { payload = front; last = false; sent = None } ∷ []) ++ fragments behind ≡ gs
added fs gs front rest behind h many f b =
    append_assoc fs (record { payload = front; last = false; sent = None } ∷ []) (fragments behind)
    ∙ (λ i. fs ++ record { payload = f i; last = false; sent = None } ∷ fragments (b i))
    ∙ ap (λ (z : List Fragment). fs ++ z) (sym (one_long rest many)) ∙ h

pub ended : (fs gs : List Fragment) (rest last : List ℕ) → fs ++ fragments rest ≡ gs → 1 ≤ length rest → length rest ≤ 1024 → last ≡ rest
    → fs ++ record { payload = last; last = true; sent = None } ∷ [] ≡ gs
ended fs gs rest last h some few e =
    (λ i. fs ++ record { payload = e i; last = true; sent = None } ∷ []) ∙ ap (λ (z : List Fragment). fs ++ z) (sym (one_short rest some few)) ∙ h

pub front_fits : (fs : List Fragment) (front rest : List ℕ) → AllFit fs → 1024 < length rest → front ≡ take 1024 rest → AllFit (fs ++ record { payload = front; last = false; sent = None } ∷ [])
front_fits fs front rest hs many e =
    let size = length-take-le 1024 rest (omega (arith, many)) in
    one_fits fs (record { payload = front; last = false; sent = None }) (record { least = omega (arith, size, ap length e); most = omega (arith, size, ap length e) }) hs

pub last_fits : (fs : List Fragment) (rest last : List ℕ) → AllFit fs → 1 ≤ length rest → length rest ≤ 1024 → last ≡ rest → AllFit (fs ++ record { payload = last; last = true; sent = None } ∷ [])
last_fits fs rest last hs some few e =
    one_fits fs (record { payload = last; last = true; sent = None }) (record { least = omega (arith, some, ap length e); most = omega (arith, few, ap length e) }) hs

pub fits_cons : (f : Fragment) (fs : List Fragment) → Fits f → AllFit fs → AllFit (f ∷ fs)
fits_cons f fs h hs zero d lt = h
fits_cons f fs h hs (suc k) d lt = hs k d (omega (arith, lt))

fits_cut : (n : ℕ) (bytes : List ℕ) → n * 1024 < length bytes → AllFit (cut_in (suc n) bytes)
unfolding cut_in
fits_cut zero bytes many =
    fits_cons (record { payload = take 1024 bytes; last = true; sent = None }) [] (record { least = omega (arith, many, length-take 1024 bytes); most = omega (arith, length-take 1024 bytes) })
    (λ k d lt. absurd (omega (arith, lt)))
fits_cut (suc n) bytes many =
    fits_cons (record { payload = take 1024 bytes; last = false; sent = None }) (cut_in (suc n) (drop 1024 bytes))
    (record { least = omega (arith, many, length-take 1024 bytes); most = omega (arith, length-take 1024 bytes) })
    (fits_cut n (drop 1024 bytes) (omega (arith, many, length-drop 1024 bytes)))

pub fragments_fit : (bytes : List ℕ) → 1 ≤ length bytes → AllFit (fragments bytes)
unfolding fragments
fragments_fit bytes some = let c = counted bytes some in subst (λ n. AllFit (cut_in n bytes)) (sym c.1) (fits_cut c.0 bytes c.3)
