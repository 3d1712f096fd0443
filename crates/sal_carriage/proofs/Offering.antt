-- An envelope that is offered is the last one in transit.
use Rattle.std.proofs.Common.{◌≡◌, ℕ, zero, suc, ◌+◌, ◌-◌, ◌*◌, ◌/◌, ◌≤◌, ◌<◌, Bool, true, false, List, [], ◌∷◌, ◌++◌, length, take, drop, refl, ap, ◌∙◌, arith, append_assoc, length-append, length-drop}
use Rattle.std.specs.Prelude.{if◌then◌else◌}
use Rattle.std.proofs.lemmas.List.{drop-append-le, take-append-drop}
use Rattle.sal_carriage.specs.declared.fragment.Fragment.{Fragment}
use Rattle.sal_carriage.specs.Link.{Link, fragment_count, cut_in, fragments, offer}
use Rattle.sal_carriage.specs.Transit.{envelopes_of, open_end, left_to_take, in_transit, IsInStep}
use Rattle.sal_carriage.specs.Laws.{OffersAreLast}

-- ---- fragments after fragments

envelopes_append : (part : List ℕ) (fs gs : List Fragment) → envelopes_of part (fs ++ gs) ≡ envelopes_of part fs ++ envelopes_of (open_end part fs) gs
unfolding envelopes_of open_end
envelopes_append part [] gs = refl
envelopes_append part (f ∷ fs) gs = at f.last (envelopes_append [] fs gs) (envelopes_append (part ++ f.payload) fs gs)
  where
    at : (b : Bool) → envelopes_of [] (fs ++ gs) ≡ envelopes_of [] fs ++ envelopes_of (open_end [] fs) gs → envelopes_of (part ++ f.payload) (fs ++ gs) ≡ envelopes_of (part ++ f.payload) fs ++ envelopes_of (open_end (part ++ f.payload) fs) gs
        → (if b then (part ++ f.payload) ∷ envelopes_of [] (fs ++ gs) else envelopes_of (part ++ f.payload) (fs ++ gs))
        ≡ (if b then (part ++ f.payload) ∷ envelopes_of [] fs else envelopes_of (part ++ f.payload) fs) ++ envelopes_of (if b then open_end [] fs else open_end (part ++ f.payload) fs) gs
    at true d e = ap (λ zs. (part ++ f.payload) ∷ zs) d
    at false d e = e

left_append : (part : List ℕ) (fs gs : List Fragment) → open_end part (fs ++ gs) ≡ open_end (open_end part fs) gs
unfolding open_end
left_append part [] gs = refl
left_append part (f ∷ fs) gs = at f.last (left_append [] fs gs) (left_append (part ++ f.payload) fs gs)
  where
    at : (b : Bool) → open_end [] (fs ++ gs) ≡ open_end (open_end [] fs) gs → open_end (part ++ f.payload) (fs ++ gs) ≡ open_end (open_end (part ++ f.payload) fs) gs
        → (if b then open_end [] (fs ++ gs) else open_end (part ++ f.payload) (fs ++ gs)) ≡ open_end (if b then open_end [] fs else open_end (part ++ f.payload) fs) gs
    at true d e = d
    at false d e = e

-- ---- one envelope

nil_right : (xs : List ℕ) → xs ++ [] ≡ xs
nil_right [] = refl
nil_right (x ∷ xs) = ap (λ ys. x ∷ ys) (nil_right xs)

none_left : (n : ℕ) (xs : List ℕ) → length xs ≤ n → take n xs ≡ xs
none_left n [] e = none n
  where
    none : (m : ℕ) → take {A = ℕ} m [] ≡ []
    none zero = refl
    none (suc m) = refl
none_left zero (x ∷ xs) e = absurd (omega arith)
none_left (suc n) (x ∷ xs) e = ap (λ ys. x ∷ ys) (none_left n xs (omega arith))

cut_envelopes : (n : ℕ) (part bytes : List ℕ) → length bytes ≤ suc n * 1024 → n * 1024 < length bytes → envelopes_of part (cut_in (suc n) bytes) ≡ (part ++ bytes) ∷ []
unfolding envelopes_of cut_in
cut_envelopes zero part bytes few many = ap (λ ys. (part ++ ys) ∷ []) (none_left 1024 bytes (omega arith))
cut_envelopes (suc n) part bytes few many =
    let long = length-drop 1024 bytes in
    cut_envelopes n (part ++ take 1024 bytes) (drop 1024 bytes) (omega (arith, long)) (omega (arith, long))
    ∙ ap (λ ys. ys ∷ []) (append_assoc part (take 1024 bytes) (drop 1024 bytes) ∙ ap (λ ys. part ++ ys) (take-append-drop 1024 bytes))

cut_left : (n : ℕ) (part bytes : List ℕ) → open_end part (cut_in (suc n) bytes) ≡ []
unfolding open_end cut_in
cut_left zero part bytes = refl
cut_left (suc n) part bytes = cut_left n (part ++ take 1024 bytes) (drop 1024 bytes)

-- ---- the law

pub counted : (bytes : List ℕ) → 1 ≤ length bytes → (n : ℕ) × (fragment_count bytes ≡ suc n) × (length bytes ≤ suc n * 1024) × (n * 1024 < length bytes)
counted bytes some = at ((length bytes + 1023) / 1024) refl
  where
    at : (k : ℕ) → (length bytes + 1023) / 1024 ≡ k → (n : ℕ) × ((length bytes + 1023) / 1024 ≡ suc n) × (length bytes ≤ suc n * 1024) × (n * 1024 < length bytes)
    at zero e = absurd (omega (arith, e, some))
    at (suc n) e = (n, e, omega (arith, e), omega (arith, e))

fragments_envelopes : (bytes : List ℕ) → 1 ≤ length bytes → envelopes_of [] (fragments bytes) ≡ bytes ∷ []
unfolding fragments
fragments_envelopes bytes some = let c = counted bytes some in ap (λ n. envelopes_of [] (cut_in n bytes)) c.1 ∙ cut_envelopes c.0 [] bytes c.2 c.3

fragments_left : (bytes : List ℕ) → 1 ≤ length bytes → open_end [] (fragments bytes) ≡ []
unfolding fragments
fragments_left bytes some = let c = counted bytes some in ap (λ n. open_end [] (cut_in n bytes)) c.1 ∙ cut_left c.0 [] bytes

left_offer : (s r : Link) (envelope : List ℕ) → IsInStep s r → left_to_take (offer envelope s) r ≡ left_to_take s r ++ fragments envelope
unfolding offer
left_offer s r envelope h =
    let low = h.taken in
    let high = h.offered in
    drop-append-le (r.wanted - s.acknowledged) s.unacknowledged (fragments envelope) (omega arith)

pub offers_last : OffersAreLast
unfolding in_transit offer
offers_last s r envelope h whole some = record {
  carried = ap (envelopes_of r.part) (left_offer s r envelope h) ∙ envelopes_append r.part (left_to_take s r) (fragments envelope)
      ∙ ap (λ p. envelopes_of r.part (left_to_take s r) ++ envelopes_of p (fragments envelope)) whole
      ∙ ap (λ es. envelopes_of r.part (left_to_take s r) ++ es) (fragments_envelopes envelope some);
  whole = ap (open_end r.part) (left_offer s r envelope h) ∙ left_append r.part (left_to_take s r) (fragments envelope)
      ∙ ap (λ p. open_end p (fragments envelope)) whole ∙ fragments_left envelope some;
  there = record {
    peers = record { program = h.peers.program; there = h.peers.there; here = h.peers.here };
    taken = h.taken;
    offered = (let e = length-append s.unacknowledged (fragments envelope) in let o = h.offered in omega (arith, e, o));
  };
  other = refl;
}
