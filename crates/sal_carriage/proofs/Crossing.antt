-- Honest frames, and what is in transit.
use Rattle.std.proofs.Common.{◌≡◌, ◌⊎◌, inl, inr, ℕ, zero, suc, ◌+◌, ◌-◌, ◌≤◌, ◌<◌, Bool, true, false, ◌&&◌, not, List, [], ◌∷◌, ◌++◌, length, drop, Some, refl, sym, ap, subst, ◌∙◌, arith, length-drop}
use Rattle.std.specs.Prelude.{nat_lt, if◌then◌else◌, slice_get}
use Rattle.std.proofs.lemmas.Bool.{ltb-false}
use Rattle.std.proofs.lemmas.List.{drop-drop}
use Rattle.sal_carriage.specs.Frames.{Frame}
use Rattle.sal_carriage.specs.declared.fragment.Fragment.{Fragment}
use Rattle.sal_carriage.specs.Link.{Link, offer_count, acknowledge, is_for, is_too_much}
use Rattle.sal_carriage.specs.Transit.{envelopes_of, open_end, left_to_take, in_transit, IsWhole, IsInStep, CarriesOffered, IsHonest}
use Rattle.sal_carriage.specs.Laws.{envelope_of, Crosses, HonestFramesCross}
use Rattle.sal_carriage.proofs.Due.{some_apart, from_there}
use Rattle.sal_carriage.proofs.Taking.{Acknowledges, acknowledges, wanted_by, data_by, good_by, frame_by}

-- ---- lists

is_below : {A : Type 0} (xs : List A) (k : ℕ) (x : A) → slice_get xs k ≡ Some x → k < length xs
is_below [] k x e = some_apart e
is_below (y ∷ xs) zero x e = omega arith
is_below (y ∷ xs) (suc k) x e = let h = is_below xs k x e in omega arith

-- ---- the receiver once it knows of more acknowledged fragments

abbrev told_more : ℕ → Bool → Link → Link
told_more n o r = record r { acknowledged = r.acknowledged + n; unacknowledged = drop n r.unacknowledged; owes = o }

back_after : (s r : Link) (n : ℕ) (o : Bool) → IsInStep r s → n ≤ length r.unacknowledged → r.acknowledged + n ≤ s.wanted → IsInStep (told_more n o r) s
back_after s r n o h few low = record {
  peers = record { program = h.peers.program; there = h.peers.there; here = h.peers.here };
  taken = low;
  offered = let up = h.offered in let e = length-drop n r.unacknowledged in omega arith;
}

other_after : (s r : Link) (n : ℕ) (o : Bool) → r.acknowledged + n ≤ s.wanted → in_transit (told_more n o r) s ≡ in_transit r s
unfolding in_transit
other_after s r n o low =
    let more : n + (s.wanted - (r.acknowledged + n)) ≡ s.wanted - r.acknowledged = omega arith in
    ap (envelopes_of s.part) (drop-drop (s.wanted - (r.acknowledged + n)) n r.unacknowledged ∙ ap (λ k. drop k r.unacknowledged) more)

whole_after : (s r : Link) (n : ℕ) (o : Bool) → r.acknowledged + n ≤ s.wanted → IsWhole r s → IsWhole (told_more n o r) s
whole_after s r n o low w =
    let more : n + (s.wanted - (r.acknowledged + n)) ≡ s.wanted - r.acknowledged = omega arith in
    ap (open_end s.part) (drop-drop (s.wanted - (r.acknowledged + n)) n r.unacknowledged ∙ ap (λ k. drop k r.unacknowledged) more) ∙ w

-- no fragment was taken
kept : (s r : Link) (n : ℕ) (o : Bool) → IsInStep s r → IsInStep r s → n ≤ length r.unacknowledged → r.acknowledged + n ≤ s.wanted → Crosses s r (told_more n o r) []
unfolding in_transit
kept s r n o h g few low = record {
  there = record { peers = record { program = h.peers.program; there = h.peers.there; here = h.peers.here }; taken = h.taken; offered = h.offered };
  back = back_after s r n o g few low;
  carried = refl;
  other = other_after s r n o low;
  whole = λ w. w;
  other_whole = whole_after s r n o low;
}

-- the wanted fragment was taken, and these bytes are left of an envelope that isn't whole
abbrev takes_on : ℕ → List ℕ → Link → Link
takes_on n part r = record r { acknowledged = r.acknowledged + n; unacknowledged = drop n r.unacknowledged; wanted = r.wanted + 1; part = part; owes = true }

next : (s r : Link) (f : Frame) → f.number ≡ r.wanted → IsInStep s r → CarriesOffered s f
    → (old : Fragment) × (left_to_take s r ≡ old ∷ drop ((r.wanted + 1) - s.acknowledged) s.unacknowledged) × (old.payload ≡ f.payload) × (old.last ≡ f.last) × (r.wanted + 1 ≤ offer_count s)
next s r f same h c =
    let low = h.taken in
    let there : slice_get s.unacknowledged (r.wanted - s.acknowledged) ≡ Some c.0 = ap (λ n. slice_get s.unacknowledged (n - s.acknowledged)) (sym same) ∙ c.1 in
    let below = is_below s.unacknowledged (r.wanted - s.acknowledged) c.0 there in
    let more : suc (r.wanted - s.acknowledged) ≡ (r.wanted + 1) - s.acknowledged = omega arith in
    (c.0, from_there s.unacknowledged (r.wanted - s.acknowledged) c.0 there ∙ ap (λ k. c.0 ∷ drop k s.unacknowledged) more, c.2, c.3, omega arith)

envelopes_next : (part : List ℕ) (old : Fragment) (fs : List Fragment) (b : Bool) (payload : List ℕ) → old.payload ≡ payload → old.last ≡ b
    → envelopes_of part (old ∷ fs) ≡ (if b then (part ++ payload) ∷ envelopes_of [] fs else envelopes_of (part ++ payload) fs)
unfolding envelopes_of
envelopes_next part old fs b payload p l =
    (λ i. if l i then (part ++ p i) ∷ envelopes_of [] fs else envelopes_of (part ++ p i) fs)

ends_next : (part : List ℕ) (old : Fragment) (fs : List Fragment) (b : Bool) (payload : List ℕ) → old.payload ≡ payload → old.last ≡ b
    → open_end part (old ∷ fs) ≡ (if b then open_end [] fs else open_end (part ++ payload) fs)
unfolding open_end
ends_next part old fs b payload p l = (λ i. if l i then open_end [] fs else open_end (part ++ p i) fs)

takes_part : (s r : Link) (f : Frame) (n : ℕ) → f.number ≡ r.wanted → f.last ≡ false → IsInStep s r → IsInStep r s → CarriesOffered s f → n ≤ length r.unacknowledged → r.acknowledged + n ≤ s.wanted
    → Crosses s r (takes_on n (r.part ++ f.payload) r) []
unfolding in_transit
takes_part s r f n same last h g c few low =
    let x = next s r f same h c in
    record {
      there = record { peers = record { program = h.peers.program; there = h.peers.there; here = h.peers.here }; taken = (let t = h.taken in omega arith); offered = x.4 };
      back = (let b = back_after s r n true g few low in record { peers = record { program = g.peers.program; there = g.peers.there; here = g.peers.here }; taken = b.taken; offered = b.offered });
      carried = ap (envelopes_of r.part) x.1 ∙ envelopes_next r.part x.0 _ false f.payload x.2 (x.3 ∙ last);
      other = other_after s r n true low;
      whole = λ w. sym (ap (open_end r.part) x.1 ∙ ends_next r.part x.0 _ false f.payload x.2 (x.3 ∙ last)) ∙ w;
      other_whole = whole_after s r n true low;
    }

takes_whole : (s r : Link) (f : Frame) (n : ℕ) → f.number ≡ r.wanted → f.last ≡ true → IsInStep s r → IsInStep r s → CarriesOffered s f → n ≤ length r.unacknowledged → r.acknowledged + n ≤ s.wanted
    → Crosses s r (takes_on n [] r) ((r.part ++ f.payload) ∷ [])
unfolding in_transit
takes_whole s r f n same last h g c few low =
    let x = next s r f same h c in
    record {
      there = record { peers = record { program = h.peers.program; there = h.peers.there; here = h.peers.here }; taken = (let t = h.taken in omega arith); offered = x.4 };
      back = (let b = back_after s r n true g few low in record { peers = record { program = g.peers.program; there = g.peers.there; here = g.peers.here }; taken = b.taken; offered = b.offered });
      carried = ap (envelopes_of r.part) x.1 ∙ envelopes_next r.part x.0 _ true f.payload x.2 (x.3 ∙ last);
      other = other_after s r n true low;
      whole = λ w. sym (ap (open_end r.part) x.1 ∙ ends_next r.part x.0 _ true f.payload x.2 (x.3 ∙ last)) ∙ w;
      other_whole = whole_after s r n true low;
    }

-- ---- a frame arrives

unchanged : (s r : Link) → IsInStep s r → IsInStep r s → Crosses s r r []
unchanged s r h g = record { there = h; back = g; carried = refl; other = refl; whole = λ w. w; other_whole = λ w. w }

low_of : (s r : Link) (f : Frame) (k : Link) → IsInStep r s → f.wanted ≤ s.wanted → (a : Acknowledges f.wanted r k) → r.acknowledged + a.count ≤ s.wanted
low_of s r f k g honest a = elim a.least [
  | inl z ↦ let t = g.taken in omega (arith, z)
  | inr b ↦ omega (arith, b)
]

wanted_now : (s r : Link) (f : Frame) → f.number ≡ r.wanted → (f.number < r.wanted) ⊎ ((s.acknowledged ≤ f.number) × CarriesOffered s f) → CarriesOffered s f
wanted_now s r f same (inl less) = absurd (omega (arith, same, less))
wanted_now s r f same (inr c) = c.1

module _ (s r k : Link) (f : Frame) (h : IsInStep s r) (g : IsInStep r s) (honest : IsHonest s r f) (a : Acknowledges f.wanted r k) where
  low : r.acknowledged + a.count ≤ s.wanted
  low = low_of s r f k g honest.wanted a

  -- no fragment was taken, whatever is owed
  takes_none : (o : Bool) → Crosses s r (record k { owes = o }) []
  takes_none o =
      let same : record k { owes = o } ≡ told_more a.count o r = λ i. record (a.link i) { owes = o } in
      subst (λ (x : Link). Crosses s r x []) (sym same) (kept s r a.count o h g a.known low)

  wanted_crosses : (b : Bool) → f.last ≡ b → f.is_data ≡ true → f.number ≡ r.wanted → Crosses s r (wanted_by b f k).1 (envelope_of (wanted_by b f k).0)
  wanted_crosses true last is same =
      subst (λ (x : Link). Crosses s r (record x { wanted = x.wanted + 1; part = []; owes = true }) ((x.part ++ f.payload) ∷ [])) (sym a.link)
      (takes_whole s r f a.count same last h g (wanted_now s r f same (honest.carries is)) a.known low)
  wanted_crosses false last is same =
      subst (λ (x : Link). Crosses s r (record x { wanted = x.wanted + 1; part = x.part ++ f.payload; owes = true }) []) (sym a.link)
      (takes_part s r f a.count same last h g (wanted_now s r f same (honest.carries is)) a.known low)

  data_crosses : (b c : Bool) → nat_lt f.number k.wanted ≡ b → nat_lt k.wanted f.number ≡ c → f.is_data ≡ true
      → Crosses s r (data_by b c f k).1 (envelope_of (data_by b c f k).0)
  data_crosses true c e d is = takes_none true
  data_crosses false true e d is = takes_none true
  data_crosses false false e d is =
      let up = ltb-false f.number k.wanted e in
      let down = ltb-false k.wanted f.number d in
      let wanted : k.wanted ≡ r.wanted = ap (λ (x : Link). x.wanted) a.link in
      wanted_crosses f.last refl is (omega arith)

good_crosses : (s r : Link) (f : Frame) → IsInStep s r → IsInStep r s → IsHonest s r f → (b : Bool) → f.is_data ≡ b → Crosses s r (good_by b f r).1 (envelope_of (good_by b f r).0)
good_crosses s r f h g honest true is =
    data_crosses s r (acknowledge f.wanted r) f h g honest (acknowledges f.wanted r) (nat_lt f.number (acknowledge f.wanted r).wanted) (nat_lt (acknowledge f.wanted r).wanted f.number) refl refl is
good_crosses s r f h g honest false is = takes_none s r (acknowledge f.wanted r) f h g honest (acknowledges f.wanted r) (acknowledge f.wanted r).owes

frame_crosses : (s r : Link) (f : Frame) → IsInStep s r → IsInStep r s → IsHonest s r f → (b : Bool) → Crosses s r (frame_by b f r).1 (envelope_of (frame_by b f r).0)
frame_crosses s r f h g honest true = good_crosses s r f h g honest f.is_data refl
frame_crosses s r f h g honest false = unchanged s r h g

pub honest_crosses : HonestFramesCross
honest_crosses s r f h g honest = frame_crosses s r f h g honest (is_for f r && not (is_too_much f r))
