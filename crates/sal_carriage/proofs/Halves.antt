-- Links that change in halves.
use Rattle.std.proofs.Common.{◌≡◌, ℕ, ◌+◌, ◌-◌, ◌≤◌, ◌<◌, Bool, true, false, ◌&&◌, not, List, [], ◌++◌, length, take, drop, Option, Some, None, refl, sym, ap, ◌∙◌, subst, arith, length-append, true≢false}
use Rattle.std.specs.Prelude.{nat_eq, nat_lt, nat_le, if◌then◌else◌}
use Rattle.std.proofs.lemmas.Bool.{and_parts, ltb-true, leb-true, eqb-true}
use Rattle.std.proofs.lemmas.Bool.Decides.{nat_tests}
use Rattle.std.proofs.lemmas.List.{take-append-le, drop-append-le, take_all, length-drop}
use Rattle.sal_carriage.specs.declared.fragment.Fragment.{Fragment}
use Rattle.sal_carriage.specs.declared.datagram.Taken.{Taken}
use Rattle.sal_carriage.specs.declared.datagram.Taken.TheVariants as taken
use Rattle.sal_carriage.specs.Frames.{Frame, frame_of}
use Rattle.sal_carriage.specs.Link.{Link, number_limit, fragments, offer, offer_count, has_room, fragment_count, tells_more, acknowledge, accepts, take_wanted, take_data, take_accepted, take_frame, take_bytes}
use Rattle.sal_carriage.specs.Halves.{HalvesCommute, CanComplete, complete, completes, newly_acknowledged, withdraw, is_envelope}
use Rattle.sal_carriage.proofs.Steps.{bytes_accepted, not_accepted, takes_wanted, not_too_much, wanted_low, same_part, same_wanted}
use Rattle.sal_carriage.proofs.Taking.{wanted_by, data_by, good_by}

-- ---- the law

commute_offers : (count : ℕ) (l : Link) (envelope : List ℕ) → CanComplete count l → complete count (offer envelope l) ≡ offer envelope (complete count l)
unfolding complete offer
commute_offers count l envelope can =
    ap (λ (fs : List Fragment). record l { acknowledged = l.acknowledged + count; unacknowledged = fs; wanted = l.wanted + 1; part = []; owes = true })
    (drop-append-le count l.unacknowledged (fragments envelope) can.known)

same_count : (count : ℕ) (l : Link) → CanComplete count l → offer_count (complete count l) ≡ offer_count l
unfolding complete
same_count count l can = omega (arith, length-drop count l.unacknowledged, can.known)

same_room : (count : ℕ) (l : Link) (envelope : List ℕ) → CanComplete count l → has_room envelope (complete count l) ≡ has_room envelope l
same_room count l envelope can = ap (λ n. nat_le (n + fragment_count envelope) number_limit) (same_count count l can)

can_still : (count : ℕ) (l : Link) (envelope : List ℕ) → CanComplete count l → CanComplete count (offer envelope l)
unfolding offer
can_still count l envelope can =
    let longer = length-append l.unacknowledged (fragments envelope) in
    record { known = omega (arith, longer, can.known); number = can.number }

no_change : (l : Link) (envelope : List ℕ) → withdraw (length l.unacknowledged) (offer envelope l) ≡ l
unfolding withdraw offer
no_change l envelope =
    let whole : length l.unacknowledged ≤ length l.unacknowledged = omega arith in
    ap (λ (fs : List Fragment). record l { unacknowledged = fs })
    (take-append-le (length l.unacknowledged) l.unacknowledged (fragments envelope) whole ∙ take_all (length l.unacknowledged) l.unacknowledged whole)

pub commute : HalvesCommute
commute = record { offers = commute_offers; room = same_room; can = can_still; withdrawn = no_change }

-- ---- an envelope that comes

abbrev acknowledged_by : Bool → ℕ → Link → Link
acknowledged_by b wanted l = if b then record l { acknowledged = wanted; unacknowledged = drop (wanted - l.acknowledged) l.unacknowledged } else l

abbrev count_by : Bool → ℕ → Link → ℕ
count_by b wanted l = if b then wanted - l.acknowledged else 0

completed : Link → Link → Link
completed l k = record k { wanted = k.wanted + 1; part = []; owes = true }

completes_as : (wanted : ℕ) (l : Link) → record (acknowledge wanted l) { wanted = (acknowledge wanted l).wanted + 1; part = []; owes = true } ≡ complete (newly_acknowledged wanted l) l
unfolding acknowledge complete newly_acknowledged
completes_as wanted l = at (tells_more wanted l) refl
  where
    at : (b : Bool) → tells_more wanted l ≡ b
        → record (acknowledged_by b wanted l) { wanted = (acknowledged_by b wanted l).wanted + 1; part = []; owes = true }
        ≡ record l { acknowledged = l.acknowledged + count_by b wanted l; unacknowledged = drop (count_by b wanted l) l.unacknowledged; wanted = l.wanted + 1; part = []; owes = true }
    at true e =
        let p = and_parts (nat_lt l.acknowledged wanted) (nat_le wanted (offer_count l)) e in
        let low = ltb-true l.acknowledged wanted p.0 in
        let same : wanted ≡ l.acknowledged + (wanted - l.acknowledged) = omega (arith, low) in
        ap (λ n. record l { acknowledged = n; unacknowledged = drop (wanted - l.acknowledged) l.unacknowledged; wanted = l.wanted + 1; part = []; owes = true }) same
    at false e =
        let same : l.acknowledged ≡ l.acknowledged + 0 = omega arith in
        ap (λ n. record l { acknowledged = n; wanted = l.wanted + 1; part = []; owes = true }) same

count_known : (wanted : ℕ) (l : Link) → newly_acknowledged wanted l ≤ length l.unacknowledged
unfolding newly_acknowledged
count_known wanted l = at (tells_more wanted l) refl
  where
    at : (b : Bool) → tells_more wanted l ≡ b → count_by b wanted l ≤ length l.unacknowledged
    at true e =
        let p = and_parts (nat_lt l.acknowledged wanted) (nat_le wanted (offer_count l)) e in
        let high = leb-true wanted (offer_count l) p.1 in
        omega (arith, high)
    at false e = omega arith

pub arrives : (bytes : List ℕ) (f : Frame) (l : Link) → Some f ≡ frame_of bytes → completes f l ≡ true
    → take_bytes bytes l ≡ (taken.Envelope (l.part ++ f.payload), complete (newly_acknowledged f.wanted l) l)
arrives bytes f l is e =
    let p = and_parts (accepts f l) (f.is_data && (nat_eq f.number l.wanted && f.last)) e in
    let q = and_parts f.is_data (nat_eq f.number l.wanted && f.last) p.1 in
    let r = and_parts (nat_eq f.number l.wanted) f.last q.1 in
    let same : f.number ≡ l.wanted = eqb-true f.number l.wanted r.0 in
    let k : Link = acknowledge f.wanted l in
    sym (bytes_accepted bytes f l is p.0)
    ∙ sym (takes_wanted f l q.0 same)
    ∙ ap (λ b. wanted_by b f k) r.1
    ∙ (λ i. (taken.Envelope (same_part f.wanted l i ++ f.payload), completes_as f.wanted l i))

pub can_complete : (bytes : List ℕ) (f : Frame) (l : Link) → completes f l ≡ true → CanComplete (newly_acknowledged f.wanted l) l
can_complete bytes f l e =
    let p = and_parts (accepts f l) (f.is_data && (nat_eq f.number l.wanted && f.last)) e in
    let q = and_parts f.is_data (nat_eq f.number l.wanted && f.last) p.1 in
    let r = and_parts (nat_eq f.number l.wanted) f.last q.1 in
    let same : f.number ≡ l.wanted = eqb-true f.number l.wanted r.0 in
    record { known = count_known f.wanted l; number = wanted_low f l (not_too_much f l p.0) q.0 same }

-- ---- no envelope comes

pub no_frame : (bytes : List ℕ) (l : Link) → None ≡ frame_of bytes → is_envelope (take_bytes bytes l).0 ≡ false
unfolding take_bytes
no_frame bytes l e = ap (λ (o : Option Frame). is_envelope (take_frame o l).0) (sym e)

not_whole : (d : Bool) (f : Frame) (k : Link) → d ≡ false → is_envelope (wanted_by d f k).0 ≡ false
not_whole true f k e = absurd (true≢false e)
not_whole false f k e = refl

not_data : (b c : Bool) (f : Frame) (k : Link) → (b ≡ false → c ≡ false → f.last ≡ false) → is_envelope (data_by b c f k).0 ≡ false
not_data true c f k h = refl
not_data false true f k h = refl
not_data false false f k h = not_whole f.last f k (h refl refl)

right_false : (b c : Bool) → (b && c) ≡ false → b ≡ true → c ≡ false
right_false true c e t = e
right_false false c e t = absurd (true≢false (sym t))

neither : (m n : ℕ) → nat_lt m n ≡ false → nat_lt n m ≡ false → nat_eq m n ≡ true
neither m n a b = grind (arith, nat_tests)

last_false : (f : Frame) (l k : Link) → k.wanted ≡ l.wanted → (nat_eq f.number l.wanted && f.last) ≡ false
    → nat_lt f.number k.wanted ≡ false → nat_lt k.wanted f.number ≡ false → f.last ≡ false
last_false f l k same e a b =
    right_false (nat_eq f.number l.wanted) f.last e
    (neither f.number l.wanted (ap (λ w. nat_lt f.number w) (sym same) ∙ a) (ap (λ w. nat_lt w f.number) (sym same) ∙ b))

not_good : (b : Bool) (f : Frame) (l : Link) → (b ≡ true → (nat_eq f.number l.wanted && f.last) ≡ false) → is_envelope (good_by b f l).0 ≡ false
not_good true f l h =
    let k : Link = acknowledge f.wanted l in
    not_data (nat_lt f.number k.wanted) (nat_lt k.wanted f.number) f k (last_false f l k (same_wanted f.wanted l) (h refl))
not_good false f l h = refl

pub not_completes : (bytes : List ℕ) (f : Frame) (l : Link) → Some f ≡ frame_of bytes → completes f l ≡ false → is_envelope (take_bytes bytes l).0 ≡ false
not_completes bytes f l is e = at (accepts f l) refl
  where
    at : (b : Bool) → accepts f l ≡ b → is_envelope (take_bytes bytes l).0 ≡ false
    at true a =
        let rest = right_false (accepts f l) (f.is_data && (nat_eq f.number l.wanted && f.last)) e a in
        ap (λ (x : Taken × Link). is_envelope x.0) (sym (bytes_accepted bytes f l is a))
        ∙ not_good f.is_data f l (right_false f.is_data (nat_eq f.number l.wanted && f.last) rest)
    at false a = ap (λ (x : Taken × Link). is_envelope x.0) (sym (not_accepted bytes f l is a))

-- ---- what the code computes

pub none_new : (wanted : ℕ) (l : Link) → tells_more wanted l ≡ false → 0 ≡ newly_acknowledged wanted l
unfolding newly_acknowledged
none_new wanted l e = ap (λ b. count_by b wanted l) (sym e)

pub some_new : (wanted : ℕ) (l : Link) → tells_more wanted l ≡ true → wanted - l.acknowledged ≡ newly_acknowledged wanted l
unfolding newly_acknowledged
some_new wanted l e = ap (λ b. count_by b wanted l) (sym e)

pub link_completes : (count : ℕ) (l : Link) (fs : List Fragment) (bytes : List ℕ) → fs ≡ drop count l.unacknowledged → bytes ≡ []
    → record l { acknowledged = l.acknowledged + count; unacknowledged = fs; wanted = l.wanted + 1; part = bytes; owes = true } ≡ complete count l
unfolding complete
link_completes count l fs bytes e none = λ i. record l { acknowledged = l.acknowledged + count; unacknowledged = e i; wanted = l.wanted + 1; part = none i; owes = true }

pub link_withdraws : (count : ℕ) (l : Link) (fs : List Fragment) → fs ≡ take count l.unacknowledged → record l { unacknowledged = fs } ≡ withdraw count l
unfolding withdraw
link_withdraws count l fs e = ap (λ (gs : List Fragment). record l { unacknowledged = gs }) e
