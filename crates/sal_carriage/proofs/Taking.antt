-- What taking does to a link.
use Rattle.std.proofs.Common.{◌≡◌, ◌⊎◌, inl, inr, ℕ, ◌+◌, ◌-◌, ◌≤◌, Bool, true, false, ◌&&◌, not, [], ◌++◌, length, drop, Option, Some, None, refl, arith, true≢false}
use Rattle.std.specs.Prelude.{nat_lt, nat_le, if◌then◌else◌}
use Rattle.std.proofs.lemmas.Bool.{and_parts, ltb-true, leb-true}
use Rattle.sal_carriage.specs.declared.datagram.Taken.{Taken}
use Rattle.sal_carriage.specs.declared.datagram.Taken.TheVariants as taken
use Rattle.sal_carriage.specs.Frames.{Frame, frame_of}
use Rattle.sal_carriage.specs.Link.{Link, offer_count, acknowledge, is_for, is_too_much, is_taken, take_data, take_accepted, take_frame, take_bytes}
use Rattle.sal_carriage.specs.Laws.{OnlyAcknowledges, UnwantedFramesChangeLittle}

-- what an acknowledgement up to a number does
pub record Acknowledges (wanted : ℕ) (old new : Link) : Type 0 where
  pub count : ℕ
  pub known : count ≤ length old.unacknowledged
  pub link : new ≡ record old { acknowledged = old.acknowledged + count; unacknowledged = drop count old.unacknowledged; owes = new.owes }
  pub least : (count ≡ 0) ⊎ (old.acknowledged + count ≤ wanted)

pub acknowledges : (w : ℕ) (l : Link) → Acknowledges w l (acknowledge w l)
unfolding acknowledge
acknowledges w l = at (nat_lt l.acknowledged w && nat_le w (offer_count l)) refl
  where
    at : (b : Bool) → (nat_lt l.acknowledged w && nat_le w (offer_count l)) ≡ b
        → Acknowledges w l (if b then record l { acknowledged = w; unacknowledged = drop (w - l.acknowledged) l.unacknowledged } else l)
    at true e =
        let p = and_parts (nat_lt l.acknowledged w) (nat_le w (offer_count l)) e in
        let low = ltb-true l.acknowledged w p.0 in
        let high = leb-true w (offer_count l) p.1 in
        let same : w ≡ l.acknowledged + (w - l.acknowledged) = omega arith in
        record {
          count = w - l.acknowledged;
          known = omega arith;
          link = λ i. record l { acknowledged = same i; unacknowledged = drop (w - l.acknowledged) l.unacknowledged };
          least = inr (omega arith);
        }
    at false e =
        let same : l.acknowledged ≡ l.acknowledged + 0 = omega arith in
        record { count = 0; known = omega arith; link = λ i. record l { acknowledged = same i }; least = inl refl }

only : (w : ℕ) (l k : Link) → Acknowledges w l k → OnlyAcknowledges l k
only w l k a = record { count = a.count; known = a.known; link = a.link }

owing : (l k : Link) → OnlyAcknowledges l k → OnlyAcknowledges l (record k { owes = true })
owing l k a = record { count = a.count; known = a.known; link = λ i. record (a.link i) { owes = true } }

none : (l : Link) → OnlyAcknowledges l l
none l =
    let same : l.acknowledged ≡ l.acknowledged + 0 = omega arith in
    record { count = 0; known = omega arith; link = λ i. record l { acknowledged = same i } }

-- the ways of taking, by what decides
abbrev pub wanted_by : Bool → Frame → Link → Taken × Link
wanted_by b f k =
    if b then (taken.Envelope (k.part ++ f.payload), record k { wanted = k.wanted + 1; part = []; owes = true })
    else (taken.Part, record k { wanted = k.wanted + 1; part = k.part ++ f.payload; owes = true })

abbrev pub data_by : Bool → Bool → Frame → Link → Taken × Link
data_by b c f k = if b then (taken.Old, record k { owes = true }) else if c then (taken.Ahead, record k { owes = true }) else wanted_by f.last f k

abbrev pub good_by : Bool → Frame → Link → Taken × Link
good_by b f l = if b then take_data f (acknowledge f.wanted l) else (taken.Acknowledged, acknowledge f.wanted l)

abbrev pub frame_by : Bool → Frame → Link → Taken × Link
frame_by b f l = if b then take_accepted f l else (taken.Noise, l)

never : (b : Bool) (f : Frame) (k : Link) → is_taken (wanted_by b f k).0 ≡ false → ⊥
never true f k e = true≢false e
never false f k e = true≢false e

data_little : (b c : Bool) (f : Frame) (l k : Link) → OnlyAcknowledges l k → is_taken (data_by b c f k).0 ≡ false → OnlyAcknowledges l (data_by b c f k).1
data_little true c f l k a e = owing l k a
data_little false true f l k a e = owing l k a
data_little false false f l k a e = absurd (never f.last f k e)

good_little : (b : Bool) (f : Frame) (l : Link) → is_taken (good_by b f l).0 ≡ false → OnlyAcknowledges l (good_by b f l).1
good_little true f l e =
    data_little (nat_lt f.number (acknowledge f.wanted l).wanted) (nat_lt (acknowledge f.wanted l).wanted f.number) f l (acknowledge f.wanted l)
    (only f.wanted l (acknowledge f.wanted l) (acknowledges f.wanted l)) e
good_little false f l e = only f.wanted l (acknowledge f.wanted l) (acknowledges f.wanted l)

frame_little : (b : Bool) (f : Frame) (l : Link) → is_taken (frame_by b f l).0 ≡ false → OnlyAcknowledges l (frame_by b f l).1
frame_little true f l e = good_little f.is_data f l e
frame_little false f l e = none l

frame : (o : Option Frame) (l : Link) → is_taken (take_frame o l).0 ≡ false → OnlyAcknowledges l (take_frame o l).1
frame None l e = none l
frame (Some f) l e = frame_little (is_for f l && not (is_too_much f l)) f l e

pub change_little : UnwantedFramesChangeLittle
unfolding take_bytes
change_little bytes l e = frame (frame_of bytes) l e
