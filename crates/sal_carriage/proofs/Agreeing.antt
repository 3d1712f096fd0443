-- What two sides keep, whatever happens.
use Rattle.std.proofs.Common.{◌≡◌, ℕ, zero, suc, ◌+◌, ◌-◌, ◌^◌, ◌<◌, ◌≤◌, Bool, true, false, ◌&&◌, List, [], ◌∷◌, ◌++◌, map, length, take, drop, Option, Some, None, refl, sym, ap, subst, ◌∙◌, arith, append_assoc, append-nil, length-append, length-drop}
use Rattle.std.specs.Prelude.{if◌then◌else◌, nat_le, nat_eq, slice_get}
use Rattle.std.proofs.lemmas.Bool.{and_parts, leb-true}
use Rattle.std.proofs.lemmas.Bool.Decides.{nat_tests}
use Rattle.std.proofs.lemmas.List.{length-map, length-take}
use Rattle.std.proofs.lemmas.List.Elements.{All-append, All-take, All-drop}
use Rattle.sal_carriage.specs.declared.fragment.Fragment.{Fragment}
use Rattle.sal_carriage.specs.Fragments.{Fits, AllFit}
use Rattle.sal_carriage.specs.Frames.{Frame, frame_bytes, is_frame, frame_of}
use Rattle.sal_carriage.specs.Link.{Link, new_link, window, number_limit, envelope_limit, fragment_count, fragments, offer_count, has_room, offer, is_due, data_frame, acknowledgement, if_due, due_data, or_acknowledgement, due, push, take_frame, take_bytes, is_empty, is_acknowledged}
use Rattle.sal_carriage.specs.Transit.{envelopes_of, open_end, left_to_take, in_transit, IsWhole, IsInStep}
use Rattle.sal_carriage.specs.Laws.{load_of, envelope_of, HasOffered, WasSent, WereSent, Crosses}
use Rattle.sal_carriage.specs.Exchange.{Side, Happening, Offers, Sends, Takes, is_taken_in, take_packet, side_after, step, after, new_side, new_sides, InOrder, loads, IsPacket, ArePackets, IsHonestSide, KeepsOrder, LinksKeepOrder}
use Rattle.sal_carriage.proofs.Crossing.{honest_crosses}
use Rattle.sal_carriage.proofs.Cutting.{fragments_fit}
use Rattle.sal_carriage.proofs.Due.{some_apart, some_same}
use Rattle.sal_carriage.proofs.Honesty.{Advances, advances, data_send, stay_honest}
use Rattle.sal_carriage.proofs.Marking.{marks_fit}
use Rattle.sal_carriage.proofs.Offering.{offers_last}
use Rattle.sal_carriage.proofs.Offers.{fragments_length}
use Rattle.sal_carriage.proofs.Pushing.{change_nothing}
use Rattle.sal_carriage.proofs.Reading.{read_again}

abbrev Load : Type 0
Load = List ℕ × Bool

-- ---- packets

packets_grow : (all more : List Load) (s t : Link) → s.wanted ≤ t.wanted → (ps : List (List ℕ)) → ArePackets all s ps → ArePackets (all ++ more) t ps
packets_grow all more s t up [] h = tt
packets_grow all more s t up (p ∷ ps) h =
    (record { frame = h.0.frame; reads = h.0.reads; honest = stay_honest.later all more s t h.0.frame up h.0.honest }, packets_grow all more s t up ps h.1)

packets_stay : (all : List Load) (s t : Link) → s.wanted ≤ t.wanted → (ps : List (List ℕ)) → ArePackets all s ps → ArePackets all t ps
packets_stay all s t up ps h = subst (λ (xs : List Load). ArePackets xs t ps) (append-nil all) (packets_grow all [] s t up ps h)

packets_append : (all : List Load) (s : Link) (ps qs : List (List ℕ)) → ArePackets all s ps → ArePackets all s qs → ArePackets all s (ps ++ qs)
packets_append all s [] qs h k = k
packets_append all s (p ∷ ps) qs h k = (h.0, packets_append all s ps qs h.1 k)

packet_at : (all : List Load) (s : Link) (ps : List (List ℕ)) (k : ℕ) (bytes : List ℕ) → ArePackets all s ps → slice_get ps k ≡ Some bytes → IsPacket all s bytes
packet_at all s [] k bytes h e = some_apart e
packet_at all s (p ∷ ps) zero bytes h e = subst (IsPacket all s) (some_same e) h.0
packet_at all s (p ∷ ps) (suc k) bytes h e = packet_at all s ps k bytes h.1 e

data_is_frame : (s : Link) (n : ℕ) (f : Fragment) → length s.program ≡ 8 → Fits f → is_frame (data_frame s n f) ≡ true
data_is_frame s n f p fit = let low = fit.least in let high = fit.most in grind (arith, nat_tests)

data_packets : (all : List Load) (s : Link) (now n : ℕ) (fs : List Fragment) → length s.program ≡ 8 → s.wanted ≤ number_limit → n + length fs ≤ number_limit → AllFit fs
    → WereSent all s (due_data now s n fs) → ArePackets all s (map frame_bytes (due_data now s n fs))
unfolding due_data
data_packets all s now n [] p w room fit sent = tt
data_packets all s now n (f ∷ fs) p w room fit sent =
    at (is_due now f) (data_packets all s now (n + 1) fs p w (omega (arith, room)) (λ k d lt. fit (suc k) d (omega (arith, lt)))) sent
  where
    at : (b : Bool) → (WereSent all s (due_data now s (n + 1) fs) → ArePackets all s (map frame_bytes (due_data now s (n + 1) fs)))
        → WereSent all s ((if b then data_frame s n f ∷ [] else []) ++ due_data now s (n + 1) fs)
        → ArePackets all s (map frame_bytes ((if b then data_frame s n f ∷ [] else []) ++ due_data now s (n + 1) fs))
    at true more h = (
      record {
        frame = data_frame s n f;
        reads = read_again (data_frame s n f) (data_is_frame s n f p (fit 0 f (omega arith))) (omega (arith, room)) (omega (arith, w));
        honest = h.0;
      },
      more h.1,
    )
    at false more h = more h

or_packets : (all : List Load) (s : Link) (fs : List Frame) → length s.program ≡ 8 → s.wanted ≤ number_limit → WereSent all s (or_acknowledgement s fs) → ArePackets all s (map frame_bytes fs)
    → ArePackets all s (map frame_bytes (or_acknowledgement s fs))
or_packets all s [] p w sent h = at s.owes sent
  where
    at : (b : Bool) → WereSent all s (if b then acknowledgement s ∷ [] else []) → ArePackets all s (map frame_bytes (if b then acknowledgement s ∷ [] else []))
    at true k = (record { frame = acknowledgement s; reads = read_again (acknowledgement s) (grind (arith, nat_tests)) (omega arith) (omega (arith, w)); honest = k.0 }, tt)
    at false k = tt
or_packets all s (f ∷ fs) p w sent h = h

count_is : (all : List Load) (s : Link) → HasOffered all s → offer_count s ≡ length all
count_is all s h =
    let long : length s.unacknowledged ≡ length all - s.acknowledged = sym (length-map s.unacknowledged load_of) ∙ ap length h.rest ∙ length-drop s.acknowledged all in
    omega (arith, long, h.known)

due_packets : (all : List Load) (s : Link) (now : ℕ) → HasOffered all s → length s.program ≡ 8 → s.wanted ≤ number_limit → length all ≤ number_limit → AllFit s.unacknowledged
    → ArePackets all s (map frame_bytes (due now s))
unfolding due
due_packets all s now h p w room fit =
    let fs : List Fragment = take window s.unacknowledged in
    or_packets all s (due_data now s s.acknowledged fs) p w (stay_honest.pushes all s now h).1
    (data_packets all s now s.acknowledged fs p w (omega (arith, count_is all s h, room, length-take 32 s.unacknowledged)) (All-take Fits 32 s.unacknowledged fit) (data_send all s now h))

-- ---- what two sides keep

record Sound (s : Side) : Type 0 where
  has : HasOffered (loads s.offers) s.link
  packets : IsHonestSide s
  program : length s.link.program ≡ 8
  room : length (loads s.offers) ≤ number_limit
  fit : AllFit s.link.unacknowledged

record Agrees (s r : Side) : Type 0 where
  step : IsInStep s.link r.link
  whole : IsWhole s.link r.link
  offers : s.offers ≡ r.outputs ++ in_transit s.link r.link

record Both (a b : Side) : Type 0 where
  there : Agrees a b
  back : Agrees b a
  first : Sound a
  second : Sound b

swap : (a b : Side) → Both a b → Both b a
swap a b h = record { there = h.back; back = h.there; first = h.second; second = h.first }

-- ---- offers

loads_more : (es : List (List ℕ)) (e : List ℕ) → loads (es ++ e ∷ []) ≡ loads es ++ map load_of (fragments e)
loads_more [] e = append-nil (map load_of (fragments e))
loads_more (x ∷ es) e = ap (λ (z : List Load). map load_of (fragments x) ++ z) (loads_more es e) ∙ sym (append_assoc (map load_of (fragments x)) (loads es) (map load_of (fragments e)))

abbrev with_offer : List ℕ → Side → Side
with_offer e a = record a { link = offer e a.link; offers = a.offers ++ e ∷ [] }

sound_offer : (a : Side) (e : List ℕ) → 1 ≤ length e → has_room e a.link ≡ true → Sound a → Sound (with_offer e a)
unfolding offer
sound_offer a e some room h =
    let all : List Load = loads a.offers in
    let more : List Load = map load_of (fragments e) in
    let back = sym (loads_more a.offers e) in
    let fits = leb-true (offer_count a.link + fragment_count e) number_limit room in
    record {
      has = subst (λ (xs : List Load). HasOffered xs (offer e a.link)) back (stay_honest.offers all a.link e h.has);
      packets = subst (λ (xs : List Load). ArePackets xs (offer e a.link) a.packets) back (packets_grow all more a.link (offer e a.link) (omega arith) a.packets h.packets);
      program = h.program;
      room = omega
          (arith, fits, count_is all a.link h.has, ap length (loads_more a.offers e), length-append all more, length-map (fragments e) load_of, fragments_length e);
      fit = All-append Fits a.link.unacknowledged (fragments e) h.fit (fragments_fit e some);
    }

after_offer : (a b : Side) (e : List ℕ) → 1 ≤ length e → has_room e a.link ≡ true → Both a b → Both (with_offer e a) b
unfolding offer in_transit
after_offer a b e some room h =
    let g = offers_last a.link b.link e h.there.step h.there.whole some in
    let s = h.back.step in
    record {
      there = record {
        step = g.there;
        whole = g.whole;
        offers = ap (λ (z : List (List ℕ)). z ++ e ∷ []) h.there.offers ∙ append_assoc b.outputs (in_transit a.link b.link) (e ∷ []) ∙ ap (λ (z : List (List ℕ)). b.outputs ++ z) (sym g.carried);
      };
      back = record {
        step = record { peers = record { program = s.peers.program; there = s.peers.there; here = s.peers.here }; taken = s.taken; offered = s.offered };
        whole = h.back.whole;
        offers = h.back.offers;
      };
      first = sound_offer a e some room h.first;
      second = h.second;
    }

-- ---- sending

abbrev with_push : ℕ → Side → Side
with_push now a = record a { link = push now a.link; packets = a.packets ++ map frame_bytes (due now a.link) }

wanted_low : (a b : Side) → Both a b → a.link.wanted ≤ number_limit
wanted_low a b h = let up = h.back.step.offered in omega (arith, up, count_is (loads b.offers) b.link h.second.has, h.second.room)

sound_push : (a b : Side) (now : ℕ) → Both a b → Sound (with_push now a)
unfolding push
sound_push a b now h =
    let all : List Load = loads a.offers in
    let s = h.first in
    record {
      has = (stay_honest.pushes all a.link now s.has).0;
      packets = packets_append all (push now a.link) a.packets (map frame_bytes (due now a.link)) (packets_stay all a.link (push now a.link) (omega arith) a.packets s.packets)
          (packets_stay all a.link (push now a.link) (omega arith) (map frame_bytes (due now a.link)) (due_packets all a.link now s.has s.program (wanted_low a b h) s.room s.fit));
      program = s.program;
      room = s.room;
      fit = marks_fit 32 now a.link.unacknowledged s.fit;
    }

after_push : (a b : Side) (now : ℕ) → Both a b → Both (with_push now a) b
unfolding push
after_push a b now h =
    let g = change_nothing a.link b.link now h.there.step in
    record {
      there = record {
        step = g.there;
        whole = g.whole h.there.whole;
        offers = h.there.offers ∙ ap (λ (z : List (List ℕ)). b.outputs ++ z) (sym g.carried);
      };
      back = record {
        step = g.back h.back.step;
        whole = h.back.whole;
        offers = h.back.offers ∙ ap (λ (z : List (List ℕ)). a.outputs ++ z) (sym g.other);
      };
      first = sound_push a b now h;
      second = h.second;
    }

-- ---- taking

abbrev with_bytes : List ℕ → Side → Side
with_bytes bytes a = record a { link = (take_bytes bytes a.link).1; outputs = a.outputs ++ envelope_of (take_bytes bytes a.link).0 }

takes_fit : (bytes : List ℕ) (l : Link) → AllFit l.unacknowledged → AllFit (take_bytes bytes l).1.unacknowledged
unfolding take_bytes
takes_fit bytes l h =
    let a = advances (frame_of bytes) l in
    subst AllFit (sym a.unacknowledged) (All-drop Fits a.count l.unacknowledged h)

bytes_cross : (a b : Side) (bytes : List ℕ) (f : Frame) → frame_of bytes ≡ Some f → Both a b → WasSent (loads b.offers) b.link f
    → Crosses b.link a.link (take_bytes bytes a.link).1 (envelope_of (take_bytes bytes a.link).0)
unfolding take_bytes
bytes_cross a b bytes f reads h sent =
    subst (λ (o : Option Frame). Crosses b.link a.link (take_frame o a.link).1 (envelope_of (take_frame o a.link).0)) (sym reads)
    (honest_crosses b.link a.link f h.back.step h.there.step (stay_honest.honest (loads b.offers) b.link a.link f h.second.has h.back.step sent))

after_bytes : (a b : Side) (bytes : List ℕ) → IsPacket (loads b.offers) b.link bytes → Both a b → Both (with_bytes bytes a) b
after_bytes a b bytes p h =
    let c = bytes_cross a b bytes p.frame p.reads h p.honest in
    let all : List Load = loads a.offers in
    let new : Link = (take_bytes bytes a.link).1 in
    let out : List (List ℕ) = envelope_of (take_bytes bytes a.link).0 in
    let takes = stay_honest.takes all a.link bytes h.first.has in
    record {
      there = record {
        step = c.back;
        whole = c.other_whole h.there.whole;
        offers = h.there.offers ∙ ap (λ (z : List (List ℕ)). b.outputs ++ z) (sym c.other);
      };
      back = record {
        step = c.there;
        whole = c.whole h.back.whole;
        offers = h.back.offers ∙ ap (λ (z : List (List ℕ)). a.outputs ++ z) c.carried ∙ sym (append_assoc a.outputs out (in_transit b.link new));
      };
      first = record {
        has = takes.0;
        packets = packets_stay all a.link new takes.1 a.packets h.first.packets;
        program = ap length (sym c.there.peers.program) ∙ h.second.program;
        room = h.first.room;
        fit = takes_fit bytes a.link h.first.fit;
      };
      second = h.second;
    }

-- ---- whatever happens

one_keeps : (e : Happening) (a b : Side) → Both a b → Both (side_after e a b) b
one_keeps (Offers envelope) a b h = at (is_taken_in envelope a.link) refl
  where
    at : (c : Bool) → is_taken_in envelope a.link ≡ c → Both (if c then with_offer envelope a else a) b
    at true t =
        let p = and_parts (nat_le 1 (length envelope)) (nat_le (length envelope) envelope_limit && has_room envelope a.link) t in
        let q = and_parts (nat_le (length envelope) envelope_limit) (has_room envelope a.link) p.1 in
        after_offer a b envelope (leb-true 1 (length envelope) p.0) q.1 h
    at false t = h
one_keeps (Sends now) a b h = after_push a b now h
one_keeps (Takes number) a b h = at (slice_get b.packets number) refl
  where
    at : (o : Option (List ℕ)) → slice_get b.packets number ≡ o → Both (take_packet o a) b
    at None e = h
    at (Some bytes) e = after_bytes a b bytes (packet_at (loads b.offers) b.link b.packets number bytes h.second.packets e) h

step_keeps : (c : Bool) (e : Happening) (sides : Side × Side) → Both sides.0 sides.1 → Both (step (c, e) sides).0 (step (c, e) sides).1
step_keeps true e sides h = one_keeps e sides.0 sides.1 h
step_keeps false e sides h = swap (side_after e sides.1 sides.0) sides.0 (one_keeps e sides.1 sides.0 (swap sides.0 sides.1 h))

all_keep : (events : List (Bool × Happening)) (sides : Side × Side) → Both sides.0 sides.1 → Both (after events sides).0 (after events sides).1
all_keep [] sides h = h
all_keep (event ∷ events) sides h = all_keep events (step event sides) (step_keeps event.0 event.1 sides h)

sound_new : (program : List ℕ) (a b : ℕ) → length program ≡ 8 → Sound (new_side program a b)
sound_new program a b long = record { has = stay_honest.new program a b; packets = tt; program = long; room = omega arith; fit = λ k d lt. absurd (omega (arith, lt)) }

agrees_new : (program : List ℕ) (a b : ℕ) → Agrees (new_side program a b) (new_side program b a)
unfolding in_transit envelopes_of open_end
agrees_new program a b = record {
  step = record { peers = record { program = refl; there = refl; here = refl }; taken = omega arith; offered = omega arith };
  whole = refl;
  offers = refl;
}

-- ---- the law

none_left : (s r : Link) → is_acknowledged s ≡ true → in_transit s r ≡ []
unfolding in_transit envelopes_of
none_left s r e = at s.unacknowledged e
  where
    none : (n : ℕ) → drop {A = Fragment} n [] ≡ []
    none zero = refl
    none (suc n) = refl

    at : (fs : List Fragment) → is_empty fs ≡ true → envelopes_of r.part (drop (r.wanted - s.acknowledged) fs) ≡ []
    at [] t = ap (envelopes_of r.part) (none (r.wanted - s.acknowledged))
    at (f ∷ fs) t = absurd cc

in_order : (s r : Side) → Agrees s r → InOrder s r
in_order s r h = record {
  left = in_transit s.link r.link;
  prefix = h.offers;
  whole = λ t. sym (h.offers ∙ ap (λ (z : List (List ℕ)). r.outputs ++ z) (none_left s.link r.link t) ∙ append-nil r.outputs);
}

pub keep_order : LinksKeepOrder
keep_order program a b events long =
    let h = all_keep events (new_sides program a b) (record { there = agrees_new program a b; back = agrees_new program b a; first = sound_new program a b long; second = sound_new program b a long }) in
    record { there = in_order _ _ h.there; back = in_order _ _ h.back; first = h.first.packets; second = h.second.packets }
