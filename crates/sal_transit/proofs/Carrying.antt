-- One direction of a link, whatever happens at its two ends.
use Rattle.std.proofs.Common.{◌≡◌, ℕ, suc, ◌+◌, ◌-◌, ◌≤◌, Bool, true, false, List, [], ◌∷◌, ◌++◌, map, length, take, Option, refl, sym, ap, subst, ◌∙◌, arith, append-nil, length-append, length-drop}
use Rattle.std.specs.Prelude.{if◌then◌else◌}
use Rattle.std.proofs.lemmas.Bool.{leb-true}
use Rattle.std.proofs.lemmas.Bool.Decides.{nat_tests}
use Rattle.std.proofs.lemmas.List.{length-map, length-take}
use Rattle.std.proofs.lemmas.List.Elements.{All-append, All-take, All-drop}
use Rattle.sal_carriage.specs.declared.fragment.Fragment.{Fragment}
use Rattle.sal_carriage.specs.Fragments.{Fits, AllFit}
use Rattle.sal_carriage.specs.Frames.{Frame, frame_bytes, is_frame, frame_of}
use Rattle.sal_carriage.specs.Link.{Link, new_link, window, number_limit, fragment_count, fragments, offer_count, has_room, offer, is_due, data_frame, acknowledgement, due_data, or_acknowledgement, due, push, take_frame, take_bytes}
use Rattle.sal_carriage.specs.Transit.{in_transit, envelopes_of, open_end}
use Rattle.sal_carriage.specs.Laws.{load_of, envelope_of, HasOffered, WereSent, Crosses}
use Rattle.sal_carriage.specs.Exchange.{IsPacket, ArePackets}
use Rattle.sal_carriage.proofs.Crossing.{honest_crosses}
use Rattle.sal_carriage.proofs.Cutting.{fragments_fit}
use Rattle.sal_carriage.proofs.Honesty.{advances, data_send, stay_honest}
use Rattle.sal_carriage.proofs.Marking.{marks_fit}
use Rattle.sal_carriage.proofs.Offering.{offers_last}
use Rattle.sal_carriage.proofs.Offers.{fragments_length}
use Rattle.sal_carriage.proofs.Pushing.{change_nothing}
use Rattle.sal_carriage.proofs.Reading.{read_again}
use Rattle.sal_transit.specs.Standing.{Carries}

abbrev Load : Type 0
Load = List ℕ × Bool

-- ---- packets

packets_grow : (all more : List Load) (s t : Link) → s.wanted ≤ t.wanted → (ps : List (List ℕ)) → ArePackets all s ps → ArePackets (all ++ more) t ps
packets_grow all more s t up [] h = tt
packets_grow all more s t up (p ∷ ps) h =
    (record { frame = h.0.frame; reads = h.0.reads; honest = stay_honest.later all more s t h.0.frame up h.0.honest }, packets_grow all more s t up ps h.1)

packets_stay : (all : List Load) (s t : Link) → s.wanted ≤ t.wanted → (ps : List (List ℕ)) → ArePackets all s ps → ArePackets all t ps
packets_stay all s t up ps h = subst (λ (xs : List Load). ArePackets xs t ps) (append-nil all) (packets_grow all [] s t up ps h)

packets_append : (all : List Load) (s : Link) (ps qs : List (List ℕ)) → ArePackets all s ps → ArePackets all s qs → ArePackets all s (ps ++ qs)
packets_append all s [] qs h k = k
packets_append all s (p ∷ ps) qs h k = (h.0, packets_append all s ps qs h.1 k)

data_is_frame : (s : Link) (n : ℕ) (f : Fragment) → length s.program ≡ 8 → Fits f → is_frame (data_frame s n f) ≡ true
data_is_frame s n f p fit = let low = fit.least in let high = fit.most in grind (arith, nat_tests)

data_packets : (all : List Load) (s : Link) (now n : ℕ) (fs : List Fragment) → length s.program ≡ 8 → s.wanted ≤ number_limit → n + length fs ≤ number_limit → AllFit fs
    → WereSent all s (due_data now s n fs) → ArePackets all s (map frame_bytes (due_data now s n fs))
unfolding due_data
data_packets all s now n [] p w room fit sent = tt
data_packets all s now n (f ∷ fs) p w room fit sent =
    at (is_due now f) (data_packets all s now (n + 1) fs p w (omega (arith, room)) (λ k d lt. fit (suc k) d (omega (arith, lt)))) sent
  where
    at : (b : Bool) → (WereSent all s (due_data now s (n + 1) fs) → ArePackets all s (map frame_bytes (due_data now s (n + 1) fs)))
        → WereSent all s ((if b then data_frame s n f ∷ [] else []) ++ due_data now s (n + 1) fs)
        → ArePackets all s (map frame_bytes ((if b then data_frame s n f ∷ [] else []) ++ due_data now s (n + 1) fs))
    at true more h = (
      record {
        frame = data_frame s n f;
        reads = read_again (data_frame s n f) (data_is_frame s n f p (fit 0 f (omega arith))) (omega (arith, room)) (omega (arith, w));
        honest = h.0;
      },
      more h.1,
    )
    at false more h = more h

or_packets : (all : List Load) (s : Link) (fs : List Frame) → length s.program ≡ 8 → s.wanted ≤ number_limit → WereSent all s (or_acknowledgement s fs) → ArePackets all s (map frame_bytes fs)
    → ArePackets all s (map frame_bytes (or_acknowledgement s fs))
or_packets all s [] p w sent h = at s.owes sent
  where
    at : (b : Bool) → WereSent all s (if b then acknowledgement s ∷ [] else []) → ArePackets all s (map frame_bytes (if b then acknowledgement s ∷ [] else []))
    at true k = (record { frame = acknowledgement s; reads = read_again (acknowledgement s) (grind (arith, nat_tests)) (omega arith) (omega (arith, w)); honest = k.0 }, tt)
    at false k = tt
or_packets all s (f ∷ fs) p w sent h = h

count_is : (all : List Load) (s : Link) → HasOffered all s → offer_count s ≡ length all
count_is all s h =
    let long : length s.unacknowledged ≡ length all - s.acknowledged = sym (length-map s.unacknowledged load_of) ∙ ap length h.rest ∙ length-drop s.acknowledged all in
    omega (arith, long, h.known)

due_packets : (all : List Load) (s : Link) (now : ℕ) → HasOffered all s → length s.program ≡ 8 → s.wanted ≤ number_limit → length all ≤ number_limit → AllFit s.unacknowledged
    → ArePackets all s (map frame_bytes (due now s))
unfolding due
due_packets all s now h p w room fit =
    let fs : List Fragment = take window s.unacknowledged in
    or_packets all s (due_data now s s.acknowledged fs) p w (stay_honest.pushes all s now h).1
    (data_packets all s now s.acknowledged fs p w (omega (arith, count_is all s h, room, length-take 32 s.unacknowledged)) (All-take Fits 32 s.unacknowledged fit) (data_send all s now h))

-- ---- a new link

pub new_carries : (program : List ℕ) (a b : ℕ) → length program ≡ 8 → Carries [] (new_link program a b) (new_link program b a)
unfolding in_transit envelopes_of open_end
new_carries program a b long = record {
  all = [];
  offered = stay_honest.new program a b;
  room = omega arith;
  fit = λ k d lt. absurd (omega (arith, lt));
  program = long;
  packets = tt;
  step = record { peers = record { program = refl; there = refl; here = refl }; taken = omega arith; offered = omega arith };
  whole = refl;
}

-- ---- offers

pub offer_carries : (sent : List (List ℕ)) (s r : Link) (e : List ℕ) → 1 ≤ length e → has_room e s ≡ true → Carries sent s r → Carries sent (offer e s) r
unfolding offer
offer_carries sent s r e some room h =
    let more : List Load = map load_of (fragments e) in
    let g = offers_last s r e h.step h.whole some in
    let fits = leb-true (offer_count s + fragment_count e) number_limit room in
    record {
      all = h.all ++ more;
      offered = stay_honest.offers h.all s e h.offered;
      room = omega (arith, fits, count_is h.all s h.offered, length-append h.all more, length-map (fragments e) load_of, fragments_length e);
      fit = All-append Fits s.unacknowledged (fragments e) h.fit (fragments_fit e some);
      program = h.program;
      packets = packets_grow h.all more s (offer e s) (omega arith) sent h.packets;
      step = g.there;
      whole = g.whole;
    }

pub offer_back : (sent : List (List ℕ)) (s r : Link) (e : List ℕ) → Carries sent s r → Carries sent s (offer e r)
unfolding offer in_transit
offer_back sent s r e h = record {
  all = h.all;
  offered = h.offered;
  room = h.room;
  fit = h.fit;
  program = h.program;
  packets = h.packets;
  step = record { peers = record { program = h.step.peers.program; there = h.step.peers.there; here = h.step.peers.here }; taken = h.step.taken; offered = h.step.offered };
  whole = h.whole;
}

-- ---- pushes

-- what the receiver took is no more than may be offered
wanted_low : (sent : List (List ℕ)) (s r : Link) → Carries sent s r → r.wanted ≤ number_limit
wanted_low sent s r h = let up = h.step.offered in omega (arith, up, count_is h.all s h.offered, h.room)

pub push_carries : (sent back : List (List ℕ)) (s r : Link) (now : ℕ) (pick : List (List ℕ)) → Carries back r s → (h : Carries sent s r)
    → (ArePackets h.all s (map frame_bytes (due now s)) → ArePackets h.all s pick) → Carries (sent ++ pick) (push now s) r
unfolding push
push_carries sent back s r now pick b h picked =
    let g = change_nothing s r now h.step in
    record {
      all = h.all;
      offered = (stay_honest.pushes h.all s now h.offered).0;
      room = h.room;
      fit = marks_fit 32 now s.unacknowledged h.fit;
      program = h.program;
      packets = packets_stay h.all s (push now s) (omega arith) (sent ++ pick)
          (packets_append h.all s sent pick h.packets (picked (due_packets h.all s now h.offered h.program (wanted_low back r s b) h.room h.fit)));
      step = g.there;
      whole = g.whole h.whole;
    }

pub push_back : (sent : List (List ℕ)) (s r : Link) (now : ℕ) → Carries sent s r → Carries sent s (push now r)
unfolding push
push_back sent s r now h = record {
  all = h.all;
  offered = h.offered;
  room = h.room;
  fit = h.fit;
  program = h.program;
  packets = h.packets;
  step = record { peers = record { program = h.step.peers.program; there = h.step.peers.there; here = h.step.peers.here }; taken = h.step.taken; offered = h.step.offered };
  whole = h.whole;
}

-- ---- taking

module _ (sent back : List (List ℕ)) (s r : Link) (h : Carries sent s r) (g : Carries back r s) (bytes : List ℕ) (p : IsPacket h.all s bytes) where
  pub bytes_cross : Crosses s r (take_bytes bytes r).1 (envelope_of (take_bytes bytes r).0)
  unfolding take_bytes
  bytes_cross =
      subst (λ (o : Option Frame). Crosses s r (take_frame o r).1 (envelope_of (take_frame o r).0)) (sym p.reads)
      (honest_crosses s r p.frame h.step g.step (stay_honest.honest h.all s r p.frame h.offered h.step p.honest))

  pub take_carries : Carries sent s (take_bytes bytes r).1
  take_carries = record {
    all = h.all;
    offered = h.offered;
    room = h.room;
    fit = h.fit;
    program = h.program;
    packets = h.packets;
    step = bytes_cross.there;
    whole = bytes_cross.whole h.whole;
  }

  pub take_fits : AllFit (take_bytes bytes r).1.unacknowledged
  unfolding take_bytes
  take_fits = let a = advances (frame_of bytes) r in subst AllFit (sym a.unacknowledged) (All-drop Fits a.count r.unacknowledged g.fit)

  pub take_back : Carries back (take_bytes bytes r).1 s
  take_back =
      let takes = stay_honest.takes g.all r bytes g.offered in
      record {
        all = g.all;
        offered = takes.0;
        room = g.room;
        fit = take_fits;
        program = ap length (sym bytes_cross.there.peers.program) ∙ h.program;
        packets = packets_stay g.all r (take_bytes bytes r).1 takes.1 back g.packets;
        step = bytes_cross.back;
        whole = bytes_cross.other_whole g.whole;
      }
