-- A datagram that was sent arrives.
use Rattle.std.proofs.Common.{◌≡◌, ℕ, zero, suc, ◌+◌, Bool, true, false, cond, List, [], ◌∷◌, ◌++◌, map, filter, Option, Some, None, refl, sym, ap, subst, subst₂, ◌∙◌, arith}
use Rattle.std.specs.Prelude.{nat_eq, slice_get}
use Rattle.std.proofs.lemmas.Bool.{and_from, eq-eqb}
use Rattle.sal_source.specs.Table.{total}
use Rattle.sal_source.proofs.Same.{total-append}
use Rattle.sal_mail.specs.declared.plan.Plan.{Plan}
use Rattle.sal_envelope.specs.Decoding.{decoded_envelope}
use Rattle.sal_carriage.specs.declared.datagram.Datagram.{Datagram}
use Rattle.sal_carriage.specs.declared.datagram.Taken.{Taken}
use Rattle.sal_carriage.specs.declared.datagram.Taken.TheVariants as taken
use Rattle.sal_carriage.specs.Link.{Link, take_bytes}
use Rattle.sal_carriage.specs.Transit.{in_transit}
use Rattle.sal_carriage.specs.Laws.{envelope_of}
use Rattle.sal_carriage.specs.Exchange.{IsPacket, ArePackets}
use Rattle.sal_carriage.proofs.Due.{some_apart, some_same}
use Rattle.sal_node.specs.Links.{sender_of, take_from, take_datagram}
use Rattle.sal_world.specs.World.{letter_by, letters_to, link_to}
use Rattle.sal_transit.specs.Standing.{Ends, is_between, sent_between, NetStands}
use Rattle.sal_transit.specs.Letters.{letters_on, letters_of, with_links, Delivers, DeliveriesTakeLetters}
use Rattle.sal_transit.proofs.Changing.{took, took_none}
use Rattle.sal_transit.proofs.Carrying.{bytes_cross, take_carries, take_back}
use Rattle.sal_transit.proofs.Net.{peers_are, peers_swap, found_peers, peers_found, net_stands, to_total}
use Rattle.sal_transit.proofs.Offering.{filter_append, put_same}

packet_in : (all : List (List ℕ × Bool)) (s : Link) (a b : ℕ) (ds : List Datagram) (i : ℕ) (d : Datagram) → ArePackets all s (sent_between a b ds)
    → slice_get ds i ≡ Some d → is_between a b d ≡ true → IsPacket all s d.bytes
packet_in all s a b [] i d h e is = some_apart e
packet_in all s a b (x ∷ ds) zero d h e is =
    let same : x ≡ d = some_same e in
    let front : ArePackets all s (map (λ z. z.bytes) (cond true (x ∷ filter (is_between a b) ds) (filter (is_between a b) ds))) =
    subst (λ t. ArePackets all s (map (λ z. z.bytes) (cond t (x ∷ filter (is_between a b) ds) (filter (is_between a b) ds)))) (ap (is_between a b) same ∙ is) h in
    subst (λ (z : Datagram). IsPacket all s z.bytes) same front.0
packet_in all s a b (x ∷ ds) (suc i) d h e is = packet_in all s a b ds i d (rest (is_between a b x) h) e is
  where
    rest : (t : Bool) → ArePackets all s (map (λ z. z.bytes) (cond t (x ∷ filter (is_between a b) ds) (filter (is_between a b) ds))) → ArePackets all s (sent_between a b ds)
    rest true g = g.1
    rest false g = g

-- no link is the sender's
none_taken : (plan : Plan) (ds : List Datagram) (ends : Ends) (n : ℕ) (bytes : List ℕ) → NetStands plan ds ends → Delivers plan ds ends n bytes taken.Noise (ends n)
none_taken plan ds ends n bytes stands =
    let same : with_links n (ends n) ends ≡ ends = λ i m. put_same n ends m i in
    record {
      stands = subst (NetStands plan ds) (sym same) stands;
      letters = record { weighs = λ f. ap (λ z. total f (letters_on plan z)) (sym same) };
      first = refl;
    }

module _ (plan : Plan) (ds : List Datagram) (ends : Ends) (i : ℕ) (d : Datagram) (stands : NetStands plan ds ends) (sent : slice_get ds i ≡ Some d) where
  abbrev n : ℕ
  n = d.to

  abbrev a : ℕ
  a = sender_of d.bytes

  one_taken : (r : Link) → link_to a (ends n) ≡ Some r → Delivers plan ds ends n d.bytes (take_from a d.bytes (ends n)).taken (take_from a d.bytes (ends n)).links
  one_taken r here =
      let peers = found_peers plan ds ends stands n a r here in
      let p = peers_are n a plan peers in
      let s = peers_found plan ds ends stands a n (peers_swap n a plan peers) in
      let there = stands.carry a n s.0 r s.1 here in
      let back = stands.carry n a r s.0 here s.1 in
      let packet = packet_in there.all s.0 a n ds i d there.packets sent (and_from (nat_eq d.to n) (nat_eq (sender_of d.bytes) a) (eq-eqb n n refl) (eq-eqb a a refl)) in
      let new : Link = (take_bytes d.bytes r).1 in
      let out : List (List ℕ) = envelope_of (take_bytes d.bytes r).0 in
      let cross = bytes_cross (sent_between a n ds) (sent_between n a ds) s.0 r there back d.bytes packet in
      let t = took a d.bytes r (ends n) (cross.back.peers.there ∙ sym back.step.peers.there) here in
      let links : List Link = (take_from a d.bytes (ends n)).links in
      let outs : letters_of n (envelope_of (take_from a d.bytes (ends n)).taken) ≡ letters_of n out = ap (λ (k : Taken). letters_of n (envelope_of k)) t.taken in
      let carried : letters_to n (Some s.0) (Some r) ≡ letters_of n out ++ letters_to n (Some s.0) (Some new) =
      ap (letters_of n) cross.carried ∙ filter_append (λ bytes. letter_by n (decoded_envelope bytes)) out (in_transit s.0 new) in
      record {
        stands = net_stands n a r new s.0 ends links t.links s.1 p.apart plan ds stands
            (take_back (sent_between a n ds) (sent_between n a ds) s.0 r there back d.bytes packet)
            (take_carries (sent_between a n ds) (sent_between n a ds) s.0 r there back d.bytes packet);
        letters = record {
          weighs = λ f.
              let sum = to_total n a r new s.0 ends links t.links s.1 p.apart f plan (peers_are a n plan (peers_swap n a plan peers)) (ap (letters_of a) cross.other) in
              let all = total-append f (letters_of n (envelope_of (take_from a d.bytes (ends n)).taken)) (letters_on plan (with_links n links ends)) in
              let read = ap (total f) carried in
              let apart = total-append f (letters_of n out) (letters_to n (Some s.0) (Some new)) in
              omega (arith, sum, all, read, apart, ap (total f) outs);
        };
        first = (λ i. letters_to n (s.1 i) (here i)) ∙ carried
            ∙ (λ i. sym outs i ++ letters_to n (sym s.1 i) (sym t.links.now i));
      }

  some_taken : (o : Option Link) → link_to a (ends n) ≡ o → Delivers plan ds ends n d.bytes (take_from a d.bytes (ends n)).taken (take_from a d.bytes (ends n)).links
  some_taken None e =
      let t = took_none a d.bytes (ends n) e in
      subst₂ (λ (k : Taken) (ls : List Link). Delivers plan ds ends n d.bytes k ls) (sym t.0) (sym t.1) (none_taken plan ds ends n d.bytes stands)
  some_taken (Some r) e = one_taken r e

pub take_letters : DeliveriesTakeLetters
unfolding take_datagram
take_letters plan ds ends i d stands sent = some_taken plan ds ends i d stands sent (link_to (sender_of d.bytes) (ends d.to)) refl
