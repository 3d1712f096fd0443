-- What a turn sent are letters once it is offered.
use Rattle.std.proofs.Common.{◌≡◌, ℕ, ◌+◌, Bool, true, false, List, [], ◌∷◌, ◌++◌, filter_map, option_and_then, Option, Some, None, refl, sym, ap, subst, ◌∙◌, arith, cond, append_assoc, append-nil, filter}
use Rattle.std.specs.Prelude.{if◌then◌else◌, nat_eq}
use Rattle.std.specs.List.{cons_option}
use Rattle.std.proofs.lemmas.Bool.{eqb-true, eq-eqb}
use Rattle.sal_source.specs.Table.{total}
use Rattle.sal_source.proofs.Same.{total-append}
use Rattle.sal_mail.specs.declared.plan.Plan.{Plan}
use Rattle.sal_envelope.specs.Decoding.{decoded_envelope}
use Rattle.sal_carriage.specs.declared.datagram.Datagram.{Datagram}
use Rattle.sal_carriage.specs.Link.{Link, offer}
use Rattle.sal_carriage.specs.Transit.{in_transit}
use Rattle.sal_carriage.proofs.Due.{some_apart, some_same}
use Rattle.sal_carriage.proofs.Offering.{offers_last}
use Rattle.sal_node.specs.declared.parcel.Parcel.{Parcel}
use Rattle.sal_node.specs.Links.{offer_to, offer_all}
use Rattle.sal_world.specs.World.{Letter, letter_by, letters_to, link_to}
use Rattle.sal_transit.specs.Standing.{are_peers, Ends, sent_between, NetStands}
use Rattle.sal_transit.specs.Letters.{letters_on, letters_of, with_links, StandsWith, IsOfferedBy, letters_of_parcels, letters_from, OffersBecomeLetters, OffersKeepOrder}
use Rattle.sal_transit.proofs.Changing.{flip, offered}
use Rattle.sal_transit.proofs.Carrying.{offer_carries, offer_back}
use Rattle.sal_transit.proofs.Net.{peers_are, peers_swap, peers_found, net_stands, from_total, now_there, old_there}

pub filter_append : {A B : Type 0} (h : A → Option B) (xs ys : List A) → filter_map h (xs ++ ys) ≡ filter_map h xs ++ filter_map h ys
filter_append {A} {B} h [] ys = refl
filter_append {A} {B} h (x ∷ xs) ys = at (h x) (filter_append h xs ys)
  where
    at : (o : Option B) → filter_map h (xs ++ ys) ≡ filter_map h xs ++ filter_map h ys → cons_option o (filter_map h (xs ++ ys)) ≡ cons_option o (filter_map h xs) ++ filter_map h ys
    at None e = e
    at (Some z) e = ap (λ zs. z ∷ zs) e

option_total : {B : Type 0} (f : B → ℕ) (o : Option B) (ys : List B) → total f (cons_option o ys) ≡ total f (cons_option o []) + total f ys
option_total f None ys = omega arith
option_total f (Some y) ys = omega arith

-- ---- the links of a node are put in their place

pub put_same : (n : ℕ) (ends : Ends) (m : ℕ) → with_links n (ends n) ends m ≡ ends m
put_same n ends m = at (nat_eq m n) refl
  where
    at : (t : Bool) → nat_eq m n ≡ t → (if t then ends n else ends m) ≡ ends m
    at true is = ap ends (sym (eqb-true m n is))
    at false is = refl

pub put_again : (n : ℕ) (ks ls : List Link) (ends : Ends) (m : ℕ) → with_links n ls (with_links n ks ends) m ≡ with_links n ls ends m
put_again n ks ls ends m = at (nat_eq m n)
  where
    at : (t : Bool) → (if t then ls else (if t then ks else ends m)) ≡ (if t then ls else ends m)
    at true = refl
    at false = refl

pub put_own : (n : ℕ) (ls : List Link) (ends : Ends) → with_links n ls ends n ≡ ls
put_own n ls ends = ap (λ t. if t then ls else ends n) (eq-eqb n n refl)

-- ---- one parcel

other_way : (n : ℕ) (m l : Link) (bytes : List ℕ) → letters_to n (Some m) (Some (offer bytes l)) ≡ letters_to n (Some m) (Some l)
unfolding offer in_transit
other_way n m l bytes = refl

one_offered : (plan : Plan) (ds : List Datagram) (ends : Ends) (n : ℕ) (p : Parcel) (links : List Link) → NetStands plan ds ends → IsOfferedBy n plan p
    → offer_to p.to p.bytes (ends n) ≡ Some links
    → NetStands plan ds (with_links n links ends)
    × ((f : Letter → ℕ) → total f (letters_on plan (with_links n links ends)) ≡ total f (letters_of p.to (p.bytes ∷ [])) + total f (letters_on plan ends))
one_offered plan ds ends n p links stands good e =
    let b : ℕ = p.to in
    let peers = peers_are n b plan good.peer in
    let l = peers_found plan ds ends stands n b good.peer in
    let m = peers_found plan ds ends stands b n (peers_swap n b plan good.peer) in
    let o = offered b p.bytes l.0 (ends n) links l.1 e in
    let there = stands.carry n b l.0 m.0 l.1 m.1 in
    let back = stands.carry b n m.0 l.0 m.1 l.1 in (
      net_stands n b l.0 (offer p.bytes l.0) m.0 ends links o.1 m.1 peers.apart plan ds stands
          (offer_carries (sent_between n b ds) l.0 m.0 p.bytes good.some o.0 there)
          (offer_back (sent_between b n ds) m.0 l.0 p.bytes back),
      λ f.
          let sum = from_total n b l.0 (offer p.bytes l.0) m.0 ends links o.1 m.1 peers.apart f plan peers (other_way n m.0 l.0 p.bytes) in
          let g = offers_last l.0 m.0 p.bytes there.step there.whole good.some in
          let read : letters_to b (Some (offer p.bytes l.0)) (Some m.0) ≡ letters_to b (Some l.0) (Some m.0) ++ letters_of b (p.bytes ∷ []) =
          ap (letters_of b) g.carried ∙ filter_append (λ bytes. letter_by b (decoded_envelope bytes)) (in_transit l.0 m.0) (p.bytes ∷ []) in
          let added = ap (total f) read in
          let apart = total-append f (letters_to b (Some l.0) (Some m.0)) (letters_of b (p.bytes ∷ [])) in
          omega (arith, sum, added, apart),
    )

-- ---- all of them

pub become_letters : OffersBecomeLetters
unfolding offer_all
become_letters plan ds ends n [] links stands good e =
    let same : with_links n links ends ≡ ends = λ i m. (ap (λ ls. with_links n ls ends m) (sym (some_same e)) ∙ put_same n ends m) i in
    record {
      stands = subst (NetStands plan ds) (sym same) stands;
      letters = record { weighs = λ f. ap (λ z. total f (letters_on plan z)) same };
    }
become_letters plan ds ends n (p ∷ ps) links stands good e = at (offer_to p.to p.bytes (ends n)) refl (λ ms s. become_letters plan ds (with_links n ms ends) n ps links s good.1) e
  where
    at : (o : Option (List Link)) → offer_to p.to p.bytes (ends n) ≡ o
        → ((ms : List Link) → NetStands plan ds (with_links n ms ends) → offer_all ps (with_links n ms ends n) ≡ Some links
        → StandsWith plan ds (with_links n links (with_links n ms ends)) (letters_of_parcels ps ++ letters_on plan (with_links n ms ends)))
        → option_and_then (offer_all ps) o ≡ Some links
        → StandsWith plan ds (with_links n links ends) (letters_of_parcels (p ∷ ps) ++ letters_on plan ends)
    at None s more f = some_apart f
    at (Some ms) s more f =
        let one = one_offered plan ds ends n p ms stands good.0 s in
        let rest = more ms one.0 (ap (offer_all ps) (put_own n ms ends) ∙ f) in
        let same : with_links n links (with_links n ms ends) ≡ with_links n links ends = λ i m. put_again n ms links ends m i in
        record {
          stands = subst (NetStands plan ds) same rest.stands;
          letters = record {
            weighs = λ g.
                let first = one.1 g in
                let later = rest.letters.weighs g in
                let there = total-append g (letters_of_parcels ps) (letters_on plan (with_links n ms ends)) in
                let all = total-append g (letters_of_parcels (p ∷ ps)) (letters_on plan ends) in
                let front = option_total g (letter_by p.to (decoded_envelope p.bytes)) (letters_of_parcels ps) in
                let kept = ap (λ z. total g (letters_on plan z)) same in
                omega (arith, first, later, there, all, front, kept);
          };
        }

-- ---- their order

one_in_order : (plan : Plan) (ds : List Datagram) (ends : Ends) (n : ℕ) (p : Parcel) (links : List Link) → NetStands plan ds ends → IsOfferedBy n plan p
    → offer_to p.to p.bytes (ends n) ≡ Some links
    → (letters_from (with_links n links ends) n p.to ≡ letters_from ends n p.to ++ letters_of p.to (p.bytes ∷ []))
    × ((b : ℕ) → nat_eq b p.to ≡ false → nat_eq n b ≡ false → letters_from (with_links n links ends) n b ≡ letters_from ends n b)
one_in_order plan ds ends n p links stands good e =
    let b : ℕ = p.to in
    let peers = peers_are n b plan good.peer in
    let l = peers_found plan ds ends stands n b good.peer in
    let m = peers_found plan ds ends stands b n (peers_swap n b plan good.peer) in
    let o = offered b p.bytes l.0 (ends n) links l.1 e in
    let there = stands.carry n b l.0 m.0 l.1 m.1 in
    let g = offers_last l.0 m.0 p.bytes there.step there.whole good.some in (
      now_there n b l.0 (offer p.bytes l.0) m.0 ends links o.1 m.1 peers.apart
          ∙ ap (letters_of b) g.carried
          ∙ filter_append (λ bytes. letter_by b (decoded_envelope bytes)) (in_transit l.0 m.0) (p.bytes ∷ [])
          ∙ ap (λ ls. ls ++ letters_of b (p.bytes ∷ [])) (sym (old_there n b l.0 (offer p.bytes l.0) m.0 ends links o.1 m.1 peers.apart)),
      λ c apart away. λ i. letters_to c ((ap (link_to c) (put_own n links ends) ∙ o.1.others c apart) i) (link_to n (if flip n c away i then links else ends c)),
    )

option_end : (o : Option Letter) (ls : List Letter) → cons_option o [] ++ ls ≡ cons_option o ls
option_end None ls = refl
option_end (Some l) ls = refl

pub keep_order : OffersKeepOrder
unfolding offer_all
keep_order plan ds ends n b [] links stands good peer e =
    (λ i. letters_from (λ m. (ap (λ ls. with_links n ls ends m) (sym (some_same e)) ∙ put_same n ends m) i) n b) ∙ sym (append-nil (letters_from ends n b))
keep_order plan ds ends n b (p ∷ ps) links stands good peer e =
    at (offer_to p.to p.bytes (ends n)) refl (λ ms s. keep_order plan ds (with_links n ms ends) n b ps links s good.1 peer) e
  where
    at : (o : Option (List Link)) → offer_to p.to p.bytes (ends n) ≡ o
        → ((ms : List Link) → NetStands plan ds (with_links n ms ends) → offer_all ps (with_links n ms ends n) ≡ Some links
        → letters_from (with_links n links (with_links n ms ends)) n b ≡ letters_from (with_links n ms ends) n b ++ letters_of_parcels (filter (λ q. nat_eq q.to b) ps))
        → option_and_then (offer_all ps) o ≡ Some links
        → letters_from (with_links n links ends) n b ≡ letters_from ends n b ++ letters_of_parcels (filter (λ q. nat_eq q.to b) (p ∷ ps))
    at None s more f = some_apart f
    at (Some ms) s more f =
        let one = one_offered plan ds ends n p ms stands good.0 s in
        let rest = more ms one.0 (ap (offer_all ps) (put_own n ms ends) ∙ f) in
        let first = one_in_order plan ds ends n p ms stands good.0 s in
        let same : with_links n links (with_links n ms ends) ≡ with_links n links ends = λ i m. put_again n ms links ends m i in
        ap (λ z. letters_from z n b) (sym same) ∙ rest ∙ by (nat_eq p.to b) refl first
      where
        others : List Letter
        others = letters_of_parcels (filter (λ q. nat_eq q.to b) ps)

        by : (t : Bool) → nat_eq p.to b ≡ t
            → (letters_from (with_links n ms ends) n p.to ≡ letters_from ends n p.to ++ letters_of p.to (p.bytes ∷ []))
            × ((c : ℕ) → nat_eq c p.to ≡ false → nat_eq n c ≡ false → letters_from (with_links n ms ends) n c ≡ letters_from ends n c)
            → letters_from (with_links n ms ends) n b ++ others ≡ letters_from ends n b ++ letters_of_parcels (cond (nat_eq p.to b) (p ∷ filter (λ q. nat_eq q.to b) ps) (filter (λ q. nat_eq q.to b) ps))
        by true is first =
            ap (λ z. letters_from (with_links n ms ends) n z ++ others) (sym (eqb-true p.to b is))
            ∙ ap (λ ls. ls ++ others) first.0
            ∙ append_assoc (letters_from ends n p.to) (letters_of p.to (p.bytes ∷ [])) others
            ∙ ap (λ ls. letters_from ends n p.to ++ ls) (option_end (letter_by p.to (decoded_envelope p.bytes)) others)
            ∙ ap (λ z. letters_from ends n z ++ cons_option (letter_by p.to (decoded_envelope p.bytes)) others) (eqb-true p.to b is)
            ∙ ap (λ t. letters_from ends n b ++ letters_of_parcels (cond t (p ∷ filter (λ q. nat_eq q.to b) ps) (filter (λ q. nat_eq q.to b) ps))) (sym is)
        by false is first =
            ap (λ ls. ls ++ others) (first.1 b (flip p.to b is) (peers_are n b plan peer).apart)
            ∙ ap (λ t. letters_from ends n b ++ letters_of_parcels (cond t (p ∷ filter (λ q. nat_eq q.to b) ps) (filter (λ q. nat_eq q.to b) ps))) (sym is)
