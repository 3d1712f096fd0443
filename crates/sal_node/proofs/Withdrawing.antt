-- Offers that are withdrawn.
use Rattle.std.proofs.Common.{◌≡◌, ℕ, ◌+◌, ◌<◌, ◌≤◌, zero, suc, Bool, true, false, List, [], ◌∷◌, ◌++◌, length, take, drop, set, get_or, Option, Some, None, refl, sym, ap, ◌∙◌, subst, arith, length-append}
use Rattle.std.specs.Prelude.{nat_eq, if◌then◌else◌, option_map, option_and_then, Result, Ok, Err}
use Rattle.std.proofs.lemmas.List.{take_all, drop_all, take-append-le}
use Rattle.sal_carriage.specs.declared.fragment.Fragment.{Fragment}
use Rattle.sal_carriage.specs.declared.datagram.OfferFault.{OfferFault}
use Rattle.sal_carriage.specs.declared.datagram.OfferFault.TheVariants.{Spent, Memory}
use Rattle.sal_carriage.specs.Link.{Link, has_room, offer, fragments}
use Rattle.sal_carriage.specs.Halves.{withdraw}
use Rattle.sal_node.specs.declared.parcel.Parcel.{Parcel}
use Rattle.sal_node.specs.Links.{offer_to, offer_all}
use Rattle.sal_node.specs.Offers.{Offers, OffersAll}
use Rattle.sal_node.specs.code.Withdrawing.{lengths_of, withdraw_all, Extends, Extend, OffersEach}
use Rattle.sal_node.proofs.Offers.{here_by, later_by, here_is, later_is}

-- ---- a link with more offers

same_extends : (l : Link) → Extends l l
unfolding withdraw
same_extends l =
    let whole : length l.unacknowledged ≤ length l.unacknowledged = omega arith in
    record { least = whole; withdrawn = ap (λ (fs : List Fragment). record l { unacknowledged = fs }) (take_all (length l.unacknowledged) l.unacknowledged whole) }

offer_extends : (l m : Link) (bytes : List ℕ) → Extends l m → Extends l (offer bytes m)
unfolding withdraw offer
offer_extends l m bytes h =
    let n : ℕ = length l.unacknowledged in
    let longer = length-append m.unacknowledged (fragments bytes) in
    record {
      least = omega (arith, longer, h.least);
      withdrawn = ap (λ (fs : List Fragment). record m { unacknowledged = fs }) (take-append-le n m.unacknowledged (fragments bytes) h.least) ∙ h.withdrawn;
    }

-- ---- all links

pub same_extend : (ls : List Link) → Extend ls ls
unfolding Extend
same_extend [] = tt
same_extend (l ∷ ls) = (same_extends l, same_extend ls)

pub some_is : {A : Type 0} {x y : A} → ◌≡◌ {A = Option A} (Some x) (Some y) → x ≡ y
some_is {A} {x} {y} e = ap (or x) e
  where
    or : A → Option A → A
    or d None = d
    or d (Some z) = z

pub none_some : {A : Type 0} {x : A} → ◌≡◌ {A = Option A} None (Some x) → ⊥
none_some {A} {x} e = subst (λ (o : Option A). is o) e tt
  where
    is : Option A → Type 0
    is None = Unit {0}
    is (Some y) = ⊥

pub offer_extend : (node : ℕ) (bytes : List ℕ) (ls ms new : List Link) → Extend ls ms → offer_to node bytes ms ≡ Some new → Extend ls new
unfolding Extend offer_to
offer_extend node bytes [] [] new h e = subst (λ (ks : List Link). Extend [] ks) (some_is e) tt
offer_extend node bytes [] (m ∷ ms) new h e = absurd h
offer_extend node bytes (l ∷ ls) [] new h e = absurd h
offer_extend node bytes (l ∷ ls) (m ∷ ms) new h e = at (offer_extend node bytes ls ms) (nat_eq m.peer node) (has_room bytes m) (offer_to node bytes ms) refl e
  where
    at : ((ks : List Link) → Extend ls ms → offer_to node bytes ms ≡ Some ks → Extend ls ks)
        → (b c : Bool) (o : Option (List Link)) → offer_to node bytes ms ≡ o
        → (if b then (if c then Some (offer bytes m ∷ ms) else None) else option_map (λ ks. m ∷ ks) o) ≡ Some new → Extend (l ∷ ls) new
    at more true true o s f = subst (λ (ks : List Link). Extend (l ∷ ls) ks) (some_is f) (offer_extends l m bytes h.0, h.1)
    at more true false o s f = absurd (none_some f)
    at more false c None s f = absurd (none_some f)
    at more false c (Some ks) s f = subst (λ (ns : List Link). Extend (l ∷ ls) ns) (some_is f) (h.0, more ks h.1 s)

pub extend_withdrawn : (ls ms : List Link) → Extend ls ms → withdraw_all (lengths_of ls) ms ≡ ls
unfolding Extend withdraw_all
extend_withdrawn [] [] h = refl
extend_withdrawn [] (m ∷ ms) h = absurd h
extend_withdrawn (l ∷ ls) [] h = absurd h
extend_withdrawn (l ∷ ls) (m ∷ ms) h = λ i. h.0.withdrawn i ∷ extend_withdrawn ls ms h.1 i

-- ---- offers one after another

pub one_offered : (p : Parcel) (ps : List Parcel) (old ms new : List Link) (all : Option (List Link)) → offer_to p.to p.bytes ms ≡ Some new
    → offer_all (p ∷ ps) ms ≡ all → offer_all ps new ≡ all
unfolding offer_all
one_offered p ps old ms new all e h = sym (ap (option_and_then (offer_all ps)) e) ∙ h

pub all_offered : (ms : List Link) (all : Option (List Link)) → offer_all [] ms ≡ all → all ≡ Some ms
unfolding offer_all
all_offered ms all h = sym h

pub none_offered : (p : Parcel) (ps : List Parcel) (ms : List Link) (all : Option (List Link)) → offer_to p.to p.bytes ms ≡ None → offer_all (p ∷ ps) ms ≡ all → all ≡ None
unfolding offer_all
none_offered p ps ms all e h = sym h ∙ ap (option_and_then (offer_all ps)) e

-- ---- withdrawal, link by link

one_withdrawn : (n : ℕ) (ns : List ℕ) (ls : List Link) (k : ℕ) (l m : Link) → n < length ns → n < length ls → k ≡ get_or ns n k → l ≡ get_or (withdraw_all (take n ns) ls) n l → m ≡ withdraw k l
    → set (withdraw_all (take n ns) ls) n m ≡ withdraw_all (take (suc n) ns) ls
unfolding withdraw_all
one_withdrawn n [] ls k l m lt lm here is e = absurd (omega (arith, lt))
one_withdrawn n (j ∷ ns) [] k l m lt lm here is e = absurd (omega (arith, lm))
one_withdrawn zero (j ∷ ns) (x ∷ ls) k l m lt lm here is e = ap (λ (y : Link). y ∷ ls) (e ∙ (λ i. withdraw (here i) (is i)))
one_withdrawn (suc n) (j ∷ ns) (x ∷ ls) k l m lt lm here is e = ap (λ (ys : List Link). withdraw j x ∷ ys) (one_withdrawn n ns ls k l m (omega (arith, lt)) (omega (arith, lm)) here is e)

pub withdraws_one : (n : ℕ) (ns : List ℕ) (ls : List Link) (k : ℕ) (l m : Link) → n < length ns → n < length ls → k ≡ get_or ns n k → l ≡ get_or (withdraw_all (take n ns) ls) n l → m ≡ withdraw k l
    → set (withdraw_all (take n ns) ls) n m ≡ withdraw_all (take (n + 1) ns) ls
withdraws_one n ns ls k l m lt lm here is e =
    let more : suc n ≡ n + 1 = omega arith in
    one_withdrawn n ns ls k l m lt lm here is e ∙ ap (λ k. withdraw_all (take k ns) ls) more

pub withdraws_all : (n : ℕ) (ns : List ℕ) (ls new : List Link) → length ns ≤ n → new ≡ withdraw_all (take n ns) ls → new ≡ withdraw_all ns ls
withdraws_all n ns ls new past e = e ∙ ap (λ ks. withdraw_all ks ls) (take_all n ns past)

pub same_length : (ns : List ℕ) (ls : List Link) → length (withdraw_all ns ls) ≡ length ls
unfolding withdraw_all
same_length [] ls = refl
same_length (n ∷ ns) [] = refl
same_length (n ∷ ns) (l ∷ ls) = ap suc (same_length ns ls)

-- ---- all or none

pub none_stays : (ps : List Parcel) (old new after : List Link) (counts : List ℕ) (fault : OfferFault) → OffersEach ps old (Err fault) new → counts ≡ lengths_of old
    → after ≡ withdraw_all counts new → OffersAll ps old (Err fault) after
none_stays ps old new after counts Spent h c a = (h.0, a ∙ ap (λ ns. withdraw_all ns new) c ∙ extend_withdrawn old new h.1)
none_stays ps old new after counts Memory h c a = a ∙ ap (λ ns. withdraw_all ns new) c ∙ extend_withdrawn old new h

pub each_offered : (ps : List Parcel) (old new : List Link) (k : ℕ) → length ps ≤ k → (offer_all (drop k ps) new ≡ offer_all ps old) → offer_all ps old ≡ Some new
unfolding offer_all
each_offered ps old new k past h = sym h ∙ ap (λ (qs : List Parcel). offer_all qs new) (drop_all k ps past)

-- ---- from parcel to parcel

parcels_from : (n : ℕ) (ps : List Parcel) (p : Parcel) → n < length ps → p ≡ get_or ps n p → drop n ps ≡ p ∷ drop (n + 1) ps
parcels_from n ps p lt is =
    let more : suc n ≡ n + 1 = omega arith in
    at n ps lt is ∙ ap (λ k. p ∷ drop k ps) more
  where
    at : (n : ℕ) (ps : List Parcel) → n < length ps → p ≡ get_or ps n p → drop n ps ≡ p ∷ drop (suc n) ps
    at n [] lt is = absurd (omega (arith, lt))
    at zero (q ∷ ps) lt is = ap (λ (k : Parcel). k ∷ ps) (sym is)
    at (suc n) (q ∷ ps) lt is = at n ps (omega (arith, lt)) is

pub next_offered : (n : ℕ) (ps : List Parcel) (p : Parcel) (old ms new : List Link) → n < length ps → p ≡ get_or ps n p → offer_all (drop n ps) ms ≡ offer_all ps old → Extend old ms
    → offer_to p.to p.bytes ms ≡ Some new → (offer_all (drop (n + 1) ps) new ≡ offer_all ps old) × Extend old new
next_offered n ps p old ms new lt is h x o =
    (one_offered p (drop (n + 1) ps) old ms new (offer_all ps old) o (ap (λ (qs : List Parcel). offer_all qs ms) (sym (parcels_from n ps p lt is)) ∙ h), offer_extend p.to p.bytes old ms new x o)

pub offer_fails : (n : ℕ) (ps : List Parcel) (p : Parcel) (old ms new : List Link) (fault : OfferFault) → n < length ps → p ≡ get_or ps n p → offer_all (drop n ps) ms ≡ offer_all ps old → Extend old ms
    → Offers p.to p.bytes ms (Err fault) new → OffersEach ps old (Err fault) new
offer_fails n ps p old ms new Spent lt is h x o = (
  none_offered p (drop (n + 1) ps) ms (offer_all ps old) o.0 (ap (λ (qs : List Parcel). offer_all qs ms) (sym (parcels_from n ps p lt is)) ∙ h),
  subst (λ (ls : List Link). Extend old ls) (sym o.1) x,
)
offer_fails n ps p old ms new Memory lt is h x o = subst (λ (ls : List Link). Extend old ls) (sym o) x

pub extend_length : (ls ms : List Link) → Extend ls ms → length (lengths_of ls) ≡ length ms
unfolding Extend
extend_length [] [] h = refl
extend_length [] (m ∷ ms) h = absurd h
extend_length (l ∷ ls) [] h = absurd h
extend_length (l ∷ ls) (m ∷ ms) h = ap suc (extend_length ls ms h.1)

pub failed_extends : (ps : List Parcel) (old new : List Link) (fault : OfferFault) → OffersEach ps old (Err fault) new → Extend old new
failed_extends ps old new Spent h = h.1
failed_extends ps old new Memory h = h

pub nothing_withdrawn : (ls : List Link) → ls ≡ withdraw_all [] ls
unfolding withdraw_all
nothing_withdrawn ls = refl

pub in_range : (n : ℕ) (ns : List ℕ) (ls items : List Link) → items ≡ withdraw_all (take n ns) ls → length ns ≤ length ls → n < length ns → n < length items
in_range n ns ls items e few lt = omega (arith, ap length e, same_length (take n ns) ls, few, lt)
