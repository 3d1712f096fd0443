-- Offers on the links of a node.
use Rattle.std.proofs.Common.{◌≡◌, ℕ, zero, suc, ◌+◌, ◌<◌, ◌≤◌, Bool, true, false, List, [], ◌∷◌, ◌++◌, length, take, drop, set, get_or, Option, Some, None, refl, sym, ap, ◌∙◌, arith, append_assoc, append-nil}
use Rattle.std.proofs.lemmas.List.{take_all, drop_all}
use Rattle.std.specs.Prelude.{nat_eq, if◌then◌else◌, option_map, Result, Ok, Err}
use Rattle.sal_carriage.specs.declared.datagram.OfferFault.{OfferFault}
use Rattle.sal_carriage.specs.declared.datagram.OfferFault.TheVariants.{Spent, Memory}
use Rattle.sal_carriage.specs.Link.{Link, has_room, offer}
use Rattle.sal_carriage.specs.Offers.{Offers as LinkOffers}
use Rattle.sal_node.specs.Links.{offer_to}
use Rattle.sal_node.specs.Offers.{Offers}

abbrev pub here_by : Bool → List ℕ → Link → List Link → Option (List Link)
here_by b bytes l ls = if b then Some (offer bytes l ∷ ls) else None

abbrev pub later_by : ℕ → List ℕ → Link → List Link → Option (List Link)
later_by node bytes l ls = option_map (λ ms. l ∷ ms) (offer_to node bytes ls)

pub here_is : (node : ℕ) (bytes : List ℕ) (l : Link) (ls : List Link) (b : Bool) → nat_eq l.peer node ≡ true → has_room bytes l ≡ b
    → offer_to node bytes (l ∷ ls) ≡ here_by b bytes l ls
unfolding offer_to
here_is node bytes l ls b e room =
    ap (λ c. if c then here_by (has_room bytes l) bytes l ls else later_by node bytes l ls) e ∙ ap (λ c. here_by c bytes l ls) room

pub later_is : (node : ℕ) (bytes : List ℕ) (l : Link) (ls : List Link) → nat_eq l.peer node ≡ false
    → offer_to node bytes (l ∷ ls) ≡ later_by node bytes l ls
unfolding offer_to
later_is node bytes l ls e = ap (λ c. if c then here_by (has_room bytes l) bytes l ls else later_by node bytes l ls) e

pub offered_here : (node : ℕ) (bytes : List ℕ) (l m : Link) (ls : List Link) (r : Result (Unit {0}) OfferFault) → nat_eq l.peer node ≡ true
    → LinkOffers bytes l r m → Offers node bytes (l ∷ ls) r (m ∷ ls)
offered_here node bytes l m ls (Ok done) e h = here_is node bytes l ls true e h.0 ∙ ap (λ (k : Link). Some (k ∷ ls)) (sym h.1)
offered_here node bytes l m ls (Err Spent) e h = (here_is node bytes l ls false e h.0, ap (λ (k : Link). k ∷ ls) h.1)
offered_here node bytes l m ls (Err Memory) e h = ap (λ (k : Link). k ∷ ls) h

pub offered_later : (node : ℕ) (bytes : List ℕ) (l : Link) (ls ms : List Link) (r : Result (Unit {0}) OfferFault) → nat_eq l.peer node ≡ false
    → Offers node bytes ls r ms → Offers node bytes (l ∷ ls) r (l ∷ ms)
offered_later node bytes l ls ms (Ok done) e h = later_is node bytes l ls e ∙ ap (option_map (λ ks. l ∷ ks)) h
offered_later node bytes l ls ms (Err Spent) e h = (later_is node bytes l ls e ∙ ap (option_map (λ ks. l ∷ ks)) h.0, ap (λ (ks : List Link). l ∷ ks) h.1)
offered_later node bytes l ls ms (Err Memory) e h = ap (λ (ks : List Link). l ∷ ks) h

-- ---- the links before the one to the node

-- what is there, after these links
abbrev pub with_front : List Link → Option (List Link) → Option (List Link)
with_front fs o = option_map (λ ms. fs ++ ms) o

pub front_none : (o : Option (List Link)) → o ≡ with_front [] o
front_none None = refl
front_none (Some ms) = refl

front_more : (fs : List Link) (l : Link) (o : Option (List Link)) → with_front fs (option_map (λ ms. l ∷ ms) o) ≡ with_front (fs ++ l ∷ []) o
front_more fs l None = refl
front_more fs l (Some ms) = ap (λ (ks : List Link). Some ks) (sym (append_assoc fs (l ∷ []) ms))

pub take_more : (n : ℕ) (ls : List Link) (l : Link) → n < length ls → l ≡ get_or ls n l → take (n + 1) ls ≡ take n ls ++ l ∷ []
take_more n ls l lt is =
    let more : n + 1 ≡ suc n = omega arith in
    ap (λ k. take k ls) more ∙ at n ls lt is
  where
    at : (n : ℕ) (ls : List Link) → n < length ls → l ≡ get_or ls n l → take (suc n) ls ≡ take n ls ++ l ∷ []
    at n [] lt is = absurd (omega (arith, lt))
    at zero (x ∷ ls) lt is = ap (λ (k : Link). k ∷ []) (sym is)
    at (suc n) (x ∷ ls) lt is = ap (λ (ks : List Link). x ∷ ks) (at n ls (omega (arith, lt)) is)

pub drop_here : (n : ℕ) (ls : List Link) (l : Link) → n < length ls → l ≡ get_or ls n l → drop n ls ≡ l ∷ drop (n + 1) ls
drop_here n ls l lt is =
    let more : suc n ≡ n + 1 = omega arith in
    at n ls lt is ∙ ap (λ k. l ∷ drop k ls) more
  where
    at : (n : ℕ) (ls : List Link) → n < length ls → l ≡ get_or ls n l → drop n ls ≡ l ∷ drop (suc n) ls
    at n [] lt is = absurd (omega (arith, lt))
    at zero (x ∷ ls) lt is = ap (λ (k : Link). k ∷ ls) (sym is)
    at (suc n) (x ∷ ls) lt is = at n ls (omega (arith, lt)) is

pub goes_on : (node : ℕ) (bytes : List ℕ) (n : ℕ) (ls : List Link) (l : Link) → n < length ls → l ≡ get_or ls n l → nat_eq l.peer node ≡ false
    → offer_to node bytes ls ≡ with_front (take n ls) (offer_to node bytes (drop n ls))
    → offer_to node bytes ls ≡ with_front (take (n + 1) ls) (offer_to node bytes (drop (n + 1) ls))
goes_on node bytes n ls l lt is other h =
    h
    ∙ ap (λ (ks : List Link). with_front (take n ls) (offer_to node bytes ks)) (drop_here n ls l lt is)
    ∙ ap (with_front (take n ls)) (later_is node bytes l (drop (n + 1) ls) other)
    ∙ front_more (take n ls) l (offer_to node bytes (drop (n + 1) ls))
    ∙ ap (λ (fs : List Link). with_front fs (offer_to node bytes (drop (n + 1) ls))) (sym (take_more n ls l lt is))

pub set_apart : (n : ℕ) (ls : List Link) (m : Link) → n < length ls → set ls n m ≡ take n ls ++ m ∷ drop (n + 1) ls
set_apart n ls m lt =
    let more : suc n ≡ n + 1 = omega arith in
    at n ls lt ∙ ap (λ k. take n ls ++ m ∷ drop k ls) more
  where
    at : (n : ℕ) (ls : List Link) → n < length ls → set ls n m ≡ take n ls ++ m ∷ drop (suc n) ls
    at n [] lt = absurd (omega (arith, lt))
    at zero (x ∷ ls) lt = refl
    at (suc n) (x ∷ ls) lt = ap (λ (ks : List Link). x ∷ ks) (at n ls (omega (arith, lt)))

set_same : (n : ℕ) (ls : List Link) (l m : Link) → n < length ls → l ≡ get_or ls n l → m ≡ l → set ls n m ≡ ls
set_same n [] l m lt is e = absurd (omega (arith, lt))
set_same zero (x ∷ ls) l m lt is e = ap (λ (k : Link). k ∷ ls) (e ∙ is)
set_same (suc n) (x ∷ ls) l m lt is e = ap (λ (ks : List Link). x ∷ ks) (set_same n ls l m (omega (arith, lt)) is e)

pub offers_at : (node : ℕ) (bytes : List ℕ) (n : ℕ) (ls : List Link) (l m : Link) (r : Result (Unit {0}) OfferFault) → n < length ls → l ≡ get_or ls n l → nat_eq l.peer node ≡ true
    → offer_to node bytes ls ≡ with_front (take n ls) (offer_to node bytes (drop n ls))
    → LinkOffers bytes l r m → Offers node bytes ls r (set ls n m)
offers_at node bytes n ls l m (Ok done) lt is same h o =
    h
    ∙ ap (λ (ks : List Link). with_front (take n ls) (offer_to node bytes ks)) (drop_here n ls l lt is)
    ∙ ap (with_front (take n ls)) (here_is node bytes l (drop (n + 1) ls) true same o.0)
    ∙ ap (λ (k : Link). Some (take n ls ++ k ∷ drop (n + 1) ls)) (sym o.1)
    ∙ ap (λ (ks : List Link). Some ks) (sym (set_apart n ls m lt))
offers_at node bytes n ls l m (Err Spent) lt is same h o = (
  h
      ∙ ap (λ (ks : List Link). with_front (take n ls) (offer_to node bytes ks)) (drop_here n ls l lt is)
      ∙ ap (with_front (take n ls)) (here_is node bytes l (drop (n + 1) ls) false same o.0),
  set_same n ls l m lt is o.1,
)
offers_at node bytes n ls l m (Err Memory) lt is same h o = set_same n ls l m lt is o

pub offers_nothing : (node : ℕ) (bytes : List ℕ) (n : ℕ) (ls : List Link) → length ls ≤ n → offer_to node bytes ls ≡ with_front (take n ls) (offer_to node bytes (drop n ls))
    → offer_to node bytes ls ≡ Some ls
unfolding offer_to
offers_nothing node bytes n ls past h =
    h
    ∙ (λ i. with_front (take_all n ls past i) (offer_to node bytes (drop_all n ls past i)))
    ∙ ap (λ (ks : List Link). Some ks) (append-nil ls)

pub got_same : (n : ℕ) (ls : List Link) (x y : Link) → n < length ls → x ≡ get_or ls n x → y ≡ get_or ls n y → x ≡ y
got_same n [] x y lt a b = absurd (omega (arith, lt))
got_same zero (l ∷ ls) x y lt a b = a ∙ sym b
got_same (suc n) (l ∷ ls) x y lt a b = got_same n ls x y (omega (arith, lt)) a b

pub has_peer : (n node : ℕ) (ls : List Link) (x y : Link) → n < length ls → x ≡ get_or ls n x → y ≡ get_or ls n y → nat_eq x.peer node ≡ true → nat_eq y.peer node ≡ true
has_peer n node ls x y lt a b e = ap (λ (l : Link). nat_eq l.peer node) (sym (got_same n ls x y lt a b)) ∙ e
