-- Datagrams that the links of a node take.
use Rattle.std.proofs.Common.{◌≡◌, ℕ, zero, suc, ◌+◌, ◌<◌, ◌≤◌, Bool, true, false, not, ◌&&◌, List, [], ◌∷◌, ◌++◌, length, take, drop, set, get_or, Option, Some, None, refl, sym, ap, ◌∙◌, subst, arith, append_assoc, append-nil, true≢false}
use Rattle.std.specs.Prelude.{nat_eq, if◌then◌else◌, Result, Ok, Err, IfOk}
use Rattle.std.specs.List.{list_all}
use Rattle.std.proofs.lemmas.Bool.{and_parts, not-true}
use Rattle.std.proofs.lemmas.Bool.Decides.{nat_tests}
use Rattle.std.proofs.lemmas.List.{take_all, drop_all}
use Rattle.sal_carriage.specs.declared.arrival.Arrival.{Arrival}
use Rattle.sal_carriage.specs.declared.datagram.Taken.{Taken}
use Rattle.sal_carriage.specs.declared.datagram.Taken.TheVariants as taken
use Rattle.sal_carriage.specs.Link.{Link, take_bytes}
use Rattle.sal_carriage.specs.Halves.{CanComplete, Completes as LinkCompletes, IsArrival as IsLinkArrival, complete, is_envelope}
use Rattle.sal_node.specs.Links.{Taking, taking_on, same_bool, is_same_link, take_from, sender_of, take_datagram}
use Rattle.sal_node.specs.Halves.{CanCompleteIf, CanCompleteFrom, complete_from, Completes, IsArrival}
use Rattle.sal_node.proofs.Offers.{take_more, drop_here, set_apart}
use Rattle.sal_node.proofs.Halves.{completed_here, completed_later, can_here, can_later, can_put_here, can_put_later}

-- ---- links to other peers

abbrev pub is_other : ℕ → Link → Bool
is_other peer l = not (nat_eq l.peer peer)

-- none of the first so many goes to the peer
abbrev pub are_others : ℕ → ℕ → List Link → Bool
are_others peer n ls = list_all (is_other peer) (take n ls)

all_and : (f : Link → Bool) (ls : List Link) (l : Link) → list_all f ls ≡ true → f l ≡ true → list_all f (ls ++ l ∷ []) ≡ true
all_and f [] l h e = ap (λ b. b && true) e
all_and f (x ∷ ls) l h e =
    let p = and_parts (f x) (list_all f ls) h in
    (λ i. p.0 i && all_and f ls l p.1 e i)

pub one_other : (peer n : ℕ) (ls : List Link) (l : Link) → n < length ls → l ≡ get_or ls n l → nat_eq l.peer peer ≡ false → are_others peer n ls ≡ true → are_others peer (n + 1) ls ≡ true
one_other peer n ls l lt is e h =
    ap (λ (ks : List Link). list_all (is_other peer) ks) (take_more n ls l lt is) ∙ all_and (is_other peer) (take n ls) l h (ap not e)

is_false : (b : Bool) → not b ≡ true → b ≡ false
is_false true e = sym e
is_false false e = refl

-- ---- taking

-- so much, after these links
abbrev pub after_front : List Link → Taking → Taking
after_front fs t = record t { links = fs ++ t.links }

taking_here : (peer : ℕ) (bytes : List ℕ) (l : Link) (ls : List Link) → nat_eq l.peer peer ≡ true → take_from peer bytes (l ∷ ls) ≡ taking_on (take_bytes bytes l) l ls
unfolding take_from
taking_here peer bytes l ls e = ap (λ b. if b then taking_on (take_bytes bytes l) l ls else record (take_from peer bytes ls) { links = l ∷ (take_from peer bytes ls).links }) e

taking_later : (peer : ℕ) (bytes : List ℕ) (l : Link) (ls : List Link) → nat_eq l.peer peer ≡ false → take_from peer bytes (l ∷ ls) ≡ after_front (l ∷ []) (take_from peer bytes ls)
unfolding take_from
taking_later peer bytes l ls e = ap (λ b. if b then taking_on (take_bytes bytes l) l ls else record (take_from peer bytes ls) { links = l ∷ (take_from peer bytes ls).links }) e

taking_apart : (peer : ℕ) (bytes : List ℕ) (n : ℕ) (ls : List Link) → are_others peer n ls ≡ true → take_from peer bytes ls ≡ after_front (take n ls) (take_from peer bytes (drop n ls))
taking_apart peer bytes zero ls h = refl
taking_apart peer bytes (suc n) [] h = refl
taking_apart peer bytes (suc n) (l ∷ ls) h =
    let p = and_parts (is_other peer l) (list_all (is_other peer) (take n ls)) h in
    taking_later peer bytes l ls (is_false (nat_eq l.peer peer) p.0) ∙ ap (after_front (l ∷ [])) (taking_apart peer bytes n ls p.1)

taking_at : (peer : ℕ) (bytes : List ℕ) (n : ℕ) (ls : List Link) (l : Link) → n < length ls → l ≡ get_or ls n l → nat_eq l.peer peer ≡ true → are_others peer n ls ≡ true
    → take_from peer bytes ls ≡ record { taken = (take_bytes bytes l).0; changed = not (is_same_link (take_bytes bytes l).1 l); links = take n ls ++ (take_bytes bytes l).1 ∷ drop (n + 1) ls }
taking_at peer bytes n ls l lt is same h =
    taking_apart peer bytes n ls h
    ∙ ap (λ (ks : List Link). after_front (take n ls) (take_from peer bytes ks)) (drop_here n ls l lt is)
    ∙ ap (after_front (take n ls)) (taking_here peer bytes l (drop (n + 1) ls) same)

pub takes_at : (peer : ℕ) (bytes : List ℕ) (n : ℕ) (ls : List Link) (l m : Link) (t : Taken) (changed : Bool) → n < length ls → l ≡ get_or ls n l → nat_eq l.peer peer ≡ true → are_others peer n ls ≡ true
    → (t, m) ≡ take_bytes bytes l → changed ≡ not (is_same_link m l)
    → record { taken = t; changed = changed; links = set ls n m } ≡ take_from peer bytes ls
takes_at peer bytes n ls l m t changed lt is same h e c =
    (λ i. record { taken = t; changed = c i; links = set_apart n ls m lt i })
    ∙ (λ i. record { taken = (e i).0; changed = not (is_same_link (e i).1 l); links = take n ls ++ (e i).1 ∷ drop (n + 1) ls })
    ∙ sym (taking_at peer bytes n ls l lt is same h)

pub takes_nothing : (peer : ℕ) (bytes : List ℕ) (n : ℕ) (ls : List Link) → length ls ≤ n → are_others peer n ls ≡ true
    → record { taken = taken.Noise; changed = false; links = ls } ≡ take_from peer bytes ls
unfolding take_from
takes_nothing peer bytes n ls past h =
    (λ i. record { taken = taken.Noise; changed = false; links = (sym (append-nil ls) ∙ ap (λ (ks : List Link). ks ++ []) (sym (take_all n ls past))) i })
    ∙ ap (λ (ks : List Link). after_front (take n ls) (take_from peer bytes ks)) (sym (drop_all n ls past))
    ∙ sym (taking_apart peer bytes n ls h)

-- ---- completing

completing_apart : (peer count n : ℕ) (ls : List Link) → are_others peer n ls ≡ true → complete_from peer count ls ≡ take n ls ++ complete_from peer count (drop n ls)
completing_apart peer count zero ls h = refl
completing_apart peer count (suc n) [] h = nothing
  where
    nothing : complete_from peer count [] ≡ complete_from peer count []
    nothing = refl
completing_apart peer count (suc n) (l ∷ ls) h =
    let p = and_parts (is_other peer l) (list_all (is_other peer) (take n ls)) h in
    completed_later peer count l ls (is_false (nat_eq l.peer peer) p.0) ∙ ap (λ (ks : List Link). l ∷ ks) (completing_apart peer count n ls p.1)

pub completes_at : (peer count n : ℕ) (ls : List Link) (l m : Link) → n < length ls → l ≡ get_or ls n l → nat_eq l.peer peer ≡ true → are_others peer n ls ≡ true
    → m ≡ complete count l → set ls n m ≡ complete_from peer count ls
completes_at peer count n ls l m lt is same h e =
    set_apart n ls m lt
    ∙ ap (λ (k : Link). take n ls ++ k ∷ drop (n + 1) ls) e
    ∙ ap (λ (ks : List Link). take n ls ++ ks) (sym (completed_here peer count l (drop (n + 1) ls) same))
    ∙ ap (λ (ks : List Link). take n ls ++ complete_from peer count ks) (sym (drop_here n ls l lt is))
    ∙ sym (completing_apart peer count n ls h)

pub completes_nothing : (peer count n : ℕ) (ls : List Link) → length ls ≤ n → are_others peer n ls ≡ true → ls ≡ complete_from peer count ls
unfolding complete_from
completes_nothing peer count n ls past h =
    sym (append-nil ls)
    ∙ ap (λ (ks : List Link). ks ++ []) (sym (take_all n ls past))
    ∙ ap (λ (ks : List Link). take n ls ++ complete_from peer count ks) (sym (drop_all n ls past))
    ∙ sym (completing_apart peer count n ls h)

can_apart : (peer count n : ℕ) (ls : List Link) → are_others peer n ls ≡ true → CanCompleteFrom peer count (drop n ls) → CanCompleteFrom peer count ls
can_apart peer count zero ls h can = can
can_apart peer count (suc n) [] h can = can
can_apart peer count (suc n) (l ∷ ls) h can =
    let p = and_parts (is_other peer l) (list_all (is_other peer) (take n ls)) h in
    can_put_later peer count l ls (is_false (nat_eq l.peer peer) p.0) (can_apart peer count n ls p.1 can)

can_left : (peer count n : ℕ) (ls : List Link) → are_others peer n ls ≡ true → CanCompleteFrom peer count ls → CanCompleteFrom peer count (drop n ls)
can_left peer count zero ls h can = can
can_left peer count (suc n) [] h can = can
can_left peer count (suc n) (l ∷ ls) h can =
    let p = and_parts (is_other peer l) (list_all (is_other peer) (take n ls)) h in
    can_left peer count n ls p.1 (can_later peer count l ls (is_false (nat_eq l.peer peer) p.0) can)

pub can_at : (peer count n : ℕ) (ls : List Link) (l : Link) → n < length ls → l ≡ get_or ls n l → nat_eq l.peer peer ≡ true → are_others peer n ls ≡ true → CanCompleteFrom peer count ls → CanComplete count l
can_at peer count n ls l lt is same h can =
    can_here peer count l (drop (n + 1) ls) same (subst (λ (ks : List Link). CanCompleteFrom peer count ks) (drop_here n ls l lt is) (can_left peer count n ls h can))

can_put_at : (peer count n : ℕ) (ls : List Link) (l : Link) → n < length ls → l ≡ get_or ls n l → nat_eq l.peer peer ≡ true → are_others peer n ls ≡ true → CanComplete count l → CanCompleteFrom peer count ls
can_put_at peer count n ls l lt is same h can =
    can_apart peer count n ls h (subst (λ (ks : List Link). CanCompleteFrom peer count ks) (sym (drop_here n ls l lt is)) (can_put_here peer count l (drop (n + 1) ls) same can))

-- ---- an envelope that comes

wanted_more : (n : ℕ) → nat_eq (n + 1) n ≡ false
wanted_more n = grind (arith, nat_tests)

differs : (b c d : Bool) → c ≡ false → not (b && (c && d)) ≡ true
differs true true d e = absurd (true≢false e)
differs true false d e = refl
differs false c d e = refl

completed_differs : (count : ℕ) (l : Link) → not (is_same_link (complete count l) l) ≡ true
unfolding complete
completed_differs count l = differs (nat_eq (l.acknowledged + count) l.acknowledged) (nat_eq (l.wanted + 1) l.wanted) (same_bool true l.owes) (wanted_more l.wanted)

pub arrives_at : (peer : ℕ) (bytes : List ℕ) (n : ℕ) (ls : List Link) (l : Link) (o : Option Arrival) → sender_of bytes ≡ peer → n < length ls → l ≡ get_or ls n l → nat_eq l.peer peer ≡ true → are_others peer n ls ≡ true
    → IsLinkArrival bytes l o → IsArrival bytes ls o
unfolding take_datagram
arrives_at peer bytes n ls l None from lt is same h a =
    ap (λ p. is_envelope (take_from p bytes ls).taken) from
    ∙ ap (λ (t : Taking). is_envelope t.taken) (taking_at peer bytes n ls l lt is same h)
    ∙ a
arrives_at peer bytes n ls l (Some a) from lt is same h c =
    let count : ℕ = a.acknowledges in
    record {
      taking =
          ap (λ p. take_from p bytes ls) from
          ∙ sym (takes_at peer bytes n ls l (complete count l) (taken.Envelope a.envelope) true lt is same h (sym c.taken) (sym (completed_differs count l)))
          ∙ (λ i. record { taken = taken.Envelope a.envelope; changed = true; links = completes_at peer count n ls l (complete count l) lt is same h refl i })
          ∙ ap (λ p. record { taken = taken.Envelope a.envelope; changed = true; links = complete_from p count ls }) (sym from);
      can = subst (λ p. CanCompleteFrom p count ls) (sym from) (can_put_at peer count n ls l lt is same h c.can);
    }

pub nothing_arrives : (peer : ℕ) (bytes : List ℕ) (n : ℕ) (ls : List Link) → sender_of bytes ≡ peer → length ls ≤ n → are_others peer n ls ≡ true → is_envelope (take_datagram bytes ls).taken ≡ false
unfolding take_datagram
nothing_arrives peer bytes n ls from past h =
    ap (λ p. is_envelope (take_from p bytes ls).taken) from
    ∙ ap (λ (t : Taking). is_envelope t.taken) (sym (takes_nothing peer bytes n ls past h))

-- ---- what the code answers

pub map_ok : {A E : Type 0} {P Q : A → Type 0} (r : Result A E) → IfOk r P → ((a : A) → P a → Q a) → IfOk r Q
map_ok (Ok a) p f = f a p
map_ok (Err e) p f = tt

pub taken_at : (peer : ℕ) (bytes : List ℕ) (n : ℕ) (items ls : List Link) (l m : Link) (t : Taken) (changed : Bool) → sender_of bytes ≡ peer → items ≡ ls → n < length ls → l ≡ get_or ls n l → nat_eq l.peer peer ≡ true
    → are_others peer n ls ≡ true → (t, m) ≡ take_bytes bytes l → changed ≡ not (is_same_link m l) → record { taken = t; changed = changed; links = set items n m } ≡ take_datagram bytes ls
unfolding take_datagram
taken_at peer bytes n items ls l m t changed from i lt is same h e c =
    ap (λ (ks : List Link). record { taken = t; changed = changed; links = set ks n m }) i
    ∙ takes_at peer bytes n ls l m t changed lt is same h e c
    ∙ ap (λ p. take_from p bytes ls) (sym from)

pub taken_nowhere : (peer : ℕ) (bytes : List ℕ) (n : ℕ) (items ls : List Link) → sender_of bytes ≡ peer → items ≡ ls → length ls ≤ n → are_others peer n ls ≡ true
    → record { taken = taken.Noise; changed = false; links = items } ≡ take_datagram bytes ls
unfolding take_datagram
taken_nowhere peer bytes n items ls from i past h =
    ap (λ (ks : List Link). record { taken = taken.Noise; changed = false; links = ks }) i
    ∙ takes_nothing peer bytes n ls past h
    ∙ ap (λ p. take_from p bytes ls) (sym from)
