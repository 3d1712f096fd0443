-- Offers between the halves of taking.
use Rattle.std.proofs.Common.{◌≡◌, ℕ, Bool, true, false, List, [], ◌∷◌, Option, Some, None, refl, sym, ap, ◌∙◌, subst}
use Rattle.std.specs.Prelude.{nat_eq, if◌then◌else◌, option_map, option_and_then}
use Rattle.sal_carriage.specs.Link.{Link, has_room, offer}
use Rattle.sal_carriage.specs.Halves.{HalvesCommute, CanComplete, complete}
use Rattle.sal_carriage.proofs.Halves.{commute}
use Rattle.sal_node.specs.declared.parcel.Parcel.{Parcel}
use Rattle.sal_node.specs.Links.{offer_to, offer_all}
use Rattle.sal_node.proofs.Offers.{here_by, later_by, here_is, later_is}
use Rattle.sal_node.proofs.Withdrawing.{some_is, none_some}
use Rattle.sal_node.specs.Halves.{OffersAreMadeBetweenHalves, CanCompleteIf, CanCompleteFrom, complete_from}

pub completed_here : (peer count : ℕ) (l : Link) (ls : List Link) → nat_eq l.peer peer ≡ true → complete_from peer count (l ∷ ls) ≡ complete count l ∷ ls
unfolding complete_from
completed_here peer count l ls e = ap (λ b. if b then complete count l ∷ ls else l ∷ complete_from peer count ls) e

pub completed_later : (peer count : ℕ) (l : Link) (ls : List Link) → nat_eq l.peer peer ≡ false → complete_from peer count (l ∷ ls) ≡ l ∷ complete_from peer count ls
unfolding complete_from
completed_later peer count l ls e = ap (λ b. if b then complete count l ∷ ls else l ∷ complete_from peer count ls) e

pub can_here : (peer count : ℕ) (l : Link) (ls : List Link) → nat_eq l.peer peer ≡ true → CanCompleteFrom peer count (l ∷ ls) → CanComplete count l
unfolding CanCompleteFrom
can_here peer count l ls e can = subst (λ b. CanCompleteIf b count l (CanCompleteFrom peer count ls)) e can

pub can_later : (peer count : ℕ) (l : Link) (ls : List Link) → nat_eq l.peer peer ≡ false → CanCompleteFrom peer count (l ∷ ls) → CanCompleteFrom peer count ls
unfolding CanCompleteFrom
can_later peer count l ls e can = subst (λ b. CanCompleteIf b count l (CanCompleteFrom peer count ls)) e can

pub can_put_here : (peer count : ℕ) (l : Link) (ls : List Link) → nat_eq l.peer peer ≡ true → CanComplete count l → CanCompleteFrom peer count (l ∷ ls)
unfolding CanCompleteFrom
can_put_here peer count l ls e can = subst (λ b. CanCompleteIf b count l (CanCompleteFrom peer count ls)) (sym e) can

pub can_put_later : (peer count : ℕ) (l : Link) (ls : List Link) → nat_eq l.peer peer ≡ false → CanCompleteFrom peer count ls → CanCompleteFrom peer count (l ∷ ls)
unfolding CanCompleteFrom
can_put_later peer count l ls e can = subst (λ b. CanCompleteIf b count l (CanCompleteFrom peer count ls)) (sym e) can

peer_offered : (bytes : List ℕ) (l : Link) (n : ℕ) → nat_eq (offer bytes l).peer n ≡ nat_eq l.peer n
unfolding offer
peer_offered bytes l n = refl

peer_completed : (count : ℕ) (l : Link) (n : ℕ) → nat_eq (complete count l).peer n ≡ nat_eq l.peer n
unfolding complete
peer_completed count l n = refl

-- ---- one envelope

one_between : (node : ℕ) (bytes : List ℕ) (peer count : ℕ) (links : List Link) → CanCompleteFrom peer count links
    → offer_to node bytes (complete_from peer count links) ≡ option_map (complete_from peer count) (offer_to node bytes links)
unfolding complete_from offer_to
one_between node bytes peer count [] can = refl
one_between node bytes peer count (l ∷ ls) can = at (one_between node bytes peer count ls) (nat_eq l.peer peer) (nat_eq l.peer node) refl refl
  where
    both : nat_eq l.peer peer ≡ true → (d : Bool) → here_by d bytes (complete count l) ls ≡ option_map (complete_from peer count) (here_by d bytes l ls)
    both p true =
        ap (λ (ks : List Link). Some ks)
        (sym (completed_here peer count (offer bytes l) ls (peer_offered bytes l peer ∙ p)
        ∙ ap (λ (k : Link). k ∷ ls) (commute.offers count l bytes (can_here peer count l ls p can))))
    both p false = refl

    taker : nat_eq l.peer peer ≡ true → (o : Option (List Link)) → option_map (λ ms. complete count l ∷ ms) o ≡ option_map (complete_from peer count) (option_map (λ ms. l ∷ ms) o)
    taker p None = refl
    taker p (Some ks) = ap (λ (ms : List Link). Some ms) (sym (completed_here peer count l ks p))

    giver : nat_eq l.peer peer ≡ false → (d : Bool) → here_by d bytes l (complete_from peer count ls) ≡ option_map (complete_from peer count) (here_by d bytes l ls)
    giver p true = ap (λ (ks : List Link). Some ks) (sym (completed_later peer count (offer bytes l) ls (peer_offered bytes l peer ∙ p)))
    giver p false = refl

    neither : nat_eq l.peer peer ≡ false → (o : Option (List Link)) → option_map (λ ms. l ∷ ms) (option_map (complete_from peer count) o) ≡ option_map (complete_from peer count) (option_map (λ ms. l ∷ ms) o)
    neither p None = refl
    neither p (Some ks) = ap (λ (ms : List Link). Some ms) (sym (completed_later peer count l ks p))

    at : (CanCompleteFrom peer count ls → offer_to node bytes (complete_from peer count ls) ≡ option_map (complete_from peer count) (offer_to node bytes ls))
        → (b c : Bool) → nat_eq l.peer peer ≡ b → nat_eq l.peer node ≡ c
        → offer_to node bytes (complete_from peer count (l ∷ ls)) ≡ option_map (complete_from peer count) (offer_to node bytes (l ∷ ls))
    at more true true p n =
        ap (offer_to node bytes) (completed_here peer count l ls p)
        ∙ here_is node bytes (complete count l) ls (has_room bytes (complete count l)) (peer_completed count l node ∙ n) refl
        ∙ ap (λ d. here_by d bytes (complete count l) ls) (commute.room count l bytes (can_here peer count l ls p can))
        ∙ both p (has_room bytes l)
        ∙ ap (option_map (complete_from peer count)) (sym (here_is node bytes l ls (has_room bytes l) n refl))
    at more true false p n =
        ap (offer_to node bytes) (completed_here peer count l ls p)
        ∙ later_is node bytes (complete count l) ls (peer_completed count l node ∙ n)
        ∙ taker p (offer_to node bytes ls)
        ∙ ap (option_map (complete_from peer count)) (sym (later_is node bytes l ls n))
    at more false true p n =
        ap (offer_to node bytes) (completed_later peer count l ls p)
        ∙ here_is node bytes l (complete_from peer count ls) (has_room bytes l) n refl
        ∙ giver p (has_room bytes l)
        ∙ ap (option_map (complete_from peer count)) (sym (here_is node bytes l ls (has_room bytes l) n refl))
    at more false false p n =
        ap (offer_to node bytes) (completed_later peer count l ls p)
        ∙ later_is node bytes l (complete_from peer count ls) n
        ∙ ap (option_map (λ ms. l ∷ ms)) (more (can_later peer count l ls p can))
        ∙ neither p (offer_to node bytes ls)
        ∙ ap (option_map (complete_from peer count)) (sym (later_is node bytes l ls n))

one_can : (node : ℕ) (bytes : List ℕ) (peer count : ℕ) (links after : List Link) → CanCompleteFrom peer count links
    → offer_to node bytes links ≡ Some after → CanCompleteFrom peer count after
unfolding offer_to
one_can node bytes peer count [] after can e = subst (λ (ks : List Link). CanCompleteFrom peer count ks) (some_is e) can
one_can node bytes peer count (l ∷ ls) after can e = at (one_can node bytes peer count ls) (nat_eq l.peer node) (has_room bytes l) (offer_to node bytes ls) refl e
  where
    still : (b : Bool) → nat_eq l.peer peer ≡ b → CanCompleteFrom peer count (offer bytes l ∷ ls)
    still true p = can_put_here peer count (offer bytes l) ls (peer_offered bytes l peer ∙ p) (commute.can count l bytes (can_here peer count l ls p can))
    still false p = can_put_later peer count (offer bytes l) ls (peer_offered bytes l peer ∙ p) (can_later peer count l ls p can)

    later : ((qs : List Link) → CanCompleteFrom peer count ls → offer_to node bytes ls ≡ Some qs → CanCompleteFrom peer count qs)
        → (ks : List Link) → offer_to node bytes ls ≡ Some ks → (b : Bool) → nat_eq l.peer peer ≡ b → CanCompleteFrom peer count (l ∷ ks)
    later more ks s true p = can_put_here peer count l ks p (can_here peer count l ls p can)
    later more ks s false p = can_put_later peer count l ks p (more ks (can_later peer count l ls p can) s)

    at : ((qs : List Link) → CanCompleteFrom peer count ls → offer_to node bytes ls ≡ Some qs → CanCompleteFrom peer count qs)
        → (b c : Bool) (o : Option (List Link)) → offer_to node bytes ls ≡ o
        → (if b then (if c then Some (offer bytes l ∷ ls) else None) else option_map (λ ms. l ∷ ms) o) ≡ Some after → CanCompleteFrom peer count after
    at more true true o s f = subst (λ (ks : List Link). CanCompleteFrom peer count ks) (some_is f) (still (nat_eq l.peer peer) refl)
    at more true false o s f = absurd (none_some f)
    at more false c None s f = absurd (none_some f)
    at more false c (Some ks) s f = subst (λ (ms : List Link). CanCompleteFrom peer count ms) (some_is f) (later more ks s (nat_eq l.peer peer) refl)

-- ---- all of them

all_between : (ps : List Parcel) (peer count : ℕ) (links : List Link) → CanCompleteFrom peer count links
    → offer_all ps (complete_from peer count links) ≡ option_map (complete_from peer count) (offer_all ps links)
unfolding offer_all
all_between [] peer count links can = refl
all_between (p ∷ ps) peer count links can =
    ap (option_and_then (offer_all ps)) (one_between p.to p.bytes peer count links can) ∙ at (all_between ps peer count) (offer_to p.to p.bytes links) refl
  where
    at : ((ms : List Link) → CanCompleteFrom peer count ms → offer_all ps (complete_from peer count ms) ≡ option_map (complete_from peer count) (offer_all ps ms))
        → (o : Option (List Link)) → offer_to p.to p.bytes links ≡ o
        → option_and_then (offer_all ps) (option_map (complete_from peer count) o) ≡ option_map (complete_from peer count) (option_and_then (offer_all ps) o)
    at more None s = refl
    at more (Some ms) s = more ms (one_can p.to p.bytes peer count links ms can s)

all_can : (ps : List Parcel) (peer count : ℕ) (links after : List Link) → CanCompleteFrom peer count links → offer_all ps links ≡ Some after → CanCompleteFrom peer count after
unfolding offer_all
all_can [] peer count links after can e = subst (λ (ks : List Link). CanCompleteFrom peer count ks) (some_is e) can
all_can (p ∷ ps) peer count links after can e = at (all_can ps peer count) (offer_to p.to p.bytes links) refl e
  where
    at : ((ms new : List Link) → CanCompleteFrom peer count ms → offer_all ps ms ≡ Some new → CanCompleteFrom peer count new)
        → (o : Option (List Link)) → offer_to p.to p.bytes links ≡ o → option_and_then (offer_all ps) o ≡ Some after → CanCompleteFrom peer count after
    at more None s f = absurd (none_some f)
    at more (Some ms) s f = more ms after (one_can p.to p.bytes peer count links ms can s) f

pub between : OffersAreMadeBetweenHalves
between = record { offers = all_between; can = all_can }
