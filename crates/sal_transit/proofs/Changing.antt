-- A node's links once one of them is another one.
use Rattle.std.proofs.Common.{◌≡◌, ℕ, Bool, true, false, cond, List, [], ◌∷◌, map, Option, Some, None, refl, sym, ap, subst, ◌∙◌, option_map, true≢false}
use Rattle.std.specs.Prelude.{if◌then◌else◌, nat_eq}
use Rattle.std.proofs.lemmas.Bool.{eqb-true, eq-eqb}
use Rattle.sal_carriage.specs.declared.datagram.Taken.TheVariants as taken
use Rattle.sal_carriage.specs.Link.{Link, has_room, offer, take_bytes, push}
use Rattle.sal_carriage.proofs.Due.{some_apart, some_same}
use Rattle.sal_node.specs.Links.{offer_to, Taking, taking_on, take_from, push_all}
use Rattle.sal_node.proofs.Offers.{here_by, here_is, later_is}
use Rattle.sal_world.specs.World.{link_to}

-- the first link to the peer was l and is m, and the others are as before
pub record Changes (b : ℕ) (l m : Link) (old new : List Link) : Type 0 where
  pub peers : map (λ k. k.peer) new ≡ map (λ k. k.peer) old
  pub here : link_to b old ≡ Some l
  pub now : link_to b new ≡ Some m
  pub others : (c : ℕ) → nat_eq c b ≡ false → link_to c new ≡ link_to c old

pub first_is : (c : ℕ) (l : Link) (ls : List Link) → nat_eq l.peer c ≡ true → link_to c (l ∷ ls) ≡ Some l
first_is c l ls e = ap (λ b. cond b (Some l) (link_to c ls)) e

pub later_first : (c : ℕ) (l : Link) (ls : List Link) → nat_eq l.peer c ≡ false → link_to c (l ∷ ls) ≡ link_to c ls
later_first c l ls e = ap (λ b. cond b (Some l) (link_to c ls)) e

pub flip : (a b : ℕ) → nat_eq a b ≡ false → nat_eq b a ≡ false
flip a b e = at (nat_eq b a) refl
  where
    at : (t : Bool) → nat_eq b a ≡ t → nat_eq b a ≡ false
    at true is = absurd (true≢false (sym (eq-eqb a b (sym (eqb-true b a is))) ∙ e))
    at false is = is

at_front : (b : ℕ) (l m : Link) (ls : List Link) → nat_eq l.peer b ≡ true → m.peer ≡ l.peer → Changes b l m (l ∷ ls) (m ∷ ls)
at_front b l m ls e same = record {
  peers = ap (λ p. p ∷ map (λ k. k.peer) ls) same;
  here = first_is b l ls e;
  now = first_is b m ls (ap (λ p. nat_eq p b) same ∙ e);
  others = λ c apart.
      let away : nat_eq l.peer c ≡ false = ap (λ p. nat_eq p c) (eqb-true l.peer b e) ∙ flip c b apart in
      later_first c m ls (ap (λ p. nat_eq p c) same ∙ away) ∙ sym (later_first c l ls away);
}

behind : (b : ℕ) (l m k : Link) (old new : List Link) → nat_eq k.peer b ≡ false → Changes b l m old new → Changes b l m (k ∷ old) (k ∷ new)
behind b l m k old new e h = record {
  peers = ap (λ ps. k.peer ∷ ps) h.peers;
  here = later_first b k old e ∙ h.here;
  now = later_first b k new e ∙ h.now;
  others = λ c apart. ap (λ o. cond (nat_eq k.peer c) (Some k) o) (h.others c apart);
}

-- ---- offers

same_peer : (bytes : List ℕ) (k : Link) → (offer bytes k).peer ≡ k.peer
unfolding offer
same_peer bytes k = refl

pub offered : (b : ℕ) (bytes : List ℕ) (l : Link) (old new : List Link) → link_to b old ≡ Some l → offer_to b bytes old ≡ Some new
    → (has_room bytes l ≡ true) × Changes b l (offer bytes l) old new
offered b bytes l [] new found e = some_apart found
offered b bytes l (k ∷ ls) new found e = at (offered b bytes l ls) (nat_eq k.peer b) refl
  where
    room : nat_eq k.peer b ≡ true → (r : Bool) → has_room bytes k ≡ r → here_by r bytes k ls ≡ Some new → (has_room bytes l ≡ true) × Changes b l (offer bytes l) (k ∷ ls) new
    room is true r f =
        let one : k ≡ l = some_same (sym (first_is b k ls is) ∙ found) in
        subst (λ (x : Link). (has_room bytes x ≡ true) × Changes b x (offer bytes x) (k ∷ ls) new) one
        (r, subst (λ (ms : List Link). Changes b k (offer bytes k) (k ∷ ls) ms) (some_same f) (at_front b k (offer bytes k) ls is (same_peer bytes k)))
    room is false r f = some_apart f

    later : ((ms : List Link) → link_to b ls ≡ Some l → offer_to b bytes ls ≡ Some ms → (has_room bytes l ≡ true) × Changes b l (offer bytes l) ls ms)
        → nat_eq k.peer b ≡ false → (o : Option (List Link)) → offer_to b bytes ls ≡ o → option_map (λ ms. k ∷ ms) o ≡ Some new
        → (has_room bytes l ≡ true) × Changes b l (offer bytes l) (k ∷ ls) new
    later more is None s f = some_apart f
    later more is (Some ms) s f =
        let h = more ms (sym (later_first b k ls is) ∙ found) s in
        (h.0, subst (λ (ks : List Link). Changes b l (offer bytes l) (k ∷ ls) ks) (some_same f) (behind b l (offer bytes l) k ls ms is h.1))

    at : ((ms : List Link) → link_to b ls ≡ Some l → offer_to b bytes ls ≡ Some ms → (has_room bytes l ≡ true) × Changes b l (offer bytes l) ls ms)
        → (t : Bool) → nat_eq k.peer b ≡ t → (has_room bytes l ≡ true) × Changes b l (offer bytes l) (k ∷ ls) new
    at more true is = room is (has_room bytes k) refl (sym (here_is b bytes k ls (has_room bytes k) is refl) ∙ e)
    at more false is = later more is (offer_to b bytes ls) refl (sym (later_is b bytes k ls is) ∙ e)

-- ---- taking

pub record Takes (b : ℕ) (bytes : List ℕ) (l : Link) (old : List Link) : Type 0 where
  pub taken : (take_from b bytes old).taken ≡ (take_bytes bytes l).0
  pub links : Changes b l (take_bytes bytes l).1 old (take_from b bytes old).links

pub took : (b : ℕ) (bytes : List ℕ) (l : Link) (old : List Link) → (take_bytes bytes l).1.peer ≡ l.peer → link_to b old ≡ Some l → Takes b bytes l old
unfolding take_from
took b bytes l [] peer found = some_apart found
took b bytes l (k ∷ ls) peer found = at (took b bytes l ls peer) (nat_eq k.peer b) refl
  where
    by : Bool → Taking
    by t = if t then taking_on (take_bytes bytes k) k ls else record (take_from b bytes ls) { links = k ∷ (take_from b bytes ls).links }

    front : k ≡ l → nat_eq k.peer b ≡ true → ((by true).taken ≡ (take_bytes bytes l).0) × Changes b l (take_bytes bytes l).1 (k ∷ ls) (by true).links
    front one is =
        subst (λ (x : Link). (x.peer ≡ k.peer → (take_bytes bytes x).1.peer ≡ x.peer) → ((by true).taken ≡ (take_bytes bytes x).0) × Changes b x (take_bytes bytes x).1 (k ∷ ls) (by true).links) one
        (λ p. (refl, at_front b k (take_bytes bytes k).1 ls is (p refl))) (λ q. peer)

    at : (link_to b ls ≡ Some l → Takes b bytes l ls) → (t : Bool) → nat_eq k.peer b ≡ t → Takes b bytes l (k ∷ ls)
    at more true is =
        let h = front (some_same (sym (first_is b k ls is) ∙ found)) is in
        record { taken = ap (λ t. (by t).taken) is ∙ h.0; links = subst (λ (t : Bool). Changes b l (take_bytes bytes l).1 (k ∷ ls) (by t).links) (sym is) h.1 }
    at more false is =
        let h = more (sym (later_first b k ls is) ∙ found) in
        record {
          taken = ap (λ t. (by t).taken) is ∙ h.taken;
          links = subst (λ (t : Bool). Changes b l (take_bytes bytes l).1 (k ∷ ls) (by t).links) (sym is) (behind b l (take_bytes bytes l).1 k ls (take_from b bytes ls).links is h.links);
        }

-- no link is the sender's
pub took_none : (b : ℕ) (bytes : List ℕ) (old : List Link) → link_to b old ≡ None → ((take_from b bytes old).taken ≡ taken.Noise) × ((take_from b bytes old).links ≡ old)
unfolding take_from
took_none b bytes [] none = (refl, refl)
took_none b bytes (k ∷ ls) none = at (took_none b bytes ls) (nat_eq k.peer b) refl
  where
    by : Bool → Taking
    by t = if t then taking_on (take_bytes bytes k) k ls else record (take_from b bytes ls) { links = k ∷ (take_from b bytes ls).links }

    at : (link_to b ls ≡ None → ((take_from b bytes ls).taken ≡ taken.Noise) × ((take_from b bytes ls).links ≡ ls))
        → (t : Bool) → nat_eq k.peer b ≡ t → ((by (nat_eq k.peer b)).taken ≡ taken.Noise) × ((by (nat_eq k.peer b)).links ≡ k ∷ ls)
    at more true is = some_apart (sym none ∙ first_is b k ls is)
    at more false is =
        let h = more (sym (later_first b k ls is) ∙ none) in
        (ap (λ t. (by t).taken) is ∙ h.0, ap (λ t. (by t).links) is ∙ ap (λ ks. k ∷ ks) h.1)

-- ---- pushes

pub pushed : (now c : ℕ) (ls : List Link) → link_to c (push_all now ls) ≡ option_map (push now) (link_to c ls)
unfolding push_all push
pushed now c [] = refl
pushed now c (k ∷ ls) = at (nat_eq k.peer c) (pushed now c ls)
  where
    at : (t : Bool) → link_to c (map (push now) ls) ≡ option_map (push now) (link_to c ls)
        → cond t (Some (push now k)) (link_to c (map (push now) ls)) ≡ option_map (push now) (cond t (Some k) (link_to c ls))
    at true h = refl
    at false h = h

pub pushed_peers : (now : ℕ) (ls : List Link) → map (λ k. k.peer) (push_all now ls) ≡ map (λ k. k.peer) ls
unfolding push_all push
pushed_peers now [] = refl
pushed_peers now (k ∷ ls) = ap (λ ps. k.peer ∷ ps) (pushed_peers now ls)
