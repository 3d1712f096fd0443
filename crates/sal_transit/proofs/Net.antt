-- The links of all nodes once one link of one node is another one.
use Rattle.std.proofs.Common.{◌≡◌, ℕ, ◌+◌, ◌≤◌, Bool, true, false, ◌&&◌, not, List, [], ◌∷◌, map, Some, refl, sym, ap, subst₂, ◌∙◌, arith}
use Rattle.std.specs.Prelude.{if◌then◌else◌, nat_eq, flat_map}
use Rattle.std.proofs.lemmas.Bool.{eqb-true, eq-eqb, and_parts, and_from, not-true}
use Rattle.sal_source.specs.Table.{total}
use Rattle.sal_pieces.proofs.Order.{total_flat, total_ext}
use Rattle.sal_mail.specs.declared.plan.Plan.{Plan}
use Rattle.sal_carriage.specs.declared.datagram.Datagram.{Datagram}
use Rattle.sal_carriage.specs.Link.{Link}
use Rattle.sal_carriage.proofs.Due.{some_apart, some_same}
use Rattle.sal_node.specs.Links.{node_numbers}
use Rattle.sal_world.specs.World.{Letter, letters_to, link_to}
use Rattle.sal_transit.specs.Standing.{times, is_node, are_peers, Carries, Ends, sent_between, NetStands}
use Rattle.sal_transit.specs.Letters.{letters_on, with_links, letters_from}
use Rattle.sal_transit.proofs.Sums.{one_pair}
use Rattle.sal_transit.proofs.Changing.{Changes, first_is, later_first, flip}

abbrev pub peers_of : List Link → List ℕ
peers_of ls = map (λ l. l.peer) ls

-- ---- a link is there where its peer is counted

pub found_once : (b : ℕ) (ls : List Link) → 1 ≤ times b (peers_of ls) → (l : Link) × (link_to b ls ≡ Some l)
found_once b [] e = absurd (omega (arith, e))
found_once b (k ∷ ls) e = at (found_once b ls) (nat_eq k.peer b) refl e
  where
    at : (1 ≤ times b (peers_of ls) → (l : Link) × (link_to b ls ≡ Some l)) → (t : Bool) → nat_eq k.peer b ≡ t → 1 ≤ (if t then 1 else 0) + times b (peers_of ls)
        → (l : Link) × (link_to b (k ∷ ls) ≡ Some l)
    at more true is some = (k, first_is b k ls is)
    at more false is some = let h = more (omega (arith, some)) in (h.0, later_first b k ls is ∙ h.1)

pub found_counts : (b : ℕ) (ls : List Link) (l : Link) → link_to b ls ≡ Some l → 1 ≤ times b (peers_of ls)
found_counts b [] l e = some_apart e
found_counts b (k ∷ ls) l e = at (found_counts b ls l) (nat_eq k.peer b) refl
  where
    at : (link_to b ls ≡ Some l → 1 ≤ times b (peers_of ls)) → (t : Bool) → nat_eq k.peer b ≡ t → 1 ≤ (if t then 1 else 0) + times b (peers_of ls)
    at more true is = omega arith
    at more false is = omega (arith, more (sym (later_first b k ls is) ∙ e))

pub found_peer : (b : ℕ) (ls : List Link) (l : Link) → link_to b ls ≡ Some l → l.peer ≡ b
found_peer b [] l e = some_apart e
found_peer b (k ∷ ls) l e = at (found_peer b ls l) (nat_eq k.peer b) refl
  where
    at : (link_to b ls ≡ Some l → l.peer ≡ b) → (t : Bool) → nat_eq k.peer b ≡ t → l.peer ≡ b
    at more true is = ap (λ (x : Link). x.peer) (some_same (sym e ∙ first_is b k ls is)) ∙ eqb-true k.peer b is
    at more false is = more (sym (later_first b k ls is) ∙ e)

-- ---- peers

pub record Peers (a b : ℕ) (plan : Plan) : Type 0 where
  pub first : times a (node_numbers plan) ≡ 1
  pub second : times b (node_numbers plan) ≡ 1
  pub apart : nat_eq a b ≡ false

pub peers_are : (a b : ℕ) (plan : Plan) → are_peers a b plan ≡ true → Peers a b plan
peers_are a b plan e =
    let p = and_parts (is_node a plan) (is_node b plan && not (nat_eq a b)) e in
    let q = and_parts (is_node b plan) (not (nat_eq a b)) p.1 in
    record { first = eqb-true _ _ p.0; second = eqb-true _ _ q.0; apart = not-true (nat_eq a b) q.1 }

pub peers_swap : (a b : ℕ) (plan : Plan) → are_peers a b plan ≡ true → are_peers b a plan ≡ true
peers_swap a b plan e =
    let h = peers_are a b plan e in
    and_from (is_node b plan) (is_node a plan && not (nat_eq b a)) (eq-eqb _ _ h.second)
    (and_from (is_node a plan) (not (nat_eq b a)) (eq-eqb _ _ h.first) (ap not (flip a b h.apart)))

and_swap : (x y : Bool) → (x && y) ≡ false → (y && x) ≡ false
and_swap true true e = e
and_swap true false e = refl
and_swap false true e = refl
and_swap false false e = refl

-- ---- sums over letters

pub letters_total : (f : Letter → ℕ) (plan : Plan) (ends : Ends)
    → total f (letters_on plan ends) ≡ total (λ a. total (λ b. total f (letters_from ends a b)) (node_numbers plan)) (node_numbers plan)
letters_total f plan ends =
    total_flat f (λ a. flat_map (letters_from ends a) (node_numbers plan)) (node_numbers plan)
    ∙ total_ext (λ a. total f (flat_map (letters_from ends a) (node_numbers plan))) (λ a. total (λ b. total f (letters_from ends a b)) (node_numbers plan))
    (λ a. total_flat f (letters_from ends a) (node_numbers plan)) (node_numbers plan)

-- the letters of one pair are others
pub pair_total : (f : Letter → ℕ) (plan : Plan) (old new : Ends) (a b : ℕ) → Peers a b plan
    → ((c d : ℕ) → (nat_eq c a && nat_eq d b) ≡ false → letters_from new c d ≡ letters_from old c d)
    → total f (letters_on plan new) + total f (letters_from old a b) ≡ total f (letters_on plan old) + total f (letters_from new a b)
pair_total f plan old new a b p others =
    let h = one_pair (λ c d. total f (letters_from old c d)) (λ c d. total f (letters_from new c d)) a b (node_numbers plan) (λ c d e. ap (total f) (others c d e)) p.first p.second in
    omega (arith, h, letters_total f plan old, letters_total f plan new)

-- ---- what stands

module _ (plan : Plan) (ds : List Datagram) (ends : Ends) (stands : NetStands plan ds ends) where
  pub found_peers : (a b : ℕ) (l : Link) → link_to b (ends a) ≡ Some l → are_peers a b plan ≡ true
  found_peers a b l e = at (are_peers a b plan) refl (stands.linked a b)
    where
      at : (t : Bool) → are_peers a b plan ≡ t → times b (peers_of (ends a)) ≡ (if t then 1 else 0) → are_peers a b plan ≡ true
      at true is n = is
      at false is n = absurd (omega (arith, n, found_counts b (ends a) l e))

  pub peers_found : (a b : ℕ) → are_peers a b plan ≡ true → (l : Link) × (link_to b (ends a) ≡ Some l)
  peers_found a b e =
      let one : times b (peers_of (ends a)) ≡ 1 = stands.linked a b ∙ ap (λ t. if t then 1 else 0) e in
      found_once b (ends a) (omega (arith, one))

-- ---- one link is another one

module _ (n b : ℕ) (l k m : Link) (ends : Ends) (ls : List Link) (h : Changes b l k (ends n) ls) (other : link_to n (ends b) ≡ Some m) (apart : nat_eq n b ≡ false) where
  abbrev new : Ends
  new = with_links n ls ends

  own : new n ≡ ls
  own = ap (λ t. if t then ls else ends n) (eq-eqb n n refl)

  away : (x : ℕ) → nat_eq x n ≡ false → new x ≡ ends x
  away x e = ap (λ t. if t then ls else ends x) e

  link_same : (x y : ℕ) → (nat_eq x n && nat_eq y b) ≡ false → link_to y (new x) ≡ link_to y (ends x)
  link_same x y e = at (nat_eq x n) refl e
    where
      at : (t : Bool) → nat_eq x n ≡ t → (t && nat_eq y b) ≡ false → link_to y (if nat_eq x n then ls else ends x) ≡ link_to y (ends x)
      at true is f = ap (λ u. link_to y (if u then ls else ends x)) is ∙ h.others y f ∙ ap (λ z. link_to y (ends z)) (sym (eqb-true x n is))
      at false is f = ap (λ u. link_to y (if u then ls else ends x)) is

  pub link_now : link_to b (new n) ≡ Some k
  link_now = ap (link_to b) own ∙ h.now

  pub link_other : link_to n (new b) ≡ Some m
  link_other = ap (link_to n) (away b (flip n b apart)) ∙ other

  peers_same : (x : ℕ) → peers_of (new x) ≡ peers_of (ends x)
  peers_same x = at (nat_eq x n) refl
    where
      at : (t : Bool) → nat_eq x n ≡ t → peers_of (if nat_eq x n then ls else ends x) ≡ peers_of (ends x)
      at true is = ap (λ u. peers_of (if u then ls else ends x)) is ∙ h.peers ∙ ap (λ z. peers_of (ends z)) (sym (eqb-true x n is))
      at false is = ap (λ u. peers_of (if u then ls else ends x)) is

  pub net_stands : (plan : Plan) (ds : List Datagram) → NetStands plan ds ends → Carries (sent_between n b ds) k m → Carries (sent_between b n ds) m k → NetStands plan ds new
  net_stands plan ds stands there back = record {
    linked = λ a c. ap (times c) (peers_same a) ∙ stands.linked a c;
    carry = λ c d x y e f. at c d x y e f (nat_eq c n && nat_eq d b) (nat_eq c b && nat_eq d n) refl refl;
  }
    where
      is_there : (x y : Link) → link_to b (new n) ≡ Some x → link_to n (new b) ≡ Some y → Carries (sent_between n b ds) x y
      is_there x y e f = subst₂ (Carries (sent_between n b ds)) (some_same (sym link_now ∙ e)) (some_same (sym link_other ∙ f)) there

      is_back : (x y : Link) → link_to n (new b) ≡ Some x → link_to b (new n) ≡ Some y → Carries (sent_between b n ds) x y
      is_back x y e f = subst₂ (Carries (sent_between b n ds)) (some_same (sym link_other ∙ e)) (some_same (sym link_now ∙ f)) back

      at : (c d : ℕ) (x y : Link) → link_to d (new c) ≡ Some x → link_to c (new d) ≡ Some y → (s t : Bool) → (nat_eq c n && nat_eq d b) ≡ s → (nat_eq c b && nat_eq d n) ≡ t
          → Carries (sent_between c d ds) x y
      at c d x y e f true t is os =
          let p = and_parts (nat_eq c n) (nat_eq d b) is in
          subst₂ (λ (c d : ℕ). (x y : Link) → link_to d (new c) ≡ Some x → link_to c (new d) ≡ Some y → Carries (sent_between c d ds) x y)
          (sym (eqb-true c n p.0)) (sym (eqb-true d b p.1)) is_there x y e f
      at c d x y e f false true is os =
          let p = and_parts (nat_eq c b) (nat_eq d n) os in
          subst₂ (λ (c d : ℕ). (x y : Link) → link_to d (new c) ≡ Some x → link_to c (new d) ≡ Some y → Carries (sent_between c d ds) x y)
          (sym (eqb-true c b p.0)) (sym (eqb-true d n p.1)) is_back x y e f
      at c d x y e f false false is os =
          stands.carry c d x y (sym (link_same c d is) ∙ e) (sym (link_same d c (and_swap (nat_eq c b) (nat_eq d n) os)) ∙ f)

  letters_same : (c d : ℕ) → (nat_eq c n && nat_eq d b) ≡ false → (nat_eq c b && nat_eq d n) ≡ false → letters_from new c d ≡ letters_from ends c d
  letters_same c d e f = λ i. letters_to d (link_same c d e i) (link_same d c (and_swap (nat_eq c b) (nat_eq d n) f) i)

  pub now_there : letters_from new n b ≡ letters_to b (Some k) (Some m)
  now_there = λ i. letters_to b (link_now i) (link_other i)

  pub now_back : letters_from new b n ≡ letters_to n (Some m) (Some k)
  now_back = λ i. letters_to n (link_other i) (link_now i)

  pub old_there : letters_from ends n b ≡ letters_to b (Some l) (Some m)
  old_there = λ i. letters_to b (h.here i) (other i)

  pub old_back : letters_from ends b n ≡ letters_to n (Some m) (Some l)
  old_back = λ i. letters_to n (other i) (h.here i)

  -- all but what goes from n to b is as before
  pub from_total : (f : Letter → ℕ) (plan : Plan) → Peers n b plan → letters_to n (Some m) (Some k) ≡ letters_to n (Some m) (Some l)
      → total f (letters_on plan new) + total f (letters_to b (Some l) (Some m)) ≡ total f (letters_on plan ends) + total f (letters_to b (Some k) (Some m))
  from_total f plan p same =
      let h = pair_total f plan ends new n b p (λ c d e. at c d e (nat_eq c b && nat_eq d n) refl) in
      omega (arith, h, ap (total f) old_there, ap (total f) now_there)
    where
      at : (c d : ℕ) → (nat_eq c n && nat_eq d b) ≡ false → (t : Bool) → (nat_eq c b && nat_eq d n) ≡ t → letters_from new c d ≡ letters_from ends c d
      at c d e true is =
          let p = and_parts (nat_eq c b) (nat_eq d n) is in
          subst₂ (λ (c d : ℕ). letters_from new c d ≡ letters_from ends c d) (sym (eqb-true c b p.0)) (sym (eqb-true d n p.1)) (now_back ∙ same ∙ sym old_back)
      at c d e false is = letters_same c d e is

  -- all but what goes from b to n is as before
  pub to_total : (f : Letter → ℕ) (plan : Plan) → Peers b n plan → letters_to b (Some k) (Some m) ≡ letters_to b (Some l) (Some m)
      → total f (letters_on plan new) + total f (letters_to n (Some m) (Some l)) ≡ total f (letters_on plan ends) + total f (letters_to n (Some m) (Some k))
  to_total f plan p same =
      let h = pair_total f plan ends new b n p (λ c d e. at c d e (nat_eq c n && nat_eq d b) refl) in
      omega (arith, h, ap (total f) old_back, ap (total f) now_back)
    where
      at : (c d : ℕ) → (nat_eq c b && nat_eq d n) ≡ false → (t : Bool) → (nat_eq c n && nat_eq d b) ≡ t → letters_from new c d ≡ letters_from ends c d
      at c d e true is =
          let p = and_parts (nat_eq c n) (nat_eq d b) is in
          subst₂ (λ (c d : ℕ). letters_from new c d ≡ letters_from ends c d) (sym (eqb-true c n p.0)) (sym (eqb-true d b p.1)) (now_there ∙ same ∙ sym old_there)
      at c d e false is = letters_same c d is e
