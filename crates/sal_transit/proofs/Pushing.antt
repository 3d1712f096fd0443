-- What is due on a node's links is sent.
use Rattle.std.proofs.Common.{◌≡◌, ℕ, ◌+◌, ◌≤◌, Bool, true, false, cond, List, [], ◌∷◌, ◌++◌, length, map, filter, take, Option, Some, None, option_map, refl, sym, ap, subst, subst₂, ◌∙◌, arith, append-nil, true≢false}
use Rattle.std.specs.Prelude.{if◌then◌else◌, nat_eq}
use Rattle.std.proofs.lemmas.Bool.{eqb-true, eq-eqb, and_left, and_right}
use Rattle.std.proofs.lemmas.List.{map-append}
use Rattle.sal_source.specs.Table.{total}
use Rattle.sal_pieces.proofs.Order.{total_ext}
use Rattle.sal_mail.specs.declared.plan.Plan.{Plan}
use Rattle.sal_carriage.specs.declared.datagram.Datagram.{Datagram}
use Rattle.sal_carriage.specs.declared.fragment.Fragment.{Fragment}
use Rattle.sal_carriage.specs.Frames.{Frame, frame_bytes, frame_header}
use Rattle.sal_carriage.specs.Link.{Link, window, is_due, data_frame, acknowledgement, due_data, or_acknowledgement, due, datagram_of, push}
use Rattle.sal_carriage.specs.Transit.{in_transit, IsInStep}
use Rattle.sal_carriage.specs.Exchange.{ArePackets}
use Rattle.sal_carriage.proofs.Due.{some_apart, some_same}
use Rattle.sal_carriage.proofs.Pushing.{change_nothing}
use Rattle.sal_node.specs.Links.{node_numbers, sender_of, due_on, push_all}
use Rattle.sal_world.specs.World.{letters_to, link_to}
use Rattle.sal_transit.specs.Standing.{times, are_peers, Carries, Ends, is_between, sent_between, NetStands}
use Rattle.sal_transit.specs.Letters.{letters_on, letters_of, with_links, letters_from, StandsWith, PushesKeepLetters}
use Rattle.sal_transit.proofs.Changing.{first_is, later_first, flip, pushed, pushed_peers}
use Rattle.sal_transit.proofs.Carrying.{push_carries, push_back}
use Rattle.sal_transit.proofs.Net.{peers_of, peers_are, peers_swap, found_peer, found_counts, found_peers, peers_found, letters_total}

-- ---- which of the datagrams go from one node to another

filter-append : {A : Type 0} (test : A → Bool) (xs ys : List A) → filter test (xs ++ ys) ≡ filter test xs ++ filter test ys
filter-append test [] ys = refl
filter-append {A} test (x ∷ xs) ys = at (test x) (filter-append test xs ys)
  where
    at : (t : Bool) → filter test (xs ++ ys) ≡ filter test xs ++ filter test ys
        → cond t (x ∷ filter test (xs ++ ys)) (filter test (xs ++ ys)) ≡ cond t (x ∷ filter test xs) (filter test xs) ++ filter test ys
    at true e = ap (λ zs. x ∷ zs) e
    at false e = e

between_append : (a b : ℕ) (ds es : List Datagram) → sent_between a b (ds ++ es) ≡ sent_between a b ds ++ sent_between a b es
between_append a b ds es = ap (map (λ d. d.bytes)) (filter-append (is_between a b) ds es) ∙ map-append (λ d. d.bytes) (filter (is_between a b) ds) (filter (is_between a b) es)

-- what is among packets are packets
picked : (all : List (List ℕ × Bool)) (s : Link) (a b : ℕ) (fs : List Frame) → ArePackets all s (map frame_bytes fs) → ArePackets all s (sent_between a b (map datagram_of fs))
picked all s a b [] h = tt
picked all s a b (f ∷ fs) h = at (is_between a b (datagram_of f)) (picked all s a b fs h.1)
  where
    at : (t : Bool) → ArePackets all s (sent_between a b (map datagram_of fs))
        → ArePackets all s (map (λ d. d.bytes) (cond t (datagram_of f ∷ filter (is_between a b) (map datagram_of fs)) (filter (is_between a b) (map datagram_of fs))))
    at true g = (h.0, g)
    at false g = g

-- none of them passes
abbrev NonePasses : (Datagram → Bool) → List Datagram → Type 0
NonePasses test ds = filter test ds ≡ []

none_more : (test : Datagram → Bool) (d : Datagram) (ds : List Datagram) → test d ≡ false → NonePasses test ds → NonePasses test (d ∷ ds)
none_more test d ds e h = ap (λ t. cond t (d ∷ filter test ds) (filter test ds)) e ∙ h

module _ (test : Datagram → Bool) (k : Link) (carried : (n : ℕ) (f : Fragment) → test (datagram_of (data_frame k n f)) ≡ false) (only : test (datagram_of (acknowledgement k)) ≡ false) where
  none_data : (now n : ℕ) (fs : List Fragment) → NonePasses test (map datagram_of (due_data now k n fs))
  unfolding due_data
  none_data now n [] = refl
  none_data now n (f ∷ fs) = at (is_due now f) (none_data now (n + 1) fs)
    where
      at : (t : Bool) → NonePasses test (map datagram_of (due_data now k (n + 1) fs)) → NonePasses test (map datagram_of ((if t then data_frame k n f ∷ [] else []) ++ due_data now k (n + 1) fs))
      at true h = none_more test (datagram_of (data_frame k n f)) (map datagram_of (due_data now k (n + 1) fs)) (carried n f) h
      at false h = h

  none_or : (fs : List Frame) → NonePasses test (map datagram_of fs) → NonePasses test (map datagram_of (or_acknowledgement k fs))
  none_or [] h = at k.owes
    where
      at : (t : Bool) → NonePasses test (map datagram_of (if t then acknowledgement k ∷ [] else []))
      at true = none_more test (datagram_of (acknowledgement k)) [] only refl
      at false = refl
  none_or (f ∷ fs) h = h

  none_due : (now : ℕ) → NonePasses test (map datagram_of (due now k))
  unfolding due
  none_due now = none_or (due_data now k k.acknowledged (take window k.unacknowledged)) (none_data now k.acknowledged (take window k.unacknowledged))

-- a link to another peer
none_to : (now a b : ℕ) (k : Link) → nat_eq k.peer b ≡ false → NonePasses (is_between a b) (map datagram_of (due now k))
none_to now a b k e =
    none_due (is_between a b) k
    (λ n f. and_left (nat_eq k.peer b) (nat_eq (sender_of (frame_bytes (data_frame k n f))) a) e)
    (and_left (nat_eq k.peer b) (nat_eq (sender_of (frame_bytes (acknowledgement k))) a) e) now

sender_is : (f : Frame) → length f.program ≡ 8 → sender_of (frame_bytes f) ≡ f.from
unfolding frame_bytes frame_header
sender_is f eight = at f.program eight
  where
    at : (p : List ℕ) → length p ≡ 8 → sender_of (frame_bytes (record f { program = p })) ≡ f.from
    at [] e = absurd (omega (arith, e))
    at (a ∷ []) e = absurd (omega (arith, e))
    at (a ∷ b ∷ []) e = absurd (omega (arith, e))
    at (a ∷ b ∷ c ∷ []) e = absurd (omega (arith, e))
    at (a ∷ b ∷ c ∷ d ∷ []) e = absurd (omega (arith, e))
    at (a ∷ b ∷ c ∷ d ∷ g ∷ []) e = absurd (omega (arith, e))
    at (a ∷ b ∷ c ∷ d ∷ g ∷ h ∷ []) e = absurd (omega (arith, e))
    at (a ∷ b ∷ c ∷ d ∷ g ∷ h ∷ k ∷ []) e = absurd (omega (arith, e))
    at (a ∷ b ∷ c ∷ d ∷ g ∷ h ∷ k ∷ l ∷ []) e = refl
    at (a ∷ b ∷ c ∷ d ∷ g ∷ h ∷ k ∷ l ∷ x ∷ xs) e = absurd (omega (arith, e))

-- a link of another node
none_from : (now a b n : ℕ) (k : Link) → k.me ≡ n → length k.program ≡ 8 → nat_eq n a ≡ false → NonePasses (is_between a b) (map datagram_of (due now k))
none_from now a b n k own long e =
    none_due (is_between a b) k
    (λ m f. and_right (nat_eq k.peer b) (nat_eq (sender_of (frame_bytes (data_frame k m f))) a) (ap (λ z. nat_eq z a) (sender_is (data_frame k m f) long ∙ own) ∙ e))
    (and_right (nat_eq k.peer b) (nat_eq (sender_of (frame_bytes (acknowledgement k))) a) (ap (λ z. nat_eq z a) (sender_is (acknowledgement k) long ∙ own) ∙ e)) now

-- ---- of all links of a node

none_append : (test : Datagram → Bool) (ds es : List Datagram) → NonePasses test ds → NonePasses test es → NonePasses test (ds ++ es)
none_append test ds es h g = filter-append test ds es ∙ ap (λ xs. xs ++ filter test es) h ∙ g

none_without : (now a b : ℕ) (ls : List Link) → times b (peers_of ls) ≡ 0 → NonePasses (is_between a b) (due_on now ls)
unfolding due_on
none_without now a b [] e = refl
none_without now a b (k ∷ ls) e = at (none_without now a b ls) (nat_eq k.peer b) refl e
  where
    at : (times b (peers_of ls) ≡ 0 → NonePasses (is_between a b) (due_on now ls)) → (t : Bool) → nat_eq k.peer b ≡ t → (if t then 1 else 0) + times b (peers_of ls) ≡ 0
        → NonePasses (is_between a b) (map datagram_of (due now k) ++ due_on now ls)
    at more true is n = absurd (omega (arith, n))
    at more false is n = none_append (is_between a b) (map datagram_of (due now k)) (due_on now ls) (none_to now a b k is) (more (omega (arith, n)))

-- of the links of a node only the one to the peer sends to it
picked_due : (all : List (List ℕ × Bool)) (now a b : ℕ) (l : Link) (ls : List Link) → times b (peers_of ls) ≡ 1 → link_to b ls ≡ Some l → ArePackets all l (map frame_bytes (due now l))
    → ArePackets all l (sent_between a b (due_on now ls))
unfolding due_on
picked_due all now a b l [] e here h = some_apart here
picked_due all now a b l (k ∷ ls) e here h = at (picked_due all now a b l ls) (nat_eq k.peer b) refl e
  where
    at : (times b (peers_of ls) ≡ 1 → link_to b ls ≡ Some l → ArePackets all l (map frame_bytes (due now l)) → ArePackets all l (sent_between a b (due_on now ls)))
        → (t : Bool) → nat_eq k.peer b ≡ t → (if t then 1 else 0) + times b (peers_of ls) ≡ 1 → ArePackets all l (sent_between a b (map datagram_of (due now k) ++ due_on now ls))
    at more true is n =
        let same : l ≡ k = some_same (sym here ∙ first_is b k ls is) in
        let whole : sent_between a b (map datagram_of (due now l)) ≡ sent_between a b (map datagram_of (due now k) ++ due_on now ls) =
        ap (λ (x : Link). sent_between a b (map datagram_of (due now x))) same
        ∙ sym (append-nil (sent_between a b (map datagram_of (due now k))))
        ∙ ap (λ z. sent_between a b (map datagram_of (due now k)) ++ map (λ d. d.bytes) z) (sym (none_without now a b ls (omega (arith, n))))
        ∙ sym (between_append a b (map datagram_of (due now k)) (due_on now ls)) in
        subst (ArePackets all l) whole (picked all l a b (due now l) h)
    at more false is n =
        let whole : sent_between a b (due_on now ls) ≡ sent_between a b (map datagram_of (due now k) ++ due_on now ls) =
        ap (λ z. map (λ d. d.bytes) z ++ sent_between a b (due_on now ls)) (sym (none_to now a b k is)) ∙ sym (between_append a b (map datagram_of (due now k)) (due_on now ls)) in
        subst (ArePackets all l) whole (more (omega (arith, n)) (sym (later_first b k ls is) ∙ here) h)

-- each link of a node, where none has the peer of another
abbrev Each : (Link → Type 0) → List Link → Type 0
Each P [] = Unit {0}
Each P (k ∷ ls) = P k × Each P ls

each_found : (P : Link → Type 0) (ls : List Link) → ((c : ℕ) → times c (peers_of ls) ≤ 1) → ((c : ℕ) (l : Link) → link_to c ls ≡ Some l → P l) → Each P ls
each_found P [] once h = tt
each_found P (k ∷ ls) once h = (
  h k.peer k (first_is k.peer k ls (eq-eqb k.peer k.peer refl)),
  each_found P ls (λ c. fewer c) (λ c l e. h c l (at c l e (nat_eq k.peer c) refl)),
)
  where
    fewer : (c : ℕ) → times c (peers_of ls) ≤ 1
    fewer c = let o = once c in omega (arith, o)

    at : (c : ℕ) (l : Link) → link_to c ls ≡ Some l → (t : Bool) → nat_eq k.peer c ≡ t → link_to c (k ∷ ls) ≡ Some l
    at c l e true is =
        let some = found_counts c ls l e in
        let front : ◌≡◌ {A = ℕ} (if nat_eq k.peer c then 1 else 0) 1 = ap (λ (u : Bool). if u then 1 else 0) is in
        let o = once c in
        absurd (omega (arith, some, front, o))
    at c l e false is = later_first c k ls is ∙ e

record IsOwn (n : ℕ) (k : Link) : Type 0 where
  me : k.me ≡ n
  program : length k.program ≡ 8

none_of_others : (now a b n : ℕ) (ls : List Link) → Each (IsOwn n) ls → nat_eq n a ≡ false → NonePasses (is_between a b) (due_on now ls)
unfolding due_on
none_of_others now a b n [] h e = refl
none_of_others now a b n (k ∷ ls) h e =
    none_append (is_between a b) (map datagram_of (due now k)) (due_on now ls) (none_from now a b n k h.0.me h.0.program e) (none_of_others now a b n ls h.1 e)

-- ---- the links of all nodes

abbrev push_if : ℕ → Bool → Option Link → Option Link
push_if now true o = option_map (push now) o
push_if now false o = o

receiver_pushed : (node now : ℕ) (s r : Link) → letters_to node (Some s) (Some (push now r)) ≡ letters_to node (Some s) (Some r)
unfolding push in_transit
receiver_pushed node now s r = refl

letters_pushed : (node now : ℕ) (t u : Bool) (x y : Option Link) → ((l m : Link) → x ≡ Some l → y ≡ Some m → IsInStep l m)
    → letters_to node (push_if now t x) (push_if now u y) ≡ letters_to node x y
letters_pushed node now t u None None step = at t u
  where
    at : (t u : Bool) → letters_to node (push_if now t None) (push_if now u None) ≡ []
    at true true = refl
    at true false = refl
    at false true = refl
    at false false = refl
letters_pushed node now t u None (Some m) step = at t u
  where
    at : (t u : Bool) → letters_to node (push_if now t None) (push_if now u (Some m)) ≡ []
    at true true = refl
    at true false = refl
    at false true = refl
    at false false = refl
letters_pushed node now t u (Some l) None step = at t u
  where
    at : (t u : Bool) → letters_to node (push_if now t (Some l)) (push_if now u None) ≡ []
    at true true = refl
    at true false = refl
    at false true = refl
    at false false = refl
letters_pushed node now t u (Some l) (Some m) step = receiver u ∙ sender t
  where
    receiver : (u : Bool) → letters_to node (push_if now t (Some l)) (push_if now u (Some m)) ≡ letters_to node (push_if now t (Some l)) (Some m)
    receiver true = by t
      where
        by : (t : Bool) → letters_to node (push_if now t (Some l)) (Some (push now m)) ≡ letters_to node (push_if now t (Some l)) (Some m)
        by true = receiver_pushed node now (push now l) m
        by false = receiver_pushed node now l m
    receiver false = refl

    sender : (t : Bool) → letters_to node (push_if now t (Some l)) (Some m) ≡ letters_to node (Some l) (Some m)
    sender true = ap (letters_of node) (change_nothing l m now (step l m refl refl)).carried
    sender false = refl

none_pushed : (now : ℕ) (t : Bool) {x : Link} {B : Type 0} → push_if now t None ≡ Some x → B
none_pushed now true e = some_apart e
none_pushed now false e = some_apart e

module _ (plan : Plan) (ds : List Datagram) (ends : Ends) (n now : ℕ) (stands : NetStands plan ds ends) where
  abbrev new : Ends
  new = with_links n (push_all now (ends n)) ends

  abbrev fresh : List Datagram
  fresh = due_on now (ends n)

  link_is : (x y : ℕ) → link_to y (new x) ≡ push_if now (nat_eq x n) (link_to y (ends x))
  link_is x y = at (nat_eq x n) refl
    where
      at : (t : Bool) → nat_eq x n ≡ t → link_to y (if t then push_all now (ends n) else ends x) ≡ push_if now t (link_to y (ends x))
      at true is = pushed now y (ends n) ∙ ap (λ z. option_map (push now) (link_to y (ends z))) (sym (eqb-true x n is))
      at false is = refl

  peers_same : (x : ℕ) → peers_of (new x) ≡ peers_of (ends x)
  peers_same x = at (nat_eq x n) refl
    where
      at : (t : Bool) → nat_eq x n ≡ t → peers_of (if t then push_all now (ends n) else ends x) ≡ peers_of (ends x)
      at true is = pushed_peers now (ends n) ∙ ap (λ z. peers_of (ends z)) (sym (eqb-true x n is))
      at false is = refl

  once_each : (c : ℕ) → times c (peers_of (ends n)) ≤ 1
  once_each c = at (are_peers n c plan) (stands.linked n c)
    where
      at : (t : Bool) → times c (peers_of (ends n)) ≡ (if t then 1 else 0) → times c (peers_of (ends n)) ≤ 1
      at true e = omega (arith, e)
      at false e = omega (arith, e)

  own_one : (c : ℕ) (l : Link) → link_to c (ends n) ≡ Some l → IsOwn n l
  own_one c l e =
      let m = peers_found plan ds ends stands c n (peers_swap n c plan (found_peers plan ds ends stands n c l e)) in
      let h = stands.carry n c l m.0 e m.1 in
      record { me = sym h.step.peers.here ∙ found_peer n (ends c) m.0 m.1; program = h.program }

  unsent : (c d : ℕ) → nat_eq n c ≡ false → sent_between c d ds ≡ sent_between c d (ds ++ fresh)
  unsent c d e =
      sym (append-nil (sent_between c d ds))
      ∙ ap (λ z. sent_between c d ds ++ map (λ x. x.bytes) z) (sym (none_of_others now c d n (ends n) (each_found (IsOwn n) (ends n) once_each own_one) e))
      ∙ sym (between_append c d ds fresh)

  carry_at : (c d : ℕ) (t u : Bool) → nat_eq c n ≡ t → nat_eq d n ≡ u → (o q : Option Link) → link_to d (ends c) ≡ o → link_to c (ends d) ≡ q
      → (x y : Link) → push_if now t o ≡ Some x → push_if now u q ≡ Some y → Carries (sent_between c d (ds ++ fresh)) x y
  carry_at c d t u is us None q e f x y g k = none_pushed now t g
  carry_at c d t u is us (Some l) None e f x y g k = none_pushed now u k
  carry_at c d true true is us (Some l) (Some m) e f x y g k =
      let apart = (peers_are c d plan (found_peers plan ds ends stands c d l e)).apart in
      absurd (true≢false (sym (eq-eqb c d (eqb-true c n is ∙ sym (eqb-true d n us))) ∙ apart))
  carry_at c d true false is us (Some l) (Some m) e f x y g k =
      let here : c ≡ n = eqb-true c n is in
      let one : times d (peers_of (ends n)) ≡ 1 =
      ap (λ z. times d (peers_of (ends z))) (sym here) ∙ stands.linked c d ∙ ap (λ (u : Bool). if u then 1 else 0) (found_peers plan ds ends stands c d l e) in
      let h = stands.carry c d l m e f in
      let done = push_carries (sent_between c d ds) (sent_between d c ds) l m now (sent_between c d fresh) (stands.carry d c m l f e) h
      (picked_due h.all now c d l (ends n) one (ap (λ z. link_to d (ends z)) (sym here) ∙ e)) in
      subst₂ (Carries (sent_between c d (ds ++ fresh))) (some_same g) (some_same k) (subst (λ z. Carries z (push now l) m) (sym (between_append c d ds fresh)) done)
  carry_at c d false true is us (Some l) (Some m) e f x y g k =
      subst₂ (Carries (sent_between c d (ds ++ fresh))) (some_same g) (some_same k)
      (subst (λ z. Carries z l (push now m)) (unsent c d (flip c n is)) (push_back (sent_between c d ds) l m now (stands.carry c d l m e f)))
  carry_at c d false false is us (Some l) (Some m) e f x y g k =
      subst₂ (Carries (sent_between c d (ds ++ fresh))) (some_same g) (some_same k)
      (subst (λ z. Carries z l m) (unsent c d (flip c n is)) (stands.carry c d l m e f))

  same_from : (c d : ℕ) → letters_from new c d ≡ letters_from ends c d
  same_from c d =
      (λ i. letters_to d (link_is c d i) (link_is d c i))
      ∙ letters_pushed d now (nat_eq c n) (nat_eq d n) (link_to d (ends c)) (link_to c (ends d)) (λ l m e f. (stands.carry c d l m e f).step)

  pub keep_one : StandsWith plan (ds ++ fresh) new (letters_on plan ends)
  keep_one = record {
    stands = record {
      linked = λ a b. ap (times b) (peers_same a) ∙ stands.linked a b;
      carry = λ c d x y e f.
          carry_at c d (nat_eq c n) (nat_eq d n) refl refl (link_to d (ends c)) (link_to c (ends d)) refl refl x y (sym (link_is c d) ∙ e) (sym (link_is d c) ∙ f);
    };
    letters = record {
      weighs = λ f.
          letters_total f plan new
          ∙ total_ext (λ a. total (λ b. total f (letters_from new a b)) (node_numbers plan)) (λ a. total (λ b. total f (letters_from ends a b)) (node_numbers plan))
          (λ a. total_ext (λ b. total f (letters_from new a b)) (λ b. total f (letters_from ends a b)) (λ b. ap (total f) (same_from a b)) (node_numbers plan)) (node_numbers plan)
          ∙ sym (letters_total f plan ends);
    };
  }

pub keep_letters : PushesKeepLetters
keep_letters plan ds ends n now stands = keep_one plan ds ends n now stands
