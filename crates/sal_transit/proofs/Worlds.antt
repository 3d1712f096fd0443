-- A turn of one node of a world.
use Rattle.std.proofs.Common.{◌≡◌, ℕ, zero, suc, ◌+◌, ◌≤◌, Bool, true, false, List, [], ◌∷◌, ◌++◌, length, map, Option, Some, None, refl, sym, ap, subst, subst₂, ◌∙◌, arith, inl, inr}
use Rattle.std.specs.Prelude.{if◌then◌else◌, nat_eq, nat_le, slice_get, slice_set, ◌⊎◌, flat_map}
use Rattle.std.specs.List.{cons_option}
use Rattle.std.proofs.lemmas.Bool.{eqb-true, and_parts, leb-true}
use Rattle.std.proofs.lemmas.List.{map-append}
use Rattle.sal_value.specs.declared.value.DecodeFault.{DecodeFault}
use Rattle.sal_source.specs.Table.{total}
use Rattle.sal_source.proofs.Same.{total-append}
use Rattle.sal_mail.specs.declared.plan.Plan.{Plan}
use Rattle.sal_mail.specs.declared.envelope.Envelope.{Envelope}
use Rattle.sal_envelope.specs.Decoding.{decoded_envelope}
use Rattle.std.specs.Prelude.{Result, Ok, Err}
use Rattle.sal_carriage.specs.declared.datagram.Datagram.{Datagram}
use Rattle.sal_carriage.specs.declared.datagram.Taken.{Taken}
use Rattle.sal_carriage.specs.Link.{Link}
use Rattle.sal_carriage.specs.Laws.{envelope_of}
use Rattle.sal_carriage.proofs.Due.{some_apart, some_same}
use Rattle.sal_node.specs.declared.constants.TheConstants.{FIRST_SERVICE}
use Rattle.sal_node.specs.declared.parcel.Parcel.{Parcel}
use Rattle.sal_node.specs.Links.{offer_all, due_on, push_all, take_datagram}
use Rattle.sal_pieces.specs.Pieces.{Piece}
use Rattle.sal_pieces.proofs.Order.{total_flat}
use Rattle.sal_routing.specs.State.{Theatre}
use Rattle.sal_service.specs.Service.{Service}
use Rattle.sal_unseen.specs.Desks.{decoded_pieces, sent_pieces}
use Rattle.sal_world.specs.declared.packet.Packet.{Packet}
use Rattle.sal_world.specs.World.{World, Lists, Letter, letter_by, links_of, links_at, letters, letters_between}
use Rattle.sal_world.specs.Pieces.{envelope_pieces, letter_pieces}
use Rattle.sal_world.specs.Turns.{packet_of}
use Rattle.sal_transit.specs.Standing.{Ends, NetStands, NodesStand, LinksStand}
use Rattle.sal_transit.specs.Letters.{letters_on, letters_of, with_links, AreOfferedBy, letters_of_parcels, Delivers}
use Rattle.sal_transit.specs.Worlds.{Moves, taken_pieces, IsSameNode}
use Rattle.sal_transit.proofs.Offering.{become_letters, put_own, put_again}
use Rattle.sal_transit.proofs.Delivering.{take_letters}
use Rattle.sal_transit.proofs.Pushing.{keep_letters}
use Rattle.sal_transit.proofs.Placing.{End, found, found_low, placed, got_set, set_length, or_else, found_append}

abbrev pub ends_of : World → Ends
ends_of w = λ n. links_at n w

abbrev pub datagrams : List Packet → List Datagram
datagrams ps = map (λ x. x.datagram) ps

-- ---- one node is another one

-- the links of node n are these
pub record Puts (w v : World) (n : ℕ) (ls : List Link) : Type 0 where
  pub plan : v.plan ≡ w.plan
  pub nodes : NodesStand v
  pub links : (m : ℕ) → links_at m v ≡ with_links n ls (ends_of w) m

abbrev theatre_end : Theatre → End
theatre_end t = (t.me, t.links)

abbrev service_end : Service → End
service_end s = (FIRST_SERVICE + s.number, s.links)

same_list : {A : Type 0} (xs : List A) (k : ℕ) (x : A) → slice_get xs k ≡ Some x → slice_set xs k x ≡ xs
same_list [] k x e = refl
same_list (y ∷ xs) zero x e = ap (λ z. z ∷ xs) (sym (some_same e))
same_list (y ∷ xs) (suc k) x e = ap (λ zs. y ∷ zs) (same_list xs k x e)

module _ (w : World) (nodes : NodesStand w) (packets : List Packet) (lists : Lists) where
  few_theatres : length w.theatres ≤ 8
  few_theatres =
      let p = and_parts (nat_le (length w.plan.theatres) 8) (nat_le (length w.plan.names) 4) nodes.few in
      omega (arith, nodes.theatre_count, leb-true (length w.plan.theatres) 8 p.0)

  module _ (k : ℕ) (t u : Theatre) (got : slice_get w.theatres k ≡ Some t) (same : IsSameNode t u) where
    theatre_links : (m : ℕ) → links_at m (record w { theatres = slice_set w.theatres k u }) ≡ with_links k u.links (ends_of w) m
    theatre_links m =
        let rest : List End = map service_end w.services in
        let zero_k : 0 + k ≡ k = omega arith in
        ap links_of (found_append m (map theatre_end (slice_set w.theatres k u)) rest)
        ∙ ap (λ o. links_of (or_else o (found m rest))) (placed (λ (x : Theatre). x.me) (λ (x : Theatre). x.links) 0 k m w.theatres t u (λ j x e. (nodes.theatres j x e).0 ∙ omega arith) got same.me)
        ∙ (λ i. links_of (or_else (if nat_eq m (zero_k i) then Some (m, u.links) else found m (map theatre_end w.theatres)) (found m rest)))
        ∙ at (nat_eq m k)
      where
        at : (b : Bool) → links_of (or_else (if b then Some (m, u.links) else found m (map theatre_end w.theatres)) (found m (map service_end w.services))) ≡ (if b then u.links else links_at m w)
        at true = refl
        at false = sym (ap links_of (found_append m (map theatre_end w.theatres) (map service_end w.services)))

    pub theatre_put : Puts w (record w { theatres = slice_set w.theatres k u; packets = packets; lists = lists }) k u.links
    theatre_put = record {
      plan = refl;
      nodes = record {
        few = nodes.few;
        theatre_count = set_length w.theatres k u ∙ nodes.theatre_count;
        theatres = λ j x e. at j x (got_set w.theatres k j x u e);
        services = nodes.services;
      };
      links = theatre_links;
    }
      where
        at : (j : ℕ) (x : Theatre) → ((x ≡ u) × (j ≡ k)) ⊎ (slice_get w.theatres j ≡ Some x) → (x.me ≡ j) × (x.plan ≡ w.plan)
        at j x (inl h) =
            let old = nodes.theatres k t got in
            (ap (λ (z : Theatre). z.me) h.0 ∙ same.me ∙ old.0 ∙ sym h.1, ap (λ (z : Theatre). z.plan) h.0 ∙ same.plan ∙ old.1)
        at j x (inr h) = nodes.theatres j x h

  module _ (k : ℕ) (s u : Service) (got : slice_get w.services k ≡ Some s) (number : u.number ≡ s.number) (plan : u.plan ≡ s.plan) where
    service_links : (m : ℕ) → links_at m (record w { services = slice_set w.services k u }) ≡ with_links (FIRST_SERVICE + k) u.links (ends_of w) m
    service_links m =
        let front : List End = map theatre_end w.theatres in
        ap links_of (found_append m front (map service_end (slice_set w.services k u)))
        ∙ ap (λ o. links_of (or_else (found m front) o))
        (placed (λ (x : Service). FIRST_SERVICE + x.number) (λ (x : Service). x.links) FIRST_SERVICE k m w.services s u (λ j x e. ap (λ z. FIRST_SERVICE + z) (nodes.services j x e).0) got (ap (λ z. FIRST_SERVICE + z) number))
        ∙ at (found m front) refl (nat_eq m (FIRST_SERVICE + k)) refl
        ∙ (λ i. if nat_eq m (FIRST_SERVICE + k) then u.links else links_of (sym (found_append m front (map service_end w.services)) i))
      where
        at : (o : Option End) → found m (map theatre_end w.theatres) ≡ o → (b : Bool) → nat_eq m (FIRST_SERVICE + k) ≡ b
            → links_of (or_else o (if b then Some (m, u.links) else found m (map service_end w.services)))
            ≡ (if b then u.links else links_of (or_else o (found m (map service_end w.services))))
        at None e true is = refl
        at None e false is = refl
        at (Some x) e true is =
            let low = found_low (λ (x : Theatre). x.me) (λ (x : Theatre). x.links) 0 m w.theatres x (λ j x e. (nodes.theatres j x e).0 ∙ omega arith) e in
            let same = eqb-true m (FIRST_SERVICE + k) is in
            absurd (omega (arith, low, same, few_theatres))
        at (Some x) e false is = refl

    pub service_put : Puts w (record w { services = slice_set w.services k u; packets = packets; lists = lists }) (FIRST_SERVICE + k) u.links
    service_put = record {
      plan = refl;
      nodes = record {
        few = nodes.few;
        theatre_count = nodes.theatre_count;
        theatres = nodes.theatres;
        services = λ j x e. at j x (got_set w.services k j x u e);
      };
      links = service_links;
    }
      where
        at : (j : ℕ) (x : Service) → ((x ≡ u) × (j ≡ k)) ⊎ (slice_get w.services j ≡ Some x) → (x.number ≡ j) × (x.plan ≡ w.plan)
        at j x (inl h) =
            let old = nodes.services k s got in
            (ap (λ (z : Service). z.number) h.0 ∙ number ∙ old.0 ∙ sym h.1, ap (λ (z : Service). z.plan) h.0 ∙ plan ∙ old.1)
        at j x (inr h) = nodes.services j x h

-- the links of a node that stands there
pub theatre_has : (w : World) → NodesStand w → (k : ℕ) (t : Theatre) → slice_get w.theatres k ≡ Some t → links_at k w ≡ t.links
theatre_has w nodes k t got =
    ap (λ (ts : List Theatre). links_at k (record w { theatres = ts })) (sym (same_list w.theatres k t got))
    ∙ theatre_links w nodes w.packets w.lists k t t got (record { me = refl; plan = refl }) k
    ∙ put_own k t.links (ends_of w)

pub service_has : (w : World) → NodesStand w → (k : ℕ) (s : Service) → slice_get w.services k ≡ Some s → links_at (FIRST_SERVICE + k) w ≡ s.links
service_has w nodes k s got =
    ap (λ (ss : List Service). links_at (FIRST_SERVICE + k) (record w { services = ss })) (sym (same_list w.services k s got))
    ∙ service_links w nodes w.packets w.lists k s s got refl refl (FIRST_SERVICE + k)
    ∙ put_own (FIRST_SERVICE + k) s.links (ends_of w)

-- ---- pieces of letters

module _ (f : Piece → ℕ) where
  one_read : (node : ℕ) (r : Result Envelope DecodeFault) (rest : List Letter) → total f (letter_pieces (cons_option (letter_by node r) rest)) ≡ total f (decoded_pieces r) + total f (letter_pieces rest)
  one_read node (Ok e) rest = total-append f (envelope_pieces e) (letter_pieces rest)
  one_read node (Err fault) rest = omega arith

  pub parcels_total : (ps : List Parcel) → total f (letter_pieces (letters_of_parcels ps)) ≡ total f (sent_pieces ps)
  parcels_total [] = refl
  parcels_total (p ∷ ps) =
      let more = parcels_total ps in
      let one = one_read p.to (decoded_envelope p.bytes) (letters_of_parcels ps) in
      let apart = total-append f (decoded_pieces (decoded_envelope p.bytes)) (sent_pieces ps) in
      omega (arith, more, one, apart)

  pub taken_total : (node : ℕ) (es : List (List ℕ)) → total f (letter_pieces (letters_of node es)) ≡ total f (flat_map (λ bytes. decoded_pieces (decoded_envelope bytes)) es)
  taken_total node [] = refl
  taken_total node (e ∷ es) =
      let more = taken_total node es in
      let one = one_read node (decoded_envelope e) (letters_of node es) in
      let apart = total-append f (decoded_pieces (decoded_envelope e)) (flat_map (λ bytes. decoded_pieces (decoded_envelope bytes)) es) in
      omega (arith, more, one, apart)

-- ---- a turn of a node

letters_are : (w : World) → letters w ≡ letters_on w.plan (ends_of w)
unfolding letters letters_between
letters_are w = refl

module _ (w v : World) (n : ℕ) (ls : List Link) (p : Puts w v n ls) where
  abbrev later : Ends
  later = with_links n ls (ends_of w)

  later_is : later ≡ ends_of v
  later_is = λ i m. sym (p.links m) i

  letters_after : letters v ≡ letters_on w.plan later
  letters_after = letters_are v ∙ (λ i. letters_on (p.plan i) (sym later_is i))

  pub moved : NetStands w.plan (datagrams v.packets) later → (came sent : List Letter)
      → ((h : Letter → ℕ) → total h came + total h (letters_on w.plan later) ≡ total h sent + total h (letters_on w.plan (ends_of w)))
      → (cp sp : List Piece) → ((f : Piece → ℕ) → total f (letter_pieces came) ≡ total f cp) → ((f : Piece → ℕ) → total f (letter_pieces sent) ≡ total f sp)
      → Moves w v cp sp
  moved net came sent sums cp sp cs ss = record {
    stands = record { nodes = p.nodes; net = subst₂ (λ (plan : Plan) (e : Ends). NetStands plan (datagrams v.packets) e) (sym p.plan) later_is net };
    pieces = record {
      weighs = λ f.
          let h : Letter → ℕ = λ l. total f (envelope_pieces l.1) in
          let flat : (xs : List Letter) → total f (letter_pieces xs) ≡ total h xs = λ xs. total_flat f (λ l. envelope_pieces l.1) xs in
          let sum = sums h in
          let now = ap (total h) letters_after in
          let before = ap (total h) (letters_are w) in
          omega (
            arith,
            sum,
            now,
            before,
            flat came,
            flat sent,
            flat (letters v),
            flat (letters w),
            cs f,
            ss f,
            total-append f cp (letter_pieces (letters v)),
            total-append f sp (letter_pieces (letters w)),
          );
    };
  }

  -- it took no datagram
  pub sends : LinksStand w → datagrams v.packets ≡ datagrams w.packets → (ps : List Parcel) → AreOfferedBy n w.plan ps → offer_all ps (links_at n w) ≡ Some ls
      → Moves w v [] (sent_pieces ps)
  sends stands same ps good e =
      let o = become_letters w.plan (datagrams w.packets) (ends_of w) n ps ls stands.net good e in
      moved (subst (λ ds. NetStands w.plan ds later) (sym same) o.stands) [] (letters_of_parcels ps)
      (λ h. let a = o.letters.weighs h in let b = total-append h (letters_of_parcels ps) (letters_on w.plan (ends_of w)) in omega (arith, a, b))
      [] (sent_pieces ps) (λ f. refl) (λ f. parcels_total f ps)

  -- it took packet i
  pub takes : LinksStand w → datagrams v.packets ≡ datagrams w.packets → (i : ℕ) (d : Datagram) → slice_get (datagrams w.packets) i ≡ Some d → d.to ≡ n
      → (ps : List Parcel) → AreOfferedBy n w.plan ps → offer_all ps (take_datagram d.bytes (links_at n w)).links ≡ Some ls
      → Moves w v (taken_pieces (take_datagram d.bytes (links_at n w)).taken) (sent_pieces ps)
  takes stands same i d got to ps good e =
      let t = subst (λ (m : ℕ). Delivers w.plan (datagrams w.packets) (ends_of w) m d.bytes (take_datagram d.bytes (links_at m w)).taken (take_datagram d.bytes (links_at m w)).links) to
      (take_letters w.plan (datagrams w.packets) (ends_of w) i d stands.net got) in
      let took : List Link = (take_datagram d.bytes (links_at n w)).links in
      let brought : Taken = (take_datagram d.bytes (links_at n w)).taken in
      let between : Ends = with_links n took (ends_of w) in
      let o = become_letters w.plan (datagrams w.packets) between n ps ls t.stands good (ap (offer_all ps) (put_own n took (ends_of w)) ∙ e) in
      let again : with_links n ls between ≡ later = λ i m. put_again n took ls (ends_of w) m i in
      moved (subst₂ (λ ds (e : Ends). NetStands w.plan ds e) (sym same) again o.stands) (letters_of n (envelope_of brought)) (letters_of_parcels ps)
      (λ h.
      let a = t.letters.weighs h in
      let b = total-append h (letters_of n (envelope_of brought)) (letters_on w.plan between) in
      let c = o.letters.weighs h in
      let q = total-append h (letters_of_parcels ps) (letters_on w.plan between) in
      let g = ap (λ z. total h (letters_on w.plan z)) again in
      omega (arith, a, b, c, q, g))
      (taken_pieces brought) (sent_pieces ps) (λ f. taken_total f n (envelope_of brought)) (λ f. parcels_total f ps)

  -- what is due was sent
  pub pushes : LinksStand w → (now : ℕ) → ls ≡ push_all now (links_at n w) → datagrams v.packets ≡ datagrams w.packets ++ due_on now (links_at n w) → Moves w v [] []
  pushes stands now e same =
      let k = keep_letters w.plan (datagrams w.packets) (ends_of w) n now stands.net in
      let ends : with_links n (push_all now (links_at n w)) (ends_of w) ≡ later = ap (λ ks. with_links n ks (ends_of w)) (sym e) in
      moved (subst₂ (λ ds (e : Ends). NetStands w.plan ds e) (sym same) ends k.stands) [] []
      (λ h. let a = k.letters.weighs h in let g = ap (λ z. total h (letters_on w.plan z)) ends in omega (arith, a, g))
      [] [] (λ f. refl) (λ f. refl)

-- ---- packets

pub marked_same : (ps : List Packet) (i : ℕ) (x : Packet) → slice_get ps i ≡ Some x → datagrams (slice_set ps i (record x { delivered = true })) ≡ datagrams ps
marked_same [] i x e = some_apart e
marked_same (p ∷ ps) zero x e = ap (λ (z : Packet). z.datagram ∷ datagrams ps) (sym (some_same e))
marked_same (p ∷ ps) (suc i) x e = ap (λ ds. p.datagram ∷ ds) (marked_same ps i x e)

pub datagram_at : (ps : List Packet) (i : ℕ) (x : Packet) → slice_get ps i ≡ Some x → slice_get (datagrams ps) i ≡ Some x.datagram
datagram_at [] i x e = some_apart e
datagram_at (p ∷ ps) zero x e = ap (λ (z : Packet). Some z.datagram) (some_same e)
datagram_at (p ∷ ps) (suc i) x e = datagram_at ps i x e

packets_of : (ds : List Datagram) → datagrams (map packet_of ds) ≡ ds
packets_of [] = refl
packets_of (d ∷ ds) = ap (λ es. d ∷ es) (packets_of ds)

pub packets_added : (ps : List Packet) (ds : List Datagram) → datagrams (ps ++ map packet_of ds) ≡ datagrams ps ++ ds
packets_added ps ds = map-append (λ (x : Packet). x.datagram) ps (map packet_of ds) ∙ ap (λ es. datagrams ps ++ es) (packets_of ds)
