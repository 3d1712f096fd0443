-- A new world.
use Rattle.std.proofs.Common.{◌≡◌, ℕ, zero, suc, ◌+◌, ◌<◌, ◌≤◌, Bool, true, false, ◌&&◌, not, cond, List, [], ◌∷◌, ◌++◌, length, map, Option, Some, None, refl, sym, ap, subst₂, ◌∙◌, arith, inl, inr}
use Rattle.std.specs.Prelude.{if◌then◌else◌, nat_eq, nat_le, slice_get, ◌⊎◌, flat_map}
use Rattle.std.proofs.lemmas.Bool.{eqb-true, eqb-false, and_parts, leb-true, cases_lt}
use Rattle.sal_source.proofs.Same.{total-append}
use Rattle.sal_mail.specs.declared.plan.Plan.{Plan}
use Rattle.sal_carriage.specs.Link.{Link, new_link}
use Rattle.sal_carriage.specs.Transit.{in_transit, envelopes_of}
use Rattle.sal_carriage.proofs.Due.{some_apart, some_same}
use Rattle.sal_node.specs.declared.constants.TheConstants.{FIRST_SERVICE}
use Rattle.sal_node.specs.Links.{numbers_from, node_numbers, links_to, new_links, has_few_nodes}
use Rattle.sal_routing.specs.State.{Theatre, new_theatre}
use Rattle.sal_service.specs.Service.{Service, new_service}
use Rattle.sal_world.specs.World.{new_world, links_of, links_at, letters, letters_between, letters_to, link_to}
use Rattle.sal_transit.specs.Standing.{times, is_node, are_peers, Carries}
use Rattle.sal_transit.specs.Worlds.{IsSilent, NewWorldsAreSilent}
use Rattle.sal_transit.proofs.Carrying.{new_carries}
use Rattle.sal_transit.proofs.Net.{peers_of}
use Rattle.sal_transit.proofs.Placing.{End, found, or_else, found_append}

-- ---- numbers

times_low : (m n c : ℕ) → m < n → times m (numbers_from n c) ≡ 0
unfolding numbers_from
times_low m n zero less = refl
times_low m n (suc c) less = at (times_low m (n + 1) c (omega (arith, less))) (nat_eq n m) refl
  where
    at : times m (numbers_from (n + 1) c) ≡ 0 → (t : Bool) → nat_eq n m ≡ t → (if t then 1 else 0) + times m (numbers_from (n + 1) c) ≡ 0
    at more true is = let same = eqb-true n m is in absurd (omega (arith, same, less))
    at more false is = omega (arith, more)

times_high : (m n c : ℕ) → n + c ≤ m → times m (numbers_from n c) ≡ 0
unfolding numbers_from
times_high m n zero high = refl
times_high m n (suc c) high = at (times_high m (n + 1) c (omega (arith, high))) (nat_eq n m) refl
  where
    at : times m (numbers_from (n + 1) c) ≡ 0 → (t : Bool) → nat_eq n m ≡ t → (if t then 1 else 0) + times m (numbers_from (n + 1) c) ≡ 0
    at more true is = let same = eqb-true n m is in absurd (omega (arith, same, high))
    at more false is = omega (arith, more)

times_most : (m n c : ℕ) → times m (numbers_from n c) ≤ 1
unfolding numbers_from
times_most m n zero = omega arith
times_most m n (suc c) = at (times_most m (n + 1) c) (nat_eq n m) refl
  where
    at : times m (numbers_from (n + 1) c) ≤ 1 → (t : Bool) → nat_eq n m ≡ t → (if t then 1 else 0) + times m (numbers_from (n + 1) c) ≤ 1
    at more true is =
        let same = eqb-true n m is in
        let none = times_low m (n + 1) c (omega (arith, same)) in
        omega (arith, none)
    at more false is = omega (arith, more)

nodes_most : (plan : Plan) → has_few_nodes plan ≡ true → (m : ℕ) → times m (node_numbers plan) ≤ 1
nodes_most plan few m = at (cases_lt m 8)
  where
    apart : times m (node_numbers plan) ≡ times m (numbers_from 0 (length plan.theatres)) + times m (numbers_from FIRST_SERVICE (length plan.names))
    apart = total-append (λ k. if nat_eq k m then 1 else 0) (numbers_from 0 (length plan.theatres)) (numbers_from FIRST_SERVICE (length plan.names))

    at : (m < 8) ⊎ (8 ≤ m) → times m (node_numbers plan) ≤ 1
    at (inl less) =
        let none = times_low m FIRST_SERVICE (length plan.names) less in
        let most = times_most m 0 (length plan.theatres) in
        omega (arith, apart, none, most)
    at (inr more) =
        let p = and_parts (nat_le (length plan.theatres) 8) (nat_le (length plan.names) 4) few in
        let small = leb-true (length plan.theatres) 8 p.0 in
        let none = times_high m 0 (length plan.theatres) (omega (arith, small, more)) in
        let most = times_most m FIRST_SERVICE (length plan.names) in
        omega (arith, apart, none, most)

shifted : (n c : ℕ) → map (λ j. FIRST_SERVICE + j) (numbers_from n c) ≡ numbers_from (FIRST_SERVICE + n) c
unfolding numbers_from
shifted n zero = refl
shifted n (suc c) =
    let next : FIRST_SERVICE + (n + 1) ≡ FIRST_SERVICE + n + 1 = omega arith in
    ap (λ ks. (FIRST_SERVICE + n) ∷ ks) (shifted (n + 1) c ∙ ap (λ k. numbers_from k c) next)

got_number : {A : Type 0} (make : ℕ → A) (n c k : ℕ) (x : A) → slice_get (map make (numbers_from n c)) k ≡ Some x → x ≡ make (n + k)
unfolding numbers_from
got_number make n zero k x e = some_apart e
got_number make n (suc c) zero x e = let same : n ≡ n + 0 = omega arith in sym (some_same e) ∙ ap make same
got_number make n (suc c) (suc k) x e = let same : n + 1 + k ≡ n + suc k = omega arith in got_number make (n + 1) c k x e ∙ ap make same

made_length : {A : Type 0} (make : ℕ → A) (n c : ℕ) → length (map make (numbers_from n c)) ≡ c
unfolding numbers_from
made_length make n zero = refl
made_length make n (suc c) = ap suc (made_length make (n + 1) c)

-- ---- the links of new nodes

module _ (program : List ℕ) (me : ℕ) where
  kept_by : Bool → ℕ → List Link → List Link
  kept_by t n rest = if t then rest else new_link program me n ∷ rest

  -- one to each other node
  times_linked : (b : ℕ) (ns : List ℕ) → times b (peers_of (links_to program me ns)) ≡ (if nat_eq me b then 0 else times b ns)
  unfolding links_to
  times_linked b [] = at (nat_eq me b)
    where
      at : (t : Bool) → ◌≡◌ {A = ℕ} 0 (if t then 0 else 0)
      at true = refl
      at false = refl
  times_linked b (n ∷ ns) = at (times_linked b ns) (nat_eq n me) refl (nat_eq me b) refl
    where
      at : times b (peers_of (links_to program me ns)) ≡ (if nat_eq me b then 0 else times b ns)
          → (t : Bool) → nat_eq n me ≡ t → (u : Bool) → nat_eq me b ≡ u
          → times b (peers_of (if t then links_to program me ns else new_link program me n ∷ links_to program me ns)) ≡ (if u then 0 else (if nat_eq n b then 1 else 0) + times b ns)
      at more true is true us = more ∙ ap (λ v. if v then 0 else times b ns) us
      at more true is false us =
          let none : ◌≡◌ {A = ℕ} (if nat_eq n b then 1 else 0) 0 = ap (λ z. if nat_eq z b then 1 else 0) (eqb-true n me is) ∙ ap (λ (v : Bool). if v then 1 else 0) us in
          let rest : times b (peers_of (links_to program me ns)) ≡ times b ns = more ∙ ap (λ v. if v then 0 else times b ns) us in
          omega (arith, none, rest)
      at more false is true us =
          let rest : times b (peers_of (links_to program me ns)) ≡ 0 = more ∙ ap (λ v. if v then 0 else times b ns) us in
          by (nat_eq n b) refl rest
        where
          by : (v : Bool) → nat_eq n b ≡ v → times b (peers_of (links_to program me ns)) ≡ 0 → (if v then 1 else 0) + times b (peers_of (links_to program me ns)) ≡ 0
          by true same rest = absurd (eqb-false n me is (eqb-true n b same ∙ sym (eqb-true me b us)))
          by false same rest = omega (arith, rest)
      at more false is false us =
          let rest : times b (peers_of (links_to program me ns)) ≡ times b ns = more ∙ ap (λ v. if v then 0 else times b ns) us in
          omega (arith, rest)

  linked_new : (b : ℕ) (ns : List ℕ) (l : Link) → link_to b (links_to program me ns) ≡ Some l → l ≡ new_link program me b
  unfolding links_to
  linked_new b [] l e = some_apart e
  linked_new b (n ∷ ns) l e = at (linked_new b ns l) (nat_eq n me) e
    where
      by : (link_to b (links_to program me ns) ≡ Some l → l ≡ new_link program me b) → (u : Bool) → nat_eq n b ≡ u
          → cond u (Some (new_link program me n)) (link_to b (links_to program me ns)) ≡ Some l → l ≡ new_link program me b
      by more true is f = sym (some_same f) ∙ ap (new_link program me) (eqb-true n b is)
      by more false is f = more f

      at : (link_to b (links_to program me ns) ≡ Some l → l ≡ new_link program me b) → (t : Bool)
          → link_to b (if t then links_to program me ns else new_link program me n ∷ links_to program me ns) ≡ Some l → l ≡ new_link program me b
      at more true f = more f
      at more false f = by more (nat_eq n b) refl f

none_started : (program : List ℕ) (a b : ℕ) → letters_to b (Some (new_link program a b)) (Some (new_link program b a)) ≡ []
unfolding in_transit envelopes_of
none_started program a b = refl

flat_none : {A B : Type 0} (g : A → List B) → ((x : A) → g x ≡ []) → (xs : List A) → flat_map g xs ≡ []
flat_none g none [] = refl
flat_none g none (x ∷ xs) = (λ i. none x i ++ flat_none g none xs i)

-- ---- the nodes of a new world

module _ (plan : Plan) (program : List ℕ) where
  abbrev start : ℕ → List Link
  start m = new_links program m plan

  module _ {A : Type 0} (make : ℕ → A) (number : ℕ → ℕ) (end : A → End) (is : (k : ℕ) → end (make k) ≡ (number k, start (number k))) (m : ℕ) where
    made_some : (ns : List ℕ) → 1 ≤ times m (map number ns) → found m (map end (map make ns)) ≡ Some (m, start m)
    made_some [] some = absurd (omega (arith, some))
    made_some (k ∷ ns) some = (λ i. cond (nat_eq (is k i).0 m) (Some (is k i)) (found m (map end (map make ns)))) ∙ at (made_some ns) (nat_eq (number k) m) refl some
      where
        at : (1 ≤ times m (map number ns) → found m (map end (map make ns)) ≡ Some (m, start m)) → (t : Bool) → nat_eq (number k) m ≡ t → 1 ≤ (if t then 1 else 0) + times m (map number ns)
            → cond t (Some (number k, start (number k))) (found m (map end (map make ns))) ≡ Some (m, start m)
        at more true same one = ap (λ z. Some (z, start z)) (eqb-true (number k) m same)
        at more false same one = more (omega (arith, one))

    made_none : (ns : List ℕ) → times m (map number ns) ≡ 0 → found m (map end (map make ns)) ≡ None
    made_none [] none = refl
    made_none (k ∷ ns) none = (λ i. cond (nat_eq (is k i).0 m) (Some (is k i)) (found m (map end (map make ns)))) ∙ at (made_none ns) (nat_eq (number k) m) refl none
      where
        at : (times m (map number ns) ≡ 0 → found m (map end (map make ns)) ≡ None) → (t : Bool) → nat_eq (number k) m ≡ t → (if t then 1 else 0) + times m (map number ns) ≡ 0
            → cond t (Some (number k, start (number k))) (found m (map end (map make ns))) ≡ None
        at more true same one = absurd (omega (arith, one))
        at more false same one = more (omega (arith, one))

  abbrev theatres : List ℕ
  theatres = numbers_from 0 (length plan.theatres)

  abbrev services : List ℕ
  services = numbers_from 0 (length plan.names)

  abbrev made_theatre : ℕ → Theatre
  made_theatre k = new_theatre k plan program

  abbrev made_service : ℕ → Service
  made_service j = new_service program j plan

  abbrev front : ℕ → Option End
  front m = found m (map (λ (t : Theatre). (t.me, t.links)) (map made_theatre theatres))

  abbrev back : ℕ → Option End
  back m = found m (map (λ (s : Service). (FIRST_SERVICE + s.number, s.links)) (map made_service services))

  same_numbers : (ns : List ℕ) → map (λ k. k) ns ≡ ns
  same_numbers [] = refl
  same_numbers (n ∷ ns) = ap (λ ks. n ∷ ks) (same_numbers ns)

  counted : (m : ℕ) → times m (node_numbers plan) ≡ times m (map (λ k. k) theatres) + times m (map (λ j. FIRST_SERVICE + j) services)
  counted m =
      total-append (λ k. if nat_eq k m then 1 else 0) theatres (numbers_from FIRST_SERVICE (length plan.names))
      ∙ (λ i. times m (sym (same_numbers theatres) i) + times m (sym (shifted 0 (length plan.names)) i))

  links_new : (m : ℕ) → links_at m (new_world plan program) ≡ links_of (or_else (front m) (back m))
  links_new m =
      ap links_of (found_append m (map (λ (t : Theatre). (t.me, t.links)) (map made_theatre theatres)) (map (λ (s : Service). (FIRST_SERVICE + s.number, s.links)) (map made_service services)))

  in_front : (m : ℕ) → 1 ≤ times m (map (λ k. k) theatres) → links_at m (new_world plan program) ≡ start m
  in_front m some = links_new m ∙ ap (λ o. links_of (or_else o (back m))) (made_some made_theatre (λ k. k) (λ (t : Theatre). (t.me, t.links)) (λ k. refl) m theatres some)

  behind : (m : ℕ) → times m (map (λ k. k) theatres) ≡ 0 → links_at m (new_world plan program) ≡ links_of (back m)
  behind m none = links_new m ∙ ap (λ o. links_of (or_else o (back m))) (made_none made_theatre (λ k. k) (λ (t : Theatre). (t.me, t.links)) (λ k. refl) m theatres none)

  links_there : (m : ℕ) → 1 ≤ times m (node_numbers plan) → links_at m (new_world plan program) ≡ start m
  links_there m some = at (times m (map (λ k. k) theatres)) refl
    where
      at : (n : ℕ) → times m (map (λ k. k) theatres) ≡ n → links_at m (new_world plan program) ≡ start m
      at zero none =
          let all = counted m in
          behind m none
          ∙ ap links_of (made_some made_service (λ j. FIRST_SERVICE + j) (λ (s : Service). (FIRST_SERVICE + s.number, s.links)) (λ k. refl) m services (omega (arith, all, none, some)))
      at (suc n) one = in_front m (omega (arith, one))

  links_nowhere : (m : ℕ) → times m (node_numbers plan) ≡ 0 → links_at m (new_world plan program) ≡ []
  links_nowhere m none =
      let all = counted m in
      behind m (omega (arith, all, none))
      ∙ ap links_of (made_none made_service (λ j. FIRST_SERVICE + j) (λ (s : Service). (FIRST_SERVICE + s.number, s.links)) (λ k. refl) m services (omega (arith, all, none)))

  started_new : (a b : ℕ) (l : Link) → link_to b (start a) ≡ Some l → l ≡ new_link program a b
  unfolding new_links
  started_new a b l e = linked_new program a b (node_numbers plan) l e

  times_started : (a b : ℕ) → times b (peers_of (start a)) ≡ (if nat_eq a b then 0 else times b (node_numbers plan))
  unfolding new_links
  times_started a b = times_linked program a b (node_numbers plan)

  -- ---- what stands

  module _ (few : has_few_nodes plan ≡ true) (long : length program ≡ 8) where
    not_one : (m : ℕ) → is_node m plan ≡ false → times m (node_numbers plan) ≡ 0
    not_one m is = at (times m (node_numbers plan)) refl
      where
        at : (n : ℕ) → times m (node_numbers plan) ≡ n → times m (node_numbers plan) ≡ 0
        at zero e = e
        at (suc n) e = let most = nodes_most plan few m in absurd (eqb-false (times m (node_numbers plan)) 1 is (omega (arith, e, most)))

    found_new : (a b : ℕ) (l : Link) → link_to b (links_at a (new_world plan program)) ≡ Some l → l ≡ new_link program a b
    found_new a b l e = at (is_node a plan) refl
      where
        at : (t : Bool) → is_node a plan ≡ t → l ≡ new_link program a b
        at true is = let one = eqb-true (times a (node_numbers plan)) 1 is in started_new a b l (sym (ap (link_to b) (links_there a (omega (arith, one)))) ∙ e)
        at false is = some_apart (sym (ap (link_to b) (links_nowhere a (not_one a is))) ∙ e)

    linked : (a b : ℕ) → times b (peers_of (links_at a (new_world plan program))) ≡ (if are_peers a b plan then 1 else 0)
    linked a b = at (is_node a plan) refl
      where
        peers : (u v : Bool) → is_node b plan ≡ u → nat_eq a b ≡ v → times b (peers_of (start a)) ≡ (if v then 0 else times b (node_numbers plan))
            → times b (peers_of (start a)) ≡ (if (u && not v) then 1 else 0)
        peers true true us vs e = e
        peers true false us vs e = e ∙ eqb-true (times b (node_numbers plan)) 1 us
        peers false true us vs e = e
        peers false false us vs e = e ∙ not_one b us

        at : (t : Bool) → is_node a plan ≡ t → times b (peers_of (links_at a (new_world plan program))) ≡ (if (is_node a plan && (is_node b plan && not (nat_eq a b))) then 1 else 0)
        at true is =
            let one = eqb-true (times a (node_numbers plan)) 1 is in
            ap (λ ls. times b (peers_of ls)) (links_there a (omega (arith, one)))
            ∙ peers (is_node b plan) (nat_eq a b) refl refl (times_started a b)
            ∙ ap (λ (t : Bool). if (t && (is_node b plan && not (nat_eq a b))) then 1 else 0) (sym is)
        at false is =
            ap (λ ls. times b (peers_of ls)) (links_nowhere a (not_one a is)) ∙ ap (λ (t : Bool). if (t && (is_node b plan && not (nat_eq a b))) then 1 else 0) (sym is)

    none_new : (a b : ℕ) (o q : Option Link) → link_to b (links_at a (new_world plan program)) ≡ o → link_to a (links_at b (new_world plan program)) ≡ q → letters_to b o q ≡ []
    none_new a b None None e f = refl
    none_new a b None (Some m) e f = refl
    none_new a b (Some l) None e f = refl
    none_new a b (Some l) (Some m) e f = (λ i. letters_to b (Some (found_new a b l e i)) (Some (found_new b a m f i))) ∙ none_started program a b

    none_between : (a b : ℕ) → letters_between (new_world plan program) a b ≡ []
    unfolding letters_between
    none_between a b = none_new a b (link_to b (links_at a (new_world plan program))) (link_to a (links_at b (new_world plan program))) refl refl

    no_letters : letters (new_world plan program) ≡ []
    unfolding letters
    no_letters =
        flat_none (λ a. flat_map (letters_between (new_world plan program) a) (node_numbers plan))
        (λ a. flat_none (letters_between (new_world plan program) a) (λ b. none_between a b) (node_numbers plan)) (node_numbers plan)

    pub silent : IsSilent (new_world plan program)
    silent = record {
      stands = record {
        nodes = record {
          few = few;
          theatre_count = made_length made_theatre 0 (length plan.theatres);
          theatres = λ k t e.
              let zero_k : 0 + k ≡ k = omega arith in
              let same = got_number made_theatre 0 (length plan.theatres) k t e in
              (ap (λ (x : Theatre). x.me) same ∙ zero_k, ap (λ (x : Theatre). x.plan) same);
          services = λ j s e.
              let zero_j : 0 + j ≡ j = omega arith in
              let same = got_number made_service 0 (length plan.names) j s e in
              (ap (λ (x : Service). x.number) same ∙ zero_j, ap (λ (x : Service). x.plan) same);
        };
        net = record {
          linked = linked;
          carry = λ a b l m e f. subst₂ (Carries []) (sym (found_new a b l e)) (sym (found_new b a m f)) (new_carries program a b long);
        };
      };
      none = no_letters;
    }

pub are_silent : NewWorldsAreSilent
are_silent plan program few long = silent plan program few long
