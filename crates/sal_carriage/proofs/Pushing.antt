-- What is sent stays in transit.
use Rattle.std.proofs.Common.{◌≡◌, ℕ, ◌-◌, Bool, true, false, List, [], ◌∷◌, ◌++◌, map, length, take, drop, refl, sym, ap, ◌∙◌, arith}
use Rattle.std.specs.Prelude.{if◌then◌else◌}
use Rattle.std.proofs.lemmas.List.{drop-map, map-append, length-map, take-append-drop}
use Rattle.sal_carriage.specs.declared.fragment.Fragment.{Fragment}
use Rattle.sal_carriage.specs.Link.{window, mark, push}
use Rattle.sal_carriage.specs.Transit.{envelopes_of, open_end, in_transit}
use Rattle.sal_carriage.specs.Laws.{load_of, PushesChangeNothing}
use Rattle.sal_carriage.proofs.Honesty.{all_same}

-- which envelopes fragments make depends on what the fragments carry
envelopes_by : List ℕ → List (List ℕ × Bool) → List (List ℕ)
envelopes_by part [] = []
envelopes_by part (x ∷ xs) = if x.1 then (part ++ x.0) ∷ envelopes_by [] xs else envelopes_by (part ++ x.0) xs

envelopes_is : (part : List ℕ) (fs : List Fragment) → envelopes_of part fs ≡ envelopes_by part (map load_of fs)
unfolding envelopes_of envelopes_by
envelopes_is part [] = refl
envelopes_is part (f ∷ fs) = at f.last (envelopes_is [] fs) (envelopes_is (part ++ f.payload) fs)
  where
    at : (b : Bool) → envelopes_of [] fs ≡ envelopes_by [] (map load_of fs) → envelopes_of (part ++ f.payload) fs ≡ envelopes_by (part ++ f.payload) (map load_of fs)
        → (if b then (part ++ f.payload) ∷ envelopes_of [] fs else envelopes_of (part ++ f.payload) fs)
        ≡ (if b then (part ++ f.payload) ∷ envelopes_by [] (map load_of fs) else envelopes_by (part ++ f.payload) (map load_of fs))
    at true d e = ap (λ zs. (part ++ f.payload) ∷ zs) d
    at false d e = e

same_loads : (now : ℕ) (fs : List Fragment) → map load_of (map (mark now) (take window fs) ++ drop window fs) ≡ map load_of fs
same_loads now fs =
    map-append load_of (map (mark now) (take window fs)) (drop window fs)
    ∙ ap (λ zs. zs ++ map load_of (drop window fs)) (all_same now (take window fs))
    ∙ sym (map-append load_of (take window fs) (drop window fs)) ∙ ap (map load_of) (take-append-drop window fs)

same_envelopes : (part : List ℕ) (n now : ℕ) (fs : List Fragment) → envelopes_of part (drop n (map (mark now) (take window fs) ++ drop window fs)) ≡ envelopes_of part (drop n fs)
same_envelopes part n now fs =
    envelopes_is part (drop n (map (mark now) (take window fs) ++ drop window fs))
    ∙ ap (envelopes_by part) (sym (drop-map load_of n (map (mark now) (take window fs) ++ drop window fs)) ∙ ap (drop n) (same_loads now fs) ∙ drop-map load_of n fs)
    ∙ sym (envelopes_is part (drop n fs))

ends_by : List ℕ → List (List ℕ × Bool) → List ℕ
ends_by part [] = part
ends_by part (x ∷ xs) = if x.1 then ends_by [] xs else ends_by (part ++ x.0) xs

ends_is : (part : List ℕ) (fs : List Fragment) → open_end part fs ≡ ends_by part (map load_of fs)
unfolding open_end ends_by
ends_is part [] = refl
ends_is part (f ∷ fs) = at f.last (ends_is [] fs) (ends_is (part ++ f.payload) fs)
  where
    at : (b : Bool) → open_end [] fs ≡ ends_by [] (map load_of fs) → open_end (part ++ f.payload) fs ≡ ends_by (part ++ f.payload) (map load_of fs)
        → (if b then open_end [] fs else open_end (part ++ f.payload) fs) ≡ (if b then ends_by [] (map load_of fs) else ends_by (part ++ f.payload) (map load_of fs))
    at true d e = d
    at false d e = e

same_ends : (part : List ℕ) (n now : ℕ) (fs : List Fragment) → open_end part (drop n (map (mark now) (take window fs) ++ drop window fs)) ≡ open_end part (drop n fs)
same_ends part n now fs =
    ends_is part (drop n (map (mark now) (take window fs) ++ drop window fs))
    ∙ ap (ends_by part) (sym (drop-map load_of n (map (mark now) (take window fs) ++ drop window fs)) ∙ ap (drop n) (same_loads now fs) ∙ drop-map load_of n fs)
    ∙ sym (ends_is part (drop n fs))

same_length : (now : ℕ) (fs : List Fragment) → length (map (mark now) (take window fs) ++ drop window fs) ≡ length fs
same_length now fs = sym (length-map (map (mark now) (take window fs) ++ drop window fs) load_of) ∙ ap length (same_loads now fs) ∙ length-map fs load_of

pub change_nothing : PushesChangeNothing
unfolding push in_transit
change_nothing s r now h = record {
  there = record {
    peers = record { program = h.peers.program; there = h.peers.there; here = h.peers.here };
    taken = h.taken;
    offered = (let e = same_length now s.unacknowledged in let o = h.offered in omega (arith, e, o));
  };
  back = λ g. record { peers = record { program = g.peers.program; there = g.peers.there; here = g.peers.here }; taken = g.taken; offered = g.offered };
  carried = same_envelopes r.part (r.wanted - s.acknowledged) now s.unacknowledged;
  other = refl;
  whole = λ w. same_ends r.part (r.wanted - s.acknowledged) now s.unacknowledged ∙ w;
}
