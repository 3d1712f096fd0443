-- Lists of items, each of which begins with a token of some set.
use Rattle.std.proofs.Common.{◌≡◌, inl, inr, ℕ, zero, suc, ◌≤◌, Bool, true, false, ◌||◌, if◌then◌else◌, List, [], ◌∷◌, ◌++◌, length, refl, sym, ◌∙◌, ap, subst, append_assoc, append-nil, length-append, arith}
use Rattle.std.specs.Prelude.{Ok, Err}
use Rattle.sal_grammar.specs.declared.class.Class.{Class}
use Rattle.sal_grammar.specs.declared.class.Class.TheVariants as k
use Rattle.sal_grammar.specs.declared.reason.Reason.TheVariants.{Depth}
use Rattle.sal_grammar.specs.Tokens.{Token, Set, class_of, next, none, both}
use Rattle.sal_grammar.specs.Parsers.{Parser, ◌>>=◌, pure, opened, many_from, many}
use Rattle.sal_grammar.proofs.Languages.{Seq, Just, Either, Deep, Twice, Star}
use Rattle.sal_grammar.proofs.Exactness.{Apart, Within, differ, Starts, Took, Judged, Same, Clear, Good, Follows, seq_judged}
use Rattle.sal_grammar.proofs.Choices.{nothing, lang_judged, where_judged, more_good, Leads, or_neither, Positive}

-- what may go on after a list: a further item, or what may go on after its last one (`h` if there is none)
abbrev pub after : {A : Type 0} → Set → (A → Set) → Set → List A → Set
after go m h [] k = go k || h k
after go m h (a ∷ xs) k = after go m (m a) xs k

or_left : (a b : Bool) → a || b ≡ false → a ≡ false
or_left false b e = refl
or_left true b e = e

or_right : (a b : Bool) → a || b ≡ false → b ≡ false
or_right false b e = e
or_right true b e = absurd (differ e)

-- what is asked of the items
pub record Items {A : Type 0} (go first : Set) (W : A → List Token → Type 0) (m : A → Set) : Type 0 where
  pub starts : (a : A) (u : List Token) → W a u → Starts first false u
  pub begin : Within first go
  -- nothing goes on after an item where a further one begins
  pub apart : (a : A) → Apart go (m a)

leads : {A : Type 0} (go first : Set) (W : A → List Token → Type 0) (m : A → Set) → Items go first W m → (a : A) (u r : List Token) → W a u → go (next (u ++ r)) ≡ true
leads go first W m h a [] r w = absurd (differ (sym (h.starts a [] w)))
leads go first W m h a (t ∷ u) r w = h.begin.at (class_of t) (h.starts a (t ∷ u) w)

long : {A : Type 0} (go first : Set) (W : A → List Token → Type 0) (m : A → Set) → Items go first W m → (a : A) (u : List Token) → W a u → 1 ≤ length u
long go first W m h a [] w = absurd (differ (sym (h.starts a [] w)))
long go first W m h a (t ∷ u) w = omega arith

apart_false : (go h : Set) → Apart go h → (c : Class) → go c ≡ true → h c ≡ false
apart_false go h a c e = a.at c e

star_starts : {A : Type 0} (go first : Set) (W : A → List Token → Type 0) (m : A → Set) → Items go first W m → (h : Set) → Apart go h → (xs : List A) (w r : List Token) → Star W xs w
    → after go m h xs (next r) ≡ false → h (next (w ++ r)) ≡ false
star_starts go first W m it h ap' [] w r s e = ap (λ z. h (next (z ++ r))) (sym s) ∙ or_right (go (next r)) (h (next r)) e
star_starts go first W m it h ap' (x ∷ xs) w r s e =
    ap'.at (next (w ++ r)) (ap (λ z. go (next (z ++ r))) (sym s.joined) ∙ (ap (λ z. go (next z)) (append_assoc s.left s.right r) ∙ leads go first W m it x s.left (s.right ++ r) s.first))

-- ---- told apart

not_none : {A : Type 0} (go first : Set) (W : A → List Token → Type 0) (m : A → Set) → Items go first W m → (h : Set) (y : A) (ys : List A) (u v r s : List Token) → [] ≡ u → Twice W (Star W ys) y v
    → go (next r) || h (next r) ≡ false → u ++ r ≡ v ++ s → ⊥
not_none go first W m it h y ys u v r s x t hr e =
    let e1 : go (next (v ++ s)) ≡ true = ap (λ z. go (next (z ++ s))) (sym t.joined) ∙ (ap (λ z. go (next z)) (append_assoc t.left t.right s) ∙ leads go first W m it y t.left (t.right ++ s) t.first) in
    let e2 : go (next r) ≡ true = ap (λ z. go (next (z ++ r))) x ∙ (ap (λ z. go (next z)) e ∙ e1) in
    differ (sym e2 ∙ or_left (go (next r)) (h (next r)) hr)

star_clear : {A : Type 0} (go first : Set) (W : A → List Token → Type 0) (m : A → Set) → Items go first W m → Clear W m → (h : Set) → Apart go h → Clear (Star W) (after go m h)
star_clear go first W m it cw h ap' [] [] u v r s x y hr hs e = record { item = refl; word = sym x ∙ y; rest = ap (λ z. z ++ r) x ∙ (e ∙ ap (λ z. z ++ s) (sym y)) }
star_clear go first W m it cw h ap' [] (b ∷ bs) u v r s x y hr hs e = absurd (not_none go first W m it h b bs u v r s x y hr e)
star_clear go first W m it cw h ap' (a ∷ xs) [] u v r s x y hr hs e = absurd (not_none go first W m it h a xs v u s r y x hs (sym e))
star_clear go first W m it cw h ap' (a ∷ xs) (b ∷ bs) u v r s x y hr hs e =
    let e1 : x.left ++ (x.right ++ r) ≡ u ++ r = sym (append_assoc x.left x.right r) ∙ ap (λ z. z ++ r) x.joined in
    let e2 : y.left ++ (y.right ++ s) ≡ v ++ s = sym (append_assoc y.left y.right s) ∙ ap (λ z. z ++ s) y.joined in
    let f : Same a b x.left y.left (x.right ++ r) (y.right ++ s) =
    cw a b x.left y.left (x.right ++ r) (y.right ++ s) x.first y.first (star_starts go first W m it (m a) (it.apart a) xs x.right r x.second hr)
    (star_starts go first W m it (m b) (it.apart b) bs y.right s y.second hs) (e1 ∙ (e ∙ sym e2)) in
    let hs' : after go m (m a) bs (next s) ≡ false = subst (λ z. after go m (m z) bs (next s) ≡ false) (sym f.item) hs in
    let g : Same xs bs x.right y.right r s = star_clear go first W m it cw (m a) (it.apart a) xs bs x.right y.right r s x.second y.second hr hs' f.rest in
    record { item = ap (λ z. z ∷ xs) f.item ∙ ap (λ z. b ∷ z) g.item; word = sym x.joined ∙ (ap (λ z. z ++ x.right) f.word ∙ (ap (λ z. y.left ++ z) g.word ∙ y.joined)); rest = g.rest }

-- ---- judged

abbrev Whole : {A : Type 0} → (A → List Token → Type 0) → List A → List Token → Type 0
Whole W = Either (Seq W (λ a. Seq (Star W) (λ others. Just (a ∷ others)))) (Just [])

to_star : {A : Type 0} (W : A → List Token → Type 0) (xs : List A) (u : List Token) → Whole W xs u → Star W xs u
to_star {A = A} W xs u (inl s) =
    let t = s.second in
    let e : t.left ≡ s.right = sym (append-nil t.left) ∙ (ap (λ z. t.left ++ z) t.second.empty ∙ t.joined) in
    subst (λ z. Star W z u) t.second.same
    (record { left = s.left; right = s.right; first = s.first; second = subst (λ z. Star W t.item z) e t.first; joined = s.joined })
to_star W xs u (inr j) = subst (λ z. Star W z u) j.same j.empty

from_star : {A : Type 0} (W : A → List Token → Type 0) (xs : List A) (u : List Token) → Star W xs u → Whole W xs u
from_star W [] u s = inr (record { same = refl; empty = s })
from_star W (x ∷ xs) u s = inl (record {
  item = x;
  left = s.left;
  right = s.right;
  first = s.first;
  second = record { item = xs; left = s.right; right = []; first = s.second; second = record { same = refl; empty = refl }; joined = append-nil s.right };
  joined = s.joined;
})

more_leads : {A : Type 0} (go first : Set) (W : A → List Token → Type 0) (m : A → Set) → Items go first W m → (h : Set)
    → Leads (Seq W (λ a. Seq (Star W) (λ others. Just (a ∷ others)))) go true (after go m h)
more_leads go first W m it h xs u r s e =
    ap (λ z. go (next (z ++ r))) (sym s.joined) ∙ (ap (λ z. go (next z)) (append_assoc s.left s.right r) ∙ leads go first W m it s.item s.left (s.right ++ r) s.first)

none_leads : {A : Type 0} (go : Set) (m : A → Set) (h : Set) → Leads (Just {A = List A} []) go false (after go m h)
none_leads go m h xs u r j e =
    let f : go (next r) || h (next r) ≡ false = subst (λ z. after go m h z (next r) ≡ false) (sym j.same) e in
    ap (λ z. go (next (z ++ r))) (sym j.empty) ∙ or_left (go (next r)) (h (next r)) f

cons_follows : {A : Type 0} (go : Set) (m : A → Set) (h : Set) (a : A) → Follows (after go m (m a)) (λ others. Just {A = List A} (a ∷ others)) (after go m h)
cons_follows go m h a others c w r j e = ap (λ z. after go m (m a) others (next (z ++ r))) (sym j.empty) ∙ subst (λ z. after go m h z (next r) ≡ false) (sym j.same) e

others_follow : {A : Type 0} (go first : Set) (W : A → List Token → Type 0) (m : A → Set) → Items go first W m → (h : Set)
    → Follows m (λ a. Seq (Star W) (λ others. Just {A = List A} (a ∷ others))) (after go m h)
others_follow go first W m it h a c w r s e =
    let t = s.second in
    let e1 : s.left ≡ w = sym (append-nil s.left) ∙ (ap (λ z. s.left ++ z) t.empty ∙ s.joined) in
    star_starts go first W m it (m a) (it.apart a) s.item w r (subst (λ z. Star W s.item z) e1 s.first) (subst (λ z. after go m h z (next r) ≡ false) (sym t.same) e)

nil_judged : {A : Type 0} (W : A → List Token → Type 0) (go : Set) (m : A → Set) (h : Set) (i : List Token) → go (next i) ≡ false → h (next i) ≡ false
    → Took (Star W) (after go m h) i [] i
nil_judged W go m h i eg eh = record { word = []; holds = refl; rest = refl; stops = or_neither (go (next i)) (h (next i)) eg eh }

cons_judged : {A : Type 0} (W : A → List Token → Type 0) (go : Set) (m : A → Set) (h : Set) (a : A) (r r' : List Token) (others : List A)
    → Took (Star W) (after go m (m a)) r others r' → Took (Just (a ∷ others)) (after go m h) r' (a ∷ others) r'
cons_judged W go m h a r r' others t = record { word = []; holds = record { same = refl; empty = refl }; rest = refl; stops = t.stops }

empty_is : {A : Type 0} (i : List A) → length i ≤ 0 → i ≡ []
empty_is [] l = refl
empty_is (x ∷ xs) l = absurd (omega arith)

star_judged : {A : Type 0} (n : ℕ) (go first : Set) (W : A → List Token → Type 0) (m : A → Set) (item : Parser A) → Items go first W m → go k.End ≡ false
    → Good none first false W m item → (h : Set) → Apart go h → (i : List Token) → length i ≤ n → h (next i) ≡ false → Judged (Star W) (after go m h) i (many_from n go item i)
star_judged zero go first W m item it last g h ap' i len hp = nil_judged W go m h i (ap (λ z. go (next z)) (empty_is i len) ∙ last) hp
star_judged {A = A} (suc n) go first W m item it last g h ap' i len hp =
    let mo = after go m h in
    lang_judged (Whole W) (Star W) mo (to_star W) (from_star W) i (many_from (suc n) go item i)
    (where_judged (Seq W (λ a. Seq (Star W) (λ others. Just (a ∷ others)))) (Just []) go mo (item >>= (λ a. many_from n go item >>= (λ others. pure (a ∷ others)))) (pure []) i
    (more_leads go first W m it h) (none_leads go m h) (go (next i)) refl
    (λ e. seq_judged W (λ a. Seq (Star W) (λ others. Just (a ∷ others))) m mo (λ a. many_from n go item >>= (λ others. pure (a ∷ others))) g.clear
    (λ a. record { item = a ∷ []; more = []; legal = refl; holds = record { item = []; left = []; right = []; first = refl; second = record { same = refl; empty = refl }; joined = refl } })
    (others_follow go first W m it h) i (item i) (g.judged i refl)
    (λ a r t. seq_judged (Star W) (λ others. Just (a ∷ others)) (after go m (m a)) mo (λ others. pure (a ∷ others))
    (star_clear go first W m it g.clear (m a) (it.apart a))
    (λ others. record { item = a ∷ others; more = []; legal = refl; holds = record { same = refl; empty = refl } })
    (cons_follows go m h a) r (many_from n go item r)
    (star_judged n go first W m item it last g (m a) (it.apart a) r
    (let l = long go first W m it a t.word t.holds in omega (arith, l, length-append t.word r, ap length t.rest)) t.stops)
    (λ others r' t'. cons_judged W go m h a r r' others t')))
    (λ e. record { word = []; holds = record { same = refl; empty = refl }; rest = refl; stops = or_neither (go (next i)) (h (next i)) e hp }))

star_begins : {A : Type 0} (go first : Set) (W : A → List Token → Type 0) (m : A → Set) → Items go first W m → (xs : List A) (u : List Token) → Star W xs u → Starts go true u
star_begins go first W m it [] u s = subst (λ z. Starts go true z) s refl
star_begins go first W m it (x ∷ xs) [] s = refl
star_begins go first W m it (x ∷ xs) (t ∷ u) s =
    ap (λ z. go (next z)) (sym (append-nil (t ∷ u))) ∙ (ap (λ z. go (next (z ++ []))) (sym s.joined) ∙ (ap (λ z. go (next z)) (append_assoc s.left s.right []) ∙ leads go first W m it x s.left (s.right ++ []) s.first))

-- the items may be followed by what depends on them
pub many_good : {A : Type 0} {h go first : Set} {W : A → List Token → Type 0} {m : A → Set} {item : Parser A}
    → Good none first false W m item → Within first go → ((a : A) → Apart go (m a)) → Apart go h → go k.End ≡ false
    → Good h go true (Star W) (after go m h) (many go item)
many_good {h = h} {go = go} {first = first} {W = W} {m = m} {item = item} g w a ah last =
    let it : Items go first W m = record { starts = g.starts; begin = w; apart = a } in
    record {
      judged = λ i hp. star_judged (length i) go first W m item it last g h ah i (omega arith) hp;
      clear = star_clear go first W m it g.clear h ah;
      some = record { item = []; more = []; legal = refl; holds = refl };
      starts = star_begins go first W m it;
    }

after_same : {A : Type 0} (go m : Set) (xs : List A) (c : Class) → after go (λ _. m) m xs c ≡ both go m c
after_same go m [] c = refl
after_same go m (x ∷ xs) c = after_same go m xs c

-- the items may be followed by what is the same for all, and so may what stands before them
pub list_good : {A : Type 0} {go first m : Set} {W : A → List Token → Type 0} {item : Parser A}
    → Good none first false W (λ _. m) item → Within first go → Apart go m → go k.End ≡ false → Good m go true (Star W) (λ _. both go m) (many go item)
list_good {go = go} {m = m} g w a last = more_good (many_good g w (λ _. a) a last) (λ xs c. after_same go m xs c)

-- what no item begins with, and nothing goes on with, may follow a list
pub after_apart : {A : Type 0} (f go : Set) (m : A → Set) → Apart f go → ((a : A) → Apart f (m a)) → (h : Set) → Apart f h → (xs : List A) → Apart f (after go m h xs)
after_apart f go m ag am h ah [] = record { at = λ c e. or_neither (go c) (h c) (ag.at c e) (ah.at c e) }
after_apart f go m ag am h ah (x ∷ xs) = after_apart f go m ag am (m x) (am x) xs

-- ---- items that count

star_none : {A : Type 0} (W : A → List Token → Type 0) (xs : List A) (u : List Token) → Star (Deep zero W) xs u → (xs ≡ []) × (u ≡ [])
star_none W [] u s = (refl, sym s)
star_none W (x ∷ xs) u s = absurd s.first

shut_clear : {A : Type 0} (W : A → List Token → Type 0) (more : List A → Set) → Clear (Star (Deep zero W)) more
shut_clear W more xs ys u v r s x y hr hs e =
    let a = star_none W xs u x in
    let b = star_none W ys v y in
    record { item = a.0 ∙ sym b.0; word = a.1 ∙ sym b.1; rest = ap (λ z. z ++ r) (sym a.1) ∙ (e ∙ ap (λ z. z ++ s) b.1) }

shut_starts : {A : Type 0} (go : Set) (W : A → List Token → Type 0) (xs : List A) (u : List Token) → Star (Deep zero W) xs u → Starts go true u
shut_starts go W xs u s = subst (λ z. Starts go true z) (sym (star_none W xs u s).1) refl

shut_if : {A : Type 0} (go : Set) (W : A → List Token → Type 0) (i : List Token) (b : Bool) → go (next i) ≡ b
    → Judged (Star (Deep zero W)) (λ _. both go none) i (if b then Err (Depth, i) else Ok ([], i))
shut_if go W i true e = record {
  before = [];
  rest = refl;
  begins = record { item = []; more = []; legal = refl; holds = refl };
  dead = λ xs u c d w hc h hk.
      let s = star_none W xs u w in
      differ (sym e ∙ (ap go (sym hk) ∙ (ap (λ z. go (next z)) (sym (ap (λ z. z ++ c) (sym s.1) ∙ h)) ∙ or_left (go (next c)) false hc)));
}
shut_if go W i false e = record { word = []; holds = refl; rest = refl; stops = or_neither (go (next i)) false e refl }

shut_from : {A : Type 0} (go : Set) (W : A → List Token → Type 0) (p : Parser A) (n : ℕ) (i : List Token) → go k.End ≡ false → length i ≤ n
    → Judged (Star (Deep zero W)) (λ _. both go none) i (many_from n go (opened zero p) i)
shut_from go W p zero i last len = record { word = []; holds = refl; rest = refl; stops = or_neither (go (next i)) false (ap (λ z. go (next z)) (empty_is i len) ∙ last) refl }
shut_from go W p (suc n) i last len = shut_if go W i (go (next i)) refl

pub counted_list_good : {A : Type 0} {go first : Set} {W : A → List Token → Type 0} {item : Parser A} (d : ℕ)
    → (Positive d → Good none first false W nothing item) → Within first go → go k.End ≡ false → Good none go true (Star (Deep d W)) (λ _. both go none) (many go (opened d item))
counted_list_good {go = go} {W = W} {item = item} zero g w last = record {
  judged = λ i hp. shut_from go W item (length i) i last (omega arith);
  clear = shut_clear W (λ _. both go none);
  some = record { item = []; more = []; legal = refl; holds = refl };
  starts = shut_starts go W;
}
counted_list_good (suc d) g w last = list_good (g tt) w (record { at = λ c e. refl }) last
