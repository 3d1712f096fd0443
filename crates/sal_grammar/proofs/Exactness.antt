-- What it is to read a language exactly, and that sequences do.
use Rattle.std.proofs.Common.{◌≡◌, Bool, true, false, ◌&&◌, ◌||◌, List, [], ◌∷◌, ◌++◌, refl, sym, ◌∙◌, ap, subst, append_assoc}
use Rattle.std.specs.Prelude.{Ok, Err}
use Rattle.std.specs.List.{list_all}
use Rattle.sal_ast.specs.Lexemes.{is_lexeme}
use Rattle.sal_grammar.specs.declared.class.Class.{Class}
use Rattle.sal_grammar.specs.Tokens.{Lexemes, Token, Set, class_of, next, both}
use Rattle.sal_grammar.specs.Parsers.{Outcome, Parser, and_then, ◌>>=◌}
use Rattle.sal_grammar.proofs.Languages.{Seq}

-- ---- sets

pub record Apart (f g : Set) : Type 0 where
  pub at : (k : Class) → f k ≡ true → g k ≡ false

pub record Within (f g : Set) : Type 0 where
  pub at : (k : Class) → f k ≡ true → g k ≡ true

pub differ : true ≡ false → ⊥
differ e = cc

-- what isn't in the greater set isn't in the lesser one
pub not_within : (f g : Set) → Within f g → (k : Class) → g k ≡ false → f k ≡ false
not_within f g h k e = elim (f k) as (λ b. f k ≡ b → b ≡ false) [ true ↦ λ x. absurd (differ (sym (h.at k x) ∙ e)) | false ↦ λ x. refl ] refl

-- a fact that is asked for only where a flag is set
abbrev pub When : Bool → Type 0 → Type 0
When true P = P
When false P = Unit {0}

-- ---- words

-- a word begins with a token of the set, or, where it may be, is empty
abbrev pub Starts : Set → Bool → List Token → Type 0
Starts first empty [] = empty ≡ true
Starts first empty (t ∷ ts) = first (class_of t) ≡ true

-- such tokens begin so, and tokens of the language complete them
pub record Begun {A : Type 0} (W : A → List Token → Type 0) (front : List Token) : Type 0 where
  pub item : A
  pub more : List Token
  pub legal : Lexemes more
  pub holds : W item (front ++ more)

-- no word of the language, with what may follow it, goes on with a token of this class
abbrev pub Dead : {A : Type 0} → (A → List Token → Type 0) → (A → Set) → List Token → Class → Type 0
Dead {A = A} W more before class =
    (a : A) (u c d : List Token) → W a u → more a (next c) ≡ false → u ++ c ≡ before ++ d → next d ≡ class → ⊥

pub record Took {A : Type 0} (W : A → List Token → Type 0) (more : A → Set) (i : List Token) (a : A) (r : List Token) : Type 0 where
  pub word : List Token
  pub holds : W a word
  pub rest : word ++ r ≡ i
  pub stops : more a (next r) ≡ false

pub record Refused {A : Type 0} (W : A → List Token → Type 0) (more : A → Set) (i r : List Token) : Type 0 where
  pub before : List Token
  pub rest : before ++ r ≡ i
  pub begins : Begun W before
  pub dead : Dead W more before (next r)

abbrev pub Judged : {A : Type 0} → (A → List Token → Type 0) → (A → Set) → List Token → Outcome A → Type 0
Judged W more i (Ok p) = Took W more i p.0 p.1
Judged W more i (Err e) = Refused W more i e.1

-- one word with its value, where what follows is none of `more`
pub record Same {A : Type 0} (a b : A) (u v r s : List Token) : Type 0 where
  pub item : a ≡ b
  pub word : u ≡ v
  pub rest : r ≡ s

abbrev pub Clear : {A : Type 0} → (A → List Token → Type 0) → (A → Set) → Type 0
Clear {A = A} W more = (a b : A) (u v r s : List Token) → W a u → W b v → more a (next r) ≡ false → more b (next s) ≡ false
    → u ++ r ≡ v ++ s → Same a b u v r s

-- On inputs that begin with none of `pre` the parser answers by the language, whose words begin with `first` (or are empty
-- where `empty` says so) and are told apart where none of `more` follows.
pub record Good {A : Type 0} (pre first : Set) (empty : Bool) (W : A → List Token → Type 0) (more : A → Set) (p : Parser A) : Type 0 where
  pub judged : (i : List Token) → pre (next i) ≡ false → Judged W more i (p i)
  pub clear : Clear W more
  pub some : Begun W []
  pub starts : (a : A) (u : List Token) → W a u → Starts first empty u

and_right : (a b : Bool) → a && b ≡ true → b ≡ true
and_right true b e = e
and_right false b e = absurd (differ (sym e))

and_left : (a b : Bool) → a && b ≡ true → a ≡ true
and_left true b e = refl
and_left false b e = e

and_both : (a b : Bool) → a ≡ true → b ≡ true → a && b ≡ true
and_both true b e h = h
and_both false b e h = e

pub lexemes_append : (u v : List Token) → Lexemes u → Lexemes v → Lexemes (u ++ v)
lexemes_append [] v hu hv = hv
lexemes_append (t ∷ u) v hu hv =
    and_both (is_lexeme t.kind t.text) (list_all (λ (x : Token). is_lexeme x.kind x.text) (u ++ v))
    (and_left (is_lexeme t.kind t.text) (list_all (λ (x : Token). is_lexeme x.kind x.text) u) hu)
    (lexemes_append u v (and_right (is_lexeme t.kind t.text) (list_all (λ (x : Token). is_lexeme x.kind x.text) u) hu) hv)

-- ---- sequences

pub head_is : (before d s r : List Token) → before ++ s ≡ r → next d ≡ next s → next (before ++ d) ≡ next r
head_is [] d s r e h = h ∙ ap next e
head_is (t ∷ before) d s r e h = ap next e

-- the second part of a sequence begins with nothing that the first could go on with
abbrev pub Follows : {A C : Type 0} → (A → Set) → (A → C → List Token → Type 0) → (C → Set) → Type 0
Follows {A = A} {C = C} more V more' = (a : A) (c : C) (w r : List Token) → V a c w → more' c (next r) ≡ false → more a (next (w ++ r)) ≡ false

pub seq_clear : {A C : Type 0} (W : A → List Token → Type 0) (V : A → C → List Token → Type 0) (more : A → Set) (more' : C → Set)
    → Clear W more → ((a : A) → Clear (V a) more') → Follows more V more' → Clear (Seq W V) more'
seq_clear W V more more' cp cq fol a b u v r s x y hr hs e =
    let e1 : x.left ++ (x.right ++ r) ≡ u ++ r = sym (append_assoc x.left x.right r) ∙ ap (λ z. z ++ r) x.joined in
    let e2 : y.left ++ (y.right ++ s) ≡ v ++ s = sym (append_assoc y.left y.right s) ∙ ap (λ z. z ++ s) y.joined in
    let f : Same x.item y.item x.left y.left (x.right ++ r) (y.right ++ s) =
    cp x.item y.item x.left y.left (x.right ++ r) (y.right ++ s) x.first y.first (fol x.item a x.right r x.second hr) (fol y.item b y.right s y.second hs) (e1 ∙ (e ∙ sym e2)) in
    let sec : V x.item b y.right = subst (λ z. V z b y.right) (sym f.item) y.second in
    let g : Same a b x.right y.right r s = cq x.item a b x.right y.right r s x.second sec hr hs f.rest in
    record { item = g.item; word = sym x.joined ∙ (ap (λ z. z ++ x.right) f.word ∙ (ap (λ z. y.left ++ z) g.word ∙ y.joined)); rest = g.rest }

-- the first part is refused
seq_first : {A C : Type 0} (W : A → List Token → Type 0) (V : A → C → List Token → Type 0) (more : A → Set) (more' : C → Set) (i r : List Token)
    → ((a : A) → Begun (V a) []) → Follows more V more' → Refused W more i r → Refused (Seq W V) more' i r
seq_first W V more more' i r some fol h = record {
  before = h.before;
  rest = h.rest;
  begins =
      let s = some h.begins.item in
      record {
        item = s.item;
        more = h.begins.more ++ s.more;
        legal = lexemes_append h.begins.more s.more h.begins.legal s.legal;
        holds = record { item = h.begins.item; left = h.before ++ h.begins.more; right = s.more; first = h.begins.holds; second = s.holds; joined = append_assoc h.before h.begins.more s.more };
      };
  dead = λ c u x d w hx e hk.
      h.dead w.item w.left (w.right ++ x) d w.first (fol w.item c w.right x w.second hx)
      (sym (append_assoc w.left w.right x) ∙ (ap (λ z. z ++ x) w.joined ∙ e)) hk;
}

-- the second part is refused
seq_second : {A C : Type 0} (W : A → List Token → Type 0) (V : A → C → List Token → Type 0) (more : A → Set) (more' : C → Set) (i r s : List Token) (a : A)
    → Clear W more → Follows more V more' → Took W more i a r → Refused (V a) more' r s → Refused (Seq W V) more' i s
seq_second W V more more' i r s a cp fol t h = record {
  before = t.word ++ h.before;
  rest = append_assoc t.word h.before s ∙ (ap (λ z. t.word ++ z) h.rest ∙ t.rest);
  begins = record {
    item = h.begins.item;
    more = h.begins.more;
    legal = h.begins.legal;
    holds = record { item = a; left = t.word; right = h.before ++ h.begins.more; first = t.holds; second = h.begins.holds; joined = sym (append_assoc t.word h.before h.begins.more) };
  };
  dead = λ c u x d w hx e hk.
      let e1 : w.left ++ (w.right ++ x) ≡ t.word ++ (h.before ++ d) =
      sym (append_assoc w.left w.right x) ∙ (ap (λ z. z ++ x) w.joined ∙ (e ∙ append_assoc t.word h.before d)) in
      let f : Same w.item a w.left t.word (w.right ++ x) (h.before ++ d) =
      cp w.item a w.left t.word (w.right ++ x) (h.before ++ d) w.first t.holds (fol w.item c w.right x w.second hx)
      (ap (more a) (head_is h.before d s r h.rest hk) ∙ t.stops) e1 in
      h.dead c w.right x d (subst (λ z. V z c w.right) f.item w.second) hx f.rest hk;
}

-- both are taken
seq_both : {A C : Type 0} (W : A → List Token → Type 0) (V : A → C → List Token → Type 0) (more : A → Set) (more' : C → Set) (i r s : List Token) (a : A) (c : C)
    → Took W more i a r → Took (V a) more' r c s → Took (Seq W V) more' i c s
seq_both W V more more' i r s a c t h = record {
  word = t.word ++ h.word;
  holds = record { item = a; left = t.word; right = h.word; first = t.holds; second = h.holds; joined = refl };
  rest = append_assoc t.word h.word s ∙ (ap (λ z. t.word ++ z) h.rest ∙ t.rest);
  stops = h.stops;
}

seq_then : {A C : Type 0} (W : A → List Token → Type 0) (V : A → C → List Token → Type 0) (more : A → Set) (more' : C → Set) (i r : List Token) (a : A)
    → Clear W more → Follows more V more' → Took W more i a r → (o : Outcome C) → Judged (V a) more' r o → Judged (Seq W V) more' i o
seq_then W V more more' i r a cp fol t (Ok p) h = seq_both W V more more' i r p.1 a p.0 t h
seq_then W V more more' i r a cp fol t (Err e) h = seq_second W V more more' i r e.1 a cp fol t h

pub seq_judged : {A C : Type 0} (W : A → List Token → Type 0) (V : A → C → List Token → Type 0) (more : A → Set) (more' : C → Set) (q : A → Parser C)
    → Clear W more → ((a : A) → Begun (V a) []) → Follows more V more' → (i : List Token) (o : Outcome A) → Judged W more i o
    → ((a : A) (r : List Token) → Took W more i a r → Judged (V a) more' r (q a r)) → Judged (Seq W V) more' i (and_then o q)
seq_judged W V more more' q cp some fol i (Ok p) h g = seq_then W V more more' i p.1 p.0 cp fol h (q p.0 p.1) (g p.0 p.1 h)
seq_judged W V more more' q cp some fol i (Err e) h g = seq_first W V more more' i e.1 some fol h

-- what may follow an empty second part may not go on the first
abbrev pub Ends : {A C : Type 0} → (A → Set) → (A → C → List Token → Type 0) → (C → Set) → Type 0
Ends {A = A} {C = C} more V more' = (a : A) (c : C) → V a c [] → Within (more a) (more' c)

follows_by : {A C : Type 0} (more : A → Set) (V : A → C → List Token → Type 0) (more' : C → Set) (g : A → Set) (e : Bool)
    → ((a : A) (c : C) (u : List Token) → V a c u → Starts (g a) e u) → ((a : A) → Apart (g a) (more a)) → When e (Ends more V more')
    → Follows more V more'
follows_by more V more' g true st ap en a c [] r v h = not_within (more a) (more' c) (en a c v) (next r) h
follows_by more V more' g false st ap en a c [] r v h = absurd (differ (sym (st a c [] v)))
follows_by more V more' g e st ap en a c (t ∷ w) r v h = (ap a).at (class_of t) (st a c (t ∷ w) v)

seq_some : {A C : Type 0} (W : A → List Token → Type 0) (V : A → C → List Token → Type 0) → Begun W [] → ((a : A) → Begun (V a) []) → Begun (Seq W V) []
seq_some W V b some =
    let s = some b.item in
    record { item = s.item; more = b.more ++ s.more; legal = lexemes_append b.more s.more b.legal s.legal; holds = record { item = b.item; left = b.more; right = s.more; first = b.holds; second = s.holds; joined = refl } }

starts_append : (first : Set) (u v : List Token) → Starts first false u → Starts first false (u ++ v)
starts_append first [] v h = absurd (differ (sym h))
starts_append first (t ∷ u) v h = h

-- the first part isn't empty
pub seq_good : {A C : Type 0} {pre first : Set} {g : A → Set} {e : Bool} {more : A → Set} {more' : C → Set}
    {W : A → List Token → Type 0} {V : A → C → List Token → Type 0} {p : Parser A} {q : A → Parser C}
    → Good pre first false W more p → ((a : A) → Good (more a) (g a) e (V a) more' (q a)) → ((a : A) → Apart (g a) (more a)) → When e (Ends more V more')
    → Good pre first false (Seq W V) more' (p >>= q)
seq_good {pre = pre} {first = first} {g = g} {e = e} {more = more} {more' = more'} {W = W} {V = V} {p = p} {q = q} gp gq ap en =
    let fol : Follows more V more' = follows_by more V more' g e (λ a c u v. (gq a).starts c u v) ap en in
    record {
      judged = λ i hp. seq_judged W V more more' q gp.clear (λ a. (gq a).some) fol i (p i) (gp.judged i hp) (λ a r t. (gq a).judged r t.stops);
      clear = seq_clear W V more more' gp.clear (λ a. (gq a).clear) fol;
      some = seq_some W V gp.some (λ a. (gq a).some);
      starts = λ c u w. subst (λ z. Starts first false z) w.joined (starts_append first w.left w.right (gp.starts w.item w.left w.first));
    }

or_false : (a b : Bool) → b ≡ true → a || b ≡ true
or_false false b e = e
or_false true b e = refl

or_true : (a b : Bool) → a ≡ true → a || b ≡ true
or_true true b e = refl
or_true false b e = absurd (let f : false ≡ true = e in cc)

starts_both : (f g : Set) (b e : Bool) (u v : List Token) → Starts f b u → Starts g e v → Starts (both f g) e (u ++ v)
starts_both f g b e [] [] x y = y
starts_both f g b e [] (t ∷ v) x y = or_false (f (class_of t)) (g (class_of t)) y
starts_both f g b e (t ∷ u) v x y = or_true (f (class_of t)) (g (class_of t)) x

-- the first part may be empty
pub seq_good_empty : {A C : Type 0} {pre first g : Set} {b e : Bool} {more : A → Set} {more' : C → Set}
    {W : A → List Token → Type 0} {V : A → C → List Token → Type 0} {p : Parser A} {q : A → Parser C}
    → Good pre first b W more p → ((a : A) → Good (more a) g e (V a) more' (q a)) → ((a : A) → Apart g (more a)) → When e (Ends more V more')
    → Good pre (both first g) e (Seq W V) more' (p >>= q)
seq_good_empty {pre = pre} {first = first} {g = g} {b = b} {e = e} {more = more} {more' = more'} {W = W} {V = V} {p = p} {q = q} gp gq ap en =
    let fol : Follows more V more' = follows_by more V more' (λ a. g) e (λ a c u v. (gq a).starts c u v) ap en in
    record {
      judged = λ i hp. seq_judged W V more more' q gp.clear (λ a. (gq a).some) fol i (p i) (gp.judged i hp) (λ a r t. (gq a).judged r t.stops);
      clear = seq_clear W V more more' gp.clear (λ a. (gq a).clear) fol;
      some = seq_some W V gp.some (λ a. (gq a).some);
      starts = λ c u w. subst (λ z. Starts (both first g) e z) w.joined (starts_both first g b e w.left w.right (gp.starts w.item w.left w.first) ((gq w.item).starts c w.right w.second));
    }
