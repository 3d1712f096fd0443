-- The smallest parsers and choices by the next token.
use Rattle.std.proofs.Common.{◌≡◌, inl, inr, ℕ, zero, suc, Bool, true, false, ◌||◌, ◌&&◌, not, if◌then◌else◌, List, [], ◌∷◌, ◌++◌, refl, sym, ◌∙◌, ap, subst}
use Rattle.std.specs.Prelude.{Ok, Err}
use Rattle.sal_grammar.specs.declared.class.Class.{Class}
use Rattle.sal_grammar.specs.declared.class.Class.TheVariants as k
use Rattle.sal_grammar.specs.declared.reason.Reason.TheVariants.{Form, Depth}
use Rattle.sal_grammar.specs.Tokens.{Lexemes, Token, Set, class_of, next, none, both}
use Rattle.sal_grammar.specs.Parsers.{Outcome, Parser, pure, refuse, token_at, where_sees, opened}
use Rattle.sal_grammar.specs.Expressions.{unless_sees}
use Rattle.sal_grammar.proofs.Languages.{One, Just, Either, Deep, Unless, Guarded}
use Rattle.sal_grammar.proofs.Exactness.{Begun, Apart, Within, differ, not_within, When, Starts, Dead, Judged, Clear, Good, head_is}
use Rattle.sal_grammar.proofs.Classes.{sample, sample_class, sample_legal}

abbrev pub nothing : {A : Type 0} → A → Set
nothing _ _ = false

-- ---- the same in other words

pub lang_judged : {A : Type 0} (W V : A → List Token → Type 0) (more : A → Set) → ((a : A) (u : List Token) → W a u → V a u) → ((a : A) (u : List Token) → V a u → W a u)
    → (i : List Token) (o : Outcome A) → Judged W more i o → Judged V more i o
lang_judged W V more to from i (Ok p) h = record { word = h.word; holds = to p.0 h.word h.holds; rest = h.rest; stops = h.stops }
lang_judged W V more to from i (Err e) h = record {
  before = h.before;
  rest = h.rest;
  begins = record { item = h.begins.item; more = h.begins.more; legal = h.begins.legal; holds = to h.begins.item (h.before ++ h.begins.more) h.begins.holds };
  dead = λ a u c d w. h.dead a u c d (from a u w);
}

-- fewer tokens known before
pub before_good : {A : Type 0} {pre pre' first : Set} {e : Bool} {W : A → List Token → Type 0} {more : A → Set} {p : Parser A}
    → Good pre first e W more p → Within pre pre' → Good pre' first e W more p
before_good {pre = pre} {pre' = pre'} g w = record { judged = λ i hp. g.judged i (not_within pre pre' w (next i) hp); clear = g.clear; some = g.some; starts = g.starts }

pub any_before : {A : Type 0} {pre first : Set} {e : Bool} {W : A → List Token → Type 0} {more : A → Set} {p : Parser A}
    → Good none first e W more p → Good pre first e W more p
any_before g = record { judged = λ i hp. g.judged i refl; clear = g.clear; some = g.some; starts = g.starts }

wider_starts : (first first' : Set) (e e' : Bool) → Within first first' → (e ≡ true → e' ≡ true) → (u : List Token) → Starts first e u → Starts first' e' u
wider_starts first first' e e' w f [] s = f s
wider_starts first first' e e' w f (t ∷ u) s = w.at (class_of t) s

pub first_good : {A : Type 0} {pre first first' : Set} {e : Bool} {W : A → List Token → Type 0} {more : A → Set} {p : Parser A}
    → Good pre first e W more p → Within first first' → Good pre first' e W more p
first_good {first = first} {first' = first'} {e = e} g w = record { judged = g.judged; clear = g.clear; some = g.some; starts = λ a u h. wider_starts first first' e e w (λ x. x) u (g.starts a u h) }

same_judged : {A : Type 0} (W : A → List Token → Type 0) (more more' : A → Set) → ((a : A) (c : Class) → more a c ≡ more' a c) → (i : List Token) (o : Outcome A)
    → Judged W more i o → Judged W more' i o
same_judged W more more' f i (Ok p) h = record { word = h.word; holds = h.holds; rest = h.rest; stops = sym (f p.0 (next p.1)) ∙ h.stops }
same_judged W more more' f i (Err e) h = record { before = h.before; rest = h.rest; begins = h.begins; dead = λ a u c d w hc. h.dead a u c d w (f a (next c) ∙ hc) }

pub more_good : {A : Type 0} {pre first : Set} {e : Bool} {W : A → List Token → Type 0} {more more' : A → Set} {p : Parser A}
    → Good pre first e W more p → ((a : A) (c : Class) → more a c ≡ more' a c) → Good pre first e W more' p
more_good {W = W} {more = more} {more' = more'} {p = p} g f = record {
  judged = λ i hp. same_judged W more more' f i (p i) (g.judged i hp);
  clear = λ a b u v r s x y hr hs. g.clear a b u v r s x y (f a (next r) ∙ hr) (f b (next s) ∙ hs);
  some = g.some;
  starts = g.starts;
}

-- ---- nothing but a value

just_clear : {A : Type 0} (a : A) (more : A → Set) → Clear (Just a) more
just_clear a more b c u v r s x y hr hs e = record {
  item = sym x.same ∙ y.same;
  word = sym x.empty ∙ y.empty;
  rest = ap (λ z. z ++ r) x.empty ∙ (e ∙ ap (λ z. z ++ s) (sym y.empty));
}

just_starts : {A : Type 0} (a b : A) (u : List Token) → Just a b u → Starts none true u
just_starts a b u h = subst (λ z. Starts none true z) h.empty refl

pub pure_good : {A : Type 0} {pre : Set} {more : A → Set} (a : A) → Within (more a) pre → Good pre none true (Just a) more (pure a)
pure_good {pre = pre} {more = more} a w = record {
  judged = λ i hp. record { word = []; holds = record { same = refl; empty = refl }; rest = refl; stops = not_within (more a) pre w (next i) hp };
  clear = just_clear a more;
  some = record { item = a; more = []; legal = refl; holds = record { same = refl; empty = refl } };
  starts = just_starts a;
}

unless_judged : {A : Type 0} (set : Set) (a : A) (i : List Token) (b : Bool) → set (next i) ≡ b → Judged (Just a) (λ _. set) i (if b then Err (Form, i) else Ok (a, i))
unless_judged set a i true e = record {
  before = [];
  rest = refl;
  begins = record { item = a; more = []; legal = refl; holds = record { same = refl; empty = refl } };
  dead = λ b u c d w hc h hk. differ (sym e ∙ (ap set (sym hk) ∙ (ap (λ z. set (next z)) (sym (ap (λ z. z ++ c) w.empty ∙ h)) ∙ hc)));
}
unless_judged set a i false e = record { word = []; holds = record { same = refl; empty = refl }; rest = refl; stops = e }

pub unless_good : {A : Type 0} {pre set : Set} (a : A) → Good pre none true (Just a) (λ _. set) (unless_sees set a)
unless_good {set = set} a = record {
  judged = λ i hp. unless_judged set a i (set (next i)) refl;
  clear = just_clear a (λ _. set);
  some = record { item = a; more = []; legal = refl; holds = record { same = refl; empty = refl } };
  starts = just_starts a;
}

-- ---- a token

one_clear : (is : Set) → Clear (One is) nothing
one_clear is a b u v r s x y hr hs e =
    let f : (a ∷ []) ++ r ≡ (b ∷ []) ++ s = ap (λ z. z ++ r) x.alone ∙ (e ∙ ap (λ z. z ++ s) (sym y.alone)) in
    let g : a ≡ b = cc in
    record { item = g; word = sym x.alone ∙ (ap (λ z. z ∷ []) g ∙ y.alone); rest = cc }

one_dead : (is : Set) (c : Class) → is c ≡ false → Dead (One is) nothing [] c
one_dead is class never a u c d w hc e hk =
    let f : (a ∷ []) ++ c ≡ d = ap (λ z. z ++ c) w.alone ∙ e in
    let g : class_of a ≡ class = ap next f ∙ hk in
    let h : true ≡ false = sym w.fits ∙ (ap is g ∙ never) in
    cc

one_some : (is : Set) (t : Token) → is (class_of t) ≡ true → Lexemes (t ∷ []) → Begun (One is) []
one_some is t sure l = record { item = t; more = t ∷ []; legal = l; holds = record { fits = sure; alone = refl } }

one_sees : (is : Set) (t : Token) (ts : List Token) (b : Bool) → is (class_of t) ≡ b → Begun (One is) []
    → Judged (One is) nothing (t ∷ ts) (if b then Ok (t, ts) else Err (Form, t ∷ ts))
one_sees is t ts true e some = record { word = t ∷ []; holds = record { fits = e; alone = refl }; rest = refl; stops = refl }
one_sees is t ts false e some = record { before = []; rest = refl; begins = some; dead = one_dead is (class_of t) e }

one_judged : (is : Set) → is k.End ≡ false → Begun (One is) [] → (i : List Token) → Judged (One is) nothing i (token_at is i)
one_judged is never some [] = record { before = []; rest = refl; begins = some; dead = λ a. one_dead is k.End never a }
one_judged is never some (t ∷ ts) = one_sees is t ts (is (class_of t)) refl some

-- the class is one of the set
pub token_good : {pre is : Set} (c : Class) → is c ≡ true → is k.End ≡ false → Good pre is false (One is) nothing (token_at is)
token_good {is = is} c sure never =
    let some = one_some is (sample c) (sample_class c is never sure) (sample_legal c) in
    record {
      judged = λ i hp. one_judged is never some i;
      clear = one_clear is;
      some = some;
      starts = λ a u h. subst (λ z. Starts is false z) h.alone h.fits;
    }

-- ---- a choice by the next token

-- all words of the language begin so, whatever follows
abbrev pub Leads : {A : Type 0} → (A → List Token → Type 0) → Set → Bool → (A → Set) → Type 0
Leads {A = A} W is b more = (a : A) (u r : List Token) → W a u → more a (next r) ≡ false → is (next (u ++ r)) ≡ b

either_clear : {A : Type 0} (W V : A → List Token → Type 0) (is : Set) (more : A → Set)
    → Clear W more → Clear V more → Leads W is true more → Leads V is false more → Clear (Either W V) more
either_clear W V is more cw cv sw sv a b u v r s (inl x) (inl y) hr hs e = cw a b u v r s x y hr hs e
either_clear W V is more cw cv sw sv a b u v r s (inl x) (inr y) hr hs e =
    absurd (differ (sym (sw a u r x hr) ∙ (ap (λ z. is (next z)) e ∙ sv b v s y hs)))
either_clear W V is more cw cv sw sv a b u v r s (inr x) (inl y) hr hs e =
    absurd (differ (sym (sw b v s y hs) ∙ (ap (λ z. is (next z)) (sym e) ∙ sv a u r x hr)))
either_clear W V is more cw cv sw sv a b u v r s (inr x) (inr y) hr hs e = cv a b u v r s x y hr hs e

either_begins : {A : Type 0} (W V : A → List Token → Type 0) (u : List Token) → Begun W u → Begun (Either W V) u
either_begins W V u b = record { item = b.item; more = b.more; legal = b.legal; holds = inl b.holds }

either_begins_2 : {A : Type 0} (W V : A → List Token → Type 0) (u : List Token) → Begun V u → Begun (Either W V) u
either_begins_2 W V u b = record { item = b.item; more = b.more; legal = b.legal; holds = inr b.holds }

-- words that begin otherwise than the input are no help
either_dead : {A : Type 0} (V : A → List Token → Type 0) (is : Set) (more : A → Set) (b : Bool) (i r before : List Token) → Leads V is b more
    → (is (next i) ≡ b → ⊥) → before ++ r ≡ i → (a : A) (u c d : List Token) → V a u → more a (next c) ≡ false → u ++ c ≡ before ++ d → next d ≡ next r → ⊥
either_dead V is more b i r before sv not_b e a u c d w hc h hk =
    not_b (ap is (sym (head_is before d r i e hk)) ∙ (ap (λ z. is (next z)) (sym h) ∙ sv a u c w hc))

yes_judged : {A : Type 0} (W V : A → List Token → Type 0) (is : Set) (more : A → Set) (i : List Token) → Leads V is false more → is (next i) ≡ true
    → (o : Outcome A) → Judged W more i o → Judged (Either W V) more i o
yes_judged W V is more i sv e (Ok p) h = record { word = h.word; holds = inl h.holds; rest = h.rest; stops = h.stops }
yes_judged W V is more i sv e (Err x) h = record {
  before = h.before;
  rest = h.rest;
  begins = either_begins W V h.before h.begins;
  dead = λ a u c d w. elim w [ inl l ↦ h.dead a u c d l | inr l ↦ either_dead V is more false i x.1 h.before sv (λ f. differ (sym e ∙ f)) h.rest a u c d l ];
}

no_judged : {A : Type 0} (W V : A → List Token → Type 0) (is : Set) (more : A → Set) (i : List Token) → Leads W is true more → is (next i) ≡ false
    → (o : Outcome A) → Judged V more i o → Judged (Either W V) more i o
no_judged W V is more i sw e (Ok p) h = record { word = h.word; holds = inr h.holds; rest = h.rest; stops = h.stops }
no_judged W V is more i sw e (Err x) h = record {
  before = h.before;
  rest = h.rest;
  begins = either_begins_2 W V h.before h.begins;
  dead = λ a u c d w. elim w [ inr l ↦ h.dead a u c d l | inl l ↦ either_dead W is more true i x.1 h.before sw (λ f. differ (sym f ∙ e)) h.rest a u c d l ];
}

pub where_judged : {A : Type 0} (W V : A → List Token → Type 0) (is : Set) (more : A → Set) (p q : Parser A) (i : List Token) → Leads W is true more → Leads V is false more
    → (b : Bool) → is (next i) ≡ b → (is (next i) ≡ true → Judged W more i (p i)) → (is (next i) ≡ false → Judged V more i (q i))
    → Judged (Either W V) more i (if b then p i else q i)
where_judged W V is more p q i sw sv true e hp hq = yes_judged W V is more i sv e (p i) (hp e)
where_judged W V is more p q i sw sv false e hp hq = no_judged W V is more i sw e (q i) (hq e)

-- what may follow an empty word of the second kind is known not to begin one of the first
abbrev pub Parts : {A : Type 0} → Set → (A → List Token → Type 0) → (A → Set) → Type 0
Parts {A = A} is V more = (a : A) → V a [] → Within is (more a)

pub leads_in : {A : Type 0} (W : A → List Token → Type 0) (f is : Set) (more : A → Set) → Within f is → ((a : A) (u : List Token) → W a u → Starts f false u) → Leads W is true more
leads_in W f is more w st a [] r h e = absurd (differ (sym (st a [] h)))
leads_in W f is more w st a (t ∷ u) r h e = w.at (class_of t) (st a (t ∷ u) h)

pub leads_out : {A : Type 0} (V : A → List Token → Type 0) (g is : Set) (e : Bool) (more : A → Set) → Apart g is → ((a : A) (u : List Token) → V a u → Starts g e u)
    → When e (Parts is V more) → Leads V is false more
leads_out V g is true more w st pt a [] r h x = not_within is (more a) (pt a h) (next r) x
leads_out V g is false more w st pt a [] r h x = absurd (differ (sym (st a [] h)))
leads_out V g is e more w st pt a (t ∷ u) r h x = w.at (class_of t) (st a (t ∷ u) h)

or_false : (a b : Bool) → b ≡ true → a || b ≡ true
or_false false b e = e
or_false true b e = refl

or_true : (a b : Bool) → a ≡ true → a || b ≡ true
or_true true b e = refl
or_true false b e = absurd (let f : false ≡ true = e in cc)

pub or_neither : (a b : Bool) → a ≡ false → b ≡ false → a || b ≡ false
or_neither false b e h = h
or_neither true b e h = e

starts_left : (f g : Set) (e : Bool) (u : List Token) → Starts f false u → Starts (both f g) e u
starts_left f g e [] h = absurd (differ (sym h))
starts_left f g e (t ∷ u) h = or_true (f (class_of t)) (g (class_of t)) h

starts_right : (f g : Set) (e : Bool) (u : List Token) → Starts g e u → Starts (both f g) e u
starts_right f g e [] h = h
starts_right f g e (t ∷ u) h = or_false (f (class_of t)) (g (class_of t)) h

either_starts : {A : Type 0} (W V : A → List Token → Type 0) (f g : Set) (e : Bool) → ((a : A) (u : List Token) → W a u → Starts f false u) → ((a : A) (u : List Token) → V a u → Starts g e u)
    → (a : A) (u : List Token) → Either W V a u → Starts (both f g) e u
either_starts W V f g e sw sv a u (inl x) = starts_left f g e u (sw a u x)
either_starts W V f g e sw sv a u (inr x) = starts_right f g e u (sv a u x)

known : (pre pre' is : Set) → Within pre' (both pre is) → (c : Class) → pre c ≡ false → is c ≡ false → pre' c ≡ false
known pre pre' is w c hp hi = not_within pre' (both pre is) w c (or_neither (pre c) (is c) hp hi)

pub where_good : {A : Type 0} {pre pre' is f g : Set} {e : Bool} {W V : A → List Token → Type 0} {more : A → Set} {p q : Parser A}
    → Good none f false W more p → Good pre' g e V more q → Within f is → Apart g is → Within pre' (both pre is) → When e (Parts is V more)
    → Good pre (both f g) e (Either W V) more (where_sees is p q)
where_good {pre = pre} {pre' = pre'} {is = is} {f = f} {g = g} {e = e} {W = W} {V = V} {more = more} {p = p} {q = q} gp gq w a b pt =
    let sw : Leads W is true more = leads_in W f is more w gp.starts in
    let sv : Leads V is false more = leads_out V g is e more a gq.starts pt in
    record {
      judged = λ i hp. where_judged W V is more p q i sw sv (is (next i)) refl (λ x. gp.judged i refl) (λ x. gq.judged i (known pre pre' is b (next i) hp x));
      clear = either_clear W V is more gp.clear gq.clear sw sv;
      some = either_begins_2 W V [] gq.some;
      starts = either_starts W V f g e gp.starts gq.starts;
    }

-- ---- constructs that count

abbrev pub Positive : ℕ → Type 0
Positive zero = ⊥
Positive (suc d) = Unit {0}

none_clear : {A : Type 0} (W : A → List Token → Type 0) (more : A → Set) → Clear (Deep zero W) more
none_clear W more a b u v r s x y hr hs e = absurd x

shut_judged : {A : Type 0} (W V : A → List Token → Type 0) (is : Set) (more : A → Set) (q : Parser A) (i : List Token) → Leads V is false more
    → (b : Bool) → is (next i) ≡ b → Begun V [] → (is (next i) ≡ false → Judged V more i (q i)) → Judged (Either (Deep zero W) V) more i (if b then Err (Depth, i) else q i)
shut_judged W V is more q i sv true e some hq = record {
  before = [];
  rest = refl;
  begins = either_begins_2 (Deep zero W) V [] some;
  dead = λ a u c d w. elim w [ inl l ↦ absurd l | inr l ↦ either_dead V is more false i i [] sv (λ f. differ (sym e ∙ f)) refl a u c d l ];
}
shut_judged W V is more q i sv false e some hq = no_judged (Deep zero W) V is more i (λ a u r x. absurd x) e (q i) (hq e)

pub counted_good : {A : Type 0} {pre pre' is f g : Set} {e : Bool} {W V : A → List Token → Type 0} {more : A → Set} {p q : Parser A} (d : ℕ)
    → (Positive d → Good none f false W more p) → Good pre' g e V more q → Within f is → Apart g is → Within pre' (both pre is) → When e (Parts is V more)
    → Good pre (both f g) e (Either (Deep d W) V) more (where_sees is (opened d p) q)
counted_good {pre = pre} {pre' = pre'} {is = is} {f = f} {g = g} {e = e} {W = W} {V = V} {more = more} {p = p} {q = q} zero gp gq w a b pt =
    let sv : Leads V is false more = leads_out V g is e more a gq.starts pt in
    record {
      judged = λ i hp. shut_judged W V is more q i sv (is (next i)) refl gq.some (λ x. gq.judged i (known pre pre' is b (next i) hp x));
      clear = either_clear (Deep zero W) V is more (none_clear W more) gq.clear (λ a u r x. absurd x) sv;
      some = either_begins_2 (Deep zero W) V [] gq.some;
      starts = either_starts (Deep zero W) V f g e (λ a u x. absurd x) gq.starts;
    }
counted_good (suc d) gp gq w a b pt = where_good (gp tt) gq w a b pt

-- only words that begin so
only_judged : {A : Type 0} (V : A → List Token → Type 0) (is : Set) (more : A → Set) (q : Parser A) (i : List Token) → Leads V is true more → Begun V []
    → (b : Bool) → is (next i) ≡ b → Judged V more i (q i) → Judged V more i (if b then q i else Err (Form, i))
only_judged V is more q i sv some true e h = h
only_judged V is more q i sv some false e h = record {
  before = [];
  rest = refl;
  begins = some;
  dead = λ a u c d w. either_dead V is more true i i [] sv (λ f. differ (sym f ∙ e)) refl a u c d w;
}

pub only_good : {A : Type 0} {pre is g : Set} {V : A → List Token → Type 0} {more : A → Set} {q : Parser A}
    → Good none g false V more q → Within g is → Good pre g false V more (where_sees is q refuse)
only_good {is = is} {g = g} {V = V} {more = more} {q = q} gq w = record {
  judged = λ i hp. only_judged V is more q i (leads_in V g is more w gq.starts) gq.some (is (next i)) refl (gq.judged i refl);
  clear = gq.clear;
  some = gq.some;
  starts = gq.starts;
}

refused_judged : {A : Type 0} (W V : A → List Token → Type 0) (is : Set) (more : A → Set) (p : Parser A) (i : List Token) (o : Outcome A) → Leads W is true more
    → (b : Bool) → is (next i) ≡ b → Begun W [] → (is (next i) ≡ true → Judged W more i (p i)) → ((r : Bool) → Judged (Either W (Deep zero V)) more i (if b then p i else (if r then Err (Depth, i) else Err (Form, i))))
refused_judged W V is more p i o sw true e some hp r = yes_judged W (Deep zero V) is more i (λ a u r x. absurd x) e (p i) (hp e)
refused_judged W V is more p i o sw false e some hp true = record {
  before = [];
  rest = refl;
  begins = either_begins W (Deep zero V) [] some;
  dead = λ a u c d w. elim w [ inr l ↦ absurd l | inl l ↦ either_dead W is more true i i [] sw (λ f. differ (sym f ∙ e)) refl a u c d l ];
}
refused_judged W V is more p i o sw false e some hp false = record {
  before = [];
  rest = refl;
  begins = either_begins W (Deep zero V) [] some;
  dead = λ a u c d w. elim w [ inr l ↦ absurd l | inl l ↦ either_dead W is more true i i [] sw (λ f. differ (sym f ∙ e)) refl a u c d l ];
}

-- a choice whose second part counts, and begins with one of its set
pub last_counted_good : {A : Type 0} {pre is is' f g : Set} {W V : A → List Token → Type 0} {more : A → Set} {p q : Parser A} (d : ℕ)
    → Good none f false W more p → (Positive d → Good none g false V more q) → Within f is → Apart g is → Within g is'
    → Good pre (both f g) false (Either W (Deep d V)) more (where_sees is p (where_sees is' (opened d q) refuse))
last_counted_good {is = is} {is' = is'} {f = f} {g = g} {W = W} {V = V} {more = more} {p = p} zero gp gq w a w' =
    let sw : Leads W is true more = leads_in W f is more w gp.starts in
    record {
      judged = λ i hp. refused_judged W V is more p i (p i) sw (is (next i)) refl gp.some (λ x. gp.judged i refl) (is' (next i));
      clear = either_clear W (Deep zero V) is more gp.clear (none_clear V more) sw (λ a u r x. absurd x);
      some = either_begins W (Deep zero V) [] gp.some;
      starts = either_starts W (Deep zero V) f g false gp.starts (λ a u x. absurd x);
    }
last_counted_good {is = is} {is' = is'} (suc d) gp gq w a w' = where_good {pre' = none} gp (only_good (gq tt) w') w a (record { at = λ c x. absurd (let f : false ≡ true = x in cc) }) tt

-- ---- words that don't begin with one of a set

abbrev pub but : Set → Set → Set
but f is k = not (is k) && f k

first_of_word : (is : Set) (word r i : List Token) → is k.End ≡ false → word ++ r ≡ i → is (next i) ≡ false → is (next word) ≡ false
first_of_word is [] r i never e h = never
first_of_word is (t ∷ word) r i never e h = ap (λ z. is (next z)) e ∙ h

but_begun : {A : Type 0} (is : Set) (W : A → List Token → Type 0) (before r i : List Token) → Begun (Unless is W) [] → before ++ r ≡ i → is (next i) ≡ false
    → Begun W before → Begun (Unless is W) before
but_begun is W [] r i some e h b = some
but_begun is W (t ∷ before) r i some e h b = record { item = b.item; more = b.more; legal = b.legal; holds = record { word = b.holds; other = ap (λ z. is (next z)) e ∙ h } }

but_judged : {A : Type 0} (is : Set) (W : A → List Token → Type 0) (more : A → Set) (i : List Token) → is k.End ≡ false → Begun (Unless is W) [] → is (next i) ≡ false
    → (o : Outcome A) → Judged W more i o → Judged (Unless is W) more i o
but_judged is W more i never some h (Ok p) j = record { word = j.word; holds = record { word = j.holds; other = first_of_word is j.word p.1 i never j.rest h }; rest = j.rest; stops = j.stops }
but_judged is W more i never some h (Err e) j = record {
  before = j.before;
  rest = j.rest;
  begins = but_begun is W j.before e.1 i some j.rest h j.begins;
  dead = λ a u c d w. j.dead a u c d w.word;
}

and_not : (a b : Bool) → a ≡ false → b ≡ true → not a && b ≡ true
and_not false b e h = h
and_not true b e h = absurd (differ e)

but_starts : (is f : Set) (e : Bool) (u : List Token) → is (next u) ≡ false → Starts f e u → Starts (but f is) e u
but_starts is f e [] h s = s
but_starts is f e (t ∷ u) h s = and_not (is (class_of t)) (f (class_of t)) h s

pub but_good : {A : Type 0} {is f : Set} {e : Bool} {W : A → List Token → Type 0} {more : A → Set} {p : Parser A}
    → Good none f e W more p → is k.End ≡ false → Begun (Unless is W) [] → Good is (but f is) e (Unless is W) more p
but_good {is = is} {f = f} {e = e} {W = W} {more = more} {p = p} g never some = record {
  judged = λ i hp. but_judged is W more i never some hp (p i) (g.judged i refl);
  clear = λ a b u v r s x y. g.clear a b u v r s x.word y.word;
  some = some;
  starts = λ a u w. but_starts is f e u w.other (g.starts a u w.word);
}

-- ---- a first part that is there only under a condition

guard_begun : {A : Type 0} {P : Type 0} {W : A → List Token → Type 0} {u : List Token} → P → Begun W u → Begun (Guarded P W) u
guard_begun f b = record { item = b.item; more = b.more; legal = b.legal; holds = record { fact = f; word = b.holds } }

guard_judged : {A : Type 0} (P : Type 0) (W : A → List Token → Type 0) (more : A → Set) (i : List Token) (o : Outcome A) → P → Judged W more i o → Judged (Guarded P W) more i o
guard_judged P W more i (Ok p) f j = record { word = j.word; holds = record { fact = f; word = j.holds }; rest = j.rest; stops = j.stops }
guard_judged P W more i (Err e) f j = record { before = j.before; rest = j.rest; begins = guard_begun f j.begins; dead = λ a u c d w. j.dead a u c d w.word }

guard_good : {A : Type 0} {P : Type 0} {pre f : Set} {e : Bool} {W : A → List Token → Type 0} {more : A → Set} {p : Parser A} → P → Good pre f e W more p → Good pre f e (Guarded P W) more p
guard_good {P = P} {W = W} {more = more} {p = p} f g = record {
  judged = λ i hp. guard_judged P W more i (p i) f (g.judged i hp);
  clear = λ a b u v r s x y. g.clear a b u v r s x.word y.word;
  some = guard_begun f g.some;
  starts = λ a u w. g.starts a u w.word;
}

-- where it isn't, no token of its set comes
barred_judged : {A : Type 0} (W V : A → List Token → Type 0) (is : Set) (more : A → Set) (i : List Token) (o : Outcome A) → Judged V more i o
    → Judged (Either (Guarded (true ≡ false) W) V) more i o
barred_judged W V is more i (Ok p) h = record { word = h.word; holds = inr h.holds; rest = h.rest; stops = h.stops }
barred_judged W V is more i (Err x) h = record {
  before = h.before;
  rest = h.rest;
  begins = either_begins_2 (Guarded (true ≡ false) W) V h.before h.begins;
  dead = λ a u c d w. elim w [ inl l ↦ absurd (differ l.fact) | inr l ↦ h.dead a u c d l ];
}

barred_clear : {A : Type 0} (W V : A → List Token → Type 0) (more : A → Set) → Clear V more → Clear (Either (Guarded (true ≡ false) W) V) more
barred_clear W V more cv a b u v r s (inl x) y hr hs e = absurd (differ x.fact)
barred_clear W V more cv a b u v r s (inr x) (inl y) hr hs e = absurd (differ y.fact)
barred_clear W V more cv a b u v r s (inr x) (inr y) hr hs e = cv a b u v r s x y hr hs e

barred_starts : {A : Type 0} (W V : A → List Token → Type 0) (f g : Set) (e : Bool) → ((a : A) (u : List Token) → V a u → Starts g e u)
    → (a : A) (u : List Token) → Either (Guarded (true ≡ false) W) V a u → Starts (both f g) e u
barred_starts W V f g e sv a u (inl x) = absurd (differ x.fact)
barred_starts W V f g e sv a u (inr x) = starts_right f g e u (sv a u x)

-- the condition, and then what may come
abbrev pub only_if : Bool → Set → Set
only_if b f k = b && f k

if_false : {X : Type 0} (x y : X) (b : Bool) → b ≡ false → (if b then x else y) ≡ y
if_false x y false e = refl
if_false x y true e = absurd (differ e)

-- `b` says that the first part is barred; then none of its set is known to come
pub guarded_good : {A : Type 0} {is f g : Set} {e : Bool} {W V : A → List Token → Type 0} {more : A → Set} {p q : Parser A} (b : Bool)
    → Good none f false W more p → Good is g e V more q → Within f is → Apart g is → When e (Parts is V more)
    → Good (only_if b is) (both (only_if (not b) f) g) e (Either (Guarded (b ≡ false) W) V) more (where_sees is p q)
guarded_good {is = is} {f = f} {g = g} {e = e} {W = W} {V = V} {more = more} {p = p} {q = q} true gp gq w a pt = record {
  judged = λ i hp. subst (λ z. Judged (Either (Guarded (true ≡ false) W) V) more i z) (sym (if_false (p i) (q i) (is (next i)) hp)) (barred_judged W V is more i (q i) (gq.judged i hp));
  clear = barred_clear W V more gq.clear;
  some = either_begins_2 (Guarded (true ≡ false) W) V [] gq.some;
  starts = barred_starts W V (only_if false f) g e gq.starts;
}
guarded_good {is = is} {f = f} {e = e} {W = W} {V = V} {more = more} {p = p} {q = q} false gp gq w a pt =
    where_good {pre = only_if false is} {pre' = is} {f = f} (guard_good refl gp) gq w a (record { at = λ c x. or_false (only_if false is c) (is c) x }) pt
