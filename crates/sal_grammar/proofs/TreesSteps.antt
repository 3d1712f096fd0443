-- From words to spellings and back, step by step.
use Rattle.std.proofs.Common.{◌≡◌, inl, inr, ℕ, zero, suc, ◌≤◌, max, Bool, true, false, ◌&&◌, List, [], ◌∷◌, ◌++◌, map, Option, Some, None, refl, sym, ap, ◌∙◌, subst, append_assoc, append-nil, arith}
use Rattle.std.specs.List.{list_all}
use Rattle.sal_ast.specs.declared.lexeme.Kind.{Kind}
use Rattle.sal_ast.specs.declared.lexeme.Kind.TheVariants as kind
use Rattle.sal_ast.specs.declared.program.Ident.{Ident}
use Rattle.sal_ast.specs.Depth.{greatest}
use Rattle.sal_ast.specs.Lexemes.{is_lexeme}
use Rattle.sal_ast.specs.Spell.{TreeToken, TreeTokens, concat_tokens, identifier}
use Rattle.sal_grammar.specs.Tokens.{Token, Set, Lexemes, class_of}
use Rattle.sal_grammar.specs.Sets as is
use Rattle.sal_grammar.specs.Refusals.{IsPlace, Stands, Spells}
use Rattle.sal_grammar.specs.Expressions.{ident}
use Rattle.sal_grammar.proofs.Languages.{Seq, One, Just, Either, Star, Twice, Unless}
use Rattle.sal_grammar.specs.declared.class.Class.{Class}
use Rattle.sal_grammar.proofs.TreesTokens.{Fits, left_true, right_true, both_true, name_kind, name_class, alone, tells, table_class, class_at, kind_in, text_in}

-- ---- tokens of the language

abbrev is_of : Token → Bool
is_of t = is_lexeme t.kind t.text

pub lexemes_left : (u v : List Token) → Lexemes (u ++ v) → Lexemes u
lexemes_left [] v h = refl
lexemes_left (t ∷ u) v h = both_true (is_of t) (list_all is_of u) (left_true (is_of t) (list_all is_of (u ++ v)) h) (lexemes_left u v (right_true (is_of t) (list_all is_of (u ++ v)) h))

pub lexemes_right : (u v : List Token) → Lexemes (u ++ v) → Lexemes v
lexemes_right [] v h = h
lexemes_right (t ∷ u) v h = lexemes_right u v (right_true (is_of t) (list_all is_of (u ++ v)) h)

-- ---- spellings

pub record Cut (ps qs : TreeTokens) (u : List Token) : Type 0 where
  pub left : List Token
  pub right : List Token
  pub first : Spells ps left
  pub second : Spells qs right
  pub joined : left ++ right ≡ u

pub join : (ps qs : TreeTokens) (u w : List Token) → Spells ps u → Spells qs w → Spells (ps ++ qs) (u ++ w)
join [] qs [] w x y = y
join [] qs (t ∷ u) w x y = absurd x
join (p ∷ ps) qs [] w x y = absurd x
join (p ∷ ps) qs (t ∷ u) w x y = (x.0, join ps qs u w x.1 y)

pub cut : (ps qs : TreeTokens) (u : List Token) → Spells (ps ++ qs) u → Cut ps qs u
cut [] qs u x = record { left = []; right = u; first = tt; second = x; joined = refl }
cut (p ∷ ps) qs [] x = absurd x
cut (p ∷ ps) qs (t ∷ u) x = let c = cut ps qs u x.1 in
    record { left = t ∷ c.left; right = c.right; first = (x.0, c.first); second = c.second; joined = ap (λ z. t ∷ z) c.joined }

pub no_pieces : (u : List Token) → Spells [] u → [] ≡ u
no_pieces [] x = refl
no_pieces (t ∷ u) x = absurd x

-- ---- parts one after the other

pub parts4 : (a b c d : TreeTokens) → a ++ b ++ c ++ d ≡ a ++ (b ++ (c ++ d))
parts4 a b c d = append_assoc (a ++ b) c d ∙ append_assoc a b (c ++ d)

pub parts5 : (a b c d e : TreeTokens) → a ++ b ++ c ++ d ++ e ≡ a ++ (b ++ (c ++ (d ++ e)))
parts5 a b c d e = append_assoc (a ++ b ++ c) d e ∙ parts4 a b c (d ++ e)

pub parts6 : (a b c d e f : TreeTokens) → a ++ b ++ c ++ d ++ e ++ f ≡ a ++ (b ++ (c ++ (d ++ (e ++ f))))
parts6 a b c d e f = append_assoc (a ++ b ++ c ++ d) e f ∙ parts5 a b c d (e ++ f)

pub parts7 : (a b c d e f g : TreeTokens) → a ++ b ++ c ++ d ++ e ++ f ++ g ≡ a ++ (b ++ (c ++ (d ++ (e ++ (f ++ g)))))
parts7 a b c d e f g = append_assoc (a ++ b ++ c ++ d ++ e) f g ∙ parts6 a b c d e (f ++ g)

pub parts8 : (a b c d e f g h : TreeTokens) → a ++ b ++ c ++ d ++ e ++ f ++ g ++ h ≡ a ++ (b ++ (c ++ (d ++ (e ++ (f ++ (g ++ h))))))
parts8 a b c d e f g h = append_assoc (a ++ b ++ c ++ d ++ e ++ f) g h ∙ parts7 a b c d e f (g ++ h)

-- ---- from words to spellings

-- each word spells its value, of which a fact holds
pub record Gives {A : Type 0} (W : A → List Token → Type 0) (F : A → Type 0) (P : A → TreeTokens) : Type 0 where
  pub fact : (a : A) (u : List Token) → Lexemes u → W a u → F a
  pub spells : (a : A) (u : List Token) → Lexemes u → W a u → Spells (P a) u

-- what the tokens spell, and what that makes of the pieces before it
pub record Rest (whole : TreeTokens) (before : TreeTokens → TreeTokens) (u : List Token) : Type 0 where
  pub pieces : TreeTokens
  pub spells : Spells pieces u
  pub turns : (v : List Token) → Spells (before pieces) v → Spells whole v

-- each word spells the rest of its value
pub record Into {C : Type 0} (G : C → Type 0) (R : C → TreeTokens) (before : TreeTokens → TreeTokens) (V : C → List Token → Type 0) : Type 0 where
  pub fact : (c : C) (u : List Token) → Lexemes u → V c u → G c
  pub rest : (c : C) (u : List Token) → Lexemes u → V c u → Rest (R c) before u

pub gives_by : {C : Type 0} {G : C → Type 0} {R : C → TreeTokens} {V : C → List Token → Type 0} → Into G R (λ q. q) V → Gives V G R
gives_by i = record { fact = i.fact; spells = λ c u hl w. (i.rest c u hl w).turns u (i.rest c u hl w).spells }

left_of : {A C : Type 0} {W : A → List Token → Type 0} {V : A → C → List Token → Type 0} (c : C) (u : List Token) → Lexemes u → (w : Seq W V c u) → Lexemes w.left
left_of c u hl w = lexemes_left w.left w.right (subst (λ z. Lexemes z) (sym w.joined) hl)

right_of : {A C : Type 0} {W : A → List Token → Type 0} {V : A → C → List Token → Type 0} (c : C) (u : List Token) → Lexemes u → (w : Seq W V c u) → Lexemes w.right
right_of c u hl w = lexemes_right w.left w.right (subst (λ z. Lexemes z) (sym w.joined) hl)

pub into_seq : {A C : Type 0} {F : A → Type 0} {P : A → TreeTokens} {G : C → Type 0} {R : C → TreeTokens} {before : TreeTokens → TreeTokens}
    {W : A → List Token → Type 0} {V : A → C → List Token → Type 0}
    → Gives W F P → ((a : A) → F a → Into G R (λ q. before (P a ++ q)) (V a)) → Into G R before (Seq W V)
into_seq {P = P} g go = record {
  fact = λ c u hl w. (go w.item (g.fact w.item w.left (left_of c u hl w) w.first)).fact c w.right (right_of c u hl w) w.second;
  rest = λ c u hl w.
      let y = (go w.item (g.fact w.item w.left (left_of c u hl w) w.first)).rest c w.right (right_of c u hl w) w.second in
      record {
        pieces = P w.item ++ y.pieces;
        spells = subst (λ z. Spells (P w.item ++ y.pieces) z) w.joined (join (P w.item) y.pieces w.left w.right (g.spells w.item w.left (left_of c u hl w) w.first) y.spells);
        turns = y.turns;
      };
}

pub into_just : {C : Type 0} {G : C → Type 0} {R : C → TreeTokens} {before : TreeTokens → TreeTokens} (a : C) → G a → before [] ≡ R a → Into G R before (Just a)
into_just {G = G} {R = R} {before = before} a h e = record {
  fact = λ c u hl j. subst G j.same h;
  rest = λ c u hl j. record { pieces = []; spells = subst (λ z. Spells [] z) j.empty tt; turns = λ v x. subst (λ z. Spells z v) (e ∙ ap R j.same) x };
}

pub into_gives : {C : Type 0} {F G : C → Type 0} {P R : C → TreeTokens} {before : TreeTokens → TreeTokens} {V : C → List Token → Type 0}
    → Gives V F P → ((c : C) → F c → G c) → ((c : C) → before (P c) ≡ R c) → Into G R before V
into_gives {P = P} g h e = record {
  fact = λ c u hl w. h c (g.fact c u hl w);
  rest = λ c u hl w. record { pieces = P c; spells = g.spells c u hl w; turns = λ v x. subst (λ z. Spells z v) (e c) x };
}

last_is : {A C : Type 0} {W : A → List Token → Type 0} (f : A → C) (c : C) (u : List Token) (w : Seq W (λ a. Just (f a)) c u) → w.left ≡ u
last_is f c u w = sym (append-nil w.left) ∙ (ap (λ z. w.left ++ z) w.second.empty ∙ w.joined)

-- a part that goes on with pieces before it, and then another
pub into_then : {A C : Type 0} {F : A → Type 0} {P : A → TreeTokens} {G : C → Type 0} {R : C → TreeTokens} {before : TreeTokens → TreeTokens}
    {W : A → List Token → Type 0} {V : A → C → List Token → Type 0}
    → ((p q : TreeTokens) → before (p ++ q) ≡ before p ++ q) → Into F P before W → ((a : A) → F a → Into G R (λ q. P a ++ q) (V a)) → Into G R before (Seq W V)
into_then {P = P} {before = before} app i go = record {
  fact = λ c u hl w. (go w.item (i.fact w.item w.left (left_of c u hl w) w.first)).fact c w.right (right_of c u hl w) w.second;
  rest = λ c u hl w.
      let x = i.rest w.item w.left (left_of c u hl w) w.first in
      let y = (go w.item (i.fact w.item w.left (left_of c u hl w) w.first)).rest c w.right (right_of c u hl w) w.second in
      record {
        pieces = x.pieces ++ y.pieces;
        spells = subst (λ z. Spells (x.pieces ++ y.pieces) z) w.joined (join x.pieces y.pieces w.left w.right x.spells y.spells);
        turns = λ v z.
            let j = cut (before x.pieces) y.pieces v (subst (λ q. Spells q v) (app x.pieces y.pieces) z) in
            y.turns v (subst (λ r. Spells (P w.item ++ y.pieces) r) j.joined (join (P w.item) y.pieces j.left j.right (x.turns j.left j.first) j.second));
      };
}

-- a value that a function makes of the last part
pub into_end : {A C : Type 0} {F : A → Type 0} {P : A → TreeTokens} {G : C → Type 0} {R : C → TreeTokens} {before : TreeTokens → TreeTokens} {W : A → List Token → Type 0}
    (f : A → C) → Gives W F P → ((a : A) → F a → G (f a)) → ((a : A) → before (P a) ≡ R (f a)) → Into G R before (Seq W (λ a. Just (f a)))
into_end {P = P} {G = G} {R = R} {W = W} f g h e = record {
  fact = λ c u hl w. subst G w.second.same (h w.item (g.fact w.item w.left (left_of c u hl w) w.first));
  rest = λ c u hl w. record {
    pieces = P w.item;
    spells = subst (λ z. Spells (P w.item) z) (last_is f c u w) (g.spells w.item w.left (left_of c u hl w) w.first);
    turns = λ v x. subst (λ z. Spells z v) (e w.item ∙ ap R w.second.same) x;
  };
}

pub into_either : {C : Type 0} {G : C → Type 0} {R : C → TreeTokens} {before : TreeTokens → TreeTokens} {V U : C → List Token → Type 0}
    → Into G R before V → Into G R before U → Into G R before (Either V U)
into_either {G = G} {R = R} {before = before} x y = record {
  fact = λ c u hl w. elim w as (λ _. G c) [ inl a ↦ x.fact c u hl a | inr b ↦ y.fact c u hl b ];
  rest = λ c u hl w. elim w as (λ _. Rest (R c) before u) [ inl a ↦ x.rest c u hl a | inr b ↦ y.rest c u hl b ];
}

-- a part, and then one of two
pub into_split : {A C : Type 0} {G : C → Type 0} {R : C → TreeTokens} {before : TreeTokens → TreeTokens} {W : A → List Token → Type 0} {V U : A → C → List Token → Type 0}
    → Into G R before (Seq W V) → Into G R before (Seq W U) → Into G R before (Seq W (λ a. Either (V a) (U a)))
into_split {A = A} {C = C} {G = G} {R = R} {before = before} {W = W} {V = V} {U = U} x y = record {
  fact = λ c u hl w. elim (split c u w) as (λ _. G c) [ inl a ↦ x.fact c u hl a | inr b ↦ y.fact c u hl b ];
  rest = λ c u hl w. elim (split c u w) as (λ _. Rest (R c) before u) [ inl a ↦ x.rest c u hl a | inr b ↦ y.rest c u hl b ];
}
  where
    split : (c : C) (u : List Token) → Seq W (λ a. Either (V a) (U a)) c u → Either (Seq W V) (Seq W U) c u
    split c u w = elim w.second as (λ _. Either (Seq W V) (Seq W U) c u) [
      | inl a ↦ inl (record { item = w.item; left = w.left; right = w.right; first = w.first; second = a; joined = w.joined })
      | inr b ↦ inr (record { item = w.item; left = w.left; right = w.right; first = w.first; second = b; joined = w.joined })
    ]

-- pieces before it, otherwise put together
pub into_at : {C : Type 0} {G : C → Type 0} {R : C → TreeTokens} {before after : TreeTokens → TreeTokens} {V : C → List Token → Type 0}
    → ((q : TreeTokens) → before q ≡ after q) → Into G R after V → Into G R before V
into_at e x = record {
  fact = x.fact;
  rest = λ c u hl w. let y = x.rest c u hl w in record { pieces = y.pieces; spells = y.spells; turns = λ v z. y.turns v (subst (λ r. Spells r v) (e y.pieces) z) };
}

-- pieces before it with less places
pub into_weaker : {C : Type 0} {G : C → Type 0} {R : C → TreeTokens} {before after : TreeTokens → TreeTokens} {V : C → List Token → Type 0}
    → ((q : TreeTokens) (v : List Token) → Spells (before q) v → Spells (after q) v) → Into G R after V → Into G R before V
into_weaker h x = record {
  fact = x.fact;
  rest = λ c u hl w. let y = x.rest c u hl w in record { pieces = y.pieces; spells = y.spells; turns = λ v z. y.turns v (h y.pieces v z) };
}

-- a function of what is read
pub into_map : {A C : Type 0} {F : A → Type 0} {P : A → TreeTokens} {G : C → Type 0} {R : C → TreeTokens} {before : TreeTokens → TreeTokens} {W : A → List Token → Type 0}
    (f : A → C) → Into F P before W → ((a : A) → F a → G (f a)) → ((a : A) → P a ≡ R (f a)) → Into G R before (Seq W (λ a. Just (f a)))
into_map {P = P} {G = G} {R = R} {before = before} {W = W} f i h e = record {
  fact = λ c u hl w. subst G w.second.same (h w.item (i.fact w.item w.left (left_of c u hl w) w.first));
  rest = λ c u hl w.
      let y = i.rest w.item w.left (left_of c u hl w) w.first in
      record {
        pieces = y.pieces;
        spells = subst (λ z. Spells y.pieces z) (last_is f c u w) y.spells;
        turns = λ v x. subst (λ z. Spells z v) (e w.item ∙ ap R w.second.same) (y.turns v x);
      };
}

-- no word
pub into_none : {C : Type 0} {G : C → Type 0} {R : C → TreeTokens} {before : TreeTokens → TreeTokens} → Into G R before (λ _ _. ⊥)
into_none = record { fact = λ c u hl w. absurd w; rest = λ c u hl w. absurd w }

pub gives_more : {A : Type 0} {F G : A → Type 0} {P : A → TreeTokens} {W : A → List Token → Type 0} → ((a : A) → F a → G a) → Gives W F P → Gives W G P
gives_more h g = record { fact = λ a u hl w. h a (g.fact a u hl w); spells = g.spells }

pub into_unless : {C : Type 0} {G : C → Type 0} {R : C → TreeTokens} {before : TreeTokens → TreeTokens} {set : Set} {V : C → List Token → Type 0}
    → Into G R before V → Into G R before (Unless set V)
into_unless x = record { fact = λ c u hl w. x.fact c u hl w.word; rest = λ c u hl w. x.rest c u hl w.word }

-- a token with its place, and one without it
pub token_at : {set : Set} {kd : Kind} {text : List ℕ} → Fits set kd text
    → Gives (One set) (λ t. set (class_of t) ≡ true) (λ t. record { kind = kd; text = text; at = Some t.at } ∷ [])
token_at {kd = kd} {text = text} f = record {
  fact = λ t u hl w. w.fits;
  spells = λ t u hl w. subst (λ z. Spells (record { kind = kd; text = text; at = Some t.at } ∷ []) z) w.alone
      (record { kind = sym (f.to_kind t w.fits); text = sym (f.to_text t w.fits); place = refl }, tt);
}

pub token : {set : Set} {kd : Kind} {text : List ℕ} → Fits set kd text
    → Gives (One set) (λ t. set (class_of t) ≡ true) (λ t. record { kind = kd; text = text; at = None } ∷ [])
token {kd = kd} {text = text} f = record {
  fact = λ t u hl w. w.fits;
  spells = λ t u hl w. subst (λ z. Spells (record { kind = kd; text = text; at = None } ∷ []) z) w.alone
      (record { kind = sym (f.to_kind t w.fits); text = sym (f.to_text t w.fits); place = tt }, tt);
}

pub name_token : Gives (One is.id) (λ t. is.id (class_of t) ≡ true) (λ t. identifier (ident t))
name_token = record {
  fact = λ t u hl w. w.fits;
  spells = λ t u hl w. subst (λ z. Spells (identifier (ident t)) z) w.alone
      (record { kind = sym (name_kind t w.fits); text = refl; place = refl }, tt);
}

-- ---- from spellings to words

-- the tokens that such pieces spell are a word with this value
pub record Takes {C : Type 0} (V : C → List Token → Type 0) (c : C) (q : TreeTokens) : Type 0 where
  pub word : (u : List Token) → Lexemes u → Spells q u → V c u

pub take_seq : {A C : Type 0} {W : A → List Token → Type 0} {V : A → C → List Token → Type 0} {c : C} {p q : TreeTokens} (a : A)
    → Takes W a p → Takes (V a) c q → Takes (Seq W V) c (p ++ q)
take_seq {p = p} {q = q} a x y = record {
  word = λ u hl s.
      let k = cut p q u s in
      let l = subst (λ z. Lexemes z) (sym k.joined) hl in
      record { item = a; left = k.left; right = k.right; first = x.word k.left (lexemes_left k.left k.right l) k.first; second = y.word k.right (lexemes_right k.left k.right l) k.second; joined = k.joined };
}

pub take_just : {C : Type 0} {c : C} (a : C) → a ≡ c → Takes (Just a) c []
take_just a e = record { word = λ u hl s. record { same = e; empty = no_pieces u s } }

pub take_end : {A C : Type 0} {W : A → List Token → Type 0} {c : C} {p : TreeTokens} (f : A → C) (a : A) → Takes W a p → f a ≡ c → Takes (Seq W (λ x. Just (f x))) c p
take_end f a x e = record {
  word = λ u hl s. record { item = a; left = u; right = []; first = x.word u hl s; second = record { same = e; empty = refl }; joined = append-nil u };
}

pub take_as : {C : Type 0} {V : C → List Token → Type 0} {c : C} {p q : TreeTokens} → p ≡ q → Takes V c q → Takes V c p
take_as e x = record { word = λ u hl s. x.word u hl (subst (λ z. Spells z u) e s) }

pub take_left : {C : Type 0} {V U : C → List Token → Type 0} {c : C} {q : TreeTokens} → Takes V c q → Takes (Either V U) c q
take_left x = record { word = λ u hl s. inl (x.word u hl s) }

pub take_right : {C : Type 0} {V U : C → List Token → Type 0} {c : C} {q : TreeTokens} → Takes U c q → Takes (Either V U) c q
take_right x = record { word = λ u hl s. inr (x.word u hl s) }

-- a token without a place, where the value doesn't depend on it
pub take_token : {C : Type 0} {V : Token → C → List Token → Type 0} {c : C} {q : TreeTokens} {set : Set} {kd : Kind} {text : List ℕ} → Fits set kd text
    → ((t : Token) → Takes (V t) c q) → Takes (Seq (One set) V) c (record { kind = kd; text = text; at = None } ∷ q)
take_token {C = C} {V = V} {c = c} {q = q} {set = set} {kd = kd} {text = text} f go = record { word = by }
  where
    by : (u : List Token) → Lexemes u → Spells (record { kind = kd; text = text; at = None } ∷ q) u → Seq (One set) V c u
    by [] hl s = absurd s
    by (t ∷ u) hl s = record {
      item = t;
      left = t ∷ [];
      right = u;
      first = record { fits = f.from t (sym s.0.kind) (sym s.0.text); alone = refl };
      second = (go t).word u (lexemes_right (t ∷ []) u hl) s.1;
      joined = refl;
    }

-- a token with a place, on which the value depends
pub take_at : {C : Type 0} {V : Token → C → List Token → Type 0} {q : TreeTokens} {set : Set} {kd : Kind} {text : List ℕ} {at : ℕ} (f : ℕ → C) → Fits set kd text
    → ((t : Token) → Takes (V t) (f t.at) q) → Takes (Seq (One set) V) (f at) (record { kind = kd; text = text; at = Some at } ∷ q)
take_at {C = C} {V = V} {q = q} {set = set} {kd = kd} {text = text} {at = at} f h go = record { word = by }
  where
    by : (u : List Token) → Lexemes u → Spells (record { kind = kd; text = text; at = Some at } ∷ q) u → Seq (One set) V (f at) u
    by [] hl s = absurd s
    by (t ∷ u) hl s = record {
      item = t;
      left = t ∷ [];
      right = u;
      first = record { fits = h.from t (sym s.0.kind) (sym s.0.text); alone = refl };
      second = subst (λ z. V t (f z) u) (sym s.0.place) ((go t).word u (lexemes_right (t ∷ []) u hl) s.1);
      joined = refl;
    }

pub take_name : {C : Type 0} {V : Token → C → List Token → Type 0} {q : TreeTokens} {n : Ident} (f : Ident → C)
    → ((t : Token) → is.id (class_of t) ≡ true → Takes (V t) (f (ident t)) q) → Takes (Seq (One is.id) V) (f n) (identifier n ++ q)
take_name {C = C} {V = V} {q = q} {n = n} f go = record { word = by }
  where
    by : (u : List Token) → Lexemes u → Spells (identifier n ++ q) u → Seq (One is.id) V (f n) u
    by [] hl s = absurd s
    by (t ∷ u) hl s =
        let here : is.id (class_of t) ≡ true = name_class t (sym s.0.kind) in
        let e : ident t ≡ n = ap (λ z. record { text = z; at = t.at }) (sym s.0.text) ∙ ap (λ z. record { text = n.text; at = z }) (sym s.0.place) in
        record {
          item = t;
          left = t ∷ [];
          right = u;
          first = record { fits = here; alone = refl };
          second = subst (λ z. V t (f z) u) e ((go t here).word u (lexemes_right (t ∷ []) u hl) s.1);
          joined = refl;
        }

-- a token of a set, by what stands there
pub take_one : {C : Type 0} {V : Token → C → List Token → Type 0} {c : C} {q : TreeTokens} {set : Set} (p : TreeToken)
    → ((t : Token) → Stands p t → set (class_of t) ≡ true) → ((t : Token) → Stands p t → Takes (V t) c q) → Takes (Seq (One set) V) c (p ∷ q)
take_one {C = C} {V = V} {c = c} {q = q} {set = set} p h go = record { word = by }
  where
    by : (u : List Token) → Lexemes u → Spells (p ∷ q) u → Seq (One set) V c u
    by [] hl s = absurd s
    by (t ∷ u) hl s = record {
      item = t;
      left = t ∷ [];
      right = u;
      first = record { fits = h t s.0; alone = refl };
      second = (go t s.0).word u (lexemes_right (t ∷ []) u hl) s.1;
      joined = refl;
    }

-- a token with a place, by its class
pub take_class : {C : Type 0} {V : Token → C → List Token → Type 0} {q : TreeTokens} {set : Set} {kd : Kind} {text : List ℕ} {at : ℕ} (f : ℕ → C) → set (table_class kd text) ≡ true
    → ((t : Token) → class_of t ≡ table_class kd text → Takes (V t) (f t.at) q) → Takes (Seq (One set) V) (f at) (record { kind = kd; text = text; at = Some at } ∷ q)
take_class {V = V} {q = q} {set = set} {kd = kd} {text = text} {at = at} f h go =
    take_one (record { kind = kd; text = text; at = Some at }) (λ t s. ap set (class_at t kd text (sym s.kind) (sym s.text)) ∙ h)
    (λ t s. subst (λ z. Takes (V t) (f z) q) (sym s.place) (go t (class_at t kd text (sym s.kind) (sym s.text))))

-- a token whose class tells its text
pub class_token : {set : Set} (kd : Kind) (f : Class → List ℕ) → alone set kd ≡ true → tells set f kd ≡ true
    → Gives (One set) (λ t. set (class_of t) ≡ true) (λ t. record { kind = kd; text = f (class_of t); at = Some t.at } ∷ [])
class_token {set = set} kd f a b = record {
  fact = λ t u hl w. w.fits;
  spells = λ t u hl w.
      let ek : t.kind ≡ kd = kind_in set kd a t w.fits in
      subst (λ z. Spells (record { kind = kd; text = f (class_of t); at = Some t.at } ∷ []) z) w.alone
      (record { kind = sym ek; text = sym (text_in set f kd b t ek w.fits); place = refl }, tt);
}

pub gives_as : {A : Type 0} {F : A → Type 0} {P Q : A → TreeTokens} {W : A → List Token → Type 0} → ((a : A) → F a → P a ≡ Q a) → Gives W F P → Gives W F Q
gives_as e g = record { fact = g.fact; spells = λ a u hl w. subst (λ z. Spells z u) (e a (g.fact a u hl w)) (g.spells a u hl w) }

-- ---- facts

-- a test and a bound
pub record Fine {A : Type 0} (b : A → Bool) (m : A → ℕ) (d : ℕ) (a : A) : Type 0 where
  pub good : b a ≡ true
  pub fits : m a ≤ d

abbrev pub Each : {A : Type 0} → (A → Type 0) → List A → Type 0
Each F [] = Unit {0}
Each F (a ∷ others) = F a × Each F others

-- the list's test is that of each item
pub record AllOf {A : Type 0} (b : A → Bool) (T : List A → Bool) : Type 0 where
  pub none : T [] ≡ true
  pub more : (x : A) (xs : List A) → T (x ∷ xs) ≡ b x && T xs

pub most : {a b d : ℕ} → a ≤ d → b ≤ d → max a b ≤ d
most x y = omega (arith, x, y)

pub first_most : (a b : ℕ) {d : ℕ} → max a b ≤ d → a ≤ d
first_most a b x = omega (arith, x)

pub second_most : (a b : ℕ) {d : ℕ} → max a b ≤ d → b ≤ d
second_most a b x = omega (arith, x)

pub less : {a d : ℕ} → suc a ≤ suc d → a ≤ d
less x = omega (arith, x)

pub more : {a d : ℕ} → a ≤ d → suc a ≤ suc d
more x = omega (arith, x)

pub least : {d : ℕ} → 0 ≤ d
least = omega arith

pub not_less : {a : ℕ} → suc a ≤ 0 → ⊥
not_less x = omega (arith, x)

pub fine_each : {A : Type 0} {b : A → Bool} {m : A → ℕ} {d : ℕ} {T : List A → Bool} → AllOf b T → (xs : List A) → Each (Fine b m d) xs → Fine T (λ ys. greatest (map m ys)) d xs
fine_each h [] x = record { good = h.none; fits = least }
fine_each {b = b} {T = T} h (a ∷ others) x =
    let y = fine_each h others x.1 in
    record { good = h.more a others ∙ both_true (b a) (T others) x.0.good y.good; fits = most x.0.fits y.fits }

pub each_fine : {A : Type 0} {b : A → Bool} {m : A → ℕ} {d : ℕ} {T : List A → Bool} → AllOf b T → (xs : List A) → Fine T (λ ys. greatest (map m ys)) d xs → Each (Fine b m d) xs
each_fine h [] x = tt
each_fine {b = b} {m = m} {T = T} h (a ∷ others) x =
    let g : b a && T others ≡ true = sym (h.more a others) ∙ x.good in (
      record { good = left_true (b a) (T others) g; fits = first_most (m a) (greatest (map m others)) x.fits },
      each_fine h others (record { good = right_true (b a) (T others) g; fits = second_most (m a) (greatest (map m others)) x.fits }),
    )

-- ---- any number of items

pub star_gives : {A : Type 0} {F : A → Type 0} {P : A → TreeTokens} {W : A → List Token → Type 0} → Gives W F P → Gives (Star W) (Each F) (λ xs. concat_tokens (map P xs))
star_gives {A = A} {F = F} {P = P} {W = W} g = record { fact = facts; spells = spelled }
  where
    facts : (xs : List A) (u : List Token) → Lexemes u → Star W xs u → Each F xs
    facts [] u hl w = tt
    facts (a ∷ others) u hl w =
        let l = subst (λ z. Lexemes z) (sym w.joined) hl in
        (g.fact a w.left (lexemes_left w.left w.right l) w.first, facts others w.right (lexemes_right w.left w.right l) w.second)

    spelled : (xs : List A) (u : List Token) → Lexemes u → Star W xs u → Spells (concat_tokens (map P xs)) u
    spelled [] u hl w = subst (λ z. Spells [] z) w tt
    spelled (a ∷ others) u hl w =
        let l = subst (λ z. Lexemes z) (sym w.joined) hl in
        subst (λ z. Spells (P a ++ concat_tokens (map P others)) z) w.joined
        (join (P a) (concat_tokens (map P others)) w.left w.right (g.spells a w.left (lexemes_left w.left w.right l) w.first) (spelled others w.right (lexemes_right w.left w.right l) w.second))

pub star_takes : {A : Type 0} {F : A → Type 0} {P : A → TreeTokens} {W : A → List Token → Type 0} → ((a : A) → F a → Takes W a (P a)) → (xs : List A) → Each F xs → Takes (Star W) xs (concat_tokens (map P xs))
star_takes h [] x = record { word = λ u hl s. no_pieces u s }
star_takes {P = P} h (a ∷ others) x = record {
  word = λ u hl s.
      let k = cut (P a) (concat_tokens (map P others)) u s in
      let l = subst (λ z. Lexemes z) (sym k.joined) hl in
      record {
        left = k.left;
        right = k.right;
        first = (h a x.0).word k.left (lexemes_left k.left k.right l) k.first;
        second = (star_takes h others x.1).word k.right (lexemes_right k.left k.right l) k.second;
        joined = k.joined;
      };
}
