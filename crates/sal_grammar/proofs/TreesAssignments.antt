-- Words of declarations and assignments are their trees.
use Rattle.std.proofs.Common.{◌≡◌, inl, inr, ℕ, zero, suc, ◌-◌, ◌≤◌, max, Bool, true, false, ◌&&◌, List, [], ◌∷◌, ◌++◌, map, Option, Some, None, option_map, refl, sym, ap, ◌∙◌, subst, append_assoc, append-nil, arith, rules}
use Rattle.std.specs.Prelude.{codes}
use Rattle.std.specs.List.{list_all}
use Rattle.sal_ast.specs.declared.lexeme.Kind.TheVariants as kind
use Rattle.sal_ast.specs.declared.expression.Expr.{Expr, the_lemmas}
use Rattle.sal_ast.specs.declared.expression.Expr.TheOpen.{Suffix-F}
use Rattle.sal_ast.specs.declared.expression.Suffix.{Suffix, out-Suffix}
use Rattle.sal_ast.specs.declared.expression.Suffix.TheVariants as s
use Rattle.sal_ast.specs.declared.program.Ident.{Ident}
use Rattle.sal_ast.specs.declared.program.TypeName.{TypeName}
use Rattle.sal_ast.specs.declared.statement.Assign.{Assign}
use Rattle.sal_ast.specs.declared.statement.Declare.{Declare}
use Rattle.sal_ast.specs.Depth.{greatest, depth_expr, depth_index, depth_declare, depth_assign}
use Rattle.sal_ast.specs.Regular.{expr_is_regular, declare_is_regular, assign_is_regular}
use Rattle.sal_ast.specs.Spell.{TreeTokens, concat_tokens, sign, sign_at, identifier, brackets, spell_base, spell_type, spell_expr, spell_suffix, spell_value, spell_declare, spell_index, spell_this, spell_assign}
use Rattle.sal_ast.proofs.SpellEquations.{spell-Index}
use Rattle.sal_grammar.specs.Tokens.{Token, Set, Lexemes, class_of}
use Rattle.sal_grammar.specs.Sets as is
use Rattle.sal_grammar.specs.Refusals.{Spells}
use Rattle.sal_grammar.specs.Expressions.{ident, base_of, type_of}
use Rattle.sal_grammar.specs.Statements.{one_less, index_in, indexes_of, has_index, all_indexes}
use Rattle.sal_grammar.proofs.Languages.{Seq, One, Just, Either, Deep, Star}
use Rattle.sal_grammar.proofs.ExpressionWords.{PairsWord, IndexWord, SizeWord, SuffixWord, SuffixesWord, ExprWord}
use Rattle.sal_grammar.proofs.StatementWords.{BelowWord, NameWord, InitialWord, DeclareWord, AssignedWord, AssignRestWord}
use Rattle.sal_grammar.proofs.TreesTokens as the
use Rattle.sal_grammar.proofs.TreesTokens.{left_true, right_true, both_true}
use Rattle.sal_grammar.proofs.TreesSteps.{Gives, Into, Takes, Each, Fine, AllOf, fine_each, each_fine, most, first_most, second_most, less, more, not_less, cut, join, lexemes_left, lexemes_right, parts4, parts5, gives_by, into_seq, into_just, into_end, into_either, into_at, into_none, gives_as, gives_more, token, name_token, star_gives, take_seq, take_just, take_end, take_as, take_left, take_right, take_token, take_name}
use Rattle.sal_grammar.proofs.TreesLists.{Link, pairs_link, brackets_next}
use Rattle.sal_grammar.proofs.TreesOperators.{Ranked, regular_by, expr_of_link}
use Rattle.sal_grammar.proofs.TreesParts.{IfThere, any_rank, index_fine, option_regular, option_depth, option_parts}
use Rattle.sal_grammar.proofs.TreesSorts.{name_sort, word_token, is_actor, take_word, take_actor}
use Rattle.sal_grammar.proofs.TreesExpressions.{Under, all_append, each_append, index_takes}
use Rattle.sal_grammar.proofs.TreesPostfix.{unary_link, expr_link}

-- what stands one deeper
pub under_below : (d : ℕ) → Under d (BelowWord d)
under_below zero = tt
under_below (suc d) = unary_link d

pub name_link : Link NameWord (λ _. Unit {0}) identifier
name_link = record {
  gives = gives_by (into_seq name_token (λ t h. into_just (ident t) tt refl));
  takes = λ n h. take_name (λ z. z) (λ t i. take_just (ident t) refl);
}

-- ---- types before something

abbrev base_pieces : Token → TreeTokens
base_pieces t = spell_base (base_of (class_of t) t.text) t.at

pub word_typed_into : {C : Type 0} {G : C → Type 0} {R : C → TreeTokens} {V : TypeName → C → List Token → Type 0} → ((sort : TypeName) → Into G R (λ q. spell_type sort ++ q) (V sort))
    → Into G R (λ q. q) (Seq (One is.sort_word) (λ t. Seq PairsWord (λ n. V (type_of t n))))
word_typed_into h = into_seq word_token (λ t i. into_seq pairs_link.gives (λ n j. into_at (λ q. sym (append_assoc (base_pieces t) (brackets n) q)) (h (type_of t n))))

no_brackets : (p q : TreeTokens) → p ++ q ≡ (p ++ brackets 0) ++ q
unfolding brackets
no_brackets p q = ap (λ z. z ++ q) (sym (append-nil p))

pub name_typed_into : {C : Type 0} {G : C → Type 0} {R : C → TreeTokens} {V : TypeName → C → List Token → Type 0} → ((sort : TypeName) → Into G R (λ q. spell_type sort ++ q) (V sort))
    → (t : Token) → is.id (class_of t) ≡ true → Into G R (λ q. identifier (ident t) ++ q) (V (type_of t 0))
name_typed_into h t i = into_at (λ q. ap (λ z. z ++ q) (name_sort t i) ∙ no_brackets (base_pieces t) q) (h (type_of t 0))

bracket_before : (p q : TreeTokens) (n : ℕ) → p ++ (sign "[" ++ (sign "]" ++ (brackets n ++ q))) ≡ (p ++ brackets (suc n)) ++ q
bracket_before p q n = ap (λ z. p ++ (z ++ q)) (sym (brackets_next n)) ∙ sym (append_assoc p (brackets (suc n)) q)

pub bracket_typed_into : {C : Type 0} {G : C → Type 0} {R : C → TreeTokens} {V : TypeName → C → List Token → Type 0} → ((sort : TypeName) → Into G R (λ q. spell_type sort ++ q) (V sort))
    → (t : Token) → is.id (class_of t) ≡ true → Into G R (λ q. identifier (ident t) ++ (sign "[" ++ q)) (Seq (One is.close_bracket) (λ _. Seq PairsWord (λ n. V (type_of t (suc n)))))
bracket_typed_into h t i =
    into_seq (token the.close_bracket) (λ t2 i2. into_seq pairs_link.gives (λ n j.
    into_at (λ q. ap (λ z. z ++ (sign "[" ++ (sign "]" ++ (brackets n ++ q)))) (name_sort t i) ∙ bracket_before (base_pieces t) q n) (h (type_of t (suc n)))))

pub pairs_typed_into : {C : Type 0} {G : C → Type 0} {R : C → TreeTokens} {V : TypeName → C → List Token → Type 0} → ((sort : TypeName) → Into G R (λ q. spell_type sort ++ q) (V sort))
    → (t : Token) → is.id (class_of t) ≡ true → Into G R (λ q. identifier (ident t) ++ q) (Seq PairsWord (λ n. V (type_of t n)))
pairs_typed_into h t i =
    into_seq pairs_link.gives (λ n j. into_at (λ q. ap (λ z. z ++ (brackets n ++ q)) (name_sort t i) ∙ sym (append_assoc (base_pieces t) (brackets n) q)) (h (type_of t n)))

typed_pairs : {C : Type 0} (V : TypeName → C → List Token → Type 0) {c : C} {q : TreeTokens} (sort : TypeName) (t : Token) → type_of t sort.dims ≡ sort → Takes (V sort) c q
    → Takes (Seq PairsWord (λ n. V (type_of t n))) c (brackets sort.dims ++ q)
typed_pairs V {c = c} {q = q} sort t e x = take_seq sort.dims (pairs_link.takes sort.dims tt) (subst (λ z. Takes (V z) c q) (sym e) x)

pub word_typed_takes : {C : Type 0} (V : TypeName → C → List Token → Type 0) {c : C} {q : TreeTokens} (sort : TypeName) → is_actor sort.base ≡ false → Takes (V sort) c q
    → Takes (Seq (One is.sort_word) (λ t. Seq PairsWord (λ n. V (type_of t n)))) c (spell_type sort ++ q)
word_typed_takes V {q = q} sort h x = take_as (append_assoc (spell_base sort.base sort.at) (brackets sort.dims) q) (take_word sort h (λ t e. typed_pairs V sort t e x))

pub actor_pairs_takes : {C : Type 0} (V : TypeName → C → List Token → Type 0) {U : Token → C → List Token → Type 0} {c : C} {q : TreeTokens} (sort : TypeName) → is_actor sort.base ≡ true → Takes (V sort) c q
    → ((t : Token) → Takes (Seq PairsWord (λ n. V (type_of t n))) c (brackets sort.dims ++ q) → Takes (U t) c (brackets sort.dims ++ q))
    → Takes (Seq (One is.id) U) c (spell_type sort ++ q)
actor_pairs_takes V {q = q} sort h x go = take_as (append_assoc (spell_base sort.base sort.at) (brackets sort.dims) q) (take_actor sort h (λ t i e. go t (typed_pairs V sort t e x)))

-- without brackets
pub actor_typed_takes : {C : Type 0} (V : TypeName → C → List Token → Type 0) {U : Token → C → List Token → Type 0} {c : C} {q : TreeTokens} (sort : TypeName) → is_actor sort.base ≡ true → sort.dims ≡ 0 → Takes (V sort) c q
    → ((t : Token) → Takes (V (type_of t 0)) c q → Takes (U t) c q) → Takes (Seq (One is.id) U) c (spell_type sort ++ q)
actor_typed_takes V {c = c} {q = q} sort h z x go =
    take_as (ap (λ n. (spell_base sort.base sort.at ++ brackets n) ++ q) z ∙ sym (no_brackets (spell_base sort.base sort.at) q))
    (take_actor sort h (λ t i e. go t (subst (λ y. Takes (V y) c q) (sym (ap (λ n. type_of t n) (sym z) ∙ e)) x)))

one_more : (n : ℕ) → 1 ≤ n → suc (n - 1) ≡ n
one_more n h = omega (arith, h)

-- with brackets
pub actor_bracket_takes : {C : Type 0} (V : TypeName → C → List Token → Type 0) {U : Token → C → List Token → Type 0} {c : C} {q : TreeTokens} (sort : TypeName) → is_actor sort.base ≡ true → 1 ≤ sort.dims → Takes (V sort) c q
    → ((t : Token) → Takes (Seq (One is.close_bracket) (λ _. Seq PairsWord (λ n. V (type_of t (suc n))))) c (sign "]" ++ (brackets (sort.dims - 1) ++ q)) → Takes (U t) c (sign "[" ++ (sign "]" ++ (brackets (sort.dims - 1) ++ q))))
    → Takes (Seq (One is.id) U) c (spell_type sort ++ q)
actor_bracket_takes V {c = c} {q = q} sort h l x go =
    take_as (ap (λ n. (spell_base sort.base sort.at ++ brackets n) ++ q) (sym (one_more sort.dims l)) ∙ sym (bracket_before (spell_base sort.base sort.at) q (sort.dims - 1)))
    (take_actor sort h (λ t i e. go t (take_token the.close_bracket (λ t2. take_seq (sort.dims - 1) (pairs_link.takes (sort.dims - 1) tt)
    (subst (λ y. Takes (V y) c q) (sym (ap (λ n. type_of t n) (one_more sort.dims l) ∙ e)) x)))))

-- ---- declarations

pub initial_link : (d : ℕ) → Link (InitialWord d) (IfThere (Ranked 0 d)) (λ x. spell_value x ++ sign ";")
unfolding InitialWord
initial_link d = record {
  gives = gives_by (into_either
      (into_seq (token the.assign) (λ t h. into_seq (expr_link d).gives (λ x f. into_seq (token the.semicolon) (λ t2 h2. into_just (Some x) f refl))))
      (into_seq (token the.semicolon) (λ t h. into_just None tt refl)));
  takes = by;
}
  where
    by : (x : Option Expr) → IfThere (Ranked 0 d) x → Takes (InitialWord d) x (spell_value x ++ sign ";")
    by None f = take_right (take_token the.semicolon (λ t. take_just None refl))
    by (Some x) f = take_left (take_token the.assign (λ t. take_seq x ((expr_link d).takes x f) (take_token the.semicolon (λ t2. take_just (Some x) refl))))

abbrev pub DeclareFine : ℕ → Declare → Type 0
DeclareFine d = Fine declare_is_regular depth_declare d

pub declare_into : (d : ℕ) (sort : TypeName) → Into (DeclareFine d) (λ x. spell_declare x ++ sign ";") (λ q. spell_type sort ++ q) (DeclareWord d sort)
unfolding DeclareWord spell_declare
declare_into d sort =
    into_seq name_link.gives (λ n h. into_end (λ x. record { sort = sort; name = n; init = x }) (initial_link d).gives
    (λ x f. record { good = option_regular d x f; fits = option_depth x f })
    (λ x. sym (parts4 (spell_type sort) (identifier n) (spell_value x) (sign ";"))))

pub declare_takes : (d : ℕ) (x : Declare) → DeclareFine d x → Takes (DeclareWord d x.sort) x (identifier x.name ++ (spell_value x.init ++ sign ";"))
unfolding DeclareWord
declare_takes d x f =
    take_seq x.name (name_link.takes x.name tt) (take_end (λ z. record { sort = x.sort; name = x.name; init = z }) x.init ((initial_link d).takes x.init (option_parts x.init f.good f.fits)) refl)

pub declare_spell : (x : Declare) → spell_declare x ++ sign ";" ≡ spell_type x.sort ++ (identifier x.name ++ (spell_value x.init ++ sign ";"))
unfolding spell_declare
declare_spell x = parts4 (spell_type x.sort) (identifier x.name) (spell_value x.init) (sign ";")

-- ---- indexes

abbrev pub IndexFine : ℕ → Expr → Type 0
IndexFine d = Fine expr_is_regular depth_index d

pub index_out : (at : ℕ) (x : Expr) → index_in (out-Suffix (s.Index at x)) ≡ x ∷ []
index_out at x = let o : out-Suffix (s.Index at x) ≡ Suffix-F.Index at x = search (rules, the_lemmas) in ap index_in o

abbrev index_pieces : Suffix → TreeTokens
index_pieces o = concat_tokens (map spell_index (index_in (out-Suffix o)))

abbrev IndexIn : ℕ → Suffix → Type 0
IndexIn d o = Each (IndexFine d) (index_in (out-Suffix o))

index_word : (d : ℕ) → Gives (Deep d (IndexWord (BelowWord d))) (IndexIn d) index_pieces
unfolding IndexWord
index_word zero = gives_by into_none
index_word (suc n) =
    let e = expr_of_link (unary_link n) in
    gives_by (into_seq (token the.open_bracket) (λ t h. into_seq e.gives (λ x f. into_seq (token the.close_bracket) (λ t2 h2. into_just (s.Index t.at x)
    (subst (λ z. Each (IndexFine (suc n)) z) (sym (index_out t.at x)) (record { good = regular_by 0 f; fits = more f.fits }, tt))
    (sym (append-nil (spell_index x)) ∙ ap (λ z. concat_tokens (map spell_index z)) (sym (index_out t.at x)))))))

indexes_pieces : (os : List Suffix) → concat_tokens (map index_pieces os) ≡ concat_tokens (map spell_index (indexes_of os))
indexes_pieces [] = refl
indexes_pieces (o ∷ os) = ap (λ z. index_pieces o ++ z) (indexes_pieces os) ∙ all_append spell_index (index_in (out-Suffix o)) (indexes_of os)

indexes_each : (d : ℕ) (os : List Suffix) → Each (IndexIn d) os → Each (IndexFine d) (indexes_of os)
indexes_each d [] h = tt
indexes_each d (o ∷ os) h = each_append (IndexFine d) (index_in (out-Suffix o)) (indexes_of os) h.0 (indexes_each d os h.1)

pub indexes_gives : (d : ℕ) → Gives (Star (Deep d (IndexWord (BelowWord d)))) (λ os. Each (IndexFine d) (indexes_of os)) (λ os. concat_tokens (map spell_index (indexes_of os)))
indexes_gives d = gives_as (λ os h. indexes_pieces os) (gives_more (λ os h. indexes_each d os h) (star_gives (index_word d)))

pub indexes_append : (os ps : List Suffix) → indexes_of (os ++ ps) ≡ indexes_of os ++ indexes_of ps
indexes_append [] ps = refl
indexes_append (o ∷ os) ps = ap (λ z. index_in (out-Suffix o) ++ z) (indexes_append os ps) ∙ sym (append_assoc (index_in (out-Suffix o)) (indexes_of os) (indexes_of ps))

-- the indexes that the tokens are, with the places of their brackets
pub record Indexed (d : ℕ) (xs : List Expr) (u : List Token) : Type 0 where
  pub list : List Suffix
  pub word : Star (Deep d (IndexWord (BelowWord d))) list u
  pub same : indexes_of list ≡ xs
  pub pure : all_indexes list ≡ true

record Placed (x : Expr) (u : List Token) : Type 0 where
  at : ℕ
  spells : Spells (spell_suffix (s.Index at x)) u

with_place : (x : Expr) (u : List Token) → Spells (spell_index x) u → Placed x u
with_place x [] h = absurd h
with_place x (t ∷ u) h = record { at = t.at; spells = subst (λ z. Spells z (t ∷ u)) (sym (spell-Index t.at x)) (record { kind = h.0.kind; text = h.0.text; place = refl }, h.1) }

one_index : (d at : ℕ) (x : Expr) (u : List Token) → IndexFine d x → Lexemes u → Spells (spell_suffix (s.Index at x)) u → Deep d (IndexWord (BelowWord d)) (s.Index at x) u
one_index zero at x u f hl h = absurd (not_less f.fits)
one_index (suc n) at x u f hl h = (index_takes (unary_link n) at x (index_fine at x (any_rank x f.good (less f.fits)))).word u hl h

pub index_words : (d : ℕ) (xs : List Expr) → Each (IndexFine d) xs → (u : List Token) → Lexemes u → Spells (concat_tokens (map spell_index xs)) u → Indexed d xs u
index_words d [] f [] hl h = record { list = []; word = refl; same = refl; pure = refl }
index_words d [] f (t ∷ u) hl h = absurd h
index_words d (x ∷ xs) f u hl h =
    let k = cut (spell_index x) (concat_tokens (map spell_index xs)) u h in
    let l = subst (λ z. Lexemes z) (sym k.joined) hl in
    let p = with_place x k.left k.first in
    let r : Indexed d xs k.right = index_words d xs f.1 k.right (lexemes_right k.left k.right l) k.second in
    record {
      list = s.Index p.at x ∷ r.list;
      word = record { left = k.left; right = k.right; first = one_index d p.at x k.left f.0 (lexemes_left k.left k.right l) p.spells; second = r.word; joined = k.joined };
      same = ap (λ z. z ++ indexes_of r.list) (index_out p.at x) ∙ ap (λ z. x ∷ z) r.same;
      pure = both_true (has_index (index_in (out-Suffix (s.Index p.at x)))) (all_indexes r.list) (ap has_index (index_out p.at x)) r.pure;
    }

-- indexes, and then what depends on them
pub take_indexes : {C : Type 0} {V : List Suffix → C → List Token → Type 0} {c : C} {q : TreeTokens} (d : ℕ) (xs : List Expr) → Each (IndexFine d) xs
    → ((os : List Suffix) → indexes_of os ≡ xs → all_indexes os ≡ true → Takes (V os) c q) → Takes (Seq (Star (Deep d (IndexWord (BelowWord d)))) V) c (concat_tokens (map spell_index xs) ++ q)
take_indexes {q = q} d xs f go = record {
  word = λ u hl h.
      let k = cut (concat_tokens (map spell_index xs)) q u h in
      let l = subst (λ z. Lexemes z) (sym k.joined) hl in
      let r = index_words d xs f k.left (lexemes_left k.left k.right l) k.first in
      record { item = r.list; left = k.left; right = k.right; first = r.word; second = (go r.list r.same r.pure).word k.right (lexemes_right k.left k.right l) k.second; joined = k.joined };
}

star_left : {A : Type 0} (W V : A → List Token → Type 0) (xs : List A) (u : List Token) → Star W xs u → Star (Either W V) xs u
star_left W V [] u w = w
star_left W V (x ∷ xs) u w = record { left = w.left; right = w.right; first = inl w.first; second = star_left W V xs w.right w.second; joined = w.joined }

-- the same where `.length` could stand
pub take_suffixes : {C : Type 0} {V : List Suffix → C → List Token → Type 0} {c : C} {q : TreeTokens} (d : ℕ) (xs : List Expr) → Each (IndexFine d) xs
    → ((os : List Suffix) → indexes_of os ≡ xs → all_indexes os ≡ true → Takes (V os) c q) → Takes (Seq (SuffixesWord d (BelowWord d)) V) c (concat_tokens (map spell_index xs) ++ q)
unfolding SuffixesWord SuffixWord
take_suffixes {q = q} d xs f go = record {
  word = λ u hl h.
      let k = cut (concat_tokens (map spell_index xs)) q u h in
      let l = subst (λ z. Lexemes z) (sym k.joined) hl in
      let r = index_words d xs f k.left (lexemes_left k.left k.right l) k.first in
      record {
        item = r.list;
        left = k.left;
        right = k.right;
        first = star_left (Deep d (IndexWord (BelowWord d))) SizeWord r.list k.left r.word;
        second = (go r.list r.same r.pure).word k.right (lexemes_right k.left k.right l) k.second;
        joined = k.joined;
      };
}

-- ---- assignments

abbrev pub AssignFine : ℕ → Assign → Type 0
AssignFine d = Fine assign_is_regular depth_assign d

indexes_all : AllOf expr_is_regular (λ xs. list_all expr_is_regular xs)
indexes_all = record { none = refl; more = λ x xs. refl }

pub assign_fine : (d : ℕ) (a : Assign) → Each (IndexFine d) a.indexes → Ranked 0 d a.value → AssignFine d a
assign_fine d a f g =
    let p = fine_each indexes_all a.indexes f in
    record { good = both_true (list_all expr_is_regular a.indexes) (expr_is_regular a.value) p.good (regular_by 0 g); fits = most p.fits g.fits }

pub assign_indexes : (d : ℕ) (a : Assign) → AssignFine d a → Each (IndexFine d) a.indexes
assign_indexes d a f = each_fine indexes_all a.indexes (record {
  good = left_true (list_all expr_is_regular a.indexes) (expr_is_regular a.value) f.good;
  fits = first_most (greatest (map depth_index a.indexes)) (depth_expr a.value) f.fits;
})

pub assign_value : (d : ℕ) (a : Assign) → AssignFine d a → Ranked 0 d a.value
assign_value d a f = any_rank a.value (right_true (list_all expr_is_regular a.indexes) (expr_is_regular a.value) f.good) (second_most (greatest (map depth_index a.indexes)) (depth_expr a.value) f.fits)

pub assigned_into : (d : ℕ) (own : Bool) (n : Ident) (found : List Suffix) → Each (IndexFine d) (indexes_of found)
    → Into (AssignFine d) spell_assign (λ q. spell_this own ++ (identifier n ++ (concat_tokens (map spell_index (indexes_of found)) ++ q))) (AssignedWord d own n found)
unfolding AssignedWord spell_assign
assigned_into d own n found f =
    into_seq (token the.assign) (λ t h. into_end (λ x. record { own = own; name = n; indexes = indexes_of found; value = x }) (expr_link d).gives
    (λ x g. assign_fine d (record { own = own; name = n; indexes = indexes_of found; value = x }) f g)
    (λ x. sym (parts5 (spell_this own) (identifier n) (concat_tokens (map spell_index (indexes_of found))) (sign "=") (spell_expr x))))

pub assigned_takes : (d : ℕ) (found : List Suffix) (a : Assign) → indexes_of found ≡ a.indexes → AssignFine d a → Takes (AssignedWord d a.own a.name found) a (sign "=" ++ spell_expr a.value)
unfolding AssignedWord
assigned_takes d found a e f =
    take_token the.assign (λ t. take_end (λ x. record { own = a.own; name = a.name; indexes = indexes_of found; value = x }) a.value ((expr_link d).takes a.value (assign_value d a f))
    (ap (λ z. record { own = a.own; name = a.name; indexes = z; value = a.value }) e))

rest_before : (p q : TreeTokens) (found os : List Suffix)
    → p ++ (concat_tokens (map spell_index (indexes_of found)) ++ (concat_tokens (map spell_index (indexes_of os)) ++ q)) ≡ p ++ (concat_tokens (map spell_index (indexes_of (found ++ os))) ++ q)
rest_before p q found os =
    ap (λ z. p ++ z) (sym (append_assoc (concat_tokens (map spell_index (indexes_of found))) (concat_tokens (map spell_index (indexes_of os))) q))
    ∙ ap (λ z. p ++ (z ++ q)) (all_append spell_index (indexes_of found) (indexes_of os) ∙ ap (λ z. concat_tokens (map spell_index z)) (sym (indexes_append found os)))

pub assign_rest_into : (d : ℕ) (own : Bool) (n : Ident) (found : List Suffix) → Each (IndexFine d) (indexes_of found)
    → Into (AssignFine d) spell_assign (λ q. spell_this own ++ (identifier n ++ (concat_tokens (map spell_index (indexes_of found)) ++ q))) (AssignRestWord d own n found)
unfolding AssignRestWord
assign_rest_into d own n found f =
    into_seq (indexes_gives d) (λ os g. into_at (λ q. ap (λ z. spell_this own ++ z) (rest_before (identifier n) q found os))
    (assigned_into d own n (found ++ os) (subst (λ z. Each (IndexFine d) z) (sym (indexes_append found os)) (each_append (IndexFine d) (indexes_of found) (indexes_of os) f g))))

pub assign_spell : (a : Assign) → spell_assign a ≡ spell_this a.own ++ (identifier a.name ++ (concat_tokens (map spell_index a.indexes) ++ (sign "=" ++ spell_expr a.value)))
unfolding spell_assign
assign_spell a = parts5 (spell_this a.own) (identifier a.name) (concat_tokens (map spell_index a.indexes)) (sign "=") (spell_expr a.value)

pub assign_rest_takes : (d : ℕ) (a : Assign) → AssignFine d a → Takes (AssignRestWord d a.own a.name []) a (concat_tokens (map spell_index a.indexes) ++ (sign "=" ++ spell_expr a.value))
unfolding AssignRestWord
assign_rest_takes d a f = take_indexes d a.indexes (assign_indexes d a f) (λ os e p. assigned_takes d os a e f)
