-- Words of the parts of expressions are their trees, where words of what stands one deeper are.
use Rattle.std.proofs.Common.{◌≡◌, ◌⊎◌, inl, inr, ℕ, zero, suc, ◌-◌, ◌≤◌, Bool, true, false, List, [], ◌∷◌, ◌++◌, map, Option, Some, None, option_map, refl, sym, ap, ◌∙◌, subst, append_assoc, append-nil, arith, rules}
use Rattle.std.specs.Prelude.{codes, decimal, nat_eq}
use Rattle.std.specs.Str.Parse.{digits_value}
use Rattle.std.proofs.lemmas.Bool.{eqb-true, eq-eqb}
use Rattle.sal_ast.specs.declared.lexeme.Kind.{Kind}
use Rattle.sal_ast.specs.declared.lexeme.Kind.TheVariants as kind
use Rattle.sal_ast.specs.declared.expression.At.{At, roll-At}
use Rattle.sal_ast.specs.declared.expression.Expr.{Expr, out-Expr, roll-Expr, the_lemmas}
use Rattle.sal_ast.specs.declared.expression.Expr.TheOpen.{Expr-F, Suffix-F}
use Rattle.sal_ast.specs.declared.expression.Expr.TheVariants as e
use Rattle.sal_ast.specs.declared.expression.Operand.{Operand}
use Rattle.sal_ast.specs.declared.expression.Suffix.{Suffix, out-Suffix, roll-Suffix}
use Rattle.sal_ast.specs.declared.expression.Suffix.TheVariants as s
use Rattle.sal_ast.specs.declared.program.Ident.{Ident}
use Rattle.sal_ast.specs.declared.program.TypeName.{TypeName}
use Rattle.sal_ast.specs.Lexemes.{is_lexeme, is_number}
use Rattle.sal_ast.specs.Regular.{first_place}
use Rattle.sal_ast.specs.Spell.{TreeToken, TreeTokens, concat_tokens, separated_tokens, sign, sign_at, word_at, fixed_identifier, fixed_identifier_at, identifier, brackets, spell_base, spell_reference, spell_second, spell_expr, spell_suffix, spell_at}
use Rattle.sal_ast.proofs.DepthEquations.{depth-Number, depth-Str, depth-Bool, depth-Null, depth-Me}
use Rattle.sal_ast.proofs.RegularEquations.{regular-Number, regular-Str, regular-Bool, regular-Null, regular-Me}
use Rattle.sal_ast.proofs.SpellEquations.{spell-Number, spell-Str, spell-Bool, spell-Null, spell-Me, spell-Name, spell-Own, spell-Paren, spell-Neg, spell-Not, spell-Suffixed, spell-New, spell-Make, spell-ListOf, spell-ByName, spell-Index, spell-Length, spell-At}
use Rattle.sal_grammar.specs.declared.class.Class.{Class}
use Rattle.sal_grammar.specs.declared.class.Class.TheVariants as k
use Rattle.sal_grammar.specs.Tokens.{Token, Set, Lexemes, class_of}
use Rattle.sal_grammar.specs.Sets as is
use Rattle.sal_grammar.specs.Refusals.{Spells, Stands}
use Rattle.sal_grammar.specs.Expressions.{ident, base_of, type_of, suffixed, sign_of, name_in, name_of, plain_of}
use Rattle.sal_grammar.proofs.Exactness.{differ}
use Rattle.sal_grammar.proofs.Languages.{Seq, One, Just, Either, Deep, Star, Unless}
use Rattle.sal_grammar.proofs.ExpressionWords.{ListUntilWord, PairsWord, ExprOfWord, PrefixWord, GetterWord, IndexWord, SizeWord, SuffixWord, SuffixesWord, WithSuffixesWord, GetterCastWord, AfterParenWord, ParenWord, SecondWord, PlaceWord, NewActorWord, NewSizedWord, NewListWord, NewArrayWord, AfterNewWord, PlainWord, OwnWord}
use Rattle.sal_grammar.proofs.TreesTokens as the
use Rattle.sal_grammar.proofs.TreesTokens.{Fits, left_true, right_true, both_true, kind_in, table_class}
use Rattle.sal_grammar.proofs.TreesSteps.{parts5, parts6, Gives, Into, Takes, Each, Fine, gives_by, into_seq, into_just, into_end, into_either, into_at, into_gives, into_then, into_none, into_unless, gives_more, gives_as, token, token_at, name_token, class_token, star_gives, star_takes, take_seq, take_just, take_end, take_as, take_left, take_right, take_token, take_at, take_name, take_class}
use Rattle.sal_grammar.proofs.TreesLists.{Link, list_link, pairs_link, brackets_next}
use Rattle.sal_grammar.proofs.TreesNumbers.{number_text, number_value}
use Rattle.sal_grammar.proofs.TreesOperators.{Ranked, ranked_by, expr_of_link, rolled}
use Rattle.sal_grammar.proofs.TreesParts.{SuffixFine, AtFine, IfThere, any_rank, tight, paren_fine, paren_parts, not_fine, neg_fine, not_parts, neg_parts, name_fine, own_fine, getter_fine, getter_place, getter_parts, index_fine, index_parts, index_deep, length_fine, suffixed_fine, at_fine, at_first, at_second, new_fine, new_args, new_place, make_fine, make_dims, make_parts, list_fine, list_dims, list_parts}
use Rattle.sal_grammar.proofs.TreesSorts.{name_base, name_sort, word_token, actor_token, is_actor, take_word, take_actor}

-- what is known of the words one deeper, if there may be any
abbrev pub Under : ℕ → (Expr → List Token → Type 0) → Type 0
Under zero W = Unit {0}
Under (suc n) W = Link W (Ranked 6 n) spell_expr

-- ---- signs before an operand

abbrev prefix_text : Class → List ℕ
prefix_text k.Not = codes "!"
prefix_text _ = codes "-"

prefix_fine : {n : ℕ} (c : Class) (at : ℕ) (x : Expr) → Ranked 6 n x → Ranked 6 (suc n) (sign_of c at x)
prefix_fine k.Not at x f = not_fine at x f
prefix_fine _ at x f = neg_fine at x f

prefix_spell : (c : Class) (at : ℕ) (x : Expr) → record { kind = kind.Sign; text = prefix_text c; at = Some at } ∷ spell_expr x ≡ spell_expr (sign_of c at x)
prefix_spell k.Not at x = sym (spell-Not at x)
prefix_spell _ at x = sym (spell-Neg at x)

pub prefix_gives : {n : ℕ} {W : Expr → List Token → Type 0} → Link W (Ranked 6 n) spell_expr → Gives (PrefixWord W) (Ranked 6 (suc n)) spell_expr
unfolding PrefixWord
prefix_gives l =
    gives_by (into_seq (class_token {set = is.prefix} kind.Sign prefix_text refl refl) (λ t h.
    into_end (sign_of (class_of t) t.at) l.gives (λ x f. prefix_fine (class_of t) t.at x f) (λ x. prefix_spell (class_of t) t.at x)))

pub not_takes : {n : ℕ} {W : Expr → List Token → Type 0} → Link W (Ranked 6 n) spell_expr → (at : ℕ) (x : Expr) → Ranked 6 n x → Takes (PrefixWord W) (e.Not at x) (spell_expr (e.Not at x))
unfolding PrefixWord
not_takes l at x f =
    take_as (spell-Not at x) (take_class (λ z. e.Not z x) refl (λ t c. take_end (sign_of (class_of t) t.at) x (l.takes x f) (ap (λ z. sign_of z t.at x) c)))

pub neg_takes : {n : ℕ} {W : Expr → List Token → Type 0} → Link W (Ranked 6 n) spell_expr → (at : ℕ) (x : Expr) → Ranked 6 n x → Takes (PrefixWord W) (e.Neg at x) (spell_expr (e.Neg at x))
unfolding PrefixWord
neg_takes l at x f =
    take_as (spell-Neg at x) (take_class (λ z. e.Neg z x) refl (λ t c. take_end (sign_of (class_of t) t.at) x (l.takes x f) (ap (λ z. sign_of z t.at x) c)))

-- ---- suffixes

index_gives : {n : ℕ} {W : Expr → List Token → Type 0} → Link W (Ranked 6 n) spell_expr → Gives (IndexWord W) (SuffixFine (suc n)) spell_suffix
unfolding IndexWord
index_gives l =
    let x = expr_of_link l in
    gives_by (into_seq (token_at the.open_bracket) (λ t h. into_seq x.gives (λ y f. into_seq (token the.close_bracket) (λ t' h'. into_just (s.Index t.at y) (index_fine t.at y f) (sym (spell-Index t.at y))))))

pub index_takes : {n : ℕ} {W : Expr → List Token → Type 0} → Link W (Ranked 6 n) spell_expr → (at : ℕ) (x : Expr) → SuffixFine (suc n) (s.Index at x) → Takes (IndexWord W) (s.Index at x) (spell_suffix (s.Index at x))
unfolding IndexWord
index_takes l at x f =
    let y = expr_of_link l in
    take_as (spell-Index at x) (take_at (λ z. s.Index z x) the.open_bracket (λ t. take_seq x (y.takes x (index_parts at x f)) (take_token the.close_bracket (λ t'. take_just (s.Index t.at x) refl))))

size_gives : {d : ℕ} → Gives SizeWord (SuffixFine d) spell_suffix
size_gives = gives_by (into_seq (token_at the.dot) (λ t h. into_seq (token the.length) (λ t' h'. into_just (s.Length t.at) (length_fine t.at) (sym (spell-Length t.at)))))

size_takes : (at : ℕ) → Takes SizeWord (s.Length at) (spell_suffix (s.Length at))
size_takes at = take_as (spell-Length at) (take_at (λ z. s.Length z) the.dot (λ t. take_token the.length (λ t'. take_just (s.Length t.at) refl)))

suffix_gives : (d : ℕ) (W : Expr → List Token → Type 0) → Under d W → Gives (SuffixWord d W) (SuffixFine d) spell_suffix
unfolding SuffixWord
suffix_gives zero W h = gives_by (into_either into_none (into_gives size_gives (λ x f. f) (λ x. refl)))
suffix_gives (suc n) W h = gives_by (into_either (into_gives (index_gives h) (λ x f. f) (λ x. refl)) (into_gives size_gives (λ x f. f) (λ x. refl)))

pub rolled_suffix : (o : Suffix) → roll-Suffix (out-Suffix o) ≡ o
rolled_suffix o = search (rules, the_lemmas)

suffix_layer : (d : ℕ) (W : Expr → List Token → Type 0) → Under d W → (l : Suffix-F Expr Suffix At Operand) → SuffixFine d (roll-Suffix l) → Takes (SuffixWord d W) (roll-Suffix l) (spell_suffix (roll-Suffix l))
unfolding SuffixWord
suffix_layer zero W h (Suffix-F.Index at x) f = absurd (index_deep at x (subst (λ z. SuffixFine 0 z) (s.rolls-Index at x) f))
suffix_layer (suc n) W h (Suffix-F.Index at x) f =
    subst (λ z. Takes (Either (IndexWord W) SizeWord) z (spell_suffix z)) (sym (s.rolls-Index at x)) (take_left (index_takes h at x (subst (λ z. SuffixFine (suc n) z) (s.rolls-Index at x) f)))
suffix_layer d W h (Suffix-F.Length at) f =
    subst (λ z. Takes (Either (Deep d (IndexWord W)) SizeWord) z (spell_suffix z)) (sym (s.rolls-Length at)) (take_right (size_takes at))

pub suffix_link : (d : ℕ) (W : Expr → List Token → Type 0) → Under d W → Link (SuffixWord d W) (SuffixFine d) spell_suffix
suffix_link d W h = record {
  gives = suffix_gives d W h;
  takes = λ o f. subst (λ z. Takes (SuffixWord d W) z (spell_suffix z)) (rolled_suffix o) (suffix_layer d W h (out-Suffix o) (subst (λ z. SuffixFine d z) (sym (rolled_suffix o)) f));
}

pub suffixes_gives : (d : ℕ) (W : Expr → List Token → Type 0) → Under d W → Gives (SuffixesWord d W) (Each (SuffixFine d)) (λ os. concat_tokens (map spell_suffix os))
unfolding SuffixesWord
suffixes_gives d W h = star_gives (suffix_link d W h).gives

pub suffixes_takes : (d : ℕ) (W : Expr → List Token → Type 0) → Under d W → (os : List Suffix) → Each (SuffixFine d) os → Takes (SuffixesWord d W) os (concat_tokens (map spell_suffix os))
unfolding SuffixesWord
suffixes_takes d W h os f = star_takes (suffix_link d W h).takes os f

pub each_append : {A : Type 0} (F : A → Type 0) (xs ys : List A) → Each F xs → Each F ys → Each F (xs ++ ys)
each_append F [] ys h g = g
each_append F (x ∷ xs) ys h g = (h.0, each_append F xs ys h.1 g)

pub all_append : {A : Type 0} (P : A → TreeTokens) (xs ys : List A) → concat_tokens (map P xs) ++ concat_tokens (map P ys) ≡ concat_tokens (map P (xs ++ ys))
all_append P [] ys = refl
all_append P (x ∷ xs) ys = append_assoc (P x) (concat_tokens (map P xs)) (concat_tokens (map P ys)) ∙ ap (λ z. P x ++ z) (all_append P xs ys)

pub suffixed_ranked : {d : ℕ} (x : Expr) (os : List Suffix) → Ranked 8 d x → Each (SuffixFine d) os → Ranked 7 d (suffixed x os)
suffixed_ranked x [] f h = tight 8 7 x (omega arith) f
suffixed_ranked x (o ∷ os) f h = suffixed_fine x o os f h

pub suffixed_spell : (x : Expr) (os : List Suffix) → spell_expr x ++ concat_tokens (map spell_suffix os) ≡ spell_expr (suffixed x os)
suffixed_spell x [] = append-nil (spell_expr x)
suffixed_spell x (o ∷ os) = sym (spell-Suffixed x (o ∷ os))

pub with_suffixes_into : (d : ℕ) (W : Expr → List Token → Type 0) → Under d W → (x : Expr) (found : List Suffix) → Ranked 8 d x → Each (SuffixFine d) found
    → Into (Ranked 7 d) spell_expr (λ q. spell_expr x ++ (concat_tokens (map spell_suffix found) ++ q)) (WithSuffixesWord d W x found)
unfolding WithSuffixesWord
with_suffixes_into d W h x found f g =
    into_end (λ os. suffixed x (found ++ os)) (suffixes_gives d W h) (λ os i. suffixed_ranked x (found ++ os) f (each_append (SuffixFine d) found os g i))
    (λ os. ap (λ z. spell_expr x ++ z) (all_append spell_suffix found os) ∙ suffixed_spell x (found ++ os))

pub with_suffixes_takes : (d : ℕ) (W : Expr → List Token → Type 0) → Under d W → (x : Expr) (os : List Suffix) → Each (SuffixFine d) os
    → Takes (WithSuffixesWord d W x []) (suffixed x os) (concat_tokens (map spell_suffix os))
unfolding WithSuffixesWord
with_suffixes_takes d W h x os f = take_end (λ z. suffixed x z) os (suffixes_takes d W h os f) refl

-- ---- `getReferenceByName`

-- what stands before it
abbrev pub getter_front : ℕ → Option Ident → Ident → TreeTokens
getter_front at None behavior = identifier behavior ++ sign "."
getter_front at (Some name) behavior = sign_at "(" at ++ identifier name ++ sign ")" ++ identifier behavior ++ sign "."

pub getter_spell : (at : ℕ) (cast : Option Ident) (behavior : Ident) (x : Expr)
    → getter_front at cast behavior ++ (fixed_identifier "getReferenceByName" ++ (sign "(" ++ (spell_expr x ++ sign ")"))) ≡ spell_expr (e.ByName at cast behavior x)
unfolding spell_reference
getter_spell at None behavior x = sym (spell-ByName at None behavior x)
getter_spell at (Some name) behavior x = sym (spell-ByName at (Some name) behavior x)

pub getter_into : {n : ℕ} {W : Expr → List Token → Type 0} → Link W (Ranked 6 n) spell_expr → (at : ℕ) (cast : Option Ident) (behavior : Ident) → first_place at cast behavior ≡ true
    → Into (Ranked 8 (suc n)) spell_expr (λ q. getter_front at cast behavior ++ q) (GetterWord W at cast behavior)
unfolding GetterWord
getter_into l at cast behavior h =
    let x = expr_of_link l in
    into_seq (token the.getter) (λ t i. into_seq (token the.open_paren) (λ t2 i2. into_seq x.gives (λ y f. into_seq (token the.close_paren) (λ t3 i3.
    into_just (e.ByName at cast behavior y) (getter_fine at cast behavior y h f) (getter_spell at cast behavior y)))))

pub getter_takes : {n : ℕ} {W : Expr → List Token → Type 0} → Link W (Ranked 6 n) spell_expr → (at : ℕ) (cast : Option Ident) (behavior : Ident) (x : Expr) → Ranked 0 n x
    → Takes (GetterWord W at cast behavior) (e.ByName at cast behavior x) (fixed_identifier "getReferenceByName" ++ (sign "(" ++ (spell_expr x ++ sign ")")))
unfolding GetterWord
getter_takes l at cast behavior x f =
    let y = expr_of_link l in
    take_token the.getter (λ t. take_token the.open_paren (λ t2. take_seq x (y.takes x f) (take_token the.close_paren (λ t3. take_just (e.ByName at cast behavior x) refl))))

-- ---- parentheses

some_same : {a b : Ident} → Some a ≡ Some b → a ≡ b
some_same e = cc

some_none : {a : Ident} → None ≡ Some a → ⊥
some_none e = cc

name_layer : (l : Expr-F Expr Suffix At Operand) (name : Ident) → name_in l ≡ Some name → roll-Expr l ≡ e.Name name
name_layer (Expr-F.Name n) name h = e.rolls-Name n ∙ ap e.Name (some_same h)
name_layer l name h = absurd (some_none h)

pub name_is : (x : Expr) (name : Ident) → name_of x ≡ Some name → x ≡ e.Name name
name_is x name h = sym (rolled x) ∙ name_layer (out-Expr x) name h

pub name_out : (name : Ident) → name_of (e.Name name) ≡ Some name
name_out name = let o : out-Expr (e.Name name) ≡ Expr-F.Name name = search (rules, the_lemmas) in ap name_in o

paren_before : (at : ℕ) (x : Expr) (q : TreeTokens) → sign_at "(" at ++ (spell_expr x ++ (sign ")" ++ q)) ≡ spell_expr (e.Paren at x) ++ q
paren_before at x q = ap (λ z. sign_at "(" at ++ z) (sym (append_assoc (spell_expr x) (sign ")") q)) ∙ ap (λ z. z ++ q) (sym (spell-Paren at x))

cast_before : (at : ℕ) (x : Expr) (name : Ident) (q : TreeTokens) → x ≡ e.Name name → sign_at "(" at ++ (spell_expr x ++ (sign ")" ++ q)) ≡ sign_at "(" at ++ (identifier name ++ (sign ")" ++ q))
cast_before at x name q h = ap (λ z. sign_at "(" at ++ (z ++ (sign ")" ++ q))) (ap spell_expr h ∙ spell-Name name)

getter_cast_into : {n : ℕ} {W : Expr → List Token → Type 0} → Link W (Ranked 6 n) spell_expr → (at : ℕ) (name : Ident)
    → Into (Ranked 8 (suc n)) spell_expr (λ q. sign_at "(" at ++ (identifier name ++ (sign ")" ++ q))) (GetterCastWord W at name)
unfolding GetterCastWord
getter_cast_into l at name =
    into_seq name_token (λ t h. into_seq (token the.dot) (λ t2 h2. into_at (λ q. refl) (getter_into l at (Some name) (ident t) refl)))

after_paren_into : {n : ℕ} {W : Expr → List Token → Type 0} → Link W (Ranked 6 n) spell_expr → (at : ℕ) (x : Expr) → Ranked 0 n x → (o : Option Ident) → name_of x ≡ o
    → Into (Ranked 7 (suc n)) spell_expr (λ q. sign_at "(" at ++ (spell_expr x ++ (sign ")" ++ q))) (AfterParenWord (suc n) W at x o)
after_paren_into {n = n} {W = W} l at x f None h = into_at (λ q. paren_before at x q) (with_suffixes_into (suc n) W l (e.Paren at x) [] (paren_fine at x f) tt)
after_paren_into {n = n} {W = W} l at x f (Some name) h =
    into_either
    (into_at (λ q. cast_before at x name q (name_is x name h)) (into_then (λ p q. refl) (getter_cast_into l at name) (λ y g. with_suffixes_into (suc n) W l y [] g tt)))
    (into_at (λ q. paren_before at x q) (with_suffixes_into (suc n) W l (e.Paren at x) [] (paren_fine at x f) tt))

pub paren_gives : {n : ℕ} {W : Expr → List Token → Type 0} → Link W (Ranked 6 n) spell_expr → Gives (ParenWord (suc n) W) (Ranked 7 (suc n)) spell_expr
unfolding ParenWord
paren_gives l =
    let x = expr_of_link l in
    gives_by (into_seq (token_at the.open_paren) (λ t h. into_seq x.gives (λ y f. into_seq (token the.close_paren) (λ t2 h2. after_paren_into l t.at y f (name_of y) refl))))

after_paren_takes : {n : ℕ} {W : Expr → List Token → Type 0} → Link W (Ranked 6 n) spell_expr → (at : ℕ) (x : Expr) (os : List Suffix) → Each (SuffixFine (suc n)) os → (o : Option Ident)
    → Takes (AfterParenWord (suc n) W at x o) (suffixed (e.Paren at x) os) (concat_tokens (map spell_suffix os))
after_paren_takes {n = n} {W = W} l at x os f None = with_suffixes_takes (suc n) W l (e.Paren at x) os f
after_paren_takes {n = n} {W = W} l at x os f (Some name) = take_right (with_suffixes_takes (suc n) W l (e.Paren at x) os f)

pub paren_takes : {n : ℕ} {W : Expr → List Token → Type 0} → Link W (Ranked 6 n) spell_expr → (at : ℕ) (x : Expr) (os : List Suffix) → Ranked 8 (suc n) (e.Paren at x) → Each (SuffixFine (suc n)) os
    → Takes (ParenWord (suc n) W) (suffixed (e.Paren at x) os) (spell_expr (e.Paren at x) ++ concat_tokens (map spell_suffix os))
unfolding ParenWord
paren_takes l at x os f g =
    let y = expr_of_link l in
    take_as (sym (paren_before at x (concat_tokens (map spell_suffix os))))
    (take_at (λ z. suffixed (e.Paren z x) os) the.open_paren (λ t. take_seq x (y.takes x (paren_parts at x f)) (take_token the.close_paren (λ t2. after_paren_takes l t.at x os g (name_of x)))))

cast_spell : (at : ℕ) (name behavior : Ident) (x : Expr) (q : TreeTokens)
    → spell_expr (e.ByName at (Some name) behavior x) ++ q ≡ sign_at "(" at ++ (spell_expr (e.Name name) ++ (sign ")" ++ (identifier behavior ++ (sign "." ++ ((fixed_identifier "getReferenceByName" ++ (sign "(" ++ (spell_expr x ++ sign ")"))) ++ q)))))
cast_spell at name behavior x q = ap (λ z. z ++ q) (sym (getter_spell at (Some name) behavior x)) ∙ ap (λ z. sign_at "(" at ++ (z ++ (sign ")" ++ (identifier behavior ++ (sign "." ++ ((fixed_identifier "getReferenceByName" ++ (sign "(" ++ (spell_expr x ++ sign ")"))) ++ q)))))) (sym (spell-Name name))

getter_cast_takes : {n : ℕ} {W : Expr → List Token → Type 0} → Link W (Ranked 6 n) spell_expr → (at : ℕ) (name behavior : Ident) (x : Expr) → Ranked 0 n x
    → Takes (GetterCastWord W at name) (e.ByName at (Some name) behavior x) (identifier behavior ++ (sign "." ++ (fixed_identifier "getReferenceByName" ++ (sign "(" ++ (spell_expr x ++ sign ")")))))
unfolding GetterCastWord
getter_cast_takes l at name behavior x f =
    take_name (λ z. e.ByName at (Some name) z x) (λ t h. take_token the.dot (λ t2. getter_takes l at (Some name) (ident t) x f))

pub cast_takes : {n : ℕ} {W : Expr → List Token → Type 0} → Link W (Ranked 6 n) spell_expr → (at : ℕ) (name behavior : Ident) (x : Expr) (os : List Suffix)
    → Ranked 8 (suc n) (e.ByName at (Some name) behavior x) → Each (SuffixFine (suc n)) os
    → Takes (ParenWord (suc n) W) (suffixed (e.ByName at (Some name) behavior x) os) (spell_expr (e.ByName at (Some name) behavior x) ++ concat_tokens (map spell_suffix os))
unfolding ParenWord
cast_takes {n = n} {W = W} l at name behavior x os f g =
    let y = expr_of_link l in
    take_as (cast_spell at name behavior x (concat_tokens (map spell_suffix os)))
    (take_at (λ z. suffixed (e.ByName z (Some name) behavior x) os) the.open_paren (λ t.
    take_seq (e.Name name) (y.takes (e.Name name) (tight 8 0 (e.Name name) (omega arith) (name_fine name))) (take_token the.close_paren (λ t2.
    subst (λ o. Takes (AfterParenWord (suc n) W t.at (e.Name name) o) (suffixed (e.ByName t.at (Some name) behavior x) os) (identifier behavior ++ (sign "." ++ ((fixed_identifier "getReferenceByName" ++ (sign "(" ++ (spell_expr x ++ sign ")"))) ++ concat_tokens (map spell_suffix os))))) (sym (name_out name))
    (take_left (take_seq (e.ByName t.at (Some name) behavior x) (getter_cast_takes l t.at name behavior x (getter_parts at (Some name) behavior x f)) (with_suffixes_takes (suc n) W l (e.ByName t.at (Some name) behavior x) os g)))))))

-- ---- where an actor is created

second_gives : {n : ℕ} {W : Expr → List Token → Type 0} → Link W (Ranked 6 n) spell_expr → Gives (SecondWord W) (IfThere (Ranked 0 n)) (λ y. spell_second (option_map spell_expr y) ++ sign ")")
unfolding SecondWord
second_gives l =
    let x = expr_of_link l in
    gives_by (into_either
    (into_seq (token the.comma) (λ t h. into_seq x.gives (λ y f. into_seq (token the.close_paren) (λ t2 h2. into_just (Some y) f refl))))
    (into_seq (token the.close_paren) (λ t h. into_just None tt refl)))

second_takes : {n : ℕ} {W : Expr → List Token → Type 0} → Link W (Ranked 6 n) spell_expr → (y : Option Expr) → IfThere (Ranked 0 n) y → Takes (SecondWord W) y (spell_second (option_map spell_expr y) ++ sign ")")
unfolding SecondWord
second_takes l None f = take_right (take_token the.close_paren (λ t. take_just None refl))
second_takes l (Some y) f =
    let x = expr_of_link l in
    take_left (take_token the.comma (λ t. take_seq y (x.takes y f) (take_token the.close_paren (λ t2. take_just (Some y) refl))))

at_spell : (p : At) → fixed_identifier_at "at" p.at ++ (sign "(" ++ (spell_expr p.uan ++ (spell_second (option_map spell_expr p.ual) ++ sign ")"))) ≡ spell_at p
at_spell p = sym (parts5 (fixed_identifier_at "at" p.at) (sign "(") (spell_expr p.uan) (spell_second (option_map spell_expr p.ual)) (sign ")")) ∙ sym (spell-At p)

place_gives : {n : ℕ} {W : Expr → List Token → Type 0} → Link W (Ranked 6 n) spell_expr → Gives (PlaceWord W) (AtFine n) spell_at
unfolding PlaceWord
place_gives {n = n} l =
    let x = expr_of_link l in
    gives_by (into_seq (token_at the.at) (λ t h. into_seq (token the.open_paren) (λ t2 h2. into_seq x.gives (λ y f.
    into_end (λ z. roll-At (record { at = t.at; uan = y; ual = z })) (second_gives l) (λ z g. at_fine (roll-At (record { at = t.at; uan = y; ual = z })) f g) (λ z. at_spell (roll-At (record { at = t.at; uan = y; ual = z })))))))

place_takes : {n : ℕ} {W : Expr → List Token → Type 0} → Link W (Ranked 6 n) spell_expr → (p : At) → AtFine n p → Takes (PlaceWord W) p (spell_at p)
unfolding PlaceWord
place_takes l p f =
    let x = expr_of_link l in
    take_as (sym (at_spell p)) (take_at (λ z. roll-At (record { at = z; uan = p.uan; ual = p.ual })) the.at (λ t. take_token the.open_paren (λ t2. take_seq p.uan (x.takes p.uan (at_first p f))
    (take_end (λ z. roll-At (record { at = t.at; uan = p.uan; ual = z })) p.ual (second_takes l p.ual (at_second p f)) refl))))

-- ---- what is new

new_before : (at : ℕ) (behavior : Ident) (args : List Expr) (q : TreeTokens)
    → word_at "new" at ++ (identifier behavior ++ (sign "(" ++ ((separated_tokens "," (map spell_expr args) ++ sign ")") ++ q))) ≡ spell_expr (e.New at behavior args None) ++ q
new_before at behavior args q =
    ap (λ z. z ++ q) (sym (append-nil (word_at "new" at ++ identifier behavior ++ sign "(" ++ separated_tokens "," (map spell_expr args) ++ sign ")"))) ∙ ap (λ z. z ++ q) (sym (spell-New at behavior args None))

place_before : (at : ℕ) (behavior : Ident) (args : List Expr) (p : At) (q : TreeTokens)
    → word_at "new" at ++ (identifier behavior ++ (sign "(" ++ ((separated_tokens "," (map spell_expr args) ++ sign ")") ++ (spell_at p ++ q)))) ≡ spell_expr (e.New at behavior args (Some p)) ++ q
place_before at behavior args p q =
    ap (λ z. word_at "new" at ++ (identifier behavior ++ (sign "(" ++ z))) (sym (append_assoc (separated_tokens "," (map spell_expr args) ++ sign ")") (spell_at p) q)) ∙ ap (λ z. z ++ q) (sym (spell-New at behavior args (Some p)))

pub new_actor_into : {n : ℕ} {W : Expr → List Token → Type 0} → Link W (Ranked 6 n) spell_expr → (at : ℕ) (behavior : Ident)
    → Into (Ranked 7 (suc n)) spell_expr (λ q. word_at "new" at ++ (identifier behavior ++ q)) (NewActorWord (suc n) W at behavior)
unfolding NewActorWord
new_actor_into {n = n} {W = W} l at behavior =
    into_seq (token the.open_paren) (λ t h. into_seq (list_link the.close_paren (expr_of_link l)).gives (λ args f. into_either
    (into_seq (place_gives l) (λ p g. into_at (λ q. place_before at behavior args p q) (with_suffixes_into (suc n) W l (e.New at behavior args (Some p)) [] (new_fine at behavior args (Some p) f g) tt)))
    (into_at (λ q. new_before at behavior args q) (with_suffixes_into (suc n) W l (e.New at behavior args None) [] (new_fine at behavior args None f tt) tt))))

pub new_none_takes : {n : ℕ} {W : Expr → List Token → Type 0} → Link W (Ranked 6 n) spell_expr → (at : ℕ) (behavior : Ident) (args : List Expr) (os : List Suffix)
    → Each (Ranked 0 n) args → Each (SuffixFine (suc n)) os
    → Takes (NewActorWord (suc n) W at behavior) (suffixed (e.New at behavior args None) os) (sign "(" ++ ((separated_tokens "," (map spell_expr args) ++ sign ")") ++ concat_tokens (map spell_suffix os)))
unfolding NewActorWord
new_none_takes {n = n} {W = W} l at behavior args os f h =
    take_token the.open_paren (λ t. take_seq args ((list_link the.close_paren (expr_of_link l)).takes args f)
    (take_right (with_suffixes_takes (suc n) W l (e.New at behavior args None) os h)))

pub new_some_takes : {n : ℕ} {W : Expr → List Token → Type 0} → Link W (Ranked 6 n) spell_expr → (at : ℕ) (behavior : Ident) (args : List Expr) (p : At) (os : List Suffix)
    → Each (Ranked 0 n) args → AtFine n p → Each (SuffixFine (suc n)) os
    → Takes (NewActorWord (suc n) W at behavior) (suffixed (e.New at behavior args (Some p)) os) (sign "(" ++ ((separated_tokens "," (map spell_expr args) ++ sign ")") ++ (spell_at p ++ concat_tokens (map spell_suffix os))))
unfolding NewActorWord
new_some_takes {n = n} {W = W} l at behavior args p os f g h =
    take_token the.open_paren (λ t. take_seq args ((list_link the.close_paren (expr_of_link l)).takes args f)
    (take_left (take_seq p (place_takes l p g) (with_suffixes_takes (suc n) W l (e.New at behavior args (Some p)) os h))))

new_takes_by : {n : ℕ} {W : Expr → List Token → Type 0} → Link W (Ranked 6 n) spell_expr → (at : ℕ) (behavior : Ident) (args : List Expr) (p : Option At) (os : List Suffix)
    → Ranked 8 (suc n) (e.New at behavior args p) → Each (SuffixFine (suc n)) os
    → Takes (Seq (One is.new) (λ t. AfterNewWord (suc n) W t.at)) (suffixed (e.New at behavior args p) os) (spell_expr (e.New at behavior args p) ++ concat_tokens (map spell_suffix os))
unfolding AfterNewWord
new_takes_by l at behavior args None os f g =
    take_as (sym (new_before at behavior args (concat_tokens (map spell_suffix os)))) (take_at (λ z. suffixed (e.New z behavior args None) os) the.new (λ t.
    take_left (take_name (λ z. suffixed (e.New t.at z args None) os) (λ t2 h. take_left (new_none_takes l t.at (ident t2) args os (new_args at behavior args None f) g)))))
new_takes_by l at behavior args (Some p) os f g =
    take_as (sym (place_before at behavior args p (concat_tokens (map spell_suffix os)))) (take_at (λ z. suffixed (e.New z behavior args (Some p)) os) the.new (λ t.
    take_left (take_name (λ z. suffixed (e.New t.at z args (Some p)) os) (λ t2 h. take_left (new_some_takes l t.at (ident t2) args p os (new_args at behavior args (Some p) f) (new_place at behavior args (Some p) f) g)))))

pub new_takes : {n : ℕ} {W : Expr → List Token → Type 0} → Link W (Ranked 6 n) spell_expr → (at : ℕ) (behavior : Ident) (args : List Expr) (p : Option At) (os : List Suffix)
    → Ranked 8 (suc n) (e.New at behavior args p) → Each (SuffixFine (suc n)) os
    → Takes (Seq (One is.new) (λ t. AfterNewWord (suc n) W t.at)) (suffixed (e.New at behavior args p) os) (spell_expr (e.New at behavior args p) ++ concat_tokens (map spell_suffix os))
new_takes l at behavior args p os f g = new_takes_by l at behavior args p os f g

-- ---- new arrays

abbrev head : Token → TreeTokens
head t = spell_base (base_of (class_of t) t.text) t.at

one_left : (n : ℕ) → n ≡ suc n - 1
one_left n = omega arith

one_more : (n : ℕ) → 1 ≤ n → suc (n - 1) ≡ n
one_more n h = omega (arith, h)

make_spell : (at : ℕ) (t : Token) (n : ℕ) (x : Expr) → word_at "new" at ++ (head t ++ (sign "[" ++ (spell_expr x ++ (sign "]" ++ brackets n)))) ≡ spell_expr (e.Make at (type_of t (suc n)) x)
make_spell at t n x = ap (λ z. word_at "new" at ++ (head t ++ (sign "[" ++ (spell_expr x ++ (sign "]" ++ brackets z))))) (one_left n) ∙ (sym (parts6 (word_at "new" at) (head t) (sign "[") (spell_expr x) (sign "]") (brackets (suc n - 1))) ∙ sym (spell-Make at (type_of t (suc n)) x))

list_spell : (at : ℕ) (t : Token) (n : ℕ) (items : List Expr)
    → word_at "new" at ++ (head t ++ (sign "[" ++ (sign "]" ++ (brackets n ++ (sign "{" ++ (separated_tokens "," (map spell_expr items) ++ sign "}")))))) ≡ spell_expr (e.ListOf at (type_of t (suc n)) items)
list_spell at t n items =
    let r = sign "{" ++ (separated_tokens "," (map spell_expr items) ++ sign "}") in
    ap (λ z. word_at "new" at ++ (head t ++ (z ++ r))) (sym (brackets_next n)) ∙ (ap (λ z. word_at "new" at ++ z) (sym (append_assoc (head t) (brackets (suc n)) r)) ∙ (sym (parts5 (word_at "new" at) (head t ++ brackets (suc n)) (sign "{") (separated_tokens "," (map spell_expr items)) (sign "}")) ∙ sym (spell-ListOf at (type_of t (suc n)) items)))

pub new_array_into : {n : ℕ} {W : Expr → List Token → Type 0} → Link W (Ranked 6 n) spell_expr → (at : ℕ) (t : Token)
    → Into (Ranked 7 (suc n)) spell_expr (λ q. word_at "new" at ++ (head t ++ q)) (NewArrayWord W at t)
unfolding NewArrayWord NewListWord NewSizedWord
new_array_into l at t =
    let x = expr_of_link l in
    into_seq (token the.open_bracket) (λ t2 h2. into_either
    (into_seq (token the.close_bracket) (λ t3 h3. into_seq pairs_link.gives (λ m i. into_seq (token the.open_brace) (λ t4 h4.
    into_end (λ items. e.ListOf at (type_of t (suc m)) items) (list_link the.close_brace x).gives (λ items f. list_fine at (type_of t (suc m)) items (omega arith) f) (λ items. list_spell at t m items)))))
    (into_seq x.gives (λ y f. into_seq (token the.close_bracket) (λ t3 h3.
    into_end (λ m. e.Make at (type_of t (suc m)) y) pairs_link.gives (λ m i. make_fine at (type_of t (suc m)) y (omega arith) f) (λ m. make_spell at t m y)))))

pub after_new_into : {n : ℕ} {W : Expr → List Token → Type 0} → Link W (Ranked 6 n) spell_expr → (at : ℕ)
    → Into (Ranked 7 (suc n)) spell_expr (λ q. word_at "new" at ++ q) (AfterNewWord (suc n) W at)
unfolding AfterNewWord
after_new_into l at = into_either
    (into_seq name_token (λ t h. into_either (new_actor_into l at (ident t)) (into_at (λ q. ap (λ z. word_at "new" at ++ (z ++ q)) (name_sort t h)) (new_array_into l at t))))
    (into_seq word_token (λ t h. new_array_into l at t))

type_from : (t : Token) (sort : TypeName) → 1 ≤ sort.dims → type_of t sort.dims ≡ sort → type_of t (suc (sort.dims - 1)) ≡ sort
type_from t sort h e = ap (λ z. type_of t z) (one_more sort.dims h) ∙ e

sized_takes : {n : ℕ} {W : Expr → List Token → Type 0} → Link W (Ranked 6 n) spell_expr → (at : ℕ) (sort : TypeName) (x : Expr) (t : Token) → 1 ≤ sort.dims → Ranked 0 n x → type_of t sort.dims ≡ sort
    → Takes (NewArrayWord W at t) (e.Make at sort x) (sign "[" ++ (spell_expr x ++ (sign "]" ++ brackets (sort.dims - 1))))
unfolding NewArrayWord NewSizedWord
sized_takes l at sort x t h f i =
    let y = expr_of_link l in
    take_token the.open_bracket (λ t2. take_right (take_seq x (y.takes x f) (take_token the.close_bracket (λ t3.
    take_end (λ m. e.Make at (type_of t (suc m)) x) (sort.dims - 1) (pairs_link.takes (sort.dims - 1) tt) (ap (λ z. e.Make at z x) (type_from t sort h i))))))

listed_takes : {n : ℕ} {W : Expr → List Token → Type 0} → Link W (Ranked 6 n) spell_expr → (at : ℕ) (sort : TypeName) (items : List Expr) (t : Token) → 1 ≤ sort.dims → Each (Ranked 0 n) items → type_of t sort.dims ≡ sort
    → Takes (NewArrayWord W at t) (e.ListOf at sort items) (sign "[" ++ (sign "]" ++ (brackets (sort.dims - 1) ++ (sign "{" ++ (separated_tokens "," (map spell_expr items) ++ sign "}")))))
unfolding NewArrayWord NewListWord
listed_takes l at sort items t h f i =
    let y = expr_of_link l in
    take_token the.open_bracket (λ t2. take_left (take_token the.close_bracket (λ t3. take_seq (sort.dims - 1) (pairs_link.takes (sort.dims - 1) tt) (take_token the.open_brace (λ t4.
    take_end (λ z. e.ListOf at (type_of t (suc (sort.dims - 1))) z) items ((list_link the.close_brace y).takes items f) (ap (λ z. e.ListOf at z items) (type_from t sort h i)))))))

-- behind `new` a type and what is taken there
array_takes : {n : ℕ} {W : Expr → List Token → Type 0} → Link W (Ranked 6 n) spell_expr → (sort : TypeName) (at : ℕ) (f : ℕ → Expr) (q : TreeTokens) (b : Bool) → is_actor sort.base ≡ b
    → ((z : ℕ) (t : Token) → type_of t sort.dims ≡ sort → Takes (NewArrayWord W z t) (f z) q)
    → Takes (Seq (One is.new) (λ t. AfterNewWord (suc n) W t.at)) (f at) (word_at "new" at ++ (spell_base sort.base sort.at ++ q))
unfolding AfterNewWord
array_takes l sort at f q true h go = take_at f the.new (λ t. take_left (take_actor sort h (λ t2 i e. take_right (go t.at t2 e))))
array_takes l sort at f q false h go = take_at f the.new (λ t. take_right (take_word sort h (λ t2 e. go t.at t2 e)))

pub make_takes : {n : ℕ} {W : Expr → List Token → Type 0} → Link W (Ranked 6 n) spell_expr → (at : ℕ) (sort : TypeName) (x : Expr) → Ranked 7 (suc n) (e.Make at sort x)
    → Takes (Seq (One is.new) (λ t. AfterNewWord (suc n) W t.at)) (e.Make at sort x) (spell_expr (e.Make at sort x))
make_takes l at sort x f =
    take_as (spell-Make at sort x ∙ parts6 (word_at "new" at) (spell_base sort.base sort.at) (sign "[") (spell_expr x) (sign "]") (brackets (sort.dims - 1))) (array_takes l sort at (λ z. e.Make z sort x) (sign "[" ++ (spell_expr x ++ (sign "]" ++ brackets (sort.dims - 1)))) (is_actor sort.base) refl
    (λ z t i. sized_takes l z sort x t (make_dims at sort x f) (make_parts at sort x f) i))

listed_spell : (at : ℕ) (sort : TypeName) (items : List Expr) → 1 ≤ sort.dims
    → spell_expr (e.ListOf at sort items) ≡ word_at "new" at ++ (spell_base sort.base sort.at ++ (sign "[" ++ (sign "]" ++ (brackets (sort.dims - 1) ++ (sign "{" ++ (separated_tokens "," (map spell_expr items) ++ sign "}"))))))
listed_spell at sort items h =
    let r = sign "{" ++ (separated_tokens "," (map spell_expr items) ++ sign "}") in
    let b = spell_base sort.base sort.at in
    spell-ListOf at sort items ∙ (parts5 (word_at "new" at) (b ++ brackets sort.dims) (sign "{") (separated_tokens "," (map spell_expr items)) (sign "}") ∙ (ap (λ z. word_at "new" at ++ z) (append_assoc b (brackets sort.dims) r)
    ∙ ap (λ z. word_at "new" at ++ (b ++ (z ++ r))) (ap brackets (sym (one_more sort.dims h)) ∙ brackets_next (sort.dims - 1))))

pub list_of_takes : {n : ℕ} {W : Expr → List Token → Type 0} → Link W (Ranked 6 n) spell_expr → (at : ℕ) (sort : TypeName) (items : List Expr) → Ranked 7 (suc n) (e.ListOf at sort items)
    → Takes (Seq (One is.new) (λ t. AfterNewWord (suc n) W t.at)) (e.ListOf at sort items) (spell_expr (e.ListOf at sort items))
list_of_takes l at sort items f =
    take_as (listed_spell at sort items (list_dims at sort items f)) (array_takes l sort at (λ z. e.ListOf z sort items)
    (sign "[" ++ (sign "]" ++ (brackets (sort.dims - 1) ++ (sign "{" ++ (separated_tokens "," (map spell_expr items) ++ sign "}"))))) (is_actor sort.base) refl
    (λ z t i. listed_takes l z sort items t (list_dims at sort items f) (list_parts at sort items f) i))
