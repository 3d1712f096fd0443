-- Words of expressions are their trees.
use Rattle.std.proofs.Common.{◌≡◌, ◌⊎◌, inl, inr, ℕ, zero, suc, ◌≤◌, ◌<◌, Bool, true, false, ◌&&◌, List, [], ◌∷◌, ◌++◌, map, Option, Some, None, refl, sym, ap, ◌∙◌, subst, append_assoc, append-nil, arith, rules}
use Rattle.std.specs.Prelude.{codes, decimal, nat_eq, nat_le}
use Rattle.std.specs.Str.Parse.{digits_value}
use Rattle.std.proofs.lemmas.Bool.{eqb-true, eq-eqb, leb-false, leb-true}
use Rattle.sal_ast.specs.declared.lexeme.Kind.{Kind}
use Rattle.sal_ast.specs.declared.lexeme.Kind.TheVariants as kind
use Rattle.sal_ast.specs.declared.expression.At.{At}
use Rattle.sal_ast.specs.declared.expression.Expr.{Expr, out-Expr, roll-Expr}
use Rattle.sal_ast.specs.declared.expression.Expr.TheOpen.{Expr-F, Suffix-F}
use Rattle.sal_ast.specs.declared.expression.Expr.TheVariants as e
use Rattle.sal_ast.specs.declared.expression.Operand.{Operand}
use Rattle.sal_ast.specs.declared.expression.Suffix.{Suffix, out-Suffix, roll-Suffix}
use Rattle.sal_ast.specs.declared.expression.Suffix.TheVariants as s
use Rattle.sal_ast.specs.declared.program.Ident.{Ident}
use Rattle.sal_ast.specs.declared.program.TypeName.{TypeName}
use Rattle.sal_ast.specs.Depth.{depth_expr}
use Rattle.sal_ast.specs.Lexemes.{is_lexeme, is_number}
use Rattle.sal_ast.specs.Regular.{Shape, shape_of, has_rank, ranked_operand, rank_of}
use Rattle.sal_ast.specs.Spell.{TreeToken, TreeTokens, concat_tokens, tree_token, sign, sign_at, fixed_identifier, identifier, spell_expr, spell_suffix}
use Rattle.sal_ast.proofs.DepthEquations.{depth-Number, depth-Str, depth-Bool, depth-Null, depth-Me}
use Rattle.sal_ast.proofs.RegularEquations.{regular-Number, regular-Str, regular-Bool, regular-Null, regular-Me, regular-Operand}
use Rattle.sal_ast.proofs.SpellEquations.{spell-Number, spell-Str, spell-Bool, spell-Null, spell-Me, spell-Name, spell-Own, spell-Index, spell-Length}
use Rattle.sal_grammar.specs.declared.class.Class.{Class}
use Rattle.sal_grammar.specs.declared.class.Class.TheVariants as k
use Rattle.sal_grammar.specs.Tokens.{Token, Set, Lexemes, class_of, next}
use Rattle.sal_grammar.specs.Sets as is
use Rattle.sal_grammar.specs.Refusals.{Spells, Stands}
use Rattle.sal_grammar.specs.Expressions.{ident, suffixed, plain_of}
use Rattle.sal_grammar.proofs.Exactness.{differ}
use Rattle.sal_grammar.proofs.Languages.{Seq, One, Just, Either, Empty, Deep, Star, Unless}
use Rattle.sal_grammar.proofs.ExpressionWords.{ExprOfWord, PrefixWord, GetterWord, WithSuffixesWord, ParenWord, AfterDotWord, AfterNameWord, AfterNewWord, PlainWord, OwnWord, ClosedPostfixWord, OtherPostfixWord, PostfixWord, UnaryByWord, UnaryWord, ExprWord}
use Rattle.sal_grammar.proofs.TreesTokens as the
use Rattle.sal_grammar.proofs.TreesTokens.{Fits, left_true, kind_in, table_class, class_at}
use Rattle.sal_grammar.proofs.TreesSteps.{Gives, Into, Takes, Each, gives_by, into_seq, into_just, into_either, into_at, into_gives, into_then, into_none, into_unless, into_split, token, token_at, name_token, take_seq, take_just, take_end, take_as, take_left, take_right, take_token, take_at, take_name, take_class, take_one}
use Rattle.sal_grammar.proofs.TreesLists.{Link}
use Rattle.sal_grammar.proofs.TreesNumbers.{number_text, number_value}
use Rattle.sal_grammar.proofs.TreesOperators.{Ranked, ranked_by, expr_of_link, rolled, shape_roll, rank_most, rank_in, regular_in, stands_in}
use Rattle.sal_grammar.proofs.TreesParts.{SuffixFine, tight, name_fine, own_fine, length_fine, not_parts, neg_parts, getter_place, getter_parts, suffixed_first, suffixed_parts, paren_deep, not_deep, neg_deep, getter_deep, new_deep, make_deep, list_deep}
use Rattle.sal_grammar.proofs.TreesExpressions.{Under, prefix_gives, not_takes, neg_takes, rolled_suffix, suffixes_takes, suffixed_spell, with_suffixes_into, with_suffixes_takes, getter_front, getter_into, getter_takes, getter_spell, paren_gives, paren_takes, cast_takes, after_new_into, new_takes, make_takes, list_of_takes}

-- ---- expressions of one token

piece_is : (t : Token) (kd : Kind) (text : List ℕ) → t.kind ≡ kd → t.text ≡ text → record { kind = t.kind; text = t.text; at = Some t.at } ∷ [] ≡ tree_token kd text (Some t.at)
piece_is t kd text ek et = ap (λ z. tree_token z t.text (Some t.at)) ek ∙ ap (λ z. tree_token kd z (Some t.at)) et

word_piece : {set : Set} {kd : Kind} {text : List ℕ} (t : Token) → Fits set kd text → set (class_of t) ≡ true → record { kind = t.kind; text = t.text; at = Some t.at } ∷ [] ≡ tree_token kd text (Some t.at)
word_piece {kd = kd} {text = text} t f h = piece_is t kd text (f.to_kind t h) (f.to_text t h)

plain_spell : (c : Class) (t : Token) → class_of t ≡ c → is.plain c ≡ true → is_lexeme t.kind t.text ≡ true → record { kind = t.kind; text = t.text; at = Some t.at } ∷ [] ≡ spell_expr (plain_of c t)
plain_spell k.Number t h p l =
    let ek : t.kind ≡ kind.Number = kind_in is.number kind.Number refl t (ap is.number h) in
    let n : is_number t.text ≡ true = ap (λ z. is_lexeme z t.text) (sym ek) ∙ l in
    piece_is t kind.Number (decimal (digits_value 10 t.text)) ek (sym (number_text t.text n)) ∙ sym (spell-Number (digits_value 10 t.text) t.at)
plain_spell k.Str t h p l = piece_is t kind.Str t.text (kind_in is.str kind.Str refl t (ap is.str h)) refl ∙ sym (spell-Str t.text t.at)
plain_spell k.True t h p l = word_piece t the.true_word (ap is.true_word h) ∙ sym (spell-Bool true t.at)
plain_spell k.False t h p l = word_piece t the.false_word (ap is.false_word h) ∙ sym (spell-Bool false t.at)
plain_spell k.Null t h p l = word_piece t the.null (ap is.null h) ∙ sym (spell-Null t.at)
plain_spell k.Me t h p l = word_piece t the.me (ap is.me h) ∙ sym (spell-Me t.at)
plain_spell c t h p l = absurd (differ (sym p))

plain_fine : (c : Class) (t : Token) (d : ℕ) → Ranked 8 d (plain_of c t)
plain_fine k.Number t d = ranked_by 8 (regular-Number (digits_value 10 t.text) t.at) (depth-Number (digits_value 10 t.text) t.at) refl (omega arith)
plain_fine k.Str t d = ranked_by 8 (regular-Str t.text t.at) (depth-Str t.text t.at) refl (omega arith)
plain_fine k.True t d = ranked_by 8 (regular-Bool true t.at) (depth-Bool true t.at) refl (omega arith)
plain_fine k.False t d = ranked_by 8 (regular-Bool false t.at) (depth-Bool false t.at) refl (omega arith)
plain_fine k.Null t d = ranked_by 8 (regular-Null t.at) (depth-Null t.at) refl (omega arith)
plain_fine _ t d = ranked_by 8 (regular-Me t.at) (depth-Me t.at) refl (omega arith)

plain_token : Gives (One is.plain) (λ t. (is.plain (class_of t) ≡ true) × (is_lexeme t.kind t.text ≡ true)) (λ t. record { kind = t.kind; text = t.text; at = Some t.at } ∷ [])
plain_token = record {
  fact = λ t u hl w. (w.fits, left_true (is_lexeme t.kind t.text) true (subst (λ z. Lexemes z) (sym w.alone) hl));
  spells = λ t u hl w. subst (λ z. Spells (record { kind = t.kind; text = t.text; at = Some t.at } ∷ []) z) w.alone (record { kind = refl; text = refl; place = refl }, tt);
}

plain_gives : (d : ℕ) → Gives PlainWord (Ranked 8 d) spell_expr
plain_gives d = gives_by (into_seq plain_token (λ t h. into_just (plain_of (class_of t) t) (plain_fine (class_of t) t d) (plain_spell (class_of t) t refl h.0 h.1)))

number_takes : (n at : ℕ) → Takes PlainWord (e.Number n at) (spell_expr (e.Number n at))
number_takes n at = take_as (spell-Number n at) (record { word = by })
  where
    by : (u : List Token) → Lexemes u → Spells (tree_token kind.Number (decimal n) (Some at)) u → PlainWord (e.Number n at) u
    by [] hl s = absurd s
    by (t ∷ t2 ∷ u) hl s = absurd s.1
    by (t ∷ []) hl s =
        let c : class_of t ≡ k.Number = class_at t kind.Number (decimal n) (sym s.0.kind) (sym s.0.text) in
        let legal : is_lexeme t.kind t.text ≡ true = left_true (is_lexeme t.kind t.text) true hl in
        let number : is_number (decimal n) ≡ true = ap (λ z. is_lexeme kind.Number z) s.0.text ∙ (ap (λ z. is_lexeme z t.text) s.0.kind ∙ legal) in
        let same : plain_of (class_of t) t ≡ e.Number n at =
        ap (λ z. plain_of z t) c ∙ (ap (λ z. e.Number (digits_value 10 z) t.at) (sym s.0.text) ∙ (ap (λ z. e.Number z t.at) (number_value n number) ∙ ap (λ z. e.Number n z) (sym s.0.place))) in
        record { item = t; left = t ∷ []; right = []; first = record { fits = ap is.plain c; alone = refl }; second = record { same = same; empty = refl }; joined = refl }

str_takes : (text : List ℕ) (at : ℕ) → Takes PlainWord (e.Str text at) (spell_expr (e.Str text at))
str_takes text at = take_as (spell-Str text at) (take_one (record { kind = kind.Str; text = text; at = Some at })
    (λ t s. ap is.plain (class_at t kind.Str text (sym s.kind) (sym s.text)))
    (λ t s. take_just (plain_of (class_of t) t)
    (ap (λ z. plain_of z t) (class_at t kind.Str text (sym s.kind) (sym s.text)) ∙ (ap (λ z. e.Str z t.at) (sym s.text) ∙ ap (λ z. e.Str text z) (sym s.place)))))

bool_takes : (b : Bool) (at : ℕ) → Takes PlainWord (e.Bool b at) (spell_expr (e.Bool b at))
bool_takes true at = take_as (spell-Bool true at) (take_class (λ z. e.Bool true z) refl (λ t c. take_just (plain_of (class_of t) t) (ap (λ z. plain_of z t) c)))
bool_takes false at = take_as (spell-Bool false at) (take_class (λ z. e.Bool false z) refl (λ t c. take_just (plain_of (class_of t) t) (ap (λ z. plain_of z t) c)))

null_takes : (at : ℕ) → Takes PlainWord (e.Null at) (spell_expr (e.Null at))
null_takes at = take_as (spell-Null at) (take_class (λ z. e.Null z) refl (λ t c. take_just (plain_of (class_of t) t) (ap (λ z. plain_of z t) c)))

me_takes : (at : ℕ) → Takes PlainWord (e.Me at) (spell_expr (e.Me at))
me_takes at = take_as (spell-Me at) (take_class (λ z. e.Me z) refl (λ t c. take_just (plain_of (class_of t) t) (ap (λ z. plain_of z t) c)))

-- ---- `this`, and names

own_gives : (d : ℕ) → Gives OwnWord (Ranked 8 d) spell_expr
own_gives d = gives_by (into_seq (token_at the.this) (λ t h. into_seq (token the.dot) (λ t2 h2. into_seq name_token (λ n h3. into_just (e.Own t.at (ident n)) (own_fine t.at (ident n)) (sym (spell-Own t.at (ident n)))))))

own_takes : (at : ℕ) (name : Ident) → Takes OwnWord (e.Own at name) (spell_expr (e.Own at name))
own_takes at name = take_as (spell-Own at name) (take_at (λ z. e.Own z name) the.this (λ t. take_token the.dot (λ t2. take_name (λ z. e.Own t.at z) (λ n h. take_just (e.Own t.at (ident n)) refl))))

length_before : (name : Ident) (at : ℕ) (q : TreeTokens) → identifier name ++ (sign_at "." at ++ (fixed_identifier "length" ++ q)) ≡ spell_expr (e.Name name) ++ ((spell_suffix (s.Length at) ++ []) ++ q)
length_before name at q =
    ap (λ z. identifier name ++ (z ++ q)) (sym (append-nil (sign_at "." at ++ fixed_identifier "length")) ∙ ap (λ z. z ++ []) (sym (spell-Length at))) ∙ ap (λ z. z ++ ((spell_suffix (s.Length at) ++ []) ++ q)) (sym (spell-Name name))

getter_after : (d : ℕ) (W : Expr → List Token → Type 0) → Under d W → (name : Ident)
    → Into (Ranked 7 d) spell_expr (λ q. identifier name ++ (sign "." ++ q)) (Deep d (Seq (GetterWord W name.at None name) (λ x. WithSuffixesWord d W x [])))
getter_after zero W h name = into_none
getter_after (suc n) W h name =
    into_then (λ p q. refl) (into_at (λ q. refl) (getter_into h name.at None name (eq-eqb name.at name.at refl))) (λ y f. with_suffixes_into (suc n) W h y [] f tt)

pub dotted_into : (d : ℕ) (W : Expr → List Token → Type 0) → Under d W → (name : Ident)
    → Into (Ranked 7 d) spell_expr (λ q. identifier name ++ q) (Seq (One is.dot) (λ t. AfterDotWord d W name t.at))
unfolding AfterDotWord
dotted_into d W h name = into_split
    (into_seq (token the.dot) (λ t i. getter_after d W h name))
    (into_seq (token_at the.dot) (λ t i. into_seq (token the.length) (λ t2 i2. into_at (λ q. length_before name t.at q)
    (with_suffixes_into d W h (e.Name name) (s.Length t.at ∷ []) (name_fine name) (length_fine t.at, tt)))))

pub after_name_into : (d : ℕ) (W : Expr → List Token → Type 0) → Under d W → (name : Ident)
    → Into (Ranked 7 d) spell_expr (λ q. identifier name ++ q) (AfterNameWord d W name)
unfolding AfterNameWord
after_name_into d W h name = into_either (dotted_into d W h name)
    (into_unless (into_at (λ q. ap (λ z. z ++ q) (sym (spell-Name name))) (with_suffixes_into d W h (e.Name name) [] (name_fine name) tt)))

-- ---- postfix expressions

pub closed_gives : (d : ℕ) (W : Expr → List Token → Type 0) → Under d W → Gives (ClosedPostfixWord d W) (Ranked 7 d) spell_expr
unfolding ClosedPostfixWord
closed_gives zero W h = gives_by (into_either into_none (into_either into_none (into_seq (plain_gives 0) (λ x f. with_suffixes_into 0 W h x [] f tt))))
closed_gives (suc n) W h = gives_by (into_either
    (into_gives (paren_gives h) (λ x f. f) (λ x. refl))
    (into_either (into_seq (token_at the.new) (λ t i. after_new_into h t.at)) (into_seq (plain_gives (suc n)) (λ x f. with_suffixes_into (suc n) W h x [] f tt))))

pub own_suffixes_gives : (d : ℕ) (W : Expr → List Token → Type 0) → Under d W → Gives (Seq OwnWord (λ x. WithSuffixesWord d W x [])) (Ranked 7 d) spell_expr
own_suffixes_gives d W h = gives_by (into_seq (own_gives d) (λ x f. with_suffixes_into d W h x [] f tt))

pub other_gives : (d : ℕ) (W : Expr → List Token → Type 0) → Under d W → Gives (OtherPostfixWord d W) (Ranked 7 d) spell_expr
unfolding OtherPostfixWord
other_gives d W h = gives_by (into_either (into_gives (own_suffixes_gives d W h) (λ x f. f) (λ x. refl)) (into_gives (closed_gives d W h) (λ x f. f) (λ x. refl)))

pub postfix_gives : (d : ℕ) (W : Expr → List Token → Type 0) → Under d W → Gives (PostfixWord d W) (Ranked 7 d) spell_expr
unfolding PostfixWord
postfix_gives d W h = gives_by (into_either (into_seq name_token (λ t i. after_name_into d W h (ident t))) (into_gives (other_gives d W h) (λ x f. f) (λ x. refl)))

-- ---- and back

found_takes : (d : ℕ) (W : Expr → List Token → Type 0) → Under d W → (x : Expr) (found os : List Suffix) → Each (SuffixFine d) os
    → Takes (WithSuffixesWord d W x found) (suffixed x (found ++ os)) (concat_tokens (map spell_suffix os))
unfolding WithSuffixesWord
found_takes d W h x found os f = take_end (λ z. suffixed x (found ++ z)) os (suffixes_takes d W h os f) refl

not_dot : (t : Token) (p : TreeToken) → Stands p t → p.kind ≡ kind.Sign → p.text ≡ codes "[" → is.dot (class_of t) ≡ false
not_dot t p s ek et = ap is.dot (class_at t kind.Sign (codes "[") (sym s.kind ∙ ek) (sym s.text ∙ et))

after_name_layer : (d : ℕ) (W : Expr → List Token → Type 0) → Under d W → (name : Ident) (o : Suffix-F Expr Suffix At Operand) (os : List Suffix) → Each (SuffixFine d) (roll-Suffix o ∷ os)
    → Takes (AfterNameWord d W name) (suffixed (e.Name name) (roll-Suffix o ∷ os)) (concat_tokens (map spell_suffix (roll-Suffix o ∷ os)))
unfolding AfterNameWord AfterDotWord
after_name_layer d W h name (Suffix-F.Index at x) os f = record { word = λ u hl w. inr (record { word = (found_takes d W h (e.Name name) [] (roll-Suffix (Suffix-F.Index at x) ∷ os) f).word u hl w; other = not_first u (subst (λ z. Spells (z ++ concat_tokens (map spell_suffix os)) u) (ap spell_suffix (s.rolls-Index at x) ∙ spell-Index at x) w) }) }
  where
    not_first : (u : List Token) → Spells (sign_at "[" at ++ spell_expr x ++ sign "]" ++ concat_tokens (map spell_suffix os)) u → is.dot (next u) ≡ false
    not_first [] w = absurd w
    not_first (t ∷ u) w = not_dot t (record { kind = kind.Sign; text = codes "["; at = Some at }) w.0 refl refl
after_name_layer d W h name (Suffix-F.Length at) os f =
    subst (λ o. Takes (Either (Seq (One is.dot) (λ t. AfterDotWord d W name t.at)) (Unless is.dot (WithSuffixesWord d W (e.Name name) []))) (suffixed (e.Name name) (o ∷ os)) (concat_tokens (map spell_suffix (o ∷ os)))) (sym (s.rolls-Length at))
    (take_left (take_as (ap (λ z. z ++ concat_tokens (map spell_suffix os)) (spell-Length at)) (take_at (λ z. suffixed (e.Name name) (s.Length z ∷ os)) the.dot (λ t. take_right (take_token the.length (λ t2.
    found_takes d W h (e.Name name) (s.Length t.at ∷ []) os f.1))))))

after_name_takes : (d : ℕ) (W : Expr → List Token → Type 0) → Under d W → (name : Ident) (os : List Suffix) → Each (SuffixFine d) os
    → Takes (AfterNameWord d W name) (suffixed (e.Name name) os) (concat_tokens (map spell_suffix os))
unfolding AfterNameWord
after_name_takes d W h name [] f = record { word = λ u hl w. inr (record { word = (found_takes d W h (e.Name name) [] [] f).word u hl w; other = nothing u w }) }
  where
    nothing : (u : List Token) → Spells [] u → is.dot (next u) ≡ false
    nothing [] w = refl
    nothing (t ∷ u) w = absurd w
after_name_takes d W h name (o ∷ os) f =
    subst (λ z. Takes (Either (Seq (One is.dot) (λ t. AfterDotWord d W name t.at)) (Unless is.dot (WithSuffixesWord d W (e.Name name) []))) (suffixed (e.Name name) (z ∷ os)) (concat_tokens (map spell_suffix (z ∷ os)))) (rolled_suffix o)
    (after_name_layer d W h name (out-Suffix o) os (subst (λ z. SuffixFine d z) (sym (rolled_suffix o)) f.0, f.1))

-- a primary expression, and suffixes
abbrev Primary : (d : ℕ) (W : Expr → List Token → Type 0) → Expr → Type 0
Primary d W x = (os : List Suffix) → Ranked 8 d x → Each (SuffixFine d) os → Takes (PostfixWord d W) (suffixed x os) (spell_expr x ++ concat_tokens (map spell_suffix os))

plain_case : (d : ℕ) (W : Expr → List Token → Type 0) → Under d W → (x : Expr) → Takes PlainWord x (spell_expr x) → Primary d W x
unfolding PostfixWord OtherPostfixWord ClosedPostfixWord
plain_case d W h x p os f g = take_right (take_right (take_right (take_right (take_seq x p (with_suffixes_takes d W h x os g)))))

name_case : (d : ℕ) (W : Expr → List Token → Type 0) → Under d W → (name : Ident) → Primary d W (e.Name name)
unfolding PostfixWord
name_case d W h name os f g = take_as (ap (λ z. z ++ concat_tokens (map spell_suffix os)) (spell-Name name))
    (take_left (take_name (λ z. suffixed (e.Name z) os) (λ t i. after_name_takes d W h (ident t) os g)))

own_case : (d : ℕ) (W : Expr → List Token → Type 0) → Under d W → (at : ℕ) (name : Ident) → Primary d W (e.Own at name)
unfolding PostfixWord OtherPostfixWord
own_case d W h at name os f g = take_right (take_left (take_seq (e.Own at name) (own_takes at name) (with_suffixes_takes d W h (e.Own at name) os g)))

paren_case : (d : ℕ) (W : Expr → List Token → Type 0) → Under d W → (at : ℕ) (x : Expr) → Primary d W (e.Paren at x)
unfolding PostfixWord OtherPostfixWord ClosedPostfixWord
paren_case zero W h at x os f g = absurd (paren_deep at x f)
paren_case (suc n) W h at x os f g = take_right (take_right (take_left (paren_takes h at x os f g)))

new_case : (d : ℕ) (W : Expr → List Token → Type 0) → Under d W → (at : ℕ) (behavior : Ident) (args : List Expr) (p : Option At) → Primary d W (e.New at behavior args p)
unfolding PostfixWord OtherPostfixWord ClosedPostfixWord
new_case zero W h at behavior args p os f g = absurd (new_deep at behavior args p f)
new_case (suc n) W h at behavior args p os f g = take_right (take_right (take_right (take_left (new_takes h at behavior args p os f g))))

getter_word : {n : ℕ} {W : Expr → List Token → Type 0} → Link W (Ranked 6 n) spell_expr → (behavior : Ident) (x : Expr) (os : List Suffix) → Ranked 0 n x → Each (SuffixFine (suc n)) os
    → Takes (PostfixWord (suc n) W) (suffixed (e.ByName behavior.at None behavior x) os) (identifier behavior ++ (sign "." ++ ((fixed_identifier "getReferenceByName" ++ (sign "(" ++ (spell_expr x ++ sign ")"))) ++ concat_tokens (map spell_suffix os))))
unfolding PostfixWord AfterNameWord AfterDotWord
getter_word {n = n} {W = W} l behavior x os f g =
    take_left (take_name (λ z. suffixed (e.ByName z.at None z x) os) (λ t h. take_left (take_token the.dot (λ t2. take_left
    (take_seq (e.ByName t.at None (ident t) x) (getter_takes l t.at None (ident t) x f) (with_suffixes_takes (suc n) W l (e.ByName t.at None (ident t) x) os g))))))

getter_case : (d : ℕ) (W : Expr → List Token → Type 0) → Under d W → (at : ℕ) (cast : Option Ident) (behavior : Ident) (x : Expr) → Primary d W (e.ByName at cast behavior x)
unfolding PostfixWord OtherPostfixWord ClosedPostfixWord
getter_case zero W h at cast behavior x os f g = absurd (getter_deep at cast behavior x f)
getter_case (suc n) W h at (Some name) behavior x os f g = take_right (take_right (take_left (cast_takes h at name behavior x os f g)))
getter_case (suc n) W h at None behavior x os f g =
    let same : behavior.at ≡ at = sym (eqb-true at behavior.at (getter_place at None behavior x f)) in
    subst (λ z. Takes (PostfixWord (suc n) W) (suffixed (e.ByName z None behavior x) os) (spell_expr (e.ByName at None behavior x) ++ concat_tokens (map spell_suffix os))) same
    (take_as (ap (λ z. z ++ concat_tokens (map spell_suffix os)) (sym (getter_spell at None behavior x))) (getter_word h behavior x os (getter_parts at None behavior x f) g))

abbrev Layer : Type 0
Layer = Expr-F Expr Suffix At Operand

level_rank : (o : Operand) → (ranked_operand o).rank ≤ 5
level_rank o = subst (λ z. z.rank ≤ 5) (sym (regular-Operand o)) (rank_most o.op)

primary_layer : (d : ℕ) (W : Expr → List Token → Type 0) → Under d W → (l : Layer) → Primary d W (roll-Expr l)
primary_layer d W h (Expr-F.Number n at) = subst (λ z. Primary d W z) (sym (e.rolls-Number n at)) (plain_case d W h (e.Number n at) (number_takes n at))
primary_layer d W h (Expr-F.Str text at) = subst (λ z. Primary d W z) (sym (e.rolls-Str text at)) (plain_case d W h (e.Str text at) (str_takes text at))
primary_layer d W h (Expr-F.Bool b at) = subst (λ z. Primary d W z) (sym (e.rolls-Bool b at)) (plain_case d W h (e.Bool b at) (bool_takes b at))
primary_layer d W h (Expr-F.Null at) = subst (λ z. Primary d W z) (sym (e.rolls-Null at)) (plain_case d W h (e.Null at) (null_takes at))
primary_layer d W h (Expr-F.Me at) = subst (λ z. Primary d W z) (sym (e.rolls-Me at)) (plain_case d W h (e.Me at) (me_takes at))
primary_layer d W h (Expr-F.Name name) = subst (λ z. Primary d W z) (sym (e.rolls-Name name)) (name_case d W h name)
primary_layer d W h (Expr-F.Own at name) = subst (λ z. Primary d W z) (sym (e.rolls-Own at name)) (own_case d W h at name)
primary_layer d W h (Expr-F.Paren at x) = subst (λ z. Primary d W z) (sym (e.rolls-Paren at x)) (paren_case d W h at x)
primary_layer d W h (Expr-F.New at behavior args p) = subst (λ z. Primary d W z) (sym (e.rolls-New at behavior args p)) (new_case d W h at behavior args p)
primary_layer d W h (Expr-F.ByName at cast behavior x) = subst (λ z. Primary d W z) (sym (e.rolls-ByName at cast behavior x)) (getter_case d W h at cast behavior x)
primary_layer d W h (Expr-F.Level x []) = λ os f g. absurd (differ (sym (ap (λ (z : Shape). z.regular) (sym (shape_roll (Expr-F.Level x []))) ∙ regular_in 8 (shape_of (roll-Expr (Expr-F.Level x []))) f.good)))
primary_layer d W h (Expr-F.Level x (o ∷ os')) = λ os f g.
    absurd (let r = level_rank o in omega (arith, r, ap (λ (z : Shape). z.rank) (shape_roll (Expr-F.Level x (o ∷ os'))), rank_in 8 (shape_of (roll-Expr (Expr-F.Level x (o ∷ os')))) f.good))
primary_layer d W h (Expr-F.Suffixed x []) = λ os f g. absurd (differ (sym (ap (λ (z : Shape). z.regular) (sym (shape_roll (Expr-F.Suffixed x []))) ∙ regular_in 8 (shape_of (roll-Expr (Expr-F.Suffixed x []))) f.good)))
primary_layer d W h (Expr-F.Suffixed x (o ∷ os')) = λ os f g. absurd (omega (arith, ap (λ (z : Shape). z.rank) (shape_roll (Expr-F.Suffixed x (o ∷ os'))), rank_in 8 (shape_of (roll-Expr (Expr-F.Suffixed x (o ∷ os')))) f.good))
primary_layer d W h (Expr-F.Neg at x) = λ os f g. absurd (omega (arith, ap (λ (z : Shape). z.rank) (shape_roll (Expr-F.Neg at x)), rank_in 8 (shape_of (roll-Expr (Expr-F.Neg at x))) f.good))
primary_layer d W h (Expr-F.Not at x) = λ os f g. absurd (omega (arith, ap (λ (z : Shape). z.rank) (shape_roll (Expr-F.Not at x)), rank_in 8 (shape_of (roll-Expr (Expr-F.Not at x))) f.good))
primary_layer d W h (Expr-F.Make at sort x) = λ os f g. absurd (omega (arith, ap (λ (z : Shape). z.rank) (shape_roll (Expr-F.Make at sort x)), rank_in 8 (shape_of (roll-Expr (Expr-F.Make at sort x))) f.good))
primary_layer d W h (Expr-F.ListOf at sort items) = λ os f g. absurd (omega (arith, ap (λ (z : Shape). z.rank) (shape_roll (Expr-F.ListOf at sort items)), rank_in 8 (shape_of (roll-Expr (Expr-F.ListOf at sort items))) f.good))

primary_takes : (d : ℕ) (W : Expr → List Token → Type 0) → Under d W → (x : Expr) → Primary d W x
primary_takes d W h x = subst (λ z. Primary d W z) (rolled x) (primary_layer d W h (out-Expr x))

-- a postfix expression without the rest
abbrev Postfix : (d : ℕ) (W : Expr → List Token → Type 0) → Expr → Type 0
Postfix d W x = Ranked 7 d x → Takes (PostfixWord d W) x (spell_expr x)

alone_takes : (d : ℕ) (W : Expr → List Token → Type 0) → Under d W → (x : Expr) → Ranked 8 d x → Takes (PostfixWord d W) x (spell_expr x)
alone_takes d W h x f = take_as (sym (append-nil (spell_expr x))) (primary_takes d W h x [] f tt)

suffixed_case : (d : ℕ) (W : Expr → List Token → Type 0) → Under d W → (x : Expr) (o : Suffix) (os : List Suffix) → Postfix d W (e.Suffixed x (o ∷ os))
suffixed_case d W h x o os f = take_as (sym (suffixed_spell x (o ∷ os))) (primary_takes d W h x (o ∷ os) (suffixed_first x o os f) (suffixed_parts x o os f))

make_case : (d : ℕ) (W : Expr → List Token → Type 0) → Under d W → (at : ℕ) (sort : TypeName) (x : Expr) → Postfix d W (e.Make at sort x)
unfolding PostfixWord OtherPostfixWord ClosedPostfixWord
make_case zero W h at sort x f = absurd (make_deep at sort x f)
make_case (suc n) W h at sort x f = take_right (take_right (take_right (take_left (make_takes h at sort x f))))

list_case : (d : ℕ) (W : Expr → List Token → Type 0) → Under d W → (at : ℕ) (sort : TypeName) (items : List Expr) → Postfix d W (e.ListOf at sort items)
unfolding PostfixWord OtherPostfixWord ClosedPostfixWord
list_case zero W h at sort items f = absurd (list_deep at sort items f)
list_case (suc n) W h at sort items f = take_right (take_right (take_right (take_left (list_of_takes h at sort items f))))

higher : (n : ℕ) {d : ℕ} (m : ℕ) (x : Expr) (s : Shape) → shape_of x ≡ s → n ≤ s.rank → Ranked m d x → Ranked n d x
higher n m x s es l f = record { good = stands_in n (shape_of x) (subst (λ z. n ≤ z.rank) (sym es) l) (regular_in m (shape_of x) f.good); fits = f.fits }

irregular : {P : Type 0} (m : ℕ) {d : ℕ} (l : Layer) (s : Shape) → shape_of (roll-Expr l) ≡ s → s.regular ≡ false → Ranked m d (roll-Expr l) → P
irregular m l s es h f = absurd (differ (sym (regular_in m (shape_of (roll-Expr l)) f.good) ∙ (ap (λ (z : Shape). z.regular) es ∙ h)))

postfix_layer : (d : ℕ) (W : Expr → List Token → Type 0) → Under d W → (l : Layer) → Postfix d W (roll-Expr l)
postfix_layer d W h (Expr-F.Suffixed x []) = λ f. irregular 7 (Expr-F.Suffixed x []) _ (shape_roll (Expr-F.Suffixed x [])) refl f
postfix_layer d W h (Expr-F.Suffixed x (o ∷ os)) = subst (λ z. Postfix d W z) (sym (e.rolls-Suffixed x (o ∷ os))) (suffixed_case d W h x o os)
postfix_layer d W h (Expr-F.Level x []) = λ f. irregular 7 (Expr-F.Level x []) _ (shape_roll (Expr-F.Level x [])) refl f
postfix_layer d W h (Expr-F.Level x (o ∷ os)) = λ f.
    absurd (let r = level_rank o in omega (arith, r, ap (λ (z : Shape). z.rank) (shape_roll (Expr-F.Level x (o ∷ os))), rank_in 7 (shape_of (roll-Expr (Expr-F.Level x (o ∷ os)))) f.good))
postfix_layer d W h (Expr-F.Neg at x) = λ f. absurd (omega (arith, ap (λ (z : Shape). z.rank) (shape_roll (Expr-F.Neg at x)), rank_in 7 (shape_of (roll-Expr (Expr-F.Neg at x))) f.good))
postfix_layer d W h (Expr-F.Not at x) = λ f. absurd (omega (arith, ap (λ (z : Shape). z.rank) (shape_roll (Expr-F.Not at x)), rank_in 7 (shape_of (roll-Expr (Expr-F.Not at x))) f.good))
postfix_layer d W h (Expr-F.Make at sort x) = subst (λ z. Postfix d W z) (sym (e.rolls-Make at sort x)) (make_case d W h at sort x)
postfix_layer d W h (Expr-F.ListOf at sort items) = subst (λ z. Postfix d W z) (sym (e.rolls-ListOf at sort items)) (list_case d W h at sort items)
postfix_layer d W h l = λ f. alone_takes d W h (roll-Expr l) (higher 8 7 (roll-Expr l) _ (shape_roll l) (omega arith) f)

postfix_takes : (d : ℕ) (W : Expr → List Token → Type 0) → Under d W → (x : Expr) → Postfix d W x
postfix_takes d W h x = subst (λ z. Postfix d W z) (rolled x) (postfix_layer d W h (out-Expr x))

pub postfix_link : (d : ℕ) (W : Expr → List Token → Type 0) → Under d W → Link (PostfixWord d W) (Ranked 7 d) spell_expr
postfix_link d W h = record { gives = postfix_gives d W h; takes = postfix_takes d W h }

-- ---- unary expressions

abbrev Unary : (d : ℕ) (W : Expr → List Token → Type 0) → Expr → Type 0
Unary d W x = Ranked 6 d x → Takes (UnaryByWord d W) x (spell_expr x)

neg_case : (d : ℕ) (W : Expr → List Token → Type 0) → Under d W → (at : ℕ) (x : Expr) → Unary d W (e.Neg at x)
unfolding UnaryByWord
neg_case zero W h at x f = absurd (neg_deep at x f)
neg_case (suc n) W h at x f = take_left (neg_takes h at x (neg_parts at x f))

not_case : (d : ℕ) (W : Expr → List Token → Type 0) → Under d W → (at : ℕ) (x : Expr) → Unary d W (e.Not at x)
unfolding UnaryByWord
not_case zero W h at x f = absurd (not_deep at x f)
not_case (suc n) W h at x f = take_left (not_takes h at x (not_parts at x f))

tighter_case : (d : ℕ) (W : Expr → List Token → Type 0) → Under d W → (x : Expr) → Ranked 7 d x → Takes (UnaryByWord d W) x (spell_expr x)
unfolding UnaryByWord
tighter_case d W h x f = take_right (postfix_takes d W h x f)

unary_layer : (d : ℕ) (W : Expr → List Token → Type 0) → Under d W → (l : Layer) → Unary d W (roll-Expr l)
unary_layer d W h (Expr-F.Neg at x) = subst (λ z. Unary d W z) (sym (e.rolls-Neg at x)) (neg_case d W h at x)
unary_layer d W h (Expr-F.Not at x) = subst (λ z. Unary d W z) (sym (e.rolls-Not at x)) (not_case d W h at x)
unary_layer d W h (Expr-F.Level x []) = λ f. irregular 6 (Expr-F.Level x []) _ (shape_roll (Expr-F.Level x [])) refl f
unary_layer d W h (Expr-F.Level x (o ∷ os)) = λ f.
    absurd (let r = level_rank o in omega (arith, r, ap (λ (z : Shape). z.rank) (shape_roll (Expr-F.Level x (o ∷ os))), rank_in 6 (shape_of (roll-Expr (Expr-F.Level x (o ∷ os)))) f.good))
unary_layer d W h (Expr-F.Suffixed x []) = λ f. irregular 6 (Expr-F.Suffixed x []) _ (shape_roll (Expr-F.Suffixed x [])) refl f
unary_layer d W h (Expr-F.Suffixed x (o ∷ os)) = λ f. tighter_case d W h (roll-Expr (Expr-F.Suffixed x (o ∷ os))) (higher 7 6 (roll-Expr (Expr-F.Suffixed x (o ∷ os))) _ (shape_roll (Expr-F.Suffixed x (o ∷ os))) (omega arith) f)
unary_layer d W h l = λ f. tighter_case d W h (roll-Expr l) (higher 7 6 (roll-Expr l) _ (shape_roll l) (omega arith) f)

unary_gives : (d : ℕ) (W : Expr → List Token → Type 0) → Under d W → Gives (UnaryByWord d W) (Ranked 6 d) spell_expr
unfolding UnaryByWord
unary_gives zero W h = gives_by (into_either into_none (into_gives (postfix_gives 0 W h) (λ x f. tight 7 6 x (omega arith) f) (λ x. refl)))
unary_gives (suc n) W h = gives_by (into_either (into_gives (prefix_gives h) (λ x f. f) (λ x. refl)) (into_gives (postfix_gives (suc n) W h) (λ x f. tight 7 6 x (omega arith) f) (λ x. refl)))

unary_by_link : (d : ℕ) (W : Expr → List Token → Type 0) → Under d W → Link (UnaryByWord d W) (Ranked 6 d) spell_expr
unary_by_link d W h = record { gives = unary_gives d W h; takes = λ x. subst (λ z. Unary d W z) (rolled x) (unary_layer d W h (out-Expr x)) }

-- the words of unary expressions and of expressions are their trees
pub unary_link : (d : ℕ) → Link (UnaryWord d) (Ranked 6 d) spell_expr
unfolding UnaryWord
unary_link zero = unary_by_link zero Empty tt
unary_link (suc d) = unary_by_link (suc d) (UnaryWord d) (unary_link d)

pub expr_link : (d : ℕ) → Link (ExprWord d) (Ranked 0 d) spell_expr
unfolding ExprWord
expr_link d = expr_of_link (unary_link d)
