-- Words of statements that begin with a variable or a type spell their trees.
use Rattle.std.proofs.Common.{◌≡◌, inl, inr, ℕ, zero, suc, ◌≤◌, Bool, true, false, ◌&&◌, List, [], ◌∷◌, ◌++◌, map, Option, Some, None, refl, sym, ap, ◌∙◌, subst, append_assoc, append-nil, arith, rules}
use Rattle.std.specs.Prelude.{codes}
use Rattle.sal_ast.specs.declared.lexeme.Kind.TheVariants as kind
use Rattle.sal_ast.specs.declared.expression.At.{At}
use Rattle.sal_ast.specs.declared.expression.Expr.{Expr}
use Rattle.sal_ast.specs.declared.expression.Expr.TheOpen.{Suffix-F}
use Rattle.sal_ast.specs.declared.expression.Expr.TheVariants as e
use Rattle.sal_ast.specs.declared.expression.Operand.{Operand}
use Rattle.sal_ast.specs.declared.expression.Suffix.{Suffix, out-Suffix, roll-Suffix}
use Rattle.sal_ast.specs.declared.expression.Suffix.TheVariants as s
use Rattle.sal_ast.specs.declared.program.Ident.{Ident}
use Rattle.sal_ast.specs.declared.program.TypeName.{TypeName}
use Rattle.sal_ast.specs.declared.statement.Aim.TheVariants as aim
use Rattle.sal_ast.specs.declared.statement.Assign.{Assign}
use Rattle.sal_ast.specs.declared.statement.Declare.{Declare}
use Rattle.sal_ast.specs.declared.statement.Stmt.{Stmt}
use Rattle.sal_ast.specs.declared.statement.Stmt.TheVariants as form
use Rattle.sal_ast.specs.Spell.{TreeTokens, concat_tokens, sign, sign_at, word_at, identifier, spell_type, spell_expr, spell_suffix, spell_value, spell_declare, spell_index, spell_this, spell_assign, spell_stmt}
use Rattle.sal_ast.proofs.DepthEquations.{depth-Declare, depth-Assign, depth-Index}
use Rattle.sal_ast.proofs.RegularEquations.{regular-Declare, regular-Assign, regular-Index}
use Rattle.sal_ast.proofs.SpellEquations.{spell-Name, spell-Own, spell-Index, spell-Declare, spell-Assign}
use Rattle.sal_grammar.specs.Tokens.{Token, Lexemes, class_of}
use Rattle.sal_grammar.specs.Sets as is
use Rattle.sal_grammar.specs.Refusals.{Spells}
use Rattle.sal_grammar.specs.Expressions.{ident, type_of, suffixed}
use Rattle.sal_grammar.specs.Statements.{index_in, indexes_of, has_index, all_indexes, is_own, variable}
use Rattle.sal_grammar.proofs.Exactness.{differ}
use Rattle.sal_grammar.proofs.Languages.{Seq, One, Just, Either, Deep, Star}
use Rattle.sal_grammar.proofs.StatementWords.{BelowWord, NameWord, SentStmtWord, AssignedStmtWord, AssignOrSendWord, AfterVariableWord, ThisStmtWord, IndexedStmtWord, TypedStmtWord, BracketStmtWord, DottedNameWord, NameStmtWord}
use Rattle.sal_grammar.proofs.TreesTokens as the
use Rattle.sal_grammar.proofs.TreesTokens.{left_true, right_true}
use Rattle.sal_grammar.proofs.TreesSteps.{Gives, Into, Takes, Each, Fine, more, cut, join, gives_by, into_seq, into_just, into_end, into_either, into_at, into_then, into_none, into_map, into_weaker, into_split, token, token_at, name_token, take_seq, take_just, take_end, take_as, take_left, take_right, take_token, take_at, take_name}
use Rattle.sal_grammar.proofs.TreesOperators.{Ranked, regular_by}
use Rattle.sal_grammar.proofs.TreesParts.{SuffixFine, tight, name_fine, own_fine, index_fine}
use Rattle.sal_grammar.proofs.TreesExpressions.{rolled_suffix, suffixes_gives, all_append, each_append, suffixed_ranked, suffixed_spell}
use Rattle.sal_grammar.proofs.TreesPostfix.{expr_link, dotted_into}
use Rattle.sal_grammar.proofs.TreesAssignments.{under_below, name_link, name_typed_into, bracket_typed_into, DeclareFine, declare_into, declare_takes, IndexFine, index_out, indexes_append, AssignFine, assigned_into}
use Rattle.sal_grammar.proofs.TreesMessages.{message_into, send_into}
use Rattle.sal_grammar.proofs.TreesChains.{StmtFine, Inside, stmt_by, actor_fine, own_aim, chain_into}

-- ---- pieces before others

pub before1 : (a p q : TreeTokens) → a ++ (p ++ q) ≡ (a ++ p) ++ q
before1 a p q = sym (append_assoc a p q)

pub before2 : (a b p q : TreeTokens) → a ++ (b ++ (p ++ q)) ≡ (a ++ (b ++ p)) ++ q
before2 a b p q = ap (λ z. a ++ z) (before1 b p q) ∙ before1 a (b ++ p) q

pub before3 : (a b c p q : TreeTokens) → a ++ (b ++ (c ++ (p ++ q))) ≡ (a ++ (b ++ (c ++ p))) ++ q
before3 a b c p q = ap (λ z. a ++ z) (before2 b c p q) ∙ before1 a (b ++ (c ++ p)) q

-- ---- declarations

pub declare_fine : {d : ℕ} (x : Declare) → DeclareFine d x → StmtFine d (form.Declare x)
declare_fine x f = stmt_by (regular-Declare x) (depth-Declare x) f.good f.fits

pub typed_into : (d : ℕ) (sort : TypeName) → Into (StmtFine d) spell_stmt (λ q. spell_type sort ++ q) (TypedStmtWord d sort)
unfolding TypedStmtWord
typed_into d sort = into_map form.Declare (declare_into d sort) (λ x f. declare_fine x f) (λ x. sym (spell-Declare x))

pub typed_takes : (d : ℕ) (x : Declare) → DeclareFine d x → Takes (TypedStmtWord d x.sort) (form.Declare x) (identifier x.name ++ (spell_value x.init ++ sign ";"))
unfolding TypedStmtWord
typed_takes d x f = take_end form.Declare x (declare_takes d x f) refl

-- ---- targets

pub sent_into : (d : ℕ) (S : Stmt → List Token → Type 0) → Inside d S → (x : Expr) → Ranked 7 d x → Into (StmtFine d) spell_stmt (λ q. spell_expr x ++ q) (SentStmtWord d S x)
unfolding SentStmtWord
sent_into d S h x f = into_then (λ p q. before1 (spell_expr x) p q) (send_into d (aim.Actor x) refl (actor_fine x f)) (λ m g. chain_into d S h m g)

pub assign_stmt_fine : {d : ℕ} (a : Assign) → AssignFine d a → StmtFine d (form.Assign a)
assign_stmt_fine a f = stmt_by (regular-Assign a) (depth-Assign a) f.good f.fits

pub assigned_stmt_into : (d : ℕ) (own : Bool) (n : Ident) (found : List Suffix) → Each (IndexFine d) (indexes_of found)
    → Into (StmtFine d) spell_stmt (λ q. spell_this own ++ (identifier n ++ (concat_tokens (map spell_index (indexes_of found)) ++ q))) (AssignedStmtWord d own n found)
unfolding AssignedStmtWord
assigned_stmt_into d own n found f =
    into_then (λ p q. before3 (spell_this own) (identifier n) (concat_tokens (map spell_index (indexes_of found))) p q) (assigned_into d own n found f)
    (λ a g. into_seq (token the.semicolon) (λ t h. into_just (form.Assign a) (assign_stmt_fine a g) (sym (spell-Assign a))))

-- ---- suffixes that are all indexes

pub record IsIndex (o : Suffix) : Type 0 where
  pub at : ℕ
  pub value : Expr
  pub same : o ≡ s.Index at value

index_layer : (l : Suffix-F Expr Suffix At Operand) → has_index (index_in l) ≡ true → IsIndex (roll-Suffix l)
index_layer (Suffix-F.Index at x) h = record { at = at; value = x; same = s.rolls-Index at x }
index_layer (Suffix-F.Length at) h = absurd (differ (sym h))

pub index_view : (o : Suffix) → has_index (index_in (out-Suffix o)) ≡ true → IsIndex o
index_view o h = subst IsIndex (rolled_suffix o) (index_layer (out-Suffix o) h)

index_part : {d : ℕ} (at : ℕ) (x : Expr) → SuffixFine d (s.Index at x) → IndexFine d x
index_part {d = d} at x f = record { good = sym (regular-Index at x) ∙ f.good; fits = subst (λ z. z ≤ d) (depth-Index at x) f.fits }

pub indexes_fine : (d : ℕ) (os : List Suffix) → all_indexes os ≡ true → Each (SuffixFine d) os → Each (IndexFine d) (indexes_of os)
indexes_fine d [] h f = tt
indexes_fine d (o ∷ os) h f =
    let v : IsIndex o = index_view o (left_true (has_index (index_in (out-Suffix o))) (all_indexes os) h) in
    let here : Each (IndexFine d) (index_in (out-Suffix o)) =
    subst (λ z. Each (IndexFine d) z) (sym (ap (λ z. index_in (out-Suffix z)) v.same ∙ index_out v.at v.value)) (index_part v.at v.value (subst (λ z. SuffixFine d z) v.same f.0), tt) in
    each_append (IndexFine d) (index_in (out-Suffix o)) (indexes_of os) here (indexes_fine d os (right_true (has_index (index_in (out-Suffix o))) (all_indexes os) h) f.1)

-- the same tokens without the place
forget : (at : ℕ) (x : Expr) (v : List Token) → Spells (spell_suffix (s.Index at x)) v → Spells (concat_tokens (map spell_index (x ∷ []))) v
forget at x v h = subst (λ z. Spells z v) (sym (append-nil (spell_index x))) (by v (subst (λ z. Spells z v) (spell-Index at x) h))
  where
    by : (v : List Token) → Spells (sign_at "[" at ++ spell_expr x ++ sign "]") v → Spells (spell_index x) v
    by [] h = absurd h
    by (t ∷ v) h = (record { kind = h.0.kind; text = h.0.text; place = tt }, h.1)

pub forget_all : (os : List Suffix) → all_indexes os ≡ true → (v : List Token) → Spells (concat_tokens (map spell_suffix os)) v → Spells (concat_tokens (map spell_index (indexes_of os))) v
forget_all [] h v w = w
forget_all (o ∷ os) h v w =
    let i : IsIndex o = index_view o (left_true (has_index (index_in (out-Suffix o))) (all_indexes os) h) in
    let k = cut (spell_suffix o) (concat_tokens (map spell_suffix os)) v w in
    let here : Spells (concat_tokens (map spell_index (index_in (out-Suffix o)))) k.left =
    subst (λ z. Spells (concat_tokens (map spell_index z)) k.left) (sym (ap (λ z. index_in (out-Suffix z)) i.same ∙ index_out i.at i.value)) (forget i.at i.value k.left (subst (λ z. Spells (spell_suffix z) k.left) i.same k.first)) in
    let there : Spells (concat_tokens (map spell_index (indexes_of os))) k.right = forget_all os (right_true (has_index (index_in (out-Suffix o))) (all_indexes os) h) k.right k.second in
    subst (λ z. Spells z v) (all_append spell_index (index_in (out-Suffix o)) (indexes_of os))
    (subst (λ z. Spells (concat_tokens (map spell_index (index_in (out-Suffix o))) ++ concat_tokens (map spell_index (indexes_of os))) z) k.joined (join (concat_tokens (map spell_index (index_in (out-Suffix o)))) (concat_tokens (map spell_index (indexes_of os))) k.left k.right here there))

forget_this : (at : Option ℕ) (n : Ident) (v : List Token) → Spells (spell_expr (variable at n)) v → Spells (spell_this (is_own at) ++ identifier n) v
forget_this None n v h = subst (λ z. Spells z v) (spell-Name n) h
forget_this (Some at) n v h = by v (subst (λ z. Spells z v) (spell-Own at n) h)
  where
    by : (v : List Token) → Spells (word_at "this" at ++ sign "." ++ identifier n) v → Spells (spell_this true ++ identifier n) v
    by [] h = absurd h
    by (t ∷ v) h = (record { kind = h.0.kind; text = h.0.text; place = tt }, h.1)

forget_both : (at : Option ℕ) (n : Ident) (os : List Suffix) → all_indexes os ≡ true → (q : TreeTokens) (v : List Token)
    → Spells (spell_expr (variable at n) ++ (concat_tokens (map spell_suffix os) ++ q)) v → Spells (spell_this (is_own at) ++ (identifier n ++ (concat_tokens (map spell_index (indexes_of os)) ++ q))) v
forget_both at n os h q v w =
    let k = cut (spell_expr (variable at n)) (concat_tokens (map spell_suffix os) ++ q) v w in
    let j = cut (concat_tokens (map spell_suffix os)) q k.right k.second in
    let i = concat_tokens (map spell_index (indexes_of os)) in
    let x : Spells (i ++ q) k.right = subst (λ z. Spells (i ++ q) z) j.joined (join i q j.left j.right (forget_all os h j.left j.first) j.second) in
    subst (λ z. Spells z v) (append_assoc (spell_this (is_own at)) (identifier n) (i ++ q))
    (subst (λ z. Spells ((spell_this (is_own at) ++ identifier n) ++ (i ++ q)) z) k.joined (join (spell_this (is_own at) ++ identifier n) (i ++ q) k.left k.right (forget_this at n k.left k.first) x))

-- ---- behind a variable

variable_fine : {d : ℕ} (at : Option ℕ) (n : Ident) → Ranked 8 d (variable at n)
variable_fine None n = name_fine n
variable_fine (Some at) n = own_fine at n

suffixed_before : (x : Expr) (os : List Suffix) (q : TreeTokens) → spell_expr x ++ (concat_tokens (map spell_suffix os) ++ q) ≡ spell_expr (suffixed x os) ++ q
suffixed_before x os q = sym (append_assoc (spell_expr x) (concat_tokens (map spell_suffix os)) q) ∙ ap (λ z. z ++ q) (suffixed_spell x os)

assign_or_send_into : (d : ℕ) (S : Stmt → List Token → Type 0) → Inside d S → (at : Option ℕ) (n : Ident) (os : List Suffix) → Each (SuffixFine d) os → (b : Bool) → all_indexes os ≡ b
    → Into (StmtFine d) spell_stmt (λ q. spell_expr (variable at n) ++ (concat_tokens (map spell_suffix os) ++ q)) (AssignOrSendWord d S at n os b)
assign_or_send_into d S h at n os f true i = into_either
    (into_weaker (λ q v w. forget_both at n os i q v w) (assigned_stmt_into d (is_own at) n os (indexes_fine d os i f)))
    (into_at (λ q. suffixed_before (variable at n) os q) (sent_into d S h (suffixed (variable at n) os) (suffixed_ranked (variable at n) os (variable_fine at n) f)))
assign_or_send_into d S h at n os f false i =
    into_at (λ q. suffixed_before (variable at n) os q) (sent_into d S h (suffixed (variable at n) os) (suffixed_ranked (variable at n) os (variable_fine at n) f))

more_before : (x : Expr) (found os : List Suffix) (q : TreeTokens) → spell_expr x ++ (concat_tokens (map spell_suffix found) ++ (concat_tokens (map spell_suffix os) ++ q)) ≡ spell_expr x ++ (concat_tokens (map spell_suffix (found ++ os)) ++ q)
more_before x found os q = ap (λ z. spell_expr x ++ z) (sym (append_assoc (concat_tokens (map spell_suffix found)) (concat_tokens (map spell_suffix os)) q) ∙ ap (λ z. z ++ q) (all_append spell_suffix found os))

pub after_variable_into : (d : ℕ) (S : Stmt → List Token → Type 0) → Inside d S → (at : Option ℕ) (n : Ident) (found : List Suffix) → Each (SuffixFine d) found
    → Into (StmtFine d) spell_stmt (λ q. spell_expr (variable at n) ++ (concat_tokens (map spell_suffix found) ++ q)) (AfterVariableWord d S at n found)
unfolding AfterVariableWord
after_variable_into d S h at n found f =
    into_seq (suffixes_gives d (BelowWord d) (under_below d)) (λ os g. into_at (λ q. more_before (variable at n) found os q)
    (assign_or_send_into d S h at n (found ++ os) (each_append (SuffixFine d) found os f g) (all_indexes (found ++ os)) refl))

pub this_gives : (d : ℕ) (S : Stmt → List Token → Type 0) → Inside d S → Gives (ThisStmtWord d S) (StmtFine d) spell_stmt
unfolding ThisStmtWord
this_gives d S h =
    gives_by (into_seq (token_at the.this) (λ t i. into_seq (token the.dot) (λ t2 i2. into_seq name_link.gives (λ n i3.
    into_at (λ q. ap (λ z. z ++ q) (sym (spell-Own t.at n))) (after_variable_into d S h (Some t.at) n [] tt)))))

index_before : (n : Ident) (at : ℕ) (x : Expr) (q : TreeTokens) → identifier n ++ (sign_at "[" at ++ (spell_expr x ++ (sign "]" ++ q))) ≡ spell_expr (e.Name n) ++ ((spell_suffix (s.Index at x) ++ []) ++ q)
index_before n at x q =
    ap (λ z. identifier n ++ (sign_at "[" at ++ z)) (sym (append_assoc (spell_expr x) (sign "]") q))
    ∙ (ap (λ z. identifier n ++ (z ++ q)) (sym (append-nil (sign_at "[" at ++ spell_expr x ++ sign "]")) ∙ ap (λ z. z ++ []) (sym (spell-Index at x))) ∙ ap (λ z. z ++ ((spell_suffix (s.Index at x) ++ []) ++ q)) (sym (spell-Name n)))

indexed_into : (d : ℕ) (S : Stmt → List Token → Type 0) → Inside d S → (n : Ident) (at : ℕ)
    → Into (StmtFine d) spell_stmt (λ q. identifier n ++ (sign_at "[" at ++ q)) (Deep d (IndexedStmtWord d S n at))
unfolding IndexedStmtWord
indexed_into zero S h n at = into_none
indexed_into (suc m) S h n at =
    into_seq (expr_link m).gives (λ x f. into_seq (token the.close_bracket) (λ t i. into_at (λ q. index_before n at x q) (after_variable_into (suc m) S h None n (s.Index at x ∷ []) (index_fine at x f, tt))))

dotted_name_into : (d : ℕ) (n : Ident) → Into (Ranked 7 d) spell_expr (λ q. identifier n ++ q) (DottedNameWord d n)
unfolding DottedNameWord
dotted_name_into d n = into_either (dotted_into d (BelowWord d) (under_below d) n) (into_just (e.Name n) (tight 8 7 (e.Name n) (omega arith) (name_fine n)) (sym (spell-Name n)))

pub name_stmt_into : (d : ℕ) (S : Stmt → List Token → Type 0) → Inside d S → (t : Token) → is.id (class_of t) ≡ true → Into (StmtFine d) spell_stmt (λ q. identifier (ident t) ++ q) (NameStmtWord d S t)
unfolding NameStmtWord BracketStmtWord
name_stmt_into d S h t i =
    into_either (name_typed_into (typed_into d) t i)
    (into_either (into_split (into_seq (token the.open_bracket) (λ b j. bracket_typed_into (typed_into d) t i)) (into_seq (token_at the.open_bracket) (λ b j. indexed_into d S h (ident t) b.at)))
    (into_either (assigned_stmt_into d false (ident t) [] tt)
    (into_either (into_then (λ p q. refl) (message_into d aim.Own (ident t) own_aim) (λ m g. chain_into d S h m g))
    (into_then (λ p q. refl) (dotted_name_into d (ident t)) (λ x f. sent_into d S h x f)))))
