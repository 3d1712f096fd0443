-- Words of statements that count are their trees.
use Rattle.std.proofs.Common.{◌≡◌, inl, inr, ℕ, zero, suc, ◌≤◌, max, Bool, true, false, ◌&&◌, not, List, [], ◌∷◌, ◌++◌, map, Option, Some, None, option_map, refl, sym, ap, ◌∙◌, subst, append_assoc, append-nil, arith, rules}
use Rattle.sal_ast.specs.declared.expression.Expr.{Expr}
use Rattle.sal_ast.specs.declared.expression.Suffix.TheVariants as s
use Rattle.sal_ast.specs.declared.program.Ident.{Ident}
use Rattle.sal_ast.specs.declared.program.TypeName.{TypeName}
use Rattle.sal_ast.specs.declared.statement.Assign.{Assign}
use Rattle.sal_ast.specs.declared.statement.Declare.{Declare}
use Rattle.sal_ast.specs.declared.statement.ForInit.{ForInit}
use Rattle.sal_ast.specs.declared.statement.ForInit.TheVariants as init
use Rattle.sal_ast.specs.declared.statement.Stmt.{Stmt}
use Rattle.sal_ast.specs.declared.statement.Stmt.TheVariants as form
use Rattle.sal_ast.specs.Depth.{greatest, depth_expr, depth_init, depth_assign, depth_stmt}
use Rattle.sal_ast.specs.Depth as depth
use Rattle.sal_ast.specs.Regular.{Form, all_forms_regular, form_of, expr_is_regular, init_is_regular, option_is_regular, assign_is_regular}
use Rattle.sal_ast.specs.Regular as regular
use Rattle.sal_ast.specs.Spell.{TreeTokens, concat_tokens, sign, sign_at, word, word_at, identifier, spell_type, spell_expr, spell_option, spell_this, spell_index, spell_declare, spell_assign, spell_init, spell_header, spell_stmt, else_tokens}
use Rattle.sal_ast.specs.Spell as spell
use Rattle.sal_ast.proofs.DepthEquations.{depth-Block, depth-If, depth-While, depth-For}
use Rattle.sal_ast.proofs.RegularEquations.{regular-Block, regular-If, regular-While, regular-For}
use Rattle.sal_ast.proofs.SpellEquations.{spell-Block, spell-If, spell-While, spell-For}
use Rattle.sal_grammar.specs.Tokens.{Token, Lexemes, class_of}
use Rattle.sal_grammar.specs.Sets as is
use Rattle.sal_grammar.specs.Refusals.{Spells}
use Rattle.sal_grammar.specs.Expressions.{ident, type_of}
use Rattle.sal_grammar.specs.Statements.{one_less, index_in, indexes_of}
use Rattle.sal_grammar.proofs.Exactness.{differ}
use Rattle.sal_grammar.proofs.Languages.{Seq, One, Just, Either, Deep, Star, Guarded}
use Rattle.sal_grammar.proofs.ExpressionWords.{ExprWord}
use Rattle.sal_grammar.proofs.StatementWords.{NameWord, DeclareWord, AssignedWord, AssignRestWord, UntilSemicolonWord, AssignInitWord, TypedInitWord, BracketInitWord, NameInitWord, ForInitWord, AssignmentWord, ForNextWord, BlockWord, TestWord, OrElseWord, IfStmtWord, WhileStmtWord, ForStmtWord, NestedWord, takes_else}
use Rattle.sal_grammar.proofs.TreesTokens as the
use Rattle.sal_grammar.proofs.TreesTokens.{left_true, right_true, both_true}
use Rattle.sal_grammar.proofs.TreesSteps.{Gives, Into, Takes, Each, Fine, fine_each, each_fine, most, first_most, second_most, less, more, least, parts4, parts7, gives_by, into_seq, into_just, into_end, into_either, into_at, into_gives, into_then, into_none, into_map, into_split, token, token_at, name_token, take_seq, take_just, take_end, take_as, take_left, take_right, take_token, take_at, take_name}
use Rattle.sal_grammar.proofs.TreesLists.{Link}
use Rattle.sal_grammar.proofs.TreesOperators.{Ranked, regular_by}
use Rattle.sal_grammar.proofs.TreesParts.{IfThere, any_rank, option_regular, option_depth, option_parts}
use Rattle.sal_grammar.proofs.TreesSorts.{is_actor}
use Rattle.sal_grammar.proofs.TreesPostfix.{expr_link}
use Rattle.sal_grammar.proofs.TreesAssignments.{name_link, word_typed_into, name_typed_into, bracket_typed_into, word_typed_takes, actor_typed_takes, actor_bracket_takes, DeclareFine, declare_into, declare_takes, declare_spell, IndexFine, index_out, take_indexes, AssignFine, assigned_into, assigned_takes, assign_rest_into, assign_rest_takes, assign_spell, assign_indexes, assign_value}
use Rattle.sal_grammar.proofs.TreesChains.{StmtFine, Inside, stmt_by, stmt_good, stmt_depth, body_link, stmts_all}
use Rattle.sal_grammar.proofs.TreesVariables.{before1, before3}

pub into_guarded : {C P : Type 0} {G : C → Type 0} {R : C → TreeTokens} {before : TreeTokens → TreeTokens} {V : C → List Token → Type 0} → (P → Into G R before V) → Into G R before (Guarded P V)
into_guarded h = record { fact = λ c u hl w. (h w.fact).fact c u hl w.word; rest = λ c u hl w. (h w.fact).rest c u hl w.word }

pub take_guarded : {C P : Type 0} {V : C → List Token → Type 0} {c : C} {q : TreeTokens} → P → Takes V c q → Takes (Guarded P V) c q
take_guarded p x = record { word = λ u hl s. record { fact = p; word = x.word u hl s } }

-- ---- blocks

block_gives : {n : ℕ} {S : Stmt → List Token → Type 0} → Link S (StmtFine n) spell_stmt → Gives (BlockWord S) (StmtFine (suc n)) spell_stmt
unfolding BlockWord
block_gives l = gives_by (into_seq (token_at the.open_brace) (λ t h. into_end (form.Block t.at) (body_link l).gives
    (λ list f. let p = fine_each stmts_all list f in stmt_by (regular-Block t.at list) (depth-Block t.at list) p.good (more p.fits)) (λ list. sym (spell-Block t.at list))))

pub block_takes : {n : ℕ} {S : Stmt → List Token → Type 0} → Link S (StmtFine n) spell_stmt → (at : ℕ) (list : List Stmt) → StmtFine (suc n) (form.Block at list) → Takes (BlockWord S) (form.Block at list) (spell_stmt (form.Block at list))
unfolding BlockWord
block_takes l at list f =
    take_as (spell-Block at list) (take_at (λ z. form.Block z list) the.open_brace (λ t. take_end (form.Block t.at) list
    ((body_link l).takes list (each_fine stmts_all list (record { good = stmt_good (regular-Block at list) f; fits = less (stmt_depth (depth-Block at list) f) }))) refl))

-- ---- tests

test_link : (n : ℕ) → Link (TestWord n) (Ranked 0 n) (λ x. sign "(" ++ (spell_expr x ++ sign ")"))
test_link n = record {
  gives = gives_by (into_seq (token the.open_paren) (λ t h. into_seq (expr_link n).gives (λ x f. into_seq (token the.close_paren) (λ t2 h2. into_just x f refl))));
  takes = λ x f. take_token the.open_paren (λ t. take_seq x ((expr_link n).takes x f) (take_token the.close_paren (λ t2. take_just x refl)));
}

-- ---- `if`

if_spell : (at : ℕ) (x : Expr) (first : Stmt) (q : TreeTokens)
    → word_at "if" at ++ ((sign "(" ++ (spell_expr x ++ sign ")")) ++ (spell_stmt first ++ q)) ≡ word_at "if" at ++ sign "(" ++ spell_expr x ++ sign ")" ++ spell_stmt first ++ q
if_spell at x first q = ap (λ z. word_at "if" at ++ z) (before1 (sign "(" ++ (spell_expr x ++ sign ")")) (spell_stmt first) q)

if_none_fine : {n : ℕ} (at : ℕ) (x : Expr) (first : Stmt) → Ranked 0 n x → StmtFine n first → StmtFine (suc n) (form.If at x first None)
if_none_fine at x first f g =
    stmt_by (regular-If at x first None) (depth-If at x first None) (both_true (expr_is_regular x) (form_of first).regular (regular_by 0 f) g.good) (more (most f.fits (most g.fits least)))

if_some_fine : {n : ℕ} (at : ℕ) (x : Expr) (first other : Stmt) → Ranked 0 n x → StmtFine n first → takes_else first ≡ false → StmtFine n other → StmtFine (suc n) (form.If at x first (Some other))
if_some_fine at x first other f g h i =
    stmt_by (regular-If at x first (Some other)) (depth-If at x first (Some other))
    (both_true (expr_is_regular x && (form_of first).regular && not (takes_else first)) (form_of other).regular
    (both_true (expr_is_regular x && (form_of first).regular) (not (takes_else first)) (both_true (expr_is_regular x) (form_of first).regular (regular_by 0 f) g.good) (ap not h)) i.good)
    (more (most f.fits (most g.fits i.fits)))

if_gives : {n : ℕ} {S : Stmt → List Token → Type 0} → Link S (StmtFine n) spell_stmt → Gives (IfStmtWord n S) (StmtFine (suc n)) spell_stmt
unfolding IfStmtWord OrElseWord
if_gives {n = n} l = gives_by (into_seq (token_at the.if_word) (λ t h. into_seq (test_link n).gives (λ x f. into_seq l.gives (λ first g. into_either
    (into_guarded (λ e. into_seq (token the.else_word) (λ t2 h2. into_end (λ other. form.If t.at x first (Some other)) l.gives (λ other i. if_some_fine t.at x first other f g e i)
    (λ other. if_spell t.at x first (word "else" ++ spell_stmt other) ∙ sym (spell-If t.at x first (Some other))))))
    (into_just (form.If t.at x first None) (if_none_fine t.at x first f g) (if_spell t.at x first [] ∙ sym (spell-If t.at x first None)))))))

not_false : (b : Bool) → not b ≡ true → b ≡ false
not_false true h = sym h
not_false false h = refl

pub if_takes : {n : ℕ} {S : Stmt → List Token → Type 0} → Link S (StmtFine n) spell_stmt → (at : ℕ) (x : Expr) (first : Stmt) (second : Option Stmt) → StmtFine (suc n) (form.If at x first second)
    → Takes (IfStmtWord n S) (form.If at x first second) (spell_stmt (form.If at x first second))
unfolding IfStmtWord OrElseWord
if_takes {n = n} l at x first None f =
    let g = stmt_good (regular-If at x first None) f in
    let m = less (stmt_depth (depth-If at x first None) f) in
    take_as (spell-If at x first None ∙ sym (if_spell at x first []))
    (take_at (λ z. form.If z x first None) the.if_word (λ t. take_seq x ((test_link n).takes x (any_rank x (left_true (expr_is_regular x) (form_of first).regular g) (first_most (depth_expr x) (max (depth_stmt first) 0) m)))
    (take_seq first (l.takes first (record { good = right_true (expr_is_regular x) (form_of first).regular g; fits = first_most (depth_stmt first) 0 (second_most (depth_expr x) (max (depth_stmt first) 0) m) }))
    (take_right (take_just (form.If t.at x first None) refl)))))
if_takes {n = n} l at x first (Some other) f =
    let g = stmt_good (regular-If at x first (Some other)) f in
    let g1 = left_true (expr_is_regular x && (form_of first).regular && not (takes_else first)) (form_of other).regular g in
    let g2 = left_true (expr_is_regular x && (form_of first).regular) (not (takes_else first)) g1 in
    let m = less (stmt_depth (depth-If at x first (Some other)) f) in
    let m2 = second_most (depth_expr x) (max (depth_stmt first) (depth_stmt other)) m in
    take_as (spell-If at x first (Some other) ∙ sym (if_spell at x first (word "else" ++ spell_stmt other)))
    (take_at (λ z. form.If z x first (Some other)) the.if_word (λ t. take_seq x ((test_link n).takes x (any_rank x (left_true (expr_is_regular x) (form_of first).regular g2) (first_most (depth_expr x) (max (depth_stmt first) (depth_stmt other)) m)))
    (take_seq first (l.takes first (record { good = right_true (expr_is_regular x) (form_of first).regular g2; fits = first_most (depth_stmt first) (depth_stmt other) m2 }))
    (take_left (take_guarded (not_false (takes_else first) (right_true (expr_is_regular x && (form_of first).regular) (not (takes_else first)) g1))
    (take_token the.else_word (λ t2. take_end (λ z. form.If t.at x first (Some z)) other
    (l.takes other (record { good = right_true (expr_is_regular x && (form_of first).regular && not (takes_else first)) (form_of other).regular g; fits = second_most (depth_stmt first) (depth_stmt other) m2 })) refl)))))))

-- ---- `while`

while_spell : (at : ℕ) (x : Expr) (body : Stmt) → word_at "while" at ++ ((sign "(" ++ (spell_expr x ++ sign ")")) ++ spell_stmt body) ≡ spell_stmt (form.While at x body)
while_spell at x body = sym (spell-While at x body)

while_gives : {n : ℕ} {S : Stmt → List Token → Type 0} → Link S (StmtFine n) spell_stmt → Gives (WhileStmtWord n S) (StmtFine (suc n)) spell_stmt
unfolding WhileStmtWord
while_gives {n = n} l = gives_by (into_seq (token_at the.while_word) (λ t h. into_seq (test_link n).gives (λ x f. into_end (form.While t.at x) l.gives
    (λ body g. stmt_by (regular-While t.at x body) (depth-While t.at x body) (both_true (expr_is_regular x) (form_of body).regular (regular_by 0 f) g.good) (more (most f.fits g.fits)))
    (λ body. while_spell t.at x body))))

pub while_takes : {n : ℕ} {S : Stmt → List Token → Type 0} → Link S (StmtFine n) spell_stmt → (at : ℕ) (x : Expr) (body : Stmt) → StmtFine (suc n) (form.While at x body)
    → Takes (WhileStmtWord n S) (form.While at x body) (spell_stmt (form.While at x body))
unfolding WhileStmtWord
while_takes {n = n} l at x body f =
    let g = stmt_good (regular-While at x body) f in
    let m = less (stmt_depth (depth-While at x body) f) in
    take_as (sym (while_spell at x body)) (take_at (λ z. form.While z x body) the.while_word (λ t. take_seq x ((test_link n).takes x (any_rank x (left_true (expr_is_regular x) (form_of body).regular g) (first_most (depth_expr x) (depth_stmt body) m)))
    (take_end (form.While t.at x) body (l.takes body (record { good = right_true (expr_is_regular x) (form_of body).regular g; fits = second_most (depth_expr x) (depth_stmt body) m })) refl)))

-- ---- the parentheses of a `for`

abbrev pub InitFine : ℕ → ForInit → Type 0
InitFine d = Fine init_is_regular depth_init d

init_fine : {d : ℕ} (x : Declare) → DeclareFine d x → InitFine d (init.Declare x)
init_fine x f = record { good = f.good; fits = f.fits }

init_assign_fine : {d : ℕ} (a : Assign) → AssignFine d a → InitFine d (init.Assign a)
init_assign_fine a f = record { good = f.good; fits = f.fits }

abbrev init_pieces : ForInit → TreeTokens
init_pieces i = spell_init i ++ sign ";"

typed_init_into : (d : ℕ) (sort : TypeName) → Into (InitFine d) init_pieces (λ q. spell_type sort ++ q) (TypedInitWord d sort)
unfolding TypedInitWord
typed_init_into d sort = into_map init.Declare (declare_into d sort) (λ x f. init_fine x f) (λ x. refl)

assigned_init_into : (d : ℕ) (n : Ident) → Into (InitFine d) init_pieces (λ q. identifier n ++ q) (Seq (AssignedWord d false n []) (λ a. Seq (One is.semicolon) (λ _. Just (init.Assign a))))
assigned_init_into d n = into_then (λ p q. refl) (into_at (λ q. refl) (assigned_into d false n [] tt)) (λ a f. into_seq (token the.semicolon) (λ t h. into_just (init.Assign a) (init_assign_fine a f) refl))

own_init_into : (d : ℕ) (n : Ident) → Into (InitFine d) init_pieces (λ q. spell_this true ++ (identifier n ++ q)) (AssignInitWord d true n [])
unfolding AssignInitWord
own_init_into d n = into_then (λ p q. refl) (into_at (λ q. refl) (assign_rest_into d true n [] tt)) (λ a f. into_seq (token the.semicolon) (λ t h. into_just (init.Assign a) (init_assign_fine a f) refl))

first_index : (n : Ident) (at : ℕ) (x : Expr) (q : TreeTokens) → identifier n ++ (sign "[" ++ (spell_expr x ++ (sign "]" ++ q))) ≡ identifier n ++ (concat_tokens (map spell_index (indexes_of (s.Index at x ∷ []))) ++ q)
first_index n at x q =
    ap (λ z. identifier n ++ (sign "[" ++ z)) (sym (append_assoc (spell_expr x) (sign "]") q))
    ∙ ap (λ z. identifier n ++ (z ++ q)) (sym (append-nil (spell_index x)) ∙ ap (λ z. concat_tokens (map spell_index (z ++ []))) (sym (index_out at x)))

index_init_into : (d : ℕ) (n : Ident) (at : ℕ)
    → Into (InitFine d) init_pieces (λ q. identifier n ++ (sign "[" ++ q)) (Deep d (Seq (ExprWord (one_less d)) (λ x. Seq (One is.close_bracket) (λ _. AssignInitWord d false n (s.Index at x ∷ [])))))
unfolding AssignInitWord
index_init_into zero n at = into_none
index_init_into (suc m) n at = into_seq (expr_link m).gives (λ x f. into_seq (token the.close_bracket) (λ t h. into_then
    (λ p q. ap (λ z. identifier n ++ (sign "[" ++ z)) (sym (append_assoc (spell_expr x) (sign "]" ++ p) q)))
    (into_at (λ q. first_index n at x q) (assign_rest_into (suc m) false n (s.Index at x ∷ []) (subst (λ z. Each (IndexFine (suc m)) (z ++ [])) (sym (index_out at x)) (record { good = regular_by 0 f; fits = more f.fits }, tt))))
    (λ a g. into_seq (token the.semicolon) (λ t2 h2. into_just (init.Assign a) (init_assign_fine a g) refl))))

name_init_into : (d : ℕ) (t : Token) → is.id (class_of t) ≡ true → Into (InitFine d) init_pieces (λ q. identifier (ident t) ++ q) (NameInitWord d t)
unfolding NameInitWord BracketInitWord
name_init_into d t i =
    into_either (name_typed_into (typed_init_into d) t i)
    (into_either (into_seq (token the.open_bracket) (λ b j. into_either (bracket_typed_into (typed_init_into d) t i) (index_init_into d (ident t) b.at)))
    (assigned_init_into d (ident t)))

init_gives : (d : ℕ) → Gives (ForInitWord d) (InitFine d) init_pieces
unfolding ForInitWord
init_gives d = gives_by (into_either (into_seq name_token (λ t i. name_init_into d t i))
    (into_either (word_typed_into (typed_init_into d))
    (into_either (into_seq (token the.this) (λ t h. into_seq (token the.dot) (λ t2 h2. into_seq name_link.gives (λ n i. own_init_into d n))))
    (into_seq (token the.semicolon) (λ t h. into_just init.Nothing (record { good = refl; fits = least }) refl)))))

pub until_link : (d : ℕ) → Link (UntilSemicolonWord d) (IfThere (Ranked 0 d)) (λ x. spell_option x ++ sign ";")
unfolding UntilSemicolonWord
until_link d = record {
  gives = gives_by (into_either
      (into_seq (token the.semicolon) (λ t h. into_just None tt refl))
      (into_seq (expr_link d).gives (λ x f. into_seq (token the.semicolon) (λ t h. into_just (Some x) f refl))));
  takes = by;
}
  where
    by : (x : Option Expr) → IfThere (Ranked 0 d) x → Takes (UntilSemicolonWord d) x (spell_option x ++ sign ";")
    by None f = take_left (take_token the.semicolon (λ t. take_just None refl))
    by (Some x) f = take_right (take_seq x ((expr_link d).takes x f) (take_token the.semicolon (λ t. take_just (Some x) refl)))

assignment_gives : (d : ℕ) → Gives (AssignmentWord d) (AssignFine d) spell_assign
unfolding AssignmentWord
assignment_gives d = gives_by (into_either
    (into_seq (token the.this) (λ t h. into_seq (token the.dot) (λ t2 h2. into_seq name_link.gives (λ n i. into_at (λ q. refl) (assign_rest_into d true n [] tt)))))
    (into_seq name_link.gives (λ n i. into_at (λ q. refl) (assign_rest_into d false n [] tt))))

assignment_by : (d : ℕ) (own : Bool) (a : Assign) → a.own ≡ own → AssignFine d a → Takes (AssignmentWord d) a (spell_assign a)
unfolding AssignmentWord
assignment_by d true a e f =
    take_as (assign_spell a ∙ ap (λ z. spell_this z ++ (identifier a.name ++ (concat_tokens (map spell_index a.indexes) ++ (sign "=" ++ spell_expr a.value)))) e)
    (take_left (take_token the.this (λ t. take_token the.dot (λ t2. take_seq a.name (name_link.takes a.name tt)
    (subst (λ z. Takes (AssignRestWord d z a.name []) a (concat_tokens (map spell_index a.indexes) ++ (sign "=" ++ spell_expr a.value))) e (assign_rest_takes d a f))))))
assignment_by d false a e f =
    take_as (assign_spell a ∙ ap (λ z. spell_this z ++ (identifier a.name ++ (concat_tokens (map spell_index a.indexes) ++ (sign "=" ++ spell_expr a.value)))) e)
    (take_right (take_seq a.name (name_link.takes a.name tt)
    (subst (λ z. Takes (AssignRestWord d z a.name []) a (concat_tokens (map spell_index a.indexes) ++ (sign "=" ++ spell_expr a.value))) e (assign_rest_takes d a f))))

abbrev next_pieces : Option Assign → TreeTokens
next_pieces a = spell.or_no_tokens (option_map spell_assign a) ++ sign ")"

pub next_link : (d : ℕ) → Link (ForNextWord d) (IfThere (AssignFine d)) next_pieces
unfolding ForNextWord
next_link d = record {
  gives = gives_by (into_either
      (into_seq (token the.close_paren) (λ t h. into_just None tt refl))
      (into_seq (assignment_gives d) (λ a f. into_seq (token the.close_paren) (λ t h. into_just (Some a) f refl))));
  takes = by;
}
  where
    by : (a : Option Assign) → IfThere (AssignFine d) a → Takes (ForNextWord d) a (next_pieces a)
    by None f = take_left (take_token the.close_paren (λ t. take_just None refl))
    by (Some a) f = take_right (take_seq a (assignment_by d a.own a refl f) (take_token the.close_paren (λ t. take_just (Some a) refl)))

grouped : (i a t b n c z : TreeTokens) → (i ++ a) ++ ((t ++ b) ++ ((n ++ c) ++ z)) ≡ i ++ a ++ t ++ b ++ n ++ c ++ z
grouped i a t b n c z =
    append_assoc i a ((t ++ b) ++ ((n ++ c) ++ z)) ∙ (ap (λ y. i ++ (a ++ y)) (append_assoc t b ((n ++ c) ++ z) ∙ ap (λ y. t ++ (b ++ y)) (append_assoc n c z)) ∙ sym (parts7 i a t b n c z))

pub for_spell : (at : ℕ) (first : ForInit) (x : Option Expr) (next : Option Assign) (body : Stmt)
    → word_at "for" at ++ (sign "(" ++ (init_pieces first ++ ((spell_option x ++ sign ";") ++ (next_pieces next ++ spell_stmt body)))) ≡ spell_stmt (form.For at first x next body)
unfolding spell_header
for_spell at first x next body =
    ap (λ z. word_at "for" at ++ (sign "(" ++ z)) (grouped (spell_init first) (sign ";") (spell_option x) (sign ";") (spell.or_no_tokens (option_map spell_assign next)) (sign ")") (spell_stmt body))
    ∙ (for_left at (spell_init first) (spell_option x) (spell.or_no_tokens (option_map spell_assign next)) (spell_stmt body) ∙ sym (spell-For at first x next body))
  where
    for_left : (at : ℕ) (i t n b : TreeTokens) → word_at "for" at ++ (sign "(" ++ (i ++ sign ";" ++ t ++ sign ";" ++ n ++ sign ")" ++ b)) ≡ word_at "for" at ++ (sign "(" ++ i ++ sign ";" ++ t ++ sign ";" ++ n ++ sign ")") ++ b
    for_left at i t n b = refl

next_regular : (d : ℕ) (a : Option Assign) → IfThere (AssignFine d) a → regular.or_true (option_map assign_is_regular a) ≡ true
next_regular d None f = refl
next_regular d (Some a) f = f.good

next_depth : (d : ℕ) (a : Option Assign) → IfThere (AssignFine d) a → depth.or_zero (option_map depth_assign a) ≤ d
next_depth d None f = least
next_depth d (Some a) f = f.fits

pub next_parts : (d : ℕ) (a : Option Assign) → regular.or_true (option_map assign_is_regular a) ≡ true → depth.or_zero (option_map depth_assign a) ≤ d → IfThere (AssignFine d) a
next_parts d None r l = tt
next_parts d (Some a) r l = record { good = r; fits = l }

for_fine : {n : ℕ} (at : ℕ) (first : ForInit) (x : Option Expr) (next : Option Assign) (body : Stmt) → InitFine n first → IfThere (Ranked 0 n) x → IfThere (AssignFine n) next → StmtFine n body
    → StmtFine (suc n) (form.For at first x next body)
for_fine {n = n} at first x next body f g h i =
    stmt_by (regular-For at first x next body) (depth-For at first x next body)
    (both_true (init_is_regular first && option_is_regular x && regular.or_true (option_map assign_is_regular next)) (form_of body).regular
    (both_true (init_is_regular first && option_is_regular x) (regular.or_true (option_map assign_is_regular next)) (both_true (init_is_regular first) (option_is_regular x) f.good (option_regular n x g)) (next_regular n next h)) i.good)
    (more (most (most f.fits (option_depth x g)) (most (next_depth n next h) i.fits)))

for_gives : {n : ℕ} {S : Stmt → List Token → Type 0} → Link S (StmtFine n) spell_stmt → Gives (ForStmtWord n S) (StmtFine (suc n)) spell_stmt
unfolding ForStmtWord
for_gives {n = n} l = gives_by (into_seq (token_at the.for_word) (λ t h. into_seq (token the.open_paren) (λ t2 h2. into_seq (init_gives n) (λ first f. into_seq (until_link n).gives (λ x g. into_seq (next_link n).gives (λ next i.
    into_end (form.For t.at first x next) l.gives (λ body j. for_fine t.at first x next body f g i j) (λ body. for_spell t.at first x next body)))))))

pub nested_gives : {n : ℕ} {S : Stmt → List Token → Type 0} → Link S (StmtFine n) spell_stmt → Gives (NestedWord n S) (StmtFine (suc n)) spell_stmt
unfolding NestedWord
nested_gives l = gives_by (into_either (into_gives (block_gives l) (λ x f. f) (λ x. refl)) (into_either (into_gives (if_gives l) (λ x f. f) (λ x. refl))
    (into_either (into_gives (while_gives l) (λ x f. f) (λ x. refl)) (into_gives (for_gives l) (λ x f. f) (λ x. refl)))))

-- ---- the first part of a `for`, and back

pub typed_init_takes : (d : ℕ) (x : Declare) → DeclareFine d x → Takes (TypedInitWord d x.sort) (init.Declare x) (identifier x.name ++ (spell.spell_value x.init ++ sign ";"))
unfolding TypedInitWord
typed_init_takes d x f = take_end init.Declare x (declare_takes d x f) refl
