-- Trees of statements that count are their words.
use Rattle.std.proofs.Common.{◌≡◌, inl, inr, ℕ, zero, suc, ◌≤◌, max, Bool, true, false, ◌&&◌, List, [], ◌∷◌, ◌++◌, map, Option, Some, None, option_map, refl, sym, ap, ◌∙◌, subst, append_assoc, append-nil, arith}
use Rattle.sal_ast.specs.declared.expression.Expr.{Expr}
use Rattle.sal_ast.specs.declared.expression.Suffix.{Suffix}
use Rattle.sal_ast.specs.declared.expression.Suffix.TheVariants as s
use Rattle.sal_ast.specs.declared.program.Ident.{Ident}
use Rattle.sal_ast.specs.declared.program.TypeName.{TypeName}
use Rattle.sal_ast.specs.declared.statement.Assign.{Assign}
use Rattle.sal_ast.specs.declared.statement.Declare.{Declare}
use Rattle.sal_ast.specs.declared.statement.ForInit.{ForInit}
use Rattle.sal_ast.specs.declared.statement.ForInit.TheVariants as init
use Rattle.sal_ast.specs.declared.statement.Stmt.{Stmt}
use Rattle.sal_ast.specs.declared.statement.Stmt.TheVariants as form
use Rattle.sal_ast.specs.Depth.{depth_expr, depth_init, depth_assign, depth_stmt}
use Rattle.sal_ast.specs.Depth as depth
use Rattle.sal_ast.specs.Regular.{form_of, init_is_regular, option_is_regular, assign_is_regular}
use Rattle.sal_ast.specs.Regular as regular
use Rattle.sal_ast.specs.Spell.{TreeTokens, concat_tokens, sign, identifier, spell_type, spell_expr, spell_option, spell_this, spell_index, spell_value, spell_declare, spell_assign, spell_init, spell_stmt}
use Rattle.sal_ast.proofs.DepthEquations.{depth-For}
use Rattle.sal_ast.proofs.RegularEquations.{regular-For}
use Rattle.sal_grammar.specs.Tokens.{Token, class_of}
use Rattle.sal_grammar.specs.Sets as is
use Rattle.sal_grammar.specs.Expressions.{ident, type_of}
use Rattle.sal_grammar.specs.Statements.{one_less, indexes_of}
use Rattle.sal_grammar.proofs.Languages.{Seq, One, Just, Either, Deep, Star}
use Rattle.sal_grammar.proofs.ExpressionWords.{ExprWord}
use Rattle.sal_grammar.proofs.StatementWords.{AssignRestWord, AssignInitWord, TypedInitWord, BracketInitWord, NameInitWord, ForInitWord, ForStmtWord, NestedWord}
use Rattle.sal_grammar.proofs.TreesTokens as the
use Rattle.sal_grammar.proofs.TreesTokens.{left_true, right_true}
use Rattle.sal_grammar.proofs.TreesSteps.{Takes, Each, Fine, first_most, second_most, less, not_less, take_seq, take_just, take_end, take_as, take_left, take_right, take_token, take_at, take_name}
use Rattle.sal_grammar.proofs.TreesLists.{Link}
use Rattle.sal_grammar.proofs.TreesOperators.{Ranked}
use Rattle.sal_grammar.proofs.TreesParts.{any_rank, option_parts}
use Rattle.sal_grammar.proofs.TreesSorts.{is_actor}
use Rattle.sal_grammar.proofs.TreesPostfix.{expr_link}
use Rattle.sal_grammar.proofs.TreesAssignments.{name_link, word_typed_takes, actor_typed_takes, actor_bracket_takes, DeclareFine, declare_spell, IndexFine, index_out, indexes_append, take_indexes, AssignFine, assigned_takes, assign_rest_takes, assign_spell, assign_indexes}
use Rattle.sal_grammar.proofs.TreesChains.{StmtFine, stmt_good, stmt_depth}
use Rattle.sal_grammar.proofs.TreesNests.{InitFine, block_takes, if_takes, while_takes, typed_init_takes, until_link, next_link, next_parts, for_spell}

-- ---- types, by their first token and their brackets

pub positive : (n : ℕ) (m : ℕ) → n ≡ suc m → 1 ≤ n
positive n m e = omega (arith, e)

declare_init : (d : ℕ) (x : Declare) → DeclareFine d x → (b : Bool) → is_actor x.sort.base ≡ b → (n : ℕ) → x.sort.dims ≡ n → Takes (ForInitWord d) (init.Declare x) (spell_declare x ++ sign ";")
unfolding ForInitWord NameInitWord BracketInitWord
declare_init d x f false h n e = take_as (declare_spell x) (take_right (take_left (word_typed_takes (λ z. TypedInitWord d z) x.sort h (typed_init_takes d x f))))
declare_init d x f true h zero e = take_as (declare_spell x) (take_left (actor_typed_takes (λ z. TypedInitWord d z) x.sort h e (typed_init_takes d x f) (λ t y. take_left y)))
declare_init d x f true h (suc m) e =
    take_as (declare_spell x) (take_left (actor_bracket_takes (λ z. TypedInitWord d z) x.sort h (positive x.sort.dims m e) (typed_init_takes d x f)
    (λ t y. take_right (take_left (take_token the.open_bracket (λ b. take_left y))))))

-- ---- assignments

-- an assignment with its semicolon
pub assign_end : (a : Assign) → spell_assign a ++ sign ";" ≡ spell_this a.own ++ (identifier a.name ++ ((concat_tokens (map spell_index a.indexes) ++ (sign "=" ++ spell_expr a.value)) ++ sign ";"))
assign_end a =
    ap (λ z. z ++ sign ";") (assign_spell a) ∙ (append_assoc (spell_this a.own) (identifier a.name ++ (concat_tokens (map spell_index a.indexes) ++ (sign "=" ++ spell_expr a.value))) (sign ";")
    ∙ ap (λ z. spell_this a.own ++ z) (append_assoc (identifier a.name) (concat_tokens (map spell_index a.indexes) ++ (sign "=" ++ spell_expr a.value)) (sign ";")))

-- the same behind the first index
pub index_end : (x : Expr) (xs : List Expr) (v : TreeTokens)
    → (concat_tokens (map spell_index (x ∷ xs)) ++ v) ++ sign ";" ≡ sign "[" ++ (spell_expr x ++ (sign "]" ++ (concat_tokens (map spell_index xs) ++ (v ++ sign ";"))))
index_end x xs v =
    append_assoc (concat_tokens (map spell_index (x ∷ xs))) v (sign ";") ∙ (append_assoc (spell_index x) (concat_tokens (map spell_index xs)) (v ++ sign ";")
    ∙ ap (λ z. sign "[" ++ z) (append_assoc (spell_expr x) (sign "]") (concat_tokens (map spell_index xs) ++ (v ++ sign ";"))))

pub found_same : (at : ℕ) (x : Expr) (xs : List Expr) (os : List Suffix) → indexes_of os ≡ xs → indexes_of ((s.Index at x ∷ []) ++ os) ≡ x ∷ xs
found_same at x xs os e = ap (λ z. z ++ indexes_of os) (index_out at x) ∙ ap (λ z. x ∷ z) e

rest_init : (d : ℕ) (n : Ident) (at : ℕ) (x : Expr) (xs : List Expr) (v : Expr) → AssignFine d (record { own = false; name = n; indexes = x ∷ xs; value = v }) → Each (IndexFine d) xs
    → Takes (AssignInitWord d false n (s.Index at x ∷ [])) (init.Assign (record { own = false; name = n; indexes = x ∷ xs; value = v })) ((concat_tokens (map spell_index xs) ++ (sign "=" ++ spell_expr v)) ++ sign ";")
unfolding AssignInitWord AssignRestWord
rest_init d n at x xs v f g =
    take_seq (record { own = false; name = n; indexes = x ∷ xs; value = v })
    (take_indexes d xs g (λ os e p. assigned_takes d ((s.Index at x ∷ []) ++ os) (record { own = false; name = n; indexes = x ∷ xs; value = v }) (found_same at x xs os e) f))
    (take_token the.semicolon (λ t. take_just (init.Assign (record { own = false; name = n; indexes = x ∷ xs; value = v })) refl))

pub rest_end : (xs : List Expr) (v : TreeTokens) → concat_tokens (map spell_index xs) ++ (v ++ sign ";") ≡ (concat_tokens (map spell_index xs) ++ v) ++ sign ";"
rest_end xs v = sym (append_assoc (concat_tokens (map spell_index xs)) v (sign ";"))

index_init : (d : ℕ) (n : Ident) (at : ℕ) (x : Expr) (xs : List Expr) (v : Expr) → AssignFine d (record { own = false; name = n; indexes = x ∷ xs; value = v })
    → Takes (Deep d (Seq (ExprWord (one_less d)) (λ y. Seq (One is.close_bracket) (λ _. AssignInitWord d false n (s.Index at y ∷ []))))) (init.Assign (record { own = false; name = n; indexes = x ∷ xs; value = v }))
    (spell_expr x ++ (sign "]" ++ (concat_tokens (map spell_index xs) ++ ((sign "=" ++ spell_expr v) ++ sign ";"))))
index_init zero n at x xs v f = absurd (not_less ((assign_indexes 0 (record { own = false; name = n; indexes = x ∷ xs; value = v }) f).0.fits))
index_init (suc m) n at x xs v f =
    let g = assign_indexes (suc m) (record { own = false; name = n; indexes = x ∷ xs; value = v }) f in
    take_seq x ((expr_link m).takes x (any_rank x g.0.good (less g.0.fits))) (take_token the.close_bracket (λ t. take_as (rest_end xs (sign "=" ++ spell_expr v)) (rest_init (suc m) n at x xs v f g.1)))

assign_init_by : (d : ℕ) (own : Bool) (n : Ident) (xs : List Expr) (v : Expr) → AssignFine d (record { own = own; name = n; indexes = xs; value = v })
    → Takes (ForInitWord d) (init.Assign (record { own = own; name = n; indexes = xs; value = v })) (spell_assign (record { own = own; name = n; indexes = xs; value = v }) ++ sign ";")
unfolding ForInitWord NameInitWord BracketInitWord AssignInitWord
assign_init_by d true n xs v f =
    let a : Assign = record { own = true; name = n; indexes = xs; value = v } in
    take_as (assign_end a) (take_right (take_right (take_left (take_token the.this (λ t. take_token the.dot (λ t2. take_seq n (name_link.takes n tt)
    (take_seq a (assign_rest_takes d a f) (take_token the.semicolon (λ t3. take_just (init.Assign a) refl)))))))))
assign_init_by d false n [] v f =
    let a : Assign = record { own = false; name = n; indexes = []; value = v } in
    take_as (assign_end a) (take_left (take_name (λ z. init.Assign (record { own = false; name = z; indexes = []; value = v })) (λ t i. take_right (take_right
    (take_seq (record { own = false; name = ident t; indexes = []; value = v }) (assigned_takes d [] (record { own = false; name = ident t; indexes = []; value = v }) refl (record { good = f.good; fits = f.fits }))
    (take_token the.semicolon (λ t3. take_just (init.Assign (record { own = false; name = ident t; indexes = []; value = v })) refl)))))))
assign_init_by d false n (x ∷ xs) v f =
    let a : Assign = record { own = false; name = n; indexes = x ∷ xs; value = v } in
    take_as (assign_end a ∙ ap (λ z. identifier n ++ z) (index_end x xs (sign "=" ++ spell_expr v)))
    (take_left (take_name (λ z. init.Assign (record { own = false; name = z; indexes = x ∷ xs; value = v })) (λ t i. take_right (take_left (take_token the.open_bracket (λ b. take_right
    (index_init d (ident t) b.at x xs v (record { good = f.good; fits = f.fits }))))))))

init_takes : (d : ℕ) (i : ForInit) → InitFine d i → Takes (ForInitWord d) i (spell_init i ++ sign ";")
unfolding ForInitWord
init_takes d init.Nothing f = take_right (take_right (take_right (take_token the.semicolon (λ t. take_just init.Nothing refl))))
init_takes d (init.Declare x) f = declare_init d x (record { good = f.good; fits = f.fits }) (is_actor x.sort.base) refl x.sort.dims refl
init_takes d (init.Assign a) f = assign_init_by d a.own a.name a.indexes a.value (record { good = f.good; fits = f.fits })

-- ---- `for`

for_takes : {n : ℕ} {S : Stmt → List Token → Type 0} → Link S (StmtFine n) spell_stmt → (at : ℕ) (first : ForInit) (x : Option Expr) (next : Option Assign) (body : Stmt) → StmtFine (suc n) (form.For at first x next body)
    → Takes (ForStmtWord n S) (form.For at first x next body) (spell_stmt (form.For at first x next body))
unfolding ForStmtWord
for_takes {n = n} l at first x next body f =
    let g = stmt_good (regular-For at first x next body) f in
    let m = less (stmt_depth (depth-For at first x next body) f) in
    let g1 = left_true (init_is_regular first && option_is_regular x && regular.or_true (option_map assign_is_regular next)) (form_of body).regular g in
    let g2 = left_true (init_is_regular first && option_is_regular x) (regular.or_true (option_map assign_is_regular next)) g1 in
    let m1 = first_most (max (depth_init first) (depth.or_zero (option_map depth_expr x))) (max (depth.or_zero (option_map depth_assign next)) (depth_stmt body)) m in
    let m2 = second_most (max (depth_init first) (depth.or_zero (option_map depth_expr x))) (max (depth.or_zero (option_map depth_assign next)) (depth_stmt body)) m in
    take_as (sym (for_spell at first x next body)) (take_at (λ z. form.For z first x next body) the.for_word (λ t. take_token the.open_paren (λ t2.
    take_seq first (init_takes n first (record { good = left_true (init_is_regular first) (option_is_regular x) g2; fits = first_most (depth_init first) (depth.or_zero (option_map depth_expr x)) m1 }))
    (take_seq x ((until_link n).takes x (option_parts x (right_true (init_is_regular first) (option_is_regular x) g2) (second_most (depth_init first) (depth.or_zero (option_map depth_expr x)) m1)))
    (take_seq next ((next_link n).takes next (next_parts n next (right_true (init_is_regular first && option_is_regular x) (regular.or_true (option_map assign_is_regular next)) g1) (first_most (depth.or_zero (option_map depth_assign next)) (depth_stmt body) m2)))
    (take_end (form.For t.at first x next) body (l.takes body (record { good = right_true (init_is_regular first && option_is_regular x && regular.or_true (option_map assign_is_regular next)) (form_of body).regular g; fits = second_most (depth.or_zero (option_map depth_assign next)) (depth_stmt body) m2 })) refl))))))

-- ---- statements that count

pub block_nest : {n : ℕ} {S : Stmt → List Token → Type 0} → Link S (StmtFine n) spell_stmt → (at : ℕ) (list : List Stmt) → StmtFine (suc n) (form.Block at list) → Takes (NestedWord n S) (form.Block at list) (spell_stmt (form.Block at list))
unfolding NestedWord
block_nest l at list f = take_left (block_takes l at list f)

pub if_nest : {n : ℕ} {S : Stmt → List Token → Type 0} → Link S (StmtFine n) spell_stmt → (at : ℕ) (x : Expr) (first : Stmt) (second : Option Stmt) → StmtFine (suc n) (form.If at x first second)
    → Takes (NestedWord n S) (form.If at x first second) (spell_stmt (form.If at x first second))
unfolding NestedWord
if_nest l at x first second f = take_right (take_left (if_takes l at x first second f))

pub while_nest : {n : ℕ} {S : Stmt → List Token → Type 0} → Link S (StmtFine n) spell_stmt → (at : ℕ) (x : Expr) (body : Stmt) → StmtFine (suc n) (form.While at x body)
    → Takes (NestedWord n S) (form.While at x body) (spell_stmt (form.While at x body))
unfolding NestedWord
while_nest l at x body f = take_right (take_right (take_left (while_takes l at x body f)))

pub for_nest : {n : ℕ} {S : Stmt → List Token → Type 0} → Link S (StmtFine n) spell_stmt → (at : ℕ) (first : ForInit) (x : Option Expr) (next : Option Assign) (body : Stmt) → StmtFine (suc n) (form.For at first x next body)
    → Takes (NestedWord n S) (form.For at first x next body) (spell_stmt (form.For at first x next body))
unfolding NestedWord
for_nest l at first x next body f = take_right (take_right (take_right (for_takes l at first x next body f)))
