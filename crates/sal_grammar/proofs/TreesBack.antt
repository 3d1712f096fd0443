-- Trees of statements are their words.
use Rattle.std.proofs.Common.{◌≡◌, inl, inr, ℕ, zero, suc, ◌≤◌, Bool, true, false, List, [], ◌∷◌, ◌++◌, map, Option, Some, None, refl, sym, ap, ◌∙◌, subst, append_assoc, append-nil, arith, rules}
use Rattle.sal_ast.specs.declared.expression.Expr.{Expr}
use Rattle.sal_ast.specs.declared.expression.Expr.TheVariants as e
use Rattle.sal_ast.specs.declared.expression.Suffix.{Suffix, out-Suffix}
use Rattle.sal_ast.specs.declared.expression.Suffix.TheVariants as s
use Rattle.sal_ast.specs.declared.program.Ident.{Ident}
use Rattle.sal_ast.specs.declared.statement.Aim.{Aim}
use Rattle.sal_ast.specs.declared.statement.Aim.TheVariants as aim
use Rattle.sal_ast.specs.declared.statement.Arg.{Arg}
use Rattle.sal_ast.specs.declared.statement.Assign.{Assign}
use Rattle.sal_ast.specs.declared.statement.Chain.{Chain, roll-Chain}
use Rattle.sal_ast.specs.declared.statement.Declare.{Declare}
use Rattle.sal_ast.specs.declared.statement.Property.{Property}
use Rattle.sal_ast.specs.declared.statement.Send.{Send}
use Rattle.sal_ast.specs.declared.statement.Stage.{Stage, out-Stage, roll-Stage, the_lemmas}
use Rattle.sal_ast.specs.declared.statement.Stage.TheOpen.{Stage-F, Stmt-F}
use Rattle.sal_ast.specs.declared.statement.Stage.TheVariants as g
use Rattle.sal_ast.specs.declared.statement.Stmt.{Stmt, out-Stmt, roll-Stmt}
use Rattle.sal_ast.specs.declared.statement.Stmt.TheVariants as form
use Rattle.sal_ast.specs.Regular.{chain_is_regular}
use Rattle.sal_ast.specs.Depth.{depth_chain}
use Rattle.sal_ast.specs.Spell.{TreeTokens, concat_tokens, each_after_sign, separated_tokens, sign, identifier, spell_this, spell_expr, spell_index, spell_arg, spell_property, spell_stage, spell_stmt, spell_continuation}
use Rattle.sal_ast.proofs.DepthEquations.{depth-Join, depth-Declare, depth-Assign, depth-Return, depth-Token, depth-Chain, depth-Block, depth-If, depth-While, depth-For}
use Rattle.sal_ast.proofs.RegularEquations.{regular-Declare, regular-Assign, regular-Return, regular-Token, regular-Chain}
use Rattle.sal_ast.proofs.SpellEquations.{spell-Empty, spell-Declare, spell-Assign, spell-Return}
use Rattle.sal_grammar.specs.Tokens.{Token, Lexemes, class_of, next}
use Rattle.sal_grammar.specs.Sets as is
use Rattle.sal_grammar.specs.Refusals.{Spells}
use Rattle.sal_grammar.specs.Expressions.{ident, suffixed}
use Rattle.sal_grammar.specs.Statements.{one_less, index_in, indexes_of, has_index, all_indexes, is_own, variable, chain}
use Rattle.sal_grammar.proofs.Exactness.{differ}
use Rattle.sal_grammar.proofs.Languages.{Seq, One, Just, Either, Empty, Deep, Star, Twice, Unless}
use Rattle.sal_grammar.proofs.ExpressionWords.{ExprWord, IndexWord, SizeWord, SuffixWord, SuffixesWord, WithSuffixesWord, AfterDotWord, AfterNameWord, OwnWord, OtherPostfixWord, PostfixWord}
use Rattle.sal_grammar.proofs.StatementWords.{BelowWord, NameWord, SendToWord, OutputWord, JoinWord, ChainStmtWord, SentStmtWord, AssignedStmtWord, AssignOrSendWord, AfterVariableWord, ThisStmtWord, IndexedStmtWord, TypedStmtWord, BracketStmtWord, DottedNameWord, NameStmtWord, NestedWord, OtherChainWord, ReturnStmtWord, StmtByWord, StmtWord}
use Rattle.sal_grammar.proofs.TreesTokens as the
use Rattle.sal_grammar.proofs.TreesTokens.{both_true}
use Rattle.sal_grammar.proofs.TreesSteps.{Takes, Each, Fine, less, not_less, cut, lexemes_left, lexemes_right, take_seq, take_just, take_end, take_as, take_left, take_right, take_token, take_at, take_name}
use Rattle.sal_grammar.proofs.TreesLists.{Link}
use Rattle.sal_grammar.proofs.TreesParts.{any_rank, option_parts}
use Rattle.sal_grammar.proofs.TreesSorts.{is_actor}
use Rattle.sal_grammar.proofs.TreesPostfix.{expr_link, postfix_link}
use Rattle.sal_grammar.proofs.TreesAssignments.{under_below, name_link, word_typed_takes, actor_typed_takes, actor_bracket_takes, DeclareFine, declare_spell, IndexFine, index_out, take_suffixes, AssignFine, assigned_takes, assign_indexes}
use Rattle.sal_grammar.proofs.TreesMessages.{StageFine, message_fine, message_aim, message_args, message_properties, message_spell, message_takes, sent, sent_spell, send_takes}
use Rattle.sal_grammar.proofs.TreesChains.{StmtFine, Inside, stmt_good, stmt_depth, join_takes, actor_parts, output_aim, rolled_stage, chain_parts, no_chain, chain_spell, chain_takes, token_takes}
use Rattle.sal_grammar.proofs.TreesVariables.{typed_takes}
use Rattle.sal_grammar.proofs.TreesNests.{until_link}
use Rattle.sal_grammar.proofs.TreesNested.{positive, assign_end, index_end, found_same, rest_end, block_nest, if_nest, while_nest, for_nest}
use Rattle.sal_grammar.proofs.TreesStatements.{stmt_by_gives}

-- ---- declarations

declare_by : (d : ℕ) (S : Stmt → List Token → Type 0) (x : Declare) → DeclareFine d x → (b : Bool) → is_actor x.sort.base ≡ b → (n : ℕ) → x.sort.dims ≡ n → Takes (StmtByWord d S) (form.Declare x) (spell_stmt (form.Declare x))
unfolding StmtByWord NameStmtWord BracketStmtWord
declare_by d S x f false h n i = take_as (spell-Declare x ∙ declare_spell x) (take_right (take_right (take_left (word_typed_takes (λ z. TypedStmtWord d z) x.sort h (typed_takes d x f)))))
declare_by d S x f true h zero i = take_as (spell-Declare x ∙ declare_spell x) (take_left (actor_typed_takes (λ z. TypedStmtWord d z) x.sort h i (typed_takes d x f) (λ t y. take_left y)))
declare_by d S x f true h (suc m) i =
    take_as (spell-Declare x ∙ declare_spell x) (take_left (actor_bracket_takes (λ z. TypedStmtWord d z) x.sort h (positive x.sort.dims m i) (typed_takes d x f)
    (λ t y. take_right (take_left (take_token the.open_bracket (λ b. take_left y))))))

-- ---- assignments

assigned_word : (d : ℕ) (own : Bool) (n : Ident) (os : List Suffix) (xs : List Expr) (v : Expr) → indexes_of os ≡ xs → AssignFine d (record { own = own; name = n; indexes = xs; value = v })
    → Takes (AssignedStmtWord d own n os) (form.Assign (record { own = own; name = n; indexes = xs; value = v })) ((sign "=" ++ spell_expr v) ++ sign ";")
unfolding AssignedStmtWord
assigned_word d own n os xs v i f =
    take_seq (record { own = own; name = n; indexes = xs; value = v }) (assigned_takes d os (record { own = own; name = n; indexes = xs; value = v }) i f)
    (take_token the.semicolon (λ t. take_just (form.Assign (record { own = own; name = n; indexes = xs; value = v })) refl))

or_send : (d : ℕ) (S : Stmt → List Token → Type 0) (at : Option ℕ) (n : Ident) (os : List Suffix) (xs : List Expr) (v : Expr) → indexes_of os ≡ xs → all_indexes os ≡ true
    → AssignFine d (record { own = is_own at; name = n; indexes = xs; value = v })
    → Takes (AssignOrSendWord d S at n os (all_indexes os)) (form.Assign (record { own = is_own at; name = n; indexes = xs; value = v })) ((sign "=" ++ spell_expr v) ++ sign ";")
or_send d S at n os xs v i p f =
    subst (λ b. Takes (AssignOrSendWord d S at n os b) (form.Assign (record { own = is_own at; name = n; indexes = xs; value = v })) ((sign "=" ++ spell_expr v) ++ sign ";")) (sym p)
    (take_left (assigned_word d (is_own at) n os xs v i f))

indexed_word : (d : ℕ) (S : Stmt → List Token → Type 0) (n : Ident) (at : ℕ) (x : Expr) (xs : List Expr) (v : Expr) → AssignFine d (record { own = false; name = n; indexes = x ∷ xs; value = v })
    → Takes (Deep d (IndexedStmtWord d S n at)) (form.Assign (record { own = false; name = n; indexes = x ∷ xs; value = v })) (spell_expr x ++ (sign "]" ++ (concat_tokens (map spell_index xs) ++ ((sign "=" ++ spell_expr v) ++ sign ";"))))
unfolding IndexedStmtWord AfterVariableWord
indexed_word zero S n at x xs v f = absurd (not_less ((assign_indexes 0 (record { own = false; name = n; indexes = x ∷ xs; value = v }) f).0.fits))
indexed_word (suc m) S n at x xs v f =
    let i = assign_indexes (suc m) (record { own = false; name = n; indexes = x ∷ xs; value = v }) f in
    take_seq x ((expr_link m).takes x (any_rank x i.0.good (less i.0.fits))) (take_token the.close_bracket (λ t. take_suffixes (suc m) xs i.1 (λ os j p.
    or_send (suc m) S None n ((s.Index at x ∷ []) ++ os) (x ∷ xs) v (found_same at x xs os j) (both_true (has_index (index_in (out-Suffix (s.Index at x)))) (all_indexes os) (ap has_index (index_out at x)) p) f)))

assign_by : (d : ℕ) (S : Stmt → List Token → Type 0) (own : Bool) (n : Ident) (xs : List Expr) (v : Expr) → AssignFine d (record { own = own; name = n; indexes = xs; value = v })
    → Takes (StmtByWord d S) (form.Assign (record { own = own; name = n; indexes = xs; value = v })) (spell_stmt (form.Assign (record { own = own; name = n; indexes = xs; value = v })))
unfolding StmtByWord NameStmtWord BracketStmtWord ThisStmtWord AfterVariableWord
assign_by d S true n xs v f =
    let a : Assign = record { own = true; name = n; indexes = xs; value = v } in
    take_as (spell-Assign a ∙ assign_end a) (take_right (take_right (take_right (take_right (take_right (take_right (take_left (take_token the.this (λ t. take_token the.dot (λ t2. take_seq n (name_link.takes n tt)
    (take_as (sym (rest_end xs (sign "=" ++ spell_expr v))) (take_suffixes d xs (assign_indexes d a f) (λ os i p. or_send d S (Some t.at) n os xs v i p f)))))))))))))
assign_by d S false n [] v f =
    let a : Assign = record { own = false; name = n; indexes = []; value = v } in
    take_as (spell-Assign a ∙ assign_end a) (take_left (take_name (λ z. form.Assign (record { own = false; name = z; indexes = []; value = v })) (λ t i.
    take_right (take_right (take_left (assigned_word d false (ident t) [] [] v refl (record { good = f.good; fits = f.fits })))))))
assign_by d S false n (x ∷ xs) v f =
    let a : Assign = record { own = false; name = n; indexes = x ∷ xs; value = v } in
    take_as (spell-Assign a ∙ (assign_end a ∙ ap (λ z. identifier n ++ z) (index_end x xs (sign "=" ++ spell_expr v))))
    (take_left (take_name (λ z. form.Assign (record { own = false; name = z; indexes = x ∷ xs; value = v })) (λ t i. take_right (take_left (take_token the.open_bracket (λ b. take_right
    (indexed_word d S (ident t) b.at x xs v (record { good = f.good; fits = f.fits }))))))))

-- ---- messages to an actor

-- a word of a sequence, and what follows it
extend : {A B C : Type 0} {W : A → List Token → Type 0} {V : A → B → List Token → Type 0} {U : A → C → List Token → Type 0} {b : B} {c : C} {l : List Token} (r : List Token) {u : List Token} → (w : Seq W V b l) → l ++ r ≡ u
    → ((a : A) (v : List Token) → V a b v → U a c (v ++ r)) → Seq W U c u
extend r w i go = record { item = w.item; left = w.left; right = w.right ++ r; first = w.first; second = go w.item w.right w.second; joined = sym (append_assoc w.left w.right r) ∙ (ap (λ z. z ++ r) w.joined ∙ i) }

last : {A C : Type 0} {W : A → List Token → Type 0} {f : A → C} {c : C} {u : List Token} (w : Seq W (λ a. Just (f a)) c u) → w.left ≡ u
last w = sym (append-nil w.left) ∙ (ap (λ z. w.left ++ z) w.second.empty ∙ w.joined)

either_way : (d : ℕ) (S : Stmt → List Token → Type 0) (at : Option ℕ) (n : Ident) (os : List Suffix) (b : Bool) (c : Stmt) (r : List Token) → SentStmtWord d S (suffixed (variable at n) os) c r → AssignOrSendWord d S at n os b c r
either_way d S at n os true c r w = inr w
either_way d S at n os false c r w = w

suffixes_then : (d : ℕ) (S : Stmt → List Token → Type 0) (at : Option ℕ) (n : Ident) (found : List Suffix) (y x : Expr) (c : Stmt) (l r : List Token) → y ≡ variable at n
    → WithSuffixesWord d (BelowWord d) y found x l → SentStmtWord d S x c r → AfterVariableWord d S at n found c (l ++ r)
unfolding WithSuffixesWord AfterVariableWord
suffixes_then d S at n found y x c l r i w v = record {
  item = w.item;
  left = w.left;
  right = r;
  first = w.first;
  second = either_way d S at n (found ++ w.item) (all_indexes (found ++ w.item)) c r (subst (λ z. SentStmtWord d S z c r) (sym w.second.same ∙ ap (λ z. suffixed z (found ++ w.item)) i) v);
  joined = ap (λ z. z ++ r) (last w);
}

own_then : (d : ℕ) (S : Stmt → List Token → Type 0) (y x : Expr) (c : Stmt) (l m r : List Token) → OwnWord y l → WithSuffixesWord d (BelowWord d) y [] x m → SentStmtWord d S x c r → ThisStmtWord d S c (l ++ (m ++ r))
unfolding ThisStmtWord
own_then d S y x c l m r o w v = extend (m ++ r) o refl (λ t p o2. extend (m ++ r) o2 refl (λ t2 q o3. record {
  item = ident o3.item;
  left = o3.left;
  right = m ++ r;
  first = record { item = o3.item; left = o3.left; right = []; first = o3.first; second = record { same = refl; empty = refl }; joined = append-nil o3.left };
  second = suffixes_then d S (Some t.at) (ident o3.item) [] y x c m r (sym o3.second.same) w v;
  joined = ap (λ z. z ++ (m ++ r)) (last o3);
}))

-- what a name and suffixes begin with
not_size : (o : Suffix) (u v : List Token) → SizeWord o u → is.dot (next (u ++ v)) ≡ false → ⊥
not_size o u v w h = differ (sym w.first.fits ∙ subst (λ z. is.dot (next z) ≡ false) (ap (λ z. z ++ v) (sym w.joined ∙ ap (λ z. z ++ w.right) (sym w.first.alone))) h)

index_then : (d : ℕ) (S : Stmt → List Token → Type 0) (t : Token) (o : Suffix) (os : List Suffix) (c : Stmt) (l m r : List Token) → Deep d (IndexWord (BelowWord d)) o l → SuffixesWord d (BelowWord d) os m
    → SentStmtWord d S (suffixed (e.Name (ident t)) (o ∷ os)) c r → NameStmtWord d S t c (l ++ (m ++ r))
unfolding NameStmtWord BracketStmtWord IndexedStmtWord IndexWord ExprWord AfterVariableWord
index_then zero S t o os c l m r w x v = absurd w
index_then (suc n) S t o os c l m r w x v = inr (inl (extend (m ++ r) w refl (λ b p w2. inr (extend (m ++ r) w2 refl (λ y q w3. record {
  item = w3.item;
  left = w3.left;
  right = m ++ r;
  first = w3.first;
  second = record {
    item = os;
    left = m;
    right = r;
    first = x;
    second = either_way (suc n) S None (ident t) (s.Index b.at y ∷ os) (all_indexes (s.Index b.at y ∷ os)) c r (subst (λ z. SentStmtWord (suc n) S (suffixed (e.Name (ident t)) (z ∷ os)) c r) (sym w3.second.same) v);
    joined = refl;
  };
  joined = ap (λ z. z ++ (m ++ r)) (last w3);
})))))

name_suffixes : (d : ℕ) (S : Stmt → List Token → Type 0) (t : Token) (x : Expr) (c : Stmt) (os : List Suffix) (l r : List Token) → SuffixesWord d (BelowWord d) os l → suffixed (e.Name (ident t)) os ≡ x → is.dot (next l) ≡ false
    → SentStmtWord d S x c r → NameStmtWord d S t c (l ++ r)
unfolding NameStmtWord DottedNameWord SuffixesWord SuffixWord
name_suffixes d S t x c [] l r w i h v = inr (inr (inr (inr (record { item = x; left = l; right = r; first = inr (record { same = i; empty = w }); second = v; joined = refl }))))
name_suffixes d S t x c (o ∷ os) l r w i h v = elim w.first as (λ _. NameStmtWord d S t c (l ++ r)) [
  | inl y ↦ subst (λ z. NameStmtWord d S t c z) (sym (append_assoc w.left w.right r) ∙ ap (λ z. z ++ r) w.joined) (index_then d S t o os c w.left w.right r y w.second (subst (λ z. SentStmtWord d S z c r) (sym i) v))
  | inr y ↦ absurd (not_size o w.left w.right y (subst (λ z. is.dot (next z) ≡ false) (sym w.joined) h))
]

name_then : (d : ℕ) (S : Stmt → List Token → Type 0) (t : Token) (x : Expr) (c : Stmt) (l r : List Token) → AfterNameWord d (BelowWord d) (ident t) x l → SentStmtWord d S x c r → NameStmtWord d S t c (l ++ r)
unfolding NameStmtWord DottedNameWord AfterNameWord WithSuffixesWord
name_then d S t x c l r (inl w) v = inr (inr (inr (inr (record { item = x; left = l; right = r; first = inl w; second = v; joined = refl }))))
name_then d S t x c l r (inr w) v = name_suffixes d S t x c w.word.item l r (subst (λ z. SuffixesWord d (BelowWord d) w.word.item z) (last w.word) w.word.first) w.word.second.same w.other v

to_actor : (d : ℕ) (S : Stmt → List Token → Type 0) (x : Expr) (c : Stmt) (l r u : List Token) → PostfixWord d (BelowWord d) x l → SentStmtWord d S x c r → l ++ r ≡ u → StmtByWord d S c u
unfolding StmtByWord PostfixWord OtherPostfixWord OtherChainWord
to_actor d S x c l r u (inl w) v i = inl (extend r w i (λ t p w2. name_then d S t x c p r w2 v))
to_actor d S x c l r u (inr (inl w)) v i = inr (inr (inr (inr (inr (inr (inl (subst (λ z. ThisStmtWord d S c z) (sym (append_assoc w.left w.right r) ∙ (ap (λ z. z ++ r) w.joined ∙ i)) (own_then d S w.item x c w.left w.right r w.first w.second v))))))))
to_actor d S x c l r u (inr (inr w)) v i = inr (inr (inr (inr (inr (inr (inr (inr (inr (record { item = x; left = l; right = r; first = w; second = v; joined = i })))))))))

-- ---- chains

abbrev tail_of : List Stage → Option ℕ → TreeTokens
tail_of others p = each_after_sign "@" (map spell_stage others) ++ (spell_continuation p ++ sign ";")

output_takes : (d at : ℕ) (n : Ident) (args : List Arg) (found : List Property) → StageFine d (g.Message (record { aim = aim.Output at; handler = n; args = args; properties = found }))
    → Takes (OutputWord d) (g.Message (record { aim = aim.Output at; handler = n; args = args; properties = found })) (spell_stage (g.Message (record { aim = aim.Output at; handler = n; args = args; properties = found })))
output_takes d at n args found f =
    take_as (sent_spell (record { aim = aim.Output at; handler = n; args = args; properties = found }) refl) (take_at (λ z. g.Message (record { aim = aim.Output z; handler = n; args = args; properties = found })) the.output (λ t.
    send_takes d (record { aim = aim.Output t.at; handler = n; args = args; properties = found })
    (message_fine d (record { aim = aim.Output t.at; handler = n; args = args; properties = found }) (output_aim t.at)
    (message_args d (record { aim = aim.Output at; handler = n; args = args; properties = found }) f) (message_properties d (record { aim = aim.Output at; handler = n; args = args; properties = found }) f))))

sent_word : (d : ℕ) (S : Stmt → List Token → Type 0) → Inside d S → (x : Expr) (n : Ident) (args : List Arg) (found : List Property) (others : List Stage) (p : Option ℕ)
    → Each (StageFine d) (g.Message (record { aim = aim.Actor x; handler = n; args = args; properties = found }) ∷ others)
    → Takes (SentStmtWord d S x) (form.Chain (chain (g.Message (record { aim = aim.Actor x; handler = n; args = args; properties = found })) others) p) (sent (record { aim = aim.Actor x; handler = n; args = args; properties = found }) ++ tail_of others p)
unfolding SentStmtWord
sent_word d S h x n args found others p f =
    let m : Send = record { aim = aim.Actor x; handler = n; args = args; properties = found } in
    take_seq (g.Message m) (send_takes d m f.0) (chain_takes d S h (g.Message m) others p f.1)

message_chain : (d : ℕ) (S : Stmt → List Token → Type 0) → Inside d S → (to : Aim) (n : Ident) (args : List Arg) (found : List Property) (others : List Stage) (p : Option ℕ)
    → Each (StageFine d) (g.Message (record { aim = to; handler = n; args = args; properties = found }) ∷ others)
    → Takes (StmtByWord d S) (form.Chain (chain (g.Message (record { aim = to; handler = n; args = args; properties = found })) others) p) (spell_stmt (form.Chain (chain (g.Message (record { aim = to; handler = n; args = args; properties = found })) others) p))
unfolding StmtByWord NameStmtWord OtherChainWord
message_chain d S h aim.Own n args found others p f =
    take_as (sym (chain_spell (g.Message (record { aim = aim.Own; handler = n; args = args; properties = found })) others p) ∙ ap (λ z. z ++ tail_of others p) (message_spell (record { aim = aim.Own; handler = n; args = args; properties = found })))
    (take_left (take_name (λ z. form.Chain (chain (g.Message (record { aim = aim.Own; handler = z; args = args; properties = found })) others) p) (λ t i. take_right (take_right (take_right (take_left
    (take_seq (g.Message (record { aim = aim.Own; handler = ident t; args = args; properties = found }))
    (message_takes d (record { aim = aim.Own; handler = ident t; args = args; properties = found })
    (message_fine d (record { aim = aim.Own; handler = ident t; args = args; properties = found }) (message_aim d (record { aim = aim.Own; handler = n; args = args; properties = found }) f.0)
    (message_args d (record { aim = aim.Own; handler = n; args = args; properties = found }) f.0) (message_properties d (record { aim = aim.Own; handler = n; args = args; properties = found }) f.0)))
    (chain_takes d S h (g.Message (record { aim = aim.Own; handler = ident t; args = args; properties = found })) others p f.1))))))))
message_chain d S h (aim.Output at) n args found others p f =
    take_as (sym (chain_spell (g.Message (record { aim = aim.Output at; handler = n; args = args; properties = found })) others p))
    (take_right (take_right (take_right (take_right (take_right (take_right (take_right (take_right (take_left
    (take_seq (g.Message (record { aim = aim.Output at; handler = n; args = args; properties = found })) (output_takes d at n args found f.0) (chain_takes d S h (g.Message (record { aim = aim.Output at; handler = n; args = args; properties = found })) others p f.1)))))))))))
message_chain d S h (aim.Actor x) n args found others p f = record {
  word = λ u hl w.
      let k = cut (spell_expr x) (sent (record { aim = aim.Actor x; handler = n; args = args; properties = found }) ++ tail_of others p) u
      (subst (λ z. Spells z u) (sym (chain_spell (g.Message (record { aim = aim.Actor x; handler = n; args = args; properties = found })) others p)
      ∙ (ap (λ z. z ++ tail_of others p) (sent_spell (record { aim = aim.Actor x; handler = n; args = args; properties = found }) refl) ∙ append_assoc (spell_expr x) (sent (record { aim = aim.Actor x; handler = n; args = args; properties = found })) (tail_of others p))) w) in
      let l = subst (λ z. Lexemes z) (sym k.joined) hl in
      to_actor d S x (form.Chain (chain (g.Message (record { aim = aim.Actor x; handler = n; args = args; properties = found })) others) p) k.left k.right u
      (((postfix_link d (BelowWord d) (under_below d)).takes x (actor_parts x (message_aim d (record { aim = aim.Actor x; handler = n; args = args; properties = found }) f.0))).word k.left (lexemes_left k.left k.right l) k.first)
      ((sent_word d S h x n args found others p f).word k.right (lexemes_right k.left k.right l) k.second) k.joined;
}

join_deep : (at : ℕ) (list : List Stmt) → StageFine 0 (g.Join at list) → ⊥
join_deep at list f = not_less (subst (λ z. z ≤ 0) (depth-Join at list) f.fits)

join_chain : (d : ℕ) (S : Stmt → List Token → Type 0) → Inside d S → (at : ℕ) (list : List Stmt) (others : List Stage) (p : Option ℕ) → Each (StageFine d) (g.Join at list ∷ others)
    → Takes (StmtByWord d S) (form.Chain (chain (g.Join at list) others) p) (spell_stmt (form.Chain (chain (g.Join at list) others) p))
unfolding StmtByWord OtherChainWord
join_chain zero S h at list others p f = absurd (join_deep at list f.0)
join_chain (suc m) S h at list others p f =
    take_as (sym (chain_spell (g.Join at list) others p)) (take_right (take_right (take_right (take_right (take_right (take_right (take_right (take_left
    (take_seq (g.Join at list) (join_takes (suc m) S h at list f.0) (chain_takes (suc m) S h (g.Join at list) others p f.1))))))))))

abbrev ChainTakes : (d : ℕ) (S : Stmt → List Token → Type 0) → Stage → Type 0
ChainTakes d S m = (others : List Stage) (p : Option ℕ) → Each (StageFine d) (m ∷ others) → Takes (StmtByWord d S) (form.Chain (chain m others) p) (spell_stmt (form.Chain (chain m others) p))

first_layer : (d : ℕ) (S : Stmt → List Token → Type 0) → Inside d S → (l : Stage-F Stage Stmt Chain) → ChainTakes d S (roll-Stage l)
first_layer d S h (Stage-F.Message m) = subst (λ z. ChainTakes d S z) (sym (g.rolls-Message m)) (message_chain d S h m.aim m.handler m.args m.properties)
first_layer d S h (Stage-F.Join at list) = subst (λ z. ChainTakes d S z) (sym (g.rolls-Join at list)) (join_chain d S h at list)

first_takes : (d : ℕ) (S : Stmt → List Token → Type 0) → Inside d S → (m : Stage) → ChainTakes d S m
first_takes d S h m = subst (λ z. ChainTakes d S z) (rolled_stage m) (first_layer d S h (out-Stage m))

abbrev StmtTakes : (d : ℕ) (S : Stmt → List Token → Type 0) → Stmt → Type 0
StmtTakes d S x = StmtFine d x → Takes (StmtByWord d S) x (spell_stmt x)

chain_case : (d : ℕ) (S : Stmt → List Token → Type 0) → Inside d S → (ms : List Stage) (p : Option ℕ) → StmtTakes d S (form.Chain (roll-Chain (record { stages = ms })) p)
chain_case d S h [] p f = absurd (no_chain (stmt_good (regular-Chain (roll-Chain (record { stages = [] })) p) f))
chain_case d S h (m ∷ ms) p f = first_takes d S h m ms p (chain_parts d m ms (stmt_good (regular-Chain (chain m ms) p) f) (stmt_depth (depth-Chain (chain m ms) p) f))

token_case : (d : ℕ) (S : Stmt → List Token → Type 0) → Inside d S → (at : ℕ) (n : Ident) (ms : List Stage) → StmtTakes d S (form.Token at n (roll-Chain (record { stages = ms })))
unfolding StmtByWord
token_case d S h at n [] f = absurd (no_chain (stmt_good (regular-Token at n (roll-Chain (record { stages = [] }))) f))
token_case d S h at n (m ∷ ms) f =
    take_right (take_right (take_right (take_right (take_right (take_left (token_takes d S h at n m ms (chain_parts d m ms (stmt_good (regular-Token at n (chain m ms)) f) (stmt_depth (depth-Token at n (chain m ms)) f))))))))

-- ---- statements

empty_case : (d : ℕ) (S : Stmt → List Token → Type 0) (at : ℕ) → StmtTakes d S (form.Empty at)
unfolding StmtByWord
empty_case d S at f = take_as (spell-Empty at) (take_right (take_right (take_right (take_left (take_at (λ z. form.Empty z) the.semicolon (λ t. take_just (form.Empty t.at) refl))))))

return_case : (d : ℕ) (S : Stmt → List Token → Type 0) (at : ℕ) (x : Option Expr) → StmtTakes d S (form.Return at x)
unfolding StmtByWord
return_case d S at x f = take_as (spell-Return at x) (take_right (take_right (take_right (take_right (take_left (take_at (λ z. form.Return z x) the.return_word (λ t.
    take_end (form.Return t.at) x ((until_link d).takes x (option_parts x (stmt_good (regular-Return at x) f) (stmt_depth (depth-Return at x) f))) refl)))))))

nest_case : (d : ℕ) (S : Stmt → List Token → Type 0) (x : Stmt) → Takes (Deep d (NestedWord (one_less d) S)) x (spell_stmt x) → Takes (StmtByWord d S) x (spell_stmt x)
unfolding StmtByWord
nest_case d S x t = take_right (take_left t)

block_case : (d : ℕ) (S : Stmt → List Token → Type 0) → Inside d S → (at : ℕ) (list : List Stmt) → StmtTakes d S (form.Block at list)
block_case zero S h at list f = absurd (not_less (stmt_depth (depth-Block at list) f))
block_case (suc n) S h at list f = nest_case (suc n) S (form.Block at list) (block_nest h at list f)

if_case : (d : ℕ) (S : Stmt → List Token → Type 0) → Inside d S → (at : ℕ) (x : Expr) (first : Stmt) (second : Option Stmt) → StmtTakes d S (form.If at x first second)
if_case zero S h at x first second f = absurd (not_less (stmt_depth (depth-If at x first second) f))
if_case (suc n) S h at x first second f = nest_case (suc n) S (form.If at x first second) (if_nest h at x first second f)

while_case : (d : ℕ) (S : Stmt → List Token → Type 0) → Inside d S → (at : ℕ) (x : Expr) (body : Stmt) → StmtTakes d S (form.While at x body)
while_case zero S h at x body f = absurd (not_less (stmt_depth (depth-While at x body) f))
while_case (suc n) S h at x body f = nest_case (suc n) S (form.While at x body) (while_nest h at x body f)

rolled_stmt : (x : Stmt) → roll-Stmt (out-Stmt x) ≡ x
rolled_stmt x = search (rules, the_lemmas)

stmt_layer : (d : ℕ) (S : Stmt → List Token → Type 0) → Inside d S → (l : Stmt-F Stage Stmt Chain) → StmtTakes d S (roll-Stmt l)
stmt_layer d S h (Stmt-F.Empty at) = subst (λ z. StmtTakes d S z) (sym (form.rolls-Empty at)) (empty_case d S at)
stmt_layer d S h (Stmt-F.Block at list) = subst (λ z. StmtTakes d S z) (sym (form.rolls-Block at list)) (block_case d S h at list)
stmt_layer d S h (Stmt-F.Declare x) = subst (λ z. StmtTakes d S z) (sym (form.rolls-Declare x)) (λ f.
    declare_by d S x (record { good = stmt_good (regular-Declare x) f; fits = stmt_depth (depth-Declare x) f }) (is_actor x.sort.base) refl x.sort.dims refl)
stmt_layer d S h (Stmt-F.Assign a) = subst (λ z. StmtTakes d S z) (sym (form.rolls-Assign a)) (λ f.
    assign_by d S a.own a.name a.indexes a.value (record { good = stmt_good (regular-Assign a) f; fits = stmt_depth (depth-Assign a) f }))
stmt_layer d S h (Stmt-F.If at x first second) = subst (λ z. StmtTakes d S z) (sym (form.rolls-If at x first second)) (if_case d S h at x first second)
stmt_layer d S h (Stmt-F.While at x body) = subst (λ z. StmtTakes d S z) (sym (form.rolls-While at x body)) (while_case d S h at x body)
stmt_layer d S h (Stmt-F.For at first x next body) = subst (λ z. StmtTakes d S z) (sym (form.rolls-For at first x next body)) (for_case d S h)
  where
    for_case : (d : ℕ) (S : Stmt → List Token → Type 0) → Inside d S → StmtTakes d S (form.For at first x next body)
    for_case zero S h f = absurd (not_less (stmt_depth (depth-For at first x next body) f))
    for_case (suc n) S h f = nest_case (suc n) S (form.For at first x next body) (for_nest h at first x next body f)
stmt_layer d S h (Stmt-F.Return at x) = subst (λ z. StmtTakes d S z) (sym (form.rolls-Return at x)) (return_case d S at x)
stmt_layer d S h (Stmt-F.Token at n c) = subst (λ z. StmtTakes d S z) (sym (form.rolls-Token at n c)) (token_case d S h at n c.stages)
stmt_layer d S h (Stmt-F.Chain c p) = subst (λ z. StmtTakes d S z) (sym (form.rolls-Chain c p)) (chain_case d S h c.stages p)

stmt_by_link : (d : ℕ) (S : Stmt → List Token → Type 0) → Inside d S → Link (StmtByWord d S) (StmtFine d) spell_stmt
stmt_by_link d S h = record { gives = stmt_by_gives d S h; takes = λ x. subst (λ z. StmtTakes d S z) (rolled_stmt x) (stmt_layer d S h (out-Stmt x)) }

-- the words of statements are their trees
pub stmt_link : (d : ℕ) → Link (StmtWord d) (StmtFine d) spell_stmt
unfolding StmtWord
stmt_link zero = stmt_by_link zero Empty tt
stmt_link (suc d) = stmt_by_link (suc d) (StmtWord d) (stmt_link d)
