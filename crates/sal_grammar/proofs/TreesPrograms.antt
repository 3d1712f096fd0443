-- The words of programs are the regular trees that spell them.
use Rattle.std.proofs.Common.{◌≡◌, inl, inr, ℕ, zero, suc, ◌-◌, ◌≤◌, Bool, true, false, ◌&&◌, ◌||◌, List, [], ◌∷◌, ◌++◌, map, Option, Some, None, option_map, refl, sym, ap, ◌∙◌, subst, append_assoc, arith}
use Rattle.std.specs.List.{list_all}
use Rattle.sal_ast.specs.declared.program.Behavior.{Behavior}
use Rattle.sal_ast.specs.declared.program.Ident.{Ident}
use Rattle.sal_ast.specs.declared.program.Member.{Member}
use Rattle.sal_ast.specs.declared.program.Member.TheVariants as form
use Rattle.sal_ast.specs.declared.program.Param.{Param}
use Rattle.sal_ast.specs.declared.program.Program.{Program}
use Rattle.sal_ast.specs.declared.program.TypeName.{TypeName}
use Rattle.sal_ast.specs.declared.expression.Expr.{Expr}
use Rattle.sal_ast.specs.declared.statement.Stmt.{Stmt}
use Rattle.sal_ast.specs.Depth.{greatest, depth_stmt, depth_member, depth_behavior, depth}
use Rattle.sal_ast.specs.Regular.{form_of, all_forms_regular, has_any, member_is_regular, behavior_is_regular, is_regular}
use Rattle.sal_ast.specs.Spell.{TreeTokens, concat_tokens, separated_tokens, word, sign, identifier, brackets, spell_base, spell_type, spell_value, spell_stmt, spell_block, spell_param, spell_params, spell_result, spell_member, spell_behavior, spell}
use Rattle.sal_grammar.specs.Tokens.{Token, Set, Lexemes, class_of}
use Rattle.sal_grammar.specs.Sets as is
use Rattle.sal_grammar.specs.Refusals.{Spells, IsProgram}
use Rattle.sal_grammar.specs.Expressions.{ident, base_of, type_of}
use Rattle.sal_grammar.proofs.Exactness.{differ}
use Rattle.sal_grammar.proofs.Languages.{Seq, One, Just, Either, Star}
use Rattle.sal_grammar.proofs.ExpressionWords.{ListUntilWord, PairsWord}
use Rattle.sal_grammar.proofs.StatementWords.{NameWord, InitialWord, BodyOfWord, StmtWord}
use Rattle.sal_grammar.proofs.ProgramWords.{ParamWord, ParamsWord, BodyWord, ConstructorWord, HandlerWord, TypedMemberWord, NameMemberWord, MemberWord, BehaviorWord, ProgramWord}
use Rattle.sal_grammar.proofs.TreesTokens as the
use Rattle.sal_grammar.proofs.TreesTokens.{both_true, left_true, right_true}
use Rattle.sal_grammar.proofs.TreesSteps.{Gives, Into, Takes, Each, Fine, AllOf, fine_each, each_fine, parts4, gives_by, into_seq, into_just, into_end, into_either, into_at, into_gives, token, name_token, star_gives, star_takes, take_seq, take_just, take_end, take_as, take_left, take_right, take_token, take_name}
use Rattle.sal_grammar.proofs.TreesLists.{Link, list_link, pairs_link, brackets_next}
use Rattle.sal_grammar.proofs.TreesParts.{IfThere, option_regular, option_depth, option_parts}
use Rattle.sal_grammar.proofs.TreesSorts.{sort_token, is_actor, take_word, take_actor}
use Rattle.sal_grammar.proofs.TreesAssignments.{name_link, word_typed_into, pairs_typed_into, word_typed_takes, actor_pairs_takes, initial_link}
use Rattle.sal_grammar.proofs.TreesChains.{StmtFine, body_link, stmts_all}
use Rattle.sal_grammar.proofs.TreesBack.{stmt_link}

-- ---- parameters

or_left : (a b : Bool) → a ≡ true → a || b ≡ true
or_left true b h = refl
or_left false b h = absurd (differ (sym h))

or_right : (a b : Bool) → b ≡ true → a || b ≡ true
or_right true b h = refl
or_right false b h = h

-- a token of a greater set
take_in : {C : Type 0} {V : Token → C → List Token → Type 0} {c : C} {q : TreeTokens} {f g : Set} → ((t : Token) → f (class_of t) ≡ true → g (class_of t) ≡ true) → Takes (Seq (One f) V) c q → Takes (Seq (One g) V) c q
take_in h x = record {
  word = λ u hl s. let w = x.word u hl s in
      record { item = w.item; left = w.left; right = w.right; first = record { fits = h w.item w.first.fits; alone = w.first.alone }; second = w.second; joined = w.joined };
}

param_takes_by : (p : Param) (b : Bool) → is_actor p.sort.base ≡ b → Takes ParamWord p (spell_param p)
unfolding ParamWord
param_takes_by p true h = take_as (append_assoc (spell_base p.sort.base p.sort.at) (brackets p.sort.dims) (identifier p.name))
    (take_in (λ t i. or_right (is.sort_word (class_of t)) (is.id (class_of t)) i) (take_actor p.sort h (λ t i e. take_seq p.sort.dims (pairs_link.takes p.sort.dims tt)
    (take_end (λ n. record { sort = type_of t p.sort.dims; name = n }) p.name (name_link.takes p.name tt) (ap (λ z. record { sort = z; name = p.name }) e)))))
param_takes_by p false h = take_as (append_assoc (spell_base p.sort.base p.sort.at) (brackets p.sort.dims) (identifier p.name))
    (take_in (λ t i. or_left (is.sort_word (class_of t)) (is.id (class_of t)) i) (take_word p.sort h (λ t e. take_seq p.sort.dims (pairs_link.takes p.sort.dims tt)
    (take_end (λ n. record { sort = type_of t p.sort.dims; name = n }) p.name (name_link.takes p.name tt) (ap (λ z. record { sort = z; name = p.name }) e)))))

param_gives : Gives ParamWord (λ p. Unit {0}) spell_param
unfolding ParamWord
param_gives = gives_by (into_seq sort_token (λ t h. into_seq pairs_link.gives (λ dims i. into_end (λ n. record { sort = type_of t dims; name = n }) name_link.gives (λ n j. tt)
    (λ n. sym (append_assoc (spell_base (base_of (class_of t) t.text) t.at) (brackets dims) (identifier n))))))

param_link : Link ParamWord (λ p. Unit {0}) spell_param
param_link = record { gives = param_gives; takes = λ p h. param_takes_by p (is_actor p.sort.base) refl }

params_each : (ps : List Param) → Each (λ (p : Param). Unit {0}) ps
params_each [] = tt
params_each (p ∷ ps) = (tt, params_each ps)

params_link : Link ParamsWord (λ ps. Unit {0}) spell_params
unfolding ParamsWord
params_link = record {
  gives = gives_by (into_seq (token the.open_paren) (λ t h. into_gives (list_link the.close_paren param_link).gives (λ ps f. tt) (λ ps. refl)));
  takes = λ ps h. take_token the.open_paren (λ t. (list_link the.close_paren param_link).takes ps (params_each ps));
}

-- ---- members

block_link : (d : ℕ) → Link (BodyWord d) (Each (StmtFine d)) spell_block
unfolding BodyWord
block_link d = record {
  gives = gives_by (into_seq (token the.open_brace) (λ t h. into_gives (body_link (stmt_link d)).gives (λ list f. f) (λ list. refl)));
  takes = λ list f. take_token the.open_brace (λ t. (body_link (stmt_link d)).takes list f);
}

abbrev MemberFine : ℕ → Member → Type 0
MemberFine d = Fine member_is_regular depth_member d

constructor_fine : (d : ℕ) (n : Ident) (ps : List Param) (list : List Stmt) → Each (StmtFine d) list → MemberFine d (form.Constructor n ps list)
constructor_fine d n ps list f = let p = fine_each stmts_all list f in record { good = p.good; fits = p.fits }

handler_fine : (d : ℕ) (r : Option TypeName) (n : Ident) (ps : List Param) (list : List Stmt) → Each (StmtFine d) list → MemberFine d (form.Handler r n ps list)
handler_fine d r n ps list f = let p = fine_each stmts_all list f in record { good = p.good; fits = p.fits }

constructor_into : (d : ℕ) (n : Ident) → Into (MemberFine d) spell_member (λ q. identifier n ++ q) (ConstructorWord d n)
unfolding ConstructorWord spell_member
constructor_into d n = into_seq params_link.gives (λ ps h. into_end (form.Constructor n ps) (block_link d).gives (λ list f. constructor_fine d n ps list f) (λ list. refl))

handler_into : (d : ℕ) (r : Option TypeName) (n : Ident) → Into (MemberFine d) spell_member (λ q. spell_result r ++ (identifier n ++ q)) (HandlerWord d r n)
unfolding HandlerWord spell_member
handler_into d r n = into_seq params_link.gives (λ ps h. into_end (form.Handler r n ps) (block_link d).gives (λ list f. handler_fine d r n ps list f)
    (λ list. sym (parts4 (spell_result r) (identifier n) (spell_params ps) (spell_block list))))

typed_member_into : (d : ℕ) (sort : TypeName) → Into (MemberFine d) spell_member (λ q. spell_type sort ++ q) (TypedMemberWord d sort)
unfolding TypedMemberWord spell_member
typed_member_into d sort = into_seq name_link.gives (λ n h. into_either (handler_into d (Some sort) n)
    (into_end (form.Field sort n) (initial_link d).gives (λ x f. record { good = option_regular d x f; fits = option_depth x f })
    (λ x. sym (parts4 (spell_type sort) (identifier n) (spell_value x) (sign ";")))))

member_gives : (d : ℕ) → Gives (MemberWord d) (MemberFine d) spell_member
unfolding MemberWord NameMemberWord
member_gives d = gives_by (into_either
    (into_seq name_token (λ t i. into_either (constructor_into d (ident t)) (pairs_typed_into (typed_member_into d) t i)))
    (into_either (into_seq (token the.void) (λ t h. into_seq name_link.gives (λ n j. handler_into d None n)))
    (word_typed_into (typed_member_into d))))

-- ---- and back

typed_by : (d : ℕ) (sort : TypeName) (m : Member) (q : TreeTokens) → Takes (TypedMemberWord d sort) m q → (b : Bool) → is_actor sort.base ≡ b → Takes (MemberWord d) m (spell_type sort ++ q)
unfolding MemberWord NameMemberWord
typed_by d sort m q x true h = take_left (actor_pairs_takes (λ z. TypedMemberWord d z) sort h x (λ t y. take_right y))
typed_by d sort m q x false h = take_right (take_right (word_typed_takes (λ z. TypedMemberWord d z) sort h x))

handler_takes : (d : ℕ) (r : Option TypeName) (n : Ident) (ps : List Param) (list : List Stmt) → Each (StmtFine d) list → Takes (HandlerWord d r n) (form.Handler r n ps list) (spell_params ps ++ spell_block list)
unfolding HandlerWord
handler_takes d r n ps list f = take_seq ps (params_link.takes ps tt) (take_end (form.Handler r n ps) list ((block_link d).takes list f) refl)

constructor_takes : (d : ℕ) (n : Ident) (ps : List Param) (list : List Stmt) → Each (StmtFine d) list → Takes (ConstructorWord d n) (form.Constructor n ps list) (spell_params ps ++ spell_block list)
unfolding ConstructorWord
constructor_takes d n ps list f = take_seq ps (params_link.takes ps tt) (take_end (form.Constructor n ps) list ((block_link d).takes list f) refl)

member_takes : (d : ℕ) (m : Member) → MemberFine d m → Takes (MemberWord d) m (spell_member m)
unfolding MemberWord NameMemberWord TypedMemberWord spell_member
member_takes d (form.Field sort n x) f =
    take_as (parts4 (spell_type sort) (identifier n) (spell_value x) (sign ";"))
    (typed_by d sort (form.Field sort n x) (identifier n ++ (spell_value x ++ sign ";"))
    (take_seq n (name_link.takes n tt) (take_right (take_end (form.Field sort n) x ((initial_link d).takes x (option_parts x f.good f.fits)) refl))) (is_actor sort.base) refl)
member_takes d (form.Constructor n ps list) f =
    take_left (take_name (λ z. form.Constructor z ps list) (λ t i. take_left (constructor_takes d (ident t) ps list (each_fine stmts_all list (record { good = f.good; fits = f.fits })))))
member_takes d (form.Handler None n ps list) f =
    take_right (take_left (take_token the.void (λ t. take_seq n (name_link.takes n tt) (handler_takes d None n ps list (each_fine stmts_all list (record { good = f.good; fits = f.fits }))))))
member_takes d (form.Handler (Some sort) n ps list) f =
    take_as (parts4 (spell_type sort) (identifier n) (spell_params ps) (spell_block list))
    (typed_by d sort (form.Handler (Some sort) n ps list) (identifier n ++ (spell_params ps ++ spell_block list))
    (take_seq n (name_link.takes n tt) (take_left (handler_takes d (Some sort) n ps list (each_fine stmts_all list (record { good = f.good; fits = f.fits }))))) (is_actor sort.base) refl)

-- ---- behaviours and programs

abbrev BehaviorFine : ℕ → Behavior → Type 0
BehaviorFine d = Fine behavior_is_regular depth_behavior d

members_all : AllOf member_is_regular (λ ms. list_all member_is_regular ms)
members_all = record { none = refl; more = λ x xs. refl }

behaviors_all : AllOf behavior_is_regular (λ bs. list_all behavior_is_regular bs)
behaviors_all = record { none = refl; more = λ x xs. refl }

behavior_link : (d : ℕ) → Link (BehaviorWord d) (BehaviorFine d) spell_behavior
unfolding BehaviorWord spell_behavior
behavior_link d = record {
  gives = gives_by (into_seq (token the.behavior) (λ t h. into_seq name_link.gives (λ n i. into_seq (token the.open_brace) (λ t2 h2. into_seq (star_gives (member_gives d)) (λ found f. into_seq (token the.close_brace) (λ t3 h3.
      into_just (record { name = n; members = found }) (let p = fine_each members_all found f in record { good = p.good; fits = p.fits }) refl))))));
  takes = λ b f. take_token the.behavior (λ t. take_seq b.name (name_link.takes b.name tt) (take_token the.open_brace (λ t2. take_seq b.members (star_takes (member_takes d) b.members (each_fine members_all b.members (record { good = f.good; fits = f.fits })))
      (take_token the.close_brace (λ t3. take_just b refl)))));
}

record ProgramFine (d : ℕ) (p : Program) : Type 0 where
  good : is_regular p ≡ true
  fits : depth p ≤ d

program_fine : (d : ℕ) (b : Behavior) (others : List Behavior) → BehaviorFine d b → Each (BehaviorFine d) others → ProgramFine d (record { behaviors = b ∷ others })
unfolding is_regular depth
program_fine d b others f h = let p = fine_each behaviors_all (b ∷ others) (f, h) in record { good = p.good; fits = p.fits }

program_gives : (d : ℕ) → Gives (ProgramWord d) (ProgramFine d) spell
unfolding ProgramWord spell
program_gives d = gives_by (into_seq (behavior_link d).gives (λ b f. into_end (λ others. record { behaviors = b ∷ others }) (star_gives (behavior_link d).gives) (λ others h. program_fine d b others f h) (λ others. refl)))

program_takes : (d : ℕ) (bs : List Behavior) → is_regular (record { behaviors = bs }) ≡ true → depth (record { behaviors = bs }) ≤ d → Takes (ProgramWord d) (record { behaviors = bs }) (spell (record { behaviors = bs }))
unfolding ProgramWord spell is_regular depth
program_takes d [] r l = absurd (differ (sym r))
program_takes d (b ∷ others) r l =
    let f = each_fine behaviors_all (b ∷ others) (record { good = r; fits = l }) in
    take_seq b ((behavior_link d).takes b f.0) (take_end (λ z. record { behaviors = b ∷ z }) others (star_takes (behavior_link d).takes others f.1) refl)

-- a word of the grammar is a regular tree of this depth at most that spells these tokens, and the other way round
pub word_is_program : (d : ℕ) (p : Program) (u : List Token) → Lexemes u → ProgramWord d p u → IsProgram d p u
word_is_program d p u hl w =
    let f : ProgramFine d p = (program_gives d).fact p u hl w in
    record { lexemes = hl; regular = f.good; fits = f.fits; spells = (program_gives d).spells p u hl w }

pub program_is_word : (d : ℕ) (p : Program) (u : List Token) → IsProgram d p u → ProgramWord d p u
program_is_word d p u h = (program_takes d p.behaviors h.regular h.fits).word u h.lexemes h.spells
