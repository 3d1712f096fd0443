-- Words of stages and chains are their trees.
use Rattle.std.proofs.Common.{◌≡◌, inl, inr, ℕ, zero, suc, ◌≤◌, max, Bool, true, false, ◌&&◌, List, [], ◌∷◌, ◌++◌, map, Option, Some, None, refl, sym, ap, ◌∙◌, subst, append_assoc, append-nil, arith, rules}
use Rattle.sal_ast.specs.declared.expression.Expr.{Expr}
use Rattle.sal_ast.specs.declared.program.Ident.{Ident}
use Rattle.sal_ast.specs.declared.statement.Aim.{Aim}
use Rattle.sal_ast.specs.declared.statement.Aim.TheVariants as aim
use Rattle.sal_ast.specs.declared.statement.Arg.{Arg}
use Rattle.sal_ast.specs.declared.statement.Chain.{Chain, roll-Chain}
use Rattle.sal_ast.specs.declared.statement.Property.{Property}
use Rattle.sal_ast.specs.declared.statement.Send.{Send}
use Rattle.sal_ast.specs.declared.statement.Stage.{Stage, out-Stage, roll-Stage, the_lemmas}
use Rattle.sal_ast.specs.declared.statement.Stage.TheOpen.{Stage-F}
use Rattle.sal_ast.specs.declared.statement.Stage.TheVariants as g
use Rattle.sal_ast.specs.declared.statement.Stmt.{Stmt}
use Rattle.sal_ast.specs.declared.statement.Stmt.TheVariants as form
use Rattle.sal_ast.specs.Depth.{greatest, depth_stage, depth_stmt, depth_chain}
use Rattle.sal_ast.specs.Regular.{Form, all_forms_regular, all_true, has_any, form_of, stage_is_regular, chain_is_regular}
use Rattle.sal_ast.specs.Spell.{TreeTokens, concat_tokens, each_after_sign, sign, word_at, identifier, spell_expr, spell_stage, spell_stmt, spell_chain, spell_continuation}
use Rattle.sal_ast.proofs.DepthEquations.{depth-Join, depth-Stages, depth-Chain, depth-Token}
use Rattle.sal_ast.proofs.RegularEquations.{regular-Join, regular-Stages, regular-Chain, regular-Token}
use Rattle.sal_ast.proofs.SpellEquations.{spell-Join, spell-Stages, spell-Chain, spell-Token}
use Rattle.sal_grammar.specs.Tokens.{Token, Lexemes}
use Rattle.sal_grammar.specs.Sets as is
use Rattle.sal_grammar.specs.Refusals.{Spells}
use Rattle.sal_grammar.specs.Expressions.{ident}
use Rattle.sal_grammar.specs.Statements.{Tail, chain}
use Rattle.sal_grammar.proofs.Languages.{Seq, One, Just, Either, Deep, Star, Twice}
use Rattle.sal_grammar.proofs.ExpressionWords.{AfterNameWord, OtherPostfixWord, PostfixWord}
use Rattle.sal_grammar.proofs.StatementWords.{BelowWord, NameWord, SendToWord, BodyOfWord, JoinWord, OutputWord, NameStageWord, StageByWord, StopWord, StagesWord, TailWord, ChainStmtWord, TokenStmtWord}
use Rattle.sal_grammar.proofs.TreesTokens as the
use Rattle.sal_grammar.proofs.TreesTokens.{left_true, right_true, both_true}
use Rattle.sal_grammar.proofs.TreesSteps.{Gives, Into, Takes, Each, Fine, AllOf, fine_each, each_fine, most, first_most, second_most, less, more, least, not_less, cut, join, lexemes_left, lexemes_right, parts4, gives_by, into_seq, into_just, into_end, into_either, into_at, into_gives, into_then, into_none, token, token_at, star_gives, star_takes, take_seq, take_just, take_end, take_as, take_left, take_right, take_token, take_at}
use Rattle.sal_grammar.proofs.TreesLists.{Link}
use Rattle.sal_grammar.proofs.TreesOperators.{Ranked}
use Rattle.sal_grammar.proofs.TreesPostfix.{after_name_into, other_gives, postfix_link}
use Rattle.sal_grammar.proofs.TreesAssignments.{under_below, name_link}
use Rattle.sal_grammar.proofs.TreesMessages.{ArgFine, PropertyFine, AimFine, StageFine, message_fine, message_aim, message_args, message_properties, message_spell, message_into, message_takes, send_into, sent, sent_spell, send_takes, output_gives}

abbrev pub StmtFine : ℕ → Stmt → Type 0
StmtFine d = Fine (λ s. (form_of s).regular) depth_stmt d

-- what is known of the statements one deeper, if there may be any
abbrev pub Inside : ℕ → (Stmt → List Token → Type 0) → Type 0
Inside zero S = Unit {0}
Inside (suc n) S = Link S (StmtFine n) spell_stmt

pub stmt_by : {d m : ℕ} {x : Stmt} {s : Form} → form_of x ≡ s → depth_stmt x ≡ m → s.regular ≡ true → m ≤ d → StmtFine d x
stmt_by {d = d} es em h l = record { good = ap (λ (z : Form). z.regular) es ∙ h; fits = subst (λ z. z ≤ d) (sym em) l }

pub stmt_good : {d : ℕ} {x : Stmt} {s : Form} → form_of x ≡ s → StmtFine d x → s.regular ≡ true
stmt_good es f = ap (λ (z : Form). z.regular) (sym es) ∙ f.good

pub stmt_depth : {d m : ℕ} {x : Stmt} → depth_stmt x ≡ m → StmtFine d x → m ≤ d
stmt_depth {d = d} em f = subst (λ z. z ≤ d) em f.fits

-- ---- blocks

pub body_link : {n : ℕ} {S : Stmt → List Token → Type 0} → Link S (StmtFine n) spell_stmt → Link (BodyOfWord S) (Each (StmtFine n)) (λ list. concat_tokens (map spell_stmt list) ++ sign "}")
unfolding BodyOfWord
body_link l = record {
  gives = gives_by (into_seq (star_gives l.gives) (λ list f. into_seq (token the.close_brace) (λ t h. into_just list f refl)));
  takes = λ list f. take_seq list (star_takes l.takes list f) (take_token the.close_brace (λ t. take_just list refl));
}

pub stmts_all : AllOf (λ s. (form_of s).regular) (λ ss. all_forms_regular (map form_of ss))
stmts_all = record { none = refl; more = λ x xs. refl }

join_fine : (n at : ℕ) (list : List Stmt) → Each (StmtFine n) list → StageFine (suc n) (g.Join at list)
join_fine n at list f =
    let p = fine_each stmts_all list f in
    record { good = regular-Join at list ∙ p.good; fits = subst (λ z. z ≤ suc n) (sym (depth-Join at list)) (more p.fits) }

join_parts : (n at : ℕ) (list : List Stmt) → StageFine (suc n) (g.Join at list) → Each (StmtFine n) list
join_parts n at list f = each_fine stmts_all list (record { good = sym (regular-Join at list) ∙ f.good; fits = less (subst (λ z. z ≤ suc n) (depth-Join at list) f.fits) })

join_deep : (at : ℕ) (list : List Stmt) → StageFine 0 (g.Join at list) → ⊥
join_deep at list f = not_less (subst (λ z. z ≤ 0) (depth-Join at list) f.fits)

pub join_gives : (d : ℕ) (S : Stmt → List Token → Type 0) → Inside d S → Gives (Deep d (JoinWord S)) (StageFine d) spell_stage
unfolding JoinWord
join_gives zero S h = gives_by into_none
join_gives (suc n) S h =
    gives_by (into_seq (token_at the.join) (λ t i. into_seq (token the.open_brace) (λ t2 i2. into_end (g.Join t.at) (body_link h).gives (λ list f. join_fine n t.at list f) (λ list. sym (spell-Join t.at list)))))

pub join_takes : (d : ℕ) (S : Stmt → List Token → Type 0) → Inside d S → (at : ℕ) (list : List Stmt) → StageFine d (g.Join at list) → Takes (Deep d (JoinWord S)) (g.Join at list) (spell_stage (g.Join at list))
unfolding JoinWord
join_takes zero S h at list f = absurd (join_deep at list f)
join_takes (suc n) S h at list f =
    take_as (spell-Join at list) (take_at (λ z. g.Join z list) the.join (λ t. take_token the.open_brace (λ t2. take_end (g.Join t.at) list ((body_link h).takes list (join_parts n at list f)) refl)))

-- ---- stages

pub actor_fine : {d : ℕ} (x : Expr) → Ranked 7 d x → AimFine d (aim.Actor x)
actor_fine x f = record { good = f.good; fits = f.fits }

pub actor_parts : {d : ℕ} (x : Expr) → AimFine d (aim.Actor x) → Ranked 7 d x
actor_parts x f = record { good = f.good; fits = f.fits }

pub own_aim : {d : ℕ} → AimFine d aim.Own
own_aim = record { good = refl; fits = least }

pub output_aim : {d : ℕ} (at : ℕ) → AimFine d (aim.Output at)
output_aim at = record { good = refl; fits = least }

name_stage_into : (d : ℕ) (n : Ident) → Into (StageFine d) spell_stage (λ q. identifier n ++ q) (NameStageWord d n)
unfolding NameStageWord
name_stage_into d n = into_either (message_into d aim.Own n own_aim)
    (into_then (λ p q. refl) (after_name_into d (BelowWord d) (under_below d) n) (λ x f. send_into d (aim.Actor x) refl (actor_fine x f)))

pub stage_gives : (d : ℕ) (S : Stmt → List Token → Type 0) → Inside d S → Gives (StageByWord d S) (StageFine d) spell_stage
unfolding StageByWord
stage_gives d S h = gives_by (into_either (into_gives (join_gives d S h) (λ m f. f) (λ m. refl))
    (into_either (into_gives (output_gives d) (λ m f. f) (λ m. refl))
    (into_either (into_seq name_link.gives (λ n i. name_stage_into d n))
    (into_seq (other_gives d (BelowWord d) (under_below d)) (λ x f. send_into d (aim.Actor x) refl (actor_fine x f))))))

-- a message to an actor, by what its target begins with
to_actor : (d : ℕ) (S : Stmt → List Token → Type 0) (x : Expr) (m : Stage) (l r u : List Token) → PostfixWord d (BelowWord d) x l → SendToWord d (aim.Actor x) m r → l ++ r ≡ u → StageByWord d S m u
unfolding StageByWord PostfixWord NameStageWord
to_actor d S x m l r u (inl w) v e = inr (inr (inl (record {
  item = ident w.item;
  left = w.left;
  right = w.right ++ r;
  first = record { item = w.item; left = w.left; right = []; first = w.first; second = record { same = refl; empty = refl }; joined = append-nil w.left };
  second = inr (record { item = x; left = w.right; right = r; first = w.second; second = v; joined = refl });
  joined = sym (append_assoc w.left w.right r) ∙ (ap (λ z. z ++ r) w.joined ∙ e);
})))
to_actor d S x m l r u (inr w) v e = inr (inr (inr (record { item = x; left = l; right = r; first = w; second = v; joined = e })))

message_stage : (d : ℕ) (S : Stmt → List Token → Type 0) (to : Aim) (n : Ident) (args : List Arg) (found : List Property)
    → StageFine d (g.Message (record { aim = to; handler = n; args = args; properties = found }))
    → Takes (StageByWord d S) (g.Message (record { aim = to; handler = n; args = args; properties = found })) (spell_stage (g.Message (record { aim = to; handler = n; args = args; properties = found })))
unfolding StageByWord NameStageWord
message_stage d S aim.Own n args found f =
    let m : Send = record { aim = aim.Own; handler = n; args = args; properties = found } in
    take_as (message_spell m) (take_right (take_right (take_left (take_seq n (name_link.takes n tt) (take_left (message_takes d m f))))))
message_stage d S (aim.Output at) n args found f =
    let m : Send = record { aim = aim.Output at; handler = n; args = args; properties = found } in
    take_as (sent_spell m refl) (take_right (take_left (take_at (λ z. g.Message (record { aim = aim.Output z; handler = n; args = args; properties = found })) the.output (λ t.
    send_takes d (record { aim = aim.Output t.at; handler = n; args = args; properties = found })
    (message_fine d (record { aim = aim.Output t.at; handler = n; args = args; properties = found }) (output_aim t.at) (message_args d m f) (message_properties d m f))))))
message_stage d S (aim.Actor x) n args found f =
    let m : Send = record { aim = aim.Actor x; handler = n; args = args; properties = found } in
    record {
      word = λ u hl s.
          let k = cut (spell_expr x) (sent m) u (subst (λ z. Spells z u) (sent_spell m refl) s) in
          let l = subst (λ z. Lexemes z) (sym k.joined) hl in
          to_actor d S x (g.Message m) k.left k.right u
          (((postfix_link d (BelowWord d) (under_below d)).takes x (actor_parts x (message_aim d m f))).word k.left (lexemes_left k.left k.right l) k.first)
          ((send_takes d m f).word k.right (lexemes_right k.left k.right l) k.second) k.joined;
    }

join_stage : (d : ℕ) (S : Stmt → List Token → Type 0) → Inside d S → (at : ℕ) (list : List Stmt) → StageFine d (g.Join at list) → Takes (StageByWord d S) (g.Join at list) (spell_stage (g.Join at list))
unfolding StageByWord
join_stage d S h at list f = take_left (join_takes d S h at list f)

pub rolled_stage : (m : Stage) → roll-Stage (out-Stage m) ≡ m
rolled_stage m = search (rules, the_lemmas)

abbrev StageTakes : (d : ℕ) (S : Stmt → List Token → Type 0) → Stage → Type 0
StageTakes d S m = StageFine d m → Takes (StageByWord d S) m (spell_stage m)

stage_layer : (d : ℕ) (S : Stmt → List Token → Type 0) → Inside d S → (l : Stage-F Stage Stmt Chain) → StageTakes d S (roll-Stage l)
stage_layer d S h (Stage-F.Message m) = subst (λ z. StageTakes d S z) (sym (g.rolls-Message m)) (message_stage d S m.aim m.handler m.args m.properties)
stage_layer d S h (Stage-F.Join at list) = subst (λ z. StageTakes d S z) (sym (g.rolls-Join at list)) (join_stage d S h at list)

pub stage_link : (d : ℕ) (S : Stmt → List Token → Type 0) → Inside d S → Link (StageByWord d S) (StageFine d) spell_stage
stage_link d S h = record { gives = stage_gives d S h; takes = λ m. subst (λ z. StageTakes d S z) (rolled_stage m) (stage_layer d S h (out-Stage m)) }

-- ---- the end of a chain

stop_gives : Gives StopWord (λ p. Unit {0}) (λ p. spell_continuation p ++ sign ";")
stop_gives = gives_by (into_either
    (into_seq (token the.then_sign) (λ t h. into_seq (token_at the.current) (λ t2 h2. into_seq (token the.semicolon) (λ t3 h3. into_just (Some t2.at) tt refl))))
    (into_seq (token the.semicolon) (λ t h. into_just None tt refl)))

stop_takes : (p : Option ℕ) → Takes StopWord p (spell_continuation p ++ sign ";")
stop_takes None = take_right (take_token the.semicolon (λ t. take_just None refl))
stop_takes (Some at) = take_left (take_token the.then_sign (λ t. take_at (λ z. Some z) the.current (λ t2. take_token the.semicolon (λ t3. take_just (Some t2.at) refl))))

then_link : {d : ℕ} {W : Stage → List Token → Type 0} → Link W (StageFine d) spell_stage → Link (Seq (One is.then_sign) (λ _. W)) (StageFine d) (λ m. sign "@" ++ spell_stage m)
then_link l = record {
  gives = gives_by (into_seq (token the.then_sign) (λ t h. into_gives l.gives (λ m f. f) (λ m. refl)));
  takes = λ m f. take_token the.then_sign (λ t. l.takes m f);
}

abbrev tail_pieces : Tail → TreeTokens
tail_pieces t = each_after_sign "@" (map spell_stage t.stages) ++ (spell_continuation t.passed ++ sign ";")

led_step : (m : Stage) (others : List Stage) (q : TreeTokens) → (sign "@" ++ spell_stage m) ++ (each_after_sign "@" (map spell_stage others) ++ q) ≡ each_after_sign "@" (map spell_stage (m ∷ others)) ++ q
led_step m others q = ap (λ z. sign "@" ++ z) (sym (append_assoc (spell_stage m) (each_after_sign "@" (map spell_stage others)) q))

tail_gives : {d : ℕ} {W : Stage → List Token → Type 0} → Link W (StageFine d) spell_stage → Gives (TailWord W) (λ t. Each (StageFine d) t.stages) tail_pieces
tail_gives {d = d} {W = W} l = record { fact = λ t u hl w. facts t.passed t.stages u hl w; spells = λ t u hl w. spelled t.passed t.stages u hl w }
  where
    facts : (p : Option ℕ) (ms : List Stage) (u : List Token) → Lexemes u → StagesWord W p ms u → Each (StageFine d) ms
    facts p [] u hl w = tt
    facts p (m ∷ ms) u hl w =
        let k = subst (λ z. Lexemes z) (sym w.joined) hl in
        ((then_link l).gives.fact m w.left (lexemes_left w.left w.right k) w.first, facts p ms w.right (lexemes_right w.left w.right k) w.second)

    spelled : (p : Option ℕ) (ms : List Stage) (u : List Token) → Lexemes u → StagesWord W p ms u → Spells (each_after_sign "@" (map spell_stage ms) ++ (spell_continuation p ++ sign ";")) u
    spelled p [] u hl w = stop_gives.spells p u hl w
    spelled p (m ∷ ms) u hl w =
        let k = subst (λ z. Lexemes z) (sym w.joined) hl in
        subst (λ z. Spells z u) (led_step m ms (spell_continuation p ++ sign ";")) (subst (λ z. Spells ((sign "@" ++ spell_stage m) ++ (each_after_sign "@" (map spell_stage ms) ++ (spell_continuation p ++ sign ";"))) z) w.joined
        (join (sign "@" ++ spell_stage m) (each_after_sign "@" (map spell_stage ms) ++ (spell_continuation p ++ sign ";")) w.left w.right ((then_link l).gives.spells m w.left (lexemes_left w.left w.right k) w.first) (spelled p ms w.right (lexemes_right w.left w.right k) w.second)))

tail_words : {d : ℕ} {W : Stage → List Token → Type 0} → Link W (StageFine d) spell_stage → (p : Option ℕ) (ms : List Stage) → Each (StageFine d) ms
    → (u : List Token) → Lexemes u → Spells (each_after_sign "@" (map spell_stage ms) ++ (spell_continuation p ++ sign ";")) u → StagesWord W p ms u
tail_words l p [] f u hl s = (stop_takes p).word u hl s
tail_words l p (m ∷ ms) f u hl s =
    let k = cut (sign "@" ++ spell_stage m) (each_after_sign "@" (map spell_stage ms) ++ (spell_continuation p ++ sign ";")) u (subst (λ z. Spells z u) (sym (led_step m ms (spell_continuation p ++ sign ";"))) s) in
    let i = subst (λ z. Lexemes z) (sym k.joined) hl in
    record { left = k.left; right = k.right; first = ((then_link l).takes m f.0).word k.left (lexemes_left k.left k.right i) k.first; second = tail_words l p ms f.1 k.right (lexemes_right k.left k.right i) k.second; joined = k.joined }

tail_takes : {d : ℕ} {W : Stage → List Token → Type 0} → Link W (StageFine d) spell_stage → (t : Tail) → Each (StageFine d) t.stages → Takes (TailWord W) t (tail_pieces t)
tail_takes l t f = record { word = λ u hl s. tail_words l t.passed t.stages f u hl s }

-- ---- chains

stages_all : AllOf stage_is_regular (λ ms. all_true (map stage_is_regular ms))
stages_all = record { none = refl; more = λ x xs. refl }

chain_good : (d : ℕ) (first : Stage) (others : List Stage) → StageFine d first → Each (StageFine d) others → chain_is_regular (chain first others) ≡ true
chain_good d first others f h = regular-Stages (chain first others) ∙ (fine_each stages_all (first ∷ others) (f, h)).good

chain_fits : (d : ℕ) (first : Stage) (others : List Stage) → StageFine d first → Each (StageFine d) others → depth_chain (chain first others) ≤ d
chain_fits d first others f h = subst (λ z. z ≤ d) (sym (depth-Stages (chain first others))) (fine_each stages_all (first ∷ others) (f, h)).fits

pub chain_parts : (d : ℕ) (first : Stage) (others : List Stage) → chain_is_regular (chain first others) ≡ true → depth_chain (chain first others) ≤ d → Each (StageFine d) (first ∷ others)
chain_parts d first others g l = each_fine stages_all (first ∷ others) (record { good = sym (regular-Stages (chain first others)) ∙ g; fits = subst (λ z. z ≤ d) (depth-Stages (chain first others)) l })

pub no_chain : chain_is_regular (roll-Chain (record { stages = [] })) ≡ true → ⊥
no_chain g = let e : false ≡ true = sym (regular-Stages (roll-Chain (record { stages = [] }))) ∙ g in cc

pub chain_spell : (first : Stage) (others : List Stage) (p : Option ℕ)
    → spell_stage first ++ (each_after_sign "@" (map spell_stage others) ++ (spell_continuation p ++ sign ";")) ≡ spell_stmt (form.Chain (chain first others) p)
chain_spell first others p =
    sym (parts4 (spell_stage first) (each_after_sign "@" (map spell_stage others)) (spell_continuation p) (sign ";"))
    ∙ (ap (λ z. z ++ spell_continuation p ++ sign ";") (sym (spell-Stages (chain first others))) ∙ sym (spell-Chain (chain first others) p))

pub chain_into : (d : ℕ) (S : Stmt → List Token → Type 0) → Inside d S → (first : Stage) → StageFine d first → Into (StmtFine d) spell_stmt (λ q. spell_stage first ++ q) (ChainStmtWord d S first)
unfolding ChainStmtWord
chain_into d S h first f =
    into_end (λ t. form.Chain (chain first t.stages) t.passed) (tail_gives (stage_link d S h))
    (λ t i. stmt_by (regular-Chain (chain first t.stages) t.passed) (depth-Chain (chain first t.stages) t.passed) (chain_good d first t.stages f i) (chain_fits d first t.stages f i))
    (λ t. chain_spell first t.stages t.passed)

pub chain_takes : (d : ℕ) (S : Stmt → List Token → Type 0) → Inside d S → (first : Stage) (others : List Stage) (p : Option ℕ) → Each (StageFine d) others
    → Takes (ChainStmtWord d S first) (form.Chain (chain first others) p) (each_after_sign "@" (map spell_stage others) ++ (spell_continuation p ++ sign ";"))
unfolding ChainStmtWord
chain_takes d S h first others p f = take_end (λ (t : Tail). form.Chain (chain first t.stages) t.passed) (record { stages = others; passed = p }) (tail_takes (stage_link d S h) (record { stages = others; passed = p }) f) refl

-- ---- `token`

all_then : (ms : List Stage) → concat_tokens (map (λ m. sign "@" ++ spell_stage m) ms) ≡ each_after_sign "@" (map spell_stage ms)
all_then [] = refl
all_then (m ∷ ms) = ap (λ z. sign "@" ++ (spell_stage m ++ z)) (all_then ms)

token_spell : (at : ℕ) (n : Ident) (first : Stage) (others : List Stage)
    → word_at "token" at ++ (identifier n ++ (sign "=" ++ (spell_stage first ++ (concat_tokens (map (λ m. sign "@" ++ spell_stage m) others) ++ sign ";")))) ≡ spell_stmt (form.Token at n (chain first others))
token_spell at n first others =
    ap (λ z. word_at "token" at ++ (identifier n ++ (sign "=" ++ z)))
    (ap (λ z. spell_stage first ++ (z ++ sign ";")) (all_then others) ∙ (sym (append_assoc (spell_stage first) (each_after_sign "@" (map spell_stage others)) (sign ";")) ∙ ap (λ z. z ++ sign ";") (sym (spell-Stages (chain first others)))))
    ∙ sym (spell-Token at n (chain first others))

pub token_gives : (d : ℕ) (S : Stmt → List Token → Type 0) → Inside d S → Gives (TokenStmtWord d S) (StmtFine d) spell_stmt
unfolding TokenStmtWord
token_gives d S h =
    let l = stage_link d S h in
    gives_by (into_seq (token_at the.token) (λ t i. into_seq name_link.gives (λ n i2. into_seq (token the.assign) (λ t3 i3. into_seq l.gives (λ first f. into_seq (star_gives (then_link l).gives) (λ others j. into_seq (token the.semicolon) (λ t4 i4.
    into_just (form.Token t.at n (chain first others))
    (stmt_by (regular-Token t.at n (chain first others)) (depth-Token t.at n (chain first others)) (chain_good d first others f j) (chain_fits d first others f j))
    (token_spell t.at n first others))))))))

pub token_takes : (d : ℕ) (S : Stmt → List Token → Type 0) → Inside d S → (at : ℕ) (n : Ident) (first : Stage) (others : List Stage) → Each (StageFine d) (first ∷ others)
    → Takes (TokenStmtWord d S) (form.Token at n (chain first others)) (spell_stmt (form.Token at n (chain first others)))
unfolding TokenStmtWord
token_takes d S h at n first others f =
    let l = stage_link d S h in
    take_as (sym (token_spell at n first others)) (take_at (λ z. form.Token z n (chain first others)) the.token (λ t. take_seq n (name_link.takes n tt) (take_token the.assign (λ t2.
    take_seq first (l.takes first f.0) (take_seq others (star_takes (then_link l).takes others f.1) (take_token the.semicolon (λ t3. take_just (form.Token t.at n (chain first others)) refl)))))))
