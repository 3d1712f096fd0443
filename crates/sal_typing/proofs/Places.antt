-- Wherever a statement of a typed program stands, it is typed.
use Rattle.std.proofs.Common.{◌≡◌, ℕ, zero, suc, Bool, true, not, ◌&&◌, List, [], ◌∷◌, ◌++◌, map, filter_map, Option, Some, None, option_map, refl, sym, ap, subst, ◌∙◌}
use Rattle.std.specs.Prelude.{slice_get}
use Rattle.std.specs.List.{list_all}
use Rattle.std.proofs.lemmas.Bool.{and_parts, and_from}
use Rattle.sal_ast.specs.declared.program.Member.{Member}
use Rattle.sal_ast.specs.declared.program.Member.TheVariants as m
use Rattle.sal_ast.specs.declared.program.Behavior.{Behavior}
use Rattle.sal_ast.specs.declared.expression.Expr.{Expr}
use Rattle.sal_ast.specs.declared.statement.Stage.{Stage}
use Rattle.sal_ast.specs.declared.statement.Stmt.{Stmt}
use Rattle.sal_ast.specs.declared.statement.Chain.{Chain}
use Rattle.sal_ast.specs.declared.statement.Stmt.TheVariants as t
use Rattle.sal_ast.specs.declared.statement.Stage.TheVariants as g
use Rattle.sal_ast.specs.declared.statement.Stage.TheOpen.{Stage-F, Stmt-F}
use Rattle.sal_ast.specs.Members.{Handler, as_handler, as_constructor, handlers_of, constructor_of}
use Rattle.sal_ast.specs.Regular.{Form, all_forms_regular, has_any, all_true, expr_is_regular, option_is_regular, init_is_regular, assign_is_regular, or_true, form_of, stage_is_regular, chain_is_regular, block_is_regular, member_is_regular, behavior_is_regular, is_regular}
use Rattle.sal_ast.proofs.RegularEquations.{regular-Block, regular-If, regular-While, regular-For, regular-Token, regular-Chain, regular-Stages, regular-Join}
use Rattle.sal_sorts.specs.declared.sort.Sort.{Sort}
use Rattle.sal_sorts.specs.Environments.{Environment}
use Rattle.sal_sorts.specs.Verdicts.{Good}
use Rattle.sal_types.specs.Statements.{StmtTyping, StageWithStart, join_environment, stmt_typing}
use Rattle.sal_types.proofs.StatementEquations.{typing-Block, typing-If, typing-While, typing-For, typing-Token, typing-Chain, typing-Join}
use Rattle.sal_typing.specs.Known.{Each, IsKnown}
use Rattle.sal_typing.specs.StatementParts.{HasResults, after_stmt, after_init, SequenceParts, StagesParts, StageHasSort, StmtParts}
use Rattle.sal_typing.specs.Places.{StandsIn, Here, Later, InBlock, InThen, InElse, InWhile, InFor, InToken, InChain, IsTypedThere, StatementsAreTypedThere}
use Rattle.sal_typing.proofs.Inverting.{some_is}
use Rattle.sal_typing.proofs.Finding.{each_at}
use Rattle.sal_typing.proofs.Scopes.{known_in_join}
use Rattle.sal_typing.proofs.Statements.{keep_scopes, init_stays}
use Rattle.sal_typing.proofs.StatementParts.{form_parts, stage_form_parts}
use Rattle.sal_typing.proofs.Members.{each_kept, programs_have_parts}

-- ---- statements

typed_as : (st : Stmt) (m : StmtTyping) (env : Environment) (rs : List Sort) → stmt_typing st ≡ m → HasResults env st rs → (m env).1 ≡ Good rs
typed_as st m env rs e h = ap (λ (x : StmtTyping). (x env).1) (sym e) ∙ h

regular_as : (st : Stmt) (f : Form) → form_of st ≡ f → (form_of st).regular ≡ true → f.regular ≡ true
regular_as st f e h = ap (λ (x : Form). x.regular) (sym e) ∙ h

one_statement : (st : Stmt) (env : Environment) (rs : List Sort) → HasResults env st rs → SequenceParts (st ∷ []) env (rs ++ [])
one_statement st env rs h = (rs, [], h, refl, refl)

one_regular : (st : Stmt) → (form_of st).regular ≡ true → all_forms_regular (map form_of (st ∷ [])) ≡ true
one_regular st h = and_from (form_of st).regular true h refl

if_typed : (at : ℕ) (test : Expr) (first : Stmt) (second : Option Stmt) (env : Environment) (rs : List Sort) → HasResults env (t.If at test first second) rs → StmtParts (Stmt-F.If at test first second) env rs
if_typed at test first None env rs h = form_parts (Stmt-F.If at test first None) env rs (typed_as (t.If at test first None) _ env rs (typing-If at test first None) h)
if_typed at test first (Some second) env rs h = form_parts (Stmt-F.If at test first (Some second)) env rs (typed_as (t.If at test first (Some second)) _ env rs (typing-If at test first (Some second)) h)

then_regular : (at : ℕ) (test : Expr) (first : Stmt) (second : Option Stmt) → (form_of (t.If at test first second)).regular ≡ true → (form_of first).regular ≡ true
then_regular at test first None h = (and_parts (expr_is_regular test) (form_of first).regular (regular_as (t.If at test first None) _ (regular-If at test first None) h)).1
then_regular at test first (Some second) h =
    let all = and_parts (expr_is_regular test && (form_of first).regular && not (form_of first).takes_else) (form_of second).regular (regular_as (t.If at test first (Some second)) _ (regular-If at test first (Some second)) h) in
    (and_parts (expr_is_regular test) (form_of first).regular (and_parts (expr_is_regular test && (form_of first).regular) (not (form_of first).takes_else) all.0).0).1

else_regular : (at : ℕ) (test : Expr) (first second : Stmt) → (form_of (t.If at test first (Some second))).regular ≡ true → (form_of second).regular ≡ true
else_regular at test first second h =
    (and_parts (expr_is_regular test && (form_of first).regular && not (form_of first).takes_else) (form_of second).regular (regular_as (t.If at test first (Some second)) _ (regular-If at test first (Some second)) h)).1

-- ---- stages

-- a stage of a typed chain is typed behind the one before it
stage_typed : (gs : List Stage) (before : Option Sort) (env : Environment) (s : Sort) (k : ℕ) (x : Stage) → StagesParts before gs env s → slice_get gs k ≡ Some x → (o : Option Sort) × (u : Sort) × StageHasSort env o x u
stage_typed [] before env s k x h e = absurd cc
stage_typed (y ∷ gs) before env s zero x h e = let same : y ≡ x = some_is y x e in (before, h.0, subst (λ z. StageHasSort env before z h.0) same h.1)
stage_typed (y ∷ gs) before env s (suc k) x h e = stage_typed gs (Some h.0) env s k x h.2 e

stage_regular : (gs : List Stage) (k : ℕ) (x : Stage) → all_true (map stage_is_regular gs) ≡ true → slice_get gs k ≡ Some x → stage_is_regular x ≡ true
stage_regular [] k x h e = absurd cc
stage_regular (y ∷ gs) zero x h e = let same : y ≡ x = some_is y x e in subst (λ z. stage_is_regular z ≡ true) same (and_parts (stage_is_regular y) (all_true (map stage_is_regular gs)) h).0
stage_regular (y ∷ gs) (suc k) x h e = stage_regular gs k x (and_parts (stage_is_regular y) (all_true (map stage_is_regular gs)) h).1 e

-- the block of a join of a typed chain
record JoinIsTyped (env : Environment) (body : List Stmt) : Type 0 where
  pub regular : all_forms_regular (map form_of body) ≡ true
  pub results : List Sort
  pub parts : SequenceParts body (join_environment env) results

join_typed : (chain : Chain) (env : Environment) (s : Sort) (k place : ℕ) (body : List Stmt) → chain_is_regular chain ≡ true → StagesParts None chain.stages env s → slice_get chain.stages k ≡ Some (g.Join place body) → JoinIsTyped env body
join_typed chain env s k place body r h e =
    let fine = and_parts (has_any (map stage_is_regular chain.stages)) (all_true (map stage_is_regular chain.stages)) (sym (regular-Stages chain) ∙ r) in
    let here = stage_typed chain.stages None env s k (g.Join place body) h e in
    let parts = stage_form_parts (Stage-F.Join place body) env here.0 here.1 (ap (λ (x : StageWithStart). x.1 env here.0) (sym (typing-Join place body)) ∙ here.2) in
    record { regular = sym (regular-Join place body) ∙ stage_regular chain.stages k (g.Join place body) fine.1 e; results = parts.0; parts = parts.1 }

-- ---- places

stand : (mine : ℕ) (list : List Stmt) (env : Environment) (x : Stmt) (e : Environment) → StandsIn list env x e → IsKnown env mine → all_forms_regular (map form_of list) ≡ true → (rs : List Sort) → SequenceParts list env rs → IsTypedThere x e mine
stand mine list env x e (Here _ sts _) h r rs p =
    record { known = h; regular = (and_parts (form_of x).regular (all_forms_regular (map form_of sts)) r).0; results = p.0; typed = p.2 }
stand mine list env x e (Later st sts _ _ _ d) h r rs p =
    let fine = and_parts (form_of st).regular (all_forms_regular (map form_of sts)) r in
    stand mine sts (after_stmt env st) x e d (keep_scopes env mine h st fine.0 p.0 p.2).after fine.1 p.1 p.3
stand mine list env x e (InBlock at body sts _ _ _ d) h r rs p =
    let fine = (and_parts (form_of (t.Block at body)).regular (all_forms_regular (map form_of sts)) r).0 in
    stand mine body env x e d h (regular_as (t.Block at body) _ (regular-Block at body) fine) p.0 (form_parts (Stmt-F.Block at body) env p.0 (typed_as (t.Block at body) _ env p.0 (typing-Block at body) p.2))
stand mine list env x e (InThen at test first second sts _ _ _ d) h r rs p =
    let fine = (and_parts (form_of (t.If at test first second)).regular (all_forms_regular (map form_of sts)) r).0 in
    let q = if_typed at test first second env p.0 p.2 in
    stand mine (first ∷ []) env x e d h (one_regular first (then_regular at test first second fine)) (q.0 ++ []) (one_statement first env q.0 q.3)
stand mine list env x e (InElse at test first second sts _ _ _ d) h r rs p =
    let fine = (and_parts (form_of (t.If at test first (Some second))).regular (all_forms_regular (map form_of sts)) r).0 in
    let q = if_typed at test first (Some second) env p.0 p.2 in
    stand mine (second ∷ []) env x e d h (one_regular second (else_regular at test first second fine)) (q.1 ++ []) (one_statement second env q.1 q.4)
stand mine list env x e (InWhile at test body sts _ _ _ d) h r rs p =
    let fine = (and_parts (form_of (t.While at test body)).regular (all_forms_regular (map form_of sts)) r).0 in
    let inner = (and_parts (expr_is_regular test) (form_of body).regular (regular_as (t.While at test body) _ (regular-While at test body) fine)).1 in
    let q = form_parts (Stmt-F.While at test body) env p.0 (typed_as (t.While at test body) _ env p.0 (typing-While at test body) p.2) in
    stand mine (body ∷ []) env x e d h (one_regular body inner) (p.0 ++ []) (one_statement body env p.0 q.1)
stand mine list env x e (InFor at first test next body sts _ _ _ d) h r rs p =
    let fine = (and_parts (form_of (t.For at first test next body)).regular (all_forms_regular (map form_of sts)) r).0 in
    let inner = (and_parts (init_is_regular first && option_is_regular test && or_true (option_map assign_is_regular next)) (form_of body).regular (regular_as (t.For at first test next body) _ (regular-For at first test next body) fine)).1 in
    let q = form_parts (Stmt-F.For at first test next body) env p.0 (typed_as (t.For at first test next body) _ env p.0 (typing-For at first test next body) p.2) in
    let known = init_stays at first test next body env mine h p.0 (typed_as (t.For at first test next body) _ env p.0 (typing-For at first test next body) p.2) in
    stand mine (body ∷ []) (after_init env first) x e d known (one_regular body inner) (p.0 ++ []) (one_statement body (after_init env first) p.0 q.3)
stand mine list env x e (InToken at name chain sts k place body _ _ _ i d) h r rs p =
    let fine = (and_parts (form_of (t.Token at name chain)).regular (all_forms_regular (map form_of sts)) r).0 in
    let q = form_parts (Stmt-F.Token at name chain) env p.0 (typed_as (t.Token at name chain) _ env p.0 (typing-Token at name chain) p.2) in
    let j = join_typed chain env q.0 k place body (regular_as (t.Token at name chain) _ (regular-Token at name chain) fine) q.1 i in
    stand mine body (join_environment env) x e d (known_in_join env mine h) j.regular j.results j.parts
stand mine list env x e (InChain chain passed sts k place body _ _ _ i d) h r rs p =
    let fine = (and_parts (form_of (t.Chain chain passed)).regular (all_forms_regular (map form_of sts)) r).0 in
    let q = form_parts (Stmt-F.Chain chain passed) env p.0 (typed_as (t.Chain chain passed) _ env p.0 (typing-Chain chain passed) p.2) in
    let j = join_typed chain env q.0 k place body (regular_as (t.Chain chain passed) _ (regular-Chain chain passed) fine) q.1 i in
    stand mine body (join_environment env) x e d (known_in_join env mine h) j.regular j.results j.parts

-- ---- programs

each_of_all : {X : Type 0} (p : X → Bool) (xs : List X) → list_all p xs ≡ true → Each (λ x. p x ≡ true) xs
each_of_all p [] h = tt
each_of_all p (x ∷ xs) h = let both = and_parts (p x) (list_all p xs) h in (both.0, each_of_all p xs both.1)

handler_regular : (x : Member) (h : Handler) → member_is_regular x ≡ true → as_handler x ≡ Some h → block_is_regular h.body ≡ true
handler_regular (m.Field sort name init) h r e = absurd cc
handler_regular (m.Constructor name params body) h r e = absurd cc
handler_regular (m.Handler result name params body) h r e =
    subst (λ (y : Handler). block_is_regular y.body ≡ true) (some_is (record { name = name.text; result = result; params = params; body = body }) h e) r

constructor_regular : (x : Member) (h : Handler) → member_is_regular x ≡ true → as_constructor x ≡ Some h → block_is_regular h.body ≡ true
constructor_regular (m.Field sort name init) h r e = absurd cc
constructor_regular (m.Constructor name params body) h r e =
    subst (λ (y : Handler). block_is_regular y.body ≡ true) (some_is (record { name = name.text; result = None; params = params; body = body }) h e) r
constructor_regular (m.Handler result name params body) h r e = absurd cc

pub typed_there : StatementsAreTypedThere
unfolding handlers_of constructor_of is_regular
typed_there p a n b i =
    let all = (and_parts (has_any p.behaviors) (list_all behavior_is_regular p.behaviors) a.readable.regular).1 in
    let members : list_all member_is_regular b.members ≡ true = each_at (λ (y : Behavior). behavior_is_regular y ≡ true) p.behaviors n b (each_of_all behavior_is_regular p.behaviors all) i in
    let each = each_of_all member_is_regular b.members members in
    let parts = (programs_have_parts p a.typed).behaviors n b i in (
      λ k h j x e d.
          let body = (parts.handlers k h j).0 in
          let fine = each_at (λ (y : Handler). block_is_regular y.body ≡ true) (filter_map as_handler b.members) k h (each_kept (λ z. member_is_regular z ≡ true) (λ (y : Handler). block_is_regular y.body ≡ true) as_handler handler_regular b.members each) j in
          stand n h.body _ x e d body.known fine body.results body.parts,
      λ c j x e d.
          let body = parts.constructors c j in
          let fine = each_at (λ (y : Handler). block_is_regular y.body ≡ true) (filter_map as_constructor b.members) 0 c (each_kept (λ z. member_is_regular z ≡ true) (λ (y : Handler). block_is_regular y.body ≡ true) as_constructor constructor_regular b.members each) j in
          stand n c.body _ x e d body.known fine body.results body.parts,
    )
