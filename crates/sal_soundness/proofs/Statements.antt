-- In a typed program each statement, stage and chain keeps the state typed.
use Rattle.std.proofs.Common.{◌≡◌, inl, inr, ℕ, ◌+◌, ◌<◌, ◌≤◌, Bool, true, false, not, ◌&&◌, cond, nat_lt, List, [], ◌∷◌, ◌++◌, map, Option, Some, None, option_map, refl, sym, ap, subst, ◌∙◌, arith}
use Rattle.std.specs.List.{list_all}
use Rattle.std.proofs.lemmas.Bool.{and_parts, not-true, ltb-true, and_right, ne_eqb}
use Rattle.sal_value.specs.declared.value.Sort.{Sort as MeantSort}
use Rattle.sal_value.proofs.Tables.{some_is}
use Rattle.sal_ast.specs.declared.program.Program.{Program}
use Rattle.sal_ast.specs.declared.program.Ident.{Ident}
use Rattle.sal_ast.specs.declared.expression.Expr.{Expr}
use Rattle.sal_ast.specs.declared.statement.Assign.{Assign}
use Rattle.sal_ast.specs.declared.statement.Declare.{Declare}
use Rattle.sal_ast.specs.declared.statement.ForInit.{ForInit}
use Rattle.sal_ast.specs.declared.statement.ForInit.TheVariants as init
use Rattle.sal_ast.specs.declared.statement.Send.{Send}
use Rattle.sal_ast.specs.declared.statement.Stage.{Stage}
use Rattle.sal_ast.specs.declared.statement.Stmt.{Stmt}
use Rattle.sal_ast.specs.declared.statement.Chain.{Chain}
use Rattle.sal_ast.specs.declared.statement.Stage.TheViews.{roll-Stage, roll-Stmt, roll-Chain}
use Rattle.sal_ast.specs.declared.statement.Stage.TheOpen.{Stage-F, Stmt-F, Chain-F}
use Rattle.sal_ast.specs.declared.statement.Stage.TheFolds.{map-Stage, map-Stmt, map-Chain, fold-roll-Stage, fold-roll-Stmt, fold-roll-Chain}
use Rattle.sal_ast.specs.Regular as regular
use Rattle.sal_ast.specs.Regular.{Form, all_forms_regular, has_any, all_true, or_true, expr_is_regular, option_is_regular, assign_is_regular, init_is_regular, send_is_regular, form_of, stage_is_regular, chain_is_regular}
use Rattle.sal_ast.specs.Sorts.{Scope, scope_with_local, type_sort, is_void_join}
use Rattle.sal_sorts.specs.declared.sort.Base.TheVariants.{Boolean, Void}
use Rattle.sal_sorts.specs.declared.sort.Sort.{Sort}
use Rattle.sal_sorts.specs.declared.variable.Variable.{Variable}
use Rattle.sal_sorts.specs.Sorts.{plain, is_void_sort, is_same_base, is_same_sort, array_sort, sort_of_type}
use Rattle.sal_sorts.specs.Environments.{Environment, with_variable}
use Rattle.sal_sorts.specs.Messages.{or_void}
use Rattle.sal_sorts.specs.Verdicts.{Verdict, Good}
use Rattle.sal_types.specs.declared.signature.Signature.{Signature}
use Rattle.sal_types.specs.Programs.{IsTyped}
use Rattle.sal_types.specs.Statements as typing
use Rattle.sal_types.specs.Statements.{StmtTyping, StageWithStart, no_results, statement_rules, free_rules, leave_rules, sequence_verdict, fits_join, join_rules, join_environment, stages_verdict, chain_start, sort_or_void, continuation_rules, for_init_typing, stmt_typing, stage_typing, chain_typing}
use Rattle.sal_typing.specs.Numbers.{number_base, number_sort, scope_of}
use Rattle.sal_typing.specs.Known.{Each, IsReplySort, IsKnown}
use Rattle.sal_typing.specs.Parts.{HasSort, HasSortIfAny}
use Rattle.sal_typing.specs.StatementParts.{HasResults, after_stmt, after_init, SequenceParts, StageHasSort, AssignParts, InitParts, NextParts}
use Rattle.sal_typing.proofs.Inverting.{good_is, node_parts, bind_parts, rule_holds, none_right}
use Rattle.sal_typing.proofs.Numbering.{number_of_type, sort_parts}
use Rattle.sal_typing.proofs.ExpressionParts.{same_sort_is}
use Rattle.sal_typing.proofs.Finding.{each_join}
use Rattle.sal_typing.proofs.Messages as messages
use Rattle.sal_typing.proofs.Scopes.{known_in_join, scope_with}
use Rattle.sal_typing.proofs.Statements.{keep_scopes, void_joins, init_stays}
use Rattle.sal_typing.proofs.StatementParts.{sequence_parts, typed_form, form_parts, typed_stage}
use Rattle.sal_handler.specs.declared.state.EnclosingJoin.{EnclosingJoin}
use Rattle.sal_handler.specs.declared.state.Flow.{Flow}
use Rattle.sal_handler.specs.declared.state.State.{State}
use Rattle.sal_handler.specs.Evaluation.{Eval}
use Rattle.sal_handler.specs.Scopes.{Context}
use Rattle.sal_handler.specs.Scopes as c
use Rattle.sal_handler.specs.Messages.{message}
use Rattle.sal_handler.specs.Statements as t
use Rattle.sal_handler.specs.Statements.{StageWithTree, StmtWithTree, ChainWithTree, StageDenotation, stage_step, stmt_step, chain_step, stage_denotation, stmt_denotation, stmt_with_tree, tree_of, denotation_of}
use Rattle.sal_handler.specs.WellFormed.{EachOf}
use Rattle.sal_handler.proofs.After.{After, after_more}
use Rattle.sal_handler.proofs.Executions.{parts}
use Rattle.sal_handler.proofs.Induction.{OfStage, OfStmt, of_stmt}
use Rattle.sal_fitting.specs.Programs.{signatures}
use Rattle.sal_fitting.specs.Messages.{join_sort}
use Rattle.sal_fitting.specs.Signatures.{void_sort}
use Rattle.sal_soundness.proofs.Anywhere.{Can}
use Rattle.sal_soundness.proofs.Sending as sending
use Rattle.sal_soundness.proofs.Sending.{FlowOk}
use Rattle.sal_soundness.proofs.Executing as executing
use Rattle.sal_soundness.proofs.Assigning as assigning
use Rattle.sal_soundness.proofs.Sends as sends
use Rattle.sal_soundness.proofs.Sends.{token_kind, tokens, before_kind, number_no_null, void_kind}
use Rattle.sal_soundness.proofs.Ending.{denotations}
use Rattle.sal_soundness.proofs.Leaves as leaves

-- ---- lists

map_one : {X Y : Type 0} (f : X → Y) (xs : List X) (x : X) → map f xs ++ f x ∷ [] ≡ map f (xs ++ x ∷ [])
map_one f [] x = refl
map_one f (y ∷ xs) x = ap (λ l. f y ∷ l) (map_one f xs x)

each_left : {X : Type 0} (P : X → Type 0) (xs ys : List X) → EachOf P (xs ++ ys) → EachOf P xs
each_left P [] ys h = tt
each_left P (x ∷ xs) ys h = (h.0, each_left P xs ys h.1)

each_right : {X : Type 0} (P : X → Type 0) (xs ys : List X) → EachOf P (xs ++ ys) → EachOf P ys
each_right P [] ys h = h
each_right P (x ∷ xs) ys h = each_right P xs ys h.1

-- ---- types of joins

same_base : (s : Sort) → is_void_sort s ≡ true → s ≡ plain Void
unfolding is_void_sort
same_base s h = same_sort_is s (plain Void) h

array_no_void : (s : Sort) → is_void_sort (array_sort s) ≡ false
unfolding is_void_sort is_same_sort array_sort
array_no_void s = and_right (is_same_base s.base Void) _ (ne_eqb (s.dims + 1) 0 (λ e. omega (arith, e)))

module _ (p : Program) (typed : IsTyped p) (g : Signature) (from : ℕ) where
  abbrev num : Sort → Option MeantSort
  num s = number_sort s p.behaviors

  array_number : (s : Sort) (slot : MeantSort) → num s ≡ Some slot → s.dims < 8 → num (array_sort s) ≡ Some (record { base = slot.base; dims = slot.dims + 1 })
  unfolding number_sort array_sort
  array_number s slot is small =
      let q = sort_parts (number_base s.base p.behaviors) s.dims slot is in
      let few : s.dims + 1 ≤ 8 = omega arith in
      leaves.below_is (number_base s.base p.behaviors) q.base (s.dims + 1) q.known few ∙ ap (λ (z : MeantSort). Some (record { base = z.base; dims = z.dims + 1 })) (sym q.is)

  -- what a join of these gives, in the meaning's types
  join_number : (s : Sort) (slot : MeantSort) → num s ≡ Some slot → s.dims < 8 → num (cond (is_void_sort s) s (array_sort s)) ≡ Some (join_sort (is_void_sort (cond (is_void_sort s) s (array_sort s))) slot)
  join_number s slot is small = by (is_void_sort s) refl
    where
      by : (b : Bool) → is_void_sort s ≡ b → num (cond b s (array_sort s)) ≡ Some (join_sort (is_void_sort (cond b s (array_sort s))) slot)
      by true e = ap num (same_base s e) ∙ void_kind p.behaviors ∙ ap (λ b. Some (join_sort b slot)) (sym e)
      by false e = array_number s slot is small ∙ ap (λ b. Some (join_sort b slot)) (sym (array_no_void s))

  -- ---- where statements stand

  -- What is known where a statement stands: its place, the result of the handler, and that a join's block is around where it is.
  pub record Stands (env : Environment) (mine : ℕ) (r : Context) : Type 0 where
    pub known : IsKnown env mine
    pub same : env.behaviors ≡ p.behaviors
    pub result : num env.result ≡ Some g.result
    pub outside : env.in_join ≡ false → r.within ≡ []

  stands_with : (env : Environment) (mine : ℕ) (r : Context) (o : Option Variable) → Stands env mine r → IsKnown (with_variable env o) mine → Stands (with_variable env o) mine r
  stands_with env mine r None a k = a
  stands_with env mine r (Some v) a k = record { known = k; same = a.same; result = a.result; outside = a.outside }

  stands_in_join : (env : Environment) (mine : ℕ) (r : Context) (n : ℕ) (before : Option ℕ) → Stands env mine r → Stands (join_environment env) mine (t.within_join n before r)
  stands_in_join env mine r n before a = record { known = known_in_join env mine a.known; same = a.same; result = a.result; outside = λ e. absurd cc }

  -- a plain chain gives what the innermost join takes
  abbrev TakenBy : List EnclosingJoin → Option MeantSort → MeantSort → Type 0
  TakenBy [] item u = Unit {0}
  TakenBy (i ∷ is) item u = item ≡ Some u

  abbrev pub Fitting : Context → Option MeantSort → List Sort → Type 0
  Fitting r item results = EachOf (λ s. (u : MeantSort) → num s ≡ Some u → TakenBy r.within item u) results

  -- ---- what holds of each form

  abbrev Held : (env : Environment) → ℕ → Context → Option MeantSort → sending.Sorts → State → Type 0
  Held env mine r item = sending.Holds p.behaviors (signatures p) g from r (scope_of env mine) (tokens env) item

  abbrev Stays : Environment → ℕ → Context → Option MeantSort → Eval Flow → Type 0
  Stays env mine r item x = executing.Stays p.behaviors (signatures p) g from r item (scope_of env mine) (tokens env) x

  -- it runs where this is in scope, and brings this name
  abbrev Runs : Environment → ℕ → Context → Option MeantSort → Option Variable → Eval Flow → Type 0
  Runs env mine r item o x = executing.Stmt p.behaviors (signatures p) g from r item (scope_of env mine) (scope_of (with_variable env o) mine) (tokens env) (tokens (with_variable env o)) x

  abbrev StageHeld : (env : Environment) → ℕ → (r : Context) → Can p.behaviors r → Option MeantSort → StageDenotation → Option MeantSort → MeantSort → Type 0
  StageHeld env mine r can item x before u = sending.StageHeld p.behaviors (signatures p) g from r can (scope_of env mine) (tokens env) item x before u

  -- the stage gives a type that is known
  record IsStage (env : Environment) (mine : ℕ) (r : Context) (can : Can p.behaviors r) (item : Option MeantSort) (x : StageDenotation) (before : Option Sort) (s : Sort) : Type 0 where
    sort : MeantSort
    is : num s ≡ Some sort
    reply : IsReplySort s env.behaviors
    held : StageHeld env mine r can item x (before_kind env.behaviors before) sort

  abbrev ChainOf : (env : Environment) → ℕ → (r : Context) → Can p.behaviors r → Option MeantSort → List StageDenotation → Option MeantSort → MeantSort → Type 0
  ChainOf env mine r can item [] before u = ⊥
  ChainOf env mine r can item (x ∷ more) before u = sending.ChainOf p.behaviors (signatures p) g from r can (scope_of env mine) (tokens env) item x more before u

  record IsChain (env : Environment) (mine : ℕ) (r : Context) (can : Can p.behaviors r) (item : Option MeantSort) (xs : List StageDenotation) (before : Option Sort) (s : Sort) : Type 0 where
    sort : MeantSort
    is : num s ≡ Some sort
    of : ChainOf env mine r can item xs (before_kind env.behaviors before) sort

  abbrev T : StmtWithTree → Type 0
  T q = (env : Environment) (mine : ℕ) (r : Context) (item : Option MeantSort) → Stands env mine r → Can p.behaviors r → (results : List Sort) → HasResults env q.0 results → (form_of q.0).regular ≡ true → Fitting r item results → Runs env mine r item (stmt_typing q.0 env).0 (q.1 r)

  abbrev IsKnownBefore : Environment → Option Sort → Type 0
  IsKnownBefore env before = (s : Sort) → before ≡ Some s → IsReplySort s env.behaviors

  abbrev G : StageWithTree → Type 0
  G q = (env : Environment) (mine : ℕ) (r : Context) (item : Option MeantSort) → Stands env mine r → (can : Can p.behaviors r) → (before : Option Sort) → IsKnownBefore env before → (s : Sort) → StageHasSort env before q.0 s → stage_is_regular q.0 ≡ true → IsStage env mine r can item q.1 before s

  abbrev C : ChainWithTree → Type 0
  C q = (env : Environment) (mine : ℕ) (r : Context) (item : Option MeantSort) → Stands env mine r → (can : Can p.behaviors r) → (s : Sort) → stages_verdict None (chain_typing q.0) env ≡ Good s → chain_is_regular q.0 ≡ true → IsChain env mine r can item q.1 None s

  -- ---- statements one after another

  sequence_of : (list : List StmtWithTree) → EachOf T list → (env : Environment) (mine : ℕ) (r : Context) (item : Option MeantSort) → Stands env mine r → Can p.behaviors r → (rs : List Sort) → SequenceParts (map tree_of list) env rs → all_forms_regular (map form_of (map tree_of list)) ≡ true → Fitting r item rs
      → executing.SequenceOf p.behaviors (signatures p) g from r item (map denotation_of list) (scope_of env mine) (tokens env)
  sequence_of [] each env mine r item a can rs h fine fits = tt
  sequence_of (q ∷ list) each env mine r item a can rs h fine fits =
      let both = and_parts (form_of q.0).regular (all_forms_regular (map form_of (map tree_of list))) fine in
      let all : Fitting r item (h.0 ++ h.1) = subst (Fitting r item) (sym h.4) fits in
      let P : Sort → Type 0 = λ s. (u : MeantSort) → num s ≡ Some u → TakenBy r.within item u in
      let after = (keep_scopes env mine a.known q.0 both.0 h.0 h.2).after in
      let next : Environment = after_stmt env q.0 in (
        scope_of next mine,
        (
          tokens next,
          (
            each.0 env mine r item a can h.0 h.2 both.0 (each_left P h.0 h.1 all),
            sequence_of list each.1 next mine r item (stands_with env mine r (stmt_typing q.0 env).0 a after) can h.1 h.3 both.1 (each_right P h.0 h.1 all),
          ),
        ),
      )

  -- the results of statements one after another are known
  replies_of : (list : List Stmt) (env : Environment) (mine : ℕ) → IsKnown env mine → (rs : List Sort) → SequenceParts list env rs → all_forms_regular (map form_of list) ≡ true → env.behaviors ≡ p.behaviors → Each (λ s. IsReplySort s p.behaviors) rs
  replies_of [] env mine k rs h fine same = subst (Each (λ s. IsReplySort s p.behaviors)) h tt
  replies_of (x ∷ list) env mine k rs h fine same =
      let both = and_parts (form_of x).regular (all_forms_regular (map form_of list)) fine in
      let here = keep_scopes env mine k x both.0 h.0 h.2 in
      subst (Each (λ s. IsReplySort s p.behaviors)) h.4
      (each_join (λ s. IsReplySort s p.behaviors) h.0 h.1 (subst (λ b. Each (λ s. IsReplySort s b) h.0) same here.replies) (replies_of list (after_stmt env x) mine here.after h.1 h.3 both.1 (there (stmt_typing x env).0)))
    where
      there : (o : Option Variable) → (with_variable env o).behaviors ≡ p.behaviors
      there None = same
      there (Some v) = same

  -- ---- stages

  message_of : (y : Send) (env : Environment) (mine : ℕ) (r : Context) (item : Option MeantSort) → Stands env mine r → (can : Can p.behaviors r) → (before : Option Sort) → IsKnownBefore env before → (s : Sort) → (typed_stage (Stage-F.Message y)).1 env before ≡ Good s → send_is_regular y ≡ true → IsStage env mine r can item (message y) before s
  message_of y env mine r item a can before kb s h fine =
      let parts = messages.message_parts env a.known.few y before s h in
      let m = sends.send_of p typed env mine a.known a.same g from item r can y before s fine kb parts in
      record {
        sort = m.signature.result;
        is = ap (number_sort s) (sym a.same) ∙ m.result;
        reply = (messages.messages_have_sorts env mine a.known y before s h).1;
        held = sending.message_stage p.behaviors (signatures p) g from r can (scope_of env mine) (tokens env) item y m.signature (before_kind env.behaviors before) m.send;
      }

  pub slot_of : (s : Sort) → IsReplySort s p.behaviors → (u : MeantSort) × (num s ≡ Some u)
  slot_of s (inl e) = (void_sort, ap num e ∙ void_kind p.behaviors)
  slot_of s (inr v) = (v.number, v.means)

  void_is_void : is_void_sort (plain Void) ≡ true
  unfolding is_void_sort is_same_sort
  void_is_void = refl

  join_reply : (s : Sort) → IsReplySort s p.behaviors → s.dims < 8 → IsReplySort (cond (is_void_sort s) s (array_sort s)) p.behaviors
  unfolding array_sort
  join_reply s k small = by (is_void_sort s) refl k
    where
      by : (b : Bool) → is_void_sort s ≡ b → IsReplySort s p.behaviors → IsReplySort (cond b s (array_sort s)) p.behaviors
      by true e h = h
      by false e (inl h) = let f : true ≡ false = sym void_is_void ∙ (ap is_void_sort (sym h) ∙ e) in absurd cc
      by false e (inr v) = inr (record { number = record { base = v.number.base; dims = v.number.dims + 1 }; means = array_number s v.number v.means small; no_void = v.no_void })

  same_sorts : (s : Sort) (ss : List Sort) → list_all (is_same_sort s) ss ≡ true → EachOf (λ x. s ≡ x) ss
  same_sorts s [] h = tt
  same_sorts s (x ∷ ss) h = let both = and_parts (is_same_sort s x) (list_all (is_same_sort s) ss) h in (same_sort_is s x both.0, same_sorts s ss both.1)

  all_taken : (is : List EnclosingJoin) (i : EnclosingJoin) (s : Sort) (slot : MeantSort) → num s ≡ Some slot → (ss : List Sort) → EachOf (λ x. s ≡ x) ss → EachOf (λ x. (u : MeantSort) → num x ≡ Some u → TakenBy (i ∷ is) (Some slot) u) ss
  all_taken is i s slot e [] h = tt
  all_taken is i s slot e (x ∷ ss) h = (λ u k. sym e ∙ (ap num h.0 ∙ k), all_taken is i s slot e ss h.1)

  join_of : (at : ℕ) (body : List StmtWithTree) → EachOf T body → (env : Environment) (mine : ℕ) (r : Context) (item : Option MeantSort) → Stands env mine r → (can : Can p.behaviors r) → (before : Option Sort) (s : Sort) → (typed_stage (Stage-F.Join at (map tree_of body))).1 env before ≡ Good s → all_forms_regular (map form_of (map tree_of body)) ≡ true
      → IsStage env mine r can item (stage_denotation (Stage-F.Join at body)) before s
  join_of at body each env mine r item a can before s h fine =
      let n = node_parts (sequence_verdict (map stmt_typing (map tree_of body)) (join_environment env)) (join_rules at) typing.join_sort s h in
      by n.part n.typed (rule_holds 30 at (fits_join n.part) n.keeps) n.is
    where
      block_held : (s0 : Sort) (ss : List Sort) (slot : MeantSort) → num s0 ≡ Some slot → EachOf (λ x. s0 ≡ x) ss → sequence_verdict (map stmt_typing (map tree_of body)) (join_environment env) ≡ Good (s0 ∷ ss) → sending.BlockHeld p.behaviors (signatures p) g from r can (scope_of env mine) (tokens env) item (t.sequence_in_scope (map denotation_of body)) slot
      block_held s0 ss slot is alike good n ahead sorts st hh =
          after_more (λ f u. sending.Within p.behaviors (signatures p) g from (t.within_join n ahead r) (scope_of env mine) (tokens env) (Some slot) sorts u × FlowOk g.result f) (λ f u. sending.Within p.behaviors (signatures p) g from (t.within_join n ahead r) (scope_of env mine) (tokens env) (Some slot) sorts u) (t.sequence_in_scope (map denotation_of body) (t.within_join n ahead r) st) (λ f u q. q.0)
          (executing.block_left p.behaviors (signatures p) g from (t.within_join n ahead r) (Some slot) (map denotation_of body) (scope_of env mine) (tokens env)
          (sequence_of body each (join_environment env) mine (t.within_join n ahead r) (Some slot) (stands_in_join env mine r n ahead a) can (s0 ∷ ss) (sequence_parts (map tree_of body) (join_environment env) (s0 ∷ ss) good) fine
          (λ u k. sym is ∙ k, all_taken r.within (record { join = n; before = ahead }) s0 slot is ss alike))
          sorts st hh)

      by : (rs : List Sort) → sequence_verdict (map stmt_typing (map tree_of body)) (join_environment env) ≡ Good rs → fits_join rs ≡ true → typing.join_sort rs ≡ s → IsStage env mine r can item (stage_denotation (Stage-F.Join at body)) before s
      by [] good fits is = absurd cc
      by (s0 ∷ ss) good fits is =
          let both = and_parts (list_all (is_same_sort s0) ss) (nat_lt s0.dims 8) fits in
          let small : s0.dims < 8 = ltb-true s0.dims 8 both.1 in
          let replies = replies_of (map tree_of body) (join_environment env) mine (known_in_join env mine a.known) (s0 ∷ ss) (sequence_parts (map tree_of body) (join_environment env) (s0 ∷ ss) good) fine a.same in
          let slot = slot_of s0 replies.0 in
          record {
            sort = join_sort (is_void_sort (typing.join_sort (s0 ∷ ss))) slot.0;
            is = ap num (sym is) ∙ join_number s0 slot.0 slot.1 small;
            reply = subst (λ z. IsReplySort z env.behaviors) is (subst (λ b. IsReplySort (typing.join_sort (s0 ∷ ss)) b) (sym a.same) (join_reply s0 replies.0 small));
            held = sending.join_stage p.behaviors (signatures p) g from r can (scope_of env mine) (tokens env) item (t.sequence_in_scope (map denotation_of body)) (λ u. is_void_join (map tree_of body) (c.scope_of r u)) slot.0 (join_sort (is_void_sort (typing.join_sort (s0 ∷ ss))) slot.0)
                (block_held s0 ss slot.0 slot.1 (same_sorts s0 ss both.0) good)
                (λ sorts u hh. ap (λ b. join_sort b slot.0) (ap (is_void_join (map tree_of body)) (sym hh.scope) ∙ void_joins env mine a.known (map tree_of body) fine (s0 ∷ ss) good fits))
                (before_kind env.behaviors before);
          }

  -- ---- chains

  chain_go : (x : StageWithTree) (gs : List StageWithTree) → G x → EachOf G gs → (env : Environment) (mine : ℕ) (r : Context) (item : Option MeantSort) → Stands env mine r → (can : Can p.behaviors r) → (before : Option Sort) → IsKnownBefore env before → (s : Sort) → stages_verdict before (map stage_typing (map tree_of (x ∷ gs))) env ≡ Good s
      → stage_is_regular x.0 ≡ true → all_true (map stage_is_regular (map tree_of gs)) ≡ true → IsChain env mine r can item (map denotation_of (x ∷ gs)) before s
  chain_go x [] hx each env mine r item a can before kb s h fine more =
      let b = bind_parts ((stage_typing x.0).1 env before) (λ y. stages_verdict (Some y) [] env) s h in
      let st = hx env mine r item a can before kb b.0 b.1 fine in
      let same : b.0 ≡ s = good_is (or_void (Some b.0)) s b.2 in
      record { sort = st.sort; is = ap num (sym same) ∙ st.is; of = st.held }
  chain_go x (y ∷ gs) hx each env mine r item a can before kb s h fine more =
      let b = bind_parts ((stage_typing x.0).1 env before) (λ z. stages_verdict (Some z) (map stage_typing (map tree_of (y ∷ gs))) env) s h in
      let st = hx env mine r item a can before kb b.0 b.1 fine in
      let both = and_parts (stage_is_regular y.0) (all_true (map stage_is_regular (map tree_of gs))) more in
      let rest = chain_go y gs each.0 each.1 env mine r item a can (Some b.0) (λ u e. subst (λ z. IsReplySort z env.behaviors) (some_is e) st.reply) s b.2 both.0 both.1 in
      record {
        sort = rest.sort;
        is = rest.is;
        of = (st.sort, (st.held, subst (λ o. sending.ChainOf p.behaviors (signatures p) g from r can (scope_of env mine) (tokens env) item y.1 (map denotation_of gs) o rest.sort) (ap (number_sort b.0) a.same ∙ st.is) rest.of));
      }

  chain_of : (gs : List StageWithTree) → EachOf G gs → (env : Environment) (mine : ℕ) (r : Context) (item : Option MeantSort) → Stands env mine r → (can : Can p.behaviors r) → (s : Sort) → stages_verdict None (map stage_typing (map tree_of gs)) env ≡ Good s
      → has_any (map stage_is_regular (map tree_of gs)) && all_true (map stage_is_regular (map tree_of gs)) ≡ true → IsChain env mine r can item (map denotation_of gs) None s
  chain_of [] each env mine r item a can s h fine = absurd cc
  chain_of (x ∷ gs) each env mine r item a can s h fine =
      let both = and_parts (stage_is_regular x.0) (all_true (map stage_is_regular (map tree_of gs))) fine in
      chain_go x gs each.0 each.1 env mine r item a can None (λ u e. absurd cc) s h both.0 both.1

  -- ---- names that come into scope

  runs_as : (env : Environment) (mine : ℕ) (r : Context) (item : Option MeantSort) (o : Option Variable) (next : Scope) (more : List (Option MeantSort)) (x : Eval Flow) → next ≡ scope_of (with_variable env o) mine → more ≡ tokens (with_variable env o)
      → executing.Stmt p.behaviors (signatures p) g from r item (scope_of env mine) next (tokens env) more x → Runs env mine r item o x
  runs_as env mine r item o next more x a b h =
      subst (λ z. executing.Stmt p.behaviors (signatures p) g from r item (scope_of env mine) z (tokens env) (tokens (with_variable env o)) x) a
      (subst (λ z. executing.Stmt p.behaviors (signatures p) g from r item (scope_of env mine) next (tokens env) z x) b h)

  tokens_with : (env : Environment) (v : Variable) (k : Option MeantSort) → k ≡ token_kind env.behaviors v → tokens env ++ k ∷ [] ≡ tokens (with_variable env (Some v))
  tokens_with env v k e = ap (λ z. tokens env ++ z ∷ []) e ∙ map_one (token_kind env.behaviors) env.scope v

  abbrev declare_variable : Declare → Variable
  declare_variable d = record { name = d.name.text; sort = sort_of_type d.sort; is_token = false }

  abbrev token_variable : Ident → Verdict Sort → Variable
  token_variable name v = record { name = name.text; sort = sort_or_void v; is_token = true }

  declare_scope : (env : Environment) (mine : ℕ) (r : Context) → env.behaviors ≡ p.behaviors → Can p.behaviors r → (d : Declare) → scope_with_local d.name.text (type_sort d.sort r.behaviors) (scope_of env mine) ≡ scope_of (with_variable env (Some (declare_variable d))) mine
  declare_scope env mine r same can d = scope_with env mine (declare_variable d) (type_sort d.sort r.behaviors) (ap (type_sort d.sort) (can.1 ∙ sym same) ∙ sym (number_of_type d.sort env.behaviors))

  -- the first part of a `for`: behind it this is in scope
  record Begun (env : Environment) (mine : ℕ) (r : Context) (item : Option MeantSort) (next : Scope) (more : List (Option MeantSort)) (x : Eval (Unit {0})) : Type 0 where
    on : executing.OnFrom p.behaviors (signatures p) g from r item (scope_of env mine) next (tokens env) more
    does : (sorts : sending.Sorts) (s : State) → Held env mine r item sorts s → After (λ (z : Unit {0}). λ u. sending.Holds p.behaviors (signatures p) g from r next more item sorts u) (x s)

  begun_as : (env : Environment) (mine : ℕ) (r : Context) (item : Option MeantSort) (o : Option Variable) (next : Scope) (more : List (Option MeantSort)) (x : Eval (Unit {0})) → next ≡ scope_of (with_variable env o) mine → more ≡ tokens (with_variable env o)
      → Begun env mine r item next more x → Begun env mine r item (scope_of (with_variable env o) mine) (tokens (with_variable env o)) x
  begun_as env mine r item o next more x a b h = subst (λ z. Begun env mine r item z (tokens (with_variable env o)) x) a (subst (λ z. Begun env mine r item next z x) b h)

  on_same : (env : Environment) (mine : ℕ) (r : Context) (item : Option MeantSort) → executing.OnFrom p.behaviors (signatures p) g from r item (scope_of env mine) (scope_of env mine) (tokens env) (tokens env)
  on_same env mine r item = executing.on_same p.behaviors (signatures p) g from r item (scope_of env mine) (tokens env)

  assign_does : (env : Environment) (mine : ℕ) (r : Context) (item : Option MeantSort) → Stands env mine r → (can : Can p.behaviors r) → (a : Assign) → assign_is_regular a ≡ true → AssignParts a env → executing.Does p.behaviors (signatures p) g from r item (scope_of env mine) (tokens env) (t.exec_assign a r)
  assign_does env mine r item a can x fine h = assigning.assign_held p.behaviors (signatures p) g from r can (scope_of env mine) (tokens env) item x (leaves.assigned p typed g from env mine a.known a.same r can item x fine h)

  begins : (i : ForInit) (env : Environment) (mine : ℕ) (r : Context) (item : Option MeantSort) → Stands env mine r → (can : Can p.behaviors r) → init_is_regular i ≡ true → InitParts i env → Begun env mine r item (scope_of (after_init env i) mine) (tokens (after_init env i)) (t.exec_for_init i r)
  begins init.Nothing env mine r item a can fine h = record { on = on_same env mine r item; does = λ sorts s hh. hh }
  begins (init.Declare d) env mine r item a can fine h =
      let dd = leaves.declared p typed g from env mine a.known a.same r can item d fine h in
      begun_as env mine r item (Some (declare_variable d)) (scope_with_local d.name.text (type_sort d.sort r.behaviors) (scope_of env mine)) (tokens env ++ None ∷ []) (t.exec_declare d r)
      (declare_scope env mine r a.same can d) (tokens_with env (declare_variable d) None refl)
      (record {
        on = executing.on_declared p.behaviors (signatures p) g from r item can (scope_of env mine) (tokens env) d;
        does = executing.declared_held p.behaviors (signatures p) g from r item can (scope_of env mine) (tokens env) d dd.sort dd.is dd.first;
      })
  begins (init.Assign x) env mine r item a can fine h = record { on = on_same env mine r item; does = assign_does env mine r item a can x fine h }

  -- ---- tests

  abbrev Tested : Environment → ℕ → Context → Option MeantSort → Eval Bool → Type 0
  Tested env mine r item x = executing.Tested p.behaviors (signatures p) g from r item (scope_of env mine) (tokens env) x

  tested : (env : Environment) (mine : ℕ) (r : Context) (item : Option MeantSort) → Stands env mine r → (can : Can p.behaviors r) → (e : Expr) → expr_is_regular e ≡ true → HasSort env e (plain Boolean) → Tested env mine r item (t.eval_test e r)
  tested env mine r item a can e fine h =
      let k = sends.has_kind p typed env mine a.known a.same g from item r can e (plain Boolean) fine h in
      executing.truth_tested p.behaviors (signatures p) g from r item can (scope_of env mine) (tokens env) e k.0 k.1

  tested_if : (env : Environment) (mine : ℕ) (r : Context) (item : Option MeantSort) → Stands env mine r → (can : Can p.behaviors r) → (o : Option Expr) → option_is_regular o ≡ true → HasSortIfAny env o (plain Boolean) → Tested env mine r item (t.eval_for_test o r)
  tested_if env mine r item a can None fine h = λ sorts s hh. hh
  tested_if env mine r item a can (Some e) fine h = tested env mine r item a can e fine h

  steps : (env : Environment) (mine : ℕ) (r : Context) (item : Option MeantSort) → Stands env mine r → (can : Can p.behaviors r) → (o : Option Assign) → or_true (option_map assign_is_regular o) ≡ true → NextParts o env → executing.Does p.behaviors (signatures p) g from r item (scope_of env mine) (tokens env) (t.exec_for_next o r)
  steps env mine r item a can None fine h = λ sorts s hh. hh
  steps env mine r item a can (Some x) fine h = assign_does env mine r item a can x fine h

  -- ---- chains as statements

  place_end : (r : Context) (can : Can p.behaviors r) (sc : Scope) (ks : List (Option MeantSort)) (item : Option MeantSort) (is : List EnclosingJoin) (u : MeantSort) → TakenBy is item u → sending.EndOf p.behaviors (signatures p) g from r can sc ks item (t.plain_end is) u
  place_end r can sc ks item [] u h = tt
  place_end r can sc ks item (i ∷ is) u h = h

  plain_stays : (env : Environment) (mine : ℕ) (r : Context) (item : Option MeantSort) (can : Can p.behaviors r) (xs : List StageDenotation) (u : MeantSort) → ChainOf env mine r can item xs None u → TakenBy r.within item u → Stays env mine r item (t.exec_chain_stmt None xs r)
  plain_stays env mine r item can [] u f h = absurd f
  plain_stays env mine r item can (x ∷ more) u f h = sending.plain_chain p.behaviors (signatures p) g from r can (scope_of env mine) (tokens env) item x more u f (place_end r can (scope_of env mine) (tokens env) item r.within u h)

  passed_stays : (env : Environment) (mine : ℕ) (r : Context) (item : Option MeantSort) (can : Can p.behaviors r) (at : ℕ) (xs : List StageDenotation) (u : MeantSort) → ChainOf env mine r can item xs None u → u ≡ g.result → r.within ≡ [] → Stays env mine r item (t.exec_chain_stmt (Some at) xs r)
  passed_stays env mine r item can at [] u f same out = absurd f
  passed_stays env mine r item can at (x ∷ more) u f same out = sending.passed_chain p.behaviors (signatures p) g from r can (scope_of env mine) (tokens env) item at x more u f same out

  token_runs : (env : Environment) (mine : ℕ) (r : Context) (item : Option MeantSort) (can : Can p.behaviors r) (name : List ℕ) (xs : List StageDenotation) (u : MeantSort) → ChainOf env mine r can item xs None u
      → executing.Stmt p.behaviors (signatures p) g from r item (scope_of env mine) (scope_with_local name None (scope_of env mine)) (tokens env) (tokens env ++ Some u ∷ []) (t.exec_token_stmt name xs r)
  token_runs env mine r item can name [] u f = absurd f
  token_runs env mine r item can name (x ∷ more) u f = executing.token_stmt p.behaviors (signatures p) g from r item can (scope_of env mine) (tokens env) name x more u f 0

  -- ---- each form

  abbrev stmt_trees : Stmt-F StageWithTree StmtWithTree ChainWithTree → Stmt-F Stage Stmt Chain
  stmt_trees = map-Stmt StageWithTree StmtWithTree ChainWithTree Stage Stmt Chain tree_of tree_of tree_of

  abbrev stmt_formed : Stmt-F Stage Stmt Chain → Form
  stmt_formed z = regular.stmt_step (map-Stmt Stage Stmt Chain Bool Form Bool stage_is_regular form_of chain_is_regular z)

  -- what is asked of a form
  abbrev FormRuns : Stmt-F StageWithTree StmtWithTree ChainWithTree → Type 0
  FormRuns x = (env : Environment) (mine : ℕ) (r : Context) (item : Option MeantSort) → Stands env mine r → Can p.behaviors r → (rs : List Sort) → (typed_form (stmt_trees x) env).1 ≡ Good rs → (stmt_formed (stmt_trees x)).regular ≡ true → Fitting r item rs
      → Runs env mine r item (typed_form (stmt_trees x) env).0 (stmt_denotation x r)

  stays_runs : (env : Environment) (mine : ℕ) (r : Context) (item : Option MeantSort) (x : Eval Flow) → Stays env mine r item x → Runs env mine r item None x
  stays_runs env mine r item x f = executing.stays_stmt p.behaviors (signatures p) g from r item (scope_of env mine) (tokens env) x f

  -- a statement by itself, out of whose scope nothing comes
  alone : (q : StmtWithTree) → T q → (env : Environment) (mine : ℕ) (r : Context) (item : Option MeantSort) → Stands env mine r → Can p.behaviors r → (rs : List Sort) → HasResults env q.0 rs → (form_of q.0).regular ≡ true → Fitting r item rs → Stays env mine r item (c.in_new_scope (q.1 r))
  alone q f env mine r item a can rs h fine fits = executing.scoped_stays p.behaviors (signatures p) g from r item (scope_of env mine) (scope_of (after_stmt env q.0) mine) (tokens env) (tokens (after_stmt env q.0)) (q.1 r) (f env mine r item a can rs h fine fits)

  abbrev Taken : Context → Option MeantSort → Sort → Type 0
  Taken r item s = (u : MeantSort) → num s ≡ Some u → TakenBy r.within item u

  block_runs : (at : ℕ) (list : List StmtWithTree) → EachOf T list → FormRuns (Stmt-F.Block at list)
  block_runs at list each env mine r item a can rs h fine fits =
      stays_runs env mine r item (t.sequence_in_scope (map denotation_of list) r)
      (executing.block_left p.behaviors (signatures p) g from r item (map denotation_of list) (scope_of env mine) (tokens env) (sequence_of list each env mine r item a can rs (form_parts (Stmt-F.Block at (map tree_of list)) env rs h) fine fits))

  declare_runs : (d : Declare) → FormRuns (Stmt-F.Declare d)
  declare_runs d env mine r item a can rs h fine fits =
      let dd = leaves.declared p typed g from env mine a.known a.same r can item d fine (form_parts (Stmt-F.Declare d) env rs h).0 in
      runs_as env mine r item (Some (declare_variable d)) (scope_with_local d.name.text (type_sort d.sort r.behaviors) (scope_of env mine)) (tokens env ++ None ∷ []) (stmt_denotation (Stmt-F.Declare d) r)
      (declare_scope env mine r a.same can d) (tokens_with env (declare_variable d) None refl)
      (executing.declared_stmt p.behaviors (signatures p) g from r item can (scope_of env mine) (tokens env) d dd.sort dd.is dd.first)

  assign_runs : (x : Assign) → FormRuns (Stmt-F.Assign x)
  assign_runs x env mine r item a can rs h fine fits =
      stays_runs env mine r item (stmt_denotation (Stmt-F.Assign x) r)
      (executing.does_stays p.behaviors (signatures p) g from r item (scope_of env mine) (tokens env) (t.exec_assign x r) (assign_does env mine r item a can x fine (form_parts (Stmt-F.Assign x) env rs h).0))

  if_runs : (at : ℕ) (test : Expr) (first : StmtWithTree) → T first → FormRuns (Stmt-F.If at test first None)
  if_runs at test first f env mine r item a can rs h fine fits =
      let q = form_parts (Stmt-F.If at test first.0 None) env rs h in
      let both = and_parts (expr_is_regular test) (form_of first.0).regular fine in
      let all : Fitting r item (q.0 ++ q.1) = subst (Fitting r item) (sym q.5) fits in
      stays_runs env mine r item (stmt_denotation (Stmt-F.If at test first None) r)
      (executing.if_stays p.behaviors (signatures p) g from r item (scope_of env mine) (tokens env) (t.eval_test test r) (c.in_new_scope (first.1 r)) _ (tested env mine r item a can test both.0 q.2)
      (alone first f env mine r item a can q.0 q.3 both.1 (each_left (Taken r item) q.0 q.1 all))
      (executing.next_stays p.behaviors (signatures p) g from r item (scope_of env mine) (tokens env)))

  else_runs : (at : ℕ) (test : Expr) (first second : StmtWithTree) → T first → T second → FormRuns (Stmt-F.If at test first (Some second))
  else_runs at test first second f k env mine r item a can rs h fine fits =
      let q = form_parts (Stmt-F.If at test first.0 (Some second.0)) env rs h in
      let both = and_parts (expr_is_regular test && (form_of first.0).regular && not (form_of first.0).takes_else) (form_of second.0).regular fine in
      let front = and_parts (expr_is_regular test) (form_of first.0).regular (and_parts (expr_is_regular test && (form_of first.0).regular) (not (form_of first.0).takes_else) both.0).0 in
      let all : Fitting r item (q.0 ++ q.1) = subst (Fitting r item) (sym q.5) fits in
      stays_runs env mine r item (stmt_denotation (Stmt-F.If at test first (Some second)) r)
      (executing.if_stays p.behaviors (signatures p) g from r item (scope_of env mine) (tokens env) (t.eval_test test r) (c.in_new_scope (first.1 r)) (c.in_new_scope (second.1 r)) (tested env mine r item a can test front.0 q.2)
      (alone first f env mine r item a can q.0 q.3 front.1 (each_left (Taken r item) q.0 q.1 all))
      (alone second k env mine r item a can q.1 q.4 both.1 (each_right (Taken r item) q.0 q.1 all)))

  while_runs : (at : ℕ) (test : Expr) (body : StmtWithTree) → T body → FormRuns (Stmt-F.While at test body)
  while_runs at test body f env mine r item a can rs h fine fits =
      let q = form_parts (Stmt-F.While at test body.0) env rs h in
      let both = and_parts (expr_is_regular test) (form_of body.0).regular fine in
      stays_runs env mine r item (t.while_loop (t.eval_test test r) (body.1 r))
      (executing.looped_stays p.behaviors (signatures p) g from r item (scope_of env mine) (tokens env) t.loop_bound (t.eval_test test r) (c.in_new_scope (body.1 r)) (tested env mine r item a can test both.0 q.0)
      (alone body f env mine r item a can rs q.1 both.1 fits))

  for_runs : (at : ℕ) (first : ForInit) (test : Option Expr) (next : Option Assign) (body : StmtWithTree) → T body → FormRuns (Stmt-F.For at first test next body)
  for_runs at first test next body f env mine r item a can rs h fine fits =
      let q = form_parts (Stmt-F.For at first test next body.0) env rs h in
      let both = and_parts (init_is_regular first && option_is_regular test && or_true (option_map assign_is_regular next)) (form_of body.0).regular fine in
      let three = and_parts (init_is_regular first && option_is_regular test) (or_true (option_map assign_is_regular next)) both.0 in
      let two = and_parts (init_is_regular first) (option_is_regular test) three.0 in
      let inner = stands_with env mine r (for_init_typing first env).0 a (init_stays at first test next body.0 env mine a.known rs h) in
      let b = begins first env mine r item a can two.0 q.0 in
      stays_runs env mine r item (t.for_loop (t.exec_for_init first r) (t.eval_for_test test r) (t.exec_for_next next r) (body.1 r))
      (executing.for_stays p.behaviors (signatures p) g from r item (scope_of env mine) (scope_of (after_init env first) mine) (tokens env) (tokens (after_init env first)) (t.exec_for_init first r) (t.eval_for_test test r) (t.exec_for_next next r) (body.1 r) b.on b.does
      (tested_if (after_init env first) mine r item inner can test two.1 q.1)
      (steps (after_init env first) mine r item inner can next three.1 q.2)
      (alone body f (after_init env first) mine r item inner can rs q.3 both.1 fits))

  return_runs : (at : ℕ) (value : Option Expr) → FormRuns (Stmt-F.Return at value)
  return_runs at value env mine r item a can rs h fine fits =
      let q = form_parts (Stmt-F.Return at value) env rs h in
      stays_runs env mine r item (stmt_denotation (Stmt-F.Return at value) r)
      (executing.return_stays p.behaviors (signatures p) g from r item can (scope_of env mine) (tokens env) value (leaves.returned p typed g from env mine a.known a.same r can item value fine q.0 (ap (number_sort env.result) a.same ∙ a.result)))

  stmt_token : (at : ℕ) (name : Ident) (q : ChainWithTree) → C q → FormRuns (Stmt-F.Token at name q)
  stmt_token at name q f env mine r item a can rs h fine fits =
      let stages : Verdict Sort = stages_verdict None (chain_typing q.0) env in
      let n = node_parts (stages_verdict None (chain_typing q.0) env) (λ s. statement_rules env at ++ free_rules name env ++ leave_rules at (not env.in_join)) no_results rs h in
      let ch = f env mine r item a can n.part n.typed fine in
      let kind : Some ch.sort ≡ number_sort (sort_or_void (stages_verdict None (chain_typing q.0) env)) env.behaviors = sym (ap (λ v. number_sort (sort_or_void v) env.behaviors) n.typed ∙ (ap (number_sort n.part) a.same ∙ ch.is)) in
      runs_as env mine r item (Some (token_variable name stages)) (scope_with_local name.text None (scope_of env mine)) (tokens env ++ Some ch.sort ∷ []) (t.exec_token_stmt name.text q.1 r)
      (scope_with env mine (token_variable name stages) None refl) (tokens_with env (token_variable name stages) (Some ch.sort) kind)
      (token_runs env mine r item can name.text q.1 ch.sort ch.of)

  stmt_chain : (q : ChainWithTree) → C q → (passed : Option ℕ) → FormRuns (Stmt-F.Chain q passed)
  stmt_chain q f passed env mine r item a can rs h fine fits =
      let n = node_parts (stages_verdict None (chain_typing q.0) env) (λ s. statement_rules env (chain_start (chain_typing q.0)) ++ continuation_rules passed s env) (λ s. s ∷ []) rs h in
      let ch = f env mine r item a can n.part n.typed fine in
      let one : Fitting r item (n.part ∷ []) = subst (Fitting r item) (sym n.is) fits in
      stays_runs env mine r item (t.exec_chain_stmt passed q.1 r)
      (by passed n.part ch (one.0 ch.sort ch.is) (none_right (statement_rules env (chain_start (chain_typing q.0))) (continuation_rules passed n.part env) n.keeps))
    where
      by : (o : Option ℕ) (s : Sort) (ch : IsChain env mine r can item q.1 None s) → TakenBy r.within item ch.sort → continuation_rules o s env ≡ [] → Stays env mine r item (t.exec_chain_stmt o q.1 r)
      by None s ch taken rules = plain_stays env mine r item can q.1 ch.sort ch.of taken
      by (Some at) s ch taken rules =
          let both = and_parts (not env.in_join) (is_same_sort s env.result) (rule_holds 29 at (not env.in_join && is_same_sort s env.result) rules) in
          let same : ch.sort ≡ g.result = some_is (sym ch.is ∙ (ap num (same_sort_is s env.result both.1) ∙ a.result)) in
          passed_stays env mine r item can at q.1 ch.sort ch.of same (a.outside (not-true env.in_join both.0))

  empty_runs : (at : ℕ) → FormRuns (Stmt-F.Empty at)
  empty_runs at env mine r item a can rs e fine fits = stays_runs env mine r item _ (executing.next_stays p.behaviors (signatures p) g from r item (scope_of env mine) (tokens env))

  form_runs : (x : Stmt-F StageWithTree StmtWithTree ChainWithTree) → OfStmt G T C x → FormRuns x
  form_runs (Stmt-F.Empty at) h = empty_runs at
  form_runs (Stmt-F.Block at list) h = block_runs at list h
  form_runs (Stmt-F.Declare d) h = declare_runs d
  form_runs (Stmt-F.Assign x) h = assign_runs x
  form_runs (Stmt-F.If at test first None) h = if_runs at test first h.0
  form_runs (Stmt-F.If at test first (Some second)) h = else_runs at test first second h.0 h.1
  form_runs (Stmt-F.While at test body) h = while_runs at test body h
  form_runs (Stmt-F.For at first test next body) h = for_runs at first test next body h
  form_runs (Stmt-F.Return at value) h = return_runs at value
  form_runs (Stmt-F.Token at name q) h = stmt_token at name q h
  form_runs (Stmt-F.Chain q passed) h = stmt_chain q h passed

  -- ---- all statements

  typed_is : (z : Stmt-F Stage Stmt Chain) → stmt_typing (roll-Stmt z) ≡ typed_form z
  unfolding stage_typing stmt_typing chain_typing
  typed_is z = fold-roll-Stmt StageWithStart StmtTyping (List StageWithStart) typing.stage_step typing.stmt_step typing.chain_step z

  formed_is : (z : Stmt-F Stage Stmt Chain) → form_of (roll-Stmt z) ≡ stmt_formed z
  unfolding stage_is_regular form_of chain_is_regular
  formed_is z = fold-roll-Stmt Bool Form Bool regular.stage_step regular.stmt_step regular.chain_step z

  stmts : (x : Stmt-F StageWithTree StmtWithTree ChainWithTree) → OfStmt G T C x → T (stmt_step x)
  stmts x h env mine r item a can rs e fine fits =
      let z = stmt_trees x in
      subst (λ (m : StmtTyping). Runs env mine r item (m env).0 (stmt_denotation x r)) (sym (typed_is z))
      (form_runs x h env mine r item a can rs (ap (λ (m : StmtTyping). (m env).1) (sym (typed_is z)) ∙ e) (ap (λ (f : Form). f.regular) (sym (formed_is z)) ∙ fine) fits)

  abbrev stage_trees : Stage-F StageWithTree StmtWithTree ChainWithTree → Stage-F Stage Stmt Chain
  stage_trees = map-Stage StageWithTree StmtWithTree ChainWithTree Stage Stmt Chain tree_of tree_of tree_of

  abbrev stage_formed : Stage-F Stage Stmt Chain → Bool
  stage_formed z = regular.stage_step (map-Stage Stage Stmt Chain Bool Form Bool stage_is_regular form_of chain_is_regular z)

  stage_typed_is : (z : Stage-F Stage Stmt Chain) → stage_typing (roll-Stage z) ≡ typed_stage z
  unfolding stage_typing stmt_typing chain_typing
  stage_typed_is z = fold-roll-Stage StageWithStart StmtTyping (List StageWithStart) typing.stage_step typing.stmt_step typing.chain_step z

  stage_formed_is : (z : Stage-F Stage Stmt Chain) → stage_is_regular (roll-Stage z) ≡ stage_formed z
  unfolding stage_is_regular form_of chain_is_regular
  stage_formed_is z = fold-roll-Stage Bool Form Bool regular.stage_step regular.stmt_step regular.chain_step z

  stage_form : (x : Stage-F StageWithTree StmtWithTree ChainWithTree) → OfStage G T C x → (env : Environment) (mine : ℕ) (r : Context) (item : Option MeantSort) → Stands env mine r → (can : Can p.behaviors r) → (before : Option Sort) → IsKnownBefore env before → (s : Sort) → (typed_stage (stage_trees x)).1 env before ≡ Good s → stage_formed (stage_trees x) ≡ true → IsStage env mine r can item (stage_denotation x) before s
  stage_form (Stage-F.Message y) h env mine r item a can before kb s e fine = message_of y env mine r item a can before kb s e fine
  stage_form (Stage-F.Join at body) h env mine r item a can before kb s e fine = join_of at body h env mine r item a can before s e fine

  stages : (x : Stage-F StageWithTree StmtWithTree ChainWithTree) → OfStage G T C x → G (stage_step x)
  stages x h env mine r item a can before kb s e fine =
      let z = stage_trees x in
      stage_form x h env mine r item a can before kb s (ap (λ (m : StageWithStart). m.1 env before) (sym (stage_typed_is z)) ∙ e) (sym (stage_formed_is z) ∙ fine)

  abbrev chain_trees : Chain-F StageWithTree StmtWithTree ChainWithTree → Chain-F Stage Stmt Chain
  chain_trees = map-Chain StageWithTree StmtWithTree ChainWithTree Stage Stmt Chain tree_of tree_of tree_of

  chain_typed_is : (z : Chain-F Stage Stmt Chain) → chain_typing (roll-Chain z) ≡ map stage_typing z.stages
  unfolding stage_typing stmt_typing chain_typing
  chain_typed_is z = fold-roll-Chain StageWithStart StmtTyping (List StageWithStart) typing.stage_step typing.stmt_step typing.chain_step z

  chain_formed_is : (z : Chain-F Stage Stmt Chain) → chain_is_regular (roll-Chain z) ≡ has_any (map stage_is_regular z.stages) && all_true (map stage_is_regular z.stages)
  unfolding stage_is_regular form_of chain_is_regular
  chain_formed_is z = fold-roll-Chain Bool Form Bool regular.stage_step regular.stmt_step regular.chain_step z

  chains : (x : Chain-F StageWithTree StmtWithTree ChainWithTree) → EachOf G x.stages → C (chain_step x)
  chains x h env mine r item a can s e fine =
      let z = chain_trees x in
      chain_of x.stages h env mine r item a can s (ap (λ gs. stages_verdict None gs env) (sym (chain_typed_is z)) ∙ e) (sym (chain_formed_is z) ∙ fine)

  all_run : (x : Stmt) → T (stmt_with_tree x)
  all_run = of_stmt G T C stages stmts chains

  each_runs : (body : List Stmt) → EachOf T (map stmt_with_tree body)
  each_runs [] = tt
  each_runs (x ∷ xs) = (all_run x, each_runs xs)

  -- a typed body keeps the state typed
  pub body_held : (body : List Stmt) (env : Environment) (mine : ℕ) (r : Context) → Stands env mine r → Can p.behaviors r → r.within ≡ [] → (rs : List Sort) → SequenceParts body env rs → all_forms_regular (map form_of body) ≡ true
      → (sorts : sending.Sorts) (s : State) → Held env mine r None sorts s → After (λ f u. sending.Within p.behaviors (signatures p) g from r (scope_of env mine) (tokens env) None sorts u × FlowOk g.result f) (t.exec_block body r s)
  body_held body env mine r a can out rs h fine sorts s hh =
      subst (λ ms. After (λ f u. sending.Within p.behaviors (signatures p) g from r (scope_of env mine) (tokens env) None sorts u × FlowOk g.result f) (t.sequence_in_scope ms r s)) (denotations body)
      (executing.block_left p.behaviors (signatures p) g from r None (map denotation_of (map stmt_with_tree body)) (scope_of env mine) (tokens env)
      (sequence_of (map stmt_with_tree body) (each_runs body) env mine r None a can rs (subst (λ b. SequenceParts b env rs) (sym (parts body)) h) (ap (λ b. all_forms_regular (map form_of b)) (parts body) ∙ fine) (taken rs))
      sorts s hh)
    where
      nobody : (is : List EnclosingJoin) (u : MeantSort) → is ≡ [] → TakenBy is None u
      nobody is u e = subst (λ z. TakenBy z None u) (sym e) tt

      taken : (rs : List Sort) → Fitting r None rs
      taken [] = tt
      taken (s ∷ ss) = (λ u e. nobody r.within u out, taken ss)
