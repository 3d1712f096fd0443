-- The parts of a typed message, and what it replies.
use Rattle.std.proofs.Common.{◌≡◌, ◌⊎◌, inl, inr, ℕ, ◌≤◌, Bool, true, false, not, ◌&&◌, cond, nat_eq, nat_le, codes, List, [], ◌∷◌, ◌++◌, length, Option, Some, None, option_map, refl, sym, ap, subst, ◌∙◌, arith}
use Rattle.std.specs.Prelude.{slice_get}
use Rattle.std.specs.List.{find}
use Rattle.std.specs.Str.{bytes_eq}
use Rattle.std.proofs.lemmas.Bool.{and_parts, leb-true, eqb-true}
use Rattle.sal_value.specs.declared.value.Base.TheVariants as meant
use Rattle.sal_value.specs.declared.value.Sort.{Sort as MeantSort}
use Rattle.sal_ast.specs.declared.program.Ident.{Ident}
use Rattle.sal_ast.specs.declared.program.Behavior.{Behavior}
use Rattle.sal_ast.specs.declared.expression.Expr.{Expr, out-Expr}
use Rattle.sal_ast.specs.declared.expression.Suffix.{Suffix}
use Rattle.sal_ast.specs.declared.expression.At.{At}
use Rattle.sal_ast.specs.declared.expression.Operand.{Operand}
use Rattle.sal_ast.specs.declared.expression.Expr.TheOpen.{Expr-F}
use Rattle.sal_ast.specs.declared.statement.Aim.{Aim}
use Rattle.sal_ast.specs.declared.statement.Aim.TheVariants as aim
use Rattle.sal_ast.specs.declared.statement.Arg.{Arg}
use Rattle.sal_ast.specs.declared.statement.Arg.TheVariants as arg
use Rattle.sal_ast.specs.declared.statement.Property.{Property}
use Rattle.sal_ast.specs.declared.statement.Property.TheVariants as property
use Rattle.sal_ast.specs.declared.statement.Send.{Send}
use Rattle.sal_ast.specs.Members.{Handler, behavior_by_name, handlers_at}
use Rattle.sal_ast.specs.Sorts as text
use Rattle.sal_ast.specs.Sorts.{Scope, sort_of, sort_with, result_sort, behavior_of, handler_result, declared_result, actor_result, aim_result, message_result}
use Rattle.sal_sorts.specs.declared.sort.Base.{Base}
use Rattle.sal_sorts.specs.declared.sort.Base.TheVariants.{Int, Boolean, Str, Actor, Void, Null}
use Rattle.sal_sorts.specs.declared.sort.Sort.{Sort}
use Rattle.sal_sorts.specs.declared.variable.Variable.{Variable}
use Rattle.sal_sorts.specs.Sorts.{plain, is_int_sort, is_printable_sort, sort_of_result}
use Rattle.sal_sorts.specs.Environments.{Environment, HandlerType, behavior_with_name, has_behavior, is_actor_base, is_actor_sort, is_assignable, are_assignable, handlers_in, type_of_handler, migrate_type, is_migrate, handler_with_name, local_with_name, field_in_scope, or_else, variable_with_name}
use Rattle.sal_sorts.specs.Expressions.{ExprTyping, token_rules, variable_verdict, expr_verdict}
use Rattle.sal_sorts.specs.Messages.{or_void, first_stage_rules, local_of_expr, local_or_verdict, arg_verdict, property_rules, waitfor_rules, waitfor_verdict, property_verdict, repetition_rules, repetition_offset, aim_verdict, target_rules, handler_rules, argument_rules, first_misfit_rules, handler_of_base, called_handler, call_rules, actor_rules, call_result, is_print, print_rules, send_rules, reply_sort, message_verdict}
use Rattle.sal_sorts.specs.Verdicts.{Violation, Verdict, Good, ◌also◌, good_unless, verdict_of_all}
use Rattle.sal_typing.specs.Numbers.{number_sort, scope_of}
use Rattle.sal_typing.specs.Known.{Each, HandlerIsKnown, MembersAreKnown, IsReplySort, IsKnown}
use Rattle.sal_typing.specs.Parts.{Pairwise, HasSort, IsTokenOf, ArgParts, NamesToken, PropertyParts, IsCall, AimParts}
use Rattle.sal_typing.specs.Laws.{MessagesHaveParts, MessagesHaveTheirSorts}
use Rattle.sal_typing.proofs.Inverting.{good_is, some_is, also_parts, node_parts, unless_parts, map_parts, rule_holds, none_left, none_right}
use Rattle.sal_typing.proofs.Finding.{each_found, each_at}
use Rattle.sal_typing.proofs.Numbering.{number_of_known, number_of_result, result_is_reply}
use Rattle.sal_typing.proofs.ExpressionParts.{int_is, each_parts, verdict_of_form, verdict_is}
use Rattle.sal_typing.proofs.Expressions.{behavior_numbered, expr_agrees}

-- ---- arguments

pub not_none : (v : Violation) (vs : List Violation) → v ∷ vs ≡ [] → ⊥
not_none v vs h = absurd cc

-- an argument has this type
abbrev ArgHasSort : Environment → Option Sort → Arg → Sort → Type 0
ArgHasSort env before a s = arg_verdict env before a ≡ Good s

local_is_variable : (name : List ℕ) (env : Environment) (v : Variable) → local_with_name name env ≡ Some v → variable_with_name name env ≡ Some v
unfolding variable_with_name
local_is_variable name env v e = ap (λ o. or_else o (field_in_scope env.member name env)) e

local_has_sort : (e : Expr) (env : Environment) (name : Ident) (v : Variable) → out-Expr e ≡ Expr-F.Name name → local_with_name name.text env ≡ Some v → v.is_token ≡ false → HasSort env e v.sort
local_has_sort e env name v is f plain_value =
    ap (λ (m : ExprTyping). m env false) (verdict_is e)
    ∙ ap (λ z. verdict_of_form z env false) is
    ∙ ap (variable_verdict name.at) (local_is_variable name.text env v f)
    ∙ ap (λ b. good_unless (token_rules name.at (not b)) v.sort) plain_value

named_parts : (e : Expr) (env : Environment) (name : Ident) (s : Sort) → out-Expr e ≡ Expr-F.Name name → (o : Option Variable) → local_with_name name.text env ≡ o → local_or_verdict o (expr_verdict e env false) ≡ Good s → IsTokenOf e env s ⊎ HasSort env e s
named_parts e env name s is None f g = inr g
named_parts e env name s is (Some v) f g = by v.is_token refl
  where
    by : (b : Bool) → v.is_token ≡ b → IsTokenOf e env s ⊎ HasSort env e s
    by true k = inl (name, v, is, f, k, good_is v.sort s g)
    by false k = inr (local_has_sort e env name v is f k ∙ g)

arg_form : (e : Expr) (env : Environment) (s : Sort) (z : Expr-F Expr Suffix At Operand) → out-Expr e ≡ z → local_or_verdict (local_of_expr z env) (expr_verdict e env false) ≡ Good s → IsTokenOf e env s ⊎ HasSort env e s
arg_form e env s (Expr-F.Name name) is h = named_parts e env name s is (local_with_name name.text env) refl h
arg_form e env s _ is h = inr h

arg_parts : (env : Environment) (before : Option Sort) (a : Arg) (s : Sort) → arg_verdict env before a ≡ Good s → ArgParts env before a s
arg_parts env None (arg.Token at) s h = let r = unless_parts (first_stage_rules at None) (or_void None) s h in absurd (not_none _ [] r.0)
arg_parts env (Some t) (arg.Token at) s h = ap (λ x. Some x) (unless_parts (first_stage_rules at (Some t)) (or_void (Some t)) s h).1
arg_parts env before (arg.Expr e) s h = arg_form e env s (out-Expr e) refl h

args_parts : (env : Environment) (before : Option Sort) (list : List Arg) (ss : List Sort) → Pairwise (ArgHasSort env before) list ss → Pairwise (ArgParts env before) list ss
args_parts env before [] [] h = tt
args_parts env before [] (s ∷ ss) h = h
args_parts env before (a ∷ list) [] h = h
args_parts env before (a ∷ list) (s ∷ ss) h = (arg_parts env before a s h.0, args_parts env before list ss h.1)

-- ---- properties

waitfor_holds : (at : ℕ) (o : Option Variable) → waitfor_rules at o ≡ [] → (v : Variable) × (o ≡ Some v) × (v.is_token ≡ true)
waitfor_holds at None h = absurd (not_none _ [] h)
waitfor_holds at (Some v) h = (v, refl, rule_holds 11 at v.is_token h)

name_tokens : (env : Environment) (names : List Ident) (us : List (Unit {0})) → Pairwise (λ name u. waitfor_verdict env name ≡ Good u) names us → Each (NamesToken env) names
name_tokens env [] us h = tt
name_tokens env (n ∷ ns) [] h = absurd h
name_tokens env (n ∷ ns) (u ∷ us) h =
    (waitfor_holds n.at (variable_with_name n.text env) (unless_parts (waitfor_rules n.at (variable_with_name n.text env)) tt u h.0).0, name_tokens env ns us h.1)

property_parts : (env : Environment) (q : Property) (u : Unit {0}) → property_verdict env q ≡ Good u → PropertyParts env q
property_parts env (property.Delay at time) u h =
    let n = node_parts (expr_verdict time env false) (λ s. property_rules at (is_int_sort s)) (λ s. tt) u h in
    n.typed ∙ ap (λ x. Good x) (int_is n.part (rule_holds 28 at (is_int_sort n.part) n.keeps))
property_parts env (property.WaitFor at names) u h =
    let r = map_parts (λ us. tt) (verdict_of_all (waitfor_verdict env) names) u h in
    name_tokens env names r.0 (each_parts (waitfor_verdict env) names r.0 r.1)

never_again : (o : Option ℕ) → repetition_rules o ≡ [] → o ≡ None
never_again None h = refl
never_again (Some at) h = absurd (not_none _ [] h)

-- ---- rules

pub if_none : (b : Bool) (xs ys : List Violation) → cond b xs ys ≡ [] → (ys ≡ [] → ⊥) → (b ≡ true) × (xs ≡ [])
if_none true xs ys h other = (refl, h)
if_none false xs ys h other = absurd (other h)

fits_all : (env : Environment) (before : Option Sort) (list : List Arg) (ss ts : List Sort) → Pairwise (ArgHasSort env before) list ss → length ts ≡ length ss → first_misfit_rules env list ss ts ≡ [] → are_assignable env ss ts ≡ true
fits_all env before [] [] [] p l h = refl
fits_all env before [] [] (t ∷ ts) p l h = absurd (omega arith)
fits_all env before [] (s ∷ ss) ts p l h = absurd p
fits_all env before (a ∷ list) [] ts p l h = absurd p
fits_all env before (a ∷ list) (s ∷ ss) [] p l h = absurd (omega arith)
fits_all env before (a ∷ list) (s ∷ ss) (t ∷ ts) p l h = by (is_assignable env s t) h (λ k. let m : length ts ≡ length ss = omega arith in fits_all env before list ss ts p.1 m k)
  where
    by : (b : Bool) → cond b (first_misfit_rules env list ss ts) (argument_rules a false) ≡ [] → (first_misfit_rules env list ss ts ≡ [] → are_assignable env ss ts ≡ true) → (b && are_assignable env ss ts) ≡ true
    by true k more = more k
    by false k more = absurd cc

prints_all : (env : Environment) (before : Option Sort) (list : List Arg) (ss : List Sort) → Pairwise (ArgHasSort env before) list ss → length ss ≤ 1 → print_rules list ss ≡ [] → Each (λ a. is_printable_sort a ≡ true) ss
prints_all env before list [] p l h = tt
prints_all env before [] (s ∷ ss) p l h = absurd p
prints_all env before (a ∷ list) (s ∷ []) p l h = (rule_holds 26 _ (is_printable_sort s) h, tt)
prints_all env before (a ∷ list) (s ∷ t ∷ ss) p l h = absurd (omega arith)

-- ---- messages to actors

pub actor_base_parts : (env : Environment) (b : Base) → is_actor_base env b ≡ true → (name : List ℕ) × (b ≡ Actor name) × (has_behavior name env ≡ true)
actor_base_parts env (Actor name) h = (name, refl, h)
actor_base_parts env Int h = absurd cc
actor_base_parts env Boolean h = absurd cc
actor_base_parts env Str h = absurd cc
actor_base_parts env Void h = absurd cc
actor_base_parts env Null h = absurd cc

-- a message to a value of this type
record CallParts (env : Environment) (t : Sort) (handler : List ℕ) (args : List Sort) (reply : Sort) : Type 0 where
  pub name : List ℕ
  pub is : t ≡ plain (Actor name)
  pub call : IsCall env name handler args reply

callee_parts : (env : Environment) (before : Option Sort) (m : Send) (name : List ℕ) (number : ℕ) (args : List Sort) (reply : Sort) → behavior_by_name name env.behaviors ≡ Some number → Pairwise (ArgHasSort env before) m.args args
    → (o : Option HandlerType) → handler_with_name m.handler.text (behavior_with_name name env) ≡ o → call_rules o m args env ≡ [] → call_result o ≡ reply → IsCall env name m.handler.text args reply
callee_parts env before m name number args reply n p None e h r = absurd (not_none _ [] h)
callee_parts env before m name number args reply n p (Some c) e h r =
    let k = if_none (nat_eq (length c.params) (length args)) (first_misfit_rules env m.args args c.params) (handler_rules m) h (not_none _ []) in
    let many : length c.params ≡ length args = eqb-true (length c.params) (length args) k.0 in
    record { number = number; numbered = n; callee = c; is_there = e; as_many = many; accepts = fits_all env before m.args args c.params p many k.1; replies = r }

call_parts : (env : Environment) → length env.behaviors ≤ 64 → (before : Option Sort) (m : Send) (t : Sort) (args : List Sort) (reply : Sort) → Pairwise (ArgHasSort env before) m.args args
    → actor_rules m t args env ≡ [] → reply_sort m (Some t) env ≡ reply → CallParts env t m.handler.text args reply
unfolding is_actor_sort
call_parts env few before m t args reply p h r =
    let k = if_none (is_actor_sort env t) (call_rules (called_handler m t env) m args env) (target_rules m) h (not_none _ []) in
    let both = and_parts (is_actor_base env t.base) (nat_eq t.dims 0) k.0 in
    let b = actor_base_parts env t.base both.0 in
    let d : t.dims ≡ 0 = eqb-true t.dims 0 both.1 in
    let flat : record { base = Actor b.0; dims = t.dims } ≡ plain (Actor b.0) = ap (λ n. record { base = Actor b.0; dims = n }) d in
    let named : t ≡ record { base = Actor b.0; dims = t.dims } = ap (λ x. record { base = x; dims = t.dims }) b.1 in
    let n = number_of_known b.0 env few b.2 in
    let o : called_handler m t env ≡ handler_with_name m.handler.text (behavior_with_name b.0 env) = ap (λ x. handler_of_base m.handler.text x env) b.1 in
    record {
      name = b.0;
      is = named ∙ flat;
      call = callee_parts env before m b.0 n.0 args reply n.1 p (handler_with_name m.handler.text (behavior_with_name b.0 env)) refl (ap (λ x. call_rules x m args env) (sym o) ∙ k.1) (ap call_result (sym o) ∙ r);
    }

same_name : (a b : List ℕ) → plain (Actor a) ≡ plain (Actor b) → a ≡ b
same_name a b e = ap name_in (ap (λ (s : Sort). s.base) e)
  where
    name_in : Base → List ℕ
    name_in (Actor name) = name
    name_in Int = []
    name_in Boolean = []
    name_in Str = []
    name_in Void = []
    name_in Null = []

aim_parts : (env : Environment) → length env.behaviors ≤ 64 → (before : Option Sort) (m : Send) (a : Aim) (target : Option Sort) (args : List Sort) (reply : Sort) → Pairwise (ArgHasSort env before) m.args args
    → aim_verdict a env ≡ Good target → send_rules m target args env ≡ [] → reply_sort m target env ≡ reply → AimParts a env m.handler.text args reply
aim_parts env few before m aim.Own target args reply p v h r =
    let is : Some (plain (Actor env.own)) ≡ target = good_is (Some (plain (Actor env.own))) target v in
    let c = call_parts env few before m (plain (Actor env.own)) args reply p (ap (λ t. send_rules m t args env) is ∙ h) (ap (λ t. reply_sort m t env) is ∙ r) in
    subst (λ name. IsCall env name m.handler.text args reply) (sym (same_name env.own c.name c.is)) c.call
aim_parts env few before m (aim.Output at) target args reply p v h r =
    let is : None ≡ target = good_is None target v in
    let k = if_none (is_print m.handler.text && nat_le (length args) 1) (print_rules m.args args) (handler_rules m) (ap (λ t. send_rules m t args env) is ∙ h) (not_none _ []) in
    let both = and_parts (is_print m.handler.text) (nat_le (length args) 1) k.0 in
    let few_args : length args ≤ 1 = leb-true (length args) 1 both.1 in
    (both.0, few_args, prints_all env before m.args args p few_args k.1, ap (λ t. reply_sort m t env) is ∙ r)
aim_parts env few before m (aim.Actor e) target args reply p v h r =
    let i = map_parts (λ (x : Sort). Some x) (expr_verdict e env false) target v in
    let c = call_parts env few before m i.0 args reply p (ap (λ t. send_rules m t args env) i.2 ∙ h) (ap (λ t. reply_sort m t env) i.2 ∙ r) in
    (c.name, i.1 ∙ ap (λ s. Good s) c.is, c.call)

properties_hold : (env : Environment) (ps : List Property) (us : List (Unit {0})) → Pairwise (λ q u. property_verdict env q ≡ Good u) ps us → Each (PropertyParts env) ps
properties_hold env [] us h = tt
properties_hold env (p ∷ ps) [] h = absurd h
properties_hold env (p ∷ ps) (u ∷ us) h = (property_parts env p u h.0, properties_hold env ps us h.1)

pub message_parts : MessagesHaveParts
unfolding message_verdict
message_parts env few m before s h =
    let targets : Verdict (Option Sort) = aim_verdict m.aim env in
    let args : Verdict (List Sort) = verdict_of_all (arg_verdict env before) m.args in
    let props : Verdict (List (Unit {0})) = verdict_of_all (property_verdict env) m.properties in
    let n = node_parts (targets also args also props) (λ p. send_rules m p.0.0 p.0.1 env ++ repetition_rules (repetition_offset false false m.properties)) (λ p. reply_sort m p.0.0 env) s h in
    let both = also_parts (targets also args) props n.part n.typed in
    let two = also_parts targets args n.part.0 both.left in
    let have = each_parts (arg_verdict env before) m.args n.part.0.1 two.right in
    record {
      args = n.part.0.1;
      have = args_parts env before m.args n.part.0.1 have;
      properties = properties_hold env m.properties n.part.1 (each_parts (property_verdict env) m.properties n.part.1 both.right);
      once = never_again (repetition_offset false false m.properties) (none_right (send_rules m n.part.0.0 n.part.0.1 env) (repetition_rules (repetition_offset false false m.properties)) n.keeps);
      target = aim_parts env few before m m.aim n.part.0.0 n.part.0.1 s have two.left (none_left (send_rules m n.part.0.0 n.part.0.1 env) (repetition_rules (repetition_offset false false m.properties)) n.keeps) n.is;
    }

-- ---- what a message replies

-- what the meaning reads off the text is the checker's type of the reply
pub record Replies (behaviors : List Behavior) (s : Sort) (k : Option MeantSort) : Type 0 where
  pub is : k ≡ number_sort s behaviors
  pub known : IsReplySort s behaviors

pub void_replies : (behaviors : List Behavior) → Replies behaviors (plain Void) (text.plain meant.Void)
unfolding number_sort
void_replies behaviors = record { is = refl; known = inl refl }

handlers_stand : (env : Environment) (mine n : ℕ) → IsKnown env mine → (b : Option Behavior) → b ≡ slice_get env.behaviors n → (handlers_in b ≡ handlers_at env.behaviors (Some n)) × Each (HandlerIsKnown env.behaviors) (handlers_in b)
handlers_stand env mine n h None e = (rw (← e) refl, tt)
handlers_stand env mine n h (Some b) e = (rw (← e) refl, (each_at (MembersAreKnown env.behaviors) env.behaviors n b h.members (sym e)).1)

declared_replies : (env : Environment) (mine n : ℕ) → IsKnown env mine → (b : Option Behavior) → b ≡ slice_get env.behaviors n → (handler : List ℕ) (o : Option Handler) → find (λ x. bytes_eq x.name handler) (handlers_in b) ≡ o
    → (c : HandlerType) → option_map type_of_handler o ≡ Some c → Replies env.behaviors c.result (declared_result handler (Some n) env.behaviors)
declared_replies env mine n h b e handler None f c g = absurd cc
declared_replies env mine n h b e handler (Some x) f c g =
    let stand = handlers_stand env mine n h b e in
    let same : type_of_handler x ≡ c = some_is (type_of_handler x) c g in
    let known = (each_found (HandlerIsKnown env.behaviors) (λ y. bytes_eq y.name handler) (handlers_in b) x stand.1 f).1 in
    let there : declared_result handler (Some n) env.behaviors ≡ result_sort x.result env.behaviors = ap (λ l. handler_result (find (λ (y : Handler). bytes_eq y.name handler) l) env.behaviors) (sym stand.0) ∙ ap (λ q. handler_result q env.behaviors) f in
    let here : Replies env.behaviors (sort_of_result x.result) (declared_result handler (Some n) env.behaviors) = record { is = there ∙ sym (number_of_result x.result env.behaviors); known = result_is_reply x.result env.behaviors known } in
    subst (λ (y : HandlerType). Replies env.behaviors y.result (declared_result handler (Some n) env.behaviors)) same here

call_replies : (env : Environment) (mine : ℕ) → IsKnown env mine → (name handler : List ℕ) (args : List Sort) (s : Sort) (c : IsCall env name handler args s) → Replies env.behaviors s (actor_result handler (Some c.number) env.behaviors)
unfolding handler_with_name is_migrate
call_replies env mine h name handler args s c =
    let b : Option Behavior = behavior_with_name name env in
    subst (λ x. Replies env.behaviors x (actor_result handler (Some c.number) env.behaviors)) c.replies
    (by (bytes_eq handler (codes "migrate")) c.is_there
    (declared_replies env mine c.number h b (behavior_numbered name c.number env h.few c.numbered) handler (find (λ (x : Handler). bytes_eq x.name handler) (handlers_in b)) refl c.callee))
  where
    by : (t : Bool) → cond t (Some migrate_type) (option_map type_of_handler (find (λ x. bytes_eq x.name handler) (handlers_in (behavior_with_name name env)))) ≡ Some c.callee
        → (option_map type_of_handler (find (λ x. bytes_eq x.name handler) (handlers_in (behavior_with_name name env))) ≡ Some c.callee → Replies env.behaviors c.callee.result (declared_result handler (Some c.number) env.behaviors))
        → Replies env.behaviors c.callee.result (cond t (text.plain meant.Void) (declared_result handler (Some c.number) env.behaviors))
    by true e more =
        let same : migrate_type ≡ c.callee = some_is migrate_type c.callee e in
        subst (λ (y : HandlerType). Replies env.behaviors y.result (text.plain meant.Void)) same (void_replies env.behaviors)
    by false e more = more e

aim_replies : (env : Environment) (mine : ℕ) → IsKnown env mine → (a : Aim) (handler : List ℕ) (args : List Sort) (s : Sort) → AimParts a env handler args s → Replies env.behaviors s (aim_result a handler (scope_of env mine))
unfolding number_sort
aim_replies env mine h aim.Own handler args s c =
    let same : c.number ≡ mine = some_is c.number mine (sym c.numbered ∙ h.own) in
    subst (λ n. Replies env.behaviors s (actor_result handler (Some n) env.behaviors)) same (call_replies env mine h env.own handler args s c)
aim_replies env mine h (aim.Output at) handler args s c = subst (λ x. Replies env.behaviors x (text.plain meant.Void)) c.3 (void_replies env.behaviors)
aim_replies env mine h (aim.Actor e) handler args s c =
    let kind = (expr_agrees env mine h e false (plain (Actor c.0)) c.1).is in
    let here : sort_of e (scope_of env mine) ≡ text.plain (meant.Actor c.2.number) = kind ∙ ap (λ o. sort_with (option_map meant.Actor o) 0) c.2.numbered in
    subst (λ k. Replies env.behaviors s (actor_result handler (behavior_of k) env.behaviors)) (sym here) (call_replies env mine h c.0 handler args s c.2)

pub message_replies : (env : Environment) (mine : ℕ) → IsKnown env mine → (m : Send) (before : Option Sort) (s : Sort) → message_verdict m env before ≡ Good s → Replies env.behaviors s (message_result m (scope_of env mine))
unfolding message_result
message_replies env mine h m before s g =
    let p = message_parts env h.few m before s g in
    aim_replies env mine h m.aim m.handler.text p.args s p.target

pub messages_have_sorts : MessagesHaveTheirSorts
messages_have_sorts env mine h m before s g = let r = message_replies env mine h m before s g in (r.is, r.known)
