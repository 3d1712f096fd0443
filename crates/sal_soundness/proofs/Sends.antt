-- What typing gives of a message to an actor.
use Rattle.std.proofs.Common.{◌≡◌, ◌⊎◌, inl, inr, ℕ, zero, suc, ◌+◌, Bool, true, false, cond, not, ◌&&◌, ◌||◌, if◌then◌else◌, ◌≤◌, List, [], ◌∷◌, length, map, Option, Some, None, option_map, refl, sym, ap, subst, ◌∙◌, arith}
use Rattle.std.specs.Prelude.{slice_get, nat_le, nat_lt, codes}
use Rattle.std.specs.List.{find, position, position_or_len, list_all}
use Rattle.std.specs.Str.{bytes_eq}
use Rattle.std.proofs.lemmas.Bool.{and_parts}
use Rattle.sal_value.specs.declared.value.Sort.{Sort as MeantSort}
use Rattle.sal_value.proofs.Tables.{some_is}
use Rattle.sal_ast.specs.declared.program.Ident.{Ident}
use Rattle.sal_ast.specs.declared.program.Program.{Program}
use Rattle.sal_ast.specs.declared.program.Behavior.{Behavior}
use Rattle.sal_ast.specs.declared.expression.Expr.{Expr, out-Expr}
use Rattle.sal_ast.specs.declared.expression.Suffix.{Suffix}
use Rattle.sal_ast.specs.declared.expression.At.{At}
use Rattle.sal_ast.specs.declared.expression.Operand.{Operand}
use Rattle.sal_ast.specs.declared.expression.Expr.TheOpen.{Expr-F}
use Rattle.sal_ast.specs.declared.statement.Aim.{Aim}
use Rattle.sal_ast.specs.declared.statement.Aim.TheVariants as aim
use Rattle.sal_ast.specs.declared.statement.Arg.{Arg}
use Rattle.sal_ast.specs.declared.statement.Arg.TheVariants as arg
use Rattle.sal_ast.specs.declared.statement.Property.{Property}
use Rattle.sal_ast.specs.declared.statement.Property.TheVariants as property
use Rattle.sal_ast.specs.declared.statement.Send.{Send}
use Rattle.sal_ast.specs.Members.{behavior_by_name}
use Rattle.sal_ast.specs.Regular.{postfix, shape_of, expr_is_regular, aim_is_regular, arg_is_regular, property_is_regular, send_is_regular}
use Rattle.sal_ast.specs.Sorts.{Scope, sort_with, target_behavior, behavior_of}
use Rattle.sal_ast.specs.Sorts.{Variable as ScopeVariable}
use Rattle.sal_sorts.specs.declared.sort.Base.{Base}
use Rattle.sal_sorts.specs.declared.sort.Base.TheVariants.{Int, Boolean, Str, Actor, Void, Null}
use Rattle.sal_sorts.specs.declared.sort.Sort.{Sort}
use Rattle.sal_sorts.specs.declared.variable.Variable.{Variable}
use Rattle.sal_sorts.specs.Sorts.{plain, is_text_sort, is_int_sort, is_boolean_sort, is_printable_sort}
use Rattle.sal_mail.specs.declared.constants.TheConstants.{PRINT, PRINTLN}
use Rattle.sal_sorts.specs.Environments.{Environment, local_with_name, variable_with_name, or_else, field_in_scope}
use Rattle.sal_types.specs.declared.signature.Signature.{Signature}
use Rattle.sal_types.specs.Programs.{IsTyped}
use Rattle.sal_typing.specs.Numbers.{number_base, number_sort, number_variable, scope_of}
use Rattle.sal_typing.specs.Known.{Each, IsReplySort, IsSortInScope, IsKnownVariable, IsKnown}
use Rattle.sal_typing.specs.Parts.{Pairwise, HasSort, ExprParts, ArgParts, PropertyParts, AimParts, MessageParts}
use Rattle.sal_typing.specs.Fitting.{Fits}
use Rattle.sal_typing.proofs.Expressions.{have_sorts}
use Rattle.sal_typing.proofs.ExpressionParts.{same_sort_is, have_parts}
use Rattle.sal_typing.proofs.Finding.{stands_first, position_of, no_position, each_found}
use Rattle.sal_typing.proofs.Fitting.{arguments_fit}
use Rattle.sal_handler.specs.Messages.{name_alone, aim_handler_id, actor_handler_id}
use Rattle.sal_handler.specs.Scopes.{Context}
use Rattle.sal_fitting.specs.Signatures.{signature_at, void_sort}
use Rattle.sal_fitting.specs.Programs.{signatures}
use Rattle.sal_preservation.proofs.Judged.{Kind, Assignable, int, boolean, text}
use Rattle.sal_preservation.proofs.Reaching.{NoNull, actor_kind, int_kind, boolean_kind, text_kind, reaches}
use Rattle.sal_soundness.proofs.Anywhere.{Judgement, Can}
use Rattle.sal_soundness.proofs.Sending as sending
use Rattle.sal_soundness.proofs.Sending.{PrintedSort, PrintedSorts, tok_in, tok_at, tokens_of}
use Rattle.sal_soundness.proofs.Signing.{call_addressed}

-- ---- lists

len_map : {X Y : Type 0} (f : X → Y) (q : Y → Bool) (xs : List X) → position_or_len q (map f xs) ≡ position_or_len (λ x. q (f x)) xs
len_map f q [] = refl
len_map f q (x ∷ xs) = ap (λ k. cond (not (q (f x))) (1 + k) 0) (len_map f q xs)

as_many : {X Y : Type 0} (f : X → Y) (xs : List X) → length (map f xs) ≡ length xs
as_many f [] = refl
as_many f (x ∷ xs) = ap suc (as_many f xs)

position_in_map : {X Y : Type 0} (f : X → Y) (q : Y → Bool) (xs : List X) → position q (map f xs) ≡ position (λ x. q (f x)) xs
position_in_map f q xs = λ i. cond (nat_lt (len_map f q xs i) (as_many f xs i)) (Some (len_map f q xs i)) None

get_map : {X Y : Type 0} (f : X → Y) (xs : List X) (i : ℕ) → slice_get (map f xs) i ≡ option_map f (slice_get xs i)
get_map f [] i = refl
get_map f (x ∷ xs) zero = refl
get_map f (x ∷ xs) (suc i) = get_map f xs i

name_is : (z : Expr-F Expr Suffix At Operand) (id : Ident) → name_alone z ≡ Some id → z ≡ Expr-F.Name id
name_is (Expr-F.Name n) id e = ap Expr-F.Name (some_is e)
name_is (Expr-F.Number n at) id e = absurd cc
name_is (Expr-F.Str t at) id e = absurd cc
name_is (Expr-F.Bool b at) id e = absurd cc
name_is (Expr-F.Null at) id e = absurd cc
name_is (Expr-F.Me at) id e = absurd cc
name_is (Expr-F.Own at n) id e = absurd cc
name_is (Expr-F.Paren at x) id e = absurd cc
name_is (Expr-F.Neg at x) id e = absurd cc
name_is (Expr-F.Not at x) id e = absurd cc
name_is (Expr-F.Level x xs) id e = absurd cc
name_is (Expr-F.Suffixed x xs) id e = absurd cc
name_is (Expr-F.New at b xs place) id e = absurd cc
name_is (Expr-F.Make at t x) id e = absurd cc
name_is (Expr-F.ListOf at t xs) id e = absurd cc
name_is (Expr-F.ByName at cast b x) id e = absurd cc

-- ---- types that have a number

base_no_null : (bs : List Behavior) (b : Base) (d : ℕ) (t : MeantSort) → sort_with (number_base b bs) d ≡ Some t → NoNull (record { base = b; dims = d })
base_no_null bs Int d t e = refl
base_no_null bs Boolean d t e = refl
base_no_null bs Str d t e = refl
base_no_null bs (Actor name) d t e = refl
base_no_null bs Void d t e = refl
base_no_null bs Null d t e = absurd cc

pub number_no_null : (bs : List Behavior) (s : Sort) (t : MeantSort) → number_sort s bs ≡ Some t → NoNull s
unfolding number_sort
number_no_null bs s t e = base_no_null bs s.base s.dims t e

reply_no_null : (bs : List Behavior) (s : Sort) → IsReplySort s bs → NoNull s
reply_no_null bs s (inl e) = subst NoNull (sym e) refl
reply_no_null bs s (inr v) = number_no_null bs s v.number v.means

or_is : (a b c : Bool) → (a || b || c) ≡ true → (a ≡ true) ⊎ ((b ≡ true) ⊎ (c ≡ true))
or_is true b c e = inl refl
or_is false true c e = inr (inl refl)
or_is false false c e = inr (inr e)

-- what is printed
printed : (bs : List Behavior) (s : Sort) → is_printable_sort s ≡ true → (t : MeantSort) × ((number_sort s bs ≡ Some t) × PrintedSort t)
unfolding is_printable_sort is_text_sort is_int_sort is_boolean_sort
printed bs s h = by (or_is (is_text_sort s) (is_int_sort s) (is_boolean_sort s) h)
  where
    by : (is_text_sort s ≡ true) ⊎ ((is_int_sort s ≡ true) ⊎ (is_boolean_sort s ≡ true)) → (t : MeantSort) × ((number_sort s bs ≡ Some t) × PrintedSort t)
    by (inl e) = (text, (ap (λ z. number_sort z bs) (same_sort_is s (plain Str) e) ∙ text_kind bs, inr (inr refl)))
    by (inr (inl e)) = (int, (ap (λ z. number_sort z bs) (same_sort_is s (plain Int) e) ∙ int_kind bs, inl refl))
    by (inr (inr e)) = (boolean, (ap (λ z. number_sort z bs) (same_sort_is s (plain Boolean) e) ∙ boolean_kind bs, inr (inl refl)))

pub void_kind : (bs : List Behavior) → number_sort (plain Void) bs ≡ Some void_sort
unfolding number_sort
void_kind bs = refl

print_low : (b : Bool) → (if b then PRINTLN else PRINT) ≤ PRINTLN
print_low true = omega arith
print_low false = omega arith

null_not : {A : Type 0} (s : Sort) → s ≡ plain Null → NoNull s → A
null_not s e h = let f : NoNull (plain Null) = subst NoNull e h in absurd cc

-- the type of a token
abbrev pub token_kind : List Behavior → Variable → Option MeantSort
token_kind bs v = if v.is_token then number_sort v.sort bs else None

-- the types of the tokens in scope
abbrev pub tokens : Environment → List (Option MeantSort)
tokens env = map (token_kind env.behaviors) env.scope

-- the type of the stage before
abbrev pub before_kind : List Behavior → Option Sort → Option MeantSort
before_kind bs None = None
before_kind bs (Some s) = number_sort s bs

module _ (p : Program) (typed : IsTyped p) (env : Environment) (mine : ℕ) (known : IsKnown env mine) (same : env.behaviors ≡ p.behaviors) where
  abbrev pub here : Scope
  here = scope_of env mine

  abbrev pub tok_of : Option Variable → Option MeantSort
  tok_of None = None
  tok_of (Some v) = (token_kind env.behaviors) v

  here_tokens : (n : List ℕ) → tokens_of here (tokens env) n ≡ tok_of (local_with_name n env)
  unfolding local_with_name
  here_tokens n = ap (λ o. tok_at o (tokens env)) (position_in_map (number_variable env.behaviors) (λ (v : ScopeVariable). bytes_eq v.name n) env.scope) ∙ by (find (λ (v : Variable). bytes_eq v.name n) env.scope) refl
    where
      by : (o : Option Variable) → find (λ (v : Variable). bytes_eq v.name n) env.scope ≡ o → tok_at (position (λ (v : Variable). bytes_eq v.name n) env.scope) (tokens env) ≡ tok_of (find (λ (v : Variable). bytes_eq v.name n) env.scope)
      by None e = ap (λ o. tok_at o (tokens env)) (no_position (λ (v : Variable). bytes_eq v.name n) env.scope e) ∙ ap tok_of (sym e)
      by (Some v) e =
          ap (λ o. tok_at o (tokens env)) (position_of (λ (v : Variable). bytes_eq v.name n) env.scope v e)
          ∙ (ap tok_in (get_map (token_kind env.behaviors) env.scope (position_or_len (λ (v : Variable). bytes_eq v.name n) env.scope) ∙ ap (option_map (token_kind env.behaviors)) (stands_first (λ (v : Variable). bytes_eq v.name n) env.scope v e).there) ∙ ap tok_of (sym e))

  no_token : (e : Expr) (s : Sort) → HasSort env e s → (id : Ident) → name_alone (out-Expr e) ≡ Some id → tokens_of here (tokens env) id.text ≡ None
  unfolding variable_with_name
  no_token e s h id is =
      let q : ExprParts (Expr-F.Name id) env false s = subst (λ z. ExprParts z env false s) (name_is (out-Expr e) id is) (have_parts env e false s h) in
      here_tokens id.text ∙ by (local_with_name id.text env) q.0 q.1 q.2
    where
      by : (o : Option Variable) (v : Variable) → or_else o (field_in_scope env.member id.text env) ≡ Some v → v.is_token ≡ false → tok_of o ≡ None
      by None v e f = refl
      by (Some w) v e f = ap (λ b. if b then number_sort w.sort env.behaviors else None) (ap (λ (x : Variable). x.is_token) (some_is e) ∙ f)

  module _ (g : Signature) (from : ℕ) (item : Option MeantSort) (r : Context)
      (can : Can p.behaviors r) where
    abbrev ArgOf : Arg → Option MeantSort → MeantSort → Type 0
    ArgOf = sending.ArgOf p.behaviors (signatures p) g from r can here (tokens env) item

    abbrev ArgsOf : List Arg → Option MeantSort → List MeantSort → Type 0
    ArgsOf = sending.ArgsOf p.behaviors (signatures p) g from r can here (tokens env) item

    pub judged : (e : Expr) (s : Sort) → expr_is_regular e ≡ true → HasSort env e s → Judgement p.behaviors e here (number_sort s env.behaviors)
    judged e s regular h = record { env = env; mine = mine; known = known; same = same; judged = record { minus = false; sort = s; scope = refl; regular = regular; good = h; kind = refl } }

    pub value_fits : (e : Expr) (s to : Sort) (t : MeantSort) → expr_is_regular e ≡ true → HasSort env e s → Fits env s to → number_sort to env.behaviors ≡ Some t → (k : Kind) × (Judgement p.behaviors e here k × Assignable k t)
    value_fits e s to t regular h f is =
        let q = reaches env.behaviors env refl s to (have_sorts env mine known e false s h).1 f (number_no_null env.behaviors to t is) in
        (number_sort s env.behaviors, (judged e s regular h, subst (Assignable (number_sort s env.behaviors)) (some_is (sym q.is ∙ is)) q.fits))

    token_fits : (s to : Sort) (t : MeantSort) → NoNull s → Fits env s to → number_sort to env.behaviors ≡ Some t → number_sort s env.behaviors ≡ Some t
    token_fits s to t nn (inl f) is = null_not s f.0 nn
    token_fits s to t nn (inr e) is = ap (λ z. number_sort z env.behaviors) e ∙ is

    arg_fits : (before : Option Sort) → ((u : Sort) → before ≡ Some u → IsReplySort u env.behaviors) → (a : Arg) (s to : Sort) (t : MeantSort) → arg_is_regular a ≡ true → ArgParts env before a s → Fits env s to → number_sort to env.behaviors ≡ Some t → ArgOf a (before_kind env.behaviors before) t
    unfolding local_with_name
    arg_fits before reply (arg.Token at) s to t regular h f is = ap (before_kind env.behaviors) h ∙ token_fits s to t (reply_no_null env.behaviors s (reply s h)) f is
    arg_fits before reply (arg.Expr e) s to t regular (inr h) f is = inr ((λ id alone. no_token e s h id alone), value_fits e s to t regular h f is)
    arg_fits before reply (arg.Expr e) s to t regular (inl h) f is = inl (h.0, (ap name_alone h.2, here_tokens h.0.text ∙ local h.1 h.3 h.4 h.5))
      where
        local : (v : Variable) → local_with_name h.0.text env ≡ Some v → v.is_token ≡ true → v.sort ≡ s → tok_of (local_with_name h.0.text env) ≡ Some t
        local v found token sort =
            let there : IsSortInScope v.is_token v.sort env.behaviors = each_found (IsKnownVariable env.behaviors) (λ (w : Variable). bytes_eq w.name h.0.text) env.scope v known.scope found in
            let reply : IsReplySort v.sort env.behaviors = subst (λ b. IsSortInScope b v.sort env.behaviors) token there in
            let nn : NoNull s = subst NoNull sort (reply_no_null env.behaviors v.sort reply) in
            ap tok_of found ∙ ap (λ b. if b then number_sort v.sort env.behaviors else None) token ∙ ap (λ z. number_sort z env.behaviors) sort ∙ token_fits s to t nn f is

    args_fit : (before : Option Sort) → ((u : Sort) → before ≡ Some u → IsReplySort u env.behaviors) → (list : List Arg) (ss tos : List Sort) (ts : List MeantSort) → list_all arg_is_regular list ≡ true → Pairwise (ArgParts env before) list ss → Pairwise (Fits env) ss tos → Pairwise (λ s t. number_sort s env.behaviors ≡ Some t) tos ts → ArgsOf list (before_kind env.behaviors before) ts
    args_fit before reply [] [] [] [] regular h f is = tt
    args_fit before reply [] [] [] (t ∷ ts) regular h f is = absurd is
    args_fit before reply [] [] (to ∷ tos) ts regular h f is = absurd f
    args_fit before reply [] (s ∷ ss) tos ts regular h f is = absurd h
    args_fit before reply (a ∷ list) [] tos ts regular h f is = absurd h
    args_fit before reply (a ∷ list) (s ∷ ss) [] ts regular h f is = absurd f
    args_fit before reply (a ∷ list) (s ∷ ss) (to ∷ tos) [] regular h f is = absurd is
    args_fit before reply (a ∷ list) (s ∷ ss) (to ∷ tos) (t ∷ ts) regular h f is =
        let q = and_parts (arg_is_regular a) (list_all arg_is_regular list) regular in
        (arg_fits before reply a s to t q.0 h.0 f.0 is.0, args_fit before reply list ss tos ts q.1 h.1 f.1 is.1)

    abbrev DelaysOf : List Property → Type 0
    DelaysOf = sending.DelaysOf p.behaviors (signatures p) g from r can here (tokens env) item

    abbrev AimOf : Aim → Type 0
    AimOf = sending.AimOf p.behaviors (signatures p) g from r can here (tokens env) item

    pub has_kind : (e : Expr) (s : Sort) → expr_is_regular e ≡ true → HasSort env e s → (k : Kind) × Judgement p.behaviors e here k
    has_kind e s regular h = (number_sort s env.behaviors, judged e s regular h)

    delays_fit : (ps : List Property) → list_all property_is_regular ps ≡ true → Each (PropertyParts env) ps → DelaysOf ps
    delays_fit [] regular h = tt
    delays_fit (property.Delay at time ∷ ps) regular h = let q = and_parts (expr_is_regular time) (list_all property_is_regular ps) regular in (has_kind time (plain Int) q.0 h.0, delays_fit ps q.1 h.1)
    delays_fit (property.WaitFor at names ∷ ps) regular h = delays_fit ps (and_parts (property_is_regular (property.WaitFor at names)) (list_all property_is_regular ps) regular).1 h.1

    record IsAimed (a : Aim) (name : List ℕ) (args : List Sort) (reply : Sort) : Type 0 where
      signature : Signature
      aim : AimOf a
      address : sending.AddressOf p.behaviors (signatures p) g from r can here (tokens env) item a signature (aim_handler_id a name (target_behavior a here) r)
      tos : List Sort
      fit : Pairwise (Fits env) args tos
      numbers : Pairwise (λ s t. number_sort s env.behaviors ≡ Some t) tos signature.params
      result : number_sort reply env.behaviors ≡ Some signature.result

    prints : (args : List Sort) → length args ≤ 1 → Each (λ a. is_printable_sort a ≡ true) args
        → (ts : List MeantSort) × (Pairwise (Fits env) args args × (Pairwise (λ s t. number_sort s env.behaviors ≡ Some t) args ts × PrintedSorts ts))
    prints [] l h = ([], (tt, (tt, tt)))
    prints (s ∷ []) l h = let q = printed env.behaviors s h.0 in (q.0 ∷ [], ((inr refl, tt), ((q.1.0, tt), q.1.1)))
    prints (s ∷ u ∷ ss) l h = absurd (omega (arith, l))

    at_number : (name : List ℕ) (m k : ℕ) (w : Signature) → m ≡ k → signature_at (signatures p) (actor_handler_id name (Some m) r).behavior (actor_handler_id name (Some m) r).handler ≡ Some w → signature_at (signatures p) (actor_handler_id name (Some k) r).behavior (actor_handler_id name (Some k) r).handler ≡ Some w
    at_number name m k w e h = subst (λ (z : ℕ). signature_at (signatures p) (actor_handler_id name (Some z) r).behavior (actor_handler_id name (Some z) r).handler ≡ Some w) e h

    target_is : (e : Expr) (b : List ℕ) (k : ℕ) → HasSort env e (plain (Actor b)) → behavior_by_name b env.behaviors ≡ Some k → target_behavior (aim.Actor e) here ≡ Some k
    target_is e b k h n = ap behavior_of ((have_sorts env mine known e false (plain (Actor b)) h).0 ∙ actor_kind env.behaviors b k n)

    aimed : (a : Aim) (name : List ℕ) (args : List Sort) (reply : Sort) → aim_is_regular a ≡ true → AimParts a env name args reply → IsAimed a name args reply
    aimed (aim.Output at) name args reply regular h =
        let q = prints args h.1 h.2 in
        record {
          signature = record { params = q.0; result = void_sort };
          aim = tt;
          address = (refl, (print_low (bytes_eq name (codes "println")), (q.1.1.1, refl)));
          tos = args;
          fit = q.1.0;
          numbers = q.1.1.0;
          result = ap (λ z. number_sort z env.behaviors) (sym h.3) ∙ void_kind env.behaviors;
        }
    aimed aim.Own name args reply regular c =
        let d = call_addressed p typed env same r can.1 env.own name args reply c in
        record {
          signature = d.signature;
          aim = tt;
          address = at_number name c.number mine d.signature (some_is (sym c.numbered ∙ known.own)) d.is;
          tos = c.callee.params;
          fit = arguments_fit env known.few args c.callee.params c.accepts;
          numbers = subst (λ z. Pairwise (λ s t. number_sort s z ≡ Some t) c.callee.params d.signature.params) (sym same) d.params;
          result = ap (λ z. number_sort z env.behaviors) (sym c.replies) ∙ (ap (λ z. number_sort c.callee.result z) same ∙ d.result);
        }
    aimed (aim.Actor e) name args reply regular h =
        let c = h.2 in
        let d = call_addressed p typed env same r can.1 h.0 name args reply c in
        record {
          signature = d.signature;
          aim = has_kind e (plain (Actor h.0)) (and_parts (nat_le postfix (shape_of e).rank) (shape_of e).regular regular).1 h.1;
          address = subst (λ (o : Option ℕ). signature_at (signatures p) (actor_handler_id name o r).behavior (actor_handler_id name o r).handler ≡ Some d.signature) (sym (target_is e h.0 c.number h.1 c.numbered)) d.is;
          tos = c.callee.params;
          fit = arguments_fit env known.few args c.callee.params c.accepts;
          numbers = subst (λ z. Pairwise (λ s t. number_sort s z ≡ Some t) c.callee.params d.signature.params) (sym same) d.params;
          result = ap (λ z. number_sort z env.behaviors) (sym c.replies) ∙ (ap (λ z. number_sort c.callee.result z) same ∙ d.result);
        }

    -- a typed message to an actor has a signature, whose result is the type of its reply
    pub record IsSent (y : Send) (before : Option Sort) (reply : Sort) : Type 0 where
      pub signature : Signature
      pub result : number_sort reply env.behaviors ≡ Some signature.result
      pub send : sending.SendOf p.behaviors (signatures p) g from r can here (tokens env) item y (before_kind env.behaviors before) signature

    pub send_of : (y : Send) (before : Option Sort) (reply : Sort) → send_is_regular y ≡ true → ((u : Sort) → before ≡ Some u → IsReplySort u env.behaviors) → MessageParts env before y reply → IsSent y before reply
    unfolding send_is_regular
    send_of y before reply regular known_before h =
        let q = and_parts (aim_is_regular y.aim && list_all arg_is_regular y.args) (list_all property_is_regular y.properties) regular in
        let q2 = and_parts (aim_is_regular y.aim) (list_all arg_is_regular y.args) q.0 in
        let a = aimed y.aim y.handler.text h.args reply q2.0 h.target in
        record {
          signature = a.signature;
          result = a.result;
          send = record {
            aim = a.aim;
            args = args_fit before known_before y.args h.args a.tos a.signature.params q2.1 h.have a.fit a.numbers;
            delays = delays_fit y.properties q.1 h.properties;
            address = a.address;
          };
        }
