-- The constructors and initialisers of an accepted program make fields of their types, and parameters hold arguments of theirs.
use Rattle.std.proofs.Common.{◌≡◌, ℕ, suc, ◌+◌, Bool, true, false, if◌then◌else◌, List, [], ◌∷◌, ◌++◌, map, filter_map, Option, Some, None, Ok, Err, refl, sym, ap, subst, ◌∙◌, append_assoc, arith}
use Rattle.std.specs.Prelude.{slice_get, slice_set, nat_lt}
use Rattle.std.specs.List.{list_all, find, position_or_len}
use Rattle.std.specs.Str.{bytes_eq}
use Rattle.std.proofs.lemmas.Bool.{and_parts}
use Rattle.sal_value.specs.declared.value.Sort.{Sort as MeantSort}
use Rattle.sal_value.specs.declared.value.Value.{Value}
use Rattle.sal_value.specs.declared.value.Value.TheVariants.{Null}
use Rattle.sal_value.proofs.Tables.{some_is}
use Rattle.sal_value.specs.declared.constants.TheConstants.{RESERVED}
use Rattle.sal_ast.specs.declared.expression.Expr.{Expr}
use Rattle.sal_ast.specs.declared.program.Param.{Param}
use Rattle.sal_ast.specs.declared.program.Member.{Member}
use Rattle.sal_ast.specs.declared.program.Member.TheVariants as m
use Rattle.sal_ast.specs.declared.program.Behavior.{Behavior}
use Rattle.sal_ast.specs.declared.program.Program.{Program}
use Rattle.sal_ast.specs.declared.statement.Stmt.{Stmt}
use Rattle.sal_ast.specs.Members.{Field, Handler, as_field, as_handler, as_constructor, fields_of, handlers_of, constructor_of, valid_number, behavior_by_name}
use Rattle.sal_ast.specs.Regular.{has_any, option_is_regular, block_is_regular, member_is_regular, behavior_is_regular, is_regular}
use Rattle.sal_ast.specs.Sorts.{fields_in, type_sort}
use Rattle.sal_sorts.specs.declared.sort.Base.TheVariants.{Void}
use Rattle.sal_sorts.specs.declared.variable.Variable.{Variable}
use Rattle.sal_sorts.specs.declared.variable.MemberKind.TheVariants as kind
use Rattle.sal_sorts.specs.Sorts.{plain, sort_of_type}
use Rattle.sal_sorts.specs.Environments.{Environment, with_variable, constructor_params}
use Rattle.sal_types.specs.declared.signature.Signature.{Signature}
use Rattle.sal_types.specs.Programs.{IsAccepted}
use Rattle.sal_typing.specs.Numbers.{number_sort, number_variable, scope_of}
use Rattle.sal_typing.specs.Known.{Each, IsThere, IsKnownVariable, IsKnown}
use Rattle.sal_typing.specs.Members.{with_params, environment_of}
use Rattle.sal_typing.specs.StatementParts.{SequenceParts, ValueParts}
use Rattle.sal_typing.proofs.Finding.{each_at, position_of, no_position, stands_first}
use Rattle.sal_typing.proofs.Fitting.{assignable_fits}
use Rattle.sal_typing.proofs.Numbering.{number_of_type}
use Rattle.sal_typing.proofs.Expressions.{type_parts}
use Rattle.sal_typing.proofs.Members.{each_kept, programs_have_parts}
use Rattle.sal_handler.specs.declared.state.Content.TheVariants as held
use Rattle.sal_handler.specs.declared.state.Local.{Local}
use Rattle.sal_handler.specs.declared.state.State.{State}
use Rattle.sal_handler.specs.Evaluation.{OrTrap, and_then}
use Rattle.sal_handler.specs.Expressions.{eval}
use Rattle.sal_handler.specs.Handler as h
use Rattle.sal_handler.specs.Scopes as c
use Rattle.sal_handler.specs.Scopes.{Context, variable_of}
use Rattle.sal_handler.specs.WellFormed.{EachOf}
use Rattle.sal_handler.proofs.After.{After, then_after, after_more}
use Rattle.sal_fitting.specs.Programs.{signatures}
use Rattle.sal_fitting.specs.Signatures.{void_sort}
use Rattle.sal_preservation.specs.States.{IsOf as Has, AreOf, AreFields, FieldsOf, HoldsSort as ContentOf, MakesFields, params_in, params_of, or_void}
use Rattle.sal_preservation.proofs.Expressions.{Belongs, Sits, Went}
use Rattle.sal_preservation.proofs.Values.{default_is}
use Rattle.sal_soundness.proofs.Anywhere.{HasFields, Can, eval_keeps, assigned}
use Rattle.sal_soundness.proofs.Assigning.{fields_after}
use Rattle.sal_soundness.proofs.Sending as sending
use Rattle.sal_soundness.proofs.Sends as sends
use Rattle.sal_soundness.proofs.Sends.{token_kind, tokens, void_kind}
use Rattle.sal_soundness.proofs.Statements as statements

-- ---- regular members

each_true : {X : Type 0} (q : X → Bool) (xs : List X) → list_all q xs ≡ true → Each (λ x. q x ≡ true) xs
each_true q [] h = tt
each_true q (x ∷ xs) h = let both = and_parts (q x) (list_all q xs) h in (both.0, each_true q xs both.1)

members_regular : (p : Program) → is_regular p ≡ true → (n : ℕ) (b : Behavior) → slice_get p.behaviors n ≡ Some b → Each (λ x. member_is_regular x ≡ true) b.members
unfolding is_regular
members_regular p r n b is =
    each_true member_is_regular b.members (each_at (λ (y : Behavior). behavior_is_regular y ≡ true) p.behaviors n b (each_true behavior_is_regular p.behaviors (and_parts (has_any p.behaviors) (list_all behavior_is_regular p.behaviors) r).1) is)

field_regular : (x : Member) (f : Field) → member_is_regular x ≡ true → as_field x ≡ Some f → option_is_regular f.init ≡ true
field_regular (m.Field sort name init) f r e = subst (λ (y : Field). option_is_regular y.init ≡ true) (some_is e) r
field_regular (m.Constructor name params body) f r e = absurd cc
field_regular (m.Handler result name params body) f r e = absurd cc

constructor_regular : (x : Member) (f : Handler) → member_is_regular x ≡ true → as_constructor x ≡ Some f → block_is_regular f.body ≡ true
constructor_regular (m.Field sort name init) f r e = absurd cc
constructor_regular (m.Constructor name params body) f r e = subst (λ (y : Handler). block_is_regular y.body ≡ true) (some_is e) r
constructor_regular (m.Handler result name params body) f r e = absurd cc

handler_regular : (x : Member) (f : Handler) → member_is_regular x ≡ true → as_handler x ≡ Some f → block_is_regular f.body ≡ true
handler_regular (m.Field sort name init) f r e = absurd cc
handler_regular (m.Constructor name params body) f r e = absurd cc
handler_regular (m.Handler result name params body) f r e = subst (λ (y : Handler). block_is_regular y.body ≡ true) (some_is e) r

-- what is regular of the behaviour with this number
pub record IsRegular (b : Behavior) : Type 0 where
  pub fields : (k : ℕ) (f : Field) → slice_get (fields_of b) k ≡ Some f → option_is_regular f.init ≡ true
  pub constructors : (q : Handler) → constructor_of b ≡ Some q → block_is_regular q.body ≡ true
  pub handlers : (k : ℕ) (q : Handler) → slice_get (handlers_of b) k ≡ Some q → block_is_regular q.body ≡ true

pub behavior_regular : (p : Program) → is_regular p ≡ true → (n : ℕ) (b : Behavior) → slice_get p.behaviors n ≡ Some b → IsRegular b
unfolding fields_of handlers_of constructor_of
behavior_regular p r n b is =
    let each = members_regular p r n b is in
    record {
      fields = λ k f e. each_at (λ (y : Field). option_is_regular y.init ≡ true) (filter_map as_field b.members) k f (each_kept (λ x. member_is_regular x ≡ true) (λ (y : Field). option_is_regular y.init ≡ true) as_field field_regular b.members each) e;
      constructors = λ q e. each_at (λ (y : Handler). block_is_regular y.body ≡ true) (filter_map as_constructor b.members) 0 q (each_kept (λ x. member_is_regular x ≡ true) (λ (y : Handler). block_is_regular y.body ≡ true) as_constructor constructor_regular b.members each) e;
      handlers = λ k q e. each_at (λ (y : Handler). block_is_regular y.body ≡ true) (filter_map as_handler b.members) k q (each_kept (λ x. member_is_regular x ≡ true) (λ (y : Handler). block_is_regular y.body ≡ true) as_handler handler_regular b.members each) e;
    }

-- ---- parameters

abbrev param_variable : Param → Variable
param_variable q = record { name = q.name.text; sort = sort_of_type q.sort; is_token = false }

-- with parameters alone in scope
abbrev pub params_environment : Environment → List Param → Environment
params_environment env ps = record env { scope = map param_variable ps }

append_nothing : {A : Type 0} (xs : List A) → xs ≡ xs ++ []
append_nothing [] = refl
append_nothing (x ∷ xs) = ap (λ l. x ∷ l) (append_nothing xs)

pub with_params_is : (ps : List Param) (env : Environment) → with_params env ps ≡ record env { scope = env.scope ++ map param_variable ps }
with_params_is [] env = (λ i. record env { scope = append_nothing env.scope i })
with_params_is (q ∷ qs) env = with_params_is qs (with_variable env (Some (param_variable q))) ∙ (λ i. record env { scope = append_assoc env.scope (param_variable q ∷ []) (map param_variable qs) i })

-- arguments of the parameters' types, one for one
abbrev pub ArgsFit : List Behavior → List Param → List Value → Type 0
ArgsFit bs [] [] = Unit {0}
ArgsFit bs [] (y ∷ ys) = ⊥
ArgsFit bs (q ∷ qs) [] = ⊥
ArgsFit bs (q ∷ qs) (y ∷ ys) = ((u : MeantSort) × ((type_sort q.sort bs ≡ Some u) × Belongs u y)) × ArgsFit bs qs ys

locals_typed : (bs : List Behavior) (ps : List Param) (ys : List Value) → ArgsFit bs ps ys → EachOf (λ (l : Local). ContentOf l.sort l.held) (h.parameters bs ps ys)
locals_typed bs [] [] f = tt
locals_typed bs [] (y ∷ ys) f = absurd f
locals_typed bs (q ∷ qs) [] f = absurd f
locals_typed bs (q ∷ qs) (y ∷ ys) f = (subst (λ o. ContentOf o (held.Value y)) (sym f.0.1.0) f.0.1.1, locals_typed bs qs ys f.1)

one_named : (bs : List Behavior) (q : Param) (y : Value) → number_variable bs (param_variable q) ≡ variable_of (h.parameter bs q y)
one_named bs q y = ap (λ o. record { name = q.name.text; sort = o }) (number_of_type q.sort bs)

locals_named : (bs : List Behavior) (ps : List Param) (ys : List Value) → map (number_variable bs) (map param_variable ps) ≡ map variable_of (h.parameters bs ps ys)
locals_named bs [] ys = refl
locals_named bs (q ∷ qs) [] = (λ i. one_named bs q Null i ∷ locals_named bs qs [] i)
locals_named bs (q ∷ qs) (y ∷ ys) = (λ i. one_named bs q y i ∷ locals_named bs qs ys i)

-- no type has its address yet
abbrev pub no_sorts : sending.Sorts
no_sorts q = None

module _ (p : Program) (g : Signature) (from : ℕ) where
  no_tokens : (r : Context) (ps : List Param) (ys : List Value) → sending.AreLocals p.behaviors (signatures p) g from no_sorts r (map (token_kind p.behaviors) (map param_variable ps)) (h.parameters p.behaviors ps ys)
  no_tokens r [] ys = tt
  no_tokens r (q ∷ qs) [] = (refl, no_tokens r qs [])
  no_tokens r (q ∷ qs) (y ∷ ys) = (refl, no_tokens r qs ys)

  -- the state in which a body starts is typed
  pub starts : (env : Environment) (mine : ℕ) (r : Context) (ps : List Param) → env.behaviors ≡ p.behaviors → r.behaviors ≡ p.behaviors → r.mine ≡ mine → r.within ≡ [] → (ys fields : List Value) → ArgsFit p.behaviors ps ys → HasFields p.behaviors mine fields
      → sending.Holds p.behaviors (signatures p) g from r (scope_of (params_environment env ps) mine) (tokens (params_environment env ps)) None no_sorts (h.initial_state (h.parameters p.behaviors ps ys) fields from)
  starts env mine r ps same there self out ys fields fits has = record {
    scope = (λ i. record { behaviors = (same ∙ sym there) i; mine = sym self i; locals = (ap (λ b. map (number_variable b) (map param_variable ps)) same ∙ locals_named p.behaviors ps ys) i });
    sits = record { locals = locals_typed p.behaviors ps ys fits; fields = subst (λ n. HasFields p.behaviors n fields) (sym self) has; actors = tt; creations = tt };
    low = omega arith;
    new = λ q u e. absurd cc;
    named = subst (λ b. sending.AreLocals p.behaviors (signatures p) g from no_sorts r (map (token_kind b) (map param_variable ps)) (h.parameters p.behaviors ps ys)) (sym same) (no_tokens r ps ys);
    places = outside r.within out;
    messages = tt;
    joins = tt;
  }
    where
      outside : (is : _) → is ≡ [] → sending.PlacesIn p.behaviors (signatures p) g from no_sorts r is None
      outside is e = subst (λ z. sending.PlacesIn p.behaviors (signatures p) g from no_sorts r z None) (sym e) refl

-- ---- what is left of a body

left_fields : {A : Type 0} (P : List Value → Type 0) (o : OrTrap (A × State)) (vs : List Value) → After (λ z u. P u.fields) o → and_then o (λ x. Ok x.1.fields) ≡ Ok vs → P vs
left_fields P (Ok x) vs h e = let same : x.1.fields ≡ vs = cc in subst P same h
left_fields P (Err k) vs h e = absurd cc

pub valid_is : (k n : ℕ) → valid_number (Some k) ≡ Some n → k ≡ n
valid_is k n e = by (nat_lt k RESERVED) e
  where
    by : (b : Bool) → (if b then Some k else None) ≡ Some n → k ≡ n
    by true e = some_is e
    by false e = absurd cc

-- a behaviour that a name has is there
pub behavior_there : (name : List ℕ) (bs : List Behavior) (n : ℕ) → behavior_by_name name bs ≡ Some n → IsThere (slice_get bs n)
unfolding behavior_by_name
behavior_there name bs n e = by (find (λ (b : Behavior). bytes_eq b.name.text name) bs) refl
  where
    by : (o : Option Behavior) → find (λ (b : Behavior). bytes_eq b.name.text name) bs ≡ o → IsThere (slice_get bs n)
    by None f = let absent : None ≡ Some n = sym (ap valid_number (no_position (λ (b : Behavior). bytes_eq b.name.text name) bs f)) ∙ e in absurd cc
    by (Some b) f =
        let at : valid_number (Some (position_or_len (λ (x : Behavior). bytes_eq x.name.text name) bs)) ≡ Some n = sym (ap valid_number (position_of (λ (x : Behavior). bytes_eq x.name.text name) bs b f)) ∙ e in
        (b, subst (λ k. slice_get bs k ≡ Some b) (valid_is (position_or_len (λ (x : Behavior). bytes_eq x.name.text name) bs) n at) (stands_first (λ (x : Behavior). bytes_eq x.name.text name) bs b f).there)

args_of : (bs : List Behavior) (ps : List Param) (ys : List Value) → Each (IsKnownVariable bs) (map param_variable ps) → AreOf (map (λ s. or_void (number_sort s bs)) (map (λ (q : Param). sort_of_type q.sort) ps)) ys → ArgsFit bs ps ys
args_of bs [] [] k l = tt
args_of bs [] (y ∷ ys) k l = absurd l
args_of bs (q ∷ qs) [] k l = absurd l
args_of bs (q ∷ qs) (y ∷ ys) k l = ((k.0.number, (sym (number_of_type q.sort bs) ∙ k.0.means, subst (λ (u : MeantSort). Belongs u y) (ap or_void k.0.means) l.0)), args_of bs qs ys k.1 l.1)

-- initialisers and constructors have no result, and so has what gives none
abbrev no_result : Signature
no_result = record { params = []; result = void_sort }

module _ (p : Program) (a : IsAccepted p) where
  module _ (n : ℕ) (b : Behavior) (is : slice_get p.behaviors n ≡ Some b) where
    can : Can p.behaviors (h.constructor_context p.behaviors n)
    can = (tt, refl)

    field_known : (k : ℕ) (f : Field) → slice_get (fields_of b) k ≡ Some f → IsThere (type_sort f.sort p.behaviors)
    field_known k f e = let t = ((programs_have_parts p a.typed).behaviors n b is).fields k f e in (type_parts f.sort (environment_of p b kind.Initialiser (plain Void)) (sort_of_type f.sort) t.known.few t.written).1

    defaults : (fs : List Field) → ((k : ℕ) (f : Field) → slice_get fs k ≡ Some f → IsThere (type_sort f.sort p.behaviors)) → AreFields p.behaviors fs (h.default_fields fs)
    defaults [] f = tt
    defaults (x ∷ fs) f = let t = f 0 x refl in ((t.0, (t.1, default_is p.behaviors x.sort t.0 t.1)), defaults fs (λ k y e. f (suc k) y e))

    -- typed, and no names are in scope
    record Ready (s : State) : Type 0 where
      sits : Sits (HasFields p.behaviors) (h.constructor_context p.behaviors n) s
      none : s.locals ≡ []

    stored : (i : ℕ) (f : Field) (u : MeantSort) → slice_get (fields_of b) i ≡ Some f → type_sort f.sort p.behaviors ≡ Some u → (y : Value) → Belongs u y → (s : State) → Ready s → Ready (record s { fields = slice_set s.fields i y })
    stored i f u at known y fits s ready = record {
      sits = record {
        locals = ready.sits.locals;
        fields = (ready.sits.fields.0, fields_after p.behaviors (fields_in (slice_get p.behaviors n)) s.fields ready.sits.fields.1 i f u (ap (λ o. slice_get (fields_in o) i) is ∙ at) known y fits);
        actors = ready.sits.actors;
        creations = ready.sits.creations;
      };
      none = ready.none;
    }

    valued : (i : ℕ) (f : Field) → slice_get (fields_of b) i ≡ Some f → (o : Option Expr) → ValueParts o (environment_of p b kind.Initialiser (plain Void)) (sort_of_type f.sort) → option_is_regular o ≡ true → (s : State) → Ready s → After (λ (z : Unit {0}). λ u. Ready u) (h.exec_initialiser o i (h.constructor_context p.behaviors n) s)
    valued i f at None parts fine s ready = ready
    valued i f at (Some e) parts fine s ready =
        let known : IsKnown (environment_of p b kind.Initialiser (plain Void)) n = (((programs_have_parts p a.typed).behaviors n b is).fields i f at).known in
        let t = field_known i f at in
        let v = sends.value_fits p a.typed (environment_of p b kind.Initialiser (plain Void)) n known refl no_result 0 None (h.constructor_context p.behaviors n) can e parts.0 (sort_of_type f.sort) t.0 fine parts.1 (assignable_fits (environment_of p b kind.Initialiser (plain Void)) known.few parts.0 (sort_of_type f.sort) parts.2) (number_of_type f.sort p.behaviors ∙ t.1) in
        let same : scope_of (environment_of p b kind.Initialiser (plain Void)) n ≡ c.scope_of (h.constructor_context p.behaviors n) s = ap (λ ls. record { behaviors = p.behaviors; mine = n; locals = map variable_of ls }) (sym ready.none) in
        then_after (λ y u. Went (HasFields p.behaviors) (h.constructor_context p.behaviors n) s u × Has v.0 y) (λ (z : Unit {0}). λ u. Ready u) (eval e (h.constructor_context p.behaviors n) s) (λ y. λ u. Ok (tt, record u { fields = slice_set u.fields i y })) (eval_keeps p.behaviors e (scope_of (environment_of p b kind.Initialiser (plain Void)) n) v.0 v.1.0 (h.constructor_context p.behaviors n) can s same ready.sits).holds
        (λ y u q. stored i f t.0 at t.1 y (assigned p.behaviors v.0 t.0 v.1.1 y q.1) u (record { sits = q.0.sits; none = q.0.locals ∙ ready.none }))

    initialised : (fs : List Field) (i : ℕ) → ((k : ℕ) (f : Field) → slice_get fs k ≡ Some f → slice_get (fields_of b) (i + k) ≡ Some f) → (s : State) → Ready s → After (λ (z : Unit {0}). λ u. Ready u) (h.exec_initialisers fs i (h.constructor_context p.behaviors n) s)
    initialised [] i at s ready = ready
    initialised (f ∷ fs) i at s ready =
        let zero_more : i + 0 ≡ i = omega arith in
        let here : slice_get (fields_of b) i ≡ Some f = subst (λ k. slice_get (fields_of b) k ≡ Some f) zero_more (at 0 f refl) in
        let typed = ((programs_have_parts p a.typed).behaviors n b is).fields i f here in
        let fine = (behavior_regular p a.readable.regular n b is).fields i f here in
        then_after (λ (z : Unit {0}). λ u. Ready u) (λ (z : Unit {0}). λ u. Ready u) (h.exec_initialiser f.init i (h.constructor_context p.behaviors n) s) (λ z. h.exec_initialisers fs (i + 1) (h.constructor_context p.behaviors n)) (valued i f here f.init typed.value fine s ready) (λ z u q.
        initialised fs (i + 1) (λ k y e. let one_more : i + suc k ≡ i + 1 + k = omega arith in subst (λ j. slice_get (fields_of b) j ≡ Some y) one_more (at (suc k) y e)) u q)

    initial_typed : (vs : List Value) → h.initial_fields b (h.constructor_context p.behaviors n) ≡ Ok vs → HasFields p.behaviors n vs
    initial_typed vs e =
        let begin : Ready (h.initial_state [] (h.default_fields (fields_of b)) 0) = record {
          sits = record { locals = tt; fields = ((b, is), subst (λ o. AreFields p.behaviors (fields_in o) (h.default_fields (fields_of b))) (sym is) (defaults (fields_of b) field_known)); actors = tt; creations = tt };
          none = refl;
        } in
        left_fields (HasFields p.behaviors n) (h.exec_initialisers (fields_of b) 0 (h.constructor_context p.behaviors n) (h.initial_state [] (h.default_fields (fields_of b)) 0)) vs
        (after_more (λ (z : Unit {0}). λ u. Ready u) (λ z u. HasFields p.behaviors n u.fields) (h.exec_initialisers (fields_of b) 0 (h.constructor_context p.behaviors n) (h.initial_state [] (h.default_fields (fields_of b)) 0)) (λ z u q. q.sits.fields)
        (initialised (fields_of b) 0 (λ k f g. let none_more : k ≡ 0 + k = omega arith in subst (λ j. slice_get (fields_of b) j ≡ Some f) none_more g) (h.initial_state [] (h.default_fields (fields_of b)) 0) begin)) e

    abbrev ParamsFit : Option Handler → List Value → Type 0
    ParamsFit None args = Unit {0}
    ParamsFit (Some q) args = ArgsFit p.behaviors q.params args

    constructed : (o : Option Handler) → constructor_of b ≡ o → (args vs fields : List Value) → ParamsFit o args → HasFields p.behaviors n vs → h.fields_after_constructor o args (h.constructor_context p.behaviors n) vs ≡ Ok fields → HasFields p.behaviors n fields
    constructed None at args vs fields fit has e = let same : vs ≡ fields = cc in subst (HasFields p.behaviors n) same has
    constructed (Some q) at args vs fields fit has e =
        let body = ((programs_have_parts p a.typed).behaviors n b is).constructors q at in
        let w = with_params_is q.params (environment_of p b kind.Constructor (plain Void)) in
        let stands : statements.Stands p a.typed no_result 0 (params_environment (environment_of p b kind.Constructor (plain Void)) q.params) n (h.constructor_context p.behaviors n) = record {
          known = subst (λ z. IsKnown z n) w body.known;
          same = refl;
          result = void_kind p.behaviors;
          outside = λ x. refl;
        } in
        left_fields (HasFields p.behaviors n) _ fields
        (after_more _ (λ z u. HasFields p.behaviors n u.fields) _ (λ f u x. x.0.held.sits.fields)
        (statements.body_held p a.typed no_result 0 q.body (params_environment (environment_of p b kind.Constructor (plain Void)) q.params) n (h.constructor_context p.behaviors n) stands can refl body.results (subst (λ z. SequenceParts q.body z body.results) w body.parts) ((behavior_regular p a.readable.regular n b is).constructors q at)
        no_sorts (h.initial_state (h.parameters p.behaviors q.params args) vs 0)
        (starts p no_result 0 (environment_of p b kind.Constructor (plain Void)) n (h.constructor_context p.behaviors n) q.params refl refl refl refl args vs fit has))) e

    params_fit : (o : Option Handler) → constructor_of b ≡ o → (args : List Value) → AreOf (map (λ s. or_void (number_sort s p.behaviors)) (constructor_params o)) args → ParamsFit o args
    params_fit None at args l = tt
    params_fit (Some q) at args l =
        let body = ((programs_have_parts p a.typed).behaviors n b is).constructors q at in
        args_of p.behaviors q.params args (subst (λ z. IsKnown z n) (with_params_is q.params (environment_of p b kind.Constructor (plain Void))) body.known).scope l

    made : (args fields : List Value) → AreOf (map (λ s. or_void (number_sort s p.behaviors)) (constructor_params (constructor_of b))) args → h.new_fields_of (Some b) args (h.constructor_context p.behaviors n) ≡ Ok fields → HasFields p.behaviors n fields
    made args fields l e = by (h.initial_fields b (h.constructor_context p.behaviors n)) refl e
      where
        by : (o : OrTrap (List Value)) → h.initial_fields b (h.constructor_context p.behaviors n) ≡ o → and_then o (h.fields_after_constructor (constructor_of b) args (h.constructor_context p.behaviors n)) ≡ Ok fields → HasFields p.behaviors n fields
        by (Err k) q e = absurd cc
        by (Ok vs) q e = constructed (constructor_of b) refl args vs fields (params_fit (constructor_of b) refl args l) (initial_typed vs q) e

    -- the start actor's constructor runs where it has no parameters
    started : (name : List ℕ) (result : _) (params : List Param) (body : List Stmt) → constructor_of b ≡ Some (record { name = name; result = result; params = params; body = body }) → (vs fields : List Value) → HasFields p.behaviors n vs
        → h.fields_after_constructor (h.without_params (Some (record { name = name; result = result; params = params; body = body }))) [] (h.constructor_context p.behaviors n) vs ≡ Ok fields → HasFields p.behaviors n fields
    started name result [] body at vs fields has e = constructed (Some (record { name = name; result = result; params = []; body = body })) at [] vs fields tt has e
    started name result (q ∷ qs) body at vs fields has e = let same : vs ≡ fields = cc in subst (HasFields p.behaviors n) same has

    pub start_made : (fields : List Value) → h.start_fields (Some b) (h.constructor_context p.behaviors n) ≡ Ok fields → HasFields p.behaviors n fields
    start_made fields e = by (h.initial_fields b (h.constructor_context p.behaviors n)) refl e
      where
        last : (vs : List Value) → HasFields p.behaviors n vs → (o : Option Handler) → constructor_of b ≡ o → h.fields_after_constructor (h.without_params o) [] (h.constructor_context p.behaviors n) vs ≡ Ok fields → HasFields p.behaviors n fields
        last vs has None at e = let same : vs ≡ fields = cc in subst (HasFields p.behaviors n) same has
        last vs has (Some q) at e = started q.name q.result q.params q.body at vs fields has e

        by : (o : OrTrap (List Value)) → h.initial_fields b (h.constructor_context p.behaviors n) ≡ o → and_then o (h.fields_after_constructor (h.without_params (constructor_of b)) [] (h.constructor_context p.behaviors n)) ≡ Ok fields → HasFields p.behaviors n fields
        by (Err k) q e = absurd cc
        by (Ok vs) q e = last vs (initial_typed vs q) (constructor_of b) refl e

  -- constructors make fields of their types of arguments of theirs
  pub makes_fields : MakesFields p.behaviors (h.new_fields p.behaviors)
  unfolding h.new_fields
  makes_fields n args fields l e = by (slice_get p.behaviors n) refl l e
    where
      by : (o : Option Behavior) → slice_get p.behaviors n ≡ o → AreOf (map (λ s. or_void (number_sort s p.behaviors)) (params_in o)) args → h.new_fields_of o args (h.constructor_context p.behaviors n) ≡ Ok fields → FieldsOf p.behaviors n fields
      by None q l e = let none : [] ≡ fields = cc in subst (λ o. AreFields p.behaviors (fields_in o) fields) (sym q) (subst (λ z. AreFields p.behaviors [] z) none tt)
      by (Some b) q l e = (made n b q args fields l e).1

  pub makes_named : (name : List ℕ) (n : ℕ) → behavior_by_name name p.behaviors ≡ Some n → (args fields : List Value) → AreOf (params_of p.behaviors n) args → h.new_fields p.behaviors n args ≡ Ok fields → HasFields p.behaviors n fields
  makes_named name n named args fields l e = (behavior_there name p.behaviors n named, makes_fields n args fields l e)
