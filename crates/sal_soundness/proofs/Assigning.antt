-- An assignment keeps the state typed: names, types and tokens stay, and the value is of the variable's type.
use Rattle.std.proofs.Common.{◌≡◌, ℕ, zero, suc, ◌+◌, ℤ, Bool, true, false, if◌then◌else◌, List, [], ◌∷◌, ◌++◌, length, map, Option, Some, None, Ok, Err, refl, sym, ap, subst, ◌∙◌, arith}
use Rattle.std.specs.Prelude.{slice_get, slice_set}
use Rattle.std.specs.Option.{option_map}
use Rattle.std.specs.List.{find, position, position_or_len}
use Rattle.std.specs.Str.{bytes_eq}
use Rattle.std.proofs.lemmas.List.{length-append}
use Rattle.sal_value.specs.declared.value.Sort.{Sort}
use Rattle.sal_value.specs.declared.value.Value.{Value}
use Rattle.sal_value.proofs.Tables.{some_is}
use Rattle.sal_ast.specs.declared.expression.Expr.{Expr}
use Rattle.sal_ast.specs.declared.program.Behavior.{Behavior}
use Rattle.sal_ast.specs.declared.statement.Assign.{Assign}
use Rattle.sal_ast.specs.Members.{Field}
use Rattle.sal_ast.specs.Sorts.{Scope, Variable, sort_of_field, sort_of_local, fields_in, field_sort, name_sort, type_sort}
use Rattle.sal_handler.specs.declared.state.Content.{Content}
use Rattle.sal_handler.specs.declared.state.Content.TheVariants as held
use Rattle.sal_handler.specs.declared.state.Local.{Local}
use Rattle.sal_handler.specs.declared.state.State.{State}
use Rattle.sal_handler.specs.Evaluation.{OrTrap, and_then, ◌>>=◌}
use Rattle.sal_handler.specs.Expressions.{eval, eval_all, evals}
use Rattle.sal_handler.specs.Scopes as c
use Rattle.sal_handler.specs.Scopes.{Context, scope_of, variable_of, token_in}
use Rattle.sal_handler.specs.Statements as t
use Rattle.sal_handler.specs.Values as w
use Rattle.sal_handler.specs.WellFormed.{EachOf}
use Rattle.sal_handler.proofs.After.{After, then_after}
use Rattle.sal_types.specs.declared.signature.Signature.{Signature}
use Rattle.sal_fitting.specs.Signatures.{Signatures}
use Rattle.sal_typing.proofs.Finding.{find_in_map}
use Rattle.sal_preservation.specs.States.{IsOf as Has, AreFields, HoldsSort as ContentOf}
use Rattle.sal_preservation.proofs.Judged.{Kind, Assignable}
use Rattle.sal_preservation.proofs.Lookups.{position_some, position_get, position_none}
use Rattle.sal_preservation.proofs.Values.{deeper, assigned_is}
use Rattle.sal_preservation.proofs.Expressions.{Belongs}
use Rattle.sal_soundness.proofs.Anywhere.{Judgement, Can, own_is, assigned}
use Rattle.sal_soundness.proofs.Sending.{Sorts, AreLocals, Holds, eval_held}

-- ---- lists

each_get : {X : Type 0} (P : X → Type 0) (xs : List X) (i : ℕ) (x : X) → EachOf P xs → slice_get xs i ≡ Some x → P x
each_get P [] i x e is = absurd cc
each_get P (y ∷ xs) zero x e is = subst P (some_is is) e.0
each_get P (y ∷ xs) (suc i) x e is = each_get P xs i x e.1 is

each_put : {X : Type 0} (P : X → Type 0) (xs : List X) (i : ℕ) (y : X) → EachOf P xs → P y → EachOf P (slice_set xs i y)
each_put P [] i y e h = tt
each_put P (z ∷ xs) zero y e h = (h, e.1)
each_put P (z ∷ xs) (suc i) y e h = (e.0, each_put P xs i y e.1 h)

-- the local with this content
abbrev with_content : Local → Content → Local
with_content l h = record l { held = h }

names_stay : (ls : List Local) (i : ℕ) (l : Local) (h : Content) → slice_get ls i ≡ Some l → map variable_of (slice_set ls i (with_content l h)) ≡ map variable_of ls
names_stay [] i l h e = absurd cc
names_stay (q ∷ ls) zero l h e = ap (λ z. variable_of z ∷ map variable_of ls) (sym (some_is e))
names_stay (q ∷ ls) (suc i) l h e = ap (λ z. variable_of q ∷ z) (names_stay ls i l h e)

-- ---- values

deeper_is : (d : ℕ) (is : List ℤ) → deeper d is ≡ d + length is
deeper_is d [] = omega arith
deeper_is d (i ∷ is) = let e : deeper d is ≡ d + length is = deeper_is d is in omega (arith, e)

-- a value of the type so many levels below is stored in one of the type
value_after : (top below : Sort) (is : List ℤ) → top.base ≡ below.base → top.dims ≡ below.dims + length is → (old new y : Value) → Belongs top old → Belongs below new → w.value_after_assign old is new ≡ Ok y → Belongs top y
value_after top below is base dims old new y o n e =
    let same : record { base = below.base; dims = deeper below.dims is } ≡ top = (λ i. record { base = sym base i; dims = (deeper_is below.dims is ∙ sym dims) i }) in
    subst (λ (z : Sort). Belongs z y) same (assigned_is below.base below.dims is old new y (subst (λ (z : Sort). Belongs z old) (sym same) o) n e)

-- ---- fields

pub fields_after : (bs : List Behavior) (fs : List Field) (ys : List Value) → AreFields bs fs ys → (i : ℕ) (f : Field) (u : Sort) → slice_get fs i ≡ Some f → type_sort f.sort bs ≡ Some u → (y : Value) → Belongs u y → AreFields bs fs (slice_set ys i y)
fields_after bs [] ys h i f u is e y b = absurd cc
fields_after bs (g ∷ fs) [] h i f u is e y b = absurd h
fields_after bs (g ∷ fs) (z ∷ ys) h zero f u is e y b = ((u, (ap (λ (q : Field). type_sort q.sort bs) (some_is is) ∙ e, b)), h.1)
fields_after bs (g ∷ fs) (z ∷ ys) h (suc i) f u is e y b = (h.0, fields_after bs fs ys h.1 i f u is e y b)

-- the type of what is assigned to
abbrev pub assigned_sort : Bool → List ℕ → Scope → Option Sort
assigned_sort own name sc = if own then field_sort name sc else name_sort name sc

module _ (bs : List Behavior) (sigs : Signatures) (g : Signature) (from : ℕ) (r : Context) (can : Can bs r) (env : Scope) (ks : List (Option Sort)) (item : Option Sort) where
  abbrev Held : Sorts → State → Type 0
  Held = Holds bs sigs g from r env ks item

  abbrev Locals : Sorts → List (Option Sort) → List Local → Type 0
  Locals sorts = AreLocals bs sigs g from sorts r

  -- it does this and nothing else, and keeps the state typed
  abbrev pub Does : Sorts → OrTrap (Unit {0} × State) → Type 0
  Does sorts o = After (λ (z : Unit {0}). λ u. Held sorts u) o

  -- ---- assigning to a field

  field_set : (sorts : Sorts) (s : State) → Held sorts s → (i : ℕ) (f : Field) (u : Sort) → slice_get (fields_in (slice_get r.behaviors r.mine)) i ≡ Some f → type_sort f.sort r.behaviors ≡ Some u → (y : Value) → Belongs u y → Held sorts (record s { fields = slice_set s.fields i y })
  field_set sorts s h i f u is e y b = record {
    scope = h.scope;
    sits = record { locals = h.sits.locals; fields = (h.sits.fields.0, after); actors = h.sits.actors; creations = h.sits.creations };
    low = h.low;
    new = h.new;
    named = h.named;
    places = h.places;
    messages = h.messages;
    joins = h.joins;
  }
    where
      after : AreFields bs (fields_in (slice_get bs r.mine)) (slice_set s.fields i y)
      after =
          subst (λ z. AreFields z (fields_in (slice_get z r.mine)) (slice_set s.fields i y)) can.1
          (fields_after r.behaviors (fields_in (slice_get r.behaviors r.mine)) s.fields (subst (λ z. AreFields z (fields_in (slice_get z r.mine)) s.fields) (sym can.1) h.sits.fields.1) i f u is e y b)

  module _ (top below : Sort) (is : List ℤ) (base : top.base ≡ below.base) (dims : top.dims ≡ below.dims + length is) (y : Value) (fits : Belongs below y) where
    field_held : (sorts : Sorts) (s : State) → Held sorts s → (i : ℕ) (f : Field) → slice_get (fields_in (slice_get r.behaviors r.mine)) i ≡ Some f → type_sort f.sort r.behaviors ≡ Some top → Belongs top (w.item_at s.fields i) → Does sorts (c.assign_field (Some i) is y s)
    field_held sorts s h i f there e old = by (w.value_after_assign (w.item_at s.fields i) is y) refl
      where
        by : (o : OrTrap Value) → w.value_after_assign (w.item_at s.fields i) is y ≡ o → Does sorts (and_then o (λ z. Ok (tt, record s { fields = slice_set s.fields i z })))
        by (Err k) q = tt
        by (Ok z) q = field_set sorts s h i f top there e z (value_after top below is base dims (w.item_at s.fields i) y z old fits q)

    own_assigned : (sorts : Sorts) (s : State) → Held sorts s → (name : List ℕ) → field_sort name (scope_of r s) ≡ Some top → Does sorts (c.assign_field (c.field_named name r) is y s)
    unfolding field_sort c.field_named
    own_assigned sorts s h name e = by (find (λ (f : Field). bytes_eq f.name name) (fields_in (slice_get r.behaviors r.mine))) refl e (own_is bs r can.1 s h.sits name top e)
      where
        by : (o : Option Field) → find (λ (f : Field). bytes_eq f.name name) (fields_in (slice_get r.behaviors r.mine)) ≡ o → sort_of_field o r.behaviors ≡ Some top
            → Belongs top (c.field_value (position (λ (f : Field). bytes_eq f.name name) (fields_in (slice_get r.behaviors r.mine))) s)
            → Does sorts (c.assign_field (position (λ (f : Field). bytes_eq f.name name) (fields_in (slice_get r.behaviors r.mine))) is y s)
        by None q e old = absurd cc
        by (Some f) q e old =
            let at : position (λ (f : Field). bytes_eq f.name name) (fields_in (slice_get r.behaviors r.mine)) ≡ Some (position_or_len (λ (f : Field). bytes_eq f.name name) (fields_in (slice_get r.behaviors r.mine))) = position_some (λ (f : Field). bytes_eq f.name name) (fields_in (slice_get r.behaviors r.mine)) f q in
            subst (λ z. Does sorts (c.assign_field z is y s)) (sym at)
            (field_held sorts s h (position_or_len (λ (f : Field). bytes_eq f.name name) (fields_in (slice_get r.behaviors r.mine))) f (position_get (λ (f : Field). bytes_eq f.name name) (fields_in (slice_get r.behaviors r.mine)) f q) e
            (subst (λ z. Belongs top (c.field_value z s)) at old))

    -- ---- assigning to a local

    locals_after : (sorts : Sorts) (list : List (Option Sort)) (ls : List Local) → Locals sorts list ls → (i : ℕ) (l : Local) → slice_get ls i ≡ Some l → token_in l.held ≡ None → (z : Value) → Locals sorts list (slice_set ls i (with_content l (held.Value z)))
    locals_after sorts [] [] h i l e none z = absurd cc
    locals_after sorts [] (q ∷ ls) h i l e none z = absurd h
    locals_after sorts (None ∷ list) [] h i l e none z = absurd h
    locals_after sorts (Some u ∷ list) [] h i l e none z = absurd h
    locals_after sorts (None ∷ list) (q ∷ ls) h zero l e none z = (refl, h.1)
    locals_after sorts (Some u ∷ list) (q ∷ ls) h zero l e none z = let f : Some h.0.0 ≡ None = sym h.0.1.0 ∙ (ap (λ (x : Local). token_in x.held) (some_is e) ∙ none) in absurd cc
    locals_after sorts (None ∷ list) (q ∷ ls) h (suc i) l e none z = (h.0, locals_after sorts list ls h.1 i l e none z)
    locals_after sorts (Some u ∷ list) (q ∷ ls) h (suc i) l e none z = (h.0, locals_after sorts list ls h.1 i l e none z)

    local_set : (sorts : Sorts) (s : State) → Held sorts s → (i : ℕ) (l : Local) → slice_get s.locals i ≡ Some l → l.sort ≡ Some top → token_in l.held ≡ None → (z : Value) → Belongs top z → Held sorts (record s { locals = slice_set s.locals i (with_content l (held.Value z)) })
    local_set sorts s h i l there sort none z b = record {
      scope = h.scope ∙ ap (λ names. record { behaviors = r.behaviors; mine = r.mine; locals = names }) (sym (names_stay s.locals i l (held.Value z) there));
      sits = record {
        locals = each_put (λ (q : Local). ContentOf q.sort q.held) s.locals i (with_content l (held.Value z)) h.sits.locals (subst (λ o. ContentOf o (held.Value z)) (sym sort) b);
        fields = h.sits.fields;
        actors = h.sits.actors;
        creations = h.sits.creations;
      };
      low = h.low;
      new = h.new;
      named = locals_after sorts ks s.locals h.named i l there none z;
      places = h.places;
      messages = h.messages;
      joins = h.joins;
    }

    local_held : (sorts : Sorts) (s : State) → Held sorts s → (i : ℕ) (l : Local) → slice_get s.locals i ≡ Some l → l.sort ≡ Some top → (h : Content) → l.held ≡ h → ContentOf (Some top) h
        → Does sorts (and_then (and_then (c.content_after_assign h is y) (λ q. Ok (slice_set s.locals i (with_content l q)))) (λ ls. Ok (tt, record s { locals = ls })))
    local_held sorts s h i l there sort (held.Token n) content q = let f : Some top ≡ None = q in absurd cc
    local_held sorts s h i l there sort (held.Value old) content q = by (w.value_after_assign old is y) refl
      where
        by : (o : OrTrap Value) → w.value_after_assign old is y ≡ o
            → Does sorts (and_then (and_then (and_then o (λ z. Ok (held.Value z))) (λ k. Ok (slice_set s.locals i (with_content l k)))) (λ ls. Ok (tt, record s { locals = ls })))
        by (Err k) e = tt
        by (Ok z) e = local_set sorts s h i l there sort (ap token_in content) z (value_after top below is base dims old y z q fits e)

    name_assigned : (sorts : Sorts) (s : State) → Held sorts s → (name : List ℕ) → name_sort name (scope_of r s) ≡ Some top → Does sorts (c.assign_local_or_field (c.local_named name s.locals) name r is y s)
    unfolding name_sort c.local_named
    name_assigned sorts s h name e = by (find (λ (l : Local). bytes_eq l.name name) s.locals) refl (sym (ap (λ z. sort_of_local z (field_sort name (scope_of r s))) (find_in_map variable_of (λ (q : Variable). bytes_eq q.name name) s.locals)) ∙ e)
      where
        by : (o : Option Local) → find (λ (l : Local). bytes_eq l.name name) s.locals ≡ o → sort_of_local (option_map variable_of o) (field_sort name (scope_of r s)) ≡ Some top → Does sorts (c.assign_local_or_field (position (λ (l : Local). bytes_eq l.name name) s.locals) name r is y s)
        by None q e = subst (λ z. Does sorts (c.assign_local_or_field z name r is y s)) (sym (position_none (λ (l : Local). bytes_eq l.name name) s.locals q)) (own_assigned sorts s h name e)
        by (Some l) q e =
            let there : slice_get s.locals (position_or_len (λ (l : Local). bytes_eq l.name name) s.locals) ≡ Some l = position_get (λ (l : Local). bytes_eq l.name name) s.locals l q in
            subst (λ z. Does sorts (c.assign_local_or_field z name r is y s)) (sym (position_some (λ (l : Local). bytes_eq l.name name) s.locals l q))
            (subst (λ z. Does sorts (and_then (c.locals_after_assign z s.locals (position_or_len (λ (l : Local). bytes_eq l.name name) s.locals) is y) (λ ls. Ok (tt, record s { locals = ls })))) (sym there)
            (local_held sorts s h (position_or_len (λ (l : Local). bytes_eq l.name name) s.locals) l there e l.held refl
            (subst (λ o. ContentOf o l.held) e (each_get (λ (x : Local). ContentOf x.sort x.held) s.locals (position_or_len (λ (l : Local). bytes_eq l.name name) s.locals) l h.sits.locals there))))

  -- ---- the whole assignment

  abbrev pub KindsOf : List Expr → Type 0
  KindsOf [] = Unit {0}
  KindsOf (e ∷ es) = ((k : Kind) × Judgement bs e env k) × KindsOf es

  -- what typing gives of an assignment
  pub record AssignOf (a : Assign) : Type 0 where
    pub top : Sort
    pub is : assigned_sort a.own a.name.text env ≡ Some top
    pub below : Sort
    pub base : top.base ≡ below.base
    pub dims : top.dims ≡ below.dims + length a.indexes
    pub indexes : KindsOf a.indexes
    pub kind : Kind
    pub value : Judgement bs a.value env kind
    pub fits : Assignable kind below

  all_held : (sorts : Sorts) (es : List Expr) → KindsOf es → (done : List Value) (s : State) → Held sorts s → After (λ vs u. Held sorts u × (length vs ≡ length done + length es)) (eval_all (evals es) r done s)
  all_held sorts [] f done s h = (h, omega arith)
  all_held sorts (e ∷ es) f done s h =
      then_after (λ y u. Held sorts u × Has f.0.0 y) (λ vs u. Held sorts u × (length vs ≡ length done + length (e ∷ es))) (eval e r s) (λ y. eval_all (evals es) r (done ++ y ∷ [])) (eval_held bs sigs g from r can env ks item sorts e f.0.0 f.0.1 s h) (λ y u q.
      let one : length (done ++ y ∷ []) ≡ length done + 1 = length-append done (y ∷ []) in
      let many : length (done ++ y ∷ []) + length es ≡ length done + length (e ∷ es) = omega (arith, one) in
      subst (λ k. After (λ vs u. Held sorts u × (length vs ≡ k)) (eval_all (evals es) r (done ++ y ∷ []) u)) many (all_held sorts es f.1 (done ++ y ∷ []) u q.0))

  as_many : (vs : List Value) → length (map w.int_of vs) ≡ length vs
  as_many [] = refl
  as_many (y ∷ vs) = ap suc (as_many vs)

  variable_assigned : (own : Bool) (name : List ℕ) (top below : Sort) → assigned_sort own name env ≡ Some top → (is : List ℤ) → top.base ≡ below.base → top.dims ≡ below.dims + length is → (y : Value) → Belongs below y → (sorts : Sorts) (s : State) → Held sorts s → Does sorts (c.assign_variable own name r is y s)
  variable_assigned true name top below e is base dims y b sorts s h = own_assigned top below is base dims y b sorts s h name (sym (ap (field_sort name) h.scope) ∙ e)
  variable_assigned false name top below e is base dims y b sorts s h = name_assigned top below is base dims y b sorts s h name (sym (ap (name_sort name) h.scope) ∙ e)

  pub assign_held : (a : Assign) → AssignOf a → (sorts : Sorts) (s : State) → Held sorts s → Does sorts (t.exec_assign a r s)
  assign_held a f sorts s h =
      then_after (λ vs u. Held sorts u × (length vs ≡ 0 + length a.indexes)) (λ (z : Unit {0}). λ u. Held sorts u) (eval_all (evals a.indexes) r [] s) (λ is. eval a.value r >>= (λ v. c.assign_variable a.own a.name.text r (map w.int_of is) v)) (all_held sorts a.indexes f.indexes [] s h) (λ vs u q.
      then_after (λ y v. Held sorts v × Has f.kind y) (λ (z : Unit {0}). λ v. Held sorts v) (eval a.value r u) (λ v. c.assign_variable a.own a.name.text r (map w.int_of vs) v) (eval_held bs sigs g from r can env ks item sorts a.value f.kind f.value u q.0) (λ y v p.
      variable_assigned a.own a.name.text f.top f.below f.is (map w.int_of vs) f.base
      (let n : length vs ≡ 0 + length a.indexes = q.1 in let m : length (map w.int_of vs) ≡ length vs = as_many vs in let d : f.top.dims ≡ f.below.dims + length a.indexes = f.dims in omega (arith, n, m, d))
      y (assigned bs f.kind f.below f.fits y p.1) sorts v p.0))
