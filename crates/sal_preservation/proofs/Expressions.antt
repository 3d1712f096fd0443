-- Where typing gives what it must of expressions, they keep the state typed and give values of their types.
use Rattle.std.proofs.Common.{◌≡◌, inl, inr, ℕ, zero, suc, ◌+◌, ◌≤◌, Bool, true, false, ◌||◌, if◌then◌else◌, List, [], ◌∷◌, ◌++◌, length, map, Option, Some, None, Ok, Err, refl, sym, ap, subst, ◌∙◌, arith}
use Rattle.std.specs.Prelude.{nat_lt, replicate, pos, negsuc, ℤ}
use Rattle.std.specs.Option.{option_map}
use Rattle.std.specs.Int.{w32, int_wrapping_div}
use Rattle.std.specs.Int.Signed.{rem_z}
use Rattle.sal_value.specs.declared.name.Uan.{Uan}
use Rattle.sal_value.specs.declared.name.Ual.{Ual}
use Rattle.sal_value.specs.declared.name.Name.TheVariants as name
use Rattle.sal_value.specs.declared.value.Base.{Base}
use Rattle.sal_value.specs.declared.value.Base.TheVariants as base
use Rattle.sal_value.specs.declared.value.Sort.{Sort}
use Rattle.sal_value.specs.declared.value.Value.{Value}
use Rattle.sal_value.specs.declared.value.Value.TheVariants as v
use Rattle.sal_value.specs.Names.{uan_of, ual_of}
use Rattle.sal_ast.specs.declared.program.TypeName.{TypeName}
use Rattle.sal_ast.specs.declared.program.Behavior.{Behavior}
use Rattle.sal_ast.specs.declared.expression.Op.{Op}
use Rattle.sal_ast.specs.declared.expression.Op.TheVariants as op
use Rattle.sal_ast.specs.declared.expression.Expr.{Expr}
use Rattle.sal_ast.specs.declared.expression.Suffix.{Suffix}
use Rattle.sal_ast.specs.declared.expression.At.{At}
use Rattle.sal_ast.specs.declared.expression.Operand.{Operand}
use Rattle.sal_ast.specs.declared.expression.Expr.TheViews.{roll-Expr, roll-Suffix, roll-At, roll-Operand}
use Rattle.sal_ast.specs.declared.expression.Expr.TheOpen.{Expr-F, Suffix-F, At-F}
use Rattle.sal_ast.specs.declared.expression.Expr.TheFolds.{map-Expr, map-Suffix, map-At, fold-roll-Expr, fold-roll-Suffix, ind-Expr}
use Rattle.sal_ast.specs.Members.{behavior_by_name}
use Rattle.sal_ast.specs.Sorts.{Scope, name_sort, field_sort, type_sort}
use Rattle.sal_ast.proofs.Closing.{Known}
use Rattle.sal_mail.specs.declared.effects.Actor.{Actor}
use Rattle.sal_mail.specs.declared.effects.Creation.{Creation}
use Rattle.sal_mail.specs.declared.fault.Trap.{Trap}
use Rattle.sal_mail.specs.declared.fault.Trap.TheVariants.{TooManyMessages, TooLarge}
use Rattle.sal_handler.specs.declared.state.Local.{Local}
use Rattle.sal_handler.specs.declared.state.State.{State}
use Rattle.sal_handler.specs.Evaluation.{OrTrap, Eval, ◌>>=◌, pure, lift, require}
use Rattle.sal_handler.specs.Values as w
use Rattle.sal_handler.specs.Scopes as c
use Rattle.sal_handler.specs.Scopes.{Context, scope_of}
use Rattle.sal_handler.specs.Expressions as x
use Rattle.sal_handler.specs.Expressions.{Denotation, SuffixDenotation, LocationDenotation, OperandDenotation, FieldMaker, eval, suffix, location, operand, expr_step, suffix_step, at_step, operand_step}
use Rattle.sal_handler.specs.WellFormed.{EachOf}
use Rattle.sal_handler.proofs.After.{After, then_after, after_more, lift_after}
use Rattle.sal_handler.proofs.Induction.{IfAny}
use Rattle.sal_handler.proofs.Addresses.{each_append}
use Rattle.sal_handler.proofs.Evaluations.{operand_is, located_is}
use Rattle.sal_preservation.specs.States.{IsOf as Has, AreOf, HoldsSort as ContentOf}
use Rattle.sal_preservation.proofs.Judged as j
use Rattle.sal_preservation.proofs.Judged.{Kind, Assignable, OperatorOf, int, boolean, text, actor}
use Rattle.sal_preservation.proofs.Values.{Of, int_of, bool_of, str_of, ref_of, null_of, text_is, array_of, sum_ints, sum_text, divided_is, item_is, made_is, ok_is, item_default}

-- ---- values and states of their types

abbrev pub Belongs : Sort → Value → Type 0
Belongs t y = Of t.base t.dims y

module _ (StateOf : ℕ → List Value → Type 0) where
  -- the parts of the state that expressions read or change
  pub record Sits (r : Context) (s : State) : Type 0 where
    pub locals : EachOf (λ (l : Local). ContentOf l.sort l.held) s.locals
    pub fields : StateOf r.mine s.fields
    pub actors : EachOf (λ (a : Actor). StateOf a.behavior a.fields) s.actors
    pub creations : EachOf (λ (y : Creation). StateOf y.behavior y.fields) s.creations

  -- the state stays typed, and the locals stay
  pub record Went (r : Context) (s t : State) : Type 0 where
    pub sits : Sits r t
    pub locals : t.locals ≡ s.locals
    pub fields : t.fields ≡ s.fields
    pub messages : t.messages ≡ s.messages
    pub joins : t.joins ≡ s.joins
    pub serial : s.serial ≤ t.serial

  pub went_same : (r : Context) (s : State) → Sits r s → Went r s s
  went_same r s h = record { sits = h; locals = refl; fields = refl; messages = refl; joins = refl; serial = omega arith }

  pub went_then : (r : Context) (s t u : State) → Went r s t → Went r t u → Went r s u
  went_then r s t u a b = record { sits = b.sits; locals = b.locals ∙ a.locals; fields = b.fields ∙ a.fields; messages = b.messages ∙ a.messages; joins = b.joins ∙ a.joins; serial = omega (arith, a.serial, b.serial) }

  -- where it doesn't trap, the state stays typed and the result is so
  pub record Keeps {A : Type 0} (r : Context) (V : A → Type 0) (s : State) (o : OrTrap (A × State)) : Type 0 where
    pub holds : After (λ a t. Went r s t × V a) o

  pub keeps_then : {A B : Type 0} (r : Context) (V : A → Type 0) (W : B → Type 0) (s : State) (m : Eval A) (g : A → Eval B) → Keeps r V s (m s) → ((a : A) (t : State) → Went r s t → V a → Keeps r W t (g a t)) → Keeps r W s ((m >>= g) s)
  keeps_then {A} {B} r V W s m g k f = record {
    holds = then_after (λ a t. Went r s t × V a) (λ b u. Went r s u × W b) (m s) g k.holds (λ a t p. after_more (λ b u. Went r t u × W b) (λ b u. Went r s u × W b) (g a t) (λ b u q. (went_then r s t u p.0 q.0, q.1)) (f a t p.0 p.1).holds);
  }

  pub given : {A : Type 0} (r : Context) (V : A → Type 0) (s : State) (a : A) → Sits r s → V a → Keeps r V s (Ok (a, s))
  given r V s a h l = record { holds = (went_same r s h, l) }

  pub lifted : {A : Type 0} (r : Context) (V : A → Type 0) (s : State) (o : OrTrap A) → Sits r s → ((a : A) → o ≡ Ok a → V a) → Keeps r V s (lift o s)
  lifted r V s o h l = record { holds = lift_after (λ a t. Went r s t × V a) o s (λ a e. (went_same r s h, l a e)) }

  module _ (J : Expr → Scope → Kind → Type 0) (JS : Suffix → Scope → Kind → Kind → Type 0) (makes : ℕ → List Sort) (judges : j.Judges J JS makes) (Fit : Context → Type 0)
      (names : (r : Context) → Fit r → (s : State) → Sits r s → (n : List ℕ) (t : Sort) → name_sort n (scope_of r s) ≡ Some t → Belongs t (c.read_variable n r s))
      (owns : (r : Context) → Fit r → (s : State) → Sits r s → (n : List ℕ) (t : Sort) → field_sort n (scope_of r s) ≡ Some t → Belongs t (c.read_field n r s)) where
    -- of behaviours that a name in the text has
    abbrev pub MakesTyped : List Behavior → FieldMaker → Type 0
    MakesTyped bs make = (b : List ℕ) (n : ℕ) → behavior_by_name b bs ≡ Some n → (args fs : List Value) → AreOf (makes n) args → make n args ≡ Ok fs → StateOf n fs

    abbrev pub Able : Context → Type 0
    Able r = IfAny (MakesTyped r.behaviors) r.make × Fit r

    -- what holds of a meaning with a kind, where the scope is that of the state
    pub record Typed (m : Denotation) (env : Scope) (k : Kind) : Type 0 where
      pub keeps : (r : Context) → Able r → (s : State) → env ≡ scope_of r s → Sits r s → Keeps r (Has k) s (m r s)

    pub scope_stays : (r : Context) (s t : State) (env : Scope) → env ≡ scope_of r s → Went r s t → env ≡ scope_of r t
    scope_stays r s t env e g = e ∙ ap (λ ls. record { behaviors = r.behaviors; mine = r.mine; locals = map c.variable_of ls }) (sym g.locals)

    abbrev pub PE : Expr → Type 0
    PE e = (env : Scope) (k : Kind) → J e env k → Typed (eval e) env k

    abbrev PS : Suffix → Type 0
    PS q = (env : Scope) (a k : Kind) → JS q env a k → (r : Context) → Able r → (y : Value) → Has a y → (s : State) → env ≡ scope_of r s → Sits r s → Keeps r (Has k) s (x.apply_suffix (suffix q) y r s)

    abbrev PA : At → Type 0
    PA p = PE p.uan × IfAny PE p.ual

    abbrev PO : Operand → Type 0
    PO p = PE p.value

    pub assigned : (k : Kind) (t : Sort) → Assignable k t → (y : Value) → Has k y → Belongs t y
    assigned None t f y h = subst (λ (z : Sort). Belongs z y) f.1 (subst (Of (base.Actor f.0) 0) (sym h) (null_of f.0))
    assigned (Some q) t e y h = subst (λ (z : Sort). Belongs z y) e h

    -- ---- several

    abbrev Trees : List (Known Expr PE) → List Expr
    Trees es = map (λ z. z.0) es

    all_of : (es : List (Known Expr PE)) (env : Scope) (ts : List Sort) → j.ArgsOf J JS makes (Trees es) env ts → (r : Context) → Able r → (before : List Sort) (done : List Value) → AreOf before done → (s : State) → env ≡ scope_of r s → Sits r s → Keeps r (AreOf (before ++ ts)) s (x.eval_all (map eval (Trees es)) r done s)
    all_of [] env [] f r able before done l s e h = given r (AreOf (before ++ [])) s done h (subst (λ z. AreOf z done) (sym (append-nil before)) l)
      where
        append-nil : {A : Type 0} (xs : List A) → xs ++ [] ≡ xs
        append-nil [] = refl
        append-nil (y ∷ ys) = ap (λ z. y ∷ z) (append-nil ys)
    all_of [] env (t ∷ ts) f r able before done l s e h = absurd f
    all_of (q ∷ es) env [] f r able before done l s e h = absurd f
    all_of (q ∷ es) env (t ∷ ts) f r able before done l s e h =
        keeps_then r (Has f.0.0) (AreOf (before ++ (t ∷ ts))) s (eval q.0 r) (λ y. x.eval_all (map eval (Trees es)) r (done ++ y ∷ [])) ((q.1 env f.0.0 f.0.1.0).keeps r able s e h) (λ y u g b.
        subst (λ z. Keeps r (AreOf z) u (x.eval_all (map eval (Trees es)) r (done ++ y ∷ []) u)) (append_one before t ts)
        (all_of es env ts f.1 r able (before ++ t ∷ []) (done ++ y ∷ []) (more before done t y l (assigned f.0.0 t f.0.1.1 y b)) u (scope_stays r s u env e g) g.sits))
      where
        append_one : (xs : List Sort) (t : Sort) (ts : List Sort) → (xs ++ t ∷ []) ++ ts ≡ xs ++ (t ∷ ts)
        append_one [] t ts = refl
        append_one (a ∷ xs) t ts = ap (λ z. a ∷ z) (append_one xs t ts)

        more : (xs : List Sort) (ys : List Value) (t : Sort) (y : Value) → AreOf xs ys → Belongs t y → AreOf (xs ++ t ∷ []) (ys ++ y ∷ [])
        more [] [] t y a b = (b, tt)
        more [] (z ∷ ys) t y a b = absurd a
        more (q ∷ xs) [] t y a b = absurd a
        more (q ∷ xs) (z ∷ ys) t y a b = (a.0, more xs ys t y a.1 b)

    items_of : (es : List (Known Expr PE)) (env : Scope) (t : Sort) → j.ItemsOf J JS makes (Trees es) env t → (r : Context) → Able r → (done : List Value) → EachOf (Belongs t) done → (s : State) → env ≡ scope_of r s → Sits r s → Keeps r (EachOf (Belongs t)) s (x.eval_all (map eval (Trees es)) r done s)
    items_of [] env t f r able done l s e h = given r (EachOf (Belongs t)) s done h l
    items_of (q ∷ es) env t f r able done l s e h =
        keeps_then r (Has f.0.0) (EachOf (Belongs t)) s (eval q.0 r) (λ y. x.eval_all (map eval (Trees es)) r (done ++ y ∷ [])) ((q.1 env f.0.0 f.0.1.0).keeps r able s e h) (λ y u g b.
        items_of es env t f.1 r able (done ++ y ∷ []) (each_append (Belongs t) done (y ∷ []) l (assigned f.0.0 t f.0.1.1 y b, tt)) u (scope_stays r s u env e g) g.sits)

    -- ---- operators

    bool_is : (t : Sort) (b : Bool) → boolean ≡ t → Has (Some t) (v.Bool b)
    bool_is t b e = subst (λ (z : Sort). Belongs z (v.Bool b)) e (bool_of b)

    truth_is : (t : Sort) (b : Bool) (y : Value) → boolean ≡ t → ◌≡◌ {A = OrTrap Value} (Ok (v.Bool b)) (Ok y) → Has (Some t) y
    truth_is t b y e is = ok_is t.base t.dims (v.Bool b) y (bool_is t b e) is

    number_is : (t : Sort) (n : ℤ) (y : Value) → int ≡ t → ◌≡◌ {A = OrTrap Value} (Ok (v.Int n)) (Ok y) → Has (Some t) y
    number_is t n y e is = ok_is t.base t.dims (v.Int n) y (subst (λ (z : Sort). Belongs z (v.Int n)) e (int_of n)) is

    kind_is : (k : Kind) (t : Sort) (y : Value) → k ≡ Some t → Has k y → Belongs t y
    kind_is k t y e h = subst (λ z. Has z y) e h

    or_left : (a b : Bool) → a ≡ true → a || b ≡ true
    or_left true b e = refl
    or_left false b e = absurd cc

    or_right : (a b : Bool) → b ≡ true → a || b ≡ true
    or_right true b e = refl
    or_right false b e = e

    operate_is : (o : Op) (a b : Kind) (t : Sort) → OperatorOf o a b t → (p q y : Value) → Has a p → Has b q → w.operate o p q ≡ Ok y → Has (Some t) y
    unfolding w.operate
    operate_is op.Or a b t f p q y hp hq is = ok_is t.base t.dims q y (subst (λ (z : Sort). Belongs z q) f.1 (kind_is b boolean q f.0 hq)) is
    operate_is op.And a b t f p q y hp hq is = ok_is t.base t.dims q y (subst (λ (z : Sort). Belongs z q) f.1 (kind_is b boolean q f.0 hq)) is
    operate_is op.Same a b t f p q y hp hq is = truth_is t _ y f is
    operate_is op.Other a b t f p q y hp hq is = truth_is t _ y f is
    operate_is op.Less a b t f p q y hp hq is = truth_is t _ y f is
    operate_is op.LessEq a b t f p q y hp hq is = truth_is t _ y f is
    operate_is op.Greater a b t f p q y hp hq is = truth_is t _ y f is
    operate_is op.GreaterEq a b t f p q y hp hq is = truth_is t _ y f is
    operate_is op.Add a b t (inl f) p q y hp hq is = subst (λ (z : Sort). Belongs z y) f.0 (sum_ints p q y (kind_is a int p f.1.0 hp) (kind_is b int q f.1.1 hq) is)
    operate_is op.Add a b t (inr (e, inl f)) p q y hp hq is = subst (λ (z : Sort). Belongs z y) e (sum_text p q y (or_left (w.is_text_value p) (w.is_text_value q) (text_is p (kind_is a text p f hp))) is)
    operate_is op.Add a b t (inr (e, inr f)) p q y hp hq is = subst (λ (z : Sort). Belongs z y) e (sum_text p q y (or_right (w.is_text_value p) (w.is_text_value q) (text_is q (kind_is b text q f hq))) is)
    operate_is op.Sub a b t f p q y hp hq is = number_is t _ y f is
    operate_is op.Mul a b t f p q y hp hq is = number_is t _ y f is
    operate_is op.Div a b t f p q y hp hq is = subst (λ (z : Sort). Belongs z y) f (divided_is (int_wrapping_div w32) (w.int_of p) (w.int_of q) y is)
    operate_is op.Rem a b t f p q y hp hq is = subst (λ (z : Sort). Belongs z y) f (divided_is rem_z (w.int_of p) (w.int_of q) y is)

    decided : (o : Op) (a b : Kind) (t : Sort) → OperatorOf o a b t → (p : Value) → w.short_circuits o p ≡ true → Has (Some t) (v.Bool (w.is_true p))
    decided op.Or a b t f p e = bool_is t (w.is_true p) f.1
    decided op.And a b t f p e = bool_is t (w.is_true p) f.1
    decided op.Same a b t f p e = absurd cc
    decided op.Other a b t f p e = absurd cc
    decided op.Less a b t f p e = absurd cc
    decided op.LessEq a b t f p e = absurd cc
    decided op.Greater a b t f p e = absurd cc
    decided op.GreaterEq a b t f p e = absurd cc
    decided op.Add a b t f p e = absurd cc
    decided op.Sub a b t f p e = absurd cc
    decided op.Mul a b t f p e = absurd cc
    decided op.Div a b t f p e = absurd cc
    decided op.Rem a b t f p e = absurd cc

    operated_typed : (o : Op) (m : Denotation) (env : Scope) (a b : Kind) (t : Sort) → OperatorOf o a b t → Typed m env b → (r : Context) → Able r → (p : Value) → Has a p → (s : State) → env ≡ scope_of r s → Sits r s → Keeps r (Has (Some t)) s (x.apply_operator (o, m) p r s)
    operated_typed o m env a b t f g r able p hp s e h = at (w.short_circuits o p) refl
      where
        at : (d : Bool) → w.short_circuits o p ≡ d → Keeps r (Has (Some t)) s ((if d then pure (v.Bool (w.is_true p)) else (m r >>= (λ q. lift (w.operate o p q)))) s)
        at true d = given r (Has (Some t)) s (v.Bool (w.is_true p)) h (decided o a b t f p d)
        at false d = keeps_then r (Has b) (Has (Some t)) s (m r) (λ q. lift (w.operate o p q)) (g.keeps r able s e h) (λ q u went hq. lifted r (Has (Some t)) u (w.operate o p q) went.sits (λ y is. operate_is o a b t f p q y hp hq is))

    level_typed : (ps : List (Known Operand PO)) (env : Scope) (a k : Kind) → j.LevelOf J JS makes (map (λ z. z.0) ps) env a k → (r : Context) → Able r → (p : Value) → Has a p → (s : State) → env ≡ scope_of r s → Sits r s → Keeps r (Has k) s (x.apply_operators p (map operand (map (λ z. z.0) ps)) r s)
    level_typed [] env a k f r able p hp s e h = given r (Has k) s p h (subst (λ z. Has z p) f hp)
    level_typed (q ∷ ps) env a k f r able p hp s e h =
        let t : Sort = f.1.0 in
        let one : Typed (eval q.0.value) env f.0 = q.1 env f.0 f.1.1.0 in
        subst (λ (o : OperandDenotation). Keeps r (Has k) s ((x.apply_operator o p r >>= (λ u. x.apply_operators u (map operand (map (λ z. z.0) ps)) r)) s)) (sym (operand_is q.0))
        (keeps_then r (Has (Some f.1.0)) (Has k) s (x.apply_operator (q.0.op, eval q.0.value) p r) (λ u. x.apply_operators u (map operand (map (λ z. z.0) ps)) r)
        (operated_typed q.0.op (eval q.0.value) env a f.0 f.1.0 f.1.1.1.0 one r able p hp s e h)
        (λ u d went hu. level_typed ps env (Some f.1.0) k f.1.1.1.1 r able u hu d (scope_stays r s d env e went) went.sits))

    suffixed_typed : (ps : List (Known Suffix PS)) (env : Scope) (a k : Kind) → j.SuffixesOf J JS makes (map (λ z. z.0) ps) env a k → (r : Context) → Able r → (p : Value) → Has a p → (s : State) → env ≡ scope_of r s → Sits r s → Keeps r (Has k) s (x.apply_suffixes p (map suffix (map (λ z. z.0) ps)) r s)
    suffixed_typed [] env a k f r able p hp s e h = given r (Has k) s p h (subst (λ z. Has z p) f hp)
    suffixed_typed (q ∷ ps) env a k f r able p hp s e h =
        keeps_then r (Has f.0) (Has k) s (x.apply_suffix (suffix q.0) p r) (λ u. x.apply_suffixes u (map suffix (map (λ z. z.0) ps)) r) (q.1 env a f.0 f.1.0 r able p hp s e h) (λ u d went hu. suffixed_typed ps env f.0 k f.1.1 r able u hu d (scope_stays r s d env e went) went.sits)

    -- ---- new actors

    abbrev pub Any : {A : Type 0} → A → Type 0
    Any a = Unit {0}

    pub required : (b : Bool) (k : Trap) (r : Context) (s : State) → Sits r s → Keeps r (Any {A = Unit {0}}) s (require b k s)
    required true k r s h = given r (Any {A = Unit {0}}) s tt h tt
    required false k r s h = record { holds = tt }

    room : (r : Context) (s : State) → Sits r s → Keeps r (Any {A = Unit {0}}) s (x.room_for_actor s)
    room r s h = required (nat_lt (length s.actors + length s.creations) 1024) TooManyMessages r s h

    number_taken : (r : Context) (s : State) → Sits r s → Keeps r (Any {A = ℕ}) s (c.take_serial s)
    number_taken r s h = at (nat_lt s.serial 18446744073709551615)
      where
        at : (b : Bool) → Keeps r (Any {A = ℕ}) s (if b then Ok (s.serial, record s { serial = s.serial + 1 }) else Err TooManyMessages)
        at true = record { holds = (record { sits = record { locals = h.locals; fields = h.fields; actors = h.actors; creations = h.creations }; locals = refl; fields = refl; messages = refl; joins = refl; serial = omega arith }, tt) }
        at false = record { holds = tt }

    locator : (o : Option Value) (r : Context) (s : State) → Sits r s → Keeps r (Any {A = Option Ual}) s (x.locator_from o s)
    locator None r s h = given r (Any {A = Option Ual}) s None h tt
    locator (Some y) r s h = keeps_then r (Any {A = Ual}) (Any {A = Option Ual}) s (lift (x.good_locator (ual_of (w.text_of y)))) (λ l. pure (Some l)) (lifted r (Any {A = Ual}) s (x.good_locator (ual_of (w.text_of y))) h (λ l e. tt)) (λ l t g q. given r (Any {A = Option Ual}) t (Some l) g.sits tt)

    pub perhaps_typed : (o : Option Expr) → IfAny PE o → (env : Scope) → j.MaybeOf J JS makes o env → (r : Context) → Able r → (s : State) → env ≡ scope_of r s → Sits r s → Keeps r (Any {A = Option Value}) s (x.eval_option (option_map eval o) r s)
    perhaps_typed None f env g r able s e h = given r (Any {A = Option Value}) s None h tt
    perhaps_typed (Some q) f env g r able s e h = keeps_then r (Has g.0) (Any {A = Option Value}) s (eval q r) (λ y. pure (Some y)) ((f env g.0 g.1).keeps r able s e h) (λ y t went b. given r (Any {A = Option Value}) t (Some y) went.sits tt)

    abbrev OfActor : ℕ → Value → Type 0
    OfActor n = Has (Some (actor n))

    actor_added : (n : ℕ) (r : Context) (fs : List Value) → StateOf n fs → (s : State) → Sits r s → Keeps r (OfActor n) s (x.add_actor n r fs s)
    actor_added n r fs f s h = record {
      holds = (
        record { sits = record { locals = h.locals; fields = h.fields; actors = each_append (λ (a : Actor). StateOf a.behavior a.fields) s.actors (record { name = c.fresh_name r.fresh (length s.actors); behavior = n; fields = fs } ∷ []) h.actors (f, tt); creations = h.creations }; locals = refl; fields = refl; messages = refl; joins = refl; serial = omega arith },
        ref_of _ n,
      );
    }

    creation_added : (n : ℕ) (u : Uan) (place : Option Ual) (r : Context) (fs : List Value) → StateOf n fs → (k : ℕ) (s : State) → Sits r s → Keeps r (OfActor n) s (x.add_creation n u place fs k s)
    creation_added n u place r fs f k s h = record {
      holds = (
        record { sits = record { locals = h.locals; fields = h.fields; actors = h.actors; creations = each_append (λ (y : Creation). StateOf y.behavior y.fields) s.creations (record { serial = k; name = u; place = place; behavior = n; fields = fs } ∷ []) h.creations (f, tt) }; locals = refl; fields = refl; messages = refl; joins = refl; serial = omega arith },
        ref_of (name.Uan u) n,
      );
    }

    created : (make : FieldMaker) (bs : List Behavior) → MakesTyped bs make → (b : List ℕ) (n : ℕ) → behavior_by_name b bs ≡ Some n → (vs : List Value) → AreOf (makes n) vs → (r : Context) (s : State) → Sits r s → Keeps r (OfActor n) s (x.create make n vs r s)
    created make bs f b n named vs l r s h =
        keeps_then r (Any {A = Unit {0}}) (OfActor n) s x.room_for_actor (λ _. lift (make n vs) >>= x.add_actor n r) (room r s h) (λ _ t g q.
        keeps_then r (StateOf n) (OfActor n) t (lift (make n vs)) (x.add_actor n r) (lifted r (StateOf n) t (make n vs) g.sits (λ fs e. f b n named vs fs l e)) (λ fs u g1 o. actor_added n r fs o u g1.sits))

    created_at : (make : FieldMaker) (bs : List Behavior) → MakesTyped bs make → (b : List ℕ) (n : ℕ) → behavior_by_name b bs ≡ Some n → (vs : List Value) → AreOf (makes n) vs → (uan : Value) (ual : Option Value) (r : Context) (s : State) → Sits r s → Keeps r (OfActor n) s (x.create_at make n vs uan ual s)
    created_at make bs f b n named vs l uan ual r s h =
        keeps_then r (Any {A = Unit {0}}) (OfActor n) s x.room_for_actor _ (room r s h) (λ _ t g q.
        keeps_then r (Any {A = Uan}) (OfActor n) t (x.name_from uan) _ (lifted r (Any {A = Uan}) t (x.good_name (uan_of (w.text_of uan))) g.sits (λ u e. tt)) (λ u t1 g1 q1.
        keeps_then r (Any {A = Option Ual}) (OfActor n) t1 (x.locator_from ual) _ (locator ual r t1 g1.sits) (λ place t2 g2 q2.
        keeps_then r (StateOf n) (OfActor n) t2 (lift (make n vs)) _ (lifted r (StateOf n) t2 (make n vs) g2.sits (λ fs e. f b n named vs fs l e)) (λ fs t3 g3 o.
        keeps_then r (Any {A = ℕ}) (OfActor n) t3 c.take_serial (x.add_creation n u place fs) (number_taken r t3 g3.sits) (λ k t4 g4 q4. creation_added n u place r fs o k t4 g4.sits)))))

    by_typed : (make : Option FieldMaker) (bs : List Behavior) → IfAny (MakesTyped bs) make → (b : List ℕ) (o : Option ℕ) (n : ℕ) → o ≡ Some n → behavior_by_name b bs ≡ Some n → (vs : List Value) → AreOf (makes n) vs → (r : Context) (s : State) → Sits r s → Keeps r (OfActor n) s (x.create_by make o vs r s)
    by_typed None bs f b o n is named vs l r s h = given r (OfActor n) s v.Null h (null_of n)
    by_typed (Some make) bs f b None n is named vs l r s h = absurd cc
    by_typed (Some make) bs f b (Some m) n is named vs l r s h = let same : n ≡ m = cc in subst (λ z. Keeps r (OfActor n) s (x.create make z vs r s)) same (created make bs f b n named vs l r s h)

    at_typed : (make : Option FieldMaker) (bs : List Behavior) → IfAny (MakesTyped bs) make → (b : List ℕ) (o : Option ℕ) (n : ℕ) → o ≡ Some n → behavior_by_name b bs ≡ Some n → (vs : List Value) → AreOf (makes n) vs → (uan : Value) (ual : Option Value) (r : Context) (s : State) → Sits r s → Keeps r (OfActor n) s (x.create_at_by make o vs uan ual s)
    at_typed None bs f b o n is named vs l uan ual r s h = given r (OfActor n) s v.Null h (null_of n)
    at_typed (Some make) bs f b None n is named vs l uan ual r s h = absurd cc
    at_typed (Some make) bs f b (Some m) n is named vs l uan ual r s h = let same : n ≡ m = cc in subst (λ z. Keeps r (OfActor n) s (x.create_at make z vs uan ual s)) same (created_at make bs f b n named vs l uan ual r s h)

    abbrev Located : Option (Known At PA) → Option At
    Located None = None
    Located (Some p) = Some p.0

    new_typed : (b : List ℕ) (es : List (Known Expr PE)) (place : Option (Known At PA)) (env : Scope) (n : ℕ) → behavior_by_name b env.behaviors ≡ Some n → j.ArgsOf J JS makes (Trees es) env (makes n) → j.PlaceOf J JS makes (Located place) env → (r : Context) → Able r → (s : State) → env ≡ scope_of r s → Sits r s →
        Keeps r (OfActor n) s (x.new b (map eval (Trees es)) (option_map location (Located place)) r s)
    new_typed b es None env n is f g r able s e h =
        let named : behavior_by_name b r.behaviors ≡ Some n = sym (ap (λ (z : Scope). behavior_by_name b z.behaviors) e) ∙ is in
        keeps_then r (AreOf (makes n)) (OfActor n) s (x.eval_all (map eval (Trees es)) r []) (λ vs. x.create_by r.make (behavior_by_name b r.behaviors) vs r) (all_of es env (makes n) f r able [] [] tt s e h) (λ vs t went l.
        by_typed r.make r.behaviors able.0 b (behavior_by_name b r.behaviors) n named named vs l r t went.sits)
    new_typed b es (Some p) env n is f g r able s e h =
        let named : behavior_by_name b r.behaviors ≡ Some n = sym (ap (λ (z : Scope). behavior_by_name b z.behaviors) e) ∙ is in
        keeps_then r (AreOf (makes n)) (OfActor n) s (x.eval_all (map eval (Trees es)) r []) (λ vs. (location p.0).0 r >>= (λ uan. x.eval_option (location p.0).1 r >>= (λ ual. x.create_at_by r.make (behavior_by_name b r.behaviors) vs uan ual))) (all_of es env (makes n) f r able [] [] tt s e h) (λ vs t went l.
        subst (λ (z : LocationDenotation). Keeps r (OfActor n) t ((z.0 r >>= (λ uan. x.eval_option z.1 r >>= (λ ual. x.create_at_by r.make (behavior_by_name b r.behaviors) vs uan ual))) t)) (sym (located_is p.0))
        (keeps_then r (Has g.0.0) (OfActor n) t (eval p.0.uan r) (λ uan. x.eval_option (option_map eval p.0.ual) r >>= (λ ual. x.create_at_by r.make (behavior_by_name b r.behaviors) vs uan ual)) ((p.1.0 env g.0.0 g.0.1).keeps r able t (scope_stays r s t env e went) went.sits) (λ uan t1 w1 q1.
        keeps_then r (Any {A = Option Value}) (OfActor n) t1 (x.eval_option (option_map eval p.0.ual) r) (λ ual. x.create_at_by r.make (behavior_by_name b r.behaviors) vs uan ual) (perhaps_typed p.0.ual p.1.1 env g.1 r able t1 (scope_stays r t t1 env (scope_stays r s t env e went) w1) w1.sits) (λ ual t2 w2 q2.
        at_typed r.make r.behaviors able.0 b (behavior_by_name b r.behaviors) n named named vs l uan ual r t2 w2.sits))))

    -- ---- arrays

    copies : (b : Base) (d n : ℕ) (y : Value) → Of b d y → EachOf (Of b d) (replicate n y)
    copies b d zero y h = tt
    copies b d (suc n) y h = (h, copies b d n y h)

    array_made : (sort : TypeName) (bs : List Behavior) (b : Base) (d : ℕ) (k : Kind) → j.ArrayOf J JS makes (type_sort sort bs) k b d → (i : ℤ) (y : Value) → w.new_array sort i ≡ Ok y → Has k y
    array_made sort bs b d k f (negsuc i) y e = absurd cc
    array_made sort bs b d k f (pos i) y e = at (nat_lt 4096 i) e
      where
        at : (t : Bool) → (if t then Err TooLarge else w.within_limits (v.Array (replicate i (w.default_item sort)))) ≡ Ok y → Has k y
        at true e = absurd cc
        at false e = subst (λ z. Has z y) (sym f.0 ∙ f.1) (made_is b (suc d) (v.Array (replicate i (w.default_item sort))) y (array_of b d (replicate i (w.default_item sort)) (copies b d i (w.default_item sort) (item_default bs sort b d f.0))) e)

    list_made : (bs : Option Sort) (b : Base) (d : ℕ) (k : Kind) → j.ArrayOf J JS makes bs k b d → (ys : List Value) (y : Value) → EachOf (Of b d) ys → w.within_limits (v.Array ys) ≡ Ok y → Has k y
    list_made bs b d k f ys y l e = subst (λ z. Has z y) (sym f.0 ∙ f.1) (made_is b (suc d) (v.Array ys) y (array_of b d ys l) e)

    -- ---- each form

    abbrev LayerE : Type 0
    LayerE = Expr-F (Known Expr PE) (Known Suffix PS) (Known At PA) (Known Operand PO)

    abbrev trees : LayerE → Expr-F Expr Suffix At Operand
    trees = map-Expr (Known Expr PE) (Known Suffix PS) (Known At PA) (Known Operand PO) Expr Suffix At Operand (λ z. z.0) (λ z. z.0) (λ z. z.0) (λ z. z.0)

    abbrev means : Expr-F Expr Suffix At Operand → Expr-F Denotation SuffixDenotation LocationDenotation OperandDenotation
    means = map-Expr Expr Suffix At Operand Denotation SuffixDenotation LocationDenotation OperandDenotation eval suffix location operand

    abbrev Goal : LayerE → Type 0
    Goal z = (env : Scope) (k : Kind) → j.Inverts J JS makes (trees z) env k → (r : Context) → Able r → (s : State) → env ≡ scope_of r s → Sits r s → Keeps r (Has k) s (expr_step (means (trees z)) r s)

    to_kind : (k l : Kind) (r : Context) (s : State) (o : OrTrap (Value × State)) → k ≡ l → Keeps r (Has k) s o → Keeps r (Has l) s o
    to_kind k l r s o e h = subst (λ z. Keeps r (Has z) s o) e h

    form : (z : LayerE) → Goal z
    form (Expr-F.Number n at) env k f r able s e h = to_kind (Some int) k r s _ f (given r (Has (Some int)) s (w.literal_value n) h (int_of _))
    form (Expr-F.Str t at) env k f r able s e h = to_kind (Some text) k r s _ f (lifted r (Has (Some text)) s (w.within_limits (v.Str t)) h (λ y is. made_is base.Str 0 (v.Str t) y (str_of t) is))
    form (Expr-F.Bool b at) env k f r able s e h = to_kind (Some boolean) k r s _ f (given r (Has (Some boolean)) s (v.Bool b) h (bool_of b))
    form (Expr-F.Null at) env k f r able s e h = to_kind None k r s _ f (given r (Has None) s v.Null h refl)
    form (Expr-F.Me at) env k f r able s e h = to_kind (Some (actor env.mine)) k r s _ f (given r (Has (Some (actor env.mine))) s (v.Ref r.me) h (ref_of r.me env.mine))
    form (Expr-F.Name n) env k f r able s e h = to_kind (Some f.0) k r s _ f.1.1 (given r (Has (Some f.0)) s (c.read_variable n.text r s) h (names r able.1 s h n.text f.0 (sym (ap (name_sort n.text) e) ∙ f.1.0)))
    form (Expr-F.Own at n) env k f r able s e h = to_kind (Some f.0) k r s _ f.1.1 (given r (Has (Some f.0)) s (c.read_field n.text r s) h (owns r able.1 s h n.text f.0 (sym (ap (field_sort n.text) e) ∙ f.1.0)))
    form (Expr-F.Paren at q) env k f r able s e h = (q.1 env k f).keeps r able s e h
    form (Expr-F.Neg at q) env k f r able s e h = to_kind (Some int) k r s _ f.1 (keeps_then r (Has f.0.0) (Has (Some int)) s (eval q.0 r) (λ y. pure (w.negate_int y)) ((q.1 env f.0.0 f.0.1).keeps r able s e h) (λ y t g b. given r (Has (Some int)) t (w.negate_int y) g.sits (int_of _)))
    form (Expr-F.Not at q) env k f r able s e h = to_kind (Some boolean) k r s _ f.1 (keeps_then r (Has f.0.0) (Has (Some boolean)) s (eval q.0 r) (λ y. pure (w.negate_bool y)) ((q.1 env f.0.0 f.0.1).keeps r able s e h) (λ y t g b. given r (Has (Some boolean)) t (w.negate_bool y) g.sits (bool_of _)))
    form (Expr-F.Level q rest) env k f r able s e h = keeps_then r (Has f.0) (Has k) s (eval q.0 r) (λ y. x.apply_operators y (map operand (map (λ z. z.0) rest)) r) ((q.1 env f.0 f.1.0).keeps r able s e h) (λ y t g b. level_typed rest env f.0 k f.1.1 r able y b t (scope_stays r s t env e g) g.sits)
    form (Expr-F.Suffixed q rest) env k f r able s e h = keeps_then r (Has f.0) (Has k) s (eval q.0 r) (λ y. x.apply_suffixes y (map suffix (map (λ z. z.0) rest)) r) ((q.1 env f.0 f.1.0).keeps r able s e h) (λ y t g b. suffixed_typed rest env f.0 k f.1.1 r able y b t (scope_stays r s t env e g) g.sits)
    form (Expr-F.New at b es None) env k f r able s e h = to_kind (Some (actor f.0)) k r s _ f.1.1.1.1 (new_typed b.text es None env f.0 f.1.0 f.1.1.0 f.1.1.1.0 r able s e h)
    form (Expr-F.New at b es (Some p)) env k f r able s e h = to_kind (Some (actor f.0)) k r s _ f.1.1.1.1 (new_typed b.text es (Some p) env f.0 f.1.0 f.1.1.0 f.1.1.1.0 r able s e h)
    form (Expr-F.Make at sort q) env k f r able s e h = keeps_then r (Has f.1.1.0.0) (Has k) s (eval q.0 r) (λ y. lift (w.new_array sort (w.int_of y))) ((q.1 env f.1.1.0.0 f.1.1.0.1).keeps r able s e h) (λ y t g b. lifted r (Has k) t (w.new_array sort (w.int_of y)) g.sits (λ z is. array_made sort env.behaviors f.0 f.1.0 k f.1.1.1 (w.int_of y) z is))
    form (Expr-F.ListOf at sort es) env k f r able s e h =
        keeps_then r (EachOf (Belongs (record { base = f.0; dims = f.1.0 }))) (Has k) s (x.eval_all (map eval (Trees es)) r []) (λ ys. lift (w.within_limits (v.Array ys))) (items_of es env (record { base = f.0; dims = f.1.0 }) f.1.1.0 r able [] tt s e h) (λ ys t g l.
        lifted r (Has k) t (w.within_limits (v.Array ys)) g.sits (λ z is. list_made (type_sort sort env.behaviors) f.0 f.1.0 k f.1.1.1 ys z l is))
    form (Expr-F.ByName at cast b q) env k f r able s e h =
        to_kind (Some (actor f.0)) k r s _ f.1.1 (keeps_then r (Has f.1.0.0) (OfActor f.0) s (eval q.0 r) (λ y. x.name_from y >>= (λ u. pure (v.Ref (name.Uan u)))) ((q.1 env f.1.0.0 f.1.0.1).keeps r able s e h) (λ y t g b.
        keeps_then r (Any {A = Uan}) (OfActor f.0) t (x.name_from y) (λ u. pure (v.Ref (name.Uan u))) (lifted r (Any {A = Uan}) t (x.good_name (uan_of (w.text_of y))) g.sits (λ u is. tt)) (λ u t1 g1 b1. given r (OfActor f.0) t1 (v.Ref (name.Uan u)) g1.sits (ref_of (name.Uan u) f.0))))

    expr_layer : (z : LayerE) → PE (roll-Expr (trees z))
    unfolding eval suffix location operand
    expr_layer z env k is = record { keeps = λ r able s e h. subst (λ (m : Denotation). Keeps r (Has k) s (m r s)) (sym (fold-roll-Expr Denotation SuffixDenotation LocationDenotation OperandDenotation expr_step suffix_step at_step operand_step (trees z))) (form z env k (judges.exprs (trees z) env k is) r able s e h) }

    abbrev LayerS : Type 0
    LayerS = Suffix-F (Known Expr PE) (Known Suffix PS) (Known At PA) (Known Operand PO)

    abbrev suffix_trees : LayerS → Suffix-F Expr Suffix At Operand
    suffix_trees = map-Suffix (Known Expr PE) (Known Suffix PS) (Known At PA) (Known Operand PO) Expr Suffix At Operand (λ z. z.0) (λ z. z.0) (λ z. z.0) (λ z. z.0)

    behind : (z : LayerS) (env : Scope) (a k : Kind) → j.InvertsSuffix J JS makes (suffix_trees z) env a k → (r : Context) → Able r → (y : Value) → Has a y → (s : State) → env ≡ scope_of r s → Sits r s → Keeps r (Has k) s (x.apply_suffix (suffix_step (map-Suffix Expr Suffix At Operand Denotation SuffixDenotation LocationDenotation OperandDenotation eval suffix location operand (suffix_trees z))) y r s)
    behind (Suffix-F.Length at) env a k f r able y hy s e h = to_kind (Some int) k r s _ f (given r (Has (Some int)) s (w.length_of y) h (int_of _))
    behind (Suffix-F.Index at q) env a k f r able y hy s e h =
        to_kind (Some (record { base = f.0; dims = f.1.0 })) k r s _ f.1.1.1.0 (keeps_then r (Has f.1.1.1.1.0) (Has (Some (record { base = f.0; dims = f.1.0 }))) s (eval q.0 r) (λ i. lift (w.item y (w.int_of i))) ((q.1 env f.1.1.1.1.0 f.1.1.1.1.1).keeps r able s e h) (λ i t g b.
        lifted r (Has (Some (record { base = f.0; dims = f.1.0 }))) t (w.item y (w.int_of i)) g.sits (λ z is. item_is f.0 f.1.0 y z (w.int_of i) (kind_is a (record { base = f.0; dims = suc f.1.0 }) y (sym f.1.1.0) hy) is)))

    suffix_layer : (z : LayerS) → PS (roll-Suffix (suffix_trees z))
    unfolding eval suffix location operand
    suffix_layer z env a k is r able y hy s e h = subst (λ (m : SuffixDenotation). Keeps r (Has k) s (x.apply_suffix m y r s)) (sym (fold-roll-Suffix Denotation SuffixDenotation LocationDenotation OperandDenotation expr_step suffix_step at_step operand_step (suffix_trees z))) (behind z env a k (judges.suffixes (suffix_trees z) env a k is) r able y hy s e h)

    abbrev LayerA : Type 0
    LayerA = At-F (Known Expr PE) (Known Suffix PS) (Known At PA) (Known Operand PO)

    abbrev at_trees : LayerA → At-F Expr Suffix At Operand
    at_trees = map-At (Known Expr PE) (Known Suffix PS) (Known At PA) (Known Operand PO) Expr Suffix At Operand (λ z. z.0) (λ z. z.0) (λ z. z.0) (λ z. z.0)

    at_layer : (at : ℕ) (q : Known Expr PE) (o : Option (Known Expr PE)) → PA (roll-At (at_trees (record { at = at; uan = q; ual = o })))
    at_layer at q None = (q.1, tt)
    at_layer at q (Some l) = (q.1, l.1)

    -- every expression that has a kind keeps the state typed, and gives values of the kind
    pub expressions_keep : (q : Expr) → PE q
    expressions_keep = ind-Expr PE PS PA PO (λ q z is. subst (λ t. PE (roll-Expr t)) is (expr_layer z)) (λ q z is. subst (λ t. PS (roll-Suffix t)) is (suffix_layer z)) (λ q z is. subst (λ t. PA (roll-At t)) is (at_layer z.at z.uan z.ual)) (λ q z is. subst (λ t. PO (roll-Operand t)) is z.value.1)
