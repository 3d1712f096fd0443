-- What expressions do and give.
use Rattle.std.proofs.Common.{◌≡◌, ℕ, zero, suc, ◌+◌, ◌<◌, Bool, true, false, if◌then◌else◌, List, [], ◌∷◌, ◌++◌, length, Option, Some, None, Ok, Err, refl, sym, subst, arith}
use Rattle.std.specs.Prelude.{nat_lt, slice_get}
use Rattle.std.proofs.lemmas.Bool.{ltb-true}
use Rattle.sal_value.specs.declared.name.Uan.{Uan}
use Rattle.sal_value.specs.declared.name.Ual.{Ual}
use Rattle.sal_value.specs.declared.name.Name.TheVariants as name
use Rattle.sal_value.specs.declared.value.Value.{Value}
use Rattle.sal_value.specs.declared.value.Value.TheVariants as val
use Rattle.sal_value.specs.Names.{uan_of, ual_of}
use Rattle.sal_ast.specs.declared.expression.Expr.{Expr}
use Rattle.sal_ast.specs.declared.expression.Expr.TheOpen.{Expr-F}
use Rattle.sal_ast.specs.declared.program.Behavior.{Behavior}
use Rattle.sal_ast.specs.Members.{behavior_by_name}
use Rattle.sal_mail.specs.declared.fault.Trap.{Trap}
use Rattle.sal_mail.specs.declared.fault.Trap.TheVariants.{TooManyMessages}
use Rattle.sal_handler.specs.declared.state.Content.{Content}
use Rattle.sal_handler.specs.declared.state.Content.TheVariants as held
use Rattle.sal_handler.specs.declared.state.Local.{Local}
use Rattle.sal_handler.specs.declared.state.State.{State}
use Rattle.sal_handler.specs.Evaluation.{OrTrap, and_then, Eval, ◌>>=◌, ◌>>◌, pure, lift, trap, require}
use Rattle.sal_handler.specs.Values as w
use Rattle.sal_handler.specs.Scopes as c
use Rattle.sal_handler.specs.Scopes.{Context}
use Rattle.sal_handler.specs.Expressions as x
use Rattle.sal_handler.specs.Expressions.{Denotation, SuffixDenotation, LocationDenotation, OperandDenotation, FieldMaker, eval, expr_step}
use Rattle.sal_handler.specs.WellFormed.{EachOf}
use Rattle.sal_handler.proofs.After.{After, then_after, after_more, lift_after}
use Rattle.sal_handler.proofs.Induction.{IfAny, OfBehind, OfWhere, OfPart}
use Rattle.sal_handler.proofs.Addresses.{each_append}
use Rattle.sal_effects.specs.Texts.{expr_texts, exprs_texts}
use Rattle.sal_effects.proofs.Trees.{OfExpr, of_expr}
use Rattle.sal_effects.proofs.Changes.{HeldOk, LocalOk, Kept, NumberLow, IsReadPlace, Law}
use Rattle.sal_effects.proofs.Sorts.{found_behavior}
use Rattle.sal_handler.proofs.Addresses.{each_front, each_back}

pub get_each : {X : Type 0} (P : X → Type 0) (xs : List X) (i : ℕ) → EachOf P xs → IfAny P (slice_get xs i)
get_each P [] i e = tt
get_each P (x ∷ xs) zero e = e.0
get_each P (x ∷ xs) (suc i) e = get_each P xs i e.1

module _ (law : Law) where
  abbrev pub V : Value → Type 0
  V = law.values.Holds

  abbrev pub Vs : List Value → Type 0
  Vs = EachOf V

  abbrev pub Makes : FieldMaker → Type 0
  Makes make = (behavior : ℕ) (args fields : List Value) → Vs args → make behavior args ≡ Ok fields → Vs fields

  -- what a handler reads
  pub record Able (r : Context) : Type 0 where
    pub me : V (val.Ref r.me)
    pub fresh : (i : ℕ) → i < 1024 → V (val.Ref (c.fresh_name r.fresh i))
    pub make : IfAny Makes r.make

  abbrev pub KeptIn : Context → State → Type 0
  KeptIn r s = Kept law.values r.behaviors r.mine s

  -- what a part gives and leaves, if it doesn't trap
  abbrev pub Given : {A : Type 0} → Context → ℕ → (A → Type 0) → State → A → State → Type 0
  Given r k W s a t = law.Moves r k s t × (KeptIn r t × W a)

  pub record Gives {A : Type 0} (r : Context) (k : ℕ) (W : A → Type 0) (m : Eval A) : Type 0 where
    pub at : (s : State) → KeptIn r s → After (Given r k W s) (m s)

  pub still : (r : Context) (s : State) → law.Moves r 0 s s
  still r s = law.quiet r s s.locals s.fields s.turns

  pub gives_pure : {A : Type 0} (r : Context) (W : A → Type 0) (a : A) → W a → Gives r 0 W (pure a)
  gives_pure r W a y = record { at = λ s h. (still r s, (h, y)) }

  pub gives_trap : {A : Type 0} (r : Context) (j : ℕ) (W : A → Type 0) (k : Trap) → Gives r j W (trap k)
  gives_trap r j W k = record { at = λ s h. tt }

  pub gives_then : {A B : Type 0} (r : Context) (k : ℕ) (W : A → Type 0) (X : B → Type 0) (m : Eval A) (g : A → Eval B) → Gives r 0 W m → ((a : A) → W a → Gives r k X (g a)) → Gives r k X (m >>= g)
  gives_then {A} {B} r k W X m g f rest = record {
    at = λ s h.
        then_after (Given r 0 W s) (Given r k X s) (m s) g (f.at s h) (λ a t p.
        after_more (Given r k X t) (Given r k X s) (g a t) (λ b u q. (law.next r k s t u p.0 q.0, q.1)) ((rest a p.1.1).at t p.1.0));
  }

  pub gives_lift : {A : Type 0} (r : Context) (W : A → Type 0) (o : OrTrap A) → ((a : A) → o ≡ Ok a → W a) → Gives r 0 W (lift o)
  gives_lift {A} r W o f = record { at = λ s h. lift_after (Given r 0 W s) o s (λ a e. (still r s, (h, f a e))) }

  pub gives_if : {A : Type 0} (r : Context) (k : ℕ) (W : A → Type 0) (b : Bool) (m n : Eval A) → Gives r k W m → Gives r k W n → Gives r k W (if b then m else n)
  gives_if r k W true m n f g = f
  gives_if r k W false m n f g = g

  abbrev pub Any : {A : Type 0} → A → Type 0
  Any a = Unit {0}

  -- ---- parts of expressions

  -- what holds of every expression
  abbrev pub Mean : Denotation → Type 0
  Mean e = (r : Context) → Able r → Gives r 0 V (e r)

  pub all_give : (es : List Denotation) → EachOf Mean es → (r : Context) → Able r → (done : List Value) → Vs done → Gives r 0 Vs (x.eval_all es r done)
  all_give [] f r able done l = gives_pure r Vs done l
  all_give (e ∷ es) f r able done l = gives_then r 0 V Vs (e r) (λ v. x.eval_all es r (done ++ v ∷ [])) (f.0 r able) (λ v q. all_give es f.1 r able (done ++ v ∷ []) (each_append V done (v ∷ []) l (q, tt)))

  operator_gives : (o : OperandDenotation) → Mean o.1 → (v : Value) → V v → (r : Context) → Able r → Gives r 0 V (x.apply_operator o v r)
  operator_gives o f v l r able =
      gives_if r 0 V (w.short_circuits o.0 v) (pure (val.Bool (w.is_true v))) (o.1 r >>= (λ u. lift (w.operate o.0 v u)))
      (gives_pure r V (val.Bool (w.is_true v)) (law.values.truth (w.is_true v)))
      (gives_then r 0 V V (o.1 r) (λ u. lift (w.operate o.0 v u)) (f r able) (λ u q. gives_lift r V (w.operate o.0 v u) (λ y e. law.values.operated o.0 v u y l q e)))

  operators_give : (ps : List OperandDenotation) → EachOf (OfPart Mean) ps → (v : Value) → V v → (r : Context) → Able r → Gives r 0 V (x.apply_operators v ps r)
  operators_give [] f v l r able = gives_pure r V v l
  operators_give (o ∷ ps) f v l r able = gives_then r 0 V V (x.apply_operator o v r) (λ u. x.apply_operators u ps r) (operator_gives o f.0 v l r able) (λ u q. operators_give ps f.1 u q r able)

  suffix_gives : (b : SuffixDenotation) → OfBehind Mean b → (v : Value) → V v → (r : Context) → Able r → Gives r 0 V (x.apply_suffix b v r)
  suffix_gives None f v l r able = gives_pure r V (w.length_of v) (law.values.size v)
  suffix_gives (Some e) f v l r able = gives_then r 0 V V (e r) (λ i. lift (w.item v (w.int_of i))) (f r able) (λ i q. gives_lift r V (w.item v (w.int_of i)) (λ y e. law.values.item v y (w.int_of i) l e))

  suffixes_give : (bs : List SuffixDenotation) → EachOf (OfBehind Mean) bs → (v : Value) → V v → (r : Context) → Able r → Gives r 0 V (x.apply_suffixes v bs r)
  suffixes_give [] f v l r able = gives_pure r V v l
  suffixes_give (b ∷ bs) f v l r able = gives_then r 0 V V (x.apply_suffix b v r) (λ u. x.apply_suffixes u bs r) (suffix_gives b f.0 v l r able) (λ u q. suffixes_give bs f.1 u q r able)

  option_gives : (o : Option Denotation) → IfAny Mean o → (r : Context) → Able r → Gives r 0 (Any {A = Option Value}) (x.eval_option o r)
  option_gives None f r able = gives_pure r (Any {A = Option Value}) None tt
  option_gives (Some e) f r able = gives_then r 0 V (Any {A = Option Value}) (e r) (λ v. pure (Some v)) (f r able) (λ v q. gives_pure r (Any {A = Option Value}) (Some v) tt)

  -- ---- names and new actors

  named : (o : Option Uan) (u : Uan) → x.good_name o ≡ Ok u → o ≡ Some u
  named None u e = absurd cc
  named (Some y) u e = cc

  placed : (o : Option Ual) (l : Ual) → x.good_locator o ≡ Ok l → o ≡ Some l
  placed None l e = absurd cc
  placed (Some y) l e = cc

  name_gives : (r : Context) (v : Value) → Gives r 0 (λ (u : Uan). uan_of (w.text_of v) ≡ Some u) (x.name_from v)
  name_gives r v = gives_lift r (λ (u : Uan). uan_of (w.text_of v) ≡ Some u) (x.good_name (uan_of (w.text_of v))) (λ u e. named (uan_of (w.text_of v)) u e)

  locator_gives : (r : Context) (o : Option Value) → Gives r 0 IsReadPlace (x.locator_from o)
  locator_gives r None = gives_pure r IsReadPlace None tt
  locator_gives r (Some v) =
      gives_then r 0 (λ (l : Ual). ual_of (w.text_of v) ≡ Some l) IsReadPlace (lift (x.good_locator (ual_of (w.text_of v)))) (λ l. pure (Some l))
      (gives_lift r (λ (l : Ual). ual_of (w.text_of v) ≡ Some l) (x.good_locator (ual_of (w.text_of v))) (λ l e. placed (ual_of (w.text_of v)) l e))
      (λ l e. gives_pure r IsReadPlace (Some l) (w.text_of v, e))

  -- room for one more, and what makes neither actors nor creations
  abbrev Room : State → Type 0
  Room s = length s.actors + length s.creations < 1024

  abbrev Same : State → State → Type 0
  Same s t = t ≡ s

  record Lifts {A : Type 0} (W : A → Type 0) (m : Eval A) : Type 0 where
    at : (s : State) → After (λ (a : A). λ t. (t ≡ s) × W a) (m s)

  lifts : {A : Type 0} (W : A → Type 0) (o : OrTrap A) → ((a : A) → o ≡ Ok a → W a) → Lifts W (lift o)
  lifts {A} W o f = record { at = λ s. lift_after (λ (a : A). λ t. (t ≡ s) × W a) o s (λ a e. (refl, f a e)) }

  locator_lifts : (o : Option Value) → Lifts IsReadPlace (x.locator_from o)
  locator_lifts None = record { at = λ s. (refl, tt) }
  locator_lifts (Some v) = record {
    at = λ s.
        then_after (λ (l : Ual). λ t. (t ≡ s) × (ual_of (w.text_of v) ≡ Some l)) (λ (o : Option Ual). λ t. (t ≡ s) × IsReadPlace o) (lift (x.good_locator (ual_of (w.text_of v))) s) (λ l. pure (Some l))
        ((lifts (λ (l : Ual). ual_of (w.text_of v) ≡ Some l) (x.good_locator (ual_of (w.text_of v))) (λ l e. placed (ual_of (w.text_of v)) l e)).at s) (λ l t p. (p.0, (w.text_of v, p.1)));
  }

  -- after what changes nothing
  lifts_then : {A B : Type 0} (W : A → Type 0) (Q : B → State → Type 0) (m : Eval A) (g : A → Eval B) (s : State) → Lifts W m → ((a : A) → W a → After Q (g a s)) → After Q ((m >>= g) s)
  lifts_then {A} {B} W Q m g s f rest = then_after (λ (a : A). λ t. (t ≡ s) × W a) Q (m s) g (f.at s) (λ a t p. subst (λ z. After Q (g a z)) (sym p.0) (rest a p.1))

  room_lifts : (s : State) → After (λ (u : Unit {0}). λ t. (t ≡ s) × Room s) (x.room_for_actor s)
  room_lifts s = at (nat_lt (length s.actors + length s.creations) 1024) refl
    where
      at : (b : Bool) → nat_lt (length s.actors + length s.creations) 1024 ≡ b → After (λ (u : Unit {0}). λ t. (t ≡ s) × (length s.actors + length s.creations < 1024)) (require b TooManyMessages s)
      at true e = (refl, ltb-true (length s.actors + length s.creations) 1024 e)
      at false e = tt

  room_then : {B : Type 0} (Q : B → State → Type 0) (g : Eval B) (s : State) → (Room s → After Q (g s)) → After Q ((x.room_for_actor >> g) s)
  room_then {B} Q g s f = then_after (λ (u : Unit {0}). λ t. (t ≡ s) × Room s) Q (x.room_for_actor s) (λ _. g) (room_lifts s) (λ u t p. subst (λ z. After Q (g z)) (sym p.0) (f p.1))

  -- with the next number
  pub number_then : {B : Type 0} (Q : B → State → Type 0) (g : ℕ → Eval B) (s : State) → (NumberLow s → After Q (g s.serial (record s { serial = s.serial + 1 }))) → After Q ((c.take_serial >>= g) s)
  number_then {B} Q g s f = at (nat_lt s.serial 18446744073709551615) refl
    where
      at : (b : Bool) → nat_lt s.serial 18446744073709551615 ≡ b → After Q (and_then {A = ℕ × State} (if b then Ok (s.serial, record s { serial = s.serial + 1 }) else Err TooManyMessages) (λ z. g z.0 z.1))
      at true e = f (ltb-true s.serial 18446744073709551615 e)
      at false e = tt

  abbrev Known : Context → ℕ → Type 0
  Known r b = (b < length r.behaviors) × (b < 65535)

  create_gives : (make : FieldMaker) → Makes make → (r : Context) (b : ℕ) → Known r b → (args : List Value) → Vs args → Able r → Gives r 0 V (x.create make b args r)
  create_gives make ok r b known args l able = record {
    at = λ s h.
        room_then (Given r 0 V s) (lift (make b args) >>= x.add_actor b r) s (λ room.
        lifts_then Vs (Given r 0 V s) (lift (make b args)) (x.add_actor b r) s (lifts Vs (make b args) (λ fields e. ok b args fields l e)) (λ fields good.
        (law.makes r b fields s (record { few = room; known = known; held = good }), (record { locals = h.locals; fields = h.fields }, able.fresh (length s.actors) (omega (arith, room))))));
  }

  create_at_gives : (make : FieldMaker) → Makes make → (r : Context) (b : ℕ) → Known r b → (args : List Value) → Vs args → (uan : Value) (ual : Option Value) → Gives r 0 V (x.create_at make b args uan ual)
  create_at_gives make ok r b known args l uan ual = record {
    at = λ s h.
        room_then (Given r 0 V s) _ s (λ room.
        lifts_then (λ (u : Uan). uan_of (w.text_of uan) ≡ Some u) (Given r 0 V s) (x.name_from uan) _ s (lifts (λ (u : Uan). uan_of (w.text_of uan) ≡ Some u) (x.good_name (uan_of (w.text_of uan))) (λ u e. named (uan_of (w.text_of uan)) u e)) (λ u is.
        lifts_then IsReadPlace (Given r 0 V s) (x.locator_from ual) _ s (locator_lifts ual) (λ place at.
        lifts_then Vs (Given r 0 V s) (lift (make b args)) _ s (lifts Vs (make b args) (λ fields e. ok b args fields l e)) (λ fields good.
        number_then (Given r 0 V s) (x.add_creation b u place fields) s (λ low.
        (law.creates r b u place fields s (record { few = room; known = known; held = good }) low (w.text_of uan, is) at, (record { locals = h.locals; fields = h.fields }, law.values.named (w.text_of uan) u is)))))));
  }

  create_by_gives : (make : Option FieldMaker) → IfAny Makes make → (r : Context) (b : Option ℕ) → IfAny (Known r) b → (args : List Value) → Vs args → Able r → Gives r 0 V (x.create_by make b args r)
  create_by_gives None ok r b known args l able = gives_pure r V val.Null law.values.null
  create_by_gives (Some make) ok r None known args l able = gives_pure r V val.Null law.values.null
  create_by_gives (Some make) ok r (Some b) known args l able = create_gives make ok r b known args l able

  create_at_by_gives : (make : Option FieldMaker) → IfAny Makes make → (r : Context) (b : Option ℕ) → IfAny (Known r) b → (args : List Value) → Vs args → (uan : Value) (ual : Option Value) → Gives r 0 V (x.create_at_by make b args uan ual)
  create_at_by_gives None ok r b known args l uan ual = gives_pure r V val.Null law.values.null
  create_at_by_gives (Some make) ok r None known args l uan ual = gives_pure r V val.Null law.values.null
  create_at_by_gives (Some make) ok r (Some b) known args l uan ual = create_at_gives make ok r b known args l uan ual

  new_gives : (name : List ℕ) (args : List Denotation) (place : Option LocationDenotation) → EachOf Mean args → IfAny (OfWhere Mean) place → (r : Context) → Able r → Gives r 0 V (x.new name args place r)
  new_gives name args None f g r able =
      gives_then r 0 Vs V (x.eval_all args r []) (λ vs. x.create_by r.make (behavior_by_name name r.behaviors) vs r) (all_give args f r able [] tt) (λ vs l.
      create_by_gives r.make able.make r (behavior_by_name name r.behaviors) (found_behavior name r.behaviors) vs l able)
  new_gives name args (Some z) f g r able =
      gives_then r 0 Vs V (x.eval_all args r []) _ (all_give args f r able [] tt) (λ vs l.
      gives_then r 0 V V (z.0 r) _ (g.0 r able) (λ uan q.
      gives_then r 0 (Any {A = Option Value}) V (x.eval_option z.1 r) (λ ual. x.create_at_by r.make (behavior_by_name name r.behaviors) vs uan ual) (option_gives z.1 g.1 r able) (λ ual p.
      create_at_by_gives r.make able.make r (behavior_by_name name r.behaviors) (found_behavior name r.behaviors) vs l uan ual)))

  -- ---- what is read

  item_there : (items : List Value) (i : ℕ) → Vs items → V (w.item_at items i)
  item_there [] i l = law.values.null
  item_there (y ∷ ys) zero l = l.0
  item_there (y ∷ ys) (suc i) l = item_there ys i l.1

  content_there : (h : Content) → HeldOk law.values h → V (c.content_value h)
  content_there (held.Value v) g = g
  content_there (held.Token n) g = law.values.null

  local_there : (behaviors : List Behavior) (mine : ℕ) (o : Option Local) → IfAny (LocalOk law.values behaviors mine) o → V (c.local_value o)
  local_there behaviors mine None g = law.values.null
  local_there behaviors mine (Some l) g = content_there l.held g.held

  field_there : (o : Option ℕ) (s : State) → Vs s.fields → V (c.field_value o s)
  field_there None s l = law.values.null
  field_there (Some i) s l = item_there s.fields i l

  variable_there : (o : Option ℕ) (name : List ℕ) (r : Context) (s : State) → KeptIn r s → V (c.read_local_or_field o name r s)
  variable_there None name r s h = field_there (c.field_named name r) s h.fields
  variable_there (Some i) name r s h = local_there r.behaviors r.mine (slice_get s.locals i) (get_each (LocalOk law.values r.behaviors r.mine) s.locals i h.locals)

  -- ---- expressions

  expr_gives : (y : Expr-F Denotation SuffixDenotation LocationDenotation OperandDenotation) → OfExpr law.values.Literal Mean y → Mean (expr_step y)
  expr_gives (Expr-F.Number n at) f r able = gives_pure r V (w.literal_value n) (law.values.number n)
  expr_gives (Expr-F.Str text at) f r able = gives_lift r V (w.within_limits (val.Str text)) (λ y e. law.values.text text y f e)
  expr_gives (Expr-F.Bool b at) f r able = gives_pure r V (val.Bool b) (law.values.truth b)
  expr_gives (Expr-F.Null at) f r able = gives_pure r V val.Null law.values.null
  expr_gives (Expr-F.Me at) f r able = gives_pure r V (val.Ref r.me) able.me
  expr_gives (Expr-F.Name name) f r able = record { at = λ s h. (still r s, (h, variable_there (c.local_named name.text s.locals) name.text r s h)) }
  expr_gives (Expr-F.Own at name) f r able = record { at = λ s h. (still r s, (h, field_there (c.field_named name.text r) s h.fields)) }
  expr_gives (Expr-F.Paren at e) f r able = f r able
  expr_gives (Expr-F.Neg at e) f r able = gives_then r 0 V V (e r) (λ v. pure (w.negate_int v)) (f r able) (λ v q. gives_pure r V (w.negate_int v) (law.values.negated v))
  expr_gives (Expr-F.Not at e) f r able = gives_then r 0 V V (e r) (λ v. pure (w.negate_bool v)) (f r able) (λ v q. gives_pure r V (w.negate_bool v) (law.values.truth _))
  expr_gives (Expr-F.Level first rest) f r able = gives_then r 0 V V (first r) (λ v. x.apply_operators v rest r) (f.0 r able) (λ v q. operators_give rest f.1 v q r able)
  expr_gives (Expr-F.Suffixed first rest) f r able = gives_then r 0 V V (first r) (λ v. x.apply_suffixes v rest r) (f.0 r able) (λ v q. suffixes_give rest f.1 v q r able)
  expr_gives (Expr-F.New at behavior args place) f r able = new_gives behavior.text args place f.0 f.1 r able
  expr_gives (Expr-F.Make at sort size) f r able = gives_then r 0 V V (size r) (λ v. lift (w.new_array sort (w.int_of v))) (f r able) (λ v q. gives_lift r V (w.new_array sort (w.int_of v)) (λ y e. law.values.array sort (w.int_of v) y e))
  expr_gives (Expr-F.ListOf at sort items) f r able = gives_then r 0 Vs V (x.eval_all items r []) (λ vs. lift (w.within_limits (val.Array vs))) (all_give items f r able [] tt) (λ vs l. gives_lift r V (w.within_limits (val.Array vs)) (λ y e. law.values.list vs y l e))
  expr_gives (Expr-F.ByName at cast behavior text) f r able =
      gives_then r 0 V V (text r) (λ v. x.name_from v >>= (λ u. pure (val.Ref (name.Uan u)))) (f r able) (λ v q.
      gives_then r 0 (λ (u : Uan). uan_of (w.text_of v) ≡ Some u) V (x.name_from v) (λ u. pure (val.Ref (name.Uan u))) (name_gives r v) (λ u is. gives_pure r V (val.Ref (name.Uan u)) (law.values.named (w.text_of v) u is)))

  pub eval_gives : (e : Expr) → EachOf law.values.Literal (expr_texts e) → Mean (eval e)
  eval_gives = of_expr law.values.Literal Mean expr_gives

  pub evals_give : (es : List Expr) → EachOf law.values.Literal (exprs_texts es) → EachOf Mean (x.evals es)
  evals_give [] g = tt
  evals_give (e ∷ es) g = (eval_gives e (each_front law.values.Literal (expr_texts e) (exprs_texts es) g), evals_give es (each_back law.values.Literal (expr_texts e) (exprs_texts es) g))
