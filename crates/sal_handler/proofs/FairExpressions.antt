-- Expressions keep the state sound, and give legal values.
use Rattle.std.proofs.Common.{◌≡◌, ℕ, zero, suc, ◌+◌, Bool, true, false, if◌then◌else◌, List, [], ◌∷◌, ◌++◌, length, Option, Some, None, Ok, Err, refl, arith}
use Rattle.std.specs.Prelude.{nat_lt, slice_get}
use Rattle.sal_value.specs.declared.name.Uan.{Uan}
use Rattle.sal_value.specs.declared.name.Ual.{Ual}
use Rattle.sal_value.specs.declared.name.Name.{Name}
use Rattle.sal_value.specs.declared.name.Name.TheVariants as name
use Rattle.sal_value.specs.declared.value.Value.{Value}
use Rattle.sal_value.specs.declared.value.Value.TheVariants as val
use Rattle.sal_value.specs.Names.{uan_of, is_uan}
use Rattle.sal_value.specs.Spelling.{name_is_spelled}
use Rattle.sal_ast.specs.declared.expression.Expr.{Expr}
use Rattle.sal_ast.specs.declared.expression.Expr.TheOpen.{Expr-F}
use Rattle.sal_mail.specs.declared.effects.Actor.{Actor}
use Rattle.sal_mail.specs.declared.effects.Creation.{Creation}
use Rattle.sal_mail.specs.declared.fault.Trap.{Trap}
use Rattle.sal_mail.specs.declared.fault.Trap.TheVariants.{TooManyMessages}
use Rattle.sal_handler.specs.declared.state.Content.{Content}
use Rattle.sal_handler.specs.declared.state.Content.TheVariants as held
use Rattle.sal_handler.specs.declared.state.Local.{Local}
use Rattle.sal_handler.specs.declared.state.State.{State}
use Rattle.sal_handler.specs.Evaluation.{OrTrap, Eval, ◌>>=◌, pure, lift, require}
use Rattle.sal_handler.specs.Values as w
use Rattle.sal_handler.specs.Scopes as c
use Rattle.sal_handler.specs.Scopes.{Context}
use Rattle.sal_handler.specs.Expressions as x
use Rattle.sal_handler.specs.Expressions.{Denotation, SuffixDenotation, LocationDenotation, OperandDenotation, FieldMaker, eval, expr_step}
use Rattle.sal_handler.specs.WellFormed.{EachOf}
use Rattle.sal_value.proofs.Decided.{names_are_decided}
use Rattle.sal_value.proofs.Readings.{names_are_read}
use Rattle.sal_handler.proofs.Induction.{IfAny, OfBehind, OfWhere, OfPart, OfExpr, of_expr}
use Rattle.sal_handler.proofs.Addresses.{each_append}
use Rattle.sal_handler.proofs.Lawful.{Lawful, lawful_null, lawful_int, lawful_bool, lawful_ref, made_lawful, at_lawful, item_lawful, operate_lawful, array_lawful}
use Rattle.sal_handler.proofs.Sound as d
use Rattle.sal_handler.proofs.Sound.{IsGoodLocal, Able, MakesLegal}

-- a name that a text writes is one that reading gives
read_uan : (text : List ℕ) (u : Uan) → uan_of text ≡ Some u → is_uan u ≡ true
read_uan text u e = names_are_read.given text u (names_are_decided.uan text u e)

module _ (Asked : Type 0) (from : ℕ) (sizes : List ℕ) (width : ℕ) where
  abbrev Sound : Context → ℕ → State → Type 0
  Sound = d.Sound Asked from sizes width

  abbrev Fair : {A : Type 0} → Context → (A → ℕ) → (A → State → Type 0) → State → OrTrap (A × State) → Type 0
  Fair = d.FairAt Asked from sizes width

  -- of a part that passes nothing on
  abbrev Keeps : {A : Type 0} → Context → ℕ → (A → State → Type 0) → State → OrTrap (A × State) → Type 0
  Keeps {A} r p V s x = Fair r (λ (a : A). p) V s x

  pub keeps_then : {A B : Type 0} (r : Context) (p : ℕ) (V : A → State → Type 0) (q : B → ℕ) (W : B → State → Type 0) (s : State) (m : Eval A) (g : A → Eval B) →
      Keeps r p V s (m s) → ((a : A) (t : State) → d.Moves Asked from sizes width r s t → Sound r p t → V a t → Fair r q W t (g a t)) → Fair r q W s ((m >>= g) s)
  keeps_then {A} {B} r p V q W s m g f rest = d.fair_then Asked from sizes width r (λ (a : A). p) V q W s (m s) g f rest

  abbrev OfValue : Value → State → Type 0
  OfValue v s = Lawful Asked v

  abbrev OfValues : List Value → State → Type 0
  OfValues vs s = EachOf (Lawful Asked) vs

  -- what holds of every expression
  abbrev pub MeanFair : Denotation → Type 0
  MeanFair e = (r : Context) (p : ℕ) → Able Asked from r → (s : State) → Sound r p s → Keeps r p OfValue s (e r s)

  uan_legal : (u : Uan) → is_uan u ≡ true → Lawful Asked (val.Ref (name.Uan u))
  unfolding name_is_spelled
  uan_legal u e = lawful_ref Asked (name.Uan u) (λ q. e)

  given : (r : Context) (p : ℕ) (s : State) (v : Value) → Sound r p s → Lawful Asked v → Keeps r p OfValue s (Ok (v, s))
  given r p s v h l = d.fair_pure Asked from sizes width r (λ (a : Value). p) OfValue s v h l

  lifted : (r : Context) (p : ℕ) (s : State) (o : OrTrap Value) → Sound r p s → ((v : Value) → o ≡ Ok v → Lawful Asked v) → Keeps r p OfValue s (lift o s)
  lifted r p s o h l = d.fair_lift Asked from sizes width r (λ (a : Value). p) OfValue s o (λ v e. (h, l v e))

  pub all_fair : (es : List Denotation) → EachOf MeanFair es → (r : Context) (p : ℕ) → Able Asked from r → (done : List Value) → EachOf (Lawful Asked) done → (s : State) → Sound r p s → Keeps r p OfValues s (x.eval_all es r done s)
  all_fair [] f r p able done l s h = d.fair_pure Asked from sizes width r (λ (a : List Value). p) OfValues s done h l
  all_fair (e ∷ es) f r p able done l s h =
      keeps_then r p OfValue (λ (a : List Value). p) OfValues s (e r) (λ v. x.eval_all es r (done ++ v ∷ [])) (f.0 r p able s h) (λ v t m k q.
      all_fair es f.1 r p able (done ++ v ∷ []) (each_append (Lawful Asked) done (v ∷ []) l (q, tt)) t k)

  operated_fair : (o : OperandDenotation) → MeanFair o.1 → (v : Value) → Lawful Asked v → (r : Context) (p : ℕ) → Able Asked from r → (s : State) → Sound r p s → Keeps r p OfValue s (x.apply_operator o v r s)
  operated_fair o f v l r p able s h =
      d.fair_if Asked from sizes width r (λ (a : Value). p) OfValue s (w.short_circuits o.0 v) (pure (val.Bool (w.is_true v))) (o.1 r >>= (λ u. lift (w.operate o.0 v u)))
      (given r p s _ h (lawful_bool Asked (w.is_true v)))
      (keeps_then r p OfValue (λ (a : Value). p) OfValue s (o.1 r) (λ u. lift (w.operate o.0 v u)) (f r p able s h) (λ u t m k q. lifted r p t (w.operate o.0 v u) k (λ y e. operate_lawful Asked o.0 v u y q e)))

  level_fair : (ps : List OperandDenotation) → EachOf (OfPart MeanFair) ps → (v : Value) → Lawful Asked v → (r : Context) (p : ℕ) → Able Asked from r → (s : State) → Sound r p s → Keeps r p OfValue s (x.apply_operators v ps r s)
  level_fair [] f v l r p able s h = given r p s v h l
  level_fair (o ∷ ps) f v l r p able s h =
      keeps_then r p OfValue (λ (a : Value). p) OfValue s (x.apply_operator o v r) (λ u. x.apply_operators u ps r) (operated_fair o f.0 v l r p able s h) (λ u t m k q. level_fair ps f.1 u q r p able t k)

  suffixed_by_fair : (b : SuffixDenotation) → OfBehind MeanFair b → (v : Value) → Lawful Asked v → (r : Context) (p : ℕ) → Able Asked from r → (s : State) → Sound r p s → Keeps r p OfValue s (x.apply_suffix b v r s)
  suffixed_by_fair None f v l r p able s h = given r p s _ h (lawful_int Asked _)
  suffixed_by_fair (Some e) f v l r p able s h =
      keeps_then r p OfValue (λ (a : Value). p) OfValue s (e r) (λ i. lift (w.item v (w.int_of i))) (f r p able s h) (λ i t m k q. lifted r p t (w.item v (w.int_of i)) k (λ y e. item_lawful Asked v y (w.int_of i) l e))

  suffixed_fair : (bs : List SuffixDenotation) → EachOf (OfBehind MeanFair) bs → (v : Value) → Lawful Asked v → (r : Context) (p : ℕ) → Able Asked from r → (s : State) → Sound r p s → Keeps r p OfValue s (x.apply_suffixes v bs r s)
  suffixed_fair [] f v l r p able s h = given r p s v h l
  suffixed_fair (b ∷ bs) f v l r p able s h =
      keeps_then r p OfValue (λ (a : Value). p) OfValue s (x.apply_suffix b v r) (λ u. x.apply_suffixes u bs r) (suffixed_by_fair b f.0 v l r p able s h) (λ u t m k q. suffixed_fair bs f.1 u q r p able t k)

  abbrev Whatever : {A : Type 0} → A → State → Type 0
  Whatever a s = Unit {0}

  perhaps_fair : (o : Option Denotation) → IfAny MeanFair o → (r : Context) (p : ℕ) → Able Asked from r → (s : State) → Sound r p s → Keeps r p (Whatever {A = Option Value}) s (x.eval_option o r s)
  perhaps_fair None f r p able s h = d.fair_pure Asked from sizes width r (λ (a : Option Value). p) (Whatever {A = Option Value}) s None h tt
  perhaps_fair (Some e) f r p able s h =
      keeps_then r p OfValue (λ (a : Option Value). p) (Whatever {A = Option Value}) s (e r) (λ v. pure (Some v)) (f r p able s h) (λ v t m k q. d.fair_pure Asked from sizes width r (λ (a : Option Value). p) (Whatever {A = Option Value}) t (Some v) k tt)

  -- ---- names, numbers and new actors

  is_good : (o : Option Uan) (u : Uan) → x.good_name o ≡ Ok u → o ≡ Some u
  is_good None u e = absurd cc
  is_good (Some y) u e = cc

  name_fair : (v : Value) (r : Context) (p : ℕ) (s : State) → Sound r p s → Keeps r p (λ (u : Uan). λ t. uan_of (w.text_of v) ≡ Some u) s (x.name_from v s)
  name_fair v r p s h = d.fair_lift Asked from sizes width r (λ (a : Uan). p) (λ (u : Uan). λ t. uan_of (w.text_of v) ≡ Some u) s (x.good_name (uan_of (w.text_of v))) (λ u e. (h, is_good (uan_of (w.text_of v)) u e))

  locator_fair : (o : Option Value) (r : Context) (p : ℕ) (s : State) → Sound r p s → Keeps r p (Whatever {A = Option Ual}) s (x.locator_from o s)
  locator_fair None r p s h = d.fair_pure Asked from sizes width r (λ (a : Option Ual). p) (Whatever {A = Option Ual}) s None h tt
  locator_fair (Some v) r p s h =
      keeps_then r p (Whatever {A = Ual}) (λ (a : Option Ual). p) (Whatever {A = Option Ual}) s (lift _) (λ l. pure (Some l)) (d.fair_lift Asked from sizes width r (λ (a : Ual). p) (Whatever {A = Ual}) s _ (λ l e. (h, tt))) (λ l t m k q. d.fair_pure Asked from sizes width r (λ (a : Option Ual). p) (Whatever {A = Option Ual}) t (Some l) k tt)

  required_fair : (b : Bool) (k : Trap) (r : Context) (p : ℕ) (s : State) → Sound r p s → Keeps r p (Whatever {A = Unit {0}}) s (require b k s)
  required_fair true k r p s h = d.fair_pure Asked from sizes width r (λ (a : Unit {0}). p) (Whatever {A = Unit {0}}) s tt h tt
  required_fair false k r p s h = d.fair_err Asked from sizes width r (λ (a : Unit {0}). p) (Whatever {A = Unit {0}}) s k

  room_fair : (r : Context) (p : ℕ) (s : State) → Sound r p s → Keeps r p (Whatever {A = Unit {0}}) s (x.room_for_actor s)
  room_fair r p s h = required_fair (nat_lt (length s.actors + length s.creations) 1024) TooManyMessages r p s h

  -- a number, which nothing has yet
  abbrev pub OfNumber : Context → ℕ → State → Type 0
  OfNumber r n s = d.Fresh Asked from sizes width r n s

  pub number_fair : (r : Context) (p : ℕ) (s : State) → Sound r p s → Keeps r p (OfNumber r) s (c.take_serial s)
  number_fair r p s h = at (nat_lt s.serial 18446744073709551615)
    where
      at : (b : Bool) → Keeps r p (OfNumber r) s (if b then Ok (s.serial, record s { serial = s.serial + 1 }) else Err TooManyMessages)
      at true = record { holds = (record { sound = d.sound_number Asked from sizes width r p s h; moves = d.moves_quiet Asked from sizes width r s (record s { serial = s.serial + 1 }) (omega arith) refl (λ a. refl) }, d.fresh_number Asked from sizes width r p s h) }
      at false = d.fair_err Asked from sizes width r (λ (a : ℕ). p) (OfNumber r) s TooManyMessages

  pub counted_fair : (n : ℕ) (r : Context) (p : ℕ) (s : State) → Sound r p s → Keeps r p (OfNumber r) s (c.take_limited_serial n s)
  counted_fair n r p s h = at (nat_lt n 1024)
    where
      at : (b : Bool) → Keeps r p (OfNumber r) s (if b then c.take_serial s else Err TooManyMessages)
      at true = number_fair r p s h
      at false = d.fair_err Asked from sizes width r (λ (a : ℕ). p) (OfNumber r) s TooManyMessages

  fresh_spelled : (fresh : List Name) (i j : ℕ) → EachOf (λ n. name_is_spelled n ≡ true) fresh → name_is_spelled (c.name_or (slice_get fresh i) j) ≡ true
  unfolding name_is_spelled
  fresh_spelled [] i j e = refl
  fresh_spelled (n ∷ ns) zero j e = e.0
  fresh_spelled (n ∷ ns) (suc i) j e = fresh_spelled ns i j e.1

  made : (r : Context) (p : ℕ) (make : FieldMaker) → MakesLegal Asked make → (b : ℕ) (args : List Value) → EachOf (Lawful Asked) args → (s : State) → Sound r p s → Keeps r p OfValues s (lift (make b args) s)
  made r p make ok b args l s h = d.fair_lift Asked from sizes width r (λ (a : List Value). p) OfValues s (make b args) (λ fields e. (h, ok b args fields l e))

  actor_fair : (r : Context) (p : ℕ) → Able Asked from r → (b : ℕ) (fields : List Value) → EachOf (Lawful Asked) fields → (s : State) → Sound r p s → Keeps r p OfValue s (x.add_actor b r fields s)
  actor_fair r p able b fields l s h =
      let a : Actor = record { name = c.fresh_name r.fresh (length s.actors); behavior = b; fields = fields } in
      record { holds = (record { sound = d.sound_actor Asked from sizes width r p s a h refl l; moves = d.moves_quiet Asked from sizes width r s (d.with_actor Asked from sizes width a s) (omega arith) refl (λ a. refl) }, lawful_ref Asked (c.fresh_name r.fresh (length s.actors)) (λ q. fresh_spelled r.fresh (length s.actors) (length s.actors) (able.fresh q))) }

  create_fair : (make : FieldMaker) → MakesLegal Asked make → (b : ℕ) (args : List Value) → EachOf (Lawful Asked) args → (r : Context) (p : ℕ) → Able Asked from r → (s : State) → Sound r p s → Keeps r p OfValue s (x.create make b args r s)
  create_fair make ok b args l r p able s h =
      keeps_then r p (Whatever {A = Unit {0}}) (λ (a : Value). p) OfValue s x.room_for_actor (λ _. lift (make b args) >>= x.add_actor b r) (room_fair r p s h) (λ _ t m k q.
      keeps_then r p OfValues (λ (a : Value). p) OfValue t (lift (make b args)) (x.add_actor b r) (made r p make ok b args l t k) (λ fields u n j z. actor_fair r p able b fields z u j))

  creation_fair : (r : Context) (p : ℕ) (b : ℕ) (u : Uan) → is_uan u ≡ true → (place : Option Ual) (fields : List Value) → EachOf (Lawful Asked) fields → (n : ℕ) (s : State) → Sound r p s → OfNumber r n s → Keeps r p OfValue s (x.add_creation b u place fields n s)
  unfolding name_is_spelled
  creation_fair r p b u good place fields l n s h f =
      let y : Creation = record { serial = n; name = u; place = place; behavior = b; fields = fields } in
      record { holds = (record { sound = d.sound_creation Asked from sizes width r p s y h f l; moves = d.moves_quiet Asked from sizes width r s (d.with_creation Asked from sizes width y s) (omega arith) refl (λ a. refl) }, lawful_ref Asked (name.Uan u) (λ q. good)) }

  create_at_fair : (make : FieldMaker) → MakesLegal Asked make → (b : ℕ) (args : List Value) → EachOf (Lawful Asked) args → (uan : Value) (ual : Option Value) (r : Context) (p : ℕ) → (s : State) → Sound r p s → Keeps r p OfValue s (x.create_at make b args uan ual s)
  create_at_fair make ok b args l uan ual r p s h =
      keeps_then r p (Whatever {A = Unit {0}}) (λ (a : Value). p) OfValue s x.room_for_actor _ (room_fair r p s h) (λ _ t m k q.
      keeps_then r p (λ (u : Uan). λ t. uan_of (w.text_of uan) ≡ Some u) (λ (a : Value). p) OfValue t (x.name_from uan) _ (name_fair uan r p t k) (λ u t1 m1 k1 is.
      keeps_then r p (Whatever {A = Option Ual}) (λ (a : Value). p) OfValue t1 (x.locator_from ual) _ (locator_fair ual r p t1 k1) (λ place t2 m2 k2 q2.
      keeps_then r p OfValues (λ (a : Value). p) OfValue t2 (lift (make b args)) _ (made r p make ok b args l t2 k2) (λ fields t3 m3 k3 z.
      keeps_then r p (OfNumber r) (λ (a : Value). p) OfValue t3 c.take_serial (x.add_creation b u place fields) (number_fair r p t3 k3) (λ n t4 m4 k4 f.
      creation_fair r p b u (read_uan (w.text_of uan) u is) place fields z n t4 k4 f)))))

  create_by_fair : (make : Option FieldMaker) → IfAny (MakesLegal Asked) make → (b : Option ℕ) (args : List Value) → EachOf (Lawful Asked) args → (r : Context) (p : ℕ) → Able Asked from r → (s : State) → Sound r p s → Keeps r p OfValue s (x.create_by make b args r s)
  create_by_fair None ok b args l r p able s h = given r p s val.Null h (lawful_null Asked)
  create_by_fair (Some make) ok None args l r p able s h = given r p s val.Null h (lawful_null Asked)
  create_by_fair (Some make) ok (Some b) args l r p able s h = create_fair make ok b args l r p able s h

  create_at_by_fair : (make : Option FieldMaker) → IfAny (MakesLegal Asked) make → (b : Option ℕ) (args : List Value) → EachOf (Lawful Asked) args → (uan : Value) (ual : Option Value) (r : Context) (p : ℕ) → (s : State) → Sound r p s → Keeps r p OfValue s (x.create_at_by make b args uan ual s)
  create_at_by_fair None ok b args l uan ual r p s h = given r p s val.Null h (lawful_null Asked)
  create_at_by_fair (Some make) ok None args l uan ual r p s h = given r p s val.Null h (lawful_null Asked)
  create_at_by_fair (Some make) ok (Some b) args l uan ual r p s h = create_at_fair make ok b args l uan ual r p s h

  new_fair : (name : List ℕ) (args : List Denotation) (place : Option LocationDenotation) → EachOf MeanFair args → IfAny (OfWhere MeanFair) place → (r : Context) (p : ℕ) → Able Asked from r → (s : State) → Sound r p s → Keeps r p OfValue s (x.new name args place r s)
  new_fair name args None f g r p able s h =
      keeps_then r p OfValues (λ (a : Value). p) OfValue s (x.eval_all args r []) _ (all_fair args f r p able [] tt s h) (λ vs t m k l. create_by_fair r.make able.make _ vs l r p able t k)
  new_fair name args (Some z) f g r p able s h =
      keeps_then r p OfValues (λ (a : Value). p) OfValue s (x.eval_all args r []) _ (all_fair args f r p able [] tt s h) (λ vs t m k l.
      keeps_then r p OfValue (λ (a : Value). p) OfValue t (z.0 r) _ (g.0 r p able t k) (λ uan t1 m1 k1 q1.
      keeps_then r p (Whatever {A = Option Value}) (λ (a : Value). p) OfValue t1 (x.eval_option z.1 r) _ (perhaps_fair z.1 g.1 r p able t1 k1) (λ ual t2 m2 k2 q2. create_at_by_fair r.make able.make _ vs l uan ual r p t2 k2)))

  -- ---- what is read

  held_legal : (from to : ℕ) (o : Option Local) → IfAny (IsGoodLocal Asked from to) o → Lawful Asked (c.local_value o)
  held_legal from to None g = (lawful_null Asked)
  held_legal from to (Some l) g = at l.held g
    where
      at : (h : Content) → d.IsGoodHeld Asked from to h → Lawful Asked (c.content_value h)
      at (held.Value v) g = g
      at (held.Token n) g = (lawful_null Asked)

  get_each : {X : Type 0} (P : X → Type 0) (xs : List X) (i : ℕ) → EachOf P xs → IfAny P (slice_get xs i)
  get_each P [] i e = tt
  get_each P (x ∷ xs) zero e = e.0
  get_each P (x ∷ xs) (suc i) e = get_each P xs i e.1

  field_legal : (o : Option ℕ) (s : State) → EachOf (Lawful Asked) s.fields → Lawful Asked (c.field_value o s)
  field_legal None s l = (lawful_null Asked)
  field_legal (Some i) s l = at_lawful Asked s.fields i l

  read_legal : (o : Option ℕ) (name : List ℕ) (r : Context) (p : ℕ) (s : State) → Sound r p s → Lawful Asked (c.read_local_or_field o name r s)
  read_legal None name r p s h = field_legal (c.field_named name r) s h.fields
  read_legal (Some i) name r p s h = held_legal from s.serial (slice_get s.locals i) (get_each (IsGoodLocal Asked from s.serial) s.locals i h.locals)

  -- ---- expressions

  expr_fair : (y : Expr-F Denotation SuffixDenotation LocationDenotation OperandDenotation) → OfExpr MeanFair y → MeanFair (expr_step y)
  expr_fair (Expr-F.Number n at) f r p able s h = given r p s _ h (lawful_int Asked _)
  expr_fair (Expr-F.Str text at) f r p able s h = lifted r p s (w.within_limits (val.Str text)) h (λ y e. made_lawful Asked (val.Str text) y e)
  expr_fair (Expr-F.Bool b at) f r p able s h = given r p s _ h (lawful_bool Asked b)
  expr_fair (Expr-F.Null at) f r p able s h = given r p s _ h (lawful_null Asked)
  expr_fair (Expr-F.Me at) f r p able s h = given r p s _ h (lawful_ref Asked r.me able.me)
  expr_fair (Expr-F.Name name) f r p able s h = given r p s _ h (read_legal (c.local_named name.text s.locals) name.text r p s h)
  expr_fair (Expr-F.Own at name) f r p able s h = given r p s _ h (field_legal (c.field_named name.text r) s h.fields)
  expr_fair (Expr-F.Paren at e) f r p able s h = f r p able s h
  expr_fair (Expr-F.Neg at e) f r p able s h = keeps_then r p OfValue (λ (a : Value). p) OfValue s (e r) (λ v. pure (w.negate_int v)) (f r p able s h) (λ v t m k q. given r p t _ k (lawful_int Asked _))
  expr_fair (Expr-F.Not at e) f r p able s h = keeps_then r p OfValue (λ (a : Value). p) OfValue s (e r) (λ v. pure (w.negate_bool v)) (f r p able s h) (λ v t m k q. given r p t _ k (lawful_bool Asked _))
  expr_fair (Expr-F.Level first rest) f r p able s h = keeps_then r p OfValue (λ (a : Value). p) OfValue s (first r) (λ v. x.apply_operators v rest r) (f.0 r p able s h) (λ v t m k q. level_fair rest f.1 v q r p able t k)
  expr_fair (Expr-F.Suffixed first rest) f r p able s h = keeps_then r p OfValue (λ (a : Value). p) OfValue s (first r) (λ v. x.apply_suffixes v rest r) (f.0 r p able s h) (λ v t m k q. suffixed_fair rest f.1 v q r p able t k)
  expr_fair (Expr-F.New at behavior args place) f r p able s h = new_fair behavior.text args place f.0 f.1 r p able s h
  expr_fair (Expr-F.Make at sort size) f r p able s h = keeps_then r p OfValue (λ (a : Value). p) OfValue s (size r) (λ v. lift (w.new_array sort (w.int_of v))) (f r p able s h) (λ v t m k q. lifted r p t _ k (λ y e. array_lawful Asked sort (w.int_of v) y e))
  expr_fair (Expr-F.ListOf at sort items) f r p able s h = keeps_then r p OfValues (λ (a : Value). p) OfValue s (x.eval_all items r []) (λ vs. lift (w.within_limits (val.Array vs))) (all_fair items f r p able [] tt s h) (λ vs t m k q. lifted r p t _ k (λ y e. made_lawful Asked (val.Array vs) y e))
  expr_fair (Expr-F.ByName at cast behavior text) f r p able s h =
      keeps_then r p OfValue (λ (a : Value). p) OfValue s (text r) (λ v. x.name_from v >>= (λ u. pure (val.Ref (name.Uan u)))) (f r p able s h) (λ v t m k q.
      keeps_then r p (λ (u : Uan). λ t. uan_of (w.text_of v) ≡ Some u) (λ (a : Value). p) OfValue t (x.name_from v) (λ u. pure (val.Ref (name.Uan u))) (name_fair v r p t k) (λ u t1 m1 k1 is. given r p t1 _ k1 (uan_legal u (read_uan (w.text_of v) u is))))

  pub eval_fair : (e : Expr) → MeanFair (eval e)
  eval_fair = of_expr MeanFair expr_fair
