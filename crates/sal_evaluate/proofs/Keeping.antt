-- Expressions change no variable.
use Rattle.std.proofs.Common.{◌≡◌, ℕ, ◌+◌, Bool, true, false, if◌then◌else◌, List, [], ◌∷◌, ◌++◌, length, Option, Some, None, Ok, Err, refl, sym, ap, subst, ◌∙◌}
use Rattle.std.specs.Prelude.{nat_lt, slice_get, Result}
use Rattle.sal_value.specs.declared.name.Uan.{Uan}
use Rattle.sal_value.specs.declared.name.Ual.{Ual}
use Rattle.sal_value.specs.declared.name.Name.TheVariants as name
use Rattle.sal_value.specs.declared.value.Value.{Value}
use Rattle.sal_value.specs.declared.value.Value.TheVariants as val
use Rattle.sal_ast.specs.declared.expression.Expr.{Expr}
use Rattle.sal_ast.specs.declared.expression.Expr.TheOpen.{Expr-F}
use Rattle.sal_ast.specs.Members.{behavior_by_name}
use Rattle.sal_mail.specs.declared.fault.Trap.TheVariants.{TooManyMessages}
use Rattle.sal_handler.specs.declared.state.State.{State}
use Rattle.sal_handler.specs.declared.constants.TheConstants.{MOST_MADE}
use Rattle.sal_handler.specs.declared.state.Stop.{Stop}
use Rattle.sal_handler.specs.declared.state.Stop.TheVariants.{Trap as Trapped, NoMemory}
use Rattle.sal_ast.specs.declared.expression.Suffix.{Suffix}
use Rattle.sal_ast.specs.declared.expression.Suffix.TheVariants.{Index}
use Rattle.sal_handler.specs.Evaluation.{OrTrap, and_then, Gives, Yields, Eval, ◌>>=◌, pure, lift, trap}
use Rattle.sal_handler.specs.Values as w
use Rattle.sal_handler.specs.Scopes as c
use Rattle.sal_handler.specs.Scopes.{Context}
use Rattle.sal_handler.specs.Expressions as x
use Rattle.sal_handler.specs.Expressions.{Denotation, SuffixDenotation, LocationDenotation, OperandDenotation, FieldMaker, eval, expr_step}
use Rattle.sal_handler.specs.WellFormed.{EachOf}
use Rattle.sal_handler.proofs.After.{After, then_after, lift_after, after_is}
use Rattle.sal_handler.proofs.Evaluations.{suffix-Index}
use Rattle.sal_handler.proofs.Induction.{IfAny, OfBehind, OfWhere, OfPart, OfExpr, of_expr}
use Rattle.sal_evaluate.specs.code.Places.{place_value}

-- the variables of the two are the same
pub record Same (s t : State) : Type 0 where
  pub locals : t.locals ≡ s.locals
  pub fields : t.fields ≡ s.fields

abbrev Kept : {A : Type 0} → State → A → State → Type 0
Kept s a t = Same s t

-- what a part gives keeps the variables of s
abbrev Keeps : {A : Type 0} → State → OrTrap (A × State) → Type 0
Keeps {A} s o = After (Kept {A = A} s) o

-- of a part, in each state
pub record KeepsAll (d : Denotation) : Type 0 where
  pub keeps : (r : Context) (s t : State) → Same s t → Keeps s (d r t)

-- one part, and then another
bind : {A B : Type 0} (s t : State) (m : Eval A) (g : A → Eval B) → Keeps s (m t) → ((a : A) (u : State) → Same s u → Keeps s (g a u)) → Keeps s ((m >>= g) t)
bind {A} {B} s t m g h f = then_after (Kept {A = A} s) (Kept {A = B} s) (m t) g h f

lifted : {A : Type 0} (s t : State) (o : OrTrap A) → Same s t → Keeps s (lift o t)
lifted {A} s t o h = lift_after (Kept {A = A} s) o t (λ a e. h)

choice : {A : Type 0} (s t : State) (b : Bool) (m n : Eval A) → Keeps s (m t) → Keeps s (n t) → Keeps s ((if b then m else n) t)
choice s t true m n f g = f
choice s t false m n f g = g

tested : {A : Type 0} (s : State) (b : Bool) (o p : OrTrap (A × State)) → Keeps s o → Keeps s p → Keeps s (if b then o else p)
tested s true o p f g = f
tested s false o p f g = g

all_keep : (es : List Denotation) → EachOf KeepsAll es → (r : Context) (done : List Value) (s t : State) → Same s t → Keeps s (x.eval_all es r done t)
all_keep [] f r done s t h = h
all_keep (e ∷ es) f r done s t h = bind s t (e r) (λ v. x.eval_all es r (done ++ v ∷ [])) (f.0.keeps r s t h) (λ v u k. all_keep es f.1 r (done ++ v ∷ []) s u k)

operator_keeps : (o : OperandDenotation) → KeepsAll o.1 → (v : Value) (r : Context) (s t : State) → Same s t → Keeps s (x.apply_operator o v r t)
operator_keeps o f v r s t h =
    choice s t (w.short_circuits o.0 v) (pure (val.Bool (w.is_true v))) (o.1 r >>= (λ u. lift (w.operate o.0 v u))) h
    (bind s t (o.1 r) (λ u. lift (w.operate o.0 v u)) (f.keeps r s t h) (λ u t2 k. lifted s t2 (w.operate o.0 v u) k))

operators_keep : (os : List OperandDenotation) → EachOf (OfPart KeepsAll) os → (v : Value) (r : Context) (s t : State) → Same s t → Keeps s (x.apply_operators v os r t)
operators_keep [] f v r s t h = h
operators_keep (o ∷ os) f v r s t h = bind s t (x.apply_operator o v r) (λ u. x.apply_operators u os r) (operator_keeps o f.0 v r s t h) (λ u t2 k. operators_keep os f.1 u r s t2 k)

suffix_keeps : (b : SuffixDenotation) → OfBehind KeepsAll b → (v : Value) (r : Context) (s t : State) → Same s t → Keeps s (x.apply_suffix b v r t)
suffix_keeps None f v r s t h = h
suffix_keeps (Some e) f v r s t h = bind s t (e r) (λ i. lift (w.item v (w.int_of i))) (f.keeps r s t h) (λ i t2 k. lifted s t2 (w.item v (w.int_of i)) k)

suffixes_keep : (bs : List SuffixDenotation) → EachOf (OfBehind KeepsAll) bs → (v : Value) (r : Context) (s t : State) → Same s t → Keeps s (x.apply_suffixes v bs r t)
suffixes_keep [] f v r s t h = h
suffixes_keep (b ∷ bs) f v r s t h = bind s t (x.apply_suffix b v r) (λ u. x.apply_suffixes u bs r) (suffix_keeps b f.0 v r s t h) (λ u t2 k. suffixes_keep bs f.1 u r s t2 k)

option_keeps : (o : Option Denotation) → IfAny KeepsAll o → (r : Context) (s t : State) → Same s t → Keeps s (x.eval_option o r t)
option_keeps None f r s t h = h
option_keeps (Some e) f r s t h = bind s t (e r) (λ v. pure (Some v)) (f.keeps r s t h) (λ v t2 k. k)

name_keeps : (v : Value) (s t : State) → Same s t → Keeps s (x.name_from v t)
name_keeps v s t h = lifted s t _ h

locator_keeps : (o : Option Value) (s t : State) → Same s t → Keeps s (x.locator_from o t)
locator_keeps None s t h = h
locator_keeps (Some v) s t h = bind s t (lift _) (λ l. pure (Some l)) (lifted s t _ h) (λ l t2 k. k)

room_keeps : (s t : State) → Same s t → Keeps s (x.room_for_actor t)
room_keeps s t h = choice s t (nat_lt (length t.actors + length t.creations) MOST_MADE) (pure tt) (trap TooManyMessages) h tt

actor_keeps : (behavior : ℕ) (r : Context) (fields : List Value) (s t : State) → Same s t → Keeps s (x.add_actor behavior r fields t)
actor_keeps behavior r fields s t h = record { locals = h.locals; fields = h.fields }

creation_keeps : (behavior : ℕ) (u : Uan) (place : Option Ual) (fields : List Value) (n : ℕ) (s t : State) → Same s t → Keeps s (x.add_creation behavior u place fields n t)
creation_keeps behavior u place fields n s t h = record { locals = h.locals; fields = h.fields }

serial_keeps : (s t : State) → Same s t → Keeps s (c.take_serial t)
serial_keeps s t h = tested s (nat_lt t.serial 18446744073709551615) (Ok (t.serial, record t { serial = t.serial + 1 })) (Err TooManyMessages) (record { locals = h.locals; fields = h.fields }) tt

create_keeps : (make : FieldMaker) (behavior : ℕ) (args : List Value) (r : Context) (s t : State) → Same s t → Keeps s (x.create make behavior args r t)
create_keeps make behavior args r s t h =
    bind s t x.room_for_actor (λ a. lift (make behavior args) >>= x.add_actor behavior r) (room_keeps s t h) (λ a t2 k.
    bind s t2 (lift (make behavior args)) (x.add_actor behavior r) (lifted s t2 (make behavior args) k) (λ fields t3 m. actor_keeps behavior r fields s t3 m))

create_at_keeps : (make : FieldMaker) (behavior : ℕ) (args : List Value) (uan : Value) (ual : Option Value) (s t : State) → Same s t → Keeps s (x.create_at make behavior args uan ual t)
create_at_keeps make behavior args uan ual s t h =
    bind s t x.room_for_actor _ (room_keeps s t h) (λ a t2 k.
    bind s t2 (x.name_from uan) _ (name_keeps uan s t2 k) (λ u t3 m.
    bind s t3 (x.locator_from ual) _ (locator_keeps ual s t3 m) (λ place t4 n.
    bind s t4 (lift (make behavior args)) _ (lifted s t4 (make behavior args) n) (λ fields t5 p.
    bind s t5 c.take_serial (x.add_creation behavior u place fields) (serial_keeps s t5 p) (λ i t6 q. creation_keeps behavior u place fields i s t6 q)))))

create_by_keeps : (make : Option FieldMaker) (behavior : Option ℕ) (args : List Value) (r : Context) (s t : State) → Same s t → Keeps s (x.create_by make behavior args r t)
create_by_keeps (Some make) (Some behavior) args r s t h = create_keeps make behavior args r s t h
create_by_keeps (Some make) None args r s t h = h
create_by_keeps None (Some behavior) args r s t h = h
create_by_keeps None None args r s t h = h

create_at_by_keeps : (make : Option FieldMaker) (behavior : Option ℕ) (args : List Value) (uan : Value) (ual : Option Value) (s t : State) → Same s t → Keeps s (x.create_at_by make behavior args uan ual t)
create_at_by_keeps (Some make) (Some behavior) args uan ual s t h = create_at_keeps make behavior args uan ual s t h
create_at_by_keeps (Some make) None args uan ual s t h = h
create_at_by_keeps None (Some behavior) args uan ual s t h = h
create_at_by_keeps None None args uan ual s t h = h

new_keeps : (behavior : List ℕ) (args : List Denotation) (place : Option LocationDenotation) → EachOf KeepsAll args → IfAny (OfWhere KeepsAll) place → (r : Context) (s t : State) → Same s t → Keeps s (x.new behavior args place r t)
new_keeps behavior args None f g r s t h =
    bind s t (x.eval_all args r []) (λ vs. x.create_by r.make (behavior_by_name behavior r.behaviors) vs r) (all_keep args f r [] s t h) (λ vs t2 k. create_by_keeps r.make (behavior_by_name behavior r.behaviors) vs r s t2 k)
new_keeps behavior args (Some texts) f g r s t h =
    bind s t (x.eval_all args r []) _ (all_keep args f r [] s t h) (λ vs t2 k.
    bind s t2 (texts.0 r) _ (g.0.keeps r s t2 k) (λ uan t3 m.
    bind s t3 (x.eval_option texts.1 r) _ (option_keeps texts.1 g.1 r s t3 m) (λ ual t4 n.
    create_at_by_keeps r.make (behavior_by_name behavior r.behaviors) vs uan ual s t4 n)))

keeps_step : (y : Expr-F Denotation SuffixDenotation LocationDenotation OperandDenotation) → OfExpr KeepsAll y → KeepsAll (expr_step y)
keeps_step (Expr-F.Number n at) f = record { keeps = λ r s t h. h }
keeps_step (Expr-F.Str text at) f = record { keeps = λ r s t h. lifted s t (w.within_limits (val.Str text)) h }
keeps_step (Expr-F.Bool b at) f = record { keeps = λ r s t h. h }
keeps_step (Expr-F.Null at) f = record { keeps = λ r s t h. h }
keeps_step (Expr-F.Me at) f = record { keeps = λ r s t h. h }
keeps_step (Expr-F.Name n) f = record { keeps = λ r s t h. h }
keeps_step (Expr-F.Own at n) f = record { keeps = λ r s t h. h }
keeps_step (Expr-F.Paren at e) f = f
keeps_step (Expr-F.Neg at e) f = record { keeps = λ r s t h. bind s t (e r) (λ v. pure (w.negate_int v)) (f.keeps r s t h) (λ v t2 k. k) }
keeps_step (Expr-F.Not at e) f = record { keeps = λ r s t h. bind s t (e r) (λ v. pure (w.negate_bool v)) (f.keeps r s t h) (λ v t2 k. k) }
keeps_step (Expr-F.Level first rest) f = record { keeps = λ r s t h. bind s t (first r) (λ v. x.apply_operators v rest r) (f.0.keeps r s t h) (λ v t2 k. operators_keep rest f.1 v r s t2 k) }
keeps_step (Expr-F.Suffixed first rest) f = record { keeps = λ r s t h. bind s t (first r) (λ v. x.apply_suffixes v rest r) (f.0.keeps r s t h) (λ v t2 k. suffixes_keep rest f.1 v r s t2 k) }
keeps_step (Expr-F.New at behavior args place) f = record { keeps = λ r s t h. new_keeps behavior.text args place f.0 f.1 r s t h }
keeps_step (Expr-F.Make at sort size) f = record { keeps = λ r s t h. bind s t (size r) (λ v. lift (w.new_array sort (w.int_of v))) (f.keeps r s t h) (λ v t2 k. lifted s t2 (w.new_array sort (w.int_of v)) k) }
keeps_step (Expr-F.ListOf at sort items) f = record { keeps = λ r s t h. bind s t (x.eval_all items r []) (λ vs. lift (w.within_limits (val.Array vs))) (all_keep items f r [] s t h) (λ vs t2 k. lifted s t2 (w.within_limits (val.Array vs)) k) }
keeps_step (Expr-F.ByName at cast behavior text) f = record { keeps = λ r s t h. bind s t (text r) (λ v. x.name_from v >>= (λ u. pure (val.Ref (name.Uan u)))) (f.keeps r s t h) (λ v t2 k. bind s t2 (x.name_from v) (λ u. pure (val.Ref (name.Uan u))) (name_keeps v s t2 k) (λ u t3 m. m)) }

pub expression_keeps : (e : Expr) → KeepsAll (eval e)
expression_keeps e = of_expr KeepsAll keeps_step e

-- the state after an expression has the variables of the one before
pub kept : (e : Expr) (r : Context) (s t : State) (v : Value) → eval e r s ≡ Ok (v, t) → Same s t
kept e r s t v q = after_is (Kept {A = Value} s) (eval e r s) v t ((expression_keeps e).keeps r s s (record { locals = refl; fields = refl })) q

field_kept : (o : Option ℕ) (s t : State) → t.fields ≡ s.fields → c.field_value o t ≡ c.field_value o s
field_kept (Some i) s t h = ap (λ fs. w.item_at fs i) h
field_kept None s t h = refl

local_kept : (o : Option ℕ) (n : List ℕ) (r : Context) (s t : State) → Same s t → c.read_local_or_field o n r t ≡ c.read_local_or_field o n r s
local_kept (Some i) n r s t h = ap (λ ls. c.local_value (slice_get ls i)) h.locals
local_kept None n r s t h = field_kept (c.field_named n r) s t h.fields

variable_kept : (n : List ℕ) (r : Context) (s t : State) → Same s t → c.read_variable n r t ≡ c.read_variable n r s
variable_kept n r s t h = ap (λ ls. c.read_local_or_field (c.local_named n ls) n r t) h.locals ∙ local_kept (c.local_named n s.locals) n r s t h

place_same : (own : Bool) (n : List ℕ) (r : Context) (s t : State) → Same s t → place_value own n r t ≡ place_value own n r s
place_same true n r s t h = field_kept (c.field_named n r) s t h.fields
place_same false n r s t h = variable_kept n r s t h

-- so a variable has the value that it had
pub place_kept : (own : Bool) (n : List ℕ) (e : Expr) (r : Context) (s t : State) (v : Value) → eval e r s ≡ Ok (v, t) → place_value own n r t ≡ place_value own n r s
place_kept own n e r s t v q = place_same own n r s t (kept e r s t v q)

-- what an index gives, where its expression gives i
index_is : (y : Suffix) (at : ℕ) (e : Expr) (v i : Value) (r : Context) (s t : State) → y ≡ Index at e → eval e r s ≡ Ok (i, t) → x.apply_suffix (x.suffix y) v r s ≡ lift (w.item v (w.int_of i)) t
index_is y at e v i r s t q h =
    ap (λ z. x.apply_suffix z v r s) (ap x.suffix q ∙ suffix-Index at e)
    ∙ ap (λ o. and_then o (λ p. and_then (w.item v (w.int_of p.0)) (λ a. Ok (a, p.1)))) h

gives_lifted : (o : OrTrap Value) (result : Result Value Stop) (t : State) → Yields o result → Gives (lift o t) result t
gives_lifted o (Ok a) t y = ap (λ p. and_then p (λ b. Ok (b, t))) y
gives_lifted o (Err (Trapped k)) t y = ap (λ p. and_then p (λ b. Ok (b, t))) y
gives_lifted o (Err NoMemory) t y = tt

-- the item of a variable that is read in place, after its index was evaluated
pub place_index_gives : (own : Bool) (n m : List ℕ) (y : Suffix) (at : ℕ) (e : Expr) (i v : Value) (r : Context) (s t : State) (result : Result Value Stop) →
    y ≡ Index at e → eval e r s ≡ Ok (i, t) → v ≡ place_value own m r t → m ≡ n → Yields (w.item v (w.int_of i)) result → Gives (x.apply_suffix (x.suffix y) (place_value own n r s) r s) result t
place_index_gives own n m y at e i v r s t result q h a b z =
    let same : v ≡ place_value own n r s = a ∙ ap (λ l. place_value own l r t) b ∙ place_kept own n e r s t i h in
    let yields : Yields (w.item (place_value own n r s) (w.int_of i)) result = subst (λ u. Yields (w.item u (w.int_of i)) result) same z in
    let whole : Gives (lift (w.item (place_value own n r s) (w.int_of i)) t) result t = gives_lifted (w.item (place_value own n r s) (w.int_of i)) result t yields in
    subst (λ o. Gives o result t) (sym (index_is y at e (place_value own n r s) i r s t q h)) whole
