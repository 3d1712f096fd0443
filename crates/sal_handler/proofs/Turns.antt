-- The count of loop turns doesn't go back, nor past 100,000; a handler makes few things, and each takes one number.
use Rattle.std.proofs.Common.{◌≡◌, ℕ, zero, suc, ◌+◌, ◌≤◌, ◌<◌, ℤ, Bool, true, false, if◌then◌else◌, List, [], ◌∷◌, ◌++◌, length, map, Option, Some, None, Ok, Err, refl, ap, subst, ◌∙◌, arith, length-append}
use Rattle.std.specs.Prelude.{nat_lt}
use Rattle.std.proofs.lemmas.Bool.{ltb-true}
use Rattle.sal_mail.specs.declared.fault.Trap.{Trap}
use Rattle.sal_mail.specs.declared.fault.Trap.TheVariants.{TooManyMessages}
use Rattle.sal_value.specs.declared.value.Value.{Value}
use Rattle.sal_ast.specs.declared.expression.Expr.{Expr}
use Rattle.sal_ast.specs.declared.expression.Expr.TheOpen.{Expr-F}
use Rattle.sal_handler.specs.declared.state.State.{State}
use Rattle.sal_handler.specs.Evaluation.{OrTrap, and_then, Eval, ◌>>=◌, ◌>>◌, pure, lift, trap, require}
use Rattle.sal_handler.specs.Scopes as c
use Rattle.sal_handler.specs.Scopes.{Context, in_new_scope}
use Rattle.sal_handler.specs.Expressions as x
use Rattle.sal_handler.specs.Expressions.{Denotation, SuffixDenotation, LocationDenotation, OperandDenotation, FieldMaker, eval, expr_step}
use Rattle.std.specs.Prelude.{slice_get, slice_set}
use Rattle.sal_ast.specs.declared.statement.Declare.{Declare}
use Rattle.sal_ast.specs.declared.statement.Assign.{Assign}
use Rattle.sal_ast.specs.declared.statement.ForInit.{ForInit}
use Rattle.sal_ast.specs.declared.statement.ForInit.TheVariants as init
use Rattle.sal_ast.specs.declared.statement.Aim.{Aim}
use Rattle.sal_ast.specs.declared.statement.Aim.TheVariants as aim
use Rattle.sal_ast.specs.declared.statement.Send.{Send}
use Rattle.sal_ast.specs.declared.statement.Arg.{Arg}
use Rattle.sal_ast.specs.declared.statement.Arg.TheVariants as arg
use Rattle.sal_ast.specs.declared.statement.Property.{Property}
use Rattle.sal_ast.specs.declared.statement.Property.TheVariants as property
use Rattle.sal_ast.specs.declared.statement.Stmt.{Stmt}
use Rattle.sal_ast.specs.declared.statement.Stage.TheOpen.{Stage-F, Stmt-F}
use Rattle.sal_mail.specs.declared.message.Target.{Target}
use Rattle.sal_mail.specs.declared.message.Piece.{Piece}
use Rattle.sal_mail.specs.declared.message.Reply.{Reply}
use Rattle.sal_handler.specs.declared.state.End.{End}
use Rattle.sal_handler.specs.declared.state.End.TheVariants as end
use Rattle.sal_handler.specs.declared.state.Flow.{Flow}
use Rattle.sal_handler.specs.declared.state.Flow.TheVariants.{Next, Returned, Passed}
use Rattle.sal_handler.specs.declared.state.EnclosingJoin.{EnclosingJoin}
use Rattle.sal_handler.specs.declared.state.Local.{Local}
use Rattle.sal_handler.specs.Values as w
use Rattle.sal_handler.specs.Messages as m
use Rattle.sal_handler.specs.Statements as t
use Rattle.sal_handler.specs.Statements.{StageWithTree, StmtWithTree, ChainWithTree, StageDenotation, StmtDenotation, stage_denotation, stmt_denotation, exec, denotation_of}
use Rattle.sal_handler.specs.Loops.{LoopsStopThemselves}
use Rattle.sal_handler.specs.Limits.{AreFew, MakesFew, HandlersMakeFew}
use Rattle.sal_handler.specs.Handler as h
use Rattle.sal_handler.specs.Calls.{Call}
use Rattle.sal_handler.specs.declared.turn.Outcome.TheVariants.{Done}
use Rattle.sal_handler.proofs.FairStatements.{set_length}
use Rattle.std.specs.Prelude.{nat_eq, replicate}
use Rattle.sal_value.specs.declared.name.Ual.{Ual}
use Rattle.sal_value.specs.Names.{uan_of, ual_of}
use Rattle.sal_ast.specs.declared.program.Program.{Program}
use Rattle.sal_ast.specs.declared.program.Behavior.{Behavior}
use Rattle.sal_ast.specs.Members.{Handler, handlers_of}
use Rattle.sal_mail.specs.declared.message.Message.{Message}
use Rattle.sal_mail.specs.declared.message.Join.{Join}
use Rattle.sal_mail.specs.declared.effects.Actor.{Actor}
use Rattle.sal_mail.specs.declared.effects.Creation.{Creation}
use Rattle.sal_mail.specs.declared.effects.Effects.{Effects}
use Rattle.sal_handler.proofs.After.{After, then_after, after_more, lift_after, when, after_is}
use Rattle.sal_handler.specs.WellFormed.{EachOf}
use Rattle.sal_handler.proofs.Induction.{IfAny, OfBehind, OfWhere, OfPart, OfExpr, of_expr, OfStage, OfStmt, of_stmt}

-- few messages, joins and new actors
abbrev pub IsFew : State → Type 0
IsFew s = AreFew s.messages s.joins s.actors s.creations

-- how many of the things are there that take a number
abbrev pub size : State → ℕ
size s = length s.messages + (length s.joins + length s.creations)

-- turns don't go back, few things stay few, and as many numbers are taken as things were made
abbrev pub Rise : State → State → Type 0
Rise s t = (s.turns ≤ t.turns) × (s.turns ≤ 100000 → t.turns ≤ 100000) × (IsFew s → IsFew t) × (size t + s.serial ≡ size s + t.serial)

record Rises {A : Type 0} (m : Eval A) : Type 0 where
  at : (s : State) → After (λ (a : A). λ t. Rise s t) (m s)

stays : (s : State) → Rise s s
stays s = (omega arith, λ l. l, λ f. f, refl)

rise_then : (s t u : State) → Rise s t → Rise t u → Rise s u
rise_then s t u p q = (omega (arith, p.0, q.0), λ l. q.1 (p.1 l), λ f. q.2 (p.2 f), omega (arith, p.3, q.3))

rises_pure : {A : Type 0} (a : A) → Rises (pure a)
rises_pure a = record { at = λ s. stays s }

rises_trap : (A : Type 0) (k : Trap) → Rises (trap {A = A} k)
rises_trap A k = record { at = λ s. tt }

rises_then : {A B : Type 0} (m : Eval A) (g : A → Eval B) → Rises m → ((a : A) → Rises (g a)) → Rises (m >>= g)
rises_then {A} {B} m g rm rg = record {
  at = λ s.
      then_after (λ (a : A). λ t. Rise s t) (λ (b : B). λ u. Rise s u) (m s) g (rm.at s) (λ a t p.
      after_more (λ (b : B). λ u. Rise t u) (λ (b : B). λ u. Rise s u) (g a t) (λ b u q. rise_then s t u p q) ((rg a).at t));
}

rises_lift : {A : Type 0} (o : OrTrap A) → Rises (lift o)
rises_lift {A} o = record { at = λ s. lift_after (λ (a : A). λ t. Rise s t) o s (λ a e. stays s) }

rises_if : {A : Type 0} (b : Bool) (m n : Eval A) → Rises m → Rises n → Rises (if b then m else n)
rises_if true m n f g = f
rises_if false m n f g = g

required : (b : Bool) (k : Trap) → Rises (require b k)
required b k = rises_if b (pure tt) (trap k) (rises_pure tt) (rises_trap (Unit {0}) k)

-- ---- expressions

abbrev P : Denotation → Type 0
P e = (r : Context) → Rises (e r)

all_rise : (es : List Denotation) → EachOf P es → (r : Context) (done : List Value) → Rises (x.eval_all es r done)
all_rise [] p r done = rises_pure done
all_rise (e ∷ es) p r done = rises_then (e r) (λ v. x.eval_all es r (done ++ v ∷ [])) (p.0 r) (λ v. all_rise es p.1 r (done ++ v ∷ []))

operated_rises : (p : OperandDenotation) → P p.1 → (v : Value) (r : Context) → Rises (x.apply_operator p v r)
operated_rises p f v r = rises_if _ _ _ (rises_pure _) (rises_then (p.1 r) _ (f r) (λ w. rises_lift _))

level_rises : (ps : List OperandDenotation) → EachOf (OfPart P) ps → (v : Value) (r : Context) → Rises (x.apply_operators v ps r)
level_rises [] f v r = rises_pure v
level_rises (p ∷ ps) f v r = rises_then (x.apply_operator p v r) (λ w. x.apply_operators w ps r) (operated_rises p f.0 v r) (λ w. level_rises ps f.1 w r)

suffixed_by_rises : (b : SuffixDenotation) → OfBehind P b → (v : Value) (r : Context) → Rises (x.apply_suffix b v r)
suffixed_by_rises None f v r = rises_pure _
suffixed_by_rises (Some e) f v r = rises_then (e r) _ (f r) (λ i. rises_lift _)

suffixed_rises : (bs : List SuffixDenotation) → EachOf (OfBehind P) bs → (v : Value) (r : Context) → Rises (x.apply_suffixes v bs r)
suffixed_rises [] f v r = rises_pure v
suffixed_rises (b ∷ bs) f v r = rises_then (x.apply_suffix b v r) (λ w. x.apply_suffixes w bs r) (suffixed_by_rises b f.0 v r) (λ w. suffixed_rises bs f.1 w r)

perhaps_rises : (o : Option Denotation) → IfAny P o → (r : Context) → Rises (x.eval_option o r)
perhaps_rises None f r = rises_pure None
perhaps_rises (Some e) f r = rises_then (e r) _ (f r) (λ v. rises_pure (Some v))

-- ---- parts that make nothing, and numbers

-- a state with as many turns, things and numbers taken
record Still (s t : State) : Type 0 where
  turns : t.turns ≡ s.turns
  messages : t.messages ≡ s.messages
  joins : t.joins ≡ s.joins
  actors : t.actors ≡ s.actors
  creations : t.creations ≡ s.creations

-- it has taken so many numbers more
abbrev Takes : ℕ → State → State → Type 0
Takes n s t = Still s t × (t.serial ≡ s.serial + n)

still : (s : State) → Still s s
still s = record { turns = refl; messages = refl; joins = refl; actors = refl; creations = refl }

still_then : (s t u : State) → Still s t → Still t u → Still s u
still_then s t u p q = record { turns = q.turns ∙ p.turns; messages = q.messages ∙ p.messages; joins = q.joins ∙ p.joins; actors = q.actors ∙ p.actors; creations = q.creations ∙ p.creations }

record Stills {A : Type 0} (m : Eval A) : Type 0 where
  at : (s : State) → After (λ (a : A). λ t. Takes 0 s t) (m s)

stills_pure : {A : Type 0} (a : A) → Stills (pure a)
stills_pure a = record { at = λ s. (still s, omega arith) }

stills_lift : {A : Type 0} (o : OrTrap A) → Stills (lift o)
stills_lift {A} o = record { at = λ s. lift_after (λ (a : A). λ t. Takes 0 s t) o s (λ a e. (still s, omega arith)) }

-- after n numbers a part that makes nothing, and then what rises from the beginning on
still_on : {A B : Type 0} (n : ℕ) (s t : State) (m : Eval A) (g : A → Eval B) → Takes n s t → Stills m → ((a : A) (u : State) → Takes n s u → After (λ (b : B). λ v. Rise s v) (g a u)) → After (λ (b : B). λ v. Rise s v) ((m >>= g) t)
still_on {A} {B} n s t m g p f rest = then_after (λ (a : A). λ u. Takes 0 t u) (λ (b : B). λ v. Rise s v) (m t) g (f.at t) (λ a u q. rest a u (still_then s t u p.0 q.0, omega (arith, p.1, q.1)))

number_taken : (s : State) → After (λ (n : ℕ). λ t. Takes 1 s t) (c.take_serial s)
number_taken s = when (λ (n : ℕ). λ t. Takes 1 s t) (nat_lt s.serial 18446744073709551615) _ _ (λ e. (record { turns = refl; messages = refl; joins = refl; actors = refl; creations = refl }, refl)) (λ e. tt)

counted : (n : ℕ) (s : State) → After (λ (k : ℕ). λ t. Takes 1 s t × (n < 1024)) (c.take_limited_serial n s)
counted n s = when (λ (k : ℕ). λ t. Takes 1 s t × (n < 1024)) (nat_lt n 1024) _ _ (λ e. after_more (λ (k : ℕ). λ t. Takes 1 s t) (λ (k : ℕ). λ t. Takes 1 s t × (n < 1024)) (c.take_serial s) (λ k t q. (q, ltb-true n 1024 e)) (number_taken s)) (λ e. tt)

has_room : (s : State) → After (λ (u : Unit {0}). λ t. Takes 0 s t × (length s.actors + length s.creations < 1024)) (x.room_for_actor s)
has_room s = at (nat_lt (length s.actors + length s.creations) 1024) refl
  where
    at : (b : Bool) → nat_lt (length s.actors + length s.creations) 1024 ≡ b → After (λ (u : Unit {0}). λ t. Takes 0 s t × (length s.actors + length s.creations < 1024)) (require b TooManyMessages s)
    at true e = ((still s, omega arith), ltb-true (length s.actors + length s.creations) 1024 e)
    at false e = tt

-- ---- what is made

-- turns and lists as long as these, but for one more message
module _ (s t : State) (p : Takes 1 s t) where
  one_message : (it : Message) → length s.messages < 1024 → Rise s (record t { messages = t.messages ++ it ∷ [] })
  one_message it room =
      let m : length t.messages ≡ length s.messages = ap length p.0.messages in
      let j : length t.joins ≡ length s.joins = ap length p.0.joins in
      let a : length t.actors ≡ length s.actors = ap length p.0.actors in
      let y : length t.creations ≡ length s.creations = ap length p.0.creations in
      let l : length (t.messages ++ it ∷ []) ≡ length t.messages + 1 = length-append t.messages (it ∷ []) in
      (omega (arith, p.0.turns), λ q. omega (arith, p.0.turns, q), λ f. (omega (arith, l, m, room), omega (arith, j, f.1), omega (arith, a, y, f.2)), omega (arith, l, m, j, y, p.1))

  one_join : (it : Join) → length s.joins < 1024 → Rise s (record t { places = 0; joins = t.joins ++ it ∷ [] })
  one_join it room =
      let m : length t.messages ≡ length s.messages = ap length p.0.messages in
      let j : length t.joins ≡ length s.joins = ap length p.0.joins in
      let a : length t.actors ≡ length s.actors = ap length p.0.actors in
      let y : length t.creations ≡ length s.creations = ap length p.0.creations in
      let l : length (t.joins ++ it ∷ []) ≡ length t.joins + 1 = length-append t.joins (it ∷ []) in
      (omega (arith, p.0.turns), λ q. omega (arith, p.0.turns, q), λ f. (omega (arith, m, f.0), omega (arith, l, j, room), omega (arith, a, y, f.2)), omega (arith, l, m, j, y, p.1))

  one_creation : (it : Creation) → length s.actors + length s.creations < 1024 → Rise s (record t { creations = t.creations ++ it ∷ [] })
  one_creation it room =
      let m : length t.messages ≡ length s.messages = ap length p.0.messages in
      let j : length t.joins ≡ length s.joins = ap length p.0.joins in
      let a : length t.actors ≡ length s.actors = ap length p.0.actors in
      let y : length t.creations ≡ length s.creations = ap length p.0.creations in
      let l : length (t.creations ++ it ∷ []) ≡ length t.creations + 1 = length-append t.creations (it ∷ []) in
      (omega (arith, p.0.turns), λ q. omega (arith, p.0.turns, q), λ f. (omega (arith, m, f.0), omega (arith, j, f.1), omega (arith, a, l, y, room)), omega (arith, l, m, j, y, p.1))

-- a new actor without a universal name takes no number
one_actor : (s t : State) → Takes 0 s t → (it : Actor) → length s.actors + length s.creations < 1024 → Rise s (record t { actors = t.actors ++ it ∷ [] })
one_actor s t p it room =
    let m : length t.messages ≡ length s.messages = ap length p.0.messages in
    let j : length t.joins ≡ length s.joins = ap length p.0.joins in
    let a : length t.actors ≡ length s.actors = ap length p.0.actors in
    let y : length t.creations ≡ length s.creations = ap length p.0.creations in
    let l : length (t.actors ++ it ∷ []) ≡ length t.actors + 1 = length-append t.actors (it ∷ []) in
    (omega (arith, p.0.turns), λ q. omega (arith, p.0.turns, q), λ f. (omega (arith, m, f.0), omega (arith, j, f.1), omega (arith, l, a, y, room)), omega (arith, m, j, y, p.1))

name_rises : (v : Value) → Rises (x.name_from v)
name_rises v = rises_lift _

locator_stills : (o : Option Value) → Stills (x.locator_from o)
locator_stills None = stills_pure None
locator_stills (Some v) = record { at = λ s. then_after (λ (l : Ual). λ t. Takes 0 s t) (λ (l : Option Ual). λ t. Takes 0 s t) _ (λ l. pure (Some l)) ((stills_lift (x.good_locator (ual_of (w.text_of v)))).at s) (λ l t q. q) }

create_rises : (make : FieldMaker) (b : ℕ) (args : List Value) (r : Context) → Rises (x.create make b args r)
create_rises make b args r = record {
  at = λ s.
      then_after (λ (u : Unit {0}). λ t. Takes 0 s t × (length s.actors + length s.creations < 1024)) (λ (v : Value). λ u. Rise s u) (x.room_for_actor s) (λ _. lift (make b args) >>= x.add_actor b r) (has_room s) (λ _ t p.
      still_on 0 s t (lift (make b args)) (x.add_actor b r) p.0 (stills_lift (make b args)) (λ fields u q. one_actor s u q _ p.1));
}

create_at_rises : (make : FieldMaker) (b : ℕ) (args : List Value) (uan : Value) (ual : Option Value) → Rises (x.create_at make b args uan ual)
create_at_rises make b args uan ual = record {
  at = λ s.
      then_after (λ (u : Unit {0}). λ t. Takes 0 s t × (length s.actors + length s.creations < 1024)) (λ (v : Value). λ u. Rise s u) (x.room_for_actor s) _ (has_room s) (λ _ t p.
      still_on 0 s t (x.name_from uan) _ p.0 (stills_lift (x.good_name (uan_of (w.text_of uan)))) (λ name t1 p1.
      still_on 0 s t1 (x.locator_from ual) _ p1 (locator_stills ual) (λ place t2 p2.
      still_on 0 s t2 (lift (make b args)) _ p2 (stills_lift (make b args)) (λ fields t3 p3.
      then_after (λ (n : ℕ). λ t4. Takes 1 t3 t4) (λ (v : Value). λ u. Rise s u) (c.take_serial t3) (x.add_creation b name place fields) (number_taken t3) (λ n t4 q.
      one_creation s t4 (still_then s t3 t4 p3.0 q.0, omega (arith, p3.1, q.1)) _ p.1)))));
}

create_by_rises : (make : Option FieldMaker) (b : Option ℕ) (args : List Value) (r : Context) → Rises (x.create_by make b args r)
create_by_rises None b args r = rises_pure _
create_by_rises (Some make) None args r = rises_pure _
create_by_rises (Some make) (Some b) args r = create_rises make b args r

create_at_by_rises : (make : Option FieldMaker) (b : Option ℕ) (args : List Value) (uan : Value) (ual : Option Value) → Rises (x.create_at_by make b args uan ual)
create_at_by_rises None b args uan ual = rises_pure _
create_at_by_rises (Some make) None args uan ual = rises_pure _
create_at_by_rises (Some make) (Some b) args uan ual = create_at_rises make b args uan ual

new_rises : (name : List ℕ) (args : List Denotation) (place : Option LocationDenotation) → EachOf P args → IfAny (OfWhere P) place → (r : Context) → Rises (x.new name args place r)
new_rises name args None f g r = rises_then (x.eval_all args r []) _ (all_rise args f r []) (λ vs. create_by_rises r.make _ vs r)
new_rises name args (Some w) f g r =
    rises_then (x.eval_all args r []) _ (all_rise args f r []) (λ vs.
    rises_then (w.0 r) _ (g.0 r) (λ uan.
    rises_then (x.eval_option w.1 r) _ (perhaps_rises w.1 g.1 r) (λ ual. create_at_by_rises r.make _ vs uan ual)))

expr_rises : (y : Expr-F Denotation SuffixDenotation LocationDenotation OperandDenotation) → OfExpr P y → P (expr_step y)
expr_rises (Expr-F.Number n at) p r = rises_pure _
expr_rises (Expr-F.Str text at) p r = rises_lift _
expr_rises (Expr-F.Bool b at) p r = rises_pure _
expr_rises (Expr-F.Null at) p r = rises_pure _
expr_rises (Expr-F.Me at) p r = rises_pure _
expr_rises (Expr-F.Name name) p r = record { at = λ s. stays s }
expr_rises (Expr-F.Own at name) p r = record { at = λ s. stays s }
expr_rises (Expr-F.Paren at e) p r = p r
expr_rises (Expr-F.Neg at e) p r = rises_then (e r) _ (p r) (λ v. rises_pure _)
expr_rises (Expr-F.Not at e) p r = rises_then (e r) _ (p r) (λ v. rises_pure _)
expr_rises (Expr-F.Level first rest) p r = rises_then (first r) (λ v. x.apply_operators v rest r) (p.0 r) (λ v. level_rises rest p.1 v r)
expr_rises (Expr-F.Suffixed first rest) p r = rises_then (first r) (λ v. x.apply_suffixes v rest r) (p.0 r) (λ v. suffixed_rises rest p.1 v r)
expr_rises (Expr-F.New at behavior args place) p r = new_rises behavior.text args place p.0 p.1 r
expr_rises (Expr-F.Make at sort size) p r = rises_then (size r) _ (p r) (λ v. rises_lift _)
expr_rises (Expr-F.ListOf at sort items) p r = rises_then (x.eval_all items r []) _ (all_rise items p r []) (λ vs. rises_lift _)
expr_rises (Expr-F.ByName at cast behavior text) p r = rises_then (text r) _ (p r) (λ v. rises_then (x.name_from v) _ (name_rises v) (λ u. rises_pure _))

eval_rises : (e : Expr) → P (eval e)
eval_rises = of_expr P expr_rises

evals_rise : (es : List Expr) → EachOf P (x.evals es)
evals_rise [] = tt
evals_rise (e ∷ es) = (eval_rises e, evals_rise es)

-- ---- messages

aimed_rises : (a : Aim) (r : Context) → Rises (m.eval_aim a r)
aimed_rises aim.Own r = rises_pure _
aimed_rises (aim.Output at) r = rises_pure _
aimed_rises (aim.Actor e) r = rises_then (eval e r) _ (eval_rises e r) (λ v. rises_pure _)

piece_by_rises : (o : Option ℕ) (e : Expr) (r : Context) → Rises (m.piece_by o e r)
piece_by_rises None e r = rises_then (eval e r) _ (eval_rises e r) (λ v. rises_pure _)
piece_by_rises (Some n) e r = rises_pure _

piece_rises : (a : Arg) (r : Context) (before : Option ℕ) → Rises (m.piece_of a r before)
piece_rises (arg.Token at) r before = rises_pure _
piece_rises (arg.Expr e) r before = record { at = λ s. (piece_by_rises (m.token_of e s) e r).at s }

pieces_rise : (args : List Arg) (r : Context) (before : Option ℕ) (done : List Piece) → Rises (m.eval_args args r before done)
pieces_rise [] r before done = rises_pure done
pieces_rise (a ∷ more) r before done = rises_then (m.piece_of a r before) _ (piece_rises a r before) (λ p. pieces_rise more r before (done ++ p ∷ []))

delays_rise : (ps : List Property) (last : Option Value) (r : Context) → Rises (m.eval_delay ps last r)
delays_rise [] last r = rises_pure last
delays_rise (property.Delay at time ∷ more) last r = rises_then (eval time r) _ (eval_rises time r) (λ v. delays_rise more (Some v) r)
delays_rise (property.WaitFor at names ∷ more) last r = delays_rise more last r

place_stills : Stills c.take_slot
place_stills = record { at = λ s. when (λ (n : ℕ). λ t. Takes 0 s t) (nat_lt s.places 4096) _ _ (λ e. (record { turns = refl; messages = refl; joins = refl; actors = refl; creations = refl }, omega arith)) (λ e. tt) }

owed_place_stills : (within : List EnclosingJoin) (r : Context) → Stills (m.slot_reply within r)
owed_place_stills [] r = stills_pure _
owed_place_stills (i ∷ is) r = record { at = λ s. then_after (λ (n : ℕ). λ t. Takes 0 s t) (λ (o : Reply). λ t. Takes 0 s t) (c.take_slot s) _ (place_stills.at s) (λ n t q. q) }

owed_stills : (last : End) (r : Context) (n : ℕ) → Stills (m.reply_of_stage last r n)
owed_stills end.Nobody r n = stills_pure _
owed_stills end.Token r n = stills_pure _
owed_stills end.Place r n = owed_place_stills r.within r
owed_stills end.Caller r n = stills_pure _

addressed_rises : (d : Send) (r : Context) (before : Option ℕ) (last : End) (to : Option Target) (args : List Piece) (delay : Option ℕ) → Rises (m.send_if_valid d r before last to args delay)
addressed_rises d r before last None args delay = rises_trap ℕ _
addressed_rises d r before last (Some to) args None = rises_trap ℕ _
addressed_rises d r before last (Some to) args (Some delay) = record {
  at = λ s.
      then_after (λ (n : ℕ). λ t. Takes 1 s t × (length s.messages < 1024)) (λ (n : ℕ). λ u. Rise s u) (m.take_message_serial s) (λ n. m.reply_of_stage last r n >>= (λ owes. m.send_message d r before to args delay n owes)) (counted (length s.messages) s) (λ n t p.
      still_on 1 s t (m.reply_of_stage last r n) (λ owes. m.send_message d r before to args delay n owes) p.0 (owed_stills last r n) (λ owes u q. one_message s u q _ p.1));
}

message_rises : (d : Send) (r : Context) (before : Option ℕ) (last : End) → Rises (m.message d r before last)
unfolding m.message
message_rises d r before last =
    rises_then (m.eval_aim d.aim r) _ (aimed_rises d.aim r) (λ to.
    rises_then (m.eval_args d.args r before []) _ (pieces_rise d.args r before []) (λ args.
    rises_then (m.eval_delay d.properties None r) _ (delays_rise d.properties None r) (λ delay.
    addressed_rises d r before last (m.target_of to) args (m.delay_of delay))))

-- ---- statements

abbrev G : StageDenotation → Type 0
G g = (r : Context) (before : Option ℕ) (last : End) → Rises (g r before last)

abbrev T : StmtDenotation → Type 0
T f = (r : Context) → Rises (f r)

scoped_rises : {A : Type 0} (n : Eval A) → Rises n → Rises (in_new_scope n)
scoped_rises {A} n f = record { at = λ s. then_after (λ (a : A). λ t. Rise s t) (λ (a : A). λ t. Rise s t) (n s) (λ a t. Ok (a, c.keep_locals (length s.locals) t)) (f.at s) (λ a t p. p) }

first_value_rises : (o : Option Expr) (v : Value) (r : Context) → Rises (t.initial_value o v r)
first_value_rises None v r = rises_pure v
first_value_rises (Some e) v r = eval_rises e r

declared_rises : (d : Declare) (r : Context) → Rises (t.exec_declare d r)
declared_rises d r = rises_then (t.initial_value d.init _ r) _ (first_value_rises d.init _ r) (λ v. record { at = λ s. stays s })

set_field_rises : (o : Option ℕ) (is : List ℤ) (v : Value) → Rises (c.assign_field o is v)
set_field_rises None is v = record { at = λ s. stays s }
set_field_rises (Some i) is v = record { at = λ s. at s (w.value_after_assign (w.item_at s.fields i) is v) }
  where
    at : (s : State) (o : OrTrap Value) → After (λ (u : Unit {0}). λ t. Rise s t) (and_then o (λ w. Ok (tt, record s { fields = slice_set s.fields i w })))
    at s (Ok w) = stays s
    at s (Err k) = tt

set_local_rises : (i : ℕ) (is : List ℤ) (v : Value) → Rises (c.assign_local i is v)
set_local_rises i is v = record { at = λ s. at s (c.locals_after_assign (slice_get s.locals i) s.locals i is v) }
  where
    at : (s : State) (o : OrTrap (List Local)) → After (λ (u : Unit {0}). λ t. Rise s t) (and_then o (λ ls. Ok (tt, record s { locals = ls })))
    at s (Ok ls) = stays s
    at s (Err k) = tt

set_found_rises : (o : Option ℕ) (name : List ℕ) (r : Context) (is : List ℤ) (v : Value) → Rises (c.assign_local_or_field o name r is v)
set_found_rises None name r is v = set_field_rises _ is v
set_found_rises (Some i) name r is v = set_local_rises i is v

write_rises : (own : Bool) (name : List ℕ) (r : Context) (is : List ℤ) (v : Value) → Rises (c.assign_variable own name r is v)
write_rises true name r is v = record { at = λ s. (set_field_rises (c.field_named name r) is v).at s }
write_rises false name r is v = record { at = λ s. (set_found_rises (c.local_named name s.locals) name r is v).at s }

assigned_rises : (a : Assign) (r : Context) → Rises (t.exec_assign a r)
assigned_rises a r = rises_then (x.eval_all (x.evals a.indexes) r []) _ (all_rise (x.evals a.indexes) (evals_rise a.indexes) r []) (λ is. rises_then (eval a.value r) _ (eval_rises a.value r) (λ v. write_rises a.own _ r _ v))

after_rises : (f : Flow) (n : Eval Flow) → Rises n → Rises (t.go_on_after f n)
after_rises Next n p = p
after_rises (Returned v) n p = rises_pure _
after_rises Passed n p = rises_pure _

sequence_rises : (fs : List StmtDenotation) → EachOf T fs → (r : Context) → Rises (t.sequence fs r)
sequence_rises [] p r = rises_pure _
sequence_rises (f ∷ fs) p r = rises_then (f r) _ (p.0 r) (λ g. after_rises g (t.sequence fs r) (sequence_rises fs p.1 r))

blocked_rises : (fs : List StmtDenotation) → EachOf T fs → T (t.sequence_in_scope fs)
blocked_rises fs p r = scoped_rises (t.sequence fs r) (sequence_rises fs p r)

truth_rises : (e : Expr) (r : Context) → Rises (t.eval_test e r)
truth_rises e r = rises_then (eval e r) _ (eval_rises e r) (λ v. rises_pure _)

turn_rises : Rises c.begin_turn
turn_rises = record { at = λ s. when (λ (u : Unit {0}). λ t. Rise s t) (nat_lt s.turns 100000) _ _ (λ e. let low : s.turns < 100000 = ltb-true s.turns 100000 e in (omega arith, λ l. omega arith, λ f. f, refl)) (λ e. tt) }

looped_rises : (n : ℕ) (test : Eval Bool) (body : Eval Flow) → Rises test → Rises body → Rises (t.bounded_loop n test body)
unfolding t.bounded_loop
looped_rises zero test body f g = rises_trap Flow _
looped_rises (suc n) test body f g =
    rises_then test _ f (λ b. rises_if b _ _ (rises_then c.begin_turn _ turn_rises (λ u. rises_then body _ g (λ w. after_rises w (t.bounded_loop n test body) (looped_rises n test body f g)))) (rises_pure Next))

begun_rises : (i : ForInit) (r : Context) → Rises (t.exec_for_init i r)
begun_rises init.Nothing r = rises_pure tt
begun_rises (init.Declare d) r = declared_rises d r
begun_rises (init.Assign a) r = assigned_rises a r

goes_on_rises : (o : Option Expr) (r : Context) → Rises (t.eval_for_test o r)
goes_on_rises None r = rises_pure true
goes_on_rises (Some e) r = truth_rises e r

stepped_rises : (o : Option Assign) (r : Context) → Rises (t.exec_for_next o r)
stepped_rises None r = rises_pure tt
stepped_rises (Some a) r = assigned_rises a r

round_rises : (body : Eval Flow) (next : Eval (Unit {0})) → Rises body → Rises next → Rises (t.for_turn body next)
round_rises body next f g = rises_then (in_new_scope body) _ (scoped_rises body f) (λ w. after_rises w (next >> pure Next) (rises_then next _ g (λ _. rises_pure Next)))

for_all_rises : (first : Eval (Unit {0})) (test : Eval Bool) (next : Eval (Unit {0})) (body : Eval Flow) → Rises first → Rises test → Rises next → Rises body → Rises (t.for_loop first test next body)
unfolding t.for_loop t.for_loop_in_scope
for_all_rises first test next body a b d e = scoped_rises _ (rises_then first _ a (λ _. looped_rises t.loop_bound test (t.for_turn body next) b (round_rises body next e d)))

chain_rises : (gs : List StageDenotation) → EachOf G gs → (r : Context) (before : Option ℕ) (last : End) → Rises (t.chain gs r before last)
chain_rises [] p r before last = rises_pure before
chain_rises (g ∷ gs) p r before last = rises_then (g r before (t.end_of gs last)) _ (p.0 r before (t.end_of gs last)) (λ n. chain_rises gs p.1 r (Some n) last)

passed_rises : (within : List EnclosingJoin) (gs : List StageDenotation) → EachOf G gs → (r : Context) → Rises (t.exec_passed_chain within gs r)
passed_rises [] gs p r = rises_then (t.chain gs r None end.Caller) _ (chain_rises gs p r None end.Caller) (λ _. rises_pure Passed)
passed_rises (i ∷ is) gs p r = rises_then (t.chain gs r None end.Place) _ (chain_rises gs p r None end.Place) (λ _. rises_pure Next)

ended_rises : (passed : Option ℕ) (gs : List StageDenotation) → EachOf G gs → (r : Context) → Rises (t.exec_chain_stmt passed gs r)
ended_rises None gs p r = rises_then (t.chain gs r None (t.plain_end r.within)) _ (chain_rises gs p r None (t.plain_end r.within)) (λ _. rises_pure Next)
ended_rises (Some at) gs p r = passed_rises r.within gs p r

declare_reply_rises : (name : List ℕ) (o : Option ℕ) → Rises (t.declare_reply name o)
declare_reply_rises name None = rises_pure tt
declare_reply_rises name (Some n) = record { at = λ s. stays s }

named_rises : (name : List ℕ) (gs : List StageDenotation) → EachOf G gs → (r : Context) → Rises (t.exec_token_stmt name gs r)
named_rises name gs p r = rises_then _ _ (rises_then (t.chain gs r None end.Token) (t.declare_reply name) (chain_rises gs p r None end.Token) (declare_reply_rises name)) (λ _. rises_pure Next)

-- the join n stands open
abbrev with_open : ℕ → Bool → Reply → State → State
with_open n void owes u = record u { places = 0; joins = u.joins ++ record { number = n; places = []; void = void; reply = owes } ∷ [] }

-- a join that is closed stands where it stood
closed_rises : (i n : ℕ) (void : Bool) (owes : Reply) (places : ℕ) (b : State) → Rise b (t.close_join i n void owes places b)
closed_rises i n void owes places b =
    let it : Join = record { number = n; places = replicate b.places None; void = void; reply = owes } in
    let l : length (slice_set b.joins i it) ≡ length b.joins = set_length b.joins i it in
    (omega arith, λ q. q, λ f. (f.0, omega (arith, l, f.1), f.2), omega (arith, l))

joined_rises : (void : Bool) (block : StmtDenotation) → T block → (r : Context) (before : Option ℕ) (n : ℕ) (owes : Reply) (s u : State) → Takes 1 s u → length s.joins < 1024 → After (λ (k : ℕ). λ v. Rise s v) (t.exec_join void block r before n owes u)
joined_rises void block p r before n owes s u q room =
    then_after (λ (f : Flow). λ b. Rise s b) (λ (k : ℕ). λ v. Rise s v) ((t.open_join n void owes >> block (t.within_join n before r)) u) (λ f b. Ok (n, t.close_join (length u.joins) n void owes u.places b))
    (after_more (λ (f : Flow). λ b. Rise (with_open n void owes u) b) (λ (f : Flow). λ b. Rise s b) (block (t.within_join n before r) (with_open n void owes u)) (λ f b z. rise_then s (with_open n void owes u) b (one_join s u q _ room) z) ((p (t.within_join n before r)).at (with_open n void owes u)))
    (λ f b z. rise_then s b (t.close_join (length u.joins) n void owes u.places b) z (closed_rises (length u.joins) n void owes u.places b))

join_rises : (void : State → Bool) (block : StmtDenotation) → T block → (r : Context) → (before : Option ℕ) (last : End) → Rises (t.exec_join_stage void block r before last)
join_rises void block p r before last = record {
  at = λ s.
      then_after (λ (n : ℕ). λ t. Takes 1 s t × (length s.joins < 1024)) (λ (n : ℕ). λ u. Rise s u) (t.take_join_serial s) (λ n. m.reply_of_stage last r n >>= (λ owes. t.exec_join (void s) block r before n owes)) (counted (length s.joins) s) (λ n u q.
      still_on 1 s u (m.reply_of_stage last r n) (λ owes. t.exec_join (void s) block r before n owes) q.0 (owed_stills last r n) (λ owes v z. joined_rises (void s) block p r before n owes s v z q.1));
}

abbrev OfG : StageWithTree → Type 0
OfG x = G x.1

abbrev OfT : StmtWithTree → Type 0
OfT x = T x.1

abbrev OfC : ChainWithTree → Type 0
OfC x = EachOf G x.1

senses_rise : (list : List StmtWithTree) → EachOf OfT list → EachOf T (map denotation_of list)
senses_rise [] p = tt
senses_rise (x ∷ xs) p = (p.0, senses_rise xs p.1)

stages_rise : (list : List StageWithTree) → EachOf OfG list → EachOf G (map denotation_of list)
stages_rise [] p = tt
stages_rise (x ∷ xs) p = (p.0, stages_rise xs p.1)

stage_run_rises : (y : Stage-F StageWithTree StmtWithTree ChainWithTree) → OfStage OfG OfT OfC y → G (stage_denotation y)
stage_run_rises (Stage-F.Message d) p r before last = message_rises d r before last
stage_run_rises (Stage-F.Join at body) p r before last = join_rises _ (t.sequence_in_scope (map denotation_of body)) (blocked_rises (map denotation_of body) (senses_rise body p)) r before last

stmt_run_rises : (y : Stmt-F StageWithTree StmtWithTree ChainWithTree) → OfStmt OfG OfT OfC y → T (stmt_denotation y)
stmt_run_rises (Stmt-F.Empty at) p r = rises_pure _
stmt_run_rises (Stmt-F.Block at list) p r = blocked_rises (map denotation_of list) (senses_rise list p) r
stmt_run_rises (Stmt-F.Declare d) p r = rises_then (t.exec_declare d r) _ (declared_rises d r) (λ _. rises_pure Next)
stmt_run_rises (Stmt-F.Assign a) p r = rises_then (t.exec_assign a r) _ (assigned_rises a r) (λ _. rises_pure Next)
stmt_run_rises (Stmt-F.If at test first None) p r = rises_then (t.eval_test test r) _ (truth_rises test r) (λ b. rises_if b _ _ (scoped_rises (first.1 r) (p.0 r)) (rises_pure Next))
stmt_run_rises (Stmt-F.If at test first (Some second)) p r = rises_then (t.eval_test test r) _ (truth_rises test r) (λ b. rises_if b _ _ (scoped_rises (first.1 r) (p.0 r)) (scoped_rises (second.1 r) (p.1 r)))
stmt_run_rises (Stmt-F.While at test body) p r = looped_rises t.loop_bound (t.eval_test test r) (in_new_scope (body.1 r)) (truth_rises test r) (scoped_rises (body.1 r) (p r))
stmt_run_rises (Stmt-F.For at first test next body) p r = for_all_rises (t.exec_for_init first r) (t.eval_for_test test r) (t.exec_for_next next r) (body.1 r) (begun_rises first r) (goes_on_rises test r) (stepped_rises next r) (p r)
stmt_run_rises (Stmt-F.Return at value) p r = rises_then (t.initial_value value _ r) _ (first_value_rises value _ r) (λ v. rises_pure _)
stmt_run_rises (Stmt-F.Token at name ch) p r = named_rises name.text ch.1 p r
stmt_run_rises (Stmt-F.Chain ch passed) p r = ended_rises passed ch.1 p r

exec_rises : (y : Stmt) → T (exec y)
exec_rises = of_stmt OfG OfT OfC stage_run_rises stmt_run_rises (λ x p. stages_rise x.stages p)

execs_rise : (body : List Stmt) → EachOf T (map exec body)
execs_rise [] = tt
execs_rise (x ∷ xs) = (exec_rises x, execs_rise xs)

block_rises : (body : List Stmt) → T (t.exec_block body)
block_rises body = blocked_rises (map exec body) (execs_rise body)

-- ---- the bound never shows

turn_taken : (s : State) → After (λ (u : Unit {0}). λ t. (t.turns ≡ s.turns + 1) × (t.turns ≤ 100000)) (c.begin_turn s)
turn_taken s = when (λ (u : Unit {0}). λ t. (t.turns ≡ s.turns + 1) × (t.turns ≤ 100000)) (nat_lt s.turns 100000) _ _ (λ e. let low : s.turns < 100000 = ltb-true s.turns 100000 e in (refl, omega arith)) (λ e. tt)

same_then : {A B : Type 0} (x : OrTrap (A × State)) (f g : A × State → OrTrap (B × State)) → After (λ a t. f (a, t) ≡ g (a, t)) x → and_then x f ≡ and_then x g
same_then (Ok x) f g p = p
same_then (Err k) f g p = refl

after_same : (f : Flow) (a b : Eval Flow) (s : State) → a s ≡ b s → t.go_on_after f a s ≡ t.go_on_after f b s
after_same Next a b s e = e
after_same (Returned v) a b s e = refl
after_same Passed a b s e = refl

module _ (test : Eval Bool) (body : Eval Flow) (f : Rises test) (g : Rises body) where
  -- one test more, where the loop does the same after it
  step_same : (k n : ℕ) (s : State) → ((u : State) → s.turns + 1 ≤ u.turns → u.turns ≤ 100000 → t.bounded_loop n test body u ≡ t.bounded_loop k test body u) → t.bounded_loop (suc n) test body s ≡ t.bounded_loop (suc k) test body s
  unfolding t.bounded_loop
  step_same k n s again = same_then (test s) _ _ (after_more (λ (b : Bool). λ u. Rise s u) _ (test s) by_test (f.at s))
    where
      rest : ℕ → Eval Flow
      rest n = body >>= (λ w. t.go_on_after w (t.bounded_loop n test body))

      step : ℕ → Bool → Eval Flow
      step n b = if b then (c.begin_turn >> rest n) else pure Next

      by_test : (b : Bool) (u : State) → Rise s u → step n b u ≡ step k b u
      by_test false u p = refl
      by_test true u p =
          same_then (c.begin_turn u) _ _ (after_more (λ (x : Unit {0}). λ v. (v.turns ≡ u.turns + 1) × (v.turns ≤ 100000)) _ (c.begin_turn u) (λ x v q.
          same_then (body v) _ _ (after_more (λ (w : Flow). λ z. Rise v z) _ (body v) (λ w z o. after_same w (t.bounded_loop n test body) (t.bounded_loop k test body) z (again z (omega (arith, p.0, q.0, o.0)) (o.1 q.1))) (g.at v))) (turn_taken u))

  -- with k tests left, which are more than the turns that are left
  unbound : (k more : ℕ) (s : State) → s.turns ≤ 100000 → 100001 ≤ s.turns + k → t.bounded_loop (k + more) test body s ≡ t.bounded_loop k test body s
  unbound zero more s low many = absurd (omega arith)
  unbound (suc k) more s low many =
      let e : suc k + more ≡ suc (k + more) = omega arith in
      ap (λ n. t.bounded_loop n test body s) e ∙ step_same k (k + more) s (λ u a b. unbound k more u b (omega (arith, a, many)))

pub loops_stop : LoopsStopThemselves
loops_stop = record {
  while_loops = λ test body r s more low. unbound (t.eval_test test r) (in_new_scope (exec body r)) (truth_rises test r) (scoped_rises (exec body r) (exec_rises body r)) t.loop_bound more s low (omega arith);
  for_loops = λ test next body r s more low. unbound (t.eval_for_test test r) (t.for_turn (exec body r) (t.exec_for_next next r)) (goes_on_rises test r) (round_rises (exec body r) (t.exec_for_next next r) (exec_rises body r) (stepped_rises next r)) t.loop_bound more s low (omega arith);
  turns = λ body r s u f low e. (after_is (λ (f : Flow). λ u. Rise s u) (t.exec_block body r s) f u ((block_rises body r).at s) e).1 low;
}

-- ---- what a handler makes

module _ (p : Program) (c : Call) where
  abbrev MadeIn : OrTrap Effects → Type 0
  MadeIn (Ok e) = MakesFew c e
  MadeIn (Err k) = Unit {0}

  nothing_made : MakesFew c (h.no_effects c)
  nothing_made = record { few = (omega arith, omega arith, omega arith); serial = omega arith }

  ran_made : (o : Option Handler) → MadeIn (h.run_handler o p c)
  ran_made None = nothing_made
  ran_made (Some y) = at (t.exec_block y.body (h.handler_context p c) u) ((block_rises y.body (h.handler_context p c)).at u)
    where
      u : State
      u = h.initial_state (h.parameters p.behaviors y.params c.args) c.fields c.serial

      at : (o : OrTrap (Flow × State)) → After (λ (f : Flow). λ t. Rise u t) o → MadeIn (and_then o (λ z. Ok (h.effects_of z.0 z.1 c.fresh)))
      at (Ok z) r = record { few = r.2 (omega arith, omega arith, omega arith); serial = omega (arith, r.3) }
      at (Err k) r = tt

  ran_in_made : (o : Option Behavior) → MadeIn (h.run_in_behavior o p c)
  ran_in_made None = nothing_made
  ran_in_made (Some b) = ran_made (slice_get (handlers_of b) c.handler)

  moved_made : (o : Option Ual) → MadeIn (h.migrate_if_locator o c)
  moved_made None = tt
  moved_made (Some l) = nothing_made

  run_made : MadeIn (h.run_if_numbers_left p c)
  run_made = late (nat_lt 18446744073709547520 c.serial)
    where
      here : (b : Bool) → MadeIn (if b then h.run_migrate c else h.run_in_behavior (slice_get p.behaviors c.behavior) p c)
      here true = moved_made (ual_of (h.first_text c.args))
      here false = ran_in_made (slice_get p.behaviors c.behavior)

      late : (b : Bool) → MadeIn (if b then Err TooManyMessages else h.run_called p c)
      late true = tt
      late false = here (nat_eq c.handler 65535)

  done_made : (o : OrTrap Effects) (e : Effects) → MadeIn o → h.outcome_of o ≡ Done e → MakesFew c e
  done_made (Ok y) e l is = let same : y ≡ e = cc in subst (MakesFew c) same l
  done_made (Err k) e l is = absurd cc

pub handlers_few : HandlersMakeFew
unfolding h.handle
handlers_few p c e is = done_made p c (h.run_if_numbers_left p c) e (run_made p c) is
