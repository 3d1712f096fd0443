-- What message stages do.
use Rattle.std.proofs.Common.{◌≡◌, ℕ, ◌+◌, ◌≤◌, ◌<◌, pos, negsuc, Bool, true, false, if◌then◌else◌, List, [], ◌∷◌, ◌++◌, length, map, Option, Some, None, Ok, Err, refl, sym, subst, arith}
use Rattle.std.specs.Prelude.{nat_lt}
use Rattle.std.proofs.lemmas.Bool.{ltb-true, ltb-false}
use Rattle.sal_value.specs.declared.value.Value.{Value, out-Value, roll-Value, roll-out-Value}
use Rattle.sal_value.specs.declared.value.Value.TheOpen.{Value-F}
use Rattle.sal_value.specs.declared.value.Value.TheVariants as val
use Rattle.sal_ast.specs.declared.expression.Expr.{Expr}
use Rattle.sal_ast.specs.declared.statement.Send.{Send}
use Rattle.sal_ast.specs.declared.statement.Arg.{Arg}
use Rattle.sal_ast.specs.declared.statement.Arg.TheVariants as arg
use Rattle.sal_ast.specs.declared.statement.Aim.{Aim}
use Rattle.sal_ast.specs.declared.statement.Aim.TheVariants as aim
use Rattle.sal_ast.specs.declared.statement.Property.{Property}
use Rattle.sal_ast.specs.declared.statement.Property.TheVariants as property
use Rattle.sal_mail.specs.declared.fault.Trap.TheVariants.{TooManyMessages}
use Rattle.sal_mail.specs.declared.message.Target.{Target}
use Rattle.sal_mail.specs.declared.message.Target.TheVariants as target
use Rattle.sal_mail.specs.declared.message.Piece.{Piece}
use Rattle.sal_mail.specs.declared.message.Piece.TheVariants as piece
use Rattle.sal_mail.specs.declared.message.Reply.{Reply}
use Rattle.sal_mail.specs.declared.message.Reply.TheVariants.{Place}
use Rattle.sal_handler.specs.declared.state.End.{End}
use Rattle.sal_handler.specs.declared.state.End.TheVariants as end
use Rattle.sal_handler.specs.declared.state.EnclosingJoin.{EnclosingJoin}
use Rattle.sal_handler.specs.declared.state.State.{State}
use Rattle.sal_handler.specs.Evaluation.{and_then, Eval, ◌>>=◌, pure}
use Rattle.sal_handler.specs.Scopes as c
use Rattle.sal_handler.specs.Scopes.{Context}
use Rattle.sal_handler.specs.Expressions.{eval}
use Rattle.sal_handler.specs.Messages as m
use Rattle.sal_handler.specs.Statements.{StageDenotation}
use Rattle.sal_handler.specs.WellFormed.{EachOf}
use Rattle.sal_handler.proofs.After.{After}
use Rattle.sal_handler.proofs.Addresses.{each_append, each_front, each_back}
use Rattle.sal_effects.specs.Texts.{all_texts, expr_texts, aim_texts, arg_texts, property_texts, send_texts}
use Rattle.sal_effects.proofs.Changes.{PieceOk, TargetOk, SlotLow, PlaceLow, NumberLow, MatchesAim, Law, owed_to, slot_owed, slots_after, taken, ends}
use Rattle.sal_effects.proofs.Values as x
use Rattle.sal_effects.proofs.Values.{Able, Given, Gives, KeptIn}

-- ---- a number is taken, and a slot

pub number_or_trap : {B : Type 0} (Q : B → State → Type 0) (n : ℕ) (s : State) (g : ℕ → Eval B) → (n < 1024 → NumberLow s → After Q (g s.serial (record s { serial = s.serial + 1 }))) → After Q ((c.take_limited_serial n >>= g) s)
number_or_trap {B} Q n s g f = at (nat_lt n 1024) refl (nat_lt s.serial 18446744073709551615) refl
  where
    at : (a : Bool) → nat_lt n 1024 ≡ a → (b : Bool) → nat_lt s.serial 18446744073709551615 ≡ b
        → After Q (and_then {A = ℕ × State} (if a then (if b then Ok (s.serial, record s { serial = s.serial + 1 }) else Err TooManyMessages) else Err TooManyMessages) (λ z. g z.0 z.1))
    at true p true q = f (ltb-true n 1024 p) (ltb-true s.serial 18446744073709551615 q)
    at true p false q = tt
    at false p b q = tt

slot_then : {B : Type 0} (Q : B → State → Type 0) (is : List EnclosingJoin) (r : Context) (s : State) (g : Reply → Eval B) → (SlotLow is s → After Q (g (slot_owed is r s) (record s { serial = s.serial + 1; places = slots_after is s })))
    → After Q ((m.slot_reply is r >>= g) (record s { serial = s.serial + 1 }))
slot_then {B} Q [] r s g f = f tt
slot_then {B} Q (i ∷ is) r s g f = at (nat_lt s.places 4096) refl
  where
    at : (b : Bool) → nat_lt s.places 4096 ≡ b
        → After Q (and_then {A = Reply × State} (and_then {A = ℕ × State} (if b then Ok (s.places, record s { serial = s.serial + 1; places = s.places + 1 }) else Err TooManyMessages) (λ z. Ok (Place r.me i.join z.0, z.1))) (λ z. g z.0 z.1))
    at true e = f (ltb-true s.places 4096 e)
    at false e = tt

pub reply_then : {B : Type 0} (Q : B → State → Type 0) (last : End) (r : Context) (s : State) (g : Reply → Eval B) → (PlaceLow last r s → After Q (g (owed_to last r s) (taken last r s)))
    → After Q ((m.reply_of_stage last r s.serial >>= g) (record s { serial = s.serial + 1 }))
reply_then Q end.Nobody r s g f = f tt
reply_then Q end.Token r s g f = f tt
reply_then Q end.Place r s g f = slot_then Q r.within r s g f
reply_then Q end.Caller r s g f = f tt

-- ---- delays and targets

short : (n d : ℕ) → m.delay_in (Value-F.Int (pos n)) ≡ Some d → d ≤ 86400000
short n d e = at (nat_lt 86400000 n) refl e
  where
    at : (b : Bool) → nat_lt 86400000 n ≡ b → (if b then None else Some n) ≡ Some d → d ≤ 86400000
    at true l e = absurd cc
    at false l e = let same : n ≡ d = cc in omega (arith, same, ltb-false 86400000 n l)

short_in : (v : Value-F Value) (d : ℕ) → m.delay_in v ≡ Some d → d ≤ 86400000
short_in (Value-F.Int (pos n)) d e = short n d e
short_in (Value-F.Int (negsuc n)) d e = absurd cc
short_in (Value-F.Bool b) d e = absurd cc
short_in (Value-F.Str t) d e = absurd cc
short_in (Value-F.Array items) d e = absurd cc
short_in (Value-F.Ref n) d e = absurd cc
short_in Value-F.Null d e = absurd cc

delay_short : (o : Option Value) (d : ℕ) → m.delay_of o ≡ Some d → d ≤ 86400000
delay_short None d e = let same : 0 ≡ d = cc in omega (arith, same)
delay_short (Some v) d e = short_in (out-Value v) d e

module _ (law : Law) where
  abbrev V : Value → Type 0
  V = law.values.Holds

  abbrev L : List ℕ → Type 0
  L = law.values.Literal

  -- what stands for the target: none for the output
  abbrev AimOk : Aim → Option Value → Type 0
  AimOk (aim.Output at) None = Unit {0}
  AimOk (aim.Output at) (Some v) = ⊥
  AimOk aim.Own None = ⊥
  AimOk aim.Own (Some v) = V v
  AimOk (aim.Actor e) None = ⊥
  AimOk (aim.Actor e) (Some v) = V v

  aim_gives : (a : Aim) → EachOf L (aim_texts a) → (r : Context) → Able law r → Gives law r 0 (AimOk a) (m.eval_aim a r)
  aim_gives aim.Own g r able = x.gives_pure law r (AimOk aim.Own) (Some (val.Ref r.me)) able.me
  aim_gives (aim.Output at) g r able = x.gives_pure law r (AimOk (aim.Output at)) None tt
  aim_gives (aim.Actor e) g r able = x.gives_then law r 0 V (AimOk (aim.Actor e)) (eval e r) (λ v. pure (Some v)) (x.eval_gives law e g r able) (λ v q. x.gives_pure law r (AimOk (aim.Actor e)) (Some v) q)

  ref_in : (z : Value-F Value) (to : Target) → V (roll-Value z) → m.target_in z ≡ Some to → TargetOk law.values to
  ref_in (Value-F.Ref n) to h e = let same : target.Actor n ≡ to = cc in subst (TargetOk law.values) same (subst V (val.rolls-Ref n) h)
  ref_in (Value-F.Int n) to h e = absurd cc
  ref_in (Value-F.Bool b) to h e = absurd cc
  ref_in (Value-F.Str t) to h e = absurd cc
  ref_in (Value-F.Array items) to h e = absurd cc
  ref_in Value-F.Null to h e = absurd cc

  target_good : (a : Aim) (o : Option Value) (to : Target) → AimOk a o → m.target_of o ≡ Some to → TargetOk law.values to
  target_good (aim.Output at) None to h e = let same : target.Output ≡ to = cc in subst (TargetOk law.values) same tt
  target_good (aim.Output at) (Some v) to h e = absurd h
  target_good aim.Own None to h e = absurd h
  target_good aim.Own (Some v) to h e = ref_in (out-Value v) to (subst V (sym (roll-out-Value v)) h) e
  target_good (aim.Actor y) None to h e = absurd h
  target_good (aim.Actor y) (Some v) to h e = ref_in (out-Value v) to (subst V (sym (roll-out-Value v)) h) e

  abbrev IsActor : Target → Type 0
  IsActor (target.Actor n) = Unit {0}
  IsActor target.Output = ⊥

  actor_in : (z : Value-F Value) (to : Target) → m.target_in z ≡ Some to → IsActor to
  actor_in (Value-F.Ref n) to e = let same : target.Actor n ≡ to = cc in subst IsActor same tt
  actor_in (Value-F.Int n) to e = absurd cc
  actor_in (Value-F.Bool b) to e = absurd cc
  actor_in (Value-F.Str t) to e = absurd cc
  actor_in (Value-F.Array items) to e = absurd cc
  actor_in Value-F.Null to e = absurd cc

  own_matches : (to : Target) → IsActor to → MatchesAim aim.Own to
  own_matches (target.Actor n) h = tt
  own_matches target.Output h = h

  actor_matches : (y : Expr) (to : Target) → IsActor to → MatchesAim (aim.Actor y) to
  actor_matches y (target.Actor n) h = tt
  actor_matches y target.Output h = h

  target_matches : (a : Aim) (o : Option Value) (to : Target) → AimOk a o → m.target_of o ≡ Some to → MatchesAim a to
  target_matches (aim.Output at) None to h e = let same : target.Output ≡ to = cc in subst (MatchesAim (aim.Output at)) same tt
  target_matches (aim.Output at) (Some v) to h e = absurd h
  target_matches aim.Own None to h e = absurd h
  target_matches aim.Own (Some v) to h e = own_matches to (actor_in (out-Value v) to e)
  target_matches (aim.Actor y) None to h e = absurd h
  target_matches (aim.Actor y) (Some v) to h e = actor_matches y to (actor_in (out-Value v) to e)

  -- ---- arguments and delays

  abbrev P : Piece → Type 0
  P = PieceOk law.values

  piece_by_gives : (o : Option ℕ) (e : Expr) → EachOf L (expr_texts e) → (r : Context) → Able law r → Gives law r 0 P (m.piece_by o e r)
  piece_by_gives None e g r able = x.gives_then law r 0 V P (eval e r) (λ v. pure (piece.Known v)) (x.eval_gives law e g r able) (λ v q. x.gives_pure law r P (piece.Known v) q)
  piece_by_gives (Some n) e g r able = x.gives_pure law r P (piece.Token n) tt

  before_good : (o : Option ℕ) → P (m.piece_before o)
  before_good None = law.values.null
  before_good (Some n) = tt

  piece_gives : (a : Arg) → EachOf L (arg_texts a) → (r : Context) → Able law r → (before : Option ℕ) → Gives law r 0 P (m.piece_of a r before)
  piece_gives (arg.Token at) g r able before = x.gives_pure law r P (m.piece_before before) (before_good before)
  piece_gives (arg.Expr e) g r able before = record { at = λ s h. (piece_by_gives (m.token_of e s) e g r able).at s h }

  pieces_give : (as_ : List Arg) → EachOf L (all_texts (map arg_texts as_)) → (r : Context) → Able law r → (before : Option ℕ) (done : List Piece) → EachOf P done → Gives law r 0 (EachOf P) (m.eval_args as_ r before done)
  pieces_give [] g r able before done l = x.gives_pure law r (EachOf P) done l
  pieces_give (a ∷ more) g r able before done l =
      x.gives_then law r 0 P (EachOf P) (m.piece_of a r before) (λ y. m.eval_args more r before (done ++ y ∷ [])) (piece_gives a (each_front L (arg_texts a) (all_texts (map arg_texts more)) g) r able before) (λ y q.
      pieces_give more (each_back L (arg_texts a) (all_texts (map arg_texts more)) g) r able before (done ++ y ∷ []) (each_append P done (y ∷ []) l (q, tt)))

  abbrev Any : {A : Type 0} → A → Type 0
  Any a = Unit {0}

  delay_gives : (ps : List Property) → EachOf L (all_texts (map property_texts ps)) → (last : Option Value) (r : Context) → Able law r → Gives law r 0 (Any {A = Option Value}) (m.eval_delay ps last r)
  delay_gives [] g last r able = x.gives_pure law r (Any {A = Option Value}) last tt
  delay_gives (property.Delay at time ∷ more) g last r able =
      x.gives_then law r 0 V (Any {A = Option Value}) (eval time r) (λ v. m.eval_delay more (Some v) r) (x.eval_gives law time (each_front L (expr_texts time) (all_texts (map property_texts more)) g) r able) (λ v q.
      delay_gives more (each_back L (expr_texts time) (all_texts (map property_texts more)) g) (Some v) r able)
  delay_gives (property.WaitFor at names ∷ more) g last r able = delay_gives more g last r able

  -- ---- the stage

  valid_sends : (y : Send) (r : Context) (before : Option ℕ) (last : End) (to : Option Target) (args : List Piece) (delay : Option ℕ)
      → ((z : Target) → to ≡ Some z → TargetOk law.values z × MatchesAim y.aim z) → EachOf P args → ((d : ℕ) → delay ≡ Some d → d ≤ 86400000)
      → Gives law r (ends last) (Any {A = ℕ}) (m.send_if_valid y r before last to args delay)
  valid_sends y r before last None args delay t a d = record { at = λ s h. tt }
  valid_sends y r before last (Some to) args None t a d = record { at = λ s h. tt }
  valid_sends y r before last (Some to) args (Some delay) t a d = record {
    at = λ s h.
        number_or_trap (Given law r (ends last) (Any {A = ℕ}) s) (length s.messages) s (λ n. m.reply_of_stage last r n >>= (λ owes. m.send_message y r before to args delay n owes)) (λ few low.
        reply_then (Given law r (ends last) (Any {A = ℕ}) s) last r s (λ owes. m.send_message y r before to args delay s.serial owes) (λ place.
        (law.sends r y before last to args delay s (record { few = few; number = low; place = place; target = (t to refl).0; aim = (t to refl).1; pieces = a; wait = d delay refl; kept = h }), (record { locals = h.locals; fields = h.fields }, tt))));
  }

  -- what holds of every stage
  abbrev pub StageGives : StageDenotation → Type 0
  StageGives g = (r : Context) → Able law r → (before : Option ℕ) (last : End) → Gives law r (ends last) (x.Any law {A = ℕ}) (g r before last)

  pub message_gives : (y : Send) → EachOf L (send_texts y) → StageGives (m.message y)
  unfolding m.message
  message_gives y g r able before last =
      x.gives_then law r (ends last) (AimOk y.aim) (Any {A = ℕ}) (m.eval_aim y.aim r) _ (aim_gives y.aim (each_front L (aim_texts y.aim) (all_texts (map arg_texts y.args) ++ all_texts (map property_texts y.properties)) g) r able) (λ to t.
      x.gives_then law r (ends last) (EachOf P) (Any {A = ℕ}) (m.eval_args y.args r before []) _ (pieces_give y.args (each_front L (all_texts (map arg_texts y.args)) (all_texts (map property_texts y.properties)) behind) r able before [] tt) (λ args a.
      x.gives_then law r (ends last) (Any {A = Option Value}) (Any {A = ℕ}) (m.eval_delay y.properties None r) (λ delay. m.send_if_valid y r before last (m.target_of to) args (m.delay_of delay)) (delay_gives y.properties (each_back L (all_texts (map arg_texts y.args)) (all_texts (map property_texts y.properties)) behind) None r able) (λ delay q.
      valid_sends y r before last (m.target_of to) args (m.delay_of delay) (λ z e. (target_good y.aim to z t e, target_matches y.aim to z t e)) a (λ d e. delay_short delay d e))))
    where
      behind : EachOf L (all_texts (map arg_texts y.args) ++ all_texts (map property_texts y.properties))
      behind = each_back L (aim_texts y.aim) (all_texts (map arg_texts y.args) ++ all_texts (map property_texts y.properties)) g
