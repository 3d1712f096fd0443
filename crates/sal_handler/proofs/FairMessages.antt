-- Message stages keep the state sound.
use Rattle.std.proofs.Common.{◌≡◌, ℕ, zero, suc, ◌+◌, ◌≤◌, Bool, true, false, if◌then◌else◌, List, [], ◌∷◌, ◌++◌, length, Option, Some, None, Ok, Err, refl, sym, subst, arith, length-append}
use Rattle.std.specs.Prelude.{nat_lt, ◌==◌, slice_get}
use Rattle.std.specs.List.{list_any}
use Rattle.sal_value.specs.declared.value.Value.{Value}
use Rattle.sal_ast.specs.declared.program.Ident.{Ident}
use Rattle.sal_ast.specs.declared.expression.Expr.{Expr, out-Expr}
use Rattle.sal_ast.specs.declared.statement.Send.{Send}
use Rattle.sal_ast.specs.declared.statement.Arg.{Arg}
use Rattle.sal_ast.specs.declared.statement.Arg.TheVariants as arg
use Rattle.sal_ast.specs.declared.statement.Aim.{Aim}
use Rattle.sal_ast.specs.declared.statement.Aim.TheVariants as aim
use Rattle.sal_ast.specs.declared.statement.Property.{Property}
use Rattle.sal_ast.specs.declared.statement.Property.TheVariants as property
use Rattle.sal_mail.specs.declared.fault.Trap.TheVariants.{TooManyMessages, NullTarget, BadDelay}
use Rattle.sal_mail.specs.declared.message.Target.{Target}
use Rattle.sal_mail.specs.declared.message.Piece.{Piece}
use Rattle.sal_mail.specs.declared.message.Piece.TheVariants as piece
use Rattle.sal_mail.specs.declared.message.Reply.{Reply}
use Rattle.sal_mail.specs.declared.message.Reply.TheVariants.{Nobody, Tok, Place}
use Rattle.sal_mail.specs.declared.message.Message.{Message}
use Rattle.sal_mail.specs.ReplyKeys.{reply_key}
use Rattle.sal_handler.specs.declared.state.Content.{Content}
use Rattle.sal_handler.specs.declared.state.Content.TheVariants as held
use Rattle.sal_handler.specs.declared.state.Local.{Local}
use Rattle.sal_handler.specs.declared.state.End.{End}
use Rattle.sal_handler.specs.declared.state.End.TheVariants as end
use Rattle.sal_handler.specs.declared.state.EnclosingJoin.{EnclosingJoin}
use Rattle.sal_handler.specs.declared.state.State.{State}
use Rattle.sal_handler.specs.Evaluation.{OrTrap, and_then, Eval, ◌>>=◌, pure}
use Rattle.sal_handler.specs.Scopes as c
use Rattle.sal_handler.specs.Scopes.{Context}
use Rattle.sal_handler.specs.Expressions.{eval}
use Rattle.sal_handler.specs.Messages as m
use Rattle.sal_handler.specs.WellFormed.{EachOf, IsAmong, IsWithin, owes}
use Rattle.sal_handler.proofs.Induction.{IfAny}
use Rattle.sal_handler.proofs.Addresses.{each_append, each_more, owes_apart, place_place}
use Rattle.sal_handler.proofs.Lawful.{Lawful, lawful_null}
use Rattle.sal_handler.proofs.Sound as d
use Rattle.sal_handler.proofs.Sound.{IsGoodPiece, IsGoodMessage, IsGoodLocal, IsGoodInside, NotInnermost, Able}
use Rattle.sal_handler.proofs.FairExpressions as x

module _ (Asked : Type 0) (from : ℕ) (sizes : List ℕ) (width : ℕ) where
  abbrev Sound : Context → ℕ → State → Type 0
  Sound = d.Sound Asked from sizes width

  abbrev Fair : {A : Type 0} → Context → (A → ℕ) → (A → State → Type 0) → State → OrTrap (A × State) → Type 0
  Fair = d.FairAt Asked from sizes width

  abbrev Keeps : {A : Type 0} → Context → ℕ → (A → State → Type 0) → State → OrTrap (A × State) → Type 0
  Keeps {A} r p V s x = Fair r (λ (a : A). p) V s x

  abbrev Whatever : {A : Type 0} → A → State → Type 0
  Whatever a s = Unit {0}

  abbrev OfValue : Value → State → Type 0
  OfValue v s = Lawful Asked v

  -- ---- tokens

  pub get_each : {X : Type 0} (P : X → Type 0) (xs : List X) (i : ℕ) → EachOf P xs → IfAny P (slice_get xs i)
  get_each P [] i e = tt
  get_each P (x ∷ xs) zero e = e.0
  get_each P (x ∷ xs) (suc i) e = get_each P xs i e.1

  local_token : (to : ℕ) (o : Option Local) → IfAny (IsGoodLocal Asked from to) o → IfAny (IsWithin from to) (c.token_of_local o)
  local_token to None g = tt
  local_token to (Some l) g = at l.held g
    where
      at : (h : Content) → d.IsGoodHeld Asked from to h → IfAny (IsWithin from to) (c.token_in h)
      at (held.Value v) g = tt
      at (held.Token n) g = g

  token_at : (o : Option ℕ) (s : State) → EachOf (IsGoodLocal Asked from s.serial) s.locals → IfAny (IsWithin from s.serial) (c.token_at o s)
  token_at None s g = tt
  token_at (Some i) s g = local_token s.serial (slice_get s.locals i) (get_each (IsGoodLocal Asked from s.serial) s.locals i g)

  token_good : (name : List ℕ) (s : State) → EachOf (IsGoodLocal Asked from s.serial) s.locals → IfAny (IsWithin from s.serial) (c.token_named name s)
  token_good name s g = token_at (c.local_named name s.locals) s g

  by_name : (o : Option Ident) (s : State) → EachOf (IsGoodLocal Asked from s.serial) s.locals → IfAny (IsWithin from s.serial) (m.token_by o s)
  by_name None s g = tt
  by_name (Some name) s g = token_good name.text s g

  token_of_good : (e : Expr) (s : State) → EachOf (IsGoodLocal Asked from s.serial) s.locals → IfAny (IsWithin from s.serial) (m.token_of e s)
  unfolding m.token_of
  token_of_good e s g = by_name (m.name_alone (out-Expr e)) s g

  -- ---- target, arguments and delay

  aimed_fair : (a : Aim) (r : Context) (p : ℕ) → Able Asked from r → (s : State) → Sound r p s → Keeps r p (Whatever {A = Option Value}) s (m.eval_aim a r s)
  aimed_fair aim.Own r p able s h = d.fair_pure Asked from sizes width r (λ (a : Option Value). p) (Whatever {A = Option Value}) s _ h tt
  aimed_fair (aim.Output at) r p able s h = d.fair_pure Asked from sizes width r (λ (a : Option Value). p) (Whatever {A = Option Value}) s None h tt
  aimed_fair (aim.Actor e) r p able s h =
      x.keeps_then Asked from sizes width r p OfValue (λ (a : Option Value). p) (Whatever {A = Option Value}) s (eval e r) (λ v. pure (Some v)) (x.eval_fair Asked from sizes width e r p able s h) (λ v t m k q. d.fair_pure Asked from sizes width r (λ (a : Option Value). p) (Whatever {A = Option Value}) t (Some v) k tt)

  abbrev OfPiece : Piece → State → Type 0
  OfPiece y s = IsGoodPiece Asked from s.serial y

  piece_by_fair : (o : Option ℕ) (e : Expr) (r : Context) (p : ℕ) → Able Asked from r → (s : State) → Sound r p s → IfAny (IsWithin from s.serial) o → Keeps r p OfPiece s (m.piece_by o e r s)
  piece_by_fair None e r p able s h g =
      x.keeps_then Asked from sizes width r p OfValue (λ (a : Piece). p) OfPiece s (eval e r) (λ v. pure (piece.Known v)) (x.eval_fair Asked from sizes width e r p able s h) (λ v t m k q. d.fair_pure Asked from sizes width r (λ (a : Piece). p) OfPiece t (piece.Known v) k q)
  piece_by_fair (Some n) e r p able s h g = d.fair_pure Asked from sizes width r (λ (a : Piece). p) OfPiece s (piece.Token n) h g

  before_good : (o : Option ℕ) (s : State) → IfAny (IsWithin from s.serial) o → OfPiece (m.piece_before o) s
  before_good None s g = (lawful_null Asked)
  before_good (Some n) s g = g

  piece_fair : (a : Arg) (r : Context) (before : Option ℕ) (p : ℕ) → Able Asked from r → (s : State) → Sound r p s → IfAny (IsWithin from s.serial) before → Keeps r p OfPiece s (m.piece_of a r before s)
  piece_fair (arg.Token at) r before p able s h g = d.fair_pure Asked from sizes width r (λ (a : Piece). p) OfPiece s _ h (before_good before s g)
  piece_fair (arg.Expr e) r before p able s h g = piece_by_fair (m.token_of e s) e r p able s h (token_of_good e s h.locals)

  abbrev OfPieces : ℕ → List Piece → State → Type 0
  OfPieces n ps s = EachOf (IsGoodPiece Asked from s.serial) ps × (length ps ≡ n)

  pieces_fair : (args : List Arg) (r : Context) (before : Option ℕ) (p : ℕ) → Able Asked from r → (done : List Piece) (s : State) → Sound r p s → IfAny (IsWithin from s.serial) before → EachOf (IsGoodPiece Asked from s.serial) done →
      Keeps r p (OfPieces (length done + length args)) s (m.eval_args args r before done s)
  pieces_fair [] r before p able done s h g l = d.fair_pure Asked from sizes width r (λ (a : List Piece). p) (OfPieces (length done + 0)) s done h (l, omega arith)
  pieces_fair (a ∷ more) r before p able done s h g l =
      x.keeps_then Asked from sizes width r p OfPiece (λ (a : List Piece). p) (OfPieces (length done + length (a ∷ more))) s (m.piece_of a r before) (λ y. m.eval_args more r before (done ++ y ∷ [])) (piece_fair a r before p able s h g) (λ y t mv k q.
      let same : length (done ++ y ∷ []) + length more ≡ length done + length (a ∷ more) = omega (arith, length-append done (y ∷ [])) in
      subst (λ n. Keeps r p (OfPieces n) t (m.eval_args more r before (done ++ y ∷ []) t)) same
      (pieces_fair more r before p able (done ++ y ∷ []) t k (d.if_more Asked from sizes width s.serial t.serial before mv.serial g)
      (each_append (IsGoodPiece Asked from t.serial) done (y ∷ []) (each_more (IsGoodPiece Asked from s.serial) (IsGoodPiece Asked from t.serial) done (d.piece_more Asked from sizes width s.serial t.serial mv.serial) l) (q, tt))))

  delays_fair : (ps : List Property) (last : Option Value) (r : Context) (p : ℕ) → Able Asked from r → (s : State) → Sound r p s → Keeps r p (Whatever {A = Option Value}) s (m.eval_delay ps last r s)
  delays_fair [] last r p able s h = d.fair_pure Asked from sizes width r (λ (a : Option Value). p) (Whatever {A = Option Value}) s last h tt
  delays_fair (property.Delay at time ∷ more) last r p able s h =
      x.keeps_then Asked from sizes width r p OfValue (λ (a : Option Value). p) (Whatever {A = Option Value}) s (eval time r) (λ v. m.eval_delay more (Some v) r) (x.eval_fair Asked from sizes width time r p able s h) (λ v t mv k q. delays_fair more (Some v) r p able t k)
  delays_fair (property.WaitFor at names ∷ more) last r p able s h = delays_fair more last r p able s h

  -- ---- what it waits for

  one_good : (to : ℕ) (done : List ℕ) (n : ℕ) → EachOf (IsWithin from to) done → IsWithin from to n → EachOf (IsWithin from to) (m.add_if_new done n)
  one_good to done n l w = at (list_any (λ k. k == n) done)
    where
      at : (b : Bool) → EachOf (IsWithin from to) (if b then done else done ++ n ∷ [])
      at true = l
      at false = each_append (IsWithin from to) done (n ∷ []) l (w, tt)

  firsts_good : (to : ℕ) (done ns : List ℕ) → EachOf (IsWithin from to) done → EachOf (IsWithin from to) ns → EachOf (IsWithin from to) (m.add_new done ns)
  firsts_good to done [] l w = l
  firsts_good to done (n ∷ ns) l w = firsts_good to (m.add_if_new done n) ns (one_good to done n l w.0) w.1

  any_good : (to : ℕ) (o : Option ℕ) → IfAny (IsWithin from to) o → EachOf (IsWithin from to) (m.option_serials o)
  any_good to None g = tt
  any_good to (Some n) g = (g, tt)

  waits_good : (names : List Ident) (s : State) → EachOf (IsGoodLocal Asked from s.serial) s.locals → EachOf (IsWithin from s.serial) (m.token_serials names s)
  waits_good [] s g = tt
  waits_good (name ∷ names) s g = each_append (IsWithin from s.serial) (m.option_serials (c.token_named name.text s)) (m.token_serials names s) (any_good s.serial (c.token_named name.text s) (token_good name.text s g)) (waits_good names s g)

  waited_good : (ps : List Property) (s : State) → EachOf (IsGoodLocal Asked from s.serial) s.locals → EachOf (IsWithin from s.serial) (m.waitfor_serials ps s)
  waited_good [] s g = tt
  waited_good (property.Delay at time ∷ more) s g = waited_good more s g
  waited_good (property.WaitFor at names ∷ more) s g = each_append (IsWithin from s.serial) (m.token_serials names s) (m.waitfor_serials more s) (waits_good names s g) (waited_good more s g)

  befores_good : (to : ℕ) (is : List EnclosingJoin) → EachOf (IsGoodInside from to) is → EachOf (IsWithin from to) (m.serials_before_joins is)
  befores_good to [] g = tt
  befores_good to (i ∷ is) g = each_append (IsWithin from to) (m.option_serials i.before) (m.serials_before_joins is) (any_good to i.before g.0.1) (befores_good to is g.1)

  after_good : (ps : List Property) (before : Option ℕ) (is : List EnclosingJoin) (s : State) → EachOf (IsGoodLocal Asked from s.serial) s.locals → IfAny (IsWithin from s.serial) before → EachOf (IsGoodInside from s.serial) is →
      EachOf (IsWithin from s.serial) (m.after_of ps before is s)
  unfolding m.after_of
  after_good ps before is s g b i =
      firsts_good s.serial (m.add_new (m.add_new [] (m.waitfor_serials ps s)) (m.option_serials before)) (m.serials_before_joins is)
      (firsts_good s.serial (m.add_new [] (m.waitfor_serials ps s)) (m.option_serials before) (firsts_good s.serial [] (m.waitfor_serials ps s) tt (waited_good ps s g)) (any_good s.serial before b)) (befores_good s.serial is i)

  -- ---- to whom the reply is owed

  -- whether the handled reply is passed on, as a number more
  abbrev pub exit_end : ℕ → End → ℕ
  exit_end p end.Nobody = p
  exit_end p end.Token = p
  exit_end p end.Place = p
  exit_end p end.Caller = p + 1

  abbrev pub LastOk : ℕ → End → Type 0
  LastOk p end.Nobody = Unit {0}
  LastOk p end.Token = Unit {0}
  LastOk p end.Place = Unit {0}
  LastOk p end.Caller = p ≡ 0

  abbrev OfOwed : Context → ℕ → ℕ → ℕ → Reply → State → Type 0
  OfOwed r p q n o s = d.Owing Asked from sizes width r p q s o × d.Fresh Asked from sizes width r n s

  fresh_place : (r : Context) (n : ℕ) (s : State) → d.Fresh Asked from sizes width r n s → d.Fresh Asked from sizes width r n (record s { places = s.places + 1 })
  fresh_place r n s f = record { within = f.within; unused = f.unused; token = f.token; places = f.places; other = f.other }

  not_last : (r : Context) (j k : ℕ) (t : State) (places : ℕ) → t.places ≡ places + 1 → t.places ≤ k → owes (reply_key (Place r.me j k)) (Place r.me j places) ≡ 0
  not_last r j k t places e l = owes_apart (reply_key (Place r.me j k)) (Place r.me j places) (λ q. let same = (place_place r.me r.me j k j places q).0 in absurd (omega (arith, same, e, l)))

  place_fair : (is : List EnclosingJoin) (r : Context) (p n : ℕ) → r.within ≡ is → Able Asked from r → (s : State) → Sound r p s → d.Fresh Asked from sizes width r n s → Keeps r p (OfOwed r p p n) s (m.slot_reply is r s)
  place_fair [] r p n e able s h f = d.fair_pure Asked from sizes width r (λ (a : Reply). p) (OfOwed r p p n) s Nobody h (d.owing_nobody Asked from sizes width r p s h, f)
  place_fair (i ∷ is) r p n e able s h f = at (nat_lt s.places 4096)
    where
      within : IsWithin from s.serial i.join
      within = (subst (λ l. EachOf (IsGoodInside from s.serial) l) e h.within).0.0

      unowed : d.owed_in (reply_key (Place r.me i.join s.places)) s ≡ 0
      unowed = (subst (λ l. d.NextPlaces Asked from sizes width l r.me s) e h.next_places) s.places (omega arith)

      other : (k : ℕ) → NotInnermost k r.within → k ≡ i.join → ⊥
      other k w = subst (λ l. NotInnermost k l) e w

      next : (t : State) → t.places ≡ s.places + 1 → d.NextOwes Asked from sizes width r.within r.me t (Place r.me i.join s.places)
      next t same = subst (λ l. d.NextOwes Asked from sizes width l r.me t (Place r.me i.join s.places)) (sym e) (λ k l. not_last r i.join k t s.places same l)

      after : State
      after = record s { places = s.places + 1 }

      at : (b : Bool) → Keeps r p (OfOwed r p p n) s (and_then {A = ℕ × State} (if b then Ok (s.places, record s { places = s.places + 1 }) else Err TooManyMessages) (λ z. Ok (Place r.me i.join z.0, z.1)))
      at true = record { holds = (record { sound = d.sound_place Asked from sizes width r p s h; moves = d.moves_quiet Asked from sizes width r s (record s { places = s.places + 1 }) (omega arith) refl (λ a. refl) }, (d.owing_place Asked from sizes width r p s i.join able h within unowed other next, fresh_place r n s f)) }
      at false = d.fair_err Asked from sizes width r (λ (a : Reply). p) (OfOwed r p p n) s TooManyMessages

  pub owed_fair : (last : End) (r : Context) (p n : ℕ) → LastOk p last → Able Asked from r → (s : State) → Sound r p s → d.Fresh Asked from sizes width r n s → Keeps r p (OfOwed r p (exit_end p last) n) s (m.reply_of_stage last r n s)
  owed_fair end.Nobody r p n ok able s h f = d.fair_pure Asked from sizes width r (λ (a : Reply). p) (OfOwed r p p n) s Nobody h (d.owing_nobody Asked from sizes width r p s h, f)
  owed_fair end.Token r p n ok able s h f = d.fair_pure Asked from sizes width r (λ (a : Reply). p) (OfOwed r p p n) s (Tok r.me n) h (d.owing_token Asked from sizes width r p s n able h f, f)
  owed_fair end.Place r p n ok able s h f = place_fair r.within r p n refl able s h f
  owed_fair end.Caller r p n ok able s h f = d.fair_pure Asked from sizes width r (λ (a : Reply). p) (OfOwed r p (p + 1) n) s r.reply h (by_zero p ok h, f)
    where
      by_zero : (p : ℕ) → p ≡ 0 → Sound r p s → d.Owing Asked from sizes width r p (p + 1) s r.reply
      by_zero p e h = subst (λ q. d.Owing Asked from sizes width r q (q + 1) s r.reply) (sym e) (d.owing_caller Asked from sizes width r s able (subst (λ q. Sound r q s) e h))

  -- ---- the stage

  abbrev pub OfStageNumber : ℕ → State → Type 0
  OfStageNumber n s = IsWithin from s.serial n

  addressed_fair : (y : Send) (r : Context) (before : Option ℕ) (last : End) (to : Option Target) (args : List Piece) (delay : Option ℕ) (p : ℕ) → IsAmong (length args) sizes → LastOk p last → Able Asked from r → (s : State) → Sound r p s →
      IfAny (IsWithin from s.serial) before → EachOf (IsGoodPiece Asked from s.serial) args → Fair r (λ (n : ℕ). exit_end p last) OfStageNumber s (m.send_if_valid y r before last to args delay s)
  addressed_fair y r before last None args delay p few ok able s h g l = d.fair_err Asked from sizes width r (λ (n : ℕ). exit_end p last) OfStageNumber s NullTarget
  addressed_fair y r before last (Some to) args None p few ok able s h g l = d.fair_err Asked from sizes width r (λ (n : ℕ). exit_end p last) OfStageNumber s BadDelay
  addressed_fair y r before last (Some to) args (Some delay) p few ok able s h g l =
      x.keeps_then Asked from sizes width r p (x.OfNumber Asked from sizes width r) (λ (n : ℕ). exit_end p last) OfStageNumber s m.take_message_serial (λ n. m.reply_of_stage last r n >>= (λ owes. m.send_message y r before to args delay n owes)) (x.counted_fair Asked from sizes width (length s.messages) r p s h) (λ n t mv k f.
      x.keeps_then Asked from sizes width r p (OfOwed r p (exit_end p last) n) (λ (n : ℕ). exit_end p last) OfStageNumber t (m.reply_of_stage last r n) (λ owes. m.send_message y r before to args delay n owes) (owed_fair last r p n ok able t k f) (λ o u nv j z.
      let it : Message = m.message_with y r before to args delay n o u in
      let rise : s.serial ≤ u.serial = omega (arith, mv.serial, nv.serial) in
      let good : IsGoodMessage Asked r.me r.reply from u.serial sizes it = record {
        maker = refl;
        args = each_more (IsGoodPiece Asked from s.serial) (IsGoodPiece Asked from u.serial) args (d.piece_more Asked from sizes width s.serial u.serial rise) l;
        size = few;
        after = after_good y.properties before r.within u j.locals (d.if_more Asked from sizes width s.serial u.serial before rise g) j.within;
        reply = z.0.well;
      } in
      record { holds = (record { sound = d.sound_message Asked from sizes width r p (exit_end p last) u it j z.1 z.0 good; moves = d.moves_message Asked from sizes width r p (exit_end p last) u it z.0 }, z.1.within) }))

  -- what holds of every stage
  abbrev pub StageFair : (Context → Option ℕ → End → Eval ℕ) → Type 0
  StageFair g = (r : Context) (p : ℕ) (before : Option ℕ) (last : End) → LastOk p last → Able Asked from r → (s : State) → Sound r p s → IfAny (IsWithin from s.serial) before → Fair r (λ (n : ℕ). exit_end p last) OfStageNumber s (g r before last s)

  pub message_fair : (y : Send) → IsAmong (length y.args) sizes → StageFair (m.message y)
  unfolding m.message
  message_fair y few r p before last ok able s h g =
      x.keeps_then Asked from sizes width r p (Whatever {A = Option Value}) (λ (n : ℕ). exit_end p last) OfStageNumber s (m.eval_aim y.aim r) _ (aimed_fair y.aim r p able s h) (λ to t1 m1 k1 q1.
      x.keeps_then Asked from sizes width r p (OfPieces (length y.args)) (λ (n : ℕ). exit_end p last) OfStageNumber t1 (m.eval_args y.args r before []) _ (all_pieces t1 k1 (d.if_more Asked from sizes width s.serial t1.serial before m1.serial g)) (λ args t2 m2 k2 l.
      x.keeps_then Asked from sizes width r p (Whatever {A = Option Value}) (λ (n : ℕ). exit_end p last) OfStageNumber t2 (m.eval_delay y.properties None r) _ (delays_fair y.properties None r p able t2 k2) (λ delay t3 m3 k3 q3.
      let e : length args ≡ length y.args = l.1 in
      addressed_fair y r before last (m.target_of to) args (m.delay_of delay) p (subst (λ n. IsAmong n sizes) (sym e) few) ok able t3 k3
      (d.if_more Asked from sizes width s.serial t3.serial before (omega (arith, m1.serial, m2.serial, m3.serial)) g)
      (each_more (IsGoodPiece Asked from t2.serial) (IsGoodPiece Asked from t3.serial) args (d.piece_more Asked from sizes width t2.serial t3.serial m3.serial) l.0))))
    where
      all_pieces : (t : State) → Sound r p t → IfAny (IsWithin from t.serial) before → Keeps r p (OfPieces (length y.args)) t (m.eval_args y.args r before [] t)
      all_pieces t k g =
          let same : 0 + length y.args ≡ length y.args = omega arith in
          subst (λ n. Keeps r p (OfPieces n) t (m.eval_args y.args r before [] t)) same (pieces_fair y.args r before p able [] t k g tt)
