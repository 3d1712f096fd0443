-- Chains and joins keep the state sound.
use Rattle.std.proofs.Common.{◌≡◌, ℕ, ◌+◌, ◌≤◌, ◌<◌, Bool, true, false, if◌then◌else◌, List, [], ◌∷◌, ◌++◌, length, Option, Some, None, Ok, Err, refl, sym, ap, subst, ◌∙◌, arith, append_assoc}
use Rattle.std.specs.Prelude.{slice_set, replicate, nat_lt}
use Rattle.sal_mail.specs.declared.fault.Trap.TheVariants.{TooManyMessages}
use Rattle.std.proofs.Math.Seq.{set-append_seam}
use Rattle.sal_mail.specs.declared.message.Reply.{Reply}
use Rattle.sal_mail.specs.declared.message.Reply.TheVariants.{Tok, Place}
use Rattle.sal_mail.specs.declared.message.Join.{Join}
use Rattle.sal_mail.specs.ReplyKeys.{reply_key}
use Rattle.sal_handler.specs.declared.state.End.{End}
use Rattle.sal_handler.specs.declared.state.End.TheVariants as end
use Rattle.sal_handler.specs.declared.state.Flow.{Flow}
use Rattle.sal_handler.specs.declared.state.Flow.TheVariants.{Next, Returned, Passed}
use Rattle.sal_handler.specs.declared.state.EnclosingJoin.{EnclosingJoin}
use Rattle.sal_handler.specs.declared.state.State.{State}
use Rattle.sal_handler.specs.Evaluation.{OrTrap, ◌>>=◌}
use Rattle.sal_handler.specs.Scopes.{Context}
use Rattle.sal_handler.specs.Messages as m
use Rattle.sal_handler.specs.Statements as t
use Rattle.sal_handler.specs.Statements.{StageDenotation, StmtDenotation}
use Rattle.sal_handler.specs.WellFormed.{EachOf, total, one_if_same, IsWithin, owes}
use Rattle.sal_handler.proofs.Lawful.{Lawful}
use Rattle.sal_handler.proofs.After.{After, then_after, after_more, after_both}
use Rattle.sal_handler.proofs.Induction.{IfAny}
use Rattle.sal_handler.proofs.Addresses.{total_append, each_append, each_front, each_back}
use Rattle.sal_handler.proofs.Sound as d
use Rattle.sal_handler.proofs.Sound.{IsGoodInside, NotInnermost, Able}
use Rattle.sal_handler.proofs.FairExpressions as x
use Rattle.sal_handler.proofs.FairMessages as y

module _ (Asked : Type 0) (from : ℕ) (sizes : List ℕ) (width : ℕ) where
  abbrev Sound : Context → ℕ → State → Type 0
  Sound = d.Sound Asked from sizes width

  abbrev Fair : {A : Type 0} → Context → (A → ℕ) → (A → State → Type 0) → State → OrTrap (A × State) → Type 0
  Fair = d.FairAt Asked from sizes width

  -- ---- how a statement ends

  -- whether it passed the handled reply on, as a number more
  abbrev pub exit : ℕ → Flow → ℕ
  exit p Next = p
  exit p (Returned v) = p
  exit p Passed = p + 1

  -- what it returns is legal, and nothing in a join passes the reply on
  abbrev pub FlowOk : Context → Flow → State → Type 0
  FlowOk r Next s = Unit {0}
  FlowOk r (Returned v) s = Lawful Asked v
  FlowOk r Passed s = r.within ≡ []

  -- outside joins the reply wasn't passed on yet
  abbrev pub EntryOk : Context → ℕ → Type 0
  EntryOk r p = r.within ≡ [] → p ≡ 0

  -- what holds of every statement
  abbrev pub RunFair : StmtDenotation → Type 0
  RunFair f = (r : Context) (p : ℕ) → EntryOk r p → Able Asked from r → (s : State) → Sound r p s → Fair r (exit p) (FlowOk r) s (f r s)

  -- ---- chains

  abbrev OfLast : Option ℕ → State → Type 0
  OfLast o s = IfAny (IsWithin from s.serial) o

  more_of : (p : ℕ) (last : End) → p ≤ y.exit_end Asked from sizes width p last
  more_of p end.Nobody = omega arith
  more_of p end.Token = omega arith
  more_of p end.Place = omega arith
  more_of p end.Caller = omega arith

  pub chain_fair : (gs : List StageDenotation) → EachOf (y.StageFair Asked from sizes width) gs → (r : Context) (p : ℕ) (before : Option ℕ) (last : End) → y.LastOk Asked from sizes width p last → Able Asked from r → (s : State) → Sound r p s → OfLast before s →
      Fair r (λ (o : Option ℕ). y.exit_end Asked from sizes width p last) OfLast s (t.chain gs r before last s)
  chain_fair [] f r p before last ok able s h g = d.fair_pure Asked from sizes width r (λ (o : Option ℕ). y.exit_end Asked from sizes width p last) OfLast s before (d.sound_more Asked from sizes width r p (y.exit_end Asked from sizes width p last) s (more_of p last) h) g
  chain_fair (k ∷ []) f r p before last ok able s h g =
      d.fair_then Asked from sizes width r (λ (n : ℕ). y.exit_end Asked from sizes width p last) (y.OfStageNumber Asked from sizes width) (λ (o : Option ℕ). y.exit_end Asked from sizes width p last) OfLast s (k r before last s) (λ n. t.chain [] r (Some n) last) (f.0 r p before last ok able s h g) (λ n u mv j z.
      d.fair_pure Asked from sizes width r (λ (o : Option ℕ). y.exit_end Asked from sizes width p last) OfLast u (Some n) j z)
  chain_fair (k ∷ l ∷ more) f r p before last ok able s h g =
      d.fair_then Asked from sizes width r (λ (n : ℕ). p) (y.OfStageNumber Asked from sizes width) (λ (o : Option ℕ). y.exit_end Asked from sizes width p last) OfLast s (k r before end.Token s) (λ n. t.chain (l ∷ more) r (Some n) last) (f.0 r p before end.Token tt able s h g) (λ n u mv j z.
      chain_fair (l ∷ more) f.1 r p (Some n) last ok able u j z)

  -- ---- joins

  -- a join stands open
  abbrev with_join : Join → State → State
  with_join j s = record s { places = 0; joins = s.joins ++ j ∷ [] }

  join_taken : (j : Join) (s : State) (k : ℕ) → d.taken_in k (with_join j s) ≡ d.taken_in k s + one_if_same k j.number
  join_taken j s k = omega (arith, total_append (λ j. one_if_same k j.number) s.joins (j ∷ []))

  join_owed : (j : Join) (s : State) (a : List ℕ) → d.owed_in a (with_join j s) ≡ d.owed_in a s + owes a j.reply
  join_owed j s a = omega (arith, total_append (λ j. owes a j.reply) s.joins (j ∷ []))

  sound_open : (r : Context) (p q : ℕ) (s : State) (j : Join) (before : Option ℕ) → Sound r p s → d.Fresh Asked from sizes width r j.number s → d.Owing Asked from sizes width r p q s j.reply → OfLast before s → Sound (t.within_join j.number before r) q (with_join j s)
  sound_open r p q s j before h f o g =
      let added = d.number_added Asked from sizes width r p s (with_join j s) j.number h f (join_taken j s) in
      record {
        low = h.low;
        once = added.once;
        below = added.below;
        above = added.above;
        owed_once = λ a some. omega (arith, join_owed j s (reply_key a), o.once a some);
        new_tokens = λ k l. omega (arith, join_owed j s (reply_key (Tok r.me k)), h.new_tokens k l, o.tokens k l);
        new_places = λ k i l. omega (arith, join_owed j s (reply_key (Place r.me k i)), h.new_places k i l, o.new_places k i l);
        next_places = λ k l. omega (arith, join_owed j s (reply_key (Place r.me j.number k)), f.places k, o.places j.number k f.within.0 f.other);
        caller = λ some. omega (arith, join_owed j s (reply_key r.reply), o.caller some);
        within = ((f.within, g), h.within);
        locals = h.locals;
        messages = h.messages;
        joins = each_append (λ j. d.OwedWell Asked from sizes width r s.serial j.reply) s.joins (j ∷ []) h.joins (o.well, tt);
        names = h.names;
        actors = h.actors;
        creations = h.creations;
        fields = h.fields;
        count = h.count;
      }

  -- what a join leaves, with its number
  pub record Joined (r : Context) (q n : ℕ) (s u : State) : Type 0 where
    pub sound : Sound r q u
    pub number : IsWithin from u.serial n
    pub serial : s.serial ≤ u.serial
    pub joins : (more : List Join) × (u.joins ≡ s.joins ++ more)
    pub places : (k i : ℕ) → from ≤ k → k < s.serial → (k ≡ n → ⊥) → NotInnermost k r.within → d.owed_in (reply_key (Place r.me k i)) u ≡ d.owed_in (reply_key (Place r.me k i)) s

  -- a join that stood open is closed: what it is numbered and owes stays
  module _ (r : Context) (p q : ℕ) (s b : State) (open_one shut : Join) (before : Option ℕ) (h : Sound r p s) (f : d.Fresh Asked from sizes width r open_one.number s) (o : d.Owing Asked from sizes width r p q s open_one.reply)
      (number : shut.number ≡ open_one.number) (reply : shut.reply ≡ open_one.reply) (k : Sound (t.within_join open_one.number before r) q b) (mv : d.Moves Asked from sizes width (t.within_join open_one.number before r) (with_join open_one s) b) where
    abbrev more : List Join
    more = mv.joins.0

    abbrev left : State
    left = record b { places = s.places; joins = slice_set b.joins (length s.joins) shut }

    stood : b.joins ≡ s.joins ++ open_one ∷ more
    stood = mv.joins.1 ∙ append_assoc s.joins (open_one ∷ []) more

    stands : left.joins ≡ s.joins ++ shut ∷ more
    stands = ap (λ l. slice_set l (length s.joins) shut) stood ∙ set-append_seam s.joins open_one more shut

    same_total : (g : Join → ℕ) → g shut ≡ g open_one → total g left.joins ≡ total g b.joins
    same_total g e =
        let x : total g left.joins ≡ total g (s.joins ++ shut ∷ more) = ap (total g) stands in
        let z : total g b.joins ≡ total g (s.joins ++ open_one ∷ more) = ap (total g) stood in
        omega (arith, x, z, e, total_append g s.joins (shut ∷ more), total_append g s.joins (open_one ∷ more))

    same_taken : (k : ℕ) → d.taken_in k left ≡ d.taken_in k b
    same_taken k = omega (arith, same_total (λ j. one_if_same k j.number) (ap (one_if_same k) number))

    same_owed : (a : List ℕ) → d.owed_in a left ≡ d.owed_in a b
    same_owed a = omega (arith, same_total (λ j. owes a j.reply) (ap (owes a) reply))

    next_left : (is : List EnclosingJoin) → r.within ≡ is → EachOf (IsGoodInside from s.serial) is → d.NextPlaces Asked from sizes width is r.me s → d.NextOwes Asked from sizes width is r.me s open_one.reply → NotInnermost open_one.number is → d.NextPlaces Asked from sizes width is r.me left
    next_left [] e w n z x = tt
    next_left (i ∷ is) e w n z x = λ k l.
        let a : List ℕ = reply_key (Place r.me i.join k) in
        omega (arith, same_owed a, mv.places i.join k w.0.0.0 w.0.0.1 (λ same. x (sym same)), join_owed open_one s a, n k l, z k l)

    each_left : EachOf (λ j. d.OwedWell Asked from sizes width r b.serial j.reply) left.joins
    each_left =
        let good : EachOf (λ j. d.OwedWell Asked from sizes width r b.serial j.reply) (s.joins ++ open_one ∷ more) = subst (EachOf (λ j. d.OwedWell Asked from sizes width r b.serial j.reply)) stood k.joins in
        let behind = each_back (λ j. d.OwedWell Asked from sizes width r b.serial j.reply) s.joins (open_one ∷ more) good in
        subst (EachOf (λ j. d.OwedWell Asked from sizes width r b.serial j.reply)) (sym stands)
        (each_append (λ j. d.OwedWell Asked from sizes width r b.serial j.reply) s.joins (shut ∷ more) (each_front (λ j. d.OwedWell Asked from sizes width r b.serial j.reply) s.joins (open_one ∷ more) good)
        (subst (d.OwedWell Asked from sizes width r b.serial) (sym reply) behind.0, behind.1))

    sound_left : Sound r q left
    sound_left = record {
      low = k.low;
      once = λ n. omega (arith, same_taken n, k.once n);
      below = λ n l. omega (arith, same_taken n, k.below n l);
      above = λ n l. omega (arith, same_taken n, k.above n l);
      owed_once = λ a some. omega (arith, same_owed (reply_key a), k.owed_once a some);
      new_tokens = λ n l. omega (arith, same_owed (reply_key (Tok r.me n)), k.new_tokens n l);
      new_places = λ n i l. omega (arith, same_owed (reply_key (Place r.me n i)), k.new_places n i l);
      next_places = next_left r.within refl h.within h.next_places o.next_places f.other;
      caller = λ some. omega (arith, same_owed (reply_key r.reply), k.caller some);
      within = k.within.1;
      locals = k.locals;
      messages = k.messages;
      joins = each_left;
      names = k.names;
      actors = k.actors;
      creations = k.creations;
      fields = k.fields;
      count = k.count;
    }

    pub joined_left : Joined r q open_one.number s left
    joined_left = record {
      sound = sound_left;
      number = (f.within.0, omega (arith, f.within.1, mv.serial));
      serial = mv.serial;
      joins = (shut ∷ more, stands);
      places = λ n i a c other in_none. omega (arith, same_owed (reply_key (Place r.me n i)), mv.places n i a c other, join_owed open_one s (reply_key (Place r.me n i)), o.places n i a in_none);
    }

  joined_fair : (void : Bool) (block : StmtDenotation) → RunFair block → (r : Context) (p q n : ℕ) (before : Option ℕ) (owes_to : Reply) → Able Asked from r → (s : State) → Sound r p s → d.Fresh Asked from sizes width r n s → d.Owing Asked from sizes width r p q s owes_to → OfLast before s →
      After (λ k u. (k ≡ n) × Joined r q n s u) (t.exec_join void block r before n owes_to s)
  joined_fair void block fair r p q n before owes_to able s h f o g =
      then_after (λ (e : Flow). λ b. d.Reach Asked from sizes width (t.within_join n before r) (exit q e) (with_join one s) b × FlowOk (t.within_join n before r) e b) (λ (k : ℕ). λ u. (k ≡ n) × Joined r q n s u)
      (block (t.within_join n before r) (with_join one s)) (λ e b. Ok (n, t.close_join (length s.joins) n void owes_to s.places b)) inner.holds (λ e b z. (refl, ends e b z.0 z.1))
    where
      one : Join
      one = record { number = n; places = []; void = void; reply = owes_to }

      inner : Fair (t.within_join n before r) (exit q) (FlowOk (t.within_join n before r)) (with_join one s) (block (t.within_join n before r) (with_join one s))
      inner = fair (t.within_join n before r) q (λ e. absurd cc) (record { me = able.me; fresh = able.fresh; reply = able.reply; make = able.make }) (with_join one s) (sound_open r p q s one before h f o g)

      ends : (e : Flow) (b : State) → d.Reach Asked from sizes width (t.within_join n before r) (exit q e) (with_join one s) b → FlowOk (t.within_join n before r) e b → Joined r q n s (t.close_join (length s.joins) n void owes_to s.places b)
      ends Next b z ok = joined_left r p q s b one (record { number = n; places = replicate b.places None; void = void; reply = owes_to }) before h f o refl refl z.sound z.moves
      ends (Returned v) b z ok = joined_left r p q s b one (record { number = n; places = replicate b.places None; void = void; reply = owes_to }) before h f o refl refl z.sound z.moves
      ends Passed b z ok = absurd cc

  -- the number that a join takes is the next one
  count_is : (s : State) → After (λ (n : ℕ). λ u. n ≡ s.serial) (t.take_join_serial s)
  count_is s = at (nat_lt (length s.joins) 1024) (nat_lt s.serial 18446744073709551615)
    where
      at : (a b : Bool) → After (λ (n : ℕ). λ u. n ≡ s.serial) (if a then (if b then Ok (s.serial, record s { serial = s.serial + 1 }) else Err TooManyMessages) else Err TooManyMessages)
      at true true = refl
      at true false = tt
      at false b = tt

  whole : (r : Context) (p q n : ℕ) (s u v w : State) → n ≡ s.serial → d.Moves Asked from sizes width r s u → d.Moves Asked from sizes width r u v → Joined r q n v w → d.Reach Asked from sizes width r q s w
  whole r p q n s u v w is a b j =
      let c = d.moves_then Asked from sizes width r s u v a b in
      record {
        sound = j.sound;
        moves = record {
          serial = omega (arith, c.serial, j.serial);
          joins = (c.joins.0 ++ j.joins.0, j.joins.1 ∙ ap (λ l. l ++ j.joins.0) c.joins.1 ∙ append_assoc s.joins c.joins.0 j.joins.0);
          places = λ k i e l x. j.places k i e (omega (arith, l, c.serial)) (λ same. absurd (omega (arith, same, is, l))) x ∙ c.places k i e l x;
        };
      }

  pub join_fair : (void : State → Bool) (block : StmtDenotation) → RunFair block → y.StageFair Asked from sizes width (t.exec_join_stage void block)
  join_fair void block fair r p before last ok able s h g = record {
    holds =
        then_after (λ (n : ℕ). λ u. (d.Reach Asked from sizes width r p s u × d.Fresh Asked from sizes width r n u) × (n ≡ s.serial)) (λ (n : ℕ). λ w. d.Reach Asked from sizes width r (y.exit_end Asked from sizes width p last) s w × IsWithin from w.serial n) (t.take_join_serial s)
        (λ n. m.reply_of_stage last r n >>= (λ owes. t.exec_join (void s) block r before n owes))
        (after_both (λ (n : ℕ). λ u. d.Reach Asked from sizes width r p s u × d.Fresh Asked from sizes width r n u) (λ (n : ℕ). λ u. n ≡ s.serial) (t.take_join_serial s) (x.counted_fair Asked from sizes width (length s.joins) r p s h).holds (count_is s)) (λ n u a.
        then_after (λ (o : Reply). λ v. d.Reach Asked from sizes width r p u v × (d.Owing Asked from sizes width r p (y.exit_end Asked from sizes width p last) v o × d.Fresh Asked from sizes width r n v)) (λ (n : ℕ). λ w. d.Reach Asked from sizes width r (y.exit_end Asked from sizes width p last) s w × IsWithin from w.serial n) (m.reply_of_stage last r n u)
        (λ owes. t.exec_join (void s) block r before n owes) (y.owed_fair Asked from sizes width last r p n ok able u a.0.0.sound a.0.1).holds (λ o v b.
        after_more (λ (k : ℕ). λ w. (k ≡ n) × Joined r (y.exit_end Asked from sizes width p last) n v w) (λ (k : ℕ). λ w. d.Reach Asked from sizes width r (y.exit_end Asked from sizes width p last) s w × IsWithin from w.serial k) (t.exec_join (void s) block r before n o v)
        (λ k w z. (whole r p (y.exit_end Asked from sizes width p last) n s u v w a.1 a.0.0.moves b.0.moves z.1, subst (λ l. IsWithin from w.serial l) (sym z.0) z.1.number))
        (joined_fair (void s) block fair r p (y.exit_end Asked from sizes width p last) n before o able v b.0.sound b.1.1 b.1.0 (d.if_more Asked from sizes width s.serial v.serial before (omega (arith, a.0.0.moves.serial, b.0.moves.serial)) g))));
  }
