-- What the state of a handler keeps while the handler runs, and how the state moves.
use Rattle.std.proofs.Common.{◌≡◌, ◌≢◌, ℕ, ◌+◌, ◌≤◌, ◌<◌, inl, inr, Bool, true, false, if◌then◌else◌, List, [], ◌∷◌, ◌++◌, length, Option, Some, None, Ok, Err, refl, sym, ap, subst, ◌∙◌, arith, append_assoc}
use Rattle.std.proofs.lemmas.List.{append-nil}
use Rattle.sal_value.specs.declared.name.Name.{Name}
use Rattle.sal_value.specs.declared.value.Value.{Value}
use Rattle.sal_value.specs.Spelling.{name_is_spelled}
use Rattle.sal_mail.specs.declared.message.Piece.{Piece}
use Rattle.sal_mail.specs.declared.message.Piece.TheVariants.{Known, Token}
use Rattle.sal_mail.specs.declared.message.Reply.{Reply}
use Rattle.sal_mail.specs.declared.message.Reply.TheVariants.{Nobody, Tok, Place, Outside}
use Rattle.sal_mail.specs.declared.message.Message.{Message}
use Rattle.sal_mail.specs.declared.message.Join.{Join}
use Rattle.sal_mail.specs.declared.effects.Actor.{Actor}
use Rattle.sal_mail.specs.declared.effects.Creation.{Creation}
use Rattle.sal_mail.specs.ReplyKeys.{reply_key}
use Rattle.sal_handler.specs.declared.state.Content.{Content}
use Rattle.sal_handler.specs.declared.state.Content.TheVariants as held
use Rattle.sal_handler.specs.declared.state.Local.{Local}
use Rattle.sal_handler.specs.declared.state.EnclosingJoin.{EnclosingJoin}
use Rattle.sal_handler.specs.declared.state.State.{State}
use Rattle.sal_handler.specs.Evaluation.{OrTrap, and_then, Eval}
use Rattle.sal_handler.specs.Scopes.{Context, fresh_name}
use Rattle.sal_handler.specs.Expressions.{FieldMaker}
use Rattle.sal_handler.specs.WellFormed.{EachOf, IsAmong, one_if_same, times_taken, IsWithin, IsNewReply, IsAllowedReply, owes, times_owed_by, HaveFreshNames, IsOldReply}
use Rattle.sal_handler.proofs.Lawful.{Lawful}
use Rattle.sal_handler.proofs.After.{After, then_after, after_more, lift_after}
use Rattle.sal_handler.proofs.Induction.{IfAny}
use Rattle.sal_handler.proofs.Addresses.{total_append, each_append, each_more, number_most, number_apart, by_number, owes_most, owes_by, owes_apart, some_address, token_token, token_place, place_place, old_token, old_place}

abbrev pub taken_in : ℕ → State → ℕ
taken_in k s = times_taken k s.messages s.joins s.creations

abbrev pub owed_in : List ℕ → State → ℕ
owed_in a s = times_owed_by a s.messages s.joins

-- a value that is legal where that is asked for, or a token of these numbers
abbrev pub IsGoodPiece : Type 0 → ℕ → ℕ → Piece → Type 0
IsGoodPiece Asked from to (Known v) = Lawful Asked v
IsGoodPiece Asked from to (Token n) = IsWithin from to n

pub record IsGoodMessage (Asked : Type 0) (me : Name) (caller : Reply) (from to : ℕ) (sizes : List ℕ) (m : Message) : Type 0 where
  pub maker : m.maker ≡ me
  pub args : EachOf (IsGoodPiece Asked from to) m.args
  pub size : IsAmong (length m.args) sizes
  pub after : EachOf (IsWithin from to) m.after
  pub reply : IsAllowedReply me caller from to m.reply

abbrev pub IsGoodHeld : Type 0 → ℕ → ℕ → Content → Type 0
IsGoodHeld Asked from to (held.Value v) = Lawful Asked v
IsGoodHeld Asked from to (held.Token n) = IsWithin from to n

abbrev pub IsGoodLocal : Type 0 → ℕ → ℕ → Local → Type 0
IsGoodLocal Asked from to l = IsGoodHeld Asked from to l.held

abbrev pub IsGoodInside : ℕ → ℕ → EnclosingJoin → Type 0
IsGoodInside from to i = IsWithin from to i.join × IfAny (IsWithin from to) i.before

-- the number isn't that of the innermost join
abbrev pub NotInnermost : ℕ → List EnclosingJoin → Type 0
NotInnermost n [] = Unit {0}
NotInnermost n (i ∷ is) = n ≡ i.join → ⊥

abbrev pub MakesLegal : Type 0 → FieldMaker → Type 0
MakesLegal Asked make = (n : ℕ) (args fields : List Value) → EachOf (Lawful Asked) args → make n args ≡ Ok fields → EachOf (Lawful Asked) fields

-- what a handler reads, from these numbers on
pub record Able (Asked : Type 0) (from : ℕ) (r : Context) : Type 0 where
  pub me : Asked → name_is_spelled r.me ≡ true
  pub fresh : Asked → EachOf (λ n. name_is_spelled n ≡ true) r.fresh
  pub reply : IsOldReply r.me from r.reply
  pub make : IfAny (MakesLegal Asked) r.make

module _ (Asked : Type 0) (from : ℕ) (sizes : List ℕ) (width : ℕ) where
  -- no place of the innermost join is owed from the next one on
  abbrev pub NextPlaces : List EnclosingJoin → Name → State → Type 0
  NextPlaces [] me s = Unit {0}
  NextPlaces (i ∷ is) me s = (k : ℕ) → s.places ≤ k → owed_in (reply_key (Place me i.join k)) s ≡ 0

  abbrev pub OwedWell : Context → ℕ → Reply → Type 0
  OwedWell r to = IsAllowedReply r.me r.reply from to

  -- the handled reply was passed on at most so often
  pub record Sound (r : Context) (passed : ℕ) (s : State) : Type 0 where
    pub low : from ≤ s.serial
    pub once : (k : ℕ) → taken_in k s ≤ 1
    pub below : (k : ℕ) → k < from → taken_in k s ≡ 0
    pub above : (k : ℕ) → s.serial ≤ k → taken_in k s ≡ 0
    pub owed_once : (a : Reply) → a ≢ Nobody → owed_in (reply_key a) s ≤ 1
    pub new_tokens : (k : ℕ) → s.serial ≤ k → owed_in (reply_key (Tok r.me k)) s ≡ 0
    pub new_places : (k i : ℕ) → s.serial ≤ k → owed_in (reply_key (Place r.me k i)) s ≡ 0
    pub next_places : NextPlaces r.within r.me s
    pub caller : r.reply ≢ Nobody → owed_in (reply_key r.reply) s ≤ passed
    pub within : EachOf (IsGoodInside from s.serial) r.within
    pub locals : EachOf (IsGoodLocal Asked from s.serial) s.locals
    pub messages : EachOf (IsGoodMessage Asked r.me r.reply from s.serial sizes) s.messages
    pub joins : EachOf (λ j. OwedWell r s.serial j.reply) s.joins
    pub names : HaveFreshNames r.fresh 0 s.actors
    pub actors : EachOf (λ a. EachOf (Lawful Asked) a.fields) s.actors
    pub creations : EachOf (λ x. EachOf (Lawful Asked) x.fields) s.creations
    pub fields : EachOf (Lawful Asked) s.fields
    pub count : length s.fields ≡ width

  -- numbers only rise, joins are only added, and the places of other joins are owed as before
  pub record Moves (r : Context) (s t : State) : Type 0 where
    pub serial : s.serial ≤ t.serial
    pub joins : (more : List Join) × (t.joins ≡ s.joins ++ more)
    pub places : (k i : ℕ) → from ≤ k → k < s.serial → NotInnermost k r.within → owed_in (reply_key (Place r.me k i)) t ≡ owed_in (reply_key (Place r.me k i)) s

  pub record Reach (r : Context) (passed : ℕ) (s t : State) : Type 0 where
    pub sound : Sound r passed t
    pub moves : Moves r s t

  -- what a part gives and leaves, if it doesn't trap
  pub record FairAt {A : Type 0} (r : Context) (q : A → ℕ) (V : A → State → Type 0) (s : State) (x : OrTrap (A × State)) : Type 0 where
    pub holds : After (λ a t. Reach r (q a) s t × V a t) x

  pub moves_same : (r : Context) (s : State) → Moves r s s
  moves_same r s = record { serial = omega arith; joins = ([], sym (append-nil s.joins)); places = λ k i a b c. refl }

  pub moves_then : (r : Context) (s t u : State) → Moves r s t → Moves r t u → Moves r s u
  moves_then r s t u m n = record {
    serial = omega (arith, m.serial, n.serial);
    joins = (m.joins.0 ++ n.joins.0, n.joins.1 ∙ ap (λ l. l ++ n.joins.0) m.joins.1 ∙ append_assoc s.joins m.joins.0 n.joins.0);
    places = λ k i a b c. n.places k i a (omega (arith, b, m.serial)) c ∙ m.places k i a b c;
  }

  pub fair_pure : {A : Type 0} (r : Context) (q : A → ℕ) (V : A → State → Type 0) (s : State) (a : A) → Sound r (q a) s → V a s → FairAt r q V s (Ok (a, s))
  fair_pure r q V s a h v = record { holds = (record { sound = h; moves = moves_same r s }, v) }

  pub fair_err : {A : Type 0} (r : Context) (q : A → ℕ) (V : A → State → Type 0) (s : State) (k : _) → FairAt r q V s (Err k)
  fair_err r q V s k = record { holds = tt }

  -- one part, and then another
  pub fair_then : {A B : Type 0} (r : Context) (q : A → ℕ) (V : A → State → Type 0) (q' : B → ℕ) (V' : B → State → Type 0) (s : State) (x : OrTrap (A × State)) (g : A → Eval B) →
      FairAt r q V s x → ((a : A) (t : State) → Moves r s t → Sound r (q a) t → V a t → FairAt r q' V' t (g a t)) → FairAt r q' V' s (and_then x (λ z. g z.0 z.1))
  fair_then {A} {B} r q V q' V' s x g f rest = record {
    holds =
        then_after (λ a t. Reach r (q a) s t × V a t) (λ b u. Reach r (q' b) s u × V' b u) x g f.holds (λ a t p.
        after_more (λ b u. Reach r (q' b) t u × V' b u) (λ b u. Reach r (q' b) s u × V' b u) (g a t)
        (λ b u w. (record { sound = w.0.sound; moves = moves_then r s t u p.0.moves w.0.moves }, w.1)) (rest a t p.0.moves p.0.sound p.1).holds);
  }

  pub fair_lift : {A : Type 0} (r : Context) (q : A → ℕ) (V : A → State → Type 0) (s : State) (o : OrTrap A) → ((a : A) → o ≡ Ok a → Sound r (q a) s × V a s) → FairAt r q V s (and_then o (λ a. Ok (a, s)))
  fair_lift r q V s o f = record { holds = lift_after (λ a t. Reach r (q a) s t × V a t) o s (λ a e. (record { sound = (f a e).0; moves = moves_same r s }, (f a e).1)) }

  pub fair_if : {A : Type 0} (r : Context) (q : A → ℕ) (V : A → State → Type 0) (s : State) (b : Bool) (m n : Eval A) → FairAt r q V s (m s) → FairAt r q V s (n s) → FairAt r q V s ((if b then m else n) s)
  fair_if r q V s true m n f g = f
  fair_if r q V s false m n f g = g

  -- ---- more numbers

  pub within_more : (a b n : ℕ) → a ≤ b → IsWithin from a n → IsWithin from b n
  within_more a b n le w = (w.0, omega (arith, w.1, le))

  pub if_more : (a b : ℕ) (o : Option ℕ) → a ≤ b → IfAny (IsWithin from a) o → IfAny (IsWithin from b) o
  if_more a b None le w = tt
  if_more a b (Some n) le w = within_more a b n le w

  pub piece_more : (a b : ℕ) → a ≤ b → (p : Piece) → IsGoodPiece Asked from a p → IsGoodPiece Asked from b p
  piece_more a b le (Known v) w = w
  piece_more a b le (Token n) w = within_more a b n le w

  new_more : (me : Name) (a b : ℕ) → a ≤ b → (o : Reply) → IsNewReply me from a o → IsNewReply me from b o
  new_more me a b le Nobody w = w
  new_more me a b le (Tok o n) w = (w.0, within_more a b n le w.1)
  new_more me a b le (Place o j i) w = (w.0, within_more a b j le w.1)
  new_more me a b le (Outside n) w = w

  pub owed_more : (me : Name) (caller : Reply) (a b : ℕ) → a ≤ b → (o : Reply) → IsAllowedReply me caller from a o → IsAllowedReply me caller from b o
  owed_more me caller a b le o (inl e) = inl e
  owed_more me caller a b le o (inr (inl e)) = inr (inl e)
  owed_more me caller a b le o (inr (inr w)) = inr (inr (new_more me a b le o w))

  pub message_more : (me : Name) (caller : Reply) (a b : ℕ) → a ≤ b → (m : Message) → IsGoodMessage Asked me caller from a sizes m → IsGoodMessage Asked me caller from b sizes m
  message_more me caller a b le m g = record {
    maker = g.maker;
    args = each_more (IsGoodPiece Asked from a) (IsGoodPiece Asked from b) m.args (piece_more a b le) g.args;
    size = g.size;
    after = each_more (IsWithin from a) (IsWithin from b) m.after (λ n w. within_more a b n le w) g.after;
    reply = owed_more me caller a b le m.reply g.reply;
  }

  pub held_more : (a b : ℕ) → a ≤ b → (h : Content) → IsGoodHeld Asked from a h → IsGoodHeld Asked from b h
  held_more a b le (held.Value v) w = w
  held_more a b le (held.Token n) w = within_more a b n le w

  pub inside_more : (a b : ℕ) → a ≤ b → (i : EnclosingJoin) → IsGoodInside from a i → IsGoodInside from b i
  inside_more a b le i w = (within_more a b i.join le w.0, if_more a b i.before le w.1)

  pub next_same : (is : List EnclosingJoin) (me : Name) (s t : State) → s.places ≤ t.places → ((a : List ℕ) → owed_in a t ≡ owed_in a s) → NextPlaces is me s → NextPlaces is me t
  next_same [] me s t le e n = tt
  next_same (i ∷ is) me s t le e n = λ k h. e (reply_key (Place me i.join k)) ∙ n k (omega (arith, h, le))

  -- a number more
  pub sound_number : (r : Context) (p : ℕ) (s : State) → Sound r p s → Sound r p (record s { serial = s.serial + 1 })
  sound_number r p s h =
      let le : s.serial ≤ s.serial + 1 = omega arith in
      record {
        low = omega (arith, h.low);
        once = h.once;
        below = h.below;
        above = λ k l. h.above k (omega (arith, l));
        owed_once = h.owed_once;
        new_tokens = λ k l. h.new_tokens k (omega (arith, l));
        new_places = λ k i l. h.new_places k i (omega (arith, l));
        next_places = next_same r.within r.me s (record s { serial = s.serial + 1 }) (omega arith) (λ a. refl) h.next_places;
        caller = h.caller;
        within = each_more (IsGoodInside from s.serial) (IsGoodInside from (s.serial + 1)) r.within (inside_more s.serial (s.serial + 1) le) h.within;
        locals = each_more (IsGoodLocal Asked from s.serial) (IsGoodLocal Asked from (s.serial + 1)) s.locals (λ l w. held_more s.serial (s.serial + 1) le l.held w) h.locals;
        messages = each_more (IsGoodMessage Asked r.me r.reply from s.serial sizes) (IsGoodMessage Asked r.me r.reply from (s.serial + 1) sizes) s.messages (message_more r.me r.reply s.serial (s.serial + 1) le) h.messages;
        joins = each_more (λ j. OwedWell r s.serial j.reply) (λ j. OwedWell r (s.serial + 1) j.reply) s.joins (λ j w. owed_more r.me r.reply s.serial (s.serial + 1) le j.reply w) h.joins;
        names = h.names;
        actors = h.actors;
        creations = h.creations;
        fields = h.fields;
        count = h.count;
      }

  -- passed on at most more often
  pub sound_more : (r : Context) (p q : ℕ) (s : State) → p ≤ q → Sound r p s → Sound r q s
  sound_more r p q s le h = record {
    low = h.low;
    once = h.once;
    below = h.below;
    above = h.above;
    owed_once = h.owed_once;
    new_tokens = h.new_tokens;
    new_places = h.new_places;
    next_places = h.next_places;
    caller = λ n. omega (arith, h.caller n, le);
    within = h.within;
    locals = h.locals;
    messages = h.messages;
    joins = h.joins;
    names = h.names;
    actors = h.actors;
    creations = h.creations;
    fields = h.fields;
    count = h.count;
  }

  -- ---- a number that nothing has yet

  pub record Fresh (r : Context) (n : ℕ) (s : State) : Type 0 where
    pub within : IsWithin from s.serial n
    pub unused : taken_in n s ≡ 0
    pub token : owed_in (reply_key (Tok r.me n)) s ≡ 0
    pub places : (i : ℕ) → owed_in (reply_key (Place r.me n i)) s ≡ 0
    pub other : NotInnermost n r.within

  above_all : (n : ℕ) (is : List EnclosingJoin) → EachOf (IsGoodInside from n) is → NotInnermost n is
  above_all n [] w = tt
  above_all n (i ∷ is) w = λ e. absurd (omega (arith, w.0.0.1, e))

  pub fresh_number : (r : Context) (p : ℕ) (s : State) → Sound r p s → Fresh r s.serial (record s { serial = s.serial + 1 })
  fresh_number r p s h = record {
    within = (h.low, omega arith);
    unused = h.above s.serial (omega arith);
    token = h.new_tokens s.serial (omega arith);
    places = λ i. h.new_places s.serial i (omega arith);
    other = above_all s.serial r.within h.within;
  }

  -- ---- a thing with this number that owes its reply so

  -- no place of the innermost join from the next one on
  abbrev pub NextOwes : List EnclosingJoin → Name → State → Reply → Type 0
  NextOwes [] me s o = Unit {0}
  NextOwes (i ∷ is) me s o = (k : ℕ) → s.places ≤ k → owes (reply_key (Place me i.join k)) o ≡ 0

  pub record Owing (r : Context) (p q : ℕ) (s : State) (o : Reply) : Type 0 where
    pub well : OwedWell r s.serial o
    pub once : (a : Reply) → a ≢ Nobody → owed_in (reply_key a) s + owes (reply_key a) o ≤ 1
    pub tokens : (k : ℕ) → s.serial ≤ k → owes (reply_key (Tok r.me k)) o ≡ 0
    pub places : (k i : ℕ) → from ≤ k → NotInnermost k r.within → owes (reply_key (Place r.me k i)) o ≡ 0
    pub new_places : (k i : ℕ) → s.serial ≤ k → owes (reply_key (Place r.me k i)) o ≡ 0
    pub next_places : NextOwes r.within r.me s o
    pub caller : r.reply ≢ Nobody → owed_in (reply_key r.reply) s + owes (reply_key r.reply) o ≤ q

  only_once : (r : Context) (p : ℕ) (s : State) (o : Reply) → Sound r p s → owed_in (reply_key o) s ≡ 0 → (a : Reply) → a ≢ Nobody → owed_in (reply_key a) s + owes (reply_key a) o ≤ 1
  only_once r p s o h none_yet a some =
      elim (owes_by (reply_key a) o) [
        | inl e ↦ let none : owed_in (reply_key a) s ≡ 0 = ap (λ l. owed_in l s) e ∙ none_yet in omega (arith, none, owes_most (reply_key a) o)
        | inr z ↦ omega (arith, z, h.owed_once a some)
      ]

  -- owed to nobody
  pub owing_nobody : (r : Context) (p : ℕ) (s : State) → Sound r p s → Owing r p p s Nobody
  owing_nobody r p s h = record {
    well = inl refl;
    once = λ a some. omega (arith, h.owed_once a some, none a some);
    tokens = λ k l. owes_apart (reply_key (Tok r.me k)) Nobody (λ e. absurd cc);
    places = λ k i l n. owes_apart (reply_key (Place r.me k i)) Nobody (λ e. absurd cc);
    new_places = λ k i l. owes_apart (reply_key (Place r.me k i)) Nobody (λ e. absurd cc);
    next_places = next r.within;
    caller = λ some. omega (arith, h.caller some, none r.reply some);
  }
    where
      none : (a : Reply) → a ≢ Nobody → owes (reply_key a) Nobody ≡ 0
      none a some = owes_apart (reply_key a) Nobody (some_address a some)

      next : (is : List EnclosingJoin) → NextOwes is r.me s Nobody
      next [] = tt
      next (i ∷ is) = λ k l. owes_apart (reply_key (Place r.me i.join k)) Nobody (λ e. absurd cc)

  -- owed to the number's own token
  pub owing_token : (r : Context) (p : ℕ) (s : State) (n : ℕ) → Able Asked from r → Sound r p s → Fresh r n s → Owing r p p s (Tok r.me n)
  owing_token r p s n able h f = record {
    well = inr (inr (refl, f.within));
    once = only_once r p s (Tok r.me n) h f.token;
    tokens = λ k l. owes_apart (reply_key (Tok r.me k)) (Tok r.me n) (λ e. let q = (token_token r.me r.me k n e).0 in absurd (omega (arith, q, f.within.1)));
    places = λ k i l x. apart k i;
    new_places = λ k i l. apart k i;
    next_places = next r.within;
    caller = λ some. let z = owes_apart (reply_key r.reply) (Tok r.me n) (λ e. old_token r.me from n r.reply able.reply f.within.0 (sym e)) in omega (arith, h.caller some, z);
  }
    where
      apart : (k i : ℕ) → owes (reply_key (Place r.me k i)) (Tok r.me n) ≡ 0
      apart k i = owes_apart (reply_key (Place r.me k i)) (Tok r.me n) (λ e. token_place r.me r.me n k i (sym e))

      next : (is : List EnclosingJoin) → NextOwes is r.me s (Tok r.me n)
      next [] = tt
      next (i ∷ is) = λ k l. apart i.join k

  -- owed to whom the handled message owes its reply, which wasn't passed on yet
  pub owing_caller : (r : Context) (s : State) → Able Asked from r → Sound r 0 s → Owing r 0 1 s r.reply
  owing_caller r s able h = record {
    well = inr (inl refl);
    once = once;
    tokens = λ k l. owes_apart (reply_key (Tok r.me k)) r.reply (λ e. old_token r.me from k r.reply able.reply (omega (arith, l, h.low)) e);
    places = λ k i l x. owes_apart (reply_key (Place r.me k i)) r.reply (λ e. old_place r.me from k i r.reply able.reply l e);
    new_places = λ k i l. owes_apart (reply_key (Place r.me k i)) r.reply (λ e. old_place r.me from k i r.reply able.reply (omega (arith, l, h.low)) e);
    next_places = next r.within h.within;
    caller = λ some. omega (arith, h.caller some, owes_most (reply_key r.reply) r.reply);
  }
    where
      next : (is : List EnclosingJoin) → EachOf (IsGoodInside from s.serial) is → NextOwes is r.me s r.reply
      next [] w = tt
      next (i ∷ is) w = λ k l. owes_apart (reply_key (Place r.me i.join k)) r.reply (λ e. old_place r.me from i.join k r.reply able.reply w.0.0.0 e)

      once : (a : Reply) → a ≢ Nobody → owed_in (reply_key a) s + owes (reply_key a) r.reply ≤ 1
      once a some =
          elim (owes_by (reply_key a) r.reply) [
            | inl e ↦ let none : owed_in (reply_key a) s ≤ 0 = subst (λ l. owed_in l s ≤ 0) (sym e) (h.caller (λ x. some_address a some (e ∙ ap reply_key x))) in omega (arith, none, owes_most (reply_key a) r.reply)
            | inr z ↦ omega (arith, z, h.owed_once a some)
          ]

  -- owed to the next place of the innermost join
  pub owing_place : (r : Context) (p : ℕ) (s : State) (j : ℕ) → Able Asked from r → Sound r p s → IsWithin from s.serial j → owed_in (reply_key (Place r.me j s.places)) s ≡ 0 → ((k : ℕ) → NotInnermost k r.within → k ≡ j → ⊥) →
      ((t : State) → t.places ≡ s.places + 1 → NextOwes r.within r.me t (Place r.me j s.places)) → Owing r p p (record s { places = s.places + 1 }) (Place r.me j s.places)
  owing_place r p s j able h w none_yet other next = record {
    well = inr (inr (refl, w));
    once = only_once r p s (Place r.me j s.places) h none_yet;
    tokens = λ k l. owes_apart (reply_key (Tok r.me k)) (Place r.me j s.places) (token_place r.me r.me k j s.places);
    places = λ k i l x. owes_apart (reply_key (Place r.me k i)) (Place r.me j s.places) (λ e. other k x (place_place r.me r.me k i j s.places e).1);
    new_places = λ k i l. owes_apart (reply_key (Place r.me k i)) (Place r.me j s.places) (λ e. let q = (place_place r.me r.me k i j s.places e).1 in absurd (omega (arith, q, l, w.1)));
    next_places = next (record s { places = s.places + 1 }) refl;
    caller = λ some. let z = owes_apart (reply_key r.reply) (Place r.me j s.places) (λ e. old_place r.me from j s.places r.reply able.reply w.0 (sym e)) in omega (arith, h.caller some, z);
  }

  -- a place more
  pub sound_place : (r : Context) (p : ℕ) (s : State) → Sound r p s → Sound r p (record s { places = s.places + 1 })
  sound_place r p s h = record {
    low = h.low;
    once = h.once;
    below = h.below;
    above = h.above;
    owed_once = h.owed_once;
    new_tokens = h.new_tokens;
    new_places = h.new_places;
    next_places = next_same r.within r.me s (record s { places = s.places + 1 }) (omega arith) (λ a. refl) h.next_places;
    caller = h.caller;
    within = h.within;
    locals = h.locals;
    messages = h.messages;
    joins = h.joins;
    names = h.names;
    actors = h.actors;
    creations = h.creations;
    fields = h.fields;
    count = h.count;
  }

  -- ---- things are added

  pub record NumberAdded (s t : State) : Type 0 where
    pub once : (k : ℕ) → taken_in k t ≤ 1
    pub below : (k : ℕ) → k < from → taken_in k t ≡ 0
    pub above : (k : ℕ) → s.serial ≤ k → taken_in k t ≡ 0

  pub number_added : (r : Context) (p : ℕ) (s t : State) (n : ℕ) → Sound r p s → Fresh r n s → ((k : ℕ) → taken_in k t ≡ taken_in k s + one_if_same k n) → NumberAdded s t
  number_added r p s t n h f e = record {
    once = λ k. elim (by_number k n) [
      | inl same ↦ let zero : taken_in k s ≡ 0 = ap (λ m. taken_in m s) same ∙ f.unused in omega (arith, e k, zero, number_most k n)
      | inr z ↦ omega (arith, e k, z, h.once k)
    ];
    below = λ k l. omega (arith, e k, h.below k l, number_apart k n (λ same. absurd (omega (arith, same, l, f.within.0))));
    above = λ k l. omega (arith, e k, h.above k l, number_apart k n (λ same. absurd (omega (arith, same, l, f.within.1))));
  }

  next_added : (is : List EnclosingJoin) (me : Name) (s t : State) (o : Reply) → s.places ≤ t.places → ((a : List ℕ) → owed_in a t ≡ owed_in a s + owes a o) → NextPlaces is me s → NextOwes is me s o → NextPlaces is me t
  next_added [] me s t o le e n w = tt
  next_added (i ∷ is) me s t o le e n w = λ k l. omega (arith, e (reply_key (Place me i.join k)), n k (omega (arith, l, le)), w k (omega (arith, l, le)))

  abbrev pub with_message : Message → State → State
  with_message m s = record s { messages = s.messages ++ m ∷ [] }

  message_taken : (m : Message) (s : State) (k : ℕ) → taken_in k (with_message m s) ≡ taken_in k s + one_if_same k m.serial
  message_taken m s k = omega (arith, total_append (λ m. one_if_same k m.serial) s.messages (m ∷ []))

  message_owed : (m : Message) (s : State) (a : List ℕ) → owed_in a (with_message m s) ≡ owed_in a s + owes a m.reply
  message_owed m s a = omega (arith, total_append (λ m. owes a m.reply) s.messages (m ∷ []))

  -- a message is sent
  pub sound_message : (r : Context) (p q : ℕ) (s : State) (m : Message) → Sound r p s → Fresh r m.serial s → Owing r p q s m.reply → IsGoodMessage Asked r.me r.reply from s.serial sizes m → Sound r q (with_message m s)
  sound_message r p q s m h f o g =
      let added = number_added r p s (with_message m s) m.serial h f (message_taken m s) in
      record {
        low = h.low;
        once = added.once;
        below = added.below;
        above = added.above;
        owed_once = λ a some. omega (arith, message_owed m s (reply_key a), o.once a some);
        new_tokens = λ k l. omega (arith, message_owed m s (reply_key (Tok r.me k)), h.new_tokens k l, o.tokens k l);
        new_places = λ k i l. omega (arith, message_owed m s (reply_key (Place r.me k i)), h.new_places k i l, o.new_places k i l);
        next_places = next_added r.within r.me s (with_message m s) m.reply (omega arith) (message_owed m s) h.next_places o.next_places;
        caller = λ some. omega (arith, message_owed m s (reply_key r.reply), o.caller some);
        within = h.within;
        locals = h.locals;
        messages = each_append (IsGoodMessage Asked r.me r.reply from s.serial sizes) s.messages (m ∷ []) h.messages (g, tt);
        joins = h.joins;
        names = h.names;
        actors = h.actors;
        creations = h.creations;
        fields = h.fields;
        count = h.count;
      }

  pub moves_message : (r : Context) (p q : ℕ) (s : State) (m : Message) → Owing r p q s m.reply → Moves r s (with_message m s)
  moves_message r p q s m o = record {
    serial = omega arith;
    joins = ([], sym (append-nil s.joins));
    places = λ k i a b c. omega (arith, message_owed m s (reply_key (Place r.me k i)), o.places k i a c);
  }

  -- ---- actors and creations

  named_more : (fresh : List Name) (i : ℕ) (xs : List Actor) (a : Actor) → HaveFreshNames fresh i xs → a.name ≡ fresh_name fresh (i + length xs) → HaveFreshNames fresh i (xs ++ a ∷ [])
  named_more fresh i [] a n e = (e ∙ ap (fresh_name fresh) (omega arith), tt)
  named_more fresh i (x ∷ xs) a n e = (n.0, named_more fresh (i + 1) xs a n.1 (e ∙ ap (fresh_name fresh) (omega arith)))

  abbrev pub with_actor : Actor → State → State
  with_actor a s = record s { actors = s.actors ++ a ∷ [] }

  pub sound_actor : (r : Context) (p : ℕ) (s : State) (a : Actor) → Sound r p s → a.name ≡ fresh_name r.fresh (length s.actors) → EachOf (Lawful Asked) a.fields → Sound r p (with_actor a s)
  sound_actor r p s a h e l = record {
    low = h.low;
    once = h.once;
    below = h.below;
    above = h.above;
    owed_once = h.owed_once;
    new_tokens = h.new_tokens;
    new_places = h.new_places;
    next_places = next_same r.within r.me s (with_actor a s) (omega arith) (λ a. refl) h.next_places;
    caller = h.caller;
    within = h.within;
    locals = h.locals;
    messages = h.messages;
    joins = h.joins;
    names = named_more r.fresh 0 s.actors a h.names (e ∙ ap (fresh_name r.fresh) (omega arith));
    actors = each_append (λ a. EachOf (Lawful Asked) a.fields) s.actors (a ∷ []) h.actors (l, tt);
    creations = h.creations;
    fields = h.fields;
    count = h.count;
  }

  abbrev pub with_creation : Creation → State → State
  with_creation x s = record s { creations = s.creations ++ x ∷ [] }

  creation_taken : (x : Creation) (s : State) (k : ℕ) → taken_in k (with_creation x s) ≡ taken_in k s + one_if_same k x.serial
  creation_taken x s k = omega (arith, total_append (λ x. one_if_same k x.serial) s.creations (x ∷ []))

  pub sound_creation : (r : Context) (p : ℕ) (s : State) (x : Creation) → Sound r p s → Fresh r x.serial s → EachOf (Lawful Asked) x.fields → Sound r p (with_creation x s)
  sound_creation r p s x h f l =
      let added = number_added r p s (with_creation x s) x.serial h f (creation_taken x s) in
      record {
        low = h.low;
        once = added.once;
        below = added.below;
        above = added.above;
        owed_once = h.owed_once;
        new_tokens = h.new_tokens;
        new_places = h.new_places;
        next_places = next_same r.within r.me s (with_creation x s) (omega arith) (λ a. refl) h.next_places;
        caller = h.caller;
        within = h.within;
        locals = h.locals;
        messages = h.messages;
        joins = h.joins;
        names = h.names;
        actors = h.actors;
        creations = each_append (λ x. EachOf (Lawful Asked) x.fields) s.creations (x ∷ []) h.creations (l, tt);
        fields = h.fields;
        count = h.count;
      }

  -- what changes neither messages nor joins nor numbers
  pub moves_quiet : (r : Context) (s t : State) → s.serial ≤ t.serial → t.joins ≡ s.joins → ((a : List ℕ) → owed_in a t ≡ owed_in a s) → Moves r s t
  moves_quiet r s t le e f = record { serial = le; joins = ([], e ∙ sym (append-nil s.joins)); places = λ k i a b c. f (reply_key (Place r.me k i)) }

  -- ---- locals and fields

  abbrev pub with_locals : List Local → State → State
  with_locals ls s = record s { locals = ls }

  pub sound_locals : (r : Context) (p : ℕ) (s : State) (ls : List Local) → Sound r p s → EachOf (IsGoodLocal Asked from s.serial) ls → Sound r p (with_locals ls s)
  sound_locals r p s ls h l = record {
    low = h.low;
    once = h.once;
    below = h.below;
    above = h.above;
    owed_once = h.owed_once;
    new_tokens = h.new_tokens;
    new_places = h.new_places;
    next_places = next_same r.within r.me s (with_locals ls s) (omega arith) (λ a. refl) h.next_places;
    caller = h.caller;
    within = h.within;
    locals = l;
    messages = h.messages;
    joins = h.joins;
    names = h.names;
    actors = h.actors;
    creations = h.creations;
    fields = h.fields;
    count = h.count;
  }

  abbrev pub with_fields : List Value → State → State
  with_fields vs s = record s { fields = vs }

  pub sound_fields : (r : Context) (p : ℕ) (s : State) (vs : List Value) → Sound r p s → EachOf (Lawful Asked) vs → length vs ≡ length s.fields → Sound r p (with_fields vs s)
  sound_fields r p s vs h l e = record {
    low = h.low;
    once = h.once;
    below = h.below;
    above = h.above;
    owed_once = h.owed_once;
    new_tokens = h.new_tokens;
    new_places = h.new_places;
    next_places = next_same r.within r.me s (with_fields vs s) (omega arith) (λ a. refl) h.next_places;
    caller = h.caller;
    within = h.within;
    locals = h.locals;
    messages = h.messages;
    joins = h.joins;
    names = h.names;
    actors = h.actors;
    creations = h.creations;
    fields = l;
    count = e ∙ h.count;
  }

  -- the count of loop turns
  pub sound_turns : (r : Context) (p : ℕ) (s : State) (n : ℕ) → Sound r p s → Sound r p (record s { turns = n })
  sound_turns r p s n h = record {
    low = h.low;
    once = h.once;
    below = h.below;
    above = h.above;
    owed_once = h.owed_once;
    new_tokens = h.new_tokens;
    new_places = h.new_places;
    next_places = next_same r.within r.me s (record s { turns = n }) (omega arith) (λ a. refl) h.next_places;
    caller = h.caller;
    within = h.within;
    locals = h.locals;
    messages = h.messages;
    joins = h.joins;
    names = h.names;
    actors = h.actors;
    creations = h.creations;
    fields = h.fields;
    count = h.count;
  }
