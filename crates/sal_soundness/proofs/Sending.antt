-- A message stage keeps the state typed: its number gets the type of its reply.
use Rattle.std.proofs.Common.{◌≡◌, ◌⊎◌, inl, inr, ℕ, zero, suc, ◌+◌, ◌≤◌, ◌<◌, Bool, true, false, ◌&&◌, if◌then◌else◌, nat_eq, List, [], ◌∷◌, ◌++◌, length, Option, Some, None, Ok, Err, refl, sym, ap, subst, ◌∙◌, arith}
use Rattle.std.specs.List.{position, position_or_len}
use Rattle.std.specs.Str.{bytes_eq}
use Rattle.std.specs.Prelude.{cond, map, not, nat_lt, slice_get, slice_set, replicate}
use Rattle.std.proofs.lemmas.Bool.{eqb-true, eq-eqb, ne_eqb}
use Rattle.sal_value.specs.declared.name.Name.{Name}
use Rattle.sal_value.specs.declared.value.Sort.{Sort}
use Rattle.sal_value.specs.declared.value.Value.{Value, out-Value}
use Rattle.sal_value.specs.declared.value.Value.TheOpen.{Value-F}
use Rattle.sal_value.specs.declared.value.Value.TheVariants.{Ref}
use Rattle.sal_value.proofs.Keys.{same_names}
use Rattle.sal_ast.specs.declared.program.Ident.{Ident}
use Rattle.sal_ast.specs.declared.expression.Expr.{Expr, out-Expr}
use Rattle.sal_ast.specs.declared.program.Behavior.{Behavior}
use Rattle.sal_ast.specs.declared.statement.Send.{Send}
use Rattle.sal_ast.specs.declared.statement.Arg.{Arg}
use Rattle.sal_ast.specs.declared.statement.Arg.TheVariants as arg
use Rattle.sal_ast.specs.declared.statement.Aim.{Aim}
use Rattle.sal_ast.specs.declared.statement.Aim.TheVariants as aim
use Rattle.sal_ast.specs.declared.statement.Property.{Property}
use Rattle.sal_ast.specs.declared.statement.Property.TheVariants as property
use Rattle.sal_ast.specs.Sorts.{Scope, Variable, target_behavior}
use Rattle.sal_mail.specs.declared.constants.TheConstants.{OUTPUT, PRINTLN}
use Rattle.sal_mail.specs.declared.message.Piece.{Piece}
use Rattle.sal_mail.specs.declared.message.Piece.TheVariants as piece
use Rattle.sal_mail.specs.declared.message.Reply.{Reply}
use Rattle.sal_mail.specs.declared.message.Reply.TheVariants.{Nobody, Tok, Place, Outside}
use Rattle.sal_mail.specs.declared.message.Target.{Target}
use Rattle.sal_mail.specs.declared.message.Target.TheVariants as target
use Rattle.sal_mail.specs.declared.message.Message.{Message}
use Rattle.sal_mail.specs.declared.message.Join.{Join}
use Rattle.sal_mail.specs.declared.fault.Trap.TheVariants.{TooManyMessages}
use Rattle.sal_handler.specs.declared.state.End.{End}
use Rattle.sal_handler.specs.declared.state.End.TheVariants as end
use Rattle.sal_handler.specs.declared.state.Flow.{Flow}
use Rattle.sal_handler.specs.declared.state.Flow.TheVariants.{Next, Returned, Passed}
use Rattle.sal_handler.specs.declared.state.EnclosingJoin.{EnclosingJoin}
use Rattle.sal_handler.specs.declared.state.Local.{Local}
use Rattle.sal_handler.specs.declared.state.State.{State}
use Rattle.sal_handler.specs.Evaluation.{OrTrap, and_then, ◌>>=◌, ◌>>◌, pure}
use Rattle.sal_handler.specs.Expressions.{eval}
use Rattle.sal_handler.specs.Scopes as c
use Rattle.sal_handler.specs.Scopes.{Context, scope_of}
use Rattle.sal_handler.specs.Messages as m
use Rattle.sal_handler.specs.Statements as t
use Rattle.sal_handler.specs.WellFormed.{EachOf, IsNewReply}
use Rattle.sal_handler.proofs.After.{After, then_after, after_more}
use Rattle.sal_handler.proofs.Addresses.{each_append, each_more}
use Rattle.sal_source.specs.Table.{key_eq}
use Rattle.sal_source.specs.Keys.{name_key}
use Rattle.sal_value.proofs.Tables.{some_is, same_words, words_refl}
use Rattle.sal_fitting.specs.Handlers.{OwesNew}
use Rattle.sal_fitting.specs.Messages.{IsSlotOf, IsTypedJoin, join_sort}
use Rattle.sal_fitting.specs.Signatures.{Signatures, signature_at, void_sort}
use Rattle.sal_types.specs.declared.signature.Signature.{Signature}
use Rattle.sal_fitting.proofs.Giving.{join_more}
use Rattle.sal_preservation.proofs.Judged.{Kind, Assignable, int, boolean, text}
use Rattle.sal_fitting.proofs.Pieces.{both, split}
use Rattle.sal_preservation.specs.States.{IsOf as Has}
use Rattle.sal_preservation.proofs.Expressions.{Belongs, Sits, Went}
use Rattle.sal_soundness.proofs.Anywhere as anywhere
use Rattle.sal_soundness.proofs.Anywhere.{HasFields, Judgement, Can}

abbrev pub Sorts : Type 0
Sorts = Reply → Option Sort

-- what a handler returns is of its result
abbrev pub FlowOk : Sort → Flow → Type 0
FlowOk result Next = Unit {0}
FlowOk result (Returned y) = Belongs result y
FlowOk result Passed = Unit {0}

-- ---- a number gets a type

abbrev is_token : Name → ℕ → Reply → Bool
is_token me n Nobody = false
is_token me n (Outside k) = false
is_token me n (Place owner k at) = key_eq (name_key me) (name_key owner) && nat_eq k n
is_token me n (Tok owner k) = key_eq (name_key me) (name_key owner) && nat_eq k n

-- the type of the reply, and of the places where it is a join
abbrev assign : Sort → Option Sort → Reply → Option Sort
assign t slot Nobody = None
assign t slot (Outside k) = None
assign t slot (Tok owner k) = Some t
assign t slot (Place owner k at) = slot

abbrev with_token : Name → ℕ → Sort → Option Sort → Sorts → Sorts
with_token me n t slot sorts q = if is_token me n q then assign t slot q else sorts q

not_number : (me owner : Name) (k n : ℕ) → k < n → key_eq (name_key me) (name_key owner) && nat_eq k n ≡ false
not_number me owner k n l = by (key_eq (name_key me) (name_key owner)) (ne_eqb k n (λ e. absurd (omega (arith, e, l))))
  where
    by : (b : Bool) → nat_eq k n ≡ false → b && nat_eq k n ≡ false
    by true e = e
    by false e = refl

old_token : (me : Name) (from n : ℕ) (q : Reply) → IsNewReply me from n q → is_token me n q ≡ false
old_token me from n Nobody h = refl
old_token me from n (Outside k) h = refl
old_token me from n (Place owner k at) h = not_number me owner k n h.1.1
old_token me from n (Tok owner k) h = not_number me owner k n h.1.1

is_number : (me owner : Name) (from k n : ℕ) → from ≤ n → key_eq (name_key me) (name_key owner) && nat_eq k n ≡ true → (owner ≡ me) × ((from ≤ k) × (k < n + 1))
is_number me owner from k n low e =
    let p = split (key_eq (name_key me) (name_key owner)) (nat_eq k n) e in
    let same : k ≡ n = eqb-true k n p.1 in
    (sym (same_names me owner (same_words (name_key me) (name_key owner) p.0)), (omega (arith, low, same), omega (arith, same)))

new_token : (me : Name) (from n : ℕ) (q : Reply) → from ≤ n → is_token me n q ≡ true → IsNewReply me from (n + 1) q
new_token me from n Nobody low e = absurd cc
new_token me from n (Outside k) low e = absurd cc
new_token me from n (Place owner k at) low e = is_number me owner from k n low e
new_token me from n (Tok owner k) low e = is_number me owner from k n low e

this_token : (me : Name) (n : ℕ) → is_token me n (Tok me n) ≡ true
this_token me n = both (key_eq (name_key me) (name_key me)) (nat_eq n n) (words_refl (name_key me)) (eq-eqb n n refl)

this_place : (me : Name) (n at : ℕ) → is_token me n (Place me n at) ≡ true
this_place me n at = both (key_eq (name_key me) (name_key me)) (nat_eq n n) (words_refl (name_key me)) (eq-eqb n n refl)

new_more : (me : Name) (from a b : ℕ) → a ≤ b → (q : Reply) → IsNewReply me from a q → IsNewReply me from b q
new_more me from a b l Nobody h = absurd h
new_more me from a b l (Outside k) h = absurd h
new_more me from a b l (Tok owner k) h = (h.0, (h.1.0, omega (arith, h.1.1, l)))
new_more me from a b l (Place owner join at) h = (h.0, (h.1.0, omega (arith, h.1.1, l)))

-- ---- arguments that belong

abbrev pub IsMade : (ℕ → Sort → Type 0) → Sort → Piece → Type 0
IsMade waits t (piece.Known y) = Belongs t y
IsMade waits t (piece.Token n) = waits n t

abbrev pub AreMade : (ℕ → Sort → Type 0) → List Sort → List Piece → Type 0
AreMade waits [] [] = Unit {0}
AreMade waits [] (p ∷ ps) = ⊥
AreMade waits (t ∷ ts) [] = ⊥
AreMade waits (t ∷ ts) (p ∷ ps) = IsMade waits t p × AreMade waits ts ps

made_more : (waits waits' : ℕ → Sort → Type 0) → ((n : ℕ) (t : Sort) → waits n t → waits' n t) → (ts : List Sort) (ps : List Piece) → AreMade waits ts ps → AreMade waits' ts ps
made_more waits waits' f [] [] h = tt
made_more waits waits' f [] (p ∷ ps) h = absurd h
made_more waits waits' f (t ∷ ts) [] h = absurd h
made_more waits waits' f (t ∷ ts) (piece.Known y ∷ ps) h = (h.0, made_more waits waits' f ts ps h.1)
made_more waits waits' f (t ∷ ts) (piece.Token n ∷ ps) h = (f n t h.0, made_more waits waits' f ts ps h.1)

made_push : (waits : ℕ → Sort → Type 0) (ts : List Sort) (ps : List Piece) (t : Sort) (p : Piece) → AreMade waits ts ps → IsMade waits t p → AreMade waits (ts ++ t ∷ []) (ps ++ p ∷ [])
made_push waits [] [] t p h q = (q, tt)
made_push waits [] (z ∷ ps) t p h q = absurd h
made_push waits (y ∷ ts) [] t p h q = absurd h
made_push waits (y ∷ ts) (z ∷ ps) t p h q = (h.0, made_push waits ts ps t p h.1 q)

append_nil : {A : Type 0} (xs : List A) → xs ++ [] ≡ xs
append_nil [] = refl
append_nil (y ∷ ys) = ap (λ z. y ∷ z) (append_nil ys)

append_one : {A : Type 0} (xs : List A) (t : A) (ts : List A) → (xs ++ t ∷ []) ++ ts ≡ xs ++ (t ∷ ts)
append_one [] t ts = refl
append_one (a ∷ xs) t ts = ap (λ z. a ∷ z) (append_one xs t ts)

-- what `print` takes
abbrev pub PrintedSort : Sort → Type 0
PrintedSort t = (int ≡ t) ⊎ ((boolean ≡ t) ⊎ (text ≡ t))

-- none, or one of these
abbrev pub PrintedSorts : List Sort → Type 0
PrintedSorts [] = Unit {0}
PrintedSorts (t ∷ []) = PrintedSort t
PrintedSorts (t ∷ u ∷ ts) = ⊥

-- no argument, or one that is printed
abbrev pub PrintsMade : (ℕ → Sort → Type 0) → List Piece → Type 0
PrintsMade waits [] = Unit {0}
PrintsMade waits (p ∷ []) = (t : Sort) × (PrintedSort t × IsMade waits t p)
PrintsMade waits (p ∷ q ∷ ps) = ⊥

prints_of : (waits : ℕ → Sort → Type 0) (ts : List Sort) (ps : List Piece) → PrintedSorts ts → AreMade waits ts ps → PrintsMade waits ps
prints_of waits [] [] f h = tt
prints_of waits [] (p ∷ ps) f h = absurd h
prints_of waits (t ∷ []) [] f h = absurd h
prints_of waits (t ∷ []) (p ∷ []) f h = (t, (f, h.0))
prints_of waits (t ∷ []) (p ∷ q ∷ ps) f h = absurd h.1
prints_of waits (t ∷ u ∷ ts) ps f h = absurd f

made_one : (waits waits' : ℕ → Sort → Type 0) → ((n : ℕ) (t : Sort) → waits n t → waits' n t) → (t : Sort) (p : Piece) → IsMade waits t p → IsMade waits' t p
made_one waits waits' f t (piece.Known y) h = h
made_one waits waits' f t (piece.Token n) h = f n t h

prints_more : (waits waits' : ℕ → Sort → Type 0) → ((n : ℕ) (t : Sort) → waits n t → waits' n t) → (ps : List Piece) → PrintsMade waits ps → PrintsMade waits' ps
prints_more waits waits' f [] h = tt
prints_more waits waits' f (p ∷ []) h = (h.0, (h.1.0, made_one waits waits' f h.0 p h.1.1))
prints_more waits waits' f (p ∷ q ∷ ps) h = absurd h

-- ---- targets

-- what a target means
abbrev pub TargetFor : Aim → Target → Type 0
TargetFor aim.Own (target.Actor n) = Unit {0}
TargetFor aim.Own target.Output = ⊥
TargetFor (aim.Output at) (target.Actor n) = ⊥
TargetFor (aim.Output at) target.Output = Unit {0}
TargetFor (aim.Actor e) (target.Actor n) = Unit {0}
TargetFor (aim.Actor e) target.Output = ⊥

abbrev pub TargetIfAny : Aim → Option Target → Type 0
TargetIfAny a None = Unit {0}
TargetIfAny a (Some to) = TargetFor a to

own_target : (l : Value-F Value) → TargetIfAny aim.Own (m.target_in l)
own_target (Value-F.Ref n) = tt
own_target (Value-F.Int n) = tt
own_target (Value-F.Bool b) = tt
own_target (Value-F.Str w) = tt
own_target (Value-F.Array xs) = tt
own_target Value-F.Null = tt

actor_target : (e : Expr) (l : Value-F Value) → TargetIfAny (aim.Actor e) (m.target_in l)
actor_target e (Value-F.Ref n) = tt
actor_target e (Value-F.Int n) = tt
actor_target e (Value-F.Bool b) = tt
actor_target e (Value-F.Str w) = tt
actor_target e (Value-F.Array xs) = tt
actor_target e Value-F.Null = tt

-- the token of a local, if it is one
abbrev pub tok_in : Option (Option Sort) → Option Sort
tok_in None = None
tok_in (Some k) = k

abbrev pub tok_at : Option ℕ → List (Option Sort) → Option Sort
tok_at None ks = None
tok_at (Some i) ks = tok_in (slice_get ks i)

-- the type of the token of this name, if the name is a token's
abbrev pub tokens_of : Scope → List (Option Sort) → List ℕ → Option Sort
tokens_of env ks n = tok_at (position (λ (v : Variable). bytes_eq v.name n) env.locals) ks

module _ (bs : List Behavior) (sigs : Signatures) (g : Signature) (from : ℕ) where
  abbrev pub WaitsIn : Sorts → Context → ℕ → Sort → Type 0
  WaitsIn sorts r n t = sorts (Tok r.me n) ≡ Some t

  abbrev pub OwesIn : Sorts → Context → Reply → Sort → Type 0
  OwesIn sorts r = OwesNew sorts r.reply g.result

  -- a message to an actor
  pub record CallMade (sorts : Sorts) (r : Context) (y : Message) : Type 0 where
    pub signature : Signature
    pub is : signature_at sigs y.behavior y.handler ≡ Some signature
    pub args : AreMade (WaitsIn sorts r) signature.params y.args
    pub reply : OwesIn sorts r y.reply signature.result

  -- a message to the output
  pub record PrintMade (sorts : Sorts) (r : Context) (y : Message) : Type 0 where
    pub behavior : y.behavior ≡ OUTPUT
    pub handler : y.handler ≤ PRINTLN
    pub args : PrintsMade (WaitsIn sorts r) y.args
    pub reply : OwesIn sorts r y.reply void_sort

  abbrev pub MadeTo : Sorts → Context → Target → Message → Type 0
  MadeTo sorts r (target.Actor n) y = CallMade sorts r y
  MadeTo sorts r target.Output y = PrintMade sorts r y

  abbrev pub MessageMade : Sorts → Context → Message → Type 0
  MessageMade sorts r y = MadeTo sorts r y.target y

  abbrev pub JoinMade : Sorts → Context → Join → Type 0
  JoinMade sorts r j = IsTypedJoin (OwesIn sorts r) (λ t. (at : ℕ) → sorts (Place r.me j.number at) ≡ Some t) j

  -- the tokens in scope have these types, and no other name is a token
  pub record TokensIn (tokens : List ℕ → Option Sort) (sorts : Sorts) (r : Context) (s : State) : Type 0 where
    pub has : (n : List ℕ) (t : Sort) → tokens n ≡ Some t → (k : ℕ) × ((c.token_named n s ≡ Some k) × (sorts (Tok r.me k) ≡ Some t))
    pub none : (n : List ℕ) → tokens n ≡ None → c.token_named n s ≡ None

  -- beside each local the type of its token, or none where it is a value
  abbrev pub AreLocals : Sorts → Context → List (Option Sort) → List Local → Type 0
  AreLocals sorts r [] [] = Unit {0}
  AreLocals sorts r [] (l ∷ ls) = ⊥
  AreLocals sorts r (k ∷ ks) [] = ⊥
  AreLocals sorts r (None ∷ ks) (l ∷ ls) = (c.token_in l.held ≡ None) × AreLocals sorts r ks ls
  AreLocals sorts r (Some t ∷ ks) (l ∷ ls) = ((n : ℕ) × ((c.token_in l.held ≡ Some n) × (sorts (Tok r.me n) ≡ Some t))) × AreLocals sorts r ks ls

  locals_more : (sorts later : Sorts) → ((q : Reply) (t : Sort) → sorts q ≡ Some t → later q ≡ Some t) → (r : Context) (ks : List (Option Sort)) (ls : List Local) → AreLocals sorts r ks ls → AreLocals later r ks ls
  locals_more sorts later f r [] [] h = tt
  locals_more sorts later f r [] (l ∷ ls) h = absurd h
  locals_more sorts later f r (None ∷ ks) [] h = absurd h
  locals_more sorts later f r (Some t ∷ ks) [] h = absurd h
  locals_more sorts later f r (None ∷ ks) (l ∷ ls) h = (h.0, locals_more sorts later f r ks ls h.1)
  locals_more sorts later f r (Some t ∷ ks) (l ∷ ls) h = ((h.0.0, (h.0.1.0, f (Tok r.me h.0.0) t h.0.1.1)), locals_more sorts later f r ks ls h.1)

  local_has : (sorts : Sorts) (r : Context) (ks : List (Option Sort)) (ls : List Local) → AreLocals sorts r ks ls → (i : ℕ) (t : Sort) → tok_in (slice_get ks i) ≡ Some t → (k : ℕ) × ((c.token_of_local (slice_get ls i) ≡ Some k) × (sorts (Tok r.me k) ≡ Some t))
  local_has sorts r [] ls h i t e = absurd cc
  local_has sorts r (None ∷ ks) [] h i t e = absurd h
  local_has sorts r (Some u ∷ ks) [] h i t e = absurd h
  local_has sorts r (None ∷ ks) (l ∷ ls) h zero t e = absurd cc
  local_has sorts r (Some u ∷ ks) (l ∷ ls) h zero t e = (h.0.0, (h.0.1.0, h.0.1.1 ∙ e))
  local_has sorts r (None ∷ ks) (l ∷ ls) h (suc i) t e = local_has sorts r ks ls h.1 i t e
  local_has sorts r (Some u ∷ ks) (l ∷ ls) h (suc i) t e = local_has sorts r ks ls h.1 i t e

  local_none : (sorts : Sorts) (r : Context) (ks : List (Option Sort)) (ls : List Local) → AreLocals sorts r ks ls → (i : ℕ) → tok_in (slice_get ks i) ≡ None → c.token_of_local (slice_get ls i) ≡ None
  local_none sorts r [] [] h i e = refl
  local_none sorts r [] (l ∷ ls) h i e = absurd h
  local_none sorts r (None ∷ ks) [] h i e = absurd h
  local_none sorts r (Some u ∷ ks) [] h i e = absurd h
  local_none sorts r (None ∷ ks) (l ∷ ls) h zero e = h.0
  local_none sorts r (Some u ∷ ks) (l ∷ ls) h zero e = absurd cc
  local_none sorts r (None ∷ ks) (l ∷ ls) h (suc i) e = local_none sorts r ks ls h.1 i e
  local_none sorts r (Some u ∷ ks) (l ∷ ls) h (suc i) e = local_none sorts r ks ls h.1 i e

  len_map : (n : List ℕ) (ls : List Local) → position_or_len (λ (v : Variable). bytes_eq v.name n) (map c.variable_of ls) ≡ position_or_len (λ (l : Local). bytes_eq l.name n) ls
  len_map n [] = refl
  len_map n (l ∷ ls) = ap (λ k. cond (not (bytes_eq l.name n)) (1 + k) 0) (len_map n ls)

  as_many : (ls : List Local) → length (map c.variable_of ls) ≡ length ls
  as_many [] = refl
  as_many (l ∷ ls) = ap suc (as_many ls)

  position_map : (n : List ℕ) (ls : List Local) → position (λ (v : Variable). bytes_eq v.name n) (map c.variable_of ls) ≡ position (λ (l : Local). bytes_eq l.name n) ls
  position_map n ls = λ i. cond (nat_lt (len_map n ls i) (as_many ls i)) (Some (len_map n ls i)) None

  tokens_in : (sorts : Sorts) (r : Context) (env : Scope) (ks : List (Option Sort)) (s : State) → env ≡ scope_of r s → AreLocals sorts r ks s.locals → TokensIn (tokens_of env ks) sorts r s
  unfolding c.local_named
  tokens_in sorts r env ks s e h = record {
    has = λ n t i. has n (position (λ (l : Local). bytes_eq l.name n) s.locals) t (sym (same n) ∙ i);
    none = λ n i. none n (position (λ (l : Local). bytes_eq l.name n) s.locals) (sym (same n) ∙ i);
  }
    where
      same : (n : List ℕ) → tokens_of env ks n ≡ tok_at (position (λ (l : Local). bytes_eq l.name n) s.locals) ks
      same n = ap (λ (z : Scope). tokens_of z ks n) e ∙ ap (λ o. tok_at o ks) (position_map n s.locals)

      has : (n : List ℕ) (o : Option ℕ) (t : Sort) → tok_at o ks ≡ Some t → (k : ℕ) × ((c.token_at o s ≡ Some k) × (sorts (Tok r.me k) ≡ Some t))
      has n None t i = absurd cc
      has n (Some j) t i = local_has sorts r ks s.locals h j t i

      none : (n : List ℕ) (o : Option ℕ) → tok_at o ks ≡ None → c.token_at o s ≡ None
      none n None i = refl
      none n (Some j) i = local_none sorts r ks s.locals h j i

  -- the places of the innermost join have this type
  abbrev pub PlacesIn : Sorts → Context → List EnclosingJoin → Option Sort → Type 0
  PlacesIn sorts r [] item = item ≡ None
  PlacesIn sorts r (i ∷ is) item = (t : Sort) × ((item ≡ Some t) × ((at : ℕ) → sorts (Place r.me i.join at) ≡ Some t))

  module _ (r : Context) (env : Scope) (tokens : List (Option Sort)) (item : Option Sort) where
    pub record Holds (sorts : Sorts) (s : State) : Type 0 where
      pub scope : env ≡ scope_of r s
      pub sits : Sits (HasFields bs) r s
      pub low : from ≤ s.serial
      pub new : (q : Reply) (t : Sort) → sorts q ≡ Some t → IsNewReply r.me from s.serial q
      pub named : AreLocals sorts r tokens s.locals
      pub places : PlacesIn sorts r r.within item
      pub messages : EachOf (MessageMade sorts r) s.messages
      pub joins : EachOf (JoinMade sorts r) s.joins

  -- ---- more addresses have types

  owes_more : (sorts later : Sorts) → ((q : Reply) (t : Sort) → sorts q ≡ Some t → later q ≡ Some t) → (r : Context) (q : Reply) (t : Sort) → OwesIn sorts r q t → OwesIn later r q t
  owes_more sorts later f r q t (inl e) = inl e
  owes_more sorts later f r q t (inr (inl e)) = inr (inl e)
  owes_more sorts later f r q t (inr (inr e)) = inr (inr (f q t e))

  to_more : (sorts later : Sorts) → ((q : Reply) (t : Sort) → sorts q ≡ Some t → later q ≡ Some t) → (r : Context) (to : Target) (y : Message) → MadeTo sorts r to y → MadeTo later r to y
  to_more sorts later f r target.Output y h = record {
    behavior = h.behavior;
    handler = h.handler;
    args = prints_more (WaitsIn sorts r) (WaitsIn later r) (λ k t e. f (Tok r.me k) t e) y.args h.args;
    reply = owes_more sorts later f r y.reply void_sort h.reply;
  }
  to_more sorts later f r (target.Actor n) y h = record {
    signature = h.signature;
    is = h.is;
    args = made_more (WaitsIn sorts r) (WaitsIn later r) (λ k t e. f (Tok r.me k) t e) h.signature.params y.args h.args;
    reply = owes_more sorts later f r y.reply h.signature.result h.reply;
  }

  places_more : (sorts later : Sorts) → ((q : Reply) (t : Sort) → sorts q ≡ Some t → later q ≡ Some t) → (r : Context) (is : List EnclosingJoin) (item : Option Sort) → PlacesIn sorts r is item → PlacesIn later r is item
  places_more sorts later f r [] item h = h
  places_more sorts later f r (i ∷ is) item h = (h.0, (h.1.0, λ at. f (Place r.me i.join at) h.0 (h.1.1 at)))

  joins_more : (sorts later : Sorts) → ((q : Reply) (t : Sort) → sorts q ≡ Some t → later q ≡ Some t) → (r : Context) (js : List Join) → EachOf (JoinMade sorts r) js → EachOf (JoinMade later r) js
  joins_more sorts later f r js h = each_more (JoinMade sorts r) (JoinMade later r) js (λ j o. join_more (OwesIn sorts r) (OwesIn later r) (λ t. (at : ℕ) → sorts (Place r.me j.number at) ≡ Some t) (λ t. (at : ℕ) → later (Place r.me j.number at) ≡ Some t) (owes_more sorts later f r) (λ t e at. f (Place r.me j.number at) t (e at)) j o) h

  -- in the block of a join the state is typed by more addresses
  pub record Within (r : Context) (env : Scope) (tokens : List (Option Sort)) (item : Option Sort) (sorts : Sorts) (u : State) : Type 0 where
    pub later : Sorts
    pub grows : (q : Reply) (t : Sort) → sorts q ≡ Some t → later q ≡ Some t
    pub held : Holds r env tokens item later u

  module _ (r : Context) (can : Can bs r) (env : Scope) (tokens : List (Option Sort)) (item : Option Sort) where
    abbrev pub Held : Sorts → State → Type 0
    Held = Holds r env tokens item

    went_held : (sorts : Sorts) (s t : State) → Held sorts s → Went (HasFields bs) r s t → Held sorts t
    went_held sorts s t h w = record {
      scope = anywhere.scope_stays bs r s t env h.scope w;
      sits = w.sits;
      low = omega (arith, h.low, w.serial);
      new = λ q u e. new_more r.me from s.serial t.serial w.serial q (h.new q u e);
      named = subst (AreLocals sorts r tokens) (sym w.locals) h.named;
      places = h.places;
      messages = subst (EachOf (MessageMade sorts r)) (sym w.messages) h.messages;
      joins = subst (EachOf (JoinMade sorts r)) (sym w.joins) h.joins;
    }

    pub eval_held : (sorts : Sorts) (e : Expr) (k : Kind) → Judgement bs e env k → (s : State) → Held sorts s → After (λ y t. Held sorts t × Has k y) (eval e r s)
    eval_held sorts e k j s h = after_more (λ y t. Went (HasFields bs) r s t × Has k y) (λ y t. Held sorts t × Has k y) (eval e r s) (λ y t p. (went_held sorts s t h p.0, p.1)) (anywhere.eval_keeps bs e env k j r can s h.scope h.sits).holds

    -- ---- arguments

    -- the stage before has this number, and this type
    abbrev pub BeforeIs : Sorts → Option ℕ → Option Sort → Type 0
    BeforeIs sorts number t = (u : Sort) → t ≡ Some u → (n : ℕ) × ((number ≡ Some n) × (sorts (Tok r.me n) ≡ Some u))

    -- what typing gives of an argument: a token of the type, or an expression that is no token
    abbrev pub ArgOf : Arg → Option Sort → Sort → Type 0
    ArgOf (arg.Token at) before t = before ≡ Some t
    ArgOf (arg.Expr e) before t =
        ((id : Ident) × ((m.name_alone (out-Expr e) ≡ Some id) × (tokens_of env tokens id.text ≡ Some t)))
        ⊎ (((id : Ident) → m.name_alone (out-Expr e) ≡ Some id → tokens_of env tokens id.text ≡ None) × ((k : Kind) × (Judgement bs e env k × Assignable k t)))

    abbrev pub ArgsOf : List Arg → Option Sort → List Sort → Type 0
    ArgsOf [] before [] = Unit {0}
    ArgsOf [] before (t ∷ ts) = ⊥
    ArgsOf (a ∷ more) before [] = ⊥
    ArgsOf (a ∷ more) before (t ∷ ts) = ArgOf a before t × ArgsOf more before ts

    no_token : (e : Expr) (sorts : Sorts) (s : State) → Held sorts s → ((id : Ident) → m.name_alone (out-Expr e) ≡ Some id → tokens_of env tokens id.text ≡ None) → m.token_of e s ≡ None
    unfolding m.token_of
    no_token e sorts s h f = at (m.name_alone (out-Expr e)) refl
      where
        at : (o : Option Ident) → m.name_alone (out-Expr e) ≡ o → m.token_by o s ≡ None
        at None is = refl
        at (Some id) is = (tokens_in sorts r env tokens s h.scope h.named).none id.text (f id is)

    some_token : (e : Expr) (s : State) (id : Ident) (k : ℕ) → m.name_alone (out-Expr e) ≡ Some id → c.token_named id.text s ≡ Some k → m.token_of e s ≡ Some k
    unfolding m.token_of
    some_token e s id k is e2 = ap (λ o. m.token_by o s) is ∙ e2

    arg_made : (sorts : Sorts) (a : Arg) (number : Option ℕ) (before : Option Sort) (t : Sort) → BeforeIs sorts number before → ArgOf a before t → (s : State) → Held sorts s → After (λ p u. Held sorts u × IsMade (WaitsIn sorts r) t p) (m.piece_of a r number s)
    arg_made sorts (arg.Token at) number before t b f s h = let z = b t f in (h, subst (λ o. IsMade (WaitsIn sorts r) t (m.piece_before o)) (sym z.1.0) z.1.1)
    arg_made sorts (arg.Expr e) number before t b (inl f) s h =
        let z = (tokens_in sorts r env tokens s h.scope h.named).has f.0.text t f.1.1 in
        subst (λ o. After (λ p u. Held sorts u × IsMade (WaitsIn sorts r) t p) (m.piece_by o e r s)) (sym (some_token e s f.0 z.0 f.1.0 z.1.0)) (h, z.1.1)
    arg_made sorts (arg.Expr e) number before t b (inr f) s h =
        subst (λ o. After (λ p u. Held sorts u × IsMade (WaitsIn sorts r) t p) (m.piece_by o e r s)) (sym (no_token e sorts s h f.0))
        (then_after (λ y u. Held sorts u × Has f.1.0 y) (λ p u. Held sorts u × IsMade (WaitsIn sorts r) t p) (eval e r s) (λ y. pure (piece.Known y)) (eval_held sorts e f.1.0 f.1.1.0 s h) (λ y u q. (q.0, anywhere.assigned bs f.1.0 t f.1.1.1 y q.1)))

    args_made : (sorts : Sorts) (more : List Arg) (number : Option ℕ) (before : Option Sort) (ts : List Sort) → BeforeIs sorts number before → ArgsOf more before ts → (done : List Sort) (ps : List Piece) → AreMade (WaitsIn sorts r) done ps → (s : State) → Held sorts s →
        After (λ qs u. Held sorts u × AreMade (WaitsIn sorts r) (done ++ ts) qs) (m.eval_args more r number ps s)
    args_made sorts [] number before [] b f done ps l s h = (h, subst (λ z. AreMade (WaitsIn sorts r) z ps) (sym (append_nil done)) l)
    args_made sorts [] number before (t ∷ ts) b f done ps l s h = absurd f
    args_made sorts (a ∷ more) number before [] b f done ps l s h = absurd f
    args_made sorts (a ∷ more) number before (t ∷ ts) b f done ps l s h =
        then_after (λ p u. Held sorts u × IsMade (WaitsIn sorts r) t p) (λ qs u. Held sorts u × AreMade (WaitsIn sorts r) (done ++ (t ∷ ts)) qs) (m.piece_of a r number s) (λ p. m.eval_args more r number (ps ++ p ∷ [])) (arg_made sorts a number before t b f.0 s h) (λ p u q.
        subst (λ z. After (λ qs u. Held sorts u × AreMade (WaitsIn sorts r) z qs) (m.eval_args more r number (ps ++ p ∷ []) u)) (append_one done t ts)
        (args_made sorts more number before ts b f.1 (done ++ t ∷ []) (ps ++ p ∷ []) (made_push (WaitsIn sorts r) done ps t p l q.1) u q.0))

    -- ---- delays and targets

    abbrev pub DelaysOf : List Property → Type 0
    DelaysOf [] = Unit {0}
    DelaysOf (property.Delay at time ∷ more) = ((k : Kind) × Judgement bs time env k) × DelaysOf more
    DelaysOf (property.WaitFor at names ∷ more) = DelaysOf more

    delays_held : (sorts : Sorts) (ps : List Property) → DelaysOf ps → (last : Option Value) (s : State) → Held sorts s → After (λ y u. Held sorts u) (m.eval_delay ps last r s)
    delays_held sorts [] f last s h = h
    delays_held sorts (property.Delay at time ∷ more) f last s h = then_after (λ y u. Held sorts u × Has f.0.0 y) (λ y u. Held sorts u) (eval time r s) (λ y. m.eval_delay more (Some y) r) (eval_held sorts time f.0.0 f.0.1 s h) (λ y u q. delays_held sorts more f.1 (Some y) u q.0)
    delays_held sorts (property.WaitFor at names ∷ more) f last s h = delays_held sorts more f last s h

    abbrev pub AimOf : Aim → Type 0
    AimOf aim.Own = Unit {0}
    AimOf (aim.Output at) = Unit {0}
    AimOf (aim.Actor e) = (k : Kind) × Judgement bs e env k

    -- the state stays typed, and what is evaluated means such a target
    abbrev Aimed : Sorts → Aim → Option Value → State → Type 0
    Aimed sorts y o u = Held sorts u × TargetIfAny y (m.target_of o)

    aimed_held : (sorts : Sorts) (y : Aim) → AimOf y → (s : State) → Held sorts s → After (Aimed sorts y) (m.eval_aim y r s)
    aimed_held sorts aim.Own f s h = (h, own_target (out-Value (Ref r.me)))
    aimed_held sorts (aim.Output at) f s h = (h, tt)
    aimed_held sorts (aim.Actor e) f s h = then_after (λ y u. Held sorts u × Has f.0 y) (Aimed sorts (aim.Actor e)) (eval e r s) (λ y. pure (Some y)) (eval_held sorts e f.0 f.1 s h) (λ y u q. (q.0, actor_target e (out-Value y)))

    -- ---- the message takes its number, whose reply has this type

    -- the state is typed by more addresses
    abbrev pub Reach : Sorts → State → Type 0
    Reach sorts t = Within r env tokens item sorts t

    pub record Numbered (sorts : Sorts) (result : Sort) (slot : Option Sort) (n : ℕ) (t : State) : Type 0 where
      pub reach : Reach sorts t
      pub typed : reach.later (Tok r.me n) ≡ Some result
      pub slots : (at : ℕ) → (u : Sort) → slot ≡ Some u → reach.later (Place r.me n at) ≡ Some u

    numbered : (sorts : Sorts) (result : Sort) (slot : Option Sort) (s : State) → Held sorts s → Numbered sorts result slot s.serial (record s { serial = s.serial + 1 })
    numbered sorts result slot s h = record {
      reach = record { later = with_token r.me s.serial result slot sorts; grows = stays; held = held };
      typed = ap (λ b. if b then Some result else sorts (Tok r.me s.serial)) (this_token r.me s.serial);
      slots = λ at u e. ap (λ b. if b then slot else sorts (Place r.me s.serial at)) (this_place r.me s.serial at) ∙ e;
    }
      where
        stays : (q : Reply) (u : Sort) → sorts q ≡ Some u → with_token r.me s.serial result slot sorts q ≡ Some u
        stays q u e = ap (λ b. if b then assign result slot q else sorts q) (old_token r.me from s.serial q (h.new q u e)) ∙ e

        new : (q : Reply) (u : Sort) (b : Bool) → is_token r.me s.serial q ≡ b → (if b then assign result slot q else sorts q) ≡ Some u → IsNewReply r.me from (s.serial + 1) q
        new q u true is e = new_token r.me from s.serial q h.low is
        new q u false is e = new_more r.me from s.serial (s.serial + 1) (omega arith) q (h.new q u e)

        held : Held (with_token r.me s.serial result slot sorts) (record s { serial = s.serial + 1 })
        held = record {
          scope = h.scope;
          sits = record { locals = h.sits.locals; fields = h.sits.fields; actors = h.sits.actors; creations = h.sits.creations };
          low = omega (arith, h.low);
          new = λ q u e. new q u (is_token r.me s.serial q) refl e;
          named = locals_more sorts (with_token r.me s.serial result slot sorts) stays r tokens s.locals h.named;
          places = places_more sorts (with_token r.me s.serial result slot sorts) stays r r.within item h.places;
          messages = each_more (MessageMade sorts r) (MessageMade (with_token r.me s.serial result slot sorts) r) s.messages (λ y o. to_more sorts (with_token r.me s.serial result slot sorts) stays r y.target y o) h.messages;
          joins = joins_more sorts (with_token r.me s.serial result slot sorts) stays r s.joins h.joins;
        }

    next_held : (sorts : Sorts) (result : Sort) (slot : Option Sort) (count : ℕ) (s : State) → Held sorts s → After (Numbered sorts result slot) (c.take_limited_serial count s)
    next_held sorts result slot count s h = at (nat_lt count 1024)
      where
        by : (b : Bool) → After (Numbered sorts result slot) (if b then Ok (s.serial, record s { serial = s.serial + 1 }) else Err TooManyMessages)
        by true = numbered sorts result slot s h
        by false = tt

        at : (b : Bool) → After (Numbered sorts result slot) (if b then c.take_serial s else Err TooManyMessages)
        at true = by (nat_lt s.serial 18446744073709551615)
        at false = tt

    -- ---- to whom the reply is owed

    abbrev pub EndOf : End → Sort → Type 0
    EndOf end.Nobody result = Unit {0}
    EndOf end.Token result = Unit {0}
    EndOf end.Place result = item ≡ Some result
    EndOf end.Caller result = result ≡ g.result

    placed : (sorts : Sorts) (result : Sort) → item ≡ Some result → (is : List EnclosingJoin) → PlacesIn sorts r is item → (s : State) → Held sorts s → After (λ q u. Held sorts u × OwesIn sorts r q result) (m.slot_reply is r s)
    placed sorts result e [] p s h = (h, inl refl)
    placed sorts result e (i ∷ is) p s h = then_after (λ k u. Held sorts u) (λ q u. Held sorts u × OwesIn sorts r q result) (c.take_slot s) (λ k. pure (Place r.me i.join k)) (at (nat_lt s.places 4096)) (λ k u z. (z, inr (inr (subst (λ t. sorts (Place r.me i.join k) ≡ Some t) right (p.1.1 k)))))
      where
        right : p.0 ≡ result
        right = let f : Some p.0 ≡ Some result = sym p.1.0 ∙ e in cc

        kept : Held sorts (record s { places = s.places + 1 })
        kept = record { scope = h.scope; sits = record { locals = h.sits.locals; fields = h.sits.fields; actors = h.sits.actors; creations = h.sits.creations }; low = h.low; new = h.new; named = h.named; places = h.places; messages = h.messages; joins = h.joins }

        at : (b : Bool) → After (λ k u. Held sorts u) (if b then Ok (s.places, record s { places = s.places + 1 }) else Err TooManyMessages)
        at true = kept
        at false = tt

    owed_held : (sorts : Sorts) (result : Sort) (last : End) → EndOf last result → (n : ℕ) → sorts (Tok r.me n) ≡ Some result → (s : State) → Held sorts s → After (λ q u. Held sorts u × OwesIn sorts r q result) (m.reply_of_stage last r n s)
    owed_held sorts result end.Nobody f n t s h = (h, inl refl)
    owed_held sorts result end.Token f n t s h = (h, inr (inr t))
    owed_held sorts result end.Place f n t s h = placed sorts result f r.within h.places s h
    owed_held sorts result end.Caller f n t s h = (h, inr (inl (refl, f)))

    -- ---- the stage

    -- the handler that a message goes to has this signature: one of an actor of the program, or one that prints
    abbrev pub AddressOf : Aim → Signature → m.HandlerId → Type 0
    AddressOf aim.Own w id = signature_at sigs id.behavior id.handler ≡ Some w
    AddressOf (aim.Actor e) w id = signature_at sigs id.behavior id.handler ≡ Some w
    AddressOf (aim.Output at) w id = (id.behavior ≡ OUTPUT) × ((id.handler ≤ PRINTLN) × (PrintedSorts w.params × (w.result ≡ void_sort)))

    -- what typing gives of a message
    pub record SendOf (y : Send) (before : Option Sort) (w : Signature) : Type 0 where
      pub aim : AimOf y.aim
      pub args : ArgsOf y.args before w.params
      pub delays : DelaysOf y.properties
      pub address : AddressOf y.aim w (m.aim_handler_id y.aim y.handler.text (target_behavior y.aim env) r)

    address_is : (y : Send) (s : State) → env ≡ scope_of r s → m.handler_id_of y r s ≡ m.aim_handler_id y.aim y.handler.text (target_behavior y.aim env) r
    unfolding m.handler_id_of
    address_is y s e = ap (λ z. m.aim_handler_id y.aim y.handler.text (target_behavior y.aim z) r) (sym e)

    made_to : (sorts : Sorts) (a : Aim) (to : Target) (w : Signature) (id : m.HandlerId) (y : Message) → TargetFor a to → AddressOf a w id → id ≡ record { behavior = y.behavior; handler = y.handler } → AreMade (WaitsIn sorts r) w.params y.args → OwesIn sorts r y.reply w.result → MadeTo sorts r to y
    made_to sorts aim.Own (target.Actor n) w id y t f same ps q = record { signature = w; is = subst (λ (a : m.HandlerId). signature_at sigs a.behavior a.handler ≡ Some w) same f; args = ps; reply = q }
    made_to sorts aim.Own target.Output w id y t f same ps q = absurd t
    made_to sorts (aim.Actor e) (target.Actor n) w id y t f same ps q = record { signature = w; is = subst (λ (a : m.HandlerId). signature_at sigs a.behavior a.handler ≡ Some w) same f; args = ps; reply = q }
    made_to sorts (aim.Actor e) target.Output w id y t f same ps q = absurd t
    made_to sorts (aim.Output at) (target.Actor n) w id y t f same ps q = absurd t
    made_to sorts (aim.Output at) target.Output w id y t f same ps q = record {
      behavior = subst (λ (a : m.HandlerId). a.behavior ≡ OUTPUT) same f.0;
      handler = subst (λ (a : m.HandlerId). a.handler ≤ PRINTLN) same f.1.0;
      args = prints_of (WaitsIn sorts r) w.params y.args f.1.1.0 ps;
      reply = subst (OwesIn sorts r y.reply) f.1.1.1 q;
    }

    added : (sorts : Sorts) (y : Message) (s : State) → Held sorts s → MessageMade sorts r y → Held sorts (record s { messages = s.messages ++ y ∷ [] })
    added sorts y s h o = record { scope = h.scope; sits = record { locals = h.sits.locals; fields = h.sits.fields; actors = h.sits.actors; creations = h.sits.creations }; low = h.low; new = h.new; named = h.named; places = h.places; messages = each_append (MessageMade sorts r) s.messages (y ∷ []) h.messages (o, tt); joins = h.joins }

    addressed_held : (sorts : Sorts) (y : Send) (w : Signature) (number : Option ℕ) (before : Option Sort) → SendOf y before w → (last : End) → EndOf last w.result → (to : Option Target) → TargetIfAny y.aim to → (ps : List Piece) → AreMade (WaitsIn sorts r) w.params ps → (delay : Option ℕ) (s : State) → Held sorts s → After (Numbered sorts w.result None) (m.send_if_valid y r number last to ps delay s)
    addressed_held sorts y w number before f last e None goes ps l delay s h = tt
    addressed_held sorts y w number before f last e (Some to) goes ps l None s h = tt
    addressed_held sorts y w number before f last e (Some to) goes ps l (Some delay) s h =
        then_after (Numbered sorts w.result None) (Numbered sorts w.result None) (m.take_message_serial s) (λ n. m.reply_of_stage last r n >>= (λ q. m.send_message y r number to ps delay n q)) (next_held sorts w.result None (length s.messages) s h) (λ n u z.
        then_after (λ q t. Held z.reach.later t × OwesIn z.reach.later r q w.result) (Numbered sorts w.result None) (m.reply_of_stage last r n u) (λ q. m.send_message y r number to ps delay n q) (owed_held z.reach.later w.result last e n z.typed u z.reach.held) (λ q t p.
        record {
          reach = record {
            later = z.reach.later;
            grows = z.reach.grows;
            held = added z.reach.later (m.message_with y r number to ps delay n q t) t p.0
                (made_to z.reach.later y.aim to w (m.aim_handler_id y.aim y.handler.text (target_behavior y.aim env) r) (m.message_with y r number to ps delay n q t) goes f.address (sym (address_is y t p.0.scope))
                (made_more (WaitsIn sorts r) (WaitsIn z.reach.later r) (λ k v e. z.reach.grows (Tok r.me k) v e) w.params ps l) p.1);
          };
          typed = z.typed;
          slots = z.slots;
        }))

    -- a message stage keeps the state typed, and its number has the type of its reply
    pub message_held : (sorts : Sorts) (y : Send) (w : Signature) (number : Option ℕ) (before : Option Sort) → BeforeIs sorts number before → SendOf y before w → (last : End) → EndOf last w.result → (s : State) → Held sorts s → After (Numbered sorts w.result None) (m.message y r number last s)
    unfolding m.message
    message_held sorts y w number before b f last e s h =
        then_after (Aimed sorts y.aim) (Numbered sorts w.result None) (m.eval_aim y.aim r s) _ (aimed_held sorts y.aim f.aim s h) (λ to u h1.
        then_after (λ ps t. Held sorts t × AreMade (WaitsIn sorts r) w.params ps) (Numbered sorts w.result None) (m.eval_args y.args r number [] u) _ (args_made sorts y.args number before w.params b f.args [] [] tt u h1.0) (λ ps t q.
        then_after (λ d z. Held sorts z) (Numbered sorts w.result None) (m.eval_delay y.properties None r t) _ (delays_held sorts y.properties f.delays None t q.0) (λ d z h3.
        addressed_held sorts y w number before f last e (m.target_of to) h1.1 ps q.1 (m.delay_of d) z h3)))

    -- ---- a join stage

    inside_made : (sorts : Sorts) (n : ℕ) (before : Option ℕ) (to : Target) (y : Message) → MadeTo sorts r to y → MadeTo sorts (t.within_join n before r) to y
    inside_made sorts n before target.Output y h = record { behavior = h.behavior; handler = h.handler; args = h.args; reply = h.reply }
    inside_made sorts n before (target.Actor k) y h = record { signature = h.signature; is = h.is; args = h.args; reply = h.reply }

    outside_made : (sorts : Sorts) (n : ℕ) (before : Option ℕ) (to : Target) (y : Message) → MadeTo sorts (t.within_join n before r) to y → MadeTo sorts r to y
    outside_made sorts n before target.Output y h = record { behavior = h.behavior; handler = h.handler; args = h.args; reply = h.reply }
    outside_made sorts n before (target.Actor k) y h = record { signature = h.signature; is = h.is; args = h.args; reply = h.reply }

    abbrev pub InBlock : ℕ → Option ℕ → Sort → Sorts → State → Type 0
    InBlock n before slot sorts u = Within (t.within_join n before r) env tokens (Some slot) sorts u

    inside_locals : (sorts : Sorts) (n : ℕ) (before : Option ℕ) (ks : List (Option Sort)) (ls : List Local) → AreLocals sorts r ks ls → AreLocals sorts (t.within_join n before r) ks ls
    inside_locals sorts n before [] [] h = tt
    inside_locals sorts n before [] (l ∷ ls) h = absurd h
    inside_locals sorts n before (None ∷ ks) [] h = absurd h
    inside_locals sorts n before (Some t ∷ ks) [] h = absurd h
    inside_locals sorts n before (None ∷ ks) (l ∷ ls) h = (h.0, inside_locals sorts n before ks ls h.1)
    inside_locals sorts n before (Some t ∷ ks) (l ∷ ls) h = (h.0, inside_locals sorts n before ks ls h.1)

    outside_locals : (sorts : Sorts) (n : ℕ) (before : Option ℕ) (ks : List (Option Sort)) (ls : List Local) → AreLocals sorts (t.within_join n before r) ks ls → AreLocals sorts r ks ls
    outside_locals sorts n before [] [] h = tt
    outside_locals sorts n before [] (l ∷ ls) h = absurd h
    outside_locals sorts n before (None ∷ ks) [] h = absurd h
    outside_locals sorts n before (Some t ∷ ks) [] h = absurd h
    outside_locals sorts n before (None ∷ ks) (l ∷ ls) h = (h.0, outside_locals sorts n before ks ls h.1)
    outside_locals sorts n before (Some t ∷ ks) (l ∷ ls) h = (h.0, outside_locals sorts n before ks ls h.1)

    -- the block of a join keeps the state typed, where its places have this type
    abbrev pub BlockHeld : t.StmtDenotation → Sort → Type 0
    BlockHeld block slot = (n : ℕ) (before : Option ℕ) (sorts : Sorts) (s : State) → Holds (t.within_join n before r) env tokens (Some slot) sorts s → After (λ f u. InBlock n before slot sorts u) (block (t.within_join n before r) s)

    after_map : {A B : Type 0} (P : A → State → Type 0) (Q : B → State → Type 0) (o : OrTrap (A × State)) (b : B) (f : State → State) → After P o → ((a : A) (u : State) → P a u → Q b (f u)) → After Q (and_then o (λ z. Ok (b, f z.1)))
    after_map P Q (Ok z) b f p g = g z.0 z.1 p
    after_map P Q (Err k) b f p g = tt

    empty_places : (slot : Sort) (k : ℕ) → EachOf (IsSlotOf slot) (replicate k None)
    empty_places slot zero = tt
    empty_places slot (suc k) = (tt, empty_places slot k)

    each_set : {X : Type 0} (P : X → Type 0) (xs : List X) (i : ℕ) (y : X) → EachOf P xs → P y → EachOf P (slice_set xs i y)
    each_set P [] i y e h = tt
    each_set P (z ∷ xs) zero y e h = (h, e.1)
    each_set P (z ∷ xs) (suc i) y e h = (e.0, each_set P xs i y e.1 h)

    one_join : (later : Sorts) (n : ℕ) (void : Bool) (slot result : Sort) (q : Reply) (places : List (Option Value)) → EachOf (IsSlotOf slot) places → ((at : ℕ) → later (Place r.me n at) ≡ Some slot) → join_sort void slot ≡ result → OwesIn later r q result → JoinMade later r (record { number = n; places = places; void = void; reply = q })
    one_join later n void slot result q places e p same o = record { item = slot; slot = p; places = e; reply = subst (OwesIn later r q) (sym same) o }

    opened_held : (later : Sorts) (n : ℕ) (before : Option ℕ) (void : Bool) (slot : Sort) (q : Reply) (s : State) → Held later s → JoinMade later r (record { number = n; places = []; void = void; reply = q }) → ((at : ℕ) → later (Place r.me n at) ≡ Some slot)
        → Holds (t.within_join n before r) env tokens (Some slot) later (record s { places = 0; joins = s.joins ++ record { number = n; places = []; void = void; reply = q } ∷ [] })
    opened_held later n before void slot q s h j p = record {
      scope = h.scope;
      sits = record { locals = h.sits.locals; fields = h.sits.fields; actors = h.sits.actors; creations = h.sits.creations };
      low = h.low;
      new = h.new;
      named = inside_locals later n before tokens s.locals h.named;
      places = (slot, (refl, p));
      messages = each_more (MessageMade later r) (MessageMade later (t.within_join n before r)) s.messages (λ y o. inside_made later n before y.target y o) h.messages;
      joins = each_more (JoinMade later r) (JoinMade later (t.within_join n before r)) (s.joins ++ record { number = n; places = []; void = void; reply = q } ∷ []) (λ y o. record { item = o.item; slot = o.slot; places = o.places; reply = o.reply }) (each_append (JoinMade later r) s.joins (record { number = n; places = []; void = void; reply = q } ∷ []) h.joins (j, tt));
    }

    closed_held : (later last : Sorts) → ((q : Reply) (u : Sort) → later q ≡ Some u → last q ≡ Some u) → (n : ℕ) (before : Option ℕ) (void : Bool) (slot : Sort) (q : Reply) (i places : ℕ) (s u : State) → Held later s → JoinMade last r (record { number = n; places = replicate u.places None; void = void; reply = q })
        → Holds (t.within_join n before r) env tokens (Some slot) last u → Held last (t.close_join i n void q places u)
    closed_held later last more n before void slot q i places s u h j b = record {
      scope = b.scope;
      sits = record { locals = b.sits.locals; fields = b.sits.fields; actors = b.sits.actors; creations = b.sits.creations };
      low = b.low;
      new = b.new;
      named = outside_locals last n before tokens u.locals b.named;
      places = places_more later last more r r.within item h.places;
      messages = each_more (MessageMade last (t.within_join n before r)) (MessageMade last r) u.messages (λ y o. outside_made last n before y.target y o) b.messages;
      joins = each_set (JoinMade last r) u.joins i (record { number = n; places = replicate u.places None; void = void; reply = q }) (each_more (JoinMade last (t.within_join n before r)) (JoinMade last r) u.joins (λ y o. record { item = o.item; slot = o.slot; places = o.places; reply = o.reply }) b.joins) j;
    }

    joined_held : (block : t.StmtDenotation) (slot result : Sort) → BlockHeld block slot → (void : Bool) → join_sort void slot ≡ result → (before : Option ℕ) (n : ℕ) (q : Reply) (sorts : Sorts) (s : State) → (z : Reach sorts s) → z.later (Tok r.me n) ≡ Some result → ((at : ℕ) → z.later (Place r.me n at) ≡ Some slot) → OwesIn z.later r q result →
        After (Numbered sorts result (Some slot)) (t.exec_join void block r before n q s)
    joined_held block slot result f void same before n q sorts s z typed slots o =
        after_map (λ fl u. InBlock n before slot z.later u) (Numbered sorts result (Some slot)) (block (t.within_join n before r) (record s { places = 0; joins = s.joins ++ record { number = n; places = []; void = void; reply = q } ∷ [] })) n (t.close_join (length s.joins) n void q s.places)
        (f n before z.later (record s { places = 0; joins = s.joins ++ record { number = n; places = []; void = void; reply = q } ∷ [] }) (opened_held z.later n before void slot q s z.held (one_join z.later n void slot result q [] tt slots same o) slots))
        (λ fl u b. record {
          reach = record {
            later = b.later;
            grows = λ p v e. b.grows p v (z.grows p v e);
            held = closed_held z.later b.later b.grows n before void slot q (length s.joins) s.places s u z.held (one_join b.later n void slot result q (replicate u.places None) (empty_places slot u.places) (λ at. b.grows (Place r.me n at) slot (slots at)) same (owes_more z.later b.later b.grows r q result o)) b.held;
          };
          typed = b.grows (Tok r.me n) result typed;
          slots = λ at v e. subst (λ w. b.later (Place r.me n at) ≡ Some w) (some_is e) (b.grows (Place r.me n at) slot (slots at));
        })

    -- a join stage: its number has the type of its reply, and its places that of its block's chains
    pub join_held : (sorts : Sorts) (block : t.StmtDenotation) (void : State → Bool) (slot result : Sort) → BlockHeld block slot → ((s : State) → Held sorts s → join_sort (void s) slot ≡ result) → (before : Option ℕ) (last : End) → EndOf last result → (s : State) → Held sorts s → After (Numbered sorts result (Some slot)) (t.exec_join_stage void block r before last s)
    join_held sorts block void slot result f same before last e s h =
        then_after (Numbered sorts result (Some slot)) (Numbered sorts result (Some slot)) (t.take_join_serial s) (λ n. m.reply_of_stage last r n >>= (λ q. t.exec_join (void s) block r before n q)) (next_held sorts result (Some slot) (length s.joins) s h) (λ n u z.
        then_after (λ q w. Held z.reach.later w × OwesIn z.reach.later r q result) (Numbered sorts result (Some slot)) (m.reply_of_stage last r n u) (λ q. t.exec_join (void s) block r before n q) (owed_held z.reach.later result last e n z.typed u z.reach.held) (λ q w p.
        joined_held block slot result f (void s) (same s h) before n q sorts w (record { later = z.reach.later; grows = z.reach.grows; held = p.0 }) z.typed (λ at. z.slots at slot refl) p.1))

    -- ---- chains

    -- the state is typed by more addresses, and this number has the type
    pub record Staged (sorts : Sorts) (result : Sort) (n : ℕ) (u : State) : Type 0 where
      pub reach : Reach sorts u
      pub typed : reach.later (Tok r.me n) ≡ Some result

    -- a stage behind a stage of this type keeps the state typed, and replies so
    abbrev pub StageHeld : t.StageDenotation → Option Sort → Sort → Type 0
    StageHeld x before result = (sorts : Sorts) (number : Option ℕ) (last : End) (s : State) → BeforeIs sorts number before → EndOf last result → Held sorts s → After (Staged sorts result) (x r number last s)

    pub message_stage : (y : Send) (w : Signature) (before : Option Sort) → SendOf y before w → StageHeld (m.message y) before w.result
    message_stage y w before f sorts number last s b e h = after_more (Numbered sorts w.result None) (Staged sorts w.result) (m.message y r number last s) (λ n u z. record { reach = z.reach; typed = z.typed }) (message_held sorts y w number before b f last e s h)

    pub join_stage : (block : t.StmtDenotation) (void : State → Bool) (slot result : Sort) → BlockHeld block slot → ((sorts : Sorts) (s : State) → Held sorts s → join_sort (void s) slot ≡ result) → (before : Option Sort) → StageHeld (t.exec_join_stage void block) before result
    join_stage block void slot result f same before sorts number last s b e h = after_more (Numbered sorts result (Some slot)) (Staged sorts result) (t.exec_join_stage void block r number last s) (λ n u z. record { reach = z.reach; typed = z.typed }) (join_held sorts block void slot result f (same sorts) number last e s h)

    -- each stage behind the one before it
    abbrev pub ChainOf : t.StageDenotation → List t.StageDenotation → Option Sort → Sort → Type 0
    ChainOf x [] before result = StageHeld x before result
    ChainOf x (y ∷ more) before result = (u : Sort) × (StageHeld x before u × ChainOf y more (Some u) result)

    pub record Chained (sorts : Sorts) (result : Sort) (o : Option ℕ) (u : State) : Type 0 where
      pub number : ℕ
      pub is : o ≡ Some number
      pub staged : Staged sorts result number u

    pub chain_held : (x : t.StageDenotation) (more : List t.StageDenotation) (before : Option Sort) (result : Sort) → ChainOf x more before result → (sorts : Sorts) (number : Option ℕ) (last : End) → EndOf last result → (s : State) → BeforeIs sorts number before → Held sorts s → After (Chained sorts result) (t.chain (x ∷ more) r number last s)
    chain_held x [] before result f sorts number last e s b h =
        then_after (Staged sorts result) (Chained sorts result) (x r number last s) (λ n. pure (Some n)) (f sorts number last s b e h) (λ n u z. record { number = n; is = refl; staged = z })
    chain_held x (y ∷ more) before result f sorts number last e s b h =
        then_after (Staged sorts f.0) (Chained sorts result) (x r number end.Token s) (λ n. t.chain (y ∷ more) r (Some n) last) (f.1.0 sorts number end.Token s b tt h) (λ n u z.
        after_more (Chained z.reach.later result) (Chained sorts result) (t.chain (y ∷ more) r (Some n) last u) (λ o w q. record {
          number = q.number;
          is = q.is;
          staged = record { reach = record { later = q.staged.reach.later; grows = λ p v i. q.staged.reach.grows p v (z.reach.grows p v i); held = q.staged.reach.held }; typed = q.staged.typed };
        }) (chain_held y more (Some f.0) result f.1.1 z.reach.later (Some n) last e u (λ v i. (n, (refl, subst (λ k. z.reach.later (Tok r.me n) ≡ Some k) (some_is i) z.typed))) z.reach.held))

    -- ---- a chain as a statement

    abbrev pub RunHeld : t.StmtDenotation → Type 0
    RunHeld x = (sorts : Sorts) (s : State) → Held sorts s → After (λ f u. Reach sorts u × FlowOk g.result f) (x r s)

    chain_run : (x : t.StageDenotation) (more : List t.StageDenotation) (result : Sort) → ChainOf x more None result → (last : End) → EndOf last result → (flow : Flow) → FlowOk g.result flow → (sorts : Sorts) (s : State) → Held sorts s → After (λ f u. Reach sorts u × FlowOk g.result f) ((t.chain (x ∷ more) r None last >> pure flow) s)
    chain_run x more result f last e flow ok sorts s h = then_after (Chained sorts result) (λ y u. Reach sorts u × FlowOk g.result y) (t.chain (x ∷ more) r None last s) (λ o. pure flow) (chain_held x more None result f sorts None last e s (λ v i. absurd cc) h) (λ o u q. (q.staged.reach, ok))

    -- a plain chain, in a join one of the join's type; and one before `@ currentContinuation`, of the handler's
    pub plain_chain : (x : t.StageDenotation) (more : List t.StageDenotation) (result : Sort) → ChainOf x more None result → EndOf (t.plain_end r.within) result → RunHeld (t.exec_chain_stmt None (x ∷ more))
    plain_chain x more result f e sorts s h = chain_run x more result f (t.plain_end r.within) e Next tt sorts s h

    pub passed_chain : (at : ℕ) (x : t.StageDenotation) (more : List t.StageDenotation) (result : Sort) → ChainOf x more None result → result ≡ g.result → r.within ≡ [] → RunHeld (t.exec_chain_stmt (Some at) (x ∷ more))
    passed_chain at x more result f same out sorts s h =
        subst (λ is. After (λ y u. Reach sorts u × FlowOk g.result y) (t.exec_passed_chain is (x ∷ more) r s)) (sym out) (chain_run x more result f end.Caller same Passed tt sorts s h)
