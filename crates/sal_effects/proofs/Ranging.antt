-- What handlers leave is in range.
use Rattle.std.proofs.Common.{◌≡◌, ℕ, zero, suc, ◌<◌, inl, inr, Bool, true, false, ◌&&◌, if◌then◌else◌, List, [], ◌∷◌, length, Option, Some, None, refl, sym, subst, ◌∙◌, arith}
use Rattle.std.specs.Prelude.{slice_get, replicate, codes}
use Rattle.std.specs.List.{list_all}
use Rattle.std.specs.Str.{bytes_eq}
use Rattle.std.proofs.lemmas.Bool.{lt-ltb}
use Rattle.sal_value.specs.declared.name.Name.{Name}
use Rattle.sal_value.specs.declared.name.Name.TheVariants as name
use Rattle.sal_value.specs.declared.value.Value.TheVariants.{Ref}
use Rattle.sal_value.specs.Coding.{name_in_range, in_range}
use Rattle.sal_ast.specs.declared.program.Behavior.{Behavior}
use Rattle.sal_ast.specs.declared.statement.Send.{Send}
use Rattle.sal_ast.specs.declared.statement.Aim.{Aim}
use Rattle.sal_ast.specs.declared.statement.Aim.TheVariants as aim
use Rattle.sal_ast.specs.Members.{handlers_at, handler_by_name}
use Rattle.sal_ast.specs.Sorts.{target_behavior}
use Rattle.sal_mail.specs.declared.message.Target.{Target}
use Rattle.sal_mail.specs.declared.message.Target.TheVariants as target
use Rattle.sal_mail.specs.declared.message.Piece.{Piece}
use Rattle.sal_mail.specs.declared.message.Piece.TheVariants.{Known, Token}
use Rattle.sal_mail.specs.declared.message.Reply.{Reply}
use Rattle.sal_mail.specs.declared.message.Reply.TheVariants.{Tok}
use Rattle.sal_mail.specs.declared.message.Message.{Message}
use Rattle.sal_envelope.specs.Coding.{reply_in_range, target_in_range, piece_in_range, is_u16, is_u32, is_u64}
use Rattle.sal_handler.specs.declared.state.End.{End}
use Rattle.sal_handler.specs.declared.state.End.TheVariants as end
use Rattle.sal_handler.specs.declared.state.EnclosingJoin.{EnclosingJoin}
use Rattle.sal_handler.specs.declared.state.Flow.{Flow}
use Rattle.sal_handler.specs.declared.state.Flow.TheVariants.{Next, Returned, Passed}
use Rattle.sal_handler.specs.declared.state.Local.{Local}
use Rattle.sal_handler.specs.declared.state.State.{State}
use Rattle.sal_handler.specs.Scopes as c
use Rattle.sal_handler.specs.Scopes.{Context, fresh_name, scope_of, variable_of}
use Rattle.sal_handler.specs.Messages as m
use Rattle.sal_handler.specs.Handler as h
use Rattle.sal_handler.specs.WellFormed.{EachOf, IsWithin, WaitsWithin, IsGoodMessage, IsOrderly, program_sizes}
use Rattle.sal_handler.proofs.Addresses.{each_append, each_more}
use Rattle.sal_handler.proofs.FairCalls.{handlers_orderly}
use Rattle.sal_handler.proofs.Induction.{IfAny}
use Rattle.sal_effects.specs.Ranges.{InRange, IsMessageInRange, IsJoinInRange, IsActorInRange, IsCreationInRange, IsAnswerInRange, AreInRange, HandlersKeepRanges, ProgramsBeginInRange}
use Rattle.sal_effects.proofs.Beginning.{begins}
use Rattle.sal_effects.proofs.Changes.{IsBehavior, GoodSort, LocalOk, PieceOk, TargetOk, SlotLow, PlaceLow, IsSend, IsJoin, Law, slot_owed, owed_to, taken, sent, opened, closed, open_one}
use Rattle.sal_effects.proofs.Values.{Able}
use Rattle.sal_effects.proofs.Handlers.{has_run, HasRun}
use Rattle.sal_effects.proofs.InRange.{ranged, range_ref, range_null, both}
use Rattle.sal_effects.proofs.Running.{each_set, FlowOk}
use Rattle.sal_effects.proofs.Sorts.{aimed, handler_low, variables_good}

-- ---- names

anon_in : (n : ℕ) → n < 1024 → name_in_range (name.Anon 4294967295 n) ≡ true
unfolding name_in_range
anon_in n l = lt-ltb n 18446744073709551616 (omega (arith, l))

name_or_in : (fresh : List Name) (i j : ℕ) → j < 1024 → EachOf (λ n. name_in_range n ≡ true) fresh → name_in_range (c.name_or (slice_get fresh i) j) ≡ true
name_or_in [] i j l e = anon_in j l
name_or_in (n ∷ ns) zero j l e = e.0
name_or_in (n ∷ ns) (suc i) j l e = name_or_in ns i j l e.1

ref_in : (n : Name) → name_in_range n ≡ true → InRange (Ref n)
ref_in n e = range_ref n ∙ e

in_ref : (n : Name) → InRange (Ref n) → name_in_range n ≡ true
in_ref n e = sym (range_ref n) ∙ e

outside_in : name_in_range (name.Outside 0) ≡ true
unfolding name_in_range
outside_in = refl

-- ---- numbers of behaviours and handlers

number_low : (o : Option ℕ) → IfAny (λ n. n < 65535) o → m.or_no_number o < 65536
number_low None g = omega arith
number_low (Some n) g = omega (arith, g)

behavior_low : (behaviors : List Behavior) (mine : ℕ) (o : Option ℕ) → mine < 65536 → IfAny (IsBehavior behaviors mine) o → m.or_no_number o < 65536
behavior_low behaviors mine None l g = omega arith
behavior_low behaviors mine (Some n) l (inl e) = omega (arith, e, l)
behavior_low behaviors mine (Some n) l (inr g) = omega (arith, g.1)

abbrev IdLow : m.HandlerId → Type 0
IdLow z = (z.behavior < 65536) × (z.handler < 65536)

actor_low : (name : List ℕ) (o : Option ℕ) (r : Context) → m.or_no_number o < 65536 → IdLow (m.actor_handler_id name o r)
actor_low name o r l = at (bytes_eq name (codes "migrate"))
  where
    at : (b : Bool) → IdLow (if b then record { behavior = 65535; handler = 65535 } else record { behavior = m.or_no_number o; handler = m.or_no_number (handler_by_name name (handlers_at r.behaviors o)) })
    at true = (omega arith, omega arith)
    at false = (l, number_low (handler_by_name name (handlers_at r.behaviors o)) (handler_low name (handlers_at r.behaviors o)))

output_low : (name : List ℕ) → IdLow (m.output_handler_id name)
output_low name = at (bytes_eq name (codes "println"))
  where
    at : (b : Bool) → IdLow (record { behavior = 65535; handler = if b then 1 else 0 })
    at true = (omega arith, omega arith)
    at false = (omega arith, omega arith)

aim_low : (a : Aim) (name : List ℕ) (o : Option ℕ) (r : Context) → m.or_no_number o < 65536 → IdLow (m.aim_handler_id a name o r)
aim_low (aim.Output at) name o r l = output_low name
aim_low aim.Own name o r l = actor_low name o r l
aim_low (aim.Actor e) name o r l = actor_low name o r l

id_low : (y : Send) (r : Context) (s : State) → r.mine < 65536 → EachOf (LocalOk ranged r.behaviors r.mine) s.locals → IdLow (m.handler_id_of y r s)
unfolding m.handler_id_of
id_low y r s l ls =
    aim_low y.aim y.handler.text (target_behavior y.aim (scope_of r s)) r
    (behavior_low r.behaviors r.mine (target_behavior y.aim (scope_of r s)) l (aimed r.behaviors r.mine y.aim _ (variables_good r.behaviors r.mine s.locals (each_more (LocalOk ranged r.behaviors r.mine) (λ (z : Local). GoodSort r.behaviors r.mine z.sort) s.locals (λ z k. k.sort) ls))))

-- ---- what a part keeps

-- a message as far as its tokens don't matter
pub record MessageOk (it : Message) : Type 0 where
  pub maker : name_in_range it.maker ≡ true
  pub serial : it.serial < 18446744073709551616
  pub target : target_in_range it.target ≡ true
  pub behavior : it.behavior < 65536
  pub handler : it.handler < 65536
  pub args : EachOf (PieceOk ranged) it.args
  pub reply : reply_in_range it.reply ≡ true

pub record Ranged (s t : State) : Type 0 where
  pub serial : s.serial < 18446744073709551616 → t.serial < 18446744073709551616
  pub messages : EachOf MessageOk s.messages → EachOf MessageOk t.messages
  pub joins : EachOf IsJoinInRange s.joins → EachOf IsJoinInRange t.joins
  pub actors : EachOf IsActorInRange s.actors → EachOf IsActorInRange t.actors
  pub creations : EachOf IsCreationInRange s.creations → EachOf IsCreationInRange t.creations

pub record Ready (r : Context) : Type 0 where
  pub me : name_in_range r.me ≡ true
  pub reply : reply_in_range r.reply ≡ true
  pub within : EachOf (λ (j : EnclosingJoin). j.join < 18446744073709551616) r.within
  pub mine : r.mine < 65536
  pub fresh : EachOf (λ n. name_in_range n ≡ true) r.fresh

tok_in : (n : Name) (k : ℕ) → name_in_range n ≡ true → k < 18446744073709551616 → reply_in_range (Tok n k) ≡ true
tok_in n k e l = both (name_in_range n) (is_u64 k) e (lt-ltb k 18446744073709551616 l)

slot_in : (is : List EnclosingJoin) (r : Context) (s : State) → name_in_range r.me ≡ true → EachOf (λ (j : EnclosingJoin). j.join < 18446744073709551616) is → SlotLow is s → reply_in_range (slot_owed is r s) ≡ true
slot_in [] r s e w low = refl
slot_in (j ∷ js) r s e w low =
    both (name_in_range r.me) (is_u64 j.join && is_u32 s.places) e
    (both (is_u64 j.join) (is_u32 s.places) (lt-ltb j.join 18446744073709551616 w.0) (lt-ltb s.places 4294967296 (omega (arith, low))))

owed_in : (last : End) (r : Context) (s : State) → Ready r → PlaceLow last r s → s.serial < 18446744073709551616 → reply_in_range (owed_to last r s) ≡ true
owed_in end.Nobody r s ready low l = refl
owed_in end.Token r s ready low l = tok_in r.me s.serial ready.me l
owed_in end.Place r s ready low l = slot_in r.within r s ready.me ready.within low
owed_in end.Caller r s ready low l = ready.reply

target_in : (t : Target) → TargetOk ranged t → target_in_range t ≡ true
target_in (target.Actor n) k = in_ref n k
target_in target.Output k = refl

sent_in : (r : Context) (y : Send) (before : Option ℕ) (last : End) (to : Target) (args : List Piece) (delay : ℕ) (s : State) → Ready r → IsSend ranged r y last to args delay s → Ranged s (sent y r before last to args delay s)
sent_in r y before last to args delay s ready ok =
    let ids = id_low y r (taken last r s) ready.mine ok.kept.locals in
    record {
      serial = λ l. omega (arith, ok.number);
      messages = λ k. each_append MessageOk s.messages _ k (
        record {
          maker = ready.me;
          serial = omega (arith, ok.number);
          target = target_in to ok.target;
          behavior = ids.0;
          handler = ids.1;
          args = ok.pieces;
          reply = owed_in last r s ready ok.place (omega (arith, ok.number));
        },
        tt,
      );
      joins = λ k. k;
      actors = λ k. k;
      creations = λ k. k;
    }

closed_in : (r : Context) (last : End) (void : Bool) (s b : State) → Ready r → IsJoin r last s → Ranged (opened last r void s) b → Ranged s (closed last r void s b)
closed_in r last void s b ready ok p =
    let number : s.serial < 18446744073709551616 = omega (arith, ok.number) in
    let owes = owed_in last r s ready ok.place number in
    record {
      serial = λ l. p.serial (omega (arith, ok.number));
      messages = p.messages;
      joins = λ k.
          each_set IsJoinInRange b.joins (length s.joins) (record { number = s.serial; places = replicate b.places None; void = void; reply = owed_to last r s })
          (p.joins (each_append IsJoinInRange s.joins (open_one last r void s ∷ []) k (record { number = number; reply = owes }, tt))) (record { number = number; reply = owes });
      actors = p.actors;
      creations = p.creations;
    }

same_in : (s t : State) → t.serial ≡ s.serial → t.messages ≡ s.messages → t.joins ≡ s.joins → t.actors ≡ s.actors → t.creations ≡ s.creations → Ranged s t
same_in s t e f g j k = record {
  serial = λ l. omega (arith, l, e);
  messages = λ l. subst (EachOf MessageOk) (sym f) l;
  joins = λ l. subst (EachOf IsJoinInRange) (sym g) l;
  actors = λ l. subst (EachOf IsActorInRange) (sym j) l;
  creations = λ l. subst (EachOf IsCreationInRange) (sym k) l;
}

ranged_then : (s t u : State) → Ranged s t → Ranged t u → Ranged s u
ranged_then s t u p q = record {
  serial = λ l. q.serial (p.serial l);
  messages = λ l. q.messages (p.messages l);
  joins = λ l. q.joins (p.joins l);
  actors = λ l. q.actors (p.actors l);
  creations = λ l. q.creations (p.creations l);
}

abbrev ranging : Law
ranging = record {
  values = ranged;
  Whole = ⊥;
  Moves = λ r k s t. Ready r → Ranged s t;
  quiet = λ r s locals fields turns ready. same_in s (record s { locals = locals; fields = fields; turns = turns }) refl refl refl refl refl;
  next = λ r k s t u p q ready. ranged_then s t u (p ready) (q ready);
  scoped = λ r k s t locals p ready. ranged_then s t (record t { locals = locals }) (p ready) (same_in t (record t { locals = locals }) refl refl refl refl refl);
  sends = λ r y before last to args delay s ok ready. sent_in r y before last to args delay s ready ok;
  joins = λ r before last void s b ok p ready. closed_in r last void s b ready ok (p (record { me = ready.me; reply = ready.reply; within = (omega (arith, ok.number), ready.within); mine = ready.mine; fresh = ready.fresh }));
  makes = λ r behavior fields s ok ready. record {
    serial = λ l. l;
    messages = λ l. l;
    joins = λ l. l;
    actors = λ l. each_append IsActorInRange s.actors _ l (record { name = name_or_in r.fresh (length s.actors) (length s.actors) (omega (arith, ok.few)) ready.fresh; behavior = omega (arith, ok.known.1); fields = ok.held }, tt);
    creations = λ l. l;
  };
  creates = λ r behavior u place fields s ok low read at ready. record {
    serial = λ l. omega (arith, low);
    messages = λ l. l;
    joins = λ l. l;
    actors = λ l. l;
    creations = λ l. each_append IsCreationInRange s.creations _ l (record { serial = omega (arith, low); behavior = omega (arith, ok.known.1); fields = ok.held }, tt);
  };
}

-- ---- the laws

alone_in : (behaviors : List Behavior) (n : ℕ) → Able ranging (h.constructor_context behaviors n)
alone_in behaviors n = record { me = ref_in (name.Outside 0) outside_in; fresh = λ i low. ref_in (fresh_name [] i) (name_or_in [] i i low tt); make = tt }

pieces_in : (from to : ℕ) (ps : List Piece) → to < 18446744073709551616 → EachOf (PieceOk ranged) ps → EachOf (WaitsWithin from to) ps → list_all piece_in_range ps ≡ true
pieces_in from to [] l k w = refl
pieces_in from to (Known v ∷ ps) l k w = both (in_range v) (list_all piece_in_range ps) k.0 (pieces_in from to ps l k.1 w.1)
pieces_in from to (Token n ∷ ps) l k w = both (is_u64 n) (list_all piece_in_range ps) (lt-ltb n 18446744073709551616 (omega (arith, w.0.1, l))) (pieces_in from to ps l k.1 w.1)

message_in : (me : Name) (caller : Reply) (from to : ℕ) (sizes : List ℕ) (it : Message) → to < 18446744073709551616 → MessageOk it → IsGoodMessage me caller from to sizes it → IsMessageInRange it
message_in me caller from to sizes it l k g = record {
  sent =
      both (name_in_range it.maker) (is_u64 it.serial && (target_in_range it.target && (is_u16 it.behavior && (is_u16 it.handler && (list_all piece_in_range it.args && reply_in_range it.reply))))) k.maker
      (both (is_u64 it.serial) (target_in_range it.target && (is_u16 it.behavior && (is_u16 it.handler && (list_all piece_in_range it.args && reply_in_range it.reply)))) (lt-ltb it.serial 18446744073709551616 k.serial)
      (both (target_in_range it.target) (is_u16 it.behavior && (is_u16 it.handler && (list_all piece_in_range it.args && reply_in_range it.reply))) k.target
      (both (is_u16 it.behavior) (is_u16 it.handler && (list_all piece_in_range it.args && reply_in_range it.reply)) (lt-ltb it.behavior 65536 k.behavior)
      (both (is_u16 it.handler) (list_all piece_in_range it.args && reply_in_range it.reply) (lt-ltb it.handler 65536 k.handler)
      (both (list_all piece_in_range it.args) (reply_in_range it.reply) (pieces_in from to it.args l k.args g.args) k.reply)))));
  after = each_more (IsWithin from to) (λ n. n < 18446744073709551616) it.after (λ n w. omega (arith, w.1, l)) g.after;
}

each_two : {X : Type 0} (P Q R : X → Type 0) (xs : List X) → ((x : X) → P x → Q x → R x) → EachOf P xs → EachOf Q xs → EachOf R xs
each_two P Q R [] f p q = tt
each_two P Q R (x ∷ xs) f p q = (f x p.0 q.0, each_two P Q R xs f p.1 q.1)

answer_in : (r : Context) (k : ℕ) (f : Flow) → FlowOk ranging r k f → IsAnswerInRange (h.answer_of_flow f)
answer_in r k Next e = range_null
answer_in r k (Returned v) e = e.1
answer_in r k Passed e = tt

pub keep_ranges : HandlersKeepRanges
keep_ranges p c e texts old call is = subst AreInRange (sym run.effects) here
  where
    run : HasRun ranging alone_in p c (record { texts = texts; whole = λ b. absurd b }) (record { fields = call.fields; args = call.args; me = ref_in c.me call.me; names = λ i low. ref_in (fresh_name c.names i) (name_or_in c.names i i low call.names) }) e
    run = has_run ranging alone_in p c (record { texts = texts; whole = λ b. absurd b }) (record { fields = call.fields; args = call.args; me = ref_in c.me call.me; names = λ i low. ref_in (fresh_name c.names i) (name_or_in c.names i i low call.names) }) e is

    order : IsOrderly (program_sizes p) c (h.effects_of run.flow run.state c.fresh)
    order = subst (IsOrderly (program_sizes p) c) run.effects (handlers_orderly p c e old is)

    moved : Ranged (h.initial_state run.locals c.fields c.serial) run.state
    moved = run.left.moved (record { me = call.me; reply = call.reply; within = tt; mine = call.behavior; fresh = call.names })

    here : AreInRange (h.effects_of run.flow run.state c.fresh)
    here = record {
      fields = run.left.kept.fields;
      serial = moved.serial call.serial;
      messages = each_two MessageOk (IsGoodMessage c.me c.reply c.serial run.state.serial (program_sizes p)) IsMessageInRange run.state.messages (λ it k g. message_in c.me c.reply c.serial run.state.serial (program_sizes p) it (moved.serial call.serial) k g) (moved.messages tt) order.messages;
      joins = moved.joins tt;
      actors = moved.actors tt;
      creations = moved.creations tt;
      answer = answer_in (h.handler_context p c) run.left.passes run.flow run.left.flow;
    }

pub begin_in_range : ProgramsBeginInRange
begin_in_range p behavior handler fields texts e =
    let start = begins ranging alone_in p (record { texts = texts; whole = λ b. absurd b }) behavior handler fields e in
    (omega (arith, start.behavior_low), (omega (arith, start.handler_low), start.held))
