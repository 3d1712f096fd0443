-- Slots are served once, and the handled reply is passed on at most once.
use Rattle.std.proofs.Common.{◌≡◌, ◌≢◌, ℕ, zero, suc, ◌+◌, ◌≤◌, inl, inr, Bool, true, false, if◌then◌else◌, nat_eq, List, [], ◌∷◌, ◌++◌, length, map, Option, None, refl, sym, ap, subst, ◌∙◌, arith, append_assoc}
use Rattle.std.specs.Prelude.{nat_lt, slice_set, replicate}
use Rattle.std.proofs.lemmas.List.{append-nil, length-replicate}
use Rattle.std.proofs.lemmas.Bool.{eqb-true, ne_eqb, ltb-true, ltb-false, lt-ltb}
use Rattle.std.proofs.lemmas.Slice.Eq.{bytes_eq-Decides}
use Rattle.std.proofs.Math.Seq.{set-append_seam}
use Rattle.sal_value.specs.declared.value.Value.{Value}
use Rattle.sal_ast.specs.declared.program.Program.{Program}
use Rattle.sal_ast.specs.declared.statement.Send.{Send}
use Rattle.sal_ast.specs.Regular.{is_regular}
use Rattle.sal_mail.specs.declared.message.Reply.{Reply}
use Rattle.sal_mail.specs.declared.message.Reply.TheVariants.{Nobody, Tok, Place}
use Rattle.sal_mail.specs.declared.message.Message.{Message}
use Rattle.sal_mail.specs.declared.message.Join.{Join}
use Rattle.sal_mail.specs.declared.message.Target.{Target}
use Rattle.sal_mail.specs.declared.message.Piece.{Piece}
use Rattle.sal_mail.specs.declared.effects.Effects.{Effects}
use Rattle.sal_mail.specs.ReplyKeys.{reply_key, owes}
use Rattle.sal_handler.specs.declared.state.End.{End}
use Rattle.sal_handler.specs.declared.state.End.TheVariants as end
use Rattle.sal_handler.specs.declared.state.Flow.{Flow}
use Rattle.sal_handler.specs.declared.state.Flow.TheVariants.{Next, Returned, Passed}
use Rattle.sal_handler.specs.declared.state.EnclosingJoin.{EnclosingJoin}
use Rattle.sal_handler.specs.declared.state.State.{State}
use Rattle.sal_handler.specs.Scopes.{Context}
use Rattle.sal_handler.specs.Messages.{message_with}
use Rattle.sal_handler.specs.Statements.{within_join}
use Rattle.sal_handler.specs.Handler as h
use Rattle.sal_handler.specs.Calls.{Call}
use Rattle.sal_handler.specs.WellFormed.{EachOf, IsAmong, IsOldReply, IsOrderly, total, one_if_same, times_owed_by, passes, program_sizes}
use Rattle.sal_handler.proofs.Addresses.{total_append, each_append, each_more, owes_by, owes_apart, some_address, token_place, place_place, old_token, old_place}
use Rattle.sal_handler.proofs.FairCalls.{handlers_orderly}
use Rattle.sal_effects.specs.Numbers.{Rise, join_numbers}
use Rattle.sal_effects.proofs.Rising.{numbers_in_order}
use Rattle.sal_effects.specs.Slots.{times_served, IsEmpty, once_if_there, ServesSlots, HandlersServeSlots}
use Rattle.sal_effects.specs.Texts.{program_texts}
use Rattle.sal_effects.proofs.Anything.{anything, each_any}
use Rattle.sal_effects.proofs.Changes.{Law, slot_owed, slots_after, owed_to, places_after, taken, sent, opened, closed, open_one, ends}
use Rattle.sal_effects.proofs.Handlers.{has_run}
use Rattle.sal_effects.proofs.Running.{FlowOk}

abbrev bit : Bool → ℕ
bit b = if b then 1 else 0

-- 1 where the number is below this one, else 0
abbrev below : ℕ → ℕ → ℕ
below n i = bit (nat_lt i n)

below_zero : (i : ℕ) → below 0 i ≡ 0
below_zero i = at (nat_lt i 0) refl
  where
    at : (b : Bool) → nat_lt i 0 ≡ b → bit b ≡ 0
    at true e = absurd (omega (arith, ltb-true i 0 e))
    at false e = refl

-- one more
below_same : (n : ℕ) → (below n n ≡ 0) × (below (n + 1) n ≡ 1)
below_same n = (at (nat_lt n n) refl, rw (lt-ltb n (n + 1) (omega arith)) refl)
  where
    at : (b : Bool) → nat_lt n n ≡ b → bit b ≡ 0
    at true e = absurd (omega (arith, ltb-true n n e))
    at false e = refl

below_other : (n i : ℕ) → (i ≡ n → ⊥) → below n i ≡ below (n + 1) i
below_other n i e = at (nat_lt i n) refl (nat_lt i (n + 1)) refl
  where
    at : (a : Bool) → nat_lt i n ≡ a → (b : Bool) → nat_lt i (n + 1) ≡ b → bit a ≡ bit b
    at true p true q = refl
    at false p false q = refl
    at true p false q = absurd (omega (arith, ltb-true i n p, ltb-false i (n + 1) q))
    at false p true q = absurd (e (omega (arith, ltb-false i n p, ltb-true i (n + 1) q)))

owes_same : (r : Reply) → owes (reply_key r) r ≡ 1
owes_same r = rw ((bytes_eq-Decides (reply_key r) (reply_key r)).1 refl) refl

number_same : (n : ℕ) → one_if_same n n ≡ 1
number_same n = at (nat_eq n n) refl
  where
    at : (b : Bool) → nat_eq n n ≡ b → bit b ≡ 1
    at true e = refl
    at false e = absurd (grind arith)

number_other : (k n : ℕ) → (k ≡ n → ⊥) → one_if_same k n ≡ 0
number_other k n e = rw (ne_eqb k n e) refl

-- ---- what is expected

-- of the innermost join's slots those below this number, of a join's slots all: 1 where this slot is one of them
abbrev inner : List EnclosingJoin → ℕ → ℕ → ℕ → ℕ
inner [] n i a = 0
inner (j ∷ js) n i a = if nat_eq n j.join then below a i else 0

abbrev slot_of : ℕ → ℕ → Join → ℕ
slot_of n i j = if nat_eq n j.number then once_if_there i j else 0

abbrev Ready : ℕ → Context → State → Type 0
Ready from r s = (from ≤ s.serial) × (EachOf (λ (j : EnclosingJoin). from ≤ j.join) r.within × IsOldReply r.me from r.reply)

-- what a part adds, and how often that owes each slot, and the handled reply
pub record Served (from : ℕ) (r : Context) (k : ℕ) (s t : State) : Type 0 where
  pub serial : s.serial ≤ t.serial
  pub ms : List Message
  pub sent : t.messages ≡ s.messages ++ ms
  pub js : List Join
  pub opened : t.joins ≡ s.joins ++ js
  pub empty : EachOf IsEmpty js
  pub slots : (n i : ℕ) → from ≤ n → times_owed_by (reply_key (Place r.me n i)) ms js + inner r.within n i s.places ≡ inner r.within n i t.places + total (slot_of n i) js
  pub caller : r.reply ≢ Nobody → times_owed_by (reply_key r.reply) ms js ≡ k

owed_append : (a : List ℕ) (ms ns : List Message) (js ks : List Join) → times_owed_by a (ms ++ ns) (js ++ ks) ≡ times_owed_by a ms js + times_owed_by a ns ks
owed_append a ms ns js ks = omega (arith, total_append (λ (m : Message). owes a m.reply) ms ns, total_append (λ (j : Join). owes a j.reply) js ks)

module _ (from : ℕ) where
  quiet_served : (r : Context) (s t : State) → t.serial ≡ s.serial → t.messages ≡ s.messages → t.joins ≡ s.joins → t.places ≡ s.places → Served from r 0 s t
  quiet_served r s t e m j p = record {
    serial = omega (arith, e);
    ms = [];
    sent = m ∙ sym (append-nil s.messages);
    js = [];
    opened = j ∙ sym (append-nil s.joins);
    empty = tt;
    slots = λ n i le. let same : inner r.within n i t.places ≡ inner r.within n i s.places = ap (inner r.within n i) p in omega (arith, same);
    caller = λ some. refl;
  }

  number_served : (r : Context) (s t : State) → t.serial ≡ s.serial + 1 → t.messages ≡ s.messages → t.joins ≡ s.joins → t.places ≡ s.places → Served from r 0 s t
  number_served r s t e m j p = record {
    serial = omega (arith, e);
    ms = [];
    sent = m ∙ sym (append-nil s.messages);
    js = [];
    opened = j ∙ sym (append-nil s.joins);
    empty = tt;
    slots = λ n i le. let same : inner r.within n i t.places ≡ inner r.within n i s.places = ap (inner r.within n i) p in omega (arith, same);
    caller = λ some. refl;
  }

  served_then : (r : Context) (k : ℕ) (s t u : State) → Served from r 0 s t → Served from r k t u → Served from r k s u
  served_then r k s t u p q = record {
    serial = omega (arith, p.serial, q.serial);
    ms = p.ms ++ q.ms;
    sent = q.sent ∙ ap (λ l. l ++ q.ms) p.sent ∙ append_assoc s.messages p.ms q.ms;
    js = p.js ++ q.js;
    opened = q.opened ∙ ap (λ l. l ++ q.js) p.opened ∙ append_assoc s.joins p.js q.js;
    empty = each_append IsEmpty p.js q.js p.empty q.empty;
    slots = λ n i le. omega (arith, owed_append (reply_key (Place r.me n i)) p.ms q.ms p.js q.js, p.slots n i le, q.slots n i le, total_append (slot_of n i) p.js q.js);
    caller = λ some. omega (arith, owed_append (reply_key r.reply) p.ms q.ms p.js q.js, p.caller some, q.caller some);
  }

  -- ---- one reply

  -- the next slot of the innermost join, or none
  slot_counts : (is : List EnclosingJoin) (r : Context) (s : State) (n i : ℕ) → owes (reply_key (Place r.me n i)) (slot_owed is r s) + inner is n i s.places ≡ inner is n i (slots_after is s)
  slot_counts [] r s n i = let none : owes (reply_key (Place r.me n i)) Nobody ≡ 0 = owes_apart (reply_key (Place r.me n i)) Nobody (λ e. absurd cc) in omega (arith, none)
  slot_counts (j ∷ js) r s n i = at (nat_eq n j.join) refl
    where
      same_join : n ≡ j.join → owes (reply_key (Place r.me n i)) (Place r.me j.join s.places) + below s.places i ≡ below (s.places + 1) i
      same_join e =
          elim (owes_by (reply_key (Place r.me n i)) (Place r.me j.join s.places)) [
            | inl q ↦
                let slot : i ≡ s.places = (place_place r.me r.me n i j.join s.places q).0 in
                let one : owes (reply_key (Place r.me n i)) (Place r.me j.join s.places) ≡ 1 = ap (λ a. owes a (Place r.me j.join s.places)) q ∙ owes_same (Place r.me j.join s.places) in
                let a : below s.places i ≡ 0 = ap (below s.places) slot ∙ (below_same s.places).0 in
                let b : below (s.places + 1) i ≡ 1 = ap (below (s.places + 1)) slot ∙ (below_same s.places).1 in
                omega (arith, one, a, b)
            | inr z ↦
                let other : below s.places i ≡ below (s.places + 1) i = below_other s.places i (λ q.
                let one : owes (reply_key (Place r.me n i)) (Place r.me j.join s.places) ≡ 1 = subst (λ k. owes (reply_key (Place r.me n k)) (Place r.me j.join s.places) ≡ 1) (sym q) (subst (λ k. owes (reply_key (Place r.me k s.places)) (Place r.me j.join s.places) ≡ 1) (sym e) (owes_same (Place r.me j.join s.places))) in
                absurd (omega (arith, one, z))) in
                omega (arith, z, other)
          ]

      at : (b : Bool) → nat_eq n j.join ≡ b → owes (reply_key (Place r.me n i)) (Place r.me j.join s.places) + (if b then below s.places i else 0) ≡ (if b then below (s.places + 1) i else 0)
      at true e = same_join (eqb-true n j.join e)
      at false e =
          let none : owes (reply_key (Place r.me n i)) (Place r.me j.join s.places) ≡ 0 = owes_apart (reply_key (Place r.me n i)) (Place r.me j.join s.places) (λ q. apart (place_place r.me r.me n i j.join s.places q).1) in
          omega (arith, none)
        where
          apart : n ≡ j.join → ⊥
          apart q = absurd (grind arith)

  one_counts : (last : End) (r : Context) (s : State) → Ready from r s → (n i : ℕ) → from ≤ n → owes (reply_key (Place r.me n i)) (owed_to last r s) + inner r.within n i s.places ≡ inner r.within n i (places_after last r s)
  one_counts end.Nobody r s ready n i le = let none : owes (reply_key (Place r.me n i)) Nobody ≡ 0 = owes_apart (reply_key (Place r.me n i)) Nobody (λ e. absurd cc) in omega (arith, none)
  one_counts end.Token r s ready n i le = let none : owes (reply_key (Place r.me n i)) (Tok r.me s.serial) ≡ 0 = owes_apart (reply_key (Place r.me n i)) (Tok r.me s.serial) (λ e. token_place r.me r.me s.serial n i (sym e)) in omega (arith, none)
  one_counts end.Place r s ready n i le = slot_counts r.within r s n i
  one_counts end.Caller r s ready n i le = let none : owes (reply_key (Place r.me n i)) r.reply ≡ 0 = owes_apart (reply_key (Place r.me n i)) r.reply (λ e. old_place r.me from n i r.reply ready.1.1 le e) in omega (arith, none)

  slot_unowed : (is : List EnclosingJoin) (r : Context) (s : State) → EachOf (λ (j : EnclosingJoin). from ≤ j.join) is → IsOldReply r.me from r.reply → r.reply ≢ Nobody → owes (reply_key r.reply) (slot_owed is r s) ≡ 0
  slot_unowed [] r s low old some = owes_apart (reply_key r.reply) Nobody (some_address r.reply some)
  slot_unowed (j ∷ js) r s low old some = owes_apart (reply_key r.reply) (Place r.me j.join s.places) (λ e. old_place r.me from j.join s.places r.reply old low.0 (sym e))

  one_passed : (last : End) (r : Context) (s : State) → Ready from r s → r.reply ≢ Nobody → owes (reply_key r.reply) (owed_to last r s) ≡ ends last
  one_passed end.Nobody r s ready some = owes_apart (reply_key r.reply) Nobody (some_address r.reply some)
  one_passed end.Token r s ready some = owes_apart (reply_key r.reply) (Tok r.me s.serial) (λ e. old_token r.me from s.serial r.reply ready.1.1 ready.0 (sym e))
  one_passed end.Place r s ready some = slot_unowed r.within r s ready.1.0 ready.1.1 some
  one_passed end.Caller r s ready some = owes_same r.reply

  sent_served : (r : Context) (y : Send) (before : Option ℕ) (last : End) (to : Target) (args : List Piece) (delay : ℕ) (s : State) → Ready from r s → Served from r (ends last) s (sent y r before last to args delay s)
  sent_served r y before last to args delay s ready = record {
    serial = omega arith;
    ms = message_with y r before to args delay s.serial (owed_to last r s) (taken last r s) ∷ [];
    sent = refl;
    js = [];
    opened = sym (append-nil s.joins);
    empty = tt;
    slots = λ n i le. omega (arith, one_counts last r s ready n i le);
    caller = λ some. omega (arith, one_passed last r s ready some);
  }

  -- ---- joins

  all_empty : (n : ℕ) → EachOf (λ (slot : Option Value). slot ≡ None) (replicate n None)
  all_empty zero = tt
  all_empty (suc n) = (refl, all_empty n)

  closed_served : (r : Context) (before : Option ℕ) (last : End) (void : Bool) (s b : State) → Ready from r s → Served from (within_join s.serial before r) 0 (opened last r void s) b → Served from r (ends last) s (closed last r void s b)
  closed_served r before last void s b ready p = record {
    serial = omega (arith, p.serial);
    ms = p.ms;
    sent = p.sent;
    js = shut ∷ p.js;
    opened = stands;
    empty = (all_empty b.places, p.empty);
    slots = λ n i le. omega (arith, one_counts last r s ready n i le, p.slots n i le, inner_zero n i, shut_slots n i);
    caller = λ some. omega (arith, p.caller some, one_passed last r s ready some);
  }
    where
      shut : Join
      shut = record { number = s.serial; places = replicate b.places None; void = void; reply = owed_to last r s }

      stands : slice_set b.joins (length s.joins) shut ≡ s.joins ++ shut ∷ p.js
      stands = ap (λ l. slice_set l (length s.joins) shut) (p.opened ∙ append_assoc s.joins (open_one last r void s ∷ []) p.js) ∙ set-append_seam s.joins (open_one last r void s) p.js shut

      inner_zero : (n i : ℕ) → ◌≡◌ {A = ℕ} (if nat_eq n s.serial then below 0 i else 0) 0
      inner_zero n i = at (nat_eq n s.serial)
        where
          at : (c : Bool) → ◌≡◌ {A = ℕ} (if c then below 0 i else 0) 0
          at true = below_zero i
          at false = refl

      shut_slots : (n i : ℕ) → slot_of n i shut ≡ (if nat_eq n s.serial then below b.places i else 0)
      shut_slots n i = ap (λ l. if nat_eq n s.serial then below l i else 0) (length-replicate b.places None)

  abbrev Move : Context → ℕ → State → State → Type 0
  Move r k s t = Ready from r s → Served from r k s t

  later : (r : Context) (s t : State) → s.serial ≤ t.serial → Ready from r s → Ready from r t
  later r s t le ready = (omega (arith, le, ready.0), ready.1)

  abbrev serving : Type 0 → Law
  serving whole = record {
    values = anything;
    Whole = whole;
    Moves = Move;
    quiet = λ r s locals fields turns ready. quiet_served r s (record s { locals = locals; fields = fields; turns = turns }) refl refl refl refl;
    next = λ r k s t u p q ready. let a = p ready in served_then r k s t u a (q (later r s t a.serial ready));
    scoped = λ r k s t locals p ready. let a = p ready in record { serial = a.serial; ms = a.ms; sent = a.sent; js = a.js; opened = a.opened; empty = a.empty; slots = a.slots; caller = a.caller };
    sends = λ r y before last to args delay s ok ready. sent_served r y before last to args delay s ready;
    joins = λ r before last void s b ok p ready. closed_served r before last void s b ready (p (omega (arith, ready.0), ((ready.0, ready.1.0), ready.1.1)));
    makes = λ r behavior fields s ok ready. quiet_served r s _ refl refl refl refl;
    creates = λ r behavior u place fields s ok low name at ready. number_served r s _ refl refl refl refl;
  }

-- ---- the law

-- a number that no join has expects nothing
slots_absent : (n i : ℕ) (js : List Join) → (IsAmong n (map (λ (j : Join). j.number) js) → ⊥) → total (slot_of n i) js ≡ 0
slots_absent n i [] a = refl
slots_absent n i (j ∷ js) a = at (nat_eq n j.number) refl (slots_absent n i js (λ q. a (inr q)))
  where
    at : (b : Bool) → nat_eq n j.number ≡ b → total (slot_of n i) js ≡ 0 → (if b then once_if_there i j else 0) + total (slot_of n i) js ≡ 0
    at true q rest = absurd (a (inl (eqb-true n j.number q)))
    at false q rest = omega (arith, rest)

uncounted : (n : ℕ) (js : List Join) → total (λ (j : Join). one_if_same n j.number) js ≡ 0 → IsAmong n (map (λ (j : Join). j.number) js) → ⊥
uncounted n [] e b = b
uncounted n (j ∷ js) e (inl same) = let one : one_if_same n j.number ≡ 1 = subst (λ k. one_if_same n k ≡ 1) same (number_same n) in absurd (omega (arith, one, e))
uncounted n (j ∷ js) e (inr i) = uncounted n js (omega (arith, e)) i

slot_own : (i : ℕ) (j : Join) → slot_of j.number i j ≡ once_if_there i j
slot_own i j = at (nat_eq j.number j.number) refl
  where
    at : (b : Bool) → nat_eq j.number j.number ≡ b → (if b then once_if_there i j else 0) ≡ once_if_there i j
    at true e = refl
    at false e = absurd (grind arith)

-- among joins with different numbers each expects its own slots
slots_each : (done js : List Join) → ((k : ℕ) → total (λ (j : Join). one_if_same k j.number) (done ++ js) ≤ 1) → EachOf (λ (j : Join). (i : ℕ) → total (slot_of j.number i) (done ++ js) ≡ once_if_there i j) js
slots_each done [] once = tt
slots_each done (j ∷ js) once = (
  own,
  subst (λ l. EachOf (λ (x : Join). (i : ℕ) → total (slot_of x.number i) l ≡ once_if_there i x) js) (append_assoc done (j ∷ []) js)
      (slots_each (done ++ j ∷ []) js (λ k. subst (λ l. total (λ (x : Join). one_if_same k x.number) l ≤ 1) (sym (append_assoc done (j ∷ []) js)) (once k))),
)
  where
    count : total (λ (x : Join). one_if_same j.number x.number) done + (1 + total (λ (x : Join). one_if_same j.number x.number) js) ≤ 1
    count = omega (arith, once j.number, total_append (λ (x : Join). one_if_same j.number x.number) done (j ∷ js), number_same j.number)

    own : (i : ℕ) → total (slot_of j.number i) (done ++ j ∷ js) ≡ once_if_there i j
    own i =
        let before : total (slot_of j.number i) done ≡ 0 = slots_absent j.number i done (uncounted j.number done (omega (arith, count))) in
        let behind : total (slot_of j.number i) js ≡ 0 = slots_absent j.number i js (uncounted j.number js (omega (arith, count))) in
        omega (arith, total_append (slot_of j.number i) done (j ∷ js), before, behind, slot_own i j)

each_two : {X : Type 0} (P Q R : X → Type 0) (xs : List X) → ((x : X) → P x → Q x → R x) → EachOf P xs → EachOf Q xs → EachOf R xs
each_two P Q R [] f p q = tt
each_two P Q R (x ∷ xs) f p q = (f x p.0 q.0, each_two P Q R xs f p.1 q.1)

each_high : (from to : ℕ) (js : List Join) → Rise from to (join_numbers js) → EachOf (λ (j : Join). from ≤ j.number) js
each_high from to [] r = tt
each_high from to (j ∷ js) r = (r.0, each_more (λ (x : Join). j.number + 1 ≤ x.number) (λ (x : Join). from ≤ x.number) js (λ x l. omega (arith, l, r.0)) (each_high (j.number + 1) to js r.1.1))

passed_on : (law : Law) (r : Context) (k : ℕ) (f : Flow) → FlowOk law r k f → law.Whole → k ≡ passes (h.answer_of_flow f)
passed_on law r k Next l whole = l
passed_on law r k (Returned v) l whole = l.0
passed_on law r k Passed l whole = l.1.1 whole

module _ (p : Program) (c : Call) (e : Effects) (old : IsOldReply c.me c.serial c.reply) (flow : Flow) (t : State) (k : ℕ)
    (order : IsOrderly (program_sizes p) c (h.effects_of flow t c.fresh)) (high : EachOf (λ (j : Join). c.serial ≤ j.number) t.joins)
    (sent_by : Served c.serial (h.handler_context p c) k (h.initial_state [] c.fields c.serial) t)
    (ends_so : is_regular p ≡ true → k ≡ passes (h.answer_of_flow flow)) where
  served_slots : (n i : ℕ) → c.serial ≤ n → times_served c.me n i t.messages t.joins ≡ total (slot_of n i) t.joins
  served_slots n i le =
      subst (λ l. times_served c.me n i l t.joins ≡ total (slot_of n i) t.joins) (sym sent_by.sent)
      (subst (λ l. times_served c.me n i sent_by.ms l ≡ total (slot_of n i) l) (sym sent_by.opened) (omega (arith, sent_by.slots n i le)))

  joins_once : (n : ℕ) → total (λ (j : Join). one_if_same n j.number) t.joins ≤ 1
  joins_once n = omega (arith, order.once n)

  pub serves : ServesSlots p c (h.effects_of flow t c.fresh)
  serves = record {
    empty = subst (EachOf IsEmpty) (sym sent_by.opened) sent_by.empty;
    once = each_two (λ (j : Join). c.serial ≤ j.number) (λ (j : Join). (i : ℕ) → total (slot_of j.number i) t.joins ≡ once_if_there i j) (λ (j : Join). (i : ℕ) → times_served c.me j.number i t.messages t.joins ≡ once_if_there i j) t.joins
        (λ j low own i. served_slots j.number i low ∙ own i) high (slots_each [] t.joins joins_once);
    others = λ n i le apart. served_slots n i le ∙ slots_absent n i t.joins apart;
    passed = λ whole some.
        subst (λ l. times_owed_by (reply_key c.reply) l t.joins ≡ passes (h.answer_of_flow flow)) (sym sent_by.sent)
        (subst (λ l. times_owed_by (reply_key c.reply) sent_by.ms l ≡ passes (h.answer_of_flow flow)) (sym sent_by.opened) (sent_by.caller some ∙ ends_so whole));
  }

pub serve_slots : HandlersServeSlots
serve_slots p c e old is =
    let run = has_run (serving c.serial (is_regular p ≡ true)) (λ behaviors n. record { me = tt; fresh = λ i l. tt; make = tt }) p c (record { texts = each_any (program_texts p); whole = λ whole. whole })
    (record { fields = each_any c.fields; args = each_any c.args; me = tt; names = λ i l. tt }) e is in
    let moved = run.left.moved (omega arith, (tt, old)) in
    subst (ServesSlots p c) (sym run.effects)
    (serves p c e old run.flow run.state run.left.passes (subst (IsOrderly (program_sizes p) c) run.effects (handlers_orderly p c e old is))
    (subst (λ (z : Effects). EachOf (λ (j : Join). c.serial ≤ j.number) z.joins) run.effects (each_high c.serial e.serial e.joins (numbers_in_order p c e is).joins))
    (record { serial = moved.serial; ms = moved.ms; sent = moved.sent; js = moved.js; opened = moved.opened; empty = moved.empty; slots = moved.slots; caller = moved.caller })
    (passed_on (serving c.serial (is_regular p ≡ true)) (h.handler_context p c) run.left.passes run.flow run.left.flow))
