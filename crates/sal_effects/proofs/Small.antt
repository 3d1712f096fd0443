-- The effects of handlers are small.
use Rattle.std.proofs.Common.{◌≡◌, ℕ, zero, suc, ◌+◌, ◌≤◌, ◌<◌, ◌⊎◌, inl, inr, Bool, true, false, if◌then◌else◌, nat_eq, List, [], ◌∷◌, ◌++◌, length, map, Option, Some, None, refl, sym, ap, subst, arith, length-append}
use Rattle.std.specs.Prelude.{◌==◌, slice_set, replicate, codes}
use Rattle.std.specs.List.{list_any}
use Rattle.std.specs.Str.{bytes_eq}
use Rattle.std.proofs.lemmas.Bool.{eqb-true}
use Rattle.std.proofs.lemmas.List.{length-replicate}
use Rattle.sal_value.specs.declared.value.Value.{Value}
use Rattle.sal_ast.specs.declared.program.Behavior.{Behavior}
use Rattle.sal_ast.specs.declared.statement.Aim.{Aim}
use Rattle.sal_ast.specs.declared.statement.Aim.TheVariants as aim
use Rattle.sal_ast.specs.declared.statement.Send.{Send}
use Rattle.sal_ast.specs.declared.statement.Property.{Property}
use Rattle.sal_ast.specs.Members.{handlers_at, handler_by_name}
use Rattle.sal_ast.specs.Sorts.{target_behavior}
use Rattle.sal_mail.specs.declared.message.Piece.{Piece}
use Rattle.sal_mail.specs.declared.message.Target.{Target}
use Rattle.sal_mail.specs.declared.message.Target.TheVariants as target
use Rattle.sal_mail.specs.declared.message.Message.{Message}
use Rattle.sal_mail.specs.declared.message.Join.{Join}
use Rattle.sal_mail.specs.declared.effects.Effects.{Effects}
use Rattle.sal_handler.specs.declared.state.Local.{Local}
use Rattle.sal_handler.specs.declared.state.End.{End}
use Rattle.sal_handler.specs.declared.state.End.TheVariants as end
use Rattle.sal_handler.specs.declared.state.EnclosingJoin.{EnclosingJoin}
use Rattle.sal_handler.specs.declared.state.State.{State}
use Rattle.sal_handler.specs.Scopes.{Context, scope_of, variable_of}
use Rattle.sal_handler.specs.Messages as m
use Rattle.sal_handler.specs.Limits.{MakesFew}
use Rattle.sal_handler.specs.WellFormed.{EachOf, IsAmong, IsWithin, IsGoodMessage, program_sizes}
use Rattle.sal_handler.proofs.Addresses.{each_append, each_more}
use Rattle.sal_handler.proofs.Induction.{IfAny}
use Rattle.sal_handler.proofs.FairCalls.{handlers_orderly}
use Rattle.sal_handler.proofs.Turns.{handlers_few}
use Rattle.sal_effects.specs.Sizes.{IsDistinct, IsHandler, IsForActor, IsFor, IsBounded, IsSmall, HandlersStaySmall}
use Rattle.sal_effects.specs.Texts.{program_texts}
use Rattle.sal_effects.proofs.Anything.{anything, each_any}
use Rattle.sal_effects.proofs.Changes.{IsBehavior, GoodSort, LocalOk, MatchesAim, IsSend, Law, slots_after, places_after, taken, sent, opened, closed, open_one, owed_to}
use Rattle.sal_effects.proofs.Handlers.{has_run, HasRun}
use Rattle.sal_effects.proofs.Running.{each_set}
use Rattle.sal_effects.proofs.Sorts.{aimed, found_handler, variables_good}

-- ---- numbers that differ

among_end : (x n : ℕ) (ns : List ℕ) → IsAmong x (ns ++ n ∷ []) → IsAmong x ns ⊎ (x ≡ n)
among_end x n [] (inl e) = inr e
among_end x n [] (inr b) = absurd b
among_end x n (y ∷ ys) (inl e) = inl (inl e)
among_end x n (y ∷ ys) (inr i) = elim (among_end x n ys i) [ inl j ↦ inl (inr j) | inr e ↦ inr e ]

any_apart : (n : ℕ) (ns : List ℕ) → list_any (λ k. k == n) ns ≡ false → IsAmong n ns → ⊥
any_apart n [] e b = b
any_apart n (y ∷ ys) e i = at (nat_eq y n) refl e i (any_apart n ys)
  where
    at : (b : Bool) → nat_eq y n ≡ b → list_any (λ k. k == n) (y ∷ ys) ≡ false → (n ≡ y) ⊎ IsAmong n ys → (list_any (λ k. k == n) ys ≡ false → IsAmong n ys → ⊥) → ⊥
    at true q e i again = absurd (grind arith)
    at false q e (inl same) again = absurd (grind arith)
    at false q e (inr i) again = again (grind arith) i

distinct_end : (ns : List ℕ) (n : ℕ) → IsDistinct ns → (IsAmong n ns → ⊥) → IsDistinct (ns ++ n ∷ [])
distinct_end [] n d a = (λ b. b, tt)
distinct_end (y ∷ ys) n d a = (λ i. elim (among_end y n ys i) [ inl j ↦ d.0 j | inr e ↦ a (inl (sym e)) ], distinct_end ys n d.1 (λ i. a (inr i)))

distinct_if_new : (done : List ℕ) (n : ℕ) → IsDistinct done → IsDistinct (m.add_if_new done n)
distinct_if_new done n d = at (list_any (λ k. k == n) done) refl
  where
    at : (b : Bool) → list_any (λ k. k == n) done ≡ b → IsDistinct (if b then done else done ++ n ∷ [])
    at true e = d
    at false e = distinct_end done n d (any_apart n done e)

distinct_new : (done ns : List ℕ) → IsDistinct done → IsDistinct (m.add_new done ns)
distinct_new done [] d = d
distinct_new done (n ∷ ns) d = distinct_new (m.add_if_new done n) ns (distinct_if_new done n d)

after_distinct : (ps : List Property) (before : Option ℕ) (is : List EnclosingJoin) (s : State) → IsDistinct (m.after_of ps before is s)
unfolding m.after_of
after_distinct ps before is s =
    distinct_new (m.add_new (m.add_new [] (m.waitfor_serials ps s)) (m.option_serials before)) (m.serials_before_joins is)
    (distinct_new (m.add_new [] (m.waitfor_serials ps s)) (m.option_serials before) (distinct_new [] (m.waitfor_serials ps s) tt))

-- ---- differing numbers in a range are at most as many as the range has

abbrev without : ℕ → List ℕ → List ℕ
without k [] = []
without k (x ∷ xs) = if nat_eq x k then xs else x ∷ without k xs

without_length : (k : ℕ) (xs : List ℕ) → length xs ≤ length (without k xs) + 1
without_length k [] = omega arith
without_length k (x ∷ xs) = at (nat_eq x k) (without_length k xs)
  where
    at : (b : Bool) → length xs ≤ length (without k xs) + 1 → length (x ∷ xs) ≤ length (if b then xs else x ∷ without k xs) + 1
    at true l = omega arith
    at false l = omega (arith, l)

without_among : (n k : ℕ) (xs : List ℕ) → IsAmong n (without k xs) → IsAmong n xs
without_among n k [] b = b
without_among n k (x ∷ xs) i = at (nat_eq x k) i (without_among n k xs)
  where
    at : (b : Bool) → IsAmong n (if b then xs else x ∷ without k xs) → (IsAmong n (without k xs) → IsAmong n xs) → (n ≡ x) ⊎ IsAmong n xs
    at true i again = inr i
    at false (inl e) again = inl e
    at false (inr i) again = inr (again i)

without_distinct : (k : ℕ) (xs : List ℕ) → IsDistinct xs → IsDistinct (without k xs)
without_distinct k [] d = d
without_distinct k (x ∷ xs) d = at (nat_eq x k) (without_distinct k xs d.1)
  where
    at : (b : Bool) → IsDistinct (without k xs) → IsDistinct (if b then xs else x ∷ without k xs)
    at true l = d.1
    at false l = (λ i. d.0 (without_among x k xs i), l)

rest_within : (from to : ℕ) (xs : List ℕ) → EachOf (IsWithin from to) xs → (IsAmong from xs → ⊥) → EachOf (IsWithin (from + 1) to) xs
rest_within from to [] w a = tt
rest_within from to (x ∷ xs) w a = at (nat_eq from x) refl (rest_within from to xs w.1 (λ i. a (inr i)))
  where
    at : (b : Bool) → nat_eq from x ≡ b → EachOf (IsWithin (from + 1) to) xs → EachOf (IsWithin (from + 1) to) (x ∷ xs)
    at true e again = absurd (a (inl (eqb-true from x e)))
    at false e again = ((grind (arith, w.0.0), w.0.1), again)

without_within : (from to : ℕ) (xs : List ℕ) → IsDistinct xs → EachOf (IsWithin from to) xs → EachOf (IsWithin (from + 1) to) (without from xs)
without_within from to [] d w = tt
without_within from to (x ∷ xs) d w = at (nat_eq x from) refl (without_within from to xs d.1 w.1)
  where
    at : (b : Bool) → nat_eq x from ≡ b → EachOf (IsWithin (from + 1) to) (without from xs) → EachOf (IsWithin (from + 1) to) (if b then xs else x ∷ without from xs)
    at true e again = rest_within from to xs w.1 (λ i. d.0 (subst (λ k. IsAmong k xs) (sym (eqb-true x from e)) i))
    at false e again = ((grind (arith, w.0.0), w.0.1), again)

few_within : (width from to : ℕ) (xs : List ℕ) → to ≤ from + width → IsDistinct xs → EachOf (IsWithin from to) xs → length xs ≤ width
few_within zero from to [] l d w = omega arith
few_within zero from to (x ∷ xs) l d w = absurd (omega (arith, l, w.0.0, w.0.1))
few_within (suc width) from to xs l d w =
    let fewer = few_within width (from + 1) to (without from xs) (omega (arith, l)) (without_distinct from xs d) (without_within from to xs d w) in
    omega (arith, fewer, without_length from xs)

-- ---- where messages go

-- in a program with a behaviour of its own
abbrev Numbered : List Behavior → ℕ → Option ℕ → Type 0
Numbered behaviors mine o = IfAny (IsBehavior behaviors mine) o

abbrev IsForNumber : List Behavior → ℕ → ℕ → Type 0
IsForNumber behaviors behavior handler = ((behavior < length behaviors) × IsHandler behaviors behavior handler) ⊎ ((behavior ≡ 65534) × (handler ≡ 65534))

module _ (behaviors : List Behavior) (mine : ℕ) (own : mine < length behaviors) where
  is_low : (n : ℕ) → IsBehavior behaviors mine n → n < length behaviors
  is_low n (inl e) = omega (arith, e, own)
  is_low n (inr l) = l.0

  handler_of : (n : ℕ) (o : Option ℕ) → IfAny (λ k. k < length (handlers_at behaviors (Some n))) o → IsHandler behaviors n (m.or_no_number o)
  handler_of n None g = inr refl
  handler_of n (Some k) g = inl g

  number_for : (name : List ℕ) (o : Option ℕ) → Numbered behaviors mine o → IsForNumber behaviors (m.or_no_number o) (m.or_no_number (handler_by_name name (handlers_at behaviors o)))
  number_for name None g = inr (refl, nobody (handler_by_name name []) (found_handler name []))
    where
      nobody : (o : Option ℕ) → IfAny (λ k. k < 0) o → m.or_no_number o ≡ 65534
      nobody None g = refl
      nobody (Some k) g = absurd (omega (arith, g))
  number_for name (Some n) g = inl (is_low n g, handler_of n (handler_by_name name (handlers_at behaviors (Some n))) (found_handler name (handlers_at behaviors (Some n))))

  abbrev ForActor : m.HandlerId → Type 0
  ForActor z = IsForActor behaviors z.behavior z.handler

  abbrev ForOutput : m.HandlerId → Type 0
  ForOutput z = IsFor behaviors target.Output z.behavior z.handler

  actor_for : (name : List ℕ) (o : Option ℕ) (r : Context) → r.behaviors ≡ behaviors → Numbered behaviors mine o → IsForActor behaviors (m.actor_handler_id name o r).behavior (m.actor_handler_id name o r).handler
  actor_for name o r e g = at (bytes_eq name (codes "migrate"))
    where
      plain : IsForActor behaviors (m.or_no_number o) (m.or_no_number (handler_by_name name (handlers_at r.behaviors o)))
      plain = subst (λ bs. IsForActor behaviors (m.or_no_number o) (m.or_no_number (handler_by_name name (handlers_at bs o)))) (sym e) (inr (number_for name o g))

      at : (b : Bool) → ForActor (if b then record { behavior = 65535; handler = 65535 } else record { behavior = m.or_no_number o; handler = m.or_no_number (handler_by_name name (handlers_at r.behaviors o)) })
      at true = inl (refl, refl)
      at false = plain

  output_for : (name : List ℕ) → IsFor behaviors target.Output (m.output_handler_id name).behavior (m.output_handler_id name).handler
  output_for name = at (bytes_eq name (codes "println"))
    where
      at : (b : Bool) → ForOutput (record { behavior = 65535; handler = if b then 1 else 0 })
      at true = (refl, inr refl)
      at false = (refl, inl refl)

  aim_for : (a : Aim) (name : List ℕ) (o : Option ℕ) (r : Context) (to : Target) → r.behaviors ≡ behaviors → Numbered behaviors mine o → MatchesAim a to → IsFor behaviors to (m.aim_handler_id a name o r).behavior (m.aim_handler_id a name o r).handler
  aim_for (aim.Output at) name o r target.Output e g ok = output_for name
  aim_for (aim.Output at) name o r (target.Actor n) e g ok = absurd ok
  aim_for aim.Own name o r target.Output e g ok = absurd ok
  aim_for aim.Own name o r (target.Actor n) e g ok = actor_for name o r e g
  aim_for (aim.Actor y) name o r target.Output e g ok = absurd ok
  aim_for (aim.Actor y) name o r (target.Actor n) e g ok = actor_for name o r e g

message_for : (y : Send) (r : Context) (to : Target) (s : State) → r.mine < length r.behaviors → EachOf (LocalOk anything r.behaviors r.mine) s.locals → MatchesAim y.aim to → IsFor r.behaviors to (m.handler_id_of y r s).behavior (m.handler_id_of y r s).handler
unfolding m.handler_id_of
message_for y r to s own ls ok =
    aim_for r.behaviors r.mine own y.aim y.handler.text (target_behavior y.aim (scope_of r s)) r to refl (aimed r.behaviors r.mine y.aim (map variable_of s.locals) (variables_good r.behaviors r.mine s.locals (each_more (LocalOk anything r.behaviors r.mine) (λ (z : Local). GoodSort r.behaviors r.mine z.sort) s.locals (λ z k. k.sort) ls))) ok

-- ---- what a part keeps

abbrev size : State → ℕ
size s = length s.messages + length s.joins

abbrev SlotsWithin : State → Type 0
SlotsWithin s = EachOf (λ j. length j.places ≤ size s) s.joins

-- messages are bounded where the program has the behaviour whose handler runs; slots are no more than messages and joins
pub record Sized (r : Context) (s t : State) : Type 0 where
  pub grows : size s ≤ size t
  pub places : t.places + size s ≤ s.places + size t
  pub slots : SlotsWithin s → SlotsWithin t
  pub messages : r.mine < length r.behaviors → EachOf (IsBounded r.behaviors) s.messages → EachOf (IsBounded r.behaviors) t.messages

sized_then : (r : Context) (s t u : State) → Sized r s t → Sized r t u → Sized r s u
sized_then r s t u p q = record {
  grows = omega (arith, p.grows, q.grows);
  places = omega (arith, p.places, q.places);
  slots = λ h. q.slots (p.slots h);
  messages = λ own h. q.messages own (p.messages own h);
}

same_sized : (r : Context) (s t : State) → t.places ≡ s.places → t.messages ≡ s.messages → t.joins ≡ s.joins → Sized r s t
same_sized r s t p m j =
    let a : length t.messages ≡ length s.messages = ap length m in
    let b : length t.joins ≡ length s.joins = ap length j in
    record {
      grows = omega (arith, a, b);
      places = omega (arith, a, b, p);
      slots = λ h. subst (λ js. EachOf (λ (k : Join). length k.places ≤ size t) js) (sym j) (each_more (λ (k : Join). length k.places ≤ size s) (λ (k : Join). length k.places ≤ size t) s.joins (λ k l. omega (arith, l, a, b)) h);
      messages = λ own h. subst (EachOf (IsBounded r.behaviors)) (sym m) h;
    }

slots_few : (is : List EnclosingJoin) (s : State) → slots_after is s ≤ s.places + 1
slots_few [] s = omega arith
slots_few (i ∷ is) s = omega arith

places_few : (last : End) (r : Context) (s : State) → places_after last r s ≤ s.places + 1
places_few end.Nobody r s = omega arith
places_few end.Token r s = omega arith
places_few end.Place r s = slots_few r.within s
places_few end.Caller r s = omega arith

sent_sized : (r : Context) (y : Send) (before : Option ℕ) (last : End) (to : Target) (args : List Piece) (delay : ℕ) (s : State) → IsSend anything r y last to args delay s → Sized r s (sent y r before last to args delay s)
sent_sized r y before last to args delay s ok =
    let it : Message = m.message_with y r before to args delay s.serial (owed_to last r s) (taken last r s) in
    let l : length (s.messages ++ it ∷ []) ≡ length s.messages + 1 = length-append s.messages (it ∷ []) in
    record {
      grows = omega (arith, l);
      places = omega (arith, l, places_few last r s);
      slots = λ h. each_more (λ (k : Join). length k.places ≤ size s) (λ (k : Join). length k.places ≤ size (sent y r before last to args delay s)) s.joins (λ k w. omega (arith, w, l)) h;
      messages = λ own h. each_append (IsBounded r.behaviors) s.messages (it ∷ []) h (record { after = after_distinct y.properties before r.within (taken last r s); delay = ok.wait; handler = message_for y r to (taken last r s) own ok.kept.locals ok.aim }, tt);
    }

set_length : {X : Type 0} (xs : List X) (i : ℕ) (y : X) → length (slice_set xs i y) ≡ length xs
set_length [] i y = refl
set_length (x ∷ xs) zero y = refl
set_length (x ∷ xs) (suc i) y = ap suc (set_length xs i y)

closed_sized : (r : Context) (n : ℕ) (before : Option ℕ) (last : End) (void : Bool) (s b : State) → Sized (record r { within = record { join = n; before = before } ∷ r.within }) (opened last r void s) b → Sized r s (closed last r void s b)
closed_sized r n before last void s b p =
    let l : length (s.joins ++ open_one last r void s ∷ []) ≡ length s.joins + 1 = length-append s.joins (open_one last r void s ∷ []) in
    let same : length (slice_set b.joins (length s.joins) shut) ≡ length b.joins = set_length b.joins (length s.joins) shut in
    let few : length (replicate {A = Option Value} b.places None) ≡ b.places = length-replicate b.places None in
    record {
      grows = omega (arith, l, same, p.grows);
      places = omega (arith, l, same, p.grows, places_few last r s);
      slots = λ h.
          each_more (λ (k : Join). length k.places ≤ size b) (λ (k : Join). length k.places ≤ length b.messages + length (slice_set b.joins (length s.joins) shut)) (slice_set b.joins (length s.joins) shut) (λ k w. omega (arith, w, same))
          (each_set (λ (k : Join). length k.places ≤ size b) b.joins (length s.joins) shut
          (p.slots (each_append (λ (k : Join). length k.places ≤ size (opened last r void s)) s.joins (open_one last r void s ∷ []) (each_more (λ (k : Join). length k.places ≤ size s) (λ (k : Join). length k.places ≤ size (opened last r void s)) s.joins (λ k w. omega (arith, w, l)) h) (omega arith, tt)))
          (omega (arith, few, p.places, l)));
      messages = p.messages;
    }
  where
    shut : Join
    shut = record { number = s.serial; places = replicate b.places None; void = void; reply = owed_to last r s }

abbrev sizing : Law
sizing = record {
  values = anything;
  Whole = ⊥;
  Moves = λ r k s t. Sized r s t;
  quiet = λ r s locals fields turns. same_sized r s (record s { locals = locals; fields = fields; turns = turns }) refl refl refl;
  next = λ r k s t u p q. sized_then r s t u p q;
  scoped = λ r k s t locals p. sized_then r s t (record t { locals = locals }) p (same_sized r t (record t { locals = locals }) refl refl refl);
  sends = sent_sized;
  joins = λ r before last void s b ok p. closed_sized r s.serial before last void s b p;
  makes = λ r behavior fields s ok. same_sized r s _ refl refl refl;
  creates = λ r behavior u place fields s ok low name at. same_sized r s _ refl refl refl;
}

pub stay_small : HandlersStaySmall
stay_small p c e is = small
  where
    run : HasRun sizing (λ behaviors n. record { me = tt; fresh = λ i l. tt; make = tt }) p c (record { texts = each_any (program_texts p); whole = λ b. absurd b }) (record { fields = each_any c.fields; args = each_any c.args; me = tt; names = λ i l. tt }) e
    run = has_run sizing (λ behaviors n. record { me = tt; fresh = λ i l. tt; make = tt }) p c (record { texts = each_any (program_texts p); whole = λ b. absurd b }) (record { fields = each_any c.fields; args = each_any c.args; me = tt; names = λ i l. tt }) e is

    bounded : EachOf (IsBounded p.behaviors) e.messages
    bounded = subst (λ (z : Effects). EachOf (IsBounded p.behaviors) z.messages) (sym run.effects)
        (elim run.behavior [
          | inl low ↦ run.left.moved.messages low tt
          | inr same ↦ subst (λ (z : State). EachOf (IsBounded p.behaviors) z.messages) (sym same) tt
        ])

    slots : EachOf (λ (j : Join). length j.places ≤ length e.messages + length e.joins) e.joins
    slots = subst (λ (z : Effects). EachOf (λ (j : Join). length j.places ≤ length z.messages + length z.joins) z.joins) (sym run.effects) (run.left.moved.slots tt)

    few : MakesFew c e
    few = handlers_few p c e is

    small : IsSmall p c e
    small = record {
      messages = bounded;
      joins = each_more (λ (j : Join). length j.places ≤ length e.messages + length e.joins) (λ (j : Join). length j.places ≤ 2048) e.joins (λ j l. omega (arith, l, few.few.0, few.few.1)) slots;
      waits = λ old. waits (handlers_orderly p c e old is).messages;
    }
      where
        all_waits : (ms : List Message) → EachOf (IsBounded p.behaviors) ms → EachOf (IsGoodMessage c.me c.reply c.serial e.serial (program_sizes p)) ms → EachOf (λ (m : Message). length m.after ≤ 3072) ms
        all_waits [] b g = tt
        all_waits (m ∷ ms) b g = (few_within 3072 c.serial e.serial m.after (omega (arith, few.serial, few.few.0, few.few.1, few.few.2)) b.0.after g.0.after, all_waits ms b.1 g.1)

        waits : EachOf (IsGoodMessage c.me c.reply c.serial e.serial (program_sizes p)) e.messages → EachOf (λ (m : Message). length m.after ≤ 3072) e.messages
        waits g = all_waits e.messages bounded g
