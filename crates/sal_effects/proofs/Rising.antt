-- Numbers rise.
use Rattle.std.proofs.Common.{◌≡◌, ℕ, zero, suc, ◌+◌, ◌≤◌, Bool, List, [], ◌∷◌, ◌++◌, length, map, None, refl, sym, ap, subst, ◌∙◌, arith, append_assoc}
use Rattle.std.specs.Prelude.{slice_set, replicate}
use Rattle.std.proofs.lemmas.List.{append-nil}
use Rattle.std.proofs.Math.Seq.{set-append_seam}
use Rattle.sal_mail.specs.declared.message.Message.{Message}
use Rattle.sal_mail.specs.declared.message.Join.{Join}
use Rattle.sal_mail.specs.declared.effects.Creation.{Creation}
use Rattle.sal_handler.specs.declared.state.End.{End}
use Rattle.sal_handler.specs.declared.state.State.{State}
use Rattle.sal_handler.specs.Scopes.{Context}
use Rattle.sal_effects.specs.Numbers.{Rise, message_numbers, join_numbers, creation_numbers, NumbersRise, HandlersNumberInOrder}
use Rattle.sal_effects.proofs.Anything.{anything, each_any}
use Rattle.sal_effects.proofs.Changes.{Law, opened, closed, open_one, owed_to}
use Rattle.sal_effects.proofs.Handlers.{has_run}
use Rattle.sal_effects.specs.Texts.{program_texts}

rise_low : (a b c : ℕ) (ns : List ℕ) → a ≤ b → Rise b c ns → Rise a c ns
rise_low a b c [] le r = tt
rise_low a b c (n ∷ ns) le r = (omega (arith, le, r.0), r.1)

rise_high : (a b c : ℕ) (ns : List ℕ) → b ≤ c → Rise a b ns → Rise a c ns
rise_high a b c [] le r = tt
rise_high a b c (n ∷ ns) le r = (r.0, (omega (arith, le, r.1.0), rise_high (n + 1) b c ns le r.1.1))

rise_then : (a b c : ℕ) (xs ys : List ℕ) → a ≤ b → b ≤ c → Rise a b xs → Rise b c ys → Rise a c (xs ++ ys)
rise_then a b c [] ys l m r q = rise_low a b c ys l q
rise_then a b c (n ∷ ns) ys l m r q = (r.0, (omega (arith, m, r.1.0), rise_then (n + 1) b c ns ys (omega (arith, r.1.0)) m r.1.1 q))

-- numbers of one list after those of another, which rise
pub record Adds (from to : ℕ) (old new : List ℕ) : Type 0 where
  pub more : List ℕ
  pub is : new ≡ old ++ more
  pub rise : Rise from to more

adds_none : (from to : ℕ) (old : List ℕ) → Adds from to old old
adds_none from to old = record { more = []; is = sym (append-nil old); rise = tt }

adds_then : (a b c : ℕ) (x y z : List ℕ) → a ≤ b → b ≤ c → Adds a b x y → Adds b c y z → Adds a c x z
adds_then a b c x y z l m p q = record {
  more = p.more ++ q.more;
  is = q.is ∙ ap (λ w. w ++ q.more) p.is ∙ append_assoc x p.more q.more;
  rise = rise_then a b c p.more q.more l m p.rise q.rise;
}

map_append : {A : Type 0} (f : A → ℕ) (xs ys : List A) → map f (xs ++ ys) ≡ map f xs ++ map f ys
map_append f [] ys = refl
map_append f (x ∷ xs) ys = ap (λ l. f x ∷ l) (map_append f xs ys)

map_set : {A : Type 0} (f : A → ℕ) (xs : List A) (i : ℕ) (y : A) → map f (slice_set xs i y) ≡ slice_set (map f xs) i (f y)
map_set f [] i y = refl
map_set f (x ∷ xs) zero y = refl
map_set f (x ∷ xs) (suc i) y = ap (λ l. f x ∷ l) (map_set f xs i y)

map_length : {A : Type 0} (f : A → ℕ) (xs : List A) → length (map f xs) ≡ length xs
map_length f [] = refl
map_length f (x ∷ xs) = ap suc (map_length f xs)

-- one item with the next number
adds_one : {A : Type 0} (f : A → ℕ) (n : ℕ) (xs : List A) (x : A) → f x ≡ n → Adds n (n + 1) (map f xs) (map f (xs ++ x ∷ []))
adds_one f n xs x e = record { more = f x ∷ []; is = map_append f xs (x ∷ []); rise = (omega (arith, e), (omega (arith, e), tt)) }

-- what a part adds to the three lists
pub record Numbered (s t : State) : Type 0 where
  pub serial : s.serial ≤ t.serial
  pub messages : Adds s.serial t.serial (message_numbers s.messages) (message_numbers t.messages)
  pub joins : Adds s.serial t.serial (join_numbers s.joins) (join_numbers t.joins)
  pub creations : Adds s.serial t.serial (creation_numbers s.creations) (creation_numbers t.creations)

numbered_then : (s t u : State) → Numbered s t → Numbered t u → Numbered s u
numbered_then s t u p q = record {
  serial = omega (arith, p.serial, q.serial);
  messages = adds_then s.serial t.serial u.serial (message_numbers s.messages) (message_numbers t.messages) (message_numbers u.messages) p.serial q.serial p.messages q.messages;
  joins = adds_then s.serial t.serial u.serial (join_numbers s.joins) (join_numbers t.joins) (join_numbers u.joins) p.serial q.serial p.joins q.joins;
  creations = adds_then s.serial t.serial u.serial (creation_numbers s.creations) (creation_numbers t.creations) (creation_numbers u.creations) p.serial q.serial p.creations q.creations;
}

same_numbers : (s t : State) → t.serial ≡ s.serial → t.messages ≡ s.messages → t.joins ≡ s.joins → t.creations ≡ s.creations → Numbered s t
same_numbers s t a m j x = record {
  serial = omega (arith, a);
  messages = subst (λ l. Adds s.serial t.serial (message_numbers s.messages) (message_numbers l)) (sym m) (adds_none s.serial t.serial (message_numbers s.messages));
  joins = subst (λ l. Adds s.serial t.serial (join_numbers s.joins) (join_numbers l)) (sym j) (adds_none s.serial t.serial (join_numbers s.joins));
  creations = subst (λ l. Adds s.serial t.serial (creation_numbers s.creations) (creation_numbers l)) (sym x) (adds_none s.serial t.serial (creation_numbers s.creations));
}

-- a join that is opened, and then closed where it stood
closed_numbers : (last : End) (r : Context) (void : Bool) (s b : State) → Numbered (opened last r void s) b → Numbered s (closed last r void s b)
closed_numbers last r void s b p =
    let first = numbered_then s (opened last r void s) b opening p in
    record {
      serial = first.serial;
      messages = first.messages;
      joins = subst (λ l. Adds s.serial b.serial (join_numbers s.joins) l) (sym same) first.joins;
      creations = first.creations;
    }
  where
    opening : Numbered s (opened last r void s)
    opening = record {
      serial = omega arith;
      messages = adds_none s.serial (s.serial + 1) (message_numbers s.messages);
      joins = adds_one (λ (j : Join). j.number) s.serial s.joins (open_one last r void s) refl;
      creations = adds_none s.serial (s.serial + 1) (creation_numbers s.creations);
    }

    shut : Join
    shut = record { number = s.serial; places = replicate b.places None; void = void; reply = owed_to last r s }

    stood : join_numbers b.joins ≡ join_numbers s.joins ++ s.serial ∷ p.joins.more
    stood = p.joins.is ∙ ap (λ l. l ++ p.joins.more) (map_append (λ (j : Join). j.number) s.joins (open_one last r void s ∷ [])) ∙ append_assoc (join_numbers s.joins) (s.serial ∷ []) p.joins.more

    same : join_numbers (slice_set b.joins (length s.joins) shut) ≡ join_numbers b.joins
    same =
        map_set (λ (j : Join). j.number) b.joins (length s.joins) shut
        ∙ ap (λ i. slice_set (join_numbers b.joins) i s.serial) (sym (map_length (λ (j : Join). j.number) s.joins))
        ∙ ap (λ l. slice_set l (length (join_numbers s.joins)) s.serial) stood
        ∙ set-append_seam (join_numbers s.joins) s.serial p.joins.more s.serial ∙ sym stood

abbrev rising : Law
rising = record {
  values = anything;
  Whole = ⊥;
  Moves = λ r k s t. Numbered s t;
  quiet = λ r s locals fields turns. same_numbers s (record s { locals = locals; fields = fields; turns = turns }) refl refl refl refl;
  next = λ r k s t u p q. numbered_then s t u p q;
  scoped = λ r k s t locals p. numbered_then s t (record t { locals = locals }) p (same_numbers t (record t { locals = locals }) refl refl refl refl);
  sends = λ r y before last to args delay s ok. record {
    serial = omega arith;
    messages = adds_one (λ (m : Message). m.serial) s.serial s.messages _ refl;
    joins = adds_none s.serial (s.serial + 1) (join_numbers s.joins);
    creations = adds_none s.serial (s.serial + 1) (creation_numbers s.creations);
  };
  joins = λ r before last void s b ok p. closed_numbers last r void s b p;
  makes = λ r behavior fields s ok. same_numbers s _ refl refl refl refl;
  creates = λ r behavior u place fields s ok low name at. record {
    serial = omega arith;
    messages = adds_none s.serial (s.serial + 1) (message_numbers s.messages);
    joins = adds_none s.serial (s.serial + 1) (join_numbers s.joins);
    creations = adds_one (λ (x : Creation). x.serial) s.serial s.creations _ refl;
  };
}

added : (from to : ℕ) (new : List ℕ) → Adds from to [] new → Rise from to new
added from to new p = subst (Rise from to) (sym p.is) p.rise

pub numbers_in_order : HandlersNumberInOrder
numbers_in_order p c e is =
    let run = has_run rising (λ behaviors n. record { me = tt; fresh = λ i l. tt; make = tt }) p c (record { texts = each_any (program_texts p); whole = λ b. absurd b })
    (record { fields = each_any c.fields; args = each_any c.args; me = tt; names = λ i l. tt }) e is in
    subst (NumbersRise c) (sym run.effects)
    (record {
      serial = run.left.moved.serial;
      messages = added c.serial run.state.serial (message_numbers run.state.messages) run.left.moved.messages;
      joins = added c.serial run.state.serial (join_numbers run.state.joins) run.left.moved.joins;
      creations = added c.serial run.state.serial (creation_numbers run.state.creations) run.left.moved.creations;
    })
