-- A handler's messages have the actor's name.
use Rattle.std.proofs.Common.{◌≡◌, List, [], ◌∷◌, ◌++◌, refl, sym, subst}
use Rattle.sal_value.specs.declared.name.Name.{Name}
use Rattle.sal_mail.specs.declared.message.Message.{Message}
use Rattle.sal_mail.specs.declared.effects.Effects.{Effects}
use Rattle.sal_handler.specs.declared.state.State.{State}
use Rattle.sal_handler.specs.WellFormed.{EachOf}
use Rattle.sal_handler.proofs.Addresses.{each_append}
use Rattle.sal_effects.specs.Makers.{HandlersSignTheirOwn}
use Rattle.sal_effects.specs.Texts.{program_texts}
use Rattle.sal_effects.proofs.Anything.{anything, each_any}
use Rattle.sal_effects.proofs.Changes.{Law}
use Rattle.sal_effects.proofs.Handlers.{has_run}

abbrev AreOf : Name → List Message → Type 0
AreOf me ms = EachOf (λ (m : Message). m.maker ≡ me) ms

-- a part leaves messages of this actor alone, where they were of this actor alone before
record Signs (me : Name) (s t : State) : Type 0 where
  pub keeps : AreOf me s.messages → AreOf me t.messages

signs_then : (me : Name) (s t u : State) → Signs me s t → Signs me t u → Signs me s u
signs_then me s t u p q = record { keeps = λ all. q.keeps (p.keeps all) }

same_messages : (me : Name) (s t : State) → t.messages ≡ s.messages → Signs me s t
same_messages me s t e = record { keeps = λ all. subst (AreOf me) (sym e) all }

one_more : (me : Name) (s t : State) (m : Message) → t.messages ≡ s.messages ++ m ∷ [] → m.maker ≡ me → Signs me s t
one_more me s t m e own = record { keeps = λ all. subst (AreOf me) (sym e) (each_append (λ (m : Message). m.maker ≡ me) s.messages (m ∷ []) all (own, tt)) }

abbrev signing : Law
signing = record {
  values = anything;
  Whole = ⊥;
  Moves = λ r k s t. Signs r.me s t;
  quiet = λ r s locals fields turns. same_messages r.me s _ refl;
  next = λ r k s t u p q. signs_then r.me s t u p q;
  scoped = λ r k s t locals p. signs_then r.me s t (record t { locals = locals }) p (same_messages r.me t _ refl);
  sends = λ r y before last to args delay s ok. one_more r.me s _ _ refl refl;
  joins = λ r before last void s b ok p. record { keeps = λ all. p.keeps all };
  makes = λ r behavior fields s ok. same_messages r.me s _ refl;
  creates = λ r behavior u place fields s ok low name at. same_messages r.me s _ refl;
}

pub own_signed : HandlersSignTheirOwn
own_signed p c e is =
    let run = has_run signing (λ behaviors n. record { me = tt; fresh = λ i l. tt; make = tt }) p c (record { texts = each_any (program_texts p); whole = λ b. absurd b })
    (record { fields = each_any c.fields; args = each_any c.args; me = tt; names = λ i l. tt }) e is in
    subst (λ (x : Effects). AreOf c.me x.messages) (sym run.effects) (run.left.moved.keeps tt)
