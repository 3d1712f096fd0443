-- What the parts of a step make of a configuration.
use Rattle.std.proofs.Common.{◌≡◌, ℕ, Bool, true, false, ◌&&◌, not, List, [], ◌++◌, Some, None, refl, sym, ap, ◌∙◌}
use Rattle.std.specs.Prelude.{reverse, if◌then◌else◌}
use Rattle.std.specs.FinMap as fm
use Rattle.sal_value.specs.declared.name.Name.{Name}
use Rattle.sal_value.specs.declared.name.Authority.{Authority}
use Rattle.sal_value.specs.declared.value.Value.{Value}
use Rattle.sal_mail.specs.declared.message.Message.{Message}
use Rattle.sal_mail.specs.declared.message.Join.{Join}
use Rattle.sal_mail.specs.declared.message.Reply.{Reply}
use Rattle.sal_mail.specs.declared.effects.Actor.{Actor}
use Rattle.sal_mail.specs.declared.effects.Answer.{Answer}
use Rattle.sal_mail.specs.declared.effects.Answer.TheVariants as answer
use Rattle.sal_mail.specs.declared.effects.Creation.{Creation}
use Rattle.sal_mail.specs.declared.fault.FaultKind.TheVariants.{NameTaken}
use Rattle.sal_handler.specs.Calls.{Call}
use Rattle.sal_handler.specs.declared.turn.Outcome.{Outcome}
use Rattle.sal_source.specs.Keys.{made_key}
use Rattle.sal_source.specs.Configuration.{Waiting, Configuration}
use Rattle.sal_source.specs.Give.{settle_all, settle_all_answers}
use Rattle.sal_source.specs.Step as s
use Rattle.sal_source.specs.code.Changes.{OpensAll, Settles}
use Rattle.sal_source.specs.code.Handling.{CalledBy, Enters}

-- ---- what waits

reverse_answered : (answer : Answer) (reply : Reply) → reverse (s.answer_replies answer reply) ≡ s.answer_replies answer reply
reverse_answered (answer.Value v) reply = refl
reverse_answered answer.Passed reply = refl

pub enter_is : (maker : Name) (ms : List Message) (js : List Join) (answer : Answer) (reply : Reply) (w0 w1 w2 w3 : Waiting) (l0 l1 : List (Reply × Value)) (a0 a1 : List (ℕ × Value)) →
    l0 ≡ s.answer_replies answer reply → OpensAll maker js w0 w1 l0 l1 → w2 ≡ record w1 { messages = s.put_messages ms w1.messages } → a0 ≡ [] → Settles (reverse l1) w2 w3 a0 a1 → Enters maker ms js answer reply w0 w3 a1
enter_is maker ms js answer reply w0 w1 w2 w3 l0 l1 a0 a1 l o m a t =
    let all : Waiting = record { messages = s.put_messages ms w0.messages; joins = s.put_joins maker js w0.joins } in
    let w : w2 ≡ all = m ∙ ap (λ (w : Waiting). record w { messages = s.put_messages ms w.messages }) o.waiting in
    let g : reverse l1 ≡ s.full_join_replies js ++ s.answer_replies answer reply = o.left ∙ ap (λ l. s.full_join_replies js ++ l) (ap reverse l ∙ reverse_answered answer reply) in
    record {
      waiting = t.waiting ∙ (λ i. settle_all (g i) (w i));
      answers = t.answers ∙ ap (λ x. x ++ settle_all_answers (reverse l1) w2) a ∙ (λ i. settle_all_answers (g i) (w i));
    }

-- ---- a handler

pub handle_called : (outcomes : Call → Outcome) (maker : Name) (serial : ℕ) (fresh : List Name) (c : Configuration) (m : Message) (a : Actor × ℕ) → CalledBy maker serial c m a →
    s.handle_step outcomes maker serial fresh c ≡ s.after_outcome (outcomes (s.call_of m a fresh)) maker serial fresh m a.0 (s.drop_message maker serial c)
handle_called outcomes maker serial fresh c m a h = let p = h.pending in let r = h.ready in let t = h.there in let u = h.understands in rw (p, r, t, u) refl

-- ---- creations

pub bind_given : (authorities : List Authority) (maker : Name) (serial : ℕ) (c : Configuration) (x : Name × Creation) → Some x ≡ fm.get c.creations (made_key maker serial) → s.is_given x.1 c ≡ true → s.bind_step authorities maker serial c ≡ None
bind_given authorities maker serial c x got given =
    ap (λ o. s.bind authorities maker serial o c) (sym got) ∙ ap (λ g. if s.is_served authorities x.1.name && not g then Some (s.bind_creation x.1 (s.drop_creation maker serial c)) else None) given ∙ at (s.is_served authorities x.1.name)
  where
    at : (b : Bool) → (if b && not true then Some (s.bind_creation x.1 (s.drop_creation maker serial c)) else None) ≡ None
    at true = refl
    at false = refl

pub bind_done : (authorities : List Authority) (maker : Name) (serial : ℕ) (c : Configuration) (x : Name × Creation) → Some x ≡ fm.get c.creations (made_key maker serial) → s.is_served authorities x.1.name ≡ true → s.is_given x.1 c ≡ false →
    s.bind_step authorities maker serial c ≡ Some (s.bind_creation x.1 (s.drop_creation maker serial c))
bind_done authorities maker serial c x got served given =
    ap (λ o. s.bind authorities maker serial o c) (sym got)
    ∙ ap (λ g. if s.is_served authorities x.1.name && not g then Some (s.bind_creation x.1 (s.drop_creation maker serial c)) else None) given
    ∙ ap (λ b. if b && not false then Some (s.bind_creation x.1 (s.drop_creation maker serial c)) else None) served

pub refuse_not : (maker : Name) (serial : ℕ) (c : Configuration) (x : Name × Creation) → Some x ≡ fm.get c.creations (made_key maker serial) → s.is_given x.1 c ≡ false → s.refuse_step maker serial c ≡ None
refuse_not maker serial c x got given =
    ap (λ o. s.refuse maker serial o c) (sym got) ∙ ap (λ g. if g then Some (s.add_fault NameTaken maker serial (s.drop_creation maker serial c)) else None) given

pub refuse_done : (maker : Name) (serial : ℕ) (c : Configuration) (x : Name × Creation) → Some x ≡ fm.get c.creations (made_key maker serial) → s.is_given x.1 c ≡ true →
    s.refuse_step maker serial c ≡ Some (s.add_fault NameTaken maker serial (s.drop_creation maker serial c))
refuse_done maker serial c x got given =
    ap (λ o. s.refuse maker serial o c) (sym got) ∙ ap (λ g. if g then Some (s.add_fault NameTaken maker serial (s.drop_creation maker serial c)) else None) given
