-- Messages in runs of accepted programs have at most 16 arguments.
use Rattle.std.proofs.Common.{◌≡◌, ℕ, ◌≤◌, Bool, true, false, if◌then◌else◌, List, length, map, Option, Some, None, refl, ap, arith}
use Rattle.std.specs.Prelude.{slice_get}
use Rattle.std.proofs.lemmas.List.{length-map}
use Rattle.sal_value.specs.declared.value.Sort.{Sort}
use Rattle.sal_value.proofs.Tables.{some_is}
use Rattle.sal_ast.specs.declared.program.Behavior.{Behavior}
use Rattle.sal_ast.specs.declared.program.Program.{Program}
use Rattle.sal_ast.specs.Members.{Handler, handlers_of}
use Rattle.sal_ast.specs.Sorts.{result_sort}
use Rattle.sal_mail.specs.declared.message.Message.{Message}
use Rattle.sal_mail.specs.declared.message.Target.{Target}
use Rattle.sal_mail.specs.declared.message.Target.TheVariants as target
use Rattle.sal_types.specs.declared.signature.Signature.{Signature}
use Rattle.sal_types.specs.Programs.{IsAccepted}
use Rattle.sal_types.specs.Signatures.{all_some}
use Rattle.sal_typing.proofs.Members.{programs_have_parts}
use Rattle.sal_handler.specs.Fits.{sorts_of, is_migrate}
use Rattle.sal_fitting.specs.Programs.{or_void, signature_of, signature_in, signatures}
use Rattle.sal_fitting.specs.Runs.{HasArguments}
use Rattle.sal_fitting.specs.Signatures.{migrate_signature, signature_at}
use Rattle.sal_soundness.specs.Laws.{MessagesStayShort}
use Rattle.sal_soundness.proofs.Handling.{all_there, signature_parts}
use Rattle.sal_soundness.proofs.Running.{accepted_fit}

module _ (p : Program) (a : IsAccepted p) where
  -- a handler has at most 16 parameters
  handler_few : (n k : ℕ) (b : Behavior) → slice_get p.behaviors n ≡ Some b → (o : Option Handler) → slice_get (handlers_of b) k ≡ o → (g : Signature) → signature_of p.behaviors o ≡ Some g → length g.params ≤ 16
  handler_few n k b is None at g e = absurd cc
  handler_few n k b is (Some q) at g e =
      let ps : List (Option Sort) = sorts_of p.behaviors (map (λ x. x.sort) q.params) in
      let few : length q.params ≤ 16 = (((programs_have_parts p a.typed).behaviors n b is).handlers k q at).0.few in
      let same : ps ≡ map (λ s. Some s) g.params = all_there ps g.params (signature_parts (all_some ps) (or_void (result_sort q.result p.behaviors)) g e).0 in
      let left : length (sorts_of p.behaviors (map (λ x. x.sort) q.params)) ≡ length (map (λ x. x.sort) q.params) = length-map (map (λ x. x.sort) q.params) _ in
      let last : length (map (λ x. x.sort) q.params) ≡ length q.params = length-map q.params _ in
      let right : length (map (λ s. Some s) g.params) ≡ length g.params = length-map g.params _ in
      let whole : length (sorts_of p.behaviors (map (λ x. x.sort) q.params)) ≡ length (map (λ s. Some s) g.params) = ap length same in
      omega (arith, few, left, last, right, whole)

  behavior_few : (n k : ℕ) (o : Option Behavior) → slice_get p.behaviors n ≡ o → (g : Signature) → signature_in p.behaviors o k ≡ Some g → length g.params ≤ 16
  behavior_few n k None is g e = absurd cc
  behavior_few n k (Some b) is g e = handler_few n k b is (slice_get (handlers_of b) k) refl g e

  signature_few : (n k : ℕ) (g : Signature) → signature_at (signatures p) n k ≡ Some g → length g.params ≤ 16
  signature_few n k g e = by (is_migrate n k) e
    where
      by : (b : Bool) → (if b then Some migrate_signature else signature_in p.behaviors (slice_get p.behaviors n) k) ≡ Some g → length g.params ≤ 16
      by true e = let one : 1 ≡ length g.params = ap (λ (s : Signature). length s.params) (some_is e) in omega (arith, one)
      by false e = behavior_few n k (slice_get p.behaviors n) refl g e

  message_few : (to : Target) (m : Message) → HasArguments (signatures p) to m → length m.args ≤ 16
  message_few (target.Actor n) m h = let few = signature_few m.behavior m.handler h.0 h.1.0 in let same : length m.args ≡ length h.0.params = h.1.1 in omega (arith, few, same)
  message_few target.Output m h = omega (arith, h)

pub messages_short : MessagesStayShort
messages_short p setup a w ss end is key m there = message_few p a m.target m ((accepted_fit p setup a w ss end is).arguments key m there)
