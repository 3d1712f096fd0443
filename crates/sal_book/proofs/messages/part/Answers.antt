use Rattle.std.proofs.Common.{◌≡◌, true, false, ◌∷◌, ◌+◌, length, not, unwrap_or, ap, sym, ◌∙◌, arith}
use Rattle.sal_mail.specs.Message.{is_ready}
use Rattle.sal_book.specs.Book.{is_waiting}
use Rattle.sal_book.specs.code.Versions.{newest}
use Rattle.sal_book.proofs.Versions.{newest_after, moved, passed_over}
use Rattle.sal_book.proofs.messages.part.Goals as goal

pub loop-message-preserved-then-is_ready : goal.loop-message-preserved-then-is_ready
loop-message-preserved-then-is_ready c =
    let m = c.unwrap_or-message.result in
    let before = newest c.loop-message.message-iterator.rest.items c.loop-message.versions.items in
    let after = newest c.next.new.self.rest.items c.pop_front.new.self.items in
    let next : before ≡ m ∷ after =
    newest_after c.in-Some.message m c.loop-message.message-iterator.rest.items c.next.new.self.rest.items c.pop_front.result c.loop-message.versions.items c.pop_front.new.self.items
    c.in-Some.ensures.steps.0 c.pop_front.ensures.items c.pop_front.ensures.rest (c.unwrap_or-message.ensures ∙ ap (λ o. unwrap_or o c.in-Some.message) c.flatten.ensures) in
    let is : is_ready m ≡ true = sym c.is_ready.ensures ∙ c.if-is_ready.true in
    let long : length c.loop-message.message-iterator.rest.items ≡ length c.next.new.self.rest.items + 1 = ap length c.in-Some.ensures.steps.0 ∙ omega arith in
    record {
      ready = moved is_ready c.loop-message.ready.items c.push_reserved.new.self.items before after m c.push_reserved.ensures.items is next ∙ c.loop-message.invariant.ready;
      waiting = passed_over is_waiting c.loop-message.waiting.items before after m (ap not is) next ∙ c.loop-message.invariant.waiting;
      room = omega arith;
      room_2 = omega arith;
    }

pub loop-message-preserved : goal.loop-message-preserved
loop-message-preserved c =
    let m = c.unwrap_or-message.result in
    let before = newest c.loop-message.message-iterator.rest.items c.loop-message.versions.items in
    let after = newest c.next.new.self.rest.items c.pop_front.new.self.items in
    let next : before ≡ m ∷ after =
    newest_after c.in-Some.message m c.loop-message.message-iterator.rest.items c.next.new.self.rest.items c.pop_front.result c.loop-message.versions.items c.pop_front.new.self.items
    c.in-Some.ensures.steps.0 c.pop_front.ensures.items c.pop_front.ensures.rest (c.unwrap_or-message.ensures ∙ ap (λ o. unwrap_or o c.in-Some.message) c.flatten.ensures) in
    let is : is_ready m ≡ false = sym c.is_ready.ensures ∙ c.if-is_ready.false in
    let long : length c.loop-message.message-iterator.rest.items ≡ length c.next.new.self.rest.items + 1 = ap length c.in-Some.ensures.steps.0 ∙ omega arith in
    record {
      ready = passed_over is_ready c.loop-message.ready.items before after m is next ∙ c.loop-message.invariant.ready;
      waiting = moved is_waiting c.loop-message.waiting.items c.push_reserved-else-is_ready.new.self.items before after m c.push_reserved-else-is_ready.ensures.items (ap not is) next ∙ c.loop-message.invariant.waiting;
      room = omega arith;
      room_2 = omega arith;
    }
