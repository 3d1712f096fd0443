use Rattle.std.proofs.Common.{ap, ◌∙◌}
use Rattle.std.proofs.lemmas.Bool.{and_parts, and_from}
use Rattle.sal_book.specs.Book.{Book, rise, message_numbers, join_numbers}
use Rattle.sal_book.specs.contracts.book.Book.{the_view}
use Rattle.sal_book.proofs.Rising.{messages_rise_after}
use Rattle.sal_book.proofs.book.Book.give_token.Goals as goal

pub invariant_of-self-2 : goal.invariant_of-self-2
invariant_of-self-2 c =
    let b : Book = the_view c.self.inside in
    let old = and_parts (rise (message_numbers b.messages)) (rise (join_numbers b.joins)) c.self.invariant in
    and_from (rise (message_numbers c.give.new.messages.items)) (rise (join_numbers b.joins))
    (ap (λ l. rise (message_numbers l)) c.in_ok-messages.ensures.waiting ∙ messages_rise_after c.args.number c.args.value.now b.messages old.0) old.1
