use Rattle.std.proofs.Common.{ap, ◌∙◌}
use Rattle.std.proofs.lemmas.Bool.{and_parts, and_from}
use Rattle.sal_book.specs.Book.{Book, rise, message_numbers, join_numbers}
use Rattle.sal_book.specs.contracts.book.Book.{the_view}
use Rattle.sal_book.proofs.Rising.{joins_rise_after}
use Rattle.sal_book.proofs.book.Book.give_place.Goals as goal

pub invariant_of-self-2 : goal.invariant_of-self-2
invariant_of-self-2 c =
    let b : Book = the_view c.self.inside in
    let old = and_parts (rise (message_numbers b.messages)) (rise (join_numbers b.joins)) c.self.invariant in
    and_from (rise (message_numbers b.messages)) (rise (join_numbers c.give.new.joins.items)) old.0
    (ap (λ l. rise (join_numbers l)) c.in_ok-replies.ensures.joins ∙ joins_rise_after c.args.number c.args.at c.args.value b.joins old.1)
