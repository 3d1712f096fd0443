use Rattle.std.proofs.Common.{◌≡◌, ◌++◌, ap, ◌∙◌}
use Rattle.std.specs.Prelude.{filter}
use Rattle.std.proofs.lemmas.Bool.{and_parts, and_from}
use Rattle.sal_book.specs.Book.{Book, rise, message_numbers, join_numbers, may_follow, is_waiting, is_open}
use Rattle.sal_book.specs.contracts.book.Book.{the_view}
use Rattle.sal_book.proofs.Rising.{messages_rise, joins_rise}
use Rattle.sal_book.proofs.book.Book.enter.Goals as goal

pub invariant_of-self-2 : goal.invariant_of-self-2
invariant_of-self-2 c =
    let b : Book = the_view c.self.inside in
    let old = and_parts (rise (message_numbers b.messages)) (rise (join_numbers b.joins)) c.self.invariant in
    let messages : c.push_all.new.items.items ≡ b.messages ++ filter is_waiting c.args.messages = c.push_all.ensures ∙ (λ i. c.reserve.ensures.items i ++ c.in_ok-messages.ensures.waiting i) in
    let joins : c.push_all-2.new.items.items ≡ b.joins ++ filter is_open c.args.joins = c.push_all-2.ensures ∙ (λ i. c.reserve-2.ensures.items i ++ c.in_ok-replies.ensures.still_open i) in
    and_from (rise (message_numbers c.push_all.new.items.items)) (rise (join_numbers c.push_all-2.new.items.items))
    (ap (λ l. rise (message_numbers l)) messages ∙ messages_rise b c.args.messages old.0 (ap (may_follow (message_numbers c.args.messages)) c.self.view_is ∙ c.requires.messages))
    (ap (λ l. rise (join_numbers l)) joins ∙ joins_rise b c.args.joins old.1 (ap (may_follow (join_numbers c.args.joins)) c.self.view_is ∙ c.requires.joins))
