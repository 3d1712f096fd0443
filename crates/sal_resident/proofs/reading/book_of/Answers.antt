use Rattle.std.proofs.Common.{◌∙◌, ap}
use Rattle.sal_book.specs.Book.{Book, message_numbers, join_numbers, book_after_entry, may_follow}
use Rattle.sal_resident.proofs.Keeping.{may_enter, all_enter}
use Rattle.sal_resident.proofs.reading.book_of.Goals as goal

pub enter-requires-clause-messages : goal.enter-requires-clause-messages
enter-requires-clause-messages c =
    ap (λ (b : Book). may_follow (message_numbers c.args.messages) b) c.new-book.ensures ∙ may_enter (message_numbers c.args.messages) c.requires.messages

pub enter-requires-clause-joins : goal.enter-requires-clause-joins
enter-requires-clause-joins c =
    ap (λ (b : Book). may_follow (join_numbers c.args.joins) b) c.new-book.ensures ∙ may_enter (join_numbers c.args.joins) c.requires.joins

pub returns : goal.returns
returns c =
    all_enter c.enter.new.self c.args.messages c.args.joins c.requires.waiting c.requires.still_open
    (c.in_ok-enter.ensures.ok ∙ ap (λ (b : Book). book_after_entry c.args.messages c.args.joins b) c.new-book.ensures)
