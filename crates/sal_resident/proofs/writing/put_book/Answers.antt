use Rattle.std.proofs.Common.{length, ap, ◌∙◌, arith}
use Rattle.std.specs.List.{list_all}
use Rattle.sal_resident.specs.Packing.{message_is_spelled, join_is_spelled}
use Rattle.sal_resident.proofs.Parts.{book_good}
use Rattle.sal_resident.proofs.writing.put_book.Goals as goal

pub put_messages-requires-clause-few : goal.put_messages-requires-clause-few
put_messages-requires-clause-few c =
    let same = ap length c.waiting_messages.ensures in
    let few = (book_good c.args.book.now c.requires).messages.few in
    omega arith

pub put_messages-requires-clause-spelled : goal.put_messages-requires-clause-spelled
put_messages-requires-clause-spelled c = ap (list_all message_is_spelled) c.waiting_messages.ensures ∙ (book_good c.args.book.now c.requires).messages.each

pub put_joins-requires-clause-few : goal.put_joins-requires-clause-few
put_joins-requires-clause-few c =
    let same = ap length c.open_joins.ensures in
    let few = (book_good c.args.book.now c.requires).joins.few in
    omega arith

pub put_joins-requires-clause-spelled : goal.put_joins-requires-clause-spelled
put_joins-requires-clause-spelled c = ap (list_all join_is_spelled) c.open_joins.ensures ∙ (book_good c.args.book.now c.requires).joins.each
