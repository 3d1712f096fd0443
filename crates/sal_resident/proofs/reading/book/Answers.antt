use Rattle.std.proofs.Common.{arith}
use Rattle.sal_resident.proofs.Found.{messages_found, joins_found}
use Rattle.sal_resident.proofs.Keeping.{all_wait, all_open}
use Rattle.sal_resident.proofs.Parts.{list_good}
use Rattle.sal_resident.specs.Packing.{message_is_spelled, join_is_spelled}
use Rattle.sal_resident.proofs.reading.book.Goals as goal

pub book_of-requires-clause-messages : goal.book_of-requires-clause-messages
book_of-requires-clause-messages c =
    let first = (messages_found c.args.bytes.now (λ i. omega (arith, c.type_inv.bytes i))).fact (c.in_ok-messages.messages, c.in_ok-messages.rest.now) c.in_ok-messages.ensures in
    first.2

pub book_of-requires-clause-waiting : goal.book_of-requires-clause-waiting
book_of-requires-clause-waiting c =
    let first = (messages_found c.args.bytes.now (λ i. omega (arith, c.type_inv.bytes i))).fact (c.in_ok-messages.messages, c.in_ok-messages.rest.now) c.in_ok-messages.ensures in
    all_wait c.in_ok-messages.messages (list_good message_is_spelled c.in_ok-messages.messages first.1).each

pub book_of-requires-clause-joins : goal.book_of-requires-clause-joins
book_of-requires-clause-joins c =
    let first = (messages_found c.args.bytes.now (λ i. omega (arith, c.type_inv.bytes i))).fact (c.in_ok-messages.messages, c.in_ok-messages.rest.now) c.in_ok-messages.ensures in
    let second = (joins_found c.in_ok-messages.rest.now first.0.rest_fits).fact (c.in_ok-joins.joins, c.in_ok-joins.rest.now) c.in_ok-joins.ensures in
    second.2

pub book_of-requires-clause-still_open : goal.book_of-requires-clause-still_open
book_of-requires-clause-still_open c =
    let first = (messages_found c.args.bytes.now (λ i. omega (arith, c.type_inv.bytes i))).fact (c.in_ok-messages.messages, c.in_ok-messages.rest.now) c.in_ok-messages.ensures in
    let second = (joins_found c.in_ok-messages.rest.now first.0.rest_fits).fact (c.in_ok-joins.joins, c.in_ok-joins.rest.now) c.in_ok-joins.ensures in
    all_open c.in_ok-joins.joins (list_good join_is_spelled c.in_ok-joins.joins second.1).each
