use Rattle.std.proofs.Common.{length, ap, ◌∙◌, arith}
use Rattle.std.specs.List.{list_all}
use Rattle.sal_envelope.specs.Spelling.{call_is_spelled}
use Rattle.sal_resident.proofs.Parts.{actor_good}
use Rattle.sal_resident.proofs.writing.put_actor.Goals as goal

pub put_state-requires : goal.put_state-requires
put_state-requires c = (actor_good c.args.actor.now c.requires).state

pub put_book-requires : goal.put_book-requires
put_book-requires c = (actor_good c.args.actor.now c.requires).book

pub put_calls-requires-clause-few : goal.put_calls-requires-clause-few
put_calls-requires-clause-few c =
    let same = ap length c.as_slice.ensures in
    let few = (actor_good c.args.actor.now c.requires).mailbox.few in
    omega arith

pub put_calls-requires-clause-spelled : goal.put_calls-requires-clause-spelled
put_calls-requires-clause-spelled c = ap (list_all call_is_spelled) c.as_slice.ensures ∙ (actor_good c.args.actor.now c.requires).mailbox.each
