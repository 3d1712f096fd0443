use Rattle.std.proofs.Common.{length, ap, ◌∙◌, arith}
use Rattle.std.specs.List.{list_all}
use Rattle.sal_resident.specs.Packing.{piece_is_spelled}
use Rattle.sal_resident.proofs.Parts.{message_good}
use Rattle.sal_resident.proofs.writing.put_message.Goals as goal

pub put_made-requires : goal.put_made-requires
put_made-requires c = (message_good c.args.message.now c.requires).maker

pub put_target-requires : goal.put_target-requires
put_target-requires c = (message_good c.args.message.now c.requires).target

pub put_pieces-requires-clause-few : goal.put_pieces-requires-clause-few
put_pieces-requires-clause-few c =
    let same = ap length c.as_slice.ensures in
    let few = (message_good c.args.message.now c.requires).few_args in
    omega arith

pub put_pieces-requires-clause-spelled : goal.put_pieces-requires-clause-spelled
put_pieces-requires-clause-spelled c = ap (list_all piece_is_spelled) c.as_slice.ensures ∙ (message_good c.args.message.now c.requires).args

pub put_numbers-requires : goal.put_numbers-requires
put_numbers-requires c =
    let same = ap length c.as_slice-2.ensures in
    let few = (message_good c.args.message.now c.requires).few_after in
    omega arith

pub put_reply-requires : goal.put_reply-requires
put_reply-requires c = (message_good c.args.message.now c.requires).reply
