use Rattle.std.proofs.Common.{length, ap, ◌∙◌, arith}
use Rattle.std.specs.List.{list_all}
use Rattle.sal_resident.specs.Packing.{slot_is_spelled}
use Rattle.sal_resident.proofs.Parts.{join_good}
use Rattle.sal_resident.proofs.writing.put_join.Goals as goal

pub put_slots-requires-clause-few : goal.put_slots-requires-clause-few
put_slots-requires-clause-few c =
    let same = ap length c.as_slice.ensures in
    let few = (join_good c.args.join.now c.requires).slots.few in
    omega arith

pub put_slots-requires-clause-spelled : goal.put_slots-requires-clause-spelled
put_slots-requires-clause-spelled c = ap (list_all slot_is_spelled) c.as_slice.ensures ∙ (join_good c.args.join.now c.requires).slots.each

pub put_reply-requires : goal.put_reply-requires
put_reply-requires c = (join_good c.args.join.now c.requires).reply
