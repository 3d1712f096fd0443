use Rattle.std.proofs.Common.{length, ap, ◌∙◌, arith}
use Rattle.std.specs.List.{list_all}
use Rattle.sal_value.specs.Spelling.{is_spelled}
use Rattle.sal_resident.proofs.Parts.{state_good}
use Rattle.sal_resident.proofs.writing.put_state.Goals as goal

pub encode-requires : goal.encode-requires
encode-requires c = (state_good c.args.actor.now c.requires).name

pub put_values-requires-clause-few : goal.put_values-requires-clause-few
put_values-requires-clause-few c =
    let same = ap length c.as_slice.ensures in
    let few = (state_good c.args.actor.now c.requires).few in
    omega arith

pub put_values-requires-clause-spelled : goal.put_values-requires-clause-spelled
put_values-requires-clause-spelled c = ap (list_all is_spelled) c.as_slice.ensures ∙ (state_good c.args.actor.now c.requires).fields
