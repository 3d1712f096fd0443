use Rattle.std.proofs.Common.{length, ap, ◌∙◌, arith}
use Rattle.std.specs.List.{list_all}
use Rattle.sal_value.specs.Spelling.{is_spelled}
use Rattle.sal_envelope.proofs.Parts.{call_parts}
use Rattle.sal_envelope.proofs.writing.put_call.Goals as goal

pub put_callee-requires : goal.put_callee-requires
put_callee-requires c = (call_parts c.args.message.now c.requires).callee

pub put_values-requires-clause-few : goal.put_values-requires-clause-few
put_values-requires-clause-few c =
    let same = ap length (c.as_slice.ensures ∙ c.in_ok-values.ensures) in
    let few = (call_parts c.args.message.now c.requires).few in
    omega arith

pub put_values-requires-clause-spelled : goal.put_values-requires-clause-spelled
put_values-requires-clause-spelled c = ap (list_all is_spelled) (c.as_slice.ensures ∙ c.in_ok-values.ensures) ∙ (call_parts c.args.message.now c.requires).values

pub put_reply-requires : goal.put_reply-requires
put_reply-requires c = (call_parts c.args.message.now c.requires).reply
