use Rattle.std.proofs.Common.{◌≡◌, ap, subst, ◌∙◌}
use Rattle.sal_value.specs.declared.name.Name.{Name}
use Rattle.sal_value.specs.declared.name.Uan.{Uan}
use Rattle.sal_value.specs.declared.name.Ual.{Ual}
use Rattle.sal_value.specs.Spelling.{name_is_spelled}
use Rattle.sal_mail.specs.declared.envelope.Envelope.TheVariants as envelope
use Rattle.sal_envelope.specs.Spelling.{envelope_is_spelled}
use Rattle.sal_naming.specs.declared.entry.Put.{Put}
use Rattle.sal_naming.specs.Table.{Names, put_name}
use Rattle.sal_service.specs.code.Answering.{IsAnswered, after, undone, settled, names_settled}
use Rattle.sal_service.proofs.Places.{put_undone_by}
use Rattle.sal_service.proofs.Sizes.{put_reply_short}
use Rattle.sal_service.proofs.Turns.{settles}
use Rattle.sal_service.proofs.serving.decide.Goals as goal

pub answer-requires-clause-spelled : goal.answer-requires-clause-spelled
unfolding envelope_is_spelled
answer-requires-clause-spelled c = ap name_is_spelled c.in_ok-maker.ensures ∙ c.requires.maker

pub answer-requires-clause-short : goal.answer-requires-clause-short
answer-requires-clause-short c =
    put_reply_short c.in_ok-maker.maker c.args.decision.serial c.args.decision.bound (ap name_is_spelled c.in_ok-maker.ensures ∙ c.requires.maker)

-- the table after the put of the name's copy
put_is : (u v : Uan) (place : Ual) (old t : Names) → u ≡ v → t ≡ (put_name u place old).1 → t ≡ (put_name v place old).1
put_is u v place old t same is = is ∙ ap (λ (w : Uan). (put_name w place old).1) same

pub returns-in-Ok : goal.returns-in-Ok
returns-in-Ok c =
    let d = c.args.decision in
    let o = c.args.origin in
    let old = c.args.register.now in
    let x : Put × Names = put_name d.name c.args.place old in
    let table = put_is c.in_ok-name.name d.name c.args.place old c.put.new.self c.in_ok-name.ensures c.in_ok-put.ensures.ok in
    (λ i. after (c.settle.ensures.names i) c.answer.new.links (c.settle.ensures.turned i))
    ∙ ap (λ (t : Names). after (names_settled c.in-Ok.done d t) c.answer.new.links (settled c.in-Ok.done d)) table
    ∙ settles c.in-Ok.done o d x old c.args.links.now c.answer.new.links c.requires.decided (put_undone_by d c.args.place old c.requires.decided)
    (subst (λ (m : Name). IsAnswered o (envelope.PutReply m d.serial d.bound) c.args.links.now c.in-Ok.done c.answer.new.links) c.in_ok-maker.ensures c.in-Ok.ensures.ok)

pub returns-in-Err : goal.returns-in-Err
returns-in-Err c =
    let d = c.args.decision in
    let old = c.args.register.now in
    let table = put_is c.in_ok-name.name d.name c.args.place old c.put.new.self c.in_ok-name.ensures c.in_ok-put.ensures.ok in
    (c.undo.ensures ∙ ap (undone d) table ∙ put_undone_by d c.args.place old c.requires.decided, c.in-Err.ensures.err)
