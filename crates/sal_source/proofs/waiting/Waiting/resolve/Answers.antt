use Rattle.std.proofs.Common.{List, map, ap, ◌∙◌}
use Rattle.sal_mail.specs.declared.message.Message.{Message}
use Rattle.sal_source.specs.Table.{Table, table_of, table_map}
use Rattle.sal_source.specs.Keys.{message_key}
use Rattle.sal_source.specs.Configuration.{Waiting}
use Rattle.sal_source.specs.Give.{resolve}
use Rattle.sal_source.specs.contracts.waiting.Waiting.{the_view}
use Rattle.sal_source.proofs.Tables.{AreDistinct-each, table-each}
use Rattle.sal_source.proofs.Waits.{resolve_keeps}
use Rattle.sal_source.proofs.waiting.Waiting.resolve.Goals as goal

pub invariant_of-self-2 : goal.invariant_of-self-2
invariant_of-self-2 c =
    rw (c.in_ok-self-inside.ensures, c.replace-old.ensures.value)
    (AreDistinct-each message_key (resolve c.args.maker.now c.args.number c.args.value.now) (resolve_keeps c.args.maker.now c.args.number c.args.value.now) c.self.inside.messages c.self.invariant)

pub returns : goal.returns
returns c =
    let old : Waiting = the_view c.self.inside in
    ap (λ (l : List Message). record old { messages = table_of message_key l }) (c.in_ok-self-inside.ensures ∙ ap (map (resolve c.args.maker.now c.args.number c.args.value.now)) c.replace-old.ensures.value)
    ∙ ap (λ (t : Table Message). record old { messages = t }) (table-each message_key (resolve c.args.maker.now c.args.number c.args.value.now) (resolve_keeps c.args.maker.now c.args.number c.args.value.now) c.self.inside.messages)
    ∙ ap (λ (w : Waiting). record w { messages = table_map (resolve c.args.maker.now c.args.number c.args.value.now) w.messages }) c.self.view_is
