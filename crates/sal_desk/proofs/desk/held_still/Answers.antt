use Rattle.std.proofs.Common.{sym, ◌∙◌}
use Rattle.std.specs.Prelude.{IfOk}
use Rattle.std.proofs.lemmas.Result.{IfOk-weaker}
use Rattle.sal_source.specs.Keys.{name_key}
use Rattle.sal_queues.specs.Queues.{filled}
use Rattle.sal_queues.proofs.Laws.{queue_of-filled}
use Rattle.sal_desk.proofs.Holding.{held_none, held_still}
use Rattle.sal_desk.proofs.desk.held_still.Goals as goal

pub returns-then-is_among : goal.returns-then-is_among
returns-then-is_among c =
    c.new.ensures ∙ sym (held_none c.args.released.now c.args.name.now (filled c.args.held.now) (sym c.is_among.ensures ∙ c.if-is_among.true))

pub returns : goal.returns
returns c =
    IfOk-weaker c.copies.result _ _ (λ xs e.
    e ∙ sym (queue_of-filled c.args.held.now (name_key c.args.name.now))
    ∙ sym (held_still c.args.released.now c.args.name.now (filled c.args.held.now) (sym c.is_among.ensures ∙ c.if-is_among.false))) c.copies.ensures
