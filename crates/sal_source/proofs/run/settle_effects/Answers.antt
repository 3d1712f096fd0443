use Rattle.sal_source.proofs.Handled.{enter_is}
use Rattle.sal_source.proofs.run.settle_effects.Goals as goal

pub returns : goal.returns
returns c =
    enter_is c.args.maker.now c.args.messages c.args.joins c.args.answer c.args.reply c.args.waiting.now c.open_all.new.self c.put_messages.new.self c.settle.new.self c.in_ok-left.left c.open_all.new.left c.new-answers.result c.settle.new.answers
    c.in_ok-left.ensures c.in_ok-open_all.ensures c.in_ok-put_messages.ensures c.new-answers.ensures c.in_ok-settle.ensures
