use Rattle.sal_service.proofs.Turns.{unanswered}
use Rattle.sal_service.proofs.answering.take_unanswered.Goals as goal

pub returns : goal.returns
returns c = unanswered c.args.origin c.args.links.now c.complete.new.self c.turn_without_decision.result c.turn_without_decision.ensures c.complete.ensures
