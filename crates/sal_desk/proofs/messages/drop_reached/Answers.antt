use Rattle.std.proofs.Common.{rules}
use Rattle.std.proofs.lemmas.Fn.{filter_same}
use Rattle.sal_routing.specs.Turns.{is_not_reached}
use Rattle.sal_desk.proofs.messages.drop_reached.Goals as goal

pub returns-clause-items : goal.returns-clause-items
returns-clause-items c = filter_same _ (is_not_reached c.args.now) _ (λ m b f' k. search rules) _ _ c.retain.ensures.filtered
