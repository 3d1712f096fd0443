use Rattle.std.proofs.Common.{rules}
use Rattle.std.proofs.lemmas.Fn.{filter_same}
use Rattle.sal_mail.specs.Message.{is_not_for}
use Rattle.sal_desk.proofs.messages.drop_calls_for.Goals as goal

pub returns-clause-items : goal.returns-clause-items
returns-clause-items c = filter_same _ (is_not_for c.args.name.now) _ (λ m b f' k. search rules) _ _ c.retain.ensures.filtered
