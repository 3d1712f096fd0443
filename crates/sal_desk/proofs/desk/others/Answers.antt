use Rattle.std.proofs.Common.{rules, filter, ap, ◌∙◌}
use Rattle.std.proofs.lemmas.Fn.{filter_same}
use Rattle.sal_mail.specs.Message.{is_not_for}
use Rattle.sal_desk.proofs.desk.others.Goals as goal

pub returns : goal.returns
returns c =
    c.from_vec.ensures
    ∙ filter_same _ (is_not_for c.args.name.now) _ (λ m b f' k. search rules) _ _ c.retain.ensures.filtered
    ∙ ap (filter (is_not_for c.args.name.now)) c.into_vec-messages.ensures
