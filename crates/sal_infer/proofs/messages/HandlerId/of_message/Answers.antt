use Rattle.std.proofs.Common.{sym, ap, ◌∙◌}
use Rattle.sal_infer.specs.code.Ids.{id_in_scope}
use Rattle.sal_infer.proofs.Ids.{ids_are}
use Rattle.sal_infer.proofs.messages.HandlerId.of_message.Goals as goal

pub returns : goal.returns
returns c = λ r s e. (
  c.in_scope.ensures.behavior ∙ ap (λ t. (id_in_scope c.args.send.now t).behavior) (sym e) ∙ ap (λ i. i.behavior) (sym (ids_are c.args.send.now r s)),
  c.in_scope.ensures.handler ∙ ap (λ t. (id_in_scope c.args.send.now t).handler) (sym e) ∙ ap (λ i. i.handler) (sym (ids_are c.args.send.now r s)),
)
