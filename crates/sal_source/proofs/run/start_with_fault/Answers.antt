use Rattle.std.proofs.Common.{ℕ, List, ap, ◌∙◌, [], ◌∷◌, ◌++◌}
use Rattle.sal_value.specs.declared.name.Name.TheVariants.{Outside}
use Rattle.sal_mail.specs.declared.effects.Actor.{Actor}
use Rattle.sal_mail.specs.declared.fault.Fault.{Fault}
use Rattle.sal_mail.specs.declared.fault.FaultKind.TheVariants.{Trap as Trapped}
use Rattle.sal_source.specs.Table.{keys_of}
use Rattle.sal_source.proofs.Given.{keys_none}
use Rattle.sal_source.proofs.run.start_with_fault.Goals as goal

pub returns : goal.returns
returns c = λ i. record {
  actors = c.new.ensures i;
  given = (ap keys_of c.new.ensures ∙ keys_none (Actor × ℕ)) i;
  creations = c.new-2.ensures i;
  waiting = c.new-3.ensures i;
  output = c.new-4.ensures i;
  faults = (c.in_ok-push.ensures.ok ∙ ap (λ (l : List Fault). l ++ record { maker = Outside 0; serial = 0; kind = Trapped c.args.kind } ∷ []) c.new-faults.ensures) i;
  answers = c.new-5.ensures i;
  posted = 0;
}
