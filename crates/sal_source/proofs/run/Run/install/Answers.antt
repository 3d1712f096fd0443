use Rattle.std.proofs.Common.{◌≡◌, List, [], ◌∷◌, ◌++◌, Some, ap, ◌∙◌}
use Rattle.sal_mail.specs.declared.effects.Actor.{Actor}
use Rattle.sal_source.specs.Table.{write, keys_of}
use Rattle.sal_source.specs.Keys.{name_key}
use Rattle.sal_source.specs.Step.{put_actors}
use Rattle.sal_source.specs.code.Handling.{after_bind}
use Rattle.sal_source.proofs.Given.{keys_write}
use Rattle.sal_source.proofs.run.Run.install.Goals as goal

pub returns : goal.returns
returns c =
    let k = name_key c.args.actor.name in
    let actors : c.add_all.new.self ≡ write c.self.inside.actors k (Some (c.args.actor, 0)) =
    c.in_ok-add_all.ensures ∙ ap (λ (l : List Actor). put_actors l c.self.inside.actors) (c.in_ok-push.ensures.ok ∙ ap (λ (l : List Actor). l ++ c.args.actor ∷ []) c.new-actors.ensures) in
    (λ i. record {
      actors = actors i;
      given = (ap keys_of actors ∙ keys_write c.self.inside.actors k (c.args.actor, 0)) i;
      creations = c.take.ensures.rest i;
      waiting = c.self.inside.waiting;
      output = c.self.inside.output;
      faults = c.self.inside.faults;
      answers = c.self.inside.answers;
      posted = c.self.inside.posted;
    })
    ∙ ap (after_bind c.args.actor c.args.maker.now c.args.serial) c.self.view_is
