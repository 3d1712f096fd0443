use Rattle.std.proofs.Common.{◌≡◌, ℕ, List, Some, ap, ◌∙◌, [], ◌∷◌, ◌++◌}
use Rattle.std.specs.FinMap as fm
use Rattle.std.specs.FinSet as fs
use Rattle.sal_mail.specs.declared.effects.Actor.{Actor}
use Rattle.sal_source.specs.Table.{write, keys_of}
use Rattle.sal_source.specs.Keys.{name_key}
use Rattle.sal_source.specs.Configuration.{start_name, start_actor}
use Rattle.sal_source.specs.Step.{put_actors, put_message}
use Rattle.sal_source.proofs.Given.{keys_none, keys_write}
use Rattle.sal_source.proofs.run.start_with_actor.Goals as goal

pub returns : goal.returns
returns c =
    let it : Actor × ℕ = start_actor c.args.behavior c.args.fields in
    let k = name_key start_name in
    let actors : c.add_all.new.self ≡ write fm.empty k (Some it) =
    c.in_ok-add_all.ensures
    ∙ (λ i. put_actors ((c.in_ok-push.ensures.ok ∙ ap (λ (l : List Actor). l ++ it.0 ∷ []) c.new-more.ensures) i) (c.new-actors.ensures i)) in
    λ i. record {
      actors = actors i;
      given = (ap keys_of actors ∙ keys_write fm.empty k it ∙ ap (λ (s : _). fs.insert s k) (keys_none (Actor × ℕ))) i;
      creations = c.new.ensures i;
      waiting = (c.in_ok-put_message.ensures.ok ∙ (λ j. record { messages = put_message (c.in_ok-message.ensures j) (c.new-waiting.ensures j).messages; joins = (c.new-waiting.ensures j).joins })) i;
      output = c.new-2.ensures i;
      faults = c.new-3.ensures i;
      answers = c.new-4.ensures i;
      posted = 0;
    }
