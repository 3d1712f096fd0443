use Rattle.std.proofs.Common.{◌≡◌, ℕ, List, ◌++◌, Some, true, ap, ◌∙◌}
use Rattle.std.specs.FinMap as fm
use Rattle.sal_value.specs.declared.value.Value.{Value}
use Rattle.sal_mail.specs.declared.effects.Actor.{Actor}
use Rattle.sal_source.specs.Table.{Table, write, keys_of}
use Rattle.sal_source.specs.Keys.{name_key}
use Rattle.sal_source.specs.Configuration.{Configuration}
use Rattle.sal_source.specs.Step.{put_actors}
use Rattle.sal_source.specs.code.Handling.{called_actor, with_handler_effects}
use Rattle.sal_source.proofs.Given.{has_put, keys_put, keys_again}
use Rattle.sal_source.proofs.run.Run.enter.Goals as goal

pub set-requires : goal.set-requires
set-requires c =
    let k = name_key c.args.called.me in
    ap (λ (t : Table (Actor × ℕ)). fm.contains_key t k) c.in_ok-add_all.ensures
    ∙ has_put c.args.effects.actors c.self.inside.actors k (ap (λ (d : Configuration). fm.contains_key d.actors k) c.self.view_is ∙ c.requires)

pub returns : goal.returns
returns c =
    let k = name_key c.args.called.me in
    let a : Actor × ℕ = (called_actor c.args.called c.args.effects.fields, c.args.effects.serial) in
    let there : fm.contains_key (put_actors c.args.effects.actors c.self.inside.actors) k ≡ true =
    has_put c.args.effects.actors c.self.inside.actors k (ap (λ (d : Configuration). fm.contains_key d.actors k) c.self.view_is ∙ c.requires) in
    let actors : c.set.new.self ≡ write (put_actors c.args.effects.actors c.self.inside.actors) k (Some a) =
    c.set.ensures ∙ ap (λ (t : Table (Actor × ℕ)). write t k (Some a)) c.in_ok-add_all.ensures in
    (λ i. record {
      actors = actors i;
      given = (ap keys_of actors ∙ keys_again (put_actors c.args.effects.actors c.self.inside.actors) k a there ∙ keys_put c.args.effects.actors c.self.inside.actors) i;
      creations = c.in_ok-put_all.ensures i;
      waiting = c.in_ok-answers.ensures.waiting i;
      output = c.self.inside.output;
      faults = c.self.inside.faults;
      answers = (c.in_ok-append.ensures.ok ∙ ap (λ (l : List (ℕ × Value)). c.self.inside.answers ++ l) c.in_ok-answers.ensures.answers) i;
      posted = c.self.inside.posted;
    })
    ∙ ap (with_handler_effects c.args.effects c.args.called) c.self.view_is
