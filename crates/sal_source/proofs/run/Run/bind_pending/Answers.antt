use Rattle.std.proofs.Common.{◌≡◌, Some, None, true, false, sym, ap, subst, ◌∙◌, refl}
use Rattle.std.specs.FinMap as fm
use Rattle.sal_value.specs.declared.name.Name.TheVariants.{Uan}
use Rattle.sal_mail.specs.declared.effects.Actor.{Actor}
use Rattle.sal_source.specs.Keys.{name_key}
use Rattle.sal_source.specs.Configuration.{Configuration}
use Rattle.sal_source.specs.Step.{is_given, bind_step, bound_actor}
use Rattle.sal_source.specs.code.Handling.{after_bind}
use Rattle.sal_source.specs.contracts.run.Run.{the_view}
use Rattle.sal_source.proofs.Given.{contains_keys}
use Rattle.sal_source.proofs.Handled.{bind_given, bind_done}
use Rattle.sal_source.proofs.run.Run.bind_pending.Goals as goal

pub returns-then-contains : goal.returns-then-contains
returns-then-contains c =
    let old : Configuration = the_view c.self.inside in
    let given : is_given c.in-Some.creation.now.1 old ≡ true =
    contains_keys c.self.inside.actors (name_key (Uan c.in-Some.creation.now.1.name))
    ∙ ap (λ (a : Actor). fm.contains_key c.self.inside.actors (name_key a.name)) (sym c.in_ok-actor.ensures) ∙ sym c.if-contains.ensures in
    let P : Configuration → Type 0 = λ d. bind_step c.args.authorities.now c.args.maker.now c.args.serial d ≡ None in
    (subst P c.self.view_is (bind_given c.args.authorities.now c.args.maker.now c.args.serial old c.in-Some.creation.now c.in-Some.ensures given), refl)

pub returns : goal.returns
returns c =
    let old : Configuration = the_view c.self.inside in
    let given : is_given c.in-Some.creation.now.1 old ≡ false =
    contains_keys c.self.inside.actors (name_key (Uan c.in-Some.creation.now.1.name))
    ∙ ap (λ (a : Actor). fm.contains_key c.self.inside.actors (name_key a.name)) (sym c.in_ok-actor.ensures) ∙ sym c.if-contains.ensures in
    let P : Configuration → Type 0 = λ d. bind_step c.args.authorities.now c.args.maker.now c.args.serial d ≡ Some (after_bind (bound_actor c.in-Some.creation.now.1) c.args.maker.now c.args.serial d) in
    subst P c.self.view_is (bind_done c.args.authorities.now c.args.maker.now c.args.serial old c.in-Some.creation.now c.in-Some.ensures (sym c.is_served.ensures ∙ c.if-not-is_served.false) given)
    ∙ ap (λ (a : Actor). Some (after_bind a c.args.maker.now c.args.serial c.args.self.now)) (sym c.in_ok-actor.ensures)
    ∙ ap (λ (d : Configuration). Some d) (sym c.in_ok-install.ensures)
