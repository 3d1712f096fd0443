use Rattle.std.proofs.Common.{◌≡◌, [], ◌∷◌, ◌++◌, Some, None, true, false, sym, ap, subst, ◌∙◌, refl}
use Rattle.std.specs.FinMap as fm
use Rattle.sal_value.specs.declared.name.Name.{Name}
use Rattle.sal_value.specs.declared.name.Name.TheVariants.{Uan}
use Rattle.sal_value.specs.declared.name.Uan as uan
use Rattle.sal_mail.specs.declared.fault.FaultKind.TheVariants.{NameTaken}
use Rattle.sal_source.specs.Keys.{name_key}
use Rattle.sal_source.specs.Configuration.{Configuration}
use Rattle.sal_source.specs.Step.{is_given, refuse_step, add_fault, drop_creation}
use Rattle.sal_source.specs.contracts.run.Run.{the_view}
use Rattle.sal_source.proofs.Given.{contains_keys}
use Rattle.sal_source.proofs.Handled.{refuse_not, refuse_done}
use Rattle.sal_source.proofs.run.Run.refuse_pending.Goals as goal

pub returns-then-not-contains : goal.returns-then-not-contains
returns-then-not-contains c =
    let old : Configuration = the_view c.self.inside in
    let given : is_given c.in-Some.creation.now.1 old ≡ false =
    contains_keys c.self.inside.actors (name_key (Uan c.in-Some.creation.now.1.name))
    ∙ ap (λ (u : uan.Uan). fm.contains_key c.self.inside.actors (name_key (Uan u))) (sym c.in_ok-clone_in.ensures) ∙ sym c.if-not-contains.ensures in
    let P : Configuration → Type 0 = λ d. refuse_step c.args.maker.now c.args.serial d ≡ None in
    (subst P c.self.view_is (refuse_not c.args.maker.now c.args.serial old c.in-Some.creation.now c.in-Some.ensures given), refl)

pub returns : goal.returns
returns c =
    let old : Configuration = the_view c.self.inside in
    let given : is_given c.in-Some.creation.now.1 old ≡ true =
    contains_keys c.self.inside.actors (name_key (Uan c.in-Some.creation.now.1.name))
    ∙ ap (λ (u : uan.Uan). fm.contains_key c.self.inside.actors (name_key (Uan u))) (sym c.in_ok-clone_in.ensures) ∙ sym c.if-not-contains.ensures in
    let faults : c.push.new.self ≡ c.self.inside.faults ++ record { maker = c.args.maker.now; serial = c.args.serial; kind = NameTaken } ∷ [] =
    c.in_ok-push.ensures.ok ∙ ap (λ (n : Name). c.self.inside.faults ++ record { maker = n; serial = c.args.serial; kind = NameTaken } ∷ []) c.in_ok-maker_again.ensures in
    let P : Configuration → Type 0 = λ d. refuse_step c.args.maker.now c.args.serial d ≡ Some (add_fault NameTaken c.args.maker.now c.args.serial (drop_creation c.args.maker.now c.args.serial old)) in
    subst P c.self.view_is (refuse_done c.args.maker.now c.args.serial old c.in-Some.creation.now c.in-Some.ensures given)
    ∙ (λ i. Some (record old { creations = sym c.take.ensures.rest i; faults = sym faults i }))
