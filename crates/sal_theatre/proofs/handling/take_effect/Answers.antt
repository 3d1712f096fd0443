use Rattle.std.proofs.Common.{◌≡◌, List, ap, subst, ◌∙◌}
use Rattle.std.specs.Prelude.{OnOk}
use Rattle.sal_value.specs.declared.value.Value.{Value}
use Rattle.sal_mail.specs.declared.message.Reply.{Reply}
use Rattle.sal_desk.specs.code.Desks.{Turning, on_desk}
use Rattle.sal_routing.specs.State.{tell_given}
use Rattle.sal_theatre.proofs.Handled.{few_standing, few_made, effects_taken}
use Rattle.sal_theatre.proofs.handling.take_effect.Goals as goal

pub create_all-requires : goal.create_all-requires
create_all-requires g c =
    few_standing c.args.name.now c.in_ok-released.released c.enter.new.actor c.args.effects c.args.message.now c.args.desk.now c.tell_handled.new.desk c.tell_given.new.self c.stand_all.new.desk c.in_ok-tell_handled.ensures
    (c.in_ok-tell_given.ensures ∙ ap (λ (gs : List (Reply × Value)). on_desk (tell_given gs) c.tell_handled.new.desk) c.in_ok-clone_in.ensures)
    c.in_ok-stand_all.ensures c.requires.few

pub route-requires : goal.route-requires
route-requires g c =
    few_made c.args.name.now c.in_ok-released.released c.enter.new.actor c.args.effects c.args.message.now c.args.desk.now c.tell_handled.new.desk c.tell_given.new.self c.stand_all.new.desk c.in_ok-tell_handled.ensures
    (c.in_ok-tell_given.ensures ∙ ap (λ (gs : List (Reply × Value)). on_desk (tell_given gs) c.tell_handled.new.desk) c.in_ok-clone_in.ensures)
    c.in_ok-stand_all.ensures c.create_all.new.desk c.add_released.new.desk c.in_ok-create_all.ensures c.in_ok-add_released.ensures c.requires.few

pub returns : goal.returns
returns g c =
    subst (λ (y : Turning). OnOk c.route.result (c.route.new.desk ≡ y))
    (effects_taken c.args.name.now c.in_ok-released.released c.enter.new.actor c.args.effects c.args.message.now c.args.desk.now c.tell_handled.new.desk c.tell_given.new.self c.stand_all.new.desk c.in_ok-tell_handled.ensures
    (c.in_ok-tell_given.ensures ∙ ap (λ (gs : List (Reply × Value)). on_desk (tell_given gs) c.tell_handled.new.desk) c.in_ok-clone_in.ensures)
    c.in_ok-stand_all.ensures (g.R.Runner.meaning c.args.runner.now) c.args.actor c.create_all.new.desk c.add_released.new.desk c.in_ok-create_all.ensures c.in_ok-add_released.ensures
    c.requires.name c.in_ok-released.ensures.ok c.in_ok-released.ensures.released)
    c.route.ensures
