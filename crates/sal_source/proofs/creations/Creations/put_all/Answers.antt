use Rattle.std.proofs.Common.{ap, sym, ◌∙◌}
use Rattle.sal_value.specs.declared.name.Name.{Name}
use Rattle.sal_source.specs.Step.{put_creation, put_creations}
use Rattle.sal_source.proofs.Waits.{put_creations_push}
use Rattle.sal_source.proofs.creations.Creations.put_all.Goals as goal

pub loop-creation-preserved : goal.loop-creation-preserved
loop-creation-preserved c =
    ap (put_creations c.args.maker.now c.pop.new.self) c.in_ok-put.ensures
    ∙ ap (λ (m : Name). put_creations c.args.maker.now c.pop.new.self (put_creation m c.in-Some.creation c.loop-creation.self)) c.in_ok-clone_in.ensures
    ∙ sym (put_creations_push c.args.maker.now c.pop.new.self c.in-Some.creation c.loop-creation.self)
    ∙ ap (λ l. put_creations c.args.maker.now l c.loop-creation.self) (sym c.in-Some.ensures)
    ∙ c.loop-creation.invariant
