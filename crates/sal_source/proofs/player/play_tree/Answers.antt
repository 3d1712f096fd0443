use Rattle.std.proofs.Common.{◌≡◌, ◌+◌, take, None, Some, ap, sym, add-one}
use Rattle.sal_handler.specs.Fits.{meaning_of}
use Rattle.sal_source.specs.Configuration.{first_configuration}
use Rattle.sal_source.specs.Run.{steps, play}
use Rattle.sal_source.specs.Step.{step}
use Rattle.sal_source.proofs.Tables.{slice_get_is}
use Rattle.sal_source.proofs.Played.{took_no, took_yes, played_on, none_whole}
use Rattle.sal_source.proofs.player.play_tree.Goals as goal

pub loop-i-init : goal.loop-i-init
unfolding steps
loop-i-init c = ap (λ d. Some d) (sym c.in_ok-run.ensures)

pub returns-then-not-taken : goal.returns-then-not-taken
returns-then-not-taken c =
    let gone : play c.args.program.now c.args.setup.now (take (c.loop-i.i + 1) c.args.steps.now) ≡ None =
    played_on (meaning_of c.args.program.now) c.args.setup.now (first_configuration (meaning_of c.args.program.now) c.args.setup.now) c.loop-i.run c.args.steps.now c.loop-i.i c.index-steps-i.result None
    (slice_get_is c.args.steps.now c.loop-i.i c.index-steps-i.result c.loop-i-test.true c.index-steps-i.is) c.loop-i.invariant
    (took_no (step (meaning_of c.args.program.now) c.args.setup.now c.loop-i.run c.index-steps-i.result) c.in_ok-next.taken c.loop-i.run c.in_ok-next.next c.in_ok-next.ensures c.if-not-taken.true) in
    record {
      before = c.loop-i.run;
      within = c.loop-i-test.true;
      good = c.loop-i.invariant;
      bad = rw (← add-one) gone;
      whole = none_whole (meaning_of c.args.program.now) c.args.setup.now (first_configuration (meaning_of c.args.program.now) c.args.setup.now) c.args.steps.now (c.loop-i.i + 1) gone;
    }

pub loop-i-preserved : goal.loop-i-preserved
loop-i-preserved c =
    played_on (meaning_of c.args.program.now) c.args.setup.now (first_configuration (meaning_of c.args.program.now) c.args.setup.now) c.loop-i.run c.args.steps.now c.loop-i.i c.index-steps-i.result (Some c.in_ok-next.next)
    (slice_get_is c.args.steps.now c.loop-i.i c.index-steps-i.result c.loop-i-test.true c.index-steps-i.is) c.loop-i.invariant
    (took_yes (step (meaning_of c.args.program.now) c.args.setup.now c.loop-i.run c.index-steps-i.result) c.in_ok-next.taken c.loop-i.run c.in_ok-next.next c.in_ok-next.ensures c.if-not-taken.false)
