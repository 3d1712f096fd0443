use Rattle.std.proofs.Common.{length, ap, subst, sym, ◌∙◌, arith, ◌++◌, length-drop}
use Rattle.sal_carriage.specs.Fragments.{AllFit}
use Rattle.sal_carriage.specs.Link as spec
use Rattle.sal_carriage.proofs.Cutting.{added, ended, front_fits, last_fits}
use Rattle.sal_carriage.proofs.link.fragments.Goals as goal

pub loop-rest-preserved : goal.loop-rest-preserved
loop-rest-preserved c =
    let rest = c.loop-rest.rest.now in
    let front = c.in_ok-from_slice.field-0 in
    let front_is = c.in_ok-from_slice.ensures ∙ c.split_at.ensures.front in
    let now = c.in_ok-push.ensures.ok in
    let inv = c.loop-rest.invariant in (
      ap (λ fs. fs ++ spec.fragments c.split_at.result.1.now) now
          ∙ added c.loop-rest.fragments (spec.fragments c.args.envelope.now) front rest c.split_at.result.1.now inv.0 c.loop-rest-test.true front_is c.split_at.ensures.back,
      subst AllFit (sym now) (front_fits c.loop-rest.fragments front rest inv.1 c.loop-rest-test.true front_is),
      omega (arith, ap length c.split_at.ensures.back, length-drop 1024 rest, c.loop-rest-test.true),
    )

pub returns : goal.returns
returns c =
    let rest = c.loop-rest.rest.now in
    let last = c.in_ok-from_slice-2.field-0 in
    let now = c.in_ok-push-2.ensures.ok in
    let inv = c.loop-rest.invariant in (
      now ∙ ended c.loop-rest.fragments (spec.fragments c.args.envelope.now) rest last inv.0 inv.2 (omega (arith, c.loop-rest-test.false)) c.in_ok-from_slice-2.ensures,
      subst AllFit (sym now) (last_fits c.loop-rest.fragments rest last inv.1 inv.2 (omega (arith, c.loop-rest-test.false)) c.in_ok-from_slice-2.ensures),
    )
