use Rattle.sal_audit.proofs.Compared.{compared}
use Rattle.sal_audit.proofs.verdict.audit_steps.Goals as goal

pub returns-in-Ok : goal.returns-in-Ok
returns-in-Ok c =
    compared c.args.program.now c.args.plan.now c.args.replay.now c.in_ok-setup.setup c.as_slice.result.now c.in-Ok.config c.compare.result
    c.in_ok-setup.ensures c.as_slice.ensures c.in-Ok.ensures c.compare.ensures
