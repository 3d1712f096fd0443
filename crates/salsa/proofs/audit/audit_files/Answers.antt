use Rattle.salsa.specs.Inputs.{file_names}
use Rattle.salsa.proofs.Auditing.{audited}
use Rattle.salsa.proofs.audit.audit_files.Goals as goal

pub returns-in-Ok-clause-audited : goal.returns-in-Ok-clause-audited
returns-in-Ok-clause-audited g c =
    audited (file_names c.args.program.now c.args.plan.now c.args.document.now) (g.F.Files.state c.args.files.now) (g.F.Files.state c.read_inputs.new.files) c.in-Ok.inputs c.judge_inputs.result
    c.in-Ok.ensures.read c.judge_inputs.ensures
