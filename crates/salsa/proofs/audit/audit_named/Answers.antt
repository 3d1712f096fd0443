use Rattle.salsa.specs.Inputs.{file_names}
use Rattle.salsa.specs.Outside.{outside}
use Rattle.salsa.proofs.Auditing.{answered}
use Rattle.salsa.proofs.audit.audit_named.Goals as goal

pub returns-clause-cause : goal.returns-clause-cause
returns-clause-cause g c =
    answered c.answer.result (file_names c.args.program.now c.args.plan.now c.args.document.now)
    (outside (g.F.Files.state c.args.files.now) (g.O.Sink.state c.args.out.now) (g.E.Sink.state c.args.err.now))
    (outside (g.F.Files.state c.audit_files-audited.new.files) (g.O.Sink.state c.answer.new.out) (g.E.Sink.state c.answer.new.err))
    c.audit_files-audited.result c.audit_files-audited.ensures.audited c.answer.ensures
