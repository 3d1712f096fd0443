use Rattle.salsa.proofs.InputFiles.{program_on_file}
use Rattle.salsa.proofs.inputs.program_file.Goals as goal

pub returns-clause-read : goal.returns-clause-read
returns-clause-read g c =
    program_on_file (g.F.Files.state c.args.files.now) (g.F.Files.state c.read_file.new.files) c.args.name.now c.in_ok-bytes.bytes c.as_slice.result.now c.judge_program.result
    c.in_ok-bytes.ensures.bytes c.as_slice.ensures c.judge_program.ensures
