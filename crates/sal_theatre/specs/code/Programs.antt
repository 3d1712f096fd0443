-- What runs handlers stands for a program.
use Rattle.sal_ast.specs.declared.program.Program.{Program}
use Rattle.sal_handler.specs.Calls.{Meaning}
use Rattle.sal_source.specs.Runners.{StandsFor}

pub record IsRunner (m : Meaning) : Type 0 where
  pub program : Program
  pub stands : StandsFor m program
