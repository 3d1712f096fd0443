-- To each address at most one reply is owed.
use Rattle.std.specs.Prelude.{◌≡◌, List, [], Some}
use Rattle.sal_ast.specs.declared.program.Program.{Program}
use Rattle.sal_source.specs.declared.state.Setup.{Setup}
use Rattle.sal_source.specs.declared.state.Step.{Step}
use Rattle.sal_source.specs.Configuration.{Configuration}
use Rattle.sal_source.specs.Laws.{IsOwedOnce}
use Rattle.sal_source.specs.Run.{play}

-- In every configuration that a run of a program comes to each address but `Nobody` is owed at most one reply by the
-- pending messages and open joins, where no reply is due.
abbrev pub RunsOweOnce : Type 0
RunsOweOnce = (p : Program) (setup : Setup) (ss : List Step) (c : Configuration) → play p setup ss ≡ Some c → IsOwedOnce [] c.waiting
