-- Everything fits in every run of an accepted program.
use Rattle.sal_fitting.proofs.Running.{programs_keep}
use Rattle.sal_soundness.specs.Laws.{ConstructorsMakeFields, HandlersOfAcceptedKeepTypes, AcceptedBeginTyped, RunsOfAcceptedFit}
use Rattle.sal_soundness.proofs.Beginning.{begins_typed}
use Rattle.sal_soundness.proofs.Handling.{handlers_keep}
use Rattle.sal_soundness.proofs.Making.{makes_fields}

pub constructors_make : ConstructorsMakeFields
constructors_make p a = makes_fields p a

pub accepted_keep : HandlersOfAcceptedKeepTypes
accepted_keep p a = handlers_keep p a

pub accepted_begin : AcceptedBeginTyped
accepted_begin p a words w = begins_typed p a words w

pub accepted_fit : RunsOfAcceptedFit
accepted_fit p setup a w ss end is = programs_keep p setup (handlers_keep p a) (begins_typed p a setup.words w) ss end is
