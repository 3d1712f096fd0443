use Rattle.sal_unseen.proofs.Parts.{migrations_unseen}
use Rattle.sal_unseen.proofs.law.migrations_are_unseen.Goals as goal

pub returns : goal.returns
returns c = migrations_unseen
