use Rattle.sal_literals.specs.code.Reads.{is_either}
use Rattle.sal_literals.proofs.Cutting.{IsBefore}
use Rattle.sal_literals.proofs.words.length_before.Given as goal

abbrev pub invariant-loop-at : goal.invariant-loop-at
invariant-loop-at l = IsBefore (is_either l.first l.second) l.bytes l.at
