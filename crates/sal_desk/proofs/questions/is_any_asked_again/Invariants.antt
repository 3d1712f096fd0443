use Rattle.std.proofs.Common.{◌≡◌}
use Rattle.sal_desk.specs.code.Asking.{again_in}
use Rattle.sal_desk.proofs.questions.is_any_asked_again.Given as goal

abbrev pub invariant-loop-question : goal.invariant-loop-question
invariant-loop-question l = again_in l.now l.question-iterator ≡ again_in l.now l.initial.question-iterator
