use Rattle.std.proofs.Common.{◌≡◌, length}
use Rattle.sal_schedule.specs.Events.{each, legal_value_of}
use Rattle.sal_schedule.specs.code.Words.{rest_words}
use Rattle.sal_schedule.proofs.Each.{after}
use Rattle.sal_schedule.proofs.post.legal_values.Given as goal

abbrev pub invariant-loop-word : goal.invariant-loop-word
invariant-loop-word l = after l.values (each legal_value_of (rest_words l.rest)) ≡ each legal_value_of (rest_words l.words)

abbrev pub decreases-loop-word : goal.decreases-loop-word
decreases-loop-word l = length (rest_words l.rest)
