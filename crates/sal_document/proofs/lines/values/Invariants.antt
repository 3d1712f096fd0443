use Rattle.std.proofs.Common.{◌≡◌, length}
use Rattle.sal_literals.specs.Reading.{value_of}
use Rattle.sal_schedule.specs.code.Words.{rest_words}
use Rattle.sal_document.specs.code.Reading.{each_of}
use Rattle.sal_document.proofs.Each.{after}
use Rattle.sal_document.proofs.lines.values.Given as goal

abbrev pub invariant-words : goal.invariant-words
invariant-words l = after l.values (each_of value_of (rest_words l.rest)) ≡ each_of value_of (rest_words l.fn.rest)

abbrev pub decreases-words : goal.decreases-words
decreases-words l = length (rest_words l.rest)
