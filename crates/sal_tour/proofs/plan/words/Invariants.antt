use Rattle.std.proofs.Common.{◌≡◌, take}
use Rattle.sal_tour.specs.Plans.{words_of}
use Rattle.sal_tour.proofs.plan.words.Given as goal

abbrev pub invariant-loop-theatre : goal.invariant-loop-theatre
invariant-loop-theatre l = l.words ≡ words_of (take l.theatre-index l.theatres)
