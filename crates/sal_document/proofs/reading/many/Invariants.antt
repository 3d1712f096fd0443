use Rattle.std.proofs.Common.{◌≡◌, ◌-◌}
use Rattle.sal_document.specs.code.Reading.{many_at}
use Rattle.sal_document.specs.code.Reads.{IsNear}
use Rattle.sal_document.proofs.Places.{before}
use Rattle.sal_document.proofs.reading.many.Given as goal

abbrev pub invariant-loop : goal.invariant-loop
invariant-loop g l = record {
  told : before l.items (many_at (g.T.Line.told l.program) (l.count - l.counter) (l.rest.line, l.rest.bytes.now)) ≡ many_at (g.T.Line.told l.program) l.count (l.place.line, l.place.bytes.now);
  near : IsNear (l.rest.line, l.rest.bytes.now);
}
