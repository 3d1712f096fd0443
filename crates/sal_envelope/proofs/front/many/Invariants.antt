use Rattle.std.proofs.Common.{◌≡◌, ◌-◌}
use Rattle.sal_envelope.specs.Decoding.{many_at}
use Rattle.sal_envelope.proofs.Fronts.{after_values}
use Rattle.sal_envelope.proofs.front.many.Given as goal

abbrev pub invariant-loop : goal.invariant-loop
invariant-loop l = after_values l.values (many_at (l.count - l.counter) l.rest) ≡ many_at l.fn.count l.fn.bytes
