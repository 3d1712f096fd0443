use Rattle.std.proofs.Common.{◌≡◌, ◌++◌, drop}
use Rattle.std.specs.List.{flat_map}
use Rattle.sal_envelope.specs.Spelling.{call_spelling}
use Rattle.sal_resident.proofs.writing.put_each_call.Given as goal

abbrev pub invariant-loop-call : goal.invariant-loop-call
invariant-loop-call l = l.out ++ flat_map call_spelling (drop l.call-index l.calls) ≡ l.fn.out ++ flat_map call_spelling l.fn.calls
