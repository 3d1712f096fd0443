use Rattle.std.proofs.Common.{◌≡◌, ◌++◌, drop}
use Rattle.std.specs.List.{flat_map}
use Rattle.sal_resident.specs.Packing.{message_spelling}
use Rattle.sal_resident.proofs.writing.put_each_message.Given as goal

abbrev pub invariant-loop-message : goal.invariant-loop-message
invariant-loop-message l = l.out ++ flat_map message_spelling (drop l.message-index l.messages) ≡ l.fn.out ++ flat_map message_spelling l.fn.messages
