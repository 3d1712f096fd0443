use Rattle.std.proofs.Common.{◌≡◌, drop}
use Rattle.std.specs.List.{list_any}
use Rattle.sal_source.specs.code.Possible.{is_possible}
use Rattle.sal_source.proofs.waiting.some_possible.Given as goal

abbrev pub invariant-loop-message : goal.invariant-loop-message
invariant-loop-message l = list_any (is_possible l.actors) l.messages ≡ list_any (is_possible l.actors) (drop l.message-index l.messages)
