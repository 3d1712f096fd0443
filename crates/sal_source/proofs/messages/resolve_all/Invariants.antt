use Rattle.std.proofs.Common.{◌≡◌, map}
use Rattle.sal_source.specs.Give.{resolve}
use Rattle.sal_source.proofs.messages.resolve_all.Given as goal

abbrev pub invariant-loop-message : goal.invariant-loop-message
invariant-loop-message l = l.all ≡ map (resolve l.maker l.number l.value) l.yielded
