use Rattle.std.proofs.Common.{◌≡◌, map}
use Rattle.sal_routing.specs.Routing.{call_made}
use Rattle.sal_desk.proofs.messages.reached_calls.Given as goal

abbrev pub invariant-loop-message : goal.invariant-loop-message
invariant-loop-message l = l.calls.items ≡ map (λ x. call_made x.1) l.yielded
