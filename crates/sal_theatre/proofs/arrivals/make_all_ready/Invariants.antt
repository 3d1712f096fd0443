use Rattle.std.proofs.Common.{◌≡◌, ◌++◌}
use Rattle.sal_desk.specs.code.Desks.{on_desk, on_theatre}
use Rattle.sal_theatre.proofs.arrivals.make_all_ready.Given as goal

abbrev pub invariant-loop-message : goal.invariant-loop-message
invariant-loop-message l = l.desk ≡ on_desk (on_theatre (λ t. record t { ready = t.ready ++ l.yielded })) l.fn.desk
