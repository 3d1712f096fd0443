use Rattle.std.proofs.Common.{List, ℕ, subst}
use Rattle.salsa.specs.Outside.{Grew}
use Rattle.salsa.specs.Top.{Puts}
use Rattle.salsa.proofs.Telling.{both_put}
use Rattle.salsa.proofs.top.tell.Goals as goal

pub returns-in-Ok : goal.returns-in-Ok
returns-in-Ok g c =
    both_put c.args.told.now.status c.args.told.now.output c.args.told.now.errors c.put-in-Ok.result (g.O.Sink.state c.args.out.now) (g.E.Sink.state c.args.err.now) (g.O.Sink.state c.put.new.self) (g.E.Sink.state c.put-in-Ok.new.sink) c.requires
    (subst (λ (b : List ℕ). Grew (g.O.Sink.state c.args.out.now).taken (g.O.Sink.state c.put.new.self).taken b) c.as_slice.ensures c.in-Ok.ensures.ok)
    (subst (λ (b : List ℕ). Puts c.args.told.now.status b c.put-in-Ok.result (g.E.Sink.state c.args.err.now) (g.E.Sink.state c.put-in-Ok.new.sink)) c.as_slice-in-Ok.ensures c.put-in-Ok.ensures)
