use Rattle.std.proofs.Common.{◌≡◌, true, subst, rules}
use Rattle.std.specs.Prelude.{IfOk, OnErr}
use Rattle.sal_carriage.specs.declared.datagram.Taken.{Taken}
use Rattle.sal_carriage.specs.Link.{Link, is_taken}
use Rattle.sal_carriage.proofs.Steps.{no_frame_taken, not_accepted, bytes_accepted}
use Rattle.sal_carriage.proofs.link.Link.take.Goals as goal

pub returns-in_default-clause-ok : goal.returns-in_default-clause-ok
returns-in_default-clause-ok c = no_frame_taken c.args.bytes.now c.args.self.now (search rules)

pub returns-then-not-accepts-clause-ok : goal.returns-then-not-accepts-clause-ok
returns-then-not-accepts-clause-ok c = not_accepted c.args.bytes.now c.in-Some.frame c.args.self.now (search rules) (search rules)

pub returns-clause-ok : goal.returns-clause-ok
returns-clause-ok c =
    subst (λ (x : Taken × Link). IfOk c.take_accepted.result (λ t. (t, c.take_accepted.new.self) ≡ x))
    (bytes_accepted c.args.bytes.now c.in-Some.frame c.args.self.now (search rules) (search rules)) c.take_accepted.ensures.ok

pub returns-clause-err : goal.returns-clause-err
returns-clause-err c =
    subst (λ (x : Taken × Link). OnErr c.take_accepted.result ((c.take_accepted.new.self ≡ c.args.self.now) × (is_taken x.0 ≡ true)))
    (bytes_accepted c.args.bytes.now c.in-Some.frame c.args.self.now (search rules) (search rules)) c.take_accepted.ensures.err
