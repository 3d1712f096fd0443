use Rattle.std.proofs.Common.{◌≡◌, subst, rules, arith}
use Rattle.std.specs.Prelude.{IfOk}
use Rattle.sal_carriage.specs.declared.datagram.Taken.{Taken}
use Rattle.sal_carriage.specs.Link.{Link}
use Rattle.sal_carriage.proofs.Steps.{takes_old, takes_ahead, takes_wanted, wanted_fails}
use Rattle.sal_carriage.proofs.link.Link.take_accepted.Goals as goal

pub returns-then-frame-self-clause-ok : goal.returns-then-frame-self-clause-ok
returns-then-frame-self-clause-ok c = takes_old c.args.frame.now c.args.self.now c.acknowledge_and_owe.new.self (search rules) (search rules) (search rules)

pub returns-then-frame-self-2-clause-ok : goal.returns-then-frame-self-2-clause-ok
returns-then-frame-self-2-clause-ok c =
    takes_ahead c.args.frame.now c.args.self.now c.acknowledge_and_owe-then-frame-self-2.new.self (search rules) (search rules) (search rules)

pub returns-clause-ok : goal.returns-clause-ok
returns-clause-ok c =
    subst (λ (x : Taken × Link). IfOk c.take_wanted.result (λ t. (t, c.take_wanted.new.self) ≡ x))
    (takes_wanted c.args.frame.now c.args.self.now (search rules) (search (rules, arith))) c.take_wanted.ensures.ok

pub returns-clause-err : goal.returns-clause-err
returns-clause-err c = wanted_fails (c.take_wanted.new.self ≡ c.args.self.now) c.take_wanted.result c.args.frame.now c.args.self.now (search rules) (search (rules, arith)) c.take_wanted.ensures.err
