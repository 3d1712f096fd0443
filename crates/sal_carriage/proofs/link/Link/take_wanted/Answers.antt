use Rattle.std.proofs.Common.{◌≡◌, ap, ◌∙◌, rules, arith}
use Rattle.sal_carriage.specs.Link.{Link, acknowledge, take_wanted}
use Rattle.sal_carriage.proofs.Steps.{with_payload, payload_wanted, takes_part, takes_whole}
use Rattle.sal_carriage.proofs.Views.{frame_in, link_in}
use Rattle.sal_carriage.proofs.link.Link.take_wanted.Goals as goal

pub overflow_add-self : goal.overflow_add-self
overflow_add-self c =
    let f = frame_in c.frame.inside in
    let l = link_in c.self.inside in
    let m = link_in c.self-2.inside in
    let is : m ≡ with_payload f l c.push_slice.new.self = c.self-2.view_is ∙ c.acknowledge_and_owe.ensures in
    let same = payload_wanted f l m c.push_slice.new.self is in
    let before : l.wanted ≡ c.args.self.now.wanted = ap (λ (k : Link). k.wanted) c.self.view_is in
    omega (arith, same, before, c.requires)

pub returns-then-not-frame-clause-ok : goal.returns-then-not-frame-clause-ok
returns-then-not-frame-clause-ok c =
    let f = frame_in c.frame.inside in
    let l = link_in c.self.inside in
    let m = link_in c.self-2.inside in
    let p = c.push_slice.new.self in
    let is : m ≡ with_payload f l p = c.self-2.view_is ∙ c.acknowledge_and_owe.ensures in
    takes_part f l m p c.in_ok-push_slice.ensures.ok is (search rules)
    ∙ (λ i. take_wanted (c.frame.view_is i) (acknowledge (c.frame.view_is i).wanted (c.self.view_is i)))

pub returns-clause-ok : goal.returns-clause-ok
returns-clause-ok c =
    let f = frame_in c.frame.inside in
    let l = link_in c.self.inside in
    let m = link_in c.self-2.inside in
    let p = c.push_slice.new.self in
    let is : m ≡ with_payload f l p = c.self-2.view_is ∙ c.acknowledge_and_owe.ensures in
    takes_whole f l m p c.replace.result c.replace.new.dest c.in_ok-push_slice.ensures.ok is (search rules) c.replace.ensures.value (c.replace.ensures.after ∙ c.new.ensures)
    ∙ (λ i. take_wanted (c.frame.view_is i) (acknowledge (c.frame.view_is i).wanted (c.self.view_is i)))
