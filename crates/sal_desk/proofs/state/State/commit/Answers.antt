use Rattle.std.proofs.Common.{Some, None, sym, subst, ◌∙◌}
use Rattle.sal_routing.specs.State.{Theatre}
use Rattle.sal_desk.specs.contracts.state.State.{the_view}
use Rattle.sal_desk.specs.code.Drafts.{desk_with, CanFinish, Commits}
use Rattle.sal_desk.specs.code.Rooms.{IsPrepared}
use Rattle.sal_desk.proofs.Committing.{changed_from, committed, can_after, unchanged, spent}
use Rattle.sal_desk.proofs.state.State.commit.Goals as goal

pub finish-requires-clause-room : goal.finish-requires-clause-room
finish-requires-clause-room c =
    let done = subst (λ b. IsPrepared b c.args.draft c.prepare.new.lists c.self.inside.links c.prepare.new.links) c.in-Ok-true.field-0-test c.in-Ok-true.ensures.ok in done.0

pub finish-requires-clause-arrived : goal.finish-requires-clause-arrived
finish-requires-clause-arrived c =
    let d = c.args.draft in
    let t = the_view c.self.inside in
    let can = subst (λ (s : Theatre). CanFinish d.arrived s.links) (sym c.self.view_is) c.requires in
    let done = subst (λ b. IsPrepared b d c.prepare.new.lists t.links c.prepare.new.links) c.in-Ok-true.field-0-test c.in-Ok-true.ensures.ok in
    can_after d.sent d.arrived t.links c.prepare.new.links can done.1

pub invariant_of-self : goal.invariant_of-self
invariant_of-self c = c.self.invariant

pub invariant_of-self-in-Ok-false : goal.invariant_of-self-in-Ok-false
invariant_of-self-in-Ok-false c = c.self.invariant

pub invariant_of-self-in-Err : goal.invariant_of-self-in-Err
invariant_of-self-in-Err c = c.self.invariant

pub returns-in-Ok-true-clause-ok : goal.returns-in-Ok-true-clause-ok
returns-in-Ok-true-clause-ok c =
    let d = c.args.draft in
    let t = the_view c.self.inside in
    let new = the_view (record c.self.inside { lists = c.finish.new.lists; links = c.finish.new.links; clock = d.clock; next_anon = d.next_anon }) in
    let can = subst (λ (s : Theatre). CanFinish d.arrived s.links) (sym c.self.view_is) c.requires in
    let done = subst (λ b. IsPrepared b d c.prepare.new.lists t.links c.prepare.new.links) c.in-Ok-true.field-0-test c.in-Ok-true.ensures.ok in
    subst (λ s. Commits s (desk_with s d) (Some c.finish.result) new) c.self.view_is (
    committed t d c.prepare.new.links c.finish.result new can done.1 c.finish.ensures.told
    (changed_from t d c.self.inside.lists c.prepare.new.lists c.finish.new.lists c.finish.new.links _ c.prepare.ensures.same c.finish.ensures.lists c.finish.ensures.links))

pub returns-in-Ok-false-clause-ok : goal.returns-in-Ok-false-clause-ok
returns-in-Ok-false-clause-ok c =
    let d = c.args.draft in
    let t = the_view c.self.inside in
    let new = the_view (record c.self.inside { lists = c.prepare.new.lists; links = c.prepare.new.links }) in
    let can = subst (λ (s : Theatre). CanFinish d.arrived s.links) (sym c.self.view_is) c.requires in
    let none = subst (λ b. IsPrepared b d c.prepare.new.lists t.links c.prepare.new.links) c.in-Ok-false.field-0-test c.in-Ok-false.ensures.ok in
    subst (λ s. Commits s (desk_with s d) None new) c.self.view_is (
    spent t d new can none.0 (unchanged t c.self.inside.lists c.prepare.new.lists c.prepare.new.links c.prepare.ensures.same none.1))

pub returns-in-Err-clause-err : goal.returns-in-Err-clause-err
returns-in-Err-clause-err c =
    unchanged (the_view c.self.inside) c.self.inside.lists c.prepare.new.lists c.prepare.new.links c.prepare.ensures.same c.in-Err.ensures.err ∙ c.self.view_is
