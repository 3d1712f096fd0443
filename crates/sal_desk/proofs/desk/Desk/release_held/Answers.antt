use Rattle.std.proofs.Common.{[], ◌∷◌, ◌++◌, ap, ◌∙◌}
use Rattle.sal_value.specs.declared.name.Name.{Name}
use Rattle.sal_source.specs.Keys.{name_key}
use Rattle.sal_queues.specs.Queues.{queue_of, filled}
use Rattle.sal_routing.specs.State.{Theatre}
use Rattle.sal_routing.specs.Routing.{release_held}
use Rattle.sal_desk.specs.declared.draft.Draft.{Draft}
use Rattle.sal_desk.specs.code.Desks.{on_desk}
use Rattle.sal_desk.specs.code.Drafts.{without_held}
use Rattle.sal_desk.proofs.Desks.{released}
use Rattle.sal_desk.proofs.desk.Desk.release_held.Goals as goal

pub returns : goal.returns
returns c =
    let d : Draft = c.self.inside.draft in
    let t : Theatre = c.self.inside.state.now in
    let n : Name = c.args.name.now in
    let e : Draft = record d { released = c.push.new.self; held = c.clear.new.self; work = c.add_work-2.new.work } in
    released t d n e c.in_ok-before.before c.in_ok-more.more c.self.invariant
    (c.in_ok-before.ensures ∙ ap (λ names. queue_of (name_key n) (without_held names (filled c.state.inside.lists.held))) c.as_slice.ensures ∙ ap (λ (u : Theatre). queue_of (name_key n) (without_held d.released u.held)) c.state.view_is)
    c.in_ok-more.ensures
    (c.in_ok-add_work-2.ensures ∙ ap (λ xs. xs ++ c.in_ok-more.more) c.in_ok-add_work.ensures)
    (c.in_ok-push.ensures.ok ∙ ap (λ m. d.released ++ m ∷ []) c.in_ok-clone_in.ensures)
    c.clear.ensures.lists
    ∙ ap (on_desk (release_held n)) c.self.view_is
