use Rattle.std.proofs.Common.{sym, ap, subst, ◌∙◌, refl}
use Rattle.sal_entries.specs.Entries.{with_room, word_entries}
use Rattle.sal_entries.proofs.Laws.{HasRoomBut, room-start, room-turn, room-end, room-itself}
use Rattle.sal_entries.proofs.entries.Entries.make_room_for.Goals as goal

pub loop-key-init : goal.loop-key-init
loop-key-init g c = (
  subst (λ es. HasRoomBut es c.args.more.now c.args.self.now) (sym (ap (word_entries g.K.Keyed.words) c.into_iter-key-iterator.ensures.into_iter_gives ∙ c.iter-key-items.ensures.in_order)) (room-start c.args.more.now c.args.self.now),
  room-itself c.args.self.now,
  refl,
)

pub loop-key-preserved : goal.loop-key-preserved
loop-key-preserved g c =
    room-turn (g.K.Keyed.words c.in-Some.key.now, c.in-Some.field-0-1.now) (word_entries g.K.Keyed.words c.next.new.self) c.args.more.now c.args.self.now c.loop-key.self c.make_room.new.self
    (c.in_ok-make_room.ensures.ok ∙ ap (λ n. with_room (g.K.Keyed.words n) c.loop-key.self) c.in_ok-copy_in.ensures)
    (subst (λ l. HasRoomBut (word_entries g.K.Keyed.words l) c.args.more.now c.loop-key.self) c.in-Some.ensures.steps c.loop-key.invariant.0)
    c.loop-key.invariant.1 c.loop-key.invariant.2

pub returns-clause-ok : goal.returns-clause-ok
returns-clause-ok g c =
    room-end c.args.more.now c.loop-key.self (subst (λ l. HasRoomBut (word_entries g.K.Keyed.words l) c.args.more.now c.loop-key.self) c.in-None.ensures.steps.0 c.loop-key.invariant.0)
