use Rattle.std.proofs.Common.{◌≡◌, ◌+◌, ◌^◌, ◌<◌, [], ◌∷◌, List, length, sym, ap, subst, ◌∙◌}
use Rattle.std.proofs.lemmas.Map.Iter.{rest_all}
use Rattle.std.specs.Map.Iter.{deref_pair}
use Rattle.sal_value.specs.declared.name.Name.{Name}
use Rattle.sal_value.specs.Order.{key}
use Rattle.sal_value.specs.Table.{table_by}
use Rattle.sal_queues.specs.Queues.{Queues, queue_of, filled, with_room}
use Rattle.sal_queues.proofs.Rooms.{IsRoomButFor, filled-with_room, room_step, room_for}
use Rattle.sal_queues.proofs.queues.Queues.make_room.Goals as goal

pub loop-name-preserved : goal.loop-name-preserved
loop-name-preserved g c =
    let X = g.row.T.Denot in
    let k = key c.in-Some.name.now in
    let t = c.loop-name.self in
    let all = c.into_iter-name-iterator.result in
    let room : c.make_room_at.new.self ≡ with_room k t = c.in_ok-make_room_at.ensures.room in
    let fits : length (queue_of k t) + length c.in-Some.list.now < 2 ^ 63 =
    subst (λ n. length (queue_of k t) + n < 2 ^ 63) c.len.ensures.value c.in_ok-make_room_at.ensures.fits in
    let had : IsRoomButFor ((c.in-Some.name.now, c.in-Some.list.now) ∷ c.next.new.self) all t =
    subst (λ (es : List (Name × List X)). IsRoomButFor es all t) c.in-Some.ensures.steps c.loop-name.invariant.1 in (
      ap filled room ∙ filled-with_room t k ∙ c.loop-name.invariant.0,
      subst (λ (u : Queues X). IsRoomButFor c.next.new.self all u) (sym room) (room_step (c.in-Some.name.now, c.in-Some.list.now) c.next.new.self all t had fits),
    )

pub returns-clause-room : goal.returns-clause-room
returns-clause-room g c =
    let X = g.row.T.Denot in
    let all = c.into_iter-name-iterator.result in
    let none : c.loop-name.name-iterator ≡ [] = rest_all deref_pair c.loop-name.name-iterator c.next.new.self c.next.result c.in-None.is c.next.ensures.steps in
    room_for all c.loop-name.self c.args.more.now
    (subst (λ (es : List (Name × List X)). IsRoomButFor es all c.loop-name.self) none c.loop-name.invariant.1)
    (ap (table_by key) c.into_iter-name-iterator.ensures.into_iter_gives ∙ c.iter-name-items.ensures.table)
