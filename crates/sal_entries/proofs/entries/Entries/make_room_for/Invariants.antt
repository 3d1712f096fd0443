use Rattle.std.proofs.Common.{◌≡◌}
use Rattle.sal_entries.specs.Entries.{values, HasRoomFor, word_entries}
use Rattle.sal_entries.proofs.Laws.{HasRoomBut}
use Rattle.sal_entries.proofs.entries.Entries.make_room_for.Given as goal

abbrev pub invariant-loop-key : goal.invariant-loop-key
invariant-loop-key g l =
    HasRoomBut (word_entries g.K.Keyed.words l.key-iterator) l.more l.self × HasRoomFor l.fn.self l.self × (values l.self ≡ values l.fn.self)
