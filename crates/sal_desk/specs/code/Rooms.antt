-- Room for the changes of a draft.
use Rattle.std.specs.Prelude.{◌≡◌, ◌+◌, ◌≤◌, ◌++◌, Bool, true, false, List, length}
use Rattle.std.specs.Vec.{vec_len, vec_capacity}
use Rattle.std.specs.VecDeque.{deque_len, deque_capacity}
use Rattle.sal_entries.specs.Entries as entries
use Rattle.sal_queues.specs.Queues as queues
use Rattle.sal_carriage.specs.Link.{Link}
use Rattle.sal_desk.specs.declared.draft.Draft.{Draft}
use Rattle.sal_desk.specs.declared.lists.Lists.{Lists}
use Rattle.sal_desk.specs.code.Drafts.{without_taken, without_calls, without_reached, without_held, OffersIf}

-- the changes need no more memory
pub record HasRoom (d : Draft) (l : Lists) : Type 0 where
  pub ready : deque_len l.ready + length d.ready ≤ deque_capacity l.ready
  pub delayed : vec_len l.delayed + length d.delayed ≤ vec_capacity l.delayed
  pub held : queues.HasRoomFor l.held d.held
  pub residents : entries.HasRoomFor d.residents l.residents
  pub pending : entries.HasRoomFor d.pending l.pending
  pub places : entries.HasRoomFor d.places l.places
  pub questions : entries.HasRoomFor d.questions l.questions

-- the same is seen of these lists
pub record LooksSame (old new : Lists) : Type 0 where
  pub residents : entries.values new.residents ≡ entries.values old.residents
  pub ready : new.ready.items ≡ old.ready.items
  pub delayed : new.delayed.items ≡ old.delayed.items
  pub held : queues.filled new.held ≡ queues.filled old.held
  pub pending : entries.values new.pending ≡ entries.values old.pending
  pub places : entries.values new.places ≡ entries.values old.places
  pub questions : entries.values new.questions ≡ entries.values old.questions

-- the changes of the draft are made in these lists
pub record AreChanged (d : Draft) (old new : Lists) : Type 0 where
  pub residents : entries.values new.residents ≡ entries.overlaid d.residents (entries.values old.residents)
  pub ready : new.ready.items ≡ without_calls d.left (without_taken d.taken old.ready.items) ++ d.ready
  pub delayed : new.delayed.items ≡ without_reached d.reached old.delayed.items ++ d.delayed
  pub held : queues.filled new.held ≡ queues.joined d.held (without_held d.released (queues.filled old.held))
  pub pending : entries.values new.pending ≡ entries.overlaid d.pending (entries.values old.pending)
  pub places : entries.values new.places ≡ entries.overlaid d.places (entries.values old.places)
  pub questions : entries.values new.questions ≡ entries.overlaid d.questions (entries.values old.questions)

-- There is room and all is offered, or a link is spent and nothing is.
abbrev pub IsPrepared : Bool → Draft → Lists → List Link → List Link → Type 0
IsPrepared true d lists old new = HasRoom d lists × OffersIf true d.sent old new
IsPrepared false d lists old new = OffersIf false d.sent old new
