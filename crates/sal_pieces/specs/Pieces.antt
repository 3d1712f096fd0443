-- What a configuration is made of, wherever it lies: an actor with its book, a call, a reply that
-- is owed, a creation that waits,
-- and on their way the put of a creation's name and the decision on it.
use Rattle.std.specs.Prelude.{ℕ, Bool, true, false, not, ◌&&◌, if◌then◌else◌, nat_lt, List, [], ◌∷◌, ◌++◌, map, flat_map}
use Rattle.sal_value.specs.declared.name.Name.{Name}
use Rattle.sal_value.specs.declared.name.Uan.{Uan}
use Rattle.sal_mail.specs.declared.message.Message.{Message}
use Rattle.sal_mail.specs.declared.message.Join.{Join}
use Rattle.sal_mail.specs.declared.effects.Actor.{Actor}
use Rattle.sal_mail.specs.declared.effects.Creation.{Creation}
use Rattle.sal_mail.specs.Message.{without_delay}
use Rattle.sal_source.specs.Table.{TableKey, key_eq, total}
use Rattle.sal_source.specs.Keys.{creation_key}
use Rattle.sal_source.specs.Give.{DueReply}
use Rattle.sal_source.specs.Step.{bound_actor}
use Rattle.sal_book.specs.Book.{Book}
use Rattle.sal_book.specs.declared.released.Released.{Released}

pub data Piece : Type 0 where
  Body : Actor × ℕ → Book → Piece
  LooseCall : Message → Piece
  OwedReply : DueReply → Piece
  WaitingCreation : Name × Creation → Piece
  Put : TableKey → Uan → Piece
  Decision : TableKey → Bool → Piece

-- what is loose has no delay: it waits where it is, or it is over
abbrev pub loose_call : Message → Piece
loose_call m = LooseCall (without_delay m)

-- the pieces of what was released, messages before replies
abbrev pub released_pieces : Released → List Piece
released_pieces x = map loose_call x.messages ++ map OwedReply x.replies

-- ---- what they are to a configuration

pub data Thing : Type 0 where
  ActorThing : Actor × ℕ → Thing
  MessageThing : Message → Thing
  JoinThing : Name × Join → Thing
  CreationThing : Name × Creation → Thing
  ReplyThing : DueReply → Thing

-- a pending message has no delay
abbrev pub message_thing : Message → Thing
message_thing m = MessageThing (without_delay m)

-- 1 where the piece decides the creation with this key so, else 0
abbrev pub decides : TableKey → Bool → Piece → ℕ
decides key bound (Decision k b) = if key_eq key k && (if b then bound else not bound) then 1 else 0
decides key bound (Body a b) = 0
decides key bound (LooseCall m) = 0
decides key bound (OwedReply g) = 0
decides key bound (WaitingCreation x) = 0
decides key bound (Put k u) = 0

-- among these pieces there is an answer that decides it so
abbrev pub is_decided : TableKey → Bool → List Piece → Bool
is_decided key bound ps = nat_lt 0 (total (decides key bound) ps)

-- A creation that waits at its theatre is pending until its naming service answers. Once it is
-- bound there is the
-- actor, though it stands nowhere yet; once it is refused there is nothing.
abbrev pub creation_things : List Piece → Name × Creation → List Thing
creation_things ps x =
    if is_decided (creation_key x) true ps then ActorThing (bound_actor x.1, 0) ∷ []
    else if is_decided (creation_key x) false ps then []
    else CreationThing x ∷ []

abbrev pub book_things : Actor × ℕ → Book → List Thing
book_things a b = ActorThing a ∷
    (map message_thing b.messages ++ map (λ j. JoinThing (a.0.name, j)) b.joins)

-- a piece among these
abbrev pub piece_things : List Piece → Piece → List Thing
piece_things ps (Body a b) = book_things a b
piece_things ps (LooseCall m) = message_thing m ∷ []
piece_things ps (OwedReply g) = ReplyThing g ∷ []
piece_things ps (WaitingCreation x) = creation_things ps x
piece_things ps (Put k u) = []
piece_things ps (Decision k b) = []

unfoldable pub things : List Piece → List Thing
things ps = flat_map (piece_things ps) ps
