-- A reply that enters its owner's book changes no configuration: what it releases is loose then,
-- and was ready before.
use Rattle.std.specs.Prelude.{◌≡◌, ℕ, Bool, true, false, ◌&&◌, ◌||◌, not, if◌then◌else◌, List, ◌∷◌, ◌++◌, map}
use Rattle.std.specs.List.{list_all}
use Rattle.sal_value.specs.declared.name.Name.{Name}
use Rattle.sal_value.specs.declared.value.Value.{Value}
use Rattle.sal_value.specs.Spelling.{is_legal}
use Rattle.sal_mail.specs.declared.message.Reply.{Reply}
use Rattle.sal_mail.specs.declared.message.Reply.TheVariants.{Nobody, Tok, Place, Outside}
use Rattle.sal_mail.specs.declared.message.Message.{Message}
use Rattle.sal_mail.specs.declared.effects.Actor.{Actor}
use Rattle.sal_mail.specs.Message.{is_ready}
use Rattle.sal_source.specs.Table.{TableKey, key_eq, total}
use Rattle.sal_source.specs.Keys.{name_key}
use Rattle.sal_source.specs.Give.{DueReply}
use Rattle.sal_book.specs.Book.{Book, is_open, book_after_reply, released_by_reply}
use Rattle.sal_pieces.specs.Pieces.{Piece, Body, OwedReply, Thing, ActorThing, MessageThing, JoinThing, CreationThing, ReplyThing, released_pieces, things}
use Rattle.sal_pieces.specs.Image.{History, image_of}
use Rattle.sal_pieces.specs.Once.{StandOnce}

-- the maker's own message
abbrev pub is_own : Name → Message → Bool
is_own owner m = key_eq (name_key owner) (name_key m.maker)

-- 1 where it is a message of the owner that waits for something, else 0
abbrev pub count_strays : Name → Thing → ℕ
count_strays owner (MessageThing m) = if is_own owner m && not (is_ready m) then 1 else 0
count_strays owner (ActorThing a) = 0
count_strays owner (JoinThing j) = 0
count_strays owner (CreationThing x) = 0
count_strays owner (ReplyThing g) = 0

-- A token's reply, where the book has its actor's own messages, and nothing else of the actor waits
-- anywhere. The value
-- may be any.
abbrev pub TokenRepliesEnterBooks : Type 0
TokenRepliesEnterBooks =
    (a : Actor × ℕ) (b : Book) (n : ℕ) (v : Value) (rest : List Piece) (bound : List TableKey)
    (w : History)
    → list_all (is_own a.0.name) b.messages ≡ true → total (count_strays a.0.name) (things rest) ≡ 0
    → StandOnce (things (OwedReply (Tok a.0.name n, v) ∷ Body a b ∷ rest))
    → image_of bound (things (OwedReply (Tok a.0.name n, v) ∷ Body a b ∷ rest)) w
    ≡ image_of bound (things (Body a (book_after_reply (Tok a.0.name n) v b) ∷ released_pieces
    (released_by_reply (Tok a.0.name n) v b) ++ rest)) w

-- ---- places of joins

-- 1 where it is a join of the owner, else 0
abbrev pub count_joins : Name → Thing → ℕ
count_joins owner (JoinThing j) = if key_eq (name_key owner) (name_key j.0) then 1 else 0
count_joins owner (ActorThing a) = 0
count_joins owner (MessageThing m) = 0
count_joins owner (CreationThing x) = 0
count_joins owner (ReplyThing g) = 0

-- A place's reply, where the book's joins are open, and no join of the actor is anywhere else.
abbrev pub SlotRepliesEnterBooks : Type 0
SlotRepliesEnterBooks =
    (a : Actor × ℕ) (b : Book) (n i : ℕ) (v : Value) (rest : List Piece) (bound : List TableKey)
    (w : History)
    → list_all is_open b.joins ≡ true → total (count_joins a.0.name) (things rest) ≡ 0
    → StandOnce (things (OwedReply (Place a.0.name n i, v) ∷ Body a b ∷ rest))
    → image_of bound (things (OwedReply (Place a.0.name n i, v) ∷ Body a b ∷ rest)) w
    ≡ image_of bound (things (Body a (book_after_reply (Place a.0.name n i) v b) ∷ released_pieces
    (released_by_reply (Place a.0.name n i) v b) ++ rest)) w

-- ---- replies that nobody inside waits for

abbrev pub is_for_nobody_inside : Reply → Bool
is_for_nobody_inside Nobody = true
is_for_nobody_inside (Outside number) = true
is_for_nobody_inside (Tok owner number) = false
is_for_nobody_inside (Place owner join at) = false

-- Giving passes over a reply to nobody, one to the outside, which routing tells, and one whose
-- value isn't legal.
abbrev pub OuterRepliesChangeNothing : Type 0
OuterRepliesChangeNothing =
    (r : Reply) (v : Value) (rest : List Piece) (bound : List TableKey) (w : History)
    → is_for_nobody_inside r || not (is_legal v) ≡ true
    → image_of bound (things (OwedReply (r, v) ∷ rest)) w ≡ image_of bound (things rest) w

-- ---- each thing once

-- Where each thing stands once, it does so after a reply entered its owner's book, and after a
-- reply that went otherwise.
pub record RepliesKeepOnce : Type 0 where
  pub tokens :
      (a : Actor × ℕ) (b : Book) (n : ℕ) (v : Value) (rest : List Piece)
      → StandOnce (things (OwedReply (Tok a.0.name n, v) ∷ Body a b ∷ rest))
      → StandOnce (things (Body a (book_after_reply (Tok a.0.name n) v b) ∷ released_pieces
      (released_by_reply (Tok a.0.name n) v b) ++ rest))
  pub slots :
      (a : Actor × ℕ) (b : Book) (n i : ℕ) (v : Value) (rest : List Piece)
      → list_all is_open b.joins ≡ true
      → StandOnce (things (OwedReply (Place a.0.name n i, v) ∷ Body a b ∷ rest))
      → StandOnce (things (Body a (book_after_reply (Place a.0.name n i) v b) ∷ released_pieces
      (released_by_reply (Place a.0.name n i) v b) ++ rest))
  pub others : (g : DueReply) (rest : List Piece) → StandOnce (things (OwedReply g ∷ rest))
      → StandOnce (things rest)
