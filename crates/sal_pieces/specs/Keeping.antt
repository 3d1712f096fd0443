-- What holds of pieces is kept: nothing of an actor stands from its next number on, and pieces are
-- tidy.
use Rattle.std.specs.Prelude.{◌≡◌, ◌≢◌, ℕ, true, false, List, ◌∷◌, ◌++◌}
use Rattle.std.specs.List.{list_all}
use Rattle.sal_value.specs.declared.name.Name.{Name}
use Rattle.sal_value.specs.declared.name.Name.TheVariants as name
use Rattle.sal_value.specs.declared.name.Uan.{Uan}
use Rattle.sal_value.specs.declared.value.Value.{Value}
use Rattle.sal_value.specs.declared.value.Value.TheVariants.{Null}
use Rattle.sal_mail.specs.declared.message.Reply.TheVariants.{Tok, Place}
use Rattle.sal_mail.specs.declared.message.Message.{Message}
use Rattle.sal_mail.specs.declared.effects.Actor.{Actor}
use Rattle.sal_mail.specs.declared.effects.Creation.{Creation}
use Rattle.sal_source.specs.Table.{total}
use Rattle.sal_source.specs.Keys.{creation_key}
use Rattle.sal_source.specs.Give.{DueReply}
use Rattle.sal_source.specs.Posts.{post_message}
use Rattle.sal_book.specs.Book.{Book, is_open, book_after_reply, released_by_reply}
use Rattle.sal_pieces.specs.Pieces.{Piece, Body, OwedReply, WaitingCreation, Put, Decision, loose_call, released_pieces, things}
use Rattle.sal_pieces.specs.Order.{IsAlone}
use Rattle.sal_pieces.specs.Steps.{IsBelow, count_untidy}

-- A reply that enters its owner's book, or goes otherwise, leaves nothing of an actor from its next
-- number on.
pub record RepliesKeepBelow : Type 0 where
  pub tokens :
      (me : Name) (from : ℕ) (a : Actor × ℕ) (b : Book) (n : ℕ) (v : Value) (rest : List Piece)
      → IsBelow me from (things (OwedReply (Tok a.0.name n, v) ∷ Body a b ∷ rest))
      → IsBelow me from (things (Body a (book_after_reply (Tok a.0.name n) v b) ∷ released_pieces
      (released_by_reply (Tok a.0.name n) v b) ++ rest))
  pub slots :
      (me : Name) (from : ℕ) (a : Actor × ℕ) (b : Book) (n i : ℕ) (v : Value) (rest : List Piece)
      → list_all is_open b.joins ≡ true
      → IsBelow me from (things (OwedReply (Place a.0.name n i, v) ∷ Body a b ∷ rest))
      → IsBelow me from (things (Body a
      (book_after_reply (Place a.0.name n i) v b) ∷ released_pieces
      (released_by_reply (Place a.0.name n i) v b) ++ rest))
  pub others : (me : Name) (from : ℕ) (g : DueReply) (rest : List Piece)
      → IsBelow me from (things (OwedReply g ∷ rest)) → IsBelow me from (things rest)

-- It leaves tidy pieces.
pub record RepliesKeepTidy : Type 0 where
  pub tokens :
      (a : Actor × ℕ) (b : Book) (n : ℕ) (v : Value) (rest : List Piece)
      → total count_untidy (Body a b ∷ rest) ≡ 0
      → total count_untidy (Body a (book_after_reply (Tok a.0.name n) v b) ∷ released_pieces
      (released_by_reply (Tok a.0.name n) v b) ++ rest) ≡ 0
  pub slots :
      (a : Actor × ℕ) (b : Book) (n i : ℕ) (v : Value) (rest : List Piece)
      → total count_untidy (Body a b ∷ rest) ≡ 0
      → total count_untidy (Body a (book_after_reply (Place a.0.name n i) v b) ∷ released_pieces
      (released_by_reply (Place a.0.name n i) v b) ++ rest) ≡ 0

-- So do prints, calls that go, posts by others, and decisions.
pub record StepsKeepBelow : Type 0 where
  pub prints : (me : Name) (from : ℕ) (m : Message) (rest : List Piece)
      → IsBelow me from (things (loose_call m ∷ rest))
      → IsBelow me from (things (OwedReply (m.reply, Null) ∷ rest))
  pub failures : (me : Name) (from : ℕ) (m : Message) (rest : List Piece)
      → IsBelow me from (things (loose_call m ∷ rest)) → IsBelow me from (things rest)
  pub posts :
      (me : Name) (from number : ℕ) (to : Uan) (behavior handler : ℕ) (args : List Value)
      (rest : List Piece) → me ≢ name.Outside number → IsBelow me from (things rest)
      → IsBelow me from (things (loose_call (post_message number to behavior handler args) ∷ rest))
  pub bindings :
      (me : Name) (from : ℕ) (x : Name × Creation) (u : Uan) (rest : List Piece)
      → IsAlone (creation_key x) rest
      → IsBelow me from (things (WaitingCreation x ∷ Put (creation_key x) u ∷ rest))
      → IsBelow me from (things (WaitingCreation x ∷ Decision (creation_key x) true ∷ rest))
  pub refusals :
      (me : Name) (from : ℕ) (x : Name × Creation) (u : Uan) (rest : List Piece)
      → IsAlone (creation_key x) rest
      → IsBelow me from (things (WaitingCreation x ∷ Put (creation_key x) u ∷ rest))
      → IsBelow me from (things (WaitingCreation x ∷ Decision (creation_key x) false ∷ rest))
