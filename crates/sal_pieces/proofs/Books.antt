-- Replies that enter books, whatever their values.
use Rattle.std.proofs.Common.{◌≡◌, ℕ, List, Bool, true, false, not, ◌++◌, ◌∷◌, refl, ap}
use Rattle.std.specs.Prelude.{if◌then◌else◌}
use Rattle.std.specs.List.{list_all}
use Rattle.sal_value.specs.Spelling.{is_legal}
use Rattle.sal_mail.specs.declared.message.Reply.TheVariants.{Tok, Place}
use Rattle.sal_value.specs.declared.value.Value.{Value}
use Rattle.sal_mail.specs.declared.effects.Actor.{Actor}
use Rattle.sal_book.specs.Book.{Book, is_open, book_after_legal, released_by_legal, book_after_reply, released_by_reply, none_released}
use Rattle.sal_pieces.specs.Pieces.{Piece, Body, OwedReply, things, released_pieces}
use Rattle.sal_pieces.specs.Image.{image_of}
use Rattle.sal_pieces.specs.Once.{StandOnce}
use Rattle.sal_pieces.specs.Entering.{RepliesKeepOnce, TokenRepliesEnterBooks, SlotRepliesEnterBooks}
use Rattle.sal_pieces.proofs.Entering.{legal_tokens, tokens_once}
use Rattle.sal_pieces.proofs.Placing.{legal_places, places_once}
use Rattle.sal_pieces.proofs.Passing.{passed_over, passed_once}

pub tokens_enter : TokenRepliesEnterBooks
tokens_enter a b n v rest bound w own stray once = at (is_legal v) refl
  where
    at : (c : Bool) → is_legal v ≡ c → image_of bound (things (OwedReply (Tok a.0.name n, v) ∷ Body a b ∷ rest)) w
        ≡ image_of bound (things (Body a (if c then book_after_legal (Tok a.0.name n) v b else b) ∷ released_pieces (if c then released_by_legal (Tok a.0.name n) v b else none_released) ++ rest)) w
    at true e = legal_tokens a b n v rest bound w e own stray once
    at false e = passed_over (Tok a.0.name n) v (Body a b ∷ rest) bound w (ap not e)

pub places_enter : SlotRepliesEnterBooks
places_enter a b n i v rest bound w every none once = at (is_legal v) refl
  where
    at : (c : Bool) → is_legal v ≡ c → image_of bound (things (OwedReply (Place a.0.name n i, v) ∷ Body a b ∷ rest)) w
        ≡ image_of bound (things (Body a (if c then book_after_legal (Place a.0.name n i) v b else b) ∷ released_pieces (if c then released_by_legal (Place a.0.name n i) v b else none_released) ++ rest)) w
    at true e = legal_places a b n i v rest bound w e every none once
    at false e = passed_over (Place a.0.name n i) v (Body a b ∷ rest) bound w (ap not e)

pub tokens_stand : (a : Actor × ℕ) (b : Book) (n : ℕ) (v : Value) (rest : List Piece) → StandOnce (things (OwedReply (Tok a.0.name n, v) ∷ Body a b ∷ rest))
    → StandOnce (things (Body a (book_after_reply (Tok a.0.name n) v b) ∷ released_pieces (released_by_reply (Tok a.0.name n) v b) ++ rest))
tokens_stand a b n v rest once = at (is_legal v)
  where
    at : (c : Bool) → StandOnce (things (Body a (if c then book_after_legal (Tok a.0.name n) v b else b) ∷ released_pieces (if c then released_by_legal (Tok a.0.name n) v b else none_released) ++ rest))
    at true = tokens_once a b n v rest once
    at false = passed_once (Tok a.0.name n, v) (Body a b ∷ rest) once

pub places_stand : (a : Actor × ℕ) (b : Book) (n i : ℕ) (v : Value) (rest : List Piece) → list_all is_open b.joins ≡ true → StandOnce (things (OwedReply (Place a.0.name n i, v) ∷ Body a b ∷ rest))
    → StandOnce (things (Body a (book_after_reply (Place a.0.name n i) v b) ∷ released_pieces (released_by_reply (Place a.0.name n i) v b) ++ rest))
places_stand a b n i v rest every once = at (is_legal v)
  where
    at : (c : Bool) → StandOnce (things (Body a (if c then book_after_legal (Place a.0.name n i) v b else b) ∷ released_pieces (if c then released_by_legal (Place a.0.name n i) v b else none_released) ++ rest))
    at true = places_once a b n i v rest every once
    at false = passed_once (Place a.0.name n i, v) (Body a b ∷ rest) once

pub keep_once : RepliesKeepOnce
keep_once = record { tokens = tokens_stand; slots = places_stand; others = passed_once }
