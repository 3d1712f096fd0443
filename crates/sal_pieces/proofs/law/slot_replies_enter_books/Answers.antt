use Rattle.sal_pieces.proofs.Books.{places_enter}
use Rattle.sal_pieces.proofs.law.slot_replies_enter_books.Goals as goal

pub returns : goal.returns
returns c = places_enter
