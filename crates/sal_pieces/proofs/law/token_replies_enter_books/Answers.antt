use Rattle.sal_pieces.proofs.Books.{tokens_enter}
use Rattle.sal_pieces.proofs.law.token_replies_enter_books.Goals as goal

pub returns : goal.returns
returns c = tokens_enter
