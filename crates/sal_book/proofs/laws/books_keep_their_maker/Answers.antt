use Rattle.sal_book.proofs.Makers.{makers_stay}
use Rattle.sal_book.proofs.laws.books_keep_their_maker.Goals as goal

pub returns : goal.returns
returns c = makers_stay
