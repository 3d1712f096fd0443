use Rattle.sal_giving.proofs.Books.{giving}
use Rattle.sal_giving.proofs.law.giving_is_by_books.Goals as goal

pub returns : goal.returns
returns c = giving
