use Rattle.sal_book.proofs.Legal.{releases_legal}
use Rattle.sal_book.proofs.laws.releases_are_legal.Goals as goal

pub returns : goal.returns
returns c = releases_legal
