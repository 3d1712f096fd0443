use Rattle.sal_tidy.proofs.Keeping.{of_the_book}
use Rattle.sal_tidy.proofs.law.tidiness_is_of_the_book.Goals as goal

pub returns : goal.returns
returns c = of_the_book
