use Rattle.sal_book.proofs.Resolving.{resolve_all}
use Rattle.sal_book.proofs.laws.joins_resolve.Goals as goal

pub returns : goal.returns
returns c = resolve_all
