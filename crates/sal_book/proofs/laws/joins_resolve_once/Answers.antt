use Rattle.sal_book.proofs.Resolving.{resolve_once}
use Rattle.sal_book.proofs.laws.joins_resolve_once.Goals as goal

pub returns : goal.returns
returns c = resolve_once
