use Rattle.sal_source.proofs.Never.{resolve_once}
use Rattle.sal_source.proofs.law.joins_resolve_once.Goals as goal

pub returns : goal.returns
returns c = resolve_once
