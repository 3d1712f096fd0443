use Rattle.sal_value.proofs.Keys.{same_test}
use Rattle.sal_value.proofs.order.NamePartialEq.eq.Goals as goal

pub returns : goal.returns
returns c = same_test c.args.self.now c.args.other.now c.is.result c.is.ensures
