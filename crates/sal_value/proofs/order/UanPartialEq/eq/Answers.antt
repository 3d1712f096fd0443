use Rattle.sal_value.proofs.Keys.{same_uan_test}
use Rattle.sal_value.proofs.order.UanPartialEq.eq.Goals as goal

pub returns : goal.returns
returns c = same_uan_test c.args.self.now c.args.other.now c.is.result c.is.ensures
