use Rattle.sal_pieces.proofs.Order.{forget_where}
use Rattle.sal_pieces.proofs.law.images_forget_order.Goals as goal

pub returns : goal.returns
returns c = forget_where
