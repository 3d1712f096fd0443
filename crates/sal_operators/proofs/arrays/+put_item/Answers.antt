use Rattle.std.proofs.Common.{arith}
use Rattle.std.proofs.lemmas.Grind.{common_steps}
use Rattle.sal_operators.proofs.Placing.{put_at}
use Rattle.sal_operators.proofs.arrays.+put_item.Goals as goal

pub returns-in_ok-put_item-in-len1-up : goal.returns-in_ok-put_item-in-len1-up
returns-in_ok-put_item-in-len1-up t c = grind (arith, common_steps, put_at)
