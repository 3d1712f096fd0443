use Rattle.std.proofs.Common.{length}
use Rattle.sal_operators.proofs.arrays.+put_item.Given as goal

abbrev pub decreases-put_item : goal.decreases-put_item
decreases-put_item l = length l.indexes.now
