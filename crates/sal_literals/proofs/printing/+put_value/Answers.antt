use Rattle.sal_literals.proofs.Appending.{items_begin}
use Rattle.sal_literals.proofs.printing.+put_value.Goals as goal

pub loop-item-init : goal.loop-item-init
loop-item-init t c =
    items_begin c.args.out.now c.push_str-in-Array.new.self c.args.value.now c.in-Array.items c.as_slice-item-items.result.now c.in-Array.is c.as_slice-item-items.ensures c.in_ok-push_str-in-Array.ensures.ok
