use Rattle.std.proofs.Common.{◌≡◌, drop}
use Rattle.sal_handler.specs.Messages as spec
use Rattle.sal_send.proofs.after.add_waitfor.Given as goal

abbrev pub invariant-loop-property : goal.invariant-loop-property
invariant-loop-property l = spec.add_new l.serials (spec.waitfor_serials (drop l.property-index l.properties) l.state) ≡ spec.add_new l.fn.serials (spec.waitfor_serials l.properties l.state)
