use Rattle.std.proofs.Common.{◌≡◌, drop}
use Rattle.sal_handler.specs.Messages as spec
use Rattle.sal_send.proofs.after.add_tokens.Given as goal

abbrev pub invariant-loop-name : goal.invariant-loop-name
invariant-loop-name l = spec.add_new l.serials (spec.token_serials (drop l.name-index l.names) l.state) ≡ spec.add_new l.fn.serials (spec.token_serials l.names l.state)
