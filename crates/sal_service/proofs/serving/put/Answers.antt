use Rattle.std.proofs.Common.{◌∙◌}
use Rattle.sal_service.proofs.Places.{bound_is}
use Rattle.sal_service.proofs.serving.put.Goals as goal

pub decide-requires-clause-decided : goal.decide-requires-clause-decided
decide-requires-clause-decided c = c.is_new-bound.ensures ∙ bound_is c.args.name c.args.place c.args.register.now
