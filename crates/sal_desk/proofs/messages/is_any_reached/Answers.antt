use Rattle.std.proofs.Common.{◌∙◌}
use Rattle.sal_routing.specs.Turns.{is_reached}
use Rattle.sal_desk.proofs.Moments.{any_by_moment}
use Rattle.sal_desk.proofs.messages.is_any_reached.Goals as goal

pub returns : goal.returns
returns c = c.any_is_reached.ensures ∙ any_by_moment (is_reached c.args.now) c.args.delayed.now
